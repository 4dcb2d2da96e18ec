-- The value and the first failure of each form, from those of its parts.
use Rattle.std.proofs.Common.{◌≡◌, ℕ, ◌+◌, Bool, true, false, List, [], ◌∷◌, ◌++◌, Option, Some, None, is_none, Result, Ok, Err, IfOk, IfErr, refl, sym, ap, ◌∙◌, subst, arith}
use Rattle.std.proofs.lemmas.List.{append-nil, map-append}
use Rattle.xq_base.specs.declared.item.Item.{Item as Held}
use Rattle.xq_base.specs.declared.code.Code.{Code}
use Rattle.xq_base.specs.declared.fun.Fun.{Fun}
use Rattle.xq_base.specs.Answers.{Answer, Value, Fault}
use Rattle.doc_table.specs.Items.{item_of}
use Rattle.doc_table.specs.Values.{Items}
use Rattle.doc_table.specs.Stores.{Holdings}
use Rattle.doc_table.specs.StoredItems.{trees_of, meanings}
use Rattle.doc_table.specs.Documents.{documents_in}
use Rattle.doc_table.specs.NodeRules.{Docs}
use Rattle.doc_table.specs.Functions.{fun_answer}
use Rattle.core_meaning.specs.Erasure.{Texts}
use Rattle.core_meaning.specs.Expr as e
use Rattle.core_meaning.specs.Expr.{Expr, Exprs, Site, Apply}
use Rattle.core_meaning.specs.PlainCore.{PlainCore, Seq, Let, For, Call, no_cores, one_core}
use Rattle.core_meaning.specs.ExprOf.{expr_from, site_at}
use Rattle.core_meaning.specs.Size.{nodes}
use Rattle.core_meaning.specs.Laws.{some_failure}
use Rattle.core_meaning.specs.Meaning.{Env, with_var, both, each_from, val, vals}
use Rattle.core_meaning.specs.Reached.{where_some, all_from}
use Rattle.core_meaning.specs.Failures.{Failure, failure, faults_of, fails, first}
use Rattle.core_meaning.proofs.Agreeing.{values_and_failures}
use Rattle.core_meaning.proofs.Sites.{same, sited}
use Rattle.query_engine.specs.declared.evaluate.Failed.{Failed}
use Rattle.query_engine.specs.declared.evaluate.EvalFault.{EvalFault}
use Rattle.query_engine.specs.declared.evaluate.EvalFault.TheVariants.{NoMemory, Reached}
use Rattle.query_engine.specs.declared.evaluate.Value.{Value as Found}
use Rattle.query_engine.specs.Evaluating.{AllFit, told, Values, Failures, FaultOf, IsValue, Gives, RuleGives, value_of, fails_of, turn_value, turn_fails}
use Rattle.query_engine.proofs.Firsts.{Between, ahead_first}
use Rattle.query_engine.proofs.FormFails.{fails-seq, fails-let, fails-for, fails-call, fails_all-more, own_fails, within}

-- ---- the first failure of two lists

told_same : (f : Failure) (g : Failed) (o : Option Failure) → told (Some f) ≡ Some g → o ≡ Some f → told o ≡ Some g
told_same f g o p q = ap told q ∙ p

pub told_ahead : (n m k : ℕ) (fs gs : List Failure) (f : Failed) → Between n m fs → Between m k gs → told (first fs) ≡ Some f → told (first (fs ++ gs)) ≡ Some f
told_ahead n m k fs gs f p q t = by (first fs) refl t
  where
    by : (o : Option Failure) → first fs ≡ o → told o ≡ Some f → told (first (fs ++ gs)) ≡ Some f
    by None e t = cc
    by (Some g) e t = told_same g f (first (fs ++ gs)) t (ahead_first n m k fs gs g p q e)

-- nothing fails before
pub quiet : (fs gs : List Failure) (o : Option Failed) → fs ≡ [] → told (first gs) ≡ o → told (first (fs ++ gs)) ≡ o
quiet fs gs o e t = ap (λ z. told (first (z ++ gs))) e ∙ t

-- nothing fails after
pub quiet_after : (fs gs : List Failure) (o : Option Failed) → gs ≡ [] → told (first fs) ≡ o → told (first (fs ++ gs)) ≡ o
quiet_after fs gs o e t = ap (λ z. told (first (fs ++ z))) e ∙ ap (λ z. told (first z)) (append-nil fs) ∙ t

none_fails : (fs : List Failure) → some_failure fs ≡ false → fs ≡ []
none_fails [] e = refl
none_fails (f ∷ fs) e = cc

some_fails : (fs : List Failure) (f : Failed) → told (first fs) ≡ Some f → some_failure fs ≡ true
some_fails [] f e = cc
some_fails (g ∷ fs) f e = refl

no_value : {A : Type 0} (o : Option A) → is_none o ≡ true → o ≡ None
no_value None e = refl
no_value (Some a) e = cc

module _ (docs : Docs) where
  -- where there is a value, nothing fails
  pub calm : (x : Expr) (env : Env) (vec : List ℕ) (v : Items) → val docs x env vec ≡ Some v → fails docs x env vec ≡ []
  calm x env vec v p = none_fails (fails docs x env vec) (sym (values_and_failures docs x env vec) ∙ ap is_none p)

  -- where something fails, there is no value
  pub failing : (x : Expr) (env : Env) (vec : List ℕ) (f : Failed) → told (first (fails docs x env vec)) ≡ Some f → val docs x env vec ≡ None
  failing x env vec f p = no_value (val docs x env vec) (values_and_failures docs x env vec ∙ some_fails (fails docs x env vec) f p)

  -- the sites of a Core
  between : (n : ℕ) (core : PlainCore) (env : Env) (vec : List ℕ) → Between n (n + nodes core) (fails docs (expr_from n core) env vec)
  between n core env vec = subst (λ m. Between n (n + m) (fails docs (expr_from n core) env vec)) (same n core) (within docs n (expr_from n core) env vec (sited n core))

  -- ---- a part, and what follows it where it has a value

  bound_failed : (a whole : Expr) (env : Env) (g : Items → List Failure) (vec : List ℕ) (f : Failed) → fails docs whole env vec ≡ fails docs a env vec ++ where_some (val docs a env vec) g → told (first (fails docs a env vec)) ≡ Some f → told (first (fails docs whole env vec)) ≡ Some f
  bound_failed a whole env g vec f e p =
      ap (λ z. told (first z)) e
      ∙ quiet_after (fails docs a env vec) (where_some (val docs a env vec) g) (Some f) (ap (λ o. where_some o g) (failing a env vec f p)) p

  bound_then : (a whole : Expr) (env : Env) (g : Items → List Failure) (vec : List ℕ) (v : Items) (f : Failed) → fails docs whole env vec ≡ fails docs a env vec ++ where_some (val docs a env vec) g → val docs a env vec ≡ Some v → told (first (g v)) ≡ Some f → told (first (fails docs whole env vec)) ≡ Some f
  bound_then a whole env g vec v f e p q =
      ap (λ z. told (first z)) e
      ∙ quiet (fails docs a env vec) (where_some (val docs a env vec) g) (Some f) (calm a env vec v p) (ap (λ o. told (first (where_some o g))) p ∙ q)

module _ (sums : Bool) (texts : Texts) (h : Holdings) where
  abbrev docs : Docs
  docs = documents_in texts h

  -- a value without parts
  pub plain : (n : ℕ) (values : Values) (failures : Failures) (items : List Held) (r : Result Found EvalFault) → IfOk r (λ v. (v.items.items ≡ items) × (v.next ≡ n)) → IfErr r (λ x. x ≡ NoMemory) → IsValue sums texts h values items → Gives sums texts h n values failures r
  plain n values failures items (Ok v) p q is = ((λ vec. is.0 vec ∙ ap (λ xs. Some (meanings texts h xs)) (sym p.0), subst (AllFit sums h) (sym p.0) is.1), p.1)
  plain n values failures items (Err x) p q is = subst (FaultOf failures) (sym q) tt

  -- a rule without a fault
  pub rule_plain : (n own o : ℕ) (answer : Answer Items) (items : List Held) (r : Result Found EvalFault) → own ≡ n → IfOk r (λ v. (v.items.items ≡ items) × (v.next ≡ own + 1)) → IfErr r (λ x. x ≡ NoMemory) → answer ≡ Value (meanings texts h items) → AllFit sums h items → RuleGives sums texts h n o answer r
  rule_plain n own o answer items (Ok v) e p q a fit = (a ∙ ap (λ xs. Value (meanings texts h xs)) (sym p.0), subst (AllFit sums h) (sym p.0) fit, p.1 ∙ ap (λ k. k + 1) e)
  rule_plain n own o answer items (Err NoMemory) e p q a fit = tt
  rule_plain n own o answer items (Err (Reached f)) e p q a fit = cc

  pub all_fit : (xs ys : List Held) → AllFit sums h xs → AllFit sums h ys → AllFit sums h (xs ++ ys)
  all_fit [] ys p q = q
  all_fit (x ∷ xs) ys p q = (p.0, all_fit xs ys p.1 q)

  pub meanings_append : (xs ys : List Held) → meanings texts h (xs ++ ys) ≡ meanings texts h xs ++ meanings texts h ys
  meanings_append xs ys = map-append (item_of texts (trees_of h)) xs ys

  -- ---- sequences

  pub seq_failed : (n : ℕ) (a b : PlainCore) (env : Env) (f : EvalFault) → FaultOf (fails_of sums texts h n a env) f → FaultOf (fails_of sums texts h n (Seq 0 a b) env) f
  seq_failed n a b env NoMemory p = tt
  seq_failed n a b env (Reached f) p = λ vec.
      ap (λ z. told (first z)) (fails-seq docs (expr_from n a) (expr_from (n + nodes a) b) env vec)
      ∙ told_ahead n (n + nodes a) (n + nodes a + nodes b) (fails docs (expr_from n a) env vec) (fails docs (expr_from (n + nodes a) b) env vec) f (between docs n a env vec) (between docs (n + nodes a) b env vec) (p vec)

  pub seq_then : (n m : ℕ) (a b : PlainCore) (env : Env) (items : List Held) (f : EvalFault) → IsValue sums texts h (value_of sums texts h n a env) items → m ≡ n + nodes a → FaultOf (fails_of sums texts h m b env) f → FaultOf (fails_of sums texts h n (Seq 0 a b) env) f
  seq_then n m a b env items NoMemory v e p = tt
  seq_then n m a b env items (Reached f) v e p = λ vec.
      ap (λ z. told (first z)) (fails-seq docs (expr_from n a) (expr_from (n + nodes a) b) env vec)
      ∙ quiet (fails docs (expr_from n a) env vec) (fails docs (expr_from (n + nodes a) b) env vec) (Some f) (calm docs (expr_from n a) env vec (meanings texts h items) (v.0 vec)) (subst (λ k. told (first (fails docs (expr_from k b) env vec)) ≡ Some f) e (p vec))

  pub seq_value : (n m : ℕ) (a b : PlainCore) (env : Env) (xs ys : List Held) → IsValue sums texts h (value_of sums texts h n a env) xs → m ≡ n + nodes a → IsValue sums texts h (value_of sums texts h m b env) ys → IsValue sums texts h (value_of sums texts h n (Seq 0 a b) env) (xs ++ ys)
  seq_value n m a b env xs ys u e v = (λ vec. value vec, all_fit xs ys u.1 v.1)
    where
      value : (vec : List ℕ) → both (val docs (expr_from n a) env vec) (val docs (expr_from (n + nodes a) b) env vec) ≡ Some (meanings texts h (xs ++ ys))
      value vec =
          ap (λ o. both o (val docs (expr_from (n + nodes a) b) env vec)) (u.0 vec)
          ∙ ap (both (Some (meanings texts h xs))) (subst (λ k. val docs (expr_from k b) env vec ≡ Some (meanings texts h ys)) e (v.0 vec))
          ∙ ap Some (sym (meanings_append xs ys))

  -- ---- bindings

  pub let_failed : (n x : ℕ) (a b : PlainCore) (env : Env) (f : EvalFault) → FaultOf (fails_of sums texts h n a env) f → FaultOf (fails_of sums texts h n (Let 0 x a b) env) f
  let_failed n x a b env NoMemory p = tt
  let_failed n x a b env (Reached f) p = λ vec.
      bound_failed docs (expr_from n a) (e.Let x (expr_from n a) (expr_from (n + nodes a) b)) env (λ v. fails docs (expr_from (n + nodes a) b) (with_var env x v) vec) vec f
      (fails-let docs x (expr_from n a) (expr_from (n + nodes a) b) env vec) (p vec)

  pub let_then : (n m x : ℕ) (a b : PlainCore) (env inner : Env) (items : List Held) (f : EvalFault) → IsValue sums texts h (value_of sums texts h n a env) items → m ≡ n + nodes a → inner ≡ with_var env x (meanings texts h items) → FaultOf (fails_of sums texts h m b inner) f → FaultOf (fails_of sums texts h n (Let 0 x a b) env) f
  let_then n m x a b env inner items NoMemory v i q p = tt
  let_then n m x a b env inner items (Reached f) v i q p = λ vec.
      bound_then docs (expr_from n a) (e.Let x (expr_from n a) (expr_from (n + nodes a) b)) env (λ v. fails docs (expr_from (n + nodes a) b) (with_var env x v) vec) vec (meanings texts h items) f
      (fails-let docs x (expr_from n a) (expr_from (n + nodes a) b) env vec) (v.0 vec) (subst (λ k. told (first (fails docs (expr_from k b) (with_var env x (meanings texts h items)) vec)) ≡ Some f) i (subst (λ z. told (first (fails docs (expr_from m b) z vec)) ≡ Some f) q (p vec)))

  pub let_value : (n m x : ℕ) (a b : PlainCore) (env inner : Env) (xs ys : List Held) → IsValue sums texts h (value_of sums texts h n a env) xs → m ≡ n + nodes a → inner ≡ with_var env x (meanings texts h xs) → IsValue sums texts h (value_of sums texts h m b inner) ys → IsValue sums texts h (value_of sums texts h n (Let 0 x a b) env) ys
  let_value n m x a b env inner xs ys u i q v = (λ vec. value vec, v.1)
    where
      value : (vec : List ℕ) → val docs (e.Let x (expr_from n a) (expr_from (n + nodes a) b)) env vec ≡ Some (meanings texts h ys)
      value vec = rw (u.0 vec) (subst (λ k. val docs (expr_from k b) (with_var env x (meanings texts h xs)) vec ≡ Some (meanings texts h ys)) i (subst (λ z. val docs (expr_from m b) z vec ≡ Some (meanings texts h ys)) q (v.0 vec)))

  -- ---- loops

  pub for_failed : (n x p : ℕ) (a b : PlainCore) (env : Env) (f : EvalFault) → FaultOf (fails_of sums texts h n a env) f → FaultOf (fails_of sums texts h n (For 0 x p a b) env) f
  for_failed n x p a b env NoMemory q = tt
  for_failed n x p a b env (Reached f) q = λ vec.
      bound_failed docs (expr_from n a) (e.For x p (expr_from n a) (expr_from (n + nodes a) b)) env (all_from (turn_fails sums texts h (n + nodes a) b x p env vec) 1) vec f
      (fails-for docs x p (expr_from n a) (expr_from (n + nodes a) b) env vec) (q vec)

  pub for_then : (n m x p : ℕ) (a b : PlainCore) (env : Env) (items : List Held) (f : EvalFault) → IsValue sums texts h (value_of sums texts h n a env) items → m ≡ n + nodes a → FaultOf (λ vec. all_from (turn_fails sums texts h m b x p env vec) 1 (meanings texts h items)) f → FaultOf (fails_of sums texts h n (For 0 x p a b) env) f
  for_then n m x p a b env items NoMemory v i q = tt
  for_then n m x p a b env items (Reached f) v i q = λ vec.
      bound_then docs (expr_from n a) (e.For x p (expr_from n a) (expr_from (n + nodes a) b)) env (all_from (turn_fails sums texts h (n + nodes a) b x p env vec) 1) vec (meanings texts h items) f
      (fails-for docs x p (expr_from n a) (expr_from (n + nodes a) b) env vec) (v.0 vec) (subst (λ k. told (first (all_from (turn_fails sums texts h k b x p env vec) 1 (meanings texts h items))) ≡ Some f) i (q vec))

  pub for_value : (n m x p : ℕ) (a b : PlainCore) (env : Env) (xs ys : List Held) → IsValue sums texts h (value_of sums texts h n a env) xs → m ≡ n + nodes a → IsValue sums texts h (λ vec. each_from (turn_value sums texts h m b x p env vec) 1 (meanings texts h xs)) ys → IsValue sums texts h (value_of sums texts h n (For 0 x p a b) env) ys
  for_value n m x p a b env xs ys u i v = (λ vec. value vec, v.1)
    where
      value : (vec : List ℕ) → val docs (e.For x p (expr_from n a) (expr_from (n + nodes a) b)) env vec ≡ Some (meanings texts h ys)
      value vec = rw (u.0 vec) (subst (λ k. each_from (turn_value sums texts h k b x p env vec) 1 (meanings texts h xs) ≡ Some (meanings texts h ys)) i (v.0 vec))

  -- ---- a function of two arguments

  abbrev pub two : ℕ → Fun → PlainCore → PlainCore → PlainCore
  two o g a b = Call o g (one_core a (one_core b no_cores))

  abbrev arguments : ℕ → PlainCore → PlainCore → Exprs
  arguments n a b = e.one_more (expr_from n a) (e.one_more (expr_from (n + nodes a) b) e.no_more)

  abbrev both_fail : ℕ → PlainCore → PlainCore → Env → List ℕ → List Failure
  both_fail n a b env vec = fails docs (expr_from n a) env vec ++ fails docs (expr_from (n + nodes a) b) env vec

  fails-two : (n o : ℕ) (g : Fun) (a b : PlainCore) (env : Env) (vec : List ℕ) → fails_of sums texts h n (two o g a b) env vec ≡ both_fail n a b env vec ++ own_fails docs (site_at (n + (nodes a + (nodes b + 0))) o) (Apply g) vec (vals docs (arguments n a b) env vec)
  fails-two n o g a b env vec =
      fails-call docs (site_at (n + (nodes a + (nodes b + 0))) o) (Apply g) (arguments n a b) env vec
      ∙ ap (λ fs. fs ++ own_fails docs (site_at (n + (nodes a + (nodes b + 0))) o) (Apply g) vec (vals docs (arguments n a b) env vec))
      (fails_all-more docs (expr_from n a) (e.one_more (expr_from (n + nodes a) b) e.no_more) env vec
      ∙ ap (λ fs. fails docs (expr_from n a) env vec ++ fs) (fails_all-more docs (expr_from (n + nodes a) b) e.no_more env vec ∙ append-nil (fails docs (expr_from (n + nodes a) b) env vec)))

  no_first : (n : ℕ) (a b : PlainCore) (env : Env) (vec : List ℕ) → val docs (expr_from n a) env vec ≡ None → vals docs (arguments n a b) env vec ≡ None
  no_first n a b env vec q = rw q refl

  no_second : (n : ℕ) (a b : PlainCore) (env : Env) (vec : List ℕ) (v : Items) → val docs (expr_from n a) env vec ≡ Some v → val docs (expr_from (n + nodes a) b) env vec ≡ None → vals docs (arguments n a b) env vec ≡ None
  no_second n a b env vec v p q = rw (p, q) refl

  both_there : (n : ℕ) (a b : PlainCore) (env : Env) (vec : List ℕ) (u v : Items) → val docs (expr_from n a) env vec ≡ Some u → val docs (expr_from (n + nodes a) b) env vec ≡ Some v → vals docs (arguments n a b) env vec ≡ Some (u ∷ v ∷ [])
  both_there n a b env vec u v p q = rw (p, q) refl

  pub two_failed : (n o : ℕ) (g : Fun) (a b : PlainCore) (env : Env) (f : EvalFault) → FaultOf (fails_of sums texts h n a env) f → FaultOf (fails_of sums texts h n (two o g a b) env) f
  two_failed n o g a b env NoMemory p = tt
  two_failed n o g a b env (Reached f) p = λ vec.
      ap (λ z. told (first z)) (fails-two n o g a b env vec)
      ∙ quiet_after (both_fail n a b env vec) (own_fails docs (site_at (n + (nodes a + (nodes b + 0))) o) (Apply g) vec (vals docs (arguments n a b) env vec)) (Some f)
      (ap (own_fails docs (site_at (n + (nodes a + (nodes b + 0))) o) (Apply g) vec) (no_first n a b env vec (failing docs (expr_from n a) env vec f (p vec))))
      (told_ahead n (n + nodes a) (n + nodes a + nodes b) (fails docs (expr_from n a) env vec) (fails docs (expr_from (n + nodes a) b) env vec) f (between docs n a env vec) (between docs (n + nodes a) b env vec) (p vec))

  pub two_then : (n m o : ℕ) (g : Fun) (a b : PlainCore) (env : Env) (items : List Held) (f : EvalFault) → IsValue sums texts h (value_of sums texts h n a env) items → m ≡ n + nodes a → FaultOf (fails_of sums texts h m b env) f → FaultOf (fails_of sums texts h n (two o g a b) env) f
  two_then n m o g a b env items NoMemory v i p = tt
  two_then n m o g a b env items (Reached f) v i p = λ vec.
      let q : told (first (fails docs (expr_from (n + nodes a) b) env vec)) ≡ Some f = subst (λ k. told (first (fails docs (expr_from k b) env vec)) ≡ Some f) i (p vec) in
      ap (λ z. told (first z)) (fails-two n o g a b env vec)
      ∙ quiet_after (both_fail n a b env vec) (own_fails docs (site_at (n + (nodes a + (nodes b + 0))) o) (Apply g) vec (vals docs (arguments n a b) env vec)) (Some f)
      (ap (own_fails docs (site_at (n + (nodes a + (nodes b + 0))) o) (Apply g) vec) (no_second n a b env vec (meanings texts h items) (v.0 vec) (failing docs (expr_from (n + nodes a) b) env vec f q)))
      (quiet (fails docs (expr_from n a) env vec) (fails docs (expr_from (n + nodes a) b) env vec) (Some f) (calm docs (expr_from n a) env vec (meanings texts h items) (v.0 vec)) q)

  own-two : (n m o : ℕ) (g : Fun) (a b : PlainCore) (env : Env) (vec : List ℕ) (xs ys : List Held) → IsValue sums texts h (value_of sums texts h n a env) xs → m ≡ n + nodes a → IsValue sums texts h (value_of sums texts h m b env) ys → fails_of sums texts h n (two o g a b) env vec ≡ faults_of (fun_answer docs g (meanings texts h xs ∷ meanings texts h ys ∷ [])) (failure (site_at (n + (nodes a + (nodes b + 0))) o) vec)
  own-two n m o g a b env vec xs ys u i v =
      let q : val docs (expr_from (n + nodes a) b) env vec ≡ Some (meanings texts h ys) = subst (λ k. val docs (expr_from k b) env vec ≡ Some (meanings texts h ys)) i (v.0 vec) in
      fails-two n o g a b env vec
      ∙ ap (λ fs. (fs ++ fails docs (expr_from (n + nodes a) b) env vec) ++ own_fails docs (site_at (n + (nodes a + (nodes b + 0))) o) (Apply g) vec (vals docs (arguments n a b) env vec)) (calm docs (expr_from n a) env vec (meanings texts h xs) (u.0 vec))
      ∙ ap (λ fs. fs ++ own_fails docs (site_at (n + (nodes a + (nodes b + 0))) o) (Apply g) vec (vals docs (arguments n a b) env vec)) (calm docs (expr_from (n + nodes a) b) env vec (meanings texts h ys) q)
      ∙ ap (own_fails docs (site_at (n + (nodes a + (nodes b + 0))) o) (Apply g) vec) (both_there n a b env vec (meanings texts h xs) (meanings texts h ys) (u.0 vec) q)

  pub two_own : (n m k o : ℕ) (g : Fun) (a b : PlainCore) (env : Env) (xs ys : List Held) (d : Code) → IsValue sums texts h (value_of sums texts h n a env) xs → m ≡ n + nodes a → IsValue sums texts h (value_of sums texts h m b env) ys → k ≡ m + nodes b → fun_answer docs g (meanings texts h xs ∷ meanings texts h ys ∷ []) ≡ Fault d → FaultOf (fails_of sums texts h n (two o g a b) env) (Reached (record { site = k; offset = o; code = d }))
  two_own n m k o g a b env xs ys d u i v j r = λ vec.
      let s : n + (nodes a + (nodes b + 0)) ≡ k = omega (arith, i, j) in
      ap (λ z. told (first z)) (own-two n m o g a b env vec xs ys u i v ∙ ap (λ z. faults_of z (failure (site_at (n + (nodes a + (nodes b + 0))) o) vec)) r)
      ∙ ap (λ z. Some (record { site = z; offset = o; code = d })) s

  pub two_value : (n m o : ℕ) (g : Fun) (a b : PlainCore) (env : Env) (xs ys zs : List Held) → IsValue sums texts h (value_of sums texts h n a env) xs → m ≡ n + nodes a → IsValue sums texts h (value_of sums texts h m b env) ys → fun_answer docs g (meanings texts h xs ∷ meanings texts h ys ∷ []) ≡ Value (meanings texts h zs) → AllFit sums h zs → IsValue sums texts h (value_of sums texts h n (two o g a b) env) zs
  two_value n m o g a b env xs ys zs u i v r fit = (λ vec. value vec, fit)
    where
      value : (vec : List ℕ) → val docs (e.Call (site_at (n + (nodes a + (nodes b + 0))) o) (Apply g) (arguments n a b)) env vec ≡ Some (meanings texts h zs)
      value vec =
          let q : val docs (expr_from (n + nodes a) b) env vec ≡ Some (meanings texts h ys) = subst (λ k. val docs (expr_from k b) env vec ≡ Some (meanings texts h ys)) i (v.0 vec) in
          rw (both_there n a b env vec (meanings texts h xs) (meanings texts h ys) (u.0 vec) q, r) refl
