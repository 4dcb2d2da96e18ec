-- The failures of an expression from those of its parts, and the sites between which they stand.
use Rattle.std.proofs.Common.{◌≡◌, ℕ, ◌+◌, ◌<◌, ◌≤◌, Bool, true, false, ◌&&◌, nat_eq, cond, List, [], ◌∷◌, ◌++◌, Option, Some, None, refl, sym, ap, ◌∙◌, subst, arith, flat_map}
use Rattle.std.proofs.lemmas.Bool.{and_parts, eqb-true}
use Rattle.std.proofs.lemmas.List.{append-nil}
use Rattle.std.proofs.lemmas.Grind.{flat_map-append}
use Rattle.xq_base.specs.Answers.{Answer, Value, Fault}
use Rattle.xq_base.specs.Texts.{Text}
use Rattle.doc_table.specs.Items.{Item}
use Rattle.doc_table.specs.Values.{Items}
use Rattle.doc_table.specs.NodeRules.{Docs}
use Rattle.core_meaning.specs.Expr.{Site, Rule, Expr, Exprs, Spine, Lit, Empty, Var, Seq, Let, For, If, Sorted, Call, no_more, one_more, Leaf, ForBind, LetBind, WhereBind}
use Rattle.core_meaning.specs.Rules.{rule_answer}
use Rattle.core_meaning.specs.Sorting.{sorted_answer}
use Rattle.core_meaning.specs.Meaning.{Env, with_var, in_loop, deeper, holds, val, vals, tuples}
use Rattle.core_meaning.specs.Reached.{Eval, evaluation, tuple_made, where_some, all_from, reached, reached_all, reached_in}
use Rattle.core_meaning.specs.Failures.{Failure, failure, faults_of, failures_of, fails}
use Rattle.core_meaning.specs.Lawful.{nodes, nodes_all, nodes_in, is_sited, sited_all, sited_in}
use Rattle.query_engine.proofs.Firsts.{Between, between-append, between-wider}

module _ (docs : Docs) where
  abbrev found : List Eval → List Failure
  found vs = flat_map (failures_of docs) vs

  found-append : (xs ys : List Eval) → found (xs ++ ys) ≡ found xs ++ found ys
  found-append xs ys = flat_map-append (failures_of docs) xs ys

  -- an evaluation at the end that has no rule of its own
  found-end : (xs : List Eval) (v : Eval) → failures_of docs v ≡ [] → found (xs ++ v ∷ []) ≡ found xs
  found-end xs v e = found-append xs (v ∷ []) ∙ ap (λ fs. found xs ++ (fs ++ [])) e ∙ append-nil (found xs)

  found-where : {A : Type 0} (o : Option A) (g : A → List Eval) → found (where_some o g) ≡ where_some o (λ a. found (g a))
  found-where None g = refl
  found-where (Some a) g = refl

  found-each : (g : ℕ → Item Text → List Eval) (k : ℕ) (is : Items) → found (all_from g k is) ≡ all_from (λ j i. found (g j i)) k is
  found-each g k [] = refl
  found-each g k (i ∷ is) = found-append (g k i) (all_from g (k + 1) is) ∙ ap (λ fs. found (g k i) ++ fs) (found-each g (k + 1) is)

  -- a part and what follows it
  found-bound : {A : Type 0} (xs : List Eval) (o : Option A) (g : A → List Eval) (v : Eval) → failures_of docs v ≡ [] → found (xs ++ where_some o g ++ v ∷ []) ≡ found xs ++ where_some o (λ a. found (g a))
  found-bound xs o g v e = found-end (xs ++ where_some o g) v e ∙ found-append xs (where_some o g) ∙ ap (λ fs. found xs ++ fs) (found-where o g)

  pub fails-seq : (a b : Expr) (env : Env) (vec : List ℕ) → fails docs (Seq a b) env vec ≡ fails docs a env vec ++ fails docs b env vec
  fails-seq a b env vec = found-end (reached docs a env vec ++ reached docs b env vec) (evaluation (Seq a b) env vec) refl ∙ found-append (reached docs a env vec) (reached docs b env vec)

  pub fails-let : (x : ℕ) (b e : Expr) (env : Env) (vec : List ℕ) → fails docs (Let x b e) env vec ≡ fails docs b env vec ++ where_some (val docs b env vec) (λ v. fails docs e (with_var env x v) vec)
  fails-let x b e env vec = found-bound (reached docs b env vec) (val docs b env vec) (λ v. reached docs e (with_var env x v) vec) (evaluation (Let x b e) env vec) refl

  -- the failures of a loop's turns
  abbrev pub turn_fails : ℕ → ℕ → Expr → Env → List ℕ → ℕ → Item Text → List Failure
  turn_fails x p e env vec k i = fails docs e (in_loop x p env k i) (deeper vec k)

  pub fails-for : (x p : ℕ) (s e : Expr) (env : Env) (vec : List ℕ) → fails docs (For x p s e) env vec ≡ fails docs s env vec ++ where_some (val docs s env vec) (all_from (turn_fails x p e env vec) 1)
  fails-for x p s e env vec =
      found-bound (reached docs s env vec) (val docs s env vec) (all_from (λ k i. reached docs e (in_loop x p env k i) (deeper vec k)) 1) (evaluation (For x p s e) env vec) refl
      ∙ ap (λ fs. fails docs s env vec ++ fs) (turns (val docs s env vec))
    where
      turns : (o : Option Items) → where_some o (λ v. found (all_from (λ k i. reached docs e (in_loop x p env k i) (deeper vec k)) 1 v)) ≡ where_some o (all_from (turn_fails x p e env vec) 1)
      turns None = refl
      turns (Some v) = found-each (λ k i. reached docs e (in_loop x p env k i) (deeper vec k)) 1 v

  -- the failure of a rule
  abbrev pub own_fails : Site → Rule → List ℕ → Option (List Items) → List Failure
  own_fails site r vec o = where_some o (λ vs. faults_of (rule_answer docs site vec r vs) (failure site vec))

  abbrev pub fails_all : Exprs → Env → List ℕ → List Failure
  fails_all es env vec = found (reached_all docs es env vec)

  pub fails-call : (site : Site) (r : Rule) (es : Exprs) (env : Env) (vec : List ℕ) → fails docs (Call site r es) env vec ≡ fails_all es env vec ++ own_fails site r vec (vals docs es env vec)
  fails-call site r es env vec = found-append (reached_all docs es env vec) (evaluation (Call site r es) env vec ∷ []) ∙ ap (λ fs. fails_all es env vec ++ fs) (append-nil (own_fails site r vec (vals docs es env vec)))

  pub fails_all-more : (e : Expr) (es : Exprs) (env : Env) (vec : List ℕ) → fails_all (one_more e es) env vec ≡ fails docs e env vec ++ fails_all es env vec
  fails_all-more e es env vec = found-append (reached docs e env vec) (reached_all docs es env vec)

  -- ---- between which sites they stand

  abbrev Within : ℕ → ℕ → List Eval → Type 0
  Within n m vs = Between n m (found vs)

  within-append : (n m : ℕ) (xs ys : List Eval) → Within n m xs → Within n m ys → Within n m (xs ++ ys)
  within-append n m xs ys p q = subst (Between n m) (sym (found-append xs ys)) (between-append n m (found xs) (found ys) p q)

  within-end : (n m : ℕ) (xs : List Eval) (v : Eval) → Within n m xs → Between n m (failures_of docs v) → Within n m (xs ++ v ∷ [])
  within-end n m xs v p q = within-append n m xs (v ∷ []) p (subst (Between n m) (sym (append-nil (failures_of docs v))) q)

  within-where : {A : Type 0} (n m : ℕ) (o : Option A) (g : A → List Eval) → ((a : A) → Within n m (g a)) → Within n m (where_some o g)
  within-where n m None g h = tt
  within-where n m (Some a) g h = h a

  within-each : (n m : ℕ) (g : ℕ → Item Text → List Eval) (k : ℕ) (is : Items) → ((j : ℕ) (i : Item Text) → Within n m (g j i)) → Within n m (all_from g k is)
  within-each n m g k [] h = tt
  within-each n m g k (i ∷ is) h = within-append n m (g k i) (all_from g (k + 1) is) (h k i) (within-each n m g (k + 1) is h)

  within-chosen : (n m : ℕ) (b : Bool) (xs ys : List Eval) → Within n m xs → Within n m ys → Within n m (cond b xs ys)
  within-chosen n m true xs ys p q = p
  within-chosen n m false xs ys p q = q

  wider : (n m i j : ℕ) (vs : List Eval) → i ≤ n → m ≤ j → Within n m vs → Within i j vs
  wider n m i j vs l k p = between-wider n m i j (found vs) l k p

  own-between : {A : Type 0} (n m : ℕ) (site : Site) (vec : List ℕ) (o : Option A) (ans : A → Answer Items) → n ≤ site.number → site.number < m → Between n m (where_some o (λ v. faults_of (ans v) (failure site vec)))
  own-between n m site vec None ans l k = tt
  own-between n m site vec (Some v) ans l k = of_answer (ans v)
    where
      of_answer : (a : Answer Items) → Between n m (faults_of a (failure site vec))
      of_answer (Value u) = tt
      of_answer (Fault d) = (l, k, tt)

  -- two parts, the second behind the first, and the evaluation of the whole
  two-within : (n k m : ℕ) (xs ys : List Eval) → Within n (n + k) xs → Within (n + k) (n + k + m) ys → Within n (n + (k + m)) (xs ++ ys)
  two-within n k m xs ys p q = within-append n (n + (k + m)) xs ys (wider n (n + k) n (n + (k + m)) xs (omega arith) (omega arith) p) (wider (n + k) (n + k + m) n (n + (k + m)) ys (omega arith) (omega arith) q)

  whole-within : (n k m : ℕ) (xs ys : List Eval) (v : Eval) → failures_of docs v ≡ [] → Within n (n + k) xs → Within (n + k) (n + k + m) ys → Within n (n + (k + m + 1)) (xs ++ ys ++ v ∷ [])
  whole-within n k m xs ys v e p q =
      within-end n (n + (k + m + 1)) (xs ++ ys) v (wider n (n + (k + m)) n (n + (k + m + 1)) (xs ++ ys) (omega arith) (omega arith) (two-within n k m xs ys p q)) (subst (Between n (n + (k + m + 1))) (sym e) tt)

  mutual
    pub within : (n : ℕ) (e : Expr) (env : Env) (vec : List ℕ) → is_sited n e ≡ true → Within n (n + nodes e) (reached docs e env vec)
    within n (Lit a) env vec h = tt
    within n Empty env vec h = tt
    within n (Var x) env vec h = tt
    within n (Seq a b) env vec h =
        let p = and_parts (is_sited n a) (is_sited (n + nodes a) b) h in
        whole-within n (nodes a) (nodes b) (reached docs a env vec) (reached docs b env vec) (evaluation (Seq a b) env vec) refl (within n a env vec p.0) (within (n + nodes a) b env vec p.1)
    within n (Let x b e) env vec h =
        let p = and_parts (is_sited n b) (is_sited (n + nodes b) e) h in
        whole-within n (nodes b) (nodes e) (reached docs b env vec) (where_some (val docs b env vec) (λ v. reached docs e (with_var env x v) vec)) (evaluation (Let x b e) env vec) refl (within n b env vec p.0)
        (within-where (n + nodes b) (n + nodes b + nodes e) (val docs b env vec) (λ v. reached docs e (with_var env x v) vec) (λ v. within (n + nodes b) e (with_var env x v) vec p.1))
    within n (For x p s e) env vec h =
        let q = and_parts (is_sited n s) (is_sited (n + nodes s) e) h in
        whole-within n (nodes s) (nodes e) (reached docs s env vec) (where_some (val docs s env vec) (all_from (λ k i. reached docs e (in_loop x p env k i) (deeper vec k)) 1)) (evaluation (For x p s e) env vec) refl (within n s env vec q.0)
        (within-where (n + nodes s) (n + nodes s + nodes e) (val docs s env vec) (all_from (λ k i. reached docs e (in_loop x p env k i) (deeper vec k)) 1)
        (λ v. within-each (n + nodes s) (n + nodes s + nodes e) (λ k i. reached docs e (in_loop x p env k i) (deeper vec k)) 1 v (λ k i. within (n + nodes s) e (in_loop x p env k i) (deeper vec k) q.1)))
    within n (If c a b) env vec h =
        let p = and_parts (is_sited n c && is_sited (n + nodes c) a) (is_sited (n + nodes c + nodes a) b) h in
        let q = and_parts (is_sited n c) (is_sited (n + nodes c) a) p.0 in
        let m = nodes a + nodes b in
        subst (λ j. Within n (n + j) (reached docs (If c a b) env vec)) (omega arith)
        (whole-within n (nodes c) m (reached docs c env vec) (where_some (val docs c env vec) (λ v. cond (holds v) (reached docs a env vec) (reached docs b env vec))) (evaluation (If c a b) env vec) refl (within n c env vec q.0)
        (within-where (n + nodes c) (n + nodes c + m) (val docs c env vec) (λ v. cond (holds v) (reached docs a env vec) (reached docs b env vec))
        (λ v. within-chosen (n + nodes c) (n + nodes c + m) (holds v) (reached docs a env vec) (reached docs b env vec)
        (wider (n + nodes c) (n + nodes c + nodes a) (n + nodes c) (n + nodes c + m) (reached docs a env vec) (omega arith) (omega arith) (within (n + nodes c) a env vec q.1))
        (wider (n + nodes c + nodes a) (n + nodes c + nodes a + nodes b) (n + nodes c) (n + nodes c + m) (reached docs b env vec) (omega arith) (omega arith) (within (n + nodes c + nodes a) b env vec p.1)))))
    within n (Sorted site os sp) env vec h =
        let p = and_parts (nat_eq site.number (n + nodes_in sp)) (sited_in n sp) h in
        let s = eqb-true site.number (n + nodes_in sp) p.0 in
        within-end n (n + (nodes_in sp + 1)) (reached_in docs sp env vec) (evaluation (Sorted site os sp) env vec)
        (wider n (n + nodes_in sp) n (n + (nodes_in sp + 1)) (reached_in docs sp env vec) (omega arith) (omega arith) (within_in n sp env vec p.1))
        (own-between n (n + (nodes_in sp + 1)) site vec (tuples docs sp env vec) (sorted_answer os) (omega (arith, s)) (omega (arith, s)))
    within n (Call site r es) env vec h =
        let p = and_parts (nat_eq site.number (n + nodes_all es)) (sited_all n es) h in
        let s = eqb-true site.number (n + nodes_all es) p.0 in
        within-end n (n + (nodes_all es + 1)) (reached_all docs es env vec) (evaluation (Call site r es) env vec)
        (wider n (n + nodes_all es) n (n + (nodes_all es + 1)) (reached_all docs es env vec) (omega arith) (omega arith) (within_all n es env vec p.1))
        (own-between n (n + (nodes_all es + 1)) site vec (vals docs es env vec) (rule_answer docs site vec r) (omega (arith, s)) (omega (arith, s)))

    pub within_all : (n : ℕ) (es : Exprs) (env : Env) (vec : List ℕ) → sited_all n es ≡ true → Within n (n + nodes_all es) (reached_all docs es env vec)
    within_all n no_more env vec h = tt
    within_all n (one_more e es) env vec h =
        let p = and_parts (is_sited n e) (sited_all (n + nodes e) es) h in
        two-within n (nodes e) (nodes_all es) (reached docs e env vec) (reached_all docs es env vec) (within n e env vec p.0) (within_all (n + nodes e) es env vec p.1)

    within_in : (n : ℕ) (sp : Spine) (env : Env) (vec : List ℕ) → sited_in n sp ≡ true → Within n (n + nodes_in sp) (reached_in docs sp env vec)
    within_in n (Leaf ks e) env vec h =
        let p = and_parts (sited_all n ks) (is_sited (n + nodes_all ks) e) h in
        two-within n (nodes_all ks) (nodes e) (reached_all docs ks env vec) (reached docs e env vec) (within_all n ks env vec p.0) (within (n + nodes_all ks) e env vec p.1)
    within_in n (ForBind x p s sp) env vec h =
        let q = and_parts (is_sited n s) (sited_in (n + nodes s) sp) h in
        two-within n (nodes s) (nodes_in sp) (reached docs s env vec) (where_some (val docs s env vec) (all_from (λ k i. tuple_made sp (in_loop x p env k i) (deeper vec k) ∷ reached_in docs sp (in_loop x p env k i) (deeper vec k)) 1)) (within n s env vec q.0)
        (within-where (n + nodes s) (n + nodes s + nodes_in sp) (val docs s env vec) (all_from (λ k i. tuple_made sp (in_loop x p env k i) (deeper vec k) ∷ reached_in docs sp (in_loop x p env k i) (deeper vec k)) 1)
        (λ v. within-each (n + nodes s) (n + nodes s + nodes_in sp) (λ k i. tuple_made sp (in_loop x p env k i) (deeper vec k) ∷ reached_in docs sp (in_loop x p env k i) (deeper vec k)) 1 v (λ k i. within_in (n + nodes s) sp (in_loop x p env k i) (deeper vec k) q.1)))
    within_in n (LetBind x b sp) env vec h =
        let p = and_parts (is_sited n b) (sited_in (n + nodes b) sp) h in
        two-within n (nodes b) (nodes_in sp) (reached docs b env vec) (where_some (val docs b env vec) (λ v. tuple_made sp (with_var env x v) vec ∷ reached_in docs sp (with_var env x v) vec)) (within n b env vec p.0)
        (within-where (n + nodes b) (n + nodes b + nodes_in sp) (val docs b env vec) (λ v. tuple_made sp (with_var env x v) vec ∷ reached_in docs sp (with_var env x v) vec) (λ v. within_in (n + nodes b) sp (with_var env x v) vec p.1))
    within_in n (WhereBind c sp) env vec h =
        let p = and_parts (is_sited n c) (sited_in (n + nodes c) sp) h in
        two-within n (nodes c) (nodes_in sp) (reached docs c env vec) (where_some (val docs c env vec) (λ v. cond (holds v) (tuple_made sp env vec ∷ reached_in docs sp env vec) [])) (within n c env vec p.0)
        (within-where (n + nodes c) (n + nodes c + nodes_in sp) (val docs c env vec) (λ v. cond (holds v) (tuple_made sp env vec ∷ reached_in docs sp env vec) [])
        (λ v. within-chosen (n + nodes c) (n + nodes c + nodes_in sp) (holds v) (tuple_made sp env vec ∷ reached_in docs sp env vec) [] (within_in (n + nodes c) sp env vec p.1) tt))
