-- Where nothing fails, each iteration has a value.
use Rattle.std.proofs.Common.{◌≡◌, ℕ, ◌+◌, Bool, true, false, cond, not, List, [], ◌∷◌, ◌++◌, map, refl, sym, ap, ◌∙◌, subst, Option, Some}
use Rattle.std.specs.List.{filter, flat_map}
use Rattle.xq_base.specs.declared.code.Code.{Code}
use Rattle.xq_base.specs.Answers.{Answer, Value, Fault as Refused}
use Rattle.xq_base.specs.Texts.{Text}
use Rattle.doc_table.specs.Items.{Item}
use Rattle.doc_table.specs.Values.{Items}
use Rattle.doc_table.specs.NodeRules.{Docs}
use Rattle.core_meaning.specs.Expr.{Expr, Exprs, Spine, Lit, Empty, Var, Seq, Let, For, If, Sorted, Call, no_more, one_more, Leaf, ForBind, LetBind, WhereBind}
use Rattle.core_meaning.specs.Rules.{rule_answer}
use Rattle.core_meaning.specs.Sorting.{Tuple, sorted_answer}
use Rattle.core_meaning.specs.Meaning.{Env, with_var, in_loop, deeper, and_then, both, each_from, value_in, holds, val, vals, tuples}
use Rattle.core_meaning.specs.Reached.{where_some}
use Rattle.core_meaning.specs.Failures.{Failure, failure, faults_of, own_failures}
use Rattle.lift_laws.specs.Sums.{AllOf}
use Rattle.lift_laws.specs.Iterations.{Iter, Turn, turn, turns, turns_of, given, all_turns, bodies, joined}
use Rattle.lift_laws.specs.Bulk.{list_of, value, chosen_in, other_in, chosen, other, with_value, iter_of, bound, inside, fault, faults, faults_all, faults_in}
use Rattle.lift_laws.proofs.Picks.{all_each, all_mono, all-flat}

abbrev pub Has : {A : Type 0} → Option A → Type 0
Has {A = A} o = (v : A) × (o ≡ Some v)

pub append_nil : {A : Type 0} (xs ys : List A) → xs ++ ys ≡ [] → (xs ≡ []) × (ys ≡ [])
append_nil [] ys e = (refl, e)
append_nil (x ∷ xs) ys e = cc

not_nil : {A : Type 0} (x : A) (xs : List A) → x ∷ xs ≡ [] → ⊥
not_nil x xs e = cc

map_nil : {A B : Type 0} (f : A → B) (xs : List A) → map f xs ≡ [] → xs ≡ []
map_nil f [] e = refl
map_nil f (x ∷ xs) e = cc

pub all_front : {A : Type 0} (P : A → Type 0) (xs ys : List A) → AllOf P (xs ++ ys) → AllOf P xs
all_front P [] ys a = tt
all_front P (x ∷ xs) ys a = (a.0, all_front P xs ys a.1)

pub all_behind : {A : Type 0} (P : A → Type 0) (xs ys : List A) → AllOf P (xs ++ ys) → AllOf P ys
all_behind P [] ys a = a
all_behind P (x ∷ xs) ys a = all_behind P xs ys a.1

pub all_flat_back : {A B : Type 0} (P : B → Type 0) (f : A → List B) (xs : List A) → AllOf P (flat_map f xs) → AllOf (λ x. AllOf P (f x)) xs
all_flat_back P f [] a = tt
all_flat_back P f (x ∷ xs) a = (all_front P (f x) (flat_map f xs) a, all_flat_back P f xs (all_behind P (f x) (flat_map f xs) a))

pub all_map_back : {A B : Type 0} (P : B → Type 0) (f : A → B) (xs : List A) → AllOf P (map f xs) → AllOf (λ x. P (f x)) xs
all_map_back P f [] a = tt
all_map_back P f (x ∷ xs) a = (a.0, all_map_back P f xs a.1)

keep_case : {A : Type 0} (P : A → Type 0) (p : A → Bool) (x : A) (xs : List A) (b : Bool) → p x ≡ b → (AllOf P (filter p xs) → AllOf (λ y. p y ≡ true → P y) xs) → AllOf P (cond b (x ∷ filter p xs) (filter p xs)) → (p x ≡ true → P x) × AllOf (λ y. p y ≡ true → P y) xs
keep_case P p x xs true e r h = ((λ t. h.0), r h.1)
keep_case P p x xs false e r h = ((λ t. cc), r h)

pub all_keep_back : {A : Type 0} (P : A → Type 0) (p : A → Bool) (xs : List A) → AllOf P (filter p xs) → AllOf (λ x. p x ≡ true → P x) xs
all_keep_back P p [] a = tt
all_keep_back P p (x ∷ xs) a = keep_case P p x xs (p x) refl (all_keep_back P p xs) a

pub all_two : {A : Type 0} (P Q R : A → Type 0) → ((x : A) → P x → Q x → R x) → (xs : List A) → AllOf P xs → AllOf Q xs → AllOf R xs
all_two P Q R h [] a b = tt
all_two P Q R h (x ∷ xs) a b = (h x a.0 b.0, all_two P Q R h xs a.1 b.1)

pub flat_nil : {A B : Type 0} (f : A → List B) (xs : List A) → flat_map f xs ≡ [] → AllOf (λ x. f x ≡ []) xs
flat_nil f [] e = tt
flat_nil f (x ∷ xs) e = let h = append_nil (f x) (flat_map f xs) e in (h.0, flat_nil f xs h.1)

-- the values of the turns give that of the loop
module _ {A : Type 0} where
  each_has : (f : ℕ → Item Text → Option (List A)) (i : Iter) (k : ℕ) (vs : Items) → AllOf (λ t. Has (f t.place t.item)) (turns_of i k vs) → Has (each_from f k vs)
  each_has f i k [] a = ([], refl)
  each_has f i k (v ∷ vs) a =
      let h = a.0 in
      let r = each_has f i (k + 1) vs a.1 in
      (h.0 ++ r.0, ap (λ o. both o (each_from f (k + 1) vs)) h.1 ∙ ap (λ o. both (Some h.0) o) r.1)

  pub each_value : (f : ℕ → Item Text → Option (List A)) (i : Iter) (k : ℕ) (vs : Items) → AllOf (λ t. Has (f t.place t.item)) (turns_of i k vs) → list_of (each_from f k vs) ≡ joined (bodies (λ j l v. list_of (f l v)) i k vs)
  each_value f i k [] a = refl
  each_value f i k (v ∷ vs) a =
      let h = a.0 in
      let r = each_has f i (k + 1) vs a.1 in
      ap (λ o. list_of (both o (each_from f (k + 1) vs))) h.1
      ∙ ap (λ o. list_of (both (Some h.0) o)) r.1
      ∙ ap (λ l. h.0 ++ l) (sym (ap list_of r.1) ∙ each_value f i (k + 1) vs a.1)
      ∙ ap (λ o. list_of o ++ joined (bodies (λ j l u. list_of (f l u)) i (k + 1) vs)) (sym h.1)

  -- a loop over a list that is there
  for_has : (x p : ℕ) (F : Env → List ℕ → Option (List A)) (o : Option Items) (i : Iter) → Has o → AllOf (λ t. Has (F (in_loop x p i.env t.place t.item) (deeper i.vector t.place))) (turns_of i 1 (list_of o)) → Has (and_then o (each_from (λ k v. F (in_loop x p i.env k v) (deeper i.vector k)) 1))
  for_has x p F o i h a =
      let a' = subst (λ vs. AllOf (λ t. Has (F (in_loop x p i.env t.place t.item) (deeper i.vector t.place))) (turns_of i 1 vs)) (ap list_of h.1) a in
      let r = each_has (λ k v. F (in_loop x p i.env k v) (deeper i.vector k)) i 1 h.0 a' in
      (r.0, ap (λ q. and_then q (each_from (λ k v. F (in_loop x p i.env k v) (deeper i.vector k)) 1)) h.1 ∙ r.1)

  pub for_list : (x p : ℕ) (F : Env → List ℕ → Option (List A)) (o : Option Items) (i : Iter) → Has o → AllOf (λ t. Has (F (in_loop x p i.env t.place t.item) (deeper i.vector t.place))) (turns_of i 1 (list_of o))
      → list_of (and_then o (each_from (λ k v. F (in_loop x p i.env k v) (deeper i.vector k)) 1)) ≡ joined (bodies (λ j k v. list_of (F (in_loop x p i.env k v) (deeper i.vector k))) i 1 (list_of o))
  for_list x p F o i h a =
      let a' = subst (λ vs. AllOf (λ t. Has (F (in_loop x p i.env t.place t.item) (deeper i.vector t.place))) (turns_of i 1 vs)) (ap list_of h.1) a in
      ap (λ q. list_of (and_then q (each_from (λ k v. F (in_loop x p i.env k v) (deeper i.vector k)) 1))) h.1
      ∙ each_value (λ k v. F (in_loop x p i.env k v) (deeper i.vector k)) i 1 h.0 a'
      ∙ ap (λ vs. joined (bodies (λ j k v. list_of (F (in_loop x p i.env k v) (deeper i.vector k))) i 1 vs)) (sym (ap list_of h.1))

  if_has : (o : Option Items) (a b : Option A) → Has o → (chosen_in o ≡ true → Has a) → (other_in o ≡ true → Has b) → Has (and_then o (λ v. cond (holds v) a b))
  if_has o a b h ha hb = go (holds h.0) refl
    where
      go : (t : Bool) → holds h.0 ≡ t → Has (and_then o (λ v. cond (holds v) a b))
      go true e = let r = ha (ap chosen_in h.1 ∙ e) in (r.0, ap (λ q. and_then q (λ v. cond (holds v) a b)) h.1 ∙ ap (λ t. cond t a b) e ∙ r.1)
      go false e = let r = hb (ap other_in h.1 ∙ ap not e) in (r.0, ap (λ q. and_then q (λ v. cond (holds v) a b)) h.1 ∙ ap (λ t. cond t a b) e ∙ r.1)

  -- a rule that gives no code
  rule_has : (o : Option A) (ans : A → Answer Items) (g : Code → Failure) → Has o → where_some o (λ v. faults_of (ans v) g) ≡ [] → Has (and_then o (λ v. value_in (ans v)))
  rule_has o ans g h e = go (ans h.0) refl
    where
      go : (x : Answer Items) → ans h.0 ≡ x → Has (and_then o (λ v. value_in (ans v)))
      go (Value v) q = (v, ap (λ z. and_then z (λ w. value_in (ans w))) h.1 ∙ ap value_in q)
      go (Refused d) q =
          absurd (not_nil (g d) [] (sym (ap (λ x. faults_of x g) q) ∙ sym (ap (λ z. where_some z (λ v. faults_of (ans v) g)) h.1) ∙ e))

given_back : (P : ℕ → Turn → Type 0) (Q : Turn → Type 0) → ((n : ℕ) (t : Turn) → P n t → Q t) → (n : ℕ) (ts : List Turn) → AllOf (λ t. P t.number (turn 0 t.outer t.place t.item)) (given n ts) → AllOf (λ t. Q (turn 0 t.outer t.place t.item)) ts
given_back P Q h n [] a = tt
given_back P Q h n (t ∷ ts) a = (h n _ a.0, given_back P Q h (n + 1) ts a.1)

-- what holds of all turns, whatever their numbers, holds of the turns of each iteration
pub turns_each : (Q : Iter → ℕ → Item Text → Type 0) (f : Iter → Items) (its : List Iter) → AllOf (λ t. Q t.outer t.place t.item) (turns f its) → AllOf (λ i. AllOf (λ t. Q t.outer t.place t.item) (turns_of i 1 (f i))) its
turns_each Q f its a = all_flat_back (λ t. Q t.outer t.place t.item) (λ i. turns_of i 1 (f i)) its (given_back (λ n t. Q t.outer t.place t.item) (λ t. Q t.outer t.place t.item) (λ n t h. h) 1 (all_turns f its) a)

-- what holds of every turn's body holds of the turns of each iteration
pub turns_back_of : {O : Type 0} (P : O → Type 0) (x p : ℕ) (F : Env → List ℕ → O) (f : Iter → Items) (its : List Iter) → AllOf (λ i. P (F i.env i.vector)) (map (iter_of x p) (turns f its)) → AllOf (λ i. AllOf (λ t. P (F (in_loop x p i.env t.place t.item) (deeper i.vector t.place))) (turns_of i 1 (f i))) its
turns_back_of P x p F f its a =
    let b = all_map_back (λ (i : Iter). P (F i.env i.vector)) (iter_of x p) (turns f its) a in
    let d = turns_each (λ i k v. P (F (in_loop x p i.env k v) (deeper i.vector k))) f its b in
    all_mono _ _ (λ i h. own i 1 (f i) h) its d
  where
    own : (i : Iter) (k : ℕ) (vs : Items) → AllOf (λ t. P (F (in_loop x p t.outer.env t.place t.item) (deeper t.outer.vector t.place))) (turns_of i k vs) → AllOf (λ t. P (F (in_loop x p i.env t.place t.item) (deeper i.vector t.place))) (turns_of i k vs)
    own i k [] h = tt
    own i k (v ∷ vs) h = (h.0, own i (k + 1) vs h.1)

-- what holds of each item holds of each turn's, and what holds of each iteration holds of each turn's outer one
item_turns : (K : Item Text → Type 0) (i : Iter) (k : ℕ) (vs : Items) → AllOf K vs → AllOf (λ t. K t.item) (turns_of i k vs)
item_turns K i k [] a = tt
item_turns K i k (v ∷ vs) a = (a.0, item_turns K i (k + 1) vs a.1)

given_items : (K : Item Text → Type 0) (n : ℕ) (ts : List Turn) → AllOf (λ t. K t.item) ts → AllOf (λ t. K t.item) (given n ts)
given_items K n [] a = tt
given_items K n (t ∷ ts) a = (a.0, given_items K (n + 1) ts a.1)

pub items_hold : (K : Item Text → Type 0) (f : Iter → Items) (its : List Iter) → AllOf (λ i. AllOf K (f i)) its → AllOf (λ t. K t.item) (turns f its)
items_hold K f its a = given_items K 1 (all_turns f its) (all-flat _ (λ i. turns_of i 1 (f i)) its (all_mono _ _ (λ i (h : AllOf K (f i)). item_turns K i 1 (f i) h) its a))

outer_turns : (P : Iter → Type 0) (i : Iter) (k : ℕ) (vs : Items) → P i → AllOf (λ t. P t.outer) (turns_of i k vs)
outer_turns P i k [] h = tt
outer_turns P i k (v ∷ vs) h = (h, outer_turns P i (k + 1) vs h)

pub given_outer : (P : Iter → Type 0) (n : ℕ) (ts : List Turn) → AllOf (λ t. P t.outer) ts → AllOf (λ t. P t.outer) (given n ts)
given_outer P n [] a = tt
given_outer P n (t ∷ ts) a = (a.0, given_outer P (n + 1) ts a.1)

pub outer_hold : (P : Iter → Type 0) (f : Iter → Items) (its : List Iter) → AllOf P its → AllOf (λ t. P t.outer) (turns f its)
outer_hold P f its a = given_outer P 1 (all_turns f its) (all-flat _ (λ i. turns_of i 1 (f i)) its (all_mono _ _ (λ i h. outer_turns P i 1 (f i) h) its a))

module _ (docs : Docs) where
  abbrev pub ValueAt : Expr → Iter → Type 0
  ValueAt e i = Has (val docs e i.env i.vector)

  abbrev pub ValuesAt : Exprs → Iter → Type 0
  ValuesAt es i = Has (vals docs es i.env i.vector)

  abbrev pub TuplesAt : Spine → Iter → Type 0
  TuplesAt sp i = Has (tuples docs sp i.env i.vector)

  abbrev pub body_val : ℕ → ℕ → Expr → Iter → ℕ → Item Text → Option Items
  body_val x p e i k v = val docs e (in_loop x p i.env k v) (deeper i.vector k)

  pub turns_back : (x p : ℕ) (e : Expr) (f : Iter → Items) (its : List Iter) → AllOf (ValueAt e) (map (iter_of x p) (turns f its)) → AllOf (λ i. AllOf (λ t. Has (body_val x p e i t.place t.item)) (turns_of i 1 (f i))) its
  turns_back x p e f its a = turns_back_of Has x p (val docs e) f its a

  pub bound_back : (P : Iter → Type 0) (x : ℕ) (b : Expr) (its : List Iter) → AllOf (ValueAt b) its → AllOf P (bound docs x b its) → AllOf (λ i. P (with_value x i (value docs b i))) its
  bound_back P x b its h a =
      all_two _ _ _ (λ i (v : ValueAt b i) (g : AllOf P (where_some (val docs b i.env i.vector) (λ v. with_value x i v ∷ []))).
      let g' = subst (λ o. AllOf P (where_some o (λ u. with_value x i u ∷ []))) v.1 g in
      subst (λ o. P (with_value x i (list_of o))) (sym v.1) g'.0) its h (all_flat_back P _ its a)

  let_has : {A : Type 0} (F : Env → List ℕ → Option A) (x : ℕ) (b : Expr) (i : Iter) → ValueAt b i → Has (F (with_var i.env x (value docs b i)) i.vector) → Has (and_then (val docs b i.env i.vector) (λ v. F (with_var i.env x v) i.vector))
  let_has F x b i u v = (v.0, ap (λ o. and_then o (λ w. F (with_var i.env x w) i.vector)) u.1 ∙ ap (λ w. F (with_var i.env x w) i.vector) (sym (ap list_of u.1)) ∙ v.1)

  two_has : {A B C : Type 0} (o : Option A) (q : Option B) (f : A → B → C) → Has o → Has q → Has (and_then o (λ x. and_then q (λ y. Some (f x y))))
  two_has o q f u v = (f u.0 v.0, ap (λ z. and_then z (λ x. and_then q (λ y. Some (f x y)))) u.1 ∙ ap (λ z. and_then z (λ y. Some (f u.0 y))) v.1)

  mutual
    pub no_faults : (e : Expr) (its : List Iter) → faults docs e its ≡ [] → AllOf (ValueAt e) its
    no_faults (Lit a) its h = all_each _ (λ i. (a ∷ [], refl)) its
    no_faults Empty its h = all_each _ (λ i. ([], refl)) its
    no_faults (Var x) its h = all_each _ (λ i. (i.env x, refl)) its
    no_faults (Seq a b) its h =
        let k = append_nil (faults docs a its) (faults docs b its) h in
        all_two _ _ _ (λ i (u : ValueAt a i) (v : ValueAt b i). two_has (val docs a i.env i.vector) (val docs b i.env i.vector) (λ x y. x ++ y) u v) its (no_faults a its k.0) (no_faults b its k.1)
    no_faults (Let x b e) its h =
        let k = append_nil (faults docs b its) (faults docs e (bound docs x b its)) h in
        let hb = no_faults b its k.0 in
        all_two _ _ _ (λ i (u : ValueAt b i) (v : ValueAt e (with_value x i (value docs b i))). let_has (val docs e) x b i u v) its hb (bound_back (ValueAt e) x b its hb (no_faults e (bound docs x b its) k.1))
    no_faults (For x p s e) its h =
        let k = append_nil (faults docs s its) (faults docs e (inside docs x p s its)) h in
        all_two _ _ _ (λ i u v. for_has x p (val docs e) (val docs s i.env i.vector) i u v) its (no_faults s its k.0) (turns_back x p e (value docs s) its (no_faults e (inside docs x p s its) k.1))
    no_faults (If c a b) its h =
        let k = append_nil (faults docs c its) _ h in
        let l = append_nil (faults docs a (filter (chosen docs c) its)) (faults docs b (filter (other docs c) its)) k.1 in
        let ha = all_keep_back (ValueAt a) (chosen docs c) its (no_faults a (filter (chosen docs c) its) l.0) in
        let hb = all_keep_back (ValueAt b) (other docs c) its (no_faults b (filter (other docs c) its) l.1) in
        all_two _ _ _ (λ i (u : (chosen docs c i ≡ true → ValueAt a i) × (other docs c i ≡ true → ValueAt b i)) (v : ValueAt c i). if_has (val docs c i.env i.vector) (val docs a i.env i.vector) (val docs b i.env i.vector) v u.0 u.1) its
        (all_two _ _ _ (λ i (u : chosen docs c i ≡ true → ValueAt a i) (v : other docs c i ≡ true → ValueAt b i). let r : (chosen docs c i ≡ true → ValueAt a i) × (other docs c i ≡ true → ValueAt b i) = (u, v) in r) its ha hb)
        (no_faults c its k.0)
    no_faults (Sorted site os sp) its h =
        let k = append_nil (faults_in docs sp its) _ h in
        all_two _ _ _ (λ i (u : TuplesAt sp i) (w : map (fault i.number) (own_failures docs (Sorted site os sp) i.env i.vector) ≡ []). rule_has (tuples docs sp i.env i.vector) (sorted_answer os) (failure site i.vector) u (map_nil _ _ w)) its (no_faults_in sp its k.0) (flat_nil _ its k.1)
    no_faults (Call site r es) its h =
        let k = append_nil (faults_all docs es its) _ h in
        all_two _ _ _ (λ i (u : ValuesAt es i) (w : map (fault i.number) (own_failures docs (Call site r es) i.env i.vector) ≡ []). rule_has (vals docs es i.env i.vector) (rule_answer docs site i.vector r) (failure site i.vector) u (map_nil _ _ w)) its (no_faults_all es its k.0) (flat_nil _ its k.1)

    pub no_faults_all : (es : Exprs) (its : List Iter) → faults_all docs es its ≡ [] → AllOf (ValuesAt es) its
    no_faults_all no_more its h = all_each _ (λ i. ([], refl)) its
    no_faults_all (one_more e es) its h =
        let k = append_nil (faults docs e its) (faults_all docs es its) h in
        all_two _ _ _ (λ i (u : ValueAt e i) (v : ValuesAt es i). two_has (val docs e i.env i.vector) (vals docs es i.env i.vector) (λ x xs. x ∷ xs) u v) its (no_faults e its k.0) (no_faults_all es its k.1)

    pub no_faults_in : (sp : Spine) (its : List Iter) → faults_in docs sp its ≡ [] → AllOf (TuplesAt sp) its
    no_faults_in (Leaf ks e) its h =
        let k = append_nil (faults_all docs ks its) (faults docs e its) h in
        all_two _ _ _ (λ i (u : ValuesAt ks i) (v : ValueAt e i). two_has (vals docs ks i.env i.vector) (val docs e i.env i.vector) (λ vs w. let t : Tuple = record { keys = vs; body = w } in t ∷ []) u v) its (no_faults_all ks its k.0) (no_faults e its k.1)
    no_faults_in (ForBind x p s sp) its h =
        let k = append_nil (faults docs s its) (faults_in docs sp (inside docs x p s its)) h in
        all_two _ _ _ (λ i u v. for_has x p (tuples docs sp) (val docs s i.env i.vector) i u v) its (no_faults s its k.0) (turns_back_of Has x p (tuples docs sp) (value docs s) its (no_faults_in sp (inside docs x p s its) k.1))
    no_faults_in (LetBind x b sp) its h =
        let k = append_nil (faults docs b its) (faults_in docs sp (bound docs x b its)) h in
        let hb = no_faults b its k.0 in
        all_two _ _ _ (λ i (u : ValueAt b i) (v : TuplesAt sp (with_value x i (value docs b i))). let_has (tuples docs sp) x b i u v) its hb (bound_back (TuplesAt sp) x b its hb (no_faults_in sp (bound docs x b its) k.1))
    no_faults_in (WhereBind c sp) its h =
        let k = append_nil (faults docs c its) (faults_in docs sp (filter (chosen docs c) its)) h in
        let ha = all_keep_back (TuplesAt sp) (chosen docs c) its (no_faults_in sp (filter (chosen docs c) its) k.1) in
        all_two _ _ _ (λ i (u : chosen docs c i ≡ true → TuplesAt sp i) (v : ValueAt c i). if_has (val docs c i.env i.vector) (tuples docs sp i.env i.vector) (Some []) v u (λ z. ([], refl))) its ha (no_faults c its k.0)
