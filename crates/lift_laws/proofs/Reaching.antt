-- What is summed over all iterations at once is summed over the reached evaluations: so the failures are those of the reached
-- evaluations, and the cost is their work.
use Rattle.std.proofs.Common.{◌≡◌, ℕ, ◌+◌, true, false, cond, not, List, [], ◌∷◌, ◌++◌, map, refl, sym, ap, ◌∙◌, arith, add-zero, zero-add, Option, Some, None}
use Rattle.std.specs.List.{filter, flat_map}
use Rattle.doc_table.specs.Values.{Items}
use Rattle.doc_table.specs.NodeRules.{Docs}
use Rattle.core_meaning.specs.Expr.{Expr, Exprs, Spine, Lit, Empty, Var, Seq, Let, For, If, Sorted, Call, no_more, one_more, Leaf, ForBind, LetBind, WhereBind}
use Rattle.core_meaning.specs.Meaning.{Env, with_var, in_loop, deeper, holds, val}
use Rattle.core_meaning.specs.Reached.{Part, OfExpr, OfTuple, Eval, evaluation, tuple_made, where_some, all_from, reached, reached_all, reached_in}
use Rattle.core_meaning.specs.Failures.{Failure, own_failures, part_failures, failures_of, fails}
use Rattle.core_meaning.specs.Work.{part_work, works, work}
use Rattle.lift_laws.specs.Sums.{total, Same}
use Rattle.lift_laws.specs.Iterations.{Iter, Turn, turn, turns_of, given, all_turns, turns}
use Rattle.lift_laws.specs.Bulk.{list_of, value, chosen_in, other_in, chosen, other, with_value, iter_of, bound, inside, Fault, fault, own_faults, faults, faults_all, faults_in, cost, cost_all, cost_in}
use Rattle.lift_laws.proofs.Multi.{total-append, total-ext, total-sum, total-map, total-flat, total-keep, total-zero}

given_total : (h : Turn → ℕ) → ((t : Turn) (n : ℕ) → h (turn n t.outer t.place t.item) ≡ h t) → (n : ℕ) (ts : List Turn) → total h (given n ts) ≡ total h ts
given_total h e n [] = refl
given_total h e n (t ∷ ts) = let a = e t n in let b = given_total h e (n + 1) ts in omega arith

sum_three : (A B C : Iter → ℕ) (its : List Iter) → total A its + total B its + total C its ≡ total (λ i. A i + B i + C i) its
sum_three A B C its = let a = total-sum (λ i. A i + B i) C its in let b = total-sum A B its in omega arith

module _ (docs : Docs) (w : Part → Env → List ℕ → ℕ) where
  abbrev pub at_eval : Eval → ℕ
  at_eval v = w v.part v.env v.vector

  abbrev own : Part → Iter → ℕ
  own p i = w p i.env i.vector

  abbrev mutual
    -- a weight of all evaluations of all iterations
    pub bulk : Expr → List Iter → ℕ
    bulk (Lit a) its = total (own (OfExpr (Lit a))) its
    bulk Empty its = total (own (OfExpr Empty)) its
    bulk (Var x) its = total (own (OfExpr (Var x))) its
    bulk (Seq a b) its = bulk a its + bulk b its + total (own (OfExpr (Seq a b))) its
    bulk (Let x b e) its = bulk b its + bulk e (bound docs x b its) + total (own (OfExpr (Let x b e))) its
    bulk (For x p s e) its = bulk s its + bulk e (inside docs x p s its) + total (own (OfExpr (For x p s e))) its
    bulk (If c a b) its = bulk c its + (bulk a (filter (chosen docs c) its) + bulk b (filter (other docs c) its)) + total (own (OfExpr (If c a b))) its
    bulk (Sorted site os sp) its = bulk_in sp its + total (own (OfExpr (Sorted site os sp))) its
    bulk (Call site r es) its = bulk_all es its + total (own (OfExpr (Call site r es))) its

    pub bulk_all : Exprs → List Iter → ℕ
    bulk_all no_more its = 0
    bulk_all (one_more e es) its = bulk e its + bulk_all es its

    pub bulk_in : Spine → List Iter → ℕ
    bulk_in (Leaf ks e) its = bulk_all ks its + bulk e its
    bulk_in (ForBind x p s sp) its = bulk s its + (total (own (OfTuple sp)) (inside docs x p s its) + bulk_in sp (inside docs x p s its))
    bulk_in (LetBind x b sp) its = bulk b its + (total (own (OfTuple sp)) (bound docs x b its) + bulk_in sp (bound docs x b its))
    bulk_in (WhereBind c sp) its = bulk c its + (total (own (OfTuple sp)) (filter (chosen docs c) its) + bulk_in sp (filter (chosen docs c) its))

  abbrev sum : List Eval → ℕ
  sum vs = total at_eval vs

  abbrev share : Expr → Iter → ℕ
  share e i = sum (reached docs e i.env i.vector)

  abbrev share_all : Exprs → Iter → ℕ
  share_all es i = sum (reached_all docs es i.env i.vector)

  abbrev share_in : Spine → Iter → ℕ
  share_in sp i = sum (reached_in docs sp i.env i.vector)

  parts : (us vs : List Eval) (v : Eval) → sum ((us ++ vs) ++ v ∷ []) ≡ sum us + sum vs + at_eval v
  parts us vs v = let a = total-append at_eval (us ++ vs) (v ∷ []) in let b = total-append at_eval us vs in omega arith

  last : (us : List Eval) (v : Eval) → sum (us ++ v ∷ []) ≡ sum us + at_eval v
  last us v = let a = total-append at_eval us (v ∷ []) in omega arith

  -- what follows a loop's sequence, a binding and a condition, for evaluations that an environment and a vector make
  module _ (G : Env → List ℕ → List Eval) where
    abbrev of_iter : Iter → ℕ
    of_iter i = sum (G i.env i.vector)

    bodies_sum : (x p : ℕ) (i : Iter) (k : ℕ) (vs : Items) → total (λ t. of_iter (iter_of x p t)) (turns_of i k vs) ≡ sum (all_from (λ j v. G (in_loop x p i.env j v) (deeper i.vector j)) k vs)
    bodies_sum x p i k [] = refl
    bodies_sum x p i k (v ∷ vs) =
        let r = bodies_sum x p i (k + 1) vs in
        let a = total-append at_eval (G (in_loop x p i.env k v) (deeper i.vector k)) (all_from (λ j v. G (in_loop x p i.env j v) (deeper i.vector j)) (k + 1) vs) in
        omega arith

    abbrev loop_of : ℕ → ℕ → Expr → Iter → List Eval
    loop_of x p s i = where_some (val docs s i.env i.vector) (all_from (λ j v. G (in_loop x p i.env j v) (deeper i.vector j)) 1)

    one_loop : (x p : ℕ) (i : Iter) (o : Option Items) → total (λ t. of_iter (iter_of x p t)) (turns_of i 1 (list_of o)) ≡ sum (where_some o (all_from (λ j v. G (in_loop x p i.env j v) (deeper i.vector j)) 1))
    one_loop x p i None = refl
    one_loop x p i (Some vs) = bodies_sum x p i 1 vs

    loop_sum : (x p : ℕ) (s : Expr) (its : List Iter) → total of_iter (inside docs x p s its) ≡ total (λ i. sum (loop_of x p s i)) its
    loop_sum x p s its =
        let h = λ (t : Turn). of_iter (iter_of x p t) in
        total-map of_iter (iter_of x p) (turns (value docs s) its)
        ∙ given_total h (λ t n. refl) 1 (all_turns (value docs s) its)
        ∙ total-flat h (λ i. turns_of i 1 (value docs s i)) its
        ∙ total-ext _ _ its (λ i. one_loop x p i (val docs s i.env i.vector))

    abbrev bound_of : ℕ → Expr → Iter → List Eval
    bound_of x b i = where_some (val docs b i.env i.vector) (λ v. G (with_var i.env x v) i.vector)

    one_bound : (x : ℕ) (i : Iter) (o : Option Items) → total of_iter (where_some o (λ v. with_value x i v ∷ [])) ≡ sum (where_some o (λ v. G (with_var i.env x v) i.vector))
    one_bound x i None = refl
    one_bound x i (Some v) = add-zero _

    bound_sum : (x : ℕ) (b : Expr) (its : List Iter) → total of_iter (bound docs x b its) ≡ total (λ i. sum (bound_of x b i)) its
    bound_sum x b its = total-flat of_iter (λ i. where_some (val docs b i.env i.vector) (λ v. with_value x i v ∷ [])) its ∙ total-ext _ _ its (λ i. one_bound x i (val docs b i.env i.vector))

  branch_sum : (o : Option Items) (us vs : List Eval) → cond (chosen_in o) (sum us) 0 + cond (other_in o) (sum vs) 0 ≡ sum (where_some o (λ v. cond (holds v) us vs))
  branch_sum None us vs = refl
  branch_sum (Some v) us vs = elim (holds v) as (λ b. cond b (sum us) 0 + cond (not b) (sum vs) 0 ≡ sum (cond b us vs)) [ true ↦ add-zero _ | false ↦ zero-add _ ]

  where_sum : (o : Option Items) (us : List Eval) → cond (chosen_in o) (sum us) 0 ≡ sum (where_some o (λ v. cond (holds v) us []))
  where_sum None us = refl
  where_sum (Some v) us = elim (holds v) as (λ b. cond b (sum us) 0 ≡ sum (cond b us [])) [ true ↦ refl | false ↦ refl ]

  -- a tuple, and what is reached for it
  abbrev tuple_of : Spine → Env → List ℕ → List Eval
  tuple_of sp env vec = tuple_made sp env vec ∷ reached_in docs sp env vec

  tuples_sum : (sp : Spine) (its : List Iter) → bulk_in sp its ≡ total (share_in sp) its → total (own (OfTuple sp)) its + bulk_in sp its ≡ total (λ i. sum (tuple_of sp i.env i.vector)) its
  tuples_sum sp its h = ap (λ m. total (own (OfTuple sp)) its + m) h ∙ sym (total-sum (own (OfTuple sp)) (share_in sp) its)

  mutual
    pub bulk_is : (e : Expr) (its : List Iter) → bulk e its ≡ total (share e) its
    bulk_is (Lit a) its = total-ext _ _ its (λ i. sym (add-zero _))
    bulk_is Empty its = total-ext _ _ its (λ i. sym (add-zero _))
    bulk_is (Var x) its = total-ext _ _ its (λ i. sym (add-zero _))
    bulk_is (Seq a b) its =
        let p = bulk_is a its in
        let q = bulk_is b its in
        let r = sum_three (share a) (share b) (own (OfExpr (Seq a b))) its in
        let s = total-ext (share (Seq a b)) (λ i. share a i + share b i + own (OfExpr (Seq a b)) i) its (λ i. parts (reached docs a i.env i.vector) (reached docs b i.env i.vector) (evaluation (Seq a b) i.env i.vector)) in
        omega arith
    bulk_is (Let x b e) its =
        let B = λ (i : Iter). sum (bound_of (reached docs e) x b i) in
        let p = bulk_is b its in
        let q = bulk_is e (bound docs x b its) ∙ bound_sum (reached docs e) x b its in
        let r = sum_three (share b) B (own (OfExpr (Let x b e))) its in
        let s = total-ext (share (Let x b e)) (λ i. share b i + B i + own (OfExpr (Let x b e)) i) its (λ i. parts (reached docs b i.env i.vector) (bound_of (reached docs e) x b i) (evaluation (Let x b e) i.env i.vector)) in
        omega arith
    bulk_is (For x y q e) its =
        let B = λ (i : Iter). sum (loop_of (reached docs e) x y q i) in
        let p = bulk_is q its in
        let t = bulk_is e (inside docs x y q its) ∙ loop_sum (reached docs e) x y q its in
        let r = sum_three (share q) B (own (OfExpr (For x y q e))) its in
        let s = total-ext (share (For x y q e)) (λ i. share q i + B i + own (OfExpr (For x y q e)) i) its (λ i. parts (reached docs q i.env i.vector) (loop_of (reached docs e) x y q i) (evaluation (For x y q e) i.env i.vector)) in
        omega arith
    bulk_is (If c a b) its =
        let body = λ (i : Iter). where_some (val docs c i.env i.vector) (λ v. cond (holds v) (reached docs a i.env i.vector) (reached docs b i.env i.vector)) in
        let B = λ (i : Iter). sum (body i) in
        let FA = λ (i : Iter). cond (chosen docs c i) (share a i) 0 in
        let FB = λ (i : Iter). cond (other docs c i) (share b i) 0 in
        let p = bulk_is c its in
        let qa = bulk_is a (filter (chosen docs c) its) ∙ total-keep (share a) (chosen docs c) its in
        let qb = bulk_is b (filter (other docs c) its) ∙ total-keep (share b) (other docs c) its in
        let u = total-sum FA FB its in
        let v = total-ext (λ i. FA i + FB i) B its (λ i. branch_sum (val docs c i.env i.vector) (reached docs a i.env i.vector) (reached docs b i.env i.vector)) in
        let r = sum_three (share c) B (own (OfExpr (If c a b))) its in
        let s = total-ext (share (If c a b)) (λ i. share c i + B i + own (OfExpr (If c a b)) i) its (λ i. parts (reached docs c i.env i.vector) (body i) (evaluation (If c a b) i.env i.vector)) in
        omega arith
    bulk_is (Sorted site os sp) its =
        let p = bulk_in_is sp its in
        let s = total-sum (share_in sp) (own (OfExpr (Sorted site os sp))) its in
        let t = total-ext (share (Sorted site os sp)) (λ i. share_in sp i + own (OfExpr (Sorted site os sp)) i) its (λ i. last (reached_in docs sp i.env i.vector) (evaluation (Sorted site os sp) i.env i.vector)) in
        omega arith
    bulk_is (Call site r es) its =
        let p = bulk_all_is es its in
        let s = total-sum (share_all es) (own (OfExpr (Call site r es))) its in
        let t = total-ext (share (Call site r es)) (λ i. share_all es i + own (OfExpr (Call site r es)) i) its (λ i. last (reached_all docs es i.env i.vector) (evaluation (Call site r es) i.env i.vector)) in
        omega arith

    pub bulk_all_is : (es : Exprs) (its : List Iter) → bulk_all es its ≡ total (share_all es) its
    bulk_all_is no_more its = sym (total-zero its)
    bulk_all_is (one_more e es) its =
        let p = bulk_is e its in
        let q = bulk_all_is es its in
        let s = total-sum (share e) (share_all es) its in
        let t = total-ext (share_all (one_more e es)) (λ i. share e i + share_all es i) its (λ i. total-append at_eval (reached docs e i.env i.vector) (reached_all docs es i.env i.vector)) in
        omega arith

    pub bulk_in_is : (sp : Spine) (its : List Iter) → bulk_in sp its ≡ total (share_in sp) its
    bulk_in_is (Leaf ks e) its =
        let p = bulk_all_is ks its in
        let q = bulk_is e its in
        let s = total-sum (share_all ks) (share e) its in
        let t = total-ext (share_in (Leaf ks e)) (λ i. share_all ks i + share e i) its (λ i. total-append at_eval (reached_all docs ks i.env i.vector) (reached docs e i.env i.vector)) in
        omega arith
    bulk_in_is (ForBind x y q sp) its =
        let B = λ (i : Iter). sum (loop_of (tuple_of sp) x y q i) in
        let p = bulk_is q its in
        let r = tuples_sum sp (inside docs x y q its) (bulk_in_is sp (inside docs x y q its)) ∙ loop_sum (tuple_of sp) x y q its in
        let s = total-sum (share q) B its in
        let t = total-ext (share_in (ForBind x y q sp)) (λ i. share q i + B i) its (λ i. total-append at_eval (reached docs q i.env i.vector) (loop_of (tuple_of sp) x y q i)) in
        omega arith
    bulk_in_is (LetBind x b sp) its =
        let B = λ (i : Iter). sum (bound_of (tuple_of sp) x b i) in
        let p = bulk_is b its in
        let r = tuples_sum sp (bound docs x b its) (bulk_in_is sp (bound docs x b its)) ∙ bound_sum (tuple_of sp) x b its in
        let s = total-sum (share b) B its in
        let t = total-ext (share_in (LetBind x b sp)) (λ i. share b i + B i) its (λ i. total-append at_eval (reached docs b i.env i.vector) (bound_of (tuple_of sp) x b i)) in
        omega arith
    bulk_in_is (WhereBind c sp) its =
        let body = λ (i : Iter). where_some (val docs c i.env i.vector) (λ v. cond (holds v) (tuple_of sp i.env i.vector) []) in
        let B = λ (i : Iter). sum (body i) in
        let p = bulk_is c its in
        let r = tuples_sum sp (filter (chosen docs c) its) (bulk_in_is sp (filter (chosen docs c) its)) ∙ total-keep (λ i. sum (tuple_of sp i.env i.vector)) (chosen docs c) its ∙ total-ext _ B its (λ i. where_sum (val docs c i.env i.vector) (tuple_of sp i.env i.vector)) in
        let s = total-sum (share c) B its in
        let t = total-ext (share_in (WhereBind c sp)) (λ i. share c i + B i) its (λ i. total-append at_eval (reached docs c i.env i.vector) (body i)) in
        omega arith

module _ (docs : Docs) where
  mutual
    cost_bulk : (e : Expr) (its : List Iter) → cost docs e its ≡ bulk docs (part_work docs) e its
    cost_bulk (Lit a) its = refl
    cost_bulk Empty its = refl
    cost_bulk (Var x) its = refl
    cost_bulk (Seq a b) its = let p = cost_bulk a its in let q = cost_bulk b its in omega arith
    cost_bulk (Let x b e) its = let p = cost_bulk b its in let q = cost_bulk e (bound docs x b its) in omega arith
    cost_bulk (For x y s e) its = let p = cost_bulk s its in let q = cost_bulk e (inside docs x y s its) in omega arith
    cost_bulk (If c a b) its = let p = cost_bulk c its in let q = cost_bulk a (filter (chosen docs c) its) in let r = cost_bulk b (filter (other docs c) its) in omega arith
    cost_bulk (Sorted site os sp) its = let p = cost_bulk_in sp its in omega arith
    cost_bulk (Call site r es) its = let p = cost_bulk_all es its in omega arith

    cost_bulk_all : (es : Exprs) (its : List Iter) → cost_all docs es its ≡ bulk_all docs (part_work docs) es its
    cost_bulk_all no_more its = refl
    cost_bulk_all (one_more e es) its = let p = cost_bulk e its in let q = cost_bulk_all es its in omega arith

    cost_bulk_in : (sp : Spine) (its : List Iter) → cost_in docs sp its ≡ bulk_in docs (part_work docs) sp its
    cost_bulk_in (Leaf ks e) its = let p = cost_bulk_all ks its in let q = cost_bulk e its in omega arith
    cost_bulk_in (ForBind x y s sp) its = let p = cost_bulk s its in let q = cost_bulk_in sp (inside docs x y s its) in omega arith
    cost_bulk_in (LetBind x b sp) its = let p = cost_bulk b its in let q = cost_bulk_in sp (bound docs x b its) in omega arith
    cost_bulk_in (WhereBind c sp) its = let p = cost_bulk c its in let q = cost_bulk_in sp (filter (chosen docs c) its) in omega arith

  works_total : (vs : List Eval) → works docs vs ≡ total (λ (v : Eval). part_work docs v.part v.env v.vector) vs
  works_total [] = refl
  works_total (v ∷ vs) = let e = works_total vs in omega arith

  -- the cost of one iteration is the work
  pub cost_is_work : (e : Expr) (i : Iter) → cost docs e (i ∷ []) ≡ work docs e i.env i.vector
  cost_is_work e i = cost_bulk e (i ∷ []) ∙ bulk_is docs (part_work docs) e (i ∷ []) ∙ add-zero _ ∙ sym (works_total (reached docs e i.env i.vector))

  module _ (u : Failure → ℕ) where
    abbrev weight_of : Part → Env → List ℕ → ℕ
    weight_of p env vec = total u (part_failures docs p env vec)

    abbrev weighed : List Fault → ℕ
    weighed fs = total (λ (f : Fault). u f.failure) fs

    own_bulk : (e : Expr) (its : List Iter) → weighed (own_faults docs e its) ≡ total (λ i. weight_of (OfExpr e) i.env i.vector) its
    own_bulk e its = total-flat (λ (f : Fault). u f.failure) (λ i. map (fault i.number) (own_failures docs e i.env i.vector)) its ∙ total-ext _ _ its (λ i. total-map (λ (f : Fault). u f.failure) (fault i.number) (own_failures docs e i.env i.vector))

    none_own : (its : List Iter) → total (λ (i : Iter). 0) its ≡ 0
    none_own its = total-zero its

    mutual
      faults_bulk : (e : Expr) (its : List Iter) → weighed (faults docs e its) ≡ bulk docs weight_of e its
      faults_bulk (Lit a) its = sym (none_own its)
      faults_bulk Empty its = sym (none_own its)
      faults_bulk (Var x) its = sym (none_own its)
      faults_bulk (Seq a b) its = let p = faults_bulk a its in let q = faults_bulk b its in let z = none_own its in let t = total-append (λ (f : Fault). u f.failure) (faults docs a its) (faults docs b its) in omega arith
      faults_bulk (Let x b e) its = let p = faults_bulk b its in let q = faults_bulk e (bound docs x b its) in let z = none_own its in let t = total-append (λ (f : Fault). u f.failure) (faults docs b its) (faults docs e (bound docs x b its)) in omega arith
      faults_bulk (For x y s e) its = let p = faults_bulk s its in let q = faults_bulk e (inside docs x y s its) in let z = none_own its in let t = total-append (λ (f : Fault). u f.failure) (faults docs s its) (faults docs e (inside docs x y s its)) in omega arith
      faults_bulk (If c a b) its =
          let p = faults_bulk c its in
          let q = faults_bulk a (filter (chosen docs c) its) in
          let r = faults_bulk b (filter (other docs c) its) in
          let z = none_own its in
          let t = total-append (λ (f : Fault). u f.failure) (faults docs c its) (faults docs a (filter (chosen docs c) its) ++ faults docs b (filter (other docs c) its)) in
          let v = total-append (λ (f : Fault). u f.failure) (faults docs a (filter (chosen docs c) its)) (faults docs b (filter (other docs c) its)) in
          omega arith
      faults_bulk (Sorted site os sp) its = let p = faults_bulk_in sp its in let q = own_bulk (Sorted site os sp) its in let t = total-append (λ (f : Fault). u f.failure) (faults_in docs sp its) (own_faults docs (Sorted site os sp) its) in omega arith
      faults_bulk (Call site r es) its = let p = faults_bulk_all es its in let q = own_bulk (Call site r es) its in let t = total-append (λ (f : Fault). u f.failure) (faults_all docs es its) (own_faults docs (Call site r es) its) in omega arith

      faults_bulk_all : (es : Exprs) (its : List Iter) → weighed (faults_all docs es its) ≡ bulk_all docs weight_of es its
      faults_bulk_all no_more its = refl
      faults_bulk_all (one_more e es) its = let p = faults_bulk e its in let q = faults_bulk_all es its in let t = total-append (λ (f : Fault). u f.failure) (faults docs e its) (faults_all docs es its) in omega arith

      faults_bulk_in : (sp : Spine) (its : List Iter) → weighed (faults_in docs sp its) ≡ bulk_in docs weight_of sp its
      faults_bulk_in (Leaf ks e) its = let p = faults_bulk_all ks its in let q = faults_bulk e its in let t = total-append (λ (f : Fault). u f.failure) (faults_all docs ks its) (faults docs e its) in omega arith
      faults_bulk_in (ForBind x y s sp) its = let p = faults_bulk s its in let q = faults_bulk_in sp (inside docs x y s its) in let z = none_own (inside docs x y s its) in let t = total-append (λ (f : Fault). u f.failure) (faults docs s its) (faults_in docs sp (inside docs x y s its)) in omega arith
      faults_bulk_in (LetBind x b sp) its = let p = faults_bulk b its in let q = faults_bulk_in sp (bound docs x b its) in let z = none_own (bound docs x b its) in let t = total-append (λ (f : Fault). u f.failure) (faults docs b its) (faults_in docs sp (bound docs x b its)) in omega arith
      faults_bulk_in (WhereBind c sp) its = let p = faults_bulk c its in let q = faults_bulk_in sp (filter (chosen docs c) its) in let z = none_own (filter (chosen docs c) its) in let t = total-append (λ (f : Fault). u f.failure) (faults docs c its) (faults_in docs sp (filter (chosen docs c) its)) in omega arith

  -- the failures of all iterations at once are those of the reached evaluations
  pub faults_are_fails : (e : Expr) (its : List Iter) → Same (map (λ (f : Fault). f.failure) (faults docs e its)) (flat_map (λ i. fails docs e i.env i.vector) its)
  faults_are_fails e its = record {
    at = λ u.
        total-map u (λ (f : Fault). f.failure) (faults docs e its)
        ∙ faults_bulk u e its
        ∙ bulk_is docs (weight_of u) e its
        ∙ total-ext _ _ its (λ i. sym (total-flat u (failures_of docs) (reached docs e i.env i.vector)))
        ∙ sym (total-flat u (λ i. fails docs e i.env i.vector) its);
  }
