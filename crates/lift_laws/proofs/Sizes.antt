-- How many rows stand for values, and that their number is no more than the work.
use Rattle.std.proofs.Common.{◌≡◌, ℕ, ◌+◌, ◌≤◌, Bool, true, false, ◌||◌, List, [], ◌∷◌, ◌++◌, length, map, refl, sym, ap, ◌∙◌, arith, Option, Some, None, nat_eq, length-append, true≢false}
use Rattle.std.proofs.lemmas.Bool.{eqb-true}
use Rattle.xq_base.specs.Texts.{Text}
use Rattle.doc_table.specs.Items.{Item}
use Rattle.doc_table.specs.Values.{Items}
use Rattle.doc_table.specs.NodeRules.{Docs}
use Rattle.plan_dag.specs.ItemRules.{Cell}
use Rattle.core_meaning.specs.Expr.{Expr, Lit, Empty, Var, Seq, Let, For, If, Sorted, Call}
use Rattle.core_meaning.specs.Meaning.{Env, val}
use Rattle.core_meaning.specs.Work.{is_member, free, items_used, count_in}
use Rattle.lift_laws.specs.Sums.{total, AllOf}
use Rattle.lift_laws.specs.Iterations.{Iter, num, item_rows, value_rows, loop_rows, cells, Turn, turns, turns_of, given, all_turns}
use Rattle.lift_laws.specs.Bulk.{list_of, value, weight, cost}
use Rattle.lift_laws.specs.Lifting.{IsFree}
use Rattle.lift_laws.proofs.Multi.{length-total, total-ext, total-sum, total-flat}
use Rattle.lift_laws.proofs.Picks.{all_mono}

items_size : (n k : ℕ) (vs : List Cell) → length (item_rows n k vs) ≡ length vs
items_size n k [] = refl
items_size n k (v ∷ vs) = let e = items_size n (k + 1) vs in omega arith

pub size_cells : (f : Iter → List Cell) (its : List Iter) → length (value_rows f its) ≡ total (λ i. length (f i)) its
size_cells f its =
    length-total (value_rows f its) ∙ total-flat (λ r. 1) (λ i. item_rows i.number 1 (f i)) its
    ∙ total-ext _ _ its (λ i. sym (length-total (item_rows i.number 1 (f i))) ∙ items_size i.number 1 (f i))

pub map_length : {A B : Type 0} (f : A → B) (xs : List A) → length (map f xs) ≡ length xs
map_length f [] = refl
map_length f (x ∷ xs) = let e = map_length f xs in omega arith

pub size_values : (c : Item Text → Cell) (f : Iter → Items) (its : List Iter) → length (value_rows (cells c f) its) ≡ total (λ i. length (f i)) its
size_values c f its = size_cells (cells c f) its ∙ total-ext _ _ its (λ i. map_length c (f i))

pub size_loop : (its : List Iter) → length (loop_rows its) ≡ length its
size_loop its = map_length (λ (i : Iter). num i.number ∷ []) its

pub total_most : {A : Type 0} (v w : A → ℕ) (xs : List A) → ((x : A) → v x ≤ w x) → total v xs ≤ total w xs
total_most v w [] h = omega arith
total_most v w (x ∷ xs) h = let a = h x in let b = total_most v w xs h in omega arith

pub total_most_all : {A : Type 0} (v w : A → ℕ) (xs : List A) → AllOf (λ x. v x ≤ w x) xs → total v xs ≤ total w xs
total_most_all v w [] h = omega arith
total_most_all v w (x ∷ xs) h = let a = h.0 in let b = total_most_all v w xs h.1 in omega arith

pub count_list : (o : Option Items) → count_in o ≡ length (list_of o)
count_list None = refl
count_list (Some v) = refl

-- the items of each variable that is used
pub used_most : (env : Env) (xs : List ℕ) (y : ℕ) → is_member y xs ≡ true → length (env y) ≤ items_used xs env
used_most env [] y h = absurd (true≢false (sym h))
used_most env (x ∷ xs) y h = go (nat_eq y x) refl h (λ k. used_most env xs y k)
  where
    go : (b : Bool) → nat_eq y x ≡ b → (b || is_member y xs) ≡ true → (is_member y xs ≡ true → length (env y) ≤ items_used xs env) → length (env y) ≤ length (env x) + items_used xs env
    go true e k r = let q = ap (λ z. length (env z)) (eqb-true y x e) in omega arith
    go false e k r = let m = r k in omega arith

-- turns are as many as items
given_size : (n : ℕ) (ts : List Turn) → length (given n ts) ≡ length ts
given_size n [] = refl
given_size n (t ∷ ts) = let e = given_size (n + 1) ts in omega arith

turns_size : (i : Iter) (k : ℕ) (vs : Items) → length (turns_of i k vs) ≡ length vs
turns_size i k [] = refl
turns_size i k (v ∷ vs) = let e = turns_size i (k + 1) vs in omega arith

pub size_turns : (f : Iter → Items) (its : List Iter) → length (turns f its) ≡ total (λ i. length (f i)) its
size_turns f its =
    given_size 1 (all_turns f its) ∙ length-total (all_turns f its) ∙ total-flat (λ t. 1) (λ i. turns_of i 1 (f i)) its
    ∙ total-ext _ _ its (λ i. sym (length-total (turns_of i 1 (f i))) ∙ turns_size i 1 (f i))

module _ (docs : Docs) where
  -- each evaluation weighs one, the items of its value, and those of its free variables
  one_weighs : (e : Expr) (i : Iter) → 1 + length (value docs e i) + items_used (free e) i.env ≤ weight docs e i
  one_weighs e i = let c = count_list (val docs e i.env i.vector) in omega arith

  pub weighs : (e : Expr) (its : List Iter) → length its ≤ total (weight docs e) its
  weighs e its = let l = length-total its in let m = total_most (λ i. 1) (weight docs e) its (λ i. let w = one_weighs e i in omega arith) in omega arith

  pub values_weigh : (e : Expr) (its : List Iter) → total (λ i. length (value docs e i)) its ≤ total (weight docs e) its
  values_weigh e its = total_most (λ i. length (value docs e i)) (weight docs e) its (λ i. let w = one_weighs e i in omega arith)

  pub values_most : (f g : Iter → Items) (e : Expr) (its : List Iter) → AllOf (λ i. f i ++ g i ≡ value docs e i) its → total (λ i. length (f i)) its + total (λ i. length (g i)) its ≤ total (weight docs e) its
  values_most f g e its a =
      let s = total-sum (λ i. length (f i)) (λ i. length (g i)) its in
      let m = total_most_all (λ i. length (f i) + length (g i)) (weight docs e) its
      (all_mono _ _ (λ i (q : f i ++ g i ≡ value docs e i).
      let k = length-append (f i) (g i) in let l = ap length q in let w = one_weighs e i in let r : length (f i) + length (g i) ≤ weight docs e i = omega arith in r) its a) in
      omega arith

  pub many_free : (e : Expr) (y : ℕ) → IsFree y e → (its : List Iter) → total (λ i. length (i.env y)) its ≤ total (weight docs e) its
  many_free e y h its = total_most (λ i. length (i.env y)) (weight docs e) its (λ i. let r = used_most i.env (free e) y h in let w = one_weighs e i in omega arith)

  -- the root's own share
  pub own_most : (e : Expr) (its : List Iter) → total (weight docs e) its ≤ cost docs e its
  own_most (Lit a) its = omega arith
  own_most Empty its = omega arith
  own_most (Var x) its = omega arith
  own_most (Seq a b) its = omega arith
  own_most (Let x b e) its = omega arith
  own_most (For x p s e) its = omega arith
  own_most (If c a b) its = omega arith
  own_most (Sorted site os sp) its = omega arith
  own_most (Call site r es) its = omega arith
