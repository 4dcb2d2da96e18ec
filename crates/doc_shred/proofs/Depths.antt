-- The level of the deepest row.
use Rattle.std.proofs.Common.{◌≡◌, ℕ, suc, ◌+◌, ◌<◌, ◌≤◌, max, Bool, true, false, ◌||◌, nat_lt, List, [], ◌∷◌, ◌++◌, length, drop, refl, sym, ap, ◌∙◌, arith}
use Rattle.std.specs.List.{list_any}
use Rattle.std.proofs.lemmas.Bool.Decides.{nat_tests}
use Rattle.std.proofs.lemmas.List.{at_drop_more, at_drop_all}
use Rattle.doc_table.specs.Tree.{Tree, Forest, Branch, no_more, one_more, tree_with, forest_with}
use Rattle.doc_table.specs.Enc.{Line, enc_at, encs_at, enc, no_line, line_in}
use Rattle.doc_shred.specs.Limits.{level_limit}
use Rattle.doc_shred.specs.Document.{deepest, deepest_in}

swapped : (a b c : Bool) → a || (b || c) ≡ b || (a || c)
swapped true true c = refl
swapped true false c = refl
swapped false b c = refl

or_false : (b : Bool) → b || false ≡ b
or_false true = refl
or_false false = refl

deeper : (k m n : ℕ) → nat_lt level_limit (k + 1 + m) || nat_lt level_limit (k + n) ≡ nat_lt level_limit (k + max (suc m) n)
deeper k m n = grind (arith, nat_tests)

module _ {T : Type 0} where
  -- a row beyond the limit
  abbrev pub is_deep : Line T → Bool
  is_deep line = nat_lt level_limit line.level

  any_append : (xs ys : List (Line T)) → list_any is_deep (xs ++ ys) ≡ list_any is_deep xs || list_any is_deep ys
  any_append [] ys = refl
  any_append (x ∷ xs) ys = ap (λ b. is_deep x || b) (any_append xs ys) ∙ regroup (is_deep x) (list_any is_deep xs) (list_any is_deep ys)
    where
      regroup : (a b c : Bool) → a || (b || c) ≡ (a || b) || c
      regroup true b c = refl
      regroup false b c = refl

  mutual
    tree_deep : (k : ℕ) (t : Tree T) → list_any is_deep (enc_at k t) ≡ nat_lt level_limit (k + deepest t)
    tree_deep k (Branch l f) = forest_deep k f

    -- a node and its children
    forest_deep : (k : ℕ) (f : Forest T) → nat_lt level_limit k || list_any is_deep (encs_at (k + 1) f) ≡ nat_lt level_limit (k + deepest_in f)
    forest_deep k no_more = let e : k + 0 ≡ k = omega arith in or_false (nat_lt level_limit k) ∙ ap (nat_lt level_limit) (sym e)
    forest_deep k (one_more t ts) =
        ap (λ b. nat_lt level_limit k || b) (any_append (enc_at (k + 1) t) (encs_at (k + 1) ts))
        ∙ swapped (nat_lt level_limit k) (list_any is_deep (enc_at (k + 1) t)) (list_any is_deep (encs_at (k + 1) ts))
        ∙ ap (λ b. b || (nat_lt level_limit k || list_any is_deep (encs_at (k + 1) ts))) (tree_deep (k + 1) t)
        ∙ ap (λ b. nat_lt level_limit (k + 1 + deepest t) || b) (forest_deep k ts)
        ∙ deeper k (deepest t) (deepest_in ts)

  pub rows_deep : (t : Tree T) → list_any is_deep (enc t) ≡ nat_lt level_limit (deepest t)
  rows_deep t = let e : 0 + deepest t ≡ deepest t = omega arith in tree_deep 0 t ∙ ap (nat_lt level_limit) e

  -- the rows from this one on
  abbrev pub FromHere : Tree T → ℕ → Type 0
  FromHere t i = list_any is_deep (drop i (enc t)) ≡ nat_lt level_limit (deepest t)

  pub deep_here : (t : Tree T) (i : ℕ) → i < length (enc t) → is_deep (line_in (enc t) i) ≡ true → FromHere t i → nat_lt level_limit (deepest t) ≡ true
  deep_here t i l e f = sym f ∙ at_drop_more (list_any is_deep) (enc t) i no_line l ∙ ap (λ b. b || list_any is_deep (drop (i + 1) (enc t))) e

  pub deep_later : (t : Tree T) (i : ℕ) → i < length (enc t) → is_deep (line_in (enc t) i) ≡ false → FromHere t i → FromHere t (i + 1)
  deep_later t i l e f = ap (λ b. b || list_any is_deep (drop (i + 1) (enc t))) (sym e) ∙ sym (at_drop_more (list_any is_deep) (enc t) i no_line l) ∙ f

  pub deep_nowhere : (t : Tree T) (i : ℕ) → length (enc t) ≤ i → FromHere t i → nat_lt level_limit (deepest t) ≡ false
  deep_nowhere t i l f = sym f ∙ at_drop_all (list_any is_deep) (enc t) i l

-- ---- other texts

module _ {A B : Type 0} (f : A → B) where
  mutual
    pub deepest_with : (t : Tree A) → deepest (tree_with f t) ≡ deepest t
    deepest_with (Branch l ts) = deepest_in_with ts

    deepest_in_with : (ts : Forest A) → deepest_in (forest_with f ts) ≡ deepest_in ts
    deepest_in_with no_more = refl
    deepest_in_with (one_more t ts) = ap (λ n. max (suc n) (deepest_in (forest_with f ts))) (deepest_with t) ∙ ap (max (suc (deepest t))) (deepest_in_with ts)
