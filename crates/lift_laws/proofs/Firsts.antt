-- First occurrences of numbers among rows.
use Rattle.std.proofs.Common.{◌≡◌, ℕ, ◌+◌, Bool, true, false, cond, not, ◌&&◌, ◌||◌, List, [], ◌∷◌, refl, sym, ap, ◌∙◌, add-zero, zero-add}
use Rattle.std.specs.List.{list_any}
use Rattle.plan_dag.specs.Orders.{has, firsts}
use Rattle.plan_dag.specs.ItemRules.{Cell, cell_eq}
use Rattle.plan_dag.specs.Meaning.{cell}
use Rattle.lift_laws.specs.Sums.{total}
use Rattle.lift_laws.specs.Iterations.{Row, num}
use Rattle.lift_laws.specs.States.{column, three}
use Rattle.lift_laws.specs.Shapes.{bare, any_rows}
use Rattle.lift_laws.proofs.Numbers.{num_is}
use Rattle.lift_laws.proofs.Simple.{is_there}

-- a row's item, and the number of its iteration
abbrev pub item : Row → Cell
item r = cell bare three (column 2) r

abbrev pub key : Row → Cell
key r = cell bare three (column 0) r

abbrev pub keys_same : Row → Row → Bool
keys_same q r = cell_eq (key q) (key r)

abbrev pub named : ℕ → List Row → Bool
named n rs = list_any (λ r. cell_eq (num n) (key r)) rs

has_named : (n : ℕ) (x : Row) (seen : List Row) → key x ≡ num n → has keys_same x seen ≡ named n seen
has_named n x [] e = refl
has_named n x (r ∷ rs) e = ap (λ v. cell_eq v (key r) || has keys_same x rs) e ∙ ap (λ b. cell_eq (num n) (key r) || b) (has_named n x rs e)

-- a sum over first occurrences sees each number once
pub one_first : (n : ℕ) (h : Cell → ℕ) (seen rs : List Row) → total (λ r. cond (cell_eq (num n) (key r)) (h (key r)) 0) (firsts keys_same seen rs) ≡ cond (named n rs && not (named n seen)) (h (num n)) 0
one_first n h seen [] = refl
one_first n h seen (x ∷ rs) = go (cell_eq (num n) (key x)) refl (has keys_same x seen) refl (one_first n h seen rs) (one_first n h (x ∷ seen) rs)
  where
    none : (b : Bool) → (b && not true) ≡ false
    none true = refl
    none false = refl

    go : (b : Bool) → cell_eq (num n) (key x) ≡ b → (d : Bool) → has keys_same x seen ≡ d
        → total (λ r. cond (cell_eq (num n) (key r)) (h (key r)) 0) (firsts keys_same seen rs) ≡ cond (named n rs && not (named n seen)) (h (num n)) 0
        → total (λ r. cond (cell_eq (num n) (key r)) (h (key r)) 0) (firsts keys_same (x ∷ seen) rs) ≡ cond (named n rs && not (cell_eq (num n) (key x) || named n seen)) (h (num n)) 0
        → total (λ r. cond (cell_eq (num n) (key r)) (h (key r)) 0) (cond d (firsts keys_same seen rs) (x ∷ firsts keys_same (x ∷ seen) rs)) ≡ cond ((cell_eq (num n) (key x) || named n rs) && not (named n seen)) (h (num n)) 0
    go true e true d r q =
        let s : named n seen ≡ true = sym (has_named n x seen (num_is n (key x) e)) ∙ d in
        r ∙ ap (λ b. cond (named n rs && not b) (h (num n)) 0) s ∙ ap (λ b. cond b (h (num n)) 0) (none (named n rs))
        ∙ sym (ap (λ b. cond ((cell_eq (num n) (key x) || named n rs) && not b) (h (num n)) 0) s ∙ ap (λ b. cond b (h (num n)) 0) (none (cell_eq (num n) (key x) || named n rs)))
    go true e false d r q =
        let s : named n seen ≡ false = sym (has_named n x seen (num_is n (key x) e)) ∙ d in
        let z : total (λ r. cond (cell_eq (num n) (key r)) (h (key r)) 0) (firsts keys_same (x ∷ seen) rs) ≡ 0 =
        q ∙ ap (λ b. cond (named n rs && not (b || named n seen)) (h (num n)) 0) e ∙ ap (λ b. cond b (h (num n)) 0) (none (named n rs)) in
        ap (λ b. cond b (h (key x)) 0 + total (λ r. cond (cell_eq (num n) (key r)) (h (key r)) 0) (firsts keys_same (x ∷ seen) rs)) e
        ∙ ap (λ t. h (key x) + t) z ∙ add-zero (h (key x)) ∙ ap h (num_is n (key x) e)
        ∙ sym (ap (λ b. cond ((b || named n rs) && not (named n seen)) (h (num n)) 0) e ∙ ap (λ b. cond (true && not b) (h (num n)) 0) s)
    go false e true d r q = r ∙ sym (ap (λ b. cond ((b || named n rs) && not (named n seen)) (h (num n)) 0) e)
    go false e false d r q =
        ap (λ b. cond b (h (key x)) 0 + total (λ r. cond (cell_eq (num n) (key r)) (h (key r)) 0) (firsts keys_same (x ∷ seen) rs)) e ∙ zero-add _ ∙ q
        ∙ ap (λ b. cond (named n rs && not (b || named n seen)) (h (num n)) 0) e
        ∙ sym (ap (λ b. cond ((b || named n rs) && not (named n seen)) (h (num n)) 0) e)

pub named_there : (n : ℕ) (rs : List Row) → named n rs ≡ is_there (num n) (any_rows rs)
named_there n [] = refl
named_there n (r ∷ rs) = ap (λ b. cell_eq (num n) (key r) || b) (named_there n rs)
