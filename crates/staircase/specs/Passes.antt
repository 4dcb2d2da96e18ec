-- The next row that a pass reads (own rule).
use Rattle.std.specs.Prelude.{ℕ, ◌≡◌, ◌+◌, ◌<◌, ◌≤◌, Bool, true, false, ◌||◌, List, length, min, nat_lt, nat_le, Option, Some, None}
use Rattle.xq_base.specs.declared.item.TextId.{TextId}
use Rattle.doc_table.specs.Enc.{Line, line_in}
use Rattle.doc_table.specs.Places.{below}
use Rattle.staircase.specs.Ahead.{any, has, Comes}

-- the first row at or after `from` that is wanted, with what is known there; or none below `total`
abbrev pub NextIs : (ℕ → Bool) → (ℕ → Type 0) → ℕ → ℕ → Option ℕ → Type 0
NextIs wants knows from total None = (w : ℕ) → from ≤ w → w < total → wants w ≡ false
NextIs wants knows from total (Some at) = (from ≤ at) × (at < total) × (wants at ≡ true) × knows at × ((w : ℕ) → from ≤ w → w < at → wants w ≡ false)

-- the rows still to come that are below a row of the context are those before `reach`, and those below
-- a row of the context that is still to come
pub record Reached (lines : List (Line TextId)) (rows rest : List ℕ) (reach from : ℕ) : Type 0 where
  pub comes : Comes rows rest from (length lines)
  pub within : reach ≤ length lines
  pub reached : (w : ℕ) → from ≤ w → any (λ c. below lines c w) rows ≡ (nat_lt w reach || any (λ c. below lines c w) rest)

-- row v comes after the subtree of row c
abbrev pub follows : List (Line TextId) → ℕ → ℕ → Bool
follows lines c v = nat_lt (c + (line_in lines c).size) v

-- the rows still to come that follow a node of the context are those from `beyond` on, and those that
-- follow a node that is still to come
pub record Follows (lines : List (Line TextId)) (rows rest owners owners_rest : List ℕ) (beyond from : ℕ) : Type 0 where
  pub comes : Comes rows rest from (length lines)
  pub owning : Comes owners owners_rest from (length lines)
  pub own : (w : ℕ) → has w owners ≡ true → has w rows ≡ true
  pub beyond_rows : (w : ℕ) → from ≤ w → w < length lines → (any (λ c. follows lines c w) rows || any (λ c. nat_lt c w) owners) ≡ (nat_le beyond w || (any (λ c. follows lines c w) rest || any (λ c. nat_lt c w) owners_rest))

-- the lesser of both, where there is a first one
abbrev pub earlier : Option ℕ → ℕ → ℕ
earlier None then = then
earlier (Some at) then = min at then

-- the first row of those that follow a node read so far, where row `at` was read last
abbrev pub nearer : ℕ → Bool → Bool → ℕ → ℕ → ℕ
nearer beyond is_row true at last = min beyond (at + 1)
nearer beyond true false at last = min beyond (last + 1)
nearer beyond false false at last = beyond
