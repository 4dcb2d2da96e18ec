-- The rows on the way to those of a context, and the siblings after these (own rule).
use Rattle.std.specs.Prelude.{ℕ, suc, ◌≡◌, ◌+◌, ◌<◌, ◌≤◌, ◌⊎◌, Bool, true, false, ◌&&◌, ◌||◌, if◌then◌else◌, List, [], ◌∷◌, length, Option, Some, None, nat_lt}
use Rattle.xq_base.specs.declared.item.TextId.{TextId}
use Rattle.doc_table.specs.Tree.{Tree}
use Rattle.doc_table.specs.Enc.{Line, enc, line_in}
use Rattle.doc_table.specs.Axes.{on_following_sibling}
use Rattle.doc_table.specs.Places.{child, row_path}
use Rattle.doc_table.specs.Touched.{on_way}
use Rattle.staircase.specs.declared.near.Parent.{Parent}
use Rattle.staircase.specs.Ahead.{any, first_of, Comes}

-- row v is row c, an ancestor of c or a sibling before one of these, or else, where they are wanted, a
-- sibling after c
abbrev pub is_near_row : Bool → Tree TextId → ℕ → ℕ → Bool
is_near_row siblings t v c = on_way t v c || (siblings && on_following_sibling (row_path t c) (row_path t v))

-- the innermost parent has a context row among its children, where siblings are wanted
abbrev pub marked : Bool → List Parent → List Parent
marked false ps = ps
marked true [] = []
marked true (p ∷ ps) = record { pre = p.pre; end = p.end; passed = true } ∷ ps

-- a row is to come before this one
abbrev pub comes_before : Option ℕ → ℕ → Bool
comes_before None end = false
comes_before (Some first) end = nat_lt first end

-- the parent has rows that are wanted, from row `at` on
abbrev pub has_wanted : ℕ → Option ℕ → Parent → Bool
has_wanted at first p = nat_lt at p.end && (p.passed || comes_before first p.end)

-- without the inner parents that have no such row
abbrev pub parents_left : ℕ → Option ℕ → List Parent → List Parent
parents_left at first [] = []
parents_left at first (p ∷ ps) = if has_wanted at first p then p ∷ ps else parents_left p.end first ps

-- the row from which on the parents that are left have rows that are wanted
abbrev pub row_left : ℕ → Option ℕ → List Parent → ℕ
row_left at first [] = at
row_left at first (p ∷ ps) = if has_wanted at first p then at else row_left p.end first ps

-- the next row: a child of the innermost parent, or the root
abbrev pub next_near : List Parent → ℕ → Option ℕ → Option ℕ
next_near [] at None = None
next_near [] at (Some first) = Some at
next_near (p ∷ ps) at first = Some at

-- row v is the root, or a child of the innermost parent
abbrev pub IsInside : List (Line TextId) → ℕ → List Parent → Type 0
IsInside lines v [] = v ≡ 0
IsInside lines v (p ∷ ps) = child lines p.pre v ≡ true

-- each one holds its rows, and is a child of the one around it
abbrev pub AreParents : List (Line TextId) → List Parent → Type 0
AreParents lines [] = Unit {0}
AreParents lines (p ∷ ps) = (p.pre < length lines) × (p.end ≡ suc (p.pre + (line_in lines p.pre).size)) × IsInside lines p.pre ps × AreParents lines ps

-- row v is the next child of the innermost parent, or its end
abbrev pub IsNext : List (Line TextId) → ℕ → List Parent → Type 0
IsNext lines v [] = (v ≡ 0) ⊎ (length lines ≤ v)
IsNext lines v (p ∷ ps) = (p.pre < v) × (v ≤ p.end) × (v < p.end → child lines p.pre v ≡ true)

-- row w is a child of a parent with a context row among its children
abbrev pub is_passed : List (Line TextId) → ℕ → List Parent → Bool
is_passed lines w [] = false
is_passed lines w (p ∷ ps) = (p.passed && child lines p.pre w) || is_passed lines w ps

-- the rows from `at` on that are wanted are those for the rows that are still to come, and those for
-- the rows of the context that were passed
pub record NearAt (siblings : Bool) (t : Tree TextId) (rows rest : List ℕ) (parents : List Parent) (at : ℕ) : Type 0 where
  pub comes : Comes rows rest at (length (enc t))
  pub parents_ok : AreParents (enc t) parents
  pub next : IsNext (enc t) at parents
  pub near : (w : ℕ) → at ≤ w → w < length (enc t) → any (is_near_row siblings t w) rows ≡ (any (is_near_row siblings t w) rest || is_passed (enc t) w parents)

-- the innermost parent has rows that are wanted
abbrev pub GoesOn : ℕ → Option ℕ → List Parent → Type 0
GoesOn at first [] = Unit {0}
GoesOn at first (p ∷ ps) = has_wanted at first p ≡ true

-- all rows below `from` are done, and row `at` comes next
pub record NearAhead (siblings : Bool) (t : Tree TextId) (rows rest : List ℕ) (parents : List Parent) (at from : ℕ) : Type 0 where
  pub here : NearAt siblings t rows rest parents at
  pub goes : GoesOn at (first_of rest) parents
  pub later : from ≤ at
  pub none : (w : ℕ) → from ≤ w → w < at → any (is_near_row siblings t w) rows ≡ false
