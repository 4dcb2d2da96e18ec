-- An order in which the declared functions that a query reaches are made: each is in it at most once (own rule).
use Rattle.std.specs.Prelude.{ℕ, suc, ◌+◌, ◌<◌, ◌≡◌, Bool, true, false, cond, List, [], ◌∷◌, length, take, get_or, Contains, Option, Some, None, slice_get}
use Rattle.xq_base.specs.declared.item.TextId.{TextId}
use Rattle.xq_ast.specs.declared.leaf.SeqType.{SeqType}
use Rattle.xq_ast.specs.declared.query.Declaration.{Declaration as CodeDeclaration}
use Rattle.xq_ast.specs.declared.query.Declaration.TheVariants as declaration_
use Rattle.core_scope.specs.Leaves.{ResolvedTree}
use Rattle.core_normal.specs.declared.order.Mark.{Mark}
use Rattle.core_normal.specs.declared.order.Mark.TheVariants as mark_
use Rattle.core_normal.specs.declared.order.Walk.{Walk}
use Rattle.core_normal.specs.Finding.{Finds, with_calls}
use Rattle.core_normal.specs.Measuring.{Declarations}

-- where the functions stand among the declarations, of which the first is the one of this number
abbrev pub places : ℕ → Declarations → List ℕ
places i [] = []
places i (declaration_.Var at x ty e ∷ ds) = places (i + 1) ds
places i (declaration_.Fun at n ps ty e ∷ ds) = i ∷ places (i + 1) ds

-- the declaration at a place
abbrev pub placed : Declarations → Option ℕ → Option (CodeDeclaration TextId ℕ SeqType ResolvedTree)
placed ds None = None
placed ds (Some i) = slice_get ds i

-- the calls of a declared function's body, behind what was found
abbrev pub body_calls : Option (CodeDeclaration TextId ℕ SeqType ResolvedTree) → Finds
body_calls None found = found
body_calls (Some (declaration_.Var at x ty e)) found = found
body_calls (Some (declaration_.Fun at n ps ty e)) found = with_calls e found

-- the calls of the prolog's variables, behind what was found
abbrev pub variable_calls : Declarations → Finds
variable_calls [] found = found
variable_calls (declaration_.Var at x ty e ∷ ds) found = variable_calls ds (with_calls e found)
variable_calls (declaration_.Fun at n ps ty e ∷ ds) found = variable_calls ds found

-- each number is below the bound, and none before it is the same
abbrev pub IsOrder : ℕ → List ℕ → Type 0
IsOrder n ks = (i : ℕ) → i < length ks → (get_or ks i 0 < n) × (Contains (take i ks) (get_or ks i 0) → ⊥)

abbrev pub is_new : Mark → Bool
is_new mark_.New = true
is_new mark_.Entered = false
is_new mark_.Placed = false

-- how much a walk may still find, where so much is found at each function that it didn't enter
abbrev pub left : (ℕ → ℕ) → List Mark → ℕ
left weight [] = 0
left weight (m ∷ ms) = cond (is_new m) (weight 0) 0 + left (λ k. weight (suc k)) ms

-- what a walk has found is an order, of functions that are marked so
pub record Walks (w : Walk) : Type 0 where
  pub in_order : IsOrder (length w.marks.items) w.order.items
  pub is_marked : (k : ℕ) → Contains w.order.items k → get_or w.marks.items k mark_.Placed ≡ mark_.Placed

-- the turns of a walk that are left at most: those that wait, and at each function one more than its calls
abbrev pub turns_at : Declarations → List ℕ → ℕ → ℕ
turns_at ds ps k = suc (length (body_calls (placed ds (slice_get ps k)) []))

abbrev pub turns_left : Declarations → List ℕ → Walk → ℕ
turns_left ds ps w = left (turns_at ds ps) w.marks.items + length w.turns.items
