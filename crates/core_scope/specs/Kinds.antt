-- The two kinds of refusals that need the paths of calls, over graphs.
use Rattle.std.specs.Prelude.{◌≡◌, ℕ, ◌<◌, ◌≤◌, List, [], length, get_or, Contains, ◌⊎◌}
use Rattle.xq_base.specs.declared.code.Code.TheVariants as code
use Rattle.core_scope.specs.declared.refusal.Refusal.{Refusal}
use Rattle.core_scope.specs.declared.found.DeclaredCall.{DeclaredCall}
use Rattle.core_scope.specs.Walk.{refused}
use Rattle.core_scope.specs.Refusals.{Comes}
use Rattle.core_scope.specs.Search.{Graph, targets}

-- of a function below this number that calls itself, by the places of the functions
abbrev pub IsRecursive : Graph → List ℕ → ℕ → Refusal → Type 0
IsRecursive calls offsets n r =
    (k : ℕ) × (k < n) × Comes (targets calls) k k × (r ≡ refused code.PFRC0001 (get_or offsets k 0))

-- a function refers to a variable, itself or through calls
abbrev pub RefersTo : Graph → Graph → ℕ → ℕ → Type 0
RefersTo calls refers f m = Contains (targets refers f) m ⊎ ((h : ℕ) × Comes (targets calls) f h × Contains (targets refers h) m)

-- of a call in the value of a variable of this number or a later one, whose function refers to this variable or a later one
abbrev pub IsTooSoon : Graph → Graph → List (List DeclaredCall) → ℕ → Refusal → Type 0
IsTooSoon calls refers values n r =
    (j : ℕ) × (n ≤ j) × (c : DeclaredCall) × Contains (get_or values j []) c × (m : ℕ) × (j ≤ m) × RefersTo calls refers c.function m
    × (r ≡ refused code.XPST0008 c.offset)
