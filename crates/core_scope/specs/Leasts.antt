-- The first of the refusals that a relation has, and the first of two.
use Rattle.std.specs.Prelude.{◌≡◌, Bool, true, false, Option, Some, None}
use Rattle.core_scope.specs.declared.refusal.Refusal.{Refusal}
use Rattle.core_scope.specs.Refusals.{is_before, earlier}

-- none where there is no such refusal; else one of them before which none stands
abbrev pub IsLeast : (Refusal → Type 0) → Option Refusal → Type 0
IsLeast P None = (x : Refusal) → P x → ⊥
IsLeast P (Some r) = P r × ((x : Refusal) → P x → is_before x r ≡ false)

abbrev pub first_of_two : Option Refusal → Option Refusal → Option Refusal
first_of_two None b = b
first_of_two (Some a) b = Some (earlier a b)

-- a refusal stands before the one that is the first so far
abbrev pub is_first : Refusal → Option Refusal → Bool
is_first a None = true
is_first a (Some b) = is_before a b
