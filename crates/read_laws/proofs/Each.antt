-- What holds of each value of a list, and of a value that may be missing.
use Rattle.std.proofs.Common.{List, [], ◌∷◌, Option, Some, None}

abbrev pub Each : {A : Type 0} → (A → Type 0) → List A → Type 0
Each P [] = Unit {0}
Each P (x ∷ xs) = P x × Each P xs

abbrev pub Perhaps : {A : Type 0} → (A → Type 0) → Option A → Type 0
Perhaps P None = Unit {0}
Perhaps P (Some x) = P x
