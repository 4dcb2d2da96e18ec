-- What a sink takes (own rules).
use Rattle.std.specs.Prelude.{ℕ, ◌≡◌, ◌≤◌, ◌<◌, List, ◌++◌, length, take, Option, Some, None, Result, Ok, Err}
use Rattle.io_edge.specs.declared.edge.Failed.{Failed}

-- these bytes come behind those taken before, where they are told; whether they are told stays
abbrev pub TakesOf : Option (List ℕ) → Option (List ℕ) → List ℕ → Type 0
TakesOf None new bytes = new ≡ None
TakesOf (Some old) new bytes = new ≡ Some (old ++ bytes)

-- an Ok takes at least one byte, from the front; a Failed has taken nothing
abbrev pub Takes : Option (List ℕ) → Option (List ℕ) → List ℕ → Result ℕ Failed → Type 0
Takes old new piece (Ok n) = (0 < n) × (n ≤ length piece) × TakesOf old new (take n piece)
Takes old new piece (Err e) = new ≡ old

-- some prefix of the bytes was taken
pub record TakesPrefix (old new : Option (List ℕ)) (bytes : List ℕ) : Type 0 where
  pub n : ℕ
  pub within : n ≤ length bytes
  pub taken : TakesOf old new (take n bytes)
