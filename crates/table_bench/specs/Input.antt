-- The bytes that were read (own rule).
use Rattle.std.specs.Prelude.{ℕ, ◌≡◌, ◌≤◌, ◌<◌, List, length, Option, Some, None}

-- the most rows of a table
abbrev pub row_limit : ℕ
row_limit = 16_777_216

-- these are the bytes that the reader had, where it tells them
abbrev pub AreKnown : Option (List ℕ) → List ℕ → Type 0
AreKnown None bytes = Unit {0}
AreKnown (Some known) bytes = bytes ≡ known

-- all bytes of a reader, so many at most
pub record IsWhole (known : Option (List ℕ)) (bytes : List ℕ) : Type 0 where
  pub are_known : AreKnown known bytes
  pub few : length bytes ≤ row_limit

-- the reader had more bytes, where it tells them
abbrev pub IsLong : Option (List ℕ) → Type 0
IsLong None = Unit {0}
IsLong (Some known) = row_limit < length known
