-- The rows that were read, by places and by numbers (own rule).
use Rattle.std.specs.Prelude.{ℕ, ◌-◌, ◌^◌, ◌<◌, ◌≤◌, List, length, slice_index_or}
use Rattle.staircase.specs.declared.seen.Seen.{Seen}
pub use Rattle.doc_table.specs.Ascending.{In}

-- their numbers rise
abbrev pub IsRising : List Seen → Type 0
IsRising seen = (i j : ℕ) (d : Seen) → i < j → j < length seen → (slice_index_or seen i d).pre < (slice_index_or seen j d).pre

-- the rows before the place are before row `pre`, and the others aren't
pub record Splits (seen : List Seen) (pre low high : ℕ) : Type 0 where
  pub below : (k : ℕ) (d : Seen) → k < low → (slice_index_or seen k d).pre < pre
  pub above : (k : ℕ) (d : Seen) → high ≤ k → k < length seen → pre ≤ (slice_index_or seen k d).pre

abbrev pub IsPlaceOf : List Seen → ℕ → ℕ → Type 0
IsPlaceOf seen pre place = IsRising seen → Splits seen pre place place

-- exactly the rows between two numbers
pub record Between (seen : List Seen) (first end : ℕ) (part : List Seen) : Type 0 where
  pub within : (s : Seen) → In s part → In s seen × (first ≤ s.pre) × (s.pre < end)
  pub all : (s : Seen) → In s seen → first ≤ s.pre → s.pre < end → In s part

abbrev pub IsPartOf : List Seen → ℕ → ℕ → List Seen → Type 0
IsPartOf seen first end part = IsRising seen → Between seen first end part

-- numbers that can be made greater by one
pub record IsSmall (s : Seen) : Type 0 where
  pub pre : s.pre < 2 ^ 32 - 1
  pub last : s.last < 2 ^ 32 - 1
  pub level : s.level < 2 ^ 32 - 1

-- rows of one tree, ascending
pub record AreRows (seen : List Seen) : Type 0 where
  pub rising : IsRising seen
  pub small : (s : Seen) → In s seen → IsSmall s
  pub order : (s : Seen) → In s seen → s.pre ≤ s.last
