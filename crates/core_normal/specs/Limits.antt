-- The limits of a Core (own rule), and what normalisation gives.
use Rattle.std.specs.Prelude.{◌≡◌, ℕ, ◌-◌, ◌^◌, Bool, true, false, ◌||◌, min, nat_lt}
use Rattle.core_meaning.specs.PlainCore.{PlainCore}
use Rattle.core_meaning.specs.Size.{nodes, levels}
use Rattle.core_scope.specs.Syn.{Query, resolved}
use Rattle.core_normal.specs.Query.{core_of_query}

abbrev pub max_nodes : ℕ
max_nodes = 65536

abbrev pub max_levels : ℕ
max_levels = 4096

abbrev pub is_too_large : PlainCore → Bool
is_too_large core = nat_lt max_nodes (nodes core) || nat_lt max_levels (levels core)

-- the greatest number of 64 bits, at which both numbers end
abbrev pub ended : ℕ → ℕ
ended n = min n (2 ^ 64 - 1)

-- a Core within the limits, or the nodes and levels of one beyond them
pub data Normal : Type 0 where
  core : PlainCore → Normal
  too_large : ℕ → ℕ → Normal

abbrev pub Normalises : Query resolved → Normal → Type 0
Normalises q (core x) = (is_too_large (core_of_query q) ≡ false) × (x ≡ core_of_query q)
Normalises q (too_large n m) = (is_too_large (core_of_query q) ≡ true) × (n ≡ ended (nodes (core_of_query q))) × (m ≡ ended (levels (core_of_query q)))
