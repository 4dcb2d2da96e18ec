-- Characters by their places, counted from 0 (own rule).
use Rattle.std.specs.Prelude.{ℕ, ◌+◌, ◌-◌, ℤ, pos, negsuc, ◌+ℤ◌}

-- a number, or 0 in place of one below it
abbrev pub natural : ℤ → ℕ
natural (pos n) = n
natural (negsuc n) = 0

-- how many characters stand before the first place that a start selects
abbrev pub skipped : ℤ → ℕ
skipped start = natural start - 1

-- how many are selected from there on
abbrev pub selected : ℤ → ℤ → ℕ
selected start n = natural (start +ℤ n) - (skipped start + 1)
