-- How large a fragment may be (own rule).
use Rattle.std.specs.Prelude.{ℕ, ◌-◌, ◌^◌}

-- a fragment has fewer rows than this, and fewer attributes
abbrev pub size_limit : ℕ
size_limit = 2 ^ 32 - 1
