-- The radix of the digits of a reference.
use Rattle.std.specs.Prelude.{ℕ, Bool, if◌then◌else◌}

abbrev pub radix_of : Bool → ℕ
radix_of hexadecimal = if hexadecimal then 16 else 10
