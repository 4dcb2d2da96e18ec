-- The order of two values as a comparison reads it (own rule).
use Rattle.std.specs.Prelude.{Bool, true, false, ℤ, pos, negsuc}
use Rattle.std.specs.declared.cmp.Ordering.{Ordering}
use Rattle.std.specs.declared.cmp.Ordering.TheVariants.{Less, Equal, Greater}

abbrev pub tells_equal : Ordering → Bool
tells_equal Less = false
tells_equal Equal = true
tells_equal Greater = false

abbrev pub tells_less : Ordering → Bool
tells_less Less = true
tells_less Equal = false
tells_less Greater = false

abbrev pub number_of : Ordering → ℤ
number_of Less = negsuc 0
number_of Equal = pos 0
number_of Greater = pos 1
