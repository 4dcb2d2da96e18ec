-- A table of sizes of which those that are known are right once calls go at least so deep.
use Rattle.std.specs.Prelude.{ℕ, ◌≤◌, ◌≡◌, true, false, List, [], ◌∷◌}
use Rattle.core_meaning.specs.Erasure.{Texts}
use Rattle.core_normal.specs.declared.sized.FunSize.{FunSize}
use Rattle.core_normal.specs.Ends.{Known}
use Rattle.core_normal.specs.Measuring.{Declarations, declarations}
use Rattle.core_normal.specs.Query.{functions}
use Rattle.core_normal.specs.SizedQuery.{sizes_within}

-- no size is known
abbrev pub AreUnknown : List FunSize → Type 0
AreUnknown [] = Unit {0}
AreUnknown (h ∷ hs) = (h.body.is_known ≡ false) × AreUnknown hs

-- a size that is known is the one with calls inside it to any depth from this on
abbrev pub IsSettled : Texts → Declarations → ℕ → List FunSize → Type 0
IsSettled t ds n table = (m : ℕ) → n ≤ m → Known true table (sizes_within m (functions (declarations t ds)))
