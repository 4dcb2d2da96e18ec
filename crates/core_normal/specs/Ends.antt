-- Sizes whose numbers end at the greatest one of 64 bits (own rule).
use Rattle.std.specs.Prelude.{ℕ, ◌≡◌, Bool, true, false, cond, List, [], ◌∷◌, Option, Some, None, slice_get}
use Rattle.core_meaning.specs.Types.{SequenceTest}
use Rattle.core_normal.specs.declared.sizes.Size.{Size as Held}
use Rattle.core_normal.specs.declared.sized.FunSize.{FunSize as HeldFun}
use Rattle.core_normal.specs.Limits.{ended}
use Rattle.core_normal.specs.Sizes.{Size, FunSize}
use Rattle.core_normal.specs.SizedQuery.{no_size}

-- where sizes must be known to be told, an unknown one isn't
abbrev pub is_told : Bool → Bool → Bool
is_told must is_known = cond must is_known true

-- the code's numbers are these, ended
pub record Ends (must : Bool) (h : Held) (a : Size) : Type 0 where
  pub nodes : is_told must h.is_known ≡ true → h.nodes ≡ ended a.nodes
  pub levels : is_told must h.is_known ≡ true → h.levels ≡ ended a.levels

abbrev pub has_type : Option SequenceTest → Bool
has_type None = false
has_type (Some t) = true

abbrev pub has_types : List (Option SequenceTest) → List Bool
has_types [] = []
has_types (t ∷ ts) = has_type t ∷ has_types ts

-- a function's size is this, ended
pub record FunEnds (must : Bool) (h : HeldFun) (f : FunSize) : Type 0 where
  pub typed : is_told must h.body.is_known ≡ true → h.typed.items ≡ has_types f.types
  pub body : Ends must h.body f.body

abbrev pub KnownAt : Bool → Option HeldFun → FunSize → Type 0
KnownAt must None f = f ≡ no_size
KnownAt must (Some h) f = FunEnds must h f

-- the table has the functions' sizes, ended
pub record Known (must : Bool) (table : List HeldFun) (funs : ℕ → FunSize) : Type 0 where
  pub at_number : (k : ℕ) → KnownAt must (slice_get table k) (funs k)
