-- Pieces of content, or of a value, that are one run with those behind them, if there are any.
use Rattle.std.specs.Prelude.{Bool, true, false, ◌&&◌, ◌++◌, Option, Some, None}
use Rattle.xq_base.specs.Texts.{Text}
use Rattle.core_scope.specs.Syn.{Parts, Values, resolved}
use Rattle.core_scope.specs.Syn as s
use Rattle.core_scope.specs.Resolving.{with_piece, with_value}

-- the run before other parts
abbrev pub pending_run : Option (Text × Bool) → Parts resolved → Parts resolved
pending_run None ps = ps
pending_run (Some r) ps = with_piece r.0 r.1 ps

-- with a piece more, which may be white space
abbrev pub added_run : Option (Text × Bool) → Text → Bool → Option (Text × Bool)
added_run None x white = Some (x, white)
added_run (Some r) x white = Some (r.0 ++ x, r.1 && white)

abbrev pub begins_with_run : Parts resolved → Bool
begins_with_run (s.run r ps) = true
begins_with_run _ = false

-- the same in a value
abbrev pub pending_value : Option Text → Values resolved → Values resolved
pending_value None vs = vs
pending_value (Some x) vs = with_value x vs

abbrev pub added_value : Option Text → Text → Option Text
added_value None x = Some x
added_value (Some y) x = Some (y ++ x)

abbrev pub begins_with_value : Values resolved → Bool
begins_with_value (s.value_run x vs) = true
begins_with_value _ = false
