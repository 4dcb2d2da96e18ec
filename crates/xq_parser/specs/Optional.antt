-- A sign that may stand at a place (own rule).
use Rattle.std.specs.Prelude.{◌≡◌, ℕ, List, Some, None, Ok, if◌then◌else◌}
use Rattle.xq_ast.specs.declared.look.Due.{Due}
use Rattle.xq_ast.specs.declared.look.Look.{Look}
use Rattle.xq_ast.specs.Look.{looks}
use Rattle.xq_parser.specs.Parsers.{some_of}
use Rattle.xq_parser.specs.Outcomes.{reads_sign}

-- the place behind it, or the same place where it doesn't stand
abbrev pub PassesMaybe : List ℕ → Due → Look → ℕ → ℕ → Type 0
PassesMaybe text due kind at to = some_of (looks text due kind) (reads_sign text due kind) at ≡ Ok (if looks text due kind at then Some tt else None, to)
