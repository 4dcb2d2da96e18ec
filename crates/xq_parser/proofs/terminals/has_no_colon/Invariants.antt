use Rattle.std.proofs.Common.{◌≡◌, drop}
use Rattle.xq_ast.specs.Terminals.{has_no_colon}
use Rattle.xq_parser.proofs.terminals.has_no_colon.Given as goal

abbrev pub invariant-loop-b : goal.invariant-loop-b
invariant-loop-b l = has_no_colon l.name ≡ has_no_colon (drop l.b-index l.name)
