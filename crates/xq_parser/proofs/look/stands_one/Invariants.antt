use Rattle.std.proofs.Common.{◌≡◌, drop}
use Rattle.xq_ast.specs.Look.{stands_one, syms}
use Rattle.xq_parser.proofs.look.stands_one.Given as goal

abbrev pub invariant-loop-kind : goal.invariant-loop-kind
invariant-loop-kind l = stands_one l.text (syms l.fn.due l.kinds) l.at ≡ stands_one l.text (syms l.fn.due (drop l.kind-index l.kinds)) l.at
