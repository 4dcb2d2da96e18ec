use Rattle.std.proofs.Common.{arith}
use Rattle.table_ops.specs.Columns.{no_cell}
use Rattle.table_ops.proofs.FaultLaws.{node_given, names_turn, names_end}
use Rattle.table_ops.proofs.contents.names_of.Goals as goal

pub put_name-requires : goal.put_name-requires
put_name-requires c = node_given c.args.store.now c.args.cells.now c.loop-place.place c.requires

pub loop-place-preserved : goal.loop-place-preserved
loop-place-preserved c = (
  λ texts. names_turn texts c.args.store.now c.args.cells.now no_cell c.loop-place.place c.loop-place.out.items c.put_name.new.out.items c.loop-place-test.true (c.in_ok-put_name.ensures.names texts) (c.loop-place.invariant.0 texts),
  omega (arith, c.loop-place.invariant.1, c.in_ok-put_name.ensures.few),
  λ texts trees. c.in_ok-put_name.ensures.given texts trees (c.loop-place.invariant.2 texts trees),
)

pub returns-clause-names : goal.returns-clause-names
returns-clause-names c = λ texts. names_end texts c.args.store.now c.args.cells.now c.loop-place.out.items c.loop-place.place (omega (arith, c.loop-place-test.false)) (c.loop-place.invariant.0 texts)
