use Rattle.table_ops.specs.Filed.{AreFiled}
use Rattle.table_ops.proofs.chains.file.Given as goal

abbrev pub invariant-loop-key : goal.invariant-loop-key
invariant-loop-key l = AreFiled l.key l.keys l.spans.items l.places.items
