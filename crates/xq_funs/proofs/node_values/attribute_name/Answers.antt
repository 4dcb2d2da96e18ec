use Rattle.std.proofs.Common.{arith}
use Rattle.doc_table.proofs.StringValues.{element-row}
use Rattle.xq_funs.proofs.node_values.attribute_name.Goals as goal

pub attributes-requires-clause-element : goal.attributes-requires-clause-element
attributes-requires-clause-element c = element-row c.args.frag.now c.args.pre c.requires.row (omega (arith, c.requires.number))
