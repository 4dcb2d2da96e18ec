use Rattle.std.proofs.Common.{◌<◌, arith, length}
use Rattle.doc_table.specs.Enc.{enc, line_in}
use Rattle.doc_table.proofs.StringValues.{element-row}
use Rattle.table_ops.proofs.contents.attribute_name.Goals as goal

pub attributes-requires-clause-element : goal.attributes-requires-clause-element
attributes-requires-clause-element c =
    let some : 0 < length (line_in (enc c.args.frag.now) c.args.pre).attributes = omega (arith, c.requires.number) in
    element-row c.args.frag.now c.args.pre c.requires.row some
