use Rattle.table_ops.proofs.PlainLaws.{attach_need, attach_whole}
use Rattle.table_ops.proofs.plain.attach.Goals as goal

pub beside-requires : goal.beside-requires
beside-requires c =
    let h = attach_need c.args.input.now c.in_ok-added.added c.args.col c.constant.result c.height.result c.in_ok-cells.cells.items c.height.ensures c.in_ok-cells.ensures c.in_ok-added.ensures c.requires in
    record { few = h.0; as_high = h.1 }

pub returns : goal.returns
returns c = attach_whole c.beside.result c.args.input.now c.in_ok-added.added c.args.col c.args.value c.constant.result c.height.result c.in_ok-cells.cells.items c.height.ensures c.constant.ensures c.in_ok-cells.ensures c.in_ok-added.ensures c.beside.ensures
