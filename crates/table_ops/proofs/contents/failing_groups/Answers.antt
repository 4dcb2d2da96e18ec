use Rattle.std.proofs.Common.{◌^◌, sym, subst, length, arith}
use Rattle.table_ops.specs.Columns.{AllWithin}
use Rattle.table_ops.proofs.ContentLaws.{places_few}
use Rattle.table_ops.proofs.Selecting.{within_from}
use Rattle.table_ops.proofs.contents.failing_groups.Goals as goal

pub fails-requires-clause-few : goal.fails-requires-clause-few
fails-requires-clause-few c = places_few (2 ^ 32) _ c.args.index.now c.places-rows.result.now c.places-rows.ensures c.requires.index

pub fails-requires-clause-within : goal.fails-requires-clause-within
fails-requires-clause-within c = subst (AllWithin (length c.args.input.now.rows)) (sym c.places-rows.ensures) (within_from _ 0 (length c.args.input.now.rows) c.args.index.now (omega (arith, c.requires.within)))
