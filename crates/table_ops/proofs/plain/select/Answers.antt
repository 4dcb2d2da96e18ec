use Rattle.std.proofs.Common.{List, ap, sym, subst, ◌∙◌, ◌<◌, length}
use Rattle.table_ops.specs.Chains.{places_of}
use Rattle.table_ops.specs.Picks.{is_true_item}
use Rattle.table_ops.specs.Columns.{rows_at, AllWithin}
use Rattle.table_ops.proofs.Combining.{if_ok_is, whole}
use Rattle.table_ops.proofs.Selecting.{true_rows, true_within, cells_many}
use Rattle.table_ops.proofs.plain.select.Goals as goal

pub true_places-requires : goal.true_places-requires
true_places-requires c = subst (λ n. n < 4294967296) (sym (ap (λ (z : List _). length z) c.cells.ensures ∙ cells_many c.args.input.now.cols c.args.col c.args.input.now.rows)) c.requires.few

pub gather-requires : goal.gather-requires
gather-requires c =
    subst (AllWithin (length c.args.input.now.rows)) (sym (c.deref.ensures.value ∙ c.in_ok-places.ensures ∙ ap (places_of is_true_item 0) c.cells.ensures)) (true_within c.args.input.now.cols c.args.col c.args.input.now.rows)

pub returns : goal.returns
returns c =
    if_ok_is c.gather.result _ _
    (ap (λ z. whole c.args.input.now.cols (rows_at c.args.input.now.rows z)) (c.deref.ensures.value ∙ c.in_ok-places.ensures ∙ ap (places_of is_true_item 0) c.cells.ensures)
    ∙ ap (whole c.args.input.now.cols) (true_rows c.args.input.now.cols c.args.col c.args.input.now.rows))
    c.gather.ensures
