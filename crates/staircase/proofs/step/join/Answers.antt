use Rattle.std.proofs.Common.{◌∙◌, ◌<◌, length, ℕ, List, sym, subst, arith}
use Rattle.std.proofs.lemmas.List.{take_all}
use Rattle.xq_base.specs.declared.item.TextId.{TextId}
use Rattle.doc_table.specs.Tree.{Tree}
use Rattle.doc_table.specs.Enc.{enc}
use Rattle.doc_table.specs.Notes.{AppendsAll, notes_of}
use Rattle.doc_table.specs.Touched.{touched_rows}
use Rattle.staircase.specs.Joins.{places}
use Rattle.staircase.proofs.GatherLaws.{ready-rows, ready-seen}
use Rattle.staircase.proofs.step.join.Goals as goal

pub finish-requires-clause-rows : goal.finish-requires-clause-rows
finish-requires-clause-rows g c =
    let t : Tree TextId = g.R.Rows.tree c.args.rows.now in
    let few : length (enc t) < 4294967296 = subst (λ z. z < 4294967296) c.len-total.ensures.length c.len-total.type_inv in
    ready-rows c.args.axis c.args.test t c.args.context.now c.as_slice-3.result.now few (c.as_slice-3.ensures.value ∙ c.in_ok-seen.ensures.seen)

pub finish-requires-clause-seen : goal.finish-requires-clause-seen
finish-requires-clause-seen g c = ready-seen c.args.axis c.args.test (g.R.Rows.tree c.args.rows.now) c.args.context.now c.as_slice-3.result.now (c.as_slice-3.ensures.value ∙ c.in_ok-seen.ensures.seen)

pub returns-clause-notes : goal.returns-clause-notes
returns-clause-notes g c =
    let rows : List ℕ = touched_rows c.args.axis (g.R.Rows.tree c.args.rows.now) (places c.args.context.now) in
    (length rows, subst (λ z. AppendsAll c.args.reads.now.notes c.read_axis.new.reads.notes (notes_of c.args.site c.args.frag z)) (sym (take_all (length rows) rows (omega arith))) c.in_ok-seen.ensures.notes)
