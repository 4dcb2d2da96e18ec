use Rattle.std.proofs.Common.{◌∙◌, ap, subst}
use Rattle.doc_table.specs.Ascending.{In}
use Rattle.doc_table.specs.Notes.{AppendsAll, notes_of}
use Rattle.staircase.specs.Joins.{tally_of}
use Rattle.xq_base.specs.declared.item.FragKey.TheVariants as f
use Rattle.plan_eval.proofs.DocumentHits.{context-named, context-touched, context-counts}
use Rattle.plan_eval.proofs.found.find_in.Goals as goal

pub join-requires-clause-nodes : goal.join-requires-clause-nodes
join-requires-clause-nodes g c = λ d i. context-named c.args.rank c.args.frag.now c.args.entries.now c.in_ok-from.from.items c.requires c.in_ok-from.ensures d (subst (λ z. In d z) c.as_slice.ensures.value i)

pub returns-clause-notes : goal.returns-clause-notes
returns-clause-notes g c =
    subst (λ rows. AppendsAll c.args.reads.now.notes c.join.new.reads.notes (notes_of c.args.site (f.Doc c.args.rank) rows))
    (context-touched c.args.axis c.args.frag.now c.args.rank c.args.entries.now c.as_slice.result.now c.in_ok-from.from.items c.as_slice.ensures.value c.in_ok-from.ensures) c.in_ok-tally.ensures.notes

pub returns-clause-tally : goal.returns-clause-tally
returns-clause-tally g c = c.in_ok-tally.ensures.tally ∙ ap tally_of (context-counts c.args.axis c.args.frag.now c.args.rank c.args.entries.now c.as_slice.result.now c.in_ok-from.from.items c.as_slice.ensures.value c.in_ok-from.ensures)
