use Rattle.std.proofs.Common.{◌≡◌, subst, map, IfOk}
use Rattle.doc_table.specs.Notes.{Reading}
use Rattle.doc_table.proofs.Marks.{bridge}
use Rattle.staircase.specs.Seen.{seen_of}
use Rattle.staircase.proofs.PassStarts.{own-start, own-rows}
use Rattle.staircase.proofs.reads.read_own.Goals as goal

pub read_rows-requires : goal.read_rows-requires
read_rows-requires g c = record { knows = own-start c.args.axis (g.R.Rows.tree c.args.rows.now) c.args.context.now c.args.found.now (bridge (g.R.Rows.tree c.args.rows.now)) c.requires.ascending c.requires.nodes c.requires.found }

pub returns-clause-notes : goal.returns-clause-notes
returns-clause-notes g c = subst (λ z. Reading c.args.reads.now.notes c.read_rows.new.reads.notes c.args.site c.args.frag z c.read_rows.result) (own-rows c.args.axis (g.R.Rows.tree c.args.rows.now) c.args.context.now c.args.found.now c.requires.axis c.requires.found) c.read_rows.ensures.notes

pub returns-clause-seen : goal.returns-clause-seen
returns-clause-seen g c = subst (λ z. IfOk c.read_rows.result (λ seen. seen.items ≡ map (seen_of c.args.axis c.args.test (g.R.Rows.tree c.args.rows.now)) z)) (own-rows c.args.axis (g.R.Rows.tree c.args.rows.now) c.args.context.now c.args.found.now c.requires.axis c.requires.found) c.read_rows.ensures.seen
