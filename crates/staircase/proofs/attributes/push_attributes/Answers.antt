use Rattle.doc_table.proofs.Marks.{bridge}
use Rattle.doc_table.proofs.RowNodes.{named_row, owner_element}
use Rattle.staircase.specs.Joins.{place_of}
use Rattle.staircase.proofs.attributes.push_attributes.Goals as goal

pub attributes-requires-clause-row : goal.attributes-requires-clause-row
attributes-requires-clause-row g c = named_row (g.R.Rows.tree c.args.rows.now) (place_of c.args.ctx) (bridge (g.R.Rows.tree c.args.rows.now)) c.requires.node

pub attributes-requires-clause-element : goal.attributes-requires-clause-element
attributes-requires-clause-element g c = owner_element (g.R.Rows.tree c.args.rows.now) (place_of c.args.ctx) c.requires.node c.if-ctx-gt0.true

pub attributes-requires-in-Some-clause-row : goal.attributes-requires-in-Some-clause-row
attributes-requires-in-Some-clause-row g c = named_row (g.R.Rows.tree c.args.rows.now) (place_of c.args.ctx) (bridge (g.R.Rows.tree c.args.rows.now)) c.requires.node
