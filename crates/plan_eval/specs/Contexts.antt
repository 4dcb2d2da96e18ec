-- The context of a step over the rows of its input, the rows of documents that it touches, and what it
-- counts (own rule).
use Rattle.std.specs.Prelude.{ℕ, suc, ◌+◌, pos, Bool, true, false, List, [], ◌∷◌, ◌++◌}
use Rattle.std.specs.List.{filter, flat_map}
use Rattle.xq_base.specs.declared.axis.Axis.{Axis}
use Rattle.xq_base.specs.declared.item.FragKey.TheVariants as f
use Rattle.xq_base.specs.Texts.{Text}
use Rattle.doc_table.specs.declared.ledger.Note.{Note}
use Rattle.doc_table.specs.Tree.{Tree}
use Rattle.doc_table.specs.Places.{Place, node_at}
use Rattle.doc_table.specs.Identity.{Node, DocTree, node_eq}
use Rattle.doc_table.specs.Items.{IntItem, NodeItem}
use Rattle.doc_table.specs.NodeRows.{places_of}
use Rattle.doc_table.specs.NodeRules.{Docs}
use Rattle.doc_table.specs.Notes.{notes_of}
use Rattle.doc_table.specs.Orders.{has}
use Rattle.doc_table.specs.Touched.{touched_rows, counts}
use Rattle.plan_dag.specs.declared.cols.Col.{Col}
use Rattle.plan_dag.specs.declared.op.Op.{Op}
use Rattle.plan_dag.specs.declared.op.Op.TheVariants as o
use Rattle.plan_dag.specs.ItemRules.{Cell}
use Rattle.plan_dag.specs.Meaning.{Table, cell_or}
use Rattle.staircase.specs.declared.kinds.Tally.{Tally}
use Rattle.staircase.specs.Joins.{tally_of}
use Rattle.plan_eval.specs.declared.fault.StepTally.{StepTally}

-- the node of a row: none where the iteration isn't a positive integer or the cell isn't a node
abbrev pub node_in_row : Cell → Cell → List (Node Text)
node_in_row (IntItem (pos (suc k))) (NodeItem n) = n ∷ []
node_in_row _ _ = []

-- the cell of a column
abbrev pub cell_at : List Col → Col → List Cell → Cell
cell_at cols c row = cell_or (IntItem (pos 0)) cols c row

-- the nodes in the rows that a step doesn't pass over
abbrev pub context_nodes : Table Cell → Col → Col → List (Node Text)
context_nodes t iter node = flat_map (λ row. node_in_row (cell_at t.cols iter row) (cell_at t.cols node row)) t.rows

-- the node at a place of the document of a rank
abbrev pub doc_node : ℕ → Tree Text → Place → Node Text
doc_node rank t p = record { id = DocTree rank; tree = t; path = node_at t p }

-- the places of a document's nodes that are of the context
abbrev pub context_places : ℕ → Tree Text → List (Node Text) → List Place
context_places rank t ns = filter (λ p. has node_eq (doc_node rank t p) ns) (places_of t)

-- the notes of a step at a site: of each document from a rank on the touched rows, ascending
abbrev pub context_notes : ℕ → Axis → ℕ → Docs → List (Node Text) → List Note
context_notes site axis rank [] ns = []
context_notes site axis rank (d ∷ docs) ns = notes_of site (f.Doc rank) (touched_rows axis d.1 (context_places rank d.1 ns)) ++ context_notes site axis (suc rank) docs ns

-- the sums of four counts each
abbrev pub sum_tally : Tally → Tally → Tally
sum_tally a b = record { context = a.context + b.context; result = a.result + b.result; skipped = a.skipped + b.skipped; read = a.read + b.read }

abbrev pub no_tally : Tally
no_tally = record { context = 0; result = 0; skipped = 0; read = 0 }

-- what a step counts in the documents from a rank on
abbrev pub context_tally : Axis → ℕ → Docs → List (Node Text) → Tally
context_tally axis rank [] ns = no_tally
context_tally axis rank (d ∷ docs) ns = sum_tally (tally_of (counts axis d.1 (context_places rank d.1 ns))) (context_tally axis (suc rank) docs ns)

-- the notes of an operator over its input's table: a step's
abbrev pub op_notes : Docs → Op → Table Cell → List Note
op_notes docs (o.Step i axis wanted site offset iter node) t = context_notes site axis 0 docs (context_nodes t iter node)
op_notes docs _ t = []

-- the tally of an operator over its input's table, where it is a step
abbrev pub op_tallies : Docs → Op → Table Cell → List StepTally
op_tallies docs (o.Step i axis wanted site offset iter node) t =
    record { site = site; offset = offset; axis = axis; tally = context_tally axis 0 docs (context_nodes t iter node) } ∷ []
op_tallies docs _ t = []

abbrev pub is_step : Op → Bool
is_step (o.Step i axis wanted site offset iter node) = true
is_step _ = false
