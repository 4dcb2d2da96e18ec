-- The rows that a join has read (own rule).
use Rattle.std.specs.Prelude.{ℕ, ◌+◌, ◌≡◌, ◌<◌, length, Bool, true, false, ◌&&◌, List, Option, is_some}
use Rattle.xq_base.specs.declared.item.TextId.{TextId}
use Rattle.xq_base.specs.declared.axis.Axis.{Axis}
use Rattle.xq_base.specs.declared.axis.NodeTest.{NodeTest}
use Rattle.doc_table.specs.declared.rows.Row.{Row}
use Rattle.doc_table.specs.declared.rows.Kind.{Kind}
use Rattle.doc_table.specs.declared.rows.Kind.TheVariants as k
use Rattle.doc_table.specs.Tree.{Tree}
use Rattle.doc_table.specs.Enc.{enc, line_in, row_of}
use Rattle.doc_table.specs.Axes.{id_eq, selects, test_of}
use Rattle.staircase.specs.Tests.{kind_of_row}
use Rattle.staircase.specs.Parts.{In}
use Rattle.staircase.specs.declared.seen.Seen.{Seen}

-- an element without a name is no node: it owns a lone attribute
abbrev pub is_node_row : Kind → Option TextId → Bool
is_node_row k.Element name = is_some name
is_node_row k.Document name = true
is_node_row k.Text name = true
is_node_row k.Comment name = true
is_node_row k.Pi name = true

abbrev pub is_element : Kind → Bool
is_element k.Element = true
is_element k.Document = false
is_element k.Text = false
is_element k.Comment = false
is_element k.Pi = false

abbrev pub seen_from : Axis → NodeTest → ℕ → Row → Seen
seen_from axis test at row = record {
  pre = at;
  last = at + row.size;
  level = row.level;
  element = is_element row.kind;
  node = is_node_row row.kind row.name;
  passes = is_node_row row.kind row.name && selects id_eq axis (test_of test) (kind_of_row row.kind) row.name;
}

-- row v of a tree
abbrev pub seen_of : Axis → NodeTest → Tree TextId → ℕ → Seen
seen_of axis test t v = seen_from axis test v (row_of (line_in (enc t) v))

-- what was read is this row of a tree
abbrev pub IsRowOf : Tree TextId → Seen → Type 0
IsRowOf t seen = (seen.last ≡ seen.pre + (line_in (enc t) seen.pre).size) × (seen.level ≡ (line_in (enc t) seen.pre).level)

-- each of these is a row of a tree as it was read
abbrev pub AllSeen : Axis → NodeTest → Tree TextId → List Seen → Type 0
AllSeen axis test t seen = (s : Seen) → In s seen → (s.pre < length (enc t)) × (s ≡ seen_of axis test t s.pre)
