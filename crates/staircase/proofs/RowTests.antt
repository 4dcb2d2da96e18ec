-- What the test of a row says of its node.
use Rattle.std.proofs.Common.{◌≡◌, ℕ, ◌<◌, true, false, ◌&&◌, length, refl, sym, ap, ◌∙◌, subst, arith}
use Rattle.std.proofs.lemmas.Bool.{false≢true}
use Rattle.xq_base.specs.declared.item.TextId.{TextId}
use Rattle.xq_base.specs.declared.axis.Axis.{Axis}
use Rattle.xq_base.specs.declared.axis.NodeTest.{NodeTest}
use Rattle.doc_table.specs.Tree.{Label, OfDocument, OfElement, OfAttribute, OfText, OfComment, OfInstruction, Tree, Branch, root_of, kind_of, name_of}
use Rattle.doc_table.specs.Paths.{label_at, label_in}
use Rattle.doc_table.specs.Enc.{Line, enc, row_kind, row_name}
use Rattle.doc_table.specs.Axes.{Test, id_eq, selects, selects_label, test_of}
use Rattle.doc_table.specs.Places.{row_path, is_lone}
use Rattle.doc_table.specs.Attributes.{attributes_apart}
use Rattle.doc_table.proofs.RowNodes.{lone_long, RowNode, IsNoAttribute}
use Rattle.staircase.specs.Seen.{seen_of, is_node_row}
use Rattle.staircase.specs.Tests.{kind_of_row}

test-is : (axis : Axis) (test : Test TextId) (l : Label TextId) → IsNoAttribute l → (is_node_row (row_kind l) (row_name l) && selects id_eq axis test (kind_of_row (row_kind l)) (row_name l)) ≡ selects id_eq axis test (kind_of l) (name_of l)
test-is axis test OfDocument p = refl
test-is axis test (OfElement n as') p = refl
test-is axis test (OfAttribute n v) p = absurd p
test-is axis test (OfText v) p = refl
test-is axis test (OfComment v) p = refl
test-is axis test (OfInstruction n v) p = refl

node-is : (l : Label TextId) → IsNoAttribute l → is_node_row (row_kind l) (row_name l) ≡ true
node-is OfDocument p = refl
node-is (OfElement n as') p = refl
node-is (OfAttribute n v) p = absurd p
node-is (OfText v) p = refl
node-is (OfComment v) p = refl
node-is (OfInstruction n v) p = refl

pub passes-is : (axis : Axis) (tested : NodeTest) (t : Tree TextId) (v : ℕ) → RowNode t v → (seen_of axis tested t v).passes ≡ selects_label id_eq axis (test_of tested) (label_at t (row_path t v))
passes-is axis tested t v n =
    let l : Label TextId = root_of n.tree in
    ap (λ (z : Line TextId). is_node_row z.kind z.name && selects id_eq axis (test_of tested) (kind_of_row z.kind) z.name) n.line
    ∙ test-is axis (test_of tested) l n.plain
    ∙ ap (λ z. selects_label id_eq axis (test_of tested) (label_in 0 z)) (sym n.path)

pub is-node : (axis : Axis) (tested : NodeTest) (t : Tree TextId) (v : ℕ) → RowNode t v → (seen_of axis tested t v).node ≡ true
is-node axis tested t v n = ap (λ (z : Line TextId). is_node_row z.kind z.name) n.line ∙ node-is (root_of n.tree) n.plain

-- ---- a lone attribute

lone-zero : (axis : Axis) (tested : NodeTest) (t : Tree TextId) → is_lone t ≡ true → ((seen_of axis tested t 0).passes ≡ false) × ((seen_of axis tested t 0).node ≡ false)
lone-zero axis tested (Branch OfDocument f) e = absurd (false≢true e)
lone-zero axis tested (Branch (OfElement n as') f) e = absurd (false≢true e)
lone-zero axis tested (Branch (OfAttribute n v) f) e = (refl, refl)
lone-zero axis tested (Branch (OfText v) f) e = absurd (false≢true e)
lone-zero axis tested (Branch (OfComment v) f) e = absurd (false≢true e)
lone-zero axis tested (Branch (OfInstruction n v) f) e = absurd (false≢true e)

pub lone-none : (axis : Axis) (tested : NodeTest) (t : Tree TextId) (v : ℕ) → attributes_apart t ≡ true → is_lone t ≡ true → v < length (enc t) → ((seen_of axis tested t v).passes ≡ false) × ((seen_of axis tested t v).node ≡ false)
lone-none axis tested t v s e l =
    let z : v ≡ 0 = omega (arith, lone_long t s e) in
    subst (λ k. ((seen_of axis tested t k).passes ≡ false) × ((seen_of axis tested t k).node ≡ false)) (sym z) (lone-zero axis tested t e)
