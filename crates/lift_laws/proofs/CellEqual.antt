-- Equality of cells is an equivalence, and a cell that stands for all that equal it, where trees are known by their identity.
use Rattle.std.proofs.Common.{◌≡◌, nat_eq, true, Option, Some, None, refl, sym, ap, ◌∙◌, true≢false}
use Rattle.std.specs.Cmp.{IsEquivalence, bool_eq_equiv}
use Rattle.std.proofs.lemmas.Cmp.{int_eq_equiv}
use Rattle.std.proofs.lemmas.Bool.{and_parts, eqb-true}
use Rattle.std.proofs.lemmas.Bool.Decides.{Decides-int_eq}
use Rattle.xq_base.specs.Texts.{Text, text_eq}
use Rattle.doc_table.specs.Tree.{Tree, Branch, OfDocument, no_more}
use Rattle.doc_table.specs.Paths.{Path, is_same, path_eq}
use Rattle.doc_table.specs.Identity.{TreeId, Node, tree_id_eq, node_eq, node_less}
use Rattle.doc_table.specs.Items.{IntItem, TextItem, UntypedItem, BoolItem, NodeItem}
use Rattle.doc_table.specs.Ascending.{IsOrder}
use Rattle.doc_table.proofs.StrictOrders.{same-bools, same-lists, same-ids, nodes_order}
use Rattle.doc_table.proofs.TextTests.{text-refl, text-sound}
use Rattle.plan_dag.specs.ItemRules.{Cell, cell_eq}
use Rattle.lift_laws.specs.Iterations.{num}
use Rattle.lift_laws.proofs.Numbers.{cell_eq_self}

text_turn : (t u : Text) → text_eq t u ≡ true → text_eq u t ≡ true
text_turn t u e = ap (λ x. text_eq u x) (text-sound t u e) ∙ text-refl u

nodes : IsOrder (node_less {T = Text}) node_eq
nodes = nodes_order

cell_turn : (v w : Cell) → cell_eq v w ≡ cell_eq w v
cell_turn (IntItem z) (IntItem y) = int_eq_equiv.symm z y
cell_turn (IntItem z) (TextItem u) = refl
cell_turn (IntItem z) (UntypedItem u) = refl
cell_turn (IntItem z) (BoolItem d) = refl
cell_turn (IntItem z) (NodeItem m) = refl
cell_turn (TextItem t) (IntItem y) = refl
cell_turn (TextItem t) (TextItem u) = same-bools (text_eq t u) (text_eq u t) (text_turn t u) (text_turn u t)
cell_turn (TextItem t) (UntypedItem u) = refl
cell_turn (TextItem t) (BoolItem d) = refl
cell_turn (TextItem t) (NodeItem m) = refl
cell_turn (UntypedItem t) (IntItem y) = refl
cell_turn (UntypedItem t) (TextItem u) = refl
cell_turn (UntypedItem t) (UntypedItem u) = same-bools (text_eq t u) (text_eq u t) (text_turn t u) (text_turn u t)
cell_turn (UntypedItem t) (BoolItem d) = refl
cell_turn (UntypedItem t) (NodeItem m) = refl
cell_turn (BoolItem b) (IntItem y) = refl
cell_turn (BoolItem b) (TextItem u) = refl
cell_turn (BoolItem b) (UntypedItem u) = refl
cell_turn (BoolItem b) (BoolItem d) = bool_eq_equiv.symm b d
cell_turn (BoolItem b) (NodeItem m) = refl
cell_turn (NodeItem n) (IntItem y) = refl
cell_turn (NodeItem n) (TextItem u) = refl
cell_turn (NodeItem n) (UntypedItem u) = refl
cell_turn (NodeItem n) (BoolItem d) = refl
cell_turn (NodeItem n) (NodeItem m) = nodes.eq_turn n m

cell_same : (v w x : Cell) → cell_eq v w ≡ true → cell_eq v x ≡ cell_eq w x
cell_same (IntItem z) (IntItem y) x e = ap (λ q. cell_eq (IntItem q) x) ((Decides-int_eq z y).0 e)
cell_same (IntItem z) (TextItem u) x e = absurd (true≢false (sym e))
cell_same (IntItem z) (UntypedItem u) x e = absurd (true≢false (sym e))
cell_same (IntItem z) (BoolItem d) x e = absurd (true≢false (sym e))
cell_same (IntItem z) (NodeItem m) x e = absurd (true≢false (sym e))
cell_same (TextItem t) (IntItem y) x e = absurd (true≢false (sym e))
cell_same (TextItem t) (TextItem u) x e = ap (λ q. cell_eq (TextItem q) x) (text-sound t u e)
cell_same (TextItem t) (UntypedItem u) x e = absurd (true≢false (sym e))
cell_same (TextItem t) (BoolItem d) x e = absurd (true≢false (sym e))
cell_same (TextItem t) (NodeItem m) x e = absurd (true≢false (sym e))
cell_same (UntypedItem t) (IntItem y) x e = absurd (true≢false (sym e))
cell_same (UntypedItem t) (TextItem u) x e = absurd (true≢false (sym e))
cell_same (UntypedItem t) (UntypedItem u) x e = ap (λ q. cell_eq (UntypedItem q) x) (text-sound t u e)
cell_same (UntypedItem t) (BoolItem d) x e = absurd (true≢false (sym e))
cell_same (UntypedItem t) (NodeItem m) x e = absurd (true≢false (sym e))
cell_same (BoolItem b) (IntItem y) x e = absurd (true≢false (sym e))
cell_same (BoolItem b) (TextItem u) x e = absurd (true≢false (sym e))
cell_same (BoolItem b) (UntypedItem u) x e = absurd (true≢false (sym e))
cell_same (BoolItem b) (BoolItem d) (IntItem x) e = refl
cell_same (BoolItem b) (BoolItem d) (TextItem x) e = refl
cell_same (BoolItem b) (BoolItem d) (UntypedItem x) e = refl
cell_same (BoolItem b) (BoolItem d) (BoolItem x) e = bool_eq_equiv.congr b d x e
cell_same (BoolItem b) (BoolItem d) (NodeItem x) e = refl
cell_same (BoolItem b) (NodeItem m) x e = absurd (true≢false (sym e))
cell_same (NodeItem n) (IntItem y) x e = absurd (true≢false (sym e))
cell_same (NodeItem n) (TextItem u) x e = absurd (true≢false (sym e))
cell_same (NodeItem n) (UntypedItem u) x e = absurd (true≢false (sym e))
cell_same (NodeItem n) (BoolItem d) x e = absurd (true≢false (sym e))
cell_same (NodeItem n) (NodeItem m) (IntItem x) e = refl
cell_same (NodeItem n) (NodeItem m) (TextItem x) e = refl
cell_same (NodeItem n) (NodeItem m) (UntypedItem x) e = refl
cell_same (NodeItem n) (NodeItem m) (BoolItem x) e = refl
cell_same (NodeItem n) (NodeItem m) (NodeItem x) e = nodes.eq_same n m x e

pub cells_equal : IsEquivalence cell_eq
cells_equal = record { refl = cell_eq_self; symm = cell_turn; congr = cell_same }

pub same-path : (p q : Path) → path_eq p q ≡ true → p ≡ q
same-path p q k =
    let r = and_parts (is_same p.steps q.steps) (nat_eq p.attr q.attr) k in
    ap (λ s. record { steps = s; attr = p.attr }) (same-lists p.steps q.steps r.0) ∙ ap (λ k. record { steps = q.steps; attr = k }) (eqb-true p.attr q.attr r.1)

-- a number, and a node with the tree of its identity
abbrev pub number_of : Cell → Cell
number_of (IntItem z) = IntItem z
number_of _ = num 0

abbrev tree_or : Option (Tree Text) → Tree Text
tree_or None = Branch OfDocument no_more
tree_or (Some t) = t

abbrev pub node_with : (TreeId → Option (Tree Text)) → Cell → Cell
node_with tree (NodeItem n) = NodeItem (record { id = n.id; tree = tree_or (tree n.id); path = n.path })
node_with tree _ = num 0

pub number_same : (v w : Cell) → cell_eq v w ≡ true → number_of v ≡ number_of w
number_same (IntItem z) (IntItem y) e = ap IntItem ((Decides-int_eq z y).0 e)
number_same (IntItem z) (TextItem u) e = absurd (true≢false (sym e))
number_same (IntItem z) (UntypedItem u) e = absurd (true≢false (sym e))
number_same (IntItem z) (BoolItem d) e = absurd (true≢false (sym e))
number_same (IntItem z) (NodeItem m) e = absurd (true≢false (sym e))
number_same (TextItem t) (IntItem y) e = absurd (true≢false (sym e))
number_same (TextItem t) (TextItem u) e = refl
number_same (TextItem t) (UntypedItem u) e = refl
number_same (TextItem t) (BoolItem d) e = refl
number_same (TextItem t) (NodeItem m) e = refl
number_same (UntypedItem t) (IntItem y) e = absurd (true≢false (sym e))
number_same (UntypedItem t) (TextItem u) e = refl
number_same (UntypedItem t) (UntypedItem u) e = refl
number_same (UntypedItem t) (BoolItem d) e = refl
number_same (UntypedItem t) (NodeItem m) e = refl
number_same (BoolItem b) (IntItem y) e = absurd (true≢false (sym e))
number_same (BoolItem b) (TextItem u) e = refl
number_same (BoolItem b) (UntypedItem u) e = refl
number_same (BoolItem b) (BoolItem d) e = refl
number_same (BoolItem b) (NodeItem m) e = refl
number_same (NodeItem n) (IntItem y) e = absurd (true≢false (sym e))
number_same (NodeItem n) (TextItem u) e = refl
number_same (NodeItem n) (UntypedItem u) e = refl
number_same (NodeItem n) (BoolItem d) e = refl
number_same (NodeItem n) (NodeItem m) e = refl

pub node_same : (tree : TreeId → Option (Tree Text)) (v w : Cell) → cell_eq v w ≡ true → node_with tree v ≡ node_with tree w
node_same tree (IntItem z) (IntItem y) e = refl
node_same tree (IntItem z) (TextItem u) e = refl
node_same tree (IntItem z) (UntypedItem u) e = refl
node_same tree (IntItem z) (BoolItem d) e = refl
node_same tree (IntItem z) (NodeItem m) e = absurd (true≢false (sym e))
node_same tree (TextItem t) (IntItem y) e = refl
node_same tree (TextItem t) (TextItem u) e = refl
node_same tree (TextItem t) (UntypedItem u) e = refl
node_same tree (TextItem t) (BoolItem d) e = refl
node_same tree (TextItem t) (NodeItem m) e = absurd (true≢false (sym e))
node_same tree (UntypedItem t) (IntItem y) e = refl
node_same tree (UntypedItem t) (TextItem u) e = refl
node_same tree (UntypedItem t) (UntypedItem u) e = refl
node_same tree (UntypedItem t) (BoolItem d) e = refl
node_same tree (UntypedItem t) (NodeItem m) e = absurd (true≢false (sym e))
node_same tree (BoolItem b) (IntItem y) e = refl
node_same tree (BoolItem b) (TextItem u) e = refl
node_same tree (BoolItem b) (UntypedItem u) e = refl
node_same tree (BoolItem b) (BoolItem d) e = refl
node_same tree (BoolItem b) (NodeItem m) e = absurd (true≢false (sym e))
node_same tree (NodeItem n) (IntItem y) e = absurd (true≢false (sym e))
node_same tree (NodeItem n) (TextItem u) e = absurd (true≢false (sym e))
node_same tree (NodeItem n) (UntypedItem u) e = absurd (true≢false (sym e))
node_same tree (NodeItem n) (BoolItem d) e = absurd (true≢false (sym e))
node_same tree (NodeItem n) (NodeItem m) e =
    let p = and_parts (tree_id_eq n.id m.id) (path_eq n.path m.path) e in
    ap (λ i. NodeItem (record { id = i; tree = tree_or (tree i); path = n.path })) (same-ids n.id m.id p.0) ∙ ap (λ q. NodeItem (record { id = m.id; tree = tree_or (tree m.id); path = q })) (same-path n.path m.path p.1)

pub known_node : (tree : TreeId → Option (Tree Text)) (n : Node Text) → tree n.id ≡ Some n.tree → node_with tree (NodeItem n) ≡ NodeItem n
known_node tree n h = ap (λ o. NodeItem (record { id = n.id; tree = tree_or o; path = n.path })) h
