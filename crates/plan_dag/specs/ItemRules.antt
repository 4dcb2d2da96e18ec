-- Items as cells (XQuery 1.0 and XPath 2.0 Data Model, section 2.5; the order of kinds is own rule).
use Rattle.std.specs.Prelude.{ℕ, ◌+◌, ℤ, Bool, true, false, not, ◌&&◌, ◌||◌, List, [], ◌∷◌, ◌++◌, length, map, Option, Some, None, nat_lt, int_lt}
use Rattle.std.specs.List.{sum}
use Rattle.std.specs.Ordering.{int_eq}
use mathlib.Core.Bool.{beq}
use Rattle.xq_base.specs.declared.item.Atom.{Atom as Constant}
use Rattle.xq_base.specs.declared.item.Atom.TheVariants as a
use Rattle.xq_base.specs.declared.code.Code.{Code}
use Rattle.xq_base.specs.declared.fun.Fun.{Fun}
use Rattle.xq_base.specs.declared.fun.Fun.TheVariants as f
use Rattle.xq_base.specs.declared.fun.CompOp.{CompOp}
use Rattle.xq_base.specs.declared.axis.Axis.{Axis}
use Rattle.xq_base.specs.declared.axis.NodeTest.{NodeTest}
use Rattle.xq_base.specs.Answers.{Answer, Value, Fault}
use Rattle.xq_base.specs.Texts.{Text, text_eq, text_less, joined}
use Rattle.xq_base.specs.Atoms.{Atom, IntAtom, TextAtom, UntypedAtom, BoolAtom, text_of}
use Rattle.xq_base.specs.Comparisons.{general_pair}
use Rattle.doc_table.specs.Tree.{NodeKind, Tree, text_in}
use Rattle.doc_table.specs.Enc.{Line, enc}
use Rattle.doc_table.specs.Axes.{test_of}
use Rattle.doc_table.specs.Identity.{BuiltTree, node_eq, node_less}
use Rattle.doc_table.specs.Items.{Item, IntItem, TextItem, UntypedItem, BoolItem, NodeItem}
use Rattle.doc_table.specs.Nodes.{root_path}
use Rattle.doc_table.specs.Values.{Items, data_of, boolean_value}
use Rattle.doc_table.specs.NodeRules.{Docs}
use Rattle.doc_table.specs.Functions.{fun_answer}
use Rattle.doc_table.specs.Steps.{found, items_at, test_with}
use Rattle.doc_table.specs.Content.{content_of}
use Rattle.doc_table.specs.Building.{built, element_fault, document_fault}
use Rattle.plan_dag.specs.declared.op.Agg.{Agg}
use Rattle.plan_dag.specs.declared.op.Agg.TheVariants as g
use Rattle.plan_dag.specs.declared.op.Place.{Place}
use Rattle.plan_dag.specs.declared.op.Place.TheVariants as p
use Rattle.plan_dag.specs.Cells.{Rules, Outcome, Gives, Fails, Silent}

abbrev pub Cell : Type 0
Cell = Item Text

-- equal cells are of one kind; a node is known by its identity
abbrev pub cell_eq : Cell → Cell → Bool
cell_eq (IntItem y) (IntItem z) = int_eq y z
cell_eq (TextItem t) (TextItem u) = text_eq t u
cell_eq (UntypedItem t) (UntypedItem u) = text_eq t u
cell_eq (BoolItem b) (BoolItem d) = beq b d
cell_eq (NodeItem m) (NodeItem n) = node_eq m n
cell_eq _ _ = false

-- boolean, integer, string, untyped, node
abbrev pub kind_rank : Cell → ℕ
kind_rank (BoolItem b) = 0
kind_rank (IntItem z) = 1
kind_rank (TextItem t) = 2
kind_rank (UntypedItem t) = 3
kind_rank (NodeItem n) = 4

-- of cells of one kind
abbrev pub value_less : Cell → Cell → Bool
value_less (BoolItem b) (BoolItem d) = not b && d
value_less (IntItem y) (IntItem z) = int_lt y z
value_less (TextItem t) (TextItem u) = text_less t u
value_less (UntypedItem t) (UntypedItem u) = text_less t u
value_less (NodeItem m) (NodeItem n) = node_less m n
value_less _ _ = false

abbrev pub cell_less : Cell → Cell → Bool
cell_less v w = nat_lt (kind_rank v) (kind_rank w) || value_less v w

abbrev pub int_in : Cell → Option ℤ
int_in (IntItem z) = Some z
int_in _ = None

abbrev pub is_true : Cell → Bool
is_true (BoolItem b) = b
is_true _ = false

-- a constant of a plan, with these texts
abbrev pub constant_cell : List Text → Constant → Cell
constant_cell texts (a.Int z) = IntItem z
constant_cell texts (a.Str id) = TextItem (text_in texts id)
constant_cell texts (a.Untyped id) = UntypedItem (text_in texts id)
constant_cell texts (a.Bool b) = BoolItem b

-- a function of single items gives a cell where its value is one item
abbrev pub outcome_of : Answer Items → Outcome Cell
outcome_of (Value []) = Silent
outcome_of (Value (v ∷ [])) = Gives v
outcome_of (Value (v ∷ w ∷ vs)) = Silent
outcome_of (Fault d) = Fails d

abbrev pub fun_outcome : Docs → Fun → List Cell → Outcome Cell
fun_outcome docs fun vs = outcome_of (fun_answer docs fun (map (λ v. v ∷ []) vs))

abbrev pub bool_outcome : Answer Bool → Outcome Bool
bool_outcome (Value b) = Gives b
bool_outcome (Fault d) = Fails d

abbrev pub bool_cell : Outcome Bool → Outcome Cell
bool_cell (Gives b) = Gives (BoolItem b)
bool_cell (Fails d) = Fails d
bool_cell Silent = Silent

-- the value of a group's cells
abbrev pub group_outcome : Docs → Agg → List Cell → Outcome Cell
group_outcome docs g.Sum vs = outcome_of (fun_answer docs f.Sum (vs ∷ []))
group_outcome docs g.Min vs = outcome_of (fun_answer docs f.Min (vs ∷ []))
group_outcome docs g.Max vs = outcome_of (fun_answer docs f.Max (vs ∷ []))
group_outcome docs g.Concat vs = Gives (TextItem (joined [] (map text_of (data_of vs))))
group_outcome docs g.Ebv vs = bool_cell (bool_outcome (boolean_value vs))

-- a pair of a general comparison is one of atomic values
abbrev pub atom_in : Cell → Option Atom
atom_in (IntItem z) = Some (IntAtom z)
atom_in (TextItem t) = Some (TextAtom t)
atom_in (UntypedItem t) = Some (UntypedAtom t)
atom_in (BoolItem b) = Some (BoolAtom b)
atom_in (NodeItem n) = None

abbrev pub atoms_outcome : CompOp → Option Atom → Option Atom → Outcome Bool
atoms_outcome op (Some b) (Some d) = bool_outcome (general_pair op b d)
atoms_outcome op _ _ = Silent

-- what a step finds from a cell, with these texts
abbrev pub cells_found : List Text → Axis → NodeTest → Cell → List Cell
cells_found texts axis t (NodeItem n) = items_at (found axis (test_with (text_in texts) (test_of t)) n)
cells_found texts axis t _ = []

abbrev pub content_fault : Place → Items → Option Code
content_fault p.Element vs = element_fault (content_of vs)
content_fault p.Document vs = document_fault (content_of vs)

-- the root of the tree that a constructor makes at a site in an iteration, where it makes one
abbrev pub root_cell : ℕ → ℕ → Answer (Option (Tree Text)) → Option Cell
root_cell site n (Value (Some t)) = Some (NodeItem (record { id = BuiltTree site (n ∷ []); tree = t; path = root_path }))
root_cell site n (Value None) = None
root_cell site n (Fault d) = None

abbrev pub built_cell : NodeKind → ℕ → ℕ → List Cell → List Cell → Option Cell
built_cell kind site n name content = root_cell site n (built kind (map (λ v. v ∷ []) name ++ content ∷ []))

-- the rows and attributes of a tree
abbrev pub tree_extent : Tree Text → ℕ
tree_extent t = sum (map (λ (l : Line Text). 1 + length l.attributes) (enc t))

abbrev pub cell_extent : Cell → ℕ
cell_extent (NodeItem n) = tree_extent n.tree
cell_extent _ = 0

-- items as cells, over these documents, with these texts of the plan
abbrev pub item_rules : Docs → List Text → Rules Cell
item_rules docs texts = record {
  same = cell_eq;
  less = cell_less;
  int = IntItem;
  int_in = int_in;
  is_true = is_true;
  constant = constant_cell texts;
  value = fun_outcome docs;
  whole = group_outcome docs;
  pair = λ op v w. atoms_outcome op (atom_in v) (atom_in w);
  found = cells_found texts;
  refused = content_fault;
  made = built_cell;
  extent = cell_extent;
}
