-- Calls of `instance of` and `treat as` a type, and of conversions to one, from the rows of their operators.
use Rattle.std.proofs.Common.{◌≡◌, ℕ, ◌+◌, Bool, true, false, cond, not, ◌&&◌, ◌||◌, List, [], ◌∷◌, ◌++◌, length, map, refl, sym, ap, ◌∙◌, subst, arith, Option, Some, None, nat_eq, nat_lt, true≢false}
use Rattle.std.proofs.Math.Bool.{and-true, and-false, not-not}
use Rattle.std.specs.List.{filter, flat_map, list_any, list_all}
use Rattle.std.proofs.lemmas.Bool.{le-ltb, ne_eqb}
use Rattle.xq_base.specs.declared.code.Code.{Code}
use Rattle.xq_base.specs.declared.code.Code.TheVariants as c
use Rattle.xq_base.specs.declared.fun.Fun.TheVariants as f
use Rattle.xq_base.specs.declared.fun.AtomKind.{AtomKind}
use Rattle.xq_base.specs.declared.fun.ItemKind.{ItemKind}
use Rattle.xq_base.specs.declared.fun.ItemKind.TheVariants as k'
use Rattle.xq_base.specs.declared.axis.Axis.TheVariants as x
use Rattle.xq_base.specs.Answers.{Value, Fault as Refused, with_value}
use Rattle.xq_base.specs.Texts.{Text, text_eq}
use Rattle.xq_base.specs.Atoms.{Atom, kind_of_atom, atom_kind_eq}
use Rattle.xq_base.specs.Comparisons.{bool_eq}
use Rattle.doc_table.specs.Items.{IntItem, TextItem, UntypedItem, BoolItem, NodeItem}
use Rattle.doc_table.specs.Tree.{Tree, Label, OfDocument, OfElement, OfAttribute, OfText, OfComment, OfInstruction}
use Rattle.doc_table.specs.Axes.{selects_label}
use Rattle.doc_table.specs.Identity.{TreeId, Node}
use Rattle.doc_table.specs.Paths.{is_some_label}
use Rattle.doc_table.specs.Nodes.{item_kind_eq, label_of_node, kind_of_label, name_from, node_name}
use Rattle.doc_table.specs.Values.{Items, items_of, data_of, is_node, all_nodes, no_node, atomized, kind_at, kind_of_item}
use Rattle.doc_table.specs.NodeRules.{Docs}
use Rattle.plan_dag.specs.declared.op.OpId.{OpId}
use Rattle.plan_dag.specs.declared.check.Check.{Check}
use Rattle.plan_dag.specs.Cells.{given}
use Rattle.plan_dag.specs.ItemRules.{Cell, is_true}
use Rattle.plan_dag.specs.Meaning.{cell}
use Rattle.plan_dag.specs.Meaning.{cells as cells_at}
use Rattle.core_meaning.specs.declared.node.Occurs.{Occurs}
use Rattle.core_meaning.specs.declared.node.Occurs.TheVariants as o
use Rattle.core_meaning.specs.Types.{has_type, occurs_so, item_passes, node_passes, if_type, if_number}
use Rattle.core_meaning.specs.Expr.{Site, Rule, IsOf, TreatAs, ConvertTo}
use Rattle.core_meaning.specs.Lawful.{is_dynamic}
use Rattle.core_meaning.specs.Meaning.{value_in}
use Rattle.lift_laws.specs.Sums.{AllOf, Ascends, Same}
use Rattle.lift_laws.specs.Iterations.{Row, Iter, num, item_rows, value_rows, loop_rows}
use Rattle.lift_laws.specs.Bulk.{list_of, own_walks}
use Rattle.lift_laws.specs.States.{State, at, Makes, Checks, column, three, single}
use Rattle.lift_laws.specs.Shapes.{bare, pair, pick, five, less, any_rows, named_rows, truth_rows, data_rows}
use Rattle.lift_laws.specs.TypeTests.{NodeType, AnyNodes, DocumentNodes, TextNodes, CommentNodes, InstructionNodes, AttributeNodes, ElementNodes, node_test, asked_kind, asked_name, TypeTest, Anything, Atomic, OfKind, OfNodes, item_test, sequence_test, six, other_kind_rows, other_nodes, other_name_rows, other_names, other_items, other_counts, count_marks_of, other_type_rows}
use Rattle.lift_laws.specs.Lifting.{Rooted, CallLifts, call_answer}
use Rattle.lift_laws.specs.Stages.{Stages}
use Rattle.lift_laws.proofs.Multi.{same-of, same-trans, length-total}
use Rattle.lift_laws.proofs.Picks.{all_mono, flat-all, flat-flat, map-flat}
use Rattle.lift_laws.proofs.Marks.{Marks, marks_is, some, unmarked_stands, fault_in}
use Rattle.lift_laws.proofs.Operands.{has_two, marks_any, marks_second}
use Rattle.lift_laws.proofs.Cleared.{AllMark, none_of}
use Rattle.lift_laws.proofs.FunctionCases.{marks_loop, rooted_truth_call, rooted_checked_call}
use Rattle.lift_laws.proofs.NodeSets.{has_node, nodes_there, marks_nodes}
use Rattle.lift_laws.proofs.ConcatCase.{marks_of_some}
use Rattle.lift_laws.proofs.DataCase.{as_atom, data_stands}
use Rattle.lift_laws.proofs.ItemCase.{fails_at, marks_fail}
use Rattle.lift_laws.proofs.WalkCase.{strays_are}
use Rattle.lift_laws.proofs.Tested.{marks_tested}
use Rattle.lift_laws.proofs.Stagings.{stages_one}
use Rattle.lift_laws.proofs.Sizes.{map_length}

-- items of another kind
abbrev with_false : Row → Row
with_false r = r ++ BoolItem false ∷ []

abbrev asked : ItemKind → Row → List Row
asked kind r = map (λ v. r ++ v ∷ []) (given (bare.value (f.IsKind kind) (cells_at bare three (column 2 ∷ []) r)))

abbrev is_false : Row → List Row
is_false r = map (λ v. r ++ v ∷ []) (given (bare.value f.Eq (cells_at bare five (column 3 ∷ column 4 ∷ []) r)))

abbrev is_other : Row → Bool
is_other r = is_true (cell bare six (column 5) r)

abbrev other_kind : ItemKind → Cell → Bool
other_kind kind v = not (item_kind_eq kind (kind_of_item v))

some_if : (b : Bool) (r : Row) → some (cond b (r ∷ []) []) ≡ b
some_if true r = refl
some_if false r = refl

if_false : (b : Bool) → bool_eq b false ≡ not b
if_false true = refl
if_false false = refl

-- a map and a comparison with a constant, row by row
each_row : (G H : Row → List Row) (c' : Row → Row) (a : List Row) → flat_map H (map c' (flat_map G a)) ≡ flat_map (λ r. flat_map H (map c' (G r))) a
each_row G H c' a = ap (flat_map H) (map-flat c' G a) ∙ flat-flat H (λ r. map c' (G r)) a

marks_other : (kind : ItemKind) (h : Iter → List Cell) (its : List Iter) (a : List Row) → Ascends (λ i. i.number) 0 its → Same a (value_rows h its) → Marks (other_kind_rows kind a) (λ i. list_any (other_kind kind) (h i)) its
marks_other kind h its a asc sa =
    subst (λ rs. Marks (map (λ r. pick six (pair 0 0 ∷ []) r) (filter is_other rs)) (λ i. list_any (other_kind kind) (h i)) its) (sym (each_row (asked kind) is_false with_false a))
    (marks_tested six (λ r. flat_map is_false (map with_false (asked kind r))) is_other (other_kind kind) (λ n k v. some_if (bool_eq (item_kind_eq kind (kind_of_item v)) false) _ ∙ if_false (item_kind_eq kind (kind_of_item v))) (λ n k v. (refl, tt)) h its a asc sa)

-- nodes of another name
abbrev with_text : Text → Row → Row
with_text name r = r ++ TextItem name ∷ []

abbrev named : Row → List Row
named r = map (λ v. r ++ v ∷ []) (given (bare.value f.Name (cells_at bare three (column 2 ∷ []) r)))

abbrev is_differing : Row → List Row
is_differing r = map (λ v. r ++ v ∷ []) (given (bare.value f.Ne (cells_at bare five (column 4 ∷ column 3 ∷ []) r)))

abbrev other_name : Text → Cell → Bool
other_name name (NodeItem n) = not (text_eq name (node_name n))
other_name name _ = false

marks_name : (name : Text) (h : Iter → List Cell) (its : List Iter) (a : List Row) → Ascends (λ i. i.number) 0 its → Same a (value_rows h its) → Marks (other_name_rows name a) (λ i. list_any (other_name name) (h i)) its
marks_name name h its a asc sa =
    subst (λ rs. Marks (map (λ r. pick six (pair 0 0 ∷ []) r) (filter is_other rs)) (λ i. list_any (other_name name) (h i)) its) (sym (each_row named is_differing (with_text name) a))
    (marks_tested six (λ r. flat_map is_differing (map (with_text name) (named r))) is_other (other_name name) shape keyed h its a asc sa)
  where
    shape : (n k : ℕ) (v : Cell) → some (filter is_other (flat_map is_differing (map (with_text name) (named (num n ∷ num k ∷ v ∷ []))))) ≡ other_name name v
    shape n k (NodeItem m) = some_if (not (text_eq name (node_name m))) _
    shape n k (IntItem z) = refl
    shape n k (TextItem t) = refl
    shape n k (UntypedItem t) = refl
    shape n k (BoolItem b) = refl

    keyed : (n k : ℕ) (v : Cell) → AllOf (λ r. cell bare six (column 0) r ≡ num n) (flat_map is_differing (map (with_text name) (named (num n ∷ num k ∷ v ∷ []))))
    keyed n k (NodeItem m) = (refl, tt)
    keyed n k (IntItem z) = tt
    keyed n k (TextItem t) = tt
    keyed n k (UntypedItem t) = tt
    keyed n k (BoolItem b) = tt

-- the tests of items and of their number
abbrev kind_test : Option ItemKind → (Iter → List Cell) → Iter → Bool
kind_test None h i = list_any (fails_at f.Name c.XPTY0004) (h i)
kind_test (Some kind) h i = list_any (other_kind kind) (h i)

abbrev name_tests : Option Text → (Iter → List Cell) → List (Iter → Bool)
name_tests None h = []
name_tests (Some name) h = (λ i. list_any (other_name name) (h i)) ∷ []

abbrev item_tests : TypeTest → (Iter → List Cell) → List (Iter → Bool)
item_tests Anything h = []
item_tests Atomic h = (λ i. has_node i.number (h i)) ∷ []
item_tests (OfKind kind) h = (λ i. list_any (other_kind (k'.Atom kind)) (h i)) ∷ []
item_tests (OfNodes q) h = kind_test (asked_kind q) h ∷ name_tests (asked_name q) h

abbrev pub count_tests : Occurs → (Iter → List Cell) → List (Iter → Bool)
count_tests o.One h = (λ i. has_two (h i)) ∷ (λ i. not (some (h i))) ∷ []
count_tests o.Optional h = (λ i. has_two (h i)) ∷ []
count_tests o.Many h = []
count_tests o.AtLeastOne h = (λ i. not (some (h i))) ∷ []

-- tables one list after the other
pub all_marks : (as' bs : List (List Row)) (ps qs : List (Iter → Bool)) (its : List Iter) → AllMark as' ps its → AllMark bs qs its → AllMark (as' ++ bs) (ps ++ qs) its
all_marks [] bs [] qs its h k = k
all_marks [] bs (p ∷ ps) qs its h k = absurd h
all_marks (a ∷ as') bs [] qs its h k = absurd h
all_marks (a ∷ as') bs (p ∷ ps) qs its h k = (h.0, all_marks as' bs ps qs its h.1 k)

pub none_both : (ps qs : List (Iter → Bool)) (i : Iter) → none_of (ps ++ qs) i ≡ (none_of ps i && none_of qs i)
none_both [] qs i = refl
none_both (p ∷ ps) qs i = elim (p i) as (λ b. (not b && none_of (ps ++ qs) i) ≡ ((not b && none_of ps i) && none_of qs i)) [ true ↦ refl | false ↦ none_both ps qs i ]

all_pass : (vs : Items) → list_all (λ (v : Cell). true) vs ≡ true
all_pass [] = refl
all_pass (v ∷ vs) = all_pass vs

atoms_alone : (vs : Items) → no_node vs ≡ list_all (λ v. not (is_node v)) vs
atoms_alone [] = refl
atoms_alone (v ∷ vs) = ap (λ b. not (is_node v) && b) (atoms_alone vs)

no_atom_kind : (kind : AtomKind) (o : Option (Label Text)) → item_kind_eq (k'.Atom kind) (kind_at o) ≡ false
no_atom_kind kind None = refl
no_atom_kind kind (Some OfDocument) = refl
no_atom_kind kind (Some (OfElement n as')) = refl
no_atom_kind kind (Some (OfAttribute n v)) = refl
no_atom_kind kind (Some (OfText v)) = refl
no_atom_kind kind (Some (OfComment v)) = refl
no_atom_kind kind (Some (OfInstruction n v)) = refl

kind_passes : (kind : AtomKind) (v : Cell) → not (other_kind (k'.Atom kind) v) ≡ (not (is_node v) && atom_kind_eq kind (kind_of_atom (atomized v)))
kind_passes kind (IntItem z) = not-not _
kind_passes kind (TextItem t) = not-not _
kind_passes kind (UntypedItem t) = not-not _
kind_passes kind (BoolItem b) = not-not _
kind_passes kind (NodeItem n) = not-not _ ∙ no_atom_kind kind (label_of_node n)

not_or : (a b : Bool) → not (a || b) ≡ (not a && not b)
not_or true b = refl
not_or false b = refl

none_other : (kind : AtomKind) (vs : Items) → not (list_any (other_kind (k'.Atom kind)) vs) ≡ list_all (λ v. not (is_node v) && atom_kind_eq kind (kind_of_atom (atomized v))) vs
none_other kind [] = refl
none_other kind (v ∷ vs) =
    not_or (other_kind (k'.Atom kind) v) (list_any (other_kind (k'.Atom kind)) vs) ∙ ap (λ b. b && not (list_any (other_kind (k'.Atom kind)) vs)) (kind_passes kind v)
    ∙ ap (λ b. (not (is_node v) && atom_kind_eq kind (kind_of_atom (atomized v))) && b) (none_other kind vs)

-- a node passes by its kind and its name
abbrev name_differs : Option Text → Text → Bool
name_differs None n = false
name_differs (Some name) n = not (text_eq name n)

abbrev label_differs : Option ItemKind → Label Text → Bool
label_differs None l = false
label_differs (Some kind) l = not (item_kind_eq kind (kind_of_label l))

label_passes : (q : NodeType) (l : Label Text) → (not (label_differs (asked_kind q) l) && not (name_differs (asked_name q) (name_from (Some l)))) ≡ selects_label text_eq x.SelfNode (node_test q) (Some l)
label_passes AnyNodes OfDocument = refl
label_passes AnyNodes (OfElement n as') = refl
label_passes AnyNodes (OfAttribute n v) = refl
label_passes AnyNodes (OfText v) = refl
label_passes AnyNodes (OfComment v) = refl
label_passes AnyNodes (OfInstruction n v) = refl
label_passes DocumentNodes OfDocument = refl
label_passes DocumentNodes (OfElement n as') = refl
label_passes DocumentNodes (OfAttribute n v) = refl
label_passes DocumentNodes (OfText v) = refl
label_passes DocumentNodes (OfComment v) = refl
label_passes DocumentNodes (OfInstruction n v) = refl
label_passes TextNodes OfDocument = refl
label_passes TextNodes (OfElement n as') = refl
label_passes TextNodes (OfAttribute n v) = refl
label_passes TextNodes (OfText v) = refl
label_passes TextNodes (OfComment v) = refl
label_passes TextNodes (OfInstruction n v) = refl
label_passes CommentNodes OfDocument = refl
label_passes CommentNodes (OfElement n as') = refl
label_passes CommentNodes (OfAttribute n v) = refl
label_passes CommentNodes (OfText v) = refl
label_passes CommentNodes (OfComment v) = refl
label_passes CommentNodes (OfInstruction n v) = refl
label_passes (InstructionNodes None) OfDocument = refl
label_passes (InstructionNodes None) (OfElement n as') = refl
label_passes (InstructionNodes None) (OfAttribute n v) = refl
label_passes (InstructionNodes None) (OfText v) = refl
label_passes (InstructionNodes None) (OfComment v) = refl
label_passes (InstructionNodes None) (OfInstruction n v) = refl
label_passes (InstructionNodes (Some m)) OfDocument = refl
label_passes (InstructionNodes (Some m)) (OfElement n as') = refl
label_passes (InstructionNodes (Some m)) (OfAttribute n v) = refl
label_passes (InstructionNodes (Some m)) (OfText v) = refl
label_passes (InstructionNodes (Some m)) (OfComment v) = refl
label_passes (InstructionNodes (Some m)) (OfInstruction n v) = not-not _
label_passes (AttributeNodes None) OfDocument = refl
label_passes (AttributeNodes None) (OfElement n as') = refl
label_passes (AttributeNodes None) (OfAttribute n v) = refl
label_passes (AttributeNodes None) (OfText v) = refl
label_passes (AttributeNodes None) (OfComment v) = refl
label_passes (AttributeNodes None) (OfInstruction n v) = refl
label_passes (AttributeNodes (Some m)) OfDocument = refl
label_passes (AttributeNodes (Some m)) (OfElement n as') = refl
label_passes (AttributeNodes (Some m)) (OfAttribute n v) = not-not _
label_passes (AttributeNodes (Some m)) (OfText v) = refl
label_passes (AttributeNodes (Some m)) (OfComment v) = refl
label_passes (AttributeNodes (Some m)) (OfInstruction n v) = refl
label_passes (ElementNodes None) OfDocument = refl
label_passes (ElementNodes None) (OfElement n as') = refl
label_passes (ElementNodes None) (OfAttribute n v) = refl
label_passes (ElementNodes None) (OfText v) = refl
label_passes (ElementNodes None) (OfComment v) = refl
label_passes (ElementNodes None) (OfInstruction n v) = refl
label_passes (ElementNodes (Some m)) OfDocument = refl
label_passes (ElementNodes (Some m)) (OfElement n as') = not-not _
label_passes (ElementNodes (Some m)) (OfAttribute n v) = refl
label_passes (ElementNodes (Some m)) (OfText v) = refl
label_passes (ElementNodes (Some m)) (OfComment v) = refl
label_passes (ElementNodes (Some m)) (OfInstruction n v) = refl

abbrev kind_differs : Option ItemKind → Cell → Bool
kind_differs None v = not (is_node v)
kind_differs (Some kind) v = other_kind kind v

abbrev differs_by : Option Text → Cell → Bool
differs_by None v = false
differs_by (Some name) v = other_name name v

no_kind : (q : NodeType) (kind : AtomKind) (v : Cell) → is_node v ≡ false → kind_of_item v ≡ k'.Atom kind → kind_differs (asked_kind q) v ≡ true
no_kind AnyNodes kind v e d = ap not e
no_kind DocumentNodes kind v e d = ap (λ z. not (item_kind_eq k'.Document z)) d
no_kind TextNodes kind v e d = ap (λ z. not (item_kind_eq k'.Text z)) d
no_kind CommentNodes kind v e d = ap (λ z. not (item_kind_eq k'.Comment z)) d
no_kind (InstructionNodes name) kind v e d = ap (λ z. not (item_kind_eq k'.Pi z)) d
no_kind (AttributeNodes name) kind v e d = ap (λ z. not (item_kind_eq k'.Attribute z)) d
no_kind (ElementNodes name) kind v e d = ap (λ z. not (item_kind_eq k'.Element z)) d

atom_differs : (q : NodeType) (kind : AtomKind) (v : Cell) → is_node v ≡ false → kind_of_item v ≡ k'.Atom kind → (not (kind_differs (asked_kind q) v) && not (differs_by (asked_name q) v)) ≡ false
atom_differs q kind v e d = ap (λ z. not z && not (differs_by (asked_name q) v)) (no_kind q kind v e d)

named_differs : (o : Option Text) (n : Node Text) → differs_by o (NodeItem n) ≡ name_differs o (node_name n)
named_differs None n = refl
named_differs (Some name) n = refl

labelled : (o : Option ItemKind) (n : Node Text) (l : Label Text) → label_of_node n ≡ Some l → kind_differs o (NodeItem n) ≡ label_differs o l
labelled None n l e = refl
labelled (Some kind) n l e = ap (λ z. not (item_kind_eq kind (kind_at z))) e

node_passes_is : (tree : TreeId → Option (Tree Text)) (q : NodeType) (v : Cell) → Rooted tree v → (not (kind_differs (asked_kind q) v) && not (differs_by (asked_name q) v)) ≡ node_passes (node_test q) v
node_passes_is tree q (NodeItem n) r = go (label_of_node n) refl r.1
  where
    go : (o : Option (Label Text)) → label_of_node n ≡ o → is_some_label o ≡ true → (not (kind_differs (asked_kind q) (NodeItem n)) && not (differs_by (asked_name q) (NodeItem n))) ≡ selects_label text_eq x.SelfNode (node_test q) (label_of_node n)
    go None e h = absurd (true≢false (sym h))
    go (Some l) e h =
        ap (λ z. not z && not (differs_by (asked_name q) (NodeItem n))) (labelled (asked_kind q) n l e)
        ∙ ap (λ z. not (label_differs (asked_kind q) l) && not z) (named_differs (asked_name q) n ∙ ap (λ z. name_differs (asked_name q) (name_from z)) e)
        ∙ label_passes q l ∙ ap (selects_label text_eq x.SelfNode (node_test q)) (sym e)
node_passes_is tree q (IntItem z) r = atom_differs q (kind_of_atom (atomized (IntItem z))) (IntItem z) refl refl
node_passes_is tree q (TextItem t) r = atom_differs q (kind_of_atom (atomized (TextItem t))) (TextItem t) refl refl
node_passes_is tree q (UntypedItem t) r = atom_differs q (kind_of_atom (atomized (UntypedItem t))) (UntypedItem t) refl refl
node_passes_is tree q (BoolItem b) r = atom_differs q (kind_of_atom (atomized (BoolItem b))) (BoolItem b) refl refl

spread : (a b d e : Bool) → (not (a || b) && not (d || e)) ≡ ((not a && not d) && (not b && not e))
spread true b d e = refl
spread false b true e = and-false (not b)
spread false true false e = refl
spread false false false e = refl

nodes_pass : (tree : TreeId → Option (Tree Text)) (q : NodeType) (vs : Items) → AllOf (Rooted tree) vs → (not (list_any (kind_differs (asked_kind q)) vs) && not (list_any (differs_by (asked_name q)) vs)) ≡ list_all (node_passes (node_test q)) vs
nodes_pass tree q [] r = refl
nodes_pass tree q (v ∷ vs) r =
    spread (kind_differs (asked_kind q) v) (list_any (kind_differs (asked_kind q)) vs) (differs_by (asked_name q) v) (list_any (differs_by (asked_name q)) vs)
    ∙ ap (λ z. z && (not (list_any (kind_differs (asked_kind q)) vs) && not (list_any (differs_by (asked_name q)) vs))) (node_passes_is tree q v r.0) ∙ ap (λ z. node_passes (node_test q) v && z) (nodes_pass tree q vs r.1)

never : (vs : Items) → list_any (λ (v : Cell). false) vs ≡ false
never [] = refl
never (v ∷ vs) = never vs

strays : (vs : Items) → list_any (fails_at f.Name c.XPTY0004) vs ≡ list_any (λ v. not (is_node v)) vs
strays vs = strays_are vs ∙ each vs
  where
    each : (us : Items) → not (all_nodes us) ≡ list_any (λ v. not (is_node v)) us
    each [] = refl
    each (u ∷ us) = one (is_node u) (all_nodes us) ∙ ap (λ z. not (is_node u) || z) (each us)
      where
        one : (b d : Bool) → not (b && d) ≡ (not b || not d)
        one true d = refl
        one false d = refl

kinds_pass : (o : Option ItemKind) (h : Iter → List Cell) (i : Iter) → kind_test o h i ≡ list_any (kind_differs o) (h i)
kinds_pass None h i = strays (h i)
kinds_pass (Some kind) h i = refl

names_pass : (o : Option Text) (h : Iter → List Cell) (i : Iter) → none_of (name_tests o h) i ≡ not (list_any (differs_by o) (h i))
names_pass None h i = ap not (sym (never (h i)))
names_pass (Some name) h i = and-true _

items_pass : (tree : TreeId → Option (Tree Text)) (q : TypeTest) (h : Iter → List Cell) (i : Iter) → AllOf (Rooted tree) (h i) → none_of (item_tests q h) i ≡ list_all (item_passes (item_test q)) (h i)
items_pass tree Anything h i r = sym (all_pass (h i))
items_pass tree Atomic h i r = and-true _ ∙ ap not (nodes_there i.number (h i)) ∙ not-not (no_node (h i)) ∙ atoms_alone (h i)
items_pass tree (OfKind kind) h i r = and-true _ ∙ none_other kind (h i)
items_pass tree (OfNodes q) h i r =
    ap (λ z. not z && none_of (name_tests (asked_name q) h) i) (kinds_pass (asked_kind q) h i) ∙ ap (λ z. not (list_any (kind_differs (asked_kind q)) (h i)) && z) (names_pass (asked_name q) h i) ∙ nodes_pass tree q (h i) r

pub counts_pass : (occurs : Occurs) (h : Iter → List Cell) (i : Iter) → none_of (count_tests occurs h) i ≡ occurs_so occurs (length (h i))
counts_pass o.One h i = go (h i)
  where
    go : (vs : Items) → (not (has_two vs) && (not (not (some vs)) && true)) ≡ nat_eq (length vs) 1
    go [] = refl
    go (v ∷ []) = refl
    go (v ∷ w ∷ vs) = sym (ne_eqb (length (v ∷ w ∷ vs)) 1 (λ e. omega arith))
counts_pass o.Optional h i = go (h i)
  where
    go : (vs : Items) → (not (has_two vs) && true) ≡ nat_lt (length vs) 2
    go [] = refl
    go (v ∷ []) = refl
    go (v ∷ w ∷ vs) = sym (le-ltb (length (v ∷ w ∷ vs)) 2 (omega arith))
counts_pass o.Many h i = refl
counts_pass o.AtLeastOne h i = and-true _ ∙ not-not (some (h i)) ∙ ap (nat_lt 0) (sym (length-total (h i)))

type_is : (tree : TreeId → Option (Tree Text)) (q : TypeTest) (occurs : Occurs) (h : Iter → List Cell) (i : Iter) → AllOf (Rooted tree) (h i) → none_of (count_tests occurs h ++ item_tests q h) i ≡ has_type (sequence_test q occurs) (h i)
type_is tree q occurs h i r =
    none_both (count_tests occurs h) (item_tests q h) i ∙ ap (λ b. b && none_of (item_tests q h) i) (counts_pass occurs h i) ∙ ap (λ b. occurs_so occurs (length (h i)) && b) (items_pass tree q h i r)

abbrev differs : TypeTest → Occurs → (Iter → List Cell) → Iter → Bool
differs q occurs h i = not (has_type (sequence_test q occurs) (h i))

item_marks : (q : TypeTest) (h : Iter → List Cell) (its : List Iter) (a : List Row) → Ascends (λ i. i.number) 0 its → Same a (value_rows h its) → AllMark (other_items q a) (item_tests q h) its
item_marks Anything h its a asc sa = tt
item_marks Atomic h its a asc sa = (marks_nodes h its a asc sa, tt)
item_marks (OfKind kind) h its a asc sa = (marks_other (k'.Atom kind) h its a asc sa, tt)
item_marks (OfNodes q) h its a asc sa = (kind_marks (asked_kind q), name_marks (asked_name q))
  where
    kind_marks : (o : Option ItemKind) → Marks (other_nodes o a) (kind_test o h) its
    kind_marks None = marks_fail f.Name c.XPTY0004 h its a asc sa
    kind_marks (Some kind) = marks_other kind h its a asc sa

    name_marks : (o : Option Text) → AllMark (other_names o a) (name_tests o h) its
    name_marks None = tt
    name_marks (Some name) = (marks_name name h its a asc sa, tt)

module _ (its : List Iter) (h : Iter → List Cell) (l a : List Row) (asc : Ascends (λ i. i.number) 0 its) (sl : Same l (loop_rows its)) (sa : Same a (value_rows h its)) where
  none_there : Marks (less l (any_rows a)) (λ i. not (some (h i))) its
  none_there = marks_loop (λ i. not (some (h i))) its _ asc (unmarked_stands (λ i. some (h i)) its l _ sl (marks_any h its a asc sa))

  pub count_marks : (occurs : Occurs) → AllMark (other_counts occurs l a) (count_tests occurs h) its
  count_marks o.One = (marks_second h its a asc sa, (none_there, tt))
  count_marks o.Optional = (marks_second h its a asc sa, tt)
  count_marks o.Many = tt
  count_marks o.AtLeastOne = (none_there, tt)

  marks_type : (tree : TreeId → Option (Tree Text)) (q : TypeTest) (occurs : Occurs) → AllOf (λ i. AllOf (Rooted tree) (h i)) its → Marks (other_type_rows q occurs l a) (differs q occurs h) its
  marks_type tree q occurs rooted =
      marks_is (all_mono _ _ (λ i (r : AllOf (Rooted tree) (h i)). ap not (type_is tree q occurs h i r)) its rooted)
      (marks_of_some (other_counts occurs l a ++ other_items q a) (count_tests occurs h ++ item_tests q h) its l asc sl (all_marks _ _ (count_tests occurs h) (item_tests q h) its (count_marks occurs) (item_marks q h its a asc sa)))

turned : (b : Bool) → b ≡ cond (not b) false true
turned true = refl
turned false = refl

pub instance_call : (docs : Docs) (s s' : State) (site : Site) (q : TypeTest) (occurs : Occurs) (looped a t : OpId)
    → Makes s s' t three (truth_rows false (at s looped).rows (other_type_rows q occurs (at s looped).rows (at s a).rows)) (length (at s looped).rows + length (at s looped).rows + length (at s a).rows)
    → CallLifts docs s s' site (IsOf (sequence_test q occurs)) looped (a ∷ []) t
instance_call docs s s' site q occurs looped a t m =
    rooted_truth_call docs site (IsOf (sequence_test q occurs)) false looped a t _ (λ h i. differs q occurs h i) _ refl
    (λ its h tree asc hl ha rooted. marks_type its h _ _ asc hl.rows_are ha.rows_are tree q occurs rooted) (λ N its h hl ha l. l)
    (λ h i. ap (λ b. Value (BoolItem b ∷ [])) (turned (has_type (sequence_test q occurs) (h i)))) m

-- a call that is its argument where that has the type, and else fails with a code
typed_call : (docs : Docs) (s s1 s2 : State) (site : Site) (r : Rule) (code : Code) (q : TypeTest) (occurs : Occurs) (looped a k : OpId) → is_dynamic code ≡ true → own_walks site r ≡ []
    → ((h : Iter → List Cell) (i : Iter) → call_answer docs site r (h ∷ []) i ≡ if_type (sequence_test q occurs) code (h i))
    → Makes s s1 k single (named_rows (at s looped).rows (other_type_rows q occurs (at s looped).rows (at s a).rows)) (length (at s looped).rows + length (at s a).rows)
    → Checks s1 s2 (record { op = k; code = code; offset = site.offset }) → CallLifts docs s s2 site r looped (a ∷ []) a
typed_call docs s s1 s2 site r code q occurs looped a k dynamic no_step is m h =
    rooted_checked_call docs site r looped a k code _ (λ g i. differs q occurs g i) m h dynamic no_step
    (λ its g tree asc hl ha rooted. marks_type its g _ _ asc hl.rows_are ha.rows_are tree q occurs rooted)
    (λ g i. ap fault_in (is g i) ∙ fails (has_type (sequence_test q occurs) (g i)) (g i))
    (λ g i e. gives (has_type (sequence_test q occurs) (g i)) (g i) e ∙ ap (λ x. list_of (value_in x)) (sym (is g i)))
  where
    fails : (b : Bool) (vs : Items) → fault_in (cond b (Value vs) (Refused code)) ≡ cond (not b) (Some code) None
    fails true vs = refl
    fails false vs = refl

    gives : (b : Bool) (vs : Items) → not b ≡ false → vs ≡ list_of (value_in (cond b (Value vs) (Refused code)))
    gives true vs e = refl
    gives false vs e = absurd (true≢false e)

module _ (docs : Docs) (s s1 s2 : State) (site : Site) (occurs : Occurs) (looped a : OpId) where
  pub treat_call : (q : TypeTest) (k : OpId) → Makes s s1 k single (named_rows (at s looped).rows (other_type_rows q occurs (at s looped).rows (at s a).rows)) (length (at s looped).rows + length (at s a).rows)
      → Checks s1 s2 (record { op = k; code = c.XPDY0050; offset = site.offset }) → CallLifts docs s s2 site (TreatAs (sequence_test q occurs)) looped (a ∷ []) a
  treat_call q k m h = typed_call docs s s1 s2 site (TreatAs (sequence_test q occurs)) c.XPDY0050 q occurs looped a k refl refl (λ g i. refl) m h

  pub item_conversion_call : (k : OpId) → Makes s s1 k single (named_rows (at s looped).rows (other_type_rows Anything occurs (at s looped).rows (at s a).rows)) (length (at s looped).rows + length (at s a).rows)
      → Checks s1 s2 (record { op = k; code = c.XPTY0004; offset = site.offset }) → CallLifts docs s s2 site (ConvertTo (sequence_test Anything occurs)) looped (a ∷ []) a
  item_conversion_call k m h = typed_call docs s s1 s2 site (ConvertTo (sequence_test Anything occurs)) c.XPTY0004 Anything occurs looped a k refl refl (λ g i. refl) m h

  pub node_conversion_call : (q : NodeType) (k : OpId) → Makes s s1 k single (named_rows (at s looped).rows (other_type_rows (OfNodes q) occurs (at s looped).rows (at s a).rows)) (length (at s looped).rows + length (at s a).rows)
      → Checks s1 s2 (record { op = k; code = c.XPTY0004; offset = site.offset }) → CallLifts docs s s2 site (ConvertTo (sequence_test (OfNodes q) occurs)) looped (a ∷ []) a
  node_conversion_call q k m h = typed_call docs s s1 s2 site (ConvertTo (sequence_test (OfNodes q) occurs)) c.XPTY0004 (OfNodes q) occurs looped a k refl refl (λ g i. refl) m h

  pub atom_conversion_call : (t : OpId) (cs : List Check) → Makes s s1 t three (data_rows (at s a).rows) (length (at s a).rows)
      → Stages site (length (at s looped).rows + length (at s a).rows) s1 s2 (at s looped).rows (count_marks_of occurs (at s looped).rows (at s a).rows) cs → CallLifts docs s s2 site (ConvertTo (sequence_test Atomic occurs)) looped (a ∷ []) t
  atom_conversion_call t cs m st =
      stages_one docs s s1 s2 site (ConvertTo (sequence_test Atomic occurs)) looped a t cs (count_marks_of occurs (at s looped).rows (at s a).rows) [] (λ h. (λ i. not (none_of (count_tests occurs h) i)) ∷ []) refl (tt, tt) (refl, tt) _ _ _ m st
      (λ N l w. (omega arith, l)) (λ vs. with_value items_of (if_number occurs (data_of vs))) (λ h i. refl)
      (λ h i. fails (occurs_so occurs (length (data_of (h i)))) (data_of (h i)) ∙ ap (λ n. cond (not (occurs_so occurs n)) (Some c.XPTY0004) None) (map_length atomized (h i)) ∙ ap (λ b. cond (not b) (Some c.XPTY0004) None) (sym (counts_pass occurs h i)))
      (λ its h asc sl sa. (marks_of_some (other_counts occurs (at s looped).rows (at s a).rows) (count_tests occurs h) its _ asc sl (count_marks its h _ _ asc sl sa occurs), tt))
      (λ its h asc sl sa. tt)
      (λ its h asc sl sa tree rooted calm.
      same-trans (data_stands h its _ sa)
      (same-of (flat-all _ _ its (all_mono _ _ (λ i (e : fault_in (with_value items_of (if_number occurs (data_of (h i)))) ≡ None). ap (item_rows i.number 1) (gives (occurs_so occurs (length (data_of (h i)))) (h i) e)) its calm))))
    where
      fails : (b : Bool) (bs : List Atom) → fault_in (with_value items_of (cond b (Value bs) (Refused c.XPTY0004))) ≡ cond (not b) (Some c.XPTY0004) None
      fails true bs = refl
      fails false bs = refl

      as_atoms : (vs : Items) → map as_atom vs ≡ items_of (data_of vs)
      as_atoms [] = refl
      as_atoms (v ∷ vs) = ap (λ l. as_atom v ∷ l) (as_atoms vs)

      gives : (b : Bool) (vs : Items) → fault_in (with_value items_of (cond b (Value (data_of vs)) (Refused c.XPTY0004))) ≡ None → map as_atom vs ≡ list_of (value_in (with_value items_of (cond b (Value (data_of vs)) (Refused c.XPTY0004))))
      gives true vs e = as_atoms vs
      gives false vs e = cc
