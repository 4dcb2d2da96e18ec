-- Calls of unions, and of the results of paths, from the rows of their operators: nodes each once, by document order.
use Rattle.std.proofs.Common.{◌≡◌, ℕ, ◌+◌, Bool, true, false, cond, not, ◌&&◌, List, [], ◌∷◌, ◌++◌, length, map, refl, sym, ap, ◌∙◌, arith, Option, Some, None, true≢false}
use Rattle.std.proofs.Math.Bool.{and-true}
use Rattle.std.specs.List.{filter, flat_map, list_any}
use Rattle.std.specs.Cmp.{IsEquivalence}
use Rattle.std.proofs.lemmas.Bool.{and_parts, lt-ltb}
use Rattle.xq_base.specs.declared.code.Code.TheVariants as c
use Rattle.xq_base.specs.declared.fun.Fun.{Fun}
use Rattle.xq_base.specs.declared.fun.Fun.TheVariants as f
use Rattle.xq_base.specs.Answers.{Answer, Value, Fault as Refused, with_value, both_of}
use Rattle.xq_base.specs.Texts.{Text}
use Rattle.doc_table.specs.Tree.{Tree}
use Rattle.doc_table.specs.Identity.{TreeId, Node, node_eq, node_less}
use Rattle.doc_table.specs.Items.{IntItem, TextItem, UntypedItem, BoolItem, NodeItem}
use Rattle.doc_table.specs.Values.{Items, all_nodes, no_node}
use Rattle.doc_table.specs.Steps.{nodes_in, items_at, in_document_order}
use Rattle.doc_table.specs.NodeRules.{Docs, node_set, path_result}
use Rattle.doc_table.proofs.StrictOrders.{nodes_order}
use Rattle.plan_dag.specs.declared.op.OpId.{OpId}
use Rattle.plan_dag.specs.declared.check.Check.{Check}
use Rattle.plan_dag.specs.Cells.{given, code_in}
use Rattle.plan_dag.specs.ItemRules.{Cell, cell_eq}
use Rattle.plan_dag.specs.Rows.{first_rows, is_code}
use Rattle.plan_dag.specs.Meaning.{cell}
use Rattle.plan_dag.specs.Meaning.{cells as cells_at}
use Rattle.core_meaning.specs.Expr.{Site, Apply}
use Rattle.core_meaning.specs.Meaning.{value_in}
use Rattle.lift_laws.specs.Sums.{total, AllOf, Ascends, Same}
use Rattle.lift_laws.specs.Iterations.{Row, Iter, num, item_rows, value_rows}
use Rattle.lift_laws.specs.Bulk.{list_of, own_walks}
use Rattle.lift_laws.specs.States.{State, at, Makes, column, three}
use Rattle.lift_laws.specs.Shapes.{bare, pair, pick, project, four, beside}
use Rattle.lift_laws.specs.Stages.{Stages}
use Rattle.lift_laws.specs.Walks.{node_cols, each_once_rows, stray_rows, union_rows, union_marks, named_nodes, path_rows, path_marks}
use Rattle.lift_laws.specs.Lifting.{Rooted, CallLifts, call_answer}
use Rattle.lift_laws.proofs.Multi.{same-of, same-trans, same-map, same-flat, same-keep, same-append, same-split}
use Rattle.lift_laws.proofs.Picks.{all_each, all_mono, all-append, all-map, flat-all, flat-flat, map-append, map-flat}
use Rattle.lift_laws.proofs.Values.{all_two}
use Rattle.lift_laws.proofs.Simple.{same_items}
use Rattle.lift_laws.proofs.Keeping.{append_none}
use Rattle.lift_laws.proofs.Marks.{Marks, marks_and, marks_rows, some, fault_in, code_self}
use Rattle.lift_laws.proofs.Operands.{keep_flat}
use Rattle.lift_laws.proofs.Stagings.{stages_one, stages_two}
use Rattle.lift_laws.proofs.ItemCase.{fails_at, marks_fail}
use Rattle.lift_laws.proofs.PairRows.{marks_gathered}
use Rattle.lift_laws.proofs.Once.{firsts_all, firsts_count, once_sorted}
use Rattle.lift_laws.proofs.CellEqual.{cells_equal, number_of, node_with, number_same, node_same, known_node}
use Rattle.lift_laws.proofs.NodePairs.{found_stands}
use Rattle.lift_laws.proofs.NodeOrder.{node_row, order_stands}
use Rattle.lift_laws.proofs.WalkCase.{tail_count, head_one, nodes_rooted, strays_are}

-- rows are the same where iteration and node are
abbrev pub number_in : Row → Cell
number_in r = cell bare node_cols (column 0) r

abbrev pub node_in : Row → Cell
node_in r = cell bare node_cols (column 2) r

abbrev pub row_eq : Row → Row → Bool
row_eq q r = cell_eq (number_in q) (number_in r) && (cell_eq (node_in q) (node_in r) && true)

pub rows_equal : IsEquivalence row_eq
rows_equal = record {
  refl = λ q. ap (λ b. b && (cell_eq (node_in q) (node_in q) && true)) (cells_equal.refl (number_in q)) ∙ ap (λ b. b && true) (cells_equal.refl (node_in q));
  symm = λ q r. ap (λ b. b && (cell_eq (node_in q) (node_in r) && true)) (cells_equal.symm (number_in q) (number_in r)) ∙ ap (λ b. cell_eq (number_in r) (number_in q) && (b && true)) (cells_equal.symm (node_in q) (node_in r));
  congr = λ q r x e.
      let k = and_parts (cell_eq (number_in q) (number_in r)) (cell_eq (node_in q) (node_in r) && true) e in
      ap (λ b. b && (cell_eq (node_in q) (node_in x) && true)) (cells_equal.congr (number_in q) (number_in r) (number_in x) k.0)
      ∙ ap (λ b. cell_eq (number_in r) (number_in x) && (b && true)) (cells_equal.congr (node_in q) (node_in r) (node_in x) (sym (and-true (cell_eq (node_in q) (node_in r))) ∙ k.1));
}

abbrev pub canon : (TreeId → Option (Tree Text)) → Row → Row
canon tree r = number_of (number_in r) ∷ node_with tree (node_in r) ∷ []

pub canon_same : (tree : TreeId → Option (Tree Text)) (q r : Row) → row_eq q r ≡ true → canon tree q ≡ canon tree r
canon_same tree q r e =
    let k = and_parts (cell_eq (number_in q) (number_in r)) (cell_eq (node_in q) (node_in r) && true) e in
    ap (λ v. v ∷ node_with tree (node_in q) ∷ []) (number_same (number_in q) (number_in r) k.0)
    ∙ ap (λ v. number_of (number_in r) ∷ v ∷ []) (node_same tree (node_in q) (node_in r) (sym (and-true (cell_eq (node_in q) (node_in r))) ∙ k.1))

pub known_rows : (tree : TreeId → Option (Tree Text)) (ms : List (Node Text)) → AllOf (λ (m : Node Text). Rooted tree (NodeItem m)) ms → AllOf (λ (m : Node Text). (n : ℕ) → canon tree (node_row n m) ≡ node_row n m) ms
known_rows tree [] h = tt
known_rows tree (m ∷ ms) h = ((λ n. ap (λ v. num n ∷ v ∷ []) (known_node tree m h.0.0)), known_rows tree ms h.1)

-- each node once in its iteration, by document order
each_once_stands : (tree : TreeId → Option (Tree Text)) (ns : Iter → List (Node Text)) (its : List Iter) (rs : List Row) → Ascends (λ i. i.number) 0 its → Same rs (flat_map (λ i. map (node_row i.number) (ns i)) its)
    → AllOf (λ i. AllOf (λ (m : Node Text). Rooted tree (NodeItem m)) (ns i)) its → Same (each_once_rows rs) (value_rows (λ i. items_at (in_document_order (ns i))) its)
each_once_stands tree ns its rs asc s rooted =
    order_stands (λ i. in_document_order (ns i)) its _ asc (λ i. once_sorted node_less node_eq nodes_order (ns i))
    (found_stands row_eq rows_equal node_row (canon tree) (canon_same tree) (λ r n. cell_eq (number_in r) (num n)) (λ r m n. head_one (number_in r) m n) (λ r m. cell_eq (node_in r) (NodeItem m)) (λ r ms. tail_count (node_in r) ms)
    (λ r n m. ap (λ b. cell_eq (number_in r) (num n) && b) (and-true (cell_eq (node_in r) (NodeItem m)))) ns its asc rs (first_rows bare (cells_at bare node_cols node_cols) rs) s
    (λ r. firsts_count row_eq rows_equal r [] rs) (λ P. firsts_all (λ q r. true) row_eq P [] rs)
    (all_mono _ _ (λ i (k : AllOf (λ (m : Node Text). Rooted tree (NodeItem m)) (ns i)). known_rows tree (ns i) k) its rooted))

-- unions
abbrev pub both_nodes : Row → Row
both_nodes r = pick three (pair 0 0 ∷ pair 2 2 ∷ []) r

pairs_at : (n k : ℕ) (vs : Items) → all_nodes vs ≡ true → map both_nodes (item_rows n k vs) ≡ map (node_row n) (nodes_in vs)
pairs_at n k [] e = refl
pairs_at n k (NodeItem m ∷ vs) e = ap (λ l. (num n ∷ NodeItem m ∷ []) ∷ l) (pairs_at n (k + 1) vs e)
pairs_at n k (IntItem z ∷ vs) e = absurd (true≢false (sym e))
pairs_at n k (TextItem t ∷ vs) e = absurd (true≢false (sym e))
pairs_at n k (UntypedItem t ∷ vs) e = absurd (true≢false (sym e))
pairs_at n k (BoolItem b ∷ vs) e = absurd (true≢false (sym e))

same_rows : (n : ℕ) (ms : List (Node Text)) → map (λ r. cells_at bare node_cols node_cols r) (map (node_row n) ms) ≡ map (node_row n) ms
same_rows n [] = refl
same_rows n (m ∷ ms) = ap (λ l. (num n ∷ NodeItem m ∷ []) ∷ l) (same_rows n ms)

pub pairs_stand : (h : Iter → List Cell) (its : List Iter) (a : List Row) → Same a (value_rows h its) → AllOf (λ i. all_nodes (h i) ≡ true) its → Same (project three (pair 0 0 ∷ pair 2 2 ∷ []) a) (flat_map (λ i. map (node_row i.number) (nodes_in (h i))) its)
pairs_stand h its a s alone =
    same-trans (same-map both_nodes s) (same-of (map-flat both_nodes (λ i. item_rows i.number 1 (h i)) its ∙ flat-all _ _ its (all_mono _ _ (λ i (e : all_nodes (h i) ≡ true). pairs_at i.number 1 (h i) e) its alone)))

both_stand : (h k : Iter → List Cell) (its : List Iter) (a b : List Row) → Same a (value_rows h its) → Same b (value_rows k its) → AllOf (λ i. all_nodes (h i) ≡ true) its → AllOf (λ i. all_nodes (k i) ≡ true) its
    → Same (beside node_cols (project three (pair 0 0 ∷ pair 2 2 ∷ []) a) (project three (pair 0 0 ∷ pair 2 2 ∷ []) b)) (flat_map (λ i. map (node_row i.number) (nodes_in (h i) ++ nodes_in (k i))) its)
both_stand h k its a b sa sb ha hb =
    let right = same-trans (same-map (λ r. cells_at bare node_cols node_cols r) (pairs_stand k its b sb hb))
    (same-of (map-flat (λ r. cells_at bare node_cols node_cols r) (λ i. map (node_row i.number) (nodes_in (k i))) its ∙ flat-all _ _ its (all_each _ (λ i. same_rows i.number (nodes_in (k i))) its))) in
    same-trans (same-append (pairs_stand h its a sa ha) right)
    (same-trans (same-split (λ i. map (node_row i.number) (nodes_in (h i))) (λ i. map (node_row i.number) (nodes_in (k i))) its)
    (same-of (flat-all _ _ its (all_each _ (λ i. sym (map-append (node_row i.number) (nodes_in (h i)) (nodes_in (k i)))) its))))

abbrev pub stray : Items → Bool
stray vs = list_any (fails_at f.Name c.XPTY0004) vs

-- a set of nodes of both operands, which are nodes
abbrev pub SetOf : Type 0
SetOf = List (Node Text) → List (Node Text) → List (Node Text)

abbrev set_of : SetOf → Items → Items → Bool → Bool → Answer Items
set_of g us vs p q = with_value (λ (x : List (Node Text) × List (Node Text)). items_at (in_document_order (g x.0 x.1))) (both_of (cond p (Value (nodes_in us)) (Refused c.XPTY0004)) (cond q (Value (nodes_in vs)) (Refused c.XPTY0004)))

pub set_fault : (g : SetOf) (us vs : Items) → fault_in (node_set g us vs) ≡ cond (not (not (stray us) && (not (stray vs) && true))) (Some c.XPTY0004) None
set_fault g us vs =
    go (all_nodes us) (all_nodes vs)
    ∙ ap (λ b. cond (not (not b && (not (not (all_nodes vs)) && true))) (Some c.XPTY0004) None) (sym (strays_are us)) ∙ ap (λ b. cond (not (not (stray us) && (not b && true))) (Some c.XPTY0004) None) (sym (strays_are vs))
  where
    go : (p q : Bool) → fault_in (set_of g us vs p q) ≡ cond (not (not (not p) && (not (not q) && true))) (Some c.XPTY0004) None
    go true true = refl
    go true false = refl
    go false true = refl
    go false false = refl

pub set_calm : (g : SetOf) (us vs : Items) → fault_in (node_set g us vs) ≡ None → (all_nodes us ≡ true) × (all_nodes vs ≡ true) × (items_at (in_document_order (g (nodes_in us) (nodes_in vs))) ≡ list_of (value_in (node_set g us vs)))
set_calm g us vs e = go (all_nodes us) (all_nodes vs) e
  where
    go : (p q : Bool) → fault_in (set_of g us vs p q) ≡ None → (p ≡ true) × (q ≡ true) × (items_at (in_document_order (g (nodes_in us) (nodes_in vs))) ≡ list_of (value_in (set_of g us vs p q)))
    go true true e = (refl, refl, refl)
    go true false e = cc
    go false true e = cc
    go false false e = cc

-- a call of such a function: its rows are those sets in all iterations, and the check is that of items that are no nodes
module _ (docs : Docs) (s s1 s2 : State) (site : Site) (fun : Fun) (g : SetOf) (looped a b t : OpId) (cs : List Check) (rows : List Row)
    (m : Makes s s1 t three rows (length (at s looped).rows + length (at s a).rows + length (at s b).rows))
    (st : Stages site (length (at s looped).rows + length (at s a).rows + length (at s b).rows) s1 s2 (at s looped).rows (union_marks (at s looped).rows (at s a).rows (at s b).rows) cs)
    (no_step : own_walks site (Apply fun) ≡ []) (rule_is : (h k : Iter → List Cell) (i : Iter) → call_answer docs site (Apply fun) (h ∷ k ∷ []) i ≡ node_set g (h i) (k i))
    (stands : (tree : TreeId → Option (Tree Text)) (its : List Iter) (h k : Iter → List Cell) → Ascends (λ i. i.number) 0 its → Same (at s a).rows (value_rows h its) → Same (at s b).rows (value_rows k its)
    → AllOf (λ i. AllOf (Rooted tree) (h i)) its → AllOf (λ i. AllOf (Rooted tree) (k i)) its → AllOf (λ i. all_nodes (h i) ≡ true) its → AllOf (λ i. all_nodes (k i) ≡ true) its
    → Same rows (value_rows (λ i. items_at (in_document_order (g (nodes_in (h i)) (nodes_in (k i))))) its)) where
  abbrev tests : (Iter → List Cell) → (Iter → List Cell) → List (Iter → Bool)
  tests h k = (λ i. not (not (stray (h i)) && (not (stray (k i)) && true))) ∷ []

  pub set_call : CallLifts docs s s2 site (Apply fun) looped (a ∷ b ∷ []) t
  set_call =
      stages_two docs s s1 s2 site (Apply fun) looped a b t cs (union_marks (at s looped).rows (at s a).rows (at s b).rows) [] tests no_step (tt, tt) (refl, tt) _ _ _ m st
      (λ N l w. (l, l)) (node_set g) rule_is (λ h k i. set_fault g (h i) (k i))
      (λ its h k asc sl sa sb. (
        marks_gathered (stray_rows (at s a).rows ∷ stray_rows (at s b).rows ∷ []) ((λ i. stray (h i)) ∷ (λ i. stray (k i)) ∷ []) its _ asc sl (marks_fail f.Name c.XPTY0004 h its _ asc sa, (marks_fail f.Name c.XPTY0004 k its _ asc sb, tt)),
        tt,
      ))
      (λ its h k asc sl sa sb. tt)
      (λ its h k asc sl sa sb tree ra rb calm.
      same-trans
      (stands tree its h k asc sa sb ra rb (all_mono _ _ (λ i (e : fault_in (node_set g (h i) (k i)) ≡ None). (set_calm g (h i) (k i) e).0) its calm) (all_mono _ _ (λ i (e : fault_in (node_set g (h i) (k i)) ≡ None). (set_calm g (h i) (k i) e).1) its calm))
      (same-of (flat-all _ _ its (all_mono _ _ (λ i (e : fault_in (node_set g (h i) (k i)) ≡ None). ap (item_rows i.number 1) (set_calm g (h i) (k i) e).2) its calm))))

pub union_call : (docs : Docs) (s s1 s2 : State) (site : Site) (looped a b t : OpId) (cs : List Check)
    → Makes s s1 t three (union_rows (at s a).rows (at s b).rows) (length (at s looped).rows + length (at s a).rows + length (at s b).rows)
    → Stages site (length (at s looped).rows + length (at s a).rows + length (at s b).rows) s1 s2 (at s looped).rows (union_marks (at s looped).rows (at s a).rows (at s b).rows) cs
    → CallLifts docs s s2 site (Apply f.Union) looped (a ∷ b ∷ []) t
union_call docs s s1 s2 site looped a b t cs m st =
    set_call docs s s1 s2 site f.Union (λ ms ns. ms ++ ns) looped a b t cs _ m st refl (λ h k i. refl)
    (λ tree its h k asc sa sb ra rb ha hb.
    each_once_stands tree (λ i. nodes_in (h i) ++ nodes_in (k i)) its _ asc (both_stand h k its _ _ sa sb ha hb)
    (all_two _ _ _ (λ i (p : AllOf (Rooted tree) (h i)) (q : AllOf (Rooted tree) (k i)). all-append _ (nodes_in (h i)) (nodes_in (k i)) (nodes_rooted tree (h i) p) (nodes_rooted tree (k i) q)) its ra rb))

-- results of paths
abbrev with_name : Row → List Row
with_name r = map (λ v. r ++ v ∷ []) (given (bare.value f.Name (cells_at bare three (column 2 ∷ []) r)))

abbrev named_pair : Row → Row
named_pair r = pick four (pair 0 0 ∷ pair 2 2 ∷ []) r

names_at : (n k : ℕ) (vs : Items) → map named_pair (flat_map with_name (item_rows n k vs)) ≡ map (node_row n) (nodes_in vs)
names_at n k [] = refl
names_at n k (NodeItem m ∷ vs) = ap (λ l. (num n ∷ NodeItem m ∷ []) ∷ l) (names_at n (k + 1) vs)
names_at n k (IntItem z ∷ vs) = names_at n (k + 1) vs
names_at n k (TextItem t ∷ vs) = names_at n (k + 1) vs
names_at n k (UntypedItem t ∷ vs) = names_at n (k + 1) vs
names_at n k (BoolItem b ∷ vs) = names_at n (k + 1) vs

numbers_at : (n k : ℕ) (vs : Items) → map (λ r. pick four (pair 0 0 ∷ []) r) (flat_map with_name (item_rows n k vs)) ≡ map (λ m. num n ∷ []) (nodes_in vs)
numbers_at n k [] = refl
numbers_at n k (NodeItem m ∷ vs) = ap (λ l. (num n ∷ []) ∷ l) (numbers_at n (k + 1) vs)
numbers_at n k (IntItem z ∷ vs) = numbers_at n (k + 1) vs
numbers_at n k (TextItem t ∷ vs) = numbers_at n (k + 1) vs
numbers_at n k (UntypedItem t ∷ vs) = numbers_at n (k + 1) vs
numbers_at n k (BoolItem b ∷ vs) = numbers_at n (k + 1) vs

abbrev pub has_node : ℕ → Items → Bool
has_node n vs = some (map (λ (m : Node Text). num n ∷ []) (nodes_in vs))

pub nodes_there : (n : ℕ) (vs : Items) → has_node n vs ≡ not (no_node vs)
nodes_there n [] = refl
nodes_there n (NodeItem m ∷ vs) = lt-ltb 0 (1 + total (λ (r : Row). 1) (map (λ (q : Node Text). num n ∷ []) (nodes_in vs))) (omega arith)
nodes_there n (IntItem z ∷ vs) = nodes_there n vs
nodes_there n (TextItem t ∷ vs) = nodes_there n vs
nodes_there n (UntypedItem t ∷ vs) = nodes_there n vs
nodes_there n (BoolItem b ∷ vs) = nodes_there n vs

pub marks_nodes : (h : Iter → List Cell) (its : List Iter) (a : List Row) → Ascends (λ i. i.number) 0 its → Same a (value_rows h its) → Marks (project four (pair 0 0 ∷ []) (named_nodes a)) (λ i. has_node i.number (h i)) its
marks_nodes h its a asc sa =
    marks_rows (λ i. map (λ (m : Node Text). num i.number ∷ []) (nodes_in (h i))) its _ asc (λ i. all-map _ (λ (m : Node Text). num i.number ∷ []) (nodes_in (h i)) (all_each _ (λ m. refl) (nodes_in (h i))))
    (same-trans (same-map (λ r. pick four (pair 0 0 ∷ []) r) (same-flat with_name sa))
    (same-of (ap (map (λ r. pick four (pair 0 0 ∷ []) r)) (flat-flat with_name (λ i. item_rows i.number 1 (h i)) its)
    ∙ map-flat (λ r. pick four (pair 0 0 ∷ []) r) (λ i. flat_map with_name (item_rows i.number 1 (h i))) its
    ∙ flat-all _ _ its (all_each _ (λ i. numbers_at i.number 1 (h i)) its))))

named_stand : (h : Iter → List Cell) (its : List Iter) (a : List Row) → Same a (value_rows h its) → Same (project four (pair 0 0 ∷ pair 2 2 ∷ []) (named_nodes a)) (flat_map (λ i. map (node_row i.number) (nodes_in (h i))) its)
named_stand h its a sa =
    same-trans (same-map named_pair (same-flat with_name sa))
    (same-of (ap (map named_pair) (flat-flat with_name (λ i. item_rows i.number 1 (h i)) its) ∙ map-flat named_pair (λ i. flat_map with_name (item_rows i.number 1 (h i))) its ∙ flat-all _ _ its (all_each _ (λ i. names_at i.number 1 (h i)) its)))

path_fault : (n : ℕ) (vs : Items) → fault_in (path_result vs) ≡ cond (has_node n vs && stray vs) (Some c.XPTY0018) None
path_fault n vs =
    go (all_nodes vs) (no_node vs) ∙ ap (λ b. cond (b && not (all_nodes vs)) (Some c.XPTY0018) None) (sym (nodes_there n vs)) ∙ ap (λ b. cond (has_node n vs && b) (Some c.XPTY0018) None) (sym (strays_are vs))
  where
    go : (p q : Bool) → fault_in (cond p (Value (items_at (in_document_order (nodes_in vs)))) (cond q (Value vs) (Refused c.XPTY0018))) ≡ cond (not q && not p) (Some c.XPTY0018) None
    go true true = refl
    go true false = refl
    go false true = refl
    go false false = refl

abbrev is_stray : Row → Bool
is_stray r = is_code c.XPTY0004 (code_in (bare.value f.Name (cells_at bare three (column 2 ∷ []) r)))

abbrev kept_rows : ℕ → Items → List Row
kept_rows n vs = map (λ r. cells_at bare three three r) (filter is_stray (item_rows n 1 vs))

none_stray : (n k : ℕ) (vs : Items) → all_nodes vs ≡ true → filter is_stray (item_rows n k vs) ≡ []
none_stray n k [] e = refl
none_stray n k (NodeItem m ∷ vs) e = none_stray n (k + 1) vs e
none_stray n k (IntItem z ∷ vs) e = absurd (true≢false (sym e))
none_stray n k (TextItem t ∷ vs) e = absurd (true≢false (sym e))
none_stray n k (UntypedItem t ∷ vs) e = absurd (true≢false (sym e))
none_stray n k (BoolItem b ∷ vs) e = absurd (true≢false (sym e))

one_stray : (r : Row) (rs : List Row) → is_stray r ≡ true → filter is_stray rs ≡ rs → filter is_stray (r ∷ rs) ≡ r ∷ rs
one_stray r rs e h = ap (λ b. cond b (r ∷ filter is_stray rs) (filter is_stray rs)) e ∙ ap (λ l. r ∷ l) h

all_stray : (n k : ℕ) (vs : Items) → no_node vs ≡ true → (filter is_stray (item_rows n k vs) ≡ item_rows n k vs) × (nodes_in vs ≡ [])
all_stray n k [] e = (refl, refl)
all_stray n k (NodeItem m ∷ vs) e = absurd (true≢false (sym e))
all_stray n k (IntItem z ∷ vs) e = let r = all_stray n (k + 1) vs e in (one_stray (num n ∷ num k ∷ IntItem z ∷ []) (item_rows n (k + 1) vs) (code_self c.XPTY0004) r.0, r.1)
all_stray n k (TextItem t ∷ vs) e = let r = all_stray n (k + 1) vs e in (one_stray (num n ∷ num k ∷ TextItem t ∷ []) (item_rows n (k + 1) vs) (code_self c.XPTY0004) r.0, r.1)
all_stray n k (UntypedItem t ∷ vs) e = let r = all_stray n (k + 1) vs e in (one_stray (num n ∷ num k ∷ UntypedItem t ∷ []) (item_rows n (k + 1) vs) (code_self c.XPTY0004) r.0, r.1)
all_stray n k (BoolItem b ∷ vs) e = let r = all_stray n (k + 1) vs e in (one_stray (num n ∷ num k ∷ BoolItem b ∷ []) (item_rows n (k + 1) vs) (code_self c.XPTY0004) r.0, r.1)

path_at : (n : ℕ) (vs : Items) → fault_in (path_result vs) ≡ None → item_rows n 1 (items_at (in_document_order (nodes_in vs))) ++ kept_rows n vs ≡ item_rows n 1 (list_of (value_in (path_result vs)))
path_at n vs e = go (all_nodes vs) refl (no_node vs) refl e
  where
    go : (p : Bool) → all_nodes vs ≡ p → (q : Bool) → no_node vs ≡ q → fault_in (cond p (Value (items_at (in_document_order (nodes_in vs)))) (cond q (Value vs) (Refused c.XPTY0018))) ≡ None
        → item_rows n 1 (items_at (in_document_order (nodes_in vs))) ++ kept_rows n vs ≡ item_rows n 1 (list_of (value_in (cond p (Value (items_at (in_document_order (nodes_in vs)))) (cond q (Value vs) (Refused c.XPTY0018)))))
    go true h q k z = ap (λ l. item_rows n 1 (items_at (in_document_order (nodes_in vs))) ++ map (λ r. cells_at bare three three r) l) (none_stray n 1 vs h) ∙ append_none (item_rows n 1 (items_at (in_document_order (nodes_in vs))))
    go false h true k z =
        let r = all_stray n 1 vs k in
        ap (λ ms. item_rows n 1 (items_at (in_document_order ms)) ++ kept_rows n vs) r.1 ∙ ap (map (λ r. cells_at bare three three r)) r.0 ∙ same_items n 1 vs
    go false h false k z = cc

path_stand : (tree : TreeId → Option (Tree Text)) (h : Iter → List Cell) (its : List Iter) (a : List Row) → Ascends (λ i. i.number) 0 its → Same a (value_rows h its) → AllOf (λ i. AllOf (Rooted tree) (h i)) its → AllOf (λ i. fault_in (path_result (h i)) ≡ None) its
    → Same (path_rows a) (value_rows (λ i. list_of (value_in (path_result (h i)))) its)
path_stand tree h its a asc sa rooted calm =
    let left = each_once_stands tree (λ i. nodes_in (h i)) its _ asc (named_stand h its a sa) (all_mono _ _ (λ i (k : AllOf (Rooted tree) (h i)). nodes_rooted tree (h i) k) its rooted) in
    let right = same-trans (same-map (λ r. cells_at bare three three r) (same-keep is_stray sa))
    (same-of (ap (map (λ r. cells_at bare three three r)) (keep_flat is_stray (λ i. item_rows i.number 1 (h i)) its) ∙ map-flat (λ r. cells_at bare three three r) (λ i. filter is_stray (item_rows i.number 1 (h i))) its)) in
    same-trans (same-append left right)
    (same-trans (same-split (λ i. item_rows i.number 1 (items_at (in_document_order (nodes_in (h i))))) (λ i. kept_rows i.number (h i)) its)
    (same-of (flat-all _ _ its (all_mono _ _ (λ i (e : fault_in (path_result (h i)) ≡ None). path_at i.number (h i) e) its calm))))

pub path_call : (docs : Docs) (s s1 s2 : State) (site : Site) (looped a t : OpId) (cs : List Check)
    → Makes s s1 t three (path_rows (at s a).rows) (length (at s a).rows) → Stages site (length (at s looped).rows + length (at s a).rows) s1 s2 (at s looped).rows (path_marks (at s a).rows) cs
    → CallLifts docs s s2 site (Apply f.PathOrder) looped (a ∷ []) t
path_call docs s s1 s2 site looped a t cs m st =
    stages_one docs s s1 s2 site (Apply f.PathOrder) looped a t cs (path_marks (at s a).rows) [] (λ h. (λ i. has_node i.number (h i) && stray (h i)) ∷ []) refl (tt, tt) (refl, tt) _ _ _ m st
    (λ N l w. (omega arith, l)) path_result (λ h i. refl) (λ h i. path_fault i.number (h i))
    (λ its h asc sl sa. (marks_and (marks_nodes h its _ asc sa) (marks_fail f.Name c.XPTY0004 h its _ asc sa), tt))
    (λ its h asc sl sa. tt)
    (λ its h asc sl sa tree rooted calm. path_stand tree h its _ asc sa rooted calm)
