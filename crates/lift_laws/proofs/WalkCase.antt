-- Calls of steps, from the rows of their operators: a check of the iterations with an item that is no node, the step from all nodes
-- of all iterations at once, and positions by document order.
use Rattle.std.proofs.Common.{◌≡◌, ℕ, zero, suc, ◌+◌, ◌<◌, ◌≤◌, Bool, true, false, cond, not, ◌&&◌, ◌||◌, List, [], ◌∷◌, ◌++◌, length, map, refl, sym, ap, ◌∙◌, subst, inl, arith, Option, Some, None, pos, nat_lt}
use Rattle.std.specs.List.{filter, flat_map, list_any}
use Rattle.std.specs.Cmp.{IsEquivalence}
use Rattle.std.proofs.lemmas.Bool.{and_parts, eqb-true}
use Rattle.xq_base.specs.declared.axis.Axis.{Axis}
use Rattle.xq_base.specs.declared.axis.NodeTest.{NodeTest}
use Rattle.xq_base.specs.declared.code.Code.{Code}
use Rattle.xq_base.specs.declared.code.Code.TheVariants as c
use Rattle.xq_base.specs.declared.fun.Fun.TheVariants as f
use Rattle.xq_base.specs.Answers.{Answer, Value, Fault as Refused}
use Rattle.xq_base.specs.Texts.{Text, text_eq}
use Rattle.doc_table.specs.Tree.{Tree}
use Rattle.doc_table.specs.Axes.{steps_to}
use Rattle.doc_table.specs.Identity.{TreeId, Node, node_eq, node_less}
use Rattle.doc_table.specs.Items.{IntItem, TextItem, UntypedItem, BoolItem, NodeItem}
use Rattle.doc_table.specs.Nodes.{node_paths, node_in_tree}
use Rattle.doc_table.specs.Orders.{once}
use Rattle.doc_table.specs.Ascending.{IsOrder}
use Rattle.doc_table.specs.Values.{Items, all_nodes}
use Rattle.doc_table.specs.Steps.{found, nodes_in, items_at, in_document_order, step_answer}
use Rattle.doc_table.specs.NodeRules.{Docs}
use Rattle.doc_table.proofs.StrictOrders.{nodes_order}
use Rattle.plan_dag.specs.declared.op.OpId.{OpId}
use Rattle.plan_dag.specs.declared.check.Check.{Check}
use Rattle.plan_dag.specs.ItemRules.{Cell, cell_eq, item_rules, cells_found}
use Rattle.plan_dag.specs.Rows.{positive_in, step_less, steps_from}
use Rattle.plan_dag.specs.Meaning.{cell}
use Rattle.core_meaning.specs.declared.node.StepFrom.{StepFrom}
use Rattle.core_meaning.specs.declared.node.StepFrom.TheVariants as from'
use Rattle.core_meaning.specs.Expr.{Site, Rule, Walk}
use Rattle.core_meaning.specs.Meaning.{value_in}
use Rattle.core_meaning.specs.Rules.{no_node_code}
use Rattle.core_meaning.specs.Work.{rule_work}
use Rattle.core_meaning.specs.Lawful.{is_dynamic}
use Rattle.lift_laws.specs.Sums.{total, count, bit, AllOf, Ascends, Same}
use Rattle.lift_laws.specs.Iterations.{Row, Iter, num, item_rows, value_rows, loop_rows}
use Rattle.lift_laws.specs.Bulk.{list_of}
use Rattle.lift_laws.specs.States.{State, at, Small, Grows, Makes, Checks, Holds, HoldAll, column, three, single}
use Rattle.lift_laws.specs.Shapes.{bare, named_rows, item_fails_rows}
use Rattle.lift_laws.specs.Walks.{node_cols, ordered_rows, walk_rows, walk_test, MakesStep}
use Rattle.lift_laws.specs.Lifting.{first_cells, Tells, Rooted, CallLifts, call_answer, call_faults, call_cost}
use Rattle.lift_laws.proofs.Numbers.{num_same}
use Rattle.lift_laws.proofs.Multi.{same-of, same-trans, same-map, same-flat, same-length, length-total, total-ext, total-flat, total-zero}
use Rattle.lift_laws.proofs.Picks.{all_each, all_mono, all-map, all-flat, flat-all, flat-flat, map-append, map-flat, map-map}
use Rattle.lift_laws.proofs.Sizes.{map_length, total_most_all}
use Rattle.lift_laws.proofs.Keeping.{append_none, grows_trans, makes_holds, small_join, small_keep, small_less, small_most}
use Rattle.lift_laws.proofs.Marks.{marked_stands, exact_keep, fault_in, weigh, CodeIn, code_self, rule_tells}
use Rattle.lift_laws.proofs.Staged.{args_few}
use Rattle.lift_laws.proofs.Stagings.{calm_calls}
use Rattle.lift_laws.proofs.ItemCase.{fails_at, marks_fail}
use Rattle.lift_laws.proofs.Once.{Sorted, once_all, once_count, once_sorted}
use Rattle.lift_laws.proofs.CellEqual.{cells_equal, number_of, node_with, number_same, node_same, known_node}
use Rattle.lift_laws.proofs.NodePairs.{found_stands}
use Rattle.lift_laws.proofs.NodeOrder.{node_row, order_stands}

pub nodes_equal : IsEquivalence (node_eq {T = Text})
nodes_equal =
    let o : IsOrder (node_less {T = Text}) node_eq = nodes_order in
    record { refl = o.eq_self; symm = o.eq_turn; congr = o.eq_same }

-- how often a cell is among nodes
pub tail_count : (v : Cell) (ns : List (Node Text)) → count (λ m. cell_eq v (NodeItem m)) (once node_less node_eq ns) ≡ bit (nat_lt 0 (count (λ m. cell_eq v (NodeItem m)) ns))
tail_count (NodeItem n) ns = once_count node_less node_eq nodes_equal n ns
tail_count (IntItem z) ns = total-zero (once node_less node_eq ns) ∙ sym (ap (λ m. bit (nat_lt 0 m)) (total-zero ns))
tail_count (TextItem t) ns = total-zero (once node_less node_eq ns) ∙ sym (ap (λ m. bit (nat_lt 0 m)) (total-zero ns))
tail_count (UntypedItem t) ns = total-zero (once node_less node_eq ns) ∙ sym (ap (λ m. bit (nat_lt 0 m)) (total-zero ns))
tail_count (BoolItem b) ns = total-zero (once node_less node_eq ns) ∙ sym (ap (λ m. bit (nat_lt 0 m)) (total-zero ns))

pub head_one : (v : Cell) (m n : ℕ) → cell_eq v (num m) ≡ true → cell_eq v (num n) ≡ true → m ≡ n
head_one v m n e g = eqb-true m n (sym (num_same m n) ∙ sym (cells_equal.congr v (num m) (num n) e) ∙ g)

-- pairs of cells
abbrev Pair : Type 0
Pair = Cell × Cell

abbrev pair_eq : Pair → Pair → Bool
pair_eq p q = cell_eq p.0 q.0 && cell_eq p.1 q.1

pairs_equal : IsEquivalence pair_eq
pairs_equal = record {
  refl = λ p. ap (λ b. b && cell_eq p.1 p.1) (cells_equal.refl p.0) ∙ cells_equal.refl p.1;
  symm = λ p q. ap (λ b. b && cell_eq p.1 q.1) (cells_equal.symm p.0 q.0) ∙ ap (λ b. cell_eq q.0 p.0 && b) (cells_equal.symm p.1 q.1);
  congr = λ p q r e.
      let k = and_parts (cell_eq p.0 q.0) (cell_eq p.1 q.1) e in
      ap (λ b. b && cell_eq p.1 r.1) (cells_equal.congr p.0 q.0 r.0 k.0) ∙ ap (λ b. cell_eq q.0 r.0 && b) (cells_equal.congr p.1 q.1 r.1 k.1);
}

abbrev pair_of : ℕ → Node Text → Pair
pair_of n m = (num n, NodeItem m)

abbrev canon : (TreeId → Option (Tree Text)) → Pair → Pair
canon tree p = (number_of p.0, node_with tree p.1)

canon_same : (tree : TreeId → Option (Tree Text)) (p q : Pair) → pair_eq p q ≡ true → canon tree p ≡ canon tree q
canon_same tree p q e =
    let k = and_parts (cell_eq p.0 q.0) (cell_eq p.1 q.1) e in
    ap (λ v. (v, node_with tree p.1)) (number_same p.0 q.0 k.0) ∙ ap (λ v. (number_of q.0, v)) (node_same tree p.1 q.1 k.1)

-- nodes of a rooted argument, and what is found from them, are rooted
pub nodes_rooted : (tree : TreeId → Option (Tree Text)) (vs : Items) → AllOf (Rooted tree) vs → AllOf (λ (m : Node Text). Rooted tree (NodeItem m)) (nodes_in vs)
nodes_rooted tree [] h = tt
nodes_rooted tree (NodeItem n ∷ vs) h = (h.0, nodes_rooted tree vs h.1)
nodes_rooted tree (IntItem z ∷ vs) h = nodes_rooted tree vs h.1
nodes_rooted tree (TextItem t ∷ vs) h = nodes_rooted tree vs h.1
nodes_rooted tree (UntypedItem t ∷ vs) h = nodes_rooted tree vs h.1
nodes_rooted tree (BoolItem b ∷ vs) h = nodes_rooted tree vs h.1

positive : (texts : List Text) (n : ℕ) → 0 < n → positive_in (item_rules [] texts) (Some (pos n)) ≡ n ∷ []
positive texts zero l = absurd (omega arith)
positive texts (suc n) l = refl

module _ (texts : List Text) (axis : Axis) (wanted : NodeTest) where
  abbrev from_row : Row → List Pair
  from_row r = steps_from (item_rules [] texts) axis wanted (cell bare three (column 0) r) (cell bare three (column 2) r)

  abbrev found_in : Items → List (Node Text)
  found_in vs = flat_map (found axis (walk_test texts wanted)) (nodes_in vs)

  one_step : (n : ℕ) → 0 < n → (v : Cell) → steps_from (item_rules [] texts) axis wanted (num n) v ≡ map (λ m. (num n, m)) (cells_found texts axis wanted v)
  one_step n l v = ap (λ ks. flat_map (λ k. map (λ m. (num n, m)) (cells_found texts axis wanted v)) ks) (positive texts n l) ∙ append_none (map (λ m. (num n, m)) (cells_found texts axis wanted v))

  item_steps : (n : ℕ) → 0 < n → (k : ℕ) (vs : Items) → flat_map from_row (item_rows n k vs) ≡ map (pair_of n) (found_in vs)
  item_steps n l k [] = refl
  item_steps n l k (NodeItem m ∷ vs) =
      ap (λ b. b ++ flat_map from_row (item_rows n (k + 1) vs)) (one_step n l (NodeItem m) ∙ map-map (λ v. (num n, v)) NodeItem (found axis (walk_test texts wanted) m))
      ∙ ap (λ b. map (pair_of n) (found axis (walk_test texts wanted) m) ++ b) (item_steps n l (k + 1) vs)
      ∙ sym (map-append (pair_of n) (found axis (walk_test texts wanted) m) (found_in vs))
  item_steps n l k (IntItem z ∷ vs) = ap (λ b. b ++ flat_map from_row (item_rows n (k + 1) vs)) (one_step n l (IntItem z)) ∙ item_steps n l (k + 1) vs
  item_steps n l k (TextItem t ∷ vs) = ap (λ b. b ++ flat_map from_row (item_rows n (k + 1) vs)) (one_step n l (TextItem t)) ∙ item_steps n l (k + 1) vs
  item_steps n l k (UntypedItem t ∷ vs) = ap (λ b. b ++ flat_map from_row (item_rows n (k + 1) vs)) (one_step n l (UntypedItem t)) ∙ item_steps n l (k + 1) vs
  item_steps n l k (BoolItem t ∷ vs) = ap (λ b. b ++ flat_map from_row (item_rows n (k + 1) vs)) (one_step n l (BoolItem t)) ∙ item_steps n l (k + 1) vs

  found_known : (tree : TreeId → Option (Tree Text)) (vs : Items) → AllOf (Rooted tree) vs → AllOf (λ m. (n : ℕ) → canon tree (pair_of n m) ≡ pair_of n m) (found_in vs)
  found_known tree vs h =
      all-flat _ (found axis (walk_test texts wanted)) (nodes_in vs)
      (all_mono _ _ (λ m (k : Rooted tree (NodeItem m)).
      all-map (λ q. (n : ℕ) → canon tree (pair_of n q) ≡ pair_of n q) (node_in_tree m) (filter (steps_to text_eq axis (walk_test texts wanted) m.tree m.path) (node_paths m.tree))
      (all_each _ (λ w n. ap (λ v. (num n, v)) (known_node tree (node_in_tree m w) k.0)) (filter (steps_to text_eq axis (walk_test texts wanted) m.tree m.path) (node_paths m.tree)))) (nodes_in vs) (nodes_rooted tree vs h))

  positive_all : (n : ℕ) (js : List Iter) → Ascends (λ i. i.number) n js → AllOf (λ i. 0 < i.number) js
  positive_all n [] b = tt
  positive_all n (j ∷ js) b = ((let l = b.0 in omega arith), positive_all j.number js b.1)

  -- the step from all iterations is the steps from each
  walk_stands : (tree : TreeId → Option (Tree Text)) (h : Iter → List Cell) (its : List Iter) (a : List Row) → Ascends (λ i. i.number) 0 its → Same a (value_rows h its) → AllOf (λ i. AllOf (Rooted tree) (h i)) its
      → Same (walk_rows texts axis wanted a) (flat_map (λ i. map (node_row i.number) (in_document_order (found_in (h i)))) its)
  walk_stands tree h its a asc sa rooted =
      let all = flat_map from_row a in
      let same_all = same-trans (same-flat from_row sa) (same-of (flat-flat from_row (λ i. item_rows i.number 1 (h i)) its ∙ flat-all _ _ its (all_mono _ _ (λ i (l : 0 < i.number). item_steps i.number l 1 (h i)) its (positive_all 0 its asc)))) in
      same-trans (same-map (λ (p : Pair). p.0 ∷ p.1 ∷ [])
      (found_stands pair_eq pairs_equal pair_of (canon tree) (canon_same tree) (λ p n. cell_eq p.0 (num n)) (λ p m n. head_one p.0 m n) (λ p m. cell_eq p.1 (NodeItem m)) (λ p ns. tail_count p.1 ns) (λ p n m. refl)
      (λ i. found_in (h i)) its asc all (once (step_less (item_rules [] texts)) pair_eq all) same_all (λ z. once_count (step_less (item_rules [] texts)) pair_eq pairs_equal z all) (λ P. once_all (step_less (item_rules [] texts)) pair_eq P all)
      (all_mono _ _ (λ i (k : AllOf (Rooted tree) (h i)). found_known tree (h i) k) its rooted)))
      (same-of (map-flat (λ (p : Pair). p.0 ∷ p.1 ∷ []) (λ i. map (pair_of i.number) (in_document_order (found_in (h i)))) its
      ∙ flat-all _ _ its (all_each _ (λ i. map-map (λ (p : Pair). p.0 ∷ p.1 ∷ []) (pair_of i.number) (in_document_order (found_in (h i)))) its)))

  sorted_found : (vs : Items) → Sorted node_less (in_document_order (found_in vs))
  sorted_found vs = once_sorted node_less node_eq nodes_order (found_in vs)

-- which items are no nodes
pub strays_are : (vs : Items) → list_any (fails_at f.Name c.XPTY0004) vs ≡ not (all_nodes vs)
strays_are [] = refl
strays_are (NodeItem n ∷ vs) = strays_are vs
strays_are (IntItem z ∷ vs) = ap (λ b. b || list_any (fails_at f.Name c.XPTY0004) vs) (code_self c.XPTY0004)
strays_are (TextItem t ∷ vs) = ap (λ b. b || list_any (fails_at f.Name c.XPTY0004) vs) (code_self c.XPTY0004)
strays_are (UntypedItem t ∷ vs) = ap (λ b. b || list_any (fails_at f.Name c.XPTY0004) vs) (code_self c.XPTY0004)
strays_are (BoolItem b ∷ vs) = ap (λ d. d || list_any (fails_at f.Name c.XPTY0004) vs) (code_self c.XPTY0004)

module _ (docs : Docs) (s s1 s2 s3 s4 : State) (site : Site) (texts : List Text) (from : StepFrom) (axis : Axis) (wanted : NodeTest) (looped a k w t : OpId)
    (m : Makes s s1 k single (named_rows (at s looped).rows (item_fails_rows f.Name c.XPTY0004 (at s a).rows)) (length (at s looped).rows + length (at s a).rows))
    (h : Checks s1 s2 (record { op = k; code = no_node_code from; offset = site.offset }))
    (x : MakesStep s2 s3 (record { step = record { site = site; axis = axis; test = walk_test texts wanted }; input = a; op = w }) node_cols (walk_rows texts axis wanted (at s2 a).rows))
    (o : Makes s3 s4 t three (ordered_rows (at s3 w).rows) (length (at s3 w).rows)) where
  abbrev rule : Rule
  rule = Walk from axis (walk_test texts wanted)

  abbrev code : Code
  code = no_node_code from

  abbrev the_check : Check
  the_check = record { op = k; code = no_node_code from; offset = site.offset }

  abbrev answer : Items → Answer Items
  answer vs = step_answer (no_node_code from) axis (walk_test texts wanted) vs

  abbrev nodes_at : Items → List (Node Text)
  nodes_at vs = in_document_order (flat_map (found axis (walk_test texts wanted)) (nodes_in vs))

  grown : Grows s s4 (the_check ∷ [])
  grown = grows_trans m.grows (grows_trans h.grows (grows_trans x.grows o.grows))

  dynamic : (q : StepFrom) → is_dynamic (no_node_code q) ≡ true
  dynamic from'.Dot = refl
  dynamic from'.Path = refl

  lengths : (k.0 < length s1.tables) × (length s2.tables ≡ length s1.tables) × (length s1.tables ≤ length s4.tables) × (length s3.tables ≤ length s4.tables)
  lengths = (m.is_in, h.as_many, (let p = h.grows.longer in let q = x.grows.longer in let r = o.grows.longer in omega arith), o.grows.longer)

  faults_are : (vs : Items) → fault_in (answer vs) ≡ cond (list_any (fails_at f.Name c.XPTY0004) vs) (Some code) None
  faults_are vs = go (all_nodes vs) ∙ ap (λ b. cond b (Some code) None) (sym (strays_are vs))
    where
      go : (b : Bool) → fault_in (cond b (Value (items_at (nodes_at vs))) (Refused code)) ≡ cond (not b) (Some code) None
      go true = refl
      go false = refl

  calm_value : (vs : Items) → fault_in (answer vs) ≡ None → items_at (nodes_at vs) ≡ list_of (value_in (answer vs))
  calm_value vs e = go (all_nodes vs) e
    where
      go : (b : Bool) → fault_in (cond b (Value (items_at (nodes_at vs))) (Refused code)) ≡ None → items_at (nodes_at vs) ≡ list_of (value_in (cond b (Value (items_at (nodes_at vs))) (Refused code)))
      go true e = refl
      go false e = cc

  code_in : (vs : Items) → CodeIn (fault_in (answer vs)) (the_check ∷ [])
  code_in vs = subst (λ z. CodeIn z (the_check ∷ [])) (sym (faults_are vs)) (go (list_any (fails_at f.Name c.XPTY0004) vs))
    where
      go : (b : Bool) → CodeIn (cond b (Some code) None) (the_check ∷ [])
      go true = inl refl
      go false = tt

  weighed : (v : Cell → ℕ) (n : ℕ) (vs : Items) → cond (list_any (fails_at f.Name c.XPTY0004) vs) (v (num n)) 0 ≡ weigh code v n (fault_in (answer vs))
  weighed v n vs = go (list_any (fails_at f.Name c.XPTY0004) vs) ∙ sym (ap (weigh code v n) (faults_are vs))
    where
      go : (b : Bool) → cond b (v (num n)) 0 ≡ weigh code v n (cond b (Some code) None)
      go true = sym (ap (λ b. cond b (v (num n)) 0) (code_self code))
      go false = refl

  module _ (N : ℕ) (its : List Iter) (g : Iter → List Cell) (asc : Ascends (λ i. i.number) 0 its) (hl : Holds s looped single (loop_rows its)) (ha : Holds s a three (value_rows g its))
      (tree : TreeId → Option (Tree Text)) (rooted : AllOf (λ i. AllOf (Rooted tree) (g i)) its) (enough : call_cost docs site rule (g ∷ []) its ≤ N) where
    argument : (at s2 a).rows ≡ (at s a).rows
    argument = ap (λ z. z.rows) (h.grows.same a (let p = m.grows.longer in let q = ha.is_in in omega arith) ∙ m.grows.same a ha.is_in)

    told_few : length (at s looped).rows + length (at s a).rows ≤ N
    told_few = let q = args_few docs s site rule looped (a ∷ []) N its (g ∷ []) hl (ha, tt) enough in omega arith

    small_first : Small s4 (length s.tables) (length s1.tables) N
    small_first = small_keep (grows_trans h.grows (grows_trans x.grows o.grows)) (omega arith) (small_most m.small told_few)

    exact : (v : Cell → ℕ) → total v (first_cells (at s4 k)) ≡ total (λ i. weigh code v i.number (fault_in (call_answer docs site rule (g ∷ []) i))) its
    exact v =
        let p = λ (i : Iter). list_any (fails_at f.Name c.XPTY0004) (g i) in
        let in2 : k.0 < length s2.tables = let l = lengths in let q = l.0 in let r = l.1 in omega arith in
        let in3 : k.0 < length s3.tables = let l = x.grows.longer in omega arith in
        ap (λ q. total v (first_cells q)) (o.grows.same k in3 ∙ x.grows.same k in2 ∙ h.grows.same k m.is_in ∙ m.is)
        ∙ exact_keep p its _ (marked_stands p its _ _ asc hl.rows_are (marks_fail f.Name c.XPTY0004 g its _ asc ha.rows_are)) v
        ∙ total-ext _ _ its (λ i. weighed v i.number (g i))

    walked : Same (at s3 w).rows (flat_map (λ i. map (node_row i.number) (nodes_at (g i))) its)
    walked = same-trans (same-of (ap (λ z. z.rows) x.is ∙ ap (walk_rows texts axis wanted) argument)) (walk_stands texts axis wanted tree g its (at s a).rows asc ha.rows_are rooted)

    stand : call_faults docs site rule (g ∷ []) its ≡ [] → Same (ordered_rows (at s3 w).rows) (value_rows (λ i. list_of (value_in (call_answer docs site rule (g ∷ []) i))) its)
    stand z =
        same-trans (order_stands (λ i. nodes_at (g i)) its (at s3 w).rows asc (λ i. sorted_found texts axis wanted (g i)) walked)
        (same-of (flat-all _ _ its (all_mono _ _ (λ i (e : fault_in (call_answer docs site rule (g ∷ []) i) ≡ None). ap (item_rows i.number 1) (calm_value (g i) e)) its (calm_calls docs site rule (g ∷ []) its z))))

    walked_few : call_faults docs site rule (g ∷ []) its ≡ [] → length (at s3 w).rows ≤ N
    walked_few z =
        let q = same-length walked ∙ length-total (flat_map (λ i. map (node_row i.number) (nodes_at (g i))) its) ∙ total-flat (λ r. 1) (λ i. map (node_row i.number) (nodes_at (g i))) its in
        let u = total_most_all (λ i. total (λ (r : Row). 1) (map (node_row i.number) (nodes_at (g i)))) (λ i. 1 + (length (g i) + 0) + length (list_of (value_in (call_answer docs site rule (g ∷ []) i))) + rule_work rule (Some (g i ∷ [])) (value_in (call_answer docs site rule (g ∷ []) i))) its
        (all_mono _ _ (λ i (e : fault_in (call_answer docs site rule (g ∷ []) i) ≡ None).
        let y = sym (length-total (map (node_row i.number) (nodes_at (g i)))) ∙ map_length (node_row i.number) (nodes_at (g i)) in
        let v = sym (ap length (calm_value (g i) e)) ∙ map_length NodeItem (nodes_at (g i)) in
        let r : total (λ (r : Row). 1) (map (node_row i.number) (nodes_at (g i))) ≤ 1 + (length (g i) + 0) + length (list_of (value_in (call_answer docs site rule (g ∷ []) i))) + rule_work rule (Some (g i ∷ [])) (value_in (call_answer docs site rule (g ∷ []) i)) = omega arith in r) its (calm_calls docs site rule (g ∷ []) its z)) in
        omega arith

    told_here : Tells N s4 (length s.tables) (length s4.tables) (record { site = site; checks = the_check ∷ [] } ∷ []) (call_faults docs site rule (g ∷ []) its)
        × (call_faults docs site rule (g ∷ []) its ≡ [] → Holds s4 t three (value_rows (λ i. list_of (value_in (call_answer docs site rule (g ∷ []) i))) its))
    told_here = (
      rule_tells site (call_answer docs site rule (g ∷ [])) its N s s4 (the_check ∷ []) (exact, tt) (all_each _ (λ i. code_in (g i)) its) ((let l = lengths in let q = l.0 in small_less (omega arith) small_first), tt)
          (λ z.
          let l = lengths in
          let q = l.1 in
          let few = walked_few z in
          let rows : length (walk_rows texts axis wanted (at s2 a).rows) ≤ N = let e = ap (λ z. length z.rows) x.is in omega arith in
          small_join small_first (small_join (subst (λ n. Small s4 n (length s3.tables) N) q (small_keep o.grows (omega arith) (small_most x.small rows))) (small_most o.small few))),
      (λ z. makes_holds o (stand z)),
    )

  told : (N : ℕ) (its : List Iter) (gs : List (Iter → List Cell)) → Ascends (λ i. i.number) 0 its → Holds s looped single (loop_rows its) → HoldAll s (a ∷ []) gs its
      → (tree : TreeId → Option (Tree Text)) → AllOf (λ g. AllOf (λ i. AllOf (Rooted tree) (g i)) its) gs → call_cost docs site rule gs its ≤ N
      → Tells N s4 (length s.tables) (length s4.tables) (record { site = site; checks = the_check ∷ [] } ∷ []) (call_faults docs site rule gs its)
      × (call_faults docs site rule gs its ≡ [] → Holds s4 t three (value_rows (λ i. list_of (value_in (call_answer docs site rule gs i))) its))
  told N its [] asc hl hp tree rooted enough = absurd hp
  told N its (g ∷ []) asc hl hp tree rooted enough = told_here N its g asc hl hp.0 tree rooted.0 enough
  told N its (g ∷ g' ∷ gs) asc hl hp tree rooted enough = absurd hp.1

  pub walk_call : CallLifts docs s s4 site (Walk from axis (walk_test texts wanted)) looped (a ∷ []) t
  walk_call = record {
    new = the_check ∷ [];
    grows = grown;
    placed = (((let l = lengths in let p = l.0 in let q = l.2 in omega arith), refl, dynamic from), tt);
    coded = (tt, tt);
    steps = record {
      added = record { step = record { site = site; axis = axis; test = walk_test texts wanted }; input = a; op = w } ∷ [];
      steps_are = o.quiet ∙ x.added ∙ ap (λ z. z ++ record { step = record { site = site; axis = axis; test = walk_test texts wanted }; input = a; op = w } ∷ []) (h.quiet ∙ m.quiet);
      walks_are = refl;
      inputs = (refl, tt);
    };
    told = told;
  }
