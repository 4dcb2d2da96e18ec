-- Laws of the lift: each form of an expression is lifted by its parts' plans and by operators with the rows of its shape; and
-- what the checks of a lifted expression answer.
use Rattle.std.specs.Prelude.{◌≡◌, ℕ, ◌+◌, Bool, true, false, List, [], ◌∷◌, ◌++◌, length, map, is_none, Option}
use Rattle.std.specs.List.{flat_map}
use Rattle.xq_base.specs.declared.axis.Axis.{Axis}
use Rattle.xq_base.specs.declared.axis.NodeTest.{NodeTest}
use Rattle.xq_base.specs.declared.code.Code.{Code}
use Rattle.xq_base.specs.declared.code.Code.TheVariants as c
use Rattle.xq_base.specs.declared.fun.AtomKind.{AtomKind}
use Rattle.xq_base.specs.declared.fun.CompOp.{CompOp}
use Rattle.xq_base.specs.declared.fun.Fun.TheVariants as f
use Rattle.xq_base.specs.Texts.{Text}
use Rattle.xq_base.specs.Atoms.{Atom}
use Rattle.doc_table.specs.Items.{TextItem, BoolItem}
use Rattle.doc_table.specs.Values.{Items, item_of_atom}
use Rattle.doc_table.specs.NodeRules.{Docs}
use Rattle.plan_dag.specs.declared.op.OpId.{OpId}
use Rattle.plan_dag.specs.declared.cols.Col.{Col}
use Rattle.plan_dag.specs.declared.op.Op.{Op}
use Rattle.plan_dag.specs.declared.op.Op.TheVariants as o
use Rattle.plan_dag.specs.declared.check.Check.{Check}
use Rattle.plan_dag.specs.Cells.{Rules}
use Rattle.plan_dag.specs.ItemRules.{Cell, item_rules}
use Rattle.plan_dag.specs.Meaning.{Graph, table_of, tables, demand_of, answer_from}
use Rattle.plan_dag.specs.Schema.{is_valid}
use Rattle.plan_dag.specs.Graphs.{Adds, in_graph, with_check}
use Rattle.core_meaning.specs.Expr.{Site, Rule, Apply, Walk, IsOf, TreatAs, ConvertTo, CastTo, CastableTo, FailWith, Expr, Exprs, Lit, Empty, Var, Seq, Let, For, If, Call, no_more, one_more, Spine, Leaf, ForBind, LetBind, WhereBind, Order, Sorted}
use Rattle.core_meaning.specs.declared.node.Occurs.{Occurs}
use Rattle.core_meaning.specs.declared.node.StepFrom.{StepFrom}
use Rattle.core_meaning.specs.Types.{NoItems}
use Rattle.core_meaning.specs.Rules.{no_node_code}
use Rattle.core_meaning.specs.Meaning.{val}
use Rattle.core_meaning.specs.Failures.{fails}
use Rattle.core_meaning.specs.Work.{free, without, work}
use Rattle.core_meaning.specs.Lawful.{nodes, is_sited, sited_all, is_dynamic, fits, is_lawful, nodes_all, sited_in}
use Rattle.core_meaning.specs.PlainCore.{PlainCore}
use Rattle.core_meaning.specs.ExprOf.{expr_of}
use Rattle.lift_laws.specs.Sums.{AllOf, Same}
use Rattle.lift_laws.specs.Iterations.{Row, Iter}
use Rattle.lift_laws.specs.Bulk.{Fault, faults, cost}
use Rattle.lift_laws.specs.Worlds.{World, cell_of, Known, Faithful, tree_under}
use Rattle.lift_laws.specs.States.{State, state_of, step_at, at, IsIn, Makes, Checks, three, single}
use Rattle.lift_laws.specs.Shapes.{less, beside, four, literal_rows, seq_rows, turn_map, inner_rows, item_var_rows, place_var_rows, back_rows, second_rows, chosen_rows, other_rows, either_rows, into_rows, restrict_rows, any_rows, named_rows, truth_rows, item_value_in, item_fails_rows, data_rows, item_value_rows, counted_rows, count_value_rows}
use Rattle.lift_laws.specs.Lifting.{Group, checks_of, Tells, InCodeOrder, Lifts, LiftsAll, CallLifts, Fair, Rooted}
use Rattle.lift_laws.specs.Carried.{set_var, CarryOne, CarriedFor, Carries, Restricts}
use Rattle.lift_laws.specs.Stages.{Stages, ItemRule, rule_of, fun_of, codes_of, item_marks, item_marks_in, item_most, item_most_in, uncastable_rows, castable_most, TextRule, text_fun, absent_item, text_value_rows, boolean_fun, boolean_marks, boolean_rows, boolean_most}
use Rattle.lift_laws.specs.Pairs.{PairRule, pair_fun, OfEach, TextPairRule, text_pair_fun, filled_rows, pair_codes, pair_marks, pair_most, pair_value_rows, general_fun, general_marks, general_rows, general_most}
use Rattle.lift_laws.specs.Walks.{node_cols, ordered_rows, walk_rows, walk_test, MakesStep, union_rows, union_marks, path_rows, path_marks}
use Rattle.lift_laws.specs.Sets.{except_rows, intersect_rows}
use Rattle.lift_laws.specs.Places.{place_marks, removed_rows, from_rows, place_most, inserted_rows, inserted_most, index_marks, index_rows, index_most}
use Rattle.lift_laws.specs.Distinct.{distinct_rows, distinct_most}
use Rattle.lift_laws.specs.Slices.{slice_marks, slice_rows, slice_most}
use Rattle.lift_laws.specs.Sequences.{rows_at, concat_rows, concat_marks, concat_most, reversed_rows}
use Rattle.lift_laws.specs.Aggregates.{AggRule, agg_fun, agg_value_rows, agg_marks, agg_most, sum_or_rows, sum_or_marks, sum_or_most}
use Rattle.lift_laws.specs.TypeTests.{TypeTest, NodeType, Anything, Atomic, OfKind, OfNodes, sequence_test, other_type_rows, count_marks_of}
use Rattle.lift_laws.specs.Ranges.{range_marks, range_value_rows, range_most}
use Rattle.lift_laws.specs.TextParts.{part_marks, part_rows, part_most, TrioRule, trio_fun, trio_marks, trio_rows, trio_value_rows, trio_most}
use Rattle.lift_laws.specs.Joins.{joined_rows, joined_most, join_marks, join_loop, blank_rows}
use Rattle.lift_laws.specs.Conversions.{kind_marks, strict_marks}
use Rattle.lift_laws.specs.Tuples.{as_expr, LiftsIn}
use Rattle.lift_laws.specs.Sorted.{tuple_rows, mixed_rows, mixed_most, order_rows, order_most}
use Rattle.lift_laws.specs.Verdicts.{OfNode, Verdict, SmallFrom}
use Rattle.lift_laws.specs.Existence.{Numbered, WorldFor}
use Rattle.lift_laws.specs.Plans.{LiftsCore, Computes}

-- where nothing fails in any iteration, each has a value
abbrev pub ValuesWhereNothingFails : Type 0
ValuesWhereNothingFails = (docs : Docs) (e : Expr) (its : List Iter) → faults docs e its ≡ [] → AllOf (λ i. is_none (val docs e i.env i.vector) ≡ false) its

-- a literal: its cell at position 1 of the loop
abbrev pub LiteralLifts : Type 0
LiteralLifts = (docs : Docs) (s s' : State) (n : ℕ) (a : Atom) (looped : OpId) (vars : ℕ → OpId) (t : OpId)
    → Makes s s' t three (literal_rows (item_of_atom a) (at s looped).rows) (length (at s looped).rows) → Lifts docs s s' n (Lit (item_of_atom a)) looped vars t

-- nothing: a table without rows
abbrev pub NothingLifts : Type 0
NothingLifts = (docs : Docs) (s s' : State) (n : ℕ) (looped : OpId) (vars : ℕ → OpId) (t : OpId) → Makes s s' t three [] 0 → Lifts docs s s' n Empty looped vars t

-- a variable: its table
abbrev pub VariableLifts : Type 0
VariableLifts = (docs : Docs) (s : State) (n x : ℕ) (looped : OpId) (vars : ℕ → OpId) → Lifts docs s s n (Var x) looped vars (vars x)

-- two parts one after the other: their tables with new positions
abbrev pub SequenceLifts : Type 0
SequenceLifts = (docs : Docs) (s s1 s2 s3 : State) (n : ℕ) (a b : Expr) (looped : OpId) (vars : ℕ → OpId) (ta tb t : OpId) → is_sited n (Seq a b) ≡ true
    → Lifts docs s s1 n a looped vars ta → Lifts docs s1 s2 (n + nodes a) b looped vars tb
    → Makes s2 s3 t three (seq_rows (at s2 ta).rows (at s2 tb).rows) (length (at s2 ta).rows + length (at s2 tb).rows)
    → Lifts docs s s3 n (Seq a b) looped vars t

-- a binding: the body, with the bound part's table for the variable
abbrev pub BindingLifts : Type 0
BindingLifts = (docs : Docs) (s s1 s2 : State) (n x : ℕ) (b e : Expr) (looped : OpId) (vars : ℕ → OpId) (tb t : OpId) → is_sited n (Let x b e) ≡ true
    → Lifts docs s s1 n b looped vars tb → Lifts docs s1 s2 (n + nodes b) e looped (set_var vars x tb) t → Lifts docs s s2 n (Let x b e) looped vars t

-- a loop: the map of its turns, the loop inside, its variables and those carried into it, the body, and the way back
abbrev pub LoopLifts : Type 0
LoopLifts = (docs : Docs) (s s1 s2 s3 s4 s5 s6 s7 s8 : State) (n x p : ℕ) (q e : Expr) (looped : OpId) (vars vars' : ℕ → OpId) (tq m inner vx vp te t : OpId) → is_sited n (For x p q e) ≡ true
    → Lifts docs s s1 n q looped vars tq
    → Makes s1 s2 m four (turn_map (at s1 tq).rows) (length (at s1 tq).rows)
    → Makes s2 s3 inner single (inner_rows (at s2 m).rows) (length (at s2 m).rows)
    → Makes s3 s4 vx three (item_var_rows (at s3 m).rows) (length (at s3 m).rows)
    → Makes s4 s5 vp three (place_var_rows (at s4 m).rows) (length (at s4 m).rows)
    → Carries s5 s6 m vars vars' x p e
    → Lifts docs s6 s7 (n + nodes q) e inner (set_var (set_var vars' x vx) p vp) te
    → Makes s7 s8 t three (back_rows (at s7 m).rows (at s7 te).rows) (length (at s7 m).rows + length (back_rows (at s7 m).rows (at s7 te).rows))
    → Lifts docs s s8 n (For x p q e) looped vars t

-- a choice: the loops of the iterations that choose each branch, the variables restricted to them, and both branches' tables
abbrev pub ChoiceLifts : Type 0
ChoiceLifts = (docs : Docs) (s s1 s2 s3 s4 s5 s6 s7 s8 : State) (n : ℕ) (d a b : Expr) (looped : OpId) (vars va vb : ℕ → OpId) (tc chosen_loop other_loop ta tb t : OpId) → is_sited n (If d a b) ≡ true
    → Lifts docs s s1 n d looped vars tc
    → Makes s1 s2 chosen_loop single (chosen_rows (at s1 tc).rows) (length (at s1 tc).rows)
    → Makes s2 s3 other_loop single (other_rows (at s2 looped).rows (at s2 chosen_loop).rows) (length (at s2 looped).rows)
    → Restricts s3 s4 chosen_loop vars va a
    → Lifts docs s4 s5 (n + nodes d) a chosen_loop va ta
    → Restricts s5 s6 other_loop vars vb b
    → Lifts docs s6 s7 (n + nodes d + nodes a) b other_loop vb tb
    → Makes s7 s8 t three (either_rows (at s7 ta).rows (at s7 tb).rows) (length (at s7 ta).rows + length (at s7 tb).rows)
    → Lifts docs s s8 n (If d a b) looped vars t

-- no parts: no tables
abbrev pub NoPartsLift : Type 0
NoPartsLift = (docs : Docs) (s : State) (n : ℕ) (looped : OpId) (vars : ℕ → OpId) → LiftsAll docs s s n no_more looped vars []

-- the parts of a call: one after the other
abbrev pub PartsLift : Type 0
PartsLift = (docs : Docs) (s s1 s2 : State) (n : ℕ) (e : Expr) (es : Exprs) (looped : OpId) (vars : ℕ → OpId) (t : OpId) (ts : List OpId) → sited_all n (one_more e es) ≡ true
    → Lifts docs s s1 n e looped vars t → LiftsAll docs s1 s2 (n + nodes e) es looped vars ts → LiftsAll docs s s2 n (one_more e es) looped vars (t ∷ ts)

-- a call: its parts, and then its rule, lifted over cells
abbrev pub CallsLift : Type 0
CallsLift = (docs : Docs) (s s1 s2 : State) (n : ℕ) (site : Site) (r : Rule) (es : Exprs) (looped : OpId) (vars : ℕ → OpId) (ts : List OpId) (t : OpId) → is_sited n (Call site r es) ≡ true
    → LiftsAll docs s s1 n es looped vars ts → CallLifts docs s1 s2 site r looped ts t → Lifts docs s s2 n (Call site r es) looped vars t

-- a rule gives the same over cells as over items, and nodes of the world
abbrev pub RulesAreFair : Type 0
RulesAreFair = (docs : Docs) (site : Site) (r : Rule) → Fair docs site r

-- a failure: a check of the loop, and a table without rows
abbrev pub FailuresLift : Type 0
FailuresLift = (docs : Docs) (s s1 s2 : State) (site : Site) (code : Code) (looped t : OpId) → is_dynamic code ≡ true → Makes s s1 t three [] 0
    → Checks s1 s2 (record { op = looped; code = code; offset = site.offset }) → CallLifts docs s s2 site (FailWith code) looped [] t

-- the constants: a literal
abbrev pub ConstantsLift : Type 0
ConstantsLift = (docs : Docs) (s s' : State) (site : Site) (looped t : OpId)
    → (Makes s s' t three (literal_rows (BoolItem true) (at s looped).rows) (length (at s looped).rows) → CallLifts docs s s' site (Apply f.True) looped [] t)
    × (Makes s s' t three (literal_rows (BoolItem false) (at s looped).rows) (length (at s looped).rows) → CallLifts docs s s' site (Apply f.False) looped [] t)

-- `exists` and `empty`: a boolean by whether the argument has an item
abbrev pub ExistsLifts : Type 0
ExistsLifts = (docs : Docs) (s s' : State) (site : Site) (looped a t : OpId)
    → Makes s s' t three (truth_rows true (at s looped).rows (any_rows (at s a).rows)) (length (at s looped).rows + length (at s looped).rows + length (at s a).rows) → CallLifts docs s s' site (Apply f.Exists) looped (a ∷ []) t

abbrev pub EmptyLifts : Type 0
EmptyLifts = (docs : Docs) (s s' : State) (site : Site) (looped a t : OpId)
    → Makes s s' t three (truth_rows false (at s looped).rows (any_rows (at s a).rows)) (length (at s looped).rows + length (at s looped).rows + length (at s a).rows) → CallLifts docs s s' site (Apply f.Empty) looped (a ∷ []) t

-- `zero-or-one`, `one-or-more` and `exactly-one`: a check of the iterations whose argument has another number of items, and the
-- argument's table
abbrev pub ZeroOrOneLifts : Type 0
ZeroOrOneLifts = (docs : Docs) (s s1 s2 : State) (site : Site) (looped a k : OpId)
    → Makes s s1 k single (named_rows (at s looped).rows (second_rows (at s a).rows)) (length (at s looped).rows + length (at s a).rows)
    → Checks s1 s2 (record { op = k; code = c.FORG0003; offset = site.offset }) → CallLifts docs s s2 site (Apply f.ZeroOrOne) looped (a ∷ []) a

abbrev pub OneOrMoreLifts : Type 0
OneOrMoreLifts = (docs : Docs) (s s1 s2 : State) (site : Site) (looped a k : OpId)
    → Makes s s1 k single (named_rows (at s looped).rows (less (at s looped).rows (any_rows (at s a).rows))) (length (at s looped).rows + length (at s a).rows)
    → Checks s1 s2 (record { op = k; code = c.FORG0004; offset = site.offset }) → CallLifts docs s s2 site (Apply f.OneOrMore) looped (a ∷ []) a

abbrev pub ExactlyOneLifts : Type 0
ExactlyOneLifts = (docs : Docs) (s s1 s2 : State) (site : Site) (looped a k : OpId)
    → Makes s s1 k single (named_rows (at s looped).rows (beside single (second_rows (at s a).rows) (less (at s looped).rows (any_rows (at s a).rows)))) (length (at s looped).rows + length (at s a).rows)
    → Checks s1 s2 (record { op = k; code = c.FORG0005; offset = site.offset }) → CallLifts docs s s2 site (Apply f.ExactlyOne) looped (a ∷ []) a

-- `data`: a map over the items
abbrev pub DataLifts : Type 0
DataLifts = (docs : Docs) (s s' : State) (site : Site) (looped a t : OpId) → Makes s s' t three (data_rows (at s a).rows) (length (at s a).rows) → CallLifts docs s s' site (Apply f.Data) looped (a ∷ []) t

-- `count`: the counted iterations beside the loop, and 0 in the others
abbrev pub CountLifts : Type 0
CountLifts = (docs : Docs) (s s' : State) (site : Site) (looped a t : OpId)
    → Makes s s' t three (count_value_rows (at s looped).rows (at s a).rows) (length (at s looped).rows + length (at s a).rows + length (counted_rows (at s looped).rows (at s a).rows))
    → CallLifts docs s s' site (Apply f.Count) looped (a ∷ []) t

-- signs, casts, roots and documents: a map over the items, and a check for each code
abbrev pub ItemRulesLift : Type 0
ItemRulesLift = (docs : Docs) (s s1 s2 : State) (site : Site) (q : ItemRule) (looped a t : OpId) (cs : List Check)
    → Makes s s1 t three (item_value_in docs (fun_of q) (at s a).rows) (length (at s a).rows)
    → Stages site (item_most_in docs (fun_of q) (at s looped).rows (at s a).rows) s1 s2 (at s looped).rows (item_marks_in docs (fun_of q) (codes_of q) (at s a).rows) cs
    → CallLifts docs s s2 site (rule_of q) looped (a ∷ []) t

-- texts, lengths and names: a map over the items, an item where there is none, and a check
abbrev pub TextRulesLift : Type 0
TextRulesLift = (docs : Docs) (s s1 s2 : State) (site : Site) (q : TextRule) (looped a t : OpId) (cs : List Check)
    → Makes s s1 t three (text_value_rows (text_fun q) (absent_item q) (at s looped).rows (at s a).rows) (length (at s looped).rows + length (at s a).rows)
    → Stages site (item_most (text_fun q) (at s looped).rows (at s a).rows) s1 s2 (at s looped).rows (item_marks (text_fun q) [] (at s a).rows) cs
    → CallLifts docs s s2 site (Apply (text_fun q)) looped (a ∷ []) t

-- `castable as`: a boolean by whether the argument can be cast
abbrev pub CastableLifts : Type 0
CastableLifts = (docs : Docs) (s s' : State) (site : Site) (kind : AtomKind) (optional : Bool) (looped a t : OpId)
    → Makes s s' t three (truth_rows false (at s looped).rows (uncastable_rows kind optional (at s looped).rows (at s a).rows)) (castable_most kind optional (at s looped).rows (at s a).rows)
    → CallLifts docs s s' site (CastableTo kind optional) looped (a ∷ []) t

-- `boolean` and `not`: a boolean by whether the first item is true, and a check of those that have no effective boolean value
abbrev pub BooleansLift : Type 0
BooleansLift = (docs : Docs) (s s1 s2 : State) (site : Site) (there : Bool) (looped a t : OpId) (cs : List Check)
    → Makes s s1 t three (boolean_rows there (at s looped).rows (at s a).rows) (boolean_most there (at s looped).rows (at s a).rows)
    → Stages site (length (at s looped).rows + length (at s a).rows) s1 s2 (at s looped).rows (boolean_marks (at s a).rows) cs
    → CallLifts docs s s2 site (Apply (boolean_fun there)) looped (a ∷ []) t

-- arithmetic, and comparisons of values, of nodes and of texts: a map over both items beside each other, and a check for each code
abbrev pub PairRulesLift : Type 0
PairRulesLift = (docs : Docs) (s s1 s2 : State) (site : Site) (q : PairRule) (looped a b t : OpId) (cs : List Check)
    → Makes s s1 t three (pair_value_rows (pair_fun q) (at s looped).rows (at s a).rows (at s b).rows) (pair_most (at s looped).rows (at s a).rows (at s b).rows)
    → Stages site (pair_most (at s looped).rows (at s a).rows (at s b).rows) s1 s2 (at s looped).rows (pair_marks (pair_fun q) (pair_codes q) (at s looped).rows (at s a).rows (at s b).rows) cs
    → CallLifts docs s s2 site (Apply (pair_fun q)) looped (a ∷ b ∷ []) t

-- functions of two texts: the same of both operands with the empty text where they are absent
abbrev pub TextPairsLift : Type 0
TextPairsLift = (docs : Docs) (s s1 s2 : State) (site : Site) (q : TextPairRule) (looped a b t : OpId) (cs : List Check)
    → let l = (at s looped).rows in
    let x = filled_rows (TextItem []) l (at s a).rows in
    let y = filled_rows (TextItem []) l (at s b).rows in
    Makes s s1 t three (pair_value_rows (text_pair_fun q) l x y) (pair_most l x y) → Stages site (pair_most l x y) s1 s2 l (pair_marks (text_pair_fun q) (OfEach c.XPTY0004 ∷ []) l x y) cs
    → CallLifts docs s s2 site (Apply (text_pair_fun q)) looped (a ∷ b ∷ []) t

-- `or` and `and`: what they give of both booleans
abbrev pub ConnectivesLift : Type 0
ConnectivesLift = (docs : Docs) (s s' : State) (site : Site) (looped a b t : OpId)
    → (Makes s s' t three (pair_value_rows f.Or (at s looped).rows (at s a).rows (at s b).rows) (pair_most (at s looped).rows (at s a).rows (at s b).rows) → CallLifts docs s s' site (Apply f.Or) looped (a ∷ b ∷ []) t)
    × (Makes s s' t three (pair_value_rows f.And (at s looped).rows (at s a).rows (at s b).rows) (pair_most (at s looped).rows (at s a).rows (at s b).rows) → CallLifts docs s s' site (Apply f.And) looped (a ∷ b ∷ []) t)

-- general comparisons: a boolean by whether some pair is true, and a check for each code that some pair fails with
abbrev pub GeneralsLift : Type 0
GeneralsLift = (docs : Docs) (s s1 s2 : State) (site : Site) (op : CompOp) (looped a b t : OpId) (cs : List Check)
    → Makes s s1 t three (general_rows op (at s looped).rows (at s a).rows (at s b).rows) (general_most op (at s looped).rows (at s a).rows (at s b).rows)
    → Stages site (length (at s looped).rows + length (at s a).rows + length (at s b).rows) s1 s2 (at s looped).rows (general_marks op (at s a).rows (at s b).rows) cs
    → CallLifts docs s s2 site (Apply (general_fun op)) looped (a ∷ b ∷ []) t

-- a step: a check of the iterations with an item that is no node, the step from all nodes at once, and positions by document order
abbrev pub StepsLift : Type 0
StepsLift = (docs : Docs) (s s1 s2 s3 s4 : State) (site : Site) (texts : List Text) (from : StepFrom) (axis : Axis) (wanted : NodeTest) (looped a k w t : OpId)
    → Makes s s1 k single (named_rows (at s looped).rows (item_fails_rows f.Name c.XPTY0004 (at s a).rows)) (length (at s looped).rows + length (at s a).rows)
    → Checks s1 s2 (record { op = k; code = no_node_code from; offset = site.offset })
    → MakesStep s2 s3 (record { step = record { site = site; axis = axis; test = walk_test texts wanted }; input = a; op = w }) node_cols (walk_rows texts axis wanted (at s2 a).rows)
    → Makes s3 s4 t three (ordered_rows (at s3 w).rows) (length (at s3 w).rows)
    → CallLifts docs s s4 site (Walk from axis (walk_test texts wanted)) looped (a ∷ []) t

-- a union: both operands' nodes, each once, by document order, and a check of the iterations with an item that is no node
abbrev pub UnionsLift : Type 0
UnionsLift = (docs : Docs) (s s1 s2 : State) (site : Site) (looped a b t : OpId) (cs : List Check)
    → Makes s s1 t three (union_rows (at s a).rows (at s b).rows) (length (at s looped).rows + length (at s a).rows + length (at s b).rows)
    → Stages site (length (at s looped).rows + length (at s a).rows + length (at s b).rows) s1 s2 (at s looped).rows (union_marks (at s looped).rows (at s a).rows (at s b).rows) cs
    → CallLifts docs s s2 site (Apply f.Union) looped (a ∷ b ∷ []) t

-- the result of a path: nodes, each once, by document order, or items that are no nodes, and a check of the iterations with both
abbrev pub PathsLift : Type 0
PathsLift = (docs : Docs) (s s1 s2 : State) (site : Site) (looped a t : OpId) (cs : List Check)
    → Makes s s1 t three (path_rows (at s a).rows) (length (at s a).rows)
    → Stages site (length (at s looped).rows + length (at s a).rows) s1 s2 (at s looped).rows (path_marks (at s a).rows) cs
    → CallLifts docs s s2 site (Apply f.PathOrder) looped (a ∷ []) t

-- `instance of` a type: a boolean by whether the argument has another type
abbrev pub InstancesLift : Type 0
InstancesLift = (docs : Docs) (s s' : State) (site : Site) (q : TypeTest) (occurs : Occurs) (looped a t : OpId)
    → Makes s s' t three (truth_rows false (at s looped).rows (other_type_rows q occurs (at s looped).rows (at s a).rows)) (length (at s looped).rows + length (at s looped).rows + length (at s a).rows)
    → CallLifts docs s s' site (IsOf (sequence_test q occurs)) looped (a ∷ []) t

-- `treat as` such a type: a check of the iterations whose argument has another one, and the argument's table
abbrev pub TreatsLift : Type 0
TreatsLift = (docs : Docs) (s s1 s2 : State) (site : Site) (q : TypeTest) (occurs : Occurs) (looped a k : OpId)
    → Makes s s1 k single (named_rows (at s looped).rows (other_type_rows q occurs (at s looped).rows (at s a).rows)) (length (at s looped).rows + length (at s a).rows)
    → Checks s1 s2 (record { op = k; code = c.XPDY0050; offset = site.offset }) → CallLifts docs s s2 site (TreatAs (sequence_test q occurs)) looped (a ∷ []) a

-- conversions: to a type of any items a check and the argument's table, to one of any atomic values a check and a map
abbrev pub ItemConversionsLift : Type 0
ItemConversionsLift = (docs : Docs) (s s1 s2 : State) (site : Site) (occurs : Occurs) (looped a k : OpId)
    → Makes s s1 k single (named_rows (at s looped).rows (other_type_rows Anything occurs (at s looped).rows (at s a).rows)) (length (at s looped).rows + length (at s a).rows)
    → Checks s1 s2 (record { op = k; code = c.XPTY0004; offset = site.offset }) → CallLifts docs s s2 site (ConvertTo (sequence_test Anything occurs)) looped (a ∷ []) a

abbrev pub AtomConversionsLift : Type 0
AtomConversionsLift = (docs : Docs) (s s1 s2 : State) (site : Site) (occurs : Occurs) (looped a t : OpId) (cs : List Check)
    → Makes s s1 t three (data_rows (at s a).rows) (length (at s a).rows)
    → Stages site (length (at s looped).rows + length (at s a).rows) s1 s2 (at s looped).rows (count_marks_of occurs (at s looped).rows (at s a).rows) cs
    → CallLifts docs s s2 site (ConvertTo (sequence_test Atomic occurs)) looped (a ∷ []) t

-- `sum`, `min` and `max`: what is given of each iteration's items in order, and a check for each code
abbrev pub AggregatesLift : Type 0
AggregatesLift = (docs : Docs) (s s1 s2 : State) (site : Site) (q : AggRule) (looped a t : OpId) (cs : List Check)
    → Makes s s1 t three (agg_value_rows q (at s looped).rows (at s a).rows) (agg_most q (at s looped).rows (at s a).rows)
    → Stages site (agg_most q (at s looped).rows (at s a).rows) s1 s2 (at s looped).rows (agg_marks q (at s a).rows) cs
    → CallLifts docs s s2 site (Apply (agg_fun q)) looped (a ∷ []) t

-- `concat`: the texts of any number of arguments from the last one on, and a check of those with a second item
abbrev pub ConcatsLift : Type 0
ConcatsLift = (docs : Docs) (s s1 s2 : State) (site : Site) (looped : OpId) (ts : List OpId) (t : OpId) (cs : List Check)
    → Makes s s1 t three (concat_rows (at s looped).rows (rows_at s ts)) (concat_most (at s looped).rows (rows_at s ts))
    → Stages site (concat_most (at s looped).rows (rows_at s ts)) s1 s2 (at s looped).rows (concat_marks (at s looped).rows (rows_at s ts)) cs
    → CallLifts docs s s2 site (Apply f.Concat) looped ts t

-- `reverse`: the items with new positions, from the last one on
abbrev pub ReverseLifts : Type 0
ReverseLifts = (docs : Docs) (s s' : State) (site : Site) (looped a t : OpId) → Makes s s' t three (reversed_rows (at s a).rows) (length (at s a).rows) → CallLifts docs s s' site (Apply f.Reverse) looped (a ∷ []) t

-- the failures of all iterations at once are those of the reached evaluations
abbrev pub FailuresAreReached : Type 0
FailuresAreReached = (docs : Docs) (e : Expr) (its : List Iter) → Same (map (λ (f : Fault). f.failure) (faults docs e its)) (flat_map (λ i. fails docs e i.env i.vector) its)

-- the cost of one iteration is the work of the reached evaluations
abbrev pub CostIsWork : Type 0
CostIsWork = (docs : Docs) (e : Expr) (i : Iter) → cost docs e (i ∷ []) ≡ work docs e i.env i.vector

-- the first check that has a row answers the least failure; where none has one nothing fails, and the root's table is the answer
abbrev pub ChecksAnswer : Type 0
ChecksAnswer = (R : Rules Cell) (fs : List Fault) (root : Option OpId) (ss : List Site) (N : ℕ) (s : State) (lo hi : ℕ) (gs : List Group) → Tells N s lo hi gs fs
    → AllOf (λ g. InCodeOrder g.checks) gs → AllOf (λ g. AllOf (OfNode ss g.site) g.checks) gs
    → Verdict R s.tables fs root ss (answer_from R s.tables (checks_of gs) root)

-- behind an answer no operator has more rows than the demand
abbrev pub DemandsAreSmall : Type 0
DemandsAreSmall = (N : ℕ) (s : State) (hi : ℕ) (gs : List Group) (fs : List Fault) → Tells N s 0 hi gs fs → SmallFrom N s hi (checks_of gs)

-- an operator that is handed to a valid plan is there with its table, whether the plan had it or not, and nothing else changes; of
-- a step, which adds itself to the steps, this isn't said
abbrev pub OperatorMakes : Type 0
OperatorMakes = (docs : Docs) (texts : List Text) (g g' : Graph) (op : Op) (id : OpId) → is_valid g.ops ≡ true → step_at texts (length g.ops) op ≡ [] → Adds g op id g'
    → let R = item_rules docs texts in let t = table_of R (tables R g.ops) op in Makes (state_of docs texts g) (state_of docs texts g') id t.cols t.rows (demand_of R op t)

-- a step that is handed to a plan is the one step that is added
abbrev pub StepMakes : Type 0
StepMakes = (docs : Docs) (texts : List Text) (g g' : Graph) (i : OpId) (axis : Axis) (wanted : NodeTest) (site offset : ℕ) (it v : Col) (id : OpId) → Adds g (o.Step i axis wanted site offset it v) id g'
    → let R = item_rules docs texts in
    let t = table_of R (tables R g.ops) (o.Step i axis wanted site offset it v) in
    MakesStep (state_of docs texts g) (state_of docs texts g') (record { step = record { site = record { number = site; offset = offset }; axis = axis; test = walk_test texts wanted }; input = i; op = id }) t.cols t.rows

-- a check of an operator of the plan that is added to it
abbrev pub CheckAdds : Type 0
CheckAdds = (docs : Docs) (texts : List Text) (g : Graph) (c : Check) → in_graph g c.op → Checks (state_of docs texts g) (state_of docs texts (with_check c g)) c

-- no variable is carried by nothing
abbrev pub NoneCarried : Type 0
NoneCarried = (R : List Row → List Row → List Row) (s : State) (m : OpId) (vars inner : ℕ → OpId) → CarriedFor R s s m vars inner []

-- one more is carried behind the others
abbrev pub OneMoreCarried : Type 0
OneMoreCarried = (R : List Row → List Row → List Row) (s s1 s2 : State) (m : OpId) (vars inner : ℕ → OpId) (ys : List ℕ) (z : ℕ) (op : OpId) → IsIn s m → IsIn s (vars z)
    → CarriedFor R s s1 m vars inner ys → CarryOne R s1 s2 m (vars z) op → CarriedFor R s s2 m vars (set_var inner z op) (ys ++ z ∷ [])

-- the free variables of a loop's body but its own are those that the loop carries
abbrev pub LoopCarries : Type 0
LoopCarries = (s s' : State) (m : OpId) (vars inner : ℕ → OpId) (x p : ℕ) (e : Expr) → CarriedFor into_rows s s' m vars inner (without p (without x (free e))) → Carries s s' m vars inner x p e

-- the free variables of a branch are those that it carries
abbrev pub BranchCarries : Type 0
BranchCarries = (s s' : State) (l : OpId) (vars inner : ℕ → OpId) (e : Expr) → CarriedFor restrict_rows s s' l vars inner (free e) → Restricts s s' l vars inner e

-- under the identity of a known item's cell stands its tree
abbrev pub TreesAreKnown : Type 0
TreesAreKnown = (docs : Docs) (W : World) → Faithful W → (vs : Items) → AllOf (Known docs W) vs → AllOf (Rooted (tree_under docs W)) (map (cell_of W) vs)

-- `to`: a run of integers for each iteration, and checks of both bounds
abbrev pub RangesLift : Type 0
RangesLift = (docs : Docs) (s s1 s2 : State) (site : Site) (looped a b t : OpId) (cs : List Check)
    → Makes s s1 t three (range_value_rows (at s looped).rows (at s a).rows (at s b).rows) (range_most (at s looped).rows (at s a).rows (at s b).rows)
    → Stages site (range_most (at s looped).rows (at s a).rows (at s b).rows) s1 s2 (at s looped).rows (range_marks (at s looped).rows (at s a).rows (at s b).rows) cs
    → CallLifts docs s s2 site (Apply f.To) looped (a ∷ b ∷ []) t

-- `sum` of two arguments: the total, or the second argument where there is nothing to sum, and a check for each code
abbrev pub SumsOrLift : Type 0
SumsOrLift = (docs : Docs) (s s1 s2 : State) (site : Site) (looped a b t : OpId) (cs : List Check)
    → Makes s s1 t three (sum_or_rows (at s looped).rows (at s a).rows (at s b).rows) (sum_or_most (at s looped).rows (at s a).rows (at s b).rows)
    → Stages site (sum_or_most (at s looped).rows (at s a).rows (at s b).rows) s1 s2 (at s looped).rows (sum_or_marks (at s a).rows (at s b).rows) cs
    → CallLifts docs s s2 site (Apply f.Sum) looped (a ∷ b ∷ []) t

-- `substring` of a text and a start: a map over both beside each other, and checks of both
abbrev pub PartsOfTextsLift : Type 0
PartsOfTextsLift = (docs : Docs) (s s1 s2 : State) (site : Site) (looped a b t : OpId) (cs : List Check)
    → Makes s s1 t three (part_rows (at s looped).rows (at s a).rows (at s b).rows) (part_most (at s looped).rows (at s a).rows (at s b).rows)
    → Stages site (part_most (at s looped).rows (at s a).rows (at s b).rows) s1 s2 (at s looped).rows (part_marks (at s looped).rows (at s a).rows (at s b).rows) cs
    → CallLifts docs s s2 site (Apply f.Substring) looped (a ∷ b ∷ []) t

-- `substring` with a length, and `translate`: a map over three items beside each other, and checks of all three
abbrev pub TriosLift : Type 0
TriosLift = (docs : Docs) (s s1 s2 : State) (site : Site) (q : TrioRule) (looped a b d t : OpId) (cs : List Check)
    → let l = (at s looped).rows in
    let most = trio_most q l (at s a).rows (at s b).rows (at s d).rows in
    Makes s s1 t three (trio_value_rows (trio_fun q) (trio_rows q l (at s a).rows (at s b).rows (at s d).rows)) most
    → Stages site most s1 s2 l (trio_marks q l (at s a).rows (at s b).rows (at s d).rows) cs
    → CallLifts docs s s2 site (Apply (trio_fun q)) looped (a ∷ b ∷ d ∷ []) t

-- `string-join`: the joined texts of the iterations that no check names, and a check
abbrev pub JoinsLift : Type 0
JoinsLift = (docs : Docs) (s s1 s2 : State) (site : Site) (looped a b t : OpId) (cs : List Check)
    → let l = (at s looped).rows in
    let m = join_loop l (at s a).rows (at s b).rows in
    Makes s s1 t three (joined_rows l m (at s a).rows (at s b).rows) (joined_most l m (at s a).rows (at s b).rows)
    → Stages site (joined_most l m (at s a).rows (at s b).rows) s1 s2 l (join_marks l (at s a).rows (at s b).rows) cs
    → CallLifts docs s s2 site (Apply f.StringJoin) looped (a ∷ b ∷ []) t

-- the text of content: the joined texts of all iterations, with blanks between
abbrev pub ContentsLift : Type 0
ContentsLift = (docs : Docs) (s s' : State) (site : Site) (looped a t : OpId)
    → let l = (at s looped).rows in
    Makes s s' t three (joined_rows l l (at s a).rows (blank_rows l)) (joined_most l l (at s a).rows (blank_rows l)) → CallLifts docs s s' site (Apply f.ContentText) looped (a ∷ []) t

-- conversion to one kind of atomic values: a cast of each, and checks of their number, of their kinds and of the casts
abbrev pub KindConversionsLift : Type 0
KindConversionsLift = (docs : Docs) (s s1 s2 : State) (site : Site) (kind : AtomKind) (occurs : Occurs) (looped a t : OpId) (cs : List Check)
    → Makes s s1 t three (item_value_rows (f.CastTo kind) (data_rows (at s a).rows)) (length (at s a).rows)
    → Stages site (length (at s looped).rows + length (at s a).rows) s1 s2 (at s looped).rows (kind_marks kind occurs (at s looped).rows (at s a).rows) cs
    → CallLifts docs s s2 site (ConvertTo (sequence_test (OfKind kind) occurs)) looped (a ∷ []) t

-- conversion to a type of nodes: a check, and the argument's table
abbrev pub NodeConversionsLift : Type 0
NodeConversionsLift = (docs : Docs) (s s1 s2 : State) (site : Site) (q : NodeType) (occurs : Occurs) (looped a k : OpId)
    → Makes s s1 k single (named_rows (at s looped).rows (other_type_rows (OfNodes q) occurs (at s looped).rows (at s a).rows)) (length (at s looped).rows + length (at s a).rows)
    → Checks s1 s2 (record { op = k; code = c.XPTY0004; offset = site.offset }) → CallLifts docs s s2 site (ConvertTo (sequence_test (OfNodes q) occurs)) looped (a ∷ []) a

-- the type of no items: a boolean by whether the argument has an item, or a check of the iterations that have one and its table
abbrev pub EmptyTypesLift : Type 0
EmptyTypesLift = (docs : Docs) (s s1 s2 : State) (site : Site) (looped a k : OpId)
    → (Makes s s1 k three (truth_rows false (at s looped).rows (any_rows (at s a).rows)) (length (at s looped).rows + length (at s looped).rows + length (at s a).rows) → CallLifts docs s s1 site (IsOf NoItems) looped (a ∷ []) k)
    × (Makes s s1 k single (named_rows (at s looped).rows (any_rows (at s a).rows)) (length (at s looped).rows + length (at s a).rows) → Checks s1 s2 (record { op = k; code = c.XPDY0050; offset = site.offset }) → CallLifts docs s s2 site (TreatAs NoItems) looped (a ∷ []) a)
    × (Makes s s1 k single (named_rows (at s looped).rows (any_rows (at s a).rows)) (length (at s looped).rows + length (at s a).rows) → Checks s1 s2 (record { op = k; code = c.XPTY0004; offset = site.offset }) → CallLifts docs s s2 site (ConvertTo NoItems) looped (a ∷ []) a)

-- a cast of exactly one item: a map over the items, and checks of their number and of the casts
abbrev pub StrictCastsLift : Type 0
StrictCastsLift = (docs : Docs) (s s1 s2 : State) (site : Site) (kind : AtomKind) (looped a t : OpId) (cs : List Check)
    → Makes s s1 t three (item_value_rows (f.CastTo kind) (at s a).rows) (length (at s a).rows)
    → Stages site (length (at s looped).rows + length (at s a).rows) s1 s2 (at s looped).rows (strict_marks kind (at s looped).rows (at s a).rows) cs
    → CallLifts docs s s2 site (CastTo kind false) looped (a ∷ []) t

-- a world exists for every expression whose sites are its nodes' numbers and whose literals are atomic values
abbrev pub WorldExists : Type 0
WorldExists = (docs : Docs) (n size : ℕ) (vars : List ℕ) (e : Expr) (its : List Iter) → is_sited n e ≡ true → fits vars e ≡ true → Numbered size its → WorldFor docs e its

-- a plan that lifts a lawful Core answers its first failure or the cells of its value, within its work; its steps are the Core's,
-- and where nothing fails each reads what the step reads over all reached evaluations
abbrev pub PlansAnswer : Type 0
PlansAnswer = (docs : Docs) (texts : List Text) (core : PlainCore) (g : Graph) → is_lawful (expr_of core) ≡ true → LiftsCore texts (expr_of core) g → Computes docs texts (expr_of core) g

-- the tuples of a sorted loop: their keys, their body, and a row for each
abbrev pub TuplesLift : Type 0
TuplesLift = (docs : Docs) (s s1 s2 s3 : State) (n : ℕ) (ks : Exprs) (e : Expr) (looped : OpId) (vars : ℕ → OpId) (keys : List OpId) (body t : OpId) → sited_in n (Leaf ks e) ≡ true
    → LiftsAll docs s s1 n ks looped vars keys → Lifts docs s1 s2 (n + nodes_all ks) e looped vars body
    → Makes s2 s3 t three (tuple_rows (at s2 looped).rows) (length (at s2 looped).rows)
    → LiftsIn docs s s3 n (Leaf ks e) looped vars looped t keys body

-- a loop among its binds: the map of its turns, the loop inside, its variables and those carried into it, what follows, and the tuples' way back
abbrev pub LoopBindsLift : Type 0
LoopBindsLift = (docs : Docs) (s s1 s2 s3 s4 s5 s6 s7 s8 : State) (n x p : ℕ) (q : Expr) (sp : Spine) (looped : OpId) (vars vars' : ℕ → OpId) (tq m turned vx vp inner tu t : OpId) (keys : List OpId) (body : OpId) → sited_in n (ForBind x p q sp) ≡ true
    → Lifts docs s s1 n q looped vars tq
    → Makes s1 s2 m four (turn_map (at s1 tq).rows) (length (at s1 tq).rows)
    → Makes s2 s3 turned single (inner_rows (at s2 m).rows) (length (at s2 m).rows)
    → Makes s3 s4 vx three (item_var_rows (at s3 m).rows) (length (at s3 m).rows)
    → Makes s4 s5 vp three (place_var_rows (at s4 m).rows) (length (at s4 m).rows)
    → Carries s5 s6 m vars vars' x p (as_expr sp)
    → LiftsIn docs s6 s7 (n + nodes q) sp turned (set_var (set_var vars' x vx) p vp) inner tu keys body
    → Makes s7 s8 t three (back_rows (at s7 m).rows (at s7 tu).rows) (length (at s7 m).rows + length (back_rows (at s7 m).rows (at s7 tu).rows))
    → LiftsIn docs s s8 n (ForBind x p q sp) looped vars inner t keys body

-- a variable among its binds: what follows, with the bound part's table for the variable
abbrev pub VariableBindsLift : Type 0
VariableBindsLift = (docs : Docs) (s s1 s2 : State) (n x : ℕ) (b : Expr) (sp : Spine) (looped : OpId) (vars : ℕ → OpId) (tb inner tu : OpId) (keys : List OpId) (body : OpId) → sited_in n (LetBind x b sp) ≡ true
    → Lifts docs s s1 n b looped vars tb → LiftsIn docs s1 s2 (n + nodes b) sp looped (set_var vars x tb) inner tu keys body → LiftsIn docs s s2 n (LetBind x b sp) looped vars inner tu keys body

-- a condition among its binds: the loop of the iterations that it chooses, the variables restricted to them, and what follows
abbrev pub ConditionBindsLift : Type 0
ConditionBindsLift = (docs : Docs) (s s1 s2 s3 s4 : State) (n : ℕ) (d : Expr) (sp : Spine) (looped : OpId) (vars vars' : ℕ → OpId) (tc kept inner tu : OpId) (keys : List OpId) (body : OpId) → sited_in n (WhereBind d sp) ≡ true
    → Lifts docs s s1 n d looped vars tc
    → Makes s1 s2 kept single (chosen_rows (at s1 tc).rows) (length (at s1 tc).rows)
    → Restricts s2 s3 kept vars vars' (as_expr sp)
    → LiftsIn docs s3 s4 (n + nodes d) sp kept vars' inner tu keys body
    → LiftsIn docs s s4 n (WhereBind d sp) looped vars inner tu keys body

-- a sorted loop: its binds, a check of the iterations whose keys can't be compared, and the bodies in the order of the tuples
abbrev pub SortedLifts : Type 0
SortedLifts = (docs : Docs) (s s1 s2 s3 s4 : State) (n : ℕ) (site : Site) (os : List Order) (sp : Spine) (looped : OpId) (vars : ℕ → OpId) (inner tu : OpId) (keys : List OpId) (body k t : OpId) → is_sited n (Sorted site os sp) ≡ true
    → LiftsIn docs s s1 n sp looped vars inner tu keys body
    → Makes s1 s2 k single (mixed_rows (at s1 looped).rows (at s1 tu).rows (rows_at s1 keys)) (mixed_most (at s1 looped).rows (at s1 tu).rows (rows_at s1 keys))
    → Checks s2 s3 (record { op = k; code = c.XPTY0004; offset = site.offset })
    → Makes s3 s4 t three (order_rows os (at s3 inner).rows (rows_at s3 keys) (at s3 tu).rows (at s3 body).rows) (order_most os (at s3 inner).rows (rows_at s3 keys) (at s3 tu).rows (at s3 body).rows)
    → Lifts docs s s4 n (Sorted site os sp) looped vars t

-- `intersect` and `except`: nodes of the first operand that the second has, or hasn't, each once, by document order, and a check of the iterations with an item that is no node
abbrev pub IntersectsLift : Type 0
IntersectsLift = (docs : Docs) (s s1 s2 : State) (site : Site) (looped a b t : OpId) (cs : List Check)
    → Makes s s1 t three (intersect_rows (at s a).rows (at s b).rows) (length (at s looped).rows + length (at s a).rows + length (at s b).rows)
    → Stages site (length (at s looped).rows + length (at s a).rows + length (at s b).rows) s1 s2 (at s looped).rows (union_marks (at s looped).rows (at s a).rows (at s b).rows) cs
    → CallLifts docs s s2 site (Apply f.Intersect) looped (a ∷ b ∷ []) t

abbrev pub ExceptsLift : Type 0
ExceptsLift = (docs : Docs) (s s1 s2 : State) (site : Site) (looped a b t : OpId) (cs : List Check)
    → Makes s s1 t three (except_rows (at s a).rows (at s b).rows) (length (at s looped).rows + length (at s a).rows + length (at s b).rows)
    → Stages site (length (at s looped).rows + length (at s a).rows + length (at s b).rows) s1 s2 (at s looped).rows (union_marks (at s looped).rows (at s a).rows (at s b).rows) cs
    → CallLifts docs s s2 site (Apply f.Except) looped (a ∷ b ∷ []) t

-- `remove`: the items whose places are others than the one that is asked for, and checks of that one
abbrev pub RemovesLift : Type 0
RemovesLift = (docs : Docs) (s s1 s2 : State) (site : Site) (looped a b t : OpId) (cs : List Check)
    → Makes s s1 t three (removed_rows (at s looped).rows (at s a).rows (at s b).rows) (place_most (at s looped).rows (at s a).rows (at s b).rows)
    → Stages site (place_most (at s looped).rows (at s a).rows (at s b).rows) s1 s2 (at s looped).rows (place_marks (at s looped).rows (at s b).rows) cs
    → CallLifts docs s s2 site (Apply f.Remove) looped (a ∷ b ∷ []) t

-- `subsequence` from a place on: the items from that place on, and checks of it
abbrev pub RestsLift : Type 0
RestsLift = (docs : Docs) (s s1 s2 : State) (site : Site) (looped a b t : OpId) (cs : List Check)
    → Makes s s1 t three (from_rows (at s looped).rows (at s a).rows (at s b).rows) (place_most (at s looped).rows (at s a).rows (at s b).rows)
    → Stages site (place_most (at s looped).rows (at s a).rows (at s b).rows) s1 s2 (at s looped).rows (place_marks (at s looped).rows (at s b).rows) cs
    → CallLifts docs s s2 site (Apply f.Subsequence) looped (a ∷ b ∷ []) t

-- `index-of`: the places of the items that equal the one that is asked for, and a check of that one
abbrev pub IndicesLift : Type 0
IndicesLift = (docs : Docs) (s s1 s2 : State) (site : Site) (looped a b t : OpId) (cs : List Check)
    → Makes s s1 t three (index_rows (at s looped).rows (at s a).rows (at s b).rows) (index_most (at s looped).rows (at s a).rows (at s b).rows)
    → Stages site (index_most (at s looped).rows (at s a).rows (at s b).rows) s1 s2 (at s looped).rows (index_marks (at s looped).rows (at s b).rows) cs
    → CallLifts docs s s2 site (Apply f.IndexOf) looped (a ∷ b ∷ []) t

-- `insert-before`: the items before a place, others, and the items from the place on, and checks of the place
abbrev pub InsertsLift : Type 0
InsertsLift = (docs : Docs) (s s1 s2 : State) (site : Site) (looped a b d t : OpId) (cs : List Check)
    → Makes s s1 t three (inserted_rows (at s looped).rows (at s a).rows (at s b).rows (at s d).rows) (inserted_most (at s looped).rows (at s a).rows (at s b).rows (at s d).rows)
    → Stages site (inserted_most (at s looped).rows (at s a).rows (at s b).rows (at s d).rows) s1 s2 (at s looped).rows (place_marks (at s looped).rows (at s b).rows) cs
    → CallLifts docs s s2 site (Apply f.InsertBefore) looped (a ∷ b ∷ d ∷ []) t

-- `subsequence` of a start and a length: of the items from the start on as many as a part of a text has characters, and checks of both
abbrev pub SlicesLift : Type 0
SlicesLift = (docs : Docs) (s s1 s2 : State) (site : Site) (looped a b d t : OpId) (cs : List Check)
    → Makes s s1 t three (slice_rows (at s looped).rows (at s a).rows (at s b).rows (at s d).rows) (slice_most (at s looped).rows (at s a).rows (at s b).rows (at s d).rows)
    → Stages site (slice_most (at s looped).rows (at s a).rows (at s b).rows (at s d).rows) s1 s2 (at s looped).rows (slice_marks (at s looped).rows (at s a).rows (at s b).rows (at s d).rows) cs
    → CallLifts docs s s2 site (Apply f.Subsequence) looped (a ∷ b ∷ d ∷ []) t

-- `distinct-values`: the first of equal texts and of other equal values, in the order of their positions
abbrev pub DistinctsLift : Type 0
DistinctsLift = (docs : Docs) (s s' : State) (site : Site) (looped a t : OpId) → Makes s s' t three (distinct_rows (at s a).rows) (distinct_most (at s a).rows) → CallLifts docs s s' site (Apply f.DistinctValues) looped (a ∷ []) t
