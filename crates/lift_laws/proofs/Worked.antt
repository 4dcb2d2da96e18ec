-- The definitions on small expressions and tables.
use Rattle.std.proofs.Common.{◌≡◌, ℕ, ◌+◌, Bool, true, false, List, [], ◌∷◌, pos, map, Some, None, refl}
use Rattle.std.specs.List.{filter}
use Rattle.xq_base.specs.declared.item.Atom.TheVariants as a
use Rattle.xq_base.specs.declared.axis.Axis.TheVariants as x
use Rattle.xq_base.specs.declared.axis.NodeTest.TheVariants as n
use Rattle.xq_base.specs.declared.fun.Fun.TheVariants as f
use Rattle.xq_base.specs.declared.fun.AtomKind.TheVariants as k'
use Rattle.xq_base.specs.declared.fun.CompOp.TheVariants as o'
use Rattle.xq_base.specs.Words.{text_part, text_mapped}
use Rattle.doc_table.specs.Tree.{Branch, OfDocument, TextNode, no_more as no_trees}
use Rattle.doc_table.specs.Identity.{DocTree, BuiltTree}
use Rattle.doc_table.specs.Nodes.{root_path}
use Rattle.doc_table.specs.Items.{IntItem, TextItem, UntypedItem, BoolItem, NodeItem}
use Rattle.plan_dag.specs.declared.op.Op.TheVariants as o
use Rattle.plan_dag.specs.ItemRules.{Cell}
use Rattle.plan_dag.specs.Meaning.{Graph}
use Rattle.core_meaning.specs.declared.node.Occurs.TheVariants as v
use Rattle.core_meaning.specs.Expr.{Site, Order, Apply, Make, Expr, Exprs, Spine, Lit, Var, Seq, For, Call, no_more, one_more, Leaf, ForBind, WhereBind}
use Rattle.core_meaning.specs.Meaning.{no_variables}
use Rattle.core_meaning.specs.Failures.{fails}
use Rattle.core_meaning.specs.Work.{work}
use Rattle.lift_laws.specs.Iterations.{Row, Iter, num, value_rows}
use Rattle.lift_laws.specs.Bulk.{value, chosen, inside, faults, cost}
use Rattle.lift_laws.specs.Worlds.{World, cell_of}
use Rattle.lift_laws.specs.States.{column, op_id, three, state_of, at, demand_at}
use Rattle.lift_laws.specs.Shapes.{turn_map, seq_rows, back_rows, chosen_rows, restrict_rows}
use Rattle.lift_laws.specs.Stages.{boolean_marks, boolean_rows}
use Rattle.lift_laws.specs.Pairs.{Quotients, pair_codes, pair_marks, pair_value_rows, filled_rows, general_marks, general_rows}
use Rattle.lift_laws.specs.Walks.{ordered_rows, walk_rows, union_rows, path_rows, path_marks}
use Rattle.lift_laws.specs.Sequences.{concat_rows, reversed_rows}
use Rattle.lift_laws.specs.Aggregates.{sum_or_rows}
use Rattle.lift_laws.specs.TypeTests.{DocumentNodes, ElementNodes, OfNodes, other_type_rows}
use Rattle.lift_laws.specs.Ranges.{range_marks, range_value_rows}
use Rattle.lift_laws.specs.TextParts.{part_marks, part_rows, Maps, trio_rows, trio_value_rows}
use Rattle.lift_laws.specs.Joins.{joined_rows, join_loop, blank_rows}
use Rattle.lift_laws.specs.Conversions.{kind_marks}
use Rattle.lift_laws.specs.Tuples.{numbers, tuples_all, tuples_at}
use Rattle.lift_laws.specs.Sorted.{key_rows, by_keys_rows, order_rows, mixed_rows}

abbrev root : Iter
root = record { number = 1; env = no_variables; vector = [] }

abbrev int : ℕ → Expr
int n = Lit (IntItem (pos n))

abbrev two : Expr → Expr → Exprs
two a b = one_more a (one_more b no_more)

abbrev site : ℕ → Site
site n = record { number = n; offset = 10 + n }

-- for $x at $p in (5, 0) return ($x, $p)
placed : Expr
placed = For 1 2 (Seq (int 5) (int 0)) (Seq (Var 1) (Var 2))

placed_value : map (value [] placed) (root ∷ []) ≡ (num 5 ∷ num 1 ∷ num 0 ∷ num 2 ∷ []) ∷ []
unfolding placed
placed_value = refl

placed_rows : value_rows (value [] placed) (root ∷ []) ≡ (num 1 ∷ num 1 ∷ num 5 ∷ []) ∷ (num 1 ∷ num 2 ∷ num 1 ∷ []) ∷ (num 1 ∷ num 3 ∷ num 0 ∷ []) ∷ (num 1 ∷ num 4 ∷ num 2 ∷ []) ∷ []
unfolding placed
placed_rows = refl

-- the body's iterations have numbers of their own, through all iterations outside, and vectors
body_numbers : map (λ (i : Iter). i.number) (inside [] 1 2 (Seq (int 5) (int 0)) (root ∷ record { number = 4; env = no_variables; vector = 7 ∷ [] } ∷ [])) ≡ 1 ∷ 2 ∷ 3 ∷ 4 ∷ []
body_numbers = refl

body_vectors : map (λ (i : Iter). i.vector) (inside [] 1 2 (Seq (int 5) (int 0)) (root ∷ record { number = 4; env = no_variables; vector = 7 ∷ [] } ∷ [])) ≡ (1 ∷ []) ∷ (2 ∷ []) ∷ (7 ∷ 1 ∷ []) ∷ (7 ∷ 2 ∷ []) ∷ []
body_vectors = refl

-- for $x in (5, 0) return 8 idiv $x: it fails in the second iteration
divided : Expr
divided = For 1 2 (Seq (int 5) (int 0)) (Call (site 5) (Apply f.IntegerDivide) (two (int 8) (Var 1)))

divided_numbers : map (λ x. x.number) (faults [] divided (root ∷ [])) ≡ 2 ∷ []
unfolding divided
divided_numbers = refl

divided_failures : map (λ x. x.failure) (faults [] divided (root ∷ [])) ≡ fails [] divided no_variables []
unfolding divided
divided_failures = refl

-- the work of all iterations at once is the work
divided_cost : cost [] divided (root ∷ []) ≡ work [] divided no_variables []
unfolding divided
divided_cost = refl

-- a branch has those iterations that choose it
branches : map (λ (i : Iter). i.number) (filter (chosen [] (Call (site 2) (Apply f.Lt) (two (Var 1) (int 3)))) (inside [] 1 2 (Seq (int 5) (int 0)) (root ∷ []))) ≡ 2 ∷ []
branches = refl

-- in a table a built node has the number of its iteration for the vector
world : World
world n = record { site = site n; rule = Make TextNode; parts = no_more; its = inside [] 1 2 (Seq (int 5) (int 0)) (record { number = 3; env = no_variables; vector = 7 ∷ [] } ∷ []) }

built_cell : cell_of world (NodeItem (record { id = BuiltTree 3 (7 ∷ 2 ∷ []); tree = Branch OfDocument no_trees; path = root_path })) ≡ NodeItem (record { id = BuiltTree 3 (2 ∷ []); tree = Branch OfDocument no_trees; path = root_path })
unfolding world
built_cell = refl

-- the operators of each form, over rows in any order
turns_numbered : turn_map ((num 1 ∷ num 2 ∷ num 8 ∷ []) ∷ (num 1 ∷ num 1 ∷ num 9 ∷ []) ∷ []) ≡ (num 1 ∷ num 2 ∷ num 8 ∷ num 2 ∷ []) ∷ (num 1 ∷ num 1 ∷ num 9 ∷ num 1 ∷ []) ∷ []
turns_numbered = refl

one_after_other : seq_rows ((num 1 ∷ num 1 ∷ num 5 ∷ []) ∷ (num 2 ∷ num 1 ∷ num 6 ∷ []) ∷ []) ((num 1 ∷ num 1 ∷ num 7 ∷ []) ∷ []) ≡ (num 1 ∷ num 1 ∷ num 5 ∷ []) ∷ (num 2 ∷ num 1 ∷ num 6 ∷ []) ∷ (num 1 ∷ num 2 ∷ num 7 ∷ []) ∷ []
one_after_other = refl

back_from_loop : back_rows ((num 4 ∷ num 1 ∷ num 8 ∷ num 1 ∷ []) ∷ (num 4 ∷ num 2 ∷ num 9 ∷ num 2 ∷ []) ∷ []) ((num 2 ∷ num 1 ∷ num 6 ∷ []) ∷ (num 1 ∷ num 1 ∷ num 5 ∷ []) ∷ []) ≡ (num 4 ∷ num 1 ∷ num 5 ∷ []) ∷ (num 4 ∷ num 2 ∷ num 6 ∷ []) ∷ []
back_from_loop = refl

-- true alone chooses: not false, and not two items
choosing : chosen_rows ((num 1 ∷ num 1 ∷ BoolItem true ∷ []) ∷ (num 2 ∷ num 1 ∷ BoolItem true ∷ []) ∷ (num 2 ∷ num 2 ∷ BoolItem true ∷ []) ∷ (num 3 ∷ num 1 ∷ BoolItem false ∷ []) ∷ []) ≡ (num 1 ∷ []) ∷ []
choosing = refl

some_iterations : restrict_rows ((num 2 ∷ []) ∷ []) ((num 1 ∷ num 1 ∷ num 5 ∷ []) ∷ (num 2 ∷ num 1 ∷ num 6 ∷ []) ∷ []) ≡ (num 2 ∷ num 1 ∷ num 6 ∷ []) ∷ []
some_iterations = refl

-- 8 idiv 2 in one iteration; none where an operand has a second item, or none
divisions : pair_value_rows f.IntegerDivide ((num 1 ∷ []) ∷ (num 2 ∷ []) ∷ (num 3 ∷ []) ∷ []) ((num 1 ∷ num 1 ∷ num 8 ∷ []) ∷ (num 2 ∷ num 1 ∷ num 8 ∷ []) ∷ (num 3 ∷ num 1 ∷ num 8 ∷ []) ∷ []) ((num 1 ∷ num 1 ∷ num 2 ∷ []) ∷ (num 2 ∷ num 1 ∷ num 2 ∷ []) ∷ (num 2 ∷ num 2 ∷ num 2 ∷ []) ∷ [])
    ≡ (num 1 ∷ num 1 ∷ num 4 ∷ []) ∷ []
divisions = refl

-- a second item, or a text alone, is a wrong type; division by 0 is told of both together
wrong_operands : map (λ m. m.1) (pair_marks f.IntegerDivide (pair_codes Quotients) ((num 1 ∷ []) ∷ (num 2 ∷ []) ∷ (num 3 ∷ []) ∷ []) ((num 1 ∷ num 1 ∷ TextItem [] ∷ []) ∷ (num 2 ∷ num 1 ∷ num 8 ∷ []) ∷ (num 3 ∷ num 1 ∷ num 8 ∷ []) ∷ []) ((num 2 ∷ num 1 ∷ num 0 ∷ []) ∷ (num 3 ∷ num 1 ∷ num 0 ∷ []) ∷ (num 3 ∷ num 2 ∷ num 0 ∷ []) ∷ []))
    ≡ ((num 1 ∷ []) ∷ (num 3 ∷ []) ∷ []) ∷ [] ∷ ((num 2 ∷ []) ∷ []) ∷ [] ∷ []
wrong_operands = refl

-- the first item alone is true or false; behind an item that is no node there is no second one
booleans : boolean_rows true ((num 1 ∷ []) ∷ (num 2 ∷ []) ∷ (num 3 ∷ []) ∷ []) ((num 3 ∷ num 1 ∷ num 0 ∷ []) ∷ (num 2 ∷ num 2 ∷ num 0 ∷ []) ∷ (num 2 ∷ num 1 ∷ num 5 ∷ []) ∷ [])
    ≡ (num 2 ∷ num 1 ∷ BoolItem true ∷ []) ∷ (num 1 ∷ num 1 ∷ BoolItem false ∷ []) ∷ (num 3 ∷ num 1 ∷ BoolItem false ∷ []) ∷ []
booleans = refl

no_boolean : map (λ m. m.1) (boolean_marks ((num 3 ∷ num 1 ∷ num 0 ∷ []) ∷ (num 2 ∷ num 2 ∷ num 0 ∷ []) ∷ (num 2 ∷ num 1 ∷ num 5 ∷ []) ∷ [])) ≡ ((num 2 ∷ []) ∷ []) ∷ []
no_boolean = refl

-- a pair of the same iteration is equal; 5 and a text are no pair
equal_pairs : general_rows o'.Eq ((num 1 ∷ []) ∷ (num 2 ∷ []) ∷ []) ((num 1 ∷ num 1 ∷ num 5 ∷ []) ∷ (num 1 ∷ num 2 ∷ num 6 ∷ []) ∷ (num 2 ∷ num 1 ∷ num 5 ∷ []) ∷ []) ((num 1 ∷ num 1 ∷ num 6 ∷ []) ∷ (num 2 ∷ num 1 ∷ num 6 ∷ []) ∷ [])
    ≡ (num 1 ∷ num 1 ∷ BoolItem true ∷ []) ∷ (num 2 ∷ num 1 ∷ BoolItem false ∷ []) ∷ []
equal_pairs = refl

wrong_pairs : map (λ m. m.1) (general_marks o'.Eq ((num 1 ∷ num 1 ∷ num 5 ∷ []) ∷ (num 2 ∷ num 1 ∷ num 5 ∷ []) ∷ []) ((num 1 ∷ num 1 ∷ num 5 ∷ []) ∷ (num 1 ∷ num 2 ∷ TextItem [] ∷ []) ∷ (num 2 ∷ num 1 ∷ num 6 ∷ []) ∷ [])) ≡ ((num 1 ∷ []) ∷ []) ∷ [] ∷ []
wrong_pairs = refl

-- an absent text is empty, so that it starts every text
starts : pair_value_rows f.StartsWith ((num 1 ∷ []) ∷ []) (filled_rows (TextItem []) ((num 1 ∷ []) ∷ []) ((num 1 ∷ num 1 ∷ TextItem (7 ∷ []) ∷ []) ∷ [])) (filled_rows (TextItem []) ((num 1 ∷ []) ∷ []) []) ≡ (num 1 ∷ num 1 ∷ BoolItem true ∷ []) ∷ []
starts = refl

-- nodes get positions by document order in their own iteration
abbrev node : ℕ → Cell
node d = NodeItem (record { id = DocTree d; tree = Branch OfDocument no_trees; path = root_path })

in_order : ordered_rows ((num 1 ∷ node 2 ∷ []) ∷ (num 2 ∷ node 1 ∷ []) ∷ (num 1 ∷ node 0 ∷ []) ∷ []) ≡ (num 1 ∷ num 2 ∷ node 2 ∷ []) ∷ (num 2 ∷ num 1 ∷ node 1 ∷ []) ∷ (num 1 ∷ num 1 ∷ node 0 ∷ []) ∷ []
in_order = refl

-- a step to itself finds each node once in an iteration, and from an item that is no node nothing
found_once : walk_rows [] x.SelfNode n.Any ((num 1 ∷ num 1 ∷ node 2 ∷ []) ∷ (num 2 ∷ num 1 ∷ node 2 ∷ []) ∷ (num 1 ∷ num 2 ∷ node 2 ∷ []) ∷ (num 1 ∷ num 3 ∷ num 5 ∷ []) ∷ []) ≡ (num 1 ∷ node 2 ∷ []) ∷ (num 2 ∷ node 2 ∷ []) ∷ []
found_once = refl

-- a union has each node once
union_once : union_rows ((num 1 ∷ num 1 ∷ node 2 ∷ []) ∷ []) ((num 1 ∷ num 1 ∷ node 0 ∷ []) ∷ (num 1 ∷ num 2 ∷ node 2 ∷ []) ∷ []) ≡ (num 1 ∷ num 2 ∷ node 2 ∷ []) ∷ (num 1 ∷ num 1 ∷ node 0 ∷ []) ∷ []
union_once = refl

-- a path ends in nodes, or in other items as they stand, and not in both
path_ends : path_rows ((num 1 ∷ num 1 ∷ node 2 ∷ []) ∷ (num 1 ∷ num 2 ∷ node 2 ∷ []) ∷ (num 2 ∷ num 2 ∷ num 7 ∷ []) ∷ (num 2 ∷ num 1 ∷ num 8 ∷ []) ∷ []) ≡ (num 1 ∷ num 1 ∷ node 2 ∷ []) ∷ (num 2 ∷ num 2 ∷ num 7 ∷ []) ∷ (num 2 ∷ num 1 ∷ num 8 ∷ []) ∷ []
path_ends = refl

mixed_path : map (λ m. m.1) (path_marks ((num 1 ∷ num 1 ∷ node 2 ∷ []) ∷ (num 2 ∷ num 1 ∷ node 2 ∷ []) ∷ (num 2 ∷ num 2 ∷ num 7 ∷ []) ∷ (num 3 ∷ num 1 ∷ num 8 ∷ []) ∷ [])) ≡ ((num 2 ∷ []) ∷ []) ∷ []
mixed_path = refl

-- texts one after the other, of which one is absent
texts_joined : concat_rows ((num 1 ∷ []) ∷ []) (((num 1 ∷ num 1 ∷ TextItem (7 ∷ []) ∷ []) ∷ []) ∷ [] ∷ ((num 1 ∷ num 1 ∷ TextItem (8 ∷ []) ∷ []) ∷ []) ∷ []) ≡ (num 1 ∷ num 1 ∷ TextItem (7 ∷ 8 ∷ []) ∷ []) ∷ []
texts_joined = refl

turned_round : reversed_rows ((num 1 ∷ num 2 ∷ num 7 ∷ []) ∷ (num 1 ∷ num 1 ∷ num 8 ∷ []) ∷ []) ≡ (num 1 ∷ num 1 ∷ num 7 ∷ []) ∷ (num 1 ∷ num 2 ∷ num 8 ∷ []) ∷ []
turned_round = refl

-- a run where both bounds are numbers, of which one may be untyped: a text that spells one is a wrong type
abbrev two_loop : List Row
two_loop = (num 1 ∷ []) ∷ (num 2 ∷ []) ∷ []

abbrev first_bounds : List Row
first_bounds = (num 1 ∷ num 1 ∷ num 2 ∷ []) ∷ (num 2 ∷ num 1 ∷ TextItem (49 ∷ []) ∷ []) ∷ []

abbrev last_bounds : List Row
last_bounds = (num 2 ∷ num 1 ∷ num 9 ∷ []) ∷ (num 1 ∷ num 1 ∷ UntypedItem (51 ∷ []) ∷ []) ∷ []

runs : range_value_rows two_loop first_bounds last_bounds ≡ (num 1 ∷ num 1 ∷ num 2 ∷ []) ∷ (num 1 ∷ num 2 ∷ num 3 ∷ []) ∷ []
runs = refl

wrong_bounds : map (λ m. m.1) (range_marks two_loop first_bounds last_bounds) ≡ ((num 2 ∷ []) ∷ []) ∷ [] ∷ []
wrong_bounds = refl

-- a total, or the second argument where there is nothing to sum
totals : sum_or_rows two_loop ((num 1 ∷ num 2 ∷ num 6 ∷ []) ∷ (num 1 ∷ num 1 ∷ num 5 ∷ []) ∷ []) ((num 1 ∷ num 1 ∷ num 7 ∷ []) ∷ (num 2 ∷ num 1 ∷ TextItem (120 ∷ []) ∷ []) ∷ []) ≡ (num 1 ∷ num 1 ∷ num 11 ∷ []) ∷ (num 2 ∷ num 1 ∷ TextItem (120 ∷ []) ∷ []) ∷ []
totals = refl

-- a text from its second character on, and an absent one; no start is a wrong type
text_parts : part_rows two_loop ((num 1 ∷ num 1 ∷ TextItem (97 ∷ 98 ∷ 99 ∷ []) ∷ []) ∷ []) ((num 1 ∷ num 1 ∷ num 2 ∷ []) ∷ (num 2 ∷ num 1 ∷ num 1 ∷ []) ∷ [])
    ≡ (num 1 ∷ num 1 ∷ TextItem (text_part (97 ∷ 98 ∷ 99 ∷ []) (pos 2) None) ∷ []) ∷ (num 2 ∷ num 1 ∷ TextItem (text_part [] (pos 1) None) ∷ []) ∷ []
text_parts = refl

no_start : map (λ m. m.1) (part_marks two_loop [] ((num 1 ∷ num 1 ∷ num 2 ∷ []) ∷ [])) ≡ ((num 2 ∷ []) ∷ []) ∷ [] ∷ []
no_start = refl

-- three texts in their order
mapped : trio_value_rows f.Translate (trio_rows Maps ((num 1 ∷ []) ∷ []) ((num 1 ∷ num 1 ∷ TextItem (97 ∷ []) ∷ []) ∷ []) ((num 1 ∷ num 1 ∷ TextItem (98 ∷ []) ∷ []) ∷ []) ((num 1 ∷ num 1 ∷ TextItem [] ∷ []) ∷ []))
    ≡ (num 1 ∷ num 1 ∷ TextItem (text_mapped (97 ∷ []) (98 ∷ []) []) ∷ []) ∷ []
mapped = refl

-- texts in the order of their positions, with one between; nothing is the empty text
abbrev two_texts : List Row
two_texts = (num 1 ∷ num 2 ∷ TextItem (98 ∷ []) ∷ []) ∷ (num 1 ∷ num 1 ∷ TextItem (97 ∷ []) ∷ []) ∷ []

abbrev dashes : List Row
dashes = (num 1 ∷ num 1 ∷ TextItem (45 ∷ []) ∷ []) ∷ (num 2 ∷ num 1 ∷ TextItem (45 ∷ []) ∷ []) ∷ []

with_dashes : joined_rows two_loop (join_loop two_loop two_texts dashes) two_texts dashes ≡ (num 1 ∷ num 1 ∷ TextItem (97 ∷ 45 ∷ 98 ∷ []) ∷ []) ∷ (num 2 ∷ num 1 ∷ TextItem [] ∷ []) ∷ []
with_dashes = refl

with_blanks : joined_rows two_loop two_loop two_texts (blank_rows two_loop) ≡ (num 1 ∷ num 1 ∷ TextItem (97 ∷ 32 ∷ 98 ∷ []) ∷ []) ∷ (num 2 ∷ num 1 ∷ TextItem [] ∷ []) ∷ []
with_blanks = refl

-- a text is no integer, though it spells one; an untyped value that spells none can't be cast
wrong_kinds : map (λ m. m.1) (kind_marks k'.Integer v.AtLeastOne ((num 1 ∷ []) ∷ (num 2 ∷ []) ∷ (num 3 ∷ []) ∷ []) ((num 1 ∷ num 1 ∷ num 5 ∷ []) ∷ (num 2 ∷ num 1 ∷ UntypedItem (120 ∷ []) ∷ []) ∷ (num 3 ∷ num 1 ∷ TextItem (49 ∷ []) ∷ []) ∷ []))
    ≡ ((num 3 ∷ []) ∷ []) ∷ ((num 2 ∷ []) ∷ []) ∷ []
wrong_kinds = refl

-- a document, a number, and a document where an element is asked for
no_document : other_type_rows (OfNodes DocumentNodes) v.One two_loop ((num 1 ∷ num 1 ∷ node 2 ∷ []) ∷ (num 2 ∷ num 1 ∷ num 5 ∷ []) ∷ []) ≡ (num 2 ∷ []) ∷ []
no_document = refl

no_element : other_type_rows (OfNodes (ElementNodes (Some (97 ∷ [])))) v.One ((num 1 ∷ []) ∷ []) ((num 1 ∷ num 1 ∷ node 2 ∷ []) ∷ []) ≡ (num 1 ∷ []) ∷ []
no_element = refl

-- the tuples of two loops, of which the second has a condition: for $x in (5, 1) for $y in (2, 7) where $x lt $y order by $y
chosen_pairs : Spine
chosen_pairs = ForBind 1 2 (Seq (int 5) (int 1)) (ForBind 3 4 (Seq (int 2) (int 7)) (WhereBind (Call (site 9) (Apply f.Lt) (two (Var 1) (Var 3))) (Leaf (one_more (Var 3) no_more) (Var 1))))

abbrev two_iterations : List Iter
two_iterations = root ∷ record { number = 3; env = no_variables; vector = 7 ∷ [] } ∷ []

tuples_numbered : map (λ (l : Iter). l.number) (tuples_all [] chosen_pairs two_iterations) ≡ 2 ∷ 3 ∷ 4 ∷ 6 ∷ 7 ∷ 8 ∷ []
unfolding chosen_pairs
tuples_numbered = refl

tuples_of_each : map (λ i. numbers (tuples_at [] chosen_pairs two_iterations i)) two_iterations ≡ (num 2 ∷ num 3 ∷ num 4 ∷ []) ∷ (num 6 ∷ num 7 ∷ num 8 ∷ []) ∷ []
unfolding chosen_pairs
tuples_of_each = refl

-- an untyped value of a key is a string
key_read : key_rows ((num 1 ∷ num 1 ∷ num 5 ∷ []) ∷ (num 2 ∷ num 1 ∷ UntypedItem (7 ∷ []) ∷ []) ∷ (num 3 ∷ num 1 ∷ TextItem (8 ∷ []) ∷ []) ∷ []) ≡ (num 2 ∷ num 1 ∷ TextItem (7 ∷ []) ∷ []) ∷ (num 1 ∷ num 1 ∷ num 5 ∷ []) ∷ (num 3 ∷ num 1 ∷ TextItem (8 ∷ []) ∷ []) ∷ []
key_read = refl

-- tuples 1, 2 and 3 of iteration 4 by two keys: the first one is 6, 5 and 6, the second one absent, 1 and 2; then their bodies
abbrev three_tuples : List Row
three_tuples = (num 4 ∷ num 1 ∷ num 1 ∷ []) ∷ (num 4 ∷ num 2 ∷ num 2 ∷ []) ∷ (num 4 ∷ num 3 ∷ num 3 ∷ []) ∷ []

abbrev tuple_loop : List Row
tuple_loop = (num 1 ∷ []) ∷ (num 2 ∷ []) ∷ (num 3 ∷ []) ∷ []

abbrev two_keys : List (List Row)
two_keys = ((num 1 ∷ num 1 ∷ num 6 ∷ []) ∷ (num 2 ∷ num 1 ∷ num 5 ∷ []) ∷ (num 3 ∷ num 1 ∷ num 6 ∷ []) ∷ []) ∷ ((num 2 ∷ num 1 ∷ num 1 ∷ []) ∷ (num 3 ∷ num 1 ∷ num 2 ∷ []) ∷ []) ∷ []

abbrev ordered_as : Bool → Bool → Order
ordered_as descending empty_greatest = record { descending = descending; empty_greatest = empty_greatest }

by_two_keys : by_keys_rows (ordered_as false false ∷ ordered_as false true ∷ []) tuple_loop two_keys three_tuples ≡ (num 4 ∷ num 3 ∷ num 1 ∷ []) ∷ (num 4 ∷ num 1 ∷ num 2 ∷ []) ∷ (num 4 ∷ num 2 ∷ num 3 ∷ []) ∷ []
by_two_keys = refl

downwards : order_rows (ordered_as true false ∷ ordered_as false false ∷ []) tuple_loop two_keys three_tuples ((num 1 ∷ num 1 ∷ num 7 ∷ []) ∷ (num 2 ∷ num 1 ∷ num 8 ∷ []) ∷ (num 2 ∷ num 2 ∷ num 9 ∷ []) ∷ []) ≡ (num 4 ∷ num 1 ∷ num 7 ∷ []) ∷ (num 4 ∷ num 2 ∷ num 8 ∷ []) ∷ (num 4 ∷ num 3 ∷ num 9 ∷ []) ∷ []
downwards = refl

-- a number and a text of one key, and a key of two values, are refused; an absent value goes with each
mixed_keys : mixed_rows ((num 4 ∷ []) ∷ (num 5 ∷ []) ∷ (num 6 ∷ []) ∷ []) ((num 4 ∷ num 1 ∷ num 1 ∷ []) ∷ (num 4 ∷ num 2 ∷ num 2 ∷ []) ∷ (num 5 ∷ num 1 ∷ num 3 ∷ []) ∷ (num 6 ∷ num 1 ∷ num 4 ∷ []) ∷ (num 6 ∷ num 2 ∷ num 5 ∷ []) ∷ [])
    (((num 1 ∷ num 1 ∷ num 6 ∷ []) ∷ (num 2 ∷ num 1 ∷ UntypedItem [] ∷ []) ∷ (num 3 ∷ num 1 ∷ num 6 ∷ []) ∷ (num 3 ∷ num 2 ∷ num 6 ∷ []) ∷ (num 5 ∷ num 1 ∷ TextItem [] ∷ []) ∷ []) ∷ []) ≡ (num 4 ∷ []) ∷ (num 5 ∷ []) ∷ []
mixed_keys = refl

-- the plan of the literal 5: a loop of one iteration, the position, the item
five : Graph
five = record {
  ops = o.Unit (column 0) ∷ o.Attach (op_id 0) (column 1) (a.Int (pos 1)) ∷ o.Attach (op_id 1) (column 2) (a.Int (pos 5)) ∷ [];
  checks = [];
  root = Some (op_id 2);
}

five_stands : at (state_of [] [] five) (op_id 2) ≡ record { cols = three; rows = value_rows (value [] (int 5)) (root ∷ []) }
unfolding five
five_stands = refl

five_demand : demand_at (state_of [] [] five) 2 ≡ 1
unfolding five
five_demand = refl
