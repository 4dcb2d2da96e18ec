-- The rows that the operators of each form make of their inputs' rows (own rule). No form but a call asks for documents or
-- texts, so they are said over rules without any.
use Rattle.std.specs.Prelude.{ℕ, Bool, false, not, List, [], ◌∷◌, ◌++◌, map, Option, Some, None}
use Rattle.std.specs.List.{filter}
use Rattle.xq_base.specs.declared.code.Code.{Code}
use Rattle.xq_base.specs.declared.fun.Fun.{Fun}
use Rattle.xq_base.specs.declared.fun.Fun.TheVariants as f
use Rattle.xq_base.specs.declared.fun.ItemKind.{ItemKind}
use Rattle.doc_table.specs.Items.{BoolItem}
use Rattle.doc_table.specs.NodeRules.{Docs}
use Rattle.plan_dag.specs.declared.cols.Col.{Col}
use Rattle.plan_dag.specs.declared.keys.Key.{Key}
use Rattle.plan_dag.specs.declared.pairs.Pair.{Pair}
use Rattle.plan_dag.specs.Cells.{Rules}
use Rattle.plan_dag.specs.ItemRules.{Cell, item_rules, is_true}
use Rattle.plan_dag.specs.Rows.{joined, left_over, keys_less, rownum_rows, count_rows, map_rows, map_fails_rows}
use Rattle.plan_dag.specs.Meaning.{cell, cells, sort_keys, same_part}
use Rattle.lift_laws.specs.Iterations.{Row, num}
use Rattle.lift_laws.specs.States.{column, three, single}

abbrev pub bare : Rules Cell
bare = item_rules [] []

abbrev pub pair : ℕ → ℕ → Pair
pair n o = record { new = column n; old = column o }

abbrev pub up : ℕ → Key
up c = record { col = column c; descending = false }

abbrev pub columns : List ℕ → List Col
columns ns = map column ns

-- a project, from these columns
abbrev pub pick : List Col → List Pair → Row → Row
pick cs ps r = cells bare cs (map (λ p. p.old) ps) r

abbrev pub project : List Col → List Pair → List Row → List Row
project cs ps rs = map (pick cs ps) rs

-- a rownum
abbrev pub less_by : List Col → List Key → Row → Row → Bool
less_by cs ks = keys_less bare (sort_keys bare cs ks)

abbrev pub numbered_by : List Col → List Key → Option Col → List Row → List Row
numbered_by cs ks part rs = rownum_rows bare (same_part bare cs part) (less_by cs ks) rs

-- a join, a difference and a union on these columns
abbrev pub join_by : List Col → List Col → Col → Col → List Row → List Row → List Row
join_by cl cr a b ls rs = joined bare (cell bare cl a) (cell bare cr b) ls rs

abbrev pub less : List Row → List Row → List Row
less ls rs = left_over bare (cell bare single (column 0)) (cell bare single (column 0)) ls rs

-- iterations cleared of those that rows name, one table after the other
abbrev pub cleared : List Row → List (List Row) → List Row
cleared l [] = l
cleared l (b ∷ bs) = cleared (less l b) bs

abbrev pub beside : List Col → List Row → List Row → List Row
beside cs ls rs = ls ++ map (cells bare cs cs) rs

abbrev pub with_cell : Cell → List Row → List Row
with_cell v rs = map (λ r. r ++ v ∷ []) rs

abbrev pub four : List Col
four = column 0 ∷ column 1 ∷ column 2 ∷ column 3 ∷ []

abbrev pub five : List Col
five = column 0 ∷ column 1 ∷ column 2 ∷ column 3 ∷ column 4 ∷ []

-- a literal, at position 1 of each iteration
abbrev pub literal_rows : Cell → List Row → List Row
literal_rows a l = with_cell a (with_cell (num 1) l)

-- rows with a tag in column 3 get new positions, by tag and by old position
abbrev pub regroup_rows : List Row → List Row
regroup_rows rs = project five (pair 0 0 ∷ pair 1 4 ∷ pair 2 2 ∷ []) (numbered_by four (up 3 ∷ up 1 ∷ []) (Some (column 0)) rs)

-- one list after the other
abbrev pub seq_rows : List Row → List Row → List Row
seq_rows a b = regroup_rows (beside four (with_cell (num 1) a) (with_cell (num 2) b))

-- the map of a loop: number, position and item outside, and the number inside
abbrev pub turn_map : List Row → List Row
turn_map s = numbered_by three (up 0 ∷ up 1 ∷ []) None s

-- the loop inside
abbrev pub inner_rows : List Row → List Row
inner_rows m = project four (pair 0 3 ∷ []) m

-- the loop's own variable, and its place
abbrev pub item_var_rows : List Row → List Row
item_var_rows m = project five (pair 0 3 ∷ pair 1 4 ∷ pair 2 2 ∷ []) (with_cell (num 1) m)

abbrev pub place_var_rows : List Row → List Row
place_var_rows m = project five (pair 0 3 ∷ pair 1 4 ∷ pair 2 1 ∷ []) (with_cell (num 1) m)

-- a variable from outside, in the loop
abbrev pub into_rows : List Row → List Row → List Row
into_rows m v =
    project (columns (4 ∷ 5 ∷ 0 ∷ 1 ∷ 2 ∷ [])) (pair 0 5 ∷ pair 1 1 ∷ pair 2 2 ∷ [])
    (join_by (columns (4 ∷ 5 ∷ [])) three (column 4) (column 0) (project four (pair 4 0 ∷ pair 5 3 ∷ []) m) v)

-- the values of the turns as values of the iterations outside
abbrev pub back_rows : List Row → List Row → List Row
back_rows m t =
    regroup_rows
    (project (columns (4 ∷ 5 ∷ 6 ∷ 0 ∷ 1 ∷ 2 ∷ [])) (pair 0 5 ∷ pair 1 1 ∷ pair 2 2 ∷ pair 3 6 ∷ [])
    (join_by (columns (4 ∷ 5 ∷ 6 ∷ [])) three (column 4) (column 0) (project four (pair 4 3 ∷ pair 5 0 ∷ pair 6 1 ∷ []) m) t))

-- the rows at a position, with these columns
abbrev pub placed_rows : ℕ → List Pair → List Row → List Row
placed_rows k ps c = project five ps (filter (λ r. is_true (cell bare five (column 4) r)) (map_rows bare f.Eq (cells bare four (column 1 ∷ column 3 ∷ [])) (with_cell (num k) c)))

-- the first items
abbrev pub head_rows : List Row → List Row
head_rows c = placed_rows 1 (pair 0 0 ∷ pair 1 1 ∷ pair 2 2 ∷ []) c

-- the iterations that a condition chooses: those with a row that is true, but for those with a second item
abbrev pub second_rows : List Row → List Row
second_rows c = placed_rows 2 (pair 0 0 ∷ []) c

abbrev pub true_rows : List Row → List Row
true_rows c = project three (pair 0 0 ∷ []) (filter (λ r. is_true (cell bare three (column 2) r)) c)

abbrev pub chosen_rows : List Row → List Row
chosen_rows c = less (true_rows c) (second_rows c)

-- the others
abbrev pub other_rows : List Row → List Row → List Row
other_rows l c = less l c

-- a variable from outside, in a branch
abbrev pub restrict_rows : List Row → List Row → List Row
restrict_rows l v =
    project (columns (4 ∷ 0 ∷ 1 ∷ 2 ∷ [])) (pair 0 0 ∷ pair 1 1 ∷ pair 2 2 ∷ [])
    (join_by (columns (4 ∷ [])) three (column 4) (column 0) (project single (pair 4 0 ∷ []) l) v)

-- both branches together
abbrev pub either_rows : List Row → List Row → List Row
either_rows a b = beside three a b

-- the iterations in which an argument has an item
abbrev pub any_rows : List Row → List Row
any_rows a = project three (pair 0 0 ∷ []) a

-- those with an item of a kind
abbrev pub kind_rows : ItemKind → List Row → List Row
kind_rows kind a = project four (pair 0 0 ∷ []) (filter (λ r. is_true (cell bare four (column 3) r)) (map_rows bare (f.IsKind kind) (cells bare three (column 2 ∷ [])) a))

-- those of a loop that rows name, each once
abbrev pub named_rows : List Row → List Row → List Row
named_rows l b = other_rows l (less l b)

-- a boolean for each iteration: this one where rows name it, and else the other one
abbrev pub truth_rows : Bool → List Row → List Row → List Row
truth_rows there l b = either_rows (literal_rows (BoolItem there) (named_rows l b)) (literal_rows (BoolItem (not there)) (less l b))

-- what a function of one item gives of the items, at their positions, over documents
abbrev pub item_value_in : Docs → Fun → List Row → List Row
item_value_in docs g a = project four (pair 0 0 ∷ pair 1 1 ∷ pair 2 3 ∷ []) (map_rows (item_rules docs []) g (cells bare three (column 2 ∷ [])) a)

-- the iterations with an item for which it fails with a code
abbrev pub item_fails_in : Docs → Fun → Code → List Row → List Row
item_fails_in docs g d a = project three (pair 0 0 ∷ []) (map_fails_rows (item_rules docs []) g d (cells bare three (column 2 ∷ [])) a)

-- the same of a function that asks for no document
abbrev pub item_value_rows : Fun → List Row → List Row
item_value_rows g a = item_value_in [] g a

abbrev pub item_fails_rows : Fun → Code → List Row → List Row
item_fails_rows g d a = item_fails_in [] g d a

-- the items as atomic values
abbrev pub data_rows : List Row → List Row
data_rows a = item_value_rows f.Atomize a

-- how many items an argument has: in those iterations that have any, beside the loop; and in all
abbrev pub counted_rows : List Row → List Row → List Row
counted_rows l a = join_by single (columns (4 ∷ 5 ∷ [])) (column 0) (column 4) l (project (columns (0 ∷ 1 ∷ [])) (pair 4 0 ∷ pair 5 1 ∷ []) (count_rows bare (cell bare three (column 0)) a))

abbrev pub count_value_rows : List Row → List Row → List Row
count_value_rows l a =
    either_rows (project (columns (0 ∷ 4 ∷ 5 ∷ 1 ∷ [])) (pair 0 0 ∷ pair 1 1 ∷ pair 2 5 ∷ []) (with_cell (num 1) (counted_rows l a)))
    (literal_rows (num 0) (less l (any_rows a)))
