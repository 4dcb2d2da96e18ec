-- The rows of a sorted loop (own rule): its keys as they are compared, its tuples by one key after the other from the last one on,
-- its bodies in the order of the tuples, and the iterations whose keys can't be compared.
use Rattle.std.specs.Prelude.{ℕ, max, Bool, false, List, [], ◌∷◌, ◌++◌, length, Some}
use Rattle.std.specs.List.{filter}
use Rattle.xq_base.specs.declared.fun.AtomKind.TheVariants as k
use Rattle.xq_base.specs.declared.fun.Fun.TheVariants as f
use Rattle.xq_base.specs.declared.fun.ItemKind.TheVariants as i
use Rattle.plan_dag.specs.declared.keys.Key.{Key}
use Rattle.plan_dag.specs.ItemRules.{is_true}
use Rattle.plan_dag.specs.Rows.{left_over, map_rows}
use Rattle.plan_dag.specs.Meaning.{cell, cells}
use Rattle.core_meaning.specs.Expr.{Order}
use Rattle.core_meaning.specs.Sorting.{absent_first}
use Rattle.lift_laws.specs.Iterations.{Row, num}
use Rattle.lift_laws.specs.States.{column, three, single}
use Rattle.lift_laws.specs.Shapes.{bare, up, pair, columns, project, numbered_by, join_by, less, cleared, with_cell, four, five, back_rows, second_rows, either_rows, any_rows, kind_rows, named_rows, truth_rows, data_rows}
use Rattle.lift_laws.specs.Pairs.{beside_cols, filled_rows}

-- the tuples of each iteration: its number alone
abbrev pub tuple_rows : List Row → List Row
tuple_rows l = project (columns (0 ∷ 1 ∷ [])) (pair 0 0 ∷ pair 1 1 ∷ pair 2 0 ∷ []) (with_cell (num 1) l)

-- atomic values, with whether each is untyped
abbrev pub told_rows : List Row → List Row
told_rows a = map_rows bare (f.IsKind (i.Atom k.Untyped)) (cells bare three (column 2 ∷ [])) a

-- those that are untyped as strings, and the others as they are
abbrev pub string_rows : List Row → List Row
string_rows a = project five (pair 0 0 ∷ pair 1 1 ∷ pair 2 4 ∷ []) (map_rows bare (f.CastTo k.Text) (cells bare four (column 2 ∷ [])) (filter (λ r. is_true (cell bare four (column 3) r)) (told_rows a)))

abbrev pub typed_rows : List Row → List Row
typed_rows a = project five (pair 0 0 ∷ pair 1 1 ∷ pair 2 2 ∷ []) (filter (λ r. is_true (cell bare five (column 4) r)) (map_rows bare f.Not (cells bare four (column 3 ∷ [])) (told_rows a)))

-- the values of a key as they are compared
abbrev pub key_rows : List Row → List Row
key_rows a = either_rows (string_rows (data_rows a)) (typed_rows (data_rows a))

-- the tuples of each iteration in the order of one value for each tuple, those with equal values in the order so far
abbrev pub by : Bool → ℕ → Key
by descending n = record { col = column n; descending = descending }

abbrev pub by_value_rows : Bool → List Row → List Row → List Row
by_value_rows descending x r =
    project (columns (0 ∷ 1 ∷ 2 ∷ 4 ∷ 5 ∷ 3 ∷ [])) (pair 0 0 ∷ pair 1 3 ∷ pair 2 2 ∷ [])
    (numbered_by beside_cols (by descending 5 ∷ up 1 ∷ []) (Some (column 0))
    (join_by three (columns (4 ∷ 5 ∷ [])) (column 2) (column 4) r (project three (pair 4 0 ∷ pair 5 2 ∷ []) x)))

-- by one key: by its value, and then by whether there is one
abbrev pub value_of_rows : List Row → List Row → List Row
value_of_rows l x = filled_rows (num 0) l x

abbrev pub presence_rows : Order → List Row → List Row → List Row
presence_rows o l x = truth_rows (absent_first o) l (any_rows x)

abbrev pub by_key_rows : Order → List Row → List Row → List Row → List Row
by_key_rows o l x r = by_value_rows false (presence_rows o l x) (by_value_rows o.descending (value_of_rows l x) r)

-- by all keys, the last one first
abbrev pub by_keys_rows : List Order → List Row → List (List Row) → List Row → List Row
by_keys_rows [] l as' r = r
by_keys_rows (o ∷ os) l [] r = r
by_keys_rows (o ∷ os) l (a ∷ as') r = by_key_rows o l (key_rows a) (by_keys_rows os l as' r)

-- the bodies in the order of the tuples
abbrev pub bodies_rows : List Row → List Row → List Row
bodies_rows r b = back_rows (project three (pair 0 0 ∷ pair 1 1 ∷ pair 2 2 ∷ pair 3 2 ∷ []) r) b

abbrev pub order_rows : List Order → List Row → List (List Row) → List Row → List Row → List Row
order_rows os l as' r b = bodies_rows (by_keys_rows os l as' r) b

-- what the operators may demand: of one key, of all keys, and of the bodies too
abbrev pub key_most : Order → List Row → List Row → List Row → ℕ
key_most o l x r =
    max (max (length (value_of_rows l x)) (length (presence_rows o l x)))
    (max (length (by_value_rows o.descending (value_of_rows l x) r)) (length (by_key_rows o l x r)))

abbrev pub keys_most : List Order → List Row → List (List Row) → List Row → ℕ
keys_most [] l as' r = 0
keys_most (o ∷ os) l [] r = 0
keys_most (o ∷ os) l (a ∷ as') r = max (max (max (length a) (length (key_rows a))) (key_most o l (key_rows a) (by_keys_rows os l as' r))) (keys_most os l as' r)

abbrev pub order_most : List Order → List Row → List (List Row) → List Row → List Row → ℕ
order_most os l as' r b = max (max (length l) (length r)) (max (keys_most os l as' r) (length (order_rows os l as' r b)))

-- the iterations with a tuple that rows name
abbrev pub outside_rows : List Row → List Row → List Row
outside_rows r b =
    project three (pair 0 0 ∷ [])
    (left_over bare (cell bare three (column 2)) (cell bare three (column 2)) r (left_over bare (cell bare three (column 2)) (cell bare single (column 0)) r b))

-- those with several values of a key in one tuple, or with values of two kinds
abbrev pub unlike_tables : List Row → List Row → List (List Row)
unlike_tables r x =
    outside_rows r (second_rows x)
    ∷ named_rows (outside_rows r (kind_rows (i.Atom k.Integer) x)) (outside_rows r (kind_rows (i.Atom k.Text) x))
    ∷ named_rows (outside_rows r (kind_rows (i.Atom k.Integer) x)) (outside_rows r (kind_rows (i.Atom k.Boolean) x))
    ∷ named_rows (outside_rows r (kind_rows (i.Atom k.Text) x)) (outside_rows r (kind_rows (i.Atom k.Boolean) x)) ∷ []

-- those of all keys
abbrev pub all_unlike : List Row → List (List Row) → List (List Row)
all_unlike r [] = []
all_unlike r (a ∷ as') = unlike_tables r (key_rows a) ++ all_unlike r as'

-- the check of a sorted loop
abbrev pub mixed_rows : List Row → List Row → List (List Row) → List Row
mixed_rows l r as' = less l (cleared l (all_unlike r as'))

-- what its operators may demand: of the keys, and of all
abbrev pub parts_most : List (List Row) → ℕ
parts_most [] = 0
parts_most (a ∷ as') = max (max (length a) (length (key_rows a))) (parts_most as')

abbrev pub mixed_most : List Row → List Row → List (List Row) → ℕ
mixed_most l r as' = max (max (length l) (length r)) (parts_most as')
