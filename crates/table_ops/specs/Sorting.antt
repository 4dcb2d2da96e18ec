-- How kept cells and rows stand in order, and numbers along rows in order (own rule).
use Rattle.std.specs.Prelude.{ℕ, ◌+◌, ◌≤◌, Bool, true, false, cond, ◌&&◌, List, [], ◌∷◌, length, map, nat_eq, Option, Some, None}
use Rattle.std.specs.List.{list_all, filter}
use Rattle.std.specs.declared.cmp.Ordering.{Ordering}
use Rattle.std.specs.declared.cmp.Ordering.TheVariants.{Equal}
use Rattle.std.specs.Ordering.{nat_cmp, int_cmp, bool_cmp, then_cmp, ordering_then, is_eq, is_lt}
use Rattle.std.specs.Cmp.Lexicographic.{slice_cmp}
use Rattle.xq_base.specs.declared.item.Item.{Item}
use Rattle.xq_base.specs.declared.item.Item.TheVariants as i
use Rattle.xq_base.specs.Texts.{Text}
use Rattle.doc_table.specs.Tree.{text_in}
use Rattle.doc_table.specs.DerivedOrder.{ref_cmp}
use Rattle.xq_funs.specs.Answering.{text_given}
use Rattle.plan_dag.specs.declared.cols.Col.{Col}
use Rattle.plan_dag.specs.declared.keys.Key.{Key}
use Rattle.plan_dag.specs.Meaning.{cell_or}
use Rattle.plan_dag.specs.Rows.{num}
use Rattle.table_ops.specs.Columns.{no_cell, cell_of, cells_at, numbers_from}
use Rattle.table_ops.specs.Held.{held_rank, kept}

-- cells of one kind, with these texts
abbrev pub value_cmp : List Text → Item → Item → Ordering
value_cmp texts (i.Bool b) (i.Bool d) = bool_cmp b d
value_cmp texts (i.Int y) (i.Int z) = int_cmp y z
value_cmp texts (i.Str s) (i.Str t) = slice_cmp nat_cmp (text_in texts s) (text_in texts t)
value_cmp texts (i.Untyped s) (i.Untyped t) = slice_cmp nat_cmp (text_in texts s) (text_in texts t)
value_cmp texts (i.Node m) (i.Node n) = ref_cmp m n
value_cmp texts _ _ = Equal

-- by kind, then by value
abbrev pub held_cmp : List Text → Item → Item → Ordering
held_cmp texts v w = ordering_then (nat_cmp (held_rank v) (held_rank w)) (value_cmp texts v w)

abbrev pub cells_cmp : List Text → Bool → Item → Item → Ordering
cells_cmp texts descending v w = cond descending (held_cmp texts w v) (held_cmp texts v w)

-- the rows at two places by the cells of columns, each with its key
abbrev pub places_cmp : List Text → List (List Item) → List Key → ℕ → ℕ → Ordering
places_cmp texts [] ks a b = Equal
places_cmp texts (c ∷ cs) [] a b = Equal
places_cmp texts (c ∷ cs) (k ∷ ks) a b = ordering_then (cells_cmp texts k.descending (cell_of c a) (cell_of c b)) (places_cmp texts cs ks a b)

-- by part, then by keys, then as they stand
abbrev pub order_cmp : (ℕ → ℕ → Ordering) → (ℕ → ℕ → Ordering) → ℕ → ℕ → Ordering
order_cmp part keys = then_cmp part (then_cmp keys nat_cmp)

-- numbers along places in order: one more where the place is of the part of the one before it
abbrev pub next_number : Bool → ℕ → ℕ
next_number same n = cond same (n + 1) 1

abbrev pub run_from : (ℕ → ℕ → Bool) → ℕ → ℕ → List ℕ → List ℕ
run_from same p n [] = []
run_from same p n (x ∷ xs) = next_number (same p x) n ∷ run_from same x (next_number (same p x) n) xs

-- the pool gave the texts of cells
abbrev pub columns_given : ℕ → List (List Item) → Bool
columns_given n cs = list_all (list_all (text_given n)) cs

abbrev pub part_keys : Option Col → List Key
part_keys None = []
part_keys (Some c) = record { col = c; descending = false } ∷ []

-- rows are of one part where no cell of the part's column stands before the other
abbrev pub tied_part : List Text → List Col → Option Col → List Item → List Item → Bool
tied_part texts cols None q r = true
tied_part texts cols (Some c) q r = is_eq (held_cmp texts (cell_or no_cell cols c q) (cell_or no_cell cols c r))

-- no number comes twice
abbrev pub AtMostOnce : List ℕ → Type 0
AtMostOnce xs = (a : ℕ) → length (filter (nat_eq a) xs) ≤ 1

-- the columns of keys
abbrev pub key_columns : List Col → List Key → List (List Item) → List (List Item)
key_columns cols ks rows = map (λ k. cells_at cols k.col rows) ks

-- the number of the row at a place: as many of its part stand before it, and one
abbrev pub number_at : (ℕ → ℕ → Ordering) → (ℕ → ℕ → Ordering) → List ℕ → ℕ → ℕ
number_at part keys places a = 1 + length (filter (λ b. is_eq (part b a) && is_lt (order_cmp part keys b a)) places)

abbrev pub cell_numbers : List Text → List Col → List Key → List Key → List (List Item) → List Item
cell_numbers texts cols part keys rows =
    map (λ a. num kept (number_at (places_cmp texts (key_columns cols part rows) part) (places_cmp texts (key_columns cols keys rows) keys) (numbers_from 0 (length rows)) a)) (numbers_from 0 (length rows))
