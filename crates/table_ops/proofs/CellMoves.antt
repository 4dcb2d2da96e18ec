-- Kept cells compare as the items that they stand for.
use Rattle.std.proofs.Common.{◌≡◌, ◌∙◌, Bool, true, false, ◌&&◌, cond, List, [], ◌∷◌, length, refl, sym, ap}
use Rattle.std.specs.Prelude.{pos}
use Rattle.std.specs.List.{list_all}
use Rattle.std.specs.declared.cmp.Ordering.{Ordering}
use Rattle.std.specs.declared.cmp.Ordering.TheVariants.{Less, Equal, Greater}
use Rattle.std.specs.Ordering.{nat_cmp, bool_cmp, is_eq}
use Rattle.std.specs.Cmp.Lexicographic.{slice_cmp}
use mathlib.Core.Bool.{beq}
use Rattle.xq_base.specs.declared.item.NodeRef.{NodeRef}
use Rattle.xq_base.specs.declared.item.Item.{Item}
use Rattle.xq_base.specs.declared.item.Item.TheVariants as i
use Rattle.xq_base.specs.declared.item.Atom.{Atom as Constant}
use Rattle.xq_base.specs.declared.item.Atom.TheVariants as a
use Rattle.xq_base.specs.declared.fun.Fun.TheVariants as f
use Rattle.xq_base.specs.Pool.{NoRepeats}
use Rattle.xq_base.specs.Texts.{Text}
use Rattle.doc_table.specs.Tree.{text_in, with_texts}
use Rattle.doc_table.specs.Identity.{Node, node_of, ref_eq}
use Rattle.doc_table.specs.Items.{IntItem, item_of}
use Rattle.doc_table.specs.Stores.{Holdings}
use Rattle.doc_table.specs.StoredItems.{ItemGiven, ItemsGiven, meanings, trees_of}
use Rattle.doc_table.proofs.DerivedOrder.{derived_order}
use Rattle.doc_table.proofs.NodeLaws.{same-ref}
use Rattle.doc_table.proofs.StrictOrders.{refs_order}
use Rattle.doc_table.proofs.TextTests.{ids, same-test}
use Rattle.xq_funs.specs.Answering.{text_given}
use Rattle.xq_funs.specs.Orderings.{tells_equal}
use Rattle.xq_funs.proofs.NodeLaws.{stand}
use Rattle.xq_funs.proofs.Ordered.{texts_equal}
use Rattle.plan_dag.specs.declared.cols.Col.{Col}
use Rattle.plan_dag.specs.Padded.{col_eq}
use Rattle.plan_dag.specs.Meaning.{cell_or}
use Rattle.plan_dag.specs.ItemRules.{Cell, cell_eq, cell_less, int_in, is_true, constant_cell, atom_in}
use Rattle.table_ops.specs.Columns.{no_cell}
use Rattle.table_ops.specs.Held.{held_less, held_int, held_constant, held_atom}
use Rattle.table_ops.specs.Keys.{item_eq}
use Rattle.table_ops.specs.Picks.{is_true_item}
use Rattle.table_ops.specs.Sorting.{held_cmp, columns_given}
use Rattle.table_ops.specs.Standing.{RowsGiven}
use Rattle.table_ops.proofs.ItemEqual.{item_same, item_self}

tells : (o : Ordering) → tells_equal o ≡ is_eq o
tells Less = refl
tells Equal = refl
tells Greater = refl

bools_equal : (b d : Bool) → beq b d ≡ is_eq (bool_cmp b d)
bools_equal true true = refl
bools_equal true false = refl
bools_equal false true = refl
bools_equal false false = refl

node_in : NodeRef → Item → NodeRef
node_in d (i.Node r) = r
node_in d (i.Int z) = d
node_in d (i.Str id) = d
node_in d (i.Untyped id) = d
node_in d (i.Bool b) = d

-- kept nodes are equal where their references are
refs_equal : (m n : NodeRef) → ref_eq m n ≡ item_eq (i.Node m) (i.Node n)
unfolding node_in
refs_equal m n =
    same-test (ref_eq m n) (item_eq (i.Node m) (i.Node n))
    (λ e. ap (λ r. item_eq (i.Node m) (i.Node r)) (sym (same-ref m n e)) ∙ item_self (i.Node m))
    (λ e. ap (ref_eq m) (sym (ap (node_in m) (item_same (i.Node m) (i.Node n) e))) ∙ refs_order.eq_self m)

-- a given text is one of the pool
pub text_of_given : (texts : List Text) (h : Holdings) (v : Item) → ItemGiven texts h v → text_given (length texts) v ≡ true
text_of_given texts h (i.Int z) g = refl
text_of_given texts h (i.Str id) g = g
text_of_given texts h (i.Untyped id) g = g
text_of_given texts h (i.Bool b) g = refl
text_of_given texts h (i.Node r) g = refl

pub texts_of_given : (texts : List Text) (h : Holdings) (r : List Item) → ItemsGiven texts h r → list_all (text_given (length texts)) r ≡ true
texts_of_given texts h [] g = refl
texts_of_given texts h (v ∷ r) g = λ j. text_of_given texts h v g.0 j && texts_of_given texts h r g.1 j

pub rows_of_given : (texts : List Text) (h : Holdings) (rows : List (List Item)) → RowsGiven texts h rows → columns_given (length texts) rows ≡ true
rows_of_given texts h [] g = refl
rows_of_given texts h (r ∷ rows) g = λ j. texts_of_given texts h r g.0 j && rows_of_given texts h rows g.1 j

module _ (texts : List Text) (h : Holdings) where
  abbrev M : Item → Cell
  M = item_of texts (trees_of h)

  abbrev N : NodeRef → Node Text
  N r = node_of (λ key. with_texts texts (trees_of h key)) r

  -- equal cells, where each text has one number
  pub same_moves : NoRepeats texts → (v w : Item) → ItemGiven texts h v → ItemGiven texts h w → cell_eq (M v) (M w) ≡ item_eq v w
  same_moves once (i.Int y) (i.Int z) g k = refl
  same_moves once (i.Str s) (i.Str t) g k = sym (ids texts s t once g k)
  same_moves once (i.Untyped s) (i.Untyped t) g k = sym (ids texts s t once g k)
  same_moves once (i.Bool b) (i.Bool d) g k = refl
  same_moves once (i.Node m) (i.Node n) g k = sym (stand texts h f.Is m n g k) ∙ refs_equal m n
  same_moves once (i.Int y) (i.Str t) g k = refl
  same_moves once (i.Int y) (i.Untyped t) g k = refl
  same_moves once (i.Int y) (i.Bool d) g k = refl
  same_moves once (i.Int y) (i.Node n) g k = refl
  same_moves once (i.Str s) (i.Int z) g k = refl
  same_moves once (i.Str s) (i.Untyped t) g k = refl
  same_moves once (i.Str s) (i.Bool d) g k = refl
  same_moves once (i.Str s) (i.Node n) g k = refl
  same_moves once (i.Untyped s) (i.Int z) g k = refl
  same_moves once (i.Untyped s) (i.Str t) g k = refl
  same_moves once (i.Untyped s) (i.Bool d) g k = refl
  same_moves once (i.Untyped s) (i.Node n) g k = refl
  same_moves once (i.Bool b) (i.Int z) g k = refl
  same_moves once (i.Bool b) (i.Str t) g k = refl
  same_moves once (i.Bool b) (i.Untyped t) g k = refl
  same_moves once (i.Bool b) (i.Node n) g k = refl
  same_moves once (i.Node m) (i.Int z) g k = refl
  same_moves once (i.Node m) (i.Str t) g k = refl
  same_moves once (i.Node m) (i.Untyped t) g k = refl
  same_moves once (i.Node m) (i.Bool d) g k = refl

  -- the same by order, whatever numbers texts have
  pub tied_moves : (v w : Item) → ItemGiven texts h v → ItemGiven texts h w → cell_eq (M v) (M w) ≡ is_eq (held_cmp texts v w)
  tied_moves (i.Int y) (i.Int z) g k = refl
  tied_moves (i.Str s) (i.Str t) g k = sym (texts_equal (text_in texts s) (text_in texts t)) ∙ tells (slice_cmp nat_cmp (text_in texts s) (text_in texts t))
  tied_moves (i.Untyped s) (i.Untyped t) g k = sym (texts_equal (text_in texts s) (text_in texts t)) ∙ tells (slice_cmp nat_cmp (text_in texts s) (text_in texts t))
  tied_moves (i.Bool b) (i.Bool d) g k = bools_equal b d
  tied_moves (i.Node m) (i.Node n) g k = sym (stand texts h f.Is m n g k) ∙ sym (derived_order.same m n)
  tied_moves (i.Int y) (i.Str t) g k = refl
  tied_moves (i.Int y) (i.Untyped t) g k = refl
  tied_moves (i.Int y) (i.Bool d) g k = refl
  tied_moves (i.Int y) (i.Node n) g k = refl
  tied_moves (i.Str s) (i.Int z) g k = refl
  tied_moves (i.Str s) (i.Untyped t) g k = refl
  tied_moves (i.Str s) (i.Bool d) g k = refl
  tied_moves (i.Str s) (i.Node n) g k = refl
  tied_moves (i.Untyped s) (i.Int z) g k = refl
  tied_moves (i.Untyped s) (i.Str t) g k = refl
  tied_moves (i.Untyped s) (i.Bool d) g k = refl
  tied_moves (i.Untyped s) (i.Node n) g k = refl
  tied_moves (i.Bool b) (i.Int z) g k = refl
  tied_moves (i.Bool b) (i.Str t) g k = refl
  tied_moves (i.Bool b) (i.Untyped t) g k = refl
  tied_moves (i.Bool b) (i.Node n) g k = refl
  tied_moves (i.Node m) (i.Int z) g k = refl
  tied_moves (i.Node m) (i.Str t) g k = refl
  tied_moves (i.Node m) (i.Untyped t) g k = refl
  tied_moves (i.Node m) (i.Bool d) g k = refl

  pub less_moves : (v w : Item) → ItemGiven texts h v → ItemGiven texts h w → cell_less (M v) (M w) ≡ held_less texts v w
  less_moves (i.Int y) (i.Int z) g k = refl
  less_moves (i.Str s) (i.Str t) g k = refl
  less_moves (i.Untyped s) (i.Untyped t) g k = refl
  less_moves (i.Bool b) (i.Bool d) g k = refl
  less_moves (i.Node m) (i.Node n) g k = sym (stand texts h f.Before m n g k)
  less_moves (i.Int y) (i.Str t) g k = refl
  less_moves (i.Int y) (i.Untyped t) g k = refl
  less_moves (i.Int y) (i.Bool d) g k = refl
  less_moves (i.Int y) (i.Node n) g k = refl
  less_moves (i.Str s) (i.Int z) g k = refl
  less_moves (i.Str s) (i.Untyped t) g k = refl
  less_moves (i.Str s) (i.Bool d) g k = refl
  less_moves (i.Str s) (i.Node n) g k = refl
  less_moves (i.Untyped s) (i.Int z) g k = refl
  less_moves (i.Untyped s) (i.Str t) g k = refl
  less_moves (i.Untyped s) (i.Bool d) g k = refl
  less_moves (i.Untyped s) (i.Node n) g k = refl
  less_moves (i.Bool b) (i.Int z) g k = refl
  less_moves (i.Bool b) (i.Str t) g k = refl
  less_moves (i.Bool b) (i.Untyped t) g k = refl
  less_moves (i.Bool b) (i.Node n) g k = refl
  less_moves (i.Node m) (i.Int z) g k = refl
  less_moves (i.Node m) (i.Str t) g k = refl
  less_moves (i.Node m) (i.Untyped t) g k = refl
  less_moves (i.Node m) (i.Bool d) g k = refl

  pub int_moves : (v : Item) → int_in (M v) ≡ held_int v
  int_moves (i.Int z) = refl
  int_moves (i.Str s) = refl
  int_moves (i.Untyped s) = refl
  int_moves (i.Bool b) = refl
  int_moves (i.Node n) = refl

  pub true_moves : (v : Item) → is_true (M v) ≡ is_true_item v
  true_moves (i.Int z) = refl
  true_moves (i.Str s) = refl
  true_moves (i.Untyped s) = refl
  true_moves (i.Bool b) = refl
  true_moves (i.Node n) = refl

  pub constant_moves : (v : Constant) → M (held_constant v) ≡ constant_cell texts v
  constant_moves (a.Int z) = refl
  constant_moves (a.Str s) = refl
  constant_moves (a.Untyped s) = refl
  constant_moves (a.Bool b) = refl

  pub atom_moves : (v : Item) → atom_in (M v) ≡ held_atom texts v
  atom_moves (i.Int z) = refl
  atom_moves (i.Str s) = refl
  atom_moves (i.Untyped s) = refl
  atom_moves (i.Bool b) = refl
  atom_moves (i.Node n) = refl

  pub cell_moves : (cols : List Col) (c : Col) (r : List Item) → cell_or (IntItem (pos 0)) cols c (meanings texts h r) ≡ M (cell_or no_cell cols c r)
  cell_moves [] c r = refl
  cell_moves (k ∷ ks) c [] = refl
  cell_moves (k ∷ ks) c (v ∷ r) = by (col_eq k c) (cell_moves ks c r)
    where
      by : (b : Bool) → cell_or (IntItem (pos 0)) ks c (meanings texts h r) ≡ M (cell_or no_cell ks c r) → cond b (M v) (cell_or (IntItem (pos 0)) ks c (meanings texts h r)) ≡ M (cond b v (cell_or no_cell ks c r))
      by true e = refl
      by false e = e

  pub cell_held : (cols : List Col) (c : Col) (r : List Item) → ItemsGiven texts h r → ItemGiven texts h (cell_or no_cell cols c r)
  cell_held [] c r g = tt
  cell_held (k ∷ ks) c [] g = tt
  cell_held (k ∷ ks) c (v ∷ r) g = by (col_eq k c) (cell_held ks c r g.1)
    where
      by : (b : Bool) → ItemGiven texts h (cell_or no_cell ks c r) → ItemGiven texts h (cond b v (cell_or no_cell ks c r))
      by true e = g.0
      by false e = e
