-- The order of kept cells and of places is one order.
use Rattle.std.proofs.Common.{◌≡◌, ℕ, zero, suc, Bool, true, false, ◌&&◌, List, [], ◌∷◌, refl, sym, subst, true≢false, Some}
use Rattle.std.specs.Prelude.{slice_get, ℤ, pos}
use Rattle.std.specs.List.{list_all}
use Rattle.std.specs.declared.cmp.Ordering.{Ordering}
use Rattle.std.specs.declared.cmp.Ordering.TheVariants.{Less, Equal, Greater}
use Rattle.std.specs.Ordering.{nat_cmp, int_cmp, bool_cmp, then_cmp, ordering_then, on}
use Rattle.std.specs.Cmp.{IsTotalOrder, bool_cmp_total}
use Rattle.std.specs.Cmp.Lexicographic.{slice_cmp}
use Rattle.std.proofs.lemmas.Cmp.{nat_cmp_total, int_cmp_total, on_total, then_total, back_total, nat_list_cmp_total}
use Rattle.xq_base.specs.declared.item.TextId.{TextId}
use Rattle.xq_base.specs.declared.item.FragKey.TheVariants as f
use Rattle.xq_base.specs.declared.item.NodeRef.{NodeRef}
use Rattle.xq_base.specs.declared.item.Item.{Item}
use Rattle.xq_base.specs.declared.item.Item.TheVariants as i
use Rattle.xq_base.specs.contracts.item.NodeRefOrd.TheImpl.Laws.{total-law}
use Rattle.xq_base.specs.Texts.{Text}
use Rattle.doc_table.specs.Tree.{text_in}
use Rattle.doc_table.specs.DerivedOrder.{ref_cmp}
use Rattle.doc_table.proofs.StringValues.{text-found}
use Rattle.xq_funs.specs.Answering.{text_given}
use Rattle.plan_dag.specs.declared.keys.Key.{Key}
use Rattle.table_ops.specs.Columns.{cell_of}
use Rattle.table_ops.specs.Held.{held_rank}
use Rattle.table_ops.specs.Sorting.{held_cmp, cells_cmp, places_cmp, order_cmp}

pub text_is : (texts : List Text) (id : TextId) (t : Text) → slice_get texts id.0 ≡ Some t → text_in texts id ≡ t
text_is texts id t e = sym (text-found texts id.0 t e)

pub cell_given : (n : ℕ) (cells : List Item) (k : ℕ) → list_all (text_given n) cells ≡ true → text_given n (cell_of cells k) ≡ true
cell_given n [] k h = refl
cell_given n (c ∷ cells) zero h = by (text_given n c) (list_all (text_given n) cells) h
  where
    by : (b d : Bool) → (b && d) ≡ true → b ≡ true
    by true d e = refl
    by false d e = e
cell_given n (c ∷ cells) (suc k) h = cell_given n cells k (by (text_given n c) (list_all (text_given n) cells) h)
  where
    by : (b d : Bool) → (b && d) ≡ true → d ≡ true
    by true d e = e
    by false d e = absurd (true≢false (sym e))

-- the parts of a cell
no_ref : NodeRef
no_ref = record { frag = f.Doc 0; pre = 0; attr = 0 }

flag_in : Item → Bool
flag_in (i.Bool b) = b
flag_in (i.Int z) = false
flag_in (i.Str id) = false
flag_in (i.Untyped id) = false
flag_in (i.Node r) = false

number_in : Item → ℤ
number_in (i.Bool b) = pos 0
number_in (i.Int z) = z
number_in (i.Str id) = pos 0
number_in (i.Untyped id) = pos 0
number_in (i.Node r) = pos 0

letters_in : List Text → Item → Text
letters_in texts (i.Bool b) = []
letters_in texts (i.Int z) = []
letters_in texts (i.Str id) = text_in texts id
letters_in texts (i.Untyped id) = text_in texts id
letters_in texts (i.Node r) = []

ref_in : Item → NodeRef
ref_in (i.Bool b) = no_ref
ref_in (i.Int z) = no_ref
ref_in (i.Str id) = no_ref
ref_in (i.Untyped id) = no_ref
ref_in (i.Node r) = r

parts_cmp : List Text → Item → Item → Ordering
parts_cmp texts = then_cmp (on held_rank nat_cmp) (then_cmp (on flag_in bool_cmp) (then_cmp (on number_in int_cmp) (then_cmp (on (letters_in texts) (slice_cmp nat_cmp)) (on ref_in ref_cmp))))

parts_total : (texts : List Text) → IsTotalOrder (parts_cmp texts)
unfolding parts_cmp
parts_total texts = then_total (on_total held_rank nat_cmp_total) (then_total (on_total flag_in bool_cmp_total) (then_total (on_total number_in int_cmp_total) (then_total (on_total (letters_in texts) nat_list_cmp_total) (on_total ref_in total-law))))

then_equal : (o : Ordering) → o ≡ ordering_then o Equal
then_equal Less = refl
then_equal Equal = refl
then_equal Greater = refl

parts_are : (texts : List Text) (v w : Item) → held_cmp texts v w ≡ parts_cmp texts v w
unfolding parts_cmp flag_in number_in letters_in ref_in no_ref
parts_are texts (i.Bool b) (i.Bool d) = then_equal (bool_cmp b d)
parts_are texts (i.Int y) (i.Int z) = then_equal (int_cmp y z)
parts_are texts (i.Str s) (i.Str t) = then_equal (slice_cmp nat_cmp (text_in texts s) (text_in texts t))
parts_are texts (i.Untyped s) (i.Untyped t) = then_equal (slice_cmp nat_cmp (text_in texts s) (text_in texts t))
parts_are texts (i.Node m) (i.Node n) = refl
parts_are texts (i.Bool b) (i.Int z) = refl
parts_are texts (i.Bool b) (i.Str t) = refl
parts_are texts (i.Bool b) (i.Untyped t) = refl
parts_are texts (i.Bool b) (i.Node n) = refl
parts_are texts (i.Int y) (i.Bool d) = refl
parts_are texts (i.Int y) (i.Str t) = refl
parts_are texts (i.Int y) (i.Untyped t) = refl
parts_are texts (i.Int y) (i.Node n) = refl
parts_are texts (i.Str s) (i.Bool d) = refl
parts_are texts (i.Str s) (i.Int z) = refl
parts_are texts (i.Str s) (i.Untyped t) = refl
parts_are texts (i.Str s) (i.Node n) = refl
parts_are texts (i.Untyped s) (i.Bool d) = refl
parts_are texts (i.Untyped s) (i.Int z) = refl
parts_are texts (i.Untyped s) (i.Str t) = refl
parts_are texts (i.Untyped s) (i.Node n) = refl
parts_are texts (i.Node m) (i.Bool d) = refl
parts_are texts (i.Node m) (i.Int z) = refl
parts_are texts (i.Node m) (i.Str t) = refl
parts_are texts (i.Node m) (i.Untyped t) = refl

pub held_total : (texts : List Text) → IsTotalOrder (held_cmp texts)
held_total texts = subst IsTotalOrder (λ j v w. sym (parts_are texts v w) j) (parts_total texts)

cells_total : (texts : List Text) (descending : Bool) → IsTotalOrder (cells_cmp texts descending)
cells_total texts true = back_total (held_total texts)
cells_total texts false = held_total texts

equal_total : IsTotalOrder (λ (a b : ℕ). Equal)
equal_total = record { antisymm = λ a b. refl; trans = λ a b c h k. h; congr = λ a b c h. refl }

pub places_total : (texts : List Text) (cs : List (List Item)) (ks : List Key) → IsTotalOrder (places_cmp texts cs ks)
places_total texts [] ks = equal_total
places_total texts (c ∷ cs) [] = equal_total
places_total texts (c ∷ cs) (k ∷ ks) = then_total (on_total (cell_of c) (cells_total texts k.descending)) (places_total texts cs ks)

pub order_total : (part keys : ℕ → ℕ → Ordering) → IsTotalOrder part → IsTotalOrder keys → IsTotalOrder (order_cmp part keys)
order_total part keys p k = then_total p (then_total k nat_cmp_total)
