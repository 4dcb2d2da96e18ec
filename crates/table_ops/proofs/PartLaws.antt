-- What the rows of a tree say of content.
use Rattle.std.proofs.Common.{◌≡◌, ◌∙◌, ◌<◌, ◌∷◌, ◌&&◌, ◌||◌, [], ℕ, zero, suc, ℤ, pos, negsuc, Bool, true, false, not, cond, List, length, map, refl, sym, ap, subst, arith, Option, Some, None}
use Rattle.std.specs.Prelude.{slice_get, slice_index_or, nat_lt, ◌/◌, ◌%◌, ◌==◌, if◌then◌else◌}
use Rattle.std.specs.Fmt.{digits, digits_onto, digit_glyph, decimal, signed_decimal}
use Rattle.std.proofs.lemmas.Bool.{and_parts, false≢true, true≢false, lt-ltb}
use Rattle.xq_base.specs.declared.item.TextId.{TextId}
use Rattle.xq_base.specs.declared.item.NodeRef.{NodeRef}
use Rattle.xq_base.specs.Pool.{NoRepeats}
use Rattle.xq_base.specs.Texts.{Text, text_eq, is_empty_text}
use Rattle.doc_table.specs.declared.rows.Kind.{Kind}
use Rattle.doc_table.specs.declared.rows.Kind.TheVariants as k
use Rattle.doc_table.specs.Axes.{id_eq, kind_eq}
use Rattle.doc_table.specs.Content.{is_attribute_tree, some_attribute}
use Rattle.doc_table.specs.Enc.{Line, row_kind, row_value, enc, encs_at, line_in}
use Rattle.doc_table.specs.Given.{tree_given}
use Rattle.doc_table.specs.Identity.{place_of}
use Rattle.doc_table.specs.Kept.{root_or}
use Rattle.doc_table.specs.OtherTexts.{line_with}
use Rattle.doc_table.specs.Paths.{Path, subtree, label_at, label_in, label_of_pair, nth_pair}
use Rattle.doc_table.specs.Places.{Place, is_lone, path_at, names_node, node_at}
use Rattle.doc_table.specs.Sound.{is_sound, are_sound, may_be_child, begins_with_text, sound_label, has_children, is_empty_forest}
use Rattle.doc_table.specs.Spine.{is_empty_id, is_text}
use Rattle.doc_table.specs.Steps.{option_with}
use Rattle.doc_table.specs.StoredItems.{trees_of}
use Rattle.doc_table.specs.Stores.{Holdings, tree_at}
use Rattle.doc_table.specs.Tree.{AttributeNode, Label, OfDocument, OfElement, OfAttribute, OfText, OfComment, OfInstruction, Tree, Forest, Branch, no_more, one_more, root_of, kind_of, attributes_of, trees_in, label_with, with_texts, text_in}
use Rattle.doc_table.proofs.ByTexts.{alike_by_text, sound_by_text}
use Rattle.doc_table.proofs.RowNodes.{row_not_named}
use Rattle.doc_table.proofs.StringValues.{row-inside, labelled}
use Rattle.doc_table.proofs.Subtrees.{below-row}
use Rattle.table_ops.specs.declared.parts.Part.TheVariants as t
use Rattle.table_ops.specs.Contents.{is_nothing, some_other, node_part, leaves_as, name_from, named}
use Rattle.table_ops.proofs.ContentTrees.{NodeFits}

-- ---- trees that keep the restrictions of the data model

abbrev Sound : Tree Text → Type 0
Sound u = is_sound text_eq is_empty_text u ≡ true

child_kind : (l : Label Text) → may_be_child is_empty_text l ≡ true → kind_eq AttributeNode (kind_of l) ≡ false
child_kind OfDocument h = refl
child_kind (OfElement n as') h = refl
child_kind (OfAttribute n v) h = absurd (false≢true h)
child_kind (OfText v) h = refl
child_kind (OfComment v) h = refl
child_kind (OfInstruction n v) h = refl

child_left : (u : Tree Text) → may_be_child is_empty_text (root_of u) ≡ true → not (is_attribute_tree u || is_nothing u) ≡ true
child_left (Branch OfDocument f) h = refl
child_left (Branch (OfElement n as') f) h = refl
child_left (Branch (OfAttribute n v) f) h = absurd (false≢true h)
child_left (Branch (OfText v) f) h = h
child_left (Branch (OfComment v) f) h = refl
child_left (Branch (OfInstruction n v) f) h = refl

first_child : (u : Tree Text) (f : Forest Text) → are_sound text_eq is_empty_text (one_more u f) ≡ true → (may_be_child is_empty_text (root_of u) ≡ true) × (are_sound text_eq is_empty_text f ≡ true)
first_child u f h =
    let p = and_parts (may_be_child is_empty_text (root_of u) && not (is_text (root_of u) && begins_with_text f) && is_sound text_eq is_empty_text u) (are_sound text_eq is_empty_text f) h in
    let q = and_parts (may_be_child is_empty_text (root_of u) && not (is_text (root_of u) && begins_with_text f)) (is_sound text_eq is_empty_text u) p.0 in
    ((and_parts (may_be_child is_empty_text (root_of u)) (not (is_text (root_of u) && begins_with_text f)) q.0).0, p.1)

no_attributes : (f : Forest Text) → are_sound text_eq is_empty_text f ≡ true → some_attribute (trees_in f) ≡ false
no_attributes no_more h = refl
no_attributes (one_more u f) h = let p = first_child u f h in λ i. child_kind (root_of u) p.0 i || no_attributes f p.1 i

row_first : (u : Tree Text) (level : ℕ) (f : Forest Text) → nat_lt 0 (length (encs_at level (one_more u f))) ≡ true
row_first (Branch l g) level f = lt-ltb 0 (length (encs_at level (one_more (Branch l g) f))) (omega arith)

some_rows : (f : Forest Text) → are_sound text_eq is_empty_text f ≡ true → some_other (trees_in f) ≡ nat_lt 0 (length (encs_at 1 f))
some_rows no_more h = refl
some_rows (one_more u f) h = ap (λ b. b || some_other (trees_in f)) (child_left u (first_child u f h).0) ∙ sym (row_first u 1 f)

below_sound : (l : Label Text) (f : Forest Text) → Sound (Branch l f) → are_sound text_eq is_empty_text f ≡ true
below_sound l f h = (and_parts (sound_label text_eq l && (has_children l || is_empty_forest f)) (are_sound text_eq is_empty_text f) h).1

-- ---- the copies of a node that is no attribute

fits_root : (u : Tree Text) → Sound u → NodeFits (Some (root_of u)) (Some u)
fits_root (Branch OfDocument f) h = no_attributes f (below_sound OfDocument f h)
fits_root (Branch (OfElement n as') f) h = refl
fits_root (Branch (OfAttribute n v) f) h = tt
fits_root (Branch (OfText v) f) h = refl
fits_root (Branch (OfComment v) f) h = refl
fits_root (Branch (OfInstruction n v) f) h = refl

fits_at : (n : ℕ) (u : Tree Text) → Sound u → NodeFits (label_in n (Some u)) (Some u)
fits_at zero u h = fits_root u h
fits_at (suc n) u h = by (nth_pair (attributes_of (root_of u)) (suc n))
  where
    by : (o : Option (Text × Text)) → NodeFits (label_of_pair o) (Some u)
    by None = refl
    by (Some a) = tt

pub node_fits : (u : Tree Text) (p : Place) → Sound u → p.pre < length (enc u) → NodeFits (label_at u (node_at u p)) (subtree (node_at u p).steps u)
node_fits u p h l = by (is_lone u)
  where
    by : (b : Bool) → NodeFits (label_at u (cond b (record { steps = []; attr = 0 }) (record { steps = path_at u p.pre; attr = p.attr }))) (subtree (cond {A = Path} b (record { steps = []; attr = 0 }) (record { steps = path_at u p.pre; attr = p.attr })).steps u)
    by true = fits_at 0 u h
    by false =
        let b = below-row text_eq is_empty_text u p.pre l in
        subst (λ s. NodeFits (label_in p.attr s) s) (sym b.path) (fits_at p.attr b.tree (b.sound h))

-- ---- what a row leaves

abbrev or_empty : Option Text → Text
or_empty None = []
or_empty (Some t) = t

abbrev line_leaves : Kind → Option Text → ℕ → Bool
line_leaves k.Text value size = not (is_empty_text (or_empty value))
line_leaves k.Document value size = nat_lt 0 size
line_leaves k.Element value size = true
line_leaves k.Comment value size = true
line_leaves k.Pi value size = true

text_left : (b : Bool) → (not (false || b) || false) ≡ not b
text_left true = refl
text_left false = refl

root_part : (u : Tree Text) (size : ℕ) → Sound u → kind_eq AttributeNode (kind_of (root_of u)) ≡ false → ((f : Forest Text) → u ≡ Branch OfDocument f → size ≡ length (encs_at 1 f))
    → node_part (Some (root_of u)) (Some u) ≡ t.Other (line_leaves (row_kind (root_of u)) (row_value (root_of u)) size)
root_part (Branch OfDocument f) size h a d = ap t.Other (some_rows f (below_sound OfDocument f h) ∙ ap (nat_lt 0) (sym (d f refl)))
root_part (Branch (OfElement n as') f) size h a d = refl
root_part (Branch (OfAttribute n v) f) size h a d = absurd (true≢false a)
root_part (Branch (OfText v) f) size h a d = ap t.Other (text_left (is_empty_text v))
root_part (Branch (OfComment v) f) size h a d = refl
root_part (Branch (OfInstruction n v) f) size h a d = refl

-- the root of a row's tree
root_there : (u w : Tree Text) → subtree (path_at u 0) u ≡ Some w → u ≡ w
root_there (Branch l f) w e = cc

plain : (u w : Tree Text) (v : ℕ) → is_lone u ≡ false → subtree (path_at u v) u ≡ Some w → (0 < v → may_be_child is_empty_text (root_of w) ≡ true) → kind_eq AttributeNode (kind_of (root_of w)) ≡ false
plain u w zero e path g = ap (λ (z : Tree Text). kind_eq AttributeNode (kind_of (root_of z))) (sym (root_there u w path)) ∙ e
plain u w (suc v) e path g = child_kind (root_of w) (g (omega arith))

size_first : (f : Forest Text) → (line_in (enc (Branch OfDocument f)) 0).size ≡ length (encs_at 1 f)
size_first f = refl

document_size : (u w : Tree Text) (v : ℕ) (f : Forest Text) → subtree (path_at u v) u ≡ Some w → (0 < v → may_be_child is_empty_text (root_of w) ≡ true) → w ≡ Branch OfDocument f → (line_in (enc u) v).size ≡ length (encs_at 1 f)
document_size u w zero f path g e = ap (λ (z : Tree Text). (line_in (enc z) 0).size) (root_there u w path ∙ e) ∙ size_first f
document_size u w (suc v) f path g e = absurd (false≢true (sym (ap (λ (z : Tree Text). may_be_child is_empty_text (root_of z)) e) ∙ g (omega arith)))

text_row : (u : Tree Text) (v : ℕ) → Sound u → is_lone u ≡ false → v < length (enc u)
    → node_part (label_in 0 (subtree (path_at u v) u)) (subtree (path_at u v) u) ≡ t.Other (line_leaves (line_in (enc u) v).kind (line_in (enc u) v).value (line_in (enc u) v).size)
text_row u v h e l =
    let b = below-row text_eq is_empty_text u v l in
    ap (λ s. node_part (label_in 0 s) s) b.path
    ∙ root_part b.tree (line_in (enc u) v).size (b.sound h) (plain u b.tree v e b.path (b.below_root h)) (λ f d. document_size u b.tree v f b.path (b.below_root h) d)
    ∙ (λ i. t.Other (line_leaves (sym b.root i).kind (sym b.root i).value (line_in (enc u) v).size))

-- ---- over the texts of a pool

line_at : (f : TextId → Text) (lines : List (Line TextId)) (v : ℕ) → line_in (map (line_with f) lines) v ≡ line_with f (line_in lines v)
line_at f [] v = refl
line_at f (x ∷ lines) zero = refl
line_at f (x ∷ lines) (suc v) = line_at f lines v

leaves_same : (texts : List Text) (kind : Kind) (value : Option TextId) (size : ℕ) → line_leaves kind (option_with (text_in texts) value) size ≡ leaves_as texts kind value size
leaves_same texts k.Text None size = refl
leaves_same texts k.Text (Some id) size = refl
leaves_same texts k.Document value size = refl
leaves_same texts k.Element value size = refl
leaves_same texts k.Comment value size = refl
leaves_same texts k.Pi value size = refl

module _ (texts : List Text) (u : Tree TextId) (pre attr : ℕ) (sound : is_sound id_eq is_empty_id u ≡ true) (n : names_node u (record { pre = pre; attr = attr }) ≡ true) where
  abbrev P : Place
  P = record { pre = pre; attr = attr }

  abbrev W : Tree Text
  W = with_texts texts u

  pub attribute_part : (j : ℕ) → attr ≡ suc j → t.Attribute ≡ node_part (label_at W (node_at W P)) (subtree (node_at W P).steps W)
  attribute_part j z =
      let l = labelled texts u P sound n in
      let d : TextId × TextId = (record { 0 = 0 }, record { 0 = 0 }) in
      sym (ap (λ x. node_part x (subtree (node_at W P).steps W)) (l.is ∙ ap (λ x. Some (label_with (text_in texts) x)) (l.attribute j d z)))

  pub attribute_named : (j : ℕ) (d : TextId × TextId) → attr ≡ suc j → text_in texts (slice_index_or (line_in (enc u) pre).attributes j d).0 ∷ [] ≡ name_from (label_at W (node_at W P))
  attribute_named j d z =
      let l = labelled texts u P sound n in
      sym (ap name_from (l.is ∙ ap (λ x. Some (label_with (text_in texts) x)) (l.attribute j d z)))

  pub row_unnamed : attr ≡ 0 → [] ≡ name_from (label_at W (node_at W P))
  row_unnamed z =
      let l = labelled texts u P sound n in
      sym (ap name_from l.is ∙ by l.label (l.apart z))
    where
      by : (l : Label TextId) → kind_eq AttributeNode (kind_of l) ≡ false → name_from (Some (label_with (text_in texts) l)) ≡ []
      by OfDocument h = refl
      by (OfElement n as') h = refl
      by (OfAttribute n v) h = absurd (true≢false h)
      by (OfText v) h = refl
      by (OfComment v) h = refl
      by (OfInstruction n v) h = refl

  module _ (once : NoRepeats texts) (first : slice_get texts 0 ≡ Some []) (given : tree_given (length texts) u ≡ true) where
    sound_text : Sound W
    sound_text = sound_by_text texts u once first given ∙ sound

    inside : pre < length (enc W)
    inside = omega (arith, row-inside u P n, ap (λ (z : List (Line Text)). length z) (alike_by_text texts u).rows, map_length (enc u))
      where
        map_length : (xs : List (Line TextId)) → length (map (line_with (text_in texts)) xs) ≡ length xs
        map_length [] = refl
        map_length (x ∷ xs) = ap suc (map_length xs)

    pub place_fits : NodeFits (label_at W (node_at W P)) (subtree (node_at W P).steps W)
    place_fits = node_fits W P sound_text inside

    pub row_part : attr ≡ 0 → t.Other (leaves_as texts (line_in (enc u) pre).kind (line_in (enc u) pre).value (line_in (enc u) pre).size) ≡ node_part (label_at W (node_at W P)) (subtree (node_at W P).steps W)
    row_part z =
        let named : names_node W (record { pre = pre; attr = 0 }) ≡ true = (alike_by_text texts u).named (record { pre = pre; attr = 0 }) ∙ ap (λ a. names_node u (record { pre = pre; attr = a })) (sym z) ∙ n in
        let tall : is_lone W ≡ false = by (is_lone W) (λ e. row_not_named W pre e named) in
        let line : line_in (enc W) pre ≡ line_with (text_in texts) (line_in (enc u) pre) = ap (λ ls. line_in ls pre) (alike_by_text texts u).rows ∙ line_at (text_in texts) (enc u) pre in
        sym (ap (λ a. node_part (label_at W (node_at W (record { pre = pre; attr = a }))) (subtree (node_at W (record { pre = pre; attr = a })).steps W)) z
        ∙ ap (λ b. node_part (label_at W (cond b (record { steps = []; attr = 0 }) (record { steps = path_at W pre; attr = 0 }))) (subtree (cond {A = Path} b (record { steps = []; attr = 0 }) (record { steps = path_at W pre; attr = 0 })).steps W)) tall
        ∙ text_row W pre sound_text tall inside
        ∙ (λ i. t.Other (line_leaves (line i).kind (line i).value (line i).size))
        ∙ ap t.Other (leaves_same texts (line_in (enc u) pre).kind (line_in (enc u) pre).value (line_in (enc u) pre).size))
      where
        by : (b : Bool) → (b ≡ true → ⊥) → b ≡ false
        by true f = absurd (f refl)
        by false f = refl

-- the tree under a key
pub part_under : (texts : List Text) (h : Holdings) (r : NodeRef) (u : Tree TextId) → tree_at h r.frag ≡ Some u
    → node_part (label_at (with_texts texts u) (node_at (with_texts texts u) (place_of r))) (subtree (node_at (with_texts texts u) (place_of r)).steps (with_texts texts u))
    ≡ node_part (label_at (with_texts texts (trees_of h r.frag)) (node_at (with_texts texts (trees_of h r.frag)) (place_of r))) (subtree (node_at (with_texts texts (trees_of h r.frag)) (place_of r)).steps (with_texts texts (trees_of h r.frag)))
part_under texts h r u e = ap (λ w. node_part (label_at (with_texts texts w) (node_at (with_texts texts w) (place_of r))) (subtree (node_at (with_texts texts w) (place_of r)).steps (with_texts texts w))) (sym (ap root_or e))

-- the text of an integer isn't empty
some_digits : (k base : ℕ) (upper : Bool) (n c : ℕ) (cs : Text) → is_empty_text (digits_onto k base upper n (c ∷ cs)) ≡ false
some_digits zero base upper n c cs = refl
some_digits (suc k) base upper n c cs = by (n / base == 0) (some_digits k base upper (n / base) (digit_glyph upper (n % base)) (c ∷ cs))
  where
    by : (b : Bool) → is_empty_text (digits_onto k base upper (n / base) (digit_glyph upper (n % base) ∷ c ∷ cs)) ≡ false
        → is_empty_text (if b then digit_glyph upper (n % base) ∷ c ∷ cs else digits_onto k base upper (n / base) (digit_glyph upper (n % base) ∷ c ∷ cs)) ≡ false
    by true e = refl
    by false e = e

first_digit : (k base : ℕ) (upper : Bool) (n : ℕ) → is_empty_text (digits_onto (suc k) base upper n []) ≡ false
first_digit k base upper n = by (n / base == 0)
  where
    by : (b : Bool) → is_empty_text (if b then digit_glyph upper (n % base) ∷ [] else digits_onto k base upper (n / base) (digit_glyph upper (n % base) ∷ [])) ≡ false
    by true = refl
    by false = some_digits k base upper (n / base) (digit_glyph upper (n % base)) []

decimal_text : (n : ℕ) → is_empty_text (decimal n) ≡ false
unfolding digits
decimal_text n = first_digit 63 10 false n

pub integer_text : (z : ℤ) → true ≡ not (is_empty_text (signed_decimal z))
integer_text (pos n) = ap not (sym (decimal_text n))
integer_text (negsuc n) = refl
