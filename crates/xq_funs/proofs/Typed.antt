-- The typed value of a node, by rows.
use Rattle.std.proofs.Common.{◌≡◌, ◌<◌, ◌-◌, ℕ, zero, suc, Bool, true, false, List, [], ◌∷◌, length, Some, if◌then◌else◌, refl, sym, ap, ◌∙◌, arith, subst}
use Rattle.std.proofs.lemmas.Bool.{true≢false, and_parts, lt-ltb}
use Rattle.std.specs.Prelude.{slice_get, nat_lt}
use Rattle.xq_base.specs.declared.item.TextId.{TextId}
use Rattle.xq_base.specs.declared.item.NodeRef.{NodeRef}
use Rattle.xq_base.specs.Texts.{Text}
use Rattle.xq_base.specs.Atoms.{Atom, TextAtom, UntypedAtom}
use Rattle.doc_table.specs.Tree.{AttributeNode, Label, OfDocument, OfElement, OfAttribute, OfText, OfComment, OfInstruction, Tree, kind_of, label_with, tree_with, with_texts, text_in}
use Rattle.doc_table.specs.Paths.{label_at}
use Rattle.doc_table.specs.Enc.{row_kind, enc, line_in}
use Rattle.doc_table.specs.Axes.{id_eq, kind_eq}
use Rattle.doc_table.specs.Places.{Place, names_node, node_at}
use Rattle.doc_table.specs.Spine.{is_empty_id}
use Rattle.doc_table.specs.Sound.{is_sound}
use Rattle.doc_table.specs.Nodes.{typed_from, label_of_node}
use Rattle.doc_table.specs.Identity.{node_of, place_of}
use Rattle.doc_table.specs.Kept.{root_or}
use Rattle.doc_table.specs.Limits.{size_limit}
use Rattle.doc_table.specs.Stores.{Holdings, tree_at, AllKept}
use Rattle.doc_table.specs.StoredItems.{trees_of, IsNodeOf}
use Rattle.doc_table.specs.Given.{is_given}
use Rattle.doc_table.proofs.StringValues.{labelled}
use Rattle.xq_funs.specs.Answering.{string_kind}

pub found_given : (texts : List Text) (id : TextId) (t : Text) → slice_get texts id.0 ≡ Some t → is_given (length texts) id ≡ true
found_given texts id t e = lt-ltb id.0 (length texts) (within texts id.0 t e)
  where
    within : (xs : List Text) (n : ℕ) (t : Text) → slice_get xs n ≡ Some t → n < length xs
    within [] n t e = cc
    within (x ∷ xs) zero t e = omega arith
    within (x ∷ xs) (suc n) t e = let r = within xs n t e in omega (arith, r)

abbrev pub typed_as : Bool → Text → Atom
typed_as b s = if b then TextAtom s else UntypedAtom s

by-label : (f : TextId → Text) (l : Label TextId) (s : Text) → kind_eq AttributeNode (kind_of l) ≡ false → typed_from (Some (label_with f l)) s ≡ typed_as (string_kind (row_kind l)) s
by-label f OfDocument s h = refl
by-label f (OfElement n as') s h = refl
by-label f (OfAttribute n v) s h = absurd (true≢false h)
by-label f (OfText v) s h = refl
by-label f (OfComment v) s h = refl
by-label f (OfInstruction n v) s h = refl

pub typed_row : (texts : List Text) (t : Tree TextId) (p : Place) (s : Text) → is_sound id_eq is_empty_id t ≡ true → names_node t p ≡ true → p.attr ≡ 0
    → typed_from (label_at (tree_with (text_in texts) t) (node_at (tree_with (text_in texts) t) p)) s ≡ typed_as (string_kind (line_in (enc t) p.pre).kind) s
typed_row texts t p s sound named z =
    let l = labelled texts t p sound named in
    ap (λ x. typed_from x s) l.is ∙ by-label (text_in texts) l.label s (l.apart z) ∙ ap (λ x. typed_as (string_kind x) s) (sym (l.kind z))

pub typed_attribute : (texts : List Text) (t : Tree TextId) (p : Place) (s : Text) → is_sound id_eq is_empty_id t ≡ true → names_node t p ≡ true → 0 < p.attr
    → typed_from (label_at (tree_with (text_in texts) t) (node_at (tree_with (text_in texts) t) p)) s ≡ typed_as false s
typed_attribute texts t p s sound named z =
    let l = labelled texts t p sound named in
    let d : TextId × TextId = (record { 0 = 0 }, record { 0 = 0 }) in
    let number : p.attr ≡ suc (p.attr - 1) = omega (arith, z) in
    ap (λ x. typed_from x s) l.is ∙ ap (λ x. typed_from (Some (label_with (text_in texts) x)) s) (l.attribute (p.attr - 1) d number)

-- ---- nodes of a store

pub named-under : (h : Holdings) (r : NodeRef) (t : Tree TextId) → IsNodeOf h r (tree_at h r.frag) → tree_at h r.frag ≡ Some t → names_node t (place_of r) ≡ true
named-under h r t n e = subst (λ o. IsNodeOf h r o) e n

pub sound-under : (h : Holdings) (r : NodeRef) (t : Tree TextId) → AllKept h → tree_at h r.frag ≡ Some t → is_sound id_eq is_empty_id t ≡ true
sound-under h r t k e = (and_parts (is_sound id_eq is_empty_id t) (nat_lt (length (enc t)) size_limit) (k r.frag t e)).0

pub typed_under : (texts : List Text) (h : Holdings) (r : NodeRef) (t : Tree TextId) (s : Text) → AllKept h → IsNodeOf h r (tree_at h r.frag) → tree_at h r.frag ≡ Some t → r.attr ≡ 0
    → typed_from (label_of_node (node_of (λ key. with_texts texts (trees_of h key)) r)) s ≡ typed_as (string_kind (line_in (enc t) r.pre).kind) s
typed_under texts h r t s k n e z =
    ap (λ u. typed_from (label_at (tree_with (text_in texts) u) (node_at (tree_with (text_in texts) u) (place_of r))) s) (ap root_or e)
    ∙ typed_row texts t (place_of r) s (sound-under h r t k e) (named-under h r t n e) z

pub attribute_under : (texts : List Text) (h : Holdings) (r : NodeRef) (t : Tree TextId) (s : Text) → AllKept h → IsNodeOf h r (tree_at h r.frag) → tree_at h r.frag ≡ Some t → 0 < r.attr
    → typed_from (label_of_node (node_of (λ key. with_texts texts (trees_of h key)) r)) s ≡ typed_as false s
attribute_under texts h r t s k n e z =
    ap (λ u. typed_from (label_at (tree_with (text_in texts) u) (node_at (tree_with (text_in texts) u) (place_of r))) s) (ap root_or e)
    ∙ typed_attribute texts t (place_of r) s (sound-under h r t k e) (named-under h r t n e) z
