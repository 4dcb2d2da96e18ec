-- What the builder's calls are, seen with texts.
use Rattle.std.proofs.Common.{◌≡◌, ℕ, zero, suc, true, false, List, [], ◌∷◌, ◌++◌, length, take, Option, Some, None, slice_get, slice_index_or, refl, sym, ap, ◌∙◌, true≢false}
use Rattle.xq_base.specs.declared.item.TextId.{TextId}
use Rattle.doc_table.specs.Tree.{Label, OfDocument, OfElement, OfAttribute, OfText, OfComment, OfInstruction, Tree, Forest, Branch, no_more, one_more, forest_of, pair_with, label_with, tree_with, text_in}
use Rattle.doc_table.specs.Spine.{Open, Spine, put_in, with_leaf, opened, close_in, closed, attribute_in, with_attribute, is_some_open, is_text, ends_in_text, text_last, spine_with}
use Rattle.doc_table.proofs.SpineLaws.{rows-leaf, leaf-with, closed-with, attribute-with}
use Rattle.doc_shred.specs.Content.{Text}
use Rattle.doc_shred.specs.Walk.{Nodes, leaf, open_node, close_node}
use Rattle.doc_shred.specs.Standing.{Texts, seen, IsLater, Grown, none_text}

-- ---- texts by number

-- a number's text stays
pub text_kept : (texts final : Texts) (id : TextId) (v : Text) → slice_get texts id.0 ≡ Some v → IsLater texts final → text_in final id ≡ v
text_kept texts final id v e k = by texts final id.0 e k
  where
    by : (ts fs : Texts) (n : ℕ) → slice_get ts n ≡ Some v → take (length ts) fs ≡ ts → slice_index_or fs n [] ≡ v
    by [] fs n e k = cc
    by (t ∷ ts) [] n e k = cc
    by (t ∷ ts) (f ∷ fs) zero e k =
        let same : f ≡ t = cc in
        let given : t ≡ v = cc in
        same ∙ given
    by (t ∷ ts) (f ∷ fs) (suc n) e k = by ts fs n e (let tails : take (length ts) fs ≡ ts = cc in tails)

pub later_self : (texts : Texts) → IsLater texts texts
later_self [] = refl
later_self (t ∷ ts) = ap (λ z. t ∷ z) (later_self ts)

pub later_later : (a b c : Texts) → IsLater a b → IsLater b c → IsLater a c
later_later [] b c h k = refl
later_later (x ∷ xs) [] c h k = cc
later_later (x ∷ xs) (y ∷ ys) [] h k = cc
later_later (x ∷ xs) (y ∷ ys) (z ∷ zs) h k =
    let one : y ≡ x = cc in
    let two : z ≡ y = cc in
    let firsts : take (length xs) ys ≡ xs = cc in
    let seconds : take (length ys) zs ≡ ys = cc in
    let rest : take (length xs) zs ≡ xs = later_later xs ys zs firsts seconds in
    let head : z ≡ x = two ∙ one in
    cc

-- ---- leaves

nodes_of_leaf : (l : Label Text) (s : Spine Text) → (with_leaf l s).nodes ≡ leaf l s.nodes
nodes_of_leaf l s = by s.nodes
  where
    by : (os : Nodes) → (put_in (Branch l no_more) s.root os).nodes ≡ leaf l os
    by [] = refl
    by (o ∷ os) = refl

pub leaf_seen : (texts : Texts) (l : Label TextId) (s : Spine TextId) → seen texts (with_leaf l s) ≡ leaf (label_with (text_in texts) l) (seen texts s)
leaf_seen texts l s =
    ap (λ (z : Spine Text). z.nodes) (leaf-with (text_in texts) l s) ∙ nodes_of_leaf (label_with (text_in texts) l) (spine_with (text_in texts) s)

pub leaf_grown : (l : Label TextId) (s : Spine TextId) → is_some_open s.nodes ≡ true → s.root ≡ None → Grown 1 s (with_leaf l s)
leaf_grown l s h none = record { root = at_root s.nodes h; depth = depth s.nodes h; rows = rows-leaf l s none }
  where
    at_root : (os : List (Open TextId)) → is_some_open os ≡ true → (put_in (Branch l no_more) s.root os).root ≡ None
    at_root [] h = absurd (true≢false (sym h))
    at_root (o ∷ os) h = none

    depth : (os : List (Open TextId)) → is_some_open os ≡ true → length (put_in (Branch l no_more) s.root os).nodes ≡ length os
    depth [] h = absurd (true≢false (sym h))
    depth (o ∷ os) h = refl

ends_as : (ts : List (Tree TextId)) (t : Tree TextId) → ends_in_text (ts ++ t ∷ []) ≡ is_text (Rattle.doc_table.specs.Tree.root_of t)
ends_as [] t = refl
ends_as (u ∷ []) t = refl
ends_as (u ∷ v ∷ ts) t = ends_as (v ∷ ts) t

-- the last child is what was put in
pub last_put : (t : Tree TextId) (root : Option (Tree TextId)) (os : List (Open TextId)) → is_text (Rattle.doc_table.specs.Tree.root_of t) ≡ false → text_last (put_in t root os).nodes ≡ false
last_put t root [] e = refl
last_put t root (o ∷ os) e = ends_as o.done t ∙ e

-- what is put in opens nothing
pub put_tags : (t : Tree TextId) (root : Option (Tree TextId)) (os : List (Open TextId)) → none_text (put_in t root os).nodes ≡ none_text os
put_tags t root [] = refl
put_tags t root (o ∷ os) = refl

pub comment_seen : (texts final : Texts) (s new : Spine TextId) (id : TextId) (v : Text) → new ≡ with_leaf (OfComment id) s → slice_get texts id.0 ≡ Some v → IsLater texts final
    → seen final new ≡ leaf (OfComment v) (seen final s)
comment_seen texts final s new id v e g k =
    ap (seen final) e ∙ leaf_seen final (OfComment id) s ∙ ap (λ z. leaf (OfComment z) (seen final s)) (text_kept texts final id v g k)

pub text_seen : (texts final : Texts) (s new : Spine TextId) (id : TextId) (v : Text) → new ≡ with_leaf (OfText id) s → slice_get texts id.0 ≡ Some v → IsLater texts final
    → seen final new ≡ leaf (OfText v) (seen final s)
text_seen texts final s new id v e g k =
    ap (seen final) e ∙ leaf_seen final (OfText id) s ∙ ap (λ z. leaf (OfText z) (seen final s)) (text_kept texts final id v g k)

pub instruction_seen : (texts later final : Texts) (s new : Spine TextId) (id jd : TextId) (n v : Text) → new ≡ with_leaf (OfInstruction id jd) s → slice_get texts id.0 ≡ Some n → IsLater texts later → slice_get later jd.0 ≡ Some v → IsLater later final
    → seen final new ≡ leaf (OfInstruction n v) (seen final s)
instruction_seen texts later final s new id jd n v e g k h m =
    ap (seen final) e ∙ leaf_seen final (OfInstruction id jd) s
    ∙ ap (λ z. leaf (OfInstruction z (text_in final jd)) (seen final s)) (text_kept texts final id n g (later_later texts later final k m))
    ∙ ap (λ z. leaf (OfInstruction n z) (seen final s)) (text_kept later final jd v h m)

-- ---- elements

pub open_seen : (texts final : Texts) (s new : Spine TextId) (id : TextId) (n : Text) → new ≡ opened (OfElement id []) s → slice_get texts id.0 ≡ Some n → IsLater texts final
    → seen final new ≡ open_node (OfElement n []) (seen final s)
open_seen texts final s new id n e g k = ap (seen final) e ∙ ap (λ z. open_node (OfElement z []) (seen final s)) (text_kept texts final id n g k)

nodes_of_closed : (s : Spine Text) → (closed s).nodes ≡ close_node s.nodes
nodes_of_closed s = by s.nodes
  where
    by : (os : Nodes) → (close_in s.root os).nodes ≡ close_node os
    by [] = refl
    by (o ∷ []) = refl
    by (o ∷ p ∷ os) = refl

pub closed_seen : (texts : Texts) (s : Spine TextId) → seen texts (closed s) ≡ close_node (seen texts s)
closed_seen texts s = ap (λ (z : Spine Text). z.nodes) (closed-with (text_in texts) s) ∙ nodes_of_closed (spine_with (text_in texts) s)

-- the innermost open element with one attribute more
abbrev pub attribute_node : Text → Text → Nodes → Nodes
attribute_node n v os = attribute_in n v os

pub attribute_seen : (texts : Texts) (n v : TextId) (s : Spine TextId) → seen texts (with_attribute n v s) ≡ attribute_node (text_in texts n) (text_in texts v) (seen texts s)
attribute_seen texts n v s = ap (λ (z : Spine Text). z.nodes) (attribute-with (text_in texts) n v s)
