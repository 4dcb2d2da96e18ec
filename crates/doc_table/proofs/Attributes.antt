-- In a sound tree attributes stand apart.
use Rattle.std.proofs.Common.{◌≡◌, Bool, true, not, ◌&&◌, ◌||◌, refl}
use Rattle.std.proofs.lemmas.Bool.{and_parts, and_from}
use Rattle.doc_table.specs.Tree.{Label, OfDocument, OfElement, OfAttribute, OfText, OfComment, OfInstruction, Tree, Forest, Branch, no_more, one_more, root_of}
use Rattle.doc_table.specs.Places.{is_lone}
use Rattle.doc_table.specs.Spine.{is_text}
use Rattle.doc_table.specs.Sound.{sound_label, has_children, may_be_child, is_empty_forest, begins_with_text, is_sound, are_sound}
use Rattle.doc_table.specs.Attributes.{attributes_apart, children_apart}

module _ {T : Type 0} where
  childless : (l : Label T) (f : Forest T) (b : Bool) → (has_children l || b) ≡ true → (not (is_lone (Branch l f)) || b) ≡ true
  childless OfDocument f b e = refl
  childless (OfElement n as') f b e = refl
  childless (OfAttribute n v) f b e = e
  childless (OfText v) f b e = refl
  childless (OfComment v) f b e = refl
  childless (OfInstruction n v) f b e = refl

  no_attribute : (empty : T → Bool) (t : Tree T) → may_be_child empty (root_of t) ≡ true → not (is_lone t) ≡ true
  no_attribute empty (Branch OfDocument f) e = refl
  no_attribute empty (Branch (OfElement n as') f) e = refl
  no_attribute empty (Branch (OfAttribute n v) f) e = e
  no_attribute empty (Branch (OfText v) f) e = refl
  no_attribute empty (Branch (OfComment v) f) e = refl
  no_attribute empty (Branch (OfInstruction n v) f) e = refl

  mutual
    pub sound_apart : (eq : T → T → Bool) (empty : T → Bool) (t : Tree T) → is_sound eq empty t ≡ true → attributes_apart t ≡ true
    sound_apart eq empty (Branch l f) e =
        let p = and_parts (sound_label eq l && (has_children l || is_empty_forest f)) (are_sound eq empty f) e in
        let q = and_parts (sound_label eq l) (has_children l || is_empty_forest f) p.0 in
        and_from (not (is_lone (Branch l f)) || is_empty_forest f) (children_apart f) (childless l f (is_empty_forest f) q.1) (sound_children eq empty f p.1)

    sound_children : (eq : T → T → Bool) (empty : T → Bool) (f : Forest T) → are_sound eq empty f ≡ true → children_apart f ≡ true
    sound_children eq empty no_more e = refl
    sound_children eq empty (one_more t ts) e =
        let p = and_parts (may_be_child empty (root_of t) && not (is_text (root_of t) && begins_with_text ts) && is_sound eq empty t) (are_sound eq empty ts) e in
        let q = and_parts (may_be_child empty (root_of t) && not (is_text (root_of t) && begins_with_text ts)) (is_sound eq empty t) p.0 in
        let r = and_parts (may_be_child empty (root_of t)) (not (is_text (root_of t) && begins_with_text ts)) q.0 in
        and_from (not (is_lone t) && attributes_apart t) (children_apart ts)
        (and_from (not (is_lone t)) (attributes_apart t) (no_attribute empty t r.0) (sound_apart eq empty t q.1))
        (sound_children eq empty ts p.1)
