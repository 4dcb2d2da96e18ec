-- A pool that grew: numbers that were given, trees and items over them keep their texts.
use Rattle.std.proofs.Common.{◌≡◌, ◌<◌, ℕ, zero, suc, Bool, true, ◌&&◌, List, [], ◌∷◌, ◌++◌, ◌+◌, length, take, map, Option, Some, None, refl, sym, ap, ◌∙◌, arith}
use Rattle.std.proofs.lemmas.Bool.{ltb-true, and_parts}
use Rattle.std.proofs.lemmas.List.Folds.{list_all-append}
use Rattle.std.specs.Prelude.{slice_index_or}
use Rattle.std.specs.List.{list_all}
use Rattle.xq_base.specs.declared.item.TextId.{TextId}
use Rattle.xq_base.specs.declared.item.FragKey.{FragKey}
use Rattle.xq_base.specs.declared.item.Item.{Item as Held}
use Rattle.xq_base.specs.declared.item.Item.TheVariants as i
use Rattle.xq_base.specs.declared.item.NodeRef.{NodeRef}
use Rattle.xq_base.specs.Texts.{Text}
use Rattle.doc_table.specs.Tree.{Label, OfDocument, OfElement, OfAttribute, OfText, OfComment, OfInstruction, Tree, Forest, Branch, no_more, one_more, pair_with, label_with, tree_with, forest_with, text_in, with_texts}
use Rattle.doc_table.specs.Enc.{Line, line_of, enc_at, encs_at, enc}
use Rattle.doc_table.specs.Identity.{Node, node_of, place_of, id_of_key}
use Rattle.doc_table.specs.Places.{node_at}
use Rattle.doc_table.specs.Items.{Item, item_of, NodeItem}
use Rattle.doc_table.specs.Kept.{root_or}
use Rattle.doc_table.specs.Stores.{Holdings, tree_at}
use Rattle.doc_table.specs.Given.{is_given, option_given, pair_given, line_given, tree_given, trees_given}
use Rattle.doc_table.specs.StoredItems.{trees_of, IsNodeOf, ItemGiven}
use Rattle.doc_table.proofs.Finds.{under-key}

heads : {A : Type 0} {a b : A} {as' bs : List A} → a ∷ as' ≡ b ∷ bs → a ≡ b
heads h = cc

tails : {A : Type 0} {a b : A} {as' bs : List A} → a ∷ as' ≡ b ∷ bs → as' ≡ bs
tails h = cc

at-later : (old new : List Text) (k : ℕ) → take (length old) new ≡ old → k < length old → slice_index_or new k [] ≡ slice_index_or old k []
at-later [] new k e l = absurd (omega arith)
at-later (x ∷ xs) [] k e l = cc
at-later (x ∷ xs) (y ∷ ys) zero e l = heads e
at-later (x ∷ xs) (y ∷ ys) (suc k) e l = at-later xs ys k (tails e) (omega arith)

module _ (old new : List Text) (later : take (length old) new ≡ old) where
  pub text-later : (id : TextId) → is_given (length old) id ≡ true → text_in new id ≡ text_in old id
  text-later id g = at-later old new id.0 later (ltb-true id.0 (length old) g)

  pairs-later : (as' : List (TextId × TextId)) → list_all (pair_given (length old)) as' ≡ true → map (pair_with (text_in new)) as' ≡ map (pair_with (text_in old)) as'
  pairs-later [] g = refl
  pairs-later (a ∷ as') g =
      let p = and_parts (pair_given (length old) a) (list_all (pair_given (length old)) as') g in
      let q = and_parts (is_given (length old) a.0) (is_given (length old) a.1) p.0 in
      let rest = pairs-later as' p.1 in
      let first = text-later a.0 q.0 in
      let second = text-later a.1 q.1 in
      grind (arith, first, second, rest)

  label-later : (l : Label TextId) (size level : ℕ) → line_given (length old) (line_of l size level) ≡ true → label_with (text_in new) l ≡ label_with (text_in old) l
  label-later OfDocument size level g = refl
  label-later (OfElement n as') size level g =
      let p = and_parts (is_given (length old) n && true) (list_all (pair_given (length old)) as') g in
      let q = and_parts (is_given (length old) n) true p.0 in
      ap (λ z. OfElement z (map (pair_with (text_in new)) as')) (text-later n q.0) ∙ ap (λ z. OfElement (text_in old n) z) (pairs-later as' p.1)
  label-later (OfAttribute n v) size level g =
      let p = and_parts (pair_given (length old) (n, v)) true g in
      let q = and_parts (is_given (length old) n) (is_given (length old) v) p.0 in
      ap (λ z. OfAttribute z (text_in new v)) (text-later n q.0) ∙ ap (λ z. OfAttribute (text_in old n) z) (text-later v q.1)
  label-later (OfText v) size level g =
      let p = and_parts (is_given (length old) v) true g in
      ap (λ z. OfText z) (text-later v p.0)
  label-later (OfComment v) size level g =
      let p = and_parts (is_given (length old) v) true g in
      ap (λ z. OfComment z) (text-later v p.0)
  label-later (OfInstruction n v) size level g =
      let p = and_parts (is_given (length old) n && is_given (length old) v) true g in
      let q = and_parts (is_given (length old) n) (is_given (length old) v) p.0 in
      ap (λ z. OfInstruction z (text_in new v)) (text-later n q.0) ∙ ap (λ z. OfInstruction (text_in old n) z) (text-later v q.1)

  given-split : (xs ys : List (Line TextId)) → list_all (line_given (length old)) (xs ++ ys) ≡ true → (list_all (line_given (length old)) xs ≡ true) × (list_all (line_given (length old)) ys ≡ true)
  given-split xs ys g = and_parts (list_all (line_given (length old)) xs) (list_all (line_given (length old)) ys) (sym (list_all-append (line_given (length old)) xs ys) ∙ g)

  mutual
    tree-by : (level : ℕ) (t : Tree TextId) → list_all (line_given (length old)) (enc_at level t) ≡ true → with_texts new t ≡ with_texts old t
    tree-by level (Branch l f) g =
        let p = and_parts (line_given (length old) (line_of l (length (encs_at (level + 1) f)) level)) (list_all (line_given (length old)) (encs_at (level + 1) f)) g in
        ap (λ z. Branch z (forest_with (text_in new) f)) (label-later l (length (encs_at (level + 1) f)) level p.0) ∙ ap (λ z. Branch (label_with (text_in old) l) z) (forest-by (level + 1) f p.1)

    forest-by : (level : ℕ) (f : Forest TextId) → list_all (line_given (length old)) (encs_at level f) ≡ true → forest_with (text_in new) f ≡ forest_with (text_in old) f
    forest-by level no_more g = refl
    forest-by level (one_more t ts) g =
        let p = given-split (enc_at level t) (encs_at level ts) g in
        ap (λ z. one_more z (forest_with (text_in new) ts)) (tree-by level t p.0) ∙ ap (λ z. one_more (with_texts old t) z) (forest-by level ts p.1)

  pub tree-later : (t : Tree TextId) → tree_given (length old) t ≡ true → with_texts new t ≡ with_texts old t
  tree-later t g = tree-by 0 t g

  tree-under : (h : Holdings) (key : FragKey) (r : NodeRef) → trees_given (length old) h ≡ true → IsNodeOf h r (tree_at h key) → tree_given (length old) (root_or (tree_at h key)) ≡ true
  tree-under h key r g n = by (tree_at h key) refl n
    where
      by : (o : Option (Tree TextId)) → tree_at h key ≡ o → IsNodeOf h r o → tree_given (length old) (root_or (tree_at h key)) ≡ true
      by None e m = absurd m
      by (Some t) e m =
          let p = and_parts (list_all (λ d. tree_given (length old) d.1) h.docs) (list_all (λ b. tree_given (length old) b.1) h.built) g in
          ap (λ o. tree_given (length old) (root_or o)) e ∙ under-key (tree_given (length old)) h key t p.0 p.1 e

  -- what stands for an item stays
  pub item-later : (h : Holdings) (x : Held) → trees_given (length old) h ≡ true → ItemGiven old h x → item_of new (trees_of h) x ≡ item_of old (trees_of h) x
  item-later h (i.Int n) g k = refl
  item-later h (i.Str id) g k = ap (λ z. Rattle.doc_table.specs.Items.TextItem z) (text-later id k)
  item-later h (i.Untyped id) g k = ap (λ z. Rattle.doc_table.specs.Items.UntypedItem z) (text-later id k)
  item-later h (i.Bool b) g k = refl
  item-later h (i.Node r) g k =
      ap (λ (z : Tree Text). NodeItem (record { id = id_of_key r.frag; tree = z; path = node_at z (place_of r) })) (tree-later (trees_of h r.frag) (tree-under h r.frag r g k))
