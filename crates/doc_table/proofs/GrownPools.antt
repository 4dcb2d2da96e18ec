-- A pool that grows keeps the texts of the trees whose numbers it gave.
use Rattle.std.proofs.Common.{◌≡◌, ◌+◌, ℕ, zero, suc, true, ◌&&◌, List, [], ◌∷◌, length, map, take, Option, Some, None, refl, sym, ap, ◌∙◌, arith}
use Rattle.std.proofs.lemmas.Bool.{lt-ltb, ltb-true, and_parts}
use Rattle.std.proofs.lemmas.List.{get_or-take, length-take}
use Rattle.std.proofs.lemmas.List.Folds.{list_all-append}
use Rattle.std.specs.Prelude.{slice_get, slice_index_or}
use Rattle.std.specs.List.{list_all}
use Rattle.xq_base.specs.declared.item.NodeRef.{NodeRef}
use Rattle.xq_base.specs.declared.item.Item.{Item as Held}
use Rattle.xq_base.specs.declared.item.Item.TheVariants as i
use Rattle.xq_base.specs.declared.item.TextId.{TextId}
use Rattle.xq_base.specs.Texts.{Text}
use Rattle.doc_table.specs.Tree.{Label, OfDocument, OfElement, OfAttribute, OfText, OfComment, OfInstruction, Tree, Forest, Branch, no_more, one_more, pair_with, label_with, tree_with, forest_with, text_in, with_texts}
use Rattle.doc_table.specs.Enc.{line_of, row_name, row_value, row_attributes, enc_at, encs_at}
use Rattle.doc_table.specs.Given.{is_given, option_given, pair_given, line_given, tree_given, trees_given}
use Rattle.doc_table.specs.Places.{node_at}
use Rattle.doc_table.specs.Identity.{id_of_key, place_of}
use Rattle.doc_table.specs.Items.{TextItem, UntypedItem, NodeItem, item_of}
use Rattle.doc_table.specs.OtherTexts.{Grows, GrownPoolKeeps}
use Rattle.doc_table.specs.Kept.{root_or}
use Rattle.doc_table.specs.Stores.{Holdings, AreGiven, tree_at}
use Rattle.doc_table.specs.StoredItems.{trees_of, meanings, IsNodeOf, ItemGiven, ItemsGiven}
use Rattle.doc_table.specs.Documents.{document_in}
use Rattle.doc_table.proofs.Finds.{under-key}

number_kept : (old new : List Text) (n : ℕ) (text : Text) → slice_get old n ≡ Some text → Grows old new → slice_get new n ≡ Some text
number_kept [] new n text e k = cc
number_kept (t ∷ ts) [] n text e k = cc
number_kept (t ∷ ts) (f ∷ fs) zero text e k = let same : f ≡ t = cc in ap Some same ∙ e
number_kept (t ∷ ts) (f ∷ fs) (suc n) text e k = number_kept ts fs n text e (let tails : take (length ts) fs ≡ ts = cc in tails)

-- the numbers of one node
pub record LabelGiven (n : ℕ) (l : Label TextId) : Type 0 where
  pub name : option_given n (row_name l) ≡ true
  pub value : option_given n (row_value l) ≡ true
  pub attributes : list_all (pair_given n) (row_attributes l) ≡ true

pub label_parts : (n : ℕ) (l : Label TextId) (size level : ℕ) → line_given n (line_of l size level) ≡ true → LabelGiven n l
label_parts n l size level h =
    let p = and_parts (option_given n (row_name l) && option_given n (row_value l)) (list_all (pair_given n) (row_attributes l)) h in
    let q = and_parts (option_given n (row_name l)) (option_given n (row_value l)) p.0 in
    record { name = q.0; value = q.1; attributes = p.1 }

module _ (old new : List Text) (grows : Grows old new) where
  id_same : (id : TextId) → is_given (length old) id ≡ true → text_in new id ≡ text_in old id
  id_same id h = sym (get_or-take (length old) new id.0 [] (ltb-true id.0 (length old) h)) ∙ ap (λ z. slice_index_or z id.0 []) grows

  pairs_same : (as' : List (TextId × TextId)) → list_all (pair_given (length old)) as' ≡ true → map (pair_with (text_in new)) as' ≡ map (pair_with (text_in old)) as'
  pairs_same [] h = refl
  pairs_same (a ∷ as') h =
      let p = and_parts (pair_given (length old) a) (list_all (pair_given (length old)) as') h in
      let q = and_parts (is_given (length old) a.0) (is_given (length old) a.1) p.0 in
      rw (id_same a.0 q.0, id_same a.1 q.1, pairs_same as' p.1) refl

  label_same : (l : Label TextId) → LabelGiven (length old) l → label_with (text_in new) l ≡ label_with (text_in old) l
  label_same OfDocument g = refl
  label_same (OfElement n as') g = rw (id_same n g.name, pairs_same as' g.attributes) refl
  label_same (OfAttribute n v) g =
      let p = and_parts (pair_given (length old) (n, v)) true g.attributes in
      let q = and_parts (is_given (length old) n) (is_given (length old) v) p.0 in
      rw (id_same n q.0, id_same v q.1) refl
  label_same (OfText v) g = rw (id_same v g.value) refl
  label_same (OfComment v) g = rw (id_same v g.value) refl
  label_same (OfInstruction n v) g = rw (id_same n g.name, id_same v g.value) refl

  mutual
    lines_same : (level : ℕ) (t : Tree TextId) → list_all (line_given (length old)) (enc_at level t) ≡ true → tree_with (text_in new) t ≡ tree_with (text_in old) t
    lines_same level (Branch l f) h =
        let p = and_parts (line_given (length old) (line_of l (length (encs_at (level + 1) f)) level)) (list_all (line_given (length old)) (encs_at (level + 1) f)) h in
        rw (label_same l (label_parts (length old) l (length (encs_at (level + 1) f)) level p.0), forest_same (level + 1) f p.1) refl

    forest_same : (level : ℕ) (ts : Forest TextId) → list_all (line_given (length old)) (encs_at level ts) ≡ true → forest_with (text_in new) ts ≡ forest_with (text_in old) ts
    forest_same level no_more h = refl
    forest_same level (one_more t ts) h =
        let p = and_parts (list_all (line_given (length old)) (enc_at level t)) (list_all (line_given (length old)) (encs_at level ts)) (sym (list_all-append (line_given (length old)) (enc_at level t) (encs_at level ts)) ∙ h) in
        rw (lines_same level t p.0, forest_same level ts p.1) refl

  tree_same : (t : Tree TextId) → tree_given (length old) t ≡ true → with_texts new t ≡ with_texts old t
  tree_same t h = lines_same 0 t h

  documents_same : (docs : List (TextId × Tree TextId)) → AreGiven old docs → list_all (λ d. tree_given (length old) d.1) docs ≡ true → map (document_in new) docs ≡ map (document_in old) docs
  documents_same [] a h = refl
  documents_same (d ∷ docs) a h =
      let p = and_parts (tree_given (length old) d.1) (list_all (λ d. tree_given (length old) d.1) docs) h in
      ap (λ t. (t, with_texts new d.1) ∷ map (document_in new) docs) (id_same d.0 (lt-ltb d.0.0 (length old) a.0))
      ∙ ap (λ t. (text_in old d.0, t) ∷ map (document_in new) docs) (tree_same d.1 p.0)
      ∙ ap (λ z. document_in old d ∷ z) (documents_same docs a.1 p.1)

  module _ (h : Holdings) (given : trees_given (length old) h ≡ true) where
    -- the tree under the key of a reference to a node
    under_same : (r : NodeRef) → IsNodeOf h r (tree_at h r.frag) → with_texts new (trees_of h r.frag) ≡ with_texts old (trees_of h r.frag)
    under_same r g = at (tree_at h r.frag) refl g
      where
        at : (o : Option (Tree TextId)) → tree_at h r.frag ≡ o → IsNodeOf h r o → with_texts new (root_or o) ≡ with_texts old (root_or o)
        at None e k = absurd k
        at (Some t) e k =
            let p = and_parts (list_all (λ d. tree_given (length old) d.1) h.docs) (list_all (λ b. tree_given (length old) b.1) h.built) given in
            tree_same t (under-key (tree_given (length old)) h r.frag t p.0 p.1 e)

    item_same : (item : Held) → ItemGiven old h item → item_of new (trees_of h) item ≡ item_of old (trees_of h) item
    item_same (i.Int z) g = refl
    item_same (i.Str id) g = ap TextItem (id_same id g)
    item_same (i.Untyped id) g = ap UntypedItem (id_same id g)
    item_same (i.Bool b) g = refl
    item_same (i.Node r) g =
        ap (λ t. NodeItem (record { id = id_of_key r.frag; tree = t; path = node_at (with_texts new (trees_of h r.frag)) (place_of r) })) (under_same r g)
        ∙ ap (λ t. NodeItem (record { id = id_of_key r.frag; tree = with_texts old (trees_of h r.frag); path = node_at t (place_of r) })) (under_same r g)

    items_same : (held : List Held) → ItemsGiven old h held → meanings new h held ≡ meanings old h held
    items_same [] g = refl
    items_same (x ∷ xs) g = ap (λ z. z ∷ meanings new h xs) (item_same x g.0) ∙ ap (λ z. item_of old (trees_of h) x ∷ z) (items_same xs g.1)

pub grown_pool_keeps : GrownPoolKeeps
grown_pool_keeps old new grows = record {
  longer = omega (arith, ap length (sym grows), length-take (length old) new);
  numbers = λ n text e. number_kept old new n text e grows;
  texts = id_same old new grows;
  trees = tree_same old new grows;
  documents = λ h a g. documents_same old new grows h.docs a (and_parts (list_all (λ d. tree_given (length old) d.1) h.docs) (list_all (λ b. tree_given (length old) b.1) h.built) g).0;
  items = λ h held g k. items_same old new grows h g held k;
}
