-- The tree that the grammar gives a document has the form of a document: one element and no text stand among the children
-- of the document node.
use Rattle.std.proofs.Common.{inl, inr, ◌≡◌, ◌+◌, true, false, List, [], ◌∷◌, ◌++◌, refl, sym, ap, ◌∙◌, subst, arith}
use Rattle.std.specs.Prelude.{ℕ}
use Rattle.std.proofs.lemmas.Bool.{and_from}
use Rattle.xq_base.specs.declared.item.TextId.{TextId}
use Rattle.doc_table.specs.Tree.{ElementNode, TextNode, Tree, Branch, OfDocument, OfElement, OfAttribute, OfText, OfComment, OfInstruction, root_of, kind_of, forest_of, text_in, with_texts}
use Rattle.doc_table.specs.Axes.{id_eq, kind_eq}
use Rattle.doc_table.specs.Spine.{is_empty_id}
use Rattle.doc_table.specs.Sound.{is_sound}
use Rattle.doc_table.specs.DocumentTrees.{elements_among, text_among, has_document_form, is_document_tree}
use Rattle.doc_table.proofs.DocumentTrees.{document_form_with}
use Rattle.doc_shred.specs.Rules.{IsMany}
use Rattle.doc_shred.specs.Content.{Text}
use Rattle.doc_shred.specs.Prolog as p
use Rattle.doc_shred.specs.Document as d
use Rattle.doc_shred.specs.Document.{IsDocument}

-- neither elements nor texts
abbrev AreMarkup : List (Tree Text) → Type 0
AreMarkup [] = Unit {0}
AreMarkup (t ∷ ts) = (kind_eq ElementNode (kind_of (root_of t)) ≡ false) × (kind_eq TextNode (kind_of (root_of t)) ≡ false) × AreMarkup ts

both_markup : (ts us : List (Tree Text)) → AreMarkup ts → AreMarkup us → AreMarkup (ts ++ us)
both_markup [] us a b = b
both_markup (t ∷ ts) us a b = (a.0, a.1, both_markup ts us a.2 b)

misc_markup : (from rest : List ℕ) (ts : List (Tree Text)) → p.misc from rest ts → AreMarkup ts
unfolding p.misc
misc_markup from rest ts (inl i) = subst AreMarkup i.second.1 tt
misc_markup from rest ts (inr (inl i)) = subst AreMarkup i.second.1 (refl, refl, tt)
misc_markup from rest ts (inr (inr i)) = subst AreMarkup i.second.1 (refl, refl, tt)

many_markup : {from rest : List ℕ} {found : List (List (Tree Text))} → IsMany p.misc from rest found → AreMarkup (d.appended found)
many_markup IsMany.none = tt
many_markup (IsMany.more {from = from} {mid = mid} {a = a} {others = others} first i) = both_markup a (d.appended others) (misc_markup from mid a first) (many_markup i)

miscs_markup : (from rest : List ℕ) (ts : List (Tree Text)) → d.miscs from rest ts → AreMarkup ts
unfolding d.miscs
miscs_markup from rest ts i = subst AreMarkup i.second.1 (many_markup i.first)

typed_markup : (from rest : List ℕ) (ts : List (Tree Text)) → d.typed from rest ts → AreMarkup ts
unfolding d.typed
typed_markup from rest ts (inl i) = miscs_markup i.second.mid rest ts i.second.second
typed_markup from rest ts (inr i) = subst AreMarkup i.1 tt

-- what stands besides them counts
elements_after : (ts us : List (Tree Text)) → AreMarkup ts → elements_among (forest_of (ts ++ us)) ≡ elements_among (forest_of us)
elements_after [] us a = refl
elements_after (t ∷ ts) us a = let e : 0 + elements_among (forest_of (ts ++ us)) ≡ elements_among (forest_of (ts ++ us)) = omega arith in rw a.0 (e ∙ elements_after ts us a.2)

text_after : (ts us : List (Tree Text)) → AreMarkup ts → text_among (forest_of (ts ++ us)) ≡ text_among (forest_of us)
text_after [] us a = refl
text_after (t ∷ ts) us a = rw a.1 (text_after ts us a.2)

no_element : (ts : List (Tree Text)) → AreMarkup ts → elements_among (forest_of ts) ≡ 0
no_element [] a = refl
no_element (t ∷ ts) a = let e : 0 + elements_among (forest_of ts) ≡ elements_among (forest_of ts) = omega arith in rw a.0 (e ∙ no_element ts a.2)

no_text : (ts : List (Tree Text)) → AreMarkup ts → text_among (forest_of ts) ≡ false
no_text [] a = refl
no_text (t ∷ ts) a = rw a.1 (no_text ts a.2)

root_element : (from rest : List ℕ) (t : Tree Text) → d.root from rest t → (kind_eq ElementNode (kind_of (root_of t)) ≡ true) × (kind_eq TextNode (kind_of (root_of t)) ≡ false)
root_element from rest (Branch (OfElement n as') f) r = (refl, refl)
root_element from rest (Branch OfDocument f) r = absurd r
root_element from rest (Branch (OfAttribute n v) f) r = absurd r
root_element from rest (Branch (OfText v) f) r = absurd r
root_element from rest (Branch (OfComment v) f) r = absurd r
root_element from rest (Branch (OfInstruction n v) f) r = absurd r

children_form : (first second last : List (Tree Text)) (t : Tree Text) → AreMarkup first → AreMarkup second → AreMarkup last → (kind_eq ElementNode (kind_of (root_of t)) ≡ true) × (kind_eq TextNode (kind_of (root_of t)) ≡ false) → has_document_form (Branch OfDocument (forest_of (first ++ (second ++ (t ∷ last))))) ≡ true
children_form first second last t a b c k =
    let one : elements_among (forest_of (t ∷ last)) ≡ 1 = rw (k.0, no_element last c) refl in
    let none : text_among (forest_of (t ∷ last)) ≡ false = rw (k.1, no_text last c) refl in
    let elements : elements_among (forest_of (first ++ (second ++ (t ∷ last)))) ≡ 1 = elements_after first (second ++ (t ∷ last)) a ∙ elements_after second (t ∷ last) b ∙ one in
    let text : text_among (forest_of (first ++ (second ++ (t ∷ last)))) ≡ false = text_after first (second ++ (t ∷ last)) a ∙ text_after second (t ∷ last) b ∙ none in
    rw (elements, text) refl

document_form : (text : List ℕ) (kids : List (Tree Text)) → d.document text [] kids → has_document_form (Branch OfDocument (forest_of kids)) ≡ true
unfolding d.document
document_form text kids i =
    let t = i.second in
    let q = t.second in
    let l = q.second in
    subst (λ ks. has_document_form (Branch OfDocument (forest_of ks)) ≡ true) l.second.1
    (children_form i.part t.part l.part q.part (miscs_markup i.first.mid i.mid i.part i.first.second) (typed_markup i.mid t.mid t.part t.first) (miscs_markup q.mid l.mid l.part l.first) (root_element t.mid q.mid q.part q.first))

-- a sound fragment that is a document's is the tree of a document
pub document_tree : (bytes : List ℕ) (texts : List Text) (fragment : Tree TextId) → IsDocument bytes (with_texts texts fragment) → is_sound id_eq is_empty_id fragment ≡ true → is_document_tree id_eq is_empty_id fragment ≡ true
document_tree bytes texts fragment i s =
    let form : has_document_form (with_texts texts fragment) ≡ true = ap has_document_form i.1 ∙ document_form (d.text_of bytes) i.0 i.2 in
    and_from (is_sound id_eq is_empty_id fragment) (has_document_form fragment) s (sym (document_form_with (text_in texts) fragment) ∙ form)
