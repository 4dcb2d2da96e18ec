-- The documents of a store: their roots, and what a search by name gives.
use Rattle.std.proofs.Common.{◌≡◌, ℕ, zero, suc, ◌+◌, ◌<◌, true, false, cond, List, [], ◌∷◌, length, map, Option, Some, None, refl, sym, ap, ◌∙◌, subst, arith, inl, inr}
use Rattle.std.specs.Prelude.{slice_get, option_map}
use Rattle.std.proofs.lemmas.Bool.{and_parts, false_from_ne_true, false≢true}
use Rattle.std.proofs.lemmas.Option.{slice_get-map, slice_get-get_or}
use Rattle.xq_base.specs.declared.code.Code.TheVariants as c
use Rattle.xq_base.specs.declared.item.TextId.{TextId}
use Rattle.xq_base.specs.declared.item.FragKey.TheVariants as f
use Rattle.xq_base.specs.declared.item.NodeRef.{NodeRef}
use Rattle.xq_base.specs.declared.item.Item.TheVariants as i
use Rattle.xq_base.specs.Answers.{Value, Fault}
use Rattle.xq_base.specs.Distinct.{Holds, AllDiffer}
use Rattle.xq_base.specs.Pool.{NoRepeats}
use Rattle.xq_base.specs.Texts.{Text, text_eq}
use Rattle.xq_base.proofs.Distinct.{Holds-at}
use Rattle.doc_table.specs.Tree.{OfDocument, OfElement, OfAttribute, OfText, OfComment, OfInstruction, Tree, Branch, root_of, text_in, with_texts, tree_with}
use Rattle.doc_table.specs.Axes.{id_eq}
use Rattle.doc_table.specs.Spine.{is_empty_id}
use Rattle.doc_table.specs.Sound.{is_sound}
use Rattle.doc_table.specs.Places.{node_at}
use Rattle.doc_table.specs.Identity.{Node, DocTree, node_of}
use Rattle.doc_table.specs.Items.{NodeItem}
use Rattle.doc_table.specs.Kept.{root_or}
use Rattle.doc_table.specs.DocumentTrees.{has_document_form}
use Rattle.doc_table.specs.Stores.{Holdings, AreGiven, FindsDoc, AllDocuments, names_of, tree_of_doc}
use Rattle.doc_table.specs.StoredItems.{trees_of, meanings, IsNodeOf, ItemsGiven}
use Rattle.doc_table.specs.NodeRules.{Docs, doc_named}
use Rattle.doc_table.specs.Documents.{document_in, documents_in, document_node, HaveRoots}
use Rattle.doc_table.proofs.Finds.{KeptDocs}
use Rattle.doc_table.proofs.GivenLaws.{document_named}
use Rattle.doc_table.proofs.TextTests.{text-refl, text-sound}

-- ---- roots

module _ {T : Type 0} where
  pub form_root : (t : Tree T) → has_document_form t ≡ true → root_of t ≡ OfDocument
  form_root (Branch OfDocument ts) e = refl
  form_root (Branch (OfElement n as') ts) e = absurd (false≢true e)
  form_root (Branch (OfAttribute n v) ts) e = absurd (false≢true e)
  form_root (Branch (OfText v) ts) e = absurd (false≢true e)
  form_root (Branch (OfComment v) ts) e = absurd (false≢true e)
  form_root (Branch (OfInstruction n v) ts) e = absurd (false≢true e)

pub have_roots : (h : Holdings) → AllDocuments h → HaveRoots h
have_roots h a n d e = form_root d.1 (and_parts (is_sound id_eq is_empty_id d.1) (has_document_form d.1) (a n d e)).1

-- ---- the reference to a document's node

abbrev pub root_ref : ℕ → NodeRef
root_ref n = record { frag = f.Doc n; pre = 0; attr = 0 }

-- the store has this node
pub root_given : (texts : List Text) (h : Holdings) (n : ℕ) (d : TextId × Tree TextId) → HaveRoots h → slice_get h.docs n ≡ Some d → ItemsGiven texts h (i.Node (root_ref n) ∷ [])
root_given texts h n d r e = (subst (IsNodeOf h (root_ref n)) (sym (ap tree_of_doc e)) (document_named d.1 (r n d e)), tt)

root_path : (texts : List Text) (t : Tree TextId) → root_of t ≡ OfDocument → node_at (with_texts texts t) (record { pre = 0; attr = 0 }) ≡ record { steps = []; attr = 0 }
root_path texts (Branch l ts) e = let q : l ≡ OfDocument = e in rw q refl

root_is : (texts : List Text) (h : Holdings) (n : ℕ) (d : TextId × Tree TextId) → root_of d.1 ≡ OfDocument → slice_get h.docs n ≡ Some d → node_of (λ key. tree_with (text_in texts) (trees_of h key)) (root_ref n) ≡ document_node n (with_texts texts d.1)
root_is texts h n d r e =
    let t : trees_of h (f.Doc n) ≡ d.1 = ap root_or (ap tree_of_doc e) in
    ap (λ z. record { id = DocTree n; tree = tree_with (text_in texts) z; path = node_at (tree_with (text_in texts) z) (record { pre = 0; attr = 0 }) }) t
    ∙ ap (λ z. record { id = DocTree n; tree = with_texts texts d.1; path = z }) (root_path texts d.1 r)

-- it stands for the node of the document
pub root_meaning : (texts : List Text) (h : Holdings) (n : ℕ) (d : TextId × Tree TextId) → HaveRoots h → slice_get h.docs n ≡ Some d → meanings texts h (i.Node (root_ref n) ∷ []) ≡ NodeItem (document_node n (with_texts texts d.1)) ∷ []
root_meaning texts h n d r e = ap (λ z. NodeItem z ∷ []) (root_is texts h n d (r n d e) e)

-- ---- names

same_id : (m n : TextId) → m.0 ≡ n.0 → m ≡ n
same_id m n e = ap (λ k. record { 0 = k }) e

-- the texts of two numbers differ where the numbers do
held_text : (texts : List Text) (docs : KeptDocs) (id : TextId) → NoRepeats texts → AreGiven texts docs → id.0 < length texts → Holds (map (λ d. d.0) (map (document_in texts) docs)) (text_in texts id) → Holds (names_of docs) id
held_text texts [] id n g l h = h
held_text texts (d ∷ docs) id n g l (inl e) = inl (same_id d.0 id (n d.0.0 id.0 (text_in texts id) (slice_get-get_or texts d.0.0 [] g.0 ∙ ap Some e) (slice_get-get_or texts id.0 [] l)))
held_text texts (d ∷ docs) id n g l (inr h) = inr (held_text texts docs id n g.1 l h)

texts_differ : (texts : List Text) (docs : KeptDocs) → NoRepeats texts → AreGiven texts docs → AllDiffer (names_of docs) → AllDiffer (map (λ d. d.0) (map (document_in texts) docs))
texts_differ texts [] n g a = tt
texts_differ texts (d ∷ docs) n g a = (λ h. a.0 (held_text texts docs d.0 n g.1 g.0 h), texts_differ texts docs n g.1 a.1)

-- the names of the documents differ as texts too
pub documents_differ : (texts : List Text) (h : Holdings) → NoRepeats texts → AreGiven texts h.docs → AllDiffer (names_of h.docs) → AllDiffer (map (λ d. d.0) (documents_in texts h))
documents_differ texts h n g a = texts_differ texts h.docs n g a

some_same : {A : Type 0} (a b : A) → Some a ≡ Some b → a ≡ b
some_same a b e = cc

holds_name : (docs : Docs) (n : ℕ) (name : Text) (tree : Tree Text) → slice_get docs n ≡ Some (name, tree) → Holds (map (λ d. d.0) docs) name
holds_name docs n name tree e = Holds-at (map (λ d. d.0) docs) n name (slice_get-map (λ (d : Text × Tree Text). d.0) docs n ∙ ap (option_map (λ (d : Text × Tree Text). d.0)) e)

-- the document of a name is the only one, so that a search finds it
pub named_found : (docs : Docs) (k n : ℕ) (name : Text) (tree : Tree Text) → AllDiffer (map (λ d. d.0) docs) → slice_get docs n ≡ Some (name, tree) → doc_named docs k name ≡ Value (NodeItem (document_node (k + n) tree) ∷ [])
named_found [] k n name tree a e = cc
named_found (d ∷ docs) k zero name tree a e =
    let p : d ≡ (name, tree) = some_same d (name, tree) e in
    let z : k + 0 ≡ k = omega arith in
    ap (λ (x : Text × Tree Text). cond (text_eq x.0 name) (Value (NodeItem (document_node k x.1) ∷ [])) (doc_named docs (k + 1) name)) p
    ∙ ap (λ b. cond b (Value (NodeItem (document_node k tree) ∷ [])) (doc_named docs (k + 1) name)) (text-refl name)
    ∙ ap (λ m. Value (NodeItem (document_node m tree) ∷ [])) (sym z)
named_found (d ∷ docs) k (suc n) name tree a e =
    let other : text_eq d.0 name ≡ false = false_from_ne_true (text_eq d.0 name) (λ q. a.0 (subst (Holds (map (λ d. d.0) docs)) (sym (text-sound d.0 name q)) (holds_name docs n name tree e))) in
    let z : (k + 1) + n ≡ k + suc n = omega arith in
    ap (λ b. cond b (Value (NodeItem (document_node k d.1) ∷ [])) (doc_named docs (k + 1) name)) other
    ∙ named_found docs (k + 1) n name tree a.1 e
    ∙ ap (λ m. Value (NodeItem (document_node m tree) ∷ [])) z

pub named_missing : (docs : Docs) (k : ℕ) (name : Text) → ((n : ℕ) (d : Text × Tree Text) → slice_get docs n ≡ Some d → d.0 ≡ name → ⊥) → doc_named docs k name ≡ Fault c.FODC0002
named_missing [] k name a = refl
named_missing (d ∷ docs) k name a =
    let other : text_eq d.0 name ≡ false = false_from_ne_true (text_eq d.0 name) (λ q. a 0 d refl (text-sound d.0 name q)) in
    ap (λ b. cond b (Value (NodeItem (document_node k d.1) ∷ [])) (doc_named docs (k + 1) name)) other
    ∙ named_missing docs (k + 1) name (λ n. a (suc n))

-- a search among the kept documents gives what a search among those over texts gives
pub found_document : (texts : List Text) (h : Holdings) (name : Text) (n : ℕ) → NoRepeats texts → AreGiven texts h.docs → AllDiffer (names_of h.docs) → (d : TextId × Tree TextId) → slice_get h.docs n ≡ Some d → text_in texts d.0 ≡ name → doc_named (documents_in texts h) 0 name ≡ Value (NodeItem (document_node n (with_texts texts d.1)) ∷ [])
found_document texts h name n r g a d e q =
    let z : 0 + n ≡ n = omega arith in
    named_found (documents_in texts h) 0 n name (with_texts texts d.1) (documents_differ texts h r g a) (slice_get-map (document_in texts) h.docs n ∙ ap (option_map (document_in texts)) e ∙ ap (λ t. Some (t, with_texts texts d.1)) q)
    ∙ ap (λ m. Value (NodeItem (document_node m (with_texts texts d.1)) ∷ [])) z

pub missing_document : (texts : List Text) (h : Holdings) (name : Text) → FindsDoc texts h.docs name None → doc_named (documents_in texts h) 0 name ≡ Fault c.FODC0002
missing_document texts h name a = named_missing (documents_in texts h) 0 name (λ n d e q. by n d q (slice_get h.docs n) refl (sym (slice_get-map (document_in texts) h.docs n) ∙ e))
  where
    by : (n : ℕ) (d : Text × Tree Text) → d.0 ≡ name → (o : Option (TextId × Tree TextId)) → slice_get h.docs n ≡ o → option_map (document_in texts) (slice_get h.docs n) ≡ Some d → ⊥
    by n d q None s e = let x : ◌≡◌ {A = Option (Text × Tree Text)} None (Some d) = sym (ap (option_map (document_in texts)) s) ∙ e in none_some d x
      where
        none_some : {A : Type 0} (a : A) → ◌≡◌ {A = Option A} None (Some a) → ⊥
        none_some a e = cc
    by n d q (Some k) s e = a n k s (ap (λ (z : Text × Tree Text). z.0) (some_same (document_in texts k) d (sym (ap (option_map (document_in texts)) s) ∙ e)) ∙ q)
