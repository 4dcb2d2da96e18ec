-- A store with one document more.
use Rattle.std.proofs.Common.{◌≡◌, ◌≢◌, ◌<◌, ◌≤◌, ◌+◌, ℕ, zero, suc, Bool, true, false, List, [], ◌∷◌, ◌++◌, length, take, map, get_or, string_bytes, String, Global, Option, Some, None, Result, Ok, Err, OnOk, refl, sym, ap, ◌∙◌, subst, arith, inl, inr}
use Rattle.std.specs.Prelude.{slice_get, nat_eq, slice_index_or}
use Rattle.std.specs.List.{list_all}
use Rattle.std.proofs.lemmas.Bool.{eqb-true, and_parts}
use Rattle.std.proofs.lemmas.Option.{slice_get_within, get_or_from_slice_get, slice_get-get_or}
use Rattle.std.proofs.lemmas.List.{take_more, length-take-le, map-append, get_or-map}
use Rattle.xq_base.specs.declared.item.TextId.{TextId}
use Rattle.xq_base.specs.Distinct.{Holds, AllDiffer}
use Rattle.io_edge.specs.Shelves.{Files}
use Rattle.doc_table.specs.Tree.{Tree, text_in, with_texts}
use Rattle.doc_table.specs.Given.{tree_given, trees_given}
use Rattle.doc_table.specs.Stores.{Holdings, AreGiven, has_doc, with_doc}
use Rattle.doc_table.proofs.GivenLaws.{trees_given_more, trees_given_doc, tree_given_more}
use Rattle.doc_table.proofs.Finds.{given-at}
use Rattle.doc_table.specs.OtherTexts.{Grows}
use Rattle.doc_table.specs.NodeRules.{Docs}
use Rattle.doc_table.specs.Documents.{documents_in}
use Rattle.pathfinder_run.specs.declared.status.Status.{Status}
use Rattle.pathfinder_run.specs.declared.status.Status.TheVariants as s
use Rattle.doc_shred.specs.Limits.{document_limit}
use Rattle.pathfinder_run.specs.Inputs.{IsWithin, IsGood, IsShredded, IsDocumentFile, AreDocuments, ShredFails, DocumentFails, Loaded, IsNew, HasOneMore, IsKept}
use Rattle.pathfinder_run.proofs.Texts.{not_shorter, same_text, same_tree}

abbrev pub Texts : Type 0
Texts = List (List ℕ)

abbrev pub Held : Type 0
Held = TextId × Tree TextId

abbrev told : Texts → Held → List ℕ × Tree (List ℕ)
told texts d = (text_in texts d.0, with_texts texts d.1)

some_same : {A : Type 0} (a b : A) → Some a ≡ Some b → a ≡ b
some_same a b e = cc

-- ---- refusals

pub shred_fails : (files : Option Files) (name bytes : List ℕ) (word : ℕ) (status : Status) → IsWithin files document_limit name bytes → ShredFails bytes word status → DocumentFails files name word status
shred_fails files name bytes word (s.DocRefused k kind) w f = (f.0, (bytes, w, f.1))
shred_fails files name bytes word s.NoMemory w f = tt
shred_fails files name bytes word s.Done w f = f
shred_fails files name bytes word (s.Static code place) w f = f
shred_fails files name bytes word (s.Dynamic code place) w f = f
shred_fails files name bytes word (s.ReadFault k) w f = absurd f
shred_fails files name bytes word s.WriteFault w f = f
shred_fails files name bytes word s.Usage w f = f
shred_fails files name bytes word (s.TooLarge k) w f = absurd f

-- ---- the name is new

-- a document of this number has another name
Others : Texts → List Held → List ℕ → Type 0
Others texts docs name = (n : ℕ) (d : Held) → slice_get docs n ≡ Some d → text_in texts d.0 ≢ name

none_has : (old new : Texts) (later : Grows old new) (name : List ℕ) (id : TextId) (docs : List Held) → slice_get new id.0 ≡ Some name → AreGiven old docs → Others old docs name → has_doc id docs ≡ false
unfolding Others
none_has old new later name id [] e g o = refl
none_has old new later name id (d ∷ docs) e g o = by (nat_eq id.0 d.0.0) refl (none_has old new later name id docs e g.1 (λ n. o (suc n)))
  where
    by : (b : Bool) → nat_eq id.0 d.0.0 ≡ b → has_doc id docs ≡ false → has_doc id (d ∷ docs) ≡ false
    by true q rest =
        let same : id.0 ≡ d.0.0 = eqb-true id.0 d.0.0 q in
        let is : text_in old d.0 ≡ name = sym (same_text old new later d.0 g.0) ∙ ap (λ z. slice_index_or new z []) (sym same) ∙ get_or_from_slice_get new id.0 name [] e in
        absurd (o 0 d refl is)
    by false q rest = rw q rest

pub new_number : (old new : Texts) (h : Holdings) (name : List ℕ) (id : TextId) → IsNew old h name → Grows old new → slice_get new id.0 ≡ Some name → has_doc id h.docs ≡ false
unfolding Others
new_number old new h name id n later e = none_has old new later name id h.docs e n.0 n.1

pub given_more : (old new : Texts) (docs : List Held) → Grows old new → AreGiven old docs → AreGiven new docs
given_more old new [] later g = tt
given_more old new (d ∷ docs) later g = (omega (arith, g.0, not_shorter old new later), given_more old new docs later g.1)

-- ---- the documents so far

count_same : (files : Option Files) (names : List (List ℕ)) (docs : Docs) → AreDocuments files names docs → length docs ≡ length names
count_same files [] [] a = refl
count_same files (n ∷ names) (d ∷ docs) a = ap suc (count_same files names docs a.2)
count_same files [] (d ∷ docs) a = absurd a
count_same files (n ∷ names) [] a = absurd a

length_docs : (texts : Texts) (docs : List Held) → length (map (told texts) docs) ≡ length docs
length_docs texts [] = refl
length_docs texts (d ∷ docs) = ap suc (length_docs texts docs)

pub loaded_count : (files : Option Files) (names : List (List ℕ)) (texts : Texts) (h : Holdings) → Loaded files names texts h → length h.docs ≡ length names
loaded_count files names texts h l = sym (length_docs texts h.docs) ∙ count_same files names (documents_in texts h) l.documents

name_at : (files : Option Files) (names : List (List ℕ)) (texts : Texts) (docs : List Held) (n : ℕ) (d : Held) → AreDocuments files names (map (told texts) docs) → slice_get docs n ≡ Some d → slice_get names n ≡ Some (text_in texts d.0)
name_at files [] texts [] n d a e = absurd (no e)
  where
    no : {A : Type 0} {x : A} → ◌≡◌ {A = Option A} None (Some x) → ⊥
    no e = cc
name_at files (m ∷ names) texts (c ∷ docs) zero d a e = ap Some (sym a.0 ∙ ap (λ (z : Held). text_in texts z.0) (some_same c d e))
name_at files (m ∷ names) texts (c ∷ docs) (suc n) d a e = name_at files names texts docs n d a.2 e
name_at files [] texts (c ∷ docs) n d a e = absurd a
name_at files (m ∷ names) texts [] n d a e = absurd a

holds_at : (names : List (List ℕ)) (n : ℕ) (name : List ℕ) → slice_get names n ≡ Some name → Holds names name
holds_at [] n name e = cc
holds_at (m ∷ names) zero name e = inl (some_same m name e)
holds_at (m ∷ names) (suc n) name e = inr (holds_at names n name e)

-- no name of the first k is the k-th
first_other : (names : List (List ℕ)) (k n : ℕ) (name : List ℕ) → AllDiffer names → k < length names → slice_get (take k names) n ≡ Some name → get_or names k [] ≡ name → ⊥
first_other [] k n name a h e q = absurd (omega (arith, h))
first_other (m ∷ names) zero n name a h e q = absurd (no e)
  where
    no : {A : Type 0} {x : A} → ◌≡◌ {A = Option A} None (Some x) → ⊥
    no e = cc
first_other (m ∷ names) (suc k) zero name a h e q =
    let inside : k < length names = omega (arith, h) in
    a.0 (subst (Holds names) (q ∙ sym (some_same m name e)) (holds_at names k (get_or names k []) (slice_get-get_or names k [] inside)))
first_other (m ∷ names) (suc k) (suc n) name a h e q = first_other names k n name a.1 (omega (arith, h)) e q

pub loaded_new : (files : Option Files) (names : List (List ℕ)) (k : ℕ) (old new : Texts) (h : Holdings) → AllDiffer names → k < length names → Loaded files (take k names) old h → Grows old new → IsNew new h (get_or names k [])
loaded_new files names k old new h a inside l later = (
  given_more old new h.docs later l.named,
  λ n d e is.
      first_other names k n (text_in old d.0) a inside (name_at files (take k names) old h.docs n d l.documents e)
      (sym is ∙ same_text old new later d.0 (given-at old h.docs n d l.named e)),
)

-- ---- one more

documents_more : (files : Option Files) (names : List (List ℕ)) (docs : Docs) (name : List ℕ) (tree : Tree (List ℕ)) → AreDocuments files names docs → IsDocumentFile files name tree → AreDocuments files (names ++ name ∷ []) (docs ++ (name, tree) ∷ [])
documents_more files [] [] name tree a i = (refl, i, tt)
documents_more files (n ∷ names) (d ∷ docs) name tree a i = (a.0, a.1, documents_more files names docs name tree a.2 i)
documents_more files [] (d ∷ docs) name tree a i = absurd a
documents_more files (n ∷ names) [] name tree a i = absurd a

all_trees : (n : ℕ) (h : Holdings) → trees_given n h ≡ true → list_all (λ (d : Held). tree_given n d.1) h.docs ≡ true
all_trees n h e = (and_parts (list_all (λ (d : Held). tree_given n d.1) h.docs) (list_all (λ b. tree_given n b.1) h.built) e).0

docs_same : (old new : Texts) (later : Grows old new) (docs : List Held) → AreGiven old docs → list_all (λ (d : Held). tree_given (length old) d.1) docs ≡ true → map (told new) docs ≡ map (told old) docs
docs_same old new later [] g t = refl
docs_same old new later (d ∷ docs) g t =
    let p = and_parts (tree_given (length old) d.1) (list_all (λ (d : Held). tree_given (length old) d.1) docs) t in
    rw (same_text old new later d.0 g.0, same_tree old new later d.1 p.0, docs_same old new later docs g.1 p.1) refl

given_last : (texts : Texts) (docs : List Held) (d : Held) → AreGiven texts docs → d.0.0 < length texts → AreGiven texts (docs ++ d ∷ [])
given_last texts [] d g i = (i, tt)
given_last texts (c ∷ docs) d g i = (g.0, given_last texts docs d g.1 i)

pub loaded_more : (files : Option Files) (names : List (List ℕ)) (name bytes : List ℕ) (old mid new : Texts) (h g : Holdings) (tree : Tree TextId) → Loaded files names old h → Grows old mid → Grows mid new → IsWithin files document_limit name bytes → IsShredded bytes mid tree → HasOneMore tree name h new g → Loaded files (names ++ name ∷ []) new g
loaded_more files names name bytes old mid new h g tree l later1 later2 read shredded more = subst (Loaded files (names ++ name ∷ []) new) (sym more.added) (record {
  documents = subst (AreDocuments files (names ++ name ∷ [])) (sym docs_are) (documents_more files names (documents_in old h) name (with_texts new tree) l.documents (record { bytes = bytes; read = read; good = subst (IsGood bytes) (sym tree_is) shredded.good }));
  trees = trees_given_doc (length new) h more.id tree (trees_given_more (length mid) (length new) (not_shorter mid new later2) h (trees_given_more (length old) (length mid) (not_shorter old mid later1) h l.trees)) (tree_given_more (length mid) (length new) (not_shorter mid new later2) tree shredded.given);
  named = given_last new h.docs (more.id, tree) (given_more mid new h.docs later2 (given_more old mid h.docs later1 l.named)) (slice_get_within new more.id.0 name more.given);
})
  where
    tree_is : with_texts new tree ≡ with_texts mid tree
    tree_is = same_tree mid new later2 tree shredded.given

    mid_given : list_all (λ (d : Held). tree_given (length mid) d.1) h.docs ≡ true
    mid_given = all_trees (length mid) h (trees_given_more (length old) (length mid) (not_shorter old mid later1) h l.trees)

    front : map (told new) h.docs ≡ map (told old) h.docs
    front =
        docs_same mid new later2 h.docs (given_more old mid h.docs later1 l.named) mid_given
        ∙ docs_same old mid later1 h.docs l.named (all_trees (length old) h l.trees)

    docs_are : documents_in new (with_doc more.id tree h) ≡ documents_in old h ++ (name, with_texts new tree) ∷ []
    docs_are =
        map-append (told new) h.docs ((more.id, tree) ∷ [])
        ∙ ap (λ z. z ++ told new (more.id, tree) ∷ []) front
        ∙ ap (λ z. map (told old) h.docs ++ (z, with_texts new tree) ∷ []) (get_or_from_slice_get new more.id.0 name [] more.given)

-- the k-th name comes to the first k
pub next_names : (names : List (List ℕ)) (k : ℕ) → k < length names → take (k + 1) names ≡ take k names ++ get_or names k [] ∷ []
next_names names k h = take_more names k [] h

pub kept_loaded : (files : Option Files) (names : List (List ℕ)) (k : ℕ) (bytes : List ℕ) (old mid new : Texts) (h g : Holdings) (tree : Tree TextId) (r : Result (Unit {0}) Status) → k < length names → Loaded files (take k names) old h → Grows old mid → Grows mid new → IsWithin files document_limit (get_or names k []) bytes → IsShredded bytes mid tree → IsKept tree (get_or names k []) h new g r → OnOk r (Loaded files (take (k + 1) names) new g)
kept_loaded files names k bytes old mid new h g tree (Ok done) inside l a b read shredded more = subst (λ z. Loaded files z new g) (sym (next_names names k inside)) (loaded_more files (take k names) (get_or names k []) bytes old mid new h g tree l a b read shredded more)
kept_loaded files names k bytes old mid new h g tree (Err e) inside l a b read shredded more = tt

pub kept_fails : (files : Option Files) (name : List ℕ) (word : ℕ) (status : Status) → status ≡ s.NoMemory → DocumentFails files name word status
kept_fails files name word status e = subst (DocumentFails files name word) (sym e) tt

-- there is room for the k-th
pub few_documents : (files : Option Files) (names : List (List ℕ)) (k : ℕ) (texts : Texts) (h : Holdings) → length names ≤ 16 → k < length names → Loaded files (take k names) texts h → length h.docs < 16
few_documents files names k texts h few inside l = omega (arith, loaded_count files (take k names) texts h l, length-take-le k names (omega (arith, inside)), inside, few)

-- the k-th of some words
pub named : (names : List (String Global)) (k : ℕ) (x : String Global) (name : List ℕ) → name ≡ string_bytes x → x ≡ slice_index_or names k x → k < length names → name ≡ get_or (map string_bytes names) k []
named names k x name e is inside = e ∙ ap string_bytes is ∙ sym (get_or-map string_bytes names k x [] inside)
