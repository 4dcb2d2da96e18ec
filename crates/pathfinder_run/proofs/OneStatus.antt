-- Told files mean at most one status.
use Rattle.std.proofs.Common.{◌≡◌, ◌<◌, ◌≤◌, ◌+◌, ℕ, zero, suc, List, [], ◌∷◌, length, take, get_or, inl, inr, Option, Some, None, refl, sym, ap, ◌∙◌, subst, arith}
use Rattle.std.proofs.lemmas.Bool.{cases_lt}
use Rattle.xq_base.specs.declared.code.Code.{Code}
use Rattle.io_edge.specs.Shelves.{Files}
use Rattle.doc_table.specs.Tree.{Tree}
use Rattle.doc_shred.specs.Document.{IsDocument, IsTooDeep}
use Rattle.doc_shred.proofs.Documents.{one_tree}
use Rattle.doc_table.specs.NodeRules.{Docs}
use Rattle.query_engine.specs.Answering.{IsRefused, Meaning, Refuses, Fails, Writes, Means}
use Rattle.query_engine.proofs.OneMeaning.{one_meaning, refused_or_accepts}
use Rattle.pathfinder_run.specs.declared.status.Status.{Status}
use Rattle.pathfinder_run.specs.declared.status.Status.TheVariants as s
use Rattle.pathfinder_run.specs.declared.status.DocFault.{DocFault}
use Rattle.pathfinder_run.specs.declared.status.DocFault.TheVariants as d
use Rattle.pathfinder_run.specs.Words.{AreWords, first_place, most_documents}
use Rattle.doc_shred.specs.Limits.{document_limit}
use Rattle.pathfinder_run.specs.Inputs.{query_limit, IsWithin, IsLong, IsGood, IsRefusedAs, IsDocumentFile, AreDocuments, DocumentFails, StopsAt}
use Rattle.pathfinder_run.specs.Top.{IsRun, IsRefusal, IsStop, IsMeant, IsStatusOf, Deserves, too_many, too_long, refused, stopped, ran, NoAnswer, Answered, CountExactly, Exactly}

-- ---- one file

some_same : {A : Type 0} (a b : A) → Some a ≡ Some b → a ≡ b
some_same a b e = cc

module _ (files : Files) where
  same_file : (limit most : ℕ) (name a b : List ℕ) → IsWithin (Some files) limit name a → IsWithin (Some files) most name b → a ≡ b
  same_file limit most name a b x y = some_same a b (sym x.file ∙ y.file)

  long_or_within : (limit : ℕ) (name bytes : List ℕ) → IsLong (Some files) limit name → IsWithin (Some files) limit name bytes → ⊥
  long_or_within limit name bytes l w =
      let same : l.0 ≡ bytes = some_same l.0 bytes (sym l.1 ∙ w.file) in
      omega (arith, l.2, w.within, ap length same)

  one_file_tree : (name : List ℕ) (t u : Tree (List ℕ)) → IsDocumentFile (Some files) name t → IsDocumentFile (Some files) name u → t ≡ u
  one_file_tree name t u x y = one_tree y.bytes t u (subst (λ z. IsDocument z t) (same_file document_limit document_limit name x.bytes y.bytes x.read y.read) x.good.document) y.good.document

  good_or_refused : (bytes : List ℕ) (t : Tree (List ℕ)) (kind : DocFault) → IsGood bytes t → IsRefusedAs bytes kind → ⊥
  good_or_refused bytes t d.NotWellFormed g r = r.1 t g.document
  good_or_refused bytes t d.Unsupported g r = g.supported r
  good_or_refused bytes t d.TooDeep g r = g.level (subst IsTooDeep (one_tree bytes r.1.0 t r.1.1 g.document) r.1.2)

  -- a document that is kept isn't refused
  kept_or_fails : (name : List ℕ) (t : Tree (List ℕ)) (word : ℕ) (status : Status) → IsMeant status → IsDocumentFile (Some files) name t → DocumentFails (Some files) name word status → ⊥
  kept_or_fails name t word (s.DocRefused k kind) m i f = good_or_refused i.bytes t kind i.good (subst (λ z. IsRefusedAs z kind) (same_file document_limit document_limit name f.1.0 i.bytes f.1.1 i.read) f.1.2)
  kept_or_fails name t word (s.TooLarge k) m i f = long_or_within document_limit name i.bytes f.1 i.read
  kept_or_fails name t word (s.ReadFault k) m i f = m
  kept_or_fails name t word s.NoMemory m i f = m
  kept_or_fails name t word s.Done m i f = f
  kept_or_fails name t word (s.Static code place) m i f = f
  kept_or_fails name t word (s.Dynamic code place) m i f = f
  kept_or_fails name t word s.WriteFault m i f = m
  kept_or_fails name t word s.Usage m i f = f

  one_kind : (bytes : List ℕ) (a b : DocFault) → IsRefusedAs bytes a → IsRefusedAs bytes b → a ≡ b
  one_kind bytes d.NotWellFormed d.NotWellFormed x y = refl
  one_kind bytes d.NotWellFormed d.Unsupported x y = absurd (x.0 y)
  one_kind bytes d.NotWellFormed d.TooDeep x y = absurd (x.1 y.1.0 y.1.1)
  one_kind bytes d.Unsupported d.NotWellFormed x y = absurd (y.0 x)
  one_kind bytes d.Unsupported d.Unsupported x y = refl
  one_kind bytes d.Unsupported d.TooDeep x y = absurd (y.0 x)
  one_kind bytes d.TooDeep d.NotWellFormed x y = absurd (y.1 x.1.0 x.1.1)
  one_kind bytes d.TooDeep d.Unsupported x y = absurd (x.0 y)
  one_kind bytes d.TooDeep d.TooDeep x y = refl

  -- what is said of a document that isn't kept
  pub data Unkept (name : List ℕ) (word : ℕ) : Status → Type 0 where
    form : (kind : DocFault) (bytes : List ℕ) → IsWithin (Some files) document_limit name bytes → IsRefusedAs bytes kind → Unkept name word (s.DocRefused word kind)
    size : IsLong (Some files) document_limit name → Unkept name word (s.TooLarge (Some word))

  unkept : (name : List ℕ) (word : ℕ) (status : Status) → IsMeant status → DocumentFails (Some files) name word status → Unkept name word status
  unkept name word (s.DocRefused k kind) m f = subst (λ z. Unkept name word (s.DocRefused z kind)) (sym f.0) (form kind f.1.0 f.1.1 f.1.2)
  unkept name word (s.TooLarge k) m f = subst (λ z. Unkept name word (s.TooLarge z)) (sym f.0) (size f.1)
  unkept name word (s.ReadFault k) m f = absurd m
  unkept name word s.NoMemory m f = absurd m
  unkept name word s.Done m f = absurd f
  unkept name word (s.Static code place) m f = absurd f
  unkept name word (s.Dynamic code place) m f = absurd f
  unkept name word s.WriteFault m f = absurd m
  unkept name word s.Usage m f = absurd f

  one_failure : (name : List ℕ) (word : ℕ) (a b : Status) → Unkept name word a → Unkept name word b → a ≡ b
  one_failure name word _ _ (form k x i p) (form l y j q) = ap (s.DocRefused word) (one_kind y k l (subst (λ z. IsRefusedAs z k) (same_file document_limit document_limit name x y i j) p) q)
  one_failure name word _ _ (form k x i p) (size l) = absurd (long_or_within document_limit name x l i)
  one_failure name word _ _ (size l) (form k x i p) = absurd (long_or_within document_limit name x l i)
  one_failure name word _ _ (size l) (size m) = refl

  -- ---- all documents

  same_docs : (names : List (List ℕ)) (a b : Docs) → AreDocuments (Some files) names a → AreDocuments (Some files) names b → a ≡ b
  same_docs [] [] [] x y = refl
  same_docs (n ∷ names) (a ∷ as') (b ∷ bs) x y =
      let first : a ≡ b = ap (λ z. (z, a.1)) (x.0 ∙ sym y.0) ∙ ap (λ z. (b.0, z)) (one_file_tree n a.1 b.1 x.1 y.1) in
      ap (λ z. z ∷ as') first ∙ ap (λ z. b ∷ z) (same_docs names as' bs x.2 y.2)
  same_docs [] (a ∷ as') b x y = absurd x
  same_docs [] [] (b ∷ bs) x y = absurd y
  same_docs (n ∷ names) [] b x y = absurd x
  same_docs (n ∷ names) (a ∷ as') [] x y = absurd y

  -- the k-th document of these
  kept_at : (names : List (List ℕ)) (docs : Docs) (k : ℕ) → k < length names → AreDocuments (Some files) names docs → (t : Tree (List ℕ)) × IsDocumentFile (Some files) (get_or names k []) t
  kept_at [] docs k h a = absurd (omega (arith, h))
  kept_at (n ∷ names) (d ∷ docs) zero h a = (d.1, a.1)
  kept_at (n ∷ names) (d ∷ docs) (suc k) h a = kept_at names docs k (omega (arith, h)) a.2
  kept_at (n ∷ names) [] k h a = absurd a

  kept_before : (names : List (List ℕ)) (docs : Docs) (i k : ℕ) → i < k → i < length names → AreDocuments (Some files) (take k names) docs → (t : Tree (List ℕ)) × IsDocumentFile (Some files) (get_or names i []) t
  kept_before [] docs i k l h a = absurd (omega (arith, h))
  kept_before (n ∷ names) docs i zero l h a = absurd (omega (arith, l))
  kept_before (n ∷ names) (d ∷ docs) zero (suc k) l h a = (d.1, a.1)
  kept_before (n ∷ names) (d ∷ docs) (suc i) (suc k) l h a = kept_before names docs i k (omega (arith, l)) (omega (arith, h)) a.2
  kept_before (n ∷ names) [] i (suc k) l h a = absurd a

  run_or_stop : (names : List (List ℕ)) (docs : Docs) (status : Status) → IsMeant status → AreDocuments (Some files) names docs → StopsAt (Some files) names status → ⊥
  run_or_stop names docs status m a st =
      let k = kept_at names docs st.number st.there a in
      kept_or_fails (get_or names st.number []) k.0 (st.number + first_place) status m k.1 st.cause

  sooner : (names : List (List ℕ)) (a b : Status) → IsMeant a → (x : StopsAt (Some files) names a) (y : StopsAt (Some files) names b) → x.number < y.number → ⊥
  sooner names a b m x y l =
      let k = kept_before names y.docs x.number y.number l x.there y.before in
      kept_or_fails (get_or names x.number []) k.0 (x.number + first_place) a m k.1 x.cause

  one_stop : (names : List (List ℕ)) (a b : Status) → IsMeant a → IsMeant b → StopsAt (Some files) names a → StopsAt (Some files) names b → a ≡ b
  one_stop names a b m n x y = elim (cases_lt x.number y.number) [
    | inl l ↦ absurd (sooner names a b m x y l)
    | inr g ↦ elim (cases_lt y.number x.number) [
      | inl l ↦ absurd (sooner names b a n y x l)
      | inr h ↦ (
          let same : x.number ≡ y.number = omega (arith, g, h) in
          one_failure (get_or names y.number []) (y.number + first_place) a b
          (subst (λ z. Unkept (get_or names z []) (z + first_place) a) same (unkept (get_or names x.number []) (x.number + first_place) a m x.cause))
          (unkept (get_or names y.number []) (y.number + first_place) b n y.cause))
    ]
  ]

  -- ---- statuses

  module _ (query : List ℕ) (names : List (List ℕ)) where
    one_run : (a b : Meaning) → IsRun (Some files) query names a → IsRun (Some files) query names b → a ≡ b
    one_run a b x y =
        let text = same_file query_limit query_limit query x.text y.text x.read y.read in
        let docs = same_docs names x.docs y.docs x.documents y.documents in
        one_meaning y.docs y.text a b (subst (λ z. Means y.docs z a) text (subst (λ z. Means z x.text a) docs x.means)) y.means

    one_status_of : (m : Meaning) (a b : Status) → IsStatusOf m a → IsStatusOf m b → a ≡ b
    one_status_of (Refuses code place) a b x y = absurd x
    one_status_of (Fails code place) a b x y = x ∙ sym y
    one_status_of (Writes bytes) a b x y = x ∙ sym y

    ran_or_refused : (m : Meaning) (status : Status) (code : Code) (place : Option ℕ) → IsStatusOf m status → IsRun (Some files) query names m → IsRefusal (Some files) query code place → ⊥
    ran_or_refused m status code place i x r =
        let text = same_file query_limit query_limit query r.text x.text r.read x.read in
        let same : m ≡ Refuses code place = one_meaning x.docs x.text m (Refuses code place) x.means (subst (λ z. IsRefused z code place) text r.refused) in
        subst (λ z. IsStatusOf z status) same i

    one_refusal : (c k : Code) (p q : Option ℕ) → IsRefusal (Some files) query c p → IsRefusal (Some files) query k q → s.Static c p ≡ s.Static k q
    one_refusal c k p q x y =
        let text = same_file query_limit query_limit query x.text y.text x.read y.read in
        static_of c k p q (one_meaning [] y.text (Refuses c p) (Refuses k q) (subst (λ z. IsRefused z c p) text x.refused) y.refused)
      where
        static_of : (c k : Code) (p q : Option ℕ) → Refuses c p ≡ Refuses k q → s.Static c p ≡ s.Static k q
        static_of c k p q e = cc

    refused_or_stopped : (code : Code) (place : Option ℕ) (status : Status) → IsRefusal (Some files) query code place → IsStop (Some files) query names status → ⊥
    refused_or_stopped code place status x y =
        refused_or_accepts y.text code place (subst (λ z. IsRefused z code place) (same_file query_limit query_limit query x.text y.text x.read y.read) x.refused) y.accepted

    pub one_status : (a b : Status) → Deserves files query names a → Deserves files query names b → a ≡ b
    one_status _ _ (too_many h) (too_many k) = refl
    one_status _ _ (too_many h) (too_long k l) = absurd (omega (arith, h, k))
    one_status _ _ (too_many h) (refused k c p r) = absurd (omega (arith, h, k))
    one_status _ _ (too_many h) (stopped k status m st) = absurd (omega (arith, h, k))
    one_status _ _ (too_many h) (ran k m status i r) = absurd (omega (arith, h, k))
    one_status _ _ (too_long h l) (too_many k) = absurd (omega (arith, h, k))
    one_status _ _ (too_long h l) (too_long k m) = refl
    one_status _ _ (too_long h l) (refused k c p r) = absurd (long_or_within query_limit query r.text l r.read)
    one_status _ _ (too_long h l) (stopped k status m st) = absurd (long_or_within query_limit query st.text l st.read)
    one_status _ _ (too_long h l) (ran k m status i r) = absurd (long_or_within query_limit query r.text l r.read)
    one_status _ _ (refused h c p r) (too_many k) = absurd (omega (arith, h, k))
    one_status _ _ (refused h c p r) (too_long k l) = absurd (long_or_within query_limit query r.text l r.read)
    one_status _ _ (refused h c p r) (refused k e q t) = one_refusal c e p q r t
    one_status _ _ (refused h c p r) (stopped k status m st) = absurd (refused_or_stopped c p status r st)
    one_status _ _ (refused h c p r) (ran k m status i t) = absurd (ran_or_refused m status c p i t r)
    one_status _ _ (stopped h status m st) (too_many k) = absurd (omega (arith, h, k))
    one_status _ _ (stopped h status m st) (too_long k l) = absurd (long_or_within query_limit query st.text l st.read)
    one_status _ _ (stopped h status m st) (refused k c p r) = absurd (refused_or_stopped c p status r st)
    one_status _ _ (stopped h status m st) (stopped k other n ot) = one_stop names status other m n st.stops ot.stops
    one_status _ _ (stopped h status m st) (ran k v other i r) = absurd (run_or_stop names r.docs status m r.documents st.stops)
    one_status _ _ (ran h m status i r) (too_many k) = absurd (omega (arith, h, k))
    one_status _ _ (ran h m status i r) (too_long k l) = absurd (long_or_within query_limit query r.text l r.read)
    one_status _ _ (ran h m status i r) (refused k c p t) = absurd (ran_or_refused m status c p i r t)
    one_status _ _ (ran h m status i r) (stopped k other n st) = absurd (run_or_stop names r.docs other n r.documents st.stops)
    one_status _ _ (ran h m status i r) (ran k v other j t) = one_status_of v status other (subst (λ z. IsStatusOf z status) (one_run m v r t) i) j

  -- ---- what is answered is deserved

  few : (names : List (List ℕ)) (status : Status) → CountExactly names status → (status ≡ s.TooLarge None → ⊥) → length names ≤ most_documents
  few names status c other = elim (cases_lt most_documents (length names)) [
    | inl l ↦ absurd (other (c.always l))
    | inr g ↦ omega (arith, g)
  ]

  pub deserved : (query : List ℕ) (names : List (List ℕ)) (old new : Option (List ℕ)) (status : Status) → (status ≡ s.Usage → ⊥) → IsMeant status → CountExactly names status → Answered (Some files) query names old new status → Deserves files query names status
  deserved query names old new s.Done u m c a = ran (few names s.Done c (λ e. cc)) (Writes a.0) s.Done refl a.1
  deserved query names old new (s.Static code place) u m c a = refused (few names (s.Static code place) c (λ e. cc)) code place a.0
  deserved query names old new (s.Dynamic code place) u m c a = ran (few names (s.Dynamic code place) c (λ e. cc)) (Fails code place) (s.Dynamic code place) refl a.0
  deserved query names old new (s.DocRefused word kind) u m c a = stopped (few names (s.DocRefused word kind) c (λ e. cc)) (s.DocRefused word kind) tt a.0
  deserved query names old new (s.ReadFault word) u m c a = absurd m
  deserved query names old new s.WriteFault u m c a = absurd m
  deserved query names old new s.NoMemory u m c a = absurd m
  deserved query names old new s.Usage u m c a = absurd (u refl)
  deserved query names old new (s.TooLarge None) u m c a = too_many a.0
  deserved query names old new (s.TooLarge (Some word)) u m c a = large a.0
    where
      large : NoAnswer (Some files) query names (s.TooLarge (Some word)) → Deserves files query names (s.TooLarge (Some word))
      large (inl q) = subst (λ z. Deserves files query names (s.TooLarge z)) (sym q.0) (too_long (few names (s.TooLarge (Some word)) c (λ e. cc)) q.1)
      large (inr st) = stopped (few names (s.TooLarge (Some word)) c (λ e. cc)) (s.TooLarge (Some word)) tt st

-- the answer of a call is the status that its files mean
pub answered_exactly : (told : Option Files) (words names : List (List ℕ)) (query : List ℕ) (old new : Option (List ℕ)) (result : Status) → AreWords words query names → (result ≡ s.Usage → ⊥) → CountExactly names result → Answered told query names old new result → Exactly told words result
answered_exactly told words names query old new result v u c a files other others status e w x m =
    let same : query ∷ names ≡ other ∷ others = tails (sym v.all ∙ w.all) in
    let queries : query ≡ other = heads same in
    let lists : names ≡ others = tails same in
    one_status files query names result status (deserved files query names old new result u m c (subst (λ z. Answered z query names old new result) e a))
    (subst (λ z. Deserves files z names status) (sym queries) (subst (λ z. Deserves files other z status) (sym lists) x))
  where
    heads : {A : Type 0} {x y : A} {xs ys : List A} → x ∷ xs ≡ y ∷ ys → x ≡ y
    heads e = cc

    tails : {A : Type 0} {x y : A} {xs ys : List A} → x ∷ xs ≡ y ∷ ys → xs ≡ ys
    tails e = cc
