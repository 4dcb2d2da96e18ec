-- What a step has found, noted and counted after some documents.
use Rattle.std.proofs.Common.{◌≡◌, ℕ, zero, suc, ◌+◌, ◌≤◌, List, [], ◌∷◌, ◌++◌, length, drop, refl, sym, ap, ◌∙◌, subst, arith, Option, Some, None}
use Rattle.std.proofs.lemmas.Option.{slice_get_within}
use Rattle.std.specs.Prelude.{slice_get}
use Rattle.xq_base.specs.declared.axis.Axis.{Axis}
use Rattle.xq_base.specs.declared.axis.NodeTest.{NodeTest}
use Rattle.xq_base.specs.declared.item.FragKey.TheVariants as f
use Rattle.xq_base.specs.declared.item.TextId.{TextId}
use Rattle.doc_table.specs.declared.ledger.Note.{Note}
use Rattle.doc_table.specs.Account.{Account}
use Rattle.doc_table.specs.Kept.{root_or}
use Rattle.doc_table.specs.Notes.{AppendsAll, notes_of}
use Rattle.doc_table.specs.Stores.{Holdings, tree_of_doc, tree_at}
use Rattle.doc_table.specs.StoredItems.{IsNodeOf, trees_of}
use Rattle.doc_table.specs.Touched.{touched_rows, counts}
use Rattle.doc_table.specs.Tree.{Tree}
use Rattle.staircase.specs.declared.kinds.Tally.{Tally}
use Rattle.staircase.specs.Joins.{tally_of}
use Rattle.plan_eval.specs.declared.entries.Reached.{Reached}
use Rattle.plan_eval.specs.Contexts.{sum_tally, no_tally}
use Rattle.plan_eval.specs.Entries.{doc_places, kept_notes, kept_tally, AreNamed, AllNamed, AddsFound, AreFound}
use Rattle.plan_eval.proofs.OnceMaps.{append-assoc, to-none}
use Rattle.plan_eval.proofs.DocumentHits.{doc-is, none-found, one-more}

pub record SoFar (axis : Axis) (test : NodeTest) (site : ℕ) (h : Holdings) (es : List Reached) (before after : Account) (k : ℕ) (tally : Tally) (rows : List Reached) : Type 0 where
  pub found : AreFound axis test (trees_of h) es k rows
  pub within : k ≤ length h.docs
  pub done : List Note
  pub noted : AppendsAll before.notes after.notes done
  pub notes : done ++ kept_notes site axis k (drop k h.docs) es ≡ kept_notes site axis 0 h.docs es
  pub counted : sum_tally tally (kept_tally axis k (drop k h.docs) es) ≡ kept_tally axis 0 h.docs es
  pub refuses : after.may_refuse ≡ before.may_refuse

-- ---- notes and counts

pub nothing-appended : (old : Option (List Note)) → AppendsAll old old []
nothing-appended None = tt
nothing-appended (Some ns) = sym (to-none ns)

pub appended-both : (old mid new : Option (List Note)) (a b : List Note) → AppendsAll old mid a → AppendsAll mid new b → AppendsAll old new (a ++ b)
appended-both None None None a b h k = tt
appended-both None None (Some n) a b h k = absurd k
appended-both None (Some m) new a b h k = absurd h
appended-both (Some o) None new a b h k = absurd h
appended-both (Some o) (Some m) None a b h k = absurd k
appended-both (Some o) (Some m) (Some n) a b h k = k ∙ ap (λ z. z ++ b) h ∙ append-assoc o a b

sum-assoc : (a b c : Tally) → sum_tally (sum_tally a b) c ≡ sum_tally a (sum_tally b c)
sum-assoc a b c =
    let e : (x y z : ℕ) → (x + y) + z ≡ x + (y + z) = λ x y z. omega arith in
    rw (e a.context b.context c.context, e a.result b.result c.result, e a.skipped b.skipped c.skipped, e a.read b.read c.read) refl

sum-none : (a : Tally) → sum_tally no_tally a ≡ a
sum-none a =
    let e : (x : ℕ) → 0 + x ≡ x = λ x. omega arith in
    rw (e a.context, e a.result, e a.skipped, e a.read) refl

to-sum-none : (a : Tally) → sum_tally a no_tally ≡ a
to-sum-none a =
    let e : (x : ℕ) → x + 0 ≡ x = λ x. omega arith in
    rw (e a.context, e a.result, e a.skipped, e a.read) refl

-- ---- documents

pub drop-at : {X : Type 0} (xs : List X) (k : ℕ) (x : X) → slice_get xs k ≡ Some x → drop k xs ≡ x ∷ drop (suc k) xs
drop-at [] k x e = absurd (cc)
drop-at (y ∷ xs) zero x e = ap (λ z. z ∷ xs) (inner e)
  where
    inner : {X : Type 0} {y x : X} → Some y ≡ Some x → y ≡ x
    inner e = cc
drop-at (y ∷ xs) (suc k) x e = drop-at xs k x e

past-end : {X : Type 0} (xs : List X) (k : ℕ) → slice_get xs k ≡ None → length xs ≤ k
past-end [] k e = omega arith
past-end (y ∷ xs) zero e = absurd (cc)
past-end (y ∷ xs) (suc k) e = let l = past-end xs k e in omega (arith, l)

drop-end : {X : Type 0} (xs : List X) (k : ℕ) → length xs ≤ k → drop k xs ≡ []
drop-end [] zero l = refl
drop-end [] (suc k) l = refl
drop-end (x ∷ xs) zero l = absurd (omega (arith, l))
drop-end (x ∷ xs) (suc k) l = drop-end xs k (omega (arith, l))

-- the document of a rank, where there is one
pub record DocAt (h : Holdings) (k : ℕ) (t : Tree TextId) : Type 0 where
  pub name : TextId
  pub is : slice_get h.docs k ≡ Some (name, t)

pub doc-at : (h : Holdings) (k : ℕ) (t : Tree TextId) → tree_at h (f.Doc k) ≡ Some t → DocAt h k t
doc-at h k t e = at (slice_get h.docs k) refl e
  where
    at : (o : Option (TextId × Tree TextId)) → slice_get h.docs k ≡ o → tree_of_doc o ≡ Some t → DocAt h k t
    at None q e = absurd (cc)
    at (Some d) q e = let s : d.1 ≡ t = cc in record { name = d.0; is = q ∙ ap (λ z. Some (d.0, z)) s }

no-doc : (h : Holdings) (k : ℕ) → tree_at h (f.Doc k) ≡ None → length h.docs ≤ k
no-doc h k e = at (slice_get h.docs k) refl e
  where
    at : (o : Option (TextId × Tree TextId)) → slice_get h.docs k ≡ o → tree_of_doc o ≡ None → length h.docs ≤ k
    at None q e = past-end h.docs k q
    at (Some d) q e = absurd (cc)

-- the entries of a document name nodes of it
pub doc-named : (h : Holdings) (es : List Reached) (k : ℕ) (t : Tree TextId) → AllNamed h es → tree_at h (f.Doc k) ≡ Some t → AreNamed k t es
doc-named h es k t all e x i d = subst (IsNodeOf h x.node) (ap (tree_at h) (doc-is k x.node.frag d) ∙ e) (all x i)

-- ---- the loop

pub before-all : (axis : Axis) (test : NodeTest) (site : ℕ) (h : Holdings) (es : List Reached) (reads : Account) (tally : Tally) (rows : List Reached) → tally ≡ no_tally → rows ≡ [] → SoFar axis test site h es reads reads 0 tally rows
before-all axis test site h es reads tally rows e g = record {
  found = subst (AreFound axis test (trees_of h) es 0) (sym g) (none-found axis test (trees_of h) es);
  within = omega arith;
  done = [];
  noted = nothing-appended reads.notes;
  notes = refl;
  counted = ap (λ z. sum_tally z (kept_tally axis 0 h.docs es)) e ∙ sum-none (kept_tally axis 0 h.docs es);
  refuses = refl;
}

pub after-one : (axis : Axis) (test : NodeTest) (site : ℕ) (h : Holdings) (es : List Reached) (before mid after : Account) (k : ℕ) (tally one both : Tally) (old new : List Reached) (t : Tree TextId)
    → SoFar axis test site h es before mid k tally old → tree_at h (f.Doc k) ≡ Some t → AddsFound axis test t k es old new
    → AppendsAll mid.notes after.notes (notes_of site (f.Doc k) (touched_rows axis t (doc_places k es))) → after.may_refuse ≡ mid.may_refuse
    → one ≡ tally_of (counts axis t (doc_places k es)) → both ≡ sum_tally tally one → SoFar axis test site h es before after (suc k) both new
after-one axis test site h es before mid after k tally one both old new t s e adds noted refuses counts_are sums =
    let d = doc-at h k t e in
    let tree : trees_of h (f.Doc k) ≡ t = ap root_or e in
    let next : drop k h.docs ≡ (d.name, t) ∷ drop (suc k) h.docs = drop-at h.docs k (d.name, t) d.is in
    let here = notes_of site (f.Doc k) (touched_rows axis t (doc_places k es)) in record {
      found = one-more axis test (trees_of h) k es old new s.found (subst (λ z. AddsFound axis test z k es old new) (sym tree) adds);
      within = let l = slice_get_within h.docs k (d.name, t) d.is in omega (arith, l);
      done = s.done ++ here;
      noted = appended-both before.notes mid.notes after.notes s.done here s.noted noted;
      notes = append-assoc s.done here (kept_notes site axis (suc k) (drop (suc k) h.docs) es) ∙ ap (λ ds. s.done ++ kept_notes site axis k ds es) (sym next) ∙ s.notes;
      counted =
          ap (λ z. sum_tally z (kept_tally axis (suc k) (drop (suc k) h.docs) es)) (sums ∙ ap (sum_tally tally) counts_are)
          ∙ sum-assoc tally (tally_of (counts axis t (doc_places k es))) (kept_tally axis (suc k) (drop (suc k) h.docs) es)
          ∙ ap (λ ds. sum_tally tally (kept_tally axis k ds es)) (sym next) ∙ s.counted;
      refuses = refuses ∙ s.refuses;
    }

-- all that is known after the last document
pub record Whole (axis : Axis) (test : NodeTest) (site : ℕ) (h : Holdings) (es : List Reached) (before after : Account) (tally : Tally) (rows : List Reached) : Type 0 where
  pub found : AreFound axis test (trees_of h) es (length h.docs) rows
  pub noted : AppendsAll before.notes after.notes (kept_notes site axis 0 h.docs es)
  pub counted : tally ≡ kept_tally axis 0 h.docs es

pub after-all : (axis : Axis) (test : NodeTest) (site : ℕ) (h : Holdings) (es : List Reached) (before after : Account) (k : ℕ) (tally : Tally) (rows : List Reached) → SoFar axis test site h es before after k tally rows → tree_at h (f.Doc k) ≡ None → Whole axis test site h es before after tally rows
after-all axis test site h es before after k tally rows s e =
    let past = no-doc h k e in
    let many : k ≡ length h.docs = let l = s.within in omega (arith, l, past) in
    let rest : drop k h.docs ≡ [] = drop-end h.docs k past in record {
      found = subst (λ n. AreFound axis test (trees_of h) es n rows) many s.found;
      noted = subst (AppendsAll before.notes after.notes) (sym (to-none s.done) ∙ ap (λ ds. s.done ++ kept_notes site axis k ds es) (sym rest) ∙ s.notes) s.noted;
      counted = sym (to-sum-none tally) ∙ ap (λ ds. sum_tally tally (kept_tally axis k ds es)) (sym rest) ∙ s.counted;
    }
