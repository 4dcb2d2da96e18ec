-- What tasks find.
use Rattle.std.proofs.Common.{inl, inr, ◌⊎◌, ◌≡◌, ℕ, zero, suc, ◌<◌, ◌≤◌, Bool, true, false, ◌&&◌, cond, List, [], ◌∷◌, ◌++◌, length, drop, refl, sym, ap, ◌∙◌, subst, arith, Option, Some, None}
use Rattle.std.specs.Prelude.{nat_eq, nat_lt, nat_le, slice_index_or}
use Rattle.std.proofs.lemmas.List.{append-nil, drop_all}
use Rattle.std.proofs.lemmas.Bool.{eq-eqb, ne_eqb, eqb-true, cases_order, lt-ltb, le-leb, leb-true, ltb-true, and_parts, and_from, false≢true}
use Rattle.staircase.specs.declared.hits.Hit.{Hit}
use Rattle.staircase.specs.declared.seen.Seen.{Seen}
use Rattle.staircase.specs.declared.task.Task.{Task}
use Rattle.staircase.specs.Parts.{In, Between, IsRising, Splits}
use Rattle.staircase.specs.Made.{row_found}
use Rattle.staircase.specs.Tasks.{Adds, AllOf, Goes, Finds, found, lets, keeps, hit_in, covers, limit_covers, ends_before}
use Rattle.staircase.proofs.Elements.{in-left, in-right, in-parts}
use Rattle.staircase.proofs.PartLaws.{same-at}

-- at the end of a list all of it came
pub found-end : (counting : Bool) (task : Task) (out old : List Hit) (k : ℕ) (items : List Seen) → out ++ found counting task (drop k items) ≡ old ++ found counting task items → length items ≤ k → out ≡ old ++ found counting task items
found-end counting task out old k items e l =
    let none : drop k items ≡ [] = drop_all k items l in
    sym (append-nil out) ∙ ap (λ z. out ++ found counting task z) (sym none) ∙ e

found-from : (counting : Bool) (task : Task) (h : Hit) (ss : List Seen) → In h (found counting task ss) → (s : Seen) × In s ss × (lets counting s ≡ true) × (keeps task s ≡ true) × (h ≡ hit_in task.iter s)
found-from counting task h [] k = absurd k
found-from counting task h (s ∷ ss) k = here (lets counting s && keeps task s) refl (in-parts h (cond (lets counting s && keeps task s) (hit_in task.iter s ∷ []) []) (found counting task ss) k) (λ i. found-from counting task h ss i)
  where
    here : (b : Bool) → (lets counting s && keeps task s) ≡ b → In h (cond b (hit_in task.iter s ∷ []) []) ⊎ In h (found counting task ss) → (In h (found counting task ss) → (s : Seen) × In s ss × (lets counting s ≡ true) × (keeps task s ≡ true) × (h ≡ hit_in task.iter s)) → (r : Seen) × In r (s ∷ ss) × (lets counting r ≡ true) × (keeps task r ≡ true) × (h ≡ hit_in task.iter r)
    here b e (inr r) f = (let x = f r in (x.0, inr x.1, x.2, x.3, x.4))
    here false e (inl a) f = absurd a
    here true e (inl a) f = (let p = and_parts (lets counting s) (keeps task s) e in elim a [ inl q ↦ (s, inl refl, p.0, p.1, q) | inr x ↦ absurd x ])

found-all : (counting : Bool) (task : Task) (s : Seen) (ss : List Seen) → In s ss → lets counting s ≡ true → keeps task s ≡ true → In (hit_in task.iter s) (found counting task ss)
found-all counting task s [] k l m = absurd k
found-all counting task s (r ∷ ss) k l m = elim k [
  | inl e ↦ (let both : (lets counting s && keeps task s) ≡ true = and_from (lets counting s) (keeps task s) l m in
      in-left (hit_in task.iter s) (cond (lets counting r && keeps task r) (hit_in task.iter r ∷ []) []) (found counting task ss)
      (subst (λ (z : Seen). In (hit_in task.iter s) (cond (lets counting z && keeps task z) (hit_in task.iter z ∷ []) [])) e (rw both (inl refl))))
  | inr x ↦ in-right (hit_in task.iter s) (cond (lets counting r && keeps task r) (hit_in task.iter r ∷ []) []) (found counting task ss) (found-all counting task s ss x l m)
]

pub adds-found : (seen part : List Seen) (counting : Bool) (task : Task) (old new : List Hit) → Between seen task.first task.end part → new ≡ old ++ found counting task part → Adds seen counting task old new
adds-found seen part counting task old new b e = record {
  kept = λ h k. subst (λ z. In h z) (sym e) (in-left h old (found counting task part) k);
  sound = λ h k. elim (in-parts h old (found counting task part) (subst (λ z. In h z) e k)) [
    | inl a ↦ inl a
    | inr r ↦ (let x = found-from counting task h part r in
        let w = b.within x.0 x.1 in
        inr (x.0, w.0, x.2, and_from (nat_le task.first x.0.pre && nat_lt x.0.pre task.end) (keeps task x.0) (and_from (nat_le task.first x.0.pre) (nat_lt x.0.pre task.end) (le-leb task.first x.0.pre w.1) (lt-ltb x.0.pre task.end w.2)) x.3, x.4))
  ];
  complete = λ h f.
      let p = and_parts (nat_le task.first f.0.pre && nat_lt f.0.pre task.end) (keeps task f.0) f.3 in
      let q = and_parts (nat_le task.first f.0.pre) (nat_lt f.0.pre task.end) p.0 in
      let there : In f.0 part = b.all f.0 f.1 (leb-true task.first f.0.pre q.0) (ltb-true f.0.pre task.end q.1) in
      subst (λ z. In h z) (sym e) (in-right h old (found counting task part) (subst (λ (z : Hit). In z (found counting task part)) (sym f.4) (found-all counting task f.0 part there f.2 p.1)));
}

-- what a task finds that another one covers, the other one finds
pub covered : (seen : List Seen) (counting : Bool) (task other : Task) (h : Hit) → covers task other ≡ true → Finds seen counting other h → Finds seen counting task h
covered seen counting task other h c f =
    let a = and_parts (nat_eq task.iter other.iter) (nat_le task.first other.first && (nat_le other.end task.end && limit_covers task.limit other.limit)) c in
    let b = and_parts (nat_le task.first other.first) (nat_le other.end task.end && limit_covers task.limit other.limit) a.1 in
    let d = and_parts (nat_le other.end task.end) (limit_covers task.limit other.limit) b.1 in
    let iter : task.iter ≡ other.iter = eqb-true task.iter other.iter a.0 in
    let s : Seen = f.0 in
    let p = and_parts (nat_le other.first s.pre && nat_lt s.pre other.end) (keeps other s) f.3 in
    let q = and_parts (nat_le other.first s.pre) (nat_lt s.pre other.end) p.0 in
    let lo : task.first ≤ s.pre = omega (arith, leb-true task.first other.first b.0, leb-true other.first s.pre q.0) in
    let hi : s.pre < task.end = omega (arith, leb-true other.end task.end d.0, ltb-true s.pre other.end q.1) in (
      s,
      f.1,
      f.2,
      and_from (nat_le task.first s.pre && nat_lt s.pre task.end) (keeps task s) (and_from (nat_le task.first s.pre) (nat_lt s.pre task.end) (le-leb task.first s.pre lo) (lt-ltb s.pre task.end hi)) (limit task.limit other.limit d.1 p.1),
      f.4 ∙ ap (λ z. hit_in z s) (sym iter),
    )
  where
    limit : (l o : Option ℕ) → limit_covers l o ≡ true → ends_before o f.0 ≡ true → ends_before l f.0 ≡ true
    limit None o e r = refl
    limit (Some x) None e r = absurd (false≢true e)
    limit (Some x) (Some y) e r = lt-ltb f.0.last x (omega (arith, leb-true y x e, ltb-true f.0.last y r))

-- ---- one task after the other

pub go-covered : (seen : List Seen) (counting : Bool) (before task : Task) (hits : List Hit) → covers before task ≡ true → AllOf seen counting (Some before) hits → Goes seen counting (Some before) (Some before) task hits hits
go-covered seen counting before task hits c a = record {
  adds = record { kept = λ h k. k; sound = λ h k. inl k; complete = λ h f. a h (covered seen counting before task h c f) };
  all = a;
}

pub go-done : (seen : List Seen) (counting : Bool) (before : Option Task) (task : Task) (old new : List Hit) → Adds seen counting task old new → Goes seen counting before (Some task) task old new
go-done seen counting before task old new a = record { adds = a; all = a.complete }

-- ---- the row of a node

pub row-found_at : (seen : List Seen) (k pre : ℕ) (d : Seen) → IsRising seen → k < length seen → (slice_index_or seen k d).pre ≡ pre → row_found seen pre ≡ Some (slice_index_or seen k d)
row-found_at [] k pre d r l e = absurd (omega arith)
row-found_at (s ∷ ss) zero pre d r l e = rw (eq-eqb s.pre pre e) refl
row-found_at (s ∷ ss) (suc k) pre d r l e =
    let first = r 0 (suc k) d (omega arith) l in
    rw (ne_eqb s.pre pre (λ q. omega (arith, first))) (row-found_at ss k pre d (λ i j f h m. r (suc i) (suc j) f (omega arith) (omega arith)) (omega arith) e)

pub row-found_none : (seen : List Seen) (pre : ℕ) → ((k : ℕ) (d : Seen) → k < length seen → (slice_index_or seen k d).pre ≡ pre → ⊥) → row_found seen pre ≡ None
row-found_none [] pre f = refl
row-found_none (s ∷ ss) pre f = rw (ne_eqb s.pre pre (λ e. f 0 s (omega arith) e)) (row-found_none ss pre (λ k d l e. f (suc k) d (omega arith) e))

pub no-row : (seen : List Seen) (pre place : ℕ) (d : Seen) → IsRising seen → Splits seen pre place place → (place < length seen → (slice_index_or seen place d).pre ≡ pre → ⊥) → row_found seen pre ≡ None
no-row seen pre place d r s n = row-found_none seen pre (λ k e l q. other k e l q (cases_order k place))
  where
    other : (k : ℕ) (e : Seen) → k < length seen → (slice_index_or seen k e).pre ≡ pre → (k ≡ place) ⊎ ((k < place) ⊎ (place < k)) → ⊥
    other k e l q (inl x) = n (omega arith) (ap (λ z. (slice_index_or seen z d).pre) (sym x) ∙ ap (λ (z : Seen). z.pre) (same-at seen k d e l) ∙ q)
    other k e l q (inr (inl x)) = (let y = s.below k e x in omega arith)
    other k e l q (inr (inr x)) = (let y = s.above place d (omega arith) (omega arith) in let z = r place k d x l in let same : (slice_index_or seen k d).pre ≡ (slice_index_or seen k e).pre = ap (λ (z : Seen). z.pre) (same-at seen k d e l) in omega arith)
