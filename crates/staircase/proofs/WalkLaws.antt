-- A walk along a chain gathers the rows on it.
use Rattle.std.proofs.Common.{inl, inr, ◌⊎◌, ◌≡◌, ℕ, ◌<◌, ◌≤◌, Bool, true, false, cond, List, [], ◌∷◌, ◌++◌, length, refl, sym, ap, ◌∙◌, subst, arith, Option, Some, None}
use Rattle.std.specs.Prelude.{slice_set, nat_eq}
use Rattle.std.specs.Option.{option_eq}
use Rattle.std.proofs.lemmas.Bool.{cases_order, eqb-true, false≢true}
use Rattle.std.proofs.lemmas.List.{get_or-set_same, get_or-set_other}
use Rattle.staircase.specs.declared.chain.Start.{Start}
use Rattle.staircase.specs.declared.hits.Hit.{Hit}
use Rattle.staircase.specs.declared.seen.Seen.{Seen}
use Rattle.staircase.specs.Chains.{row_at, kept_at, Leads, leads_here, leads_more, Behind, Marked, OnWay, Past, Walking, Walks}
use Rattle.staircase.specs.Parts.{In}
use Rattle.staircase.specs.Tasks.{hit_in, lets}
use Rattle.staircase.proofs.Elements.{in-left, in-right, in-parts}
use Rattle.staircase.proofs.LinkLaws.{leads-on}

pub option-same : (o : Option ℕ) (i : ℕ) → option_eq nat_eq o (Some i) ≡ true → o ≡ Some i
option-same None i e = absurd (false≢true e)
option-same (Some j) i e = ap (λ z. Some z) (eqb-true j i e)

module _ (step : ℕ → Option ℕ) (counting : Bool) (rows : List Seen) (start : Start) where
  abbrev wanted : ℕ → Type 0
  wanted m = lets counting (row_at rows m) ≡ true

  pub walk-start : (marks : List (Option ℕ)) (hits : List Hit) → Marked step counting rows marks hits → Walking step counting rows start (Some start.place) marks hits hits
  walk-start marks hits a = record {
    kept = λ h i. i;
    sound = λ h i. inl i;
    way = leads_here;
    rest = λ m l e. inr l;
    marked = λ k i m e l x. inl (a k i m e l x);
  }

  pub walk-end : (marks : List (Option ℕ)) (old new : List Hit) → Walking step counting rows start None marks old new → Walks step counting rows start marks old new
  walk-end marks old new w = record {
    gains = record {
      kept = w.kept;
      sound = w.sound;
      complete = λ h f. subst (λ (z : Hit). In z new) (sym f.3) (elim (w.rest f.0 f.1 f.2) [ inl x ↦ x | inr y ↦ absurd y ]);
    };
    marked = λ k i m e l x. elim (w.marked k i m e l x) [ inl y ↦ y | inr z ↦ absurd z.2 ];
  }

  -- a walk that meets a marked place
  pub walk-met : (k : ℕ) (marks : List (Option ℕ)) (old new : List Hit) → Walking step counting rows start (Some k) marks old new → kept_at marks k ≡ Some start.iter → Walks step counting rows start marks old new
  walk-met k marks old new w e = record {
    gains = record {
      kept = w.kept;
      sound = w.sound;
      complete = λ h f. subst (λ (z : Hit). In z new) (sym f.3) (elim (w.rest f.0 f.1 f.2) [ inl x ↦ x | inr y ↦ behind f.0 y f.2 ]);
    };
    marked = λ j i m f l x. elim (w.marked j i m f l x) [ inl y ↦ y | inr z ↦ subst (λ q. In (hit_in q (row_at rows m)) new) (sym z.0) (behind m z.2 x) ];
  }
    where
      behind : (m : ℕ) → Leads step k m → wanted m → In (hit_in start.iter (row_at rows m)) new
      behind m l x = elim (w.marked k start.iter m e l x) [ inl y ↦ y | inr z ↦ absurd (omega (arith, z.1)) ]

  found : ℕ → List Hit
  found k = cond (lets counting (row_at rows k)) (hit_in start.iter (row_at rows k) ∷ []) []

  found-from : (k : ℕ) (h : Hit) → In h (cond (lets counting (row_at rows k)) (hit_in start.iter (row_at rows k) ∷ []) []) → wanted k × (h ≡ hit_in start.iter (row_at rows k))
  found-from k h i = go (lets counting (row_at rows k)) refl i
    where
      go : (b : Bool) → lets counting (row_at rows k) ≡ b → In h (cond b (hit_in start.iter (row_at rows k) ∷ []) []) → wanted k × (h ≡ hit_in start.iter (row_at rows k))
      go true e i = elim i [ inl q ↦ (e, q) | inr x ↦ absurd x ]
      go false e i = absurd i

  -- a chain goes on from a place, or ends there
  leads-next : {k m : ℕ} → Leads step k m → (m ≡ k) ⊎ Behind step (step k) m
  leads-next leads_here = inl refl
  leads-next {m = m} (leads_more e r) = inr (subst (λ z. Behind step z m) (sym e) r)

  way-on : (k : ℕ) → Leads step start.place k → (o : Option ℕ) → step k ≡ o → OnWay step start.place o
  way-on k l None e = tt
  way-on k l (Some j) e = leads-on l e

  past-more : (k j : ℕ) (o : Option ℕ) → ((i : ℕ) → o ≡ Some i → i < k) → k ≤ j → Past o j
  past-more k j None f l = tt
  past-more k j (Some i) f l = omega (arith, f i refl)

  pub walk-step : (k : ℕ) (marks : List (Option ℕ)) (old new newer : List Hit) → ((i : ℕ) → step k ≡ Some i → i < k) → k < length marks → newer ≡ new ++ cond (lets counting (row_at rows k)) (hit_in start.iter (row_at rows k) ∷ []) []
      → Walking step counting rows start (Some k) marks old new → Walking step counting rows start (step k) (slice_set marks k (Some start.iter)) old newer
  walk-step k marks old new newer f l e w = record {
    kept = λ h i. up h (w.kept h i);
    sound = λ h i. elim (in-parts h new (cond (lets counting (row_at rows k)) (hit_in start.iter (row_at rows k) ∷ []) []) (subst (λ z. In h z) e i)) [
      | inl x ↦ w.sound h x
      | inr y ↦ (let r = found-from k h y in inr (k, w.way, r.0, r.1))
    ];
    way = way-on k w.way (step k) refl;
    rest = λ m x y. elim (w.rest m x y) [ inl i ↦ inl (up (hit_in start.iter (row_at rows m)) i) | inr z ↦ next m z y ];
    marked = λ j i m g x y. mark j i m g x y (cases_order j k);
  }
    where
      up : (h : Hit) → In h new → In h newer
      up h i = subst (λ z. In h z) (sym e) (in-left h new (cond (lets counting (row_at rows k)) (hit_in start.iter (row_at rows k) ∷ []) []) i)

      self : wanted k → In (hit_in start.iter (row_at rows k)) newer
      self x = subst (λ z. In (hit_in start.iter (row_at rows k)) z) (sym e) (in-right (hit_in start.iter (row_at rows k)) new (cond (lets counting (row_at rows k)) (hit_in start.iter (row_at rows k) ∷ []) []) (rw x (inl refl)))

      next : (m : ℕ) → Leads step k m → wanted m → In (hit_in start.iter (row_at rows m)) newer ⊎ Behind step (step k) m
      next m x y = elim (leads-next x) [
        | inl q ↦ inl (subst (λ z. In (hit_in start.iter (row_at rows z)) newer) (sym q) (self (subst (λ z. lets counting (row_at rows z) ≡ true) q y)))
        | inr b ↦ inr b
      ]

      other : (j i m : ℕ) → kept_at marks j ≡ Some i → Leads step j m → wanted m → In (hit_in i (row_at rows m)) newer ⊎ ((i ≡ start.iter) × Past (step k) j × Behind step (step k) m)
      other j i m g x y = elim (w.marked j i m g x y) [
        | inl z ↦ inl (up (hit_in i (row_at rows m)) z)
        | inr z ↦ elim (next m z.2 y) [
          | inl b ↦ inl (subst (λ q. In (hit_in q (row_at rows m)) newer) (sym z.0) b)
          | inr b ↦ inr (z.0, past-more k j (step k) f (omega (arith, z.1)), b)
        ]
      ]

      mark : (j i m : ℕ) → kept_at (slice_set marks k (Some start.iter)) j ≡ Some i → Leads step j m → wanted m → (j ≡ k) ⊎ ((j < k) ⊎ (k < j)) → In (hit_in i (row_at rows m)) newer ⊎ ((i ≡ start.iter) × Past (step k) j × Behind step (step k) m)
      mark j i m g x y (inl q) =
          let here : kept_at (slice_set marks k (Some start.iter)) j ≡ Some start.iter = ap (kept_at (slice_set marks k (Some start.iter))) q ∙ get_or-set_same marks k (Some start.iter) None l in
          let same : Some start.iter ≡ Some i = sym here ∙ g in
          let is : start.iter ≡ i = cc in
          elim (next m (subst (λ z. Leads step z m) q x) y) [
            | inl b ↦ inl (subst (λ z. In (hit_in z (row_at rows m)) newer) is b)
            | inr b ↦ inr (sym is, past-more k j (step k) f (omega arith), b)
          ]
      mark j i m g x y (inr (inl q)) = other j i m (sym (get_or-set_other marks k j (Some start.iter) None (λ z. omega arith)) ∙ g) x y
      mark j i m g x y (inr (inr q)) = other j i m (sym (get_or-set_other marks k j (Some start.iter) None (λ z. omega arith)) ∙ g) x y
