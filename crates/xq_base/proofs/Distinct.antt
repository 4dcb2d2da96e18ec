-- Lists in which nothing comes twice.
use Rattle.std.proofs.Common.{◌≡◌, ℕ, zero, suc, List, [], ◌∷◌, ◌++◌, Some, slice_get, refl, sym, ap, subst, ◌⊎◌, inl, inr, ⊎_elim}
use Rattle.xq_base.specs.Distinct.{Holds, AllDiffer}

module _ {A : Type 0} where
  pub Holds-push : (xs : List A) (y z : A) → Holds (xs ++ y ∷ []) z → Holds xs z ⊎ (y ≡ z)
  Holds-push [] y z (inl e) = inr e
  Holds-push [] y z (inr h) = absurd h
  Holds-push (x ∷ xs) y z (inl e) = inl (inl e)
  Holds-push (x ∷ xs) y z (inr h) = ⊎_elim (λ k. inl (inr k)) inr (Holds-push xs y z h)

  pub AllDiffer-push : (xs : List A) (y : A) → AllDiffer xs → (Holds xs y → ⊥) → AllDiffer (xs ++ y ∷ [])
  AllDiffer-push [] y p n = (λ h. h, tt)
  AllDiffer-push (x ∷ xs) y p n = ((λ h. ⊎_elim (λ k. p.0 k) (λ e. n (inl (sym e))) (Holds-push xs y x h)), AllDiffer-push xs y p.1 (λ k. n (inr k)))

  -- a value that stands at a place is one of the list
  pub Holds-at : (xs : List A) (k : ℕ) (x : A) → slice_get xs k ≡ Some x → Holds xs x
  Holds-at [] k x e = cc
  Holds-at (y ∷ ys) zero x e = let same : y ≡ x = cc in inl same
  Holds-at (y ∷ ys) (suc k) x e = inr (Holds-at ys k x e)

  -- where nothing comes twice, equal values stand at one place
  pub one_place : (xs : List A) → AllDiffer xs → (i j : ℕ) (x : A) → slice_get xs i ≡ Some x → slice_get xs j ≡ Some x → i ≡ j
  one_place [] d i j x a b = cc
  one_place (y ∷ ys) d zero zero x a b = refl
  one_place (y ∷ ys) d zero (suc j) x a b =
      let same : x ≡ y = cc in
      absurd (d.0 (subst (Holds ys) same (Holds-at ys j x b)))
  one_place (y ∷ ys) d (suc i) zero x a b =
      let same : x ≡ y = cc in
      absurd (d.0 (subst (Holds ys) same (Holds-at ys i x a)))
  one_place (y ∷ ys) d (suc i) (suc j) x a b = ap (λ n. suc n) (one_place ys d.1 i j x a b)
