-- Free variables: which variables of the parts are those of the whole.
use Rattle.std.proofs.Common.{◌≡◌, ◌≢◌, ℕ, Bool, true, false, cond, not, ◌||◌, ◌⊎◌, List, [], ◌∷◌, ◌++◌, refl, sym, ap, ◌∙◌, inl, inr, ⊎_elim, nat_eq, true≢false}
use Rattle.std.specs.List.{filter}
use Rattle.std.proofs.lemmas.Bool.{eq-eqb, ne_eqb, eqb-true}
use Rattle.core_meaning.specs.Work.{is_member, union, without}

pub or_right : (a b : Bool) → b ≡ true → (a || b) ≡ true
or_right true b h = refl
or_right false b h = h

module _ (p : ℕ → Bool) where
  filter_keeps : (ys : List ℕ) (y : ℕ) → p y ≡ true → is_member y ys ≡ true → is_member y (filter p ys) ≡ true
  filter_keeps [] y q h = h
  filter_keeps (z ∷ zs) y q h = go (nat_eq y z) refl h (p z) refl (λ k. filter_keeps zs y q k)
    where
      go : (b : Bool) → nat_eq y z ≡ b → (b || is_member y zs) ≡ true → (d : Bool) → p z ≡ d → (is_member y zs ≡ true → is_member y (filter p zs) ≡ true) → is_member y (cond d (z ∷ filter p zs) (filter p zs)) ≡ true
      go true e k true f r = ap (λ b. b || is_member y (filter p zs)) e
      go true e k false f r = absurd (true≢false (sym q ∙ ap p (eqb-true y z e) ∙ f))
      go false e k true f r = or_right (nat_eq y z) _ (r k)
      go false e k false f r = r k

  filter_one : (ys : List ℕ) (y : ℕ) → is_member y (filter p ys) ≡ true → (p y ≡ true) × (is_member y ys ≡ true)
  filter_one [] y h = absurd (true≢false (sym h))
  filter_one (z ∷ zs) y h = go (p z) refl (nat_eq y z) refl h (λ k. filter_one zs y k)
    where
      go : (d : Bool) → p z ≡ d → (b : Bool) → nat_eq y z ≡ b → is_member y (cond d (z ∷ filter p zs) (filter p zs)) ≡ true → (is_member y (filter p zs) ≡ true → (p y ≡ true) × (is_member y zs ≡ true)) → (p y ≡ true) × ((nat_eq y z || is_member y zs) ≡ true)
      go true f true e k r = (ap p (eqb-true y z e) ∙ f, ap (λ b. b || is_member y zs) e)
      go true f false e k r = let q = r (sym (ap (λ b. b || is_member y (filter p zs)) e) ∙ k) in (q.0, ap (λ b. b || is_member y zs) e ∙ q.1)
      go false f true e k r = let q = r k in (q.0, ap (λ b. b || is_member y zs) e)
      go false f false e k r = let q = r k in (q.0, ap (λ b. b || is_member y zs) e ∙ q.1)

append_left : (xs ys : List ℕ) (y : ℕ) → is_member y xs ≡ true → is_member y (xs ++ ys) ≡ true
append_left [] ys y h = absurd (true≢false (sym h))
append_left (x ∷ xs) ys y h = go (nat_eq y x) h (λ k. append_left xs ys y k)
  where
    go : (b : Bool) → (b || is_member y xs) ≡ true → (is_member y xs ≡ true → is_member y (xs ++ ys) ≡ true) → (b || is_member y (xs ++ ys)) ≡ true
    go true k r = refl
    go false k r = r k

append_right : (xs ys : List ℕ) (y : ℕ) → is_member y ys ≡ true → is_member y (xs ++ ys) ≡ true
append_right [] ys y h = h
append_right (x ∷ xs) ys y h = or_right (nat_eq y x) _ (append_right xs ys y h)

append_one : (xs ys : List ℕ) (y : ℕ) → is_member y (xs ++ ys) ≡ true → (is_member y xs ≡ true) ⊎ (is_member y ys ≡ true)
append_one [] ys y h = inr h
append_one (x ∷ xs) ys y h = go (nat_eq y x) h (λ k. append_one xs ys y k)
  where
    go : (b : Bool) → (b || is_member y (xs ++ ys)) ≡ true → (is_member y (xs ++ ys) ≡ true → (is_member y xs ≡ true) ⊎ (is_member y ys ≡ true)) → ((b || is_member y xs) ≡ true) ⊎ (is_member y ys ≡ true)
    go true k r = inl refl
    go false k r = r k

pub in_left : (xs ys : List ℕ) (y : ℕ) → is_member y xs ≡ true → is_member y (union xs ys) ≡ true
in_left xs ys y h = append_left xs _ y h

pub in_right : (xs ys : List ℕ) (y : ℕ) → is_member y ys ≡ true → is_member y (union xs ys) ≡ true
in_right xs ys y h = go (is_member y xs) refl
  where
    go : (b : Bool) → is_member y xs ≡ b → is_member y (union xs ys) ≡ true
    go true e = append_left xs _ y e
    go false e = append_right xs _ y (filter_keeps (λ z. not (is_member z xs)) ys y (ap not e) h)

pub in_one : (xs ys : List ℕ) (y : ℕ) → is_member y (union xs ys) ≡ true → (is_member y xs ≡ true) ⊎ (is_member y ys ≡ true)
in_one xs ys y h = ⊎_elim (λ k. inl k) (λ k. inr (filter_one (λ z. not (is_member z xs)) ys y k).1) (append_one xs _ y h)

pub without_keeps : (x : ℕ) (ys : List ℕ) (y : ℕ) → y ≢ x → is_member y ys ≡ true → is_member y (without x ys) ≡ true
without_keeps x ys y ne h = filter_keeps (λ z. not (nat_eq z x)) ys y (ap not (ne_eqb y x ne)) h

pub without_one : (x : ℕ) (ys : List ℕ) (y : ℕ) → is_member y (without x ys) ≡ true → (y ≢ x) × (is_member y ys ≡ true)
without_one x ys y h =
    let r = filter_one (λ z. not (nat_eq z x)) ys y h in
    ((λ e. true≢false (sym r.0 ∙ ap not (eq-eqb y x e))), r.1)
