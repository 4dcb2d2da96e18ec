-- Two lists have the same elements where every weight has the same sum over both.
use Rattle.std.proofs.Common.{◌≡◌, ℕ, ◌+◌, Bool, true, false, cond, List, [], ◌∷◌, ◌++◌, length, map, refl, sym, ap, ◌∙◌, arith}
use Rattle.std.specs.List.{filter, flat_map}
use Rattle.lift_laws.specs.Sums.{total, count, Same}

module _ {A : Type 0} where
  pub total-append : (w : A → ℕ) (xs ys : List A) → total w (xs ++ ys) ≡ total w xs + total w ys
  total-append w [] ys = omega arith
  total-append w (x ∷ xs) ys = let h = total-append w xs ys in omega arith

  pub total-ext : (v w : A → ℕ) (xs : List A) → ((x : A) → v x ≡ w x) → total v xs ≡ total w xs
  total-ext v w [] h = refl
  total-ext v w (x ∷ xs) h = let e = total-ext v w xs h in let f = h x in omega arith

  pub total-sum : (v w : A → ℕ) (xs : List A) → total (λ x. v x + w x) xs ≡ total v xs + total w xs
  total-sum v w [] = refl
  total-sum v w (x ∷ xs) = let e = total-sum v w xs in omega arith

  pub total-zero : (xs : List A) → total (λ x. 0) xs ≡ 0
  total-zero [] = refl
  total-zero (x ∷ xs) = let e = total-zero xs in omega arith

  pub total-keep : (w : A → ℕ) (p : A → Bool) (xs : List A) → total w (filter p xs) ≡ total (λ x. cond (p x) (w x) 0) xs
  total-keep w p [] = refl
  total-keep w p (x ∷ xs) =
      let e = total-keep w p xs in
      elim (p x) as (λ b. total w (cond b (x ∷ filter p xs) (filter p xs)) ≡ cond b (w x) 0 + total (λ y. cond (p y) (w y) 0) xs) [ true ↦ omega arith | false ↦ omega arith ]

module _ {A B : Type 0} where
  pub total-map : (w : B → ℕ) (f : A → B) (xs : List A) → total w (map f xs) ≡ total (λ x. w (f x)) xs
  total-map w f [] = refl
  total-map w f (x ∷ xs) = let e = total-map w f xs in omega arith

  pub total-flat : (w : B → ℕ) (f : A → List B) (xs : List A) → total w (flat_map f xs) ≡ total (λ x. total w (f x)) xs
  total-flat w f [] = refl
  total-flat w f (x ∷ xs) = let e = total-flat w f xs in let a = total-append w (f x) (flat_map f xs) in omega arith

module _ {A : Type 0} where
  pub same-refl : (xs : List A) → Same xs xs
  same-refl xs = record { at = λ w. refl }

  pub same-of : {xs ys : List A} → xs ≡ ys → Same xs ys
  same-of e = record { at = λ w. ap (total w) e }

  pub same-sym : {xs ys : List A} → Same xs ys → Same ys xs
  same-sym s = record { at = λ w. sym (s.at w) }

  pub same-trans : {xs ys zs : List A} → Same xs ys → Same ys zs → Same xs zs
  same-trans s t = record { at = λ w. s.at w ∙ t.at w }

  pub same-append : {xs ys us vs : List A} → Same xs ys → Same us vs → Same (xs ++ us) (ys ++ vs)
  same-append {xs = xs} {ys = ys} {us = us} {vs = vs} s t =
      record { at = λ w. let a = total-append w xs us in let b = total-append w ys vs in let c = s.at w in let d = t.at w in omega arith }

  pub same-keep : {xs ys : List A} (p : A → Bool) → Same xs ys → Same (filter p xs) (filter p ys)
  same-keep {xs = xs} {ys = ys} p s = record { at = λ w. total-keep w p xs ∙ s.at (λ x. cond (p x) (w x) 0) ∙ sym (total-keep w p ys) }

module _ {A B : Type 0} where
  pub same-map : {xs ys : List A} (f : A → B) → Same xs ys → Same (map f xs) (map f ys)
  same-map {xs = xs} {ys = ys} f s = record { at = λ w. total-map w f xs ∙ s.at (λ x. w (f x)) ∙ sym (total-map w f ys) }

  pub same-flat : {xs ys : List A} (f : A → List B) → Same xs ys → Same (flat_map f xs) (flat_map f ys)
  same-flat {xs = xs} {ys = ys} f s = record { at = λ w. total-flat w f xs ∙ s.at (λ x. total w (f x)) ∙ sym (total-flat w f ys) }

  -- lists that each element makes
  pub same-each : (f g : A → List B) (xs : List A) → ((x : A) → Same (f x) (g x)) → Same (flat_map f xs) (flat_map g xs)
  same-each f g xs h = record { at = λ w. total-flat w f xs ∙ total-ext _ _ xs (λ x. (h x).at w) ∙ sym (total-flat w g xs) }

  -- two lists for each element, one after the other or apart
  pub same-split : (f g : A → List B) (xs : List A) → Same (flat_map f xs ++ flat_map g xs) (flat_map (λ x. f x ++ g x) xs)
  same-split f g xs = record {
    at = λ w.
        total-append w (flat_map f xs) (flat_map g xs)
        ∙ ap (λ n. n + total w (flat_map g xs)) (total-flat w f xs)
        ∙ ap (λ n. total (λ x. total w (f x)) xs + n) (total-flat w g xs)
        ∙ sym (total-sum (λ x. total w (f x)) (λ x. total w (g x)) xs)
        ∙ total-ext _ _ xs (λ x. sym (total-append w (f x) (g x)))
        ∙ sym (total-flat w (λ x. f x ++ g x) xs);
  }

module _ {A : Type 0} where
  pub length-total : (xs : List A) → length xs ≡ total (λ x. 1) xs
  length-total [] = refl
  length-total (x ∷ xs) = let e = length-total xs in omega arith

  pub same-length : {xs ys : List A} → Same xs ys → length xs ≡ length ys
  same-length {xs = xs} {ys = ys} s = length-total xs ∙ s.at (λ x. 1) ∙ sym (length-total ys)

  -- how many pass a test
  pub length-filter : (p : A → Bool) (xs : List A) → length (filter p xs) ≡ count p xs
  length-filter p xs = length-total (filter p xs) ∙ total-keep (λ x. 1) p xs
