-- Words that come twice.
use Rattle.std.proofs.Common.{◌≡◌, ◌<◌, ◌+◌, ◌≤◌, ℕ, zero, suc, List, [], ◌∷◌, ◌++◌, length, take, map, get_or, string_bytes, codes, String, Global, ◌⊎◌, inl, inr, sym, ap, ◌∙◌, subst, arith}
use Rattle.std.proofs.lemmas.List.{take_more, take_all, map-append}
use Rattle.xq_base.specs.Distinct.{Holds, AllDiffer}
use Rattle.pathfinder_run.specs.Words.{AreWords}

holds_append : (xs ys : List (List ℕ)) (w : List ℕ) → Holds (xs ++ ys) w → Holds xs w ⊎ Holds ys w
holds_append [] ys w h = inr h
holds_append (x ∷ xs) ys w (inl e) = inl (inl e)
holds_append (x ∷ xs) ys w (inr h) = elim (holds_append xs ys w h) [
  | inl a ↦ inl (inr a)
  | inr b ↦ inr b
]

module _ {A : Type 0} (f : A → List ℕ) (xs : List A) (w : List ℕ) where
  pub holds_at : (ys : List A) (i : ℕ) (d : A) → i < length ys → f (get_or ys i d) ≡ w → Holds (map f ys) w
  holds_at [] i d h e = absurd (omega (arith, h))
  holds_at (y ∷ ys) zero d h e = inl e
  holds_at (y ∷ ys) (suc i) d h e = inr (holds_at ys i d (omega (arith, h)) e)

  pub none_more : (i : ℕ) (d : A) → i < length xs → (Holds (map f (take i xs)) w → ⊥) → (f (get_or xs i d) ≡ w → ⊥) → Holds (map f (take (i + 1) xs)) w → ⊥
  none_more i d h none other k =
      elim (holds_append (map f (take i xs)) (f (get_or xs i d) ∷ []) w (subst (λ z. Holds z w) (ap (map f) (take_more xs i d h) ∙ map-append f (take i xs) (get_or xs i d ∷ [])) k)) [
        | inl a ↦ none a
        | inr b ↦ last b
      ]
    where
      last : Holds (f (get_or xs i d) ∷ []) w → ⊥
      last (inl e) = other e
      last (inr x) = x

  pub none_at_all : (i : ℕ) → length xs ≤ i → (Holds (map f (take i xs)) w → ⊥) → Holds (map f xs) w → ⊥
  none_at_all i h none k = none (subst (λ z. Holds (map f z) w) (sym (take_all i xs h)) k)

-- the words that are in form
pub are_words : (words rest names : List (String Global)) (mode query : String Global) (q : List ℕ) → words ≡ mode ∷ rest → rest ≡ query ∷ names → string_bytes mode ≡ codes "run" → AllDiffer (map string_bytes names) → q ≡ string_bytes query → AreWords (map string_bytes words) q (map string_bytes names)
are_words words rest names mode query q a b m d e =
    let all : words ≡ mode ∷ query ∷ names = a ∙ ap (λ xs. mode ∷ xs) b in
    record {
      all = ap (map string_bytes) all ∙ ap (λ z. z ∷ string_bytes query ∷ map string_bytes names) m ∙ ap (λ z. codes "run" ∷ z ∷ map string_bytes names) (sym e);
      different = d;
    }
