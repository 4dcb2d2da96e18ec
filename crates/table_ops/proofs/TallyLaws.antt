-- How often keys come, key by key.
use Rattle.std.proofs.Common.{◌≡◌, ◌<◌, ◌≤◌, ◌+◌, ◌∙◌, ℕ, zero, suc, Bool, true, false, cond, List, [], ◌∷◌, length, map, take, nat_eq, refl, ap, arith}
use Rattle.std.specs.Prelude.{slice_index, slice_index_or}
use Rattle.std.specs.List.{filter}
use Rattle.table_ops.specs.Columns.{numbers_from}
use Rattle.table_ops.specs.Groups.{counts_of}

filter_short : (p : ℕ → Bool) (xs : List ℕ) → length (filter p xs) ≤ length xs
filter_short p [] = omega arith
filter_short p (x ∷ xs) = by (p x) (filter_short p xs)
  where
    by : (b : Bool) → length (filter p xs) ≤ length xs → length (cond b (x ∷ filter p xs) (filter p xs)) ≤ suc (length xs)
    by true h = omega (arith, h)
    by false h = omega (arith, h)

take_short : (n : ℕ) (xs : List ℕ) → length (take n xs) ≤ n
take_short zero [] = omega arith
take_short zero (x ∷ xs) = omega arith
take_short (suc n) [] = omega arith
take_short (suc n) (x ∷ xs) = omega (arith, take_short n xs)

pub tally_short : (p : ℕ → Bool) (n : ℕ) (xs : List ℕ) → length (filter p (take n xs)) ≤ n
tally_short p n xs = omega (arith, filter_short p (take n xs), take_short n xs)

pub any_default : {X : Type 0} (xs : List X) (k : ℕ) (d e : X) → k < length xs → slice_index_or xs k d ≡ slice_index_or xs k e
any_default [] k d e h = absurd (omega (arith, h))
any_default (x ∷ xs) zero d e h = refl
any_default (x ∷ xs) (suc k) d e h = any_default xs k d e (omega (arith, h))

take_over : (n : ℕ) (xs : List ℕ) → length xs ≤ n → take n xs ≡ xs
take_over zero [] h = refl
take_over zero (x ∷ xs) h = absurd (omega (arith, h))
take_over (suc n) [] h = refl
take_over (suc n) (x ∷ xs) h = ap (λ z. x ∷ z) (take_over n xs (omega (arith, h)))

by_number : (f : ℕ → ℕ) (k n : ℕ) (xs : List ℕ) → length xs ≡ n → ((j : ℕ) → j < n → slice_index xs j ≡ f (k + j)) → xs ≡ map f (numbers_from k n)
by_number f k zero [] e h = refl
by_number f k zero (x ∷ xs) e h = absurd (omega (arith, e))
by_number f k (suc n) [] e h = absurd (omega (arith, e))
by_number f k (suc n) (x ∷ xs) e h =
    let here : k + 0 ≡ k = omega arith in
    λ i. (h 0 (omega arith) ∙ ap f here) i ∷ by_number f (suc k) n xs (omega (arith, e)) (λ j l. h (suc j) (omega (arith, l)) ∙ ap f (next j)) i
  where
    next : (j : ℕ) → k + suc j ≡ suc k + j
    next j = omega arith

pub tally_is : (groups n : ℕ) (counts keys : List ℕ) → length counts ≡ groups → length keys ≤ n → ((k : ℕ) → k < groups → slice_index counts k ≡ length (filter (nat_eq k) (take n keys))) → counts ≡ counts_of groups keys
tally_is groups n counts keys e l h = by_number (λ k. length (filter (nat_eq k) keys)) 0 groups counts e (λ j b. h j b ∙ ap (λ z. length (filter (nat_eq j) z)) (take_over n keys l) ∙ ap (λ k. length (filter (nat_eq k) keys)) (zero_plus j))
  where
    zero_plus : (j : ℕ) → j ≡ 0 + j
    zero_plus j = omega arith
