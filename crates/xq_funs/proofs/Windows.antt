-- The characters at the places of a window are those behind some and before others.
use Rattle.std.proofs.Common.{◌≡◌, ◌≤◌, ◌+◌, ◌-◌, ℕ, zero, suc, Bool, true, false, ◌&&◌, cond, List, [], ◌∷◌, take, drop, refl, sym, ap, ◌∙◌, arith, ℤ, Some, None}
use Rattle.std.specs.Prelude.{nat_lt, pos, negsuc, ◌+ℤ◌, int_le, int_lt}
use Rattle.std.specs.Str.{chars, encode_utf8_all}
use Rattle.std.proofs.lemmas.Bool.{lt-ltb, le-ltb, ltb-true, ltb-false}
use Rattle.xq_base.specs.Texts.{Text}
use Rattle.xq_base.specs.Words.{is_selected, at_places, text_part}
use Rattle.xq_funs.specs.Windows.{natural, skipped, selected}

drop-none : {A : Type 0} (n : ℕ) → ◌≡◌ {A = List A} (drop n []) []
drop-none zero = refl
drop-none (suc n) = refl

take-none : {A : Type 0} (n : ℕ) → ◌≡◌ {A = List A} (take n []) []
take-none zero = refl
take-none (suc n) = refl

module _ {A : Type 0} (passes : ℕ → Bool) where
  -- places behind `a`
  from : (a p : ℕ) → ((q : ℕ) → p ≤ q → passes q ≡ nat_lt a q) → (xs : List A) → at_places passes p xs ≡ drop (a + 1 - p) xs
  from a p h [] = sym (drop-none (a + 1 - p))
  from a p h (x ∷ xs) = by (nat_lt a p) (from a (p + 1) (λ q l. h q (omega (arith, l))) xs) refl
    where
      by : (b : Bool) → at_places passes (p + 1) xs ≡ drop (a + 1 - (p + 1)) xs → nat_lt a p ≡ b → at_places passes p (x ∷ xs) ≡ drop (a + 1 - p) (x ∷ xs)
      by true rest e =
          let l = ltb-true a p e in
          let none : a + 1 - p ≡ 0 = omega (arith, l) in
          let less : a + 1 - (p + 1) ≡ 0 = omega (arith, l) in
          ap (λ c. cond c (x ∷ at_places passes (p + 1) xs) (at_places passes (p + 1) xs)) (h p (omega arith) ∙ e)
          ∙ ap (λ z. x ∷ z) (rest ∙ ap (λ n. drop n xs) less) ∙ ap (λ n. drop n (x ∷ xs)) (sym none)
      by false rest e =
          let l = ltb-false a p e in
          let more : suc (a + 1 - (p + 1)) ≡ a + 1 - p = omega (arith, l) in
          ap (λ c. cond c (x ∷ at_places passes (p + 1) xs) (at_places passes (p + 1) xs)) (h p (omega arith) ∙ e)
          ∙ rest ∙ ap (λ n. drop n (x ∷ xs)) more

  -- places behind `a` and before `b`
  between : (a b p : ℕ) → ((q : ℕ) → p ≤ q → passes q ≡ (nat_lt a q && nat_lt q b)) → (xs : List A) → at_places passes p xs ≡ take (b - (a + 1 + (p - (a + 1)))) (drop (a + 1 - p) xs)
  between a b p h [] = sym (ap (take (b - (a + 1 + (p - (a + 1))))) (drop-none (a + 1 - p)) ∙ take-none (b - (a + 1 + (p - (a + 1)))))
  between a b p h (x ∷ xs) = by (nat_lt a p) (nat_lt p b) (between a b (p + 1) (λ q l. h q (omega (arith, l))) xs) refl refl
    where
      by : (c d : Bool) → at_places passes (p + 1) xs ≡ take (b - (a + 1 + (p + 1 - (a + 1)))) (drop (a + 1 - (p + 1)) xs) → nat_lt a p ≡ c → nat_lt p b ≡ d → at_places passes p (x ∷ xs) ≡ take (b - (a + 1 + (p - (a + 1)))) (drop (a + 1 - p) (x ∷ xs))
      by false d rest e k =
          let l = ltb-false a p e in
          let more : suc (a + 1 - (p + 1)) ≡ a + 1 - p = omega (arith, l) in
          let same : b - (a + 1 + (p + 1 - (a + 1))) ≡ b - (a + 1 + (p - (a + 1))) = omega (arith, l) in
          ap (λ c. cond c (x ∷ at_places passes (p + 1) xs) (at_places passes (p + 1) xs)) (h p (omega arith) ∙ ap (λ c. c && nat_lt p b) e)
          ∙ rest ∙ ap (λ n. take n (drop (a + 1 - (p + 1)) xs)) same ∙ ap (λ n. take (b - (a + 1 + (p - (a + 1)))) (drop n (x ∷ xs))) more
      by true true rest e k =
          let l = ltb-true a p e in
          let m = ltb-true p b k in
          let none : a + 1 - p ≡ 0 = omega (arith, l) in
          let less : a + 1 - (p + 1) ≡ 0 = omega (arith, l) in
          let count : suc (b - (a + 1 + (p + 1 - (a + 1)))) ≡ b - (a + 1 + (p - (a + 1))) = omega (arith, l, m) in
          ap (λ c. cond c (x ∷ at_places passes (p + 1) xs) (at_places passes (p + 1) xs)) (h p (omega arith) ∙ ap (λ c. c && nat_lt p b) e ∙ k)
          ∙ ap (λ z. x ∷ z) (rest ∙ ap (λ n. take (b - (a + 1 + (p + 1 - (a + 1)))) (drop n xs)) less)
          ∙ ap (λ n. take n (x ∷ xs)) count ∙ ap (λ n. take (b - (a + 1 + (p - (a + 1)))) (drop n (x ∷ xs))) (sym none)
      by true false rest e k =
          let l = ltb-true a p e in
          let m = ltb-false p b k in
          let zero-left : b - (a + 1 + (p + 1 - (a + 1))) ≡ 0 = omega (arith, l, m) in
          let zero-now : 0 ≡ b - (a + 1 + (p - (a + 1))) = omega (arith, l, m) in
          ap (λ c. cond c (x ∷ at_places passes (p + 1) xs) (at_places passes (p + 1) xs)) (h p (omega arith) ∙ ap (λ c. c && nat_lt p b) e ∙ k)
          ∙ rest ∙ ap (λ n. take n (drop (a + 1 - (p + 1)) xs)) zero-left ∙ ap (λ n. take n (drop (a + 1 - p) (x ∷ xs))) zero-now

-- ---- selected places

begins : (start : ℤ) (q : ℕ) → 1 ≤ q → int_le start (pos q) ≡ nat_lt (skipped start) q
begins (pos n) q l = grind arith
begins (negsuc n) q l = sym (lt-ltb 0 q (omega (arith, l)))

ends : (z : ℤ) (q : ℕ) → int_lt (pos q) z ≡ nat_lt q (natural z)
ends (pos n) q = refl
ends (negsuc n) q = sym (le-ltb q 0 (omega arith))

pub part_from : (t : Text) (start : ℤ) → text_part t start None ≡ encode_utf8_all (drop (skipped start) (chars t))
part_from t start =
    let one : skipped start + 1 - 1 ≡ skipped start = omega arith in
    ap encode_utf8_all (from (is_selected start None) (skipped start) 1 (begins start) (chars t) ∙ ap (λ n. drop n (chars t)) one)

pub part_between : (t : Text) (start n : ℤ) → text_part t start (Some n) ≡ encode_utf8_all (take (selected start n) (drop (skipped start) (chars t)))
part_between t start n =
    let one : skipped start + 1 - 1 ≡ skipped start = omega arith in
    let count : natural (start +ℤ n) - (skipped start + 1 + (1 - (skipped start + 1))) ≡ selected start n = omega arith in
    ap encode_utf8_all (between (is_selected start (Some n)) (skipped start) (natural (start +ℤ n)) 1
    (λ q l. ap (λ b. b && int_lt (pos q) (start +ℤ n)) (begins start q l) ∙ ap (λ b. nat_lt (skipped start) q && b) (ends (start +ℤ n) q)) (chars t)
    ∙ ap (λ k. take (natural (start +ℤ n) - (skipped start + 1 + (1 - (skipped start + 1)))) (drop k (chars t))) one
    ∙ ap (λ k. take k (drop (skipped start) (chars t))) count)
