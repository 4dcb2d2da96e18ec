-- The numbers that pass, ascending.
use Rattle.std.proofs.Common.{◌≡◌, ℕ, zero, suc, ◌+◌, ◌-◌, ◌<◌, ◌≤◌, Bool, true, false, cond, List, [], ◌∷◌, ◌++◌, length, take, refl, sym, ap, ◌∙◌, subst, arith, append_assoc}
use Rattle.std.proofs.lemmas.List.{append-nil}
use Rattle.doc_table.specs.Touched.{picked}

picked-none : (p : ℕ → Bool) (a k : ℕ) → ((w : ℕ) → a ≤ w → w < k + a → p w ≡ false) → picked p (k + a) ≡ picked p a
picked-none p a zero h = let e : zero + a ≡ a = omega arith in ap (picked p) e
picked-none p a (suc k) h =
    let e : suc k + a ≡ suc (k + a) = omega arith in
    let t : p (k + a) ≡ false = h (k + a) (omega arith) (omega arith) in
    ap (picked p) e ∙ rw t (append-nil (picked p (k + a))) ∙ picked-none p a k (λ w x y. h w x (omega arith))

-- nothing between
pub picked-same : (p : ℕ → Bool) (a b : ℕ) → a ≤ b → ((w : ℕ) → a ≤ w → w < b → p w ≡ false) → picked p b ≡ picked p a
picked-same p a b l h =
    let e : b ≡ (b - a) + a = omega arith in
    let P : ℕ → Type 0 = λ z. ((w : ℕ) → a ≤ w → w < z → p w ≡ false) → picked p z ≡ picked p a in
    subst P (sym e) (picked-none p a (b - a)) h

take-all : (xs ys : List ℕ) → take (length xs) (xs ++ ys) ≡ xs
take-all [] ys = refl
take-all (x ∷ xs) ys = ap (λ z. x ∷ z) (take-all xs ys)

picked-front : (p : ℕ → Bool) (a k : ℕ) → (ys : List ℕ) × (picked p (k + a) ≡ picked p a ++ ys)
picked-front p a zero = let e : zero + a ≡ a = omega arith in ([], ap (picked p) e ∙ sym (append-nil (picked p a)))
picked-front p a (suc k) =
    let e : suc k + a ≡ suc (k + a) = omega arith in
    let r = picked-front p a k in
    let last : List ℕ = cond (p (k + a)) ((k + a) ∷ []) [] in
    (r.0 ++ last, ap (picked p) e ∙ ap (λ z. z ++ last) r.1 ∙ append_assoc (picked p a) r.0 last)

-- what is picked below a stands at the front of what is picked below b
pub picked-prefix : (p : ℕ → Bool) (a b : ℕ) → a ≤ b → take (length (picked p a)) (picked p b) ≡ picked p a
picked-prefix p a b l =
    let e : b ≡ (b - a) + a = omega arith in
    let r = picked-front p a (b - a) in
    let whole : picked p b ≡ picked p a ++ r.0 = ap (picked p) e ∙ r.1 in
    ap (take (length (picked p a))) whole ∙ take-all (picked p a) r.0

pub picked-like : (p q : ℕ → Bool) (n : ℕ) → ((w : ℕ) → w < n → p w ≡ q w) → picked p n ≡ picked q n
picked-like p q zero h = refl
picked-like p q (suc n) h = rw (h n (omega arith), picked-like p q n (λ w l. h w (omega arith))) refl

-- one number more, and none between
pub picked-next : (p : ℕ → Bool) (a b : ℕ) → a ≤ b → ((w : ℕ) → a ≤ w → w < b → p w ≡ false) → p b ≡ true → picked p (b + 1) ≡ picked p a ++ b ∷ []
picked-next p a b l h e =
    let s : b + 1 ≡ suc b = omega arith in
    ap (picked p) s ∙ ap (λ z. picked p b ++ cond z (b ∷ []) []) e ∙ ap (λ z. z ++ b ∷ []) (picked-same p a b l h)
