-- Lists in order without repeats: how often an element stands in them, and weights over them.
use Rattle.std.proofs.Common.{◌≡◌, ℕ, zero, suc, ◌+◌, ◌≤◌, Bool, true, false, cond, ◌||◌, List, [], ◌∷◌, refl, sym, ap, ◌∙◌, arith, zero-add, nat_lt, true≢false}
use Rattle.std.proofs.lemmas.Bool.{lt-ltb}
use Rattle.std.specs.Cmp.{IsEquivalence}
use Rattle.doc_table.specs.Orders.{has, put, once}
use Rattle.doc_table.specs.Ascending.{IsOrder}
use Rattle.plan_dag.specs.Orders.{firsts}
use Rattle.lift_laws.specs.Sums.{total, count, bit, AllOf}
use Rattle.lift_laws.proofs.Multi.{total-ext, total-zero, total-sum}
use Rattle.lift_laws.proofs.Picks.{all_mono, total-all}

-- each is before all behind it
abbrev pub Sorted : {A : Type 0} → (A → A → Bool) → List A → Type 0
Sorted less [] = Unit {0}
Sorted less (x ∷ xs) = AllOf (λ y. less x y ≡ true) xs × Sorted less xs

pub some_more : (n : ℕ) → bit (nat_lt 0 (1 + n)) ≡ 1
some_more n = ap bit (lt-ltb 0 (1 + n) (omega arith))

pub none_of : (n : ℕ) → nat_lt 0 n ≡ false → n ≡ 0
none_of zero q = refl
none_of (suc n) q = absurd (true≢false (sym (lt-ltb 0 (suc n) (omega arith)) ∙ q))

one_of : (n : ℕ) (b : Bool) → n ≡ bit b → nat_lt 0 n ≡ true → n ≡ 1
one_of n true p q = p
one_of n false p q = absurd (true≢false (sym q ∙ ap (nat_lt 0) p))

module _ {A : Type 0} (less eq : A → A → Bool) where
  pub put_total : (w : A → ℕ) (x : A) (ys : List A) → total w (put less x ys) ≡ w x + total w ys
  put_total w x [] = refl
  put_total w x (y ∷ ys) =
      let r = put_total w x ys in
      elim (less y x) as (λ b. total w (cond b (y ∷ put less x ys) (x ∷ y ∷ ys)) ≡ w x + (w y + total w ys)) [ true ↦ omega arith | false ↦ refl ]

  pub put_all : (P : A → Type 0) (x : A) (ys : List A) → P x → AllOf P ys → AllOf P (put less x ys)
  put_all P x [] h a = (h, tt)
  put_all P x (y ∷ ys) h a =
      let r = put_all P x ys h a.1 in
      elim (less y x) as (λ b. AllOf P (cond b (y ∷ put less x ys) (x ∷ y ∷ ys))) [ true ↦ (a.0, r) | false ↦ (h, a) ]

  pub once_all : (P : A → Type 0) (xs : List A) → AllOf P xs → AllOf P (once less eq xs)
  once_all P [] a = tt
  once_all P (x ∷ xs) a =
      let r = once_all P xs a.1 in
      elim (has eq x (once less eq xs)) as (λ b. AllOf P (cond b (once less eq xs) (put less x (once less eq xs)))) [ true ↦ r | false ↦ put_all P x (once less eq xs) a.0 r ]

  pub firsts_all : (P : A → Type 0) (seen xs : List A) → AllOf P xs → AllOf P (firsts eq seen xs)
  firsts_all P seen [] a = tt
  firsts_all P seen (x ∷ xs) a =
      let r = firsts_all P seen xs a.1 in
      let q = firsts_all P (x ∷ seen) xs a.1 in
      elim (has eq x seen) as (λ b. AllOf P (cond b (firsts eq seen xs) (x ∷ firsts eq (x ∷ seen) xs))) [ true ↦ r | false ↦ (a.0, q) ]

  pub has_bit : (x : A) (ys : List A) → has eq x ys ≡ nat_lt 0 (count (eq x) ys)
  has_bit x [] = refl
  has_bit x (y ∷ ys) =
      let h = has_bit x ys in
      elim (eq x y) as (λ b. (b || has eq x ys) ≡ nat_lt 0 (bit b + count (eq x) ys)) [
        | true ↦ sym (lt-ltb 0 (1 + count (eq x) ys) (omega arith))
        | false ↦ h ∙ ap (nat_lt 0) (sym (zero-add _))
      ]

  module _ (equal : IsEquivalence eq) where
    same_count : (x y : A) (zs : List A) → eq x y ≡ true → count (eq x) zs ≡ count (eq y) zs
    same_count x y zs e = total-ext _ _ zs (λ z. ap bit (equal.congr x y z e))

    pub once_count : (y : A) (xs : List A) → count (eq y) (once less eq xs) ≡ bit (nat_lt 0 (count (eq y) xs))
    once_count y [] = refl
    once_count y (x ∷ xs) = go (has eq x (once less eq xs)) refl (eq y x) refl (once_count y xs)
      where
        go : (b : Bool) → has eq x (once less eq xs) ≡ b → (d : Bool) → eq y x ≡ d → count (eq y) (once less eq xs) ≡ bit (nat_lt 0 (count (eq y) xs)) → count (eq y) (cond b (once less eq xs) (put less x (once less eq xs))) ≡ bit (nat_lt 0 (bit d + count (eq y) xs))
        go true h true e r =
            let k = sym (has_bit x (once less eq xs)) ∙ h in
            let s = same_count y x (once less eq xs) e in
            one_of (count (eq y) (once less eq xs)) (nat_lt 0 (count (eq y) xs)) r (ap (nat_lt 0) s ∙ k) ∙ sym (some_more (count (eq y) xs))
        go true h false e r = r ∙ ap (λ m. bit (nat_lt 0 m)) (sym (zero-add _))
        go false h true e r =
            let k = sym (has_bit x (once less eq xs)) ∙ h in
            let s = same_count y x (once less eq xs) e in
            let z = none_of (count (eq y) (once less eq xs)) (ap (nat_lt 0) s ∙ k) in
            put_total (λ z. bit (eq y z)) x (once less eq xs) ∙ ap (λ b. bit b + count (eq y) (once less eq xs)) e ∙ ap (λ m. 1 + m) z ∙ sym (some_more (count (eq y) xs))
        go false h false e r = put_total (λ z. bit (eq y z)) x (once less eq xs) ∙ ap (λ b. bit b + count (eq y) (once less eq xs)) e ∙ zero-add _ ∙ r ∙ ap (λ m. bit (nat_lt 0 m)) (sym (zero-add _))

  module _ (order : IsOrder less eq) where
    put_sorted : (x : A) (ys : List A) → has eq x ys ≡ false → Sorted less ys → Sorted less (put less x ys)
    put_sorted x [] h s = (tt, tt)
    put_sorted x (y ∷ ys) h s = go (less y x) refl (eq x y) refl h (λ k. put_sorted x ys k s.1)
      where
        go : (b : Bool) → less y x ≡ b → (d : Bool) → eq x y ≡ d → (d || has eq x ys) ≡ false → (has eq x ys ≡ false → Sorted less (put less x ys)) → Sorted less (cond b (y ∷ put less x ys) (x ∷ y ∷ ys))
        go b p true q k r = absurd (true≢false k)
        go true p false q k r = (put_all (λ z. less y z ≡ true) x ys p s.0, r k)
        go false p false q k r =
            let e = order.third y x p (order.eq_turn y x ∙ q) in
            ((e, all_mono _ _ (λ z (l : less y z ≡ true). order.chain x y z e l) ys s.0), s)

    pub once_sorted : (xs : List A) → Sorted less (once less eq xs)
    once_sorted [] = tt
    once_sorted (x ∷ xs) = go (has eq x (once less eq xs)) refl (once_sorted xs)
      where
        go : (b : Bool) → has eq x (once less eq xs) ≡ b → Sorted less (once less eq xs) → Sorted less (cond b (once less eq xs) (put less x (once less eq xs)))
        go true h s = s
        go false h s = put_sorted x (once less eq xs) h s

-- two sums in turn
total_swap : {A B : Type 0} (f : A → B → ℕ) (xs : List A) (ys : List B) → total (λ x. total (λ y. f x y) ys) xs ≡ total (λ y. total (λ x. f x y) xs) ys
total_swap f [] ys = sym (total-zero ys)
total_swap f (x ∷ xs) ys = ap (λ m. total (λ y. f x y) ys + m) (total_swap f xs ys) ∙ sym (total-sum (λ y. f x y) (λ y. total (λ z. f z y) xs) ys)

-- a fixed weight, counted once
once_weighed : {A : Type 0} (q : A → Bool) (k : ℕ) (ys : List A) → count q ys ≡ 1 → total (λ y. cond (q y) k 0) ys ≡ k
once_weighed q k ys e = (both ys).1 e
  where
    both : (zs : List _) → (count q zs ≡ 0 → total (λ y. cond (q y) k 0) zs ≡ 0) × (count q zs ≡ 1 → total (λ y. cond (q y) k 0) zs ≡ k)
    both [] = ((λ z. refl), (λ z. absurd (omega arith)))
    both (z ∷ zs) =
        let r = both zs in
        elim (q z) as (λ b. (bit b + count q zs ≡ 0 → cond b k 0 + total (λ y. cond (q y) k 0) zs ≡ 0) × (bit b + count q zs ≡ 1 → cond b k 0 + total (λ y. cond (q y) k 0) zs ≡ k)) [
          | true ↦ ((λ h. absurd (omega arith)), (λ h. let a = r.0 (omega arith) in omega arith))
          | false ↦ ((λ h. let a = r.0 (omega arith) in omega arith), (λ h. let a = r.1 (omega arith) in omega arith))
        ]

module _ {A : Type 0} (eq : A → A → Bool) (equal : IsEquivalence eq) where
  at_least : (x : A) (ys : List A) → (y : A) → y ≡ x → 1 ≤ bit (eq x y) + count (eq x) ys
  at_least x ys y e = let h = ap bit (ap (eq x) e ∙ equal.refl x) in omega arith

  -- an element counts itself
  own_counts : (xs : List A) → AllOf (λ x. 1 ≤ count (eq x) xs) xs
  own_counts [] = tt
  own_counts (x ∷ xs) = (at_least x xs x refl, all_mono _ _ (λ y (h : 1 ≤ count (eq y) xs). let r : 1 ≤ bit (eq y x) + count (eq y) xs = omega arith in r) xs (own_counts xs))

  -- two lists without repeats that have the same elements weigh the same, where equal elements do
  pub same_sets : (w : A → ℕ) → ((x y : A) → eq x y ≡ true → w x ≡ w y) → (xs ys : List A) → ((z : A) → count (eq z) xs ≡ count (eq z) ys) → ((z : A) → count (eq z) xs ≤ 1) → total w xs ≡ total w ys
  same_sets w same xs ys e l =
      total-all w (λ x. total (λ y. cond (eq x y) (w x) 0) ys) xs
      (all_mono _ _ (λ x (h : 1 ≤ count (eq x) xs). let a = e x in let b = l x in let c : count (eq x) ys ≡ 1 = omega arith in sym (once_weighed (eq x) (w x) ys c)) xs (own_counts xs))
      ∙ total-ext _ _ xs (λ x. total-ext _ _ ys (λ y. swap x y (eq x y) refl))
      ∙ total_swap (λ x y. cond (eq x y) (w y) 0) xs ys
      ∙ total-all (λ y. total (λ x. cond (eq x y) (w y) 0) xs) w ys
      (all_mono _ _ (λ y (h : 1 ≤ count (eq y) ys).
      let a = e y in let b = l y in
      let t = total-ext (λ x. bit (eq x y)) (λ x. bit (eq y x)) xs (λ x. ap bit (equal.symm x y)) in
      let c : count (λ x. eq x y) xs ≡ 1 = omega arith in once_weighed (λ x. eq x y) (w y) xs c) ys (own_counts ys))
    where
      swap : (x y : A) → (b : Bool) → eq x y ≡ b → cond b (w x) 0 ≡ cond b (w y) 0
      swap x y true q = same x y q
      swap x y false q = refl

  -- first occurrences
  pub firsts_count : (y : A) (seen xs : List A) → count (eq y) (firsts eq seen xs) ≡ cond (has eq y seen) 0 (bit (nat_lt 0 (count (eq y) xs)))
  firsts_count y seen [] = sym (none (has eq y seen))
    where
      none : (b : Bool) → cond {A = ℕ} b 0 0 ≡ 0
      none true = refl
      none false = refl
  firsts_count y seen (x ∷ xs) = go (has eq x seen) refl (eq y x) refl (firsts_count y seen xs) (firsts_count y (x ∷ seen) xs)
    where
      moved : eq y x ≡ true → has eq y seen ≡ has eq x seen
      moved e = same_has seen
        where
          same_has : (zs : List A) → has eq y zs ≡ has eq x zs
          same_has [] = refl
          same_has (z ∷ zs) = ap (λ b. b || has eq y zs) (equal.congr y x z e) ∙ ap (λ b. eq x z || b) (same_has zs)

      go : (b : Bool) → has eq x seen ≡ b → (d : Bool) → eq y x ≡ d → count (eq y) (firsts eq seen xs) ≡ cond (has eq y seen) 0 (bit (nat_lt 0 (count (eq y) xs)))
          → count (eq y) (firsts eq (x ∷ seen) xs) ≡ cond (eq y x || has eq y seen) 0 (bit (nat_lt 0 (count (eq y) xs)))
          → count (eq y) (cond b (firsts eq seen xs) (x ∷ firsts eq (x ∷ seen) xs)) ≡ cond (has eq y seen) 0 (bit (nat_lt 0 (bit d + count (eq y) xs)))
      go true h true e r q = r ∙ ap (λ b. cond b 0 (bit (nat_lt 0 (count (eq y) xs)))) (moved e ∙ h) ∙ sym (ap (λ b. cond b 0 (bit (nat_lt 0 (1 + count (eq y) xs)))) (moved e ∙ h))
      go true h false e r q = r ∙ ap (λ m. cond (has eq y seen) 0 (bit (nat_lt 0 m))) (sym (zero-add _))
      go false h true e r q =
          ap (λ b. bit b + count (eq y) (firsts eq (x ∷ seen) xs)) e ∙ ap (λ m. 1 + m) (q ∙ ap (λ b. cond (b || has eq y seen) 0 (bit (nat_lt 0 (count (eq y) xs)))) e)
          ∙ sym (ap (λ b. cond b 0 (bit (nat_lt 0 (1 + count (eq y) xs)))) (moved e ∙ h) ∙ some_more (count (eq y) xs))
      go false h false e r q =
          ap (λ b. bit b + count (eq y) (firsts eq (x ∷ seen) xs)) e ∙ zero-add _ ∙ q ∙ ap (λ b. cond (b || has eq y seen) 0 (bit (nat_lt 0 (count (eq y) xs)))) e
          ∙ ap (λ m. cond (has eq y seen) 0 (bit (nat_lt 0 m))) (sym (zero-add _))
