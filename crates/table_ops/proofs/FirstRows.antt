-- The rows at the first places of keys are the first of equal rows.
use Rattle.std.proofs.Common.{◌≡◌, ◌≤◌, ◌++◌, ◌∙◌, ◌||◌, ℕ, suc, Bool, true, false, cond, not, List, [], ◌∷◌, length, map, nat_eq, refl, ap, sym, subst, arith, true≢false}
use Rattle.std.specs.Prelude.{slice_index_or, nat_lt}
use Rattle.std.proofs.lemmas.Bool.Decides.{Decides-eqb, Decides-ltb}
use Rattle.plan_dag.specs.Orders.{has, firsts}
use Rattle.table_ops.specs.Keys.{InTurn, TellsFrom, new_places}

-- the keys of what was seen, the last first
pub CountsDown : List ℕ → Type 0
CountsDown [] = Unit {0}
CountsDown (k ∷ ks) = (k ≡ length ks) × CountsDown ks

below_next : (a n : ℕ) → nat_eq a n || nat_lt a n ≡ nat_lt a (suc n)
below_next a n = by (nat_eq a n) refl (nat_lt a n) refl
  where
    by : (b : Bool) → nat_eq a n ≡ b → (c : Bool) → nat_lt a n ≡ c → b || c ≡ nat_lt a (suc n)
    by true e c f = sym ((Decides-ltb a (suc n)).1 (omega (arith, (Decides-eqb a n).0 e)))
    by false e true f = sym ((Decides-ltb a (suc n)).1 (omega (arith, (Decides-ltb a n).0 f)))
    by false e false f = sym (above (nat_lt a (suc n)) refl)
      where
        above : (d : Bool) → nat_lt a (suc n) ≡ d → nat_lt a (suc n) ≡ false
        above true s = near (nat_eq a n) refl (nat_lt a n) refl
          where
            near : (x : Bool) → nat_eq a n ≡ x → (y : Bool) → nat_lt a n ≡ y → nat_lt a (suc n) ≡ false
            near true p y q = absurd (true≢false (sym p ∙ e))
            near false p true q = absurd (true≢false (sym q ∙ f))
            near false p false q = grind (arith, Decides-eqb, Decides-ltb, p, q, s)
        above false s = s

module _ {X : Type 0} (same : X → X → Bool) (f : X → ℕ) where
  many : (xs : List X) → length (map f xs) ≡ length xs
  many [] = refl
  many (x ∷ xs) = ap suc (many xs)

  has_is : (x : X) (seen : List X) → TellsFrom same f f seen → CountsDown (map f seen) → has same x seen ≡ nat_lt (f x) (length seen)
  unfolding CountsDown
  has_is x [] t c = sym (none (nat_lt (f x) 0) refl)
    where
      none : (b : Bool) → nat_lt (f x) 0 ≡ b → nat_lt (f x) 0 ≡ false
      none true e = absurd (omega (arith, (Decides-ltb (f x) 0).0 e))
      none false e = e
  has_is x (y ∷ seen) t c =
      (λ i. t.0 x i || has_is x seen t.1 c.1 i)
      ∙ ap (λ n. nat_eq (f x) n || nat_lt (f x) (length seen)) (c.0 ∙ many seen)
      ∙ below_next (f x) (length seen)

  app : (xs : List X) (y : X) (zs : List X) → (xs ++ y ∷ []) ++ zs ≡ xs ++ y ∷ zs
  app [] y zs = refl
  app (x ∷ xs) y zs = ap (λ (z : List _). x ∷ z) (app xs y zs)

  longer : (done : List X) (p : X) → length (done ++ p ∷ []) ≡ suc (length done)
  longer [] p = refl
  longer (d ∷ done) p = ap suc (longer done p)

  at_end : (done : List X) (p : X) (ps : List X) (d : X) → slice_index_or (done ++ p ∷ ps) (length done) d ≡ p
  at_end [] p ps d = refl
  at_end (x ∷ done) p ps d = at_end done p ps d

  new_key : (k n : ℕ) → k ≤ n → nat_lt k n ≡ not (nat_eq k n)
  new_key k n l = by (nat_eq k n) refl
    where
      by : (b : Bool) → nat_eq k n ≡ b → nat_lt k n ≡ not b
      by true e = not_less (nat_lt k n) refl
        where
          not_less : (c : Bool) → nat_lt k n ≡ c → nat_lt k n ≡ false
          not_less true s = absurd (omega (arith, (Decides-ltb k n).0 s, (Decides-eqb k n).0 e))
          not_less false s = s
      by false e = less (nat_lt k n) refl
        where
          less : (c : Bool) → nat_lt k n ≡ c → nat_lt k n ≡ true
          less true s = s
          less false s = grind (arith, Decides-ltb, Decides-eqb, s, e, l)

  pub firsts_are : (d : X) (seen done rows : List X) → TellsFrom same f f seen → TellsFrom same f f rows → CountsDown (map f seen) → InTurn (length seen) (map f rows)
      → map (λ p. slice_index_or (done ++ rows) p d) (new_places (length seen) (length done) (map f rows)) ≡ firsts same seen rows
  unfolding CountsDown
  firsts_are d seen done [] ts us c h = refl
  firsts_are d seen done (x ∷ rows) ts us c h =
      by (nat_eq (f x) (length seen)) refl (has same x seen) (has_is x seen ts c ∙ new_key (f x) (length seen) h.0)
      (λ s. moved (x ∷ seen) (firsts_are d (x ∷ seen) (done ++ x ∷ []) rows (us.0, ts) us.1 ((Decides-eqb (f x) (length seen)).0 s ∙ sym (many seen), c) (subst (λ b. InTurn (cond b (suc (length seen)) (length seen)) (map f rows)) s h.1)))
      (λ s. moved seen (firsts_are d seen (done ++ x ∷ []) rows ts us.1 c (subst (λ b. InTurn (cond b (suc (length seen)) (length seen)) (map f rows)) s h.1)))
    where
      moved : (s : List X) → map (λ p. slice_index_or ((done ++ x ∷ []) ++ rows) p d) (new_places (length s) (length (done ++ x ∷ [])) (map f rows)) ≡ firsts same s rows → map (λ p. slice_index_or (done ++ x ∷ rows) p d) (new_places (length s) (suc (length done)) (map f rows)) ≡ firsts same s rows
      moved s e =
          ap (λ n. map (λ p. slice_index_or (done ++ x ∷ rows) p d) (new_places (length s) n (map f rows))) (sym (longer done x))
          ∙ ap (λ z. map (λ p. slice_index_or z p d) (new_places (length s) (length (done ++ x ∷ [])) (map f rows))) (sym (app done x rows))
          ∙ e

      by : (b : Bool) → nat_eq (f x) (length seen) ≡ b → (e : Bool) → e ≡ not (nat_eq (f x) (length seen))
          → (nat_eq (f x) (length seen) ≡ true → map (λ p. slice_index_or (done ++ x ∷ rows) p d) (new_places (suc (length seen)) (suc (length done)) (map f rows)) ≡ firsts same (x ∷ seen) rows)
          → (nat_eq (f x) (length seen) ≡ false → map (λ p. slice_index_or (done ++ x ∷ rows) p d) (new_places (length seen) (suc (length done)) (map f rows)) ≡ firsts same seen rows)
          → map (λ p. slice_index_or (done ++ x ∷ rows) p d) (cond b (length done ∷ new_places (suc (length seen)) (suc (length done)) (map f rows)) (new_places (length seen) (suc (length done)) (map f rows)))
          ≡ cond e (firsts same seen rows) (x ∷ firsts same (x ∷ seen) rows)
      by true s true e new old = absurd (true≢false (e ∙ ap not s))
      by true s false e new old = λ i. at_end done x rows d i ∷ new s i
      by false s true e new old = old s
      by false s false e new old = absurd (true≢false (sym (e ∙ ap not s)))

  pub first_rows_are : (d : X) (rows : List X) → TellsFrom same f f rows → InTurn 0 (map f rows) → map (λ p. slice_index_or rows p d) (new_places 0 0 (map f rows)) ≡ firsts same [] rows
  unfolding CountsDown
  first_rows_are d rows t h = firsts_are d [] [] rows tt t tt h
