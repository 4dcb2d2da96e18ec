-- Ranks that never rise along a graph: what a node comes to has no greater rank, and where the node falls, a lesser one.
use Rattle.std.proofs.Common.{◌≡◌, refl, sym, ap, subst, ◌∙◌, ℕ, zero, suc, ◌+◌, ◌-◌, ◌<◌, ◌≤◌, length, Bool, true, false, ◌&&◌, nat_lt, nat_le, nat_eq, List, [], ◌∷◌, get_or, inl, inr, arith}
use Rattle.core_scope.specs.Refusals.{Comes, straight, through}
use Rattle.core_scope.specs.Search.{Graph, targets}
use Rattle.core_scope.specs.Ranks.{rank_of, at_most, NeverRise, falls}
use Rattle.core_scope.proofs.Searching.{In, contains_in}

both : (a b : Bool) → (a && b) ≡ true → (a ≡ true) × (b ≡ true)
both true b e = (refl, e)
both false b e = cc

-- one of some nodes of which none has a greater rank
at_most_in : (ranks : List ℕ) (most : ℕ) (ks : List ℕ) (k : ℕ) → at_most ranks most ks ≡ true → In k ks → rank_of ranks k ≤ most
at_most_in ranks most [] k e i = elim i [ ]
at_most_in ranks most (x ∷ ks) k e (inl p) =
    let h : nat_le (rank_of ranks x) most ≡ true = (both (nat_le (rank_of ranks x) most) (at_most ranks most ks) e).0 in
    subst (λ z. rank_of ranks z ≤ most) p (grind (arith, h))
at_most_in ranks most (x ∷ ks) k e (inr i) = at_most_in ranks most ks k (both (nat_le (rank_of ranks x) most) (at_most ranks most ks) e).1 i

-- a node with targets is there
is_there : (g : Graph) (k t : ℕ) → In t (targets g k) → k < length g
is_there [] k t i = elim i [ ]
is_there (ts ∷ g) zero t i = omega arith
is_there (ts ∷ g) (suc k) t i = let h : k < length g = is_there g k t i in omega (arith, h)

-- where nothing has a rank, none rises
none_at_most : (ks : List ℕ) → at_most [] 0 ks ≡ true
none_at_most [] = refl
none_at_most (k ∷ ks) = none_at_most ks

pub none_rise : (g : Graph) → NeverRise g []
none_rise g k h = none_at_most (targets g k)

-- a turn of the loop
pub rise_turn : (g : Graph) (ranks : List ℕ) (n : ℕ) → ((k : ℕ) → k < n → at_most ranks (rank_of ranks k) (targets g k) ≡ true) →
    at_most ranks (rank_of ranks n) (targets g n) ≡ true → (k : ℕ) → k < n + 1 → at_most ranks (rank_of ranks k) (targets g k) ≡ true
rise_turn g ranks n before this k h = at (nat_eq k n) refl
  where
    at : (b : Bool) → nat_eq k n ≡ b → at_most ranks (rank_of ranks k) (targets g k) ≡ true
    at true e = let p : n ≡ k = grind (arith, e) in subst (λ z. at_most ranks (rank_of ranks z) (targets g z) ≡ true) p this
    at false e = before k (grind (arith, e, h))

module _ (g : Graph) (ranks : List ℕ) (never : NeverRise g ranks) where
  step : (k t : ℕ) → In t (targets g k) → rank_of ranks t ≤ rank_of ranks k
  step k t i = at_most_in ranks (rank_of ranks k) (targets g k) t (never k (is_there g k t i)) i

  never_above : (f h : ℕ) → Comes (targets g) f h → rank_of ranks h ≤ rank_of ranks f
  never_above f h (straight s) = step f h (contains_in (targets g f) h s.0 s.1 s.2)
  never_above f h (through {g = j} s rest) =
      let a : rank_of ranks j ≤ rank_of ranks f = step f j (contains_in (targets g f) j s.0 s.1 s.2) in
      let b : rank_of ranks h ≤ rank_of ranks j = never_above j h rest in
      omega (arith, a, b)

  first_step : (k t : ℕ) → falls g ranks k ≡ true → In t (targets g k) → rank_of ranks t < rank_of ranks k
  first_step k t e i =
      let p : (nat_lt 0 (rank_of ranks k) ≡ true) × (at_most ranks (rank_of ranks k - 1) (targets g k) ≡ true) =
      both (nat_lt 0 (rank_of ranks k)) (at_most ranks (rank_of ranks k - 1) (targets g k)) e in
      let some : 0 < rank_of ranks k = grind (arith, p.0) in
      let less : rank_of ranks t ≤ rank_of ranks k - 1 = at_most_in ranks (rank_of ranks k - 1) (targets g k) t p.1 i in
      omega (arith, some, less)

  always_below : (f h : ℕ) → falls g ranks f ≡ true → Comes (targets g) f h → rank_of ranks h < rank_of ranks f
  always_below f h e (straight s) = first_step f h e (contains_in (targets g f) h s.0 s.1 s.2)
  always_below f h e (through {g = j} s rest) =
      let a : rank_of ranks j < rank_of ranks f = first_step f j e (contains_in (targets g f) j s.0 s.1 s.2) in
      let b : rank_of ranks h ≤ rank_of ranks j = never_above j h rest in
      omega (arith, a, b)

  pub no_way_back : (k : ℕ) → falls g ranks k ≡ true → Comes (targets g) k k → ⊥
  no_way_back k e c = let h : rank_of ranks k < rank_of ranks k = always_below k k e c in omega (arith, h)
