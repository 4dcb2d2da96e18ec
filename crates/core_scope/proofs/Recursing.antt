-- The first refusal of recursion, function by function.
use Rattle.std.proofs.Common.{◌≡◌, refl, sym, ap, subst, ◌∙◌, ℕ, ◌+◌, ◌<◌, Bool, true, false, cond, List, get_or, Option, Some, None, ◌⊎◌, inl, inr, nat_eq, arith}
use Rattle.xq_base.specs.declared.code.Code.TheVariants as code
use Rattle.core_scope.specs.declared.refusal.Refusal.{Refusal}
use Rattle.core_scope.specs.Walk.{refused}
use Rattle.core_scope.specs.Refusals.{Comes, earlier, is_before}
use Rattle.core_scope.specs.Search.{Graph, targets, Decides}
use Rattle.core_scope.specs.Leasts.{IsLeast, first_of_two, is_first}
use Rattle.core_scope.specs.Kinds.{IsRecursive}
use Rattle.core_scope.proofs.Leasting.{first_of_both, least_same, not_before_itself}

pub none_recursive : (calls : Graph) (offsets : List ℕ) → IsLeast (IsRecursive calls offsets 0) None
none_recursive calls offsets = λ r p. at p.0 p.1
  where
    at : (k : ℕ) → k < 0 → ⊥
    at k h = omega (arith, h)

module _ (calls : Graph) (offsets : List ℕ) (n : ℕ) where
  before : (r : Refusal) → IsRecursive calls offsets n r → IsRecursive calls offsets (n + 1) r
  before r p = let h : p.0 < n = p.1 in (p.0, omega (arith, h), p.2, p.3)

  this : Comes (targets calls) n n → (r : Refusal) → r ≡ refused code.PFRC0001 (get_or offsets n 0) → IsRecursive calls offsets (n + 1) r
  this c r e = (n, omega arith, c, e)

  split : (r : Refusal) → IsRecursive calls offsets (n + 1) r → (Comes (targets calls) n n × (r ≡ refused code.PFRC0001 (get_or offsets n 0))) ⊎ IsRecursive calls offsets n r
  split r p = at (nat_eq p.0 n) refl
    where
      at : (b : Bool) → nat_eq p.0 n ≡ b → (Comes (targets calls) n n × (r ≡ refused code.PFRC0001 (get_or offsets n 0))) ⊎ IsRecursive calls offsets n r
      at true e =
          let q : p.0 ≡ n = grind (arith, e) in
          inl (subst (λ k. Comes (targets calls) k k) q p.2, subst (λ k. r ≡ refused code.PFRC0001 (get_or offsets k 0)) q p.3)
      at false e = let h : p.0 < n + 1 = p.1 in inr (p.0, grind (arith, e, h), p.2, p.3)

  pub not_recursive : (first : Option Refusal) → (Comes (targets calls) n n → ⊥) → IsLeast (IsRecursive calls offsets n) first → IsLeast (IsRecursive calls offsets (n + 1)) first
  not_recursive first no_way l = least_same (IsRecursive calls offsets n) (IsRecursive calls offsets (n + 1)) first before (λ r p. at r (split r p)) l
    where
      at : (r : Refusal) → (Comes (targets calls) n n × (r ≡ refused code.PFRC0001 (get_or offsets n 0))) ⊎ IsRecursive calls offsets n r → IsRecursive calls offsets n r
      at r (inl p) = let x : ⊥ = no_way p.0 in elim x [ ]
      at r (inr p) = p

  -- a function whose refusal doesn't stand before the first so far changes nothing, whether it calls itself or not
  pub not_first : (first : Option Refusal) → is_first (refused code.PFRC0001 (get_or offsets n 0)) first ≡ false →
      IsLeast (IsRecursive calls offsets n) first → IsLeast (IsRecursive calls offsets (n + 1)) first
  not_first None e l = cc
  not_first (Some b) e l = (before b l.0, λ x p. at x (split x p))
    where
      at : (x : Refusal) → (Comes (targets calls) n n × (x ≡ refused code.PFRC0001 (get_or offsets n 0))) ⊎ IsRecursive calls offsets n x → is_before x b ≡ false
      at x (inl p) = ap (λ z. is_before z b) p.1 ∙ e
      at x (inr p) = l.1 x p

  pub recursive : (first : Option Refusal) → Comes (targets calls) n n → IsLeast (IsRecursive calls offsets n) first →
      IsLeast (IsRecursive calls offsets (n + 1)) (Some (earlier (refused code.PFRC0001 (get_or offsets n 0)) first))
  recursive first way l =
      least_same (λ r. (r ≡ refused code.PFRC0001 (get_or offsets n 0)) ⊎ IsRecursive calls offsets n r) (IsRecursive calls offsets (n + 1))
      (Some (earlier (refused code.PFRC0001 (get_or offsets n 0)) first)) (λ r p. at r p) (λ r p. back r (split r p))
      (first_of_both (λ r. r ≡ refused code.PFRC0001 (get_or offsets n 0)) (IsRecursive calls offsets n) (Some (refused code.PFRC0001 (get_or offsets n 0))) first
      (refl, λ r e. itself r e) l)
    where
      at : (r : Refusal) → (r ≡ refused code.PFRC0001 (get_or offsets n 0)) ⊎ IsRecursive calls offsets n r → IsRecursive calls offsets (n + 1) r
      at r (inl e) = this way r e
      at r (inr p) = before r p

      back : (r : Refusal) → (Comes (targets calls) n n × (r ≡ refused code.PFRC0001 (get_or offsets n 0))) ⊎ IsRecursive calls offsets n r →
          (r ≡ refused code.PFRC0001 (get_or offsets n 0)) ⊎ IsRecursive calls offsets n r
      back r (inl p) = inl p.1
      back r (inr p) = inr p

      itself : (r : Refusal) → r ≡ refused code.PFRC0001 (get_or offsets n 0) → is_before r (refused code.PFRC0001 (get_or offsets n 0)) ≡ false
      itself r e = ap (λ x. is_before x (refused code.PFRC0001 (get_or offsets n 0))) e ∙ not_before_itself (refused code.PFRC0001 (get_or offsets n 0))
