-- The first of a list of refusals, with one before them.
use Rattle.std.proofs.Common.{◌≡◌, refl, sym, ap, ◌∙◌, List, [], ◌∷◌, Option, Some, None, ◌⊎◌, inl, inr, Contains}
use Rattle.core_scope.specs.declared.refusal.Refusal.{Refusal}
use Rattle.core_scope.specs.Refusals.{is_before, earlier, first_from, first_of}
use Rattle.core_scope.specs.Leasts.{IsLeast}
use Rattle.core_scope.proofs.Searching.{In, contains_in, in_contains}
use Rattle.core_scope.proofs.Leasting.{first_of_both, least_same, not_before_itself}

pub least_none : (P : Refusal → Type 0) → ((x : Refusal) → P x → ⊥) → IsLeast P None
least_none P h = h

-- one alone, and one more
pub least_one : (r : Refusal) → IsLeast (λ x. r ≡ x) (Some r)
least_one r = (refl, λ x e. ap (λ z. is_before z r) (sym e) ∙ not_before_itself r)

swap : (A B : Type 0) → A ⊎ B → B ⊎ A
swap A B (inl a) = inr a
swap A B (inr b) = inl b

pub least_more : (P : Refusal → Type 0) (r : Refusal) (k : Option Refusal) → IsLeast P k → IsLeast (λ x. P x ⊎ (r ≡ x)) (Some (earlier r k))
least_more P r k l =
    least_same (λ x. (r ≡ x) ⊎ P x) (λ x. P x ⊎ (r ≡ x)) (Some (earlier r k)) (λ x h. swap (r ≡ x) (P x) h) (λ x h. swap (P x) (r ≡ x) h)
    (first_of_both (λ x. r ≡ x) P (Some r) k (least_one r) l)

left_one : (A B D : Type 0) → (A ⊎ B) ⊎ D → A ⊎ (B ⊎ D)
left_one A B D (inl (inl a)) = inl a
left_one A B D (inl (inr b)) = inr (inl b)
left_one A B D (inr d) = inr (inr d)

right_one : (A B D : Type 0) → A ⊎ (B ⊎ D) → (A ⊎ B) ⊎ D
right_one A B D (inl a) = inl (inl a)
right_one A B D (inr (inl b)) = inl (inr b)
right_one A B D (inr (inr d)) = inr d

no_more : (A : Type 0) (x : Refusal) → A ⊎ In x [] → A
no_more A x (inl a) = a
no_more A x (inr i) = elim i [ ]

pub least_from : (P : Refusal → Type 0) (rs : List Refusal) (k : Option Refusal) → IsLeast P k → IsLeast (λ x. P x ⊎ In x rs) (first_from k rs)
least_from P [] k l = least_same P (λ x. P x ⊎ In x []) k (λ x p. inl p) (λ x h. no_more (P x) x h) l
least_from P (r ∷ rs) k l =
    least_same (λ x. (P x ⊎ (r ≡ x)) ⊎ In x rs) (λ x. P x ⊎ In x (r ∷ rs)) (first_from (Some (earlier r k)) rs)
    (λ x h. left_one (P x) (r ≡ x) (In x rs) h) (λ x h. right_one (P x) (r ≡ x) (In x rs) h)
    (least_from (λ x. P x ⊎ (r ≡ x)) rs (Some (earlier r k)) (least_more P r k l))

-- the first of a list is the first of those in it
pub least_of : (rs : List Refusal) → IsLeast (λ x. Contains rs x) (first_of rs)
least_of rs =
    least_same (λ x. ⊥ ⊎ In x rs) (λ x. Contains rs x) (first_of rs) (λ x h. to x h) (λ x c. inr (contains_in rs x c.0 c.1 c.2))
    (least_from (λ x. ⊥) rs None (λ x p. p))
  where
    to : (x : Refusal) → ⊥ ⊎ In x rs → Contains rs x
    to x (inl p) = elim p [ ]
    to x (inr i) = in_contains rs x i
