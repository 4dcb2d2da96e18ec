-- A way to show that a refusal is the first, or that nothing is refused: lists of the functions that each function comes to.
use Rattle.std.proofs.Common.{◌≡◌, refl, sym, subst, ℕ, zero, suc, ◌<◌, ◌≤◌, Bool, true, false, not, ◌&&◌, ◌||◌, List, [], ◌∷◌, length, ◌⊎◌, inl, inr, Contains, nat_eq, nat_le, arith}
use Rattle.std.specs.List.{list_all}
use Rattle.std.proofs.lemmas.Bool.{and_parts}
use Rattle.std.proofs.lemmas.List.Elements.{All-contains}
use Rattle.std.proofs.lemmas.List.Sums.{AllPass-from_list_all}
use Rattle.xq_base.specs.declared.code.Code.TheVariants as code
use Rattle.core_scope.specs.Syn.{Query, read}
use Rattle.core_scope.specs.declared.refusal.Refusal.{Refusal}
use Rattle.core_scope.specs.declared.found.DeclaredCall.{DeclaredCall}
use Rattle.core_scope.specs.Walk.{refused, Facts}
use Rattle.core_scope.specs.Prolog.{Told, of_function, of_variable, all_told, local_refusals}
use Rattle.core_scope.specs.Refusals.{ToldFunction, function_at, Calls, Comes, straight, through, the_functions, called_by, referred_by, Recursive, Refers, itself, by_call, TooSoon, IsRefusal, IsFirst, is_before}

abbrev pub is_in : ℕ → List ℕ → Bool
is_in x [] = false
is_in x (y ∷ ys) = nat_eq y x || is_in x ys

passes : {A : Type 0} (p : A → Bool) (xs : List A) (x : A) → list_all p xs ≡ true → Contains xs x → p x ≡ true
passes p xs x e c = All-contains (λ y. p y ≡ true) xs x (AllPass-from_list_all p xs e) c

passes_in : (p : ℕ → Bool) (xs : List ℕ) (x : ℕ) → list_all p xs ≡ true → is_in x xs ≡ true → p x ≡ true
passes_in p [] x e c = cc
passes_in p (y ∷ ys) x e c = at (nat_eq y x) refl c (λ d. passes_in p ys x ((and_parts _ _ e).1) d)
  where
    at : (b : Bool) → nat_eq y x ≡ b → (b || is_in x ys) ≡ true → (is_in x ys ≡ true → p x ≡ true) → p x ≡ true
    at true d c rest = let same : y ≡ x = grind (arith, d) in subst (λ z. p z ≡ true) same ((and_parts _ _ e).0)
    at false d c rest = rest c

given : (b d : Bool) → (not b || d) ≡ true → b ≡ true → d ≡ true
given true d e h = e
given false d e h = cc

-- S k has all functions that the k-th one comes to
module _ (calls : Calls) (S : ℕ → List ℕ) where
  abbrev pub is_closed : ℕ → Bool
  is_closed k = list_all (λ g. is_in g (S k) && list_all (λ h. is_in h (S k)) (S g)) (calls k)

  comes_in : ((k : ℕ) → is_closed k ≡ true) → (f g : ℕ) → Comes calls f g → is_in g (S f) ≡ true
  comes_in closed f g (straight c) = (and_parts _ _ (passes (λ g. is_in g (S f) && list_all (λ h. is_in h (S f)) (S g)) (calls f) g (closed f) c)).0
  comes_in closed f h (through {g = g} c rest) =
      passes_in (λ h. is_in h (S f)) (S g) h ((and_parts _ _ (passes (λ g. is_in g (S f) && list_all (λ h. is_in h (S f)) (S g)) (calls f) g (closed f) c)).1)
      (comes_in closed g h rest)

module _ (q : Query read) (S : ℕ → List ℕ) (p : Refusal → Bool) where
  abbrev pub recursive_pass : (ℕ → Bool) → List ToldFunction → Bool
  recursive_pass bad [] = true
  recursive_pass bad (f ∷ fs) = (not (bad zero) || p (refused code.PFRC0001 f.offset)) && recursive_pass (λ k. bad (suc k)) fs

  abbrev pub call_passes : ℕ → DeclaredCall → Bool
  call_passes j c = list_all (λ g. list_all (λ l. not (nat_le j l) || p (refused code.XPST0008 c.offset)) (referred_by q g)) (c.function ∷ S c.function)

  abbrev pub told_passes : Told → Bool
  told_passes (of_function o f) = true
  told_passes (of_variable j f) = list_all (call_passes j) f.calls

  abbrev pub all_pass : Bool
  all_pass = list_all p (local_refusals q) && recursive_pass (λ k. is_in k (S k)) (the_functions q) && list_all told_passes (all_told q)

  recursive_law : (bad : ℕ → Bool) (fs : List ToldFunction) → recursive_pass bad fs ≡ true → (k : ℕ) → k < length fs → bad k ≡ true →
      p (refused code.PFRC0001 ((function_at fs k).offset)) ≡ true
  recursive_law bad [] e k l h = let no : ⊥ = grind (arith, l) in elim no [ ]
  recursive_law bad (f ∷ fs) e zero l h = given (bad zero) _ ((and_parts _ _ e).0) h
  recursive_law bad (f ∷ fs) e (suc k) l h = recursive_law (λ k. bad (suc k)) fs ((and_parts _ _ e).1) k (grind (arith, l)) h

  refers_law : ((k : ℕ) → is_closed (called_by q) S k ≡ true) → (f l : ℕ) (r : ℕ → Bool) →
      list_all (λ g. list_all r (referred_by q g)) (f ∷ S f) ≡ true → Refers q f l → r l ≡ true
  refers_law closed f l r e (itself c) = passes r (referred_by q f) l ((and_parts _ _ e).0) c
  refers_law closed f l r e (by_call {g = g} c d) =
      passes r (referred_by q g) l (passes_in (λ g. list_all r (referred_by q g)) (S f) g ((and_parts _ _ e).1) (comes_in (called_by q) S closed f g c)) d

  soon_law : ((k : ℕ) → is_closed (called_by q) S k ≡ true) → list_all told_passes (all_told q) ≡ true → (x : Refusal) → TooSoon q x → p x ≡ true
  soon_law closed e x t =
      let one : call_passes t.number t.call ≡ true = passes (call_passes t.number) (t.facts.calls) t.call (passes told_passes (all_told q) (of_variable t.number t.facts) e t.is_variable) t.is_call in
      let two : (not (nat_le t.number t.later) || p (refused code.XPST0008 t.call.offset)) ≡ true = refers_law closed t.call.function t.later (λ l. not (nat_le t.number l) || p (refused code.XPST0008 t.call.offset)) one t.refers in
      let three : nat_le t.number t.later ≡ true = grind (arith, t.is_later) in
      subst (λ y. p y ≡ true) (sym t.is) (given (nat_le t.number t.later) _ two three)

  pub refusals_pass : ((k : ℕ) → is_closed (called_by q) S k ≡ true) → all_pass ≡ true → (x : Refusal) → IsRefusal q x → p x ≡ true
  refusals_pass closed e x (inl c) = passes p (local_refusals q) x ((and_parts _ _ ((and_parts _ _ e).0)).0) c
  refusals_pass closed e x (inr (inl r)) =
      subst (λ y. p y ≡ true) (sym r.is)
      (recursive_law (λ k. is_in k (S k)) (the_functions q) ((and_parts _ _ ((and_parts _ _ e).0)).1) r.number r.is_function (comes_in (called_by q) S closed r.number r.number r.calls_itself))
  refusals_pass closed e x (inr (inr t)) = soon_law closed ((and_parts _ _ e).1) x t

flip : (b : Bool) → not b ≡ true → b ≡ false
flip false e = refl
flip true e = cc

-- a refusal is the first where none of those that are possible stands before it
pub is_first : (q : Query read) (S : ℕ → List ℕ) (r : Refusal) → ((k : ℕ) → is_closed (called_by q) S k ≡ true) →
    all_pass q S (λ x. not (is_before x r)) ≡ true → IsRefusal q r → IsFirst q r
is_first q S r closed e is = record { is = is; first = λ x h. flip _ (refusals_pass q S (λ x. not (is_before x r)) closed e x h) }

-- nothing is refused where nothing is possible
pub nothing_refused : (q : Query read) (S : ℕ → List ℕ) → ((k : ℕ) → is_closed (called_by q) S k ≡ true) →
    all_pass q S (λ x. false) ≡ true → (x : Refusal) → IsRefusal q x → ⊥
nothing_refused q S closed e x h = let no : false ≡ true = refusals_pass q S (λ x. false) closed e x h in cc
