-- Hits that come to those that there are, from one after the other.
use Rattle.std.proofs.Common.{inl, inr, ◌≡◌, ℕ, suc, ◌+◌, ◌<◌, ◌≤◌, List, [], ◌∷◌, ◌++◌, length, take, refl, sym, ap, ◌∙◌, subst, arith, IsPermutation}
use Rattle.std.specs.Prelude.{slice_index_or}
use Rattle.std.proofs.Math.Seq.{take-suc}
use Rattle.std.proofs.lemmas.List.{take_all}
use Rattle.std.proofs.lemmas.List.Sorted.{Contains-permutation, IsPermutation-sym}
use Rattle.staircase.specs.declared.hits.Hit.{Hit}
use Rattle.staircase.specs.Parts.{In}
use Rattle.staircase.specs.Tasks.{AnyOf, Gains}
use Rattle.staircase.proofs.Elements.{in-left, in-right, in-parts, in-contains, contains-in}

-- what is found in other words
pub gains-as : (f g : Hit → Type 0) (old new : List Hit) → ((h : Hit) → f h → g h) → ((h : Hit) → g h → f h) → Gains f old new → Gains g old new
gains-as f g old new to from a = record {
  kept = a.kept;
  sound = λ h i. elim (a.sound h i) [ inl o ↦ inl o | inr x ↦ inr (to h x) ];
  complete = λ h x. a.complete h (from h x);
}

gains-more : {X : Type 0} (finds : X → Hit → Type 0) (xs : List X) (x : X) (old mid new : List Hit) → Gains (AnyOf finds xs) old mid → Gains (finds x) mid new → Gains (AnyOf finds (xs ++ x ∷ [])) old new
gains-more {X} finds xs x old mid new a b = record {
  kept = λ h k. b.kept h (a.kept h k);
  sound = λ h k. elim (b.sound h k) [
    | inl m ↦ elim (a.sound h m) [ inl o ↦ inl o | inr t ↦ inr (t.0, in-left t.0 xs (x ∷ []) t.1, t.2) ]
    | inr f ↦ inr (x, in-right x xs (x ∷ []) (inl refl), f)
  ];
  complete = λ h f. elim (in-parts f.0 xs (x ∷ []) f.1) [
    | inl y ↦ b.kept h (a.complete h (f.0, y, f.2))
    | inr y ↦ elim y [ inl e ↦ b.complete h (subst (λ (z : X). finds z h) e f.2) | inr z ↦ absurd z ]
  ];
}

-- one more of a list
pub gains-step : {X : Type 0} (finds : X → Hit → Type 0) (xs : List X) (k : ℕ) (x d : X) (old mid new : List Hit) → k < length xs → x ≡ slice_index_or xs k d → Gains (AnyOf finds (take k xs)) old mid → Gains (finds x) mid new → Gains (AnyOf finds (take (k + 1) xs)) old new
gains-step {X} finds xs k x d old mid new l e a b =
    let one : k + 1 ≡ suc k = omega arith in
    let more : take (k + 1) xs ≡ take k xs ++ x ∷ [] = ap (λ z. take z xs) one ∙ take-suc xs k d l ∙ ap (λ (z : X). take k xs ++ z ∷ []) (sym e) in
    subst (λ z. Gains (AnyOf finds z) old new) (sym more) (gains-more finds (take k xs) x old mid new a b)

-- a whole list, in another order
pub gains-whole : {X : Type 0} (finds : X → Hit → Type 0) (ys xs : List X) (k : ℕ) (old new : List Hit) → IsPermutation ys xs → length xs ≤ k → Gains (AnyOf finds (take k xs)) old new → Gains (AnyOf finds ys) old new
gains-whole {X} finds ys xs k old new p l a =
    let whole : take k xs ≡ xs = take_all k xs l in
    gains-as (AnyOf finds (take k xs)) (AnyOf finds ys) old new
    (λ h t. (t.0, contains-in t.0 ys (Contains-permutation xs ys t.0 (IsPermutation-sym ys xs p) (in-contains t.0 xs (subst (λ z. In t.0 z) whole t.1))), t.2))
    (λ h t. (t.0, subst (λ z. In t.0 z) (sym whole) (contains-in t.0 xs (Contains-permutation ys xs t.0 p (in-contains t.0 ys t.1))), t.2)) a
