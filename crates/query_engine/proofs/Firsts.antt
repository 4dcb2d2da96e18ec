-- The first of two lists of failures.
use Rattle.std.proofs.Common.{◌≡◌, ℕ, ◌<◌, ◌≤◌, Bool, true, false, ◌&&◌, ◌||◌, nat_eq, nat_lt, cond, List, [], ◌∷◌, ◌++◌, Option, Some, None, refl, sym, ap, ◌∙◌, arith}
use Rattle.std.proofs.lemmas.Bool.Decides.{nat_tests}
use Rattle.xq_base.specs.Answers.{check_rank}
use Rattle.core_meaning.specs.Failures.{Failure, is_before, lesser, lesser_of, first}

-- by a number, then by another
abbrev pub before : ℕ → ℕ → ℕ → ℕ → Bool
before s r t q = nat_lt s t || (nat_eq s t && nat_lt r q)

trans : (s r t q u p : ℕ) → before s r t q ≡ true → before t q u p ≡ true → before s r u p ≡ true
trans s r t q u p a b = grind (arith, nat_tests)

neither : (s r t q u p : ℕ) → before s r t q ≡ false → before t q u p ≡ false → before s r u p ≡ false
neither s r t q u p a b = grind (arith, nat_tests)

-- a lesser site is before
ahead : (s r t q : ℕ) → s < t → before t q s r ≡ false
ahead s r t q h = grind (arith, nat_tests)

taken : {A : Type 0} (b : Bool) (x y : A) → b ≡ true → cond b x y ≡ x
taken true x y e = refl
taken false x y e = cc

left : {A : Type 0} (b : Bool) (x y : A) → b ≡ false → cond b x y ≡ y
left false x y e = refl
left true x y e = cc

-- the lesser of two by two numbers
abbrev pub pick : {A : Type 0} → (A → ℕ) → (A → ℕ) → A → A → A
pick m n f g = cond (before (m g) (n g) (m f) (n f)) g f

module _ {A : Type 0} (m n : A → ℕ) where
  second : (f g : A) → before (m g) (n g) (m f) (n f) ≡ true → pick m n f g ≡ g
  second f g e = taken (before (m g) (n g) (m f) (n f)) g f e

  stays : (f g : A) → before (m g) (n g) (m f) (n f) ≡ false → pick m n f g ≡ f
  stays f g e = left (before (m g) (n g) (m f) (n f)) g f e

  assoc : (f g h : A) (b c : Bool) → before (m g) (n g) (m f) (n f) ≡ b → before (m h) (n h) (m g) (n g) ≡ c → pick m n (pick m n f g) h ≡ pick m n f (pick m n g h)
  assoc f g h true true p q =
      let r = trans (m h) (n h) (m g) (n g) (m f) (n f) q p in
      ap (λ x. pick m n x h) (second f g p) ∙ second g h q ∙ sym (ap (pick m n f) (second g h q) ∙ second f h r)
  assoc f g h true false p q = ap (λ x. pick m n x h) (second f g p) ∙ stays g h q ∙ sym (ap (pick m n f) (stays g h q) ∙ second f g p)
  assoc f g h false true p q = ap (λ x. pick m n x h) (stays f g p) ∙ sym (ap (pick m n f) (second g h q))
  assoc f g h false false p q =
      let r = neither (m h) (n h) (m g) (n g) (m f) (n f) q p in
      ap (λ x. pick m n x h) (stays f g p) ∙ stays f h r ∙ sym (ap (pick m n f) (stays g h q) ∙ stays f g p)

  pick_assoc : (f g h : A) → pick m n (pick m n f g) h ≡ pick m n f (pick m n g h)
  pick_assoc f g h = assoc f g h _ _ refl refl

abbrev site_of : Failure → ℕ
site_of f = f.site.number

abbrev rank_of : Failure → ℕ
rank_of f = check_rank f.code

lesser_assoc : (f g h : Failure) → lesser (lesser f g) h ≡ lesser f (lesser g h)
lesser_assoc f g h = pick_assoc site_of rank_of f g h

-- the lesser of two failures that may be absent
abbrev pub merged : Option Failure → Option Failure → Option Failure
merged None b = b
merged (Some f) b = Some (lesser_of f b)

lesser_merged : (f : Failure) (a b : Option Failure) → Some (lesser_of f (merged a b)) ≡ merged (Some (lesser_of f a)) b
lesser_merged f None b = refl
lesser_merged f (Some g) None = refl
lesser_merged f (Some g) (Some h) = ap Some (sym (lesser_assoc f g h))

pub first-append : (fs gs : List Failure) → first (fs ++ gs) ≡ merged (first fs) (first gs)
first-append [] gs = refl
first-append (f ∷ fs) gs = ap (λ o. Some (lesser_of f o)) (first-append fs gs) ∙ lesser_merged f (first fs) (first gs)

-- all sites stand from the first number on and before the second
abbrev pub Between : ℕ → ℕ → List Failure → Type 0
Between n m [] = Unit {0}
Between n m (f ∷ fs) = (n ≤ f.site.number) × (f.site.number < m) × Between n m fs

pub between-append : (n m : ℕ) (fs gs : List Failure) → Between n m fs → Between n m gs → Between n m (fs ++ gs)
between-append n m [] gs p q = q
between-append n m (f ∷ fs) gs p q = (p.0, p.1, between-append n m fs gs p.2 q)

pub between-wider : (n m i j : ℕ) (fs : List Failure) → i ≤ n → m ≤ j → Between n m fs → Between i j fs
between-wider n m i j [] l k p = tt
between-wider n m i j (f ∷ fs) l k p = (omega (arith, l, p.0), omega (arith, k, p.1), between-wider n m i j fs l k p.2)

abbrev Inside : ℕ → ℕ → Option Failure → Type 0
Inside n m None = Unit {0}
Inside n m (Some f) = (n ≤ f.site.number) × (f.site.number < m)

lesser_inside : (n m : ℕ) (f : Failure) (o : Option Failure) → (n ≤ f.site.number) × (f.site.number < m) → Inside n m o → Inside n m (Some (lesser_of f o))
lesser_inside n m f None l p = l
lesser_inside n m f (Some g) l p = step (is_before g f)
  where
    step : (b : Bool) → Inside n m (Some (cond b g f))
    step true = p
    step false = l

first_inside : (n m : ℕ) (fs : List Failure) → Between n m fs → Inside n m (first fs)
first_inside n m [] p = tt
first_inside n m (g ∷ gs) p = lesser_inside n m g (first gs) (p.0, p.1) (first_inside n m gs p.2)

ahead_merged : (n m k : ℕ) (f : Failure) (o : Option Failure) → Inside n m (Some f) → Inside m k o → merged (Some f) o ≡ Some f
ahead_merged n m k f None l p = refl
ahead_merged n m k f (Some g) l p =
    let b : is_before g f ≡ false = ahead f.site.number (check_rank f.code) g.site.number (check_rank g.code) (omega (arith, l.1, p.0)) in
    ap Some (stays site_of rank_of f g b)

-- a failure at a lesser site is the first
pub ahead_first : (n m k : ℕ) (fs gs : List Failure) (f : Failure) → Between n m fs → Between m k gs → first fs ≡ Some f → first (fs ++ gs) ≡ Some f
ahead_first n m k fs gs f p q e =
    first-append fs gs ∙ by (first fs) (first_inside n m fs p) e
  where
    by : (o : Option Failure) → Inside n m o → o ≡ Some f → merged o (first gs) ≡ Some f
    by None i e = cc
    by (Some g) i e = ahead_merged n m k g (first gs) i (first_inside m k gs q) ∙ e
