-- First occurrences in lists: of blocks that have nothing in common, of a class, and of what a list is made from.
use Rattle.std.proofs.Common.{◌≡◌, ℕ, ◌<◌, ◌≤◌, Bool, true, false, cond, ◌||◌, List, [], ◌∷◌, ◌++◌, map, refl, sym, ap, ◌∙◌, arith}
use Rattle.std.specs.List.{filter, flat_map}
use Rattle.doc_table.specs.Orders.{has}
use Rattle.plan_dag.specs.Orders.{firsts}
use Rattle.lift_laws.specs.Sums.{AllOf, Ascends}
use Rattle.lift_laws.proofs.Picks.{all-flat, all_mono}
use Rattle.lift_laws.proofs.SetCase.{seen_in, firsts_then}

or_none : (b : Bool) → (b || false) ≡ b
or_none true = refl
or_none false = refl

pub ascends_from : {X : Type 0} (key : X → ℕ) (j k : ℕ) (xs : List X) → j ≤ k → Ascends key k xs → Ascends key j xs
ascends_from key j k [] h a = tt
ascends_from key j k (x ∷ xs) h a = let q = a.0 in (omega arith, a.1)

all_above : {X : Type 0} (key : X → ℕ) (j k : ℕ) (xs : List X) → j ≤ k → Ascends key k xs → AllOf (λ x. j < key x) xs
all_above key j k [] h a = tt
all_above key j k (x ∷ xs) h a = let q = a.0 in (omega arith, all_above key j (key x) xs (omega arith) a.1)

pub kept_pass : {A : Type 0} (p : A → Bool) (xs : List A) → AllOf (λ x. p x ≡ true) (filter p xs)
kept_pass p [] = tt
kept_pass p (x ∷ xs) = go (p x) refl (kept_pass p xs)
  where
    go : (b : Bool) → p x ≡ b → AllOf (λ x. p x ≡ true) (filter p xs) → AllOf (λ x. p x ≡ true) (cond b (x ∷ filter p xs) (filter p xs))
    go true e r = (e, r)
    go false e r = r

module _ {A : Type 0} (eq : A → A → Bool) where
  has_append : (x : A) (ys zs : List A) → has eq x (ys ++ zs) ≡ (has eq x ys || has eq x zs)
  has_append x [] zs = refl
  has_append x (y ∷ ys) zs =
      let r = has_append x ys zs in
      elim (eq x y) as (λ b. (b || has eq x (ys ++ zs)) ≡ ((b || has eq x ys) || has eq x zs)) [ true ↦ refl | false ↦ r ]

  none_has : (x : A) (ys : List A) → AllOf (λ y. eq x y ≡ false) ys → has eq x ys ≡ false
  none_has x [] a = refl
  none_has x (y ∷ ys) a = ap (λ b. b || has eq x ys) a.0 ∙ none_has x ys a.1

  seen_all : (P : A → Type 0) (seen xs : List A) → AllOf P seen → AllOf P xs → AllOf P (seen_in eq seen xs)
  seen_all P seen [] s a = s
  seen_all P seen (x ∷ xs) s a =
      let r = seen_all P seen xs s a.1 in
      let q = seen_all P (x ∷ seen) xs (a.0, s) a.1 in
      elim (has eq x seen) as (λ b. AllOf P (cond b (seen_in eq seen xs) (seen_in eq (x ∷ seen) xs))) [ true ↦ r | false ↦ q ]

  -- what is seen of others doesn't count
  firsts_apart : (front back xs : List A) → AllOf (λ x. has eq x back ≡ false) xs → firsts eq (front ++ back) xs ≡ firsts eq front xs
  firsts_apart front back [] a = refl
  firsts_apart front back (x ∷ xs) a =
      ap (λ b. cond b (firsts eq (front ++ back) xs) (x ∷ firsts eq (x ∷ (front ++ back)) xs)) (has_append x front back ∙ ap (λ b. has eq x front || b) a.0 ∙ or_none (has eq x front))
      ∙ ap (λ l. cond (has eq x front) l (x ∷ firsts eq (x ∷ (front ++ back)) xs)) (firsts_apart front back xs a.1)
      ∙ ap (λ l. cond (has eq x front) (firsts eq front xs) (x ∷ l)) (firsts_apart (x ∷ front) back xs a.1)

  module _ {X : Type 0} (key : X → ℕ) (block : X → List A) (apart : (x y : X) → key x < key y → AllOf (λ r. AllOf (λ q. eq r q ≡ false) (block x)) (block y)) where
    pub firsts_blocks : (k : ℕ) (xs : List X) → Ascends key k xs → firsts eq [] (flat_map block xs) ≡ flat_map (λ x. firsts eq [] (block x)) xs
    firsts_blocks k [] a = refl
    firsts_blocks k (x ∷ xs) a =
        let later = all_above key (key x) (key x) xs (omega arith) a.1 in
        firsts_then eq [] (block x) (flat_map block xs)
        ∙ ap (λ l. firsts eq [] (block x) ++ l)
        (firsts_apart [] (seen_in eq [] (block x)) (flat_map block xs)
        (all-flat _ block xs (all_mono _ _ (λ y (h : key x < key y).
        all_mono _ _ (λ r (e : AllOf (λ q. eq r q ≡ false) (block x)). none_has r (seen_in eq [] (block x)) (seen_all (λ q. eq r q ≡ false) [] (block x) tt e)) (block y) (apart x y h)) xs later))
        ∙ firsts_blocks (key x) xs a.1)

  -- those of a class, where no element of it equals one that isn't of it
  module _ (p : A → Bool) (apart : (x y : A) → p x ≡ true → p y ≡ false → eq x y ≡ false) where
    has_class : (x : A) → p x ≡ true → (ys : List A) → has eq x (filter p ys) ≡ has eq x ys
    has_class x e [] = refl
    has_class x e (y ∷ ys) = go (p y) refl (has_class x e ys)
      where
        go : (b : Bool) → p y ≡ b → has eq x (filter p ys) ≡ has eq x ys → has eq x (cond b (y ∷ filter p ys) (filter p ys)) ≡ (eq x y || has eq x ys)
        go true g r = ap (λ b. eq x y || b) r
        go false g r = r ∙ sym (ap (λ b. b || has eq x ys) (apart x y e g))

    pub firsts_class : (seen xs : List A) → filter p (firsts eq seen xs) ≡ firsts eq (filter p seen) (filter p xs)
    firsts_class seen [] = refl
    firsts_class seen (x ∷ xs) = go (p x) refl (firsts_class seen xs) (firsts_class (x ∷ seen) xs)
      where
        go : (b : Bool) → p x ≡ b → filter p (firsts eq seen xs) ≡ firsts eq (filter p seen) (filter p xs) → filter p (firsts eq (x ∷ seen) xs) ≡ firsts eq (filter p (x ∷ seen)) (filter p xs)
            → filter p (firsts eq seen (x ∷ xs)) ≡ firsts eq (filter p seen) (filter p (x ∷ xs))
        go true e r q =
            let s : firsts eq (filter p seen) (filter p (x ∷ xs)) ≡ cond (has eq x seen) (firsts eq (filter p seen) (filter p xs)) (x ∷ firsts eq (x ∷ filter p seen) (filter p xs)) =
            ap (λ b. firsts eq (filter p seen) (cond b (x ∷ filter p xs) (filter p xs))) e
            ∙ ap (λ b. cond b (firsts eq (filter p seen) (filter p xs)) (x ∷ firsts eq (x ∷ filter p seen) (filter p xs))) (has_class x e seen) in
            let t : filter p (x ∷ firsts eq (x ∷ seen) xs) ≡ x ∷ firsts eq (x ∷ filter p seen) (filter p xs) =
            ap (λ b. cond b (x ∷ filter p (firsts eq (x ∷ seen) xs)) (filter p (firsts eq (x ∷ seen) xs))) e
            ∙ ap (λ l. x ∷ l) (q ∙ ap (λ b. firsts eq (cond b (x ∷ filter p seen) (filter p seen)) (filter p xs)) e) in
            elim (has eq x seen) as (λ d. filter p (cond d (firsts eq seen xs) (x ∷ firsts eq (x ∷ seen) xs)) ≡ cond d (firsts eq (filter p seen) (filter p xs)) (x ∷ firsts eq (x ∷ filter p seen) (filter p xs))) [ true ↦ r | false ↦ t ]
            ∙ sym s
        go false e r q =
            let t : filter p (x ∷ firsts eq (x ∷ seen) xs) ≡ firsts eq (filter p seen) (filter p xs) =
            ap (λ b. cond b (x ∷ filter p (firsts eq (x ∷ seen) xs)) (filter p (firsts eq (x ∷ seen) xs))) e
            ∙ q ∙ ap (λ b. firsts eq (cond b (x ∷ filter p seen) (filter p seen)) (filter p xs)) e in
            elim (has eq x seen) as (λ d. filter p (cond d (firsts eq seen xs) (x ∷ firsts eq (x ∷ seen) xs)) ≡ firsts eq (filter p seen) (filter p xs)) [ true ↦ r | false ↦ t ]
            ∙ sym (ap (λ b. firsts eq (filter p seen) (cond b (x ∷ filter p xs) (filter p xs))) e)

  pub firsts_ascend : (key : A → ℕ) (j : ℕ) (seen xs : List A) → Ascends key j xs → Ascends key j (firsts eq seen xs)
  firsts_ascend key j seen [] a = tt
  firsts_ascend key j seen (x ∷ xs) a =
      let h = a.0 in
      let r = firsts_ascend key j seen xs (ascends_from key j (key x) xs (omega arith) a.1) in
      let q = firsts_ascend key (key x) (x ∷ seen) xs a.1 in
      elim (has eq x seen) as (λ b. Ascends key j (cond b (firsts eq seen xs) (x ∷ firsts eq (x ∷ seen) xs))) [ true ↦ r | false ↦ (a.0, q) ]

-- of what a list is made from
module _ {A B : Type 0} (eq : A → A → Bool) (eq' : B → B → Bool) (F : A → B) (C : A → Type 0) (same : (x y : A) → C x → C y → eq' (F x) (F y) ≡ eq x y) where
  has_map : (x : A) → C x → (ys : List A) → AllOf C ys → has eq' (F x) (map F ys) ≡ has eq x ys
  has_map x c [] a = refl
  has_map x c (y ∷ ys) a = ap (λ b. b || has eq' (F x) (map F ys)) (same x y c a.0) ∙ ap (λ b. eq x y || b) (has_map x c ys a.1)

  pub firsts_map : (seen xs : List A) → AllOf C seen → AllOf C xs → firsts eq' (map F seen) (map F xs) ≡ map F (firsts eq seen xs)
  firsts_map seen [] s a = refl
  firsts_map seen (x ∷ xs) s a =
      let r = firsts_map seen xs s a.1 in
      let q = firsts_map (x ∷ seen) xs (a.0, s) a.1 in
      ap (λ b. cond b (firsts eq' (map F seen) (map F xs)) (F x ∷ firsts eq' (F x ∷ map F seen) (map F xs))) (has_map x a.0 seen s)
      ∙ elim (has eq x seen) as (λ b. cond b (firsts eq' (map F seen) (map F xs)) (F x ∷ firsts eq' (F x ∷ map F seen) (map F xs)) ≡ map F (cond b (firsts eq seen xs) (x ∷ firsts eq (x ∷ seen) xs))) [ true ↦ r | false ↦ ap (λ l. F x ∷ l) q ]
