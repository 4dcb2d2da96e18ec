-- One element of an ascending list is picked by its number.
use Rattle.std.proofs.Common.{◌≡◌, ℕ, ◌+◌, ◌<◌, ◌≤◌, true, false, cond, List, [], ◌∷◌, ◌++◌, map, refl, sym, ap, ◌∙◌, arith, append_assoc, zero-add, add-zero, nat_eq}
use Rattle.std.specs.List.{filter, flat_map}
use Rattle.std.proofs.lemmas.Bool.{eq-eqb, ne_eqb}
use Rattle.plan_dag.specs.ItemRules.{Cell, cell_eq}
use Rattle.plan_dag.specs.Rows.{joined}
use Rattle.lift_laws.specs.Sums.{total, AllOf, Ascends, Same}
use Rattle.lift_laws.specs.Iterations.{Row, num}
use Rattle.lift_laws.specs.Shapes.{bare}
use Rattle.lift_laws.proofs.Numbers.{num_same}
use Rattle.lift_laws.proofs.Multi.{total-ext, total-zero, total-keep, total-map, total-flat}

module _ {A : Type 0} where
  pub all_each : (P : A → Type 0) → ((x : A) → P x) → (xs : List A) → AllOf P xs
  all_each P h [] = tt
  all_each P h (x ∷ xs) = (h x, all_each P h xs)

  pub all_mono : (P Q : A → Type 0) → ((x : A) → P x → Q x) → (xs : List A) → AllOf P xs → AllOf Q xs
  all_mono P Q h [] a = tt
  all_mono P Q h (x ∷ xs) a = (h x a.0, all_mono P Q h xs a.1)

  pub all-append : (P : A → Type 0) (xs ys : List A) → AllOf P xs → AllOf P ys → AllOf P (xs ++ ys)
  all-append P [] ys a b = b
  all-append P (x ∷ xs) ys a b = (a.0, all-append P xs ys a.1 b)

  pub total-all : (v w : A → ℕ) (xs : List A) → AllOf (λ x. v x ≡ w x) xs → total v xs ≡ total w xs
  total-all v w [] a = refl
  total-all v w (x ∷ xs) a = let e = total-all v w xs a.1 in let f = a.0 in omega arith

module _ {A B : Type 0} where
  pub map-all : (f g : A → B) (xs : List A) → AllOf (λ x. f x ≡ g x) xs → map f xs ≡ map g xs
  map-all f g [] a = refl
  map-all f g (x ∷ xs) a = let e = map-all f g xs a.1 in let h = a.0 in cc

  pub flat-all : (f g : A → List B) (xs : List A) → AllOf (λ x. f x ≡ g x) xs → flat_map f xs ≡ flat_map g xs
  flat-all f g [] a = refl
  flat-all f g (x ∷ xs) a = let e = flat-all f g xs a.1 in let h = a.0 in cc

  pub all-map : (P : B → Type 0) (f : A → B) (xs : List A) → AllOf (λ x. P (f x)) xs → AllOf P (map f xs)
  all-map P f [] a = tt
  all-map P f (x ∷ xs) a = (a.0, all-map P f xs a.1)

  pub all-flat : (P : B → Type 0) (f : A → List B) (xs : List A) → AllOf (λ x. AllOf P (f x)) xs → AllOf P (flat_map f xs)
  all-flat P f [] a = tt
  all-flat P f (x ∷ xs) a = all-append P (f x) (flat_map f xs) a.0 (all-flat P f xs a.1)

module _ {A B : Type 0} where
  pub map-append : (f : A → B) (xs ys : List A) → map f (xs ++ ys) ≡ map f xs ++ map f ys
  map-append f [] ys = refl
  map-append f (x ∷ xs) ys = let e = map-append f xs ys in cc

  pub flat-append : (f : A → List B) (us vs : List A) → flat_map f (us ++ vs) ≡ flat_map f us ++ flat_map f vs
  flat-append f [] vs = refl
  flat-append f (u ∷ us) vs = ap (λ l. f u ++ l) (flat-append f us vs) ∙ sym (append_assoc (f u) (flat_map f us) (flat_map f vs))

module _ {A B C : Type 0} where
  pub map-map : (f : B → C) (g : A → B) (xs : List A) → map f (map g xs) ≡ map (λ x. f (g x)) xs
  map-map f g [] = refl
  map-map f g (x ∷ xs) = let e = map-map f g xs in cc

  pub map-flat : (f : B → C) (g : A → List B) (xs : List A) → map f (flat_map g xs) ≡ flat_map (λ x. map f (g x)) xs
  map-flat f g [] = refl
  map-flat f g (x ∷ xs) = map-append f (g x) (flat_map g xs) ∙ ap (λ l. map f (g x) ++ l) (map-flat f g xs)

  pub flat-map : (f : B → List C) (g : A → B) (xs : List A) → flat_map f (map g xs) ≡ flat_map (λ x. f (g x)) xs
  flat-map f g [] = refl
  flat-map f g (x ∷ xs) = ap (λ l. f (g x) ++ l) (flat-map f g xs)

  pub flat-flat : (f : B → List C) (g : A → List B) (xs : List A) → flat_map f (flat_map g xs) ≡ flat_map (λ x. flat_map f (g x)) xs
  flat-flat f g [] = refl
  flat-flat f g (x ∷ xs) = flat-append f (g x) (flat_map g xs) ∙ ap (λ l. flat_map f (g x) ++ l) (flat-flat f g xs)

-- a sum over the elements with this number is the one element's
abbrev pub Picked : {Y : Type 0} → (Y → ℕ) → List Y → Y → Type 0
Picked {Y = Y} key ys x = (g : Y → ℕ) → total (λ y. cond (nat_eq (key x) (key y)) (g y) 0) ys ≡ g x

module _ {Y : Type 0} (key : Y → ℕ) where
  none_above : (n m : ℕ) (ys : List Y) → n ≤ m → Ascends key m ys → (g : Y → ℕ) → total (λ y. cond (nat_eq n (key y)) (g y) 0) ys ≡ 0
  none_above n m [] le a g = refl
  none_above n m (y ∷ ys) le a g =
      let h = a.0 in
      let ne : nat_eq n (key y) ≡ false = ne_eqb n (key y) (λ e. omega arith) in
      let r = none_above n (key y) ys (omega arith) a.1 g in
      ap (λ b. cond b (g y) 0 + total (λ z. cond (nat_eq n (key z)) (g z) 0) ys) ne ∙ zero-add _ ∙ r

  pub later : (n : ℕ) (ys : List Y) → Ascends key n ys → AllOf (λ y. n < key y) ys
  later n [] a = tt
  later n (y ∷ ys) a = let h = a.0 in (h, all_mono _ _ (λ z (l : key y < key z). omega arith) ys (later (key y) ys a.1))

  pub picks : (n : ℕ) (ys : List Y) → Ascends key n ys → AllOf (Picked key ys) ys
  picks n [] a = tt
  picks n (y ∷ ys) a = (
    (λ g. ap (λ b. cond b (g y) 0 + total (λ z. cond (nat_eq (key y) (key z)) (g z) 0) ys) (eq-eqb (key y) (key y) refl)
        ∙ ap (λ t. g y + t) (none_above (key y) (key y) ys (omega arith) a.1 g) ∙ add-zero (g y)),
    both_all ys (later (key y) ys a.1) (picks (key y) ys a.1),
  )
    where
      both_all : (zs : List Y) → AllOf (λ z. key y < key z) zs → AllOf (Picked key ys) zs → AllOf (Picked key (y ∷ ys)) zs
      both_all [] b c = tt
      both_all (z ∷ zs) b c = (
        (λ g. let h = b.0 in
            let ne : nat_eq (key z) (key y) ≡ false = ne_eqb (key z) (key y) (λ e. omega arith) in
            ap (λ t. cond t (g y) 0 + total (λ u. cond (nat_eq (key z) (key u)) (g u) 0) ys) ne ∙ zero-add _ ∙ c.0 g),
        both_all zs b.1 c.1,
      )

-- a join of rows that name a number each with the rows of all numbers
module _ {X Y : Type 0} (key : Y → ℕ) (to : X → Y) (lrow : X → Row) (R : Y → List Row) (f g : Row → Cell)
    (left_key : (x : X) → f (lrow x) ≡ num (key (to x)))
    (right_key : (y : Y) → AllOf (λ r. g r ≡ num (key y)) (R y)) where
  one_side : (w : Row → ℕ) (l : Row) (n : ℕ) (y : Y) → f l ≡ num n → total (λ r. cond (cell_eq (f l) (g r)) (w (l ++ r)) 0) (R y) ≡ cond (nat_eq n (key y)) (total (λ r. w (l ++ r)) (R y)) 0
  one_side w l n y e =
      total-all (λ r. cond (cell_eq (f l) (g r)) (w (l ++ r)) 0) (λ r. cond (nat_eq n (key y)) (w (l ++ r)) 0) (R y)
      (all_mono _ _ (λ r (h : g r ≡ num (key y)).
      ap (λ c. cond (cell_eq c (g r)) (w (l ++ r)) 0) e ∙ ap (λ c. cond (cell_eq (num n) c) (w (l ++ r)) 0) h ∙ ap (λ b. cond b (w (l ++ r)) 0) (num_same n (key y))) (R y) (right_key y))
      ∙ elim (nat_eq n (key y)) as (λ t. total (λ r. cond t (w (l ++ r)) 0) (R y) ≡ cond t (total (λ r. w (l ++ r)) (R y)) 0) [ true ↦ refl | false ↦ total-zero (R y) ]

  pub join_picks : (xs : List X) (ys : List Y) → AllOf (λ x. Picked key ys (to x)) xs → Same (joined bare f g (map lrow xs) (flat_map R ys)) (flat_map (λ x. map (λ r. lrow x ++ r) (R (to x))) xs)
  join_picks xs ys p = record {
    at = λ w.
        let each = λ (l : Row). map (λ r. l ++ r) (filter (λ r. cell_eq (f l) (g r)) (flat_map R ys)) in
        total-flat w each (map lrow xs)
        ∙ total-map (λ l. total w (each l)) lrow xs
        ∙ total-all (λ x. total w (each (lrow x))) (λ x. total w (map (λ r. lrow x ++ r) (R (to x)))) xs
        (all_mono _ _ (λ x (h : Picked key ys (to x)).
        total-map w (λ r. lrow x ++ r) (filter (λ r. cell_eq (f (lrow x)) (g r)) (flat_map R ys))
        ∙ total-keep (λ r. w (lrow x ++ r)) (λ r. cell_eq (f (lrow x)) (g r)) (flat_map R ys)
        ∙ total-flat (λ r. cond (cell_eq (f (lrow x)) (g r)) (w (lrow x ++ r)) 0) R ys
        ∙ total-ext _ _ ys (λ y. one_side w (lrow x) (key (to x)) y (left_key x))
        ∙ h (λ y. total (λ r. w (lrow x ++ r)) (R y))
        ∙ sym (total-map w (λ r. lrow x ++ r) (R (to x)))) xs p)
        ∙ sym (total-flat w (λ x. map (λ r. lrow x ++ r) (R (to x))) xs);
  }
