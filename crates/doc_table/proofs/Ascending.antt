-- Ascending lists.
use Rattle.std.proofs.Common.{inl, inr, ◌⊎◌, ◌≡◌, Bool, true, false, cond, ◌||◌, List, [], ◌∷◌, ◌++◌, map, refl, sym, ap, ◌∙◌}
use Rattle.std.proofs.lemmas.Bool.{false≢true, true≢false}
use Rattle.doc_table.specs.Orders.{has, put, once}
use Rattle.doc_table.specs.Ascending.{In, AllAfter, Ascends, IsOrder, OneAscending, StandsOnce}

-- ---- elements

pub in-left : {A : Type 0} (x : A) (xs ys : List A) → In x xs → In x (xs ++ ys)
in-left x [] ys h = absurd h
in-left x (y ∷ xs) ys h = elim h [ inl e ↦ inl e | inr k ↦ inr (in-left x xs ys k) ]

pub in-right : {A : Type 0} (x : A) (xs ys : List A) → In x ys → In x (xs ++ ys)
in-right x [] ys h = h
in-right x (y ∷ xs) ys h = inr (in-right x xs ys h)

pub in-parts : {A : Type 0} (x : A) (xs ys : List A) → In x (xs ++ ys) → In x xs ⊎ In x ys
in-parts x [] ys h = inr h
in-parts x (y ∷ xs) ys h = elim h [ inl e ↦ inl (inl e) | inr k ↦ elim (in-parts x xs ys k) [ inl a ↦ inl (inr a) | inr b ↦ inr b ] ]

pub in-map : {A B : Type 0} (f : A → B) (x : A) (xs : List A) → In x xs → In (f x) (map f xs)
in-map f x [] h = absurd h
in-map f x (y ∷ xs) h = elim h [ inl e ↦ inl (ap f e) | inr k ↦ inr (in-map f x xs k) ]

pub in-unmap : {A B : Type 0} (f : A → B) (z : B) (xs : List A) → In z (map f xs) → (x : A) × (In x xs) × (z ≡ f x)
in-unmap f z [] h = absurd h
in-unmap f z (y ∷ xs) h = elim h [ inl e ↦ (y, inl refl, e) | inr k ↦ (let r = in-unmap f z xs k in (r.0, inr r.1, r.2)) ]

pub after-at : {A : Type 0} (less : A → A → Bool) (x y : A) (ys : List A) → AllAfter less x ys → In y ys → less x y ≡ true
after-at less x y [] a h = absurd h
after-at less x y (z ∷ ys) a h = elim h [ inl e ↦ ap (less x) e ∙ a.0 | inr k ↦ after-at less x y ys a.1 k ]

pub after-all : {A : Type 0} (less : A → A → Bool) (x : A) (ys : List A) → ((y : A) → In y ys → less x y ≡ true) → AllAfter less x ys
after-all less x [] f = tt
after-all less x (y ∷ ys) f = (f y (inl refl), after-all less x ys (λ z h. f z (inr h)))

-- one ascending list before another
pub ascends-append : {A : Type 0} (less : A → A → Bool) (xs ys : List A) → Ascends less xs → Ascends less ys → ((x y : A) → In x xs → In y ys → less x y ≡ true) → Ascends less (xs ++ ys)
ascends-append less [] ys a b f = b
ascends-append less (x ∷ xs) ys a b f = (
  after-all less x (xs ++ ys) (λ y h. elim (in-parts y xs ys h) [ inl p ↦ after-at less x y xs a.0 p | inr q ↦ f x y (inl refl) q ]),
  ascends-append less xs ys a.1 b (λ z y h k. f z y (inr h) k),
)

-- where the order is kept
pub ascends-map : {A B : Type 0} (less : A → A → Bool) (more : B → B → Bool) (f : A → B) (xs : List A) → ((x y : A) → In x xs → In y xs → less x y ≡ true → more (f x) (f y) ≡ true) → Ascends less xs → Ascends more (map f xs)
ascends-map less more f [] g a = tt
ascends-map less more f (x ∷ xs) g a = (
  after-all more (f x) (map f xs) (λ z h. let r = in-unmap f z xs h in ap (more (f x)) r.2 ∙ g x r.0 (inl refl) (inr r.1) (after-at less x r.0 xs a.0 r.1)),
  ascends-map less more f xs (λ y z h k. g y z (inr h) (inr k)) a.1,
)

-- ---- determined by the elements

pub one_ascending : {A : Type 0} → OneAscending A
one_ascending less turn [] [] a b f g = refl
one_ascending less turn [] (y ∷ ys) a b f g = absurd (g y (inl refl))
one_ascending less turn (x ∷ xs) [] a b f g = absurd (f x (inl refl))
one_ascending {A} less turn (x ∷ xs) (y ∷ ys) a b f g =
    let same : x ≡ y = elim (f x (inl refl)) [
      | inl e ↦ e
      | inr h ↦ (elim (g y (inl refl)) [
        | inl e ↦ sym e
        | inr k ↦ absurd (false≢true (sym (turn x y (after-at less x y xs a.0 k)) ∙ after-at less y x ys b.0 h))
      ])
    ] in
    ap (λ z. z ∷ xs) same ∙ ap (λ zs. y ∷ zs) (one_ascending less turn xs ys a.1 b.1
    (λ z h. elim (f z (inr h)) [ inl e ↦ absurd (self x (ap (less x) (same ∙ sym e) ∙ after-at less x z xs a.0 h)) | inr k ↦ k ])
    (λ z h. elim (g z (inr h)) [ inl e ↦ absurd (self y (ap (less y) (sym same ∙ sym e) ∙ after-at less y z ys b.0 h)) | inr k ↦ k ]))
  where
    self : (z : A) → less z z ≡ true → ⊥
    self z h = false≢true (sym (turn z z h) ∙ h)

-- ---- once

module _ {A : Type 0} (less eq : A → A → Bool) where
  in-put : (x : A) (ys : List A) (z : A) → In z (put less x ys) → In z (x ∷ ys)
  in-put x [] z h = h
  in-put x (y ∷ ys) z h = at (less y x) (λ k. in-put x ys z k) h
    where
      at : (b : Bool) → (In z (put less x ys) → In z (x ∷ ys)) → In z (cond b (y ∷ put less x ys) (x ∷ y ∷ ys)) → In z (x ∷ y ∷ ys)
      at true f h = elim h [ inl e ↦ inr (inl e) | inr k ↦ (elim (f k) [ inl e ↦ inl e | inr l ↦ inr (inr l) ]) ]
      at false f h = h

  pub has-in : (x : A) (ys : List A) → has eq x ys ≡ true → (y : A) × (In y ys) × (eq x y ≡ true)
  has-in x [] h = absurd (false≢true h)
  has-in x (y ∷ ys) h = at (eq x y) refl (λ k. has-in x ys k) h
    where
      at : (b : Bool) → eq x y ≡ b → (has eq x ys ≡ true → (z : A) × (In z ys) × (eq x z ≡ true)) → b || has eq x ys ≡ true → (z : A) × (In z (y ∷ ys)) × (eq x z ≡ true)
      at true e f k = (y, inl refl, e)
      at false e f k = let r = f k in (r.0, inr r.1, r.2)

  pub in-has : (x y : A) (ys : List A) → In y ys → eq x y ≡ true → has eq x ys ≡ true
  in-has x y [] h e = absurd h
  in-has x y (z ∷ ys) h e = elim h [
    | inl s ↦ ap (λ b. b || has eq x ys) (sym (ap (eq x) s) ∙ e)
    | inr k ↦ ap (λ b. eq x z || b) (in-has x y ys k e) ∙ or-true (eq x z)
  ]
    where
      or-true : (b : Bool) → b || true ≡ true
      or-true true = refl
      or-true false = refl

  put-in : (x : A) (ys : List A) (z : A) → In z (x ∷ ys) → In z (put less x ys)
  put-in x [] z h = h
  put-in x (y ∷ ys) z h = at (less y x) (λ k. put-in x ys z k)
    where
      at : (b : Bool) → (In z (x ∷ ys) → In z (put less x ys)) → In z (cond b (y ∷ put less x ys) (x ∷ y ∷ ys))
      at true f = elim h [
        | inl e ↦ inr (f (inl e))
        | inr k ↦ (elim k [ inl e ↦ inl e | inr l ↦ inr (f (inr l)) ])
      ]
      at false f = h

  module _ (order : IsOrder less eq) where
    put-ascends : (x : A) (ys : List A) → has eq x ys ≡ false → Ascends less ys → Ascends less (put less x ys)
    put-ascends x [] h a = (tt, tt)
    put-ascends x (y ∷ ys) h a = at (less y x) refl (eq x y) refl h (λ k. put-ascends x ys k a.1)
      where
        at : (b : Bool) → less y x ≡ b → (d : Bool) → eq x y ≡ d → d || has eq x ys ≡ false → (has eq x ys ≡ false → Ascends less (put less x ys)) → Ascends less (cond b (y ∷ put less x ys) (x ∷ y ∷ ys))
        at b p true q k r = absurd (true≢false k)
        at true p false q k r =
            (after-all less y (put less x ys) (λ z l. elim (in-put x ys z l) [ inl e ↦ ap (less y) e ∙ p | inr m ↦ after-at less y z ys a.0 m ]), r k)
        at false p false q k r =
            let first : less x y ≡ true = order.third y x p (order.eq_turn y x ∙ q) in
            ((first, after-all less x ys (λ z l. order.chain x y z first (after-at less y z ys a.0 l))), a)

    put_once-ascends : (x : A) (ys : List A) → Ascends less ys → Ascends less (cond (has eq x ys) ys (put less x ys))
    put_once-ascends x ys a = at (has eq x ys) refl
      where
        at : (b : Bool) → has eq x ys ≡ b → Ascends less (cond b ys (put less x ys))
        at true h = a
        at false h = put-ascends x ys h a

    pub once-ascends : (xs : List A) → Ascends less (once less eq xs)
    once-ascends [] = tt
    once-ascends (x ∷ xs) = put_once-ascends x (once less eq xs) (once-ascends xs)

    pub once-from : (xs : List A) (z : A) → In z (once less eq xs) → In z xs
    once-from [] z h = h
    once-from (x ∷ xs) z h = at (has eq x (once less eq xs)) (λ k. once-from xs z k) h
      where
        at : (b : Bool) → (In z (once less eq xs) → In z xs) → In z (cond b (once less eq xs) (put less x (once less eq xs))) → In z (x ∷ xs)
        at true f k = inr (f k)
        at false f k = elim (in-put x (once less eq xs) z k) [ inl e ↦ inl e | inr l ↦ inr (f l) ]

    pub once-all : (xs : List A) (z : A) → In z xs → has eq z (once less eq xs) ≡ true
    once-all [] z h = absurd h
    once-all (x ∷ xs) z h = at (has eq x (once less eq xs)) refl (λ k. once-all xs z k)
      where
        at : (b : Bool) → has eq x (once less eq xs) ≡ b → (In z xs → has eq z (once less eq xs) ≡ true) → has eq z (cond b (once less eq xs) (put less x (once less eq xs))) ≡ true
        at true e f = elim h [ inl s ↦ ap (λ y. has eq y (once less eq xs)) s ∙ e | inr k ↦ f k ]
        at false e f = elim h [
          | inl s ↦ in-has z x (put less x (once less eq xs)) (put-in x (once less eq xs) x (inl refl)) (ap (λ y. eq y x) s ∙ order.eq_self x)
          | inr k ↦ (let r = has-in z (once less eq xs) (f k) in in-has z r.0 (put less x (once less eq xs)) (put-in x (once less eq xs) r.0 (inr r.1)) r.2)
        ]

    pub stands_once : (xs : List A) → StandsOnce less eq xs
    stands_once xs = record { ascends = once-ascends xs; from = once-from xs; all = once-all xs }
