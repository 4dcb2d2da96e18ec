-- Lists in order, each once, through a function that keeps the order.
use Rattle.std.proofs.Common.{inl, inr, ◌≡◌, Bool, true, false, cond, List, [], ◌∷◌, ◌++◌, map, refl, sym, ap, ◌∙◌, subst}
use Rattle.std.specs.List.{flat_map}
use Rattle.doc_table.specs.Orders.{has, put, once}
use Rattle.doc_table.specs.Ascending.{In, IsOrder}
use Rattle.doc_table.proofs.Ascending.{in-left, in-right, in-parts}

module _ {A B : Type 0} (f : A → B) (less eq : B → B → Bool) (less' eq' : A → A → Bool) (same : (x y : A) → less (f x) (f y) ≡ less' x y) (equal : (x y : A) → eq (f x) (f y) ≡ eq' x y) where
  has-map : (x : A) (ys : List A) → has eq (f x) (map f ys) ≡ has eq' x ys
  has-map x [] = refl
  has-map x (y ∷ ys) = rw (equal x y, has-map x ys) refl

  put-map : (x : A) (ys : List A) → put less (f x) (map f ys) ≡ map f (put less' x ys)
  put-map x [] = refl
  put-map x (y ∷ ys) = ap (λ b. cond b (f y ∷ put less (f x) (map f ys)) (f x ∷ f y ∷ map f ys)) (same y x) ∙ at (less' y x) (put-map x ys)
    where
      at : (b : Bool) → put less (f x) (map f ys) ≡ map f (put less' x ys) → cond b (f y ∷ put less (f x) (map f ys)) (f x ∷ f y ∷ map f ys) ≡ map f (cond b (y ∷ put less' x ys) (x ∷ y ∷ ys))
      at true e = ap (λ z. f y ∷ z) e
      at false e = refl

  pub once-map : (xs : List A) → once less eq (map f xs) ≡ map f (once less' eq' xs)
  once-map [] = refl
  once-map (x ∷ xs) =
      ap (λ zs. cond (has eq (f x) zs) zs (put less (f x) zs)) (once-map xs)
      ∙ ap (λ b. cond b (map f (once less' eq' xs)) (put less (f x) (map f (once less' eq' xs)))) (has-map x (once less' eq' xs))
      ∙ at (has eq' x (once less' eq' xs))
    where
      at : (b : Bool) → cond b (map f (once less' eq' xs)) (put less (f x) (map f (once less' eq' xs))) ≡ map f (cond b (once less' eq' xs) (put less' x (once less' eq' xs)))
      at true = refl
      at false = put-map x (once less' eq' xs)

-- an order whose equality is said the other way round
pub turned-order : {A : Type 0} (less eq eq' : A → A → Bool) → ((x y : A) → eq' x y ≡ eq x y) → IsOrder less eq → IsOrder less eq'
turned-order less eq eq' e o = record {
  eq_self = λ x. e x x ∙ o.eq_self x;
  eq_turn = λ x y. e x y ∙ o.eq_turn x y ∙ sym (e y x);
  eq_same = λ x y z h. e x z ∙ o.eq_same x y z (sym (e x y) ∙ h) ∙ sym (e y z);
  less_same = λ x y z h. o.less_same x y z (sym (e x y) ∙ h);
  less_turn = o.less_turn;
  less_apart = λ x y h. e x y ∙ o.less_apart x y h;
  third = λ x y h k. o.third x y h (sym (e x y) ∙ k);
  chain = o.chain;
}

-- ---- lists

pub append-assoc : {X : Type 0} (a b c : List X) → (a ++ b) ++ c ≡ a ++ (b ++ c)
append-assoc [] b c = refl
append-assoc (x ∷ a) b c = ap (λ z. x ∷ z) (append-assoc a b c)

pub to-none : {X : Type 0} (xs : List X) → xs ++ [] ≡ xs
to-none [] = refl
to-none (x ∷ xs) = ap (λ z. x ∷ z) (to-none xs)

pub map-append : {X Y : Type 0} (f : X → Y) (xs ys : List X) → map f (xs ++ ys) ≡ map f xs ++ map f ys
map-append f [] ys = refl
map-append f (x ∷ xs) ys = ap (λ z. f x ∷ z) (map-append f xs ys)

pub map-map : {X Y Z : Type 0} (g : Y → Z) (f : X → Y) (xs : List X) → map g (map f xs) ≡ map (λ x. g (f x)) xs
map-map g f [] = refl
map-map g f (x ∷ xs) = ap (λ z. g (f x) ∷ z) (map-map g f xs)

pub flat-append : {X Y : Type 0} (f : X → List Y) (xs ys : List X) → flat_map f (xs ++ ys) ≡ flat_map f xs ++ flat_map f ys
flat-append f [] ys = refl
flat-append f (x ∷ xs) ys = ap (λ z. f x ++ z) (flat-append f xs ys) ∙ sym (append-assoc (f x) (flat_map f xs) (flat_map f ys))

pub in-flat : {A B : Type 0} (f : A → List B) (x : A) (z : B) (xs : List A) → In x xs → In z (f x) → In z (flat_map f xs)
in-flat f x z [] h k = absurd h
in-flat f x z (y ∷ xs) h k = elim h [
  | inl s ↦ in-left z (f y) (flat_map f xs) (subst (λ w. In z (f w)) s k)
  | inr l ↦ in-right z (f y) (flat_map f xs) (in-flat f x z xs l k)
]

pub from-flat : {A B : Type 0} (f : A → List B) (z : B) (xs : List A) → In z (flat_map f xs) → (x : A) × In x xs × In z (f x)
from-flat f z [] h = absurd h
from-flat f z (y ∷ xs) h = elim (in-parts z (f y) (flat_map f xs) h) [
  | inl a ↦ (y, inl refl, a)
  | inr b ↦ (let r = from-flat f z xs b in (r.0, inr r.1, r.2))
]
