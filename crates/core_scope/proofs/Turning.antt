-- A graph turned round has the same ways, from their ends to their beginnings.
use Rattle.std.proofs.Common.{◌≡◌, refl, sym, ap, subst, ◌∙◌, ℕ, zero, suc, ◌+◌, ◌<◌, ◌≤◌, length, List, [], ◌∷◌, ◌++◌, get_or, set, replicate, drop, ◌⊎◌, inl, inr, arith}
use Rattle.std.proofs.lemmas.List.{drop_more}
use Rattle.core_scope.specs.Refusals.{Comes, straight, through}
use Rattle.core_scope.specs.Search.{Graph, targets, added, add_to, turned_from, turned}
use Rattle.core_scope.proofs.Searching.{In, contains_in, in_contains, comes_more, set_length}

-- a turn of the loop, and its end
pub turned_turn : (g : Graph) (i : ℕ) (r : Graph) → i < length g → turned_from i (drop i g) r ≡ turned_from (i + 1) (drop (i + 1) g) (add_to i (get_or g i []) r)
turned_turn g i r h = ap (λ xs. turned_from i xs r) (drop_more g i [] h)

pub turned_end : (g : Graph) (i : ℕ) (r : Graph) → length g ≤ i → turned_from i (drop i g) r ≡ r
turned_end g i r h = ap (λ xs. turned_from i xs r) (none g i h)
  where
    none : (g : Graph) (i : ℕ) → length g ≤ i → drop i g ≡ []
    none [] zero h = refl
    none [] (suc i) h = refl
    none (x ∷ xs) zero h = let no_place : ⊥ = omega (arith, h) in elim no_place [ ]
    none (x ∷ xs) (suc i) h = none xs i (omega (arith, h))

-- the last of a list, and the others
in_last : (xs : List ℕ) (y x : ℕ) → In x (xs ++ y ∷ []) → In x xs ⊎ (x ≡ y)
in_last [] y x (inl e) = inr (sym e)
in_last [] y x (inr i) = elim i [ ]
in_last (z ∷ zs) y x (inl e) = inl (inl e)
in_last (z ∷ zs) y x (inr i) = at (in_last zs y x i)
  where
    at : In x zs ⊎ (x ≡ y) → In x (z ∷ zs) ⊎ (x ≡ y)
    at (inl i) = inl (inr i)
    at (inr e) = inr e

in_first : (xs : List ℕ) (y x : ℕ) → In x xs → In x (xs ++ y ∷ [])
in_first [] y x i = elim i [ ]
in_first (z ∷ zs) y x (inl e) = inl e
in_first (z ∷ zs) y x (inr i) = inr (in_first zs y x i)

in_end : (xs : List ℕ) (y : ℕ) → In y (xs ++ y ∷ [])
in_end [] y = inl refl
in_end (z ∷ zs) y = inr (in_end zs y)

set_targets : (r : Graph) (k j : ℕ) (v : List ℕ) → (targets (set r k v) j ≡ targets r j) ⊎ ((j ≡ k) × (targets (set r k v) j ≡ v))
set_targets [] k j v = inl refl
set_targets (x ∷ xs) zero zero v = inr (refl, refl)
set_targets (x ∷ xs) zero (suc j) v = inl refl
set_targets (x ∷ xs) (suc k) zero v = inl refl
set_targets (x ∷ xs) (suc k) (suc j) v = at (set_targets xs k j v)
  where
    at : (targets (set xs k v) j ≡ targets xs j) ⊎ ((j ≡ k) × (targets (set xs k v) j ≡ v)) →
        (targets (set xs k v) j ≡ targets xs j) ⊎ ((suc j ≡ suc k) × (targets (set xs k v) j ≡ v))
    at (inl e) = inl e
    at (inr p) = inr (ap suc p.0, p.1)

set_there : (r : Graph) (k : ℕ) (v : List ℕ) → k < length r → targets (set r k v) k ≡ v
set_there [] k v h = let no_place : ⊥ = omega (arith, h) in elim no_place [ ]
set_there (x ∷ xs) zero v h = refl
set_there (x ∷ xs) (suc k) v h = set_there xs k v (omega (arith, h))

added_sound : (r : Graph) (k f j x : ℕ) → In x (targets (added k f r) j) → In x (targets r j) ⊎ ((x ≡ f) × (j ≡ k))
added_sound r k f j x i = at (set_targets r k j (targets r k ++ f ∷ []))
  where
    last : (j ≡ k) → In x (targets r k) ⊎ (x ≡ f) → In x (targets r j) ⊎ ((x ≡ f) × (j ≡ k))
    last p (inl i) = inl (subst (λ z. In x (targets r z)) (sym p) i)
    last p (inr e) = inr (e, p)

    at : (targets (added k f r) j ≡ targets r j) ⊎ ((j ≡ k) × (targets (added k f r) j ≡ targets r k ++ f ∷ [])) → In x (targets r j) ⊎ ((x ≡ f) × (j ≡ k))
    at (inl e) = inl (subst (λ z. In x z) e i)
    at (inr p) = last p.0 (in_last (targets r k) f x (subst (λ z. In x z) p.1 i))

added_kept : (r : Graph) (k f j x : ℕ) → In x (targets r j) → In x (targets (added k f r) j)
added_kept r k f j x i = at (set_targets r k j (targets r k ++ f ∷ []))
  where
    at : (targets (added k f r) j ≡ targets r j) ⊎ ((j ≡ k) × (targets (added k f r) j ≡ targets r k ++ f ∷ [])) → In x (targets (added k f r) j)
    at (inl e) = subst (λ z. In x z) (sym e) i
    at (inr p) = subst (λ z. In x z) (sym p.1) (in_first (targets r k) f x (subst (λ z. In x (targets r z)) p.0 i))

added_made : (r : Graph) (k f : ℕ) → k < length r → In f (targets (added k f r) k)
added_made r k f h = subst (λ z. In f z) (sym (set_there r k (targets r k ++ f ∷ []) h)) (in_end (targets r k) f)

added_length : (r : Graph) (k f : ℕ) → length (added k f r) ≡ length r
added_length r k f = set_length r k (targets r k ++ f ∷ [])

add_to_sound : (f : ℕ) (ks : List ℕ) (r : Graph) (j x : ℕ) → In x (targets (add_to f ks r) j) → In x (targets r j) ⊎ ((x ≡ f) × In j ks)
add_to_sound f [] r j x i = inl i
add_to_sound f (k ∷ ks) r j x i = at (add_to_sound f ks (added k f r) j x i)
  where
    first : In x (targets r j) ⊎ ((x ≡ f) × (j ≡ k)) → In x (targets r j) ⊎ ((x ≡ f) × In j (k ∷ ks))
    first (inl i) = inl i
    first (inr p) = inr (p.0, inl (sym p.1))

    at : In x (targets (added k f r) j) ⊎ ((x ≡ f) × In j ks) → In x (targets r j) ⊎ ((x ≡ f) × In j (k ∷ ks))
    at (inl i) = first (added_sound r k f j x i)
    at (inr p) = inr (p.0, inr p.1)

add_to_kept : (f : ℕ) (ks : List ℕ) (r : Graph) (j x : ℕ) → In x (targets r j) → In x (targets (add_to f ks r) j)
add_to_kept f [] r j x i = i
add_to_kept f (k ∷ ks) r j x i = add_to_kept f ks (added k f r) j x (added_kept r k f j x i)

add_to_length : (f : ℕ) (ks : List ℕ) (r : Graph) → length (add_to f ks r) ≡ length r
add_to_length f [] r = refl
add_to_length f (k ∷ ks) r = add_to_length f ks (added k f r) ∙ added_length r k f

add_to_made : (f : ℕ) (ks : List ℕ) (r : Graph) (j : ℕ) → In j ks → j < length r → In f (targets (add_to f ks r) j)
add_to_made f [] r j i h = elim i [ ]
add_to_made f (k ∷ ks) r j (inl e) h =
    add_to_kept f ks (added k f r) j f (subst (λ z. In f (targets (added k f r) z)) e (added_made r k f (subst (λ z. z < length r) (sym e) h)))
add_to_made f (k ∷ ks) r j (inr i) h = add_to_made f ks (added k f r) j i (subst (λ z. j < z) (sym (added_length r k f)) h)

abbrev Some_node : Graph → ℕ → ℕ → ℕ → Type 0
Some_node g i j x = (m : ℕ) × (x ≡ i + m) × In j (targets g m)

from_sound : (g : Graph) (i : ℕ) (r : Graph) (j x : ℕ) → In x (targets (turned_from i g r) j) → In x (targets r j) ⊎ Some_node g i j x
from_sound [] i r j x h = inl h
from_sound (ks ∷ g) i r j x h = at (from_sound g (i + 1) (add_to i ks r) j x h)
  where
    first : In x (targets r j) ⊎ ((x ≡ i) × In j ks) → In x (targets r j) ⊎ Some_node (ks ∷ g) i j x
    first (inl h) = inl h
    first (inr p) = let e : x ≡ i + 0 = omega (arith, p.0) in inr (zero, e, p.1)

    at : In x (targets (add_to i ks r) j) ⊎ Some_node g (i + 1) j x → In x (targets r j) ⊎ Some_node (ks ∷ g) i j x
    at (inl h) = first (add_to_sound i ks r j x h)
    at (inr p) = let m : ℕ = p.0 in let q : x ≡ (i + 1) + m = p.1 in let e : x ≡ i + suc m = omega (arith, q) in inr (suc m, e, p.2)

from_kept : (g : Graph) (i : ℕ) (r : Graph) (j x : ℕ) → In x (targets r j) → In x (targets (turned_from i g r) j)
from_kept [] i r j x h = h
from_kept (ks ∷ g) i r j x h = from_kept g (i + 1) (add_to i ks r) j x (add_to_kept i ks r j x h)

from_made : (g : Graph) (i : ℕ) (r : Graph) (j m : ℕ) → In j (targets g m) → j < length r → In (i + m) (targets (turned_from i g r) j)
from_made [] i r j m h l = elim h [ ]
from_made (ks ∷ g) i r j zero h l =
    let e : i + 0 ≡ i = omega arith in
    subst (λ z. In z (targets (turned_from (i + 1) g (add_to i ks r)) j)) (sym e) (from_kept g (i + 1) (add_to i ks r) j i (add_to_made i ks r j h l))
from_made (ks ∷ g) i r j (suc m) h l =
    let e : i + suc m ≡ (i + 1) + m = omega arith in
    subst (λ z. In z (targets (turned_from (i + 1) g (add_to i ks r)) j)) (sym e) (from_made g (i + 1) (add_to i ks r) j m h (subst (λ z. j < z) (sym (add_to_length i ks r)) l))

none_there : (n j x : ℕ) → In x (targets (replicate n []) j) → ⊥
none_there zero j x i = i
none_there (suc n) zero x i = i
none_there (suc n) (suc j) x i = none_there n j x i

abbrev no_target : List ℕ
no_target = []

lists_length : (n : ℕ) → length (replicate n no_target) ≡ n
lists_length zero = refl
lists_length (suc n) = ap suc (lists_length n)

from_length : (g : Graph) (i : ℕ) (r : Graph) → length (turned_from i g r) ≡ length r
from_length [] i r = refl
from_length (ks ∷ g) i r = from_length g (i + 1) (add_to i ks r) ∙ add_to_length i ks r

pub turned_length : (n : ℕ) (g : Graph) → length (turned n g) ≡ n
turned_length n g = from_length g 0 (replicate n []) ∙ lists_length n

pub turned_sound : (n : ℕ) (g : Graph) (j x : ℕ) → In x (targets (turned n g) j) → In j (targets g x)
turned_sound n g j x h = at (from_sound g 0 (replicate n []) j x h)
  where
    at : In x (targets (replicate n []) j) ⊎ Some_node g 0 j x → In j (targets g x)
    at (inl i) = let no_place : ⊥ = none_there n j x i in elim no_place [ ]
    at (inr p) = let e : x ≡ p.0 = omega (arith, p.1) in subst (λ z. In j (targets g z)) (sym e) p.2

pub turned_made : (n : ℕ) (g : Graph) (j x : ℕ) → In j (targets g x) → j < n → In x (targets (turned n g) j)
turned_made n g j x h l =
    let e : 0 + x ≡ x = omega arith in
    subst (λ z. In z (targets (turned n g) j)) e (from_made g 0 (replicate n []) j x h (subst (λ z. j < z) (sym (lists_length n)) l))

-- ways
pub comes_turned : (n : ℕ) (g : Graph) (a b : ℕ) → Comes (targets (turned n g)) a b → Comes (targets g) b a
comes_turned n g a b (straight s) = straight (in_contains (targets g b) a (turned_sound n g a b (contains_in (targets (turned n g) a) b s.0 s.1 s.2)))
comes_turned n g a b (through {g = h} s rest) =
    comes_more g b h a (comes_turned n g h b rest) (turned_sound n g a h (contains_in (targets (turned n g) a) h s.0 s.1 s.2))
