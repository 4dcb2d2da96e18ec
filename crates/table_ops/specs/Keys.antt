-- Values as small numbers, equal exactly where the values are: each value's place among the different
-- ones up to it (own rule).
use Rattle.std.specs.Prelude.{ℕ, suc, ◌≡◌, ◌≤◌, Bool, cond, List, [], ◌∷◌, nat_eq}
use Rattle.std.specs.List.{position_or_len}
use Rattle.indexmap.specs.IndexSet.{insert_key}
use Rattle.xq_base.specs.declared.item.Item.{Item}
use Rattle.xq_base.specs.contracts.item.ItemPartialEq.TheImpl as equality

-- kept cells are equal where all their parts are
abbrev pub item_eq : Item → Item → Bool
item_eq = (equality.ghosts).eq

-- the place of a value among others, or how many these are
abbrev pub place_in : {X : Type 0} → (X → X → Bool) → List X → X → ℕ
place_in eq t x = position_or_len (eq x) t

-- the keys of values, behind the different ones before
abbrev pub keys_from : {X : Type 0} → (X → X → Bool) → List X → List X → List ℕ
keys_from eq t [] = []
keys_from eq t (x ∷ xs) = place_in eq t x ∷ keys_from eq (insert_key eq t x) xs

-- the places of the keys that come for the first time, so many having come before
abbrev pub new_places : ℕ → ℕ → List ℕ → List ℕ
new_places seen p [] = []
new_places seen p (k ∷ ks) = cond (nat_eq k seen) (p ∷ new_places (suc seen) (suc p) ks) (new_places seen (suc p) ks)

-- keys in the order of their first places
abbrev pub InTurn : ℕ → List ℕ → Type 0
InTurn seen [] = Unit {0}
InTurn seen (k ∷ ks) = (k ≤ seen) × InTurn (cond (nat_eq k seen) (suc seen) seen) ks

-- a number for each value, that tells it from those of a list
abbrev pub TellsFrom : {X Y : Type 0} → (X → Y → Bool) → (X → ℕ) → (Y → ℕ) → List Y → Type 0
TellsFrom {X} same f g [] = Unit {0}
TellsFrom {X} same f g (y ∷ ys) = ((x : X) → same x y ≡ nat_eq (f x) (g y)) × TellsFrom same f g ys
