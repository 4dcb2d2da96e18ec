-- Elements of lists.
use Rattle.std.proofs.Common.{inl, inr, ◌≡◌, ℕ, List, [], ◌∷◌, zero, suc, ◌<◌, length, sym, arith, Contains}
use Rattle.std.specs.Prelude.{slice_index_or}
use Rattle.staircase.specs.Parts.{In}
pub use Rattle.doc_table.proofs.Ascending.{in-left, in-right, in-parts}

pub in-contains : {X : Type 0} (x : X) (xs : List X) → In x xs → Contains xs x
in-contains x [] h = absurd h
in-contains x (y ∷ ys) h = elim h [
  | inl e ↦ (0, omega arith, sym e)
  | inr r ↦ (let k = in-contains x ys r in (suc k.0, omega (arith, k.1), k.2))
]

pub contains-in : {X : Type 0} (x : X) (xs : List X) → Contains xs x → In x xs
contains-in x [] h = absurd (omega (arith, h.1))
contains-in x (y ∷ ys) h = go h.0 h.1 h.2 (λ k. contains-in x ys k)
  where
    go : (k : ℕ) → k < length (y ∷ ys) → slice_index_or (y ∷ ys) k x ≡ x → (Contains ys x → In x ys) → In x (y ∷ ys)
    go zero l e f = inl (sym e)
    go (suc k) l e f = inr (f (k, omega arith, e))
