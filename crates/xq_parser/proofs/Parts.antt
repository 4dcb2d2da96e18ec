-- Parts of a text between places that may stand behind its end.
use Rattle.std.proofs.Common.{refl, ◌≡◌, ℕ, zero, suc, ◌-◌, ◌<◌, ◌≤◌, min, true, List, [], ◌∷◌, length, take, drop, get_or, None, nat_le, sym, ap, ◌∙◌, arith, length-drop}
use Rattle.std.proofs.lemmas.List.{take_min}
use Rattle.std.proofs.lemmas.Grind.{common_steps}
use Rattle.std.specs.Prelude.{slice_range}
use Rattle.xq_ast.specs.declared.token.DirPlace.{DirPlace}
use Rattle.xq_ast.specs.Values.{reference}
use Rattle.xq_ast.specs.Pieces.{piece}

-- a part up to the end of the text
pub up_to_end : (xs : List ℕ) (from to : ℕ) → slice_range xs from (min to (length xs)) ≡ slice_range xs from to
up_to_end xs from to =
    let e : min to (length xs) - from ≡ min (to - from) (length (drop from xs)) = omega (arith, length-drop from xs) in
    ap (λ n. take n (drop from xs)) e ∙ take_min (to - from) (drop from xs)

pub none_between : (xs : List ℕ) (from to : ℕ) → min to (length xs) ≤ from → slice_range xs from to ≡ []
none_between xs from to l =
    let e : min to (length xs) - from ≡ 0 = omega arith in
    sym (up_to_end xs from to) ∙ ap (λ n. take n (drop from xs)) e

no_byte : (ts : List ℕ) (p : ℕ) → length ts ≤ p → get_or ts p 0 ≡ 0
no_byte [] p h = refl
no_byte (t ∷ ts) zero h = absurd (omega (arith, h))
no_byte (t ∷ ts) (suc p) h = no_byte ts p (omega (arith, h))

pub no_reference : (text : List ℕ) (at : ℕ) → length text < at → reference text at ≡ None
unfolding reference
no_reference text at h = let e : get_or text at 0 ≡ 0 = no_byte text at (omega arith) in rw e refl

pub no_piece : (text : List ℕ) (place : DirPlace) (at : ℕ) → length text ≤ at → piece text place at ≡ None
unfolding piece
no_piece text place at h = let t : nat_le (length text) at ≡ true = grind (arith, common_steps) in rw t refl
