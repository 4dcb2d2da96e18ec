-- A pool that goes on after another one.
use Rattle.std.proofs.Common.{◌≡◌, ℕ, zero, suc, List, [], ◌∷◌, length, take, Some, refl, ap, ◌∙◌}
use Rattle.std.specs.Prelude.{slice_get, slice_index_or}
use Rattle.doc_table.specs.OtherTexts.{Grows}

abbrev Texts : Type 0
Texts = List (List ℕ)

pub later_self : (texts : Texts) → Grows texts texts
later_self [] = refl
later_self (t ∷ ts) = ap (λ z. t ∷ z) (later_self ts)

pub later_later : (a b c : Texts) → Grows a b → Grows b c → Grows a c
later_later [] b c h k = refl
later_later (x ∷ xs) [] c h k = cc
later_later (x ∷ xs) (y ∷ ys) [] h k = cc
later_later (x ∷ xs) (y ∷ ys) (z ∷ zs) h k =
    let one : y ≡ x = cc in
    let two : z ≡ y = cc in
    let firsts : take (length xs) ys ≡ xs = cc in
    let seconds : take (length ys) zs ≡ ys = cc in
    let rest : take (length xs) zs ≡ xs = later_later xs ys zs firsts seconds in
    let head : z ≡ x = two ∙ one in
    cc

-- a text that a number has later, too
pub text_kept : (a b : Texts) (n : ℕ) (t : List ℕ) → slice_get a n ≡ Some t → Grows a b → slice_index_or b n [] ≡ t
text_kept [] b n t e k = cc
text_kept (x ∷ xs) [] n t e k = cc
text_kept (x ∷ xs) (y ∷ ys) zero t e k =
    let same : y ≡ x = cc in
    let given : x ≡ t = cc in
    same ∙ given
text_kept (x ∷ xs) (y ∷ ys) (suc n) t e k = text_kept xs ys n t e (let tails : take (length xs) ys ≡ xs = cc in tails)
