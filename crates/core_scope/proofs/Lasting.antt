-- What stands for a text in a pool does so in each later one.
use Rattle.std.proofs.Common.{◌≡◌, refl, sym, ap, ◌∙◌, ℕ, zero, suc, ◌<◌, ◌≤◌, length, take, get_or, slice_get, slice_index_or, List, [], ◌∷◌, Option, Some, None, arith}
use Rattle.std.proofs.lemmas.Grind.{common_steps}
use Rattle.xq_base.specs.declared.item.TextId.{TextId}
use Rattle.xq_base.specs.Texts.{Text}
use Rattle.doc_table.specs.Tree.{text_in}
use Rattle.core_scope.specs.Standing.{TextStands}

got : (texts : List Text) (i : ℕ) (x : Text) → slice_get texts i ≡ Some x → (i < length texts) × (get_or texts i [] ≡ x)
got [] i x e = cc
got (t ∷ ts) zero x e = (omega arith, some_is t x e)
  where
    some_is : (a b : Text) → Some a ≡ Some b → a ≡ b
    some_is a b e = cc
got (t ∷ ts) (suc i) x e = let h = got ts i x e in (omega (arith, h.0), h.1)

kept : (texts later : List Text) (i : ℕ) → take (length texts) later ≡ texts → i < length texts → get_or later i [] ≡ get_or texts i []
kept [] later i e h = let no_place : ⊥ = omega (arith, h) in elim no_place [ ]
kept (t ∷ ts) [] i e h = cc
kept (t ∷ ts) (u ∷ us) zero e h = cc
kept (t ∷ ts) (u ∷ us) (suc i) e h = kept ts us i (tail_is e) (omega (arith, h))
  where
    tail_is : u ∷ take (length ts) us ≡ t ∷ ts → take (length ts) us ≡ ts
    tail_is e = cc

pub text_lasts : (texts : List Text) (id : TextId) (x : Text) → slice_get texts id.0 ≡ Some x → TextStands texts id x
text_lasts texts id x e = λ later more. let h = got texts id.0 x e in kept texts later id.0 more h.0 ∙ h.1
