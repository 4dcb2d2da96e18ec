use Rattle.std.proofs.Common.{arith, ◌∷◌, [], ap, sym, ◌∙◌, refl}
use Rattle.std.proofs.lemmas.Int.{to_z-of_z}
use Rattle.xq_base.specs.Answers.{with_value}
use Rattle.xq_base.specs.Texts.{integer_in}
use Rattle.xq_base.specs.Atoms.{IntAtom, spelled}
use Rattle.doc_table.specs.Values.{item_of_atom}
use Rattle.xq_funs.proofs.Ordered.{text_is}
use Rattle.xq_funs.proofs.casts.spelled_integer.Goals as goal

pub returns-in-Some : goal.returns-in-Some
returns-in-Some c =
    let e = ap (λ o. with_value (λ b. item_of_atom b ∷ []) (spelled IntAtom o)) (ap integer_in (text_is c.args.pool.now c.args.text c.text.result.now c.text.ensures.given) ∙ sym c.in-Some.ensures) in
    (grind (arith, to_z-of_z, e), refl, λ h. h)

pub returns-in-None : goal.returns-in-None
returns-in-None c = ap (λ o. with_value (λ b. item_of_atom b ∷ []) (spelled IntAtom o)) (ap integer_in (text_is c.args.pool.now c.args.text c.text.result.now c.text.ensures.given) ∙ sym c.in-None.ensures)
