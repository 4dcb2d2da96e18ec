use Rattle.std.proofs.Common.{arith, ap, sym, ◌∙◌}
use Rattle.std.proofs.lemmas.Int.{to_z-of_z}
use Rattle.xq_base.specs.Texts.{integer_in}
use Rattle.xq_base.specs.Atoms.{IntAtom, spelled}
use Rattle.xq_funs.proofs.Ordered.{text_is}
use Rattle.xq_funs.proofs.comparisons.integer_of.Goals as goal

pub returns-in-Some-clause-cast : goal.returns-in-Some-clause-cast
returns-in-Some-clause-cast c =
    let e = ap (spelled IntAtom) (c.in-Some.ensures ∙ ap integer_in (sym (text_is c.args.pool.now c.args.text c.text.result.now c.text.ensures.given))) in
    grind (arith, to_z-of_z, e)

pub returns-in-None-clause-cast : goal.returns-in-None-clause-cast
returns-in-None-clause-cast c = ap (spelled IntAtom) (c.in-None.ensures ∙ ap integer_in (sym (text_is c.args.pool.now c.args.text c.text.result.now c.text.ensures.given)))
