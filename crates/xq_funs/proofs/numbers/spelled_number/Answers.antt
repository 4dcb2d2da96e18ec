use Rattle.std.proofs.Common.{arith, ap, sym, ◌∙◌}
use Rattle.std.proofs.lemmas.Int.{to_z-of_z}
use Rattle.xq_base.specs.Texts.{integer_in}
use Rattle.xq_base.specs.Arithmetic.{or_no_cast}
use Rattle.xq_funs.proofs.Ordered.{text_is}
use Rattle.xq_funs.proofs.numbers.spelled_number.Goals as goal

pub returns-in-Some : goal.returns-in-Some
returns-in-Some c =
    let e = ap or_no_cast (c.in-Some.ensures ∙ ap integer_in (sym (text_is c.args.pool.now c.args.text c.text.result.now c.text.ensures.given))) in
    grind (arith, to_z-of_z, e)

pub returns-in-None : goal.returns-in-None
returns-in-None c = ap or_no_cast (c.in-None.ensures ∙ ap integer_in (sym (text_is c.args.pool.now c.args.text c.text.result.now c.text.ensures.given)))
