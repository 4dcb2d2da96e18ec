use Rattle.std.proofs.Common.{arith, ap, sym, ◌∙◌, subst}
use Rattle.std.proofs.lemmas.Int.{to_z-of_z}
use Rattle.xq_base.specs.Answers.{both_of}
use Rattle.xq_base.specs.Arithmetic.{number_of}
use Rattle.xq_funs.specs.Answering.{answer_of, atom_in}
use Rattle.xq_funs.specs.Calls.{RuleGives, gives_text}
use Rattle.xq_funs.proofs.FunLaws.{two_numbers, numbers_done}
use Rattle.xq_funs.proofs.numbers.arithmetic.Goals as goal

pub returns-in-Ok : goal.returns-in-Ok
returns-in-Ok c =
    let e = c.in-Ok.ensures ∙ ap (λ w. both_of w (answer_of c.number-2.result)) c.number.ensures ∙ ap (both_of (number_of (atom_in c.args.pool.now c.args.a))) c.number-2.ensures in
    λ docs. subst (λ z. RuleGives (gives_text c.args.fun) c.args.pool.now z c.as_number.result) (numbers_done c.args.fun (atom_in c.args.pool.now c.args.a) (atom_in c.args.pool.now c.args.b) _ _ c.calculate.result (grind (arith, to_z-of_z, e)) c.calculate.ensures ∙ sym (two_numbers docs c.args.fun c.args.pool.now c.args.a c.args.b c.requires.fun)) (c.as_number.ensures (gives_text c.args.fun) c.args.pool.now)
