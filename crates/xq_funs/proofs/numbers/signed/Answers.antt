use Rattle.std.proofs.Common.{arith, sym, ◌∙◌, subst}
use Rattle.std.proofs.lemmas.Int.{to_z-of_z}
use Rattle.xq_funs.specs.Answering.{atom_in}
use Rattle.xq_funs.specs.Calls.{RuleGives, gives_text}
use Rattle.xq_funs.proofs.FunLaws.{one_number, number_done}
use Rattle.xq_funs.proofs.numbers.signed.Goals as goal

pub returns-in-Ok : goal.returns-in-Ok
returns-in-Ok c =
    let e = c.in-Ok.ensures in
    λ docs. subst (λ z. RuleGives (gives_text c.args.fun) c.args.pool.now z c.as_number.result) (number_done c.args.fun (atom_in c.args.pool.now c.args.a) _ c.change.result (grind (arith, to_z-of_z, e)) c.change.ensures ∙ sym (one_number docs c.args.fun c.args.pool.now c.args.a c.requires.fun)) (c.as_number.ensures (gives_text c.args.fun) c.args.pool.now)
