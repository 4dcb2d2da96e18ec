use Rattle.std.proofs.Common.{[], ◌∷◌, arith}
use Rattle.xq_base.specs.declared.fun.Fun.TheVariants as f
use Rattle.core_meaning.specs.Expr.{Apply}
use Rattle.lift_laws.specs.States.{state_of}
use Rattle.lift_laws.proofs.Cases.{zero_or_one_lifts}
use Rattle.lift_prims.proofs.CallLaws.{checked_ok}
use Rattle.lift_prims.proofs.CountLaws.{second_made}
use Rattle.lift_prims.proofs.counts.zero_or_one.Goals as goal

pub returns : goal.returns
returns c =
    checked_ok c.args.looped c.args.arg (c.args.looped ∷ c.args.arg ∷ []) (c.args.arg ∷ []) (Apply f.ZeroOrOne) second_made c.second_form.ensures c.requires.looped (c.requires.looped, (c.requires.arg, tt)) c.requires.arg (λ docs texts. omega arith)
    (λ docs texts s1 s2 site k m. zero_or_one_lifts docs (state_of docs texts c.args.plan.now) s1 s2 site c.args.looped c.args.arg k m) c.in_ok-check_form.ensures
