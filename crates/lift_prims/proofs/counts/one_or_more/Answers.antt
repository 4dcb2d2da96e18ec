use Rattle.std.proofs.Common.{[], ◌∷◌, arith}
use Rattle.xq_base.specs.declared.fun.Fun.TheVariants as f
use Rattle.core_meaning.specs.Expr.{Apply}
use Rattle.lift_laws.specs.States.{state_of}
use Rattle.lift_laws.proofs.Cases.{one_or_more_lifts}
use Rattle.lift_prims.proofs.CallLaws.{checked_ok}
use Rattle.lift_prims.proofs.CountLaws.{none_made}
use Rattle.lift_prims.proofs.counts.one_or_more.Goals as goal

pub returns : goal.returns
returns c =
    checked_ok c.args.looped c.args.arg (c.args.looped ∷ c.args.arg ∷ []) (c.args.arg ∷ []) (Apply f.OneOrMore) none_made c.none_form.ensures c.requires.looped (c.requires.looped, (c.requires.arg, tt)) c.requires.arg (λ docs texts. omega arith)
    (λ docs texts s1 s2 site k m. one_or_more_lifts docs (state_of docs texts c.args.plan.now) s1 s2 site c.args.looped c.args.arg k m) c.in_ok-check_form.ensures
