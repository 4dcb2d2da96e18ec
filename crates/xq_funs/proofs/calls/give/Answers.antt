use Rattle.std.proofs.Common.{◌≡◌, true, length, subst}
use Rattle.xq_funs.specs.Calls.{computed_given}
use Rattle.xq_funs.proofs.calls.give.Goals as goal

pub returns-clause-given : goal.returns-clause-given
returns-clause-given c = λ h. c.item_of.ensures.given c.args.pool.now h (subst (λ v. computed_given (length c.args.pool.now) v ≡ true) c.in-Same.is c.requires)
