use Rattle.std.proofs.Common.{ap, ◌∙◌}
use Rattle.core_normal.specs.Held.{type_in}
use Rattle.core_normal.specs.Normal.{bound}
use Rattle.core_normal.proofs.binds.bound.Goals as goal

pub returns-in-None : goal.returns-in-None
unfolding bound
returns-in-None c = λ t. ap (λ q. bound c.args.base (type_in t q) c.args.y c.args.next.now) c.in-None.is

pub returns-in_ok-x-in-Some : goal.returns-in_ok-x-in-Some
unfolding bound
returns-in_ok-x-in-Some c = λ t. ap (λ q. bound c.args.base (type_in t q) c.args.y c.args.next.now) c.in-Some.is ∙ c.in_ok-x-in-Some.ensures
