use Rattle.std.proofs.Common.{arith}
use Rattle.std.proofs.lemmas.Grind.{common_steps}
use Rattle.core_scope.proofs.Searching.{add_law}
use Rattle.core_scope.proofs.search.add_target.Goals as goal

pub returns-in_ok-push-in-Some : goal.returns-in_ok-push-in-Some
returns-in_ok-push-in-Some c =
    add_law c.args.all.now.items (λ v. v.items) c.args.node c.in-Some.v.now c.push.new.self c.args.target (grind (arith, common_steps)) c.in-Some.ensures.value c.in_ok-push-in-Some.ensures.items
