use Rattle.std.proofs.Common.{◌≡◌, [], arith}
use Rattle.std.proofs.lemmas.Grind.{common_steps}
use Rattle.core_normal.proofs.StepsMade.{plain_on, chosen_on}
use Rattle.core_normal.proofs.maker.Maker.walk_on.Goals as goal

pub returns-then-is_empty : goal.returns-then-is_empty
returns-then-is_empty g c =
    let none : c.args.conditions.now ≡ [] = grind (arith, common_steps) in
    plain_on _ _ _ _ _ _ _ none (λ t. simp (c.in_ok-plain.ensures, c.node_test-tested.ensures))

pub returns : goal.returns
returns g c =
    let some : c.args.conditions.now ≡ [] → ⊥ = grind (arith, common_steps) in
    chosen_on _ _ _ _ _ _ _ some c.in_ok-core.ensures
