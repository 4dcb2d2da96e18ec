use Rattle.std.proofs.Common.{◌≡◌, [], arith}
use Rattle.std.proofs.lemmas.Grind.{common_steps}
use Rattle.core_normal.proofs.StepsMade.{plain_here, chosen_here}
use Rattle.core_normal.proofs.maker.Maker.walk_here.Goals as goal

pub returns-then-is_empty : goal.returns-then-is_empty
returns-then-is_empty g c =
    let none : c.args.conditions.now ≡ [] = grind (arith, common_steps) in
    plain_here _ _ _ _ _ _ none (λ t. simp (c.in_ok-plain.ensures, c.dot-item.ensures, c.node_test-tested.ensures))

pub returns : goal.returns
returns g c =
    let some : c.args.conditions.now ≡ [] → ⊥ = grind (arith, common_steps) in
    chosen_here _ _ _ _ _ c.in_ok-turned.turned _ _ some (λ t. simp (c.in_ok-turned.ensures, c.in_ok-plain.ensures, c.dot-item.ensures, c.node_test-tested.ensures)) c.in_ok-chosen.ensures c.in_ok-core.ensures
