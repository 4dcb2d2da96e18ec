use Rattle.std.proofs.Common.{refl}
use Rattle.core_normal.proofs.PrologMade.{function_passed, value_passed}
use Rattle.core_normal.proofs.maker.Maker.pass.Goals as goal

pub returns-in-Fun : goal.returns-in-Fun
returns-in-Fun g c = function_passed _ _ _ _ _ _ _ c.in-Fun.is

pub returns-in_ok-push-in-Var : goal.returns-in_ok-push-in-Var
returns-in_ok-push-in-Var g c =
    value_passed _ _ _ _ _ _ _ _ _ c.in-Var.is c.get-tree.ensures c.in_ok-value-in-Var.ensures c.in_ok-push-in-Var.ensures.items refl c.place.ensures c.maybe_type.ensures
