use Rattle.core_normal.proofs.CallsMade.{called_declared, called_known}
use Rattle.core_normal.proofs.maker.Maker.called.Goals as goal

pub returns-in_ok-core-in-Known : goal.returns-in_ok-core-in-Known
returns-in_ok-core-in-Known g c = called_known _ _ _ _ _ _ _ _ c.in-Known.is c.in_ok-core-in-Known.ensures

pub returns-in_ok-core-in-Declared : goal.returns-in_ok-core-in-Declared
returns-in_ok-core-in-Declared g c = called_declared _ _ _ _ _ _ _ _ _ c.in-Declared.is c.in_ok-core-in-Declared.ensures
