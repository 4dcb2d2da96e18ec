use Rattle.core_normal.proofs.StepsMade.{start_here, start_root, start_deep}
use Rattle.core_normal.proofs.maker.Maker.path_start.Goals as goal

pub returns-in_ok-core-in-Here : goal.returns-in_ok-core-in-Here
returns-in_ok-core-in-Here g c = start_here _ _ _ _ c.in-Here.is c.in_ok-core-in-Here.ensures

pub returns-in_ok-core-in-Root : goal.returns-in_ok-core-in-Root
returns-in_ok-core-in-Root g c = start_root _ _ _ _ _ _ c.in-Root.is c.in_ok-top-in-Root.ensures c.in_ok-core-in-Root.ensures

pub returns-in_ok-core-in-Deep : goal.returns-in_ok-core-in-Deep
returns-in_ok-core-in-Deep g c = start_deep _ _ _ _ _ _ _ c.in-Deep.is c.in_ok-top-in-Deep.ensures c.in_ok-every-in-Deep.ensures c.in_ok-core-in-Deep.ensures
