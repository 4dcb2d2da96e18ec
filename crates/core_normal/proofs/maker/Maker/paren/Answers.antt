use Rattle.core_normal.proofs.FormsNormed.{paren_none, paren_some}
use Rattle.core_normal.proofs.maker.Maker.paren.Goals as goal

pub returns-in-None : goal.returns-in-None
returns-in-None g c = paren_none _ _ _ c.in-None.is c.empty.ensures

pub returns-in_ok-core-in-Some : goal.returns-in_ok-core-in-Some
returns-in_ok-core-in-Some g c = paren_some _ _ _ _ _ c.in-Some.is c.get.ensures c.in_ok-core-in-Some.ensures
