use Rattle.core_normal.proofs.ContentsMade.{no_content_made, content_made}
use Rattle.core_normal.proofs.maker.Maker.build_content.Goals as goal

pub returns-in-None : goal.returns-in-None
returns-in-None g c = no_content_made _ _ _ _ c.in-None.is c.empty.ensures

pub returns-in_ok-core-in-Some : goal.returns-in_ok-core-in-Some
returns-in_ok-core-in-Some g c = content_made _ _ _ _ _ _ c.in-Some.is c.get-inner.ensures c.in_ok-core-in-Some.ensures
