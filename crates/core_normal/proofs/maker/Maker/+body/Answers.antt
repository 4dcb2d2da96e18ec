use Rattle.std.proofs.Common.{refl}
use Rattle.core_normal.proofs.BodiesMade.{body_alone, body_more}
use Rattle.core_normal.proofs.maker.Maker.+body.Goals as goal

pub returns-in_ok-core-in-None : goal.returns-in_ok-core-in-None
returns-in_ok-core-in-None g t c = body_alone _ _ _ _ c.in-None.ensures.cases c.in_ok-core-in-None.ensures

pub returns-in_ok-set-in-Some : goal.returns-in_ok-set-in-Some
returns-in_ok-set-in-Some g t c =
    body_more _ _ _ _ _ _ _ _ _ _ c.in-Some.ensures.cases.0 c.in_ok-x-in-Some.ensures c.in_ok-push-in-Some.ensures.items c.in_ok-before-in-Some.ensures.bound c.in_ok-before-in-Some.ensures.before refl
    c.in_ok-core-in-Some.ensures c.in_ok-set-in-Some.ensures refl
