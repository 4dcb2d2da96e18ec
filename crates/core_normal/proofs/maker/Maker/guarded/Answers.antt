use Rattle.core_normal.proofs.LoopsMade.{guarded_none, guarded_some}
use Rattle.core_normal.proofs.maker.Maker.guarded.Goals as goal

pub returns-in_ok-core-in-None : goal.returns-in_ok-core-in-None
returns-in_ok-core-in-None g c = guarded_none _ _ _ _ _ c.in-None.is c.in_ok-core-in-None.ensures

pub returns-in_ok-core-in-Some : goal.returns-in_ok-core-in-Some
returns-in_ok-core-in-Some g c =
    guarded_some _ _ _ _ _ _ _ _ _ c.in-Some.is c.get-inner.ensures c.in_ok-test-in-Some.ensures c.in_ok-whole-in-Some.ensures
    (λ t. simp (c.in_ok-core-in-Some.ensures, c.in_ok-truth-in-Some.ensures, c.place.ensures t, c.empty-nothing.ensures))
