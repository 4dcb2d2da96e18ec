use Rattle.core_normal.proofs.LoopsMade.{last_result, last_asked}
use Rattle.core_normal.proofs.maker.Maker.last.Goals as goal

pub returns-in_ok-core-in-Result : goal.returns-in_ok-core-in-Result
returns-in_ok-core-in-Result g c = last_result _ _ _ _ _ _ c.in-Result.is c.in_ok-core-in-Result.ensures

pub returns-in_ok-core-in-Asked : goal.returns-in_ok-core-in-Asked
returns-in_ok-core-in-Asked g c =
    last_asked _ _ _ _ _ _ _ c.in-Asked.is c.in_ok-asked-in-Asked.ensures (λ t. simp (c.in_ok-core-in-Asked.ensures, c.in_ok-truth-in-Asked.ensures, c.place.ensures t))
