use Rattle.core_normal.proofs.LoopsMade.{nest_first, nest_last, outside_again}
use Rattle.core_normal.proofs.maker.Maker.+nest.Goals as goal

pub returns-in_ok-core-in-None : goal.returns-in_ok-core-in-None
returns-in_ok-core-in-None g t c = nest_last _ _ _ _ _ c.in-None.ensures.cases c.in_ok-core-in-None.ensures

pub returns-in_ok-core-in-Some : goal.returns-in_ok-core-in-Some
returns-in_ok-core-in-Some g t c =
    nest_first _ _ _ _ _ _ _ _ _ c.in-Some.ensures.cases.0 c.in_ok-turned-in-Some.ensures c.in_ok-before-in-Some.ensures.inside c.in_ok-before-in-Some.ensures.next c.in_ok-inner-in-Some.ensures
    (outside_again c.in-Some.bind.now c.in_ok-turned-in-Some.turned.pos c.in_ok-before-in-Some.before _ _ _ _ _ c.in_ok-before-in-Some.ensures.outside c.in_ok-turned-in-Some.ensures.same c.in_ok-inner-in-Some.ensures.same c.in_ok-leave-in-Some.ensures.outside)
    c.in_ok-leave-in-Some.ensures.next c.in_ok-core-in-Some.ensures
