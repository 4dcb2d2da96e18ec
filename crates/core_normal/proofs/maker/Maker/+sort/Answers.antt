use Rattle.core_normal.proofs.LoopsMade.{outside_again}
use Rattle.core_normal.proofs.SortsMade.{sort_first, sort_last}
use Rattle.core_normal.proofs.maker.Maker.+sort.Goals as goal

pub returns-in_ok-parts-in-None : goal.returns-in_ok-parts-in-None
returns-in_ok-parts-in-None g t c = sort_last _ _ _ _ _ c.in-None.ensures.cases c.in_ok-parts-in-None.ensures

pub returns-in_ok-leave-in-Some : goal.returns-in_ok-leave-in-Some
returns-in_ok-leave-in-Some g t c =
    sort_first _ _ _ _ _ _ _ _ _ c.in-Some.ensures.cases.0 c.in_ok-turned-in-Some.ensures c.in_ok-before-in-Some.ensures.inside c.in_ok-before-in-Some.ensures.next c.in_ok-more-in-Some.ensures c.in_ok-parts-in-Some.ensures
    (outside_again c.in-Some.bind.now c.in_ok-turned-in-Some.turned.pos c.in_ok-before-in-Some.before _ _ _ _ _ c.in_ok-before-in-Some.ensures.outside c.in_ok-turned-in-Some.ensures.same c.in_ok-parts-in-Some.ensures.same c.in_ok-leave-in-Some.ensures.outside)
    c.in_ok-leave-in-Some.ensures.next
