use Rattle.core_normal.proofs.LoopsMade.{place_inside, place_outside}
use Rattle.core_normal.proofs.loops.enter_place.Goals as goal

pub returns-in_ok-before-in-Some-pos-clause-inside : goal.returns-in_ok-before-in-Some-pos-clause-inside
returns-in_ok-before-in-Some-pos-clause-inside c = λ env s. place_inside _ _ _ _ _ _ c.in-Some.is c.in-Some-pos.is c.in_ok-before-in-Some-pos.ensures.bound env s

pub returns-in_ok-before-in-Some-pos-clause-outside : goal.returns-in_ok-before-in-Some-pos-clause-outside
returns-in_ok-before-in-Some-pos-clause-outside c = place_outside _ _ _ _ _ _ _ c.in-Some.is c.in-Some-pos.is c.in_ok-before-in-Some-pos.ensures.before
