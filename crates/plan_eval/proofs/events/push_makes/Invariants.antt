use Rattle.std.proofs.Common.{◌≡◌, ◌++◌, map, take}
use Rattle.plan_eval.specs.Turns.{make_event}
use Rattle.plan_eval.proofs.events.push_makes.Given as goal

abbrev pub invariant-loop-place : goal.invariant-loop-place
invariant-loop-place l = l.out.items ≡ l.initial.out.items ++ map make_event (take l.place-index l.places)
