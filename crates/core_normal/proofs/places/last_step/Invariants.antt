use Rattle.std.proofs.Common.{◌≡◌, drop}
use Rattle.core_normal.specs.LastPlace.{last_place}
use Rattle.core_normal.proofs.places.last_step.Given as goal

abbrev pub invariant-loop-step : goal.invariant-loop-step
invariant-loop-step l = last_place l.fn.first l.behind ≡ last_place l.place (drop l.step-index l.behind)
