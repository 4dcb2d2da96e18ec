use Rattle.pathfinder_run.proofs.diagnosis.say_refused.Goals as goal

pub returns-in-NotWellFormed : goal.returns-in-NotWellFormed
returns-in-NotWellFormed g c = rw c.in-NotWellFormed.is c.say_about.ensures
