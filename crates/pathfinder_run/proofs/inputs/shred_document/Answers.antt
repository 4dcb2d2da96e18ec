use Rattle.std.proofs.Common.{refl, ap, Err}
use Rattle.pathfinder_run.proofs.inputs.shred_document.Goals as goal

pub returns-in-Err-NotWellFormed-clause-shreds : goal.returns-in-Err-NotWellFormed-clause-shreds
returns-in-Err-NotWellFormed-clause-shreds c = (refl, c.in-Err-NotWellFormed.ensures.not_well_formed (ap Err c.in-Err-NotWellFormed.field-0-is))
