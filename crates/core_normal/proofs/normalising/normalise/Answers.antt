use Rattle.core_normal.proofs.Normalised.{core_given, lawful_given, too_large_told}
use Rattle.core_normal.proofs.normalising.normalise.Goals as goal

pub returns-in-TooLarge-clause-fault : goal.returns-in-TooLarge-clause-fault
returns-in-TooLarge-clause-fault c = too_large_told c.args.query.now c.in_ok-nodes.field-0 _ _ c.in-TooLarge.is c.in_ok-nodes.ensures

pub returns-in_ok-core-in-Fits-clause-core : goal.returns-in_ok-core-in-Fits-clause-core
returns-in_ok-core-in-Fits-clause-core c = core_given c.args.query.now c.in_ok-nodes.field-0 _ c.in-Fits.is c.in_ok-nodes.ensures c.in_ok-core-in-Fits.ensures

pub returns-in_ok-core-in-Fits-clause-lawful : goal.returns-in_ok-core-in-Fits-clause-lawful
returns-in_ok-core-in-Fits-clause-lawful c =
    lawful_given c.args.query.now _ c.requires.scoped
    (core_given c.args.query.now c.in_ok-nodes.field-0 c.in_ok-core-in-Fits.core c.in-Fits.is c.in_ok-nodes.ensures c.in_ok-core-in-Fits.ensures)
