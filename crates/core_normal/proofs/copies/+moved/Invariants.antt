use Rattle.core_normal.proofs.copies.+moved.Given as goal

abbrev pub decreases-moved : goal.decreases-moved
decreases-moved l = l.levels
