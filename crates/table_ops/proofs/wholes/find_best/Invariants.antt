use Rattle.std.proofs.Common.{◌≡◌, length, drop, true}
use Rattle.xq_base.specs.Aggregates.{best_from}
use Rattle.xq_funs.specs.Answering.{atom_in, atom_given}
use Rattle.table_ops.specs.Wholes.{atoms_in, beats}
use Rattle.table_ops.proofs.wholes.find_best.Given as goal

abbrev pub invariant-loop-place : goal.invariant-loop-place
invariant-loop-place l =
    (best_from (beats l.greatest) (atom_in l.pool l.best) (atoms_in l.pool (drop l.place l.rest)) ≡ best_from (beats l.greatest) (atom_in l.pool l.initial.best) (atoms_in l.pool l.rest))
    × (atom_given (length l.pool) l.best ≡ true)
