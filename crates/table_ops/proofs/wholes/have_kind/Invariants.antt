use Rattle.std.proofs.Common.{◌≡◌, List, drop}
use Rattle.xq_base.specs.Aggregates.{have_kind_of}
use Rattle.xq_base.specs.Texts.{Text}
use Rattle.xq_funs.specs.Answering.{atom_in}
use Rattle.table_ops.specs.Wholes.{atoms_in}
use Rattle.table_ops.proofs.wholes.have_kind.Given as goal

abbrev pub invariant-loop-place : goal.invariant-loop-place
invariant-loop-place l = (texts : List Text) → have_kind_of (atom_in texts l.first) (atoms_in texts (drop l.place l.rest)) ≡ have_kind_of (atom_in texts l.first) (atoms_in texts l.rest)
