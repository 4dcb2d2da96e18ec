use Rattle.std.proofs.Common.{◌≡◌, drop}
use Rattle.xq_funs.specs.Replacements.{entries_from}
use Rattle.xq_funs.proofs.translate.fill.Given as goal

abbrev pub invariant-loop-place : goal.invariant-loop-place
invariant-loop-place l = entries_from l.table.entries (drop l.place l.from) (drop l.place l.to) ≡ entries_from l.initial.table.entries l.from l.to
