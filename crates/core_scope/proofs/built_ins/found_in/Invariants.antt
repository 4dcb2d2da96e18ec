use Rattle.std.proofs.Common.{◌≡◌, drop, map}
use Rattle.core_scope.specs.BuiltIns.{found_in}
use Rattle.core_scope.specs.Held.{row_of}
use Rattle.core_scope.proofs.built_ins.found_in.Given as goal

abbrev pub invariant-loop-row : goal.invariant-loop-row
invariant-loop-row l = found_in (map row_of l.rows) l.name l.arity ≡ found_in (map row_of (drop l.row-index l.rows)) l.name l.arity
