use Rattle.std.proofs.Common.{◌≡◌, drop}
use Rattle.core_scope.specs.PassedBy.{passed_in}
use Rattle.core_scope.specs.Gathering.{none_passed, passed_all}
use Rattle.core_scope.proofs.prolog.pass_all.Given as goal

abbrev pub invariant-loop-declaration : goal.invariant-loop-declaration
invariant-loop-declaration l = passed_all l.functions (drop l.declaration-index l.declarations) (passed_in l.passed) ≡ passed_all l.functions l.declarations (none_passed l.fn.first)
