-- What the code's declarations passed by stand for, and what it has of a function.
use Rattle.core_scope.specs.declared.prolog.Passed.{Passed as CodePassed}
use Rattle.core_scope.specs.declared.prolog.Gained.{Gained as CodeGained}
use Rattle.core_scope.specs.Open.{open_in}
use Rattle.core_scope.specs.Gathering.{Passed, Gained}

abbrev pub passed_in : CodePassed → Passed
passed_in p = record { before = p.before; open' = open_in p.names; gathered = p.gathered }

abbrev pub gained_in : CodeGained → Gained
gained_in f = record { offset = f.offset; calls = f.calls.items; refers = f.refers.items }
