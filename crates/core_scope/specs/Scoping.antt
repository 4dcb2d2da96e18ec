-- Why a query isn't resolved: its first refusal; want of memory is free (own rule).
use Rattle.core_scope.specs.declared.scoping.ScopeFault.{ScopeFault}
use Rattle.core_scope.specs.declared.scoping.ScopeFault.TheVariants as fault
use Rattle.core_scope.specs.Syn.{Query, read}
use Rattle.core_scope.specs.Refusals.{Scopes, refusal}

abbrev pub Refuses : Query read → ScopeFault → Type 0
Refuses q (fault.Refused code offset) = Scopes q (refusal (record { code = code; offset = offset }))
Refuses q fault.NoMemory = Unit {0}
