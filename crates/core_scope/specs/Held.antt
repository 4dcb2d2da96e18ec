-- What the code's tables of names stand for.
use Rattle.std.specs.Prelude.{ℕ, nat_eq, Option}
use Rattle.std.specs.HashMap.{get_by}
use Rattle.std.specs.Cmp.Lexicographic.{pointwise}
use Rattle.core_scope.specs.declared.names.Names.{Names}
use Rattle.core_scope.specs.declared.built_ins.Row.{Row}
use Rattle.core_scope.specs.declared.signatures.Declared.{Declared}
use Rattle.core_scope.specs.BuiltIns.{BuiltIn}
use Rattle.core_scope.specs.Names.{Scope, Signature}

abbrev pub names_in : Names → Scope
names_in n x = get_by (λ k. pointwise nat_eq x k.now) n.known

abbrev pub row_of : Row → BuiltIn
row_of r = record { name = r.name.now; least = r.least; greatest = r.greatest; fun = r.fun }

abbrev pub signature_in : Declared → Signature
signature_in d = record { name = d.name.now; arity = d.arity }
