-- The types that a scope of the code gives to variables.
use Rattle.std.specs.Prelude.{nat_eq}
use Rattle.std.specs.HashMap.{get}
use Rattle.xq_types.specs.declared.scope.Scope.{Scope}
use Rattle.xq_types.specs.Typing.{TypeEnv}
use Rattle.xq_types.specs.Held.{typ_or_empty}

-- the types of a scope's variables
abbrev pub types_in : Scope → TypeEnv
types_in s x = typ_or_empty (get nat_eq s.types x)
