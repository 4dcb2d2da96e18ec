-- The binds of a sorted loop that are entered, the innermost first: what they make of the type of what follows them, and
-- which types variables had before them (own rule).
use Rattle.std.specs.Prelude.{List, [], ◌∷◌}
use Rattle.xq_types.specs.declared.entered.Entered.{Entered}
use Rattle.xq_types.specs.declared.entered.Entered.TheVariants as e
use Rattle.xq_types.specs.Types.{Typ, each_type}
use Rattle.xq_types.specs.Typing.{TypeEnv, with_type, where_type}
use Rattle.xq_types.specs.Held.{typ_of}

abbrev pub around_one : Entered → Typ → Typ
around_one (e.For var pos seq was) u = each_type (typ_of seq) u
around_one (e.Let var was) u = u
around_one e.Where u = where_type u

abbrev pub before_one : Entered → TypeEnv → TypeEnv
before_one (e.For var pos seq was) types = with_type (with_type types pos.0 (typ_of was.1)) var.0 (typ_of was.0)
before_one (e.Let var was) types = with_type types var.0 (typ_of was)
before_one e.Where types = types

abbrev pub around : List Entered → Typ → Typ
around [] u = u
around (b ∷ bs) u = around bs (around_one b u)

abbrev pub before : List Entered → TypeEnv → TypeEnv
before [] types = types
before (b ∷ bs) types = before bs (before_one b types)
