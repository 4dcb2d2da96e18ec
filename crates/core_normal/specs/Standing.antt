-- What the code's table of variables stands for: the variable of the Core for each of the query, 0 for none (own rule).
use Rattle.std.specs.Prelude.{ℕ, ◌≡◌, cond, nat_eq, Option, Some, None}
use Rattle.std.specs.HashMap.{get}
use Rattle.core_normal.specs.declared.vars.Vars.{Vars}
use Rattle.core_normal.specs.Around.{Env, found}

abbrev pub Values : Type 0
Values = ℕ → ℕ

abbrev pub no_value : Values
no_value v = 0

abbrev pub with_value : ℕ → ℕ → Values → Values
with_value v x vs y = cond (nat_eq v y) x (vs y)

abbrev pub or_none : Option ℕ → ℕ
or_none None = 0
or_none (Some x) = x

abbrev pub vars_in : Vars → Values
vars_in vs v = or_none (get nat_eq vs.known v)

-- each variable has the same value as in these bindings
abbrev pub Stands : Values → Env → Type 0
Stands vs env = (v : ℕ) → found env v ≡ vs v
