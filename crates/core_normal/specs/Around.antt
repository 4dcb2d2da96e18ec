-- What stands round an expression: its variables, and the context (XQuery 1.0, section 2.1.2).
use Rattle.std.specs.Prelude.{ℕ, cond, List, [], ◌∷◌, Option, Some, None, nat_eq}

-- a variable of the query and the variable of the Core that stands for it
pub record Known : Type 0 where
  pub var : ℕ
  pub core : ℕ

abbrev pub Env : Type 0
Env = List Known

abbrev pub no_vars : Env
no_vars = []

abbrev pub with_var : ℕ → ℕ → Env → Env
with_var v x env = record { var = v; core = x } ∷ env

-- 0 stands for no variable
unfoldable pub found : Env → ℕ → ℕ
found [] v = 0
found (k ∷ ks) v = cond (nat_eq k.var v) k.core (found ks v)

-- the variables of the context item, its position and the size
pub record Focus : Type 0 where
  pub item : ℕ
  pub place : ℕ
  pub last : ℕ

pub record Around : Type 0 where
  pub env : Env
  pub focus : Option Focus

unfoldable pub known : ℕ → ℕ → Around → Around
known v x r = record { env = with_var v x r.env; focus = r.focus }

unfoldable pub focused : ℕ → ℕ → ℕ → Around → Around
focused item place last r = record { env = r.env; focus = Some (record { item = item; place = place; last = last }) }

-- without a context
abbrev pub outside : Env → Around
outside env = record { env = env; focus = None }
