-- The Core of a whole query (XQuery 1.0, sections 4.14 and 4.15). The variables of the prolog have the first numbers, two each:
-- for the value, and for the value whose type is tested. A declared function's body is made anew at each call, with new variables.
use Rattle.std.specs.Prelude.{ℕ, zero, suc, ◌+◌, ◌*◌, List, [], ◌∷◌, Option, Some, None}
use Rattle.core_meaning.specs.Types.{SequenceTest}
use Rattle.core_meaning.specs.PlainCore.{PlainCore}
use Rattle.core_meaning.specs.PlainCore as c
use Rattle.core_scope.specs.Syn.{Syn, Declaration, Params, Query, resolved, place_of}
use Rattle.core_scope.specs.Syn as s
use Rattle.core_normal.specs.Fresh.{Makes, give, fresh, ◌▷=◌}
use Rattle.core_normal.specs.Around.{Env, no_vars, with_var, outside}
use Rattle.core_normal.specs.Pieces.{Inlined, tested}
use Rattle.core_normal.specs.Normal.{norm}

-- a declared function
pub record Function : Type 0 where
  pub params : Params resolved
  pub result : Option SequenceTest
  pub body : Syn resolved

abbrev pub functions : List (Declaration resolved) → List Function
functions [] = []
functions (s.variable o i v t e ∷ ds) = functions ds
functions (s.function o i n ps t e ∷ ds) = record { params = ps; result = t; body = e } ∷ functions ds

abbrev pub variables : List (Declaration resolved) → ℕ
variables [] = 0
variables (s.variable o i v t e ∷ ds) = variables ds + 1
variables (s.function o i n ps t e ∷ ds) = variables ds

-- the variable of the j-th variable of the prolog
abbrev pub global_of : Option SequenceTest → ℕ → ℕ
global_of None j = 2 * j + 1
global_of (Some t) j = 2 * j + 2

-- the prolog's variables, of which the next is the one of this number
abbrev pub globals : List (Declaration resolved) → ℕ → Env → Env
globals [] j env = env
globals (s.variable o i v t e ∷ ds) j env = globals ds (j + 1) (with_var v (global_of t j) env)
globals (s.function o i n ps t e ∷ ds) j env = globals ds j env

abbrev pub types_of : Params resolved → List (Option SequenceTest)
types_of s.no_params = []
types_of (s.param o v t ps) = t ∷ types_of ps

-- new variables for the parameters
pub record Entered : Type 0 where
  pub vars : List ℕ
  pub env : Env

abbrev pub entered : ℕ → Params resolved → Env → Makes Entered
entered base s.no_params env = give (record { vars = []; env = env })
entered base (s.param o v t ps) env =
    fresh base ▷= λ x. entered base ps (with_var v x env) ▷= λ b. give (record { vars = x ∷ b.vars; env = b.env })

abbrev pub no_function : Inlined
no_function = record { vars = []; types = []; body = c.Empty 0; result = None }

abbrev pub body_of : ℕ → (ℕ → Makes Inlined) → Env → Function → Makes Inlined
body_of base bodies env f =
    entered base f.params env ▷= λ b. norm base bodies f.body (outside b.env) ▷= λ a.
    give (record { vars = b.vars; types = types_of f.params; body = a; result = f.result })

abbrev pub body_at : ℕ → (ℕ → Makes Inlined) → Env → List Function → ℕ → Makes Inlined
body_at base bodies env [] k = give no_function
body_at base bodies env (f ∷ fs) zero = body_of base bodies env f
body_at base bodies env (f ∷ fs) (suc k) = body_at base bodies env fs k

-- the bodies of the declared functions, with calls inside them to this depth
abbrev pub bodies_within : ℕ → ℕ → Env → List Function → ℕ → Makes Inlined
bodies_within base zero env fs k = give no_function
bodies_within base (suc n) env fs k = body_at base (bodies_within base n env fs) env fs k

abbrev pub count : List Function → ℕ
count [] = 0
count (f ∷ fs) = suc (count fs)

-- the prolog's variables round the main expression, each at its "$"
abbrev pub prolog : ℕ → (ℕ → Makes Inlined) → Env → List (Declaration resolved) → ℕ → Syn resolved → Makes PlainCore
prolog base bodies env [] j e = norm base bodies e (outside env)
prolog base bodies env (s.function o i n ps t b ∷ ds) j e = prolog base bodies env ds j e
prolog base bodies env (s.variable o i v t b ∷ ds) j e =
    norm base bodies b (outside env) ▷= λ a. prolog base bodies env ds (j + 1) e ▷= λ d.
    give (c.Let i (2 * j + 1) a (tested (place_of b) t (2 * j + 1) (2 * j + 2) d))

-- new variables stand behind those of the prolog
abbrev pub base_of : List (Declaration resolved) → ℕ
base_of ds = 2 * variables ds + 1

abbrev pub core_in : Env → List (Declaration resolved) → Syn resolved → PlainCore
core_in env ds e = (prolog (base_of ds) (bodies_within (base_of ds) (count (functions ds)) env (functions ds)) env ds 0 e 0).made

-- as deep as there are functions, none of which calls itself
abbrev pub core_of_query : Query resolved → PlainCore
core_of_query q = core_in (globals q.declarations 0 no_vars) q.declarations q.body
