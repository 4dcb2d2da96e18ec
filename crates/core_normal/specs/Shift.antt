-- A Core with its new variables moved by d: those below `base` stay.
use Rattle.std.specs.Prelude.{ℕ, ◌+◌, nat_lt, cond, Option, Some, None, List, [], ◌∷◌}
use Rattle.core_meaning.specs.PlainCore.{PlainCore, PlainCores, Keys}
use Rattle.core_meaning.specs.PlainCore as c
use Rattle.core_normal.specs.Fresh.{Made}
use Rattle.core_normal.specs.Around.{Env, Focus, Around}
use Rattle.core_normal.specs.Pieces.{Inlined, Tail}

module _ (base d : ℕ) where
  unfoldable pub moved : ℕ → ℕ
  moved x = cond (nat_lt x base) x (d + x)

  abbrev mutual
    pub core : PlainCore → PlainCore
    core (c.Lit o a) = c.Lit o a
    core (c.Empty o) = c.Empty o
    core (c.Seq o a b) = c.Seq o (core a) (core b)
    core (c.Var o x) = c.Var o (moved x)
    core (c.Let o x a b) = c.Let o (moved x) (core a) (core b)
    core (c.For o x p a b) = c.For o (moved x) (moved p) (core a) (core b)
    core (c.Sorted o ts ks b) = c.Sorted o (binds ts) (keys ks) (core b)
    core (c.If o a b e) = c.If o (core a) (core b) (core e)
    core (c.Call o f as') = c.Call o f (cores as')
    core (c.Step o f x t a) = c.Step o f x t (core a)
    core (c.Build o k n a) = c.Build o k (cores n) (core a)
    core (c.Instance o a t) = c.Instance o (core a) t
    core (c.Treat o a t) = c.Treat o (core a) t
    core (c.Convert o a t) = c.Convert o (core a) t
    core (c.Cast o a k m) = c.Cast o (core a) k m
    core (c.Castable o a k m) = c.Castable o (core a) k m
    core (c.Fail o e) = c.Fail o e

    pub cores : PlainCores → PlainCores
    cores c.no_cores = c.no_cores
    cores (c.one_core a as') = c.one_core (core a) (cores as')

    pub binds : c.Binds → c.Binds
    binds c.no_binds = c.no_binds
    binds (c.one_bind (c.for_bind x p a) ts) = c.one_bind (c.for_bind (moved x) (moved p) (core a)) (binds ts)
    binds (c.one_bind (c.let_bind x a) ts) = c.one_bind (c.let_bind (moved x) (core a)) (binds ts)
    binds (c.one_bind (c.where_bind a) ts) = c.one_bind (c.where_bind (core a)) (binds ts)

    pub keys : Keys → Keys
    keys c.no_keys = c.no_keys
    keys (c.one_key (c.key_by a g e) ks) = c.one_key (c.key_by (core a) g e) (keys ks)

  abbrev pub env : Env → Env
  env [] = []
  env (k ∷ ks) = record { var = k.var; core = moved k.core } ∷ env ks

  abbrev pub focus : Option Focus → Option Focus
  focus None = None
  focus (Some f) = Some (record { item = moved f.item; place = moved f.place; last = moved f.last })

  unfoldable pub around : Around → Around
  around r = record { env = env r.env; focus = focus r.focus }

  abbrev pub vars : List ℕ → List ℕ
  vars [] = []
  vars (x ∷ xs) = moved x ∷ vars xs

  abbrev pub inlined : Inlined → Inlined
  inlined f = record { vars = vars f.vars; types = f.types; body = core f.body; result = f.result }

  abbrev pub tail : Tail → Tail
  tail t = record { binds = binds t.binds; keys = keys t.keys; body = core t.body }

  -- what a making made, moved; the number of own variables is greater by d
  abbrev pub all : {A : Type 0} → (A → A) → Made A → Made A
  all f m = record { made = f m.made; next = d + m.next }
