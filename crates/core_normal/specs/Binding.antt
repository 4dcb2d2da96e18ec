-- Binds one after the other, and what stands inside them (Formal Semantics, sections 4.8 and 4.11).
use Rattle.std.specs.Prelude.{ℕ, cond, List, [], ◌∷◌, Option, Some}
use Rattle.core_meaning.specs.Erasure.{Texts}
use Rattle.core_meaning.specs.PlainCore.{PlainCore}
use Rattle.core_scope.specs.Syn.{Syn, Binds, Maybe, resolved, place_of}
use Rattle.core_scope.specs.Syn as s
use Rattle.core_scope.specs.Leaves.{syn_resolved}
use Rattle.core_normal.specs.declared.bind_refs.BindRef.{BindRef}
use Rattle.core_normal.specs.declared.bind_refs.Last.{Last}
use Rattle.core_normal.specs.declared.bind_refs.Last.TheVariants as last_
use Rattle.core_normal.specs.declared.bodies.Bodies.{Bodies}
use Rattle.core_normal.specs.Fresh.{Makes, give, ◌▷=◌}
use Rattle.core_normal.specs.Around.{Around, Env, with_var}
use Rattle.core_normal.specs.Making.{Making, bodies_in}
use Rattle.core_normal.specs.Normal.{nested, norm, norm_where}
use Rattle.core_normal.specs.Pieces.{boolean, witness}
use Rattle.core_normal.specs.Rows.{Turn, made_for, made_let}
use Rattle.core_normal.specs.Standing.{Values, with_value}
use Rattle.core_normal.specs.Trees as trees

-- a bind before others
abbrev pub bind_in : Texts → BindRef → Binds resolved → Binds resolved
bind_in t b rest =
    cond b.is_loop
    (s.for_bind b.offset b.var (trees.type_of t b.ty) b.at (syn_resolved t b.value.now) rest)
    (s.let_bind b.offset b.var (trees.type_of t b.ty) (syn_resolved t b.value.now) rest)

abbrev pub binds_in : Texts → List BindRef → Binds resolved → Binds resolved
binds_in t [] rest = rest
binds_in t (b ∷ bs) rest = bind_in t b (binds_in t bs rest)

unfoldable pub normed_turn : Bodies → BindRef → Making Turn
normed_turn p b t r =
    cond b.is_loop
    (made_for p.base (bodies_in t p) (trees.type_of t b.ty) (syn_resolved t b.value.now) r)
    (made_let p.base (bodies_in t p) (trees.type_of t b.ty) (syn_resolved t b.value.now) r)

unfoldable pub normed_guarded : Bodies → (Texts → Maybe resolved) → ℕ → (Texts → Syn resolved) → Making PlainCore
normed_guarded p w o e t r = norm_where p.base (bodies_in t p) (w t) o (norm p.base (bodies_in t p) (e t)) r

-- what stands inside all binds: the condition and the result, or what a quantifier asks
abbrev pub last_in : Bodies → Last → ℕ → Texts → Around → Makes PlainCore
last_in p (last_.Result w e) o t r = norm_where p.base (bodies_in t p) (trees.maybe t w.now) o (norm p.base (bodies_in t p) (syn_resolved t e.now)) r
last_in p (last_.Asked q e) o t r =
    norm p.base (bodies_in t p) (syn_resolved t e.now) r ▷= λ a. give (witness o q (boolean (place_of (syn_resolved t e.now)) a))

unfoldable pub normed_last : Bodies → Last → ℕ → Making PlainCore
normed_last p e o t r = last_in p e o t r

unfoldable pub normed_nested : Bodies → List BindRef → ℕ → Last → Making PlainCore
normed_nested p bs o e t r = nested p.base (bodies_in t p) (binds_in t bs s.no_binds) o (λ q. last_in p e o t q) r

-- the variable of the position, where there is one and a loop
abbrev pub at_var : Option (ℕ × ℕ) → Option ℕ → Env → Env
at_var (Some v) (Some x) env = with_var v.1 x env
at_var _ _ env = env

abbrev pub at_value : Option (ℕ × ℕ) → Option ℕ → ℕ → Values → Values
at_value (Some v) (Some x) y vs = with_value v.1 y vs
at_value _ _ y vs = vs

-- what stands for the variables inside a bind
abbrev pub env_inside : BindRef → ℕ → Option ℕ → Env → Env
env_inside b x pos env = with_var b.var x (at_var b.at pos env)

-- what stood for the variables outside it
abbrev pub values_outside : BindRef → Option ℕ → ℕ × ℕ → Values → Values
values_outside b pos before vs = at_value b.at pos before.0 (with_value b.var before.1 vs)
