-- The prolog's variables round the main expression, over the values that were made.
use Rattle.std.specs.Prelude.{◌≡◌, ℕ, ◌+◌, ◌*◌, List, [], ◌∷◌, length, None}
use Rattle.xq_base.specs.declared.item.TextId.{TextId}
use Rattle.core_meaning.specs.Erasure.{Texts, core_of}
use Rattle.core_meaning.specs.PlainCore.{PlainCore}
use Rattle.core_meaning.specs.PlainCore as c
use Rattle.xq_ast.specs.declared.leaf.SeqType.{SeqType}
use Rattle.xq_ast.specs.declared.query.Declaration.{Declaration as CodeDeclaration}
use Rattle.core_scope.specs.Leaves.{ResolvedTree, syn_resolved}
use Rattle.core_normal.specs.declared.bodies.Bodies.{Bodies}
use Rattle.core_normal.specs.declared.bodies.State.{State}
use Rattle.core_normal.specs.declared.prolog.GlobalValue.{GlobalValue}
use Rattle.core_normal.specs.Fresh.{give, ◌▷=◌}
use Rattle.core_normal.specs.Around.{Env}
use Rattle.core_normal.specs.Held.{type_in}
use Rattle.core_normal.specs.Making.{HasEmpty, Making, around_of, bodies_in}
use Rattle.core_normal.specs.Measuring.{Declarations, declarations}
use Rattle.core_normal.specs.Pieces.{tested}
use Rattle.core_normal.specs.Query.{prolog}
use Rattle.core_normal.specs.Standing.{Stands, vars_in}

-- a variable of the prolog round what follows it
abbrev pub with_global : Texts → ℕ → GlobalValue → PlainCore → PlainCore
with_global t j g d = c.Let g.offset (2 * j + 1) (core_of t g.value) (tested g.place (type_in t g.ty) (2 * j + 1) (2 * j + 2) d)

-- all of them, of which the first has this number
abbrev pub with_globals : Texts → ℕ → List GlobalValue → PlainCore → PlainCore
with_globals t j [] d = d
with_globals t j (g ∷ gs) d = with_global t j g (with_globals t (j + 1) gs d)

-- the prolog's variables and the main expression, and what is left of them behind values that were made
unfoldable pub normed_prolog : Bodies → Declarations → ResolvedTree → Making PlainCore
normed_prolog p ds e t r = prolog p.base (bodies_in t p) r.env (declarations t ds) 0 (syn_resolved t e)

unfoldable pub prolog_rest : Bodies → ResolvedTree → List GlobalValue → Declarations → Making PlainCore
prolog_rest p e gs ds t r = prolog p.base (bodies_in t p) r.env (declarations t ds) (length gs) (syn_resolved t e) ▷= λ d. give (with_globals t 0 gs d)

-- the value of a declaration is made, if it declares a variable
pub record IsPassed (p : Bodies) (old : State) (d : CodeDeclaration TextId ℕ SeqType ResolvedTree) (before after : List GlobalValue) (new : State) : Type 0 where
  pub made : (t : Texts) (env : Env) → HasEmpty t → Stands (vars_in old.vars) env → (ds : Declarations) (e : ResolvedTree) →
      prolog_rest p e before (d ∷ ds) t (around_of env None) old.next ≡ prolog_rest p e after ds t (around_of env None) new.next
  pub same : vars_in new.vars ≡ vars_in old.vars
