-- Calls of functions over Cores that were made (XQuery 1.0, section 3.1.5).
use Rattle.std.specs.Prelude.{ℕ, ◌≡◌, List, Option, Some, None}
use Rattle.xq_ast.specs.declared.leaf.Callee.{Callee}
use Rattle.core_meaning.specs.declared.node.Core.{Core}
use Rattle.core_meaning.specs.declared.node.SeqType.{SeqType}
use Rattle.core_meaning.specs.Erasure.{Texts, core_of}
use Rattle.core_meaning.specs.PlainCore.{PlainCore}
use Rattle.core_meaning.specs.PlainCore as c
use Rattle.core_normal.specs.declared.bodies.Bodies.{Bodies}
use Rattle.core_normal.specs.declared.bodies.State.{State}
use Rattle.core_normal.specs.Fresh.{give, ◌▷=◌}
use Rattle.core_normal.specs.Held.{type_in}
use Rattle.core_normal.specs.Making.{Making, bodies_in, cores_in}
use Rattle.core_normal.specs.Normal.{called}
use Rattle.core_normal.specs.Pieces.{converted, inlined}
use Rattle.core_normal.specs.Shift as shift
use Rattle.core_normal.specs.Standing.{vars_in}

-- a call over the Cores of its arguments
unfoldable pub normed_called : Bodies → ℕ → Callee → List Core → Making PlainCore
normed_called p o f as' t r = called p.base (bodies_in t p) o f (cores_in t as') r.focus

-- a parameter over its converted argument, where there is a parameter
abbrev pub param_in : Texts → ℕ → ℕ → ℕ → Option ℕ → Option (Option SeqType) → PlainCore → PlainCore → PlainCore
param_in t o base d None ty a e = e
param_in t o base d (Some x) None a e = e
param_in t o base d (Some x) (Some ty) a e = c.Let o (shift.moved base d x) (converted o (type_in t ty) a) e

-- the body of a declared function, made anew over the Cores of the arguments
pub record IsInlined (p : Bodies) (old : State) (o k : ℕ) (as' : List Core) (core : Core) (new : State) : Type 0 where
  pub made : (t : Texts) → (bodies_in t p k ▷= λ f. give (inlined o f (cores_in t as'))) old.next ≡ record { made = core_of t core; next = new.next }
  pub same : vars_in new.vars ≡ vars_in old.vars
