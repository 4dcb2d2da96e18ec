-- Which calls in the values of variables come too soon, by one search from the last variable to the first.
use Rattle.std.specs.Prelude.{ℕ, zero, suc, Bool, false, cond, List, [], ◌∷◌, length, get_or, Option, Some}
use Rattle.xq_base.specs.declared.code.Code.TheVariants as code
use Rattle.core_scope.specs.declared.refusal.Refusal.{Refusal}
use Rattle.core_scope.specs.declared.found.DeclaredCall.{DeclaredCall}
use Rattle.core_scope.specs.Walk.{refused}
use Rattle.core_scope.specs.Refusals.{earlier}
use Rattle.core_scope.specs.Search.{Graph, Search, targets, mark_all, searched}

-- the first refusal where the calls of marked functions are refused, with one before them
abbrev pub soon_from : List Bool → Option Refusal → List DeclaredCall → Option Refusal
soon_from ms first [] = first
soon_from ms first (c ∷ cs) = soon_from ms (cond (get_or ms c.function false) (Some (earlier (refused code.XPST0008 c.offset) first)) first) cs

-- the graph of calls turned round, and the functions that refer to each variable
module _ (callers referrers : Graph) where
  -- what refers to a variable is marked, with all that comes to it
  abbrev pub stage : ℕ → Search → Search
  stage l s = searched callers (length ((mark_all (targets referrers l) s).marked)) (mark_all (targets referrers l) s)

  -- the calls in the values of so many variables, the last first
  unfoldable pub soon : List (List DeclaredCall) → ℕ → Search → Option Refusal → Option Refusal
  soon values zero s first = first
  soon values (suc n) s first = soon values n (stage n s) (soon_from ((stage n s).marked) first (get_or values n []))
