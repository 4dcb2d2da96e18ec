-- Laws of normalisation.
use Rattle.std.specs.Prelude.{◌≡◌, ℕ, Bool, true, false}
use Rattle.core_meaning.specs.declared.node.Core.{Core}
use Rattle.core_meaning.specs.Erasure.{Texts, core_of}
use Rattle.core_meaning.specs.ExprOf.{expr_of}
use Rattle.core_meaning.specs.Lawful.{is_lawful}
use Rattle.core_meaning.specs.Size.{nodes, levels}
use Rattle.core_scope.specs.Refusals.{Scopes, accepted}
use Rattle.core_scope.specs.Syn.{Syn, Query, read, resolved}
use Rattle.core_normal.specs.Fresh.{Makes}
use Rattle.core_normal.specs.Around.{Around, no_vars}
use Rattle.core_normal.specs.Pieces.{Inlined}
use Rattle.core_normal.specs.Normal.{norm}
use Rattle.core_normal.specs.Query.{core_of_query, functions, globals, base_of, bodies_within, prolog}
use Rattle.core_normal.specs.Calls.{calls_in}
use Rattle.core_normal.specs.Ordered.{SameFor, HoldsOf, AllHeld, main_calls}
use Rattle.core_normal.specs.Limits.{is_too_large, core, Normalises}
use Rattle.core_normal.specs.Shift as shift
use Rattle.core_normal.specs.Sound.{IsBuilt}
use Rattle.core_normal.specs.SizedQuery.{query_size}

-- the size that is found without the Core is the Core's
abbrev pub SizeIsFound : Type 0
SizeIsFound = (q : Query resolved) → (nodes (core_of_query q) ≡ (query_size q).nodes) × (levels (core_of_query q) ≡ (query_size q).levels)

-- a declared function's body made behind d new variables is the one made behind none, moved by d
abbrev pub BodiesMove : Type 0
BodiesMove =
    (q : Query resolved) (d i k : ℕ) →
    bodies_within (base_of q.declarations) i (globals q.declarations 0 no_vars) (functions q.declarations) k d
    ≡ shift.all (base_of q.declarations) d (shift.inlined (base_of q.declarations) d)
    (bodies_within (base_of q.declarations) i (globals q.declarations 0 no_vars) (functions q.declarations) k 0)

-- the Core of an expression depends only on the bodies of the functions that it calls
abbrev pub CallsDecide : Type 0
CallsDecide =
    (base : ℕ) (b b' : ℕ → Makes Inlined) (e : Syn resolved) → SameFor b b' (calls_in e) →
    (r : Around) (n : ℕ) → norm base b e r n ≡ norm base b' e r n

-- bodies that were made in an order, callees first, give the Core of a query
abbrev pub OrderIsEnough : Type 0
OrderIsEnough =
    (q : Query resolved) (held : ℕ → Bool) (b : ℕ → Makes Inlined) → HoldsOf q held b → AllHeld held (main_calls q.declarations (calls_in q.body)) →
    (prolog (base_of q.declarations) b (globals q.declarations 0 no_vars) q.declarations 0 q.body 0).made ≡ core_of_query q

-- the Core of a query of which nothing is refused is lawful, where it isn't too large
abbrev pub CoresAreLawful : Type 0
CoresAreLawful =
    (q : Query read) (r : Query resolved) → IsBuilt r → Scopes q (accepted r) → is_too_large (core_of_query r) ≡ false → is_lawful (expr_of (core_of_query r)) ≡ true

-- and so is the code's, whatever texts its text numbers stand for
abbrev pub MadeAreLawful : Type 0
MadeAreLawful =
    (t u : Texts) (q : Query read) (r : Query resolved) (x : Core) → IsBuilt r → Scopes q (accepted r) → Normalises r (core (core_of t x)) →
    is_lawful (expr_of (core_of u x)) ≡ true
