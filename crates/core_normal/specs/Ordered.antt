-- Declared functions in an order in which each stands behind those that it calls, and makers of bodies that hold those of an order.
use Rattle.std.specs.Prelude.{◌≡◌, ◌≢◌, ℕ, zero, suc, ◌<◌, Bool, true, List, [], ◌∷◌, ◌++◌, Contains}
use Rattle.core_scope.specs.Syn.{Declaration, Query, resolved}
use Rattle.core_scope.specs.Syn as s
use Rattle.core_normal.specs.Fresh.{Made, Makes}
use Rattle.core_normal.specs.Around.{Env, no_vars}
use Rattle.core_normal.specs.Pieces.{Inlined}
use Rattle.core_normal.specs.Query.{Function, functions, count, bodies_within, base_of, globals}
use Rattle.core_normal.specs.Calls.{calls_in}
use Rattle.core_normal.specs.Shift as shift

-- two makers of bodies make the same of these functions
abbrev pub SameFor : (ℕ → Makes Inlined) → (ℕ → Makes Inlined) → List ℕ → Type 0
SameFor b b' ks = (k : ℕ) → Contains ks k → (d : ℕ) → b k d ≡ b' k d

-- the calls of the k-th function's body
abbrev pub calls_of : List Function → ℕ → List ℕ
calls_of [] k = []
calls_of (f ∷ fs) zero = calls_in f.body
calls_of (f ∷ fs) (suc k) = calls_of fs k

-- the calls of the prolog's variables, and of the main expression
abbrev pub main_calls : List (Declaration resolved) → List ℕ → List ℕ
main_calls [] of_body = of_body
main_calls (s.function o i n ps t e ∷ ds) of_body = main_calls ds of_body
main_calls (s.variable o i v t e ∷ ds) of_body = calls_in e ++ main_calls ds of_body

-- a function that may come next: it is new, and its calls came before
pub record Next (fs : List Function) (before : List ℕ) (k : ℕ) : Type 0 where
  pub is_function : k < count fs
  pub is_new : Contains before k → ⊥
  pub calls : (c : ℕ) → Contains (calls_of fs k) c → Contains before c

-- an order, the latest function first
pub data Ordered (fs : List Function) : List ℕ → Type 0 where
  nobody : Ordered fs []
  behind : {before : List ℕ} (k : ℕ) → Ordered fs before → Next fs before k → Ordered fs (k ∷ before)

-- all of these functions are held
abbrev pub AllHeld : (ℕ → Bool) → List ℕ → Type 0
AllHeld held ks = (k : ℕ) → Contains ks k → held k ≡ true

-- a maker of bodies makes those of the definitions, of the functions that it holds
pub record Holds (base : ℕ) (env : Env) (fs : List Function) (held : ℕ → Bool) (b : ℕ → Makes Inlined) : Type 0 where
  pub order : List ℕ
  pub ordered : Ordered fs order
  pub has : AllHeld held order
  pub is : (k : ℕ) → held k ≡ true → Contains order k
  pub same : SameFor b (bodies_within base (count fs) env fs) order

-- a maker of bodies like another, with one body more, which was made behind no new variable
pub record WithBody (base : ℕ) (held : ℕ → Bool) (b : ℕ → Makes Inlined) (k : ℕ) (x : Made Inlined) (held' : ℕ → Bool) (b' : ℕ → Makes Inlined) : Type 0 where
  pub holds : held' k ≡ true
  pub held_before : (i : ℕ) → i ≢ k → held' i ≡ held i
  pub body : (d : ℕ) → b' k d ≡ shift.all base d (shift.inlined base d) x
  pub bodies : (i d : ℕ) → i ≢ k → b' i d ≡ b i d

-- a maker of bodies for a query
abbrev pub HoldsOf : Query resolved → (ℕ → Bool) → (ℕ → Makes Inlined) → Type 0
HoldsOf q held b = Holds (base_of q.declarations) (globals q.declarations 0 no_vars) (functions q.declarations) held b
