-- What the code gathers of a whole query, and the graphs that it makes of it.
use Rattle.std.specs.Prelude.{ℕ, List, length, map, ◌⊎◌}
use Rattle.core_scope.specs.declared.refusal.Refusal.{Refusal}
use Rattle.core_scope.specs.Syn.{Query, read}
use Rattle.core_scope.specs.Prolog.{all_told, local_refusals}
use Rattle.core_scope.specs.Refusals.{first_of, told_functions}
use Rattle.core_scope.specs.Search.{Graph}
use Rattle.core_scope.specs.declared.found.DeclaredCall.{DeclaredCall}
use Rattle.core_scope.specs.Kinds.{IsRecursive, IsTooSoon}
use Rattle.core_scope.specs.Gathering.{Gained, Gathered, gained, value_calls}

-- of a query: the first refusal that one place tells, the functions, the calls in the values of the variables
abbrev pub gathered_of : Query read → Gathered
gathered_of q = record { first = first_of (local_refusals q); functions = map gained (told_functions (all_told q)); variables = value_calls (all_told q) }

-- the functions that each function calls, the variables to which it refers, and its place
abbrev pub calls_of : List Gained → Graph
calls_of fs = map (λ f. map (λ c. c.function) f.calls) fs

abbrev pub refers_of : List Gained → Graph
refers_of fs = map (λ f. f.refers) fs

abbrev pub offsets_of : List Gained → List ℕ
offsets_of fs = map (λ f. f.offset) fs

-- of recursion or of a call that comes too soon
abbrev pub IsByCalls : List Gained → List (List DeclaredCall) → Refusal → Type 0
IsByCalls fs values r = IsRecursive (calls_of fs) (offsets_of fs) (length (offsets_of fs)) r ⊎ IsTooSoon (calls_of fs) (refers_of fs) values 0 r
