-- How large the Core of a whole query is, found without the Core.
use Rattle.std.specs.Prelude.{ℕ, zero, suc, List, [], ◌∷◌}
use Rattle.core_scope.specs.Syn.{Syn, Declaration, Query, resolved}
use Rattle.core_scope.specs.Syn as s
use Rattle.core_normal.specs.Sizes.{Size, beside, over, FunSize, leaf, converted, tested}
use Rattle.core_normal.specs.Sized.{sized}
use Rattle.core_normal.specs.Query.{Function, functions, types_of, count}

abbrev pub no_size : FunSize
no_size = record { types = []; body = leaf }

abbrev pub size_of_function : (ℕ → FunSize) → Function → FunSize
size_of_function funs f = record { types = types_of f.params; body = converted f.result (sized funs f.body) }

abbrev pub size_at : (ℕ → FunSize) → List Function → ℕ → FunSize
size_at funs [] k = no_size
size_at funs (f ∷ fs) zero = size_of_function funs f
size_at funs (f ∷ fs) (suc k) = size_at funs fs k

-- the sizes of the declared functions, with calls inside them to this depth
abbrev pub sizes_within : ℕ → List Function → ℕ → FunSize
sizes_within zero fs k = no_size
sizes_within (suc n) fs k = size_at (sizes_within n fs) fs k

abbrev pub prolog_size : (ℕ → FunSize) → List (Declaration resolved) → Syn resolved → Size
prolog_size funs [] e = sized funs e
prolog_size funs (s.function o i n ps t b ∷ ds) e = prolog_size funs ds e
prolog_size funs (s.variable o i v t b ∷ ds) e = over (beside (sized funs b) (tested t (prolog_size funs ds e)))

abbrev pub query_size : Query resolved → Size
query_size q = prolog_size (sizes_within (count (functions q.declarations)) (functions q.declarations)) q.declarations q.body
