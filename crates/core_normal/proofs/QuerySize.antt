-- The size of the Core of a query is what its syntax tells.
use Rattle.std.proofs.Common.{◌≡◌, refl, sym, ap, ◌∙◌, ℕ, zero, suc, ◌+◌, List, [], ◌∷◌}
use Rattle.core_meaning.specs.Size as m
use Rattle.core_scope.specs.Syn.{Syn, Declaration, Params, Query, resolved}
use Rattle.core_scope.specs.Syn as s
use Rattle.core_normal.specs.Fresh.{Makes}
use Rattle.core_normal.specs.Around.{Env}
use Rattle.core_normal.specs.Pieces.{Inlined}
use Rattle.core_normal.specs.Sizes.{FunSize}
use Rattle.core_normal.specs.SizedQuery.{size_at, sizes_within, prolog_size, query_size}
use Rattle.core_normal.specs.Query.{Function, functions, types_of, entered, body_at, bodies_within, prolog, core_of_query}
use Rattle.core_normal.specs.Laws.{SizeIsFound}
use Rattle.core_normal.proofs.Measured.{size, Agree, HasSize, AsLong, nodes_law, levels_law}
use Rattle.core_normal.proofs.PieceSizes.{size_of_converted, size_of_tested}
use Rattle.core_normal.proofs.SizedLaw.{law}

as_long : (base : ℕ) (ps : Params resolved) (env : Env) (k : ℕ) → AsLong ((entered base ps env k).made.vars) (types_of ps)
as_long base s.no_params env k = tt
as_long base (s.param o v t ps) env k = as_long base ps _ _

agree_at : (base : ℕ) (bodies : ℕ → Makes Inlined) (funs : ℕ → FunSize) → Agree bodies funs → (env : Env) (fs : List Function) (k j : ℕ) →
    HasSize ((body_at base bodies env fs k j).made) (size_at funs fs k)
agree_at base bodies funs a env [] k j = record { types = refl; long = tt; body = refl }
agree_at base bodies funs a env (f ∷ fs) zero j =
    record {
      types = refl;
      long = as_long base f.params env j;
      body = simp (size_of_converted, law base bodies funs a f.body);
    }
agree_at base bodies funs a env (f ∷ fs) (suc k) j = agree_at base bodies funs a env fs k j

agree_within : (base n : ℕ) (env : Env) (fs : List Function) → Agree (bodies_within base n env fs) (sizes_within n fs)
agree_within base zero env fs k j = record { types = refl; long = tt; body = refl }
agree_within base (suc n) env fs k j = agree_at base _ _ (agree_within base n env fs) env fs k j

prolog_law : (base : ℕ) (bodies : ℕ → Makes Inlined) (funs : ℕ → FunSize) → Agree bodies funs → (env : Env) (ds : List (Declaration resolved)) (j : ℕ) (e : Syn resolved) (k : ℕ) →
    size ((prolog base bodies env ds j e k).made) ≡ prolog_size funs ds e
prolog_law base bodies funs a env [] j e k = law base bodies funs a e _ k
prolog_law base bodies funs a env (s.function o i n ps t b ∷ ds) j e k = prolog_law base bodies funs a env ds j e k
prolog_law base bodies funs a env (s.variable o i v t b ∷ ds) j e k =
    simp (size_of_tested, law base bodies funs a b, prolog_law base bodies funs a env ds (j + 1) e)

query_size_law : (q : Query resolved) → size (core_of_query q) ≡ query_size q
query_size_law q = prolog_law _ _ _ (agree_within _ _ _ (functions q.declarations)) _ q.declarations 0 q.body _

pub nodes_found : (q : Query resolved) → m.nodes (core_of_query q) ≡ (query_size q).nodes
nodes_found q = sym (nodes_law (core_of_query q)) ∙ ap (λ t. t.nodes) (query_size_law q)

pub levels_found : (q : Query resolved) → m.levels (core_of_query q) ≡ (query_size q).levels
levels_found q = sym (levels_law (core_of_query q)) ∙ ap (λ t. t.levels) (query_size_law q)

pub size_is_found : SizeIsFound
size_is_found q = (nodes_found q, levels_found q)
