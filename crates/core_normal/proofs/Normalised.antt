-- The Core of a query, made with the bodies of the functions that it reaches.
use Rattle.std.proofs.Common.{◌≡◌, sym, ap, ◌∙◌, subst, ℕ, ◌+◌, ◌*◌, None}
use Rattle.core_meaning.specs.declared.node.Core.{Core}
use Rattle.core_meaning.specs.Erasure.{Texts, core_of}
use Rattle.core_meaning.specs.PlainCore.{PlainCore}
use Rattle.core_scope.specs.Leaves.{ResolvedQuery, ResolvedTree, query_resolved, syn_resolved}
use Rattle.core_normal.specs.declared.bodies.Bodies.{Bodies}
use Rattle.core_normal.specs.declared.bodies.State.{State}
use Rattle.core_normal.specs.declared.fault.NormFault.TheVariants as fault
use Rattle.core_normal.specs.declared.limits.CoreSize.{CoreSize}
use Rattle.core_normal.specs.declared.limits.CoreSize.TheVariants as found
use Rattle.core_normal.specs.Fresh.{Made}
use Rattle.core_normal.specs.Around.{no_vars}
use Rattle.core_normal.specs.Making.{HasEmpty, MadeBy, bodies_in}
use Rattle.core_normal.specs.Measuring.{Declarations, Measures, declarations}
use Rattle.core_normal.specs.Outcomes.{Gives, IsLawful, IsScoped, NormFails}
use Rattle.core_normal.specs.Prologue.{normed_prolog}
use Rattle.core_normal.specs.Query.{bodies_within, core_of_query, count, functions, globals, prolog}
use Rattle.core_normal.specs.Standing.{no_value, vars_in}
use Rattle.core_normal.specs.Templating.{AreBodies, HasMainCalls, global_values, held_in, var_count}
use Rattle.core_normal.proofs.Adding.{base_law, globals_stand}
use Rattle.core_normal.proofs.LawfulMade.{lawful_made}
use Rattle.core_normal.proofs.OrderedBodies.{prolog_held}

made_whole : (query : ResolvedQuery) (p : Bodies) (s0 s1 : State) (core : Core) → AreBodies query.prolog.declarations p → HasMainCalls p query.prolog.declarations query.body →
    vars_in s0.vars ≡ global_values query.prolog.declarations 0 no_value → s0.next ≡ 0 →
    MadeBy core_of p s0 None (normed_prolog p query.prolog.declarations query.body) core s1 → (t : Texts) → HasEmpty t → core_of t core ≡ core_of_query (query_resolved t query)
unfolding normed_prolog
made_whole query p s0 s1 core bodies calls vars first made t z =
    let ds : Declarations = query.prolog.declarations in
    let with_base : ℕ → Core → Type 0 = λ o x. core_of t x ≡ (prolog o (bodies_within o (count (functions (declarations t ds))) (globals (declarations t ds) 0 no_vars) (functions (declarations t ds))) (globals (declarations t ds) 0 no_vars) (declarations t ds) 0 (syn_resolved t query.body) 0).made in
    subst (λ o. with_base o core) (base_law t ds)
    (sym (ap (λ (u : Made PlainCore). u.made) (sym (prolog_held (2 * var_count ds + 1) (globals (declarations t ds) 0 no_vars) (functions (declarations t ds)) (held_in p) (bodies_in t p) (bodies.holds t z) (declarations t ds) (syn_resolved t query.body) (calls t) (globals (declarations t ds) 0 no_vars) 0 0)
    ∙ ap (λ o. prolog o (bodies_in t p) (globals (declarations t ds) 0 no_vars) (declarations t ds) 0 (syn_resolved t query.body) 0) (sym bodies.base)
    ∙ ap (λ k. prolog p.base (bodies_in t p) (globals (declarations t ds) 0 no_vars) (declarations t ds) 0 (syn_resolved t query.body) k) (sym first)
    ∙ made.made t (globals (declarations t ds) 0 no_vars) z (globals_stand ds (vars_in s0.vars) vars t))))

pub query_made : (query : ResolvedQuery) (ds : Declarations) (main : ResolvedTree) (p : Bodies) (s0 s1 : State) (core : Core) → ds ≡ query.prolog.declarations → main ≡ query.body →
    AreBodies ds p → HasMainCalls p ds main → vars_in s0.vars ≡ global_values ds 0 no_value → s0.next ≡ 0 →
    MadeBy core_of p s0 None (normed_prolog p ds main) core s1 → (t : Texts) → HasEmpty t → core_of t core ≡ core_of_query (query_resolved t query)
query_made query ds main p s0 s1 core same_ds same_main bodies calls vars first made =
    made_whole query p s0 s1 core (subst (λ l. AreBodies l p) same_ds bodies)
    (subst (λ m. HasMainCalls p query.prolog.declarations m) same_main (subst (λ l. HasMainCalls p l main) same_ds calls))
    (vars ∙ ap (λ l. global_values l 0 no_value) same_ds) first
    (subst (λ m. MadeBy core_of p s0 None (normed_prolog p query.prolog.declarations m) core s1) same_main (subst (λ l. MadeBy core_of p s0 None (normed_prolog p l main) core s1) same_ds made))

-- a Core of which the size was found within the limits, and numbers beyond them
pub core_given : (query : ResolvedQuery) (size : CoreSize) (x : Core) → size ≡ found.Fits → ((t : Texts) → Measures (query_resolved t query) size) →
    ((t : Texts) → HasEmpty t → core_of t x ≡ core_of_query (query_resolved t query)) → Gives query x
core_given query size x is measured made = λ t z. (subst (Measures (query_resolved t query)) is (measured t), made t z)

pub too_large_told : (query : ResolvedQuery) (size : CoreSize) (n k : ℕ) → size ≡ found.TooLarge n k → ((t : Texts) → Measures (query_resolved t query) size) → NormFails query (fault.TooLarge n k)
too_large_told query size n k is measured = λ t. subst (Measures (query_resolved t query)) is (measured t)

-- the Core of a query that scope gave is lawful
pub lawful_given : (query : ResolvedQuery) (x : Core) → IsScoped query → Gives query x → IsLawful x
lawful_given query x scoped gives = λ u. lawful_made scoped.texts u scoped.of (query_resolved scoped.texts query) x scoped.built scoped.scopes (gives scoped.texts scoped.empty)
