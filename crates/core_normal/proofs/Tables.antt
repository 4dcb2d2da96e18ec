-- Tables of the sizes of declared functions, and the size of a whole query.
use Rattle.std.proofs.Common.{◌≡◌, refl, sym, ap, ◌∙◌, subst, arith, ℕ, zero, suc, ◌+◌, ◌-◌, ◌^◌, min, ◌||◌, nat_lt, Bool, true, false, cond, List, [], ◌∷◌, ◌++◌, length, take, get_or, ◌<◌, Option, Some, None, is_some, slice_get}
use Rattle.std.proofs.lemmas.List.{take_more}
use Rattle.xq_base.specs.declared.item.TextId.{TextId}
use Rattle.core_meaning.specs.Erasure.{Texts}
use Rattle.core_meaning.specs.Size.{nodes, levels}
use Rattle.xq_ast.specs.declared.leaf.Name.{Name}
use Rattle.xq_ast.specs.declared.leaf.SeqType.{SeqType}
use Rattle.xq_ast.specs.declared.leaf.Variable.{Variable}
use Rattle.xq_ast.specs.declared.node.AsResolved.{AsResolved}
use Rattle.xq_ast.specs.declared.query.Declaration.{Declaration as CodeDeclaration}
use Rattle.xq_ast.specs.declared.query.Declaration.TheVariants as declaration_
use Rattle.xq_ast.specs.declared.query.Param.{Param}
use Rattle.core_scope.specs.Syn.{Syn, Query, resolved}
use Rattle.core_scope.specs.Erasure.{params_of}
use Rattle.core_scope.specs.Erasure as e
use Rattle.core_scope.specs.Leaves.{ResolvedTree, ResolvedQuery, resolved_leaves, syn_resolved, query_resolved}
use Rattle.core_normal.specs.declared.limits.CoreSize.{CoreSize}
use Rattle.core_normal.specs.declared.limits.CoreSize.TheVariants as size_
use Rattle.core_normal.specs.declared.sizes.Size.{Size as Held}
use Rattle.core_normal.specs.declared.sizes.Round.{Round}
use Rattle.core_normal.specs.declared.sized.FunSize.{FunSize as HeldFun}
use Rattle.core_normal.specs.Counting as z
use Rattle.core_normal.specs.Counting.{size_of}
use Rattle.core_normal.specs.Ends.{Ends, Known, KnownAt, has_type, has_types}
use Rattle.core_normal.specs.Limits.{ended, is_too_large}
use Rattle.core_normal.specs.Measuring as m
use Rattle.core_normal.specs.Measuring.{Declarations, IsNext, declarations}
use Rattle.core_normal.specs.Query.{Function, core_of_query, count, functions, types_of}
use Rattle.core_normal.specs.Sizes.{Size, FunSize, converted}
use Rattle.core_normal.specs.Sized.{sized}
use Rattle.core_normal.specs.SizedQuery.{size_at, sizes_within, prolog_size, query_size}
use Rattle.core_normal.proofs.CountedPieces.{over_ends, Fills, nested_fills, bare_fills}
use Rattle.core_normal.proofs.CountedTrees.{tree_ends}
use Rattle.core_normal.proofs.QuerySize.{nodes_found, levels_found}

module _ (t : Texts) where
  written : (ty : Option SeqType) → is_some ty ≡ has_type (e.type_of (resolved_leaves t) ty)
  written None = refl
  written (Some ty) = refl

  pub typed_law : (ps : List (Param ℕ SeqType)) → m.typed ps ≡ has_types (types_of (params_of (resolved_leaves t) AsResolved ps))
  typed_law [] = refl
  typed_law (p ∷ ps) = ap (λ b. b ∷ m.typed ps) (written p.ty) ∙ ap (λ bs. has_type (e.type_of (resolved_leaves t) p.ty) ∷ bs) (typed_law ps)

  pub converted_ends : {must : Bool} (ty : Option SeqType) {h : Held} {a : Size} → Ends must h a → Ends must (m.converted (is_some ty) h) (converted (e.type_of (resolved_leaves t) ty) a)
  converted_ends None p = p
  converted_ends (Some ty) p = over_ends p

  module _ (must : Bool) (table : List HeldFun) (funs : ℕ → FunSize) (known : Known must table funs) where
    next_at : (ds : Declarations) (hs : List HeldFun) → IsNext table ds hs → (k : ℕ) → KnownAt must (slice_get hs k) (size_at funs (functions (declarations t ds)) k)
    next_at [] [] n k = refl
    next_at [] (h ∷ hs) n k = absurd n
    next_at (declaration_.Var at x ty w ∷ ds) hs n k = next_at ds hs n k
    next_at (declaration_.Fun at x ps ty w ∷ ds) [] n k = absurd n
    next_at (declaration_.Fun at x ps ty w ∷ ds) (h ∷ hs) n zero = record {
      typed = λ _. n.0 ∙ typed_law ps;
      body = subst (λ u. Ends must u (converted (e.type_of (resolved_leaves t) ty) (sized funs (syn_resolved t w)))) (sym n.1) (converted_ends ty (tree_ends must table funs t known w));
    }
    next_at (declaration_.Fun at x ps ty w ∷ ds) (h ∷ hs) n (suc k) = next_at ds hs n.2 k

    pub next_known : (ds : Declarations) (hs : List HeldFun) → IsNext table ds hs → Known must hs (size_at funs (functions (declarations t ds)))
    next_known ds hs n = record { at_number = next_at ds hs n }

  -- one turn of the rounds
  pub turn_known : (ds : Declarations) (i : ℕ) (table hs : List HeldFun) → Known false table (sizes_within i (functions (declarations t ds))) → IsNext table ds hs →
      Known false hs (sizes_within (i + 1) (functions (declarations t ds)))
  turn_known ds i table hs p n =
      let more : i + 1 ≡ suc i = omega arith in
      subst (λ k. Known false hs (sizes_within k (functions (declarations t ds)))) (sym more) (next_known false table (sizes_within i (functions (declarations t ds))) p ds hs n)

  pub none_known : (fs : List Function) → Known false [] (sizes_within 0 fs)
  none_known fs = record { at_number = λ k. refl }

  pub how_many_law : (ds : Declarations) → m.how_many ds ≡ count (functions (declarations t ds))
  how_many_law [] = refl
  how_many_law (declaration_.Var at x ty w ∷ ds) = how_many_law ds
  how_many_law (declaration_.Fun at x ps ty w ∷ ds) = ap suc (how_many_law ds)

  prolog_ends : (must : Bool) (table : List HeldFun) (funs : ℕ → FunSize) → Known must table funs → {h : Held} (a : Syn resolved) → Ends must h (sized funs a) →
      (ds : Declarations) (r : Round) (f : Size → Size) → Fills must r f → Ends must (z.filled (m.prolog table r ds) h) (f (prolog_size funs (declarations t ds) a))
  prolog_ends must table funs known {h} a p [] r f q = q.fill h (sized funs a) p
  prolog_ends must table funs known a p (declaration_.Var at x ty w ∷ ds) r f q = prolog_ends must table funs known a p ds _ _ (nested_fills t ty q (tree_ends must table funs t known w))
  prolog_ends must table funs known a p (declaration_.Fun at x ps ty w ∷ ds) r f q = prolog_ends must table funs known a p ds r f q

  pub whole_ends : (must : Bool) (ds : Declarations) (w : ResolvedTree) (table : List HeldFun) → Known must table (sizes_within (count (functions (declarations t ds))) (functions (declarations t ds))) →
      Ends must (z.filled (m.prolog table z.bare ds) (size_of table w)) (prolog_size (sizes_within (count (functions (declarations t ds))) (functions (declarations t ds))) (declarations t ds) (syn_resolved t w))
  whole_ends must ds w table known =
      prolog_ends must table (sizes_within (count (functions (declarations t ds))) (functions (declarations t ds))) known (syn_resolved t w)
      (tree_ends must table (sizes_within (count (functions (declarations t ds))) (functions (declarations t ds))) t known w) ds z.bare (λ a. a) bare_fills

-- one declaration more of those of which the sizes were found
abbrev IsEntry : List HeldFun → CodeDeclaration TextId ℕ SeqType ResolvedTree → HeldFun → Type 0
IsEntry table (declaration_.Var at x ty w) h = ⊥
IsEntry table (declaration_.Fun at x ps ty w) h = (h.typed.items ≡ m.typed ps) × (h.body ≡ m.converted (is_some ty) (size_of table w))

entry_more : (table : List HeldFun) (ds : Declarations) (hs : List HeldFun) (d : CodeDeclaration TextId ℕ SeqType ResolvedTree) (h : HeldFun) → IsNext table ds hs → IsEntry table d h → IsNext table (ds ++ d ∷ []) (hs ++ h ∷ [])
entry_more table [] [] (declaration_.Var at x ty w) h p q = absurd q
entry_more table [] [] (declaration_.Fun at x ps ty w) h p q = (q.0, q.1, tt)
entry_more table [] (g ∷ hs) d h p q = absurd p
entry_more table (declaration_.Var at x ty w ∷ ds) hs d h p q = entry_more table ds hs d h p q
entry_more table (declaration_.Fun at x ps ty w ∷ ds) [] d h p q = absurd p
entry_more table (declaration_.Fun at x ps ty w ∷ ds) (g ∷ hs) d h p q = (p.0, p.1, entry_more table ds hs d h p.2 q)

variable_more : (table : List HeldFun) (ds : Declarations) (hs : List HeldFun) (at : ℕ) (x : Variable ℕ) (ty : Option SeqType) (w : ResolvedTree) → IsNext table ds hs → IsNext table (ds ++ declaration_.Var at x ty w ∷ []) hs
variable_more table [] [] at x ty w p = tt
variable_more table [] (g ∷ hs) at x ty w p = absurd p
variable_more table (declaration_.Var a y u v ∷ ds) hs at x ty w p = variable_more table ds hs at x ty w p
variable_more table (declaration_.Fun a y ps u v ∷ ds) [] at x ty w p = absurd p
variable_more table (declaration_.Fun a y ps u v ∷ ds) (g ∷ hs) at x ty w p = (p.0, p.1, variable_more table ds hs at x ty w p.2)

-- the declarations up to and with this one
taken : (ds : Declarations) (i : ℕ) (d : CodeDeclaration TextId ℕ SeqType ResolvedTree) → i < length ds → d ≡ get_or ds i d → take (i + 1) ds ≡ take i ds ++ d ∷ []
taken ds i d h is = take_more ds i d h ∙ ap (λ y. take i ds ++ y ∷ []) (sym is)

pub function_turn : (table : List HeldFun) (ds : Declarations) (i : ℕ) (hs : List HeldFun) (d : CodeDeclaration TextId ℕ SeqType ResolvedTree) (at : ℕ) (x : Name TextId) (ps : List (Param ℕ SeqType)) (ty : Option SeqType) (w : ResolvedTree) (h : HeldFun) →
    i < length ds → d ≡ get_or ds i d → d ≡ declaration_.Fun at x ps ty w → IsNext table (take i ds) hs → h.typed.items ≡ m.typed ps → h.body ≡ m.converted (is_some ty) (size_of table w) → IsNext table (take (i + 1) ds) (hs ++ h ∷ [])
function_turn table ds i hs d at x ps ty w h within is form p q r =
    subst (λ es. IsNext table es (hs ++ h ∷ [])) (sym (taken ds i d within is)) (entry_more table (take i ds) hs d h p (subst (λ e. IsEntry table e h) (sym form) (q, r)))

pub variable_turn : (table : List HeldFun) (ds : Declarations) (i : ℕ) (hs : List HeldFun) (d : CodeDeclaration TextId ℕ SeqType ResolvedTree) (at : ℕ) (x : Variable ℕ) (ty : Option SeqType) (w : ResolvedTree) →
    i < length ds → d ≡ get_or ds i d → d ≡ declaration_.Var at x ty w → IsNext table (take i ds) hs → IsNext table (take (i + 1) ds) hs
variable_turn table ds i hs d at x ty w within is form p =
    subst (λ es. IsNext table es hs) (sym (taken ds i d within is)) (subst (λ e. IsNext table (take i ds ++ e ∷ []) hs) (sym form) (variable_more table (take i ds) hs at x ty w p))

-- the limits are below the number at which both end
passes_nodes : (x n : ℕ) → x ≡ min n (2 ^ 64 - 1) → nat_lt 65536 x ≡ nat_lt 65536 n
passes_nodes x n p = grind (arith, p)

passes_levels : (x n : ℕ) → x ≡ min n (2 ^ 64 - 1) → nat_lt 4096 x ≡ nat_lt 4096 n
passes_levels x n p = grind (arith, p)

measured_at : (q : Query resolved) (h : Held) (b : Bool) → (nat_lt 65536 h.nodes || nat_lt 4096 h.levels) ≡ b → h.nodes ≡ ended (nodes (core_of_query q)) → h.levels ≡ ended (levels (core_of_query q)) →
    is_too_large (core_of_query q) ≡ b → m.Measures q (cond b (size_.TooLarge h.nodes h.levels) size_.Fits)
measured_at q h true is n l large = (large, n, l)
measured_at q h false is n l large = large

pub measured : (q : Query resolved) (h : Held) → Ends false h (query_size q) → m.Measures q (m.within h)
measured q h p =
    let n : h.nodes ≡ ended (nodes (core_of_query q)) = p.nodes refl ∙ sym (ap ended (nodes_found q)) in
    let l : h.levels ≡ ended (levels (core_of_query q)) = p.levels refl ∙ sym (ap ended (levels_found q)) in
    let at_nodes : nat_lt 65536 h.nodes ≡ nat_lt 65536 (nodes (core_of_query q)) = passes_nodes h.nodes (nodes (core_of_query q)) n in
    let at_levels : nat_lt 4096 h.levels ≡ nat_lt 4096 (levels (core_of_query q)) = passes_levels h.levels (levels (core_of_query q)) l in
    measured_at q h (nat_lt 65536 h.nodes || nat_lt 4096 h.levels) refl n l
    (sym (ap (λ b. b || nat_lt 4096 h.levels) at_nodes ∙ ap (λ b. nat_lt 65536 (nodes (core_of_query q)) || b) at_levels))

pub measured_is : (t : Texts) (q : ResolvedQuery) (table : List HeldFun) (h : Held) (c : CoreSize) → m.IsTable t false q.prolog.declarations table → h ≡ m.whole table q.prolog.declarations q.body → c ≡ m.within h →
    m.Measures (query_resolved t q) c
measured_is t q table h c known p e =
    subst (λ u. m.Measures (query_resolved t q) u) (sym (e ∙ ap m.within p))
    (measured (query_resolved t q) (m.whole table q.prolog.declarations q.body) (whole_ends t false q.prolog.declarations q.body table known))

-- a size that is known is told
told : (h : Held) (a : Size) → Ends true h a → h.is_known ≡ true → Ends false h a
told h a p k = record { nodes = λ _. p.nodes k; levels = λ _. p.levels k }

pub known_is : (t : Texts) (q : ResolvedQuery) (table : List HeldFun) (h : Held) (c : CoreSize) → m.IsTable t true q.prolog.declarations table → h ≡ m.whole table q.prolog.declarations q.body → h.is_known ≡ true → c ≡ m.within h →
    m.Measures (query_resolved t q) c
known_is t q table h c known p k e =
    subst (λ u. m.Measures (query_resolved t q) u) (sym (e ∙ ap m.within p))
    (measured (query_resolved t q) (m.whole table q.prolog.declarations q.body)
    (told (m.whole table q.prolog.declarations q.body) (query_size (query_resolved t q)) (whole_ends t true q.prolog.declarations q.body table known) (sym (ap (λ u. u.is_known) p) ∙ k)))
