-- Whether the Core of a query is within the limits, as the code finds it.
use Rattle.std.specs.Prelude.{ℕ, suc, ◌≡◌, false, Bool, cond, ◌||◌, nat_lt, List, [], ◌∷◌, map, is_some}
use Rattle.xq_base.specs.declared.item.TextId.{TextId}
use Rattle.core_meaning.specs.Erasure.{Texts}
use Rattle.xq_ast.specs.declared.leaf.SeqType.{SeqType}
use Rattle.xq_ast.specs.declared.node.AsResolved.{AsResolved}
use Rattle.xq_ast.specs.declared.query.Declaration.{Declaration as CodeDeclaration}
use Rattle.xq_ast.specs.declared.query.Declaration.TheVariants as declaration_
use Rattle.xq_ast.specs.declared.query.Param.{Param}
use Rattle.core_scope.specs.Syn.{Declaration, Query, resolved}
use Rattle.core_scope.specs.Erasure.{declaration_of}
use Rattle.core_scope.specs.Leaves.{ResolvedTree, resolved_leaves}
use Rattle.core_normal.specs.declared.limits.CoreSize.{CoreSize}
use Rattle.core_normal.specs.declared.limits.CoreSize.TheVariants as m
use Rattle.core_normal.specs.declared.sizes.Size.{Size}
use Rattle.core_normal.specs.declared.sizes.Round.{Round}
use Rattle.core_normal.specs.declared.sized.FunSize.{FunSize}
use Rattle.core_normal.specs.Limits as limits
use Rattle.core_normal.specs.Limits.{Normalises, is_too_large, max_nodes, max_levels}
use Rattle.core_normal.specs.Query.{core_of_query, functions, count}
use Rattle.core_normal.specs.SizedQuery.{sizes_within}
use Rattle.core_normal.specs.Counting.{size_of, over, bind, bare, filled}
use Rattle.core_normal.specs.Ends.{Known}

abbrev pub Declarations : Type 0
Declarations = List (CodeDeclaration TextId ℕ SeqType ResolvedTree)

-- which parameters have a type
abbrev pub typed : List (Param ℕ SeqType) → List Bool
typed [] = []
typed (p ∷ ps) = is_some p.ty ∷ typed ps

abbrev pub converted : Bool → Size → Size
converted has_result a = cond has_result (over a) a

-- the sizes of the declared functions, where calls inside them have those of the table
abbrev pub IsNext : List FunSize → Declarations → List FunSize → Type 0
IsNext table [] [] = Unit {0}
IsNext table [] (h ∷ hs) = ⊥
IsNext table (declaration_.Var at x ty e ∷ ds) hs = IsNext table ds hs
IsNext table (declaration_.Fun at n ps ty e ∷ ds) [] = ⊥
IsNext table (declaration_.Fun at n ps ty e ∷ ds) (h ∷ hs) =
    (h.typed.items ≡ typed ps) × (h.body ≡ converted (is_some ty) (size_of table e)) × IsNext table ds hs

abbrev pub how_many : Declarations → ℕ
how_many [] = 0
how_many (declaration_.Var at x ty e ∷ ds) = how_many ds
how_many (declaration_.Fun at n ps ty e ∷ ds) = suc (how_many ds)

-- the variables of the prolog round what follows them
abbrev pub prolog : List FunSize → Round → Declarations → Round
prolog table r [] = r
prolog table r (declaration_.Var at x ty e ∷ ds) = prolog table (bind false (is_some ty) r (size_of table e)) ds
prolog table r (declaration_.Fun at n ps ty e ∷ ds) = prolog table r ds

-- the size of the Core of a query
abbrev pub whole : List FunSize → Declarations → ResolvedTree → Size
whole table ds w = filled (prolog table bare ds) (size_of table w)

module _ (t : Texts) where
  abbrev pub declarations : Declarations → List (Declaration resolved)
  declarations = map (declaration_of (resolved_leaves t) AsResolved)

  -- the sizes of the declared functions, with calls inside them as deep as there are functions; those that are known, where they must be
  abbrev pub IsTable : Bool → Declarations → List FunSize → Type 0
  IsTable must ds table = Known must table (sizes_within (count (functions (declarations ds))) (functions (declarations ds)))

abbrev pub within : Size → CoreSize
within a = cond (nat_lt max_nodes a.nodes || nat_lt max_levels a.levels) (m.TooLarge a.nodes a.levels) m.Fits

-- within the limits, or the nodes and levels of a Core beyond them
abbrev pub Measures : Query resolved → CoreSize → Type 0
Measures q m.Fits = is_too_large (core_of_query q) ≡ false
Measures q (m.TooLarge n k) = Normalises q (limits.too_large n k)
