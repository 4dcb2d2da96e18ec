-- A text's query is built as the grammar builds one, and so is its resolved form.
use Rattle.std.proofs.Common.{◌≡◌, ℕ, true, List, Option}
use Rattle.core_meaning.specs.Lawful.{all_differ}
use Rattle.xq_ast.specs.Rules.{many}
use Rattle.xq_ast.specs.Trees as trees
use Rattle.xq_ast.specs.Trees.{Tree, Version, Prolog, Declaration}
use Rattle.xq_ast.specs.Grammar as l
use Rattle.xq_ast.specs.Query.{IsQuery, after_mark}
use Rattle.core_scope.specs.Syn.{Query, resolved}
use Rattle.core_scope.specs.Leaves.{query_read}
use Rattle.core_scope.specs.Refusals.{accepted, Scopes}
use Rattle.core_normal.specs.Sound.{IsBuilt}
use Rattle.read_laws.proofs.Each.{Each}
use Rattle.read_laws.proofs.Forms.{Good, GoodDeclaration, declarations_built}
use Rattle.read_laws.proofs.Keeping as keeping
use Rattle.read_laws.proofs.Keeping.{Keeps, gives, ◌&◌, passed, ended, elsewhere, never, together}
use Rattle.read_laws.proofs.Rules.{expr_keeps, declaration_keeps}
use Rattle.read_laws.proofs.Levels.{at_level, levels}
use Rattle.read_laws.proofs.Places.{the_places, places_differ}
use Rattle.read_laws.proofs.Resolution.{resolving_keeps_built}

abbrev GoodDeclarations : List Declaration → Type 0
GoodDeclarations ds = Each GoodDeclaration ds × (all_differ (the_places ds) ≡ true)

abbrev GoodProlog : Prolog → Type 0
GoodProlog p = GoodDeclarations p.declarations

whole : (v : Option Version) (p : Prolog) → GoodProlog p → (e : Tree) → Good e → IsBuilt (query_read (l.query_of v p e))
whole v p h e g = record { declarations = declarations_built p.declarations h.0; body = g; apart = h.1 }

module _ (text : List ℕ) (d : ℕ) where
  declarations_keep : Keeps (at_level text d) (many l.declaration) GoodDeclarations
  declarations_keep = together (keeping.many (declaration_keeps (at_level text d) (levels text d).one (levels text d).two)) (places_differ text d)

  prolog_keeps : Keeps (at_level text d) l.prolog GoodProlog
  unfolding l.prolog l.declarations
  prolog_keeps = elsewhere never (ended (passed (gives (λ ss ds h. h)) & declarations_keep))

  query_keeps : Keeps (at_level text d) l.query (λ q. IsBuilt (query_read q))
  unfolding l.query
  query_keeps = ended (passed (gives whole) & prolog_keeps & expr_keeps (at_level text d) (levels text d).one (levels text d).two)

pub queries_are_built : (text : List ℕ) (q : trees.Query) → IsQuery text q → IsBuilt (query_read q)
queries_are_built text q i = (query_keeps text l.max_level).kept (after_mark text) i.0 q i.1

pub read_is_built : (text : List ℕ) (q : trees.Query) (r : Query resolved) → IsQuery text q → Scopes (query_read q) (accepted r) → IsBuilt r
read_is_built text q r i s = resolving_keeps_built (query_read q) r s (queries_are_built text q i)
