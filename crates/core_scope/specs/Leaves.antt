-- What the leaves of the code's two trees stand for: a text number of a resolved tree stands for the pool's text.
use Rattle.std.specs.Prelude.{ℕ, ℤ, List}
use Rattle.xq_base.specs.declared.item.TextId.{TextId}
use Rattle.xq_base.specs.declared.axis.NodeTest.{NodeTest}
use Rattle.xq_base.specs.declared.fun.AtomKind.{AtomKind}
use Rattle.xq_base.specs.Texts.{Text}
use Rattle.doc_table.specs.Tree.{text_in}
use Rattle.core_meaning.specs.declared.node.Occurs.{Occurs}
use Rattle.core_meaning.specs.declared.node.Occurs.TheVariants as o
use Rattle.core_meaning.specs.Types.{ItemTest, AnyItem, AnyAtom, AtomOf, NodeOf, SequenceTest, NoItems, ItemsOf}
use Rattle.core_meaning.specs.Erasure.{test_in}
use Rattle.xq_ast.specs.declared.leaf.Occurs.{Occurs as ReadOccurs}
use Rattle.xq_ast.specs.declared.leaf.Occurs.TheVariants as r
use Rattle.xq_ast.specs.declared.leaf.ItemType.{ItemType}
use Rattle.xq_ast.specs.declared.leaf.ItemType.TheVariants as i
use Rattle.xq_ast.specs.declared.leaf.SeqType.{SeqType}
use Rattle.xq_ast.specs.declared.leaf.SeqType.TheVariants as t
use Rattle.xq_ast.specs.declared.leaf.Name.{Name}
use Rattle.xq_ast.specs.declared.leaf.ReadType.{ReadType}
use Rattle.xq_ast.specs.declared.leaf.ContentRun.{ContentRun}
use Rattle.xq_ast.specs.declared.leaf.ValueRun.{ValueRun}
use Rattle.xq_ast.specs.declared.leaf.Callee.{Callee}
use Rattle.xq_ast.specs.declared.leaf.TextRun.{TextRun as CodeRun}
use Rattle.xq_ast.specs.declared.node.AsRead.{AsRead}
use Rattle.xq_ast.specs.declared.node.AsResolved.{AsResolved}
use Rattle.xq_ast.specs.declared.node.Node.{Node}
use Rattle.xq_ast.specs.declared.query.Query.{Query as CodeQuery}
use Rattle.xq_ast.specs.Trees as trees
use Rattle.core_scope.specs.Syn.{read, resolved, TextRun, Syn, Query}
use Rattle.core_scope.specs.Erasure.{Leaves, syn_of, query_of}

-- the code's resolved tree and query
abbrev pub ResolvedTree : Type 0
ResolvedTree = Node AsResolved TextId ℕ Callee SeqType AtomKind ℤ CodeRun TextId

abbrev pub ResolvedQuery : Type 0
ResolvedQuery = CodeQuery AsResolved TextId ℕ Callee SeqType AtomKind ℤ CodeRun TextId

-- how many items (XQuery 1.0, section 2.5.3)
abbrev pub occurs_of : ReadOccurs → Occurs
occurs_of r.One = o.One
occurs_of r.Optional = o.Optional
occurs_of r.Many = o.Many
occurs_of r.AtLeastOne = o.AtLeastOne

abbrev pub read_leaves : Leaves Text (Name Text) (Name Text) ReadType (Name Text) Text ContentRun ValueRun read
read_leaves =
    record { text = λ t. t; var = λ x. x.text; fun = λ f. f.text; ty = λ t. t; kind = λ k. k; number = λ n. n; run = λ x. x; value = λ x. x }

module _ (texts : List Text) where
  abbrev pub item_of : ItemType → ItemTest
  item_of i.Any = AnyItem
  item_of i.AnyAtomic = AnyAtom
  item_of (i.Atom kind) = AtomOf kind
  item_of (i.Test test) = NodeOf (test_in texts test)

  abbrev pub sequence_of : SeqType → SequenceTest
  sequence_of t.Empty = NoItems
  sequence_of (t.Of item occurs) = ItemsOf (item_of item) (occurs_of occurs)

  abbrev pub run_of : CodeRun → TextRun
  run_of x = record { text = text_in texts x.text; is_boundary = x.is_boundary }

  abbrev pub resolved_leaves : Leaves TextId ℕ Callee SeqType AtomKind ℤ CodeRun TextId resolved
  resolved_leaves =
      record { text = text_in texts; var = λ x. x; fun = λ f. f; ty = sequence_of; kind = λ k. k; number = λ n. n; run = run_of; value = text_in texts }

  -- a resolved tree and a resolved query over the texts of a pool
  abbrev pub syn_resolved : ResolvedTree → Syn resolved
  syn_resolved = syn_of resolved_leaves AsResolved

  abbrev pub query_resolved : ResolvedQuery → Query resolved
  query_resolved = query_of resolved_leaves AsResolved

-- a tree and a query as they are read
abbrev pub syn_read : trees.Tree → Syn read
syn_read = syn_of read_leaves AsRead

abbrev pub query_read : trees.Query → Query read
query_read = query_of read_leaves AsRead
