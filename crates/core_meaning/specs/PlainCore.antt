-- The Core (Formal Semantics, section 2.2) as plain data over texts. Each node has its place in the query, as an offset in bytes.
use Rattle.std.specs.Prelude.{ℕ, Bool}
use Rattle.xq_base.specs.declared.axis.Axis.{Axis}
use Rattle.xq_base.specs.declared.code.Code.{Code}
use Rattle.xq_base.specs.declared.fun.AtomKind.{AtomKind}
use Rattle.xq_base.specs.declared.fun.Fun.{Fun}
use Rattle.xq_base.specs.Atoms.{Atom}
use Rattle.xq_base.specs.Texts.{Text}
use Rattle.doc_table.specs.Tree.{NodeKind}
use Rattle.doc_table.specs.Axes.{Test}
use Rattle.core_meaning.specs.declared.node.StepFrom.{StepFrom}
use Rattle.core_meaning.specs.Types.{SequenceTest}

mutual
  pub data PlainCore : Type 0 where
    Lit : ℕ → Atom → PlainCore
    Empty : ℕ → PlainCore
    Seq : ℕ → PlainCore → PlainCore → PlainCore
    Var : ℕ → ℕ → PlainCore
    Let : ℕ → ℕ → PlainCore → PlainCore → PlainCore
    For : ℕ → ℕ → ℕ → PlainCore → PlainCore → PlainCore
    Sorted : ℕ → Binds → Keys → PlainCore → PlainCore
    If : ℕ → PlainCore → PlainCore → PlainCore → PlainCore
    Call : ℕ → Fun → PlainCores → PlainCore
    Step : ℕ → StepFrom → Axis → Test Text → PlainCore → PlainCore
    -- a constructor's name, which only some of them have, and its content
    Build : ℕ → NodeKind → PlainCores → PlainCore → PlainCore
    Instance : ℕ → PlainCore → SequenceTest → PlainCore
    Treat : ℕ → PlainCore → SequenceTest → PlainCore
    Convert : ℕ → PlainCore → SequenceTest → PlainCore
    -- the flag says whether the empty sequence may be cast
    Cast : ℕ → PlainCore → AtomKind → Bool → PlainCore
    Castable : ℕ → PlainCore → AtomKind → Bool → PlainCore
    Fail : ℕ → Code → PlainCore

  pub data PlainCores : Type 0 where
    no_cores : PlainCores
    one_core : PlainCore → PlainCores → PlainCores

  -- the binds of a sorted loop in their order (XQuery 1.0, section 3.8)
  pub data PlainBind : Type 0 where
    for_bind : ℕ → ℕ → PlainCore → PlainBind
    let_bind : ℕ → PlainCore → PlainBind
    where_bind : PlainCore → PlainBind

  pub data Binds : Type 0 where
    no_binds : Binds
    one_bind : PlainBind → Binds → Binds

  -- its keys: whether downwards, and whether an absent value is the greatest (section 3.8.3)
  pub data PlainKey : Type 0 where
    key_by : PlainCore → Bool → Bool → PlainKey

  pub data Keys : Type 0 where
    no_keys : Keys
    one_key : PlainKey → Keys → Keys

-- the place of a node
abbrev pub offset_of : PlainCore → ℕ
offset_of (Lit o a) = o
offset_of (Empty o) = o
offset_of (Seq o a b) = o
offset_of (Var o x) = o
offset_of (Let o x a b) = o
offset_of (For o x p a b) = o
offset_of (Sorted o bs ks b) = o
offset_of (If o c a b) = o
offset_of (Call o f as') = o
offset_of (Step o from axis test a) = o
offset_of (Build o kind name a) = o
offset_of (Instance o a t) = o
offset_of (Treat o a t) = o
offset_of (Convert o a t) = o
offset_of (Cast o a kind optional) = o
offset_of (Castable o a kind optional) = o
offset_of (Fail o code) = o
