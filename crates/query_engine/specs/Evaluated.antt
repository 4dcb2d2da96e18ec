-- Which forms of the Core are evaluated (own rule): integers, sequences, bindings, and either sums or documents.
use Rattle.std.specs.Prelude.{◌≡◌, Bool, true, false, not, ◌&&◌, ◌||◌}
use Rattle.xq_base.specs.declared.fun.Fun.TheVariants as f
use Rattle.xq_base.specs.Atoms.{IntAtom, TextAtom}
use Rattle.doc_table.specs.OtherTexts.{Grows}
use Rattle.core_meaning.specs.declared.node.Core.{Core}
use Rattle.core_meaning.specs.Erasure.{Texts, core_of}
use Rattle.core_scope.specs.Leaves.{ResolvedQuery, query_resolved}
use Rattle.core_meaning.specs.PlainCore.{PlainCore, PlainCores, Lit, Empty, Seq, Var, Let, For, Call, no_cores, one_core}

abbrev pub is_text : PlainCore → Bool
is_text (Lit o (TextAtom t)) = true
is_text _ = false

-- one literal text
abbrev pub is_name : PlainCores → Bool
is_name no_cores = false
is_name (one_core a no_cores) = is_text a
is_name (one_core a (one_core b as')) = false

-- with sums and without documents, or the other way round
abbrev mutual
  pub has_forms : Bool → PlainCore → Bool
  has_forms sums (Lit o (IntAtom z)) = true
  has_forms sums (Empty o) = true
  has_forms sums (Seq o a b) = has_forms sums a && has_forms sums b
  has_forms sums (Var o x) = true
  has_forms sums (Let o x a b) = has_forms sums a && has_forms sums b
  has_forms sums (For o x p a b) = has_forms sums a && has_forms sums b
  has_forms sums (Call o f.Add as') = sums && two_forms sums as'
  has_forms sums (Call o f.Doc as') = not sums && is_name as'
  has_forms sums _ = false

  -- of two operands
  pub two_forms : Bool → PlainCores → Bool
  two_forms sums no_cores = false
  two_forms sums (one_core a no_cores) = false
  two_forms sums (one_core a (one_core b no_cores)) = has_forms sums a && has_forms sums b
  two_forms sums (one_core a (one_core b (one_core c as'))) = false

abbrev pub is_evaluated : PlainCore → Bool
is_evaluated core = has_forms true core || has_forms false core

-- the pool gave the numbers of a Core's texts: no pool that goes on after it reads the Core otherwise
abbrev pub IsFixed : Texts → Core → Type 0
IsFixed texts core = (later : Texts) → Grows texts later → core_of later core ≡ core_of texts core

-- the same of a query whose names are resolved
abbrev pub IsFixedQuery : Texts → ResolvedQuery → Type 0
IsFixedQuery texts query = (later : Texts) → Grows texts later → query_resolved later query ≡ query_resolved texts query

-- what evaluation asks of a Core
pub record CanEvaluate (texts : Texts) (core : Core) : Type 0 where
  pub forms : is_evaluated (core_of texts core) ≡ true
  pub fixed : IsFixed texts core

-- the same of a part of it, with sums or without
pub record Runs (sums : Bool) (texts : Texts) (core : Core) : Type 0 where
  pub forms : has_forms sums (core_of texts core) ≡ true
  pub fixed : IsFixed texts core
