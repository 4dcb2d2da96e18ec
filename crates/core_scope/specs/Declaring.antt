-- The declarations of the code's resolved query over the texts of a pool, and what those of a query that is read are to be.
use Rattle.std.specs.Prelude.{ℕ, suc, List, [], ◌∷◌, map}
use Rattle.xq_base.specs.declared.item.TextId.{TextId}
use Rattle.xq_base.specs.Texts.{Text}
use Rattle.doc_table.specs.Tree.{text_in}
use Rattle.core_meaning.specs.Types.{SequenceTest}
use Rattle.xq_ast.specs.declared.leaf.SeqType.{SeqType}
use Rattle.xq_ast.specs.declared.query.Declaration.{Declaration as DeclarationOf}
use Rattle.xq_ast.specs.declared.query.Declaration.TheVariants as declaration_
use Rattle.xq_ast.specs.declared.query.Param.{Param as ParamOf}
use Rattle.xq_ast.specs.Trees.{Declaration, Param}
use Rattle.core_scope.specs.Syn.{Params, Declaration as SynDeclaration, resolved}
use Rattle.core_scope.specs.Syn as s
use Rattle.core_scope.specs.Leaves.{ResolvedTree}
use Rattle.core_scope.specs.Names.{Signature}
use Rattle.core_scope.specs.Resolving.{resolved_types}
use Rattle.core_scope.specs.Open.{Open, entered, global_at}
use Rattle.core_scope.specs.Gathering.{entered_params}
use Rattle.core_scope.specs.Matching.{node_in, types_in, node_for, variable_for}

-- parameters whose variables and types are resolved
abbrev pub SynParam : Type 0
SynParam = ParamOf ℕ SequenceTest

abbrev pub params_syn : List SynParam → Params resolved
params_syn [] = s.no_params
params_syn (x ∷ xs) = s.param x.var.offset x.var.name x.ty (params_syn xs)

-- over these texts
module _ (texts : List Text) where
  abbrev pub param_in : ParamOf ℕ SeqType → SynParam
  param_in x = record { var = x.var; ty = types_in texts x.ty }

  abbrev pub declaration_in : DeclarationOf TextId ℕ SeqType ResolvedTree → SynDeclaration resolved
  declaration_in (declaration_.Var at x t r) = s.variable at x.offset x.name (types_in texts t) (node_in texts r)
  declaration_in (declaration_.Fun at n xs t r) =
      s.function at n.offset (text_in texts n.text) (params_syn (map param_in xs)) (types_in texts t) (node_in texts r)

abbrev pub param_for : Param → SynParam
param_for x = record { var = variable_for x.var; ty = resolved_types x.ty }

-- the visible variables, and the number of the next variable of the prolog
pub record Place : Type 0 where
  pub open' : Open
  pub next : ℕ

-- behind a declaration, and behind some
abbrev pub behind_one : Declaration → Place → Place
behind_one (declaration_.Var at x t e) p = record { open' = entered x.name.text (global_at x.offset p.next) p.open'; next = suc p.next }
behind_one (declaration_.Fun at n xs t e) p = p

abbrev pub behind_all : List Declaration → Place → Place
behind_all [] p = p
behind_all (d ∷ ds) p = behind_all ds (behind_one d p)

-- the declared functions
module _ (fs : List Signature) where
  abbrev pub declaration_for : Open → Declaration → SynDeclaration resolved
  declaration_for w (declaration_.Var at x t e) = s.variable at x.offset x.offset (resolved_types t) (node_for fs w e)
  declaration_for w (declaration_.Fun at n xs t e) =
      s.function at n.offset n.text (params_syn (map param_for xs)) (resolved_types t) (node_for fs (entered_params xs w) e)

  abbrev pub declarations_for : Place → List Declaration → List (SynDeclaration resolved)
  declarations_for p [] = []
  declarations_for p (d ∷ ds) = declaration_for p.open' d ∷ declarations_for (behind_one d p) ds
