-- What is told of the code's tree, piece by piece in the order in which the code walks it: each piece makes of what is kept
-- what is kept behind it. `told` says what this is in terms of `walk`; the others follow the lists of the tree.
use Rattle.std.specs.Prelude.{ℕ, List, [], ◌∷◌, Option, Some, None}
use Rattle.xq_base.specs.declared.code.Code.TheVariants as code
use Rattle.xq_base.specs.Texts.{Text}
use Rattle.xq_ast.specs.declared.node.StepKind.TheVariants as step_
use Rattle.xq_ast.specs.declared.node.Clause.TheVariants as clause_
use Rattle.xq_ast.specs.declared.node.BuildName.TheVariants as name_
use Rattle.xq_ast.specs.declared.node.ValuePart.TheVariants as value_
use Rattle.xq_ast.specs.declared.node.Part.TheVariants as part_
use Rattle.xq_ast.specs.Trees.{Tree, Right, Step, StepKind, Behind, Clause, ForBind, LetBind, QuantBind, Key, BuildName, Attribute, Part, ValuePart}
use Rattle.core_scope.specs.Erasure.{position_of}
use Rattle.core_scope.specs.Leaves.{read_leaves, syn_read}
use Rattle.core_scope.specs.Names.{Scope, Signature, with_name, is_there, no_names}
use Rattle.core_scope.specs.Walk.{amiss_where, position_facts, bind_type_facts, walk}
use Rattle.core_scope.specs.Open.{Open, local_at, entered_variable, entered_maybe}
use Rattle.core_scope.specs.Kept.{Kept, after}

-- the variables that binds make visible
abbrev pub entered_for : ForBind → Open → Open
entered_for b w = entered_variable b.var (entered_maybe b.at w)

abbrev pub entered_fors : List ForBind → Open → Open
entered_fors [] w = w
entered_fors (b ∷ bs) w = entered_fors bs (entered_for b w)

abbrev pub entered_lets : List LetBind → Open → Open
entered_lets [] w = w
entered_lets (b ∷ bs) w = entered_lets bs (entered_variable b.var w)

abbrev pub entered_quants : List QuantBind → Open → Open
entered_quants [] w = w
entered_quants (b ∷ bs) w = entered_quants bs (entered_variable b.var w)

abbrev pub entered_clause : Clause → Open → Open
entered_clause (clause_.For bs) w = entered_fors bs w
entered_clause (clause_.Let bs) w = entered_lets bs w

abbrev pub entered_clauses : List Clause → Open → Open
entered_clauses [] w = w
entered_clauses (c ∷ cs) w = entered_clauses cs (entered_clause c w)

-- the functions that are declared
module _ (fs : List Signature) where
  -- an expression
  unfoldable pub told : Tree → Open → Kept → Kept
  told t w k = after k (walk fs (syn_read t) w.scope)

  abbrev pub told_all : List Tree → Open → Kept → Kept
  told_all [] w k = k
  told_all (t ∷ ts) w k = told_all ts w (told t w k)

  abbrev pub told_maybe : Option Tree → Open → Kept → Kept
  told_maybe None w k = k
  told_maybe (Some t) w k = told t w k

  abbrev pub told_rights : List Right → Open → Kept → Kept
  told_rights [] w k = k
  told_rights (b ∷ bs) w k = told_rights bs w (told b.operand w k)

  abbrev pub told_kind : StepKind → Open → Kept → Kept
  told_kind (step_.Walk a x) w k = k
  told_kind (step_.Primary e) w k = told e w k

  abbrev pub told_step : Step → Open → Kept → Kept
  told_step s w k = told_all s.predicates w (told_kind s.kind w k)

  abbrev pub told_behinds : List Behind → Open → Kept → Kept
  told_behinds [] w k = k
  told_behinds (b ∷ bs) w k = told_behinds bs w (told_step b.step w k)

  abbrev pub told_for : ForBind → Open → Kept → Kept
  told_for b w k = told b.source w (after (after k (bind_type_facts b.ty)) (position_facts b.var.name.text (position_of read_leaves b.at)))

  abbrev pub told_fors : List ForBind → Open → Kept → Kept
  told_fors [] w k = k
  told_fors (b ∷ bs) w k = told_fors bs (entered_for b w) (told_for b w k)

  abbrev pub told_let : LetBind → Open → Kept → Kept
  told_let b w k = told b.value w (after k (bind_type_facts b.ty))

  abbrev pub told_lets : List LetBind → Open → Kept → Kept
  told_lets [] w k = k
  told_lets (b ∷ bs) w k = told_lets bs (entered_variable b.var w) (told_let b w k)

  abbrev pub told_quant : QuantBind → Open → Kept → Kept
  told_quant b w k = told b.source w (after k (bind_type_facts b.ty))

  abbrev pub told_quants : List QuantBind → Open → Kept → Kept
  told_quants [] w k = k
  told_quants (b ∷ bs) w k = told_quants bs (entered_variable b.var w) (told_quant b w k)

  abbrev pub told_clause : Clause → Open → Kept → Kept
  told_clause (clause_.For bs) w k = told_fors bs w k
  told_clause (clause_.Let bs) w k = told_lets bs w k

  abbrev pub told_clauses : List Clause → Open → Kept → Kept
  told_clauses [] w k = k
  told_clauses (c ∷ cs) w k = told_clauses cs (entered_clause c w) (told_clause c w k)

  abbrev pub told_keys : List Key → Open → Kept → Kept
  told_keys [] w k = k
  told_keys (x ∷ xs) w k = told_keys xs w (told x.key w k)

  -- what follows the clauses
  abbrev pub told_behind : Option Tree → List Key → Tree → Open → Kept → Kept
  told_behind c ks e w k = told e w (told_keys ks w (told_maybe c w k))

  abbrev pub told_name : BuildName → Open → Kept → Kept
  told_name name_.Absent w k = k
  told_name (name_.Named x) w k = k
  told_name (name_.Computed e) w k = told e w k

  abbrev pub told_value : ValuePart → Open → Kept → Kept
  told_value (value_.Run at x) w k = k
  told_value (value_.Brace at e) w k = told e w k

  abbrev pub told_values : List ValuePart → Open → Kept → Kept
  told_values [] w k = k
  told_values (v ∷ vs) w k = told_values vs w (told_value v w k)

  -- attributes behind others, whose names stand for the places of the latest
  abbrev pub told_attribute : Attribute → Scope → Open → Kept → Kept
  told_attribute a seen w k = told_values a.value w (after k (amiss_where (is_there (seen a.name.text)) code.XQST0040 a.name.offset))

  abbrev pub told_attributes : List Attribute → Scope → Open → Kept → Kept
  told_attributes [] seen w k = k
  told_attributes (a ∷ as') seen w k =
      told_attributes as' (with_name a.name.text (Some (local_at a.name.offset)) seen) w (told_attribute a seen w k)

  abbrev pub told_part : Part → Open → Kept → Kept
  told_part (part_.Run at r) w k = k
  told_part (part_.Brace at e) w k = told e w k
  told_part (part_.Inner e) w k = told e w k

  abbrev pub told_parts : List Part → Open → Kept → Kept
  told_parts [] w k = k
  told_parts (p ∷ ps) w k = told_parts ps w (told_part p w k)
