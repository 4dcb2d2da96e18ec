-- What is told of a node of each form, by its parts.
use Rattle.std.proofs.Common.{◌≡◌, refl, sym, ap, ◌∙◌, ℕ, Bool, true, false, cond, ◌||◌, map, length, suc, List, [], ◌∷◌, Option, Some, None, option_map}
use Rattle.xq_base.specs.declared.code.Code.TheVariants as code
use Rattle.xq_base.specs.Texts.{Text, text_eq}
use Rattle.doc_table.specs.Axes.{AnyNode}
use Rattle.xq_ast.specs.declared.leaf.Name.{Name}
use Rattle.xq_ast.specs.declared.leaf.Variable.{Variable}
use Rattle.xq_ast.specs.declared.leaf.ContentRun.{ContentRun}
use Rattle.xq_ast.specs.declared.leaf.ValueRun.{ValueRun}
use Rattle.xq_ast.specs.declared.leaf.ReadType.{ReadType}
use Rattle.xq_ast.specs.declared.leaf.Quantifier.{Quantifier}
use Rattle.xq_ast.specs.declared.leaf.BuildKind.{BuildKind}
use Rattle.xq_ast.specs.declared.node.Signed.{Signed}
use Rattle.xq_ast.specs.declared.node.AsRead.{AsRead}
use Rattle.xq_ast.specs.declared.node.Slashes.{Slashes}
use Rattle.xq_ast.specs.declared.node.Slashes.TheVariants as slashes_
use Rattle.xq_ast.specs.declared.node.StepKind.TheVariants as step_
use Rattle.xq_ast.specs.declared.node.Clause.TheVariants as clause_
use Rattle.xq_ast.specs.declared.node.BuildName.TheVariants as name_
use Rattle.xq_ast.specs.declared.node.ValuePart.TheVariants as value_
use Rattle.xq_ast.specs.declared.node.Part.TheVariants as part_
use Rattle.xq_ast.specs.declared.node.Start.{Start}
use Rattle.xq_ast.specs.declared.node.Start.TheVariants as start_
use Rattle.xq_ast.specs.declared.node.Node.TheVariants as n
use Rattle.core_scope.proofs.Nodes.{syn_comma, syn_flwor, syn_quantified, syn_if, syn_chain, syn_signed, syn_instance, syn_treat, syn_castable, syn_cast, syn_root, syn_path, syn_integer, syn_text, syn_var, syn_paren, syn_dot, syn_call, syn_build, syn_element, syn_comment, syn_instruction}
use Rattle.core_scope.proofs.Mapped.{mapped_rights, mapped_step, mapped_behinds, mapped_clauses, mapped_fors, mapped_lets, mapped_keys, mapped_quants, mapped_name, mapped_attributes, mapped_values, mapped_parts}
use Rattle.xq_ast.specs.Trees.{Bytes, Name as Named, Tree, Right, Step, StepKind, Behind, Clause, ForBind, LetBind, QuantBind, Key, BuildName, Attribute, Part, ValuePart}
use Rattle.core_scope.specs.declared.names.Visible.{Visible}
use Rattle.core_scope.specs.Syn.{Syn, Syns, Maybe, Binds, read, how_many}
use Rattle.core_scope.specs.Syn as s
use Rattle.core_scope.specs.Erasure as e
use Rattle.core_scope.specs.Erasure.{node_of, syns_of, maybe_of, to_left, with_signs}
use Rattle.core_scope.specs.Leaves.{read_leaves, syn_read}
use Rattle.core_scope.specs.Literals.{is_wide}
use Rattle.core_scope.specs.Names.{Scope, Signature, function_of, behind_for, behind_binds, with_name, is_among, is_there, no_names}
use Rattle.core_scope.specs.Walk.{Facts, nothing, ◌with◌, amiss_where, reference, call_facts, position_facts, type_facts, bind_type_facts, cast_facts, walk, walk_all, walk_maybe, walk_binds, walk_keys, walk_name, walk_attributes, walk_values, walk_parts}
use Rattle.core_scope.specs.Open.{Open, local_at, entered_variable, entered_maybe}
use Rattle.core_scope.specs.Kept.{Kept, after}
use Rattle.core_scope.specs.Telling.{entered_for, entered_fors, entered_lets, entered_quants, entered_clause, entered_clauses, told, told_all, told_maybe, told_rights, told_kind, told_step, told_behinds, told_for, told_fors, told_let, told_lets, told_quant, told_quants, told_clause, told_clauses, told_keys, told_behind, told_name, told_value, told_values, told_attribute, told_attributes, told_part, told_parts}
use Rattle.core_scope.proofs.Keeping.{after_with, after_nothing}
use Rattle.core_scope.proofs.Opening.{entered_for_scope, entered_clauses_scope, entered_quants_scope, left_clauses, left_quants}

pub seen_more : (before : List Text) (seen : Scope) (y : Text) (v : Visible) (x : Text) → is_among before x ≡ is_there (seen x) → is_among (y ∷ before) x ≡ is_there (with_name y (Some v) seen x)
seen_more before seen y v x same = at (text_eq y x) same
  where
    at : (b : Bool) → is_among before x ≡ is_there (seen x) → (b || is_among before x) ≡ is_there (cond b (Some v) (seen x))
    at true same = refl
    at false same = same

how_many_law : (ts : List Tree) → how_many (syns_of (map syn_read ts)) ≡ length ts
how_many_law [] = refl
how_many_law (t ∷ ts) = ap suc (how_many_law ts)

pub types_law : (t : Option ReadType) → e.type_of read_leaves t ≡ t
types_law None = refl
types_law (Some t) = refl

module _ (fs : List Signature) where
  -- what is told of an expression, and of several
  abbrev of_tree : Tree → Open → Facts
  of_tree t w = walk fs (syn_read t) w.scope

  abbrev of_trees : List Tree → Open → Facts
  of_trees ts w = walk_all fs (syns_of (map syn_read ts)) w.scope

  abbrev of_maybe : Option Tree → Open → Facts
  of_maybe t w = walk_maybe fs (maybe_of (option_map syn_read t)) w.scope

  -- the syntax of a node decides
  by_syn : (t : Tree) (w : Open) (k : Kept) (x : Syn read) → syn_read t ≡ x → told fs t w k ≡ after k (walk fs x w.scope)
  unfolding told
  by_syn t w k x p = ap (λ y. after k (walk fs y w.scope)) p

  pub back : (t : Tree) (w : Open) (k : Kept) → after k (of_tree t w) ≡ told fs t w k
  unfolding told
  back t w k = refl

  -- expressions, and one that may be there
  all_law : (ts : List Tree) (w : Open) (k : Kept) → after k (of_trees ts w) ≡ told_all fs ts w k
  unfolding walk
  all_law [] w k = after_nothing k
  all_law (t ∷ ts) w k = after_with k (of_tree t w) (of_trees ts w) ∙ all_law ts w (after k (of_tree t w)) ∙ ap (told_all fs ts w) (back t w k)

  maybe_law : (t : Option Tree) (w : Open) (k : Kept) → after k (of_maybe t w) ≡ told_maybe fs t w k
  unfolding walk
  maybe_law None w k = after_nothing k
  maybe_law (Some t) w k = back t w k

  -- operators
  rights_law : (o : ℕ) (a : Syn read) (bs : List Right) (w : Open) (k : Kept) → after k (walk fs (to_left o a (mapped_rights bs)) w.scope) ≡ told_rights fs bs w (after k (walk fs a w.scope))
  unfolding walk
  rights_law o a [] w k = refl
  rights_law o a (b ∷ bs) w k =
      rights_law o (s.binary o b.operator a (syn_read b.operand)) bs w k
      ∙ ap (told_rights fs bs w) (after_with k (walk fs a w.scope) (of_tree b.operand w) ∙ back b.operand w (after k (walk fs a w.scope)))

  signs_law : (xs : List Signed) (a : Syn read) (w : Open) (k : Kept) → after k (walk fs (with_signs xs a) w.scope) ≡ after k (walk fs a w.scope)
  unfolding walk
  signs_law [] a w k = refl
  signs_law (x ∷ xs) a w k = signs_law xs a w k

  -- paths
  kind_law : (o : ℕ) (x : StepKind) (ps : List Tree) (from' : Maybe read) (w : Open) (k : Kept) →
      after k (walk fs (e.step_from read_leaves from' (mapped_step (record { offset = o; kind = x; predicates = ps }))) w.scope)
      ≡ told_all fs ps w (told_kind fs x w (after k (walk_maybe fs from' w.scope)))
  unfolding walk
  kind_law o (step_.Walk axis x) ps from' w k =
      after_with k (walk_maybe fs from' w.scope) (of_trees ps w) ∙ all_law ps w (after k (walk_maybe fs from' w.scope))
  kind_law o (step_.Primary y) [] s.absent w k = back y w k ∙ ap (told fs y w) (sym (after_nothing k))
  kind_law o (step_.Primary y) (p ∷ ps) s.absent w k =
      after_with k (of_tree y w) (of_trees (p ∷ ps) w) ∙ all_law (p ∷ ps) w (after k (of_tree y w))
      ∙ ap (told_all fs (p ∷ ps) w) (back y w k ∙ ap (told fs y w) (sym (after_nothing k)))
  kind_law o (step_.Primary y) [] (s.present a) w k = after_with k (walk fs a w.scope) (of_tree y w) ∙ back y w (after k (walk fs a w.scope))
  kind_law o (step_.Primary y) (p ∷ ps) (s.present a) w k =
      after_with k (walk fs a w.scope) (of_tree y w with of_trees (p ∷ ps) w)
      ∙ after_with (after k (walk fs a w.scope)) (of_tree y w) (of_trees (p ∷ ps) w)
      ∙ all_law (p ∷ ps) w (after (after k (walk fs a w.scope)) (of_tree y w))
      ∙ ap (told_all fs (p ∷ ps) w) (back y w (after k (walk fs a w.scope)))

  behind_law : (x : Slashes) (a : Syn read) (w : Open) (k : Kept) → after k (walk fs (e.behind_of x a) w.scope) ≡ after k (walk fs a w.scope)
  unfolding walk
  behind_law slashes_.One a w k = refl
  behind_law (slashes_.Two o) a w k = after_with k (walk fs a w.scope) nothing ∙ after_nothing (after k (walk fs a w.scope))

  start_law : (x : Start) (w : Open) (k : Kept) → after k (walk_maybe fs (e.start_of x) w.scope) ≡ k
  unfolding walk
  start_law start_.Here w k = after_nothing k
  start_law (start_.Root o) w k = after_nothing k
  start_law (start_.Deep o) w k = after_nothing k

  behinds_law : (a : Syn read) (bs : List Behind) (w : Open) (k : Kept) →
      after k (walk fs (e.path_of read_leaves a (mapped_behinds bs)) w.scope) ≡ told_behinds fs bs w (after k (walk fs a w.scope))
  unfolding walk
  behinds_law a [] w k = refl
  behinds_law a (b ∷ bs) w k =
      behinds_law (e.step_from read_leaves (s.present (e.behind_of b.slashes a)) (mapped_step b.step)) bs w k
      ∙ ap (told_behinds fs bs w)
      (kind_law b.step.offset b.step.kind b.step.predicates (s.present (e.behind_of b.slashes a)) w k
      ∙ ap (told_step fs b.step w) (behind_law b.slashes a w k))

  -- binds
  bind_law : (k : Kept) (w : Open) (b : ForBind) (r : Facts) →
      after k (bind_type_facts (e.type_of read_leaves b.ty) with position_facts b.var.name.text (e.position_of read_leaves b.at) with of_tree b.source w with r)
      ≡ after (told_for fs b w k) r
  bind_law k w b r =
      ap (λ t. after k (bind_type_facts t with position_facts b.var.name.text (e.position_of read_leaves b.at) with of_tree b.source w with r)) (types_law b.ty)
      ∙ after_with k (bind_type_facts b.ty) (position_facts b.var.name.text (e.position_of read_leaves b.at) with of_tree b.source w with r)
      ∙ after_with (after k (bind_type_facts b.ty)) (position_facts b.var.name.text (e.position_of read_leaves b.at)) (of_tree b.source w with r)
      ∙ after_with (after (after k (bind_type_facts b.ty)) (position_facts b.var.name.text (e.position_of read_leaves b.at))) (of_tree b.source w) r
      ∙ ap (λ z. after z r) (back b.source w (after (after k (bind_type_facts b.ty)) (position_facts b.var.name.text (e.position_of read_leaves b.at))))

  plain_bind_law : (k : Kept) (w : Open) (ty : Option ReadType) (x : Tree) (r : Facts) →
      after k (bind_type_facts (e.type_of read_leaves ty) with of_tree x w with r) ≡ after (told fs x w (after k (bind_type_facts ty))) r
  plain_bind_law k w ty x r =
      ap (λ t. after k (bind_type_facts t with of_tree x w with r)) (types_law ty)
      ∙ after_with k (bind_type_facts ty) (of_tree x w with r)
      ∙ after_with (after k (bind_type_facts ty)) (of_tree x w) r
      ∙ ap (λ z. after z r) (back x w (after k (bind_type_facts ty)))

  fors_law : (bs : List ForBind) (rest : Binds read) (w : Open) (k : Kept) →
      after k (walk_binds fs (e.for_binds_of read_leaves (mapped_fors bs) rest) w.scope) ≡ after (told_fors fs bs w k) (walk_binds fs rest ((entered_fors bs w).scope))
  unfolding walk
  fors_law [] rest w k = refl
  fors_law (b ∷ bs) rest w k =
      bind_law k w b (walk_binds fs (e.for_binds_of read_leaves (mapped_fors bs) rest) (behind_for b.var.offset b.var.name.text (e.position_of read_leaves b.at) w.scope))
      ∙ ap (λ sc. after (told_for fs b w k) (walk_binds fs (e.for_binds_of read_leaves (mapped_fors bs) rest) sc)) (sym (entered_for_scope b w))
      ∙ fors_law bs rest (entered_for b w) (told_for fs b w k)

  lets_law : (bs : List LetBind) (rest : Binds read) (w : Open) (k : Kept) →
      after k (walk_binds fs (e.let_binds_of read_leaves (mapped_lets bs) rest) w.scope) ≡ after (told_lets fs bs w k) (walk_binds fs rest ((entered_lets bs w).scope))
  unfolding walk
  lets_law [] rest w k = refl
  lets_law (b ∷ bs) rest w k =
      plain_bind_law k w b.ty b.value (walk_binds fs (e.let_binds_of read_leaves (mapped_lets bs) rest) ((entered_variable b.var w).scope))
      ∙ lets_law bs rest (entered_variable b.var w) (told_let fs b w k)

  quants_law : (bs : List QuantBind) (w : Open) (k : Kept) →
      after k (walk_binds fs (e.quant_binds_of read_leaves (mapped_quants bs)) w.scope) ≡ told_quants fs bs w k
  unfolding walk
  quants_law [] w k = after_nothing k
  quants_law (b ∷ bs) w k =
      plain_bind_law k w b.ty b.source (walk_binds fs (e.quant_binds_of read_leaves (mapped_quants bs)) ((entered_variable b.var w).scope))
      ∙ quants_law bs (entered_variable b.var w) (told_quant fs b w k)

  clauses_law : (cs : List Clause) (w : Open) (k : Kept) →
      after k (walk_binds fs (e.clauses_of read_leaves (mapped_clauses cs)) w.scope) ≡ told_clauses fs cs w k
  unfolding walk
  clauses_law [] w k = after_nothing k
  clauses_law (clause_.For bs ∷ cs) w k =
      fors_law bs (e.clauses_of read_leaves (mapped_clauses cs)) w k ∙ clauses_law cs (entered_fors bs w) (told_fors fs bs w k)
  clauses_law (clause_.Let bs ∷ cs) w k =
      lets_law bs (e.clauses_of read_leaves (mapped_clauses cs)) w k ∙ clauses_law cs (entered_lets bs w) (told_lets fs bs w k)

  keys_law : (ks : List Key) (w : Open) (k : Kept) → after k (walk_keys fs (e.keys_of (mapped_keys ks)) w.scope) ≡ told_keys fs ks w k
  unfolding walk
  keys_law [] w k = after_nothing k
  keys_law (x ∷ xs) w k =
      after_with k (of_tree x.key w) (walk_keys fs (e.keys_of (mapped_keys xs)) w.scope) ∙ keys_law xs w (after k (of_tree x.key w)) ∙ ap (told_keys fs xs w) (back x.key w k)

  -- constructors
  name_law : (x : BuildName) (w : Open) (k : Kept) → after k (walk_name fs (e.build_name_of read_leaves (mapped_name x)) w.scope) ≡ told_name fs x w k
  unfolding walk
  name_law name_.Absent w k = after_nothing k
  name_law (name_.Named x) w k = after_nothing k
  name_law (name_.Computed y) w k = back y w k

  values_law : (vs : List ValuePart) (w : Open) (k : Kept) → after k (walk_values fs (e.values_of read_leaves (mapped_values vs)) w.scope) ≡ told_values fs vs w k
  unfolding walk
  values_law [] w k = after_nothing k
  values_law (value_.Run at x ∷ vs) w k = values_law vs w k
  values_law (value_.Brace at y ∷ vs) w k =
      after_with k (of_tree y w) (walk_values fs (e.values_of read_leaves (mapped_values vs)) w.scope) ∙ values_law vs w (after k (of_tree y w)) ∙ ap (told_values fs vs w) (back y w k)

  parts_law : (ps : List Part) (w : Open) (k : Kept) → after k (walk_parts fs (e.parts_of read_leaves (mapped_parts ps)) w.scope) ≡ told_parts fs ps w k
  unfolding walk
  parts_law [] w k = after_nothing k
  parts_law (part_.Run at r ∷ ps) w k = parts_law ps w k
  parts_law (part_.Brace at y ∷ ps) w k =
      after_with k (of_tree y w) (walk_parts fs (e.parts_of read_leaves (mapped_parts ps)) w.scope) ∙ parts_law ps w (after k (of_tree y w)) ∙ ap (told_parts fs ps w) (back y w k)
  parts_law (part_.Inner y ∷ ps) w k =
      after_with k (of_tree y w) (walk_parts fs (e.parts_of read_leaves (mapped_parts ps)) w.scope) ∙ parts_law ps w (after k (of_tree y w)) ∙ ap (told_parts fs ps w) (back y w k)

  abbrev seen_behind : Attribute → Scope → Scope
  seen_behind a seen = with_name a.name.text (Some (local_at a.name.offset)) seen

  attributes_law : (as' : List Attribute) (before : List Text) (seen : Scope) (w : Open) (k : Kept) → ((x : Text) → is_among before x ≡ is_there (seen x)) →
      after k (walk_attributes fs (e.attributes_of read_leaves (mapped_attributes as')) before w.scope) ≡ told_attributes fs as' seen w k
  unfolding walk
  attributes_law [] before seen w k same = after_nothing k
  attributes_law (a ∷ as') before seen w k same =
      let first : Facts = amiss_where (is_among before a.name.text) code.XQST0040 a.name.offset in
      let value : Facts = walk_values fs (e.values_of read_leaves (mapped_values a.value)) w.scope in
      let rest : Facts = walk_attributes fs (e.attributes_of read_leaves (mapped_attributes as')) (a.name.text ∷ before) w.scope in
      after_with k first (value with rest)
      ∙ after_with (after k first) value rest
      ∙ attributes_law as' (a.name.text ∷ before) (seen_behind a seen) w (after (after k first) value) (λ x. seen_more before seen a.name.text (local_at a.name.offset) x (same x))
      ∙ ap (told_attributes fs as' (seen_behind a seen) w) (values_law a.value w (after k first))
      ∙ ap (λ b. told_attributes fs as' (seen_behind a seen) w (told_values fs a.value w (after k (amiss_where b code.XQST0040 a.name.offset)))) (same a.name.text)

  -- what stands behind binds
  flwor_law : (bs : Binds read) (c : Option Tree) (ks : List Key) (x : Tree) (w v : Open) (k : Kept) → v.scope ≡ behind_binds bs w.scope →
      after k (walk_binds fs bs w.scope with walk_maybe fs (maybe_of (option_map syn_read c)) (behind_binds bs w.scope) with walk_keys fs (e.keys_of (mapped_keys ks)) (behind_binds bs w.scope) with walk fs (syn_read x) (behind_binds bs w.scope))
      ≡ told_behind fs c ks x v (after k (walk_binds fs bs w.scope))
  flwor_law bs c ks x w v k same =
      let first : Facts = walk_binds fs bs w.scope in
      let keys : Facts = walk_keys fs (e.keys_of (mapped_keys ks)) v.scope in
      ap (λ sc. after k (first with walk_maybe fs (maybe_of (option_map syn_read c)) sc with walk_keys fs (e.keys_of (mapped_keys ks)) sc with walk fs (syn_read x) sc)) (sym same)
      ∙ after_with k first (of_maybe c v with keys with of_tree x v)
      ∙ after_with (after k first) (of_maybe c v) (keys with of_tree x v)
      ∙ after_with (after (after k first) (of_maybe c v)) keys (of_tree x v)
      ∙ back x v (after (after (after k first) (of_maybe c v)) keys)
      ∙ ap (told fs x v) (keys_law ks v (after (after k first) (of_maybe c v)) ∙ ap (told_keys fs ks v) (maybe_law c v (after k first)))

  pub told_comma : (i : ℕ) (a : Tree) (bs : List Tree) (w : Open) (k : Kept) → told fs (n.Comma i a bs) w k ≡ told_all fs bs w (told fs a w k)
  unfolding walk
  told_comma i a bs w k =
      by_syn (n.Comma i a bs) w k (s.comma i (syn_read a) (syns_of (map syn_read bs))) (syn_comma read_leaves AsRead i a bs)
      ∙ after_with k (of_tree a w) (of_trees bs w) ∙ all_law bs w (after k (of_tree a w)) ∙ ap (told_all fs bs w) (back a w k)

  pub told_if : (i : ℕ) (a b d : Tree) (w : Open) (k : Kept) → told fs (n.If i a b d) w k ≡ told fs d w (told fs b w (told fs a w k))
  unfolding walk
  told_if i a b d w k =
      by_syn (n.If i a b d) w k (s.conditional i (syn_read a) (syn_read b) (syn_read d)) (syn_if read_leaves AsRead i a b d)
      ∙ after_with k (of_tree a w) (of_tree b w with of_tree d w) ∙ after_with (after k (of_tree a w)) (of_tree b w) (of_tree d w) ∙ back d w (after (after k (of_tree a w)) (of_tree b w))
      ∙ ap (told fs d w) (back b w (after k (of_tree a w)) ∙ ap (told fs b w) (back a w k))

  pub told_flwor : (i : ℕ) (cs : List Clause) (c : Option Tree) (ks : List Key) (x : Tree) (w : Open) (k : Kept) → told fs (n.Flwor i cs c ks x) w k ≡ told_behind fs c ks x (entered_clauses cs w) (told_clauses fs cs w k)
  unfolding walk
  told_flwor i cs c ks x w k =
      by_syn (n.Flwor i cs c ks x) w k (s.flwor i (e.clauses_of read_leaves (mapped_clauses cs)) (maybe_of (option_map syn_read c)) (e.keys_of (mapped_keys ks)) (syn_read x)) (syn_flwor read_leaves AsRead i cs c ks x)
      ∙ flwor_law (e.clauses_of read_leaves (mapped_clauses cs)) c ks x w (entered_clauses cs w) k (entered_clauses_scope cs w)
      ∙ ap (told_behind fs c ks x (entered_clauses cs w)) (clauses_law cs w k)

  pub told_quantified : (i : ℕ) (q : Quantifier) (bs : List QuantBind) (x : Tree) (w : Open) (k : Kept) → told fs (n.Quantified i q bs x) w k ≡ told fs x (entered_quants bs w) (told_quants fs bs w k)
  unfolding walk
  told_quantified i q bs x w k =
      by_syn (n.Quantified i q bs x) w k (s.quantified i q (e.quant_binds_of read_leaves (mapped_quants bs)) (syn_read x)) (syn_quantified read_leaves AsRead i q bs x)
      ∙ after_with k (walk_binds fs (e.quant_binds_of read_leaves (mapped_quants bs)) w.scope) (walk fs (syn_read x) (behind_binds (e.quant_binds_of read_leaves (mapped_quants bs)) w.scope))
      ∙ ap (λ sc. after (after k (walk_binds fs (e.quant_binds_of read_leaves (mapped_quants bs)) w.scope)) (walk fs (syn_read x) sc)) (sym (entered_quants_scope bs w))
      ∙ back x (entered_quants bs w) (after k (walk_binds fs (e.quant_binds_of read_leaves (mapped_quants bs)) w.scope))
      ∙ ap (told fs x (entered_quants bs w)) (quants_law bs w k)

  pub told_chain : (i : ℕ) (a : Tree) (bs : List Right) (w : Open) (k : Kept) → told fs (n.Chain i a bs) w k ≡ told_rights fs bs w (told fs a w k)
  unfolding walk
  told_chain i a bs w k =
      by_syn (n.Chain i a bs) w k (to_left i (syn_read a) (mapped_rights bs)) (syn_chain read_leaves AsRead i a bs)
      ∙ rights_law i (syn_read a) bs w k ∙ ap (told_rights fs bs w) (back a w k)

  pub told_signed : (i : ℕ) (xs : List Signed) (a : Tree) (w : Open) (k : Kept) → told fs (n.Signed i xs a) w k ≡ told fs a w k
  unfolding walk
  told_signed i xs a w k =
      by_syn (n.Signed i xs a) w k (with_signs xs (syn_read a)) (syn_signed read_leaves AsRead i xs a)
      ∙ signs_law xs (syn_read a) w k ∙ back a w k

  pub told_instance : (i : ℕ) (a : Tree) (t : ReadType) (w : Open) (k : Kept) → told fs (n.Instance i a t) w k ≡ after (told fs a w k) (type_facts t)
  unfolding walk
  told_instance i a t w k =
      by_syn (n.Instance i a t) w k (s.instance i (syn_read a) t) (syn_instance read_leaves AsRead i a t)
      ∙ after_with k (of_tree a w) (type_facts t) ∙ ap (λ z. after z (type_facts t)) (back a w k)

  pub told_treat : (i : ℕ) (a : Tree) (t : ReadType) (w : Open) (k : Kept) → told fs (n.Treat i a t) w k ≡ after (told fs a w k) (type_facts t)
  unfolding walk
  told_treat i a t w k =
      by_syn (n.Treat i a t) w k (s.treat i (syn_read a) t) (syn_treat read_leaves AsRead i a t)
      ∙ after_with k (of_tree a w) (type_facts t) ∙ ap (λ z. after z (type_facts t)) (back a w k)

  pub told_castable : (i : ℕ) (a : Tree) (x : Named) (m : Bool) (w : Open) (k : Kept) → told fs (n.Castable i a x m) w k ≡ after (told fs a w k) (cast_facts x)
  unfolding walk
  told_castable i a x m w k =
      by_syn (n.Castable i a x m) w k (s.castable i (syn_read a) x m) (syn_castable read_leaves AsRead i a x m)
      ∙ after_with k (of_tree a w) (cast_facts x) ∙ ap (λ z. after z (cast_facts x)) (back a w k)

  pub told_cast : (i : ℕ) (a : Tree) (x : Named) (m : Bool) (w : Open) (k : Kept) → told fs (n.Cast i a x m) w k ≡ after (told fs a w k) (cast_facts x)
  unfolding walk
  told_cast i a x m w k =
      by_syn (n.Cast i a x m) w k (s.cast i (syn_read a) x m) (syn_cast read_leaves AsRead i a x m)
      ∙ after_with k (of_tree a w) (cast_facts x) ∙ ap (λ z. after z (cast_facts x)) (back a w k)

  pub told_root : (i : ℕ) (w : Open) (k : Kept) → told fs (n.Root i) w k ≡ k
  unfolding walk
  told_root i w k =
      by_syn (n.Root i) w k (s.root i) (syn_root read_leaves AsRead i)
      ∙ after_nothing k

  pub told_path : (x : Start) (y : Step) (bs : List Behind) (w : Open) (k : Kept) → told fs (n.Path x y bs) w k ≡ told_behinds fs bs w (told_step fs y w k)
  unfolding walk
  told_path x y bs w k =
      by_syn (n.Path x y bs) w k (e.path_of read_leaves (e.step_from read_leaves (e.start_of x) (mapped_step y)) (mapped_behinds bs)) (syn_path read_leaves AsRead x y bs)
      ∙ behinds_law (e.step_from read_leaves (e.start_of x) (mapped_step y)) bs w k
      ∙ ap (told_behinds fs bs w) (kind_law y.offset y.kind y.predicates (e.start_of x) w k ∙ ap (told_step fs y w) (start_law x w k))

  pub told_integer : (i : ℕ) (ds : Bytes) (w : Open) (k : Kept) → told fs (n.Integer i ds) w k ≡ after k (amiss_where (is_wide ds) code.FOAR0002 i)
  unfolding walk
  told_integer i ds w k =
      by_syn (n.Integer i ds) w k (s.integer i ds) (syn_integer read_leaves AsRead i ds)
      ∙ refl

  pub told_text : (i : ℕ) (x : Bytes) (w : Open) (k : Kept) → told fs (n.Text i x) w k ≡ k
  unfolding walk
  told_text i x w k =
      by_syn (n.Text i x) w k (s.text i x) (syn_text read_leaves AsRead i x)
      ∙ after_nothing k

  pub told_var : (i : ℕ) (x : Named) (w : Open) (k : Kept) → told fs (n.Var i x) w k ≡ after k (reference (w.scope x.text) i)
  unfolding walk
  told_var i x w k =
      by_syn (n.Var i x) w k (s.var i x.text) (syn_var read_leaves AsRead i x)
      ∙ refl

  pub told_paren : (i : ℕ) (x : Option Tree) (w : Open) (k : Kept) → told fs (n.Paren i x) w k ≡ told_maybe fs x w k
  unfolding walk
  told_paren i x w k =
      by_syn (n.Paren i x) w k (s.paren i (maybe_of (option_map syn_read x))) (syn_paren read_leaves AsRead i x)
      ∙ maybe_law x w k

  pub told_dot : (i : ℕ) (w : Open) (k : Kept) → told fs (n.Dot i) w k ≡ k
  unfolding walk
  told_dot i w k =
      by_syn (n.Dot i) w k (s.dot i) (syn_dot read_leaves AsRead i)
      ∙ after_nothing k

  pub told_call : (i : ℕ) (f : Named) (ts : List Tree) (w : Open) (k : Kept) → told fs (n.Call i f ts) w k ≡ told_all fs ts w (after k (call_facts (function_of fs f.text (length ts)) i))
  unfolding walk
  told_call i f ts w k =
      by_syn (n.Call i f ts) w k (s.call i f.text (syns_of (map syn_read ts))) (syn_call read_leaves AsRead i f ts)
      ∙ after_with k (call_facts (function_of fs f.text (how_many (syns_of (map syn_read ts)))) i) (of_trees ts w)
      ∙ all_law ts w (after k (call_facts (function_of fs f.text (how_many (syns_of (map syn_read ts)))) i))
      ∙ ap (λ m. told_all fs ts w (after k (call_facts (function_of fs f.text m) i))) (how_many_law ts)

  pub told_build : (i : ℕ) (b : BuildKind) (x : BuildName) (y : Option Tree) (w : Open) (k : Kept) → told fs (n.Build i b x y) w k ≡ told_maybe fs y w (told_name fs x w k)
  unfolding walk
  told_build i b x y w k =
      by_syn (n.Build i b x y) w k (s.build i b (e.build_name_of read_leaves (mapped_name x)) (maybe_of (option_map syn_read y))) (syn_build read_leaves AsRead i b x y)
      ∙ after_with k (walk_name fs (e.build_name_of read_leaves (mapped_name x)) w.scope) (of_maybe y w)
      ∙ maybe_law y w (after k (walk_name fs (e.build_name_of read_leaves (mapped_name x)) w.scope)) ∙ ap (told_maybe fs y w) (name_law x w k)

  pub told_element : (i : ℕ) (x : Named) (as' : List Attribute) (ps : List Part) (w : Open) (k : Kept) → told fs (n.Element i x as' ps) w k ≡ told_parts fs ps w (told_attributes fs as' no_names w k)
  unfolding walk
  told_element i x as' ps w k =
      by_syn (n.Element i x as' ps) w k (s.element i x.text (e.attributes_of read_leaves (mapped_attributes as')) (e.parts_of read_leaves (mapped_parts ps))) (syn_element read_leaves AsRead i x as' ps)
      ∙ after_with k (walk_attributes fs (e.attributes_of read_leaves (mapped_attributes as')) [] w.scope) (walk_parts fs (e.parts_of read_leaves (mapped_parts ps)) w.scope)
      ∙ parts_law ps w (after k (walk_attributes fs (e.attributes_of read_leaves (mapped_attributes as')) [] w.scope))
      ∙ ap (told_parts fs ps w) (attributes_law as' [] no_names w k (λ y. refl))

  pub told_comment : (i : ℕ) (x : Bytes) (w : Open) (k : Kept) → told fs (n.Comment i x) w k ≡ k
  unfolding walk
  told_comment i x w k =
      by_syn (n.Comment i x) w k (s.comment i x) (syn_comment read_leaves AsRead i x)
      ∙ after_nothing k

  pub told_instruction : (i : ℕ) (x : Named) (y : Bytes) (w : Open) (k : Kept) → told fs (n.Instruction i x y) w k ≡ k
  unfolding walk
  told_instruction i x y w k =
      by_syn (n.Instruction i x y) w k (s.instruction i x.text y) (syn_instruction read_leaves AsRead i x y)
      ∙ after_nothing k

-- the laws of all forms
pub ruleset forms = (told_comma, told_if, told_flwor, told_quantified, told_chain, told_signed, told_instance, told_treat, told_castable, told_cast, told_root, told_path, told_integer, told_text, told_var, told_paren, told_dot, told_call, told_build, told_element, told_comment, told_instruction, left_clauses, left_quants)
