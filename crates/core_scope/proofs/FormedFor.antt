-- What a node of each form is to be, by what its pieces are to be.
use Rattle.std.proofs.Common.{◌≡◌, refl, sym, ap, ◌∙◌, ℕ, Bool, map, length, suc, List, [], ◌∷◌, Option, Some, None, option_map}
use Rattle.xq_base.specs.Texts.{Text}
use Rattle.xq_ast.specs.declared.leaf.Quantifier.{Quantifier}
use Rattle.xq_ast.specs.declared.leaf.BuildKind.{BuildKind}
use Rattle.xq_ast.specs.declared.leaf.ReadType.{ReadType}
use Rattle.xq_ast.specs.declared.node.AsRead.{AsRead}
use Rattle.xq_ast.specs.declared.node.Signed.{Signed}
use Rattle.xq_ast.specs.declared.node.Slashes.{Slashes}
use Rattle.xq_ast.specs.declared.node.Slashes.TheVariants as slashes_
use Rattle.xq_ast.specs.declared.node.Start.{Start}
use Rattle.xq_ast.specs.declared.node.Start.TheVariants as start_
use Rattle.xq_ast.specs.declared.node.StepKind.TheVariants as step_
use Rattle.xq_ast.specs.declared.node.Clause.TheVariants as clause_
use Rattle.xq_ast.specs.declared.node.BuildName.TheVariants as name_
use Rattle.xq_ast.specs.declared.node.ValuePart.TheVariants as value_
use Rattle.xq_ast.specs.declared.node.Part.TheVariants as part_
use Rattle.xq_ast.specs.declared.node.Node.TheVariants as n
use Rattle.xq_ast.specs.Trees.{Bytes, Name as Named, Variable, Tree, Right, Step, StepKind, Behind, Clause, ForBind, LetBind, QuantBind, Key, BuildName, Attribute, Part, ValuePart}
use Rattle.core_scope.specs.Syn.{Syn, Syns, Maybe, Binds, Keys, read, resolved, how_many}
use Rattle.core_scope.specs.Syn as s
use Rattle.core_scope.specs.Erasure.{syns_of, maybe_of, keys_of, to_left, with_signs}
use Rattle.core_scope.specs.Erasure as e
use Rattle.core_scope.specs.Leaves.{read_leaves, syn_read}
use Rattle.core_scope.specs.Literals.{integer_of, content_text, is_white_piece, value_text}
use Rattle.core_scope.specs.Names.{Scope, Signature, function_of, place_in, behind_for, behind_binds}
use Rattle.core_scope.specs.Resolving.{callee_or_first, kind_or_integer, resolved_type, resolved_types, resolved_position, with_piece, with_value, resolve, resolve_all, resolve_maybe, resolve_binds, resolve_keys, resolve_name, resolve_attributes, resolve_values, resolve_parts}
use Rattle.core_scope.specs.TypeNames.{atom_kind}
use Rattle.core_scope.specs.Open.{Open, entered_variable}
use Rattle.core_scope.specs.Telling.{entered_for, entered_fors, entered_lets, entered_quants, entered_clauses}
use Rattle.core_scope.specs.Matching.{node_for, maybe_for, right_for, head_for, step_for, behind_for as one_behind_for, variable_for, position_for, for_for, fors_for, let_for, lets_for, quant_for, quants_for, clause_for, clauses_for, key_for, name_for, values_for, attribute_for, parts_for}
use Rattle.core_scope.proofs.Nodes.{syn_comma, syn_flwor, syn_quantified, syn_if, syn_chain, syn_signed, syn_instance, syn_treat, syn_castable, syn_cast, syn_root, syn_path, syn_integer, syn_text, syn_var, syn_paren, syn_dot, syn_call, syn_build, syn_element, syn_comment, syn_instruction}
use Rattle.core_scope.proofs.Mapped.{mapped_rights, mapped_step, mapped_behinds, mapped_clauses, mapped_fors, mapped_lets, mapped_keys, mapped_quants, mapped_name, mapped_attributes, mapped_values, mapped_parts}
use Rattle.core_scope.proofs.Opening.{entered_for_scope, entered_clauses_scope, entered_quants_scope}
use Rattle.core_scope.proofs.FormedIn.{plain_leaves, clauses_syn, quants_syn, head_syn, step_syn, path_syn, attributes_syn}

how_many_law : (ts : List Tree) → how_many (syns_of (map syn_read ts)) ≡ length ts
how_many_law [] = refl
how_many_law (t ∷ ts) = ap suc (how_many_law ts)

type_law : (t : Option ReadType) → resolved_types (e.type_of read_leaves t) ≡ e.type_of plain_leaves (resolved_types t)
type_law None = refl
type_law (Some t) = refl

position_law : (v : Option Variable) → resolved_position (e.position_of read_leaves v) ≡ e.position_of plain_leaves (position_for v)
position_law None = refl
position_law (Some v) = refl

module _ (fs : List Signature) where
  -- the syntax of a node decides
  by_syn : (w : Open) (t : Tree) (x : Syn read) → syn_read t ≡ x → node_for fs w t ≡ resolve fs x w.scope
  unfolding node_for
  by_syn w t x p = ap (λ y. resolve fs y w.scope) p

  nodes_law : (ts : List Tree) (w : Open) → resolve_all fs (syns_of (map syn_read ts)) w.scope ≡ syns_of (map (node_for fs w) ts)
  unfolding resolve node_for
  nodes_law [] w = refl
  nodes_law (t ∷ ts) w = ap (s.one_more (node_for fs w t)) (nodes_law ts w)

  maybe_law : (t : Option Tree) (w : Open) → resolve_maybe fs (maybe_of (option_map syn_read t)) w.scope ≡ maybe_of (maybe_for fs w t)
  unfolding resolve node_for
  maybe_law None w = refl
  maybe_law (Some t) w = refl

  rights_law : (i : ℕ) (x : Syn read) (bs : List Right) (w : Open) → resolve fs (to_left i x (mapped_rights bs)) w.scope ≡ to_left i (resolve fs x w.scope) (map (right_for fs w) bs)
  unfolding resolve node_for
  rights_law i x [] w = refl
  rights_law i x (b ∷ bs) w = rights_law i (s.binary i b.operator x (syn_read b.operand)) bs w

  signs_law : (xs : List Signed) (x : Syn read) (w : Open) → resolve fs (with_signs xs x) w.scope ≡ with_signs xs (resolve fs x w.scope)
  unfolding resolve
  signs_law [] x w = refl
  signs_law (y ∷ ys) x w = ap (s.signed y.offset y.sign) (signs_law ys x w)

  -- paths
  kind_law : (o : ℕ) (x : StepKind) (ps : List Tree) (from' : Maybe read) (w : Open) →
      resolve fs (e.step_from read_leaves from' (mapped_step (record { offset = o; kind = x; predicates = ps }))) w.scope
      ≡ head_syn o (head_for fs w x) (syns_of (map (node_for fs w) ps)) (resolve_maybe fs from' w.scope)
  unfolding resolve node_for
  kind_law o (step_.Walk a t) ps from' w = ap (s.step o a (e.test_of (λ x. x) t) (resolve_maybe fs from' w.scope)) (nodes_law ps w)
  kind_law o (step_.Primary y) [] s.absent w = refl
  kind_law o (step_.Primary y) [] (s.present a) w = refl
  kind_law o (step_.Primary y) (p ∷ ps) s.absent w = ap (s.filtered o (node_for fs w y)) (nodes_law (p ∷ ps) w)
  kind_law o (step_.Primary y) (p ∷ ps) (s.present a) w =
      ap (λ qs. s.through o (resolve fs a w.scope) (s.filtered o (node_for fs w y) qs)) (nodes_law (p ∷ ps) w)

  behind_law : (x : Slashes) (a : Syn read) (w : Open) → resolve fs (e.behind_of x a) w.scope ≡ e.behind_of x (resolve fs a w.scope)
  unfolding resolve
  behind_law slashes_.One a w = refl
  behind_law (slashes_.Two o) a w = refl

  start_law : (x : Start) (w : Open) → resolve_maybe fs (e.start_of x) w.scope ≡ e.start_of x
  unfolding resolve
  start_law start_.Here w = refl
  start_law (start_.Root o) w = refl
  start_law (start_.Deep o) w = refl

  present_law : (a : Syn read) (w : Open) → resolve_maybe fs (s.present a) w.scope ≡ s.present (resolve fs a w.scope)
  unfolding resolve
  present_law a w = refl

  behinds_law : (a : Syn read) (bs : List Behind) (w : Open) →
      resolve fs (e.path_of read_leaves a (mapped_behinds bs)) w.scope ≡ path_syn (resolve fs a w.scope) (map (one_behind_for fs w) bs)
  behinds_law a [] w = refl
  behinds_law a (b ∷ bs) w =
      behinds_law (e.step_from read_leaves (s.present (e.behind_of b.slashes a)) (mapped_step b.step)) bs w
      ∙ ap (λ x. path_syn x (map (one_behind_for fs w) bs))
      (kind_law b.step.offset b.step.kind b.step.predicates (s.present (e.behind_of b.slashes a)) w
      ∙ ap (head_syn b.step.offset (head_for fs w b.step.kind) (syns_of (map (node_for fs w) b.step.predicates)))
      (present_law (e.behind_of b.slashes a) w ∙ ap (λ z. s.present z) (behind_law b.slashes a w)))

  -- binds
  fors_law : (bs : List ForBind) (rest : Binds read) (r : Binds resolved) (w : Open) → resolve_binds fs rest ((entered_fors bs w).scope) ≡ r →
      resolve_binds fs (e.for_binds_of read_leaves (mapped_fors bs) rest) w.scope ≡ e.for_binds_of plain_leaves (fors_for fs w bs) r
  unfolding resolve node_for
  fors_law [] rest r w p = p
  fors_law (b ∷ bs) rest r w p =
      let o : ℕ = b.var.offset in
      let more : Binds read = e.for_binds_of read_leaves (mapped_fors bs) rest in
      let behind : Scope = behind_for o b.var.name.text (e.position_of read_leaves b.at) w.scope in
      ap (λ t. s.for_bind o o t (resolved_position (e.position_of read_leaves b.at)) (node_for fs w b.source) (resolve_binds fs more behind)) (type_law b.ty)
      ∙ ap (λ v. s.for_bind o o (e.type_of plain_leaves (resolved_types b.ty)) v (node_for fs w b.source) (resolve_binds fs more behind)) (position_law b.at)
      ∙ ap (s.for_bind o o (e.type_of plain_leaves (resolved_types b.ty)) (e.position_of plain_leaves (position_for b.at)) (node_for fs w b.source))
      (ap (resolve_binds fs more) (sym (entered_for_scope b w)) ∙ fors_law bs rest r (entered_for b w) p)

  lets_law : (bs : List LetBind) (rest : Binds read) (r : Binds resolved) (w : Open) → resolve_binds fs rest ((entered_lets bs w).scope) ≡ r →
      resolve_binds fs (e.let_binds_of read_leaves (mapped_lets bs) rest) w.scope ≡ e.let_binds_of plain_leaves (lets_for fs w bs) r
  unfolding resolve node_for
  lets_law [] rest r w p = p
  lets_law (b ∷ bs) rest r w p =
      let o : ℕ = b.var.offset in
      let v : Open = entered_variable b.var w in
      ap (λ t. s.let_bind o o t (node_for fs w b.value) (resolve_binds fs (e.let_binds_of read_leaves (mapped_lets bs) rest) v.scope)) (type_law b.ty)
      ∙ ap (s.let_bind o o (e.type_of plain_leaves (resolved_types b.ty)) (node_for fs w b.value)) (lets_law bs rest r v p)

  quants_law : (bs : List QuantBind) (w : Open) → resolve_binds fs (e.quant_binds_of read_leaves (mapped_quants bs)) w.scope ≡ quants_syn (quants_for fs w bs)
  unfolding resolve node_for
  quants_law [] w = refl
  quants_law (b ∷ bs) w =
      let o : ℕ = b.var.offset in
      let v : Open = entered_variable b.var w in
      ap (λ t. s.for_bind o o t None (node_for fs w b.source) (resolve_binds fs (e.quant_binds_of read_leaves (mapped_quants bs)) v.scope)) (type_law b.ty)
      ∙ ap (s.for_bind o o (e.type_of plain_leaves (resolved_types b.ty)) None (node_for fs w b.source)) (quants_law bs v)

  clauses_law : (cs : List Clause) (w : Open) → resolve_binds fs (e.clauses_of read_leaves (mapped_clauses cs)) w.scope ≡ clauses_syn (clauses_for fs w cs)
  unfolding resolve
  clauses_law [] w = refl
  clauses_law (clause_.For bs ∷ cs) w =
      fors_law bs (e.clauses_of read_leaves (mapped_clauses cs)) (clauses_syn (clauses_for fs (entered_fors bs w) cs)) w (clauses_law cs (entered_fors bs w))
  clauses_law (clause_.Let bs ∷ cs) w =
      lets_law bs (e.clauses_of read_leaves (mapped_clauses cs)) (clauses_syn (clauses_for fs (entered_lets bs w) cs)) w (clauses_law cs (entered_lets bs w))

  keys_law : (ks : List Key) (w : Open) → resolve_keys fs (e.keys_of (mapped_keys ks)) w.scope ≡ keys_of (map (key_for fs w) ks)
  unfolding resolve node_for
  keys_law [] w = refl
  keys_law (k ∷ ks) w = ap (s.one_key (node_for fs w k.key) k.descending k.empty_greatest) (keys_law ks w)

  -- constructors
  name_law : (x : BuildName) (w : Open) → resolve_name fs (e.build_name_of read_leaves (mapped_name x)) w.scope ≡ name_for fs w x
  unfolding resolve node_for
  name_law name_.Absent w = refl
  name_law (name_.Named x) w = refl
  name_law (name_.Computed x) w = refl

  values_law : (vs : List ValuePart) (w : Open) → resolve_values fs (e.values_of read_leaves (mapped_values vs)) w.scope ≡ values_for fs w vs
  unfolding resolve node_for
  values_law [] w = refl
  values_law (value_.Run at x ∷ vs) w = ap (with_value (value_text x)) (values_law vs w)
  values_law (value_.Brace at y ∷ vs) w = ap (s.value_brace (node_for fs w y)) (values_law vs w)

  attributes_law : (as' : List Attribute) (w : Open) → resolve_attributes fs (e.attributes_of read_leaves (mapped_attributes as')) w.scope ≡ attributes_syn (map (attribute_for fs w) as')
  unfolding resolve
  attributes_law [] w = refl
  attributes_law (a ∷ as') w =
      ap (λ v. s.attribute a.name.offset a.name.text v (resolve_attributes fs (e.attributes_of read_leaves (mapped_attributes as')) w.scope)) (values_law a.value w)
      ∙ ap (s.attribute a.name.offset a.name.text (values_for fs w a.value)) (attributes_law as' w)

  parts_law : (ps : List Part) (w : Open) → resolve_parts fs (e.parts_of read_leaves (mapped_parts ps)) w.scope ≡ parts_for fs w ps
  unfolding resolve node_for
  parts_law [] w = refl
  parts_law (part_.Run at x ∷ ps) w = ap (with_piece (content_text x) (is_white_piece x)) (parts_law ps w)
  parts_law (part_.Brace at y ∷ ps) w = ap (s.brace (node_for fs w y)) (parts_law ps w)
  parts_law (part_.Inner y ∷ ps) w = ap (s.inner (node_for fs w y)) (parts_law ps w)

  -- each form
  pub for_comma : (w : Open) (i : ℕ) (a : Tree) (ts : List Tree) → node_for fs w (n.Comma i a ts) ≡ s.comma i (node_for fs w a) (syns_of (map (node_for fs w) ts))
  unfolding resolve node_for
  for_comma w i a ts = by_syn w (n.Comma i a ts) _ (syn_comma read_leaves AsRead i a ts) ∙ ap (s.comma i (node_for fs w a)) (nodes_law ts w)

  pub for_if : (w : Open) (i : ℕ) (a b d : Tree) → node_for fs w (n.If i a b d) ≡ s.conditional i (node_for fs w a) (node_for fs w b) (node_for fs w d)
  unfolding resolve node_for
  for_if w i a b d = by_syn w (n.If i a b d) _ (syn_if read_leaves AsRead i a b d)

  pub for_flwor : (w : Open) (i : ℕ) (cs : List Clause) (c : Option Tree) (ks : List Key) (x : Tree) →
      node_for fs w (n.Flwor i cs c ks x)
      ≡ s.flwor i (clauses_syn (clauses_for fs w cs)) (maybe_of (maybe_for fs (entered_clauses cs w) c)) (keys_of (map (key_for fs (entered_clauses cs w)) ks)) (node_for fs (entered_clauses cs w) x)
  unfolding resolve node_for
  for_flwor w i cs c ks x =
      let bs : Binds read = e.clauses_of read_leaves (mapped_clauses cs) in
      let v : Open = entered_clauses cs w in
      by_syn w (n.Flwor i cs c ks x) (s.flwor i bs (maybe_of (option_map syn_read c)) (e.keys_of (mapped_keys ks)) (syn_read x)) (syn_flwor read_leaves AsRead i cs c ks x)
      ∙ ap (λ sc. s.flwor i (resolve_binds fs bs w.scope) (resolve_maybe fs (maybe_of (option_map syn_read c)) sc) (resolve_keys fs (e.keys_of (mapped_keys ks)) sc) (resolve fs (syn_read x) sc)) (sym (entered_clauses_scope cs w))
      ∙ ap (λ b. s.flwor i b (resolve_maybe fs (maybe_of (option_map syn_read c)) v.scope) (resolve_keys fs (e.keys_of (mapped_keys ks)) v.scope) (resolve fs (syn_read x) v.scope)) (clauses_law cs w)
      ∙ ap (λ m. s.flwor i (clauses_syn (clauses_for fs w cs)) m (resolve_keys fs (e.keys_of (mapped_keys ks)) v.scope) (resolve fs (syn_read x) v.scope)) (maybe_law c v)
      ∙ ap (λ k. s.flwor i (clauses_syn (clauses_for fs w cs)) (maybe_of (maybe_for fs v c)) k (resolve fs (syn_read x) v.scope)) (keys_law ks v)

  pub for_quantified : (w : Open) (i : ℕ) (q : Quantifier) (bs : List QuantBind) (x : Tree) →
      node_for fs w (n.Quantified i q bs x) ≡ s.quantified i q (quants_syn (quants_for fs w bs)) (node_for fs (entered_quants bs w) x)
  unfolding resolve node_for
  for_quantified w i q bs x =
      by_syn w (n.Quantified i q bs x) (s.quantified i q (e.quant_binds_of read_leaves (mapped_quants bs)) (syn_read x)) (syn_quantified read_leaves AsRead i q bs x)
      ∙ ap (λ sc. s.quantified i q (resolve_binds fs (e.quant_binds_of read_leaves (mapped_quants bs)) w.scope) (resolve fs (syn_read x) sc)) (sym (entered_quants_scope bs w))
      ∙ ap (λ b. s.quantified i q b (node_for fs (entered_quants bs w) x)) (quants_law bs w)

  pub for_chain : (w : Open) (i : ℕ) (a : Tree) (bs : List Right) → node_for fs w (n.Chain i a bs) ≡ to_left i (node_for fs w a) (map (right_for fs w) bs)
  unfolding node_for
  for_chain w i a bs = by_syn w (n.Chain i a bs) (to_left i (syn_read a) (mapped_rights bs)) (syn_chain read_leaves AsRead i a bs) ∙ rights_law i (syn_read a) bs w

  pub for_signed : (w : Open) (i : ℕ) (xs : List Signed) (a : Tree) → node_for fs w (n.Signed i xs a) ≡ with_signs xs (node_for fs w a)
  unfolding node_for
  for_signed w i xs a = by_syn w (n.Signed i xs a) (with_signs xs (syn_read a)) (syn_signed read_leaves AsRead i xs a) ∙ signs_law xs (syn_read a) w

  pub for_instance : (w : Open) (i : ℕ) (a : Tree) (t : ReadType) → node_for fs w (n.Instance i a t) ≡ s.instance i (node_for fs w a) (resolved_type t)
  unfolding resolve node_for
  for_instance w i a t = by_syn w (n.Instance i a t) _ (syn_instance read_leaves AsRead i a t)

  pub for_treat : (w : Open) (i : ℕ) (a : Tree) (t : ReadType) → node_for fs w (n.Treat i a t) ≡ s.treat i (node_for fs w a) (resolved_type t)
  unfolding resolve node_for
  for_treat w i a t = by_syn w (n.Treat i a t) _ (syn_treat read_leaves AsRead i a t)

  pub for_castable : (w : Open) (i : ℕ) (a : Tree) (x : Named) (m : Bool) → node_for fs w (n.Castable i a x m) ≡ s.castable i (node_for fs w a) (kind_or_integer (atom_kind x.text)) m
  unfolding resolve node_for
  for_castable w i a x m = by_syn w (n.Castable i a x m) _ (syn_castable read_leaves AsRead i a x m)

  pub for_cast : (w : Open) (i : ℕ) (a : Tree) (x : Named) (m : Bool) → node_for fs w (n.Cast i a x m) ≡ s.cast i (node_for fs w a) (kind_or_integer (atom_kind x.text)) m
  unfolding resolve node_for
  for_cast w i a x m = by_syn w (n.Cast i a x m) _ (syn_cast read_leaves AsRead i a x m)

  pub for_root : (w : Open) (i : ℕ) → node_for fs w (n.Root i) ≡ s.root i
  unfolding resolve
  for_root w i = by_syn w (n.Root i) _ (syn_root read_leaves AsRead i)

  pub for_path : (w : Open) (x : Start) (y : Step) (bs : List Behind) → node_for fs w (n.Path x y bs) ≡ path_syn (step_syn (e.start_of x) (step_for fs w y)) (map (one_behind_for fs w) bs)
  for_path w x y bs =
      by_syn w (n.Path x y bs) (e.path_of read_leaves (e.step_from read_leaves (e.start_of x) (mapped_step y)) (mapped_behinds bs)) (syn_path read_leaves AsRead x y bs)
      ∙ behinds_law (e.step_from read_leaves (e.start_of x) (mapped_step y)) bs w
      ∙ ap (λ z. path_syn z (map (one_behind_for fs w) bs))
      (kind_law y.offset y.kind y.predicates (e.start_of x) w
      ∙ ap (head_syn y.offset (head_for fs w y.kind) (syns_of (map (node_for fs w) y.predicates))) (start_law x w))

  pub for_integer : (w : Open) (i : ℕ) (ds : Bytes) → node_for fs w (n.Integer i ds) ≡ s.integer i (integer_of ds)
  unfolding resolve
  for_integer w i ds = by_syn w (n.Integer i ds) _ (syn_integer read_leaves AsRead i ds)

  pub for_text : (w : Open) (i : ℕ) (x : Bytes) → node_for fs w (n.Text i x) ≡ s.text i x
  unfolding resolve
  for_text w i x = by_syn w (n.Text i x) _ (syn_text read_leaves AsRead i x)

  pub for_var : (w : Open) (i : ℕ) (x : Named) → node_for fs w (n.Var i x) ≡ s.var i (place_in (w.scope x.text))
  unfolding resolve
  for_var w i x = by_syn w (n.Var i x) _ (syn_var read_leaves AsRead i x)

  pub for_paren : (w : Open) (i : ℕ) (x : Option Tree) → node_for fs w (n.Paren i x) ≡ s.paren i (maybe_of (maybe_for fs w x))
  unfolding resolve
  for_paren w i x = by_syn w (n.Paren i x) _ (syn_paren read_leaves AsRead i x) ∙ ap (s.paren i) (maybe_law x w)

  pub for_dot : (w : Open) (i : ℕ) → node_for fs w (n.Dot i) ≡ s.dot i
  unfolding resolve
  for_dot w i = by_syn w (n.Dot i) _ (syn_dot read_leaves AsRead i)

  pub for_call : (w : Open) (i : ℕ) (f : Named) (ts : List Tree) → node_for fs w (n.Call i f ts) ≡ s.call i (callee_or_first (function_of fs f.text (length ts))) (syns_of (map (node_for fs w) ts))
  unfolding resolve
  for_call w i f ts =
      by_syn w (n.Call i f ts) (s.call i f.text (syns_of (map syn_read ts))) (syn_call read_leaves AsRead i f ts)
      ∙ ap (λ m. s.call i (callee_or_first (function_of fs f.text m)) (resolve_all fs (syns_of (map syn_read ts)) w.scope)) (how_many_law ts)
      ∙ ap (s.call i (callee_or_first (function_of fs f.text (length ts)))) (nodes_law ts w)

  pub for_build : (w : Open) (i : ℕ) (b : BuildKind) (x : BuildName) (y : Option Tree) → node_for fs w (n.Build i b x y) ≡ s.build i b (name_for fs w x) (maybe_of (maybe_for fs w y))
  unfolding resolve
  for_build w i b x y =
      by_syn w (n.Build i b x y) (s.build i b (e.build_name_of read_leaves (mapped_name x)) (maybe_of (option_map syn_read y))) (syn_build read_leaves AsRead i b x y)
      ∙ ap (λ z. s.build i b z (resolve_maybe fs (maybe_of (option_map syn_read y)) w.scope)) (name_law x w)
      ∙ ap (s.build i b (name_for fs w x)) (maybe_law y w)

  pub for_element : (w : Open) (i : ℕ) (x : Named) (as' : List Attribute) (ps : List Part) →
      node_for fs w (n.Element i x as' ps) ≡ s.element i x.text (attributes_syn (map (attribute_for fs w) as')) (parts_for fs w ps)
  unfolding resolve
  for_element w i x as' ps =
      by_syn w (n.Element i x as' ps) (s.element i x.text (e.attributes_of read_leaves (mapped_attributes as')) (e.parts_of read_leaves (mapped_parts ps))) (syn_element read_leaves AsRead i x as' ps)
      ∙ ap (λ a. s.element i x.text a (resolve_parts fs (e.parts_of read_leaves (mapped_parts ps)) w.scope)) (attributes_law as' w)
      ∙ ap (s.element i x.text (attributes_syn (map (attribute_for fs w) as'))) (parts_law ps w)

  pub for_comment : (w : Open) (i : ℕ) (x : Bytes) → node_for fs w (n.Comment i x) ≡ s.comment i x
  unfolding resolve
  for_comment w i x = by_syn w (n.Comment i x) _ (syn_comment read_leaves AsRead i x)

  pub for_instruction : (w : Open) (i : ℕ) (x : Named) (y : Bytes) → node_for fs w (n.Instruction i x y) ≡ s.instruction i x.text y
  unfolding resolve
  for_instruction w i x y = by_syn w (n.Instruction i x y) _ (syn_instruction read_leaves AsRead i x y)
