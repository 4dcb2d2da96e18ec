-- The resolved declarations and the resolved query are those of the definitions.
use Rattle.std.proofs.Common.{◌≡◌, refl, sym, ap, ◌∙◌, ℕ, suc, map, List, [], ◌∷◌, Option, Some, None}
use Rattle.xq_base.specs.declared.item.TextId.{TextId}
use Rattle.xq_base.specs.Texts.{Text}
use Rattle.doc_table.specs.OtherTexts.{Grows}
use Rattle.doc_table.specs.Tree.{text_in}
use Rattle.xq_ast.specs.declared.leaf.SeqType.{SeqType}
use Rattle.xq_ast.specs.declared.node.AsRead.{AsRead}
use Rattle.xq_ast.specs.declared.node.AsResolved.{AsResolved}
use Rattle.xq_ast.specs.declared.query.Declaration.{Declaration as DeclarationOf}
use Rattle.xq_ast.specs.declared.query.Declaration.TheVariants as declaration_
use Rattle.xq_ast.specs.declared.query.Param.{Param as ParamOf}
use Rattle.xq_ast.specs.declared.query.Version.{Version as VersionOf}
use Rattle.xq_ast.specs.Trees.{Tree, Declaration, Param, Query as ReadQuery}
use Rattle.core_scope.specs.Syn.{Syn, Params, Declaration as SynDeclaration, read, resolved}
use Rattle.core_scope.specs.Syn as s
use Rattle.core_scope.specs.Erasure as e
use Rattle.core_scope.specs.Leaves.{ResolvedTree, ResolvedQuery, read_leaves, resolved_leaves, syn_read, query_read, query_resolved, sequence_of}
use Rattle.core_scope.specs.Names.{Scope, Signature, no_names}
use Rattle.core_scope.specs.Resolving.{resolve, resolved_types}
use Rattle.core_scope.specs.Prolog.{signatures, with_params, resolved_params, resolved_declarations, behind_prolog, functions_of, resolved_query}
use Rattle.core_scope.specs.Open.{Open, none_open, entered_variable}
use Rattle.core_scope.specs.Standing.{Lasting}
use Rattle.core_scope.specs.Gathering.{entered_params, signature_at, signatures_at}
use Rattle.core_scope.specs.Matching.{NodeStands, node_in, types_in, node_for, variable_for}
use Rattle.core_scope.specs.Declaring.{SynParam, params_syn, param_in, declaration_in, param_for, Place, behind_one, behind_all, declaration_for, declarations_for}
use Rattle.core_scope.proofs.Growing.{grows_more}
use Rattle.core_scope.proofs.Passing.{signature_law, params_scope}
use Rattle.core_scope.proofs.Told.{types_law}

abbrev read_declaration : Declaration → SynDeclaration read
read_declaration = e.declaration_of read_leaves AsRead

module _ (u : List Text) where
  in_types : (t : Option SeqType) → e.type_of (resolved_leaves u) t ≡ types_in u t
  in_types None = refl
  in_types (Some t) = refl

  in_params : (xs : List (ParamOf ℕ SeqType)) → e.params_of (resolved_leaves u) AsResolved xs ≡ params_syn (map (param_in u) xs)
  in_params [] = refl
  in_params (x ∷ xs) =
      ap (λ t. s.param x.var.offset x.var.name t (e.params_of (resolved_leaves u) AsResolved xs)) (in_types x.ty)
      ∙ ap (s.param x.var.offset x.var.name (types_in u x.ty)) (in_params xs)

  in_declaration : (d : DeclarationOf TextId ℕ SeqType ResolvedTree) → e.declaration_of (resolved_leaves u) AsResolved d ≡ declaration_in u d
  unfolding node_in
  in_declaration (declaration_.Var at x t r) = ap (λ y. s.variable at x.offset x.name y (node_in u r)) (in_types t)
  in_declaration (declaration_.Fun at n xs t r) =
      ap (λ ps. s.function at n.offset (text_in u n.text) ps (e.type_of (resolved_leaves u) t) (node_in u r)) (in_params xs)
      ∙ ap (λ y. s.function at n.offset (text_in u n.text) (params_syn (map (param_in u) xs)) y (node_in u r)) (in_types t)

  in_declarations : (ds : List (DeclarationOf TextId ℕ SeqType ResolvedTree)) → map (e.declaration_of (resolved_leaves u) AsResolved) ds ≡ map (declaration_in u) ds
  in_declarations [] = refl
  in_declarations (d ∷ ds) =
      ap (λ x. x ∷ map (e.declaration_of (resolved_leaves u) AsResolved) ds) (in_declaration d) ∙ ap (λ xs. declaration_in u d ∷ xs) (in_declarations ds)

for_params : (fs : List Signature) (xs : List Param) → resolved_params fs (e.params_of read_leaves AsRead xs) ≡ params_syn (map param_for xs)
for_params fs [] = refl
for_params fs (x ∷ xs) =
    ap (λ t. s.param x.var.offset x.var.offset (resolved_types t) (resolved_params fs (e.params_of read_leaves AsRead xs))) (types_law x.ty)
    ∙ ap (s.param x.var.offset x.var.offset (resolved_types x.ty)) (for_params fs xs)

module _ (fs : List Signature) where
  for_declarations : (ds : List Declaration) (p : Place) → resolved_declarations fs (map read_declaration ds) p.next p.open'.scope ≡ declarations_for fs p ds
  unfolding node_for
  for_declarations [] p = refl
  for_declarations (declaration_.Var at x t y ∷ ds) p =
      let behind : Place = behind_one (declaration_.Var at x t y) p in
      ap (λ z. s.variable at x.offset x.offset (resolved_types z) (node_for fs p.open' y) ∷ resolved_declarations fs (map read_declaration ds) behind.next behind.open'.scope) (types_law t)
      ∙ ap (λ xs. s.variable at x.offset x.offset (resolved_types t) (node_for fs p.open' y) ∷ xs) (for_declarations ds behind)
  for_declarations (declaration_.Fun at n xs t y ∷ ds) p =
      let rest : List (SynDeclaration resolved) = resolved_declarations fs (map read_declaration ds) p.next p.open'.scope in
      ap (λ ps. s.function at n.offset n.text ps (resolved_types (e.type_of read_leaves t)) (resolve fs (syn_read y) (with_params (e.params_of read_leaves AsRead xs) p.open'.scope)) ∷ rest) (for_params fs xs)
      ∙ ap (λ z. s.function at n.offset n.text (params_syn (map param_for xs)) (resolved_types z) (resolve fs (syn_read y) (with_params (e.params_of read_leaves AsRead xs) p.open'.scope)) ∷ rest) (types_law t)
      ∙ ap (λ sc. s.function at n.offset n.text (params_syn (map param_for xs)) (resolved_types t) (resolve fs (syn_read y) sc) ∷ rest) (params_scope xs p.open')
      ∙ ap (λ ys. s.function at n.offset n.text (params_syn (map param_for xs)) (resolved_types t) (node_for fs (entered_params xs p.open') y) ∷ ys) (for_declarations ds p)

behind_law : (ds : List Declaration) (p : Place) → behind_prolog (map read_declaration ds) p.next p.open'.scope ≡ (behind_all ds p).open'.scope
behind_law [] p = refl
behind_law (declaration_.Var at x t y ∷ ds) p = behind_law ds (behind_one (declaration_.Var at x t y) p)
behind_law (declaration_.Fun at n xs t y ∷ ds) p = behind_law ds p

signatures_law : (ds : List Declaration) → signatures (map read_declaration ds) ≡ signatures_at ds
signatures_law [] = refl
signatures_law (declaration_.Var at x t y ∷ ds) = signatures_law ds
signatures_law (declaration_.Fun at n xs t y ∷ ds) =
    ap (λ z. z ∷ signatures (map read_declaration ds)) (signature_law n xs) ∙ ap (λ zs. signature_at n xs ∷ zs) (signatures_law ds)

abbrev pub first_place : Place
first_place = record { open' = none_open; next = 0 }

-- a resolved query whose pieces are those that they are to be
pub query_law : (u : List Text) (q : ReadQuery) (r : ResolvedQuery) (fs : List Signature) (w : Open) →
    fs ≡ signatures_at q.prolog.declarations → w ≡ (behind_all q.prolog.declarations first_place).open' →
    e.version_of (resolved_leaves u) AsResolved r.version ≡ e.version_of read_leaves AsRead q.version → r.prolog.setters ≡ q.prolog.setters →
    map (declaration_in u) r.prolog.declarations ≡ declarations_for fs first_place q.prolog.declarations → node_in u r.body ≡ node_for fs w q.body →
    query_resolved u r ≡ resolved_query (query_read q)
unfolding node_in node_for
query_law u q r fs w same open' v sets ds b =
    let read_ds : List (SynDeclaration read) = map read_declaration q.prolog.declarations in
    let gs : List Signature = signatures read_ds in
    let functions : fs ≡ gs = same ∙ sym (signatures_law q.prolog.declarations) in
    ap (λ x. record { version = x; setters = r.prolog.setters; declarations = map (e.declaration_of (resolved_leaves u) AsResolved) r.prolog.declarations; body = node_in u r.body }) v
    ∙ ap (λ x. record { version = e.version_of read_leaves AsRead q.version; setters = x; declarations = map (e.declaration_of (resolved_leaves u) AsResolved) r.prolog.declarations; body = node_in u r.body }) sets
    ∙ ap (λ x. record { version = e.version_of read_leaves AsRead q.version; setters = q.prolog.setters; declarations = x; body = node_in u r.body })
    (in_declarations u r.prolog.declarations ∙ ds ∙ sym (for_declarations fs q.prolog.declarations first_place) ∙ ap (λ z. resolved_declarations z read_ds 0 no_names) functions)
    ∙ ap (λ x. record { version = e.version_of read_leaves AsRead q.version; setters = q.prolog.setters; declarations = resolved_declarations gs read_ds 0 no_names; body = x })
    (b ∙ ap (λ z. node_for z w q.body) functions ∙ ap (λ z. node_for gs z q.body) open' ∙ ap (resolve gs (syn_read q.body)) (sym (behind_law q.prolog.declarations first_place)))

-- the same over each later pool, piece by piece
pub query_stands : (q : ReadQuery) (p p' p'' : List Text) (xs : List Declaration) (fs : List Signature) (w v : Open) (n : Option (VersionOf TextId)) (sets : List ℕ)
    (ds : List (DeclarationOf TextId ℕ SeqType ResolvedTree)) (b : ResolvedTree) →
    xs ≡ q.prolog.declarations → fs ≡ signatures_at xs → w ≡ none_open →
    Lasting p (λ later. e.version_of (resolved_leaves later) AsResolved n ≡ e.version_of read_leaves AsRead q.version) → sets ≡ q.prolog.setters → Grows p p' →
    Lasting p' (λ later. map (declaration_in later) ds ≡ declarations_for fs (record { open' = w; next = 0 }) xs) → v ≡ (behind_all xs (record { open' = w; next = 0 })).open' → Grows p' p'' →
    NodeStands fs v q.body p'' b →
    Lasting p'' (λ later. query_resolved later (record { version = n; prolog = record { setters = sets; declarations = ds }; body = b }) ≡ resolved_query (query_read q))
query_stands q p p' p'' xs fs w v n sets ds b same signed none f s' g h behind g' t = λ later k.
    query_law later q (record { version = n; prolog = record { setters = sets; declarations = ds }; body = b }) fs v
    (signed ∙ ap signatures_at same)
    (behind ∙ ap (λ z. (behind_all xs (record { open' = z; next = 0 })).open') none ∙ ap (λ z. (behind_all z first_place).open') same)
    (f later (grows_more p p' later g (grows_more p' p'' later g' k)))
    s'
    (h later (grows_more p' p'' later g' k) ∙ ap (λ z. declarations_for fs (record { open' = z; next = 0 }) xs) none ∙ ap (declarations_for fs first_place) same)
    (t later k)
