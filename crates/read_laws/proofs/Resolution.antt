-- Resolution leaves kinds, names and places as they are.
use Rattle.std.proofs.Common.{◌≡◌, refl, sym, ap, ◌∙◌, subst, ℕ, suc, Bool, List, [], ◌∷◌}
use Rattle.xq_base.specs.Texts.{Text}
use Rattle.xq_ast.specs.declared.leaf.BuildKind.{BuildKind}
use Rattle.xq_ast.specs.declared.leaf.BuildKind.TheVariants as build
use Rattle.core_meaning.specs.Lawful.{all_differ}
use Rattle.core_scope.specs.Syn.{Syn, Syns, Maybe, Binds, Keys, BuildName, Attributes, Values, Parts, Declaration, Query, read, resolved}
use Rattle.core_scope.specs.Syn as s
use Rattle.core_scope.specs.Names.{Scope, no_names, with_local, with_global, behind_for, behind_binds, Signature}
use Rattle.core_scope.specs.Literals.{content_text, is_white_piece, value_text}
use Rattle.core_scope.specs.Resolving.{with_piece, with_value, resolve, resolve_all, resolve_maybe, resolve_binds, resolve_keys, resolve_name, resolve_attributes, resolve_values, resolve_parts}
use Rattle.core_scope.specs.Prolog.{with_params, resolved_declarations, behind_prolog, functions_of, resolved_query}
use Rattle.core_scope.specs.Refusals.{accepted, Scopes}
use Rattle.core_normal.specs.Sound.{has_name, lacks_name, is_named, Built, BuiltAll, BuiltMaybe, BuiltBinds, BuiltKeys, BuiltName, BuiltAttributes, BuiltValues, BuiltParts, BuiltDeclarations, places, IsBuilt}

-- a piece before other parts, and before other runs of a value
piece_built : (x : Text) (w : Bool) (ps : Parts resolved) → BuiltParts ps → BuiltParts (with_piece x w ps)
unfolding Built
piece_built x w s.no_parts h = h
piece_built x w (s.run r ps) h = h
piece_built x w (s.brace e ps) h = h
piece_built x w (s.inner e ps) h = h

value_built : (x : Text) (vs : Values resolved) → BuiltValues vs → BuiltValues (with_value x vs)
unfolding Built
value_built x s.no_values h = h
value_built x (s.value_run y vs) h = h
value_built x (s.value_brace e vs) h = h

module _ (fs : List Signature) where
  has_kept : (n : BuildName read) (sc : Scope) → has_name (resolve_name fs n sc) ≡ has_name n
  unfolding resolve
  has_kept s.no_name sc = refl
  has_kept (s.named n) sc = refl
  has_kept (s.computed e) sc = refl

  lacks_kept : (n : BuildName read) (sc : Scope) → lacks_name (resolve_name fs n sc) ≡ lacks_name n
  unfolding resolve
  lacks_kept s.no_name sc = refl
  lacks_kept (s.named n) sc = refl
  lacks_kept (s.computed e) sc = refl

  named_kept : (kind : BuildKind) (n : BuildName read) (sc : Scope) → is_named kind (resolve_name fs n sc) ≡ is_named kind n
  named_kept build.Element n sc = has_kept n sc
  named_kept build.Attribute n sc = has_kept n sc
  named_kept build.Pi n sc = has_kept n sc
  named_kept build.Text n sc = lacks_kept n sc
  named_kept build.Comment n sc = lacks_kept n sc
  named_kept build.Document n sc = lacks_kept n sc

  mutual
    unfolding Built resolve

    pub expression_kept : (e : Syn read) (sc : Scope) → Built e → Built (resolve fs e sc)
    expression_kept (s.comma o a es) sc h = (expression_kept a sc h.0, all_kept es sc h.1)
    expression_kept (s.flwor o bs w ks e) sc h =
        (binds_kept bs sc h.0, maybe_kept w (behind_binds bs sc) h.1, keys_kept ks (behind_binds bs sc) h.2, expression_kept e (behind_binds bs sc) h.3)
    expression_kept (s.quantified o w bs e) sc h = (binds_kept bs sc h.0, expression_kept e (behind_binds bs sc) h.1)
    expression_kept (s.conditional o e a b) sc h = (expression_kept e sc h.0, expression_kept a sc h.1, expression_kept b sc h.2)
    expression_kept (s.binary o f a b) sc h = (expression_kept a sc h.0, expression_kept b sc h.1)
    expression_kept (s.signed o g a) sc h = expression_kept a sc h
    expression_kept (s.instance o a t) sc h = expression_kept a sc h
    expression_kept (s.treat o a t) sc h = expression_kept a sc h
    expression_kept (s.castable o a k m) sc h = expression_kept a sc h
    expression_kept (s.cast o a k m) sc h = expression_kept a sc h
    expression_kept (s.root o) sc h = tt
    expression_kept (s.step o x t a ps) sc h = (maybe_kept a sc h.0, all_kept ps sc h.1)
    expression_kept (s.through o a m) sc h = (expression_kept a sc h.0, expression_kept m sc h.1)
    expression_kept (s.filtered o a ps) sc h = (expression_kept a sc h.0, all_kept ps sc h.1)
    expression_kept (s.integer o n) sc h = tt
    expression_kept (s.text o t) sc h = tt
    expression_kept (s.var o v) sc h = tt
    expression_kept (s.paren o e) sc h = maybe_kept e sc h
    expression_kept (s.dot o) sc h = tt
    expression_kept (s.call o f es) sc h = all_kept es sc h
    expression_kept (s.build o k n e) sc h = (named_kept k n sc ∙ h.0, name_kept n sc h.1, maybe_kept e sc h.2)
    expression_kept (s.element o n as' ps) sc h = (attributes_kept as' sc h.0, parts_kept ps sc h.1)
    expression_kept (s.comment o t) sc h = tt
    expression_kept (s.instruction o n t) sc h = tt

    all_kept : (es : Syns read) (sc : Scope) → BuiltAll es → BuiltAll (resolve_all fs es sc)
    all_kept s.no_more sc h = tt
    all_kept (s.one_more e es) sc h = (expression_kept e sc h.0, all_kept es sc h.1)

    maybe_kept : (e : Maybe read) (sc : Scope) → BuiltMaybe e → BuiltMaybe (resolve_maybe fs e sc)
    maybe_kept s.absent sc h = tt
    maybe_kept (s.present e) sc h = expression_kept e sc h

    binds_kept : (bs : Binds read) (sc : Scope) → BuiltBinds bs → BuiltBinds (resolve_binds fs bs sc)
    binds_kept s.no_binds sc h = tt
    binds_kept (s.for_bind o x t at e bs) sc h = (expression_kept e sc h.0, binds_kept bs (behind_for o x at sc) h.1)
    binds_kept (s.let_bind o x t e bs) sc h = (expression_kept e sc h.0, binds_kept bs (with_local o x sc) h.1)

    keys_kept : (ks : Keys read) (sc : Scope) → BuiltKeys ks → BuiltKeys (resolve_keys fs ks sc)
    keys_kept s.no_keys sc h = tt
    keys_kept (s.one_key e d g ks) sc h = (expression_kept e sc h.0, keys_kept ks sc h.1)

    name_kept : (n : BuildName read) (sc : Scope) → BuiltName n → BuiltName (resolve_name fs n sc)
    name_kept s.no_name sc h = tt
    name_kept (s.named n) sc h = tt
    name_kept (s.computed e) sc h = expression_kept e sc h

    attributes_kept : (as' : Attributes read) (sc : Scope) → BuiltAttributes as' → BuiltAttributes (resolve_attributes fs as' sc)
    attributes_kept s.no_attributes sc h = tt
    attributes_kept (s.attribute o n vs as') sc h = (values_kept vs sc h.0, attributes_kept as' sc h.1)

    values_kept : (vs : Values read) (sc : Scope) → BuiltValues vs → BuiltValues (resolve_values fs vs sc)
    values_kept s.no_values sc h = tt
    values_kept (s.value_run w vs) sc h = value_built (value_text w) (resolve_values fs vs sc) (values_kept vs sc h)
    values_kept (s.value_brace e vs) sc h = (expression_kept e sc h.0, values_kept vs sc h.1)

    parts_kept : (ps : Parts read) (sc : Scope) → BuiltParts ps → BuiltParts (resolve_parts fs ps sc)
    parts_kept s.no_parts sc h = tt
    parts_kept (s.run r ps) sc h = piece_built (content_text r) (is_white_piece r) (resolve_parts fs ps sc) (parts_kept ps sc h)
    parts_kept (s.brace e ps) sc h = (expression_kept e sc h.0, parts_kept ps sc h.1)
    parts_kept (s.inner e ps) sc h = (expression_kept e sc h.0, parts_kept ps sc h.1)

  declarations_kept : (ds : List (Declaration read)) (j : ℕ) (sc : Scope) → BuiltDeclarations ds → BuiltDeclarations (resolved_declarations fs ds j sc)
  declarations_kept [] j sc h = tt
  declarations_kept (s.function o at n ps t e ∷ ds) j sc h = (expression_kept e (with_params ps sc) h.0, declarations_kept ds j sc h.1)
  declarations_kept (s.variable o at x t e ∷ ds) j sc h = (expression_kept e sc h.0, declarations_kept ds (suc j) (with_global at x j sc) h.1)

  places_kept : (ds : List (Declaration read)) (j : ℕ) (sc : Scope) → places (resolved_declarations fs ds j sc) ≡ places ds
  places_kept [] j sc = refl
  places_kept (s.function o at n ps t e ∷ ds) j sc = places_kept ds j sc
  places_kept (s.variable o at x t e ∷ ds) j sc = ap (λ xs. at ∷ xs) (places_kept ds (suc j) (with_global at x j sc))

query_kept : (q : Query read) → IsBuilt q → IsBuilt (resolved_query q)
query_kept q h =
    record {
      declarations = declarations_kept (functions_of q) q.declarations 0 no_names h.declarations;
      body = expression_kept (functions_of q) q.body (behind_prolog q.declarations 0 no_names) h.body;
      apart = ap all_differ (places_kept (functions_of q) q.declarations 0 no_names) ∙ h.apart;
    }

pub resolving_keeps_built : (q : Query read) (r : Query resolved) → Scopes q (accepted r) → IsBuilt q → IsBuilt r
resolving_keeps_built q r h built = subst (λ x. IsBuilt x) (sym h.1) (query_kept q built)
