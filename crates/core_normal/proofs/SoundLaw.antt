-- The resolved form of an expression of which nothing is refused is sound.
use Rattle.std.proofs.Common.{◌≡◌, refl, sym, ap, subst, ℕ, suc, Bool, true, false, cond, Option, Some, None, List, [], ◌∷◌, ◌++◌}
use Rattle.xq_base.specs.declared.code.Code.TheVariants as code
use Rattle.xq_base.specs.Texts.{Text, text_eq}
use Rattle.xq_ast.specs.declared.leaf.Callee.{Callee}
use Rattle.xq_ast.specs.declared.leaf.Callee.TheVariants as callee
use Rattle.core_scope.specs.declared.found.DeclaredCall.{DeclaredCall}
use Rattle.core_scope.specs.declared.names.Visible.{Visible}
use Rattle.core_scope.specs.Literals.{content_text, is_white_piece, value_text}
use Rattle.core_scope.specs.Names.{Scope, with_local, with_position, place_in, behind_for, behind_binds, Signature, function_of, is_among}
use Rattle.core_scope.specs.Resolving as r
use Rattle.core_scope.specs.Resolving.{callee_or_first, resolved_position, with_piece, with_value, resolve}
use Rattle.core_scope.specs.Syn.{Syn, Syns, Maybe, Binds, Keys, BuildName, Attributes, Values, Parts, read, resolved, how_many}
use Rattle.core_scope.specs.Syn as s
use Rattle.core_scope.specs.Walk as w
use Rattle.core_scope.specs.Walk.{Facts, ◌with◌, call_facts, reference, walk}
use Rattle.core_normal.specs.Sound.{In, at_vars, behind, SoundCall, Sound, SoundAll, SoundMaybe, SoundBinds, SoundKeys, SoundName, SoundAttributes, SoundValues, SoundParts, Built, BuiltAll, BuiltMaybe, BuiltBinds, BuiltKeys, BuiltName, BuiltAttributes, BuiltValues, BuiltParts}
use Rattle.core_normal.proofs.BuiltInCalls.{arity_of, known_can, declared_arity}
use Rattle.core_normal.proofs.Fitting.{here, later}
use Rattle.core_normal.proofs.Soundness as so

-- lists that are empty together
first_empty : {A : Type 0} (xs ys : List A) → xs ++ ys ≡ [] → xs ≡ []
first_empty [] ys e = refl
first_empty (x ∷ xs) ys e = cc

second_empty : {A : Type 0} (xs ys : List A) → xs ++ ys ≡ [] → ys ≡ []
second_empty [] ys e = e
second_empty (x ∷ xs) ys e = cc

no_cons : {A : Type 0} (x : A) (xs : List A) → x ∷ xs ≡ [] → ⊥
no_cons x xs e = cc

module _ (may refer : ℕ → Type 0) where
  abbrev pub AllCalls : List DeclaredCall → Type 0
  AllCalls [] = Unit {0}
  AllCalls (c ∷ cs) = may c.function × AllCalls cs

  abbrev pub AllRefers : List ℕ → Type 0
  AllRefers [] = Unit {0}
  AllRefers (j ∷ js) = refer j × AllRefers js

  -- nothing is refused, and what is called and referred to is allowed
  pub record Clean (f : Facts) : Type 0 where
    pub refusals : f.refusals ≡ []
    pub calls : AllCalls f.calls
    pub refers : AllRefers f.refers

  calls_left : (xs ys : List DeclaredCall) → AllCalls (xs ++ ys) → AllCalls xs
  calls_left [] ys h = tt
  calls_left (x ∷ xs) ys h = (h.0, calls_left xs ys h.1)

  calls_right : (xs ys : List DeclaredCall) → AllCalls (xs ++ ys) → AllCalls ys
  calls_right [] ys h = h
  calls_right (x ∷ xs) ys h = calls_right xs ys h.1

  refers_left : (xs ys : List ℕ) → AllRefers (xs ++ ys) → AllRefers xs
  refers_left [] ys h = tt
  refers_left (x ∷ xs) ys h = (h.0, refers_left xs ys h.1)

  refers_right : (xs ys : List ℕ) → AllRefers (xs ++ ys) → AllRefers ys
  refers_right [] ys h = h
  refers_right (x ∷ xs) ys h = refers_right xs ys h.1

  pub clean_left : (f g : Facts) → Clean (f with g) → Clean f
  clean_left f g h =
      record { refusals = first_empty f.refusals g.refusals h.refusals; calls = calls_left f.calls g.calls h.calls; refers = refers_left f.refers g.refers h.refers }

  pub clean_right : (f g : Facts) → Clean (f with g) → Clean g
  clean_right f g h =
      record { refusals = second_empty f.refusals g.refusals h.refusals; calls = calls_right f.calls g.calls h.calls; refers = refers_right f.refers g.refers h.refers }

  -- a visible variable is bound, if it may be referred to
  abbrev pub number_ok : Option ℕ → Type 0
  number_ok None = Unit {0}
  number_ok (Some j) = refer j

  abbrev pub visible_ok : List ℕ → Option Visible → Type 0
  visible_ok vs None = Unit {0}
  visible_ok vs (Some v) = number_ok v.number → In v.place vs

  abbrev pub ScopeOk : Scope → List ℕ → Type 0
  ScopeOk sc vs = (x : Text) → visible_ok vs (sc x)

  more_visible : (vs : List ℕ) (v : Option Visible) (o : ℕ) → visible_ok vs v → visible_ok (o ∷ vs) v
  more_visible vs None o h = tt
  more_visible vs (Some v) o h = λ k. later v.place o vs (h k)

  pub scope_local : (sc : Scope) (vs : List ℕ) (o : ℕ) (x : Text) → ScopeOk sc vs → ScopeOk (with_local o x sc) (o ∷ vs)
  scope_local sc vs o x h y = at (text_eq x y)
    where
      at : (b : Bool) → visible_ok (o ∷ vs) (cond b (Some (record { place = o; number = None })) (sc y))
      at true = λ k. here o vs
      at false = more_visible vs (sc y) o (h y)

  scope_position : (sc : Scope) (vs : List ℕ) (at : Option (ℕ × Text)) → ScopeOk sc vs → ScopeOk (with_position at sc) (at_vars (resolved_position at) vs)
  scope_position sc vs None h = h
  scope_position sc vs (Some v) h = scope_local sc vs v.0 v.1 h

  var_in : (vs : List ℕ) (v : Option Visible) (o : ℕ) → visible_ok vs v → Clean (reference v o) → In (place_in v) vs
  var_in vs None o h k = cc
  var_in vs (Some v) o h k = at v.number h k.refers
    where
      at : (i : Option ℕ) → (number_ok i → In v.place vs) → AllRefers ((w.refers_to i).refers) → In v.place vs
      at None g all = g tt
      at (Some j) g all = g all.0

  module _ (fs : List Signature) where
    call_sound : (g : Option Callee) (x : Text) (n o : ℕ) → function_of fs x n ≡ g → Clean (call_facts g o) → SoundCall may (arity_of fs) (callee_or_first g) n
    call_sound None x n o e k = absurd (no_cons _ _ k.refusals)
    call_sound (Some (callee.Known g)) x n o e k = known_can fs x n g e
    call_sound (Some (callee.Declared j)) x n o e k = (k.calls.0, declared_arity fs x n j e)

    scope_binds : (bs : Binds read) (sc : Scope) (vs : List ℕ) → ScopeOk sc vs → ScopeOk (behind_binds bs sc) (behind (r.resolve_binds fs bs sc) vs)
    unfolding resolve
    scope_binds s.no_binds sc vs h = h
    scope_binds (s.for_bind o x ty at e bs) sc vs h =
        scope_binds bs (behind_for o x at sc) (o ∷ at_vars (resolved_position at) vs)
        (scope_local (with_position at sc) (at_vars (resolved_position at) vs) o x (scope_position sc vs at h))
    scope_binds (s.let_bind o x ty e bs) sc vs h = scope_binds bs (with_local o x sc) (o ∷ vs) (scope_local sc vs o x h)

    how_many_same : (es : Syns read) (sc : Scope) → how_many (r.resolve_all fs es sc) ≡ how_many es
    unfolding resolve
    how_many_same s.no_more sc = refl
    how_many_same (s.one_more e es) sc = ap suc (how_many_same es sc)

    value_sound : (vs : List ℕ) (x : Text) (us : Values resolved) → SoundValues may (arity_of fs) vs us → SoundValues may (arity_of fs) vs (with_value x us)
    unfolding Sound
    value_sound vs x s.no_values h = h
    value_sound vs x (s.value_run y us) h = h
    value_sound vs x (s.value_brace e us) h = h

    piece_sound : (vs : List ℕ) (x : Text) (b : Bool) (ps : Parts resolved) → SoundParts may (arity_of fs) vs ps → SoundParts may (arity_of fs) vs (with_piece x b ps)
    unfolding Sound
    piece_sound vs x b s.no_parts h = h
    piece_sound vs x b (s.run t ps) h = h
    piece_sound vs x b (s.brace e ps) h = h
    piece_sound vs x b (s.inner e ps) h = h

    value_built : (x : Text) (us : Values resolved) → BuiltValues (with_value x us) → BuiltValues us
    unfolding Built
    value_built x s.no_values h = h
    value_built x (s.value_run y us) h = h
    value_built x (s.value_brace e us) h = h

    piece_built : (x : Text) (b : Bool) (ps : Parts resolved) → BuiltParts (with_piece x b ps) → BuiltParts ps
    unfolding Built
    piece_built x b s.no_parts h = h
    piece_built x b (s.run t ps) h = h
    piece_built x b (s.brace e ps) h = h
    piece_built x b (s.inner e ps) h = h

    -- what is told of the parts of an expression
    comma_clean : (o : _) (a : _) (es : _) (sc : Scope) → Clean (walk fs (s.comma o a es) sc) → Clean (walk fs a sc) × Clean (w.walk_all fs es sc)
    unfolding walk
    comma_clean o a es sc k = (clean_left (walk fs a sc) (w.walk_all fs es sc) k, clean_right (walk fs a sc) (w.walk_all fs es sc) k)

    flwor_clean : (o : _) (bs : _) (c : _) (ks : _) (e : _) (sc : Scope) → Clean (walk fs (s.flwor o bs c ks e) sc) → Clean (w.walk_binds fs bs sc) × Clean (w.walk_maybe fs c (behind_binds bs sc)) × Clean (w.walk_keys fs ks (behind_binds bs sc)) × Clean (walk fs e (behind_binds bs sc))
    unfolding walk
    flwor_clean o bs c ks e sc k = let k1 = clean_right (w.walk_binds fs bs sc) (w.walk_maybe fs c (behind_binds bs sc) with (w.walk_keys fs ks (behind_binds bs sc) with (walk fs e (behind_binds bs sc)))) k in let k2 = clean_right (w.walk_maybe fs c (behind_binds bs sc)) (w.walk_keys fs ks (behind_binds bs sc) with (walk fs e (behind_binds bs sc))) k1 in (clean_left (w.walk_binds fs bs sc) (w.walk_maybe fs c (behind_binds bs sc) with (w.walk_keys fs ks (behind_binds bs sc) with (walk fs e (behind_binds bs sc)))) k, clean_left (w.walk_maybe fs c (behind_binds bs sc)) (w.walk_keys fs ks (behind_binds bs sc) with (walk fs e (behind_binds bs sc))) k1, clean_left (w.walk_keys fs ks (behind_binds bs sc)) (walk fs e (behind_binds bs sc)) k2, clean_right (w.walk_keys fs ks (behind_binds bs sc)) (walk fs e (behind_binds bs sc)) k2)

    quantified_clean : (o : _) (q : _) (bs : _) (e : _) (sc : Scope) → Clean (walk fs (s.quantified o q bs e) sc) → Clean (w.walk_binds fs bs sc) × Clean (walk fs e (behind_binds bs sc))
    unfolding walk
    quantified_clean o q bs e sc k = (clean_left (w.walk_binds fs bs sc) (walk fs e (behind_binds bs sc)) k, clean_right (w.walk_binds fs bs sc) (walk fs e (behind_binds bs sc)) k)

    conditional_clean : (o : _) (e : _) (a : _) (d : _) (sc : Scope) → Clean (walk fs (s.conditional o e a d) sc) → Clean (walk fs e sc) × Clean (walk fs a sc) × Clean (walk fs d sc)
    unfolding walk
    conditional_clean o e a d sc k = let k1 = clean_right (walk fs e sc) (walk fs a sc with (walk fs d sc)) k in (clean_left (walk fs e sc) (walk fs a sc with (walk fs d sc)) k, clean_left (walk fs a sc) (walk fs d sc) k1, clean_right (walk fs a sc) (walk fs d sc) k1)

    binary_clean : (o : _) (f : _) (a : _) (d : _) (sc : Scope) → Clean (walk fs (s.binary o f a d) sc) → Clean (walk fs a sc) × Clean (walk fs d sc)
    unfolding walk
    binary_clean o f a d sc k = (clean_left (walk fs a sc) (walk fs d sc) k, clean_right (walk fs a sc) (walk fs d sc) k)

    signed_clean : (o : _) (g : _) (a : _) (sc : Scope) → Clean (walk fs (s.signed o g a) sc) → Clean (walk fs a sc)
    unfolding walk
    signed_clean o g a sc k = k

    instance_clean : (o : _) (a : _) (ty : _) (sc : Scope) → Clean (walk fs (s.instance o a ty) sc) → Clean (walk fs a sc)
    unfolding walk
    instance_clean o a ty sc k = clean_left (walk fs a sc) (w.type_facts ty) k

    treat_clean : (o : _) (a : _) (ty : _) (sc : Scope) → Clean (walk fs (s.treat o a ty) sc) → Clean (walk fs a sc)
    unfolding walk
    treat_clean o a ty sc k = clean_left (walk fs a sc) (w.type_facts ty) k

    castable_clean : (o : _) (a : _) (t : _) (m : _) (sc : Scope) → Clean (walk fs (s.castable o a t m) sc) → Clean (walk fs a sc)
    unfolding walk
    castable_clean o a t m sc k = clean_left (walk fs a sc) (w.cast_facts t) k

    cast_clean : (o : _) (a : _) (t : _) (m : _) (sc : Scope) → Clean (walk fs (s.cast o a t m) sc) → Clean (walk fs a sc)
    unfolding walk
    cast_clean o a t m sc k = clean_left (walk fs a sc) (w.cast_facts t) k

    step_clean : (o : _) (x : _) (t : _) (a : _) (qs : _) (sc : Scope) → Clean (walk fs (s.step o x t a qs) sc) → Clean (w.walk_maybe fs a sc) × Clean (w.walk_all fs qs sc)
    unfolding walk
    step_clean o x t a qs sc k = (clean_left (w.walk_maybe fs a sc) (w.walk_all fs qs sc) k, clean_right (w.walk_maybe fs a sc) (w.walk_all fs qs sc) k)

    through_clean : (o : _) (a : _) (d : _) (sc : Scope) → Clean (walk fs (s.through o a d) sc) → Clean (walk fs a sc) × Clean (walk fs d sc)
    unfolding walk
    through_clean o a d sc k = (clean_left (walk fs a sc) (walk fs d sc) k, clean_right (walk fs a sc) (walk fs d sc) k)

    filtered_clean : (o : _) (a : _) (qs : _) (sc : Scope) → Clean (walk fs (s.filtered o a qs) sc) → Clean (walk fs a sc) × Clean (w.walk_all fs qs sc)
    unfolding walk
    filtered_clean o a qs sc k = (clean_left (walk fs a sc) (w.walk_all fs qs sc) k, clean_right (walk fs a sc) (w.walk_all fs qs sc) k)

    var_clean : (o : _) (x : _) (sc : Scope) → Clean (walk fs (s.var o x) sc) → Clean (reference (sc x) o)
    unfolding walk
    var_clean o x sc k = k

    paren_clean : (o : _) (e : _) (sc : Scope) → Clean (walk fs (s.paren o e) sc) → Clean (w.walk_maybe fs e sc)
    unfolding walk
    paren_clean o e sc k = k

    call_clean : (o : _) (f : _) (es : _) (sc : Scope) → Clean (walk fs (s.call o f es) sc) → Clean (call_facts (function_of fs f (how_many es)) o) × Clean (w.walk_all fs es sc)
    unfolding walk
    call_clean o f es sc k = (clean_left (call_facts (function_of fs f (how_many es)) o) (w.walk_all fs es sc) k, clean_right (call_facts (function_of fs f (how_many es)) o) (w.walk_all fs es sc) k)

    build_clean : (o : _) (t : _) (i : _) (e : _) (sc : Scope) → Clean (walk fs (s.build o t i e) sc) → Clean (w.walk_name fs i sc) × Clean (w.walk_maybe fs e sc)
    unfolding walk
    build_clean o t i e sc k = (clean_left (w.walk_name fs i sc) (w.walk_maybe fs e sc) k, clean_right (w.walk_name fs i sc) (w.walk_maybe fs e sc) k)

    element_clean : (o : _) (i : _) (as' : _) (ps : _) (sc : Scope) → Clean (walk fs (s.element o i as' ps) sc) → Clean (w.walk_attributes fs as' [] sc) × Clean (w.walk_parts fs ps sc)
    unfolding walk
    element_clean o i as' ps sc k = (clean_left (w.walk_attributes fs as' [] sc) (w.walk_parts fs ps sc) k, clean_right (w.walk_attributes fs as' [] sc) (w.walk_parts fs ps sc) k)

    one_more_clean : (e : _) (es : _) (sc : Scope) → Clean (w.walk_all fs (s.one_more e es) sc) → Clean (walk fs e sc) × Clean (w.walk_all fs es sc)
    unfolding walk
    one_more_clean e es sc k = (clean_left (walk fs e sc) (w.walk_all fs es sc) k, clean_right (walk fs e sc) (w.walk_all fs es sc) k)

    present_clean : (e : _) (sc : Scope) → Clean (w.walk_maybe fs (s.present e) sc) → Clean (walk fs e sc)
    unfolding walk
    present_clean e sc k = k

    for_bind_clean : (o : _) (x : _) (ty : _) (at : _) (e : _) (bs : _) (sc : Scope) → Clean (w.walk_binds fs (s.for_bind o x ty at e bs) sc) → Clean (walk fs e sc) × Clean (w.walk_binds fs bs (behind_for o x at sc))
    unfolding walk
    for_bind_clean o x ty at e bs sc k = let k1 = clean_right (w.bind_type_facts ty) (w.position_facts x at with (walk fs e sc with (w.walk_binds fs bs (behind_for o x at sc)))) k in let k2 = clean_right (w.position_facts x at) (walk fs e sc with (w.walk_binds fs bs (behind_for o x at sc))) k1 in (clean_left (walk fs e sc) (w.walk_binds fs bs (behind_for o x at sc)) k2, clean_right (walk fs e sc) (w.walk_binds fs bs (behind_for o x at sc)) k2)

    let_bind_clean : (o : _) (x : _) (ty : _) (e : _) (bs : _) (sc : Scope) → Clean (w.walk_binds fs (s.let_bind o x ty e bs) sc) → Clean (walk fs e sc) × Clean (w.walk_binds fs bs (with_local o x sc))
    unfolding walk
    let_bind_clean o x ty e bs sc k = let k1 = clean_right (w.bind_type_facts ty) (walk fs e sc with (w.walk_binds fs bs (with_local o x sc))) k in (clean_left (walk fs e sc) (w.walk_binds fs bs (with_local o x sc)) k1, clean_right (walk fs e sc) (w.walk_binds fs bs (with_local o x sc)) k1)

    one_key_clean : (e : _) (d : _) (g : _) (ks : _) (sc : Scope) → Clean (w.walk_keys fs (s.one_key e d g ks) sc) → Clean (walk fs e sc) × Clean (w.walk_keys fs ks sc)
    unfolding walk
    one_key_clean e d g ks sc k = (clean_left (walk fs e sc) (w.walk_keys fs ks sc) k, clean_right (walk fs e sc) (w.walk_keys fs ks sc) k)

    computed_clean : (e : _) (sc : Scope) → Clean (w.walk_name fs (s.computed e) sc) → Clean (walk fs e sc)
    unfolding walk
    computed_clean e sc k = k

    attribute_clean : (o : _) (i : _) (us : _) (as' : _) (before : List Text) (sc : Scope) → Clean (w.walk_attributes fs (s.attribute o i us as') before sc) → Clean (w.walk_values fs us sc) × Clean (w.walk_attributes fs as' (i ∷ before) sc)
    unfolding walk
    attribute_clean o i us as' before sc k = let k1 = clean_right (w.amiss_where (is_among before i) code.XQST0040 o) (w.walk_values fs us sc with (w.walk_attributes fs as' (i ∷ before) sc)) k in (clean_left (w.walk_values fs us sc) (w.walk_attributes fs as' (i ∷ before) sc) k1, clean_right (w.walk_values fs us sc) (w.walk_attributes fs as' (i ∷ before) sc) k1)

    value_run_clean : (x : _) (us : _) (sc : Scope) → Clean (w.walk_values fs (s.value_run x us) sc) → Clean (w.walk_values fs us sc)
    unfolding walk
    value_run_clean x us sc k = k

    value_brace_clean : (e : _) (us : _) (sc : Scope) → Clean (w.walk_values fs (s.value_brace e us) sc) → Clean (walk fs e sc) × Clean (w.walk_values fs us sc)
    unfolding walk
    value_brace_clean e us sc k = (clean_left (walk fs e sc) (w.walk_values fs us sc) k, clean_right (walk fs e sc) (w.walk_values fs us sc) k)

    run_clean : (x : _) (ps : _) (sc : Scope) → Clean (w.walk_parts fs (s.run x ps) sc) → Clean (w.walk_parts fs ps sc)
    unfolding walk
    run_clean x ps sc k = k

    brace_clean : (e : _) (ps : _) (sc : Scope) → Clean (w.walk_parts fs (s.brace e ps) sc) → Clean (walk fs e sc) × Clean (w.walk_parts fs ps sc)
    unfolding walk
    brace_clean e ps sc k = (clean_left (walk fs e sc) (w.walk_parts fs ps sc) k, clean_right (walk fs e sc) (w.walk_parts fs ps sc) k)

    inner_clean : (e : _) (ps : _) (sc : Scope) → Clean (w.walk_parts fs (s.inner e ps) sc) → Clean (walk fs e sc) × Clean (w.walk_parts fs ps sc)
    unfolding walk
    inner_clean e ps sc k = (clean_left (walk fs e sc) (w.walk_parts fs ps sc) k, clean_right (walk fs e sc) (w.walk_parts fs ps sc) k)

    mutual
      unfolding resolve

      pub law : (e : Syn read) (sc : Scope) (vs : List ℕ) → ScopeOk sc vs → Built (resolve fs e sc) → Clean (walk fs e sc) → Sound may (arity_of fs) vs (resolve fs e sc)
      law (s.comma o a es) sc vs h b k =
          let b' = so.comma_built _ _ _ b in
          let k' = comma_clean o a es sc k in
          so.comma_sound may (arity_of fs) vs o _ _ (law a sc vs h b'.0 k'.0, law_all es sc vs h b'.1 k'.1)
      law (s.flwor o bs c ks e) sc vs h b k =
          let b' = so.flwor_built _ _ _ _ _ b in
          let k' = flwor_clean o bs c ks e sc k in
          let us = behind (r.resolve_binds fs bs sc) vs in
          let h' = scope_binds bs sc vs h in
          so.flwor_sound may (arity_of fs) vs o _ _ _ _
          (law_binds bs sc vs h b'.0 k'.0, law_maybe c (behind_binds bs sc) us h' b'.1 k'.1, law_keys ks (behind_binds bs sc) us h' b'.2 k'.2, law e (behind_binds bs sc) us h' b'.3 k'.3)
      law (s.quantified o q bs e) sc vs h b k =
          let b' = so.quantified_built _ _ _ _ b in
          let k' = quantified_clean o q bs e sc k in
          so.quantified_sound may (arity_of fs) vs o _ _ _
          (law_binds bs sc vs h b'.0 k'.0, law e (behind_binds bs sc) (behind (r.resolve_binds fs bs sc) vs) (scope_binds bs sc vs h) b'.1 k'.1)
      law (s.conditional o e a d) sc vs h b k =
          let b' = so.conditional_built _ _ _ _ b in
          let k' = conditional_clean o e a d sc k in
          so.conditional_sound may (arity_of fs) vs o _ _ _ (law e sc vs h b'.0 k'.0, law a sc vs h b'.1 k'.1, law d sc vs h b'.2 k'.2)
      law (s.binary o f a d) sc vs h b k =
          let b' = so.binary_built _ _ _ _ b in
          let k' = binary_clean o f a d sc k in
          so.binary_sound may (arity_of fs) vs o _ _ _ (law a sc vs h b'.0 k'.0, law d sc vs h b'.1 k'.1)
      law (s.signed o g a) sc vs h b k = so.signed_sound may (arity_of fs) vs o _ _ (law a sc vs h (so.signed_built _ _ _ b) (signed_clean o g a sc k))
      law (s.instance o a ty) sc vs h b k = so.instance_sound may (arity_of fs) vs o _ _ (law a sc vs h (so.instance_built _ _ _ b) (instance_clean o a ty sc k))
      law (s.treat o a ty) sc vs h b k = so.treat_sound may (arity_of fs) vs o _ _ (law a sc vs h (so.treat_built _ _ _ b) (treat_clean o a ty sc k))
      law (s.castable o a t m) sc vs h b k = so.castable_sound may (arity_of fs) vs o _ _ _ (law a sc vs h (so.castable_built _ _ _ _ b) (castable_clean o a t m sc k))
      law (s.cast o a t m) sc vs h b k = so.cast_sound may (arity_of fs) vs o _ _ _ (law a sc vs h (so.cast_built _ _ _ _ b) (cast_clean o a t m sc k))
      law (s.root o) sc vs h b k = so.root_sound may (arity_of fs) vs o
      law (s.step o x t a qs) sc vs h b k =
          let b' = so.step_built _ _ _ _ _ b in
          let k' = step_clean o x t a qs sc k in
          so.step_sound may (arity_of fs) vs o _ _ _ _ (law_maybe a sc vs h b'.0 k'.0, law_all qs sc vs h b'.1 k'.1)
      law (s.through o a d) sc vs h b k =
          let b' = so.through_built _ _ _ b in
          let k' = through_clean o a d sc k in
          so.through_sound may (arity_of fs) vs o _ _ (law a sc vs h b'.0 k'.0, law d sc vs h b'.1 k'.1)
      law (s.filtered o a qs) sc vs h b k =
          let b' = so.filtered_built _ _ _ b in
          let k' = filtered_clean o a qs sc k in
          so.filtered_sound may (arity_of fs) vs o _ _ (law a sc vs h b'.0 k'.0, law_all qs sc vs h b'.1 k'.1)
      law (s.integer o i) sc vs h b k = so.integer_sound may (arity_of fs) vs o _
      law (s.text o x) sc vs h b k = so.text_sound may (arity_of fs) vs o _
      law (s.var o x) sc vs h b k = so.var_sound may (arity_of fs) vs o _ (var_in vs (sc x) o (h x) (var_clean o x sc k))
      law (s.paren o e) sc vs h b k = so.paren_sound may (arity_of fs) vs o _ (law_maybe e sc vs h (so.paren_built _ _ b) (paren_clean o e sc k))
      law (s.dot o) sc vs h b k = so.dot_sound may (arity_of fs) vs o
      law (s.call o f es) sc vs h b k =
          let k' = call_clean o f es sc k in
          so.call_sound may (arity_of fs) vs o _ _ (
            subst (λ i. SoundCall may (arity_of fs) (callee_or_first (function_of fs f (how_many es))) i) (sym (how_many_same es sc))
                (call_sound (function_of fs f (how_many es)) f (how_many es) o refl k'.0),
            law_all es sc vs h (so.call_built _ _ _ b) k'.1,
          )
      law (s.build o t i e) sc vs h b k =
          let b' = so.build_built _ _ _ _ b in
          let k' = build_clean o t i e sc k in
          so.build_sound may (arity_of fs) vs o _ _ _ (b'.0, law_name i sc vs h b'.1 k'.0, law_maybe e sc vs h b'.2 k'.1)
      law (s.element o i as' ps) sc vs h b k =
          let b' = so.element_built _ _ _ _ b in
          let k' = element_clean o i as' ps sc k in
          so.element_sound may (arity_of fs) vs o _ _ _ (law_attributes as' [] sc vs h b'.0 k'.0, law_parts ps sc vs h b'.1 k'.1)
      law (s.comment o x) sc vs h b k = so.comment_sound may (arity_of fs) vs o _
      law (s.instruction o i x) sc vs h b k = so.instruction_sound may (arity_of fs) vs o _ _

      law_all : (es : Syns read) (sc : Scope) (vs : List ℕ) → ScopeOk sc vs → BuiltAll (r.resolve_all fs es sc) → Clean (w.walk_all fs es sc) → SoundAll may (arity_of fs) vs (r.resolve_all fs es sc)
      law_all s.no_more sc vs h b k = so.no_more_sound may (arity_of fs) vs
      law_all (s.one_more e es) sc vs h b k =
          let b' = so.one_more_built _ _ b in
          let k' = one_more_clean e es sc k in
          so.one_more_sound may (arity_of fs) vs _ _ (law e sc vs h b'.0 k'.0, law_all es sc vs h b'.1 k'.1)

      law_maybe : (e : Maybe read) (sc : Scope) (vs : List ℕ) → ScopeOk sc vs → BuiltMaybe (r.resolve_maybe fs e sc) → Clean (w.walk_maybe fs e sc) → SoundMaybe may (arity_of fs) vs (r.resolve_maybe fs e sc)
      law_maybe s.absent sc vs h b k = so.absent_sound may (arity_of fs) vs
      law_maybe (s.present e) sc vs h b k = so.present_sound may (arity_of fs) vs _ (law e sc vs h (so.present_built _ b) (present_clean e sc k))

      law_binds : (bs : Binds read) (sc : Scope) (vs : List ℕ) → ScopeOk sc vs → BuiltBinds (r.resolve_binds fs bs sc) → Clean (w.walk_binds fs bs sc) → SoundBinds may (arity_of fs) vs (r.resolve_binds fs bs sc)
      law_binds s.no_binds sc vs h b k = so.no_binds_sound may (arity_of fs) vs
      law_binds (s.for_bind o x ty at e bs) sc vs h b k =
          let b' = so.for_bind_built _ _ _ _ _ _ b in
          let k' = for_bind_clean o x ty at e bs sc k in
          so.for_bind_sound may (arity_of fs) vs o _ _ _ _ _ (
            law e sc vs h b'.0 k'.0,
            law_binds bs (behind_for o x at sc) (o ∷ at_vars (resolved_position at) vs)
                (scope_local (with_position at sc) (at_vars (resolved_position at) vs) o x (scope_position sc vs at h)) b'.1 k'.1,
          )
      law_binds (s.let_bind o x ty e bs) sc vs h b k =
          let b' = so.let_bind_built _ _ _ _ _ b in
          let k' = let_bind_clean o x ty e bs sc k in
          so.let_bind_sound may (arity_of fs) vs o _ _ _ _
          (law e sc vs h b'.0 k'.0, law_binds bs (with_local o x sc) (o ∷ vs) (scope_local sc vs o x h) b'.1 k'.1)

      law_keys : (ks : Keys read) (sc : Scope) (vs : List ℕ) → ScopeOk sc vs → BuiltKeys (r.resolve_keys fs ks sc) → Clean (w.walk_keys fs ks sc) → SoundKeys may (arity_of fs) vs (r.resolve_keys fs ks sc)
      law_keys s.no_keys sc vs h b k = so.no_keys_sound may (arity_of fs) vs
      law_keys (s.one_key e d g ks) sc vs h b k =
          let b' = so.one_key_built _ _ _ _ b in
          let k' = one_key_clean e d g ks sc k in
          so.one_key_sound may (arity_of fs) vs _ _ _ _ (law e sc vs h b'.0 k'.0, law_keys ks sc vs h b'.1 k'.1)

      law_name : (i : BuildName read) (sc : Scope) (vs : List ℕ) → ScopeOk sc vs → BuiltName (r.resolve_name fs i sc) → Clean (w.walk_name fs i sc) → SoundName may (arity_of fs) vs (r.resolve_name fs i sc)
      law_name s.no_name sc vs h b k = so.no_name_sound may (arity_of fs) vs
      law_name (s.named i) sc vs h b k = so.named_sound may (arity_of fs) vs _
      law_name (s.computed e) sc vs h b k = so.computed_sound may (arity_of fs) vs _ (law e sc vs h (so.computed_built _ b) (computed_clean e sc k))

      law_attributes : (as' : Attributes read) (before : List Text) (sc : Scope) (vs : List ℕ) → ScopeOk sc vs → BuiltAttributes (r.resolve_attributes fs as' sc) →
          Clean (w.walk_attributes fs as' before sc) → SoundAttributes may (arity_of fs) vs (r.resolve_attributes fs as' sc)
      law_attributes s.no_attributes before sc vs h b k = so.no_attributes_sound may (arity_of fs) vs
      law_attributes (s.attribute o i us as') before sc vs h b k =
          let b' = so.attribute_built _ _ _ _ b in
          let k' = attribute_clean o i us as' before sc k in
          so.attribute_sound may (arity_of fs) vs o _ _ _ (law_values us sc vs h b'.0 k'.0, law_attributes as' (i ∷ before) sc vs h b'.1 k'.1)

      law_values : (us : Values read) (sc : Scope) (vs : List ℕ) → ScopeOk sc vs → BuiltValues (r.resolve_values fs us sc) → Clean (w.walk_values fs us sc) → SoundValues may (arity_of fs) vs (r.resolve_values fs us sc)
      law_values s.no_values sc vs h b k = so.no_values_sound may (arity_of fs) vs
      law_values (s.value_run x us) sc vs h b k =
          value_sound vs (value_text x) (r.resolve_values fs us sc) (law_values us sc vs h (value_built (value_text x) (r.resolve_values fs us sc) b) (value_run_clean x us sc k))
      law_values (s.value_brace e us) sc vs h b k =
          let b' = so.value_brace_built _ _ b in
          let k' = value_brace_clean e us sc k in
          so.value_brace_sound may (arity_of fs) vs _ _ (law e sc vs h b'.0 k'.0, law_values us sc vs h b'.1 k'.1)

      law_parts : (ps : Parts read) (sc : Scope) (vs : List ℕ) → ScopeOk sc vs → BuiltParts (r.resolve_parts fs ps sc) → Clean (w.walk_parts fs ps sc) → SoundParts may (arity_of fs) vs (r.resolve_parts fs ps sc)
      law_parts s.no_parts sc vs h b k = so.no_parts_sound may (arity_of fs) vs
      law_parts (s.run x ps) sc vs h b k =
          piece_sound vs (content_text x) (is_white_piece x) (r.resolve_parts fs ps sc) (law_parts ps sc vs h (piece_built (content_text x) (is_white_piece x) (r.resolve_parts fs ps sc) b) (run_clean x ps sc k))
      law_parts (s.brace e ps) sc vs h b k =
          let b' = so.brace_built _ _ b in
          let k' = brace_clean e ps sc k in
          so.brace_sound may (arity_of fs) vs _ _ (law e sc vs h b'.0 k'.0, law_parts ps sc vs h b'.1 k'.1)
      law_parts (s.inner e ps) sc vs h b k =
          let b' = so.inner_built _ _ b in
          let k' = inner_clean e ps sc k in
          so.inner_sound may (arity_of fs) vs _ _ (law e sc vs h b'.0 k'.0, law_parts ps sc vs h b'.1 k'.1)
