-- What is made with d variables made before is what is made with none, moved by d.
use Rattle.std.proofs.Common.{◌≡◌, refl, sym, ◌∙◌, ap, ℕ, zero, suc, ◌+◌, ◌<◌, ◌≤◌, nat_eq, Bool, true, false, cond, Option, Some, None, List, [], ◌∷◌, arith}
use Rattle.xq_base.specs.declared.axis.Axis.{Axis}
use Rattle.xq_base.specs.declared.fun.AtomKind.{AtomKind}
use Rattle.xq_base.specs.declared.fun.Fun.{Fun}
use Rattle.xq_base.specs.declared.fun.Fun.TheVariants as fun
use Rattle.xq_base.specs.Texts.{Text}
use Rattle.doc_table.specs.Tree.{ElementNode}
use Rattle.doc_table.specs.Axes.{Test}
use Rattle.core_meaning.specs.declared.node.StepFrom.{StepFrom}
use Rattle.core_meaning.specs.Types.{SequenceTest}
use Rattle.core_meaning.specs.PlainCore.{PlainCore, PlainCores}
use Rattle.core_meaning.specs.PlainCore as c
use Rattle.xq_ast.specs.declared.leaf.Callee.{Callee}
use Rattle.xq_ast.specs.declared.leaf.Callee.TheVariants as callee
use Rattle.xq_ast.specs.declared.leaf.Operator.{Operator}
use Rattle.xq_ast.specs.declared.leaf.Quantifier.TheVariants as quantifier
use Rattle.xq_ast.specs.declared.leaf.Sign.TheVariants as sign
use Rattle.core_scope.specs.Syn.{Syn, Syns, Maybe, Binds, Keys, BuildName, Attributes, Values, Parts, Params, resolved}
use Rattle.core_scope.specs.Syn as s
use Rattle.core_normal.specs.Fresh.{Made, Makes}
use Rattle.core_normal.specs.Around as ar
use Rattle.core_normal.specs.Around.{Known, Env, Focus, Around, outside}
use Rattle.core_normal.specs.Pieces as n
use Rattle.core_normal.specs.Pieces.{Inlined, Tail}
use Rattle.core_normal.specs.Normal as nf
use Rattle.core_normal.specs.Normal.{norm}
use Rattle.core_normal.specs.Shift as h
use Rattle.core_normal.specs.Query.{Function, Entered, entered, body_of, body_at, bodies_within, types_of}

-- each has the other's bodies moved
abbrev pub Moving : ℕ → ℕ → (ℕ → Makes Inlined) → Type 0
Moving base d bodies = (k m : ℕ) → bodies k (d + m) ≡ h.all base d (h.inlined base d) (bodies k m)

module _ (base d : ℕ) (low : 0 < base) where
  at_least : (x : ℕ) → base ≤ x → h.moved base d x ≡ d + x
  unfolding h.moved
  at_least x p = grind arith

  fresh_law : (m : ℕ) → base + (d + m) ≡ h.moved base d (base + m)
  fresh_law m = omega (arith, at_least (base + m) (omega arith))

  next_law : (m : ℕ) → (d + m) + 1 ≡ d + (m + 1)
  next_law m = omega arith

  zero_law : h.moved base d 0 ≡ 0
  unfolding h.moved
  zero_law = grind (arith, low)

  known_law : (v : ℕ) (x : ℕ) (r : Around) → ar.known v (h.moved base d x) (h.around base d r) ≡ h.around base d (ar.known v x r)
  unfolding ar.known h.around
  known_law v x r = refl

  focus_law : (x p l : ℕ) (r : Around) →
      ar.focused (h.moved base d x) (h.moved base d p) (h.moved base d l) (h.around base d r) ≡ h.around base d (ar.focused x p l r)
  unfolding ar.focused h.around
  focus_law x p l r = refl

  bound_law : (t : Option SequenceTest) (y m : ℕ) → nf.bound base t (h.moved base d y) (d + m) ≡ h.all base d (h.moved base d) (nf.bound base t y m)
  unfolding nf.bound
  bound_law None y m = refl
  bound_law (Some t) y m = simp (fresh_law, next_law)

  place_law : (v : Option (ℕ × ℕ)) (p : ℕ) (r : Around) →
      nf.with_place v (h.moved base d p) (h.around base d r) ≡ h.around base d (nf.with_place v p r)
  unfolding nf.with_place
  place_law None p r = refl
  place_law (Some v) p r = known_law v.1 p r

  found_law : (e : Env) (v : ℕ) → ar.found (h.env base d e) v ≡ h.moved base d (ar.found e v)
  unfolding ar.found
  found_law [] v = sym zero_law
  found_law (k ∷ ks) v = at (nat_eq k.var v) (found_law ks v)
    where
      at : (b : Bool) → ar.found (h.env base d ks) v ≡ h.moved base d (ar.found ks v) →
          (cond b (h.moved base d k.core) (ar.found (h.env base d ks) v)) ≡ h.moved base d (cond b k.core (ar.found ks v))
      at true p = refl
      at false p = p

  dot_law : (o : ℕ) (r : Around) → n.dot_at o ((h.around base d r).focus) ≡ h.core base d (n.dot_at o r.focus)
  unfolding n.dot_at h.around
  dot_law o r = at r.focus
    where
      at : (f : Option Focus) → n.dot_at o (h.focus base d f) ≡ h.core base d (n.dot_at o f)
      at None = refl
      at (Some f) = refl

  var_law : (r : Around) (v : ℕ) → ar.found ((h.around base d r).env) v ≡ h.moved base d (ar.found r.env v)
  unfolding h.around
  var_law r v = found_law r.env v

  chain_law : (o : ℕ) (e : PlainCore) (as' : PlainCores) → n.chain o (h.core base d e) (h.cores base d as') ≡ h.core base d (n.chain o e as')
  chain_law o e c.no_cores = refl
  chain_law o e (c.one_core a as') = chain_law o (c.Seq o e a) as'

  sequence_law : (o : ℕ) (as' : PlainCores) → n.sequence o (h.cores base d as') ≡ h.core base d (n.sequence o as')
  sequence_law o c.no_cores = refl
  sequence_law o (c.one_core a as') = chain_law o a as'

  value_law : (o : ℕ) (as' : PlainCores) → n.value_of o (h.cores base d as') ≡ h.core base d (n.value_of o as')
  value_law o c.no_cores = refl
  value_law o (c.one_core a c.no_cores) = refl
  value_law o (c.one_core a (c.one_core b as')) = refl

  operand_law : (f : Operator) (o : ℕ) (a : PlainCore) → n.operand f o (h.core base d a) ≡ h.core base d (n.operand f o a)
  operand_law f o a = at (n.is_logical f)
    where
      at : (b : Bool) → (cond b (n.boolean o (h.core base d a)) (h.core base d a)) ≡ h.core base d (cond b (n.boolean o a) a)
      at true = refl
      at false = refl

  counted_law : (o : ℕ) (x : Axis) (f : StepFrom) (t : Test Text) (a : PlainCore) →
      n.counted o x (c.Step o f x t (h.core base d a)) ≡ h.core base d (n.counted o x (c.Step o f x t a))
  unfolding n.counted
  counted_law o x f t a = at (n.is_reverse x)
    where
      at : (b : Bool) → (cond b (c.Call o fun.Reverse (n.one (c.Step o f x t (h.core base d a)))) (c.Step o f x t (h.core base d a)))
          ≡ h.core base d (cond b (c.Call o fun.Reverse (n.one (c.Step o f x t a))) (c.Step o f x t a))
      at true = refl
      at false = refl

  counted_var : (o : ℕ) (x : Axis) (f : StepFrom) (t : Test Text) (y : ℕ) →
      n.counted o x (c.Step o f x t (c.Var o (h.moved base d y))) ≡ h.core base d (n.counted o x (c.Step o f x t (c.Var o y)))
  counted_var o x f t y = counted_law o x f t (c.Var o y)

  selected_law : (o y l x p v : ℕ) (e a : PlainCore) →
      n.selected o (h.core base d e) (h.moved base d y) (h.moved base d l) (h.moved base d x) (h.moved base d p) (h.moved base d v) (h.core base d a)
      ≡ h.core base d (n.selected o e y l x p v a)
  unfolding n.selected
  selected_law o y l x p v e a = refl

  tested_law : (o : ℕ) (t : Option SequenceTest) (y x : ℕ) (a : PlainCore) →
      n.tested o t (h.moved base d y) (h.moved base d x) (h.core base d a) ≡ h.core base d (n.tested o t y x a)
  tested_law o None y x a = refl
  tested_law o (Some t) y x a = refl

  bind_law : (o : ℕ) (t : Option SequenceTest) (y x : ℕ) (ts : c.Binds) →
      n.tested_bind o t (h.moved base d y) (h.moved base d x) (h.binds base d ts) ≡ h.binds base d (n.tested_bind o t y x ts)
  bind_law o None y x a = refl
  bind_law o (Some t) y x a = refl

  converted_law : (o : ℕ) (t : Option SequenceTest) (a : PlainCore) → n.converted o t (h.core base d a) ≡ h.core base d (n.converted o t a)
  converted_law o None a = refl
  converted_law o (Some t) a = refl

  focus_part : (r : Around) → (h.around base d r).focus ≡ h.focus base d r.focus
  unfolding h.around
  focus_part r = refl

  dot_at_law : (o : ℕ) (f : Option Focus) → n.dot_at o (h.focus base d f) ≡ h.core base d (n.dot_at o f)
  unfolding n.dot_at
  dot_at_law o None = refl
  dot_at_law o (Some f) = refl

  place_at_law : (o : ℕ) (f : Option Focus) → n.place_at o (h.focus base d f) ≡ h.core base d (n.place_at o f)
  unfolding n.place_at
  place_at_law o None = refl
  place_at_law o (Some f) = refl

  last_at_law : (o : ℕ) (f : Option Focus) → n.last_at o (h.focus base d f) ≡ h.core base d (n.last_at o f)
  unfolding n.last_at
  last_at_law o None = refl
  last_at_law o (Some f) = refl

  cast_law : (o : ℕ) (k : AtomKind) (g : Fun) (as' : PlainCores) → n.cast_to o k g (h.cores base d as') ≡ h.core base d (n.cast_to o k g as')
  cast_law o k g c.no_cores = refl
  cast_law o k g (c.one_core a c.no_cores) = refl
  cast_law o k g (c.one_core a (c.one_core b as')) = refl

  of_dot_law : (o : ℕ) (g : Fun) (as' : PlainCores) (x : PlainCore) → n.of_dot o g (h.cores base d as') (h.core base d x) ≡ h.core base d (n.of_dot o g as' x)
  of_dot_law o g c.no_cores x = refl
  of_dot_law o g (c.one_core a as') x = refl

  of_context : (o : ℕ) (g : Fun) (as' : PlainCores) (f : Option Focus) → n.of_dot o g (h.cores base d as') (n.dot_at o (h.focus base d f)) ≡ h.core base d (n.of_dot o g as' (n.dot_at o f))
  of_context o g as' f = ap (λ x. n.of_dot o g (h.cores base d as') x) (dot_at_law o f) ∙ of_dot_law o g as' (n.dot_at o f)

  of_text : (o : ℕ) (g : Fun) (as' : PlainCores) (f : Option Focus) →
      n.of_dot o g (h.cores base d as') (c.Call o fun.StringOf (n.one (n.dot_at o (h.focus base d f)))) ≡ h.core base d (n.of_dot o g as' (c.Call o fun.StringOf (n.one (n.dot_at o f))))
  of_text o g as' f =
      ap (λ x. n.of_dot o g (h.cores base d as') (c.Call o fun.StringOf (n.one x))) (dot_at_law o f) ∙ of_dot_law o g as' (c.Call o fun.StringOf (n.one (n.dot_at o f)))

  built_in_call_law : (o : ℕ) (g : Fun) (as' : PlainCores) (f : Option Focus) →
      n.built_in_call o g (h.cores base d as') (h.focus base d f) ≡ h.core base d (n.built_in_call o g as' f)
  built_in_call_law o fun.Position as' f = place_at_law o f
  built_in_call_law o fun.Last as' f = last_at_law o f
  built_in_call_law o fun.Error as' f = refl
  built_in_call_law o fun.XsInteger as' f = cast_law o _ _ as'
  built_in_call_law o fun.XsString as' f = cast_law o _ _ as'
  built_in_call_law o fun.XsBoolean as' f = cast_law o _ _ as'
  built_in_call_law o fun.XsUntypedAtomic as' f = cast_law o _ _ as'
  built_in_call_law o fun.Root as' f = of_context o _ as' f
  built_in_call_law o fun.StringOf as' f = of_context o _ as' f
  built_in_call_law o fun.Name as' f = of_context o _ as' f
  built_in_call_law o fun.LocalName as' f = of_context o _ as' f
  built_in_call_law o fun.StringLength as' f = of_text o _ as' f
  built_in_call_law o fun.NormalizeSpace as' f = of_text o _ as' f
  built_in_call_law o g as' f = refl

  params_law : (o : ℕ) (xs : List ℕ) (ts : List (Option SequenceTest)) (as' : PlainCores) (e : PlainCore) →
      n.with_params o (h.vars base d xs) ts (h.cores base d as') (h.core base d e) ≡ h.core base d (n.with_params o xs ts as' e)
  params_law o [] ts as' e = refl
  params_law o (x ∷ xs) [] as' e = refl
  params_law o (x ∷ xs) (t ∷ ts) c.no_cores e = refl
  params_law o (x ∷ xs) (None ∷ ts) (c.one_core a as') e = ap (λ b. c.Let o (h.moved base d x) (h.core base d a) b) (params_law o xs ts as' e)
  params_law o (x ∷ xs) (Some t ∷ ts) (c.one_core a as') e = ap (λ b. c.Let o (h.moved base d x) (c.Convert o (h.core base d a) t) b) (params_law o xs ts as' e)

  inlined_law : (o : ℕ) (i : Inlined) (as' : PlainCores) →
      n.inlined o (h.inlined base d i) (h.cores base d as') ≡ h.core base d (n.inlined o i as')
  inlined_law o i as' = simp (converted_law, params_law)

  run_law : (b : Bool) (o : ℕ) (t : Text) (more : PlainCores) →
      (cond b (h.cores base d more) (c.one_core (n.text_node o t) (h.cores base d more))) ≡ h.cores base d (cond b more (c.one_core (n.text_node o t) more))
  run_law true o t more = refl
  run_law false o t more = refl

  brace_law : (b : Bool) (o : ℕ) (a : PlainCore) (more : PlainCores) →
      (cond b (c.one_core (n.text_node o []) (c.one_core (h.core base d a) (h.cores base d more))) (c.one_core (h.core base d a) (h.cores base d more)))
      ≡ h.cores base d (cond b (c.one_core (n.text_node o []) (c.one_core a more)) (c.one_core a more))
  brace_law true o a more = refl
  brace_law false o a more = refl

  abbrev over_made : (PlainCore → PlainCore) → Made PlainCore → Made PlainCore
  over_made f x = record { made = f x.made; next = x.next }

  abbrev over_tail : ℕ → Made Tail → Made PlainCore
  over_tail o x = record { made = n.sorted_core o x.made; next = x.next }

  abbrev over_parts : ℕ → Text → Made PlainCores → Made PlainCore
  over_parts o t x = record { made = c.Build o ElementNode (n.one (n.text_lit o t)) (n.sequence o x.made); next = x.next }

  element_made : (o : ℕ) (t : Text) (x y : Made PlainCores) → x ≡ h.all base d (h.cores base d) y →
      over_parts o t x ≡ h.all base d (h.core base d) (over_parts o t y)
  element_made o t x y p = ap (over_parts o t) p ∙ ap (λ z. record { made = c.Build o ElementNode (n.one (n.text_lit o t)) z; next = d + y.next }) (sequence_law o y.made)

  -- what is done with PlainCores, as functions: a moved one does the moved
  abbrev pub Follows : (Around → Makes PlainCore) → Type 0
  Follows last = (r : Around) (m : ℕ) → last (h.around base d r) (d + m) ≡ h.all base d (h.core base d) (last r m)

  abbrev pub FollowsTail : (Around → Makes Tail) → Type 0
  FollowsTail last = (r : Around) (m : ℕ) → last (h.around base d r) (d + m) ≡ h.all base d (h.tail base d) (last r m)

  abbrev pub FollowsCores : (Around → Makes PlainCores) → Type 0
  FollowsCores last = (r : Around) (m : ℕ) → last (h.around base d r) (d + m) ≡ h.all base d (h.cores base d) (last r m)

  module _ (bodies : ℕ → Makes Inlined) (moving : Moving base d bodies) where
    called_law : (o : ℕ) (f : Callee) (as' : PlainCores) (g : Option Focus) (m : ℕ) →
        nf.called base bodies o f (h.cores base d as') (h.focus base d g) (d + m) ≡ h.all base d (h.core base d) (nf.called base bodies o f as' g m)
    called_law o (callee.Known f) as' g m = simp (built_in_call_law)
    called_law o (callee.Declared k) as' g m = simp (moving, inlined_law)

    mutual
      unfolding norm

      pub law : (e : Syn resolved) (r : Around) (m : ℕ) → norm base bodies e (h.around base d r) (d + m) ≡ h.all base d (h.core base d) (norm base bodies e r m)
      law (s.comma o a es) r m = simp (law a, law_all es, chain_law)
      law (s.flwor o bs w s.no_keys e) r m = law_nested bs o _ (λ q k. law_where w o (norm base bodies e) (λ r m. law e r m) q k) r m
      law (s.flwor o bs s.absent (s.one_key k a g ks) e) r m = ap (over_tail o) (law_sorted bs _ (λ q j. simp (law k, law_keys ks, law e)) r m)
      law (s.flwor o bs (s.present w) (s.one_key k a g ks) e) r m = ap (over_tail o) (law_sorted bs _ (λ q j. simp (law w, law k, law_keys ks, law e)) r m)
      law (s.quantified o quantifier.Some bs e) r m = ap (over_made (λ x. c.Call o fun.Exists (n.one x))) (law_nested bs o _ (λ q k. simp (law e)) r m)
      law (s.quantified o quantifier.Every bs e) r m = ap (over_made (λ x. c.Call o fun.Empty (n.one x))) (law_nested bs o _ (λ q k. simp (law e)) r m)
      law (s.conditional o e a b) r m = simp (law e, law a, law b)
      law (s.binary o f a b) r m = simp (law a, law b, operand_law)
      law (s.signed o sign.Plus a) r m = simp (law a)
      law (s.signed o sign.Minus a) r m = simp (law a)
      law (s.instance o a t) r m = simp (law a)
      law (s.treat o a t) r m = simp (law a)
      law (s.castable o a k b) r m = simp (law a)
      law (s.cast o a k b) r m = simp (law a)
      law (s.root o) r m = simp (dot_law)
      law (s.step o x t s.absent s.no_more) r m = simp (dot_law)
      law (s.step o x t s.absent (s.one_more q qs)) r m = simp (dot_law, counted_law, selected_law, fresh_law, next_law, focus_law, law q, law_predicates qs)
      law (s.step o x t (s.present a) s.no_more) r m = simp (law a)
      law (s.step o x t (s.present a) (s.one_more q qs)) r m = simp (law a, counted_var, selected_law, fresh_law, next_law, focus_law, law q, law_predicates qs)
      law (s.through o a b) r m = simp (law a, law b, fresh_law, next_law, focus_law)
      law (s.filtered o a qs) r m = simp (law a, law_predicates qs)
      law (s.integer o z) r m = refl
      law (s.text o t) r m = refl
      law (s.var o v) r m = simp (var_law)
      law (s.paren o s.absent) r m = refl
      law (s.paren o (s.present e)) r m = law e r m
      law (s.dot o) r m = simp (dot_law)
      law (s.call o f es) r m = simp (law_all es, focus_part, called_law)
      law (s.build o b i e) r m = simp (law_name i, law_content e)
      law (s.element o i as' ps) r m = element_made o i _ _ (law_attrs as' _ (λ q k. law_parts ps false o q k) r m)
      law (s.comment o t) r m = refl
      law (s.instruction o i t) r m = refl

      law_all : (es : Syns resolved) (r : Around) (m : ℕ) → nf.norm_all base bodies es (h.around base d r) (d + m) ≡ h.all base d (h.cores base d) (nf.norm_all base bodies es r m)
      law_all s.no_more r m = refl
      law_all (s.one_more e es) r m = simp (law e, law_all es)

      law_nested : (bs : Binds resolved) (o : ℕ) (last : Around → Makes PlainCore) → Follows last →
          (r : Around) (m : ℕ) → nf.nested base bodies bs o last (h.around base d r) (d + m) ≡ h.all base d (h.core base d) (nf.nested base bodies bs o last r m)
      law_nested s.no_binds o last same r m = same r m
      law_nested (s.for_bind i v t at e bs) o last same r m =
          simp (law e, fresh_law, next_law, bound_law, place_law, known_law, tested_law, law_nested bs o last same)
      law_nested (s.let_bind i v t e bs) o last same r m =
          simp (law e, fresh_law, next_law, bound_law, known_law, tested_law, law_nested bs o last same)

      law_where : (w : Maybe resolved) (o : ℕ) (last : Around → Makes PlainCore) → Follows last →
          (r : Around) (m : ℕ) → nf.norm_where base bodies w o last (h.around base d r) (d + m) ≡ h.all base d (h.core base d) (nf.norm_where base bodies w o last r m)
      law_where s.absent o last same r m = same r m
      law_where (s.present e) o last same r m = simp (law e, same)

      law_predicates : (qs : Syns resolved) (o : ℕ) (e : PlainCore) (r : Around) (m : ℕ) →
          nf.predicates base bodies qs o (h.core base d e) (h.around base d r) (d + m) ≡ h.all base d (h.core base d) (nf.predicates base bodies qs o e r m)
      law_predicates s.no_more o e r m = refl
      law_predicates (s.one_more q qs) o e r m = simp (selected_law, fresh_law, next_law, focus_law, law q, law_predicates qs)

      law_name : (i : BuildName resolved) (o : ℕ) (r : Around) (m : ℕ) → nf.norm_name base bodies i o (h.around base d r) (d + m) ≡ h.all base d (h.cores base d) (nf.norm_name base bodies i o r m)
      law_name s.no_name o r m = refl
      law_name (s.named i) o r m = refl
      law_name (s.computed e) o r m = simp (law e)

      law_content : (e : Maybe resolved) (o : ℕ) (r : Around) (m : ℕ) → nf.norm_content base bodies e o (h.around base d r) (d + m) ≡ h.all base d (h.core base d) (nf.norm_content base bodies e o r m)
      law_content s.absent o r m = refl
      law_content (s.present e) o r m = law e r m

      law_values : (vs : Values resolved) (o : ℕ) (r : Around) (m : ℕ) → nf.norm_values base bodies vs o (h.around base d r) (d + m) ≡ h.all base d (h.cores base d) (nf.norm_values base bodies vs o r m)
      law_values s.no_values o r m = refl
      law_values (s.value_run t vs) o r m = simp (law_values vs)
      law_values (s.value_brace e vs) o r m = simp (law e, law_values vs)

      law_parts : (ps : Parts resolved) (b : Bool) (o : ℕ) (r : Around) (m : ℕ) → nf.norm_parts base bodies ps b o (h.around base d r) (d + m) ≡ h.all base d (h.cores base d) (nf.norm_parts base bodies ps b o r m)
      law_parts s.no_parts b o r m = refl
      law_parts (s.run t ps) b o r m = simp (law_parts ps, run_law)
      law_parts (s.brace e ps) b o r m = simp (law e, law_parts ps, brace_law)
      law_parts (s.inner e ps) b o r m = simp (law e, law_parts ps)

      law_sorted : (bs : Binds resolved) (last : Around → Makes Tail) → FollowsTail last →
          (r : Around) (m : ℕ) → nf.sorted base bodies bs last (h.around base d r) (d + m) ≡ h.all base d (h.tail base d) (nf.sorted base bodies bs last r m)
      law_sorted s.no_binds last same r m = same r m
      law_sorted (s.for_bind i v t at e bs) last same r m =
          simp (law e, fresh_law, next_law, bound_law, place_law, known_law, bind_law, law_sorted bs last same)
      law_sorted (s.let_bind i v t e bs) last same r m =
          simp (law e, fresh_law, next_law, bound_law, known_law, bind_law, law_sorted bs last same)

      law_keys : (ks : Keys resolved) (r : Around) (m : ℕ) → nf.norm_keys base bodies ks (h.around base d r) (d + m) ≡ h.all base d (h.keys base d) (nf.norm_keys base bodies ks r m)
      law_keys s.no_keys r m = refl
      law_keys (s.one_key e a g ks) r m = simp (law e, law_keys ks)

      law_attrs : (as' : Attributes resolved) (rest : Around → Makes PlainCores) → FollowsCores rest →
          (r : Around) (m : ℕ) → nf.norm_attributes base bodies as' (h.around base d r) rest (d + m) ≡ h.all base d (h.cores base d) (nf.norm_attributes base bodies as' r rest m)
      law_attrs s.no_attributes rest same r m = same r m
      law_attrs (s.attribute o i vs as') rest same r m = simp (law_values vs, law_attrs as' rest same, value_law)

    outside_law : (e : Syn resolved) (v : Env) (m : ℕ) →
        norm base bodies e (outside (h.env base d v)) (d + m) ≡ h.all base d (h.core base d) (norm base bodies e (outside v) m)
    unfolding h.around
    outside_law e v m = law e (outside v) m

  abbrev pub moved_entry : Entered → Entered
  moved_entry b = record { vars = h.vars base d b.vars; env = h.env base d b.env }

  entered_law : (ps : Params resolved) (v : Env) (m : ℕ) → entered base ps (h.env base d v) (d + m) ≡ h.all base d moved_entry (entered base ps v m)
  entered_law s.no_params v m = refl
  entered_law (s.param i w t ps) v m =
      ap (λ x. entered_over w x ps (h.env base d v) (d + m + 1)) (fresh_law m)
      ∙ ap (λ k. entered_over w (h.moved base d (base + m)) ps (h.env base d v) k) (next_law m)
      ∙ ap (λ x. with_first (h.moved base d (base + m)) x) (entered_law ps (ar.with_var w (base + m) v) (m + 1))
    where
      with_first : ℕ → Made Entered → Made Entered
      with_first x b = record { made = record { vars = x ∷ b.made.vars; env = b.made.env }; next = b.next }

      entered_over : ℕ → ℕ → Params resolved → Env → ℕ → Made Entered
      entered_over w x ps e k = with_first x (entered base ps (ar.with_var w x e) k)

  -- a body made with d variables before it is the one made with none, moved
  pub body_law : (bodies : ℕ → Makes Inlined) → Moving base d bodies → (v : Env) → h.env base d v ≡ v → (f : Function) (m : ℕ) →
      body_of base bodies v f (d + m) ≡ h.all base d (h.inlined base d) (body_of base bodies v f m)
  body_law bodies moving v fixed f m =
      ap (λ e. body_of base bodies e f (d + m)) (sym fixed)
      ∙ ap (λ b. rest bodies f b) (entered_law f.params v m)
      ∙ ap (λ a. closed f (h.vars base d ((entered base f.params v m).made.vars)) a) (outside_law bodies moving f.body ((entered base f.params v m).made.env) ((entered base f.params v m).next))
    where
      closed : Function → List ℕ → Made PlainCore → Made Inlined
      closed f xs a = record { made = record { vars = xs; types = types_of f.params; body = a.made; result = f.result }; next = a.next }

      rest : (ℕ → Makes Inlined) → Function → Made Entered → Made Inlined
      rest bodies f b = closed f b.made.vars (norm base bodies f.body (outside b.made.env) b.next)

  at_law : (bodies : ℕ → Makes Inlined) → Moving base d bodies → (v : Env) → h.env base d v ≡ v → (fs : List Function) (k m : ℕ) →
      body_at base bodies v fs k (d + m) ≡ h.all base d (h.inlined base d) (body_at base bodies v fs k m)
  at_law bodies moving v fixed [] k m = refl
  at_law bodies moving v fixed (f ∷ fs) zero m = body_law bodies moving v fixed f m
  at_law bodies moving v fixed (f ∷ fs) (suc k) m = at_law bodies moving v fixed fs k m

  pub within_law : (i : ℕ) (v : Env) → h.env base d v ≡ v → (fs : List Function) → Moving base d (bodies_within base i v fs)
  within_law zero v fixed fs k m = refl
  within_law (suc i) v fixed fs k m = at_law _ (within_law i v fixed fs) v fixed fs k m

  -- the template is the body made with no variables before it
  pub template_law : (i : ℕ) (v : Env) → h.env base d v ≡ v → (fs : List Function) (k : ℕ) →
      bodies_within base i v fs k d ≡ h.all base d (h.inlined base d) (bodies_within base i v fs k 0)
  template_law i v fixed fs k = ap (λ m. bodies_within base i v fs k m) (omega arith) ∙ within_law i v fixed fs k 0
