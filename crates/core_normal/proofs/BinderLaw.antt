-- The Core of an expression binds each variable once at most, and its variables are the new ones of its making.
use Rattle.std.proofs.Common.{◌≡◌, ap, ℕ, zero, suc, ◌+◌, ◌*◌, ◌≤◌, ◌&&◌, Bool, true, false, Option, Some, None, List, [], ◌∷◌, arith}
use Rattle.core_meaning.specs.declared.node.StepFrom.TheVariants as start
use Rattle.core_meaning.specs.Types.{SequenceTest}
use Rattle.core_meaning.specs.PlainCore.{PlainCore, PlainCores}
use Rattle.core_meaning.specs.PlainCore as c
use Rattle.xq_ast.specs.declared.leaf.Callee.{Callee}
use Rattle.xq_ast.specs.declared.leaf.Callee.TheVariants as callee
use Rattle.core_scope.specs.Syn.{Syn, Syns, Maybe, Binds, Keys, BuildName, Attributes, Values, Parts, Params, Declaration, Query, resolved, place_of}
use Rattle.core_scope.specs.Syn as s
use Rattle.core_normal.specs.Fresh.{Made, Makes, give, ◌▷=◌}
use Rattle.core_normal.specs.Around.{Env, Focus, Around, known, focused, outside, with_var, no_vars}
use Rattle.core_normal.specs.Pieces as n
use Rattle.core_normal.specs.Pieces.{Inlined, Tail}
use Rattle.core_normal.specs.Normal as nf
use Rattle.core_normal.specs.Normal.{norm, with_place}
use Rattle.core_normal.specs.Query.{Function, entered, body_of, body_at, bodies_within, prolog, variables, base_of, globals, functions, count, core_of_query}
use Rattle.core_normal.proofs.Binders as t

module _ (x base : ℕ) where
  -- what was made from m on binds the variable at most as often as it is one of the new ones
  abbrev pub New : ℕ → Made PlainCore → Type 0
  New m a = t.times x a.made + t.below x (base + m) ≤ t.below x (base + a.next)

  abbrev pub NewAll : ℕ → Made PlainCores → Type 0
  NewAll m a = t.times_all x a.made + t.below x (base + m) ≤ t.below x (base + a.next)

  abbrev pub NewTail : ℕ → Made Tail → Type 0
  NewTail m a = t.times_tail x a.made + t.below x (base + m) ≤ t.below x (base + a.next)

  abbrev pub NewBody : ℕ → Made Inlined → Type 0
  NewBody m a = t.times_inlined x a.made + t.below x (base + m) ≤ t.below x (base + a.next)

  -- what was made over a Core binds besides what that binds
  abbrev pub NewOver : PlainCore → ℕ → Made PlainCore → Type 0
  NewOver e m a = t.times x a.made + t.below x (base + m) ≤ t.times x e + t.below x (base + a.next)

  module _ (bodies : ℕ → Makes Inlined) (own : (k m : ℕ) → NewBody m (bodies k m)) where
    called_new : (o : ℕ) (f : Callee) (as' : PlainCores) (g : Option Focus) (m : ℕ) →
        t.times x ((nf.called base bodies o f as' g m).made) + t.below x (base + m) ≤ t.times_all x as' + t.below x (base + (nf.called base bodies o f as' g m).next)
    called_new o (callee.Known f) as' g m = omega (arith, t.times_known x o f as' g)
    called_new o (callee.Declared k) as' g m = omega (arith, own k m, t.times_of_inlined x o ((bodies k m).made) as')

    predicate_new : (p : Around → Makes PlainCore) → ((r : Around) (m : ℕ) → New m (p r m)) → (o : ℕ) (e : PlainCore) (r : Around) (m : ℕ) →
        NewOver e m (nf.predicate base p o e r m)
    predicate_new p new o e r m =
        let m1 = m + 1 in let m2 = m1 + 1 in let m3 = m2 + 1 in let m4 = m3 + 1 in let m5 = m4 + 1 in
        let a = p (focused (base + m2) (base + m3) (base + m1) r) m5 in
        omega (
          arith,
          new (focused (base + m2) (base + m3) (base + m1) r) m5,
          t.one_more x base m,
          t.one_more x base m1,
          t.one_more x base m2,
          t.one_more x base m3,
          t.one_more x base m4,
          t.times_selected x o (base + m) (base + m1) (base + m2) (base + m3) (base + m4) e a.made,
        )

    -- the parts of a sorted loop behind its binds
    abbrev NewBind : (Around → Makes (c.Binds → c.Binds)) → Type 0
    NewBind w = (r : Around) (m : ℕ) (ts : c.Binds) → t.times_binds x ((w r m).made ts) + t.below x (base + m) ≤ t.times_binds x ts + t.below x (base + (w r m).next)

    abbrev NewKeys : (Around → Makes c.Keys) → Type 0
    NewKeys p = (r : Around) (m : ℕ) → t.times_keys x ((p r m).made) + t.below x (base + m) ≤ t.below x (base + (p r m).next)

    tail_new : (w : Around → Makes (c.Binds → c.Binds)) → NewBind w → (p : Around → Makes PlainCore) → ((r : Around) (m : ℕ) → New m (p r m)) →
        (ks : Around → Makes c.Keys) → NewKeys ks → (e : Around → Makes PlainCore) → ((r : Around) (m : ℕ) → New m (e r m)) → (a g : Bool) → (r : Around) (m : ℕ) →
        NewTail m ((w r ▷= λ f. p r ▷= λ a'. ks r ▷= λ more. e r ▷= λ b. give (n.led_by f (record { binds = c.no_binds; keys = c.one_key (c.key_by a' a g) more; body = b }))) m)
    tail_new w hw p hp ks hks e he a g r m =
        let w' = w r m in
        let p' = p r w'.next in
        let ks' = ks r p'.next in
        omega (arith, hw r m c.no_binds, hp r w'.next, hks r p'.next, he r ks'.next)

    mutual
      unfolding norm

      pub law : (e : Syn resolved) (r : Around) (m : ℕ) → New m (norm base bodies e r m)
      law (s.comma o a es) r m =
          let a' = norm base bodies a r m in
          let b' = nf.norm_all base bodies es r a'.next in
          omega (arith, law a r m, law_all es r a'.next, t.times_chain x o a'.made b'.made)
      law (s.flwor o bs w s.no_keys e) r m = law_nested bs o _ (λ q k. law_where w o (norm base bodies e) (law e) q k) r m
      law (s.flwor o bs w (s.one_key k a g ks) e) r m =
          law_sorted bs _
          (tail_new (nf.sorted_where base bodies w) (law_bind w) (norm base bodies k) (law k) (nf.norm_keys base bodies ks) (law_keys ks) (norm base bodies e) (law e) a g) r m
      law (s.quantified o q bs e) r m =
          let a' = nf.nested base bodies bs o (λ q'. norm base bodies e q' ▷= λ a. give (n.witness o q (n.boolean (place_of e) a))) r m in
          omega (
            arith,
            t.times_quantified x o q a'.made,
            law_nested bs o (λ q'. norm base bodies e q' ▷= λ a. give (n.witness o q (n.boolean (place_of e) a)))
                (λ q' k. omega (arith, law e q' k, t.times_witness x o q (n.boolean (place_of e) ((norm base bodies e q' k).made)))) r m,
          )
      law (s.conditional o e a b) r m =
          let e' = norm base bodies e r m in
          let a' = norm base bodies a r e'.next in
          omega (arith, law e r m, law a r e'.next, law b r a'.next)
      law (s.binary o f a b) r m =
          let a' = norm base bodies a r m in
          let b' = norm base bodies b r a'.next in
          omega (arith, law a r m, law b r a'.next, t.times_operand x f (place_of a) a'.made, t.times_operand x f (place_of b) b'.made)
      law (s.signed o g a) r m = omega (arith, law a r m, t.times_signed x o g ((norm base bodies a r m).made))
      law (s.instance o a ty) r m = law a r m
      law (s.treat o a ty) r m = law a r m
      law (s.castable o a k b) r m = law a r m
      law (s.cast o a k b) r m = law a r m
      law (s.root o) r m = omega (arith, t.times_dot x o r.focus)
      law (s.step o y ts s.absent s.no_more) r m = omega (arith, t.times_dot x o r.focus)
      law (s.step o y ts s.absent (s.one_more q qs)) r m =
          let e = n.counted o y (c.Step o start.Dot y ts (n.dot_at o r.focus)) in
          let a' = nf.predicate base (norm base bodies q) o e r m in
          omega (
            arith,
            predicate_new (norm base bodies q) (law q) o e r m,
            law_predicates qs o a'.made r a'.next,
            t.times_counted x o y (c.Step o start.Dot y ts (n.dot_at o r.focus)),
            t.times_dot x o r.focus,
          )
      law (s.step o y ts (s.present a) s.no_more) r m = law a r m
      law (s.step o y ts (s.present a) (s.one_more q qs)) r m =
          let a' = norm base bodies a r m in
          let k = a'.next in
          let e = n.counted o y (c.Step o start.Path y ts (c.Var o (base + k))) in
          let b' = nf.predicate base (norm base bodies q) o e r (k + 1 + 1) in
          omega (
            arith,
            law a r m,
            t.one_more x base k,
            t.one_more x base (k + 1),
            predicate_new (norm base bodies q) (law q) o e r (k + 1 + 1),
            law_predicates qs o b'.made r b'.next,
            t.times_counted x o y (c.Step o start.Path y ts (c.Var o (base + k))),
          )
      law (s.through o a b) r m =
          let a' = norm base bodies a r m in
          let k = a'.next in
          let q = focused (base + (k + 1 + 1)) (base + (k + 1 + 1 + 1)) (base + (k + 1)) r in
          let b' = norm base bodies b q (k + 1 + 1 + 1 + 1) in
          omega (
            arith,
            law a r m,
            t.one_more x base k,
            t.one_more x base (k + 1),
            t.one_more x base (k + 1 + 1),
            t.one_more x base (k + 1 + 1 + 1),
            law b q (k + 1 + 1 + 1 + 1),
            t.times_path x o (base + k) (base + (k + 1)) (base + (k + 1 + 1)) (base + (k + 1 + 1 + 1)) a'.made b'.made,
          )
      law (s.filtered o a qs) r m =
          let a' = norm base bodies a r m in
          omega (arith, law a r m, law_predicates qs o a'.made r a'.next)
      law (s.integer o z) r m = omega arith
      law (s.text o v) r m = omega arith
      law (s.var o v) r m = omega arith
      law (s.paren o s.absent) r m = omega arith
      law (s.paren o (s.present e)) r m = law e r m
      law (s.dot o) r m = omega (arith, t.times_dot x o r.focus)
      law (s.call o f es) r m =
          let a' = nf.norm_all base bodies es r m in
          omega (arith, law_all es r m, called_new o f a'.made r.focus a'.next)
      law (s.build o k i e) r m =
          let i' = nf.norm_name base bodies i o r m in
          omega (arith, law_name i o r m, law_content e o r i'.next)
      law (s.element o i as' ps) r m =
          let a' = nf.norm_attributes base bodies as' r (λ q. nf.norm_parts base bodies ps false o q) m in
          omega (arith, law_attrs as' (λ q. nf.norm_parts base bodies ps false o q) (λ q k. law_parts ps false o q k) r m, t.times_sequence x o a'.made)
      law (s.comment o v) r m = omega arith
      law (s.instruction o i v) r m = omega arith

      law_all : (es : Syns resolved) (r : Around) (m : ℕ) → NewAll m (nf.norm_all base bodies es r m)
      law_all s.no_more r m = omega arith
      law_all (s.one_more e es) r m =
          let e' = norm base bodies e r m in
          omega (arith, law e r m, law_all es r e'.next)

      law_nested : (bs : Binds resolved) (o : ℕ) (last : Around → Makes PlainCore) → ((q : Around) (k : ℕ) → New k (last q k)) →
          (r : Around) (m : ℕ) → New m (nf.nested base bodies bs o last r m)
      law_nested s.no_binds o last new r m = new r m
      law_nested (s.for_bind i v ty at e bs) o last new r m =
          let a' = norm base bodies e r m in
          let k = a'.next in
          let y = nf.bound base ty (base + k) (k + 1 + 1) in
          let q = known v y.made (with_place at (base + (k + 1)) r) in
          let b' = nf.nested base bodies bs o last q y.next in
          omega (
            arith,
            law e r m,
            t.one_more x base k,
            t.one_more x base (k + 1),
            t.times_tested x base (place_of e) ty (base + k) (k + 1 + 1) b'.made,
            law_nested bs o last new q y.next,
          )
      law_nested (s.let_bind i v ty e bs) o last new r m =
          let a' = norm base bodies e r m in
          let k = a'.next in
          let y = nf.bound base ty (base + k) (k + 1) in
          let q = known v y.made r in
          let b' = nf.nested base bodies bs o last q y.next in
          omega (
            arith,
            law e r m,
            t.one_more x base k,
            t.times_tested x base (place_of e) ty (base + k) (k + 1) b'.made,
            law_nested bs o last new q y.next,
          )

      law_where : (w : Maybe resolved) (o : ℕ) (last : Around → Makes PlainCore) → ((q : Around) (k : ℕ) → New k (last q k)) →
          (r : Around) (m : ℕ) → New m (nf.norm_where base bodies w o last r m)
      law_where s.absent o last new r m = new r m
      law_where (s.present e) o last new r m =
          let e' = norm base bodies e r m in
          omega (arith, law e r m, new r e'.next)

      law_bind : (w : Maybe resolved) → NewBind (nf.sorted_where base bodies w)
      law_bind s.absent r m ts = omega arith
      law_bind (s.present e) r m ts = omega (arith, law e r m)

      law_sorted : (bs : Binds resolved) (last : Around → Makes Tail) → ((q : Around) (k : ℕ) → NewTail k (last q k)) →
          (r : Around) (m : ℕ) → NewTail m (nf.sorted base bodies bs last r m)
      law_sorted s.no_binds last new r m = new r m
      law_sorted (s.for_bind i v ty at e bs) last new r m =
          let a' = norm base bodies e r m in
          let k = a'.next in
          let y = nf.bound base ty (base + k) (k + 1 + 1) in
          let q = known v y.made (with_place at (base + (k + 1)) r) in
          let b' = nf.sorted base bodies bs last q y.next in
          omega (
            arith,
            law e r m,
            t.one_more x base k,
            t.one_more x base (k + 1),
            t.times_tested_bind x base (place_of e) ty (base + k) (k + 1 + 1) b'.made.binds,
            law_sorted bs last new q y.next,
          )
      law_sorted (s.let_bind i v ty e bs) last new r m =
          let a' = norm base bodies e r m in
          let k = a'.next in
          let y = nf.bound base ty (base + k) (k + 1) in
          let q = known v y.made r in
          let b' = nf.sorted base bodies bs last q y.next in
          omega (
            arith,
            law e r m,
            t.one_more x base k,
            t.times_tested_bind x base (place_of e) ty (base + k) (k + 1) b'.made.binds,
            law_sorted bs last new q y.next,
          )

      law_keys : (ks : Keys resolved) (r : Around) (m : ℕ) →
          t.times_keys x ((nf.norm_keys base bodies ks r m).made) + t.below x (base + m) ≤ t.below x (base + (nf.norm_keys base bodies ks r m).next)
      law_keys s.no_keys r m = omega arith
      law_keys (s.one_key e a g ks) r m =
          let e' = norm base bodies e r m in
          omega (arith, law e r m, law_keys ks r e'.next)

      law_predicates : (qs : Syns resolved) (o : ℕ) (e : PlainCore) (r : Around) (m : ℕ) → NewOver e m (nf.predicates base bodies qs o e r m)
      law_predicates s.no_more o e r m = omega arith
      law_predicates (s.one_more q qs) o e r m =
          let a' = nf.predicate base (norm base bodies q) o e r m in
          omega (arith, predicate_new (norm base bodies q) (law q) o e r m, law_predicates qs o a'.made r a'.next)

      law_name : (i : BuildName resolved) (o : ℕ) (r : Around) (m : ℕ) → NewAll m (nf.norm_name base bodies i o r m)
      law_name s.no_name o r m = omega arith
      law_name (s.named i) o r m = omega arith
      law_name (s.computed e) o r m = omega (arith, law e r m)

      law_content : (e : Maybe resolved) (o : ℕ) (r : Around) (m : ℕ) → New m (nf.norm_content base bodies e o r m)
      law_content s.absent o r m = omega arith
      law_content (s.present e) o r m = law e r m

      law_values : (vs : Values resolved) (o : ℕ) (r : Around) (m : ℕ) → NewAll m (nf.norm_values base bodies vs o r m)
      law_values s.no_values o r m = omega arith
      law_values (s.value_run v vs) o r m = omega (arith, law_values vs o r m)
      law_values (s.value_brace e vs) o r m =
          let e' = norm base bodies e r m in
          omega (arith, law e r m, law_values vs o r e'.next)

      law_attrs : (as' : Attributes resolved) (rest : Around → Makes PlainCores) → ((q : Around) (k : ℕ) → NewAll k (rest q k)) →
          (r : Around) (m : ℕ) → NewAll m (nf.norm_attributes base bodies as' r rest m)
      law_attrs s.no_attributes rest new r m = new r m
      law_attrs (s.attribute o i vs as') rest new r m =
          let v' = nf.norm_values base bodies vs o r m in
          omega (arith, law_values vs o r m, law_attrs as' rest new r v'.next, t.times_value x o v'.made)

      law_parts : (ps : Parts resolved) (z : Bool) (o : ℕ) (r : Around) (m : ℕ) → NewAll m (nf.norm_parts base bodies ps z o r m)
      law_parts s.no_parts z o r m = omega arith
      law_parts (s.run v ps) z o r m =
          let p' = nf.norm_parts base bodies ps (v.is_boundary && z) o r m in
          omega (arith, law_parts ps (v.is_boundary && z) o r m, t.times_run x v.is_boundary o v.text p'.made)
      law_parts (s.brace e ps) z o r m =
          let e' = norm base bodies e r m in
          let p' = nf.norm_parts base bodies ps true o r e'.next in
          omega (arith, law e r m, law_parts ps true o r e'.next, t.times_brace x z o e'.made p'.made)
      law_parts (s.inner e ps) z o r m =
          let e' = norm base bodies e r m in
          omega (arith, law e r m, law_parts ps false o r e'.next)

    entered_new : (ps : Params resolved) (v : Env) (m : ℕ) → t.ones x ((entered base ps v m).made.vars) + t.below x (base + m) ≤ t.below x (base + (entered base ps v m).next)
    entered_new s.no_params v m = omega arith
    entered_new (s.param o w ty ps) v m = omega (arith, t.one_more x base m, entered_new ps (with_var w (base + m) v) (m + 1))

    body_new : (v : Env) (f : Function) (m : ℕ) → NewBody m (body_of base bodies v f m)
    body_new v f m =
        let b = entered base f.params v m in
        omega (arith, entered_new f.params v m, law f.body (outside b.made.env) b.next)

    at_new : (v : Env) (fs : List Function) (k m : ℕ) → NewBody m (body_at base bodies v fs k m)
    at_new v [] k m = omega arith
    at_new v (f ∷ fs) zero m = body_new v f m
    at_new v (f ∷ fs) (suc k) m = at_new v fs k m

    -- the prolog's variables have numbers of their own, two each
    prolog_new : (v : Env) (ds : List (Declaration resolved)) (j : ℕ) (e : Syn resolved) (m : ℕ) →
        t.times x ((prolog base bodies v ds j e m).made) + (t.below x (base + m) + t.below x (2 * j + 1))
        ≤ t.below x (base + (prolog base bodies v ds j e m).next) + t.below x (2 * (j + variables ds) + 1)
    prolog_new v [] j e m =
        let none : 2 * (j + 0) + 1 ≡ 2 * j + 1 = omega arith in
        omega (arith, law e (outside v) m, ap (t.below x) none)
    prolog_new v (s.function o i k ps ty b ∷ ds) j e m = prolog_new v ds j e m
    prolog_new v (s.variable o i w ty b ∷ ds) j e m =
        let a' = norm base bodies b (outside v) m in
        let d' = prolog base bodies v ds (j + 1) e a'.next in
        let next : 2 * (j + 1) + 1 ≡ 2 * j + 2 + 1 = omega arith in
        let more : 2 * (j + 1 + variables ds) + 1 ≡ 2 * (j + (variables ds + 1)) + 1 = omega arith in
        omega (
          arith,
          law b (outside v) m,
          prolog_new v ds (j + 1) e a'.next,
          ap (t.below x) next,
          ap (t.below x) more,
          tested_global (place_of b) ty j d'.made,
          t.one_below x (2 * j + 1),
        )
      where
        tested_global : (o : ℕ) (ty : Option SequenceTest) (j : ℕ) (d : PlainCore) →
            t.times x (n.tested o ty (2 * j + 1) (2 * j + 2) d) + t.below x (2 * j + 1 + 1) ≤ t.times x d + t.below x (2 * j + 2 + 1)
        tested_global o None j d =
            let next : 2 * j + 1 + 1 ≡ 2 * j + 2 = omega arith in
            omega (arith, t.one_below x (2 * j + 2), ap (t.below x) next)
        tested_global o (Some ty) j d =
            let next : 2 * j + 1 + 1 ≡ 2 * j + 2 = omega arith in
            omega (arith, t.one_below x (2 * j + 2), ap (t.below x) next)

  within_new : (i : ℕ) (v : Env) (fs : List Function) (k m : ℕ) → NewBody m (bodies_within base i v fs k m)
  within_new zero v fs k m = omega arith
  within_new (suc i) v fs k m = at_new (bodies_within base i v fs) (within_new i v fs) v fs k m

-- a query's Core binds each variable once at most
pub once : (q : Query resolved) (x : ℕ) → t.times x (core_of_query q) ≤ 1
once q x =
    let base = base_of q.declarations in
    let v = globals q.declarations 0 no_vars in
    let bodies = bodies_within base (count (functions q.declarations)) v (functions q.declarations) in
    let none : base + 0 ≡ 2 * (0 + variables q.declarations) + 1 = omega arith in
    omega (
      arith,
      prolog_new x base bodies (within_new x base (count (functions q.declarations)) v (functions q.declarations)) v q.declarations 0 q.body 0,
      ap (t.below x) none,
      t.below-most x (base + (prolog base bodies v q.declarations 0 q.body 0).next),
    )
