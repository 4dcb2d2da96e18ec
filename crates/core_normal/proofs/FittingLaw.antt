-- The Core of a sound expression has its variables in scope, and calls with the parts that they take.
use Rattle.std.proofs.Common.{◌≡◌, refl, sym, ap, ◌∙◌, subst, ℕ, suc, ◌+◌, ◌&&◌, ◌||◌, nat_eq, Bool, true, false, cond, Option, Some, None, List, ◌∷◌, arith}
use Rattle.core_meaning.specs.declared.node.StepFrom.TheVariants as start
use Rattle.core_meaning.specs.PlainCore.{PlainCore, PlainCores}
use Rattle.core_meaning.specs.PlainCore as c
use Rattle.core_meaning.specs.Work.{is_member}
use Rattle.core_meaning.specs.Expr.{Make}
use Rattle.core_meaning.specs.ExprOf.{expr_from, content_from}
use Rattle.core_meaning.specs.Lawful.{rule_fits}
use Rattle.xq_ast.specs.declared.leaf.BuildKind.{BuildKind}
use Rattle.xq_ast.specs.declared.leaf.BuildKind.TheVariants as build
use Rattle.xq_ast.specs.declared.leaf.Callee.{Callee}
use Rattle.xq_ast.specs.declared.leaf.Callee.TheVariants as callee
use Rattle.core_scope.specs.Syn.{Syn, Syns, Maybe, Binds, Keys, BuildName, Attributes, Values, Parts, resolved, place_of, how_many}
use Rattle.core_scope.specs.Syn as s
use Rattle.core_normal.specs.Fresh.{Makes, give, ◌▷=◌}
use Rattle.core_normal.specs.Around.{Focus, Around, found, known, focused}
use Rattle.core_normal.specs.Pieces as n
use Rattle.core_normal.specs.Pieces.{Inlined, Tail}
use Rattle.core_normal.specs.Normal as nf
use Rattle.core_normal.specs.Normal.{norm, with_place}
use Rattle.core_normal.specs.Sound.{In, can_call, at_vars, behind, is_named, SoundCall, Sound, SoundAll, SoundMaybe, SoundBinds, SoundKeys, SoundName, SoundAttributes, SoundValues, SoundParts}
use Rattle.core_normal.proofs.Fitting as f
use Rattle.core_normal.proofs.Soundness as so
use Rattle.core_normal.proofs.Fitting.{Sub, Fit, FitAll, FitBinds, FitKeys, FitTail, FocusIn, here, later, sub_same, sub_more, sub_trans, long}

-- the variables of the query are bound, those of the context and of the prolog are in scope
pub record Ok (globals : List ℕ) (vs : List ℕ) (r : Around) (ws : List ℕ) : Type 0 where
  pub env : (v : ℕ) → In v vs → In (found r.env v) ws
  pub focus : FocusIn r.focus ws
  pub global : Sub globals ws

module _ (globals : List ℕ) where
  focus_sub : (g : Option Focus) (ws us : List ℕ) → Sub ws us → FocusIn g ws → FocusIn g us
  focus_sub None ws us p h = tt
  focus_sub (Some g) ws us p h = (p g.item h.0, p g.place h.1, p g.last h.2)

  ok_sub : (vs : List ℕ) (r : Around) (ws us : List ℕ) → Sub ws us → Ok globals vs r ws → Ok globals vs r us
  ok_sub vs r ws us p k = record { env = λ v h. p (found r.env v) (k.env v h); focus = focus_sub r.focus ws us p k.focus; global = λ x h. p x (k.global x h) }

  pub known_in : (b : Bool) (x y : ℕ) (ws : List ℕ) (rest : Bool) → In x ws → (rest ≡ true → In y ws) → (b || rest) ≡ true → In (cond b x y) ws
  known_in true x y ws rest p q h = p
  known_in false x y ws rest p q h = q h

  ok_known : (vs : List ℕ) (r : Around) (ws : List ℕ) (v x : ℕ) → In x ws → Ok globals vs r ws → Ok globals (v ∷ vs) (known v x r) ws
  unfolding known found
  ok_known vs r ws v x p k =
      record {
        env = λ u h. known_in (nat_eq v u) x (found r.env u) ws (is_member u vs) p (k.env u) (rw (same_test u v) at h);
        focus = k.focus;
        global = k.global;
      }
    where
      same_test : (u v : ℕ) → nat_eq u v ≡ nat_eq v u
      same_test u v = grind arith

  ok_place : (vs : List ℕ) (r : Around) (ws : List ℕ) (at : Option (ℕ × ℕ)) (p : ℕ) → In p ws → Ok globals vs r ws → Ok globals (at_vars at vs) (with_place at p r) ws
  unfolding with_place
  ok_place vs r ws None p h k = k
  ok_place vs r ws (Some v) p h k = ok_known vs r ws v.1 p h k

  ok_focused : (vs : List ℕ) (r : Around) (ws : List ℕ) (i p l : ℕ) → In i ws → In p ws → In l ws → Ok globals vs r ws → Ok globals vs (focused i p l r) ws
  unfolding focused
  ok_focused vs r ws i p l hi hp hl k = record { env = k.env; focus = (hi, hp, hl); global = k.global }

  -- behind the variables of a loop over the items of an expression
  ok_items : (vs : List ℕ) (r : Around) (ws : List ℕ) (y l d p : ℕ) → Ok globals vs r ws → Ok globals vs (focused d p l r) (d ∷ p ∷ l ∷ y ∷ ws)
  ok_items vs r ws y l d p k =
      ok_focused vs r (d ∷ p ∷ l ∷ y ∷ ws) d p l (here d (p ∷ l ∷ y ∷ ws)) (later p d (p ∷ l ∷ y ∷ ws) (here p (l ∷ y ∷ ws)))
      (later l d (p ∷ l ∷ y ∷ ws) (later l p (l ∷ y ∷ ws) (here l (y ∷ ws))))
      (ok_sub vs r ws (d ∷ p ∷ l ∷ y ∷ ws) (λ x h. later x d (p ∷ l ∷ y ∷ ws) (later x p (l ∷ y ∷ ws) (later x l (y ∷ ws) (later x y ws h)))) k)

  sub_two : (ws : List ℕ) (x y : ℕ) → Sub ws (x ∷ y ∷ ws)
  sub_two ws x y u h = later u x (y ∷ ws) (later u y ws h)

  -- a maker whose Core fits
  abbrev Fits : List ℕ → (Around → Makes PlainCore) → Type 0
  Fits vs p = (r : Around) (m : ℕ) (ws : List ℕ) → Ok globals vs r ws → Fit ws ((p r m).made)

  abbrev FitsAll : List ℕ → (Around → Makes PlainCores) → Type 0
  FitsAll vs p = (r : Around) (m : ℕ) (ws : List ℕ) → Ok globals vs r ws → FitAll ws ((p r m).made)

  abbrev FitsTail : List ℕ → (Around → Makes Tail) → Type 0
  FitsTail vs p = (r : Around) (m : ℕ) (ws : List ℕ) → Ok globals vs r ws → FitTail ws ((p r m).made)

  name_fits : (kind : BuildKind) (i : BuildName resolved) (base : ℕ) (bodies : ℕ → Makes Inlined) (o : ℕ) (r : Around) (m : ℕ) (a : PlainCore) → is_named kind i ≡ true →
      (k : ℕ) → rule_fits (Make (n.node_kind kind)) (content_from k ((nf.norm_name base bodies i o r m).made) (λ j. expr_from j a)) ≡ true
  unfolding norm
  name_fits build.Element (s.named i) base bodies o r m a e k = refl
  name_fits build.Element (s.computed i) base bodies o r m a e k = refl
  name_fits build.Element s.no_name base bodies o r m a e k = absurd (f.no_truth e)
  name_fits build.Attribute (s.named i) base bodies o r m a e k = refl
  name_fits build.Attribute (s.computed i) base bodies o r m a e k = refl
  name_fits build.Attribute s.no_name base bodies o r m a e k = absurd (f.no_truth e)
  name_fits build.Pi (s.named i) base bodies o r m a e k = refl
  name_fits build.Pi (s.computed i) base bodies o r m a e k = refl
  name_fits build.Pi s.no_name base bodies o r m a e k = absurd (f.no_truth e)
  name_fits build.Text s.no_name base bodies o r m a e k = refl
  name_fits build.Text (s.named i) base bodies o r m a e k = absurd (f.no_truth e)
  name_fits build.Text (s.computed i) base bodies o r m a e k = absurd (f.no_truth e)
  name_fits build.Comment s.no_name base bodies o r m a e k = refl
  name_fits build.Comment (s.named i) base bodies o r m a e k = absurd (f.no_truth e)
  name_fits build.Comment (s.computed i) base bodies o r m a e k = absurd (f.no_truth e)
  name_fits build.Document s.no_name base bodies o r m a e k = refl
  name_fits build.Document (s.named i) base bodies o r m a e k = absurd (f.no_truth e)
  name_fits build.Document (s.computed i) base bodies o r m a e k = absurd (f.no_truth e)

  module _ (may : ℕ → Type 0) (arity : ℕ → ℕ) (base : ℕ) (bodies : ℕ → Makes Inlined) where
    -- a call of a function that may be called fits, where its arguments do, in whatever scope
    abbrev pub FitBodies : Type 0
    FitBodies =
        (k : ℕ) → may k → (m o : ℕ) (as' : PlainCores) → long as' ≡ arity k → (ws : List ℕ) → Sub globals ws →
        ((us : List ℕ) → Sub ws us → FitAll us as') → Fit ws (n.inlined o ((bodies k m).made) as')

    all_long : (es : Syns resolved) (r : Around) (m : ℕ) → long ((nf.norm_all base bodies es r m).made) ≡ how_many es
    unfolding norm
    all_long s.no_more r m = refl
    all_long (s.one_more e es) r m = ap suc (all_long es r _)

    module _ (own : FitBodies) where
      called_fits : (o : ℕ) (g : Callee) (as' : PlainCores) (r : Around) (m k : ℕ) → long as' ≡ k → SoundCall may arity g k → (ws : List ℕ) →
          FocusIn r.focus ws → Sub globals ws → ((us : List ℕ) → Sub ws us → FitAll us as') → Fit ws ((nf.called base bodies o g as' r.focus m).made)
      called_fits o (callee.Known g) as' r m k e h ws hf hg hs = f.fit_known ws o g as' r.focus (subst (λ i. can_call g i ≡ true) (sym e) h) hf (hs ws (sub_same ws))
      called_fits o (callee.Declared j) as' r m k e h ws hf hg hs = own j h.0 m o as' (e ∙ sym h.1) ws hg hs

      predicate_fits : (vs : List ℕ) (p : Around → Makes PlainCore) → Fits vs p → (o : ℕ) (e : PlainCore) (r : Around) (m : ℕ) (ws : List ℕ) →
          Ok globals vs r ws → Fit ws e → Fit ws ((nf.predicate base p o e r m).made)
      predicate_fits vs p h o e r m ws k he =
          f.fit_selected ws o _ _ _ _ _ e _ he (h _ _ _ (ok_items vs r ws _ _ _ _ k))

      -- the parts of a sorted loop behind its binds
      abbrev FitsBind : List ℕ → (Around → Makes (c.Binds → c.Binds)) → Type 0
      FitsBind vs w =
          (r : Around) (m : ℕ) (ws : List ℕ) → Ok globals vs r ws → (ts : c.Binds) (ks : c.Keys) (b : PlainCore) →
          FitBinds ws ts (λ us. FitKeys us ks × Fit us b) → FitBinds ws ((w r m).made ts) (λ us. FitKeys us ks × Fit us b)

      abbrev FitsKeys : List ℕ → (Around → Makes c.Keys) → Type 0
      FitsKeys vs p = (r : Around) (m : ℕ) (ws : List ℕ) → Ok globals vs r ws → FitKeys ws ((p r m).made)

      tail_fits : (vs : List ℕ) (w : Around → Makes (c.Binds → c.Binds)) → FitsBind vs w → (i : Around → Makes PlainCore) → Fits vs i →
          (ks : Around → Makes c.Keys) → FitsKeys vs ks → (e : Around → Makes PlainCore) → Fits vs e → (d g : Bool) →
          FitsTail vs (λ r. w r ▷= λ f. i r ▷= λ a. ks r ▷= λ more. e r ▷= λ b.
          give (n.led_by f (record { binds = c.no_binds; keys = c.one_key (c.key_by a d g) more; body = b })))
      tail_fits vs w hw i hi ks hks e he d g r m ws k =
          let w' = w r m in
          let i' = i r w'.next in
          let ks' = ks r i'.next in
          let e' = e r ks'.next in
          hw r m ws k c.no_binds (c.one_key (c.key_by i'.made d g) ks'.made) e'.made ((hi r w'.next ws k, hks r i'.next ws k), he r ks'.next ws k)

      mutual
        unfolding norm

        pub law : (vs : List ℕ) (e : Syn resolved) → Sound may arity vs e → Fits vs (norm base bodies e)
        law vs (s.comma o a es) h r m ws k = f.fit_chain ws o _ _ (law vs a (so.comma_has may arity vs o a es h).0 r m ws k) (law_all vs es (so.comma_has may arity vs o a es h).1 r _ ws k)
        law vs (s.flwor o bs w s.no_keys e) h r m ws k = law_nested vs bs (so.flwor_has may arity vs o bs w s.no_keys e h).0 o _ (law_where (behind bs vs) w (so.flwor_has may arity vs o bs w s.no_keys e h).1 o _ (law (behind bs vs) e (so.flwor_has may arity vs o bs w s.no_keys e h).3)) r m ws k
        law vs (s.flwor o bs w (s.one_key i d g ks) e) h r m ws k =
            let parts = so.flwor_has may arity vs o bs w (s.one_key i d g ks) e h in
            let keys = so.one_key_has may arity (behind bs vs) i d g ks parts.2 in
            law_sorted vs bs parts.0 _
            (tail_fits (behind bs vs) (nf.sorted_where base bodies w) (law_bind (behind bs vs) w parts.1) (norm base bodies i) (law (behind bs vs) i keys.0)
            (nf.norm_keys base bodies ks) (law_keys (behind bs vs) ks keys.1) (norm base bodies e) (law (behind bs vs) e parts.3) d g) r m ws k
        law vs (s.quantified o q bs e) h r m ws k =
            f.fit_quantified ws o q _
            (law_nested vs bs (so.quantified_has may arity vs o q bs e h).0 o _ (λ q' j us ok. f.fit_witness us o q _ (f.fit_boolean us (place_of e) ((norm base bodies e q' j).made) (law (behind bs vs) e (so.quantified_has may arity vs o q bs e h).1 q' j us ok))) r m ws k)
        law vs (s.conditional o e a b) h r m ws k =
            (f.fit_boolean ws (place_of e) ((norm base bodies e r m).made) (law vs e (so.conditional_has may arity vs o e a b h).0 r m ws k), law vs a (so.conditional_has may arity vs o e a b h).1 r _ ws k, law vs b (so.conditional_has may arity vs o e a b h).2 r _ ws k)
        law vs (s.binary o g a b) h r m ws k = f.fit_binary ws o g (place_of a) (place_of b) _ _ (law vs a (so.binary_has may arity vs o g a b h).0 r m ws k) (law vs b (so.binary_has may arity vs o g a b h).1 r _ ws k)
        law vs (s.signed o g a) h r m ws k = f.fit_signed ws o g _ (law vs a (so.signed_has may arity vs o g a h) r m ws k)
        law vs (s.instance o a t) h r m ws k = law vs a (so.instance_has may arity vs o a t h) r m ws k
        law vs (s.treat o a t) h r m ws k = law vs a (so.treat_has may arity vs o a t h) r m ws k
        law vs (s.castable o a t z) h r m ws k = law vs a (so.castable_has may arity vs o a t z h) r m ws k
        law vs (s.cast o a t z) h r m ws k = law vs a (so.cast_has may arity vs o a t z h) r m ws k
        law vs (s.root o) h r m ws k = f.fit_root ws o r.focus k.focus
        law vs (s.step o x t s.absent s.no_more) h r m ws k = f.fit_dot ws o r.focus k.focus
        law vs (s.step o x t s.absent (s.one_more q qs)) h r m ws k = (
          λ j. refl,
          (
            law_predicates vs qs (so.one_more_has may arity vs q qs (so.step_has may arity vs o x t s.absent (s.one_more q qs) h).1).1 o _ r _ ws k
                (predicate_fits vs (norm base bodies q) (law vs q (so.one_more_has may arity vs q qs (so.step_has may arity vs o x t s.absent (s.one_more q qs) h).1).0) o _ r m ws k (f.fit_counted ws o x _ (f.fit_dot ws o r.focus k.focus))),
            tt,
          ),
        )
        law vs (s.step o x t (s.present a) s.no_more) h r m ws k = law vs a (so.present_has may arity vs a (so.step_has may arity vs o x t (s.present a) s.no_more h).0) r m ws k
        law vs (s.step o x t (s.present a) (s.one_more q qs)) h r m ws k =
            let a' = norm base bodies a r m in
            let d = base + a'.next in
            let p = base + (a'.next + 1) in
            let inner = ok_sub vs r ws (d ∷ p ∷ ws) (sub_two ws d p) k in (
              λ j. refl,
              (
                (
                  law vs a (so.present_has may arity vs a (so.step_has may arity vs o x t (s.present a) (s.one_more q qs) h).0) r m ws k,
                  law_predicates vs qs (so.one_more_has may arity vs q qs (so.step_has may arity vs o x t (s.present a) (s.one_more q qs) h).1).1 o _ r _ (d ∷ p ∷ ws) inner
                      (predicate_fits vs (norm base bodies q) (law vs q (so.one_more_has may arity vs q qs (so.step_has may arity vs o x t (s.present a) (s.one_more q qs) h).1).0) o _ r _ (d ∷ p ∷ ws) inner (f.fit_counted (d ∷ p ∷ ws) o x (c.Step o start.Path x t (c.Var o d)) (here d (p ∷ ws)))),
                ),
                tt,
              ),
            )
        law vs (s.through o a b) h r m ws k =
            let a' = norm base bodies a r m in
            let i = a'.next in
            let y = base + i in
            let l = base + (i + 1) in
            let d = base + (i + 1 + 1) in
            let x = base + (i + 1 + 1 + 1) in
            let b' = norm base bodies b (focused d x l r) (i + 1 + 1 + 1 + 1) in
            f.fit_path ws o y l d x a'.made b'.made (law vs a (so.through_has may arity vs o a b h).0 r m ws k)
            (law vs b (so.through_has may arity vs o a b h).1 (focused d x l r) (i + 1 + 1 + 1 + 1) (d ∷ x ∷ l ∷ y ∷ ws) (ok_items vs r ws y l d x k))
        law vs (s.filtered o a qs) h r m ws k = law_predicates vs qs (so.filtered_has may arity vs o a qs h).1 o _ r _ ws k (law vs a (so.filtered_has may arity vs o a qs h).0 r m ws k)
        law vs (s.integer o z) h r m ws k = tt
        law vs (s.text o v) h r m ws k = tt
        law vs (s.var o v) h r m ws k = k.env v (so.var_has may arity vs o v h)
        law vs (s.paren o s.absent) h r m ws k = tt
        law vs (s.paren o (s.present e)) h r m ws k = law vs e (so.present_has may arity vs e (so.paren_has may arity vs o (s.present e) h)) r m ws k
        law vs (s.dot o) h r m ws k = f.fit_dot ws o r.focus k.focus
        law vs (s.call o g es) h r m ws k =
            called_fits o g _ r _ (how_many es) (all_long es r m) (so.call_has may arity vs o g es h).0 ws k.focus k.global (λ us sub. law_all vs es (so.call_has may arity vs o g es h).1 r m us (ok_sub vs r ws us sub k))
        law vs (s.build o kind i e) h r m ws k =
            (name_fits kind i base bodies o r m _ (so.build_has may arity vs o kind i e h).0, law_name vs i (so.build_has may arity vs o kind i e h).1 o r m ws k, law_content vs e (so.build_has may arity vs o kind i e h).2 o r _ ws k)
        law vs (s.element o i as' ps) h r m ws k =
            (λ j. refl, (tt, tt), f.fit_sequence ws o _ (law_attrs vs as' (so.element_has may arity vs o i as' ps h).0 _ (λ q j us ok. law_parts vs ps (so.element_has may arity vs o i as' ps h).1 false o q j us ok) r m ws k))
        law vs (s.comment o v) h r m ws k = (λ j. refl, tt, tt)
        law vs (s.instruction o i v) h r m ws k = (λ j. refl, (tt, tt), tt)

        law_all : (vs : List ℕ) (es : Syns resolved) → SoundAll may arity vs es → FitsAll vs (nf.norm_all base bodies es)
        law_all vs s.no_more h r m ws k = tt
        law_all vs (s.one_more e es) h r m ws k = (law vs e (so.one_more_has may arity vs e es h).0 r m ws k, law_all vs es (so.one_more_has may arity vs e es h).1 r _ ws k)

        law_nested : (vs : List ℕ) (bs : Binds resolved) → SoundBinds may arity vs bs → (o : ℕ) (last : Around → Makes PlainCore) → Fits (behind bs vs) last →
            Fits vs (nf.nested base bodies bs o last)
        law_nested vs s.no_binds h o last fits r m ws k = fits r m ws k
        law_nested vs (s.for_bind i v t at e bs) h o last fits r m ws k =
            let a' = norm base bodies e r m in
            let y = base + a'.next in
            let p = base + (a'.next + 1) in (
              law vs e (so.for_bind_has may arity vs i v t at e bs h).0 r m ws k,
              f.fit_tested base (place_of e) t y (a'.next + 1 + 1) (y ∷ p ∷ ws) _ (here y (p ∷ ws))
                  (λ us sub x_in. law_nested (v ∷ at_vars at vs) bs (so.for_bind_has may arity vs i v t at e bs h).1 o last fits _ _ us
                  (ok_known (at_vars at vs) (with_place at p r) us v _ x_in
                  (ok_place vs r us at p (sub p (later p y (p ∷ ws) (here p ws)))
                  (ok_sub vs r ws us (sub_trans ws (y ∷ p ∷ ws) us (sub_two ws y p) sub) k)))),
            )
        law_nested vs (s.let_bind i v t e bs) h o last fits r m ws k =
            let a' = norm base bodies e r m in
            let y = base + a'.next in (
              law vs e (so.let_bind_has may arity vs i v t e bs h).0 r m ws k,
              f.fit_tested base (place_of e) t y (a'.next + 1) (y ∷ ws) _ (here y ws)
                  (λ us sub x_in. law_nested (v ∷ vs) bs (so.let_bind_has may arity vs i v t e bs h).1 o last fits _ _ us
                  (ok_known vs r us v _ x_in (ok_sub vs r ws us (sub_trans ws (y ∷ ws) us (sub_more ws y) sub) k))),
            )

        law_where : (vs : List ℕ) (w : Maybe resolved) → SoundMaybe may arity vs w → (o : ℕ) (last : Around → Makes PlainCore) → Fits vs last →
            Fits vs (nf.norm_where base bodies w o last)
        law_where vs s.absent h o last fits r m ws k = fits r m ws k
        law_where vs (s.present e) h o last fits r m ws k = (f.fit_boolean ws (place_of e) ((norm base bodies e r m).made) (law vs e (so.present_has may arity vs e h) r m ws k), fits r _ ws k, tt)

        law_bind : (vs : List ℕ) (w : Maybe resolved) → SoundMaybe may arity vs w → FitsBind vs (nf.sorted_where base bodies w)
        law_bind vs s.absent h r m ws k ts ks b rest = rest
        law_bind vs (s.present e) h r m ws k ts ks b rest = (f.fit_boolean ws (place_of e) ((norm base bodies e r m).made) (law vs e (so.present_has may arity vs e h) r m ws k), rest)

        law_sorted : (vs : List ℕ) (bs : Binds resolved) → SoundBinds may arity vs bs → (last : Around → Makes Tail) → FitsTail (behind bs vs) last →
            FitsTail vs (nf.sorted base bodies bs last)
        law_sorted vs s.no_binds h last fits r m ws k = fits r m ws k
        law_sorted vs (s.for_bind i v t at e bs) h last fits r m ws k =
            let a' = norm base bodies e r m in
            let y = base + a'.next in
            let p = base + (a'.next + 1) in (
              law vs e (so.for_bind_has may arity vs i v t at e bs h).0 r m ws k,
              f.fit_tested_bind base (place_of e) t y (a'.next + 1 + 1) (y ∷ p ∷ ws) _ _ (here y (p ∷ ws))
                  (λ us sub x_in. law_sorted (v ∷ at_vars at vs) bs (so.for_bind_has may arity vs i v t at e bs h).1 last fits _ _ us
                  (ok_known (at_vars at vs) (with_place at p r) us v _ x_in
                  (ok_place vs r us at p (sub p (later p y (p ∷ ws) (here p ws)))
                  (ok_sub vs r ws us (sub_trans ws (y ∷ p ∷ ws) us (sub_two ws y p) sub) k)))),
            )
        law_sorted vs (s.let_bind i v t e bs) h last fits r m ws k =
            let a' = norm base bodies e r m in
            let y = base + a'.next in (
              law vs e (so.let_bind_has may arity vs i v t e bs h).0 r m ws k,
              f.fit_tested_bind base (place_of e) t y (a'.next + 1) (y ∷ ws) _ _ (here y ws)
                  (λ us sub x_in. law_sorted (v ∷ vs) bs (so.let_bind_has may arity vs i v t e bs h).1 last fits _ _ us
                  (ok_known vs r us v _ x_in (ok_sub vs r ws us (sub_trans ws (y ∷ ws) us (sub_more ws y) sub) k))),
            )

        law_keys : (vs : List ℕ) (ks : Keys resolved) → SoundKeys may arity vs ks → (r : Around) (m : ℕ) (ws : List ℕ) → Ok globals vs r ws →
            FitKeys ws ((nf.norm_keys base bodies ks r m).made)
        law_keys vs s.no_keys h r m ws k = tt
        law_keys vs (s.one_key e d g ks) h r m ws k = (law vs e (so.one_key_has may arity vs e d g ks h).0 r m ws k, law_keys vs ks (so.one_key_has may arity vs e d g ks h).1 r _ ws k)

        law_predicates : (vs : List ℕ) (qs : Syns resolved) → SoundAll may arity vs qs → (o : ℕ) (e : PlainCore) (r : Around) (m : ℕ) (ws : List ℕ) →
            Ok globals vs r ws → Fit ws e → Fit ws ((nf.predicates base bodies qs o e r m).made)
        law_predicates vs s.no_more h o e r m ws k he = he
        law_predicates vs (s.one_more q qs) h o e r m ws k he = law_predicates vs qs (so.one_more_has may arity vs q qs h).1 o _ r _ ws k (predicate_fits vs (norm base bodies q) (law vs q (so.one_more_has may arity vs q qs h).0) o e r m ws k he)

        law_name : (vs : List ℕ) (i : BuildName resolved) → SoundName may arity vs i → (o : ℕ) → FitsAll vs (nf.norm_name base bodies i o)
        law_name vs s.no_name h o r m ws k = tt
        law_name vs (s.named i) h o r m ws k = (tt, tt)
        law_name vs (s.computed e) h o r m ws k = (law vs e (so.computed_has may arity vs e h) r m ws k, tt)

        law_content : (vs : List ℕ) (e : Maybe resolved) → SoundMaybe may arity vs e → (o : ℕ) → Fits vs (nf.norm_content base bodies e o)
        law_content vs s.absent h o r m ws k = tt
        law_content vs (s.present e) h o r m ws k = law vs e (so.present_has may arity vs e h) r m ws k

        law_values : (vs : List ℕ) (us : Values resolved) → SoundValues may arity vs us → (o : ℕ) → FitsAll vs (nf.norm_values base bodies us o)
        law_values vs s.no_values h o r m ws k = tt
        law_values vs (s.value_run t us) h o r m ws k = (tt, law_values vs us (so.value_run_has may arity vs t us h) o r m ws k)
        law_values vs (s.value_brace e us) h o r m ws k = ((λ j. refl, (law vs e (so.value_brace_has may arity vs e us h).0 r m ws k, tt)), law_values vs us (so.value_brace_has may arity vs e us h).1 o r _ ws k)

        law_attrs : (vs : List ℕ) (as' : Attributes resolved) → SoundAttributes may arity vs as' → (rest : Around → Makes PlainCores) → FitsAll vs rest →
            (r : Around) (m : ℕ) (ws : List ℕ) → Ok globals vs r ws → FitAll ws ((nf.norm_attributes base bodies as' r rest m).made)
        law_attrs vs s.no_attributes h rest fits r m ws k = fits r m ws k
        law_attrs vs (s.attribute o i us as') h rest fits r m ws k =
            ((λ j. refl, (tt, tt), f.fit_value ws o _ (law_values vs us (so.attribute_has may arity vs o i us as' h).0 o r m ws k)), law_attrs vs as' (so.attribute_has may arity vs o i us as' h).1 rest fits r _ ws k)

        law_parts : (vs : List ℕ) (ps : Parts resolved) → SoundParts may arity vs ps → (z : Bool) (o : ℕ) → FitsAll vs (nf.norm_parts base bodies ps z o)
        law_parts vs s.no_parts h z o r m ws k = tt
        law_parts vs (s.run t ps) h z o r m ws k = f.fit_run ws t.is_boundary o t.text _ (law_parts vs ps (so.run_has may arity vs t ps h) (t.is_boundary && z) o r m ws k)
        law_parts vs (s.brace e ps) h z o r m ws k = f.fit_brace ws z o _ _ (law vs e (so.brace_has may arity vs e ps h).0 r m ws k) (law_parts vs ps (so.brace_has may arity vs e ps h).1 true o r _ ws k)
        law_parts vs (s.inner e ps) h z o r m ws k = (law vs e (so.inner_has may arity vs e ps h).0 r m ws k, law_parts vs ps (so.inner_has may arity vs e ps h).1 false o r _ ws k)
