-- Calls: arguments of built-in functions, parameters round a body, and bodies moved.
use Rattle.std.proofs.Common.{◌≡◌, refl, sym, ap, ◌∙◌, ℕ, suc, zero, ◌+◌, ◌<◌, ◌≤◌, List, [], ◌∷◌, ◌++◌, length, Option, Some, None, arith}
use Rattle.std.specs.Prelude.{slice_get, true}
use Rattle.xq_base.specs.declared.fun.AtomKind.{AtomKind}
use Rattle.xq_base.specs.declared.fun.Fun.{Fun}
use Rattle.xq_base.specs.declared.fun.Fun.TheVariants as fun_
use Rattle.core_meaning.specs.declared.node.Core.{Core}
use Rattle.core_meaning.specs.declared.node.SeqType.{SeqType}
use Rattle.core_meaning.specs.Erasure.{Texts, core_of}
use Rattle.core_meaning.specs.PlainCore.{PlainCore, PlainCores}
use Rattle.core_meaning.specs.PlainCore as c
use Rattle.xq_ast.specs.declared.leaf.Callee.{Callee}
use Rattle.xq_ast.specs.declared.leaf.Callee.TheVariants as callee
use Rattle.core_scope.specs.Syn.{Syns, resolved}
use Rattle.core_scope.specs.Syn as s
use Rattle.core_normal.specs.declared.pieces.Context.{Context}
use Rattle.core_normal.specs.declared.bodies.Bodies.{Bodies}
use Rattle.core_normal.specs.declared.bodies.State.{State}
use Rattle.core_normal.specs.declared.bodies.Template.{Template}
use Rattle.core_normal.specs.Around.{Focus}
use Rattle.core_normal.specs.Calling.{IsInlined, normed_called, param_in}
use Rattle.core_normal.specs.Fresh.{Made}
use Rattle.core_normal.specs.Held.{focus_of, type_in}
use Rattle.core_normal.specs.Making.{MadeBy, bodies_in, cores_in, normed, normed_all, template_at, template_of, types_in}
use Rattle.core_normal.specs.Normal.{called, norm}
use Rattle.core_normal.specs.Pieces.{Inlined, built_in_call, cast_to, converted, inlined, of_dot, one, with_params}
use Rattle.core_normal.specs.Shift as shift
use Rattle.core_normal.specs.Standing.{vars_in}
use Rattle.core_normal.proofs.Made.{then_made}
use Rattle.core_normal.proofs.NormForms.{made_with}

-- one argument, and none or several
pub cast_one : (t : Texts) (o : ℕ) (k : AtomKind) (g : Fun) (args rest : List Core) (a : Core) → length args ≡ 1 → args ≡ rest ++ a ∷ [] → cast_to o k g (cores_in t args) ≡ c.Cast o (core_of t a) k true
cast_one t o k g args [] a n e = ap (λ l. cast_to o k g (cores_in t l)) e
cast_one t o k g args (b ∷ []) a n e = let two : length args ≡ 2 = ap length e in cc
cast_one t o k g args (b ∷ d ∷ rest) a n e = let more : length args ≡ suc (suc (length (rest ++ a ∷ []))) = ap length e in cc

pub cast_other : (t : Texts) (o : ℕ) (k : AtomKind) (g : Fun) (args : List Core) → (length args ≡ 1 → ⊥) → cast_to o k g (cores_in t args) ≡ c.Call o g (cores_in t args)
cast_other t o k g [] n = refl
cast_other t o k g (a ∷ []) n = absurd (n refl)
cast_other t o k g (a ∷ b ∷ args) n = refl

pub some_args : (t : Texts) (o : ℕ) (g : Fun) (args : List Core) (d : PlainCore) → 0 < length args → of_dot o g (cores_in t args) d ≡ c.Call o g (cores_in t args)
some_args t o g [] d n = absurd (omega (arith, n))
some_args t o g (a ∷ args) d n = refl

pub no_args : (t : Texts) (o : ℕ) (g : Fun) (args : List Core) (d : PlainCore) → length args ≤ 0 → of_dot o g (cores_in t args) d ≡ c.Call o g (one d)
no_args t o g [] d n = refl
no_args t o g (a ∷ args) d n = absurd (omega (arith, n))

-- a call of a function by its name
pub named_call : (t : Texts) (o : ℕ) (g h : Fun) (args : List Core) (f : Option Context) (core : PlainCore) (w : Fun → PlainCore) → g ≡ h → core ≡ w g →
    w h ≡ built_in_call o h (cores_in t args) (focus_of f) → core ≡ built_in_call o g (cores_in t args) (focus_of f)
named_call t o g h args f core w q m same = m ∙ ap w q ∙ same ∙ sym (ap (λ k. built_in_call o k (cores_in t args) (focus_of f)) q)

-- and of one that stays as it is written
pub plain_call : (o : ℕ) (g : Fun) (as' : PlainCores) (f : Option Focus) → (g ≡ fun_.Position → ⊥) → (g ≡ fun_.Last → ⊥) → (g ≡ fun_.Error → ⊥) → (g ≡ fun_.XsInteger → ⊥) → (g ≡ fun_.XsString → ⊥) →
    (g ≡ fun_.XsBoolean → ⊥) → (g ≡ fun_.XsUntypedAtomic → ⊥) → (g ≡ fun_.Root → ⊥) → (g ≡ fun_.StringOf → ⊥) →
    (g ≡ fun_.Name → ⊥) → (g ≡ fun_.LocalName → ⊥) → (g ≡ fun_.StringLength → ⊥) → (g ≡ fun_.NormalizeSpace → ⊥) → built_in_call o g as' f ≡ c.Call o g as'
plain_call o fun_.Position as' f n _ _ _ _ _ _ _ _ _ _ _ _ = absurd (n refl)
plain_call o fun_.Last as' f _ n _ _ _ _ _ _ _ _ _ _ _ = absurd (n refl)
plain_call o fun_.Error as' f _ _ n _ _ _ _ _ _ _ _ _ _ = absurd (n refl)
plain_call o fun_.XsInteger as' f _ _ _ n _ _ _ _ _ _ _ _ _ = absurd (n refl)
plain_call o fun_.XsString as' f _ _ _ _ n _ _ _ _ _ _ _ _ = absurd (n refl)
plain_call o fun_.XsBoolean as' f _ _ _ _ _ n _ _ _ _ _ _ _ = absurd (n refl)
plain_call o fun_.XsUntypedAtomic as' f _ _ _ _ _ _ n _ _ _ _ _ _ = absurd (n refl)
plain_call o fun_.Root as' f _ _ _ _ _ _ _ n _ _ _ _ _ = absurd (n refl)
plain_call o fun_.StringOf as' f _ _ _ _ _ _ _ _ n _ _ _ _ = absurd (n refl)
plain_call o fun_.Name as' f _ _ _ _ _ _ _ _ _ n _ _ _ = absurd (n refl)
plain_call o fun_.LocalName as' f _ _ _ _ _ _ _ _ _ _ n _ _ = absurd (n refl)
plain_call o fun_.StringLength as' f _ _ _ _ _ _ _ _ _ _ _ n _ = absurd (n refl)
plain_call o fun_.NormalizeSpace as' f _ _ _ _ _ _ _ _ _ _ _ _ n = absurd (n refl)
plain_call o g as' f _ _ _ _ _ _ _ _ _ _ _ _ _ = refl

-- the body that a place holds
pub held : (t : Texts) (bs : List (Option Template)) (k : ℕ) (b : Template) → slice_get bs k ≡ Some (Some b) → template_at t bs k ≡ template_of t b
held t [] k b e = cc
held t (None ∷ bs) zero b e = cc
held t (Some x ∷ bs) zero b e = let same : x ≡ b = cc in ap (template_of t) same
held t (x ∷ bs) (suc k) b e = held t bs k b e

module _ (t : Texts) (o base d : ℕ) where
  without_args : (xs : List ℕ) (ts : List (Option SeqType)) (e : PlainCore) → with_params o (shift.vars base d xs) (types_in t ts) c.no_cores e ≡ e
  without_args [] ts e = refl
  without_args (x ∷ xs) [] e = refl
  without_args (x ∷ xs) (ty ∷ ts) e = refl

  no_type : (x : Option ℕ) (a e : PlainCore) → param_in t o base d x None a e ≡ e
  no_type None a e = refl
  no_type (Some x) a e = refl

  -- the last argument
  pub last_param : (xs : List ℕ) (ts : List (Option SeqType)) (left : List Core) (a : Core) (e : PlainCore) →
      with_params o (shift.vars base d xs) (types_in t ts) (cores_in t (left ++ a ∷ [])) e
      ≡ with_params o (shift.vars base d xs) (types_in t ts) (cores_in t left) (param_in t o base d (slice_get xs (length left)) (slice_get ts (length left)) (core_of t a) e)
  last_param [] ts left a e = refl
  last_param (x ∷ xs) [] [] a e = refl
  last_param (x ∷ xs) [] (b ∷ left) a e = sym (no_type (slice_get xs (length left)) (core_of t a) e)
  last_param (x ∷ xs) (ty ∷ ts) [] a e = ap (c.Let o (shift.moved base d x) (converted o (type_in t ty) (core_of t a))) (without_args xs ts e)
  last_param (x ∷ xs) (ty ∷ ts) (b ∷ left) a e = ap (c.Let o (shift.moved base d x) (converted o (type_in t ty) (core_of t b))) (last_param xs ts left a e)

  pub params_turn : (xs : List ℕ) (ts : List (Option SeqType)) (before left : List Core) (a e more : Core) (i : ℕ) →
      before ≡ left ++ a ∷ [] → i ≡ length left →
      core_of t more ≡ param_in t o base d (slice_get xs i) (slice_get ts i) (core_of t a) (core_of t e) →
      with_params o (shift.vars base d xs) (types_in t ts) (cores_in t before) (core_of t e) ≡ with_params o (shift.vars base d xs) (types_in t ts) (cores_in t left) (core_of t more)
  params_turn xs ts before left a e more i q count m =
      ap (λ l. with_params o (shift.vars base d xs) (types_in t ts) (cores_in t l) (core_of t e)) q ∙ last_param xs ts left a (core_of t e)
      ∙ ap (with_params o (shift.vars base d xs) (types_in t ts) (cores_in t left)) (ap (λ k. param_in t o base d (slice_get xs k) (slice_get ts k) (core_of t a) (core_of t e)) (sym count) ∙ sym m)

  -- a parameter that is there
  pub param_made : (vs : Option ℕ) (ts : Option (Option SeqType)) (x y : ℕ) (ty : Option SeqType) (a e value core : Core) → Some x ≡ vs → Some ty ≡ ts → y ≡ shift.moved base d x →
      core_of t value ≡ converted o (type_in t ty) (core_of t a) → core_of t core ≡ c.Let o y (core_of t value) (core_of t e) → core_of t core ≡ param_in t o base d vs ts (core_of t a) (core_of t e)
  param_made vs ts x y ty a e value core var type_is moved made is =
      is ∙ ap (λ z. c.Let o z (core_of t value) (core_of t e)) moved ∙ ap (λ z. c.Let o (shift.moved base d x) z (core_of t e)) made
      ∙ ap (λ z. param_in t o base d z (Some ty) (core_of t a) (core_of t e)) var ∙ ap (λ z. param_in t o base d vs z (core_of t a) (core_of t e)) type_is

  pub params_end : (xs : List ℕ) (ts : List (Option SeqType)) (left : List Core) (e : PlainCore) → left ≡ [] → with_params o (shift.vars base d xs) (types_in t ts) (cores_in t left) e ≡ e
  params_end xs ts [] e q = without_args xs ts e
  params_end xs ts (a ∷ left) e q = cc

-- a body moved over the arguments
pub inlined_made : (p : Bodies) (s0 s1 : State) (o k : ℕ) (args : List Core) (b : Template) (core : Core) → ((t : Texts) → template_at t p.templates.items k ≡ template_of t b) →
    ((t : Texts) → core_of t core ≡ inlined o (shift.inlined p.base s0.next ((template_of t b).made)) (cores_in t args)) → s1.next ≡ s0.next + b.made → vars_in s1.vars ≡ vars_in s0.vars →
    IsInlined p s0 o k args core s1
inlined_made p s0 s1 o k args b core at is next same = record {
  made = λ t.
      ap (λ (m : Made Inlined). made_with (inlined o (shift.inlined p.base s0.next m.made) (cores_in t args)) (s0.next + m.next)) (at t)
      ∙ ap (λ a. made_with a (s0.next + b.made)) (sym (is t)) ∙ ap (λ n. made_with (core_of t core) n) (sym next);
  same = same;
}

pub called_declared : (p : Bodies) (s0 s1 : State) (f : Option Context) (o k : ℕ) (g : Callee) (args : List Core) (core : Core) → g ≡ callee.Declared k → IsInlined p s0 o k args core s1 →
    MadeBy core_of p s0 f (normed_called p o g args) core s1
unfolding normed_called
called_declared p s0 s1 f o k g args core q i = record {
  made = λ t env z vs. ap (λ h. called p.base (bodies_in t p) o h (cores_in t args) (focus_of f) s0.next) q ∙ i.made t;
  same = i.same;
}

pub called_known : (p : Bodies) (s0 : State) (f : Option Context) (o : ℕ) (h : Fun) (g : Callee) (args : List Core) (core : Core) → g ≡ callee.Known h →
    ((t : Texts) → core_of t core ≡ built_in_call o h (cores_in t args) (focus_of f)) → MadeBy core_of p s0 f (normed_called p o g args) core s0
unfolding normed_called
called_known p s0 f o h g args core q i = record {
  made = λ t env z vs. ap (λ y. called p.base (bodies_in t p) o y (cores_in t args) (focus_of f) s0.next) q ∙ ap (λ a. made_with a s0.next) (sym (i t));
  same = refl;
}

pub call_made : {p : Bodies} {s0 s1 s2 : State} {f : Option Context} (o : ℕ) (g : Callee) (es : Texts → Syns resolved) (args : List Core) (core : Core) → MadeBy cores_in p s0 f (normed_all p es) args s1 →
    MadeBy core_of p s1 f (normed_called p o g args) core s2 → MadeBy core_of p s0 f (normed p (λ t. s.call o g (es t))) core s2
unfolding normed normed_all norm normed_called
call_made {p = p} o g es args core h i = then_made (normed_all p es) (λ t as' r. called p.base (bodies_in t p) o g as' r.focus) h i
