-- How often a Core binds a variable, and that of the pieces of a Core.
use Rattle.std.proofs.Common.{◌≡◌, refl, ℕ, ◌+◌, ◌≤◌, nat_eq, nat_lt, Bool, true, false, cond, Option, Some, None, List, [], ◌∷◌, arith}
use Rattle.xq_base.specs.declared.axis.Axis.{Axis}
use Rattle.xq_base.specs.declared.fun.AtomKind.{AtomKind}
use Rattle.xq_base.specs.declared.fun.Fun.{Fun}
use Rattle.xq_base.specs.declared.fun.Fun.TheVariants as fun
use Rattle.xq_base.specs.Texts.{Text}
use Rattle.core_meaning.specs.Types.{SequenceTest}
use Rattle.core_meaning.specs.PlainCore.{PlainCore, PlainCores}
use Rattle.core_meaning.specs.PlainCore as c
use Rattle.xq_ast.specs.declared.leaf.Operator.{Operator}
use Rattle.xq_ast.specs.declared.leaf.Quantifier.{Quantifier}
use Rattle.xq_ast.specs.declared.leaf.Quantifier.TheVariants as quantifier
use Rattle.xq_ast.specs.declared.leaf.Sign.{Sign}
use Rattle.xq_ast.specs.declared.leaf.Sign.TheVariants as sign
use Rattle.core_normal.specs.Around.{Focus}
use Rattle.core_normal.specs.Pieces as n
use Rattle.core_normal.specs.Pieces.{Inlined, Tail}
use Rattle.core_normal.specs.Normal.{bound}

module _ (x : ℕ) where
  -- one, if it is this variable
  unfoldable pub one : ℕ → ℕ
  one y = cond (nat_eq x y) 1 0

  -- one, if the variable is below a number
  pub below : ℕ → ℕ
  below y = cond (nat_lt x y) 1 0

  pub below-most : (y : ℕ) → below y ≤ 1
  unfolding below
  below-most y = grind arith

  -- a new variable stands behind those before it
  pub one_more : (base m : ℕ) → one (base + m) + below (base + m) ≤ below (base + (m + 1))
  unfolding one below
  one_more base m = grind arith

  pub one_below : (y : ℕ) → one y + below y ≤ below (y + 1)
  unfolding one below
  one_below y = grind arith

  -- how often the variable is bound
  abbrev mutual
    pub times : PlainCore → ℕ
    times (c.Lit o a) = 0
    times (c.Empty o) = 0
    times (c.Seq o a b) = times a + times b
    times (c.Var o y) = 0
    times (c.Let o y a b) = one y + (times a + times b)
    times (c.For o y p a b) = one y + (one p + (times a + times b))
    times (c.Sorted o ts ks b) = times_binds ts + (times_keys ks + times b)
    times (c.If o a b d) = times a + (times b + times d)
    times (c.Call o f as') = times_all as'
    times (c.Step o f y t a) = times a
    times (c.Build o k name a) = times_all name + times a
    times (c.Instance o a t) = times a
    times (c.Treat o a t) = times a
    times (c.Convert o a t) = times a
    times (c.Cast o a k m) = times a
    times (c.Castable o a k m) = times a
    times (c.Fail o e) = 0

    pub times_all : PlainCores → ℕ
    times_all c.no_cores = 0
    times_all (c.one_core a as') = times a + times_all as'

    pub times_binds : c.Binds → ℕ
    times_binds c.no_binds = 0
    times_binds (c.one_bind (c.for_bind y p a) ts) = one y + (one p + (times a + times_binds ts))
    times_binds (c.one_bind (c.let_bind y a) ts) = one y + (times a + times_binds ts)
    times_binds (c.one_bind (c.where_bind a) ts) = times a + times_binds ts

    pub times_keys : c.Keys → ℕ
    times_keys c.no_keys = 0
    times_keys (c.one_key (c.key_by a g e) ks) = times a + times_keys ks

  abbrev pub times_tail : Tail → ℕ
  times_tail t = times_binds t.binds + (times_keys t.keys + times t.body)

  abbrev pub ones : List ℕ → ℕ
  ones [] = 0
  ones (y ∷ ys) = one y + ones ys

  -- a declared function's body with its parameters
  abbrev pub times_inlined : Inlined → ℕ
  times_inlined f = ones f.vars + times f.body

  pub times_dot : (o : ℕ) (f : Option Focus) → times (n.dot_at o f) ≡ 0
  unfolding n.dot_at
  times_dot o None = refl
  times_dot o (Some f) = refl

  pub times_place : (o : ℕ) (f : Option Focus) → times (n.place_at o f) ≡ 0
  unfolding n.place_at
  times_place o None = refl
  times_place o (Some f) = refl

  pub times_last : (o : ℕ) (f : Option Focus) → times (n.last_at o f) ≡ 0
  unfolding n.last_at
  times_last o None = refl
  times_last o (Some f) = refl

  pub times_chain : (o : ℕ) (e : PlainCore) (as' : PlainCores) → times (n.chain o e as') ≡ times e + times_all as'
  times_chain o e c.no_cores = omega arith
  times_chain o e (c.one_core a as') = omega (arith, times_chain o (c.Seq o e a) as')

  pub times_sequence : (o : ℕ) (as' : PlainCores) → times (n.sequence o as') ≡ times_all as'
  times_sequence o c.no_cores = refl
  times_sequence o (c.one_core a as') = times_chain o a as'

  pub times_value : (o : ℕ) (as' : PlainCores) → times (n.value_of o as') ≡ times_all as'
  times_value o c.no_cores = refl
  times_value o (c.one_core a c.no_cores) = omega arith
  times_value o (c.one_core a (c.one_core b as')) = refl

  pub times_operand : (f : Operator) (o : ℕ) (a : PlainCore) → times (n.operand f o a) ≡ times a
  times_operand f o a = at (n.is_logical f)
    where
      at : (b : Bool) → times (cond b (n.boolean o a) a) ≡ times a
      at true = omega arith
      at false = refl

  pub times_counted : (o : ℕ) (y : Axis) (a : PlainCore) → times (n.counted o y a) ≡ times a
  unfolding n.counted
  times_counted o y a = at (n.is_reverse y)
    where
      at : (b : Bool) → times (cond b (c.Call o fun.Reverse (n.one a)) a) ≡ times a
      at true = omega arith
      at false = refl

  pub times_selected : (o y l d p v : ℕ) (e a : PlainCore) → times (n.selected o e y l d p v a) ≡ times e + (one y + (one l + (one d + (one p + (one v + times a)))))
  unfolding n.selected
  times_selected o y l d p v e a = omega arith

  pub times_path : (o y l d p : ℕ) (e a : PlainCore) → times (n.for_each_node o e y l d p a) ≡ times e + (one y + (one l + (one d + (one p + times a))))
  times_path o y l d p e a = omega arith

  pub times_converted : (o : ℕ) (t : Option SequenceTest) (a : PlainCore) → times (n.converted o t a) ≡ times a
  times_converted o None a = refl
  times_converted o (Some t) a = refl

  pub times_params : (o : ℕ) (ys : List ℕ) (ts : List (Option SequenceTest)) (as' : PlainCores) (e : PlainCore) →
      times (n.with_params o ys ts as' e) ≤ ones ys + (times_all as' + times e)
  times_params o [] ts as' e = omega arith
  times_params o (y ∷ ys) [] as' e = omega arith
  times_params o (y ∷ ys) (t ∷ ts) c.no_cores e = omega arith
  times_params o (y ∷ ys) (t ∷ ts) (c.one_core a as') e = omega (arith, times_params o ys ts as' e, times_converted o t a)

  pub times_of_inlined : (o : ℕ) (f : Inlined) (as' : PlainCores) → times (n.inlined o f as') ≤ times_inlined f + times_all as'
  times_of_inlined o f as' = omega (arith, times_params o f.vars f.types as' (n.converted o f.result f.body), times_converted o f.result f.body)

  pub times_cast : (o : ℕ) (k : AtomKind) (g : Fun) (as' : PlainCores) → times (n.cast_to o k g as') ≤ times_all as'
  times_cast o k g c.no_cores = omega arith
  times_cast o k g (c.one_core a c.no_cores) = omega arith
  times_cast o k g (c.one_core a (c.one_core b as')) = omega arith

  of_dot : (o : ℕ) (g : Fun) (as' : PlainCores) (d : PlainCore) → times d ≡ 0 → times (n.of_dot o g as' d) ≤ times_all as'
  of_dot o g c.no_cores d e = omega (arith, e)
  of_dot o g (c.one_core a as') d e = omega arith

  text_of_dot : (o : ℕ) (f : Option Focus) → times (c.Call o fun.StringOf (n.one (n.dot_at o f))) ≡ 0
  text_of_dot o f = omega (arith, times_dot o f)

  no_more : (a : PlainCore) (as' : PlainCores) → times a ≡ 0 → times a ≤ times_all as'
  no_more a as' e = omega (arith, e)

  pub times_known : (o : ℕ) (g : Fun) (as' : PlainCores) (f : Option Focus) → times (n.built_in_call o g as' f) ≤ times_all as'
  times_known o fun.Position as' f = no_more (n.place_at o f) as' (times_place o f)
  times_known o fun.Last as' f = no_more (n.last_at o f) as' (times_last o f)
  times_known o fun.Error as' f = omega arith
  times_known o fun.XsInteger as' f = times_cast o _ _ as'
  times_known o fun.XsString as' f = times_cast o _ _ as'
  times_known o fun.XsBoolean as' f = times_cast o _ _ as'
  times_known o fun.XsUntypedAtomic as' f = times_cast o _ _ as'
  times_known o fun.Root as' f = of_dot o fun.Root as' (n.dot_at o f) (times_dot o f)
  times_known o fun.StringOf as' f = of_dot o fun.StringOf as' (n.dot_at o f) (times_dot o f)
  times_known o fun.Name as' f = of_dot o fun.Name as' (n.dot_at o f) (times_dot o f)
  times_known o fun.LocalName as' f = of_dot o fun.LocalName as' (n.dot_at o f) (times_dot o f)
  times_known o fun.StringLength as' f = of_dot o fun.StringLength as' (c.Call o fun.StringOf (n.one (n.dot_at o f))) (text_of_dot o f)
  times_known o fun.NormalizeSpace as' f = of_dot o fun.NormalizeSpace as' (c.Call o fun.StringOf (n.one (n.dot_at o f))) (text_of_dot o f)
  times_known o g as' f = omega arith

  pub times_signed : (o : ℕ) (g : Sign) (a : PlainCore) → times (n.signed_core o g a) ≡ times a
  times_signed o sign.Plus a = omega arith
  times_signed o sign.Minus a = omega arith

  pub times_witness : (o : ℕ) (q : Quantifier) (a : PlainCore) → times (n.witness o q a) ≡ times a
  times_witness o quantifier.Some a = omega arith
  times_witness o quantifier.Every a = omega arith

  pub times_quantified : (o : ℕ) (q : Quantifier) (a : PlainCore) → times (n.quantified o q a) ≡ times a
  times_quantified o quantifier.Some a = omega arith
  times_quantified o quantifier.Every a = omega arith

  -- the test of a bind's type has a new variable, or none
  pub times_tested : (base o : ℕ) (t : Option SequenceTest) (y m : ℕ) (e : PlainCore) →
      times (n.tested o t y ((bound base t y m).made) e) + below (base + m) ≤ times e + below (base + (bound base t y m).next)
  unfolding bound
  times_tested base o None y m e = omega arith
  times_tested base o (Some t) y m e = omega (arith, one_more base m)

  pub times_tested_bind : (base o : ℕ) (t : Option SequenceTest) (y m : ℕ) (ts : c.Binds) →
      times_binds (n.tested_bind o t y ((bound base t y m).made) ts) + below (base + m) ≤ times_binds ts + below (base + (bound base t y m).next)
  unfolding bound
  times_tested_bind base o None y m ts = omega arith
  times_tested_bind base o (Some t) y m ts = omega (arith, one_more base m)

  -- content: boundary space is dropped, and an empty text keeps neighbouring braces apart
  pub times_run : (b : Bool) (o : ℕ) (t : Text) (more : PlainCores) → times_all (cond b more (c.one_core (n.text_node o t) more)) ≡ times_all more
  times_run true o t more = refl
  times_run false o t more = omega arith

  pub times_brace : (b : Bool) (o : ℕ) (a : PlainCore) (more : PlainCores) →
      times_all (cond b (c.one_core (n.text_node o []) (c.one_core a more)) (c.one_core a more)) ≡ times a + times_all more
  times_brace true o a more = omega arith
  times_brace false o a more = refl
