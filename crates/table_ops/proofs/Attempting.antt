-- A function on the cells of a row is a call.
use Rattle.std.proofs.Common.{ℕ, ◌<◌, arith, ◌≡◌, ◌∙◌, Bool, true, false, ◌&&◌, ◌||◌, List, [], ◌∷◌, length, map, refl, sym, ap, true≢false, Ok, Err}
use Rattle.std.specs.List.{list_all}
use Rattle.std.proofs.lemmas.Bool.{eqb-true}
use Rattle.xq_base.specs.declared.code.Code.{Code}
use Rattle.xq_base.specs.declared.fun.Fun.{Fun}
use Rattle.xq_base.specs.declared.fun.Fun.TheVariants as f
use Rattle.xq_base.specs.declared.item.Item.{Item}
use Rattle.xq_base.specs.declared.item.Item.TheVariants as i
use Rattle.xq_base.specs.Texts.{Text}
use Rattle.doc_table.specs.Functions.{fun_answer}
use Rattle.doc_table.specs.NodeRules.{Docs}
use Rattle.doc_table.specs.Stores.{Holdings}
use Rattle.doc_table.specs.Items.{item_of}
use Rattle.doc_table.specs.StoredItems.{meanings, trees_of}
use Rattle.xq_funs.specs.declared.fault.FunFault.TheVariants as x
use Rattle.xq_funs.specs.Calls.{Gives, values, is_unary, is_binary, is_ternary}
use Rattle.xq_funs.specs.NodeCalls.{is_of_node, is_node_comparison}
use Rattle.xq_funs.specs.CallRules.{is_call, is_constant, is_concat, is_connective, is_boolean}
use Rattle.plan_dag.specs.Cells.{Silent, Fails}
use Rattle.plan_dag.specs.Schema.{takes}
use Rattle.plan_dag.specs.ItemRules.{fun_outcome, outcome_of}
use Rattle.table_ops.specs.declared.attempts.Attempt.TheVariants as t
use Rattle.table_ops.specs.Attempts.{outcome_in}

false≢true : false ≡ true → ⊥
false≢true e = true≢false (sym e)

none : (fun : Fun) → takes fun 0 ≡ true → true ≡ is_constant fun
none f.True e = refl
none f.False e = refl
none _ e = absurd (false≢true e)

one : (fun : Fun) → takes fun 1 ≡ true → true ≡ (is_unary fun || is_of_node fun)
one f.Doc e = refl
one f.Root e = refl
one f.StringOf e = refl
one f.Name e = refl
one f.LocalName e = refl
one f.StringLength e = refl
one f.NormalizeSpace e = refl
one f.Abs e = refl
one f.XsInteger e = refl
one f.XsString e = refl
one f.XsBoolean e = refl
one f.XsUntypedAtomic e = refl
one f.Negate e = refl
one f.Atomize e = refl
one f.QName e = refl
one f.PiTarget e = refl
one (f.IsKind kind) e = refl
one (f.CastTo kind) e = refl
one _ e = absurd (false≢true e)

two : (fun : Fun) (b : Bool) → takes fun 2 ≡ true → is_connective fun ≡ false → true ≡ (is_concat fun || (is_binary fun || (is_node_comparison fun || (is_connective fun && b))))
two f.Concat b e c = refl
two f.Contains b e c = refl
two f.StartsWith b e c = refl
two f.EndsWith b e c = refl
two f.SubstringBefore b e c = refl
two f.SubstringAfter b e c = refl
two f.Substring b e c = refl
two f.Compare b e c = refl
two f.Add b e c = refl
two f.Subtract b e c = refl
two f.Multiply b e c = refl
two f.IntegerDivide b e c = refl
two f.Modulo b e c = refl
two f.Eq b e c = refl
two f.Ne b e c = refl
two f.Lt b e c = refl
two f.Le b e c = refl
two f.Gt b e c = refl
two f.Ge b e c = refl
two f.Is b e c = refl
two f.Before b e c = refl
two f.After b e c = refl
two f.And b e c = absurd (true≢false c)
two f.Or b e c = absurd (true≢false c)
two _ b e c = absurd (false≢true e)

three : (fun : Fun) → takes fun 3 ≡ true → true ≡ (is_concat fun || is_ternary fun)
three f.Concat e = refl
three f.Substring e = refl
three f.Translate e = refl
three _ e = absurd (false≢true e)

many : (fun : Fun) (n : ℕ) → 3 < n → takes fun n ≡ true → true ≡ is_concat fun
many f.Concat n h e = refl
many _ n h e = absurd (grind (arith, h, e))

pub other_call : (fun : Fun) (args : List Item) → takes fun (length args) ≡ true → is_connective fun ≡ false → true ≡ is_call fun args
other_call fun [] e c = none fun e
other_call fun (a ∷ []) e c = one fun e
other_call fun (a ∷ b ∷ []) e c = two fun (is_boolean a && is_boolean b) e c
other_call fun (a ∷ b ∷ d ∷ []) e c = three fun e
other_call fun (a ∷ b ∷ d ∷ g ∷ args) e c = many fun (length (a ∷ b ∷ d ∷ g ∷ args)) (omega arith) e

-- of `and` and `or`
connected : (fun : Fun) (b : Bool) → is_connective fun ≡ true → b ≡ (is_concat fun || (is_binary fun || (is_node_comparison fun || (is_connective fun && b))))
connected f.And b c = refl
connected f.Or b c = refl
connected _ b c = absurd (false≢true c)

not_none : (fun : Fun) → is_connective fun ≡ true → takes fun 0 ≡ true → ⊥
not_none f.And c e = false≢true e
not_none f.Or c e = false≢true e
not_none _ c e = false≢true c

not_one : (fun : Fun) → is_connective fun ≡ true → takes fun 1 ≡ true → ⊥
not_one f.And c e = false≢true e
not_one f.Or c e = false≢true e
not_one _ c e = false≢true c

not_more : (fun : Fun) (n : ℕ) → 2 < n → is_connective fun ≡ true → takes fun n ≡ true → ⊥
not_more f.And n h c e = let same = eqb-true n 2 e in omega (arith, h, same)
not_more f.Or n h c e = let same = eqb-true n 2 e in omega (arith, h, same)
not_more _ n h c e = false≢true c

and_true : (b : Bool) → (b && true) ≡ b
and_true true = refl
and_true false = refl

pub connective_call : (fun : Fun) (args : List Item) → takes fun (length args) ≡ true → is_connective fun ≡ true → list_all is_boolean args ≡ is_call fun args
connective_call fun [] e c = absurd (not_none fun c e)
connective_call fun (a ∷ []) e c = absurd (not_one fun c e)
connective_call fun (a ∷ b ∷ []) e c = ap (λ z. is_boolean a && z) (and_true (is_boolean b)) ∙ connected fun (is_boolean a && is_boolean b) c
connective_call fun (a ∷ b ∷ d ∷ args) e c = absurd (not_more fun (length (a ∷ b ∷ d ∷ args)) (omega arith) c e)

-- what it gives
valued_call : (texts : List Text) (h : Holdings) (args : List Item) → map (λ v. v ∷ []) (meanings texts h args) ≡ values texts h args
valued_call texts h [] = refl
valued_call texts h (a ∷ args) = ap (λ z. (item_of texts (trees_of h) a ∷ []) ∷ z) (valued_call texts h args)

module _ (docs : Docs) (fun : Fun) (old new : List Text) (h : Holdings) (args : List Item) (wants : Bool) where
  pub gives_value : (item : Item) → Gives wants new h (fun_answer docs fun (values old h args)) (Ok item) → outcome_in new h (t.Value item) ≡ fun_outcome docs fun (meanings old h args)
  gives_value item g = sym (ap outcome_of (ap (fun_answer docs fun) (valued_call old h args) ∙ g.0))

  pub gives_code : (code : Code) → Gives wants new h (fun_answer docs fun (values old h args)) (Err (x.Code code)) → outcome_in new h (t.Fails code) ≡ fun_outcome docs fun (meanings old h args)
  gives_code code g = sym (ap outcome_of (ap (fun_answer docs fun) (valued_call old h args) ∙ g))

both_silent : (docs : Docs) (fun : Fun) (texts : List Text) (h : Holdings) (a b : Item) → is_connective fun ≡ true → (is_boolean a && is_boolean b) ≡ false → Silent ≡ fun_outcome docs fun (meanings texts h (a ∷ b ∷ []))
both_silent docs f.And texts h (i.Int z) b c e = refl
both_silent docs f.And texts h (i.Str z) b c e = refl
both_silent docs f.And texts h (i.Untyped z) b c e = refl
both_silent docs f.And texts h (i.Node z) b c e = refl
both_silent docs f.And texts h (i.Bool z) (i.Int y) c e = refl
both_silent docs f.And texts h (i.Bool z) (i.Str y) c e = refl
both_silent docs f.And texts h (i.Bool z) (i.Untyped y) c e = refl
both_silent docs f.And texts h (i.Bool z) (i.Node y) c e = refl
both_silent docs f.And texts h (i.Bool z) (i.Bool y) c e = absurd (true≢false e)
both_silent docs f.Or texts h (i.Int z) b c e = refl
both_silent docs f.Or texts h (i.Str z) b c e = refl
both_silent docs f.Or texts h (i.Untyped z) b c e = refl
both_silent docs f.Or texts h (i.Node z) b c e = refl
both_silent docs f.Or texts h (i.Bool z) (i.Int y) c e = refl
both_silent docs f.Or texts h (i.Bool z) (i.Str y) c e = refl
both_silent docs f.Or texts h (i.Bool z) (i.Untyped y) c e = refl
both_silent docs f.Or texts h (i.Bool z) (i.Node y) c e = refl
both_silent docs f.Or texts h (i.Bool z) (i.Bool y) c e = absurd (true≢false e)
both_silent docs _ texts h a b c e = absurd (false≢true c)

-- what is no call gives nothing
pub silent : (docs : Docs) (fun : Fun) (texts : List Text) (h : Holdings) (args : List Item) → takes fun (length args) ≡ true → is_call fun args ≡ false → Silent ≡ fun_outcome docs fun (meanings texts h args)
silent docs fun args' h args e n = by (is_connective fun) refl
  where
    by : (b : Bool) → is_connective fun ≡ b → Silent ≡ fun_outcome docs fun (meanings args' h args)
    by false c = absurd (true≢false (other_call fun args e c ∙ n))
    by true c = at args e n c
      where
        at : (args : List Item) → takes fun (length args) ≡ true → is_call fun args ≡ false → is_connective fun ≡ true → Silent ≡ fun_outcome docs fun (meanings args' h args)
        at [] e n c = absurd (not_none fun c e)
        at (a ∷ []) e n c = absurd (not_one fun c e)
        at (a ∷ b ∷ []) e n c = both_silent docs fun args' h a b c (connected fun (is_boolean a && is_boolean b) c ∙ n)
        at (a ∷ b ∷ d ∷ more) e n c = absurd (not_more fun (length (a ∷ b ∷ d ∷ more)) (omega arith) c e)
