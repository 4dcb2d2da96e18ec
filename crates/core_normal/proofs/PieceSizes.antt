-- The size of a piece of a Core is what `Sizes` tells of its parts.
use Rattle.std.proofs.Common.{◌≡◌, refl, ap, ℕ, Bool, true, false, cond, Option, Some, None, List, [], ◌∷◌}
use Rattle.xq_base.specs.declared.axis.Axis.{Axis}
use Rattle.xq_base.specs.declared.fun.AtomKind.{AtomKind}
use Rattle.xq_base.specs.declared.fun.Fun.{Fun}
use Rattle.xq_base.specs.declared.fun.Fun.TheVariants as fun
use Rattle.xq_base.specs.Texts.{Text}
use Rattle.doc_table.specs.Tree.{AttributeNode}
use Rattle.core_meaning.specs.Types.{SequenceTest}
use Rattle.core_meaning.specs.PlainCore.{PlainCore, PlainCores}
use Rattle.core_meaning.specs.PlainCore as c
use Rattle.xq_ast.specs.declared.leaf.Operator.{Operator}
use Rattle.core_normal.specs.Around.{Focus}
use Rattle.core_normal.specs.Pieces as n
use Rattle.core_normal.specs.Pieces.{Tail, dot_at, place_at, last_at, counted}
use Rattle.core_normal.specs.Sizes as sz
use Rattle.core_normal.specs.Sizes.{Size, beside, over}
use Rattle.core_normal.proofs.Measured.{size, size_all, size_binds, size_keys, sizes, AsLong}

pub size_of_path : (a b : PlainCore) (x y : Size) → size a ≡ x → size b ≡ y → over (sz.one (over (beside (size a) (size b)))) ≡ over (sz.one (over (beside x y)))
size_of_path a b x y d e = simp (d, e)

size_of_all : (as' : PlainCores) → size_all as' ≡ sz.all (sizes as')
size_of_all c.no_cores = refl
size_of_all (c.one_core a as') = ap (λ t. beside (size a) t) (size_of_all as')

pub size_of_chain : (o : ℕ) (e : PlainCore) (as' : PlainCores) → size (n.chain o e as') ≡ sz.chain (size e) (sizes as')
size_of_chain o e c.no_cores = refl
size_of_chain o e (c.one_core a as') = size_of_chain o (c.Seq o e a) as'

pub size_of_converted : (o : ℕ) (t : Option SequenceTest) (a : PlainCore) → size (n.converted o t a) ≡ sz.converted t (size a)
size_of_converted o None a = refl
size_of_converted o (Some t) a = refl

pub size_of_counted : (o : ℕ) (x : Axis) (a : PlainCore) → size (n.counted o x a) ≡ sz.counted x (size a)
unfolding counted
size_of_counted o x a = at (n.is_reverse x)
  where
    at : (b : Bool) → size (cond b (c.Call o fun.Reverse (n.one a)) a) ≡ (cond b (over (sz.one (size a))) (size a))
    at true = refl
    at false = refl

pub size_of_operand : (f : Operator) (o : ℕ) (a : PlainCore) → size (n.operand f o a) ≡ sz.operand f (size a)
size_of_operand f o a = at (n.is_logical f)
  where
    at : (b : Bool) → size (cond b (n.boolean o a) a) ≡ (cond b (sz.boolean (size a)) (size a))
    at true = refl
    at false = refl

size_of_value : (o : ℕ) (as' : PlainCores) → size (n.value_of o as') ≡ sz.value_of (sizes as')
size_of_value o c.no_cores = refl
size_of_value o (c.one_core a c.no_cores) = refl
size_of_value o (c.one_core a (c.one_core b as')) = ap (λ t. over (beside (size a) (beside (size b) t))) (size_of_all as')

size_of_sequence : (o : ℕ) (as' : PlainCores) → size (n.sequence o as') ≡ sz.sequence (sizes as')
size_of_sequence o c.no_cores = refl
size_of_sequence o (c.one_core a as') = size_of_chain o a as'

pub size_of_tested : (o : ℕ) (t : Option SequenceTest) (y x : ℕ) (a : PlainCore) → size (n.tested o t y x a) ≡ sz.tested t (size a)
size_of_tested o None y x a = refl
size_of_tested o (Some t) y x a = refl

size_of_bind : (o : ℕ) (t : Option SequenceTest) (y x : ℕ) (ts : c.Binds) → size_binds (n.tested_bind o t y x ts) ≡ sz.tested_bind t (size_binds ts)
size_of_bind o None y x a = refl
size_of_bind o (Some t) y x a = refl

pub open_focus : (o : ℕ) (f : Option Focus) → size (n.dot_at o f) ≡ sz.leaf
unfolding dot_at
open_focus o None = refl
open_focus o (Some f) = refl

open_place : (o : ℕ) (f : Option Focus) → size (n.place_at o f) ≡ sz.leaf
unfolding place_at
open_place o None = refl
open_place o (Some f) = refl

open_last : (o : ℕ) (f : Option Focus) → size (n.last_at o f) ≡ sz.leaf
unfolding last_at
open_last o None = refl
open_last o (Some f) = refl

size_of_cast : (o : ℕ) (k : AtomKind) (g : Fun) (as' : PlainCores) → size (n.cast_to o k g as') ≡ sz.cast_to (sizes as')
size_of_cast o k g c.no_cores = refl
size_of_cast o k g (c.one_core a c.no_cores) = refl
size_of_cast o k g (c.one_core a (c.one_core b as')) = ap (λ t. over (beside (size a) (beside (size b) t))) (size_of_all as')

size_of_dot : (o : ℕ) (g : Fun) (as' : PlainCores) (dot : PlainCore) (d : Size) → size dot ≡ d → size (n.of_dot o g as' dot) ≡ sz.of_dot (sizes as') d
size_of_dot o g c.no_cores dot d e = ap (λ t. over (sz.one t)) e
size_of_dot o g (c.one_core a as') dot d e = ap (λ t. over (beside (size a) t)) (size_of_all as')

string_of_dot : (o : ℕ) (f : Option Focus) → size (c.Call o fun.StringOf (n.one (n.dot_at o f))) ≡ over (sz.one sz.leaf)
string_of_dot o f = ap (λ t. over (sz.one t)) (open_focus o f)

pub size_of_call : (o : ℕ) (g : Fun) (as' : PlainCores) (f : Option Focus) → size (n.built_in_call o g as' f) ≡ sz.built_in_call g (sizes as')
size_of_call o fun.Position as' f = open_place o f
size_of_call o fun.Last as' f = open_last o f
size_of_call o fun.Error as' f = refl
size_of_call o fun.XsInteger as' f = size_of_cast o _ _ as'
size_of_call o fun.XsString as' f = size_of_cast o _ _ as'
size_of_call o fun.XsBoolean as' f = size_of_cast o _ _ as'
size_of_call o fun.XsUntypedAtomic as' f = size_of_cast o _ _ as'
size_of_call o fun.Root as' f = size_of_dot o _ as' _ _ (open_focus o f)
size_of_call o fun.StringOf as' f = size_of_dot o _ as' _ _ (open_focus o f)
size_of_call o fun.Name as' f = size_of_dot o _ as' _ _ (open_focus o f)
size_of_call o fun.LocalName as' f = size_of_dot o _ as' _ _ (open_focus o f)
size_of_call o fun.StringLength as' f = size_of_dot o _ as' _ _ (string_of_dot o f)
size_of_call o fun.NormalizeSpace as' f = size_of_dot o _ as' _ _ (string_of_dot o f)
size_of_call o g as' f = ap over (size_of_all as')

pub size_of_params : (o : ℕ) (xs : List ℕ) (ts : List (Option SequenceTest)) (as' : PlainCores) (e : PlainCore) → AsLong xs ts →
    size (n.with_params o xs ts as' e) ≡ sz.with_params ts (sizes as') (size e)
size_of_params o [] [] as' e l = refl
size_of_params o [] (t ∷ ts) as' e l = elim l [ ]
size_of_params o (x ∷ xs) [] as' e l = elim l [ ]
size_of_params o (x ∷ xs) (t ∷ ts) c.no_cores e l = refl
size_of_params o (x ∷ xs) (t ∷ ts) (c.one_core a as') e l = simp (size_of_converted, size_of_params o xs ts as' e l)

pub same_size : (o : ℕ) (t : Option SequenceTest) (a : PlainCore) → size (n.converted o t a) ≡ size (n.converted 0 t a)
same_size o None a = refl
same_size o (Some t) a = refl

pub record TailSize (t : Tail) (ts ks b : Size) : Type 0 where
  pub binds : size_binds t.binds ≡ ts
  pub keys : size_keys t.keys ≡ ks
  pub body : size t.body ≡ b

pub run_law : (b : Bool) (o : ℕ) (t : Text) (more : PlainCores) (w : List Size) → sizes more ≡ w →
    sizes (cond b more (c.one_core (n.text_node o t) more)) ≡ cond b w (sz.text_node ∷ w)
run_law true o t more w e = e
run_law false o t more w e = ap (λ v. sz.text_node ∷ v) e

pub brace_law : (b : Bool) (o : ℕ) (a : PlainCore) (v : Size) (more : PlainCores) (w : List Size) → size a ≡ v → sizes more ≡ w →
    sizes (cond b (c.one_core (n.text_node o []) (c.one_core a more)) (c.one_core a more)) ≡ cond b (sz.text_node ∷ v ∷ w) (v ∷ w)
brace_law true o a v more w d e = simp (d, e)
brace_law false o a v more w d e = simp (d, e)

pub size_sorted : (o : ℕ) (t : Tail) (ts ks b : Size) → TailSize t ts ks b → size (n.sorted_core o t) ≡ over (beside ts (beside ks b))
size_sorted o t ts ks b h = simp (h.binds, h.keys, h.body)

pub element_law : (o : ℕ) (as' : PlainCores) (w : List Size) → sizes as' ≡ w →
    over (beside (sz.one sz.leaf) (size (n.sequence o as'))) ≡ over (beside (sz.one sz.leaf) (sz.sequence w))
element_law o as' w e = simp (size_of_sequence, e)

pub for_bind_law : (o y q x : ℕ) (a : PlainCore) (t : Option SequenceTest) (ts : c.Binds) (v w : Size) → size a ≡ v → size_binds ts ≡ w →
    size_binds (c.one_bind (c.for_bind y q a) (n.tested_bind o t y x ts)) ≡ beside v (sz.tested_bind t w)
for_bind_law o y q x a t ts v w d e = simp (size_of_bind, d, e)

pub let_bind_law : (o y x : ℕ) (a : PlainCore) (t : Option SequenceTest) (ts : c.Binds) (v w : Size) → size a ≡ v → size_binds ts ≡ w →
    size_binds (c.one_bind (c.let_bind y a) (n.tested_bind o t y x ts)) ≡ beside v (sz.tested_bind t w)
let_bind_law o y x a t ts v w d e = simp (size_of_bind, d, e)

pub attribute_law : (o : ℕ) (t : Text) (ps : PlainCores) (v : List Size) (more : PlainCores) (w : List Size) → sizes ps ≡ v → sizes more ≡ w →
    sizes (c.one_core (c.Build o AttributeNode (n.one (n.text_lit o t)) (n.value_of o ps)) more) ≡ (over (beside (sz.one sz.leaf) (sz.value_of v)) ∷ w)
attribute_law o t ps v more w d e = simp (size_of_value, d, e)
