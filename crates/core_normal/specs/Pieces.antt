-- Small pieces of a Core (Formal Semantics, section 4), each at a place in the query.
use Rattle.std.specs.Prelude.{ℕ, Bool, true, false, cond, Option, Some, None, List, [], ◌∷◌, pos}
use Rattle.xq_base.specs.declared.axis.Axis.{Axis}
use Rattle.xq_base.specs.declared.axis.Axis.TheVariants as axis
use Rattle.xq_base.specs.declared.code.Code.TheVariants as code
use Rattle.xq_base.specs.declared.fun.AtomKind.{AtomKind}
use Rattle.xq_base.specs.declared.fun.AtomKind.TheVariants as kind
use Rattle.xq_base.specs.declared.fun.Fun.{Fun}
use Rattle.xq_base.specs.declared.fun.Fun.TheVariants as fun
use Rattle.xq_base.specs.Atoms.{IntAtom, TextAtom, BoolAtom}
use Rattle.xq_base.specs.Texts.{Text}
use Rattle.doc_table.specs.Tree.{NodeKind, DocumentNode, ElementNode, AttributeNode, TextNode, CommentNode, InstructionNode}
use Rattle.doc_table.specs.Axes.{Test, AnyNode, IsDocumentNode}
use Rattle.core_meaning.specs.declared.node.Occurs.TheVariants as occurs
use Rattle.core_meaning.specs.Types.{AtomOf, NodeOf, SequenceTest, ItemsOf}
use Rattle.core_meaning.specs.PlainCore.{PlainCore, PlainCores, Binds, Keys}
use Rattle.core_meaning.specs.PlainCore as c
use Rattle.xq_ast.specs.declared.leaf.Operator.{Operator}
use Rattle.xq_ast.specs.declared.leaf.Operator.TheVariants as op
use Rattle.xq_ast.specs.declared.leaf.Quantifier.{Quantifier}
use Rattle.xq_ast.specs.declared.leaf.Quantifier.TheVariants as quantifier
use Rattle.xq_ast.specs.declared.leaf.Sign.{Sign}
use Rattle.xq_ast.specs.declared.leaf.Sign.TheVariants as sign
use Rattle.xq_ast.specs.declared.leaf.BuildKind.{BuildKind}
use Rattle.xq_ast.specs.declared.leaf.BuildKind.TheVariants as build
use Rattle.core_normal.specs.Around.{Focus}

abbrev pub one : PlainCore → PlainCores
one a = c.one_core a c.no_cores

abbrev pub two : PlainCore → PlainCore → PlainCores
two a b = c.one_core a (c.one_core b c.no_cores)

-- the effective boolean value (Formal Semantics, section 3.4.3)
abbrev pub boolean : ℕ → PlainCore → PlainCore
boolean o a = c.Call o fun.Boolean (one a)

-- the nodes of a path's result in document order
abbrev pub ordered : ℕ → PlainCore → PlainCore
ordered o a = c.Call o fun.PathOrder (one a)

abbrev pub once : Test Text → SequenceTest
once t = ItemsOf (NodeOf t) occurs.One

abbrev pub integer_once : SequenceTest
integer_once = ItemsOf (AtomOf kind.Integer) occurs.One

abbrev pub text_lit : ℕ → Text → PlainCore
text_lit o t = c.Lit o (TextAtom t)

abbrev pub true_lit : ℕ → PlainCore
true_lit o = c.Lit o (BoolAtom true)

abbrev pub node_kind : BuildKind → NodeKind
node_kind build.Element = ElementNode
node_kind build.Attribute = AttributeNode
node_kind build.Text = TextNode
node_kind build.Comment = CommentNode
node_kind build.Pi = InstructionNode
node_kind build.Document = DocumentNode

-- the test of the type of the value of a variable
abbrev pub typed : ℕ → ℕ → SequenceTest → PlainCore
typed o y t = c.If o (c.Instance o (c.Var o y) t) (c.Var o y) (c.Fail o code.XPTY0004)

-- the axes that go backwards (XQuery 1.0, section 3.2.1.1)
abbrev pub is_reverse : Axis → Bool
is_reverse axis.Parent = true
is_reverse axis.Ancestor = true
is_reverse axis.PrecedingSibling = true
is_reverse axis.Preceding = true
is_reverse axis.AncestorOrSelf = true
is_reverse _ = false

-- what the predicates of a step number: along a backward axis from its end
unfoldable pub counted : ℕ → Axis → PlainCore → PlainCore
counted o x a = cond (is_reverse x) (c.Call o fun.Reverse (one a)) a

-- the context item, its position and the size; XPDY0002 where there is none (section 2.1.2)
unfoldable pub dot_at : ℕ → Option Focus → PlainCore
dot_at o None = c.Fail o code.XPDY0002
dot_at o (Some f) = c.Var o f.item

unfoldable pub place_at : ℕ → Option Focus → PlainCore
place_at o None = c.Fail o code.XPDY0002
place_at o (Some f) = c.Var o f.place

unfoldable pub last_at : ℕ → Option Focus → PlainCore
last_at o None = c.Fail o code.XPDY0002
last_at o (Some f) = c.Var o f.last

-- a leading slash (section 3.2)
abbrev pub document_root : ℕ → Option Focus → PlainCore
document_root o f =
    (c.Treat o (c.Call o fun.Root (one (dot_at o f))) (once IsDocumentNode))

abbrev pub root_at : ℕ → Option Focus → PlainCore
root_at o f = c.If o (c.Instance o (dot_at o f) (once AnyNode)) (document_root o f) (c.Fail o code.XPTY0020)

-- whether the value v of a predicate selects the item at a place (section 3.3.2)
abbrev pub chosen : ℕ → ℕ → ℕ → PlainCore
chosen o v place =
    c.If o (c.Instance o (c.Var o v) integer_once)
    (c.Call o fun.Eq (two (c.Var o v) (c.Var o place)))
    (boolean o (c.Var o v))

abbrev pub kept : ℕ → ℕ → ℕ → ℕ → PlainCore → PlainCore
kept o dot place v p = c.Let o v p (c.If o (chosen o v place) (c.Var o dot) (c.Empty o))

abbrev pub with_last : ℕ → ℕ → ℕ → PlainCore → PlainCore
with_last o y last e = c.Let o last (c.Call o fun.Count (one (c.Var o y))) e

-- the items of e for which the value v of the predicate p selects them
unfoldable pub selected : ℕ → PlainCore → ℕ → ℕ → ℕ → ℕ → ℕ → PlainCore → PlainCore
selected o e y last dot place v p =
    c.Let o y e (with_last o y last (c.For o dot place (c.Var o y) (kept o dot place v p)))

-- an expression m where an item is a node, and this for each item of a variable
abbrev pub over_node : ℕ → ℕ → PlainCore → PlainCore
over_node o dot m = c.If o (c.Instance o (c.Var o dot) (once AnyNode)) m (c.Fail o code.XPTY0019)

abbrev pub each_ordered : ℕ → ℕ → ℕ → ℕ → PlainCore → PlainCore
each_ordered o y dot place m = ordered o (c.For o dot place (c.Var o y) (over_node o dot m))

-- an expression m for each node of e (section 3.2)
abbrev pub for_each_node : ℕ → PlainCore → ℕ → ℕ → ℕ → ℕ → PlainCore → PlainCore
for_each_node o e y last dot place m = c.Let o y e (with_last o y last (each_ordered o y dot place m))

-- a cast by a function of the type's name (XQuery 1.0 and XPath 2.0 Functions and Operators, section 5)
abbrev pub cast_to : ℕ → AtomKind → Fun → PlainCores → PlainCore
cast_to o k g (c.one_core a c.no_cores) = c.Cast o a k true
cast_to o k g as' = c.Call o g as'

-- a function that takes the context item where it has no argument
abbrev pub of_dot : ℕ → Fun → PlainCores → PlainCore → PlainCore
of_dot o g c.no_cores dot = c.Call o g (one dot)
of_dot o g as' dot = c.Call o g as'

-- a call of a built-in function
abbrev pub built_in_call : ℕ → Fun → PlainCores → Option Focus → PlainCore
built_in_call o fun.Position as' f = place_at o f
built_in_call o fun.Last as' f = last_at o f
built_in_call o fun.Error as' f = c.Fail o code.FOER0000
built_in_call o fun.XsInteger as' f = cast_to o kind.Integer fun.XsInteger as'
built_in_call o fun.XsString as' f = cast_to o kind.Text fun.XsString as'
built_in_call o fun.XsBoolean as' f = cast_to o kind.Boolean fun.XsBoolean as'
built_in_call o fun.XsUntypedAtomic as' f = cast_to o kind.Untyped fun.XsUntypedAtomic as'
built_in_call o fun.Root as' f = of_dot o fun.Root as' (dot_at o f)
built_in_call o fun.StringOf as' f = of_dot o fun.StringOf as' (dot_at o f)
built_in_call o fun.Name as' f = of_dot o fun.Name as' (dot_at o f)
built_in_call o fun.LocalName as' f = of_dot o fun.LocalName as' (dot_at o f)
built_in_call o fun.StringLength as' f = of_dot o fun.StringLength as' (c.Call o fun.StringOf (one (dot_at o f)))
built_in_call o fun.NormalizeSpace as' f = of_dot o fun.NormalizeSpace as' (c.Call o fun.StringOf (one (dot_at o f)))
built_in_call o g as' f = c.Call o g as'

-- the function conversion rules, where a type is written (XQuery 1.0, section 3.1.5)
abbrev pub converted : ℕ → Option SequenceTest → PlainCore → PlainCore
converted o None a = a
converted o (Some t) a = c.Convert o a t

-- the parameters over the converted arguments, round the body
abbrev pub with_params : ℕ → List ℕ → List (Option SequenceTest) → PlainCores → PlainCore → PlainCore
with_params o (x ∷ xs) (t ∷ ts) (c.one_core a as') e = c.Let o x (converted o t a) (with_params o xs ts as' e)
with_params o _ _ _ e = e

-- a declared function's body, made anew: its parameters' variables and types, the body's Core, its type
pub record Inlined : Type 0 where
  pub vars : List ℕ
  pub types : List (Option SequenceTest)
  pub body : PlainCore
  pub result : Option SequenceTest

abbrev pub inlined : ℕ → Inlined → PlainCores → PlainCore
inlined o f as' = with_params o f.vars f.types as' (converted o f.result f.body)

-- one after the other, to the left
abbrev pub chain : ℕ → PlainCore → PlainCores → PlainCore
chain o e c.no_cores = e
chain o e (c.one_core a as') = chain o (c.Seq o e a) as'

abbrev pub sequence : ℕ → PlainCores → PlainCore
sequence o c.no_cores = c.Empty o
sequence o (c.one_core a as') = chain o a as'

-- the value of an attribute (section 3.7.1.1)
abbrev pub value_of : ℕ → PlainCores → PlainCore
value_of o c.no_cores = text_lit o []
value_of o (c.one_core a c.no_cores) = a
value_of o (c.one_core a (c.one_core b as')) = c.Call o fun.Concat (c.one_core a (c.one_core b as'))

abbrev pub text_node : ℕ → Text → PlainCore
text_node o t = c.Build o TextNode c.no_cores (text_lit o t)

-- the condition of a quantifier, and the quantifier over it (section 3.11)
abbrev pub witness : ℕ → Quantifier → PlainCore → PlainCore
witness o quantifier.Some a = c.If o a (true_lit o) (c.Empty o)
witness o quantifier.Every a = c.If o a (c.Empty o) (true_lit o)

abbrev pub quantified : ℕ → Quantifier → PlainCore → PlainCore
quantified o quantifier.Some a = c.Call o fun.Exists (one a)
quantified o quantifier.Every a = c.Call o fun.Empty (one a)

-- the function of an operator
abbrev pub fun_of : Operator → Fun
fun_of op.Or = fun.Or
fun_of op.And = fun.And
fun_of op.GeneralEq = fun.GeneralEq
fun_of op.GeneralNe = fun.GeneralNe
fun_of op.GeneralLt = fun.GeneralLt
fun_of op.GeneralLe = fun.GeneralLe
fun_of op.GeneralGt = fun.GeneralGt
fun_of op.GeneralGe = fun.GeneralGe
fun_of op.Eq = fun.Eq
fun_of op.Ne = fun.Ne
fun_of op.Lt = fun.Lt
fun_of op.Le = fun.Le
fun_of op.Gt = fun.Gt
fun_of op.Ge = fun.Ge
fun_of op.Is = fun.Is
fun_of op.Before = fun.Before
fun_of op.After = fun.After
fun_of op.To = fun.To
fun_of op.Add = fun.Add
fun_of op.Subtract = fun.Subtract
fun_of op.Multiply = fun.Multiply
fun_of op.IntegerDivide = fun.IntegerDivide
fun_of op.Modulo = fun.Modulo
fun_of op.Union = fun.Union
fun_of op.Intersect = fun.Intersect
fun_of op.Except = fun.Except

-- `or` and `and` take effective boolean values (section 3.6)
abbrev pub is_logical : Operator → Bool
is_logical op.And = true
is_logical op.Or = true
is_logical _ = false

abbrev pub operand : Operator → ℕ → PlainCore → PlainCore
operand f o a = cond (is_logical f) (boolean o a) a

-- a sign (section 3.4)
abbrev pub signed_core : ℕ → Sign → PlainCore → PlainCore
signed_core o sign.Plus a = c.Call o fun.Add (two (c.Lit o (IntAtom (pos 0))) a)
signed_core o sign.Minus a = c.Call o fun.Negate (one a)

-- the test of a bind's type: around what follows, and among the binds of a sorted loop
abbrev pub tested : ℕ → Option SequenceTest → ℕ → ℕ → PlainCore → PlainCore
tested o None y x e = e
tested o (Some t) y x e = c.Let o x (typed o y t) e

abbrev pub tested_bind : ℕ → Option SequenceTest → ℕ → ℕ → Binds → Binds
tested_bind o None y x bs = bs
tested_bind o (Some t) y x bs = c.one_bind (c.let_bind x (typed o y t)) bs

-- a sorted loop in its parts
pub record Tail : Type 0 where
  pub binds : Binds
  pub keys : Keys
  pub body : PlainCore

abbrev pub led_by : (Binds → Binds) → Tail → Tail
led_by f t = record { binds = f t.binds; keys = t.keys; body = t.body }

abbrev pub sorted_core : ℕ → Tail → PlainCore
sorted_core o t = c.Sorted o t.binds t.keys t.body
