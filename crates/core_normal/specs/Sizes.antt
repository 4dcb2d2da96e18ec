-- How many nodes and levels pieces of a Core have, by those of their parts.
use Rattle.std.specs.Prelude.{ℕ, ◌+◌, cond, max, Option, Some, None, List, [], ◌∷◌}
use Rattle.xq_base.specs.declared.axis.Axis.{Axis}
use Rattle.xq_base.specs.declared.fun.Fun.{Fun}
use Rattle.xq_base.specs.declared.fun.Fun.TheVariants as fun
use Rattle.core_meaning.specs.Types.{SequenceTest}
use Rattle.xq_ast.specs.declared.leaf.Operator.{Operator}
use Rattle.xq_ast.specs.declared.leaf.Sign.{Sign}
use Rattle.xq_ast.specs.declared.leaf.Sign.TheVariants as sign
use Rattle.core_normal.specs.Pieces.{is_logical, is_reverse}

pub record Size : Type 0 where
  pub nodes : ℕ
  pub levels : ℕ

abbrev pub nothing : Size
nothing = record { nodes = 0; levels = 0 }

-- parts beside each other
abbrev pub beside : Size → Size → Size
beside a b = record { nodes = a.nodes + b.nodes; levels = max a.levels b.levels }

-- a node over its parts
abbrev pub over : Size → Size
over a = record { nodes = a.nodes + 1; levels = a.levels + 1 }

-- a declared function: its parameters' types, and the size of its converted body
pub record FunSize : Type 0 where
  pub types : List (Option SequenceTest)
  pub body : Size

abbrev pub leaf : Size
leaf = over nothing

abbrev pub one : Size → Size
one a = beside a nothing

abbrev pub two : Size → Size → Size
two a b = beside a (beside b nothing)

abbrev pub three : Size → Size → Size → Size
three a b d = beside a (beside b d)

abbrev pub boolean : Size → Size
boolean a = over (one a)

abbrev pub root : Size
root = over (three (over leaf) (over (over (one leaf))) leaf)

abbrev pub choice : Size
choice = over (three (over (three (over leaf) (over (two leaf leaf)) (boolean leaf))) leaf leaf)

abbrev pub selected : Size → Size → Size
selected e q = over (beside e (over (beside (over (one leaf)) (over (beside leaf (over (beside q choice)))))))

abbrev pub for_each_node : Size → Size → Size
for_each_node e m = over (beside e (over (beside (over (one leaf)) (over (one (over (beside leaf (over (three (over leaf) m leaf)))))))))

abbrev pub test : Size
test = over (three (over leaf) leaf leaf)

abbrev pub tested : Option SequenceTest → Size → Size
tested None e = e
tested (Some t) e = over (beside test e)

abbrev pub tested_bind : Option SequenceTest → Size → Size
tested_bind None e = e
tested_bind (Some t) e = beside test e

abbrev pub counted : Axis → Size → Size
counted x a = cond (is_reverse x) (over (one a)) a

abbrev pub converted : Option SequenceTest → Size → Size
converted None a = a
converted (Some t) a = over a

abbrev pub all : List Size → Size
all [] = nothing
all (a ∷ as') = beside a (all as')

abbrev pub with_params : List (Option SequenceTest) → List Size → Size → Size
with_params (t ∷ ts) (a ∷ as') e = over (beside (converted t a) (with_params ts as' e))
with_params _ _ e = e

-- a cast by a function of the type's name, and a function that takes this where it has no argument
abbrev pub cast_to : List Size → Size
cast_to (a ∷ []) = over a
cast_to as' = over (all as')

abbrev pub of_dot : List Size → Size → Size
of_dot [] dot = over (one dot)
of_dot as' dot = over (all as')

-- a call of a built-in function
abbrev pub built_in_call : Fun → List Size → Size
built_in_call fun.Position as' = leaf
built_in_call fun.Last as' = leaf
built_in_call fun.Error as' = leaf
built_in_call fun.XsInteger as' = cast_to as'
built_in_call fun.XsString as' = cast_to as'
built_in_call fun.XsBoolean as' = cast_to as'
built_in_call fun.XsUntypedAtomic as' = cast_to as'
built_in_call fun.Root as' = of_dot as' leaf
built_in_call fun.StringOf as' = of_dot as' leaf
built_in_call fun.Name as' = of_dot as' leaf
built_in_call fun.LocalName as' = of_dot as' leaf
built_in_call fun.StringLength as' = of_dot as' (over (one leaf))
built_in_call fun.NormalizeSpace as' = of_dot as' (over (one leaf))
built_in_call g as' = over (all as')

abbrev pub chain : Size → List Size → Size
chain e [] = e
chain e (a ∷ as') = chain (over (beside e a)) as'

abbrev pub sequence : List Size → Size
sequence [] = leaf
sequence (a ∷ as') = chain a as'

abbrev pub value_of : List Size → Size
value_of [] = leaf
value_of (a ∷ []) = a
value_of (a ∷ b ∷ as') = over (beside a (beside b (all as')))

abbrev pub text_node : Size
text_node = over (beside nothing leaf)

abbrev pub operand : Operator → Size → Size
operand f a = cond (is_logical f) (boolean a) a

abbrev pub signed_size : Sign → Size → Size
signed_size sign.Plus a = over (two leaf a)
signed_size sign.Minus a = over (one a)
