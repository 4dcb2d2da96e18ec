-- The levels of operators (XQuery 1.0, sections 3.3 to 3.6 and 3.12, and appendix A.4).
use Rattle.std.specs.Prelude.{ℕ, Bool, List, [], ◌∷◌, Option}
use Rattle.xq_ast.specs.declared.look.Due.TheVariants.{Operand, Operator, Named}
use Rattle.xq_ast.specs.declared.look.Look.{Look}
use Rattle.xq_ast.specs.declared.look.Look.TheVariants as k
use Rattle.xq_ast.specs.declared.leaf.Operator.{Operator as Op}
use Rattle.xq_ast.specs.declared.leaf.Operator.TheVariants as op
use Rattle.xq_ast.specs.declared.leaf.ReadType.{ReadType}
use Rattle.xq_ast.specs.declared.leaf.Sign.{Sign}
use Rattle.xq_ast.specs.declared.leaf.Sign.TheVariants as sign_
use Rattle.xq_ast.specs.declared.node.Signed.{Signed}
use Rattle.xq_ast.specs.declared.node.Node.TheVariants as node_
use Rattle.xq_ast.specs.Trees.{Name, Tree, Right, right, compared, typed, cast_to, is_there, signed}
use Rattle.xq_ast.specs.Look.{syms}
use Rattle.xq_ast.specs.Rules.{make, many, maybe, either, ◌&◌, ◌◁◌, ◌▷◌}
use Rattle.xq_ast.specs.Terminals.{Rule, operator, of_class, place, name, left, level_of}
use Rattle.xq_ast.specs.Types.{seq_type}
use Rattle.xq_ast.specs.Paths.{path}

abbrev pub sign_of : Look → Sign
sign_of k.Plus = sign_.Plus
sign_of _ = sign_.Minus

abbrev pub signed_at : ℕ → Sign → Signed
signed_at o s = record { offset = o; sign = s }

unfoldable pub one_sign : Rule Signed
one_sign = make signed_at & place & of_class Operand (k.Plus ∷ k.Minus ∷ []) sign_of

-- UnaryExpr (production 58): its offset is that of the first sign
unfoldable pub unary : Rule Tree
unary = make signed & place & many one_sign & path

-- SingleType (production 117)
unfoldable pub single_type : Rule (Name × Bool)
single_type = make (λ n o. (n, is_there o)) & name Named & maybe (operator k.Question)

-- CastExpr (production 57)
unfoldable pub cast_type : Rule (Option (Name × Bool))
cast_type = maybe (operator k.Cast ▷ operator k.As ▷ single_type)

unfoldable pub cast : Rule Tree
cast = make (typed (cast_to node_.Cast)) & place & unary & cast_type

-- CastableExpr (production 56)
unfoldable pub castable_type : Rule (Option (Name × Bool))
castable_type = maybe (operator k.Castable ▷ operator k.As ▷ single_type)

unfoldable pub castable : Rule Tree
castable = make (typed (cast_to node_.Castable)) & place & cast & castable_type

-- TreatExpr (production 55)
unfoldable pub treat_type : Rule (Option ReadType)
treat_type = maybe (operator k.Treat ▷ operator k.As ▷ seq_type)

unfoldable pub treat : Rule Tree
treat = make (typed node_.Treat) & place & castable & treat_type

-- InstanceofExpr (production 54)
unfoldable pub instance_type : Rule (Option ReadType)
instance_type = maybe (operator k.Instance ▷ operator k.Of ▷ seq_type)

unfoldable pub instance : Rule Tree
instance = make (typed node_.Instance) & place & treat & instance_type

-- what a sign or word of an operator stands for
abbrev pub operator_of : Look → Op
operator_of k.Or = op.Or
operator_of k.And = op.And
operator_of k.Equal = op.GeneralEq
operator_of k.Unequal = op.GeneralNe
operator_of k.Less = op.GeneralLt
operator_of k.AtMost = op.GeneralLe
operator_of k.Greater = op.GeneralGt
operator_of k.AtLeast = op.GeneralGe
operator_of k.Eq = op.Eq
operator_of k.Ne = op.Ne
operator_of k.Lt = op.Lt
operator_of k.Le = op.Le
operator_of k.Gt = op.Gt
operator_of k.Ge = op.Ge
operator_of k.Is = op.Is
operator_of k.Precedes = op.Before
operator_of k.Follows = op.After
operator_of k.To = op.To
operator_of k.Plus = op.Add
operator_of k.Minus = op.Subtract
operator_of k.Star = op.Multiply
operator_of k.Idiv = op.IntegerDivide
operator_of k.Mod = op.Modulo
operator_of k.Intersect = op.Intersect
operator_of k.Except = op.Except
operator_of _ = op.Union

abbrev pub operator_in : List Look → Rule Op
operator_in ks = of_class Operator ks operator_of

-- IntersectExceptExpr (production 53)
unfoldable pub intersect : Rule Tree
intersect = level_of (operator_in (k.Intersect ∷ k.Except ∷ [])) instance

-- UnionExpr (production 52)
unfoldable pub union : Rule Tree
union = level_of (operator_in (k.Union ∷ k.Bar ∷ [])) intersect

-- MultiplicativeExpr (production 51); left out: div
unfoldable pub times : Rule Op
times = either (syms Operator (k.Star ∷ k.Idiv ∷ k.Mod ∷ [])) (operator_in (k.Star ∷ k.Idiv ∷ k.Mod ∷ [])) (left Operator (k.Div ∷ []))

unfoldable pub multiplied : Rule Tree
multiplied = level_of times union

-- AdditiveExpr (production 50)
unfoldable pub added : Rule Tree
added = level_of (operator_in (k.Plus ∷ k.Minus ∷ [])) multiplied

-- RangeExpr (production 49)
unfoldable pub range_end : Rule (Option Right)
range_end = maybe (make right & operator_in (k.To ∷ []) & added)

unfoldable pub range : Rule Tree
range = make compared & place & added & range_end

-- ComparisonExpr (productions 48 and 60 to 62)
abbrev pub comparisons : List Look
comparisons =
    k.Equal ∷ k.Unequal ∷ k.Less ∷ k.AtMost ∷ k.Greater ∷ k.AtLeast ∷ k.Eq ∷ k.Ne ∷ k.Lt ∷ k.Le ∷ k.Gt ∷ k.Ge ∷ k.Is ∷ k.Precedes ∷ k.Follows ∷ []

unfoldable pub compared_to : Rule (Option Right)
compared_to = maybe (make right & operator_in comparisons & range)

unfoldable pub comparison : Rule Tree
comparison = make compared & place & range & compared_to

-- AndExpr (production 47)
unfoldable pub conjunction : Rule Tree
conjunction = level_of (operator_in (k.And ∷ [])) comparison

-- OrExpr (production 46)
unfoldable pub disjunction : Rule Tree
disjunction = level_of (operator_in (k.Or ∷ [])) conjunction
