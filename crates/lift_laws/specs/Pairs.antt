-- Two operands side by side (own rule): functions of two operands of at most one item each, general comparisons, and the rows of
-- their operators.
use Rattle.std.specs.Prelude.{ℕ, ◌+◌, max, Bool, true, List, [], ◌∷◌, length, map}
use Rattle.xq_base.specs.declared.code.Code.{Code}
use Rattle.xq_base.specs.declared.code.Code.TheVariants as c
use Rattle.xq_base.specs.declared.fun.Fun.{Fun}
use Rattle.xq_base.specs.declared.fun.Fun.TheVariants as f
use Rattle.xq_base.specs.declared.fun.CompOp.{CompOp}
use Rattle.xq_base.specs.declared.fun.CompOp.TheVariants as o
use Rattle.plan_dag.specs.declared.cols.Col.{Col}
use Rattle.plan_dag.specs.Cells.{Outcome}
use Rattle.plan_dag.specs.ItemRules.{Cell}
use Rattle.plan_dag.specs.Rows.{map_rows, map_fails_rows, compared}
use Rattle.plan_dag.specs.Meaning.{cell, cells, is_true_outcome, fails_with}
use Rattle.lift_laws.specs.Iterations.{Row}
use Rattle.lift_laws.specs.States.{column, three}
use Rattle.lift_laws.specs.Shapes.{bare, pair, columns, project, join_by, less, cleared, second_rows, restrict_rows, literal_rows, either_rows, any_rows, truth_rows, data_rows}

-- the functions that give nothing where an operand is absent: arithmetic, and comparisons of values, of nodes and of texts
pub data PairRule : Type 0 where
  Sums : PairRule
  Differences : PairRule
  Products : PairRule
  Quotients : PairRule
  Remainders : PairRule
  Compares : CompOp → PairRule
  SameNodes : PairRule
  NodesBefore : PairRule
  NodesAfter : PairRule
  OrdersTexts : PairRule

abbrev pub comparison : CompOp → Fun
comparison o.Eq = f.Eq
comparison o.Ne = f.Ne
comparison o.Lt = f.Lt
comparison o.Le = f.Le
comparison o.Gt = f.Gt
comparison o.Ge = f.Ge

abbrev pub pair_fun : PairRule → Fun
pair_fun Sums = f.Add
pair_fun Differences = f.Subtract
pair_fun Products = f.Multiply
pair_fun Quotients = f.IntegerDivide
pair_fun Remainders = f.Modulo
pair_fun (Compares op) = comparison op
pair_fun SameNodes = f.Is
pair_fun NodesBefore = f.Before
pair_fun NodesAfter = f.After
pair_fun OrdersTexts = f.Compare

-- a code that each operand may have by itself, or one that both have together
pub data PairCode : Type 0 where
  OfEach : Code → PairCode
  OfBoth : Code → PairCode

abbrev pub code_of : PairCode → Code
code_of (OfEach d) = d
code_of (OfBoth d) = d

-- the codes of a function, in the order of their checks
abbrev pub pair_codes : PairRule → List PairCode
pair_codes Sums = OfEach c.XPTY0004 ∷ OfEach c.FORG0001 ∷ OfBoth c.FOAR0002 ∷ []
pair_codes Differences = OfEach c.XPTY0004 ∷ OfEach c.FORG0001 ∷ OfBoth c.FOAR0002 ∷ []
pair_codes Products = OfEach c.XPTY0004 ∷ OfEach c.FORG0001 ∷ OfBoth c.FOAR0002 ∷ []
pair_codes Quotients = OfEach c.XPTY0004 ∷ OfEach c.FORG0001 ∷ OfBoth c.FOAR0001 ∷ OfBoth c.FOAR0002 ∷ []
pair_codes Remainders = OfEach c.XPTY0004 ∷ OfEach c.FORG0001 ∷ OfBoth c.FOAR0001 ∷ OfBoth c.FOAR0002 ∷ []
pair_codes (Compares op) = OfBoth c.XPTY0004 ∷ []
pair_codes SameNodes = OfEach c.XPTY0004 ∷ []
pair_codes NodesBefore = OfEach c.XPTY0004 ∷ []
pair_codes NodesAfter = OfEach c.XPTY0004 ∷ []
pair_codes OrdersTexts = OfEach c.XPTY0004 ∷ []

-- the iterations in which no operand has a second item
abbrev pub fit_loop : List Row → List Row → List Row → List Row
fit_loop l a b = cleared l (second_rows a ∷ second_rows b ∷ [])

-- the items of two operands beside each other, in the iterations of a loop
abbrev pub beside_cols : List Col
beside_cols = columns (0 ∷ 1 ∷ 2 ∷ 4 ∷ 5 ∷ [])

abbrev pub side_rows : List Row → List Row → List Row → List Row
side_rows l a b = join_by three (columns (4 ∷ 5 ∷ [])) (column 0) (column 4) (restrict_rows l a) (project three (pair 4 0 ∷ pair 5 2 ∷ []) b)

abbrev pub both_rows : List Row → List Row → List Row → List Row
both_rows l a b = side_rows (fit_loop l a b) a b

abbrev pub both_cells : Row → List Cell
both_cells r = cells bare beside_cols (column 2 ∷ column 5 ∷ []) r

-- the iterations with items for which a function fails with a code
abbrev pub both_fail_rows : Fun → Code → List Row → List Row
both_fail_rows g d j = project beside_cols (pair 0 0 ∷ []) (map_fails_rows bare g d both_cells j)

-- those with an item for which it fails by itself: beside the same item
abbrev pub own_fail_rows : Fun → Code → List Row → List Row
own_fail_rows g d a = project three (pair 0 0 ∷ []) (map_fails_rows bare g d (cells bare three (column 2 ∷ column 2 ∷ [])) a)

abbrev pub code_tables : Fun → PairCode → List Row → List Row → List Row → List (List Row)
code_tables g (OfEach d) l a b = own_fail_rows g d a ∷ own_fail_rows g d b ∷ []
code_tables g (OfBoth d) l a b = both_fail_rows g d (both_rows l a b) ∷ []

-- the iterations that some of these tables name
abbrev pub gathered : List Row → List (List Row) → List Row
gathered l [] = []
gathered l (b ∷ []) = b
gathered l (b ∷ d ∷ bs) = less l (cleared l (b ∷ d ∷ bs))

-- the rows of each code; the first one is also that of a second item
abbrev pub later_marks : Fun → List PairCode → List Row → List Row → List Row → List (Code × List Row)
later_marks g es l a b = map (λ e. (code_of e, gathered l (code_tables g e l a b))) es

abbrev pub pair_marks : Fun → List PairCode → List Row → List Row → List Row → List (Code × List Row)
pair_marks g [] l a b = []
pair_marks g (e ∷ es) l a b = (code_of e, gathered l (second_rows a ∷ second_rows b ∷ code_tables g e l a b)) ∷ later_marks g es l a b

-- what the operators may demand
abbrev pub pair_most : List Row → List Row → List Row → ℕ
pair_most l a b = max (max (length l) (length a)) (max (length b) (max (length (restrict_rows (fit_loop l a b) a)) (length (both_rows l a b))))

-- what a function gives of both items, at position 1
abbrev pub side_value_rows : Fun → List Row → List Row
side_value_rows g j = project (columns (0 ∷ 1 ∷ 2 ∷ 4 ∷ 5 ∷ 3 ∷ [])) (pair 0 0 ∷ pair 1 1 ∷ pair 2 3 ∷ []) (map_rows bare g both_cells j)

abbrev pub pair_value_rows : Fun → List Row → List Row → List Row → List Row
pair_value_rows g l a b = side_value_rows g (both_rows l a b)

-- the functions of two texts, of which an absent one is empty
pub data TextPairRule : Type 0 where
  Containing : TextPairRule
  Starting : TextPairRule
  Ending : TextPairRule
  Preceding : TextPairRule
  Following : TextPairRule

abbrev pub text_pair_fun : TextPairRule → Fun
text_pair_fun Containing = f.Contains
text_pair_fun Starting = f.StartsWith
text_pair_fun Ending = f.EndsWith
text_pair_fun Preceding = f.SubstringBefore
text_pair_fun Following = f.SubstringAfter

-- an operand, with this item where it has none
abbrev pub filled_rows : Cell → List Row → List Row → List Row
filled_rows w l a = either_rows a (literal_rows w (less l (any_rows a)))

-- general comparisons
abbrev pub general_fun : CompOp → Fun
general_fun o.Eq = f.GeneralEq
general_fun o.Ne = f.GeneralNe
general_fun o.Lt = f.GeneralLt
general_fun o.Le = f.GeneralLe
general_fun o.Gt = f.GeneralGt
general_fun o.Ge = f.GeneralGe

-- the iterations with a pair of atomic values that passes a test
abbrev pub pair_rows : (Outcome Bool → Bool) → CompOp → List Row → List Row → List Row
pair_rows passes op a b = compared bare passes op (cell bare three (column 0)) (cell bare three (column 2)) (cell bare three (column 0)) (cell bare three (column 2)) (data_rows a) (data_rows b)

abbrev pub general_marks : CompOp → List Row → List Row → List (Code × List Row)
general_marks op a b = (c.XPTY0004, pair_rows (fails_with c.XPTY0004) op a b) ∷ (c.FORG0001, pair_rows (fails_with c.FORG0001) op a b) ∷ []

abbrev pub general_rows : CompOp → List Row → List Row → List Row → List Row
general_rows op l a b = truth_rows true l (pair_rows is_true_outcome op a b)

abbrev pub general_most : CompOp → List Row → List Row → List Row → ℕ
general_most op l a b = max (length l + length a + length b) (length (general_rows op l a b))
