-- Operands that are judged each by itself (own rule): the rows of their checks, and the loop that these leave.
use Rattle.std.specs.Prelude.{ℕ, max, List, [], ◌∷◌, ◌++◌, length, map}
use Rattle.xq_base.specs.declared.code.Code.{Code}
use Rattle.xq_base.specs.declared.code.Code.TheVariants as c
use Rattle.xq_base.specs.declared.fun.Fun.{Fun}
use Rattle.xq_base.specs.declared.fun.Fun.TheVariants as f
use Rattle.lift_laws.specs.Iterations.{Row}
use Rattle.lift_laws.specs.Shapes.{less, cleared, second_rows, restrict_rows, any_rows}
use Rattle.lift_laws.specs.Pairs.{side_rows, own_fail_rows, gathered}

-- a number or a text, each of which may be absent or not
pub data Reading : Type 0 where
  MaybeNumber : Reading
  OneNumber : Reading
  MaybeText : Reading
  OneText : Reading

-- a function that fails for an item beside itself where the item is read as neither
abbrev pub reader : Reading → Fun
reader MaybeNumber = f.Subtract
reader OneNumber = f.Subtract
reader MaybeText = f.Compare
reader OneText = f.Compare

-- the iterations without an item that must be there
abbrev pub absent_tables : Reading → List Row → List Row → List (List Row)
absent_tables MaybeNumber l a = []
absent_tables OneNumber l a = less l (any_rows a) ∷ []
absent_tables MaybeText l a = []
absent_tables OneText l a = less l (any_rows a) ∷ []

-- those with a wrong number of items or an item of a wrong kind, and those with an item that can't be cast
abbrev pub unfit_tables : Reading → List Row → List Row → List (List Row)
unfit_tables r l a = second_rows a ∷ own_fail_rows (reader r) c.XPTY0004 a ∷ absent_tables r l a

abbrev pub uncast_tables : Reading → List Row → List (List Row)
uncast_tables MaybeNumber a = own_fail_rows f.Subtract c.FORG0001 a ∷ []
uncast_tables OneNumber a = own_fail_rows f.Subtract c.FORG0001 a ∷ []
uncast_tables MaybeText a = []
uncast_tables OneText a = []

-- the same of all operands
abbrev pub Operand : Type 0
Operand = Reading × List Row

abbrev pub all_unfit : List Row → List Operand → List (List Row)
all_unfit l [] = []
all_unfit l (o ∷ os) = unfit_tables o.0 l o.1 ++ all_unfit l os

abbrev pub all_uncast : List Operand → List (List Row)
all_uncast [] = []
all_uncast (o ∷ os) = uncast_tables o.0 o.1 ++ all_uncast os

-- a check of the iterations that some of these tables name, where there is a table
abbrev pub marked_by : Code → List Row → List (List Row) → List (Code × List Row)
marked_by d l [] = []
marked_by d l (b ∷ bs) = (d, gathered l (b ∷ bs)) ∷ []

abbrev pub operand_marks : List Row → List Operand → List (Code × List Row)
operand_marks l os = (c.XPTY0004, gathered l (all_unfit l os)) ∷ marked_by c.FORG0001 l (all_uncast os)

-- the iterations that no check names
abbrev pub calm_rows : List Row → List (Code × List Row) → List Row
calm_rows l ms = cleared l (map (λ m. m.1) ms)

-- what the operators of two operands side by side may demand, over a loop and the part of it in which they stand
abbrev pub sided_most : List Row → List Row → List Row → List Row → ℕ
sided_most l m a b = max (max (length l) (length a)) (max (length b) (max (length (restrict_rows m a)) (length (side_rows m a b))))
