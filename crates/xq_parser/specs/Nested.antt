-- What begins an ExprSingle and a direct element, and what may not stand behind them. The test of the grammar checks both.
use Rattle.std.specs.Prelude.{List, [], ◌∷◌, ◌++◌}
use Rattle.xq_ast.specs.declared.look.Due.TheVariants.{Operand, Operator, Content}
use Rattle.xq_ast.specs.declared.look.Look.{Look}
use Rattle.xq_ast.specs.declared.look.Look.TheVariants as k
use Rattle.xq_ast.specs.Look.{syms}
use Rattle.xq_ast.specs.Primaries.{left_signs}
use Rattle.xq_ast.specs.Grammar.{single_looks}
use Rattle.xq_parser.specs.Reading.{Nested}

-- operators that can go on with an ExprSingle
abbrev pub operators : List Look
operators =
    k.Or ∷ k.And ∷ k.Equal ∷ k.Unequal ∷ k.Less ∷ k.AtMost ∷ k.Greater ∷ k.AtLeast ∷ k.Eq ∷ k.Ne ∷ k.Lt ∷ k.Le ∷ k.Gt ∷ k.Ge ∷ k.Is ∷ k.Precedes ∷ k.Follows
    ∷ k.To ∷ k.Plus ∷ k.Minus ∷ k.Star ∷ k.Idiv ∷ k.Mod ∷ k.Div ∷ k.Union ∷ k.Bar ∷ k.Intersect ∷ k.Except ∷ k.Instance ∷ k.Treat ∷ k.Castable ∷ k.Cast
    ∷ k.Question ∷ k.Slash ∷ k.Slashes ∷ k.OpenBracket ∷ []

abbrev pub nested : Nested
nested = record {
  single_begins = syms Operand (single_looks ++ left_signs);
  single_stops = syms Operator operators;
  element_begins = syms Content (k.TagStart ∷ []);
  element_stops = [];
}
