-- Rules whose value still takes what follows, and what a function that reads one ensures (own rule).
use Rattle.std.specs.Prelude.{◌≡◌, ℕ, Result, Ok, Err}
use Rattle.xq_ast.specs.declared.look.Look.TheVariants as k
use Rattle.xq_ast.specs.declared.node.Node.TheVariants as node_
use Rattle.xq_ast.specs.Rules.{make, single, ◌&◌, ◌◁◌}
use Rattle.xq_ast.specs.Terminals.{Rule, operand, operator, place, expr}
use Rattle.xq_ast.specs.Trees.{Tree}
use Rattle.xq_parser.specs.declared.fault.ParseFault.{ParseFault}
use Rattle.xq_parser.specs.Parsers.{Outcome}
use Rattle.xq_parser.specs.Outcomes.{Fails}

-- a value is given as what it is made of
abbrev pub GivesBy : {A B : Type 0} → (A → B) → Outcome B → Result (A × ℕ) ParseFault → Type 0
GivesBy f outcome (Ok x) = outcome ≡ Ok (f x.0, x.1)
GivesBy f outcome (Err e) = Fails outcome e

-- a condition that lacks both branches, and the tree that they make of it
abbrev pub tested : Rule (Tree → Tree → Tree)
tested = make node_.If & place ◁ operand k.If ◁ operator k.Open & expr ◁ operator k.Close

abbrev pub if_tested : ℕ × Tree → Tree → Tree → Tree
if_tested x = node_.If x.0 x.1

-- a condition that lacks its second branch
abbrev pub branched : Rule (Tree → Tree)
branched = tested ◁ operator k.Then & single

abbrev pub if_branched : ℕ × (Tree × Tree) → Tree → Tree
if_branched x = node_.If x.0 x.1.0 x.1.1
