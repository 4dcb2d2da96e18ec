-- FLWOR expressions, quantifiers and conditions (XQuery 1.0, sections 3.8, 3.10 and 3.11).
use Rattle.std.specs.Prelude.{ℕ, Bool, true, false, List, [], ◌∷◌, Option, Some, None}
use Rattle.xq_ast.specs.declared.look.Due.{Due}
use Rattle.xq_ast.specs.declared.look.Due.TheVariants.{Operand, Operator, Named}
use Rattle.xq_ast.specs.declared.look.Look.{Look}
use Rattle.xq_ast.specs.declared.look.Look.TheVariants as k
use Rattle.xq_ast.specs.declared.leaf.Quantifier.{Quantifier}
use Rattle.xq_ast.specs.declared.leaf.Quantifier.TheVariants as quantifier_
use Rattle.xq_ast.specs.declared.leaf.ReadType.{ReadType}
use Rattle.xq_ast.specs.declared.node.Node.TheVariants as node_
use Rattle.xq_ast.specs.declared.node.Clause.TheVariants as clause_
use Rattle.xq_ast.specs.Trees.{Name, Variable, Tree, Clause, ForBind, LetBind, QuantBind, Key, or_none, or_false}
use Rattle.xq_ast.specs.Look.{syms}
use Rattle.xq_ast.specs.Rules.{make, many, maybe, either, single, ◌&◌, ◌◁◌, ◌▷◌}
use Rattle.xq_ast.specs.Terminals.{Rule, one, sign, operand, operator, of_class, place, name, left, listed, expr}
use Rattle.xq_ast.specs.Types.{typ}
use Rattle.xq_ast.specs.Operators.{disjunction}

abbrev pub variable_of : ℕ → Name → Variable
variable_of o x = record { offset = o; name = x }

-- "$" VarName
unfoldable pub variable : Rule Variable
variable = make variable_of & place ◁ operand k.Dollar & name Named

abbrev pub for_bind_of : Variable → Option ReadType → Option Variable → Tree → ForBind
for_bind_of x t p e = record { var = x; ty = t; at = p; source = e }

-- PositionalVar (production 35)
unfoldable pub position : Rule (Option Variable)
position = maybe (operator k.At ▷ variable)

-- "$" VarName TypeDeclaration? PositionalVar? "in" ExprSingle (production 34)
unfoldable pub for_bind : Rule ForBind
for_bind = make for_bind_of & variable & maybe typ & position ◁ operator k.In & single

abbrev pub let_bind_of : Variable → Option ReadType → Tree → LetBind
let_bind_of x t e = record { var = x; ty = t; value = e }

-- "$" VarName TypeDeclaration? ":=" ExprSingle (production 36)
unfoldable pub let_bind : Rule LetBind
let_bind = make let_bind_of & variable & maybe typ ◁ operator k.Assign & single

-- ForClause (production 34): the first clause stands where an operand is due, the others where an operator is
unfoldable pub for_clause : Due → Rule Clause
for_clause due = make clause_.For ◁ sign due k.For & listed for_bind

-- LetClause (production 36)
unfoldable pub let_clause : Due → Rule Clause
let_clause due = make clause_.Let ◁ sign due k.Let & listed let_bind

unfoldable pub clause : Due → Rule Clause
clause due = either (one due k.For) (for_clause due) (let_clause due)

unfoldable pub clauses : Rule (List Clause)
clauses = make (λ c cs. c ∷ cs) & clause Operand & many (clause Operator)

-- WhereClause (production 37)
unfoldable pub condition : Rule (Option Tree)
condition = maybe (operator k.Where ▷ single)

-- "ascending" | "descending", the first where neither stands (production 41)
unfoldable pub descending : Rule Bool
descending = either (one Operator k.Descending) (make true ◁ operator k.Descending) (make false ◁ maybe (operator k.Ascending))

-- "empty" ("greatest" | "least"), the second where neither stands (production 41)
unfoldable pub empty_greatest : Rule Bool
empty_greatest =
    make or_false & maybe (operator k.Empty ▷ either (one Operator k.Greatest) (make true ◁ operator k.Greatest) (make false ◁ operator k.Least))

-- left out: collation
unfoldable pub collation : Rule (Unit {0})
collation = either (one Operator k.Collation) (left Operator (k.Collation ∷ [])) (make tt)

abbrev pub key_of : Tree → Bool → Bool → Key
key_of e d g = record { key = e; descending = d; empty_greatest = g }

-- OrderSpec (productions 40 and 41)
unfoldable pub key : Rule Key
key = make key_of & single & descending & empty_greatest ◁ collation

-- OrderByClause (production 38)
unfoldable pub order : Rule (List Key)
order = make or_none & maybe (maybe (operator k.Stable) ▷ operator k.Order ▷ operator k.By ▷ listed key)

-- FLWORExpr (production 33)
unfoldable pub flwor : Rule Tree
flwor = make node_.Flwor & place & clauses & condition & order ◁ operator k.Return & single

abbrev pub quantifier_of : Look → Quantifier
quantifier_of k.Some = quantifier_.Some
quantifier_of _ = quantifier_.Every

abbrev pub quant_bind_of : Variable → Option ReadType → Tree → QuantBind
quant_bind_of x t e = record { var = x; ty = t; source = e }

-- "$" VarName TypeDeclaration? "in" ExprSingle (production 42)
unfoldable pub quant_bind : Rule QuantBind
quant_bind = make quant_bind_of & variable & maybe typ ◁ operator k.In & single

-- QuantifiedExpr (production 42)
unfoldable pub quantified : Rule Tree
quantified = make node_.Quantified & place & of_class Operand (k.Some ∷ k.Every ∷ []) quantifier_of & listed quant_bind ◁ operator k.Satisfies & single

-- IfExpr (production 45)
unfoldable pub conditional : Rule Tree
conditional =
    make node_.If & place ◁ operand k.If ◁ operator k.Open & expr ◁ operator k.Close ◁ operator k.Then & single ◁ operator k.Else & single

-- ExprSingle (production 32); left out: typeswitch
unfoldable pub level : Rule Tree
level =
    either (syms Operand (k.For ∷ k.Let ∷ [])) flwor
    (either (syms Operand (k.Some ∷ k.Every ∷ [])) quantified
    (either (one Operand k.If) conditional
    (either (one Operand k.Typeswitch) (left Operand (k.Typeswitch ∷ []))
    disjunction)))
