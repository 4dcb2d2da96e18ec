-- Primary expressions and constructors with words (XQuery 1.0, sections 3.1 and 3.7.3).
use Rattle.std.specs.Prelude.{ℕ, List, [], ◌∷◌, Option, Some, None}
use Rattle.xq_ast.specs.declared.look.Due.TheVariants.{Operand, Named}
use Rattle.xq_ast.specs.declared.look.Look.{Look}
use Rattle.xq_ast.specs.declared.look.Look.TheVariants as k
use Rattle.xq_ast.specs.declared.leaf.BuildKind.{BuildKind}
use Rattle.xq_ast.specs.declared.leaf.BuildKind.TheVariants as build_
use Rattle.xq_ast.specs.declared.node.Node.TheVariants as node_
use Rattle.xq_ast.specs.declared.node.BuildName.TheVariants as called_
use Rattle.xq_ast.specs.Trees.{Name, Tree, BuildName}
use Rattle.xq_ast.specs.Look.{Sym, syms}
use Rattle.xq_ast.specs.Rules.{make, stands, either, behind, single, ◌&◌, ◌◁◌, ◌▷◌}
use Rattle.xq_ast.specs.Terminals.{Rule, one, sign, operand, operator, of_class, place, text_at, name, ncname, string, left, listed, expr, block}
use Rattle.xq_ast.specs.Direct.{direct}

-- IntegerLiteral (production 141)
unfoldable pub integer : Rule Tree
integer = make node_.Integer & place & stands (one Operand k.Integer) (behind Operand) (text_at Operand)

abbrev pub text_of : Name → Tree
text_of x = node_.Text x.offset x.text

-- StringLiteral (production 144)
unfoldable pub literal : Rule Tree
literal = make text_of & string Operand

-- VarRef (production 87)
unfoldable pub var : Rule Tree
var = make node_.Var & place ◁ operand k.Dollar & name Named

-- Expr? ")"
unfoldable pub inside : Rule (Option Tree)
inside = either (one Operand k.Close) (make None ◁ operand k.Close) (make Some & expr ◁ operator k.Close)

-- ParenthesizedExpr (production 89)
unfoldable pub paren : Rule Tree
paren = make node_.Paren & place ◁ operand k.Open & inside

-- ContextItemExpr (production 90)
unfoldable pub dot : Rule Tree
dot = make node_.Dot & place ◁ operand k.Dot

-- (ExprSingle ("," ExprSingle)*)? ")"
unfoldable pub arguments : Rule (List Tree)
arguments = either (one Operand k.Close) (make [] ◁ operand k.Close) (listed single ◁ operator k.Close)

abbrev pub called_at : Rule Name
called_at = stands (one Operand k.Callee) (behind Operand) (Rattle.xq_ast.specs.Terminals.name_at Operand)

-- FunctionCall (production 93)
unfoldable pub call : Rule Tree
call = make node_.Call & place & called_at ◁ operator k.Open & arguments

-- "{" Expr "}", where a name might stand
abbrev pub computed_name : Rule BuildName
computed_name = make called_.Computed ◁ sign Named k.OpenBrace & expr ◁ operator k.CloseBrace

-- QName | "{" Expr "}"
unfoldable pub build_name : Rule BuildName
build_name = either (one Named k.OpenBrace) computed_name (make called_.Named & name Named)

-- NCName | "{" Expr "}"
unfoldable pub target_name : Rule BuildName
target_name = either (one Named k.OpenBrace) computed_name (make called_.Named & ncname)

-- "{" Expr? "}"
unfoldable pub build_content : Rule (Option Tree)
build_content = operator k.OpenBrace ▷ either (one Operand k.CloseBrace) (make None ◁ operand k.CloseBrace) (make Some & expr ◁ operator k.CloseBrace)

abbrev pub build_kind : Look → BuildKind
build_kind k.ElementBuilder = build_.Element
build_kind k.AttributeBuilder = build_.Attribute
build_kind k.InstructionBuilder = build_.Pi
build_kind k.DocumentBuilder = build_.Document
build_kind k.TextBuilder = build_.Text
build_kind _ = build_.Comment

-- CompElemConstructor, CompAttrConstructor (productions 111 and 113)
unfoldable pub named_builder : Rule Tree
named_builder = make node_.Build & place & of_class Operand (k.ElementBuilder ∷ k.AttributeBuilder ∷ []) build_kind & build_name & build_content

-- CompPIConstructor (production 116)
unfoldable pub instruction_builder : Rule Tree
instruction_builder = make node_.Build & place & of_class Operand (k.InstructionBuilder ∷ []) build_kind & target_name & build_content

abbrev pub block_of : ℕ → BuildKind → Tree → Tree
block_of o kind e = node_.Build o kind called_.Absent (Some e)

-- CompDocConstructor, CompTextConstructor, CompCommentConstructor (productions 110, 114 and 115)
unfoldable pub block_builder : Rule Tree
block_builder = make block_of & place & of_class Operand (k.DocumentBuilder ∷ k.TextBuilder ∷ k.CommentBuilder ∷ []) build_kind & block

-- ComputedConstructor (production 109)
unfoldable pub builder : Rule Tree
builder =
    either (syms Operand (k.ElementBuilder ∷ k.AttributeBuilder ∷ [])) named_builder
    (either (one Operand k.InstructionBuilder) instruction_builder block_builder)

abbrev pub builders : List Look
builders = k.ElementBuilder ∷ k.AttributeBuilder ∷ k.InstructionBuilder ∷ k.DocumentBuilder ∷ k.TextBuilder ∷ k.CommentBuilder ∷ []

-- signs that begin what is left out where an operand is due
abbrev pub left_signs : List Look
left_signs = k.Pragma ∷ k.PrefixStar ∷ k.StarName ∷ []

-- PrimaryExpr (production 84); left out: decimals, functions, blocks, axes and tests of the list
unfoldable pub primary : Rule Tree
primary =
    either (one Operand k.Integer) integer
    (either (one Operand k.Quoted) literal
    (either (one Operand k.Dollar) var
    (either (one Operand k.Open) paren
    (either (one Operand k.Dot) dot
    (either (one Operand k.Callee) call
    (either (one Operand k.Less) direct
    (either (syms Operand builders) builder
    (left Operand (k.LeftOut ∷ k.Decimal ∷ k.Fraction ∷ left_signs)))))))))
