-- What nests, its limit, the prolog, and the query (XQuery 1.0, section 4).
use Rattle.std.specs.Prelude.{ℕ, List, [], ◌∷◌, ◌++◌, Option, Some, None}
use Rattle.xq_ast.specs.declared.look.Due.TheVariants.{Operand, Operator, Named, Prologue, Content}
use Rattle.xq_ast.specs.declared.look.Look.{Look}
use Rattle.xq_ast.specs.declared.look.Look.TheVariants as k
use Rattle.xq_ast.specs.declared.leaf.ReadType.{ReadType}
use Rattle.xq_ast.specs.declared.query.Declaration.TheVariants as declaration_
use Rattle.xq_ast.specs.Trees.{Name, Variable, Tree, Query, Version, Prolog, Declaration, Param}
use Rattle.xq_ast.specs.Look.{syms}
use Rattle.xq_ast.specs.Phrases.{deep}
use Rattle.xq_ast.specs.Rules.{make, many, maybe, either, prefer, cut, single, blanks, stays, Language, ◌&◌, ◌◁◌, ◌▷◌}
use Rattle.xq_ast.specs.Terminals.{Rule, one, sign, operand, operator, ahead, place, name, string, left, listed, expr, block}
use Rattle.xq_ast.specs.Types.{typ}
use Rattle.xq_ast.specs.Primaries.{left_signs}
use Rattle.xq_ast.specs.Paths.{step_looks}
use Rattle.xq_ast.specs.Direct.{elem}
use Rattle.xq_ast.specs.Bindings.{variable, level}

-- how many levels of ExprSingle and DirElem may nest (own rule)
abbrev pub max_level : ℕ
max_level = 256

-- tokens that can begin an ExprSingle; signs of left-out constructs can't
abbrev pub single_looks : List Look
single_looks =
    k.Plus ∷ k.Minus ∷ k.Slash ∷ k.Slashes ∷ k.Name ∷ k.Axis ∷ k.AtSign ∷ k.Star ∷ k.Dots ∷ k.NodeTest ∷ k.TextTest ∷ k.CommentTest ∷ k.DocumentTest
    ∷ k.InstructionTest ∷ k.ElementTest ∷ k.AttributeTest ∷ k.Integer ∷ k.Quoted ∷ k.Dollar ∷ k.Open ∷ k.Dot ∷ k.Callee ∷ k.Less ∷ k.LeftOut ∷ k.Decimal
    ∷ k.Fraction ∷ k.ElementBuilder ∷ k.AttributeBuilder ∷ k.InstructionBuilder ∷ k.DocumentBuilder ∷ k.TextBuilder ∷ k.CommentBuilder
    ∷ k.For ∷ k.Let ∷ k.Some ∷ k.Every ∷ k.If ∷ k.Typeswitch ∷ k.Reserved ∷ []

-- an ExprSingle that is a level too many
unfoldable pub no_level : Rule Tree
no_level = either (syms Operand single_looks) (cut deep (syms Operand single_looks) blanks) (left Operand left_signs)

-- a DirElem that is a level too many
unfoldable pub no_element : Rule Tree
no_element = cut deep (one Content k.TagStart) stays

abbrev pub language : Language Tree Tree
language = record { level = level; no_level = no_level; inner = elem; no_inner = no_element }

-- ("encoding" StringLiteral)?; left out: encodings other than UTF-8 and US-ASCII
unfoldable pub encoding : Rule (Option Name)
encoding = either (one Operator k.OtherEncoding) (left Operator (k.OtherEncoding ∷ [])) (maybe (operator k.Encoding ▷ string Operand))

abbrev pub version_of : Name → Option Name → Version
version_of v e = record { version = v; encoding = e }

-- VersionDecl (section 4.1, production 2)
unfoldable pub version : Rule Version
version = make version_of ◁ sign Prologue k.Xquery ◁ operator k.Version & string Operand & encoding ◁ operator k.Semicolon

-- "strip"; left out: preserve
unfoldable pub strip : Rule (Unit {0})
strip = either (one Operator k.Preserve) (left Operator (k.Preserve ∷ [])) (operator k.Strip)

-- BoundarySpaceDecl (section 4.3, production 11)
unfoldable pub setter : Rule ℕ
setter = place ◁ sign Prologue k.DeclareSpace ◁ operator k.BoundarySpace ◁ strip ◁ operator k.Semicolon

-- ":=" ExprSingle; left out: external
unfoldable pub initial : Rule Tree
initial = either (one Operator k.External) (left Operator (k.External ∷ [])) (operator k.Assign ▷ single)

-- VarDecl (section 4.14, production 24)
unfoldable pub var_decl : Rule Declaration
var_decl = make declaration_.Var & place ◁ sign Prologue k.DeclareVariable ◁ operator k.Variable & variable & maybe typ & initial

abbrev pub param_of : Variable → Option ReadType → Param
param_of x t = record { var = x; ty = t }

-- Param (section 4.15, production 28)
unfoldable pub param : Rule Param
param = make param_of & variable & maybe typ

-- ParamList? ")" (section 4.15, productions 26 and 27)
unfoldable pub params : Rule (List Param)
params = either (one Operand k.Close) (make [] ◁ operand k.Close) (listed param ◁ operator k.Close)

-- EnclosedExpr; left out: external
unfoldable pub body : Rule Tree
body = either (one Operator k.External) (left Operator (k.External ∷ [])) block

-- FunctionDecl (section 4.15, production 26)
unfoldable pub fun_decl : Rule Declaration
fun_decl =
    make declaration_.Fun & place ◁ sign Prologue k.DeclareFunction ◁ operator k.Function & name Named ◁ operator k.Open & params & maybe typ & body

-- (VarDecl | FunctionDecl) ";"; left out: import, and declare before any other word
unfoldable pub declaration : Rule Declaration
declaration =
    either (one Prologue k.DeclareVariable) var_decl
    (either (one Prologue k.DeclareFunction) fun_decl (left Prologue (k.LeftOut ∷ [])))
    ◁ operator k.Semicolon

abbrev pub prolog_of : List ℕ → List Declaration → Prolog
prolog_of ss ds = record { setters = ss; declarations = ds }

-- (Setter ";")* ((VarDecl | FunctionDecl) ";")*, as long as a declaration follows (section 4, production 6)
unfoldable pub declarations : Rule Prolog
declarations = make prolog_of & many setter & many declaration ◁ ahead (syms Prologue (k.Body ∷ k.Module ∷ [])) stays

-- Prolog (section 4, production 6); left out: a module's declaration in its place
unfoldable pub prolog : Rule Prolog
prolog = prefer (one Prologue k.Module) (left Prologue (k.Module ∷ [])) declarations

abbrev pub query_of : Option Version → Prolog → Tree → Query
query_of v p e = record { version = v; prolog = p; body = e }

-- MainModule, and nothing more but white space and comments (section 4, productions 1 and 3)
unfoldable pub query : Rule Query
query = make query_of & maybe version & prolog & expr ◁ ahead (one Operator k.End) stays
