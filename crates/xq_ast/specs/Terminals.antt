-- Signs, words, names, strings, and the ways in which rules are joined.
use Rattle.std.specs.Prelude.{ℕ, Bool, true, not, ◌&&◌, ◌==◌, List, [], ◌∷◌, Option, Some, None, if◌then◌else◌, slice_range}
use Rattle.xq_ast.specs.declared.look.Due.{Due}
use Rattle.xq_ast.specs.declared.look.Due.TheVariants.{Operand, Operator, Named, Tag}
use Rattle.xq_ast.specs.declared.look.Look.{Look}
use Rattle.xq_ast.specs.declared.look.Look.TheVariants as k
use Rattle.xq_ast.specs.declared.leaf.Operator.{Operator as Op}
use Rattle.xq_ast.specs.Bytes.{start}
use Rattle.xq_ast.specs.Values.{string_value}
use Rattle.xq_ast.specs.Look.{Sym, syms, look, end_at}
use Rattle.xq_ast.specs.Phrases.{left_out}
use Rattle.xq_ast.specs.Rules as rules
use Rattle.xq_ast.specs.Rules.{make, told, stands, many, chain, fit, cut, single, Ends, blanks, behind, ◌&◌, ◌◁◌}
use Rattle.xq_ast.specs.Trees.{Bytes, Name, Tree, Right, chained, right, comma}

abbrev pub Rule : Type 0 → Type 1
Rule A = rules.Rule Tree Tree A

abbrev pub one : Due → Look → List Sym
one due kind = syms due (kind ∷ [])

abbrev pub sign : Due → Look → Rule (Unit {0})
sign due kind = stands (one due kind) (behind due) (λ _ _. tt)

abbrev pub operand : Look → Rule (Unit {0})
operand = sign Operand

abbrev pub operator : Look → Rule (Unit {0})
operator = sign Operator

abbrev pub tag : Look → Rule (Unit {0})
tag = sign Tag

-- one of these, with a value of its class
abbrev pub of_class : {A : Type 0} → Due → List Look → (Look → A) → Rule A
of_class due ks f = stands (syms due ks) (behind due) (λ text at. f (look text due at))

-- one of these stands here; with `blanks`, what stands before it is passed over
abbrev pub ahead : List Sym → Ends → Rule (Unit {0})
ahead ss end = stands ss end (λ _ _. tt)

-- the place of the token that comes next; this place
abbrev pub place : Rule ℕ
place = told start

abbrev pub here : Rule ℕ
here = told (λ _ at. at)

abbrev pub text_at : Due → List ℕ → ℕ → Bytes
text_at due text at = slice_range text (start text at) (end_at text due at)

abbrev pub name_at : Due → List ℕ → ℕ → Name
name_at due text at = record { offset = start text at; text = text_at due text at }

-- QName
abbrev pub name : Due → Rule Name
name due = stands (one due k.Name) (behind due) (name_at due)

abbrev pub has_no_colon : Bytes → Bool
has_no_colon [] = true
has_no_colon (c ∷ cs) = not (c == 58) && has_no_colon cs

abbrev pub if_ncname : Name → Option Name
if_ncname x = if has_no_colon x.text then Some x else None

-- NCName
abbrev pub ncname : Rule Name
ncname = fit if_ncname (name Named)

abbrev pub string_at : Due → List ℕ → ℕ → Name
string_at due text at = record { offset = start text at; text = string_value text (start text at) (end_at text due at) }

-- StringLiteral (XQuery 1.0, section 3.1.1, production 144)
abbrev pub string : Due → Rule Name
string due = stands (one due k.Quoted) (behind due) (string_at due)

-- no part; where one of these stands, the text is cut as left out
abbrev pub left : {A : Type 0} → Due → List Look → Rule A
left due ks = cut left_out (syms due ks) blanks

-- parts with this between them
abbrev pub joined : {A C : Type 0} → (A → List A → C) → Rule (Unit {0}) → Rule A → Rule C
joined f r s = chain f (λ _ a. a) r s

-- parts with commas between them
abbrev pub listed : {A : Type 0} → Rule A → Rule (List A)
listed r = joined (λ a more. a ∷ more) (operator k.Comma) r

abbrev pub placed : Rule (ℕ → Tree) → Rule Tree
placed r = make (λ o f. f o) & place & r

-- a level of operators: its offset is where its first operand begins, also where that is a path
abbrev pub level_of : Rule Op → Rule Tree → Rule Tree
level_of r s = placed (chain chained right r s)

-- Expr ::= ExprSingle ("," ExprSingle)* (XQuery 1.0, section 3, production 31)
unfoldable pub expr : Rule Tree
expr = placed (joined comma (operator k.Comma) single)

-- "{" Expr "}", where an operator is due
unfoldable pub block : Rule Tree
block = make (λ e. e) ◁ operator k.OpenBrace & expr ◁ operator k.CloseBrace
