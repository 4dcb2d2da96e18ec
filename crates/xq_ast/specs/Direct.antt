-- Direct constructors (XQuery 1.0, sections 3.7.1 and 3.7.2).
use Rattle.std.specs.Prelude.{ℕ, Bool, true, List, [], ◌∷◌, Option, Some, None, if◌then◌else◌, slice_range, ◌+◌}
use Rattle.std.specs.Char.{encode_utf8}
use Rattle.xq_ast.specs.declared.look.Due.{Due}
use Rattle.xq_ast.specs.declared.look.Due.TheVariants.{Operand, Tag, DoubleQuoted, SingleQuoted, Content}
use Rattle.xq_ast.specs.declared.look.Look.{Look}
use Rattle.xq_ast.specs.declared.look.Look.TheVariants as k
use Rattle.xq_ast.specs.declared.leaf.ContentRun.{ContentRun}
use Rattle.xq_ast.specs.declared.leaf.ContentRun.TheVariants as content_
use Rattle.xq_ast.specs.declared.leaf.ValueRun.{ValueRun}
use Rattle.xq_ast.specs.declared.leaf.ValueRun.TheVariants as value_
use Rattle.xq_ast.specs.declared.node.Node.TheVariants as node_
use Rattle.xq_ast.specs.declared.node.Part.TheVariants as part_
use Rattle.xq_ast.specs.declared.node.ValuePart.TheVariants as run_
use Rattle.xq_ast.specs.Bytes.{same, from_option}
use Rattle.xq_ast.specs.Values.{reference, lines_of}
use Rattle.xq_ast.specs.Pieces.{comment_value, cdata_value, target, instruction_value}
use Rattle.xq_ast.specs.Trees.{Bytes, Name, Tree, Attribute, Part, ValuePart}
use Rattle.xq_ast.specs.Look.{syms, look, end_at}
use Rattle.xq_ast.specs.Rules.{make, stands, many, maybe, either, fit, element, blanks, behind, ◌&◌, ◌◁◌, ◌▷◌}
use Rattle.xq_ast.specs.Terminals.{Rule, one, sign, operator, tag, ahead, here, expr}

-- "{" Expr "}" in a value or in content
abbrev pub braces : {A : Type 0} → (ℕ → Tree → A) → Due → Rule A
braces f due = make f & here ◁ sign due k.Brace & expr ◁ operator k.CloseBrace

-- the character of a reference, in UTF-8
abbrev pub referred : List ℕ → ℕ → Bytes
referred text at = from_option (reference text at) [] (λ r. encode_utf8 r.0)

-- what a piece of a value stands for
abbrev pub value_run : Look → List ℕ → ℕ → ℕ → ValueRun
value_run k.Chars text at to = value_.Chars (lines_of text at to)
value_run k.Reference text at to = value_.Reference (referred text at)
value_run k.DoubledOpen text at to = value_.OpenBrace
value_run k.DoubledClose text at to = value_.CloseBrace
value_run _ text at to = value_.Quote (lines_of text (at + 1) to)

abbrev pub value_runs : List Look
value_runs = k.Chars ∷ k.Reference ∷ k.DoubledOpen ∷ k.DoubledClose ∷ k.DoubledQuote ∷ []

abbrev pub value_run_at : Due → List ℕ → ℕ → ValueRun
value_run_at due text at = value_run (look text due at) text at (end_at text due at)

-- a part of a value (productions 99 to 101)
unfoldable pub value_part : Due → Rule ValuePart
value_part due = either (syms due value_runs) (make run_.Run & here & stands (syms due value_runs) (behind due) (value_run_at due)) (braces run_.Brace due)

-- DirAttributeValue (production 98)
unfoldable pub double_quoted : Rule (List ValuePart)
double_quoted = tag k.DoubleQuote ▷ many (value_part DoubleQuoted) ◁ sign DoubleQuoted k.DoubleQuote

unfoldable pub single_quoted : Rule (List ValuePart)
single_quoted = tag k.SingleQuote ▷ many (value_part SingleQuoted) ◁ sign SingleQuoted k.SingleQuote

unfoldable pub value : Rule (List ValuePart)
value = either (one Tag k.DoubleQuote) double_quoted single_quoted

abbrev pub tag_name_at : List ℕ → ℕ → Name
tag_name_at text at = record { offset = at; text = slice_range text at (end_at text Tag at) }

abbrev pub tag_name : Rule Name
tag_name = stands (one Tag k.Name) (behind Tag) tag_name_at

abbrev pub attribute_of : Name → List ValuePart → Attribute
attribute_of x v = record { name = x; value = v }

-- S? "=" S?
unfoldable pub equals : Rule (Unit {0})
equals = maybe (tag k.White) ▷ tag k.Equals ◁ maybe (tag k.White)

-- S QName S? "=" S? DirAttributeValue (production 97)
unfoldable pub attribute : Rule Attribute
attribute = make attribute_of ◁ tag k.Gap & tag_name ◁ equals & value

-- (S Attribute)* S?
unfoldable pub attributes : Rule (List Attribute)
attributes = many attribute ◁ maybe (tag k.White)

abbrev pub comment_at : List ℕ → ℕ → Bytes
comment_at text at = comment_value text at (end_at text Content at)

-- DirCommentConstructor (production 103)
unfoldable pub comment : Rule Tree
comment = make node_.Comment & here & stands (one Content k.Comment) (behind Content) comment_at

abbrev pub instruction_at : List ℕ → ℕ → Name × Bytes
instruction_at text at = (record { offset = at; text = target text at }, instruction_value text at (end_at text Content at))

abbrev pub instruction_of : ℕ → Name × Bytes → Tree
instruction_of o x = node_.Instruction o x.0 x.1

-- DirPIConstructor (production 105)
unfoldable pub instruction : Rule Tree
instruction = make instruction_of & here & stands (one Content k.Instruction) (behind Content) instruction_at

-- DirectConstructor (production 95)
unfoldable pub direct_here : Rule Tree
direct_here = either (one Content k.Comment) comment (either (one Content k.Instruction) instruction element)

-- the same where an operand is due
unfoldable pub direct : Rule Tree
direct = ahead (one Operand k.Less) blanks ▷ direct_here

-- what a piece of content stands for
abbrev pub content_run : Look → List ℕ → ℕ → ℕ → ContentRun
content_run k.Chars text at to = content_.Chars (lines_of text at to)
content_run k.Cdata text at to = content_.Cdata (cdata_value text at to)
content_run k.Reference text at to = content_.Reference (referred text at)
content_run k.DoubledOpen text at to = content_.OpenBrace
content_run _ text at to = content_.CloseBrace

abbrev pub content_runs : List Look
content_runs = k.Chars ∷ k.Cdata ∷ k.Reference ∷ k.DoubledOpen ∷ k.DoubledClose ∷ []

abbrev pub content_run_at : List ℕ → ℕ → ContentRun
content_run_at text at = content_run (look text Content at) text at (end_at text Content at)

-- DirElemContent (production 101)
unfoldable pub content_part : Rule Part
content_part =
    either (syms Content content_runs) (make part_.Run & here & stands (syms Content content_runs) (behind Content) content_run_at)
    (either (one Content k.Brace) (braces part_.Brace Content)
    (make part_.Inner & direct_here))

-- "</" QName S? ">"
unfoldable pub end_tag : Rule Name
end_tag = sign Content k.EndTagStart ▷ tag_name ◁ maybe (tag k.White) ◁ tag k.TagEnd

-- what follows the attributes: the content, and the name in the end tag
unfoldable pub content : Rule (List Part × Option Name)
content =
    either (one Tag k.EmptyTagEnd) (make ([], None) ◁ tag k.EmptyTagEnd)
    (make (λ c n. (c, Some n)) ◁ tag k.TagEnd & many content_part & end_tag)

-- the names in both tags agree
abbrev pub names_agree : Name → Option Name → Bool
names_agree n None = true
names_agree n (Some m) = same n.text m.text

abbrev pub if_paired : Tree × Name × Option Name → Option Tree
if_paired x = if names_agree x.1 x.2 then Some x.0 else None

abbrev pub element_of : ℕ → Name → List Attribute → List Part × Option Name → Tree × Name × Option Name
element_of o n as_ t = (node_.Element o n as_ t.0, n, t.1)

-- DirElemConstructor (production 96)
unfoldable pub elem : Rule Tree
elem = fit if_paired (make element_of & here ◁ sign Content k.TagStart & tag_name & attributes & content)
