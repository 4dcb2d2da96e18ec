-- The words of the language, with the classes that they are of. Keywords aren't reserved: what follows a name decides
-- (XQuery 1.0, appendix A.2.2 and A.3).
use Rattle.std.specs.Prelude.{ℕ, Bool, ◌==◌, List, [], ◌∷◌, if◌then◌else◌, codes, drop}
use Rattle.xq_ast.specs.declared.look.Look.{Look}
use Rattle.xq_ast.specs.declared.look.Look.TheVariants as k
use Rattle.xq_ast.specs.Bytes.{same, follows}

-- the class of a word in a table, or else another
abbrev pub word_look : List (List ℕ × Look) → Look → List ℕ → Look
word_look [] other w = other
word_look (x ∷ xs) other w = if same w x.0 then x.1 else word_look xs other w

-- before "$"
abbrev pub binding_words : List (List ℕ × Look)
binding_words = (codes "for", k.For) ∷ (codes "let", k.Let) ∷ (codes "some", k.Some) ∷ (codes "every", k.Every) ∷ []

-- before "{"
abbrev pub block_words : List (List ℕ × Look)
block_words =
    (codes "text", k.TextBuilder) ∷ (codes "comment", k.CommentBuilder) ∷ (codes "document", k.DocumentBuilder)
    ∷ (codes "validate", k.LeftOut) ∷ (codes "ordered", k.LeftOut) ∷ (codes "unordered", k.LeftOut) ∷ []

-- before "{", or before a name and "{"
abbrev pub builder_words : List (List ℕ × Look)
builder_words = (codes "element", k.ElementBuilder) ∷ (codes "attribute", k.AttributeBuilder) ∷ (codes "processing-instruction", k.InstructionBuilder) ∷ []

-- before "::" (XQuery 1.0, section 3.2.1.1, productions 73 and 76)
abbrev pub forward_axes : List (List ℕ × Look)
forward_axes =
    (codes "child", k.Axis) ∷ (codes "descendant", k.Axis) ∷ (codes "attribute", k.Axis) ∷ (codes "self", k.Axis)
    ∷ (codes "descendant-or-self", k.Axis) ∷ (codes "following-sibling", k.Axis) ∷ (codes "following", k.Axis) ∷ []

abbrev pub reverse_axes : List (List ℕ × Look)
reverse_axes =
    (codes "parent", k.Axis) ∷ (codes "ancestor", k.Axis) ∷ (codes "preceding-sibling", k.Axis) ∷ (codes "preceding", k.Axis)
    ∷ (codes "ancestor-or-self", k.Axis) ∷ (codes "namespace", k.LeftOut) ∷ []

-- before "(": the tests by kind (XQuery 1.0, section 2.5.3, production 123)
abbrev pub kind_words : List (List ℕ × Look)
kind_words =
    (codes "node", k.NodeTest) ∷ (codes "text", k.TextTest) ∷ (codes "comment", k.CommentTest) ∷ (codes "document-node", k.DocumentTest)
    ∷ (codes "processing-instruction", k.InstructionTest) ∷ (codes "element", k.ElementTest) ∷ (codes "attribute", k.AttributeTest)
    ∷ (codes "schema-element", k.LeftOut) ∷ (codes "schema-attribute", k.LeftOut) ∷ []

-- before "(", where a type is due (XQuery 1.0, section 2.5.3, productions 119 and 121)
abbrev pub type_words : List (List ℕ × Look)
type_words = (codes "item", k.ItemTest) ∷ (codes "empty-sequence", k.EmptyTest) ∷ []

-- before "(", where an operand is due: other names that are no functions (XQuery 1.0, appendix A.3)
abbrev pub reserved_words : List (List ℕ × Look)
reserved_words = (codes "if", k.If) ∷ (codes "typeswitch", k.Typeswitch) ∷ (codes "item", k.Reserved) ∷ (codes "empty-sequence", k.Reserved) ∷ []

-- functions that are left out, with or without "fn:" (own rule)
abbrev pub left_calls : List (List ℕ × Look)
left_calls =
    (codes "avg", k.LeftOut) ∷ (codes "number", k.LeftOut) ∷ (codes "id", k.LeftOut) ∷ (codes "idref", k.LeftOut) ∷ (codes "collection", k.LeftOut) ∷ []

abbrev pub left_text_calls : List (List ℕ × Look)
left_text_calls =
    (codes "matches", k.LeftOut) ∷ (codes "replace", k.LeftOut) ∷ (codes "tokenize", k.LeftOut) ∷ (codes "upper-case", k.LeftOut)
    ∷ (codes "lower-case", k.LeftOut) ∷ (codes "normalize-unicode", k.LeftOut) ∷ []

-- a function that may be called, or is left out
abbrev pub call_look : List ℕ → Look
call_look w = word_look left_calls (word_look left_text_calls k.Callee w) w

abbrev pub without_fn : List ℕ → List ℕ
without_fn w = if follows (codes "fn:") w 0 then drop 3 w else w

-- where an operator is due: operators
abbrev pub comparing_words : List (List ℕ × Look)
comparing_words =
    (codes "or", k.Or) ∷ (codes "and", k.And) ∷ (codes "eq", k.Eq) ∷ (codes "ne", k.Ne) ∷ (codes "lt", k.Lt) ∷ (codes "le", k.Le)
    ∷ (codes "gt", k.Gt) ∷ (codes "ge", k.Ge) ∷ (codes "is", k.Is) ∷ []

abbrev pub operator_words : List (List ℕ × Look)
operator_words =
    (codes "to", k.To) ∷ (codes "idiv", k.Idiv) ∷ (codes "mod", k.Mod) ∷ (codes "div", k.Div) ∷ (codes "union", k.Union)
    ∷ (codes "intersect", k.Intersect) ∷ (codes "except", k.Except) ∷ []

-- and the words of types
abbrev pub typing_words : List (List ℕ × Look)
typing_words =
    (codes "instance", k.Instance) ∷ (codes "of", k.Of) ∷ (codes "treat", k.Treat) ∷ (codes "castable", k.Castable) ∷ (codes "cast", k.Cast) ∷ (codes "as", k.As) ∷ []

-- and those inside FLWOR expressions, quantifiers and conditions
abbrev pub clause_words : List (List ℕ × Look)
clause_words =
    (codes "for", k.For) ∷ (codes "let", k.Let) ∷ (codes "in", k.In) ∷ (codes "at", k.At) ∷ (codes "where", k.Where) ∷ (codes "stable", k.Stable)
    ∷ (codes "order", k.Order) ∷ (codes "by", k.By) ∷ []

abbrev pub inner_words : List (List ℕ × Look)
inner_words =
    (codes "return", k.Return) ∷ (codes "satisfies", k.Satisfies) ∷ (codes "then", k.Then) ∷ (codes "else", k.Else) ∷ []

abbrev pub key_words : List (List ℕ × Look)
key_words =
    (codes "ascending", k.Ascending) ∷ (codes "descending", k.Descending) ∷ (codes "empty", k.Empty) ∷ (codes "greatest", k.Greatest)
    ∷ (codes "least", k.Least) ∷ (codes "collation", k.Collation) ∷ []

-- and those of the prolog
abbrev pub prolog_words : List (List ℕ × Look)
prolog_words =
    (codes "version", k.Version) ∷ (codes "encoding", k.Encoding) ∷ (codes "boundary-space", k.BoundarySpace) ∷ (codes "strip", k.Strip)
    ∷ (codes "preserve", k.Preserve) ∷ (codes "variable", k.Variable) ∷ (codes "function", k.Function) ∷ (codes "external", k.External) ∷ []

-- all of them
abbrev pub operator_look : List ℕ → Look
operator_look w =
    word_look comparing_words (word_look operator_words (word_look typing_words (word_look clause_words (word_look inner_words (word_look key_words (word_look prolog_words k.Name w) w) w) w) w) w) w

-- what `declare` begins before a word (XQuery 1.0, section 4, productions 6 to 26)
abbrev pub declared_words : List (List ℕ × Look)
declared_words = (codes "boundary-space", k.DeclareSpace) ∷ (codes "variable", k.DeclareVariable) ∷ (codes "function", k.DeclareFunction) ∷ []
