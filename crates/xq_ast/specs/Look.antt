-- What stands at a place: the token or the piece there, and of a name what it begins (XQuery 1.0, appendix A.2.2). Each place is
-- of one class, so no two classes of what is due exclude each other by a proof.
use Rattle.std.specs.Prelude.{ℕ, Bool, true, false, not, ◌&&◌, ◌||◌, ◌==◌, List, [], ◌∷◌, length, map, Option, Some, None, if◌then◌else◌, slice_range, codes}
use Rattle.std.specs.Str.{str_to_ascii_lowercase}
use Rattle.xq_ast.specs.declared.token.Mode.TheVariants as mode_
use Rattle.xq_ast.specs.declared.token.TokenKind.{TokenKind}
use Rattle.xq_ast.specs.declared.token.TokenKind.TheVariants as t
use Rattle.xq_ast.specs.declared.token.Token.{Token}
use Rattle.xq_ast.specs.declared.token.DirPlace.TheVariants as place_
use Rattle.xq_ast.specs.declared.token.PieceKind.{PieceKind}
use Rattle.xq_ast.specs.declared.token.PieceKind.TheVariants as p
use Rattle.xq_ast.specs.declared.token.Piece.{Piece}
use Rattle.xq_ast.specs.declared.look.Due.{Due}
use Rattle.xq_ast.specs.declared.look.Due.TheVariants.{Operand, Operator, Named, Tested, Typed, Prologue, Tag, DoubleQuoted, SingleQuoted, Content}
use Rattle.xq_ast.specs.declared.look.Look.{Look}
use Rattle.xq_ast.specs.declared.look.Look.TheVariants as k
use Rattle.xq_ast.specs.Bytes.{start, same}
use Rattle.xq_ast.specs.Values.{string_value}
use Rattle.xq_ast.specs.Tokens.{token}
use Rattle.xq_ast.specs.Pieces.{piece}
use Rattle.xq_ast.specs.Codes.{code, due_code}
use Rattle.xq_ast.specs.Words.{word_look, binding_words, block_words, builder_words, forward_axes, reverse_axes, kind_words, type_words, reserved_words, call_look, without_fn, operator_look, declared_words}

-- the class of a token by itself
abbrev pub of_kind : TokenKind → Look
of_kind t.Name = k.Name
of_kind t.Integer = k.Integer
of_kind t.Quoted = k.Quoted
of_kind t.Comma = k.Comma
of_kind t.Semicolon = k.Semicolon
of_kind t.Dollar = k.Dollar
of_kind t.Open = k.Open
of_kind t.Close = k.Close
of_kind t.OpenBracket = k.OpenBracket
of_kind t.CloseBracket = k.CloseBracket
of_kind t.OpenBrace = k.OpenBrace
of_kind t.CloseBrace = k.CloseBrace
of_kind t.Assign = k.Assign
of_kind t.Colons = k.Colons
of_kind t.AtSign = k.AtSign
of_kind t.Dot = k.Dot
of_kind t.Dots = k.Dots
of_kind t.Slash = k.Slash
of_kind t.Slashes = k.Slashes
of_kind t.Equal = k.Equal
of_kind t.Unequal = k.Unequal
of_kind t.Less = k.Less
of_kind t.AtMost = k.AtMost
of_kind t.Greater = k.Greater
of_kind t.AtLeast = k.AtLeast
of_kind t.Precedes = k.Precedes
of_kind t.Follows = k.Follows
of_kind t.Plus = k.Plus
of_kind t.Minus = k.Minus
of_kind t.Star = k.Star
of_kind t.Bar = k.Bar
of_kind t.Question = k.Question
of_kind t.Pragma = k.Pragma
of_kind t.PrefixStar = k.PrefixStar
of_kind t.StarName = k.StarName
of_kind t.Decimal = k.Decimal
of_kind t.Fraction = k.Fraction

-- the class of a piece by itself
abbrev pub of_piece : PieceKind → Look
of_piece p.White = k.White
of_piece p.Name = k.Name
of_piece p.Equals = k.Equals
of_piece p.DoubleQuote = k.DoubleQuote
of_piece p.SingleQuote = k.SingleQuote
of_piece p.TagEnd = k.TagEnd
of_piece p.EmptyTagEnd = k.EmptyTagEnd
of_piece p.Chars = k.Chars
of_piece p.Reference = k.Reference
of_piece p.Cdata = k.Cdata
of_piece p.DoubledOpen = k.DoubledOpen
of_piece p.DoubledClose = k.DoubledClose
of_piece p.DoubledQuote = k.DoubledQuote
of_piece p.Brace = k.Brace
of_piece p.TagStart = k.TagStart
of_piece p.EndTagStart = k.EndTagStart
of_piece p.Comment = k.Comment
of_piece p.Instruction = k.Instruction

abbrev pub is_kind : TokenKind → Option Token → Bool
is_kind kind None = false
is_kind kind (Some x) = code (of_kind x.kind) == code (of_kind kind)

abbrev pub end_of : Option Token → ℕ
end_of None = 0
end_of (Some x) = x.end

abbrev pub piece_end_of : Option Piece → ℕ
piece_end_of None = 0
piece_end_of (Some x) = x.end

abbrev pub word_of : List ℕ → Token → List ℕ
word_of text x = slice_range text x.start x.end

-- the name that comes next, or nothing
abbrev pub next_word : List ℕ → Option Token → List ℕ
next_word text None = []
next_word text (Some x) = if code (of_kind x.kind) == code k.Name then word_of text x else []

abbrev pub piece_look : Option Piece → Look
piece_look None = k.Nothing
piece_look (Some x) = of_piece x.kind

-- in a tag, white space before a name is of its own class
abbrev pub gap : Look → Look
gap k.Name = k.Gap
gap _ = k.White

-- what `declare` begins, by the next name
abbrev pub declared : List ℕ → Look
declared [] = k.Body
declared (c ∷ cs) = word_look declared_words k.LeftOut (c ∷ cs)

module _ (text : List ℕ) where
  -- the token that comes next; the mode matters to none that is asked for
  abbrev pub next : ℕ → Option Token
  next at = token text mode_.Operand at

  abbrev pub is_next : TokenKind → ℕ → Bool
  is_next kind at = is_kind kind (next at)

  -- a test by kind, or else another class: `document-node` with content is left out, which begins with a name
  abbrev pub kind_look : Look → List ℕ → ℕ → Look
  kind_look other w to =
      if same w (codes "document-node") && is_next t.Name (end_of (next to)) then k.LeftOut else word_look kind_words other w

  -- a name before "(" where an operand is due
  abbrev pub called : List ℕ → ℕ → Look
  called w to = kind_look (word_look reserved_words (call_look (without_fn w)) w) w to

  -- a name before a name where an operand is due
  abbrev pub before_name : List ℕ → Token → Look
  before_name w x =
      if same w (codes "validate") && (same (word_of text x) (codes "lax") || same (word_of text x) (codes "strict")) then k.LeftOut
      else if is_next t.OpenBrace x.end then word_look builder_words k.Name w
      else k.Name

  abbrev pub name_before : List ℕ → ℕ → Token → Look
  name_before w to x =
      if code (of_kind x.kind) == code k.Open then called w to
      else if code (of_kind x.kind) == code k.Dollar then word_look binding_words k.Name w
      else if code (of_kind x.kind) == code k.OpenBrace then word_look builder_words (word_look block_words k.Name w) w
      else if code (of_kind x.kind) == code k.Colons then word_look forward_axes (word_look reverse_axes k.Name w) w
      else if code (of_kind x.kind) == code k.Name then before_name w x
      else k.Name

  -- a name where an operand is due, by the token after it
  abbrev pub operand_name : List ℕ → ℕ → Option Token → Look
  operand_name w to None = k.Name
  operand_name w to (Some x) = name_before w to x

  -- a string that names another encoding than UTF-8 or US-ASCII, in any case
  abbrev pub is_other_encoding : Option Token → Bool
  is_other_encoding None = false
  is_other_encoding (Some x) =
      let name = str_to_ascii_lowercase (string_value text x.start x.end) in
      code (of_kind x.kind) == code k.Quoted && not (same name (codes "utf-8") || same name (codes "us-ascii"))

  abbrev pub operator_name : List ℕ → ℕ → Look
  operator_name w to = if same w (codes "encoding") && is_other_encoding (next to) then k.OtherEncoding else operator_look w

  -- a name where the test of a step is due, and where a type is
  abbrev pub tested_name : Look → List ℕ → ℕ → Look
  tested_name other w to = if is_next t.Open to then kind_look other w to else k.Name

  -- a name where a declaration may stand
  abbrev pub prologue_name : List ℕ → ℕ → Look
  prologue_name w to =
      if same w (codes "declare") then declared (next_word text (next to))
      else if same w (codes "import") then k.LeftOut
      else if same w (codes "module") then k.Module
      else if same w (codes "xquery") && same (next_word text (next to)) (codes "version") then k.Xquery
      else k.Body

  abbrev pub name_look : Due → List ℕ → ℕ → Look
  name_look Operand w to = operand_name w to (next to)
  name_look Operator w to = operator_name w to
  name_look Tested w to = tested_name k.Name w to
  name_look Typed w to = tested_name (word_look type_words k.Name w) w to
  name_look Prologue w to = prologue_name w to
  name_look _ w to = k.Name

  abbrev pub no_token : ℕ → Look
  no_token at = if start text at == length text then k.End else k.Nothing

  abbrev pub token_look : Due → ℕ → Option Token → Look
  token_look due at None = no_token at
  token_look due at (Some x) = if code (of_kind x.kind) == code k.Name then name_look due (word_of text x) x.end else of_kind x.kind

  -- what isn't a name begins no declaration
  abbrev pub prologue_look : Option Token → Look
  prologue_look None = k.Body
  prologue_look (Some x) = if code (of_kind x.kind) == code k.Name then name_look Prologue (word_of text x) x.end else k.Body

  abbrev pub tag_look : Option Piece → Look
  tag_look None = k.Nothing
  tag_look (Some x) = if code (of_piece x.kind) == code k.White then gap (piece_look (piece text place_.Tag x.end)) else of_piece x.kind

  abbrev pub look : Due → ℕ → Look
  look Operand at = token_look Operand at (token text mode_.Operand at)
  look Operator at = token_look Operator at (token text mode_.Operator at)
  look Named at = token_look Named at (token text mode_.Operand at)
  look Tested at = token_look Tested at (token text mode_.Operand at)
  look Typed at = token_look Typed at (token text mode_.Operand at)
  look Prologue at = prologue_look (token text mode_.Operand at)
  look Tag at = tag_look (piece text place_.Tag at)
  look DoubleQuoted at = piece_look (piece text place_.DoubleQuoted at)
  look SingleQuoted at = piece_look (piece text place_.SingleQuoted at)
  look Content at = piece_look (piece text place_.Content at)

  -- where it ends
  abbrev pub end_at : Due → ℕ → ℕ
  end_at Operator at = end_of (token text mode_.Operator at)
  end_at Tag at = piece_end_of (piece text place_.Tag at)
  end_at DoubleQuoted at = piece_end_of (piece text place_.DoubleQuoted at)
  end_at SingleQuoted at = piece_end_of (piece text place_.SingleQuoted at)
  end_at Content at = piece_end_of (piece text place_.Content at)
  end_at _ at = end_of (token text mode_.Operand at)

  abbrev pub looks : Due → Look → ℕ → Bool
  looks due kind at = code (look due at) == code kind

-- what may stand at a place, read so
pub record Sym : Type 0 where
  pub due : Due
  pub kind : Look

abbrev pub syms : Due → List Look → List Sym
syms due ks = map (λ kind. record { due = due; kind = kind }) ks

-- one of these stands here
abbrev pub stands_one : List ℕ → List Sym → ℕ → Bool
stands_one text [] at = false
stands_one text (s ∷ []) at = looks text s.due s.kind at
stands_one text (s ∷ u ∷ ts) at = looks text s.due s.kind at || stands_one text (u ∷ ts) at
