-- The piece of a direct constructor at a place (XQuery 1.0, sections 3.7.1 and 3.7.2).
use Rattle.std.specs.Prelude.{ℕ, ◌+◌, ◌-◌, Bool, true, false, not, ◌&&◌, ◌||◌, ◌==◌, List, length, Option, Some, None, option_map, nat_le, if◌then◌else◌, slice_range, codes}
use Rattle.std.specs.Str.{str_to_ascii_lowercase, bytes_eq}
use Rattle.xq_base.specs.Chars.{is_name_start, is_name_char}
use Rattle.xq_ast.specs.declared.token.DirPlace.{DirPlace}
use Rattle.xq_ast.specs.declared.token.DirPlace.TheVariants.{Tag, DoubleQuoted, SingleQuoted, Content}
use Rattle.xq_ast.specs.declared.token.PieceKind.{PieceKind}
use Rattle.xq_ast.specs.declared.token.PieceKind.TheVariants as p
use Rattle.xq_ast.specs.declared.token.Piece.{Piece}
use Rattle.xq_ast.specs.Bytes.{byte, width, char_at, is_white, begins_ncname, run_end, chars_end, follows, find, same, from_option}
use Rattle.xq_ast.specs.Values.{reference, lines_of}
use Rattle.xq_ast.specs.Tokens.{name_end}

abbrev pub piece_to : PieceKind → ℕ → ℕ → Piece
piece_to kind at end = record { kind = kind; start = at; end = end }

abbrev pub one : PieceKind → ℕ → ℕ → Option Piece
one kind at end = Some (piece_to kind at end)

-- a piece up to a place, where there is one
abbrev pub up_to : PieceKind → ℕ → Option ℕ → Option Piece
up_to kind at None = None
up_to kind at (Some end) = Some (piece_to kind at end)

-- a byte of characters in content that stand for themselves (XQuery 1.0, section 3.7.1, production 148)
abbrev pub is_content : ℕ → Bool
is_content b = not (b == 0) && not (b == 60) && not (b == 38) && not (b == 123) && not (b == 125)

-- a byte of characters in a value that stand for themselves between these quotes (productions 149 and 150)
abbrev pub is_value : ℕ → ℕ → Bool
is_value quote b = is_content b && not (b == quote)

-- Comment: where it ends; "--" doesn't stand in it (XML 1.0, section 2.5, production 15)
abbrev pub comment_end : List ℕ → ℕ → Option ℕ
comment_end text at = from_option (find (codes "--") text (at + 4)) None (λ e. if byte text (e + 2) == 62 then Some (e + 3) else None)

-- the characters of a comment between its places
abbrev pub comment_value : List ℕ → ℕ → ℕ → List ℕ
comment_value text at to = lines_of text (at + 4) (to - 3)

-- CDATA: where it ends (XML 1.0, section 2.7, productions 18 to 21)
abbrev pub cdata_end : List ℕ → ℕ → Option ℕ
cdata_end text at = option_map (λ e. e + 3) (find (codes "]]>") text (at + 9))

abbrev pub cdata_value : List ℕ → ℕ → ℕ → List ℕ
cdata_value text at to = lines_of text (at + 9) (to - 3)

-- where an instruction's name ends, and where its value begins (XML 1.0, section 2.6, productions 16 and 17)
abbrev pub target_end : List ℕ → ℕ → ℕ
target_end text at = chars_end is_name_char text (at + 2)

abbrev pub target : List ℕ → ℕ → List ℕ
target text at = slice_range text (at + 2) (target_end text at)

-- "xml" in any case, which names no instruction (XML 1.0, section 2.6, production 17)
unfoldable pub is_xml : List ℕ → Bool
is_xml name = bytes_eq (str_to_ascii_lowercase name) (codes "xml")

-- the name begins as a Name does, and isn't "xml"
abbrev pub is_target : List ℕ → ℕ → Bool
is_target text at = is_name_start (char_at text (at + 2)) && not (is_xml (target text at))

-- PI: where it ends
abbrev pub instruction_end : List ℕ → ℕ → Option ℕ
instruction_end text at =
    let e = target_end text at in
    if not (is_target text at) then None
    else if follows (codes "?>") text e then Some (e + 2)
    else if is_white (byte text e) then option_map (λ f. f + 2) (find (codes "?>") text (run_end is_white text e))
    else None

-- what follows an instruction's name, without leading white space
abbrev pub instruction_value : List ℕ → ℕ → ℕ → List ℕ
instruction_value text at to = lines_of text (run_end is_white text (target_end text at)) (to - 2)

-- a brace, or a doubled one
abbrev pub brace : List ℕ → ℕ → Option Piece
brace text at =
    if byte text at == 123 then (if byte text (at + 1) == 123 then one p.DoubledOpen at (at + 2) else one p.Brace at (at + 1))
    else if byte text (at + 1) == 125 then one p.DoubledClose at (at + 2)
    else None

abbrev pub in_tag : List ℕ → ℕ → Option Piece
in_tag text at =
    let b = byte text at in
    if is_white b then one p.White at (run_end is_white text (at + 1))
    else if begins_ncname (char_at text at) then one p.Name at (name_end text at)
    else if b == 61 then one p.Equals at (at + 1)
    else if b == 34 then one p.DoubleQuote at (at + 1)
    else if b == 39 then one p.SingleQuote at (at + 1)
    else if b == 62 then one p.TagEnd at (at + 1)
    else if b == 47 && byte text (at + 1) == 62 then one p.EmptyTagEnd at (at + 2)
    else None

-- a reference as a piece
abbrev pub referred : List ℕ → ℕ → Option Piece
referred text at = option_map (λ (r : ℕ × ℕ). piece_to p.Reference at r.1) (reference text at)

-- a run of bytes that pass a test, where one begins
abbrev pub run : (ℕ → Bool) → List ℕ → ℕ → Option Piece
run is text at = if is (byte text at) then one p.Chars at (run_end is text (at + 1)) else None

-- a reference, a brace or a run
abbrev pub plain : (ℕ → Bool) → List ℕ → ℕ → Option Piece
plain is text at =
    if byte text at == 123 || byte text at == 125 then brace text at
    else if byte text at == 38 then referred text at
    else run is text at

-- the quote of a value doubled, or its end
abbrev pub quote : PieceKind → List ℕ → ℕ → Piece
quote closing text at = if byte text (at + 1) == byte text at then piece_to p.DoubledQuote at (at + 2) else piece_to closing at (at + 1)

abbrev pub in_value : PieceKind → ℕ → List ℕ → ℕ → Option Piece
in_value closing mark text at = if byte text at == mark then Some (quote closing text at) else plain (is_value mark) text at

-- what "<" begins in content
abbrev pub in_markup : List ℕ → ℕ → Option Piece
in_markup text at =
    if byte text (at + 1) == 47 then one p.EndTagStart at (at + 2)
    else if follows (codes "<!--") text at then up_to p.Comment at (comment_end text at)
    else if follows (codes "<![CDATA[") text at then up_to p.Cdata at (cdata_end text at)
    else if byte text (at + 1) == 63 then up_to p.Instruction at (instruction_end text at)
    else if begins_ncname (char_at text (at + 1)) then one p.TagStart at (at + 1)
    else None

abbrev pub in_content : List ℕ → ℕ → Option Piece
in_content text at = if byte text at == 60 then in_markup text at else plain is_content text at

abbrev pub in_place : List ℕ → DirPlace → ℕ → Option Piece
in_place text Tag at = in_tag text at
in_place text DoubleQuoted at = in_value p.DoubleQuote 34 text at
in_place text SingleQuoted at = in_value p.SingleQuote 39 text at
in_place text Content at = in_content text at

-- the piece at a place
unfoldable pub piece : List ℕ → DirPlace → ℕ → Option Piece
piece text place at = if nat_le (length text) at then None else in_place text place at
