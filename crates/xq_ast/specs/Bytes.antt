-- A text as the list of its bytes in UTF-8: bytes, characters, runs, white space and comments. A place is an offset into it.
use Rattle.std.specs.Prelude.{ℕ, zero, suc, ◌+◌, ◌-◌, ◌*◌, ◌%◌, Bool, true, false, not, ◌&&◌, ◌||◌, ◌==◌, List, [], ◌∷◌, length, get_or, Option, Some, None, nat_le, nat_lt, if◌then◌else◌}
use Rattle.xq_ast.specs.declared.token.Skip.{Skip}
use Rattle.xq_base.specs.Chars.{is_name_char, is_name_start}

-- the byte at a place; behind the end it is 0, which is no Char
abbrev pub byte : List ℕ → ℕ → ℕ
byte text at = get_or text at 0

-- how many bytes a character has, by the first (The Unicode Standard, section 3.9, table 3-6)
abbrev pub width : ℕ → ℕ
width b = if nat_lt b 192 then 1 else if nat_lt b 224 then 2 else if nat_lt b 240 then 3 else 4

-- the number that a code point's bytes write, and six bits more (The Unicode Standard, section 3.9, table 3-6)
abbrev pub more_bits : List ℕ → ℕ → ℕ → ℕ
more_bits text at high = high * 64 + byte text at % 64

-- the code point of the character at a place; where the text ends before it does it is 0, which is no Char
abbrev pub char_at : List ℕ → ℕ → ℕ
char_at text at =
    let b = byte text at in
    if nat_lt (length text) (at + width b) then 0
    else if nat_lt b 192 then b
    else if nat_lt b 224 then more_bits text (at + 1) (b % 32)
    else if nat_lt b 240 then more_bits text (at + 2) (more_bits text (at + 1) (b % 16))
    else more_bits text (at + 3) (more_bits text (at + 2) (more_bits text (at + 1) (b % 8)))

-- S of one byte (XML 1.0, section 2.3, production 3)
abbrev pub is_white : ℕ → Bool
is_white b = b == 32 || b == 9 || b == 10 || b == 13

abbrev pub is_digit : ℕ → Bool
is_digit b = nat_le 48 b && nat_le b 57

abbrev pub is_hex_digit : ℕ → Bool
is_hex_digit b = is_digit b || (nat_le 65 b && nat_le b 70) || (nat_le 97 b && nat_le b 102)

-- the characters of an NCName (Namespaces in XML 1.0, section 3, production 4)
abbrev pub begins_ncname : ℕ → Bool
begins_ncname c = is_name_start c && not (c == 58)

abbrev pub goes_on_ncname : ℕ → Bool
goes_on_ncname c = is_name_char c && not (c == 58)

-- the first place from here on, of so many, whose byte is none of these
unfoldable pub ends : (ℕ → Bool) → List ℕ → ℕ → ℕ → ℕ
ends is text zero at = at
ends is text (suc n) at = if is (byte text at) then ends is text n (at + 1) else at

abbrev pub run_end : (ℕ → Bool) → List ℕ → ℕ → ℕ
run_end is text at = ends is text (length text - at) at

-- the same by characters
unfoldable pub char_ends : (ℕ → Bool) → List ℕ → ℕ → ℕ → ℕ
char_ends is text zero at = at
char_ends is text (suc n) at = if is (char_at text at) then char_ends is text n (at + width (byte text at)) else at

abbrev pub chars_end : (ℕ → Bool) → List ℕ → ℕ → ℕ
chars_end is text at = char_ends is text (length text - at) at

abbrev pub skip_done : Skip → ℕ
skip_done s = if s.depth == 0 then s.at else s.back

abbrev pub opened : Skip → Skip
opened s = record { depth = s.depth + 1; back = if s.depth == 0 then s.at else s.back; at = s.at + 2 }

abbrev pub passed : Skip → Skip
passed s = record { depth = s.depth; back = s.back; at = s.at + 1 }

abbrev pub closed : Skip → Skip
closed s = record { depth = s.depth - 1; back = s.back; at = s.at + 2 }

-- one byte further, or two: comments nest (XQuery 1.0, section 2.6)
abbrev pub skip_step : List ℕ → Skip → Option Skip
skip_step text s =
    if nat_le (length text) s.at then None
    else if byte text s.at == 40 && byte text (s.at + 1) == 58 then Some (opened s)
    else if s.depth == 0 then (if is_white (byte text s.at) then Some (passed s) else None)
    else if byte text s.at == 58 && byte text (s.at + 1) == 41 then Some (closed s)
    else Some (passed s)

abbrev pub from_option : {A B : Type 0} → Option A → B → (A → B) → B
from_option None b f = b
from_option (Some a) b f = f a

-- white space and comments from here on, in so many steps
unfoldable pub skip_from : List ℕ → ℕ → Skip → ℕ
skip_from text zero s = skip_done s
skip_from text (suc n) s = from_option (skip_step text s) (skip_done s) (skip_from text n)

-- the place after white space and whole comments (XQuery 1.0, section 2.6 and appendix A.2.4.1)
abbrev pub start : List ℕ → ℕ → ℕ
start text at = skip_from text (length text) (record { depth = 0; back = at; at = at })

-- these bytes stand here
abbrev pub follows : List ℕ → List ℕ → ℕ → Bool
follows [] text at = true
follows (c ∷ cs) text at = byte text at == c && follows cs text (at + 1)

-- the first place from here on, of so many, where these bytes stand
unfoldable pub found : List ℕ → List ℕ → ℕ → ℕ → Option ℕ
found word text zero at = None
found word text (suc n) at = if follows word text at then Some at else found word text n (at + 1)

abbrev pub find : List ℕ → List ℕ → ℕ → Option ℕ
find word text at = found word text (length text - at) at

-- two lists of bytes are the same
abbrev pub same : List ℕ → List ℕ → Bool
same [] [] = true
same (x ∷ xs) (y ∷ ys) = x == y && same xs ys
same _ _ = false
