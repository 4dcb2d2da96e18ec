-- The classes of bytes and texts that the productions name. A text is the list of its bytes in UTF-8.
use Rattle.std.specs.Prelude.{ℕ, ◌+◌, ◌*◌, Bool, true, false, not, ◌||◌, ◌&&◌, ◌==◌, nat_le, List, [], ◌∷◌, codes}
use Rattle.std.specs.List.{list_all}
use Rattle.std.specs.Str.{is_utf8, chars, bytes_eq, str_to_ascii_lowercase}
use Rattle.std.specs.Int.{is_in_range}
use Rattle.std.specs.Char.{digit_value, is_ascii_digit, is_ascii_hexdigit, is_ascii_alphabetic, is_ascii_alphanumeric}
use Rattle.xq_base.specs.Chars.{is_char, is_name, is_name_char}
use Rattle.doc_shred.specs.Rules.{holds}

-- white space: blank, tab, carriage return, line feed (XML 1.0, section 2.3, production 3)
abbrev pub is_blank : ℕ → Bool
is_blank b = b == 32 || b == 9 || b == 13 || b == 10

-- the bytes spell characters: UTF-8 of Char (XML 1.0, section 2.2, production 2)
unfoldable pub are_chars : List ℕ → Bool
are_chars bytes = is_utf8 bytes && list_all is_char (chars bytes)

-- the bytes spell a Name (XML 1.0, section 2.3, production 5)
unfoldable pub is_name_text : List ℕ → Bool
is_name_text bytes = is_utf8 bytes && is_name (chars bytes)

-- A byte that goes on with a Name: of a NameChar, or of any character beyond ASCII. In every production
-- an ASCII character that is no NameChar follows a Name (XML 1.0, section 2.3, production 4a).
unfoldable pub is_name_byte : ℕ → Bool
is_name_byte b = nat_le 128 b || is_name_char b

-- "xml" in any case, which names no instruction (XML 1.0, section 2.6, production 17)
unfoldable pub is_xml : List ℕ → Bool
is_xml name = bytes_eq (str_to_ascii_lowercase name) (codes "xml")

-- a character of character data: neither markup nor a reference begins with it (XML 1.0, section 2.4, production 14)
abbrev pub is_data_byte : ℕ → Bool
is_data_byte b = not (b == 60) && not (b == 38)

-- an ASCII character of data that stands for itself wherever it stands: no `]`, with which "]]>" begins (own rule)
unfoldable pub is_plain_byte : ℕ → Bool
is_plain_byte b = (is_in_range 32 126 b || b == 9 || b == 10 || b == 13) && not (b == 60) && not (b == 38) && not (b == 93)

-- an ASCII character of a value that stands for itself between these quotes: no white space but blanks (own rule)
unfoldable pub is_plain_value_byte : ℕ → ℕ → Bool
is_plain_value_byte quote b = is_in_range 32 126 b && not (b == quote) && not (b == 60) && not (b == 38)

-- an ASCII character of a Name (own rule)
unfoldable pub is_plain_name_byte : ℕ → Bool
is_plain_name_byte b = is_ascii_alphanumeric b || b == 95 || b == 58 || is_in_range 45 46 b

-- character data: characters among which "]]>" doesn't stand (XML 1.0, section 2.4, production 14)
unfoldable pub are_data : List ℕ → Bool
are_data bytes = are_chars bytes && not (holds (93 ∷ 93 ∷ 62 ∷ []) bytes)

-- a character of an attribute's value that stands for itself between these quotes (XML 1.0, section 2.3, production 10)
abbrev pub is_value_byte : ℕ → ℕ → Bool
is_value_byte quote b = not (b == quote) && not (b == 60) && not (b == 38)

-- what a character of a value becomes: white space becomes a blank (XML 1.0, section 3.3.3)
abbrev pub to_blank : ℕ → ℕ
to_blank b = Rattle.std.specs.Prelude.if◌then◌else◌ (is_blank b) 32 b

-- the number that digits write
abbrev pub number : ℕ → ℕ → List ℕ → ℕ
number radix before [] = before
number radix before (d ∷ ds) = number radix (before * radix + digit_value d) ds

abbrev pub decimal : List ℕ → ℕ
decimal = number 10 0

abbrev pub hexadecimal : List ℕ → ℕ
hexadecimal = number 16 0

-- a character of an encoding's name, and one that may begin it (XML 1.0, section 4.3.3, production 81)
abbrev pub is_encoding_byte : ℕ → Bool
is_encoding_byte b = is_ascii_alphanumeric b || b == 46 || b == 95 || b == 45

-- the encodings that are read: UTF-8, and US-ASCII, which is a part of it, in any case (own rule)
unfoldable pub is_known_encoding : List ℕ → Bool
is_known_encoding name = bytes_eq (str_to_ascii_lowercase name) (codes "utf-8") || bytes_eq (str_to_ascii_lowercase name) (codes "us-ascii")

-- a character of a public identifier (XML 1.0, section 2.3, production 13)
unfoldable pub is_public_byte : ℕ → Bool
is_public_byte b =
    b == 32 || b == 13 || b == 10 || is_ascii_alphanumeric b
    || is_in_range 39 47 b || b == 58 || b == 59 || b == 61 || b == 63 || b == 33 || b == 35 || b == 36 || b == 37 || b == 64 || b == 95
