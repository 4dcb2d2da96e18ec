-- What parts of a text stand for: line ends, references, strings.
use Rattle.std.specs.Prelude.{ℕ, zero, suc, ◌+◌, ◌-◌, ◌*◌, Bool, true, false, ◌&&◌, ◌==◌, List, [], ◌∷◌, ◌++◌, length, Option, Some, None, option_map, nat_le, nat_lt, if◌then◌else◌, slice_range, codes}
use Rattle.std.specs.Char.{digit_value, encode_utf8}
use Rattle.xq_base.specs.Chars.{is_char}
use Rattle.xq_ast.specs.Bytes.{byte, is_digit, is_hex_digit, run_end, follows, from_option}

-- line ends: a carriage return with a line feed, and each other carriage return, is a line feed (XQuery 1.0, appendix
-- A.2.3). The first argument says that a carriage return stands before.
abbrev pub lines_from : Bool → List ℕ → List ℕ
lines_from after [] = []
lines_from after (c ∷ cs) =
    if c == 13 then 10 ∷ lines_from true cs
    else (if c == 10 then (if after then lines_from false cs else 10 ∷ lines_from false cs) else c ∷ lines_from false cs)

-- the text between two places, with its line ends
abbrev pub lines_of : List ℕ → ℕ → ℕ → List ℕ
lines_of text at to = lines_from false (slice_range text at to)

-- the number that digits write
abbrev pub number : ℕ → ℕ → List ℕ → ℕ
number radix before [] = before
number radix before (d ∷ ds) = number radix (before * radix + digit_value d) ds

-- the character of a predefined entity reference, and the place after it (XQuery 1.0, section 3.1.1, production 145)
abbrev pub entity : List ℕ → ℕ → Option (ℕ × ℕ)
entity text at =
    if follows (codes "&amp;") text at then Some (38, at + 5)
    else if follows (codes "&lt;") text at then Some (60, at + 4)
    else if follows (codes "&gt;") text at then Some (62, at + 4)
    else if follows (codes "&quot;") text at then Some (34, at + 6)
    else if follows (codes "&apos;") text at then Some (39, at + 6)
    else None

-- a Char by its number, whose digits stand between these places (XQuery 1.0, section 3.1.1, production 153)
abbrev pub numbered : ℕ → List ℕ → ℕ → ℕ → Option (ℕ × ℕ)
numbered radix text at to =
    let c = number radix 0 (slice_range text at to) in
    if nat_lt at to && byte text to == 59 && is_char c then Some (c, to + 1) else None

-- the character of the reference at a place, and the place after it
unfoldable pub reference : List ℕ → ℕ → Option (ℕ × ℕ)
reference text at =
    if follows (codes "&#x") text at then numbered 16 text (at + 3) (run_end is_hex_digit text (at + 3))
    else if follows (codes "&#") text at then numbered 10 text (at + 2) (run_end is_digit text (at + 2))
    else entity text at

-- one step in a string: the place that it comes to, and whether the string ends there
abbrev pub string_step : ℕ → List ℕ → ℕ → Option (Bool × ℕ)
string_step quote text at =
    if nat_le (length text) at then None
    else if byte text at == quote then (if byte text (at + 1) == quote then Some (false, at + 2) else Some (true, at + 1))
    else if byte text at == 38 then option_map (λ (r : ℕ × ℕ). (false, r.1)) (reference text at)
    else Some (false, at + 1)

abbrev pub string_next : (ℕ → Option ℕ) → Option (Bool × ℕ) → Option ℕ
string_next next None = None
string_next next (Some s) = if s.0 then Some s.1 else next s.1

-- StringLiteral: the place after the closing quote, in so many steps (XQuery 1.0, section 3.1.1, production 144)
unfoldable pub string_from : ℕ → List ℕ → ℕ → ℕ → Option ℕ
string_from quote text zero at = None
string_from quote text (suc n) at = string_next (string_from quote text n) (string_step quote text at)

abbrev pub string_end : List ℕ → ℕ → Option ℕ
string_end text at = string_from (byte text at) text (length text) (at + 1)

-- what stands between the quotes, in so many steps: quotes doubled, references and line ends read
unfoldable pub value_from : ℕ → List ℕ → ℕ → ℕ → ℕ → List ℕ
value_from quote text zero at to = []
value_from quote text (suc n) at to =
    if nat_le to at then []
    else if byte text at == quote then quote ∷ value_from quote text n (at + 2) to
    else if byte text at == 38 then from_option (reference text at) [] (λ r. encode_utf8 r.0 ++ value_from quote text n r.1 to)
    else if byte text at == 13 then 10 ∷ value_from quote text n (if byte text (at + 1) == 10 then at + 2 else at + 1) to
    else byte text at ∷ value_from quote text n (at + 1) to

-- the value of the string between two places, its quotes included
abbrev pub string_value : List ℕ → ℕ → ℕ → List ℕ
string_value text at to = value_from (byte text at) text (to - at) (at + 1) (to - 1)
