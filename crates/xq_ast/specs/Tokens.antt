-- The token at a place (XQuery 1.0, appendix A.2).
use Rattle.std.specs.Prelude.{ℕ, ◌+◌, Bool, ◌&&◌, ◌||◌, ◌==◌, List, length, Option, Some, None, option_map, nat_le, if◌then◌else◌}
use Rattle.xq_base.specs.Chars.{is_name_start}
use Rattle.xq_ast.specs.declared.token.Mode.{Mode}
use Rattle.xq_ast.specs.declared.token.Mode.TheVariants.{Operand, Operator}
use Rattle.xq_ast.specs.declared.token.TokenKind.{TokenKind}
use Rattle.xq_ast.specs.declared.token.TokenKind.TheVariants as t
use Rattle.xq_ast.specs.declared.token.Token.{Token}
use Rattle.xq_ast.specs.Bytes.{byte, width, char_at, is_digit, begins_ncname, goes_on_ncname, run_end, chars_end, start}
use Rattle.xq_ast.specs.Values.{string_end}

-- where the NCName that begins here ends
abbrev pub ncname_end : List ℕ → ℕ → ℕ
ncname_end text at = chars_end goes_on_ncname text (at + width (byte text at))

-- where the longest QName that begins here ends (Namespaces in XML 1.0, section 4, productions 7 to 11)
abbrev pub name_end : List ℕ → ℕ → ℕ
name_end text at =
    let e = ncname_end text at in
    if byte text e == 58 && begins_ncname (char_at text (e + 1)) then ncname_end text (e + 1) else e

abbrev pub token_to : TokenKind → ℕ → ℕ → Token
token_to kind at end = record { kind = kind; start = at; end = end }

-- a name, or one with ":*" directly behind it (XQuery 1.0, section 3.2.1.2, production 79)
abbrev pub name : List ℕ → ℕ → Token
name text at =
    let e = ncname_end text at in
    if byte text e == 58 && byte text (e + 1) == 42 then token_to t.PrefixStar at (e + 2) else token_to t.Name at (name_end text at)

-- digits, unless a name follows directly (XQuery 1.0, section 3.1.1, production 141, and appendix A.2.4)
abbrev pub integer : List ℕ → ℕ → Option Token
integer text at =
    let e = run_end is_digit text (at + 1) in
    if byte text e == 46 || byte text e == 69 || byte text e == 101 then Some (token_to t.Decimal at e)
    else if is_name_start (char_at text e) then None
    else Some (token_to t.Integer at e)

-- "*", or with ":" and a name directly behind it where an operand is due (XQuery 1.0, section 3.2.1.2, production 79)
abbrev pub star : List ℕ → ℕ → Mode → Token
star text at Operator = token_to t.Star at (at + 1)
star text at Operand = if byte text (at + 1) == 58 && begins_ncname (char_at text (at + 2)) then token_to t.StarName at (ncname_end text (at + 2)) else token_to t.Star at (at + 1)

abbrev pub less : ℕ → Mode → TokenKind × ℕ
less next Operand = (t.Less, 1)
less next Operator = if next == 61 then (t.AtMost, 2) else if next == 60 then (t.Precedes, 2) else (t.Less, 1)

-- the signs of one byte alone, with their lengths
abbrev pub plain_sign : ℕ → Option (TokenKind × ℕ)
plain_sign b =
    if b == 44 then Some (t.Comma, 1)
    else if b == 59 then Some (t.Semicolon, 1)
    else if b == 36 then Some (t.Dollar, 1)
    else if b == 41 then Some (t.Close, 1)
    else if b == 91 then Some (t.OpenBracket, 1)
    else if b == 93 then Some (t.CloseBracket, 1)
    else if b == 123 then Some (t.OpenBrace, 1)
    else if b == 125 then Some (t.CloseBrace, 1)
    else if b == 64 then Some (t.AtSign, 1)
    else if b == 61 then Some (t.Equal, 1)
    else if b == 43 then Some (t.Plus, 1)
    else if b == 45 then Some (t.Minus, 1)
    else if b == 124 then Some (t.Bar, 1)
    else if b == 63 then Some (t.Question, 1)
    else None

-- a colon, a dot or a slash, by the next byte
abbrev pub doubled : ℕ → ℕ → Option (TokenKind × ℕ)
doubled b next =
    if b == 58 then (if next == 61 then Some (t.Assign, 2) else if next == 58 then Some (t.Colons, 2) else None)
    else if b == 46 then (if next == 46 then Some (t.Dots, 2) else if is_digit next then Some (t.Fraction, 1) else Some (t.Dot, 1))
    else if b == 47 then (if next == 47 then Some (t.Slashes, 2) else Some (t.Slash, 1))
    else plain_sign b

-- all signs, by the next byte; "(:" begins a comment, which was passed over if it is whole
abbrev pub sign : ℕ → ℕ → Mode → Option (TokenKind × ℕ)
sign b next mode =
    if b == 40 then (if next == 35 then Some (t.Pragma, 2) else if next == 58 then None else Some (t.Open, 1))
    else if b == 33 then (if next == 61 then Some (t.Unequal, 2) else None)
    else if b == 60 then Some (less next mode)
    else if b == 62 then (if next == 61 then Some (t.AtLeast, 2) else if next == 62 then Some (t.Follows, 2) else Some (t.Greater, 1))
    else doubled b next

abbrev pub signed : List ℕ → ℕ → Mode → Option Token
signed text at mode = option_map (λ (x : TokenKind × ℕ). token_to x.0 at (at + x.1)) (sign (byte text at) (byte text (at + 1)) mode)

abbrev pub quoted : List ℕ → ℕ → Option Token
quoted text at = option_map (token_to t.Quoted at) (string_end text at)

abbrev pub token_here : List ℕ → ℕ → Mode → Option Token
token_here text at mode =
    if nat_le (length text) at then None
    else if begins_ncname (char_at text at) then Some (name text at)
    else if is_digit (byte text at) then integer text at
    else if byte text at == 34 || byte text at == 39 then quoted text at
    else if byte text at == 42 then Some (star text at mode)
    else signed text at mode

-- the token after white space and comments
unfoldable pub token : List ℕ → Mode → ℕ → Option Token
token text mode at = token_here text (start text at) mode
