-- The classes of bytes and characters whose runs are read.
use Rattle.std.specs.Prelude.{ℕ, Bool}
use Rattle.xq_base.specs.Chars.{is_name_char}
use Rattle.xq_ast.specs.declared.token.Skip.{Skip}
use Rattle.xq_ast.specs.Bytes.{is_white, is_digit, is_hex_digit, goes_on_ncname}
use Rattle.xq_ast.specs.Pieces.{is_content, is_value}
use Rattle.xq_lexer.specs.declared.bytes.Class.{Class}
use Rattle.xq_lexer.specs.declared.bytes.Class.TheVariants.{White, Digit, HexDigit, Content, DoubleQuoted, SingleQuoted}
use Rattle.std.specs.Prelude.{◌≤◌, true, ◌&&◌, nat_lt, List, [], ◌∷◌, length, if◌then◌else◌}

-- the test of a class
abbrev pub class_test : Class → ℕ → Bool
class_test White = is_white
class_test Digit = is_digit
class_test HexDigit = is_hex_digit
class_test Content = is_content
class_test DoubleQuoted = is_value 34
class_test SingleQuoted = is_value 39

-- a character of a Name, or of an NCName
abbrev pub name_test : Bool → ℕ → Bool
name_test with_colon = if with_colon then is_name_char else goes_on_ncname

-- the places of a skip stand in the text
pub record IsSkip (text : List ℕ) (s : Skip) : Type 0 where
  pub place : s.at ≤ length text
  pub back : s.back ≤ s.at
  pub depth : s.depth ≤ s.at

-- a word in which no byte is 0, so that it stands only inside a text
abbrev pub has_no_zero : List ℕ → Bool
has_no_zero [] = true
has_no_zero (c ∷ cs) = nat_lt 0 c && has_no_zero cs
