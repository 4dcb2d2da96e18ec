-- The values of the code without where they lie in memory.
use Rattle.std.specs.Prelude.{ℕ, Bool, not, ◌&&◌, ◌==◌, if◌then◌else◌, List, Option, option_map}
use Rattle.std.specs.Borrow.{Bor}
use Rattle.std.specs.Char.{encode_utf8, is_ascii_digit, is_ascii_hexdigit, is_ascii_alphabetic}
use Rattle.doc_shred.specs.declared.bytes.Class.{Class}
use Rattle.doc_shred.specs.declared.bytes.Class.TheVariants.{Blank, Name, Data, Value, Quoted, Public, Encoding, Letter, Digit, Hexadecimal, Plain, PlainValue, PlainName}
use Rattle.doc_shred.specs.Classes.{is_blank, is_name_byte, is_data_byte, is_value_byte, is_public_byte, is_encoding_byte, is_plain_byte, is_plain_value_byte, is_plain_name_byte}

abbrev pub Lent : Type 0
Lent = Bor (List ℕ)

abbrev pub class_test : Class → ℕ → Bool
class_test Blank = is_blank
class_test Name = is_name_byte
class_test Data = is_data_byte
class_test (Value quote) = is_value_byte quote
class_test (Quoted quote) = λ b. not (b == quote)
class_test (Public quote) = λ b. is_public_byte b && not (b == quote)
class_test Encoding = is_encoding_byte
class_test Letter = is_ascii_alphabetic
class_test Digit = is_ascii_digit
class_test Hexadecimal = is_ascii_hexdigit
class_test Plain = is_plain_byte
class_test (PlainValue quote) = is_plain_value_byte quote
class_test PlainName = is_plain_name_byte

-- what was read, and what is left
abbrev pub pair_of : Option (Lent × Lent) → Option (List ℕ × List ℕ)
pair_of = option_map (λ x. (x.0.now, x.1.now))

-- what is left of a part without a value
abbrev pub silent : Option Lent → Option (Unit {0} × List ℕ)
silent = option_map (λ x. (tt, x.now))

abbrev pub lent_of : Option Lent → Option (List ℕ)
lent_of = option_map (λ x. x.now)

-- a name with a value, and what is left
abbrev pub target_of : Option ((Lent × Lent) × Lent) → Option ((List ℕ × List ℕ) × List ℕ)
target_of = option_map (λ x. ((x.0.0.now, x.0.1.now), x.1.now))

abbrev pub flag_of : Option (Bool × Lent) → Option (Bool × List ℕ)
flag_of = option_map (λ x. (x.0, x.1.now))

-- a character by its bytes, and what is left
abbrev pub char_of : Option (ℕ × Lent) → Option (List ℕ × List ℕ)
char_of = option_map (λ x. (encode_utf8 x.0, x.1.now))

abbrev pub radix_of : Bool → ℕ
radix_of hexadecimal = if hexadecimal then 16 else 10

-- the encoding that a declaration names, and what is left
abbrev pub encoding_of : Option (Option Lent × Lent) → Option (Option (List ℕ) × List ℕ)
encoding_of = option_map (λ x. (lent_of x.0, x.1.now))

abbrev pub closing_of : Option (ℕ × Lent) → Option (ℕ × List ℕ)
closing_of = option_map (λ x. (x.0, x.1.now))
