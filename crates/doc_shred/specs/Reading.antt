-- What the functions of the code compute: one reading from left to right for each production. The laws of `proofs/` join
-- them to the productions.
use Rattle.std.specs.Prelude.{ℕ, ◌+◌, Bool, true, false, not, ◌&&◌, ◌||◌, ◌==◌, List, [], ◌∷◌, map, length, Option, Some, None, codes}
use Rattle.std.specs.Char.{encode_utf8, is_ascii_digit, is_ascii_hexdigit, is_ascii_alphabetic}
use Rattle.std.specs.Str.{bytes_eq}
use Rattle.xq_base.specs.Chars.{is_char}
use Rattle.doc_table.specs.Tree.{Tree, Branch, OfComment, OfInstruction, no_more}
use Rattle.doc_table.specs.Sound.{names_differ}
use Rattle.doc_shred.specs.Rules.{starts, begins}
use Rattle.doc_shred.specs.Parsers.{Parser, ◌>>=◌, ◌>>◌, give, need, choose, strip, after_run, run_of, some_run_of, before_first, repeat}
use Rattle.doc_shred.specs.Classes.{is_blank, are_chars, is_name_text, is_name_byte, is_xml, is_data_byte, are_data, is_value_byte, to_blank, decimal, hexadecimal, is_encoding_byte, is_public_byte}
use Rattle.doc_shred.specs.Markup.{Tag, joined}

abbrev pub space : Parser (List ℕ)
space = some_run_of is_blank

abbrev pub spaces : Parser (List ℕ)
spaces = run_of is_blank

unfoldable pub name : Parser (List ℕ)
name = run_of is_name_byte >>= λ n. need (is_name_text n) >> give n

unfoldable pub equals : Parser (List ℕ)
equals = spaces >> strip (codes "=") >> spaces

unfoldable pub comment : Parser (List ℕ)
comment = strip (codes "<!--") >> before_first (codes "--") >>= λ v. need (are_chars v) >> strip (codes ">") >> give v

unfoldable pub instruction_value : Parser (List ℕ)
instruction_value = choose (begins (codes "?>")) (strip (codes "?>") >> give []) (space >> before_first (codes "?>") >>= λ v. need (are_chars v) >> give v)

unfoldable pub instruction : Parser (List ℕ × List ℕ)
instruction = strip (codes "<?") >> name >>= λ n. need (not (is_xml n)) >> instruction_value >>= λ v. give (n, v)

unfoldable pub cdata : Parser (List ℕ)
cdata = strip (codes "<![CDATA[") >> before_first (codes "]]>") >>= λ v. need (are_chars v) >> give v

unfoldable pub entity : Parser (List ℕ)
entity =
    choose (begins (codes "amp;")) (strip (codes "amp;") >> give (codes "&"))
    (choose (begins (codes "lt;")) (strip (codes "lt;") >> give (codes "<"))
    (choose (begins (codes "gt;")) (strip (codes "gt;") >> give (codes ">"))
    (choose (begins (codes "quot;")) (strip (codes "quot;") >> give (34 ∷ []))
    (strip (codes "apos;") >> give (codes "'")))))

unfoldable pub numbered : ℕ → Parser (List ℕ)
numbered c = need (is_char c) >> strip (codes ";") >> give (encode_utf8 c)

unfoldable pub character : Parser (List ℕ)
character =
    choose (begins (codes "#x")) (strip (codes "#x") >> some_run_of is_ascii_hexdigit >>= λ ds. numbered (hexadecimal ds))
    (strip (codes "#") >> some_run_of is_ascii_digit >>= λ ds. numbered (decimal ds))

unfoldable pub reference : Parser (List ℕ)
reference = strip (codes "&") >> choose (begins (codes "#")) character entity

unfoldable pub value_part : ℕ → Parser (List ℕ)
value_part quote = choose (starts (is_value_byte quote)) (some_run_of (is_value_byte quote) >>= λ v. need (are_chars v) >> give (map to_blank v)) reference

-- a byte other than the closing quote comes next
abbrev pub goes_on : ℕ → List ℕ → Bool
goes_on quote = starts (λ b. not (b == quote))

-- the parts that are left of a value, where these were read before, in so many turns
unfoldable pub value_from : ℕ → List (List ℕ) → ℕ → Parser (List ℕ)
value_from quote before n = repeat (goes_on quote) (value_part quote) (λ parts. strip (quote ∷ []) >> give (joined parts)) before n

unfoldable pub value_in : ℕ → Parser (List ℕ)
value_in quote = strip (quote ∷ []) >> λ from. value_from quote [] (length from + 1) from

unfoldable pub value : Parser (List ℕ)
value = choose (begins (34 ∷ [])) (value_in 34) (value_in 39)

unfoldable pub attribute : Parser (List ℕ × List ℕ)
attribute = space >> name >>= λ n. equals >> value >>= λ v. give (n, v)

unfoldable pub tag_end : Parser Bool
tag_end = spaces >> choose (begins (codes ">")) (strip (codes ">") >> give false) (strip (codes "/>") >> give true)

-- white space and a name come next
abbrev pub has_attribute : List ℕ → Bool
has_attribute from = starts is_name_byte (after_run is_blank from)

unfoldable pub start : Parser Tag
start =
    strip (codes "<") >> name >>= λ n. λ from.
    repeat has_attribute attribute (λ found. need (names_differ bytes_eq found) >> tag_end >>= λ e. give (record { name = n; attributes = found; is_empty = e })) [] (length from + 1) from

unfoldable pub end_tag : Parser (List ℕ)
end_tag = strip (codes "</") >> name >>= λ n. spaces >> strip (codes ">") >> give n

unfoldable pub data_run : Parser (List ℕ)
data_run = some_run_of is_data_byte >>= λ v. need (are_data v) >> give v

unfoldable pub text_part : Parser (List ℕ)
text_part = choose (starts is_data_byte) data_run (choose (begins (codes "&")) reference cdata)

-- characters, a reference or a section of characters comes next
abbrev pub has_text : List ℕ → Bool
has_text from = starts (λ b. not (b == 60)) from || begins (codes "<![CDATA[") from

-- what is left of a text, in so many turns
unfoldable pub text_from : List (List ℕ) → ℕ → Parser (List ℕ)
text_from before n = repeat has_text text_part (λ parts. give (joined parts)) before n

unfoldable pub text_run : Parser (List ℕ)
text_run from = text_from [] (length from + 1) from

-- ---- prolog

abbrev pub in_quotes : {A : Type 0} → Parser A → ℕ → Parser A
in_quotes p quote = strip (quote ∷ []) >> p >>= λ a. strip (quote ∷ []) >> give a

abbrev pub quoted : {A : Type 0} → Parser A → Parser A
quoted p = choose (begins (34 ∷ [])) (in_quotes p 34) (in_quotes p 39)

abbrev pub yes_or_no : Parser (Unit {0})
yes_or_no = choose (begins (codes "yes")) (strip (codes "yes")) (strip (codes "no"))

unfoldable pub version_number : Parser (List ℕ)
version_number = strip (codes "1.") >> some_run_of is_ascii_digit

unfoldable pub version : Parser (List ℕ)
version = space >> strip (codes "version") >> equals >> quoted version_number

unfoldable pub encoding_name : Parser (List ℕ)
encoding_name = run_of is_encoding_byte >>= λ e. need (starts is_ascii_alphabetic e) >> give e

unfoldable pub encoding : Parser (List ℕ)
encoding = space >> strip (codes "encoding") >> equals >> quoted encoding_name

unfoldable pub standalone : Parser (Unit {0})
standalone = space >> strip (codes "standalone") >> equals >> quoted yes_or_no

unfoldable pub declaration_close : Parser (Unit {0})
declaration_close = spaces >> strip (codes "?>")

-- this word comes next, after white space or at once
abbrev pub begins_after : List ℕ → List ℕ → Bool
begins_after w from = begins w (after_run is_blank from)

unfoldable pub declaration_end : Parser (Unit {0})
declaration_end = choose (begins_after (codes "standalone")) (standalone >> declaration_close) declaration_close

unfoldable pub declaration : Parser (Option (List ℕ))
declaration =
    strip (codes "<?xml") >> version
    >> choose (begins_after (codes "encoding")) (encoding >>= λ e. declaration_end >> give (Some e)) (declaration_end >> give None)

unfoldable pub literal_in : ℕ → Parser (List ℕ)
literal_in quote = strip (quote ∷ []) >> run_of (λ b. not (b == quote)) >>= λ v. need (are_chars v) >> strip (quote ∷ []) >> give v

unfoldable pub literal : Parser (List ℕ)
literal = choose (begins (34 ∷ [])) (literal_in 34) (literal_in 39)

unfoldable pub public_in : ℕ → Parser (List ℕ)
public_in quote = strip (quote ∷ []) >> run_of (λ b. is_public_byte b && not (b == quote)) >>= λ v. strip (quote ∷ []) >> give v

unfoldable pub public_literal : Parser (List ℕ)
public_literal = choose (begins (34 ∷ [])) (public_in 34) (public_in 39)

unfoldable pub external : Parser (List ℕ)
external =
    choose (begins (codes "SYSTEM")) (strip (codes "SYSTEM") >> space >> literal)
    (strip (codes "PUBLIC") >> space >> public_literal >> space >> literal)

unfoldable pub closing : Parser ℕ
closing = choose (begins (codes ">")) (strip (codes ">") >> give 62) (strip (codes "[") >> give 91)

unfoldable pub doctype_end : Parser ℕ
doctype_end = choose (λ from. starts is_ascii_alphabetic (after_run is_blank from)) (space >> external >> spaces >> closing) (spaces >> closing)

unfoldable pub doctype : Parser ℕ
doctype = strip (codes "<!DOCTYPE") >> space >> name >> doctype_end

unfoldable pub misc : Parser (List (Tree (List ℕ)))
misc =
    choose (starts is_blank) (space >> give [])
    (choose (begins (codes "<!--")) (comment >>= λ v. give (Branch (OfComment v) no_more ∷ []))
    (instruction >>= λ i. give (Branch (OfInstruction i.0 i.1) no_more ∷ [])))
