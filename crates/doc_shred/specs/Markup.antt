-- The productions of markup and of character data (XML 1.0, sections 2.3 to 2.7, 3.1 and 4.1).
use Rattle.std.specs.Prelude.{ℕ, Bool, true, false, not, List, [], ◌∷◌, ◌++◌, map, codes}
use Rattle.std.specs.Char.{encode_utf8, is_ascii_digit, is_ascii_hexdigit}
use Rattle.std.specs.Str.{bytes_eq}
use Rattle.xq_base.specs.Chars.{is_char}
use Rattle.doc_table.specs.Sound.{names_differ}
use Rattle.doc_shred.specs.Rules.{Rule, ◌▷=◌, ◌▷◌, gives, where_, ◌or◌, word, many, any_of, some_of, before}
use Rattle.doc_shred.specs.Classes.{is_blank, are_chars, is_name_text, is_name_byte, is_xml, is_data_byte, are_data, is_value_byte, to_blank, decimal, hexadecimal}

-- S, as long as it is (section 2.3, production 3)
abbrev pub space : Rule (List ℕ)
space = some_of is_blank

-- S?
abbrev pub spaces : Rule (List ℕ)
spaces = any_of is_blank

-- Name (section 2.3, production 5)
unfoldable pub name : Rule (List ℕ)
name = any_of is_name_byte ▷= λ n. where_ (is_name_text n) ▷ gives n

-- Eq ::= S? '=' S? (section 2.8, production 25)
unfoldable pub equals : Rule (List ℕ)
equals = spaces ▷ word (codes "=") ▷ spaces

-- Comment ::= '<!--' characters '-->', where no '--' stands in the characters, and no '-' at their end
-- (section 2.5, production 15)
unfoldable pub comment : Rule (List ℕ)
comment = word (codes "<!--") ▷ before (codes "--") ▷= λ v. where_ (are_chars v) ▷ word (codes ">") ▷ gives v

-- what follows an instruction's name: nothing, or S and characters without '?>' (section 2.6, production 16)
unfoldable pub instruction_value : Rule (List ℕ)
instruction_value = word (codes "?>") ▷ gives [] or space ▷ before (codes "?>") ▷= λ v. where_ (are_chars v) ▷ gives v

-- PI ::= '<?' Name (S characters)? '?>', with a name that isn't 'xml' in any case (section 2.6, productions 16 and 17)
unfoldable pub instruction : Rule (List ℕ × List ℕ)
instruction = word (codes "<?") ▷ name ▷= λ n. where_ (not (is_xml n)) ▷ instruction_value ▷= λ v. gives (n, v)

-- CDSect ::= '<![CDATA[' characters ']]>', without ']]>' in the characters (section 2.7, productions 18 to 21)
unfoldable pub cdata : Rule (List ℕ)
cdata = word (codes "<![CDATA[") ▷ before (codes "]]>") ▷= λ v. where_ (are_chars v) ▷ gives v

-- one of the five entities that need no declaration (section 4.6)
unfoldable pub entity : Rule (List ℕ)
entity =
    word (codes "amp;") ▷ gives (codes "&") or word (codes "lt;") ▷ gives (codes "<") or word (codes "gt;") ▷ gives (codes ">")
    or word (codes "quot;") ▷ gives (34 ∷ []) or word (codes "apos;") ▷ gives (codes "'")

-- a Char by its number (section 4.1, production 66)
unfoldable pub numbered : ℕ → Rule (List ℕ)
numbered c = where_ (is_char c) ▷ word (codes ";") ▷ gives (encode_utf8 c)

unfoldable pub character : Rule (List ℕ)
character = word (codes "#x") ▷ some_of is_ascii_hexdigit ▷= (λ ds. numbered (hexadecimal ds)) or word (codes "#") ▷ some_of is_ascii_digit ▷= λ ds. numbered (decimal ds)

-- Reference (section 4.1, productions 66 to 68): any other entity would have to be declared
unfoldable pub reference : Rule (List ℕ)
reference = word (codes "&") ▷ (character or entity)

-- a part of an attribute's value between these quotes: characters, or a reference (section 2.3, production 10)
unfoldable pub value_part : ℕ → Rule (List ℕ)
value_part quote = some_of (is_value_byte quote) ▷= (λ v. where_ (are_chars v) ▷ gives (map to_blank v)) or reference

-- all parts, one after another
abbrev pub joined : List (List ℕ) → List ℕ
joined [] = []
joined (part ∷ parts) = part ++ joined parts

-- AttValue, with the value that is normalised so (section 2.3, production 10, and section 3.3.3)
unfoldable pub value_in : ℕ → Rule (List ℕ)
value_in quote = word (quote ∷ []) ▷ (many (value_part quote) ▷= λ parts. word (quote ∷ []) ▷ gives (joined parts))

unfoldable pub value : Rule (List ℕ)
value = value_in 34 or value_in 39

-- S Attribute, Attribute ::= Name Eq AttValue (section 3.1, productions 40 and 41)
unfoldable pub attribute : Rule (List ℕ × List ℕ)
attribute = space ▷ name ▷= λ n. equals ▷ value ▷= λ v. gives (n, v)

-- the end of a start tag, or of the tag of an element without content, for which this is true (section 3.1, productions 40 and 44)
unfoldable pub tag_end : Rule Bool
tag_end = spaces ▷ (word (codes ">") ▷ gives false or word (codes "/>") ▷ gives true)

-- STag ::= '<' Name (S Attribute)* S? '>' and EmptyElemTag ::= '<' Name (S Attribute)* S? '/>', with attributes whose names
-- differ (section 3.1, productions 40 and 44)
pub record Tag : Type 0 where
  pub name : List ℕ
  pub attributes : List (List ℕ × List ℕ)
  pub is_empty : Bool

unfoldable pub start : Rule Tag
start =
    word (codes "<") ▷ name ▷= λ n. many attribute ▷= λ found. where_ (names_differ bytes_eq found) ▷ tag_end ▷= λ e.
    gives (record { name = n; attributes = found; is_empty = e })

-- ETag ::= '</' Name S? '>' (section 3.1, production 42)
unfoldable pub end_tag : Rule (List ℕ)
end_tag = word (codes "</") ▷ name ▷= λ n. spaces ▷ word (codes ">") ▷ gives n

-- CharData, as long as it is, without ']]>' in it (section 2.4, production 14)
unfoldable pub data_run : Rule (List ℕ)
data_run = some_of is_data_byte ▷= λ v. where_ (are_data v) ▷ gives v

-- what adds to a text node
unfoldable pub text_part : Rule (List ℕ)
text_part = data_run or (reference or cdata)

-- the characters between two pieces of other markup
unfoldable pub text_run : Rule (List ℕ)
text_run = many text_part ▷= λ parts. gives (joined parts)
