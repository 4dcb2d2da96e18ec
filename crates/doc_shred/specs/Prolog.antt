-- The productions of what stands before and after the root element (XML 1.0, section 2.8).
use Rattle.std.specs.Prelude.{ℕ, not, ◌&&◌, ◌==◌, List, [], ◌∷◌, Option, Some, None, codes}
use Rattle.std.specs.Char.{is_ascii_digit, is_ascii_alphabetic}
use Rattle.doc_table.specs.Tree.{Tree, Branch, OfComment, OfInstruction, no_more}
use Rattle.doc_shred.specs.Rules.{Rule, ◌▷=◌, ◌▷◌, gives, where_, ◌or◌, word, any_of, some_of, starts}
use Rattle.doc_shred.specs.Classes.{are_chars, is_encoding_byte, is_public_byte}
use Rattle.doc_shred.specs.Markup.{space, spaces, name, equals, comment, instruction}

-- a part in double or in single quotes
abbrev pub quoted : {A : Type 0} → Rule A → Rule A
quoted R = word (34 ∷ []) ▷ R ▷= (λ a. word (34 ∷ []) ▷ gives a) or word (39 ∷ []) ▷ R ▷= λ a. word (39 ∷ []) ▷ gives a

-- VersionNum ::= '1.' [0-9]+ (production 26)
unfoldable pub version_number : Rule (List ℕ)
version_number = word (codes "1.") ▷ some_of is_ascii_digit

-- VersionInfo (production 24)
unfoldable pub version : Rule (List ℕ)
version = space ▷ word (codes "version") ▷ equals ▷ quoted version_number

-- EncName (section 4.3.3, production 81)
unfoldable pub encoding_name : Rule (List ℕ)
encoding_name = any_of is_encoding_byte ▷= λ e. where_ (starts is_ascii_alphabetic e) ▷ gives e

-- EncodingDecl (section 4.3.3, production 80)
unfoldable pub encoding : Rule (List ℕ)
encoding = space ▷ word (codes "encoding") ▷ equals ▷ quoted encoding_name

-- SDDecl (section 2.9, production 32)
unfoldable pub standalone : Rule (Unit {0})
standalone = space ▷ word (codes "standalone") ▷ equals ▷ quoted (word (codes "yes") or word (codes "no"))

unfoldable pub declaration_close : Rule (Unit {0})
declaration_close = spaces ▷ word (codes "?>")

-- SDDecl? S? '?>'
unfoldable pub declaration_end : Rule (Unit {0})
declaration_end = standalone ▷ declaration_close or declaration_close

-- XMLDecl ::= '<?xml' VersionInfo EncodingDecl? SDDecl? S? '?>', with the encoding's name where there is one (production 23)
unfoldable pub declaration : Rule (Option (List ℕ))
declaration = word (codes "<?xml") ▷ version ▷ (encoding ▷= (λ e. declaration_end ▷ gives (Some e)) or declaration_end ▷ gives None)

-- SystemLiteral (section 2.3, production 11)
unfoldable pub literal_in : ℕ → Rule (List ℕ)
literal_in quote = word (quote ∷ []) ▷ any_of (λ b. not (b == quote)) ▷= λ v. where_ (are_chars v) ▷ word (quote ∷ []) ▷ gives v

unfoldable pub literal : Rule (List ℕ)
literal = literal_in 34 or literal_in 39

-- PubidLiteral (section 2.3, production 12)
unfoldable pub public_in : ℕ → Rule (List ℕ)
public_in quote = word (quote ∷ []) ▷ any_of (λ b. is_public_byte b && not (b == quote)) ▷= λ v. word (quote ∷ []) ▷ gives v

unfoldable pub public_literal : Rule (List ℕ)
public_literal = public_in 34 or public_in 39

-- ExternalID (section 4.2.2, production 75)
unfoldable pub external : Rule (List ℕ)
external = word (codes "SYSTEM") ▷ space ▷ literal or word (codes "PUBLIC") ▷ space ▷ public_literal ▷ space ▷ literal

-- the byte that ends a declaration, or the one that begins an internal subset in its place
unfoldable pub closing : Rule ℕ
closing = word (codes ">") ▷ gives 62 or word (codes "[") ▷ gives 91

-- what follows the name, up to that byte
unfoldable pub doctype_end : Rule ℕ
doctype_end = space ▷ external ▷ spaces ▷ closing or spaces ▷ closing

-- doctypedecl ::= '<!DOCTYPE' S Name (S ExternalID)? S? '>', with the byte that ends it: it is '[' in place of '>' where an
-- internal subset begins (production 28)
unfoldable pub doctype : Rule ℕ
doctype = word (codes "<!DOCTYPE") ▷ space ▷ name ▷ doctype_end

-- Misc ::= Comment | PI | S, with the nodes that it gives (production 27)
unfoldable pub misc : Rule (List (Tree (List ℕ)))
misc =
    space ▷ gives [] or (comment ▷= (λ v. gives (Branch (OfComment v) no_more ∷ []))
    or instruction ▷= λ i. gives (Branch (OfInstruction i.0 i.1) no_more ∷ []))
