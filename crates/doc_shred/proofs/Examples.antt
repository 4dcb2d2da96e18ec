-- Worked documents: what the productions say of some texts.
use Rattle.std.proofs.Common.{◌≡◌, ℕ, List, [], ◌∷◌, Some, None, codes, refl}
use Rattle.std.specs.Char.{encode_utf8}
use Rattle.std.specs.Str.{is_utf8, chars}
use Rattle.xq_base.specs.Chars.{is_char, is_name_start, is_name_char}
use Rattle.doc_table.specs.Tree.{Tree, Branch, OfDocument, OfElement, OfText, OfComment, no_more, one_more, forest_of}
use Rattle.doc_shred.specs.Classes.{are_chars, is_name_text, is_name_byte, is_xml, are_data}
use Rattle.doc_shred.specs.Content.{Text}
use Rattle.doc_shred.specs.Document.{IsDocument, lines_joined, without_mark, text_of}
use Rattle.doc_shred.specs.Reading as r
use Rattle.doc_shred.specs.Walk as w
use Rattle.doc_shred.proofs.Documents.{document_with, document_sound}

-- a text and its children, where the reading gives them
document_of : (bytes : List ℕ) (kids : List (Tree Text)) → w.document (text_of bytes) ≡ Some (document_with kids) → (found : List (Tree Text)) × (document_with kids ≡ document_with found) × IsDocument bytes (Branch OfDocument (forest_of found))
document_of bytes kids e = let d = document_sound (text_of bytes) (document_with kids) e in (d.0, d.1, (d.0, refl, d.2))

-- each line end is one line feed
line_ends : lines_joined (97 ∷ 13 ∷ 10 ∷ 13 ∷ 98 ∷ 10 ∷ 13 ∷ []) ≡ 97 ∷ 10 ∷ 10 ∷ 98 ∷ 10 ∷ 10 ∷ []
line_ends = refl

-- a byte order mark isn't part of the text
mark_dropped : without_mark (0xEF ∷ 0xBB ∷ 0xBF ∷ 60 ∷ []) ≡ 60 ∷ []
mark_dropped = refl

-- references
by_number : r.reference (codes "&#x41;b") ≡ Some (codes "A", codes "b")
unfolding r.reference r.character r.numbered is_char encode_utf8
by_number = refl

no_character : r.reference (codes "&#0;") ≡ None
unfolding r.reference r.character r.numbered is_char
no_character = refl

other_entity : r.reference (codes "&b;") ≡ None
unfolding r.reference r.entity
other_entity = refl

-- white space in a value becomes blanks
blanked_value : r.value (39 ∷ 97 ∷ 9 ∷ 98 ∷ 39 ∷ 62 ∷ []) ≡ Some (97 ∷ 32 ∷ 98 ∷ [], 62 ∷ [])
unfolding r.value r.value_in r.value_from r.value_part are_chars is_utf8 chars is_char encode_utf8
blanked_value = refl

-- no two hyphens in a comment
hyphens : r.comment (codes "<!-- -- -->") ≡ None
unfolding r.comment are_chars is_utf8 chars is_char encode_utf8
hyphens = refl

-- an instruction's value has no white space at its start
instruction_value : r.instruction (codes "<?a  b ?>") ≡ Some ((codes "a", codes "b "), [])
unfolding r.instruction r.instruction_value r.name are_chars is_name_text is_name_byte is_name_start is_name_char is_xml is_utf8 chars is_char encode_utf8
instruction_value = refl

-- a declaration with an encoding
declared : r.declaration (codes "<?xml version='1.0' encoding='UTF-8'?>") ≡ Some (Some (codes "UTF-8"), [])
unfolding r.declaration r.version r.version_number r.equals r.encoding r.encoding_name r.declaration_end r.declaration_close
declared = refl

-- a document type declaration that comes to an internal subset
subset : r.doctype (codes "<!DOCTYPE a [") ≡ Some (91, [])
unfolding r.doctype r.doctype_end r.closing r.name is_name_text is_name_byte is_name_start is_name_char is_utf8 chars is_char encode_utf8
subset = refl

-- texts on both sides of a comment stay two texts
two_texts : w.document (text_of (codes "<a>x<!--c-->y</a>"))
    ≡ Some (document_with (Branch (OfElement (codes "a") []) (one_more (Branch (OfText (codes "x")) no_more) (one_more (Branch (OfComment (codes "c")) no_more) (one_more (Branch (OfText (codes "y")) no_more) no_more))) ∷ []))
unfolding w.document w.miscs_from w.content w.piece r.declaration r.doctype r.start r.end_tag r.name r.attribute r.tag_end r.text_run r.text_from r.text_part r.data_run r.cdata r.comment are_data are_chars is_name_text is_name_byte is_name_start is_name_char is_utf8 chars is_char encode_utf8
two_texts = refl

-- an empty section makes no text
no_text : w.document (text_of (codes "<a><![CDATA[]]></a>")) ≡ Some (document_with (Branch (OfElement (codes "a") []) no_more ∷ []))
unfolding w.document w.miscs_from w.content w.piece r.declaration r.doctype r.start r.end_tag r.name r.attribute r.tag_end r.text_run r.text_from r.text_part r.data_run r.cdata r.comment are_data are_chars is_name_text is_name_byte is_name_start is_name_char is_utf8 chars is_char encode_utf8
no_text = refl
