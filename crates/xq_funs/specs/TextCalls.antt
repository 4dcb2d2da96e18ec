-- Functions of texts: which they are, and their values (Functions and Operators, sections 7.3 to 7.5).
use Rattle.std.specs.Prelude.{Bool, true, false, pos}
use Rattle.xq_base.specs.declared.fun.Fun.{Fun}
use Rattle.xq_base.specs.declared.fun.Fun.TheVariants as f
use Rattle.xq_base.specs.Answers.{Answer, Value, with_value}
use Rattle.xq_base.specs.Texts.{Text, trimmed}
use Rattle.xq_base.specs.Words.{contains, starts_with, ends_with, text_before, text_after, space_normalized, char_count}
use Rattle.xq_base.specs.Atoms.{Atom, IntAtom, TextAtom, BoolAtom}
use Rattle.xq_base.specs.TextRules.{order_number}
use Rattle.doc_table.specs.Content.{as_qname, as_target}

-- functions of one text
abbrev pub is_of_text : Fun → Bool
is_of_text f.StringLength = true
is_of_text f.NormalizeSpace = true
is_of_text f.QName = true
is_of_text f.PiTarget = true
is_of_text _ = false

abbrev pub of_text : Fun → Text → Answer Atom
of_text f.StringLength t = Value (IntAtom (pos (char_count t)))
of_text f.NormalizeSpace t = Value (TextAtom (space_normalized t))
of_text f.QName t = with_value TextAtom (as_qname (trimmed t))
of_text f.PiTarget t = with_value TextAtom (as_target (trimmed t))
of_text _ t = Value (TextAtom t)

-- functions of two texts
abbrev pub is_of_texts : Fun → Bool
is_of_texts f.Contains = true
is_of_texts f.StartsWith = true
is_of_texts f.EndsWith = true
is_of_texts f.SubstringBefore = true
is_of_texts f.SubstringAfter = true
is_of_texts f.Compare = true
is_of_texts _ = false

abbrev pub of_texts : Fun → Text → Text → Atom
of_texts f.Contains t u = BoolAtom (contains t u)
of_texts f.StartsWith t u = BoolAtom (starts_with t u)
of_texts f.EndsWith t u = BoolAtom (ends_with t u)
of_texts f.SubstringBefore t u = TextAtom (text_before t u)
of_texts f.SubstringAfter t u = TextAtom (text_after t u)
of_texts f.Compare t u = IntAtom (order_number t u)
of_texts _ t u = TextAtom t
