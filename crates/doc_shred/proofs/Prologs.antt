-- What stands before and after the root element is read as its productions say.
use Rattle.std.proofs.Common.{◌≡◌, ℕ, true, false, List, [], ◌∷◌, ◌++◌, codes, ◌⊎◌, inl, inr, refl, sym, ap, ◌∙◌}
use Rattle.std.specs.Char.{is_ascii_digit, is_ascii_alphabetic}
use Rattle.doc_table.specs.Tree.{Tree, Branch, OfComment, OfInstruction, no_more}
use Rattle.doc_shred.specs.Rules.{Rule, ◌▷=◌, gives, ◌or◌, starts, begins}
use Rattle.doc_shred.specs.Parsers.{Parser, after_run}
use Rattle.doc_shred.specs.Classes.{is_blank, is_encoding_byte}
use Rattle.doc_shred.specs.Markup as m
use Rattle.doc_shred.specs.Prolog as g
use Rattle.doc_shred.specs.Reading as r
use Rattle.doc_shred.proofs.Exact.{Exact, then_exact, after_exact, give_exact, need_exact, or_exact, word_exact, any_of_exact, some_of_exact, begins_front, run_again, Strict, Narrow, then_narrow, then_strict, or_narrow, gives_narrow, where_narrow, word_narrow, word_strict, any_of_narrow, some_of_narrow}
use Rattle.doc_shred.proofs.Lexical.{name_exact, equals_exact, comment_exact, instruction_exact, name_narrow, equals_narrow}

pub quoted_exact : {A : Type 0} {R : Rule A} {p : Parser A} → Exact R p → Exact (g.quoted R) (r.quoted p)
quoted_exact e = or_exact (begins (34 ∷ []))
    (then_exact (after_exact (word_exact (34 ∷ [])) e) (λ a. after_exact (word_exact (34 ∷ [])) give_exact))
    (then_exact (after_exact (word_exact (39 ∷ [])) e) (λ a. after_exact (word_exact (39 ∷ [])) give_exact))
    (λ from rest a i. ap (begins (34 ∷ [])) i.first.first) (λ from rest a i. ap (begins (34 ∷ [])) i.first.first)

pub version_number_exact : Exact g.version_number r.version_number
unfolding g.version_number r.version_number
version_number_exact = after_exact (word_exact (codes "1.")) (some_of_exact is_ascii_digit)

pub version_exact : Exact g.version r.version
unfolding g.version r.version
version_exact = after_exact (after_exact (after_exact (some_of_exact is_blank) (word_exact (codes "version"))) equals_exact) (quoted_exact version_number_exact)

pub encoding_name_exact : Exact g.encoding_name r.encoding_name
unfolding g.encoding_name r.encoding_name
encoding_name_exact = then_exact (any_of_exact is_encoding_byte) (λ e. after_exact need_exact give_exact)

pub encoding_exact : Exact g.encoding r.encoding
unfolding g.encoding r.encoding
encoding_exact = after_exact (after_exact (after_exact (some_of_exact is_blank) (word_exact (codes "encoding"))) equals_exact) (quoted_exact encoding_name_exact)

pub standalone_exact : Exact g.standalone r.standalone
unfolding g.standalone r.standalone
standalone_exact = after_exact (after_exact (after_exact (some_of_exact is_blank) (word_exact (codes "standalone"))) equals_exact)
    (quoted_exact (or_exact (begins (codes "yes")) (word_exact (codes "yes")) (word_exact (codes "no")) (λ from rest a i. ap (begins (codes "yes")) i) (λ from rest a i. ap (begins (codes "yes")) i)))

pub declaration_close_exact : Exact g.declaration_close r.declaration_close
unfolding g.declaration_close r.declaration_close
declaration_close_exact = after_exact (any_of_exact is_blank) (word_exact (codes "?>"))

close_apart : (w : List ℕ) → begins w (codes "?>") ≡ false → ((rest : List ℕ) → begins w (codes "?>" ++ rest) ≡ false) → (from rest : List ℕ) (u : Unit {0}) → g.declaration_close from rest u → r.begins_after w from ≡ false
unfolding g.declaration_close
close_apart w short long from rest u i =
    let blanks = run_again is_blank from i.mid i.part i.first in
    ap (begins w) (blanks.1 ∙ i.second) ∙ long rest

standalone_begins : (from rest : List ℕ) (u : Unit {0}) → g.standalone from rest u → (mid : List ℕ) × (after_run is_blank from ≡ codes "standalone" ++ mid)
unfolding g.standalone
standalone_begins from rest u i =
    let f = i.first.first in
    let blanks = run_again is_blank from f.mid f.part f.first.1 in
    (i.first.mid, blanks.1 ∙ f.second)

encoding_begins : (from rest e : List ℕ) → g.encoding from rest e → (mid : List ℕ) × (after_run is_blank from ≡ codes "encoding" ++ mid)
unfolding g.encoding
encoding_begins from rest e i =
    let f = i.first.first in
    let blanks = run_again is_blank from f.mid f.part f.first.1 in
    (i.first.mid, blanks.1 ∙ f.second)

pub declaration_end_exact : Exact g.declaration_end r.declaration_end
unfolding g.declaration_end r.declaration_end
declaration_end_exact = or_exact (r.begins_after (codes "standalone")) (after_exact standalone_exact declaration_close_exact) declaration_close_exact
    (λ from rest u i. let s = standalone_begins from i.mid i.part i.first in ap (begins (codes "standalone")) s.1 ∙ begins_front (codes "standalone") s.0)
    (close_apart (codes "standalone") refl (λ rest. refl))

end_apart : (from rest : List ℕ) (u : Unit {0}) → g.declaration_end from rest u → r.begins_after (codes "encoding") from ≡ false
unfolding g.declaration_end
end_apart from rest u (inl i) = let s = standalone_begins from i.mid i.part i.first in ap (begins (codes "encoding")) s.1
end_apart from rest u (inr i) = close_apart (codes "encoding") refl (λ rest. refl) from rest u i

pub declaration_exact : Exact g.declaration r.declaration
unfolding g.declaration r.declaration
declaration_exact = after_exact (after_exact (word_exact (codes "<?xml")) version_exact)
    (or_exact (r.begins_after (codes "encoding")) (then_exact encoding_exact (λ e. after_exact declaration_end_exact give_exact)) (after_exact declaration_end_exact give_exact)
    (λ from rest a i. let s = encoding_begins from i.mid i.part i.first in ap (begins (codes "encoding")) s.1 ∙ begins_front (codes "encoding") s.0)
    (λ from rest a i. end_apart from i.mid i.part i.first))

-- ---- document type declarations

pub literal_in_exact : (quote : ℕ) → Exact (g.literal_in quote) (r.literal_in quote)
unfolding g.literal_in r.literal_in
literal_in_exact quote = then_exact (after_exact (word_exact (quote ∷ [])) (any_of_exact _)) (λ v. after_exact (after_exact need_exact (word_exact (quote ∷ []))) give_exact)

pub literal_exact : Exact g.literal r.literal
unfolding g.literal r.literal g.literal_in
literal_exact = or_exact (begins (34 ∷ [])) (literal_in_exact 34) (literal_in_exact 39)
    (λ from rest a i. ap (begins (34 ∷ [])) i.first.first) (λ from rest a i. ap (begins (34 ∷ [])) i.first.first)

pub public_in_exact : (quote : ℕ) → Exact (g.public_in quote) (r.public_in quote)
unfolding g.public_in r.public_in
public_in_exact quote = then_exact (after_exact (word_exact (quote ∷ [])) (any_of_exact _)) (λ v. after_exact (word_exact (quote ∷ [])) give_exact)

pub public_literal_exact : Exact g.public_literal r.public_literal
unfolding g.public_literal r.public_literal g.public_in
public_literal_exact = or_exact (begins (34 ∷ [])) (public_in_exact 34) (public_in_exact 39)
    (λ from rest a i. ap (begins (34 ∷ [])) i.first.first) (λ from rest a i. ap (begins (34 ∷ [])) i.first.first)

pub external_exact : Exact g.external r.external
unfolding g.external r.external
external_exact = or_exact (begins (codes "SYSTEM"))
    (after_exact (after_exact (word_exact (codes "SYSTEM")) (some_of_exact is_blank)) literal_exact)
    (after_exact (after_exact (after_exact (after_exact (word_exact (codes "PUBLIC")) (some_of_exact is_blank)) public_literal_exact) (some_of_exact is_blank)) literal_exact)
    (λ from rest a i. ap (begins (codes "SYSTEM")) i.first.first ∙ begins_front (codes "SYSTEM") i.first.mid)
    (λ from rest a i. ap (begins (codes "SYSTEM")) i.first.first.first.first)

external_starts : (from rest v : List ℕ) → g.external from rest v → starts is_ascii_alphabetic from ≡ true
unfolding g.external
external_starts from rest v (inl i) = ap (starts is_ascii_alphabetic) i.first.first
external_starts from rest v (inr i) = ap (starts is_ascii_alphabetic) i.first.first.first.first

pub closing_exact : Exact g.closing r.closing
unfolding g.closing r.closing
closing_exact = or_exact (begins (codes ">")) (after_exact (word_exact (codes ">")) give_exact) (after_exact (word_exact (codes "[")) give_exact)
    (λ from rest a i. ap (begins (codes ">")) i.first) (λ from rest a i. ap (begins (codes ">")) i.first)

closing_starts : (from rest : List ℕ) (c : ℕ) → g.closing from rest c → starts is_ascii_alphabetic from ≡ false
unfolding g.closing
closing_starts from rest c (inl i) = ap (starts is_ascii_alphabetic) i.first
closing_starts from rest c (inr i) = ap (starts is_ascii_alphabetic) i.first

pub doctype_end_exact : Exact g.doctype_end r.doctype_end
unfolding g.doctype_end r.doctype_end
doctype_end_exact = or_exact (λ from. starts is_ascii_alphabetic (after_run is_blank from))
    (after_exact (after_exact (after_exact (some_of_exact is_blank) external_exact) (any_of_exact is_blank)) closing_exact)
    (after_exact (any_of_exact is_blank) closing_exact)
    (λ from rest a i.
    let f = i.first.first in
    let blanks = run_again is_blank from f.mid f.part f.first.1 in
    ap (starts is_ascii_alphabetic) blanks.1 ∙ external_starts f.mid i.first.mid i.first.part f.second)
    (λ from rest a i.
    let blanks = run_again is_blank from i.mid i.part i.first in
    ap (starts is_ascii_alphabetic) blanks.1 ∙ closing_starts i.mid rest a i.second)

pub doctype_exact : Exact g.doctype r.doctype
unfolding g.doctype r.doctype
doctype_exact = after_exact (after_exact (after_exact (word_exact (codes "<!DOCTYPE")) (some_of_exact is_blank)) name_exact) doctype_end_exact

-- ---- comments, instructions and white space

pub comment_begins : (from rest v : List ℕ) → m.comment from rest v → (mid : List ℕ) × (from ≡ codes "<!--" ++ mid)
unfolding m.comment
comment_begins from rest v i = (i.first.mid, i.first.first)

pub instruction_begins : (from rest : List ℕ) (v : List ℕ × List ℕ) → m.instruction from rest v → (mid : List ℕ) × (from ≡ codes "<?" ++ mid)
unfolding m.instruction
instruction_begins from rest v i = (i.first.mid, i.first.first)

pub misc_exact : Exact g.misc r.misc
unfolding g.misc r.misc
misc_exact = or_exact (starts is_blank) (after_exact (some_of_exact is_blank) give_exact)
    (or_exact (begins (codes "<!--")) (then_exact comment_exact (λ v. give_exact)) (then_exact instruction_exact (λ i. give_exact))
    (λ from rest a i. let s = comment_begins from i.mid i.part i.first in ap (begins (codes "<!--")) s.1)
    (λ from rest a i. let s = instruction_begins from i.mid i.part i.first in ap (begins (codes "<!--")) s.1))
    (λ from rest a i. i.first.0) marked_no_blank
  where
    marked_no_blank : (from rest : List ℕ) (a : List (Tree (List ℕ))) → (m.comment ▷= (λ v. gives (Branch (OfComment v) no_more ∷ [])) or m.instruction ▷= λ i. gives (Branch (OfInstruction i.0 i.1) no_more ∷ [])) from rest a → starts is_blank from ≡ false
    marked_no_blank from rest a (inl i) = let s = comment_begins from i.mid i.part i.first in ap (starts is_blank) s.1
    marked_no_blank from rest a (inr i) = let s = instruction_begins from i.mid i.part i.first in ap (starts is_blank) s.1

closing_is : (from rest : List ℕ) (c : ℕ) → g.closing from rest c → (c ≡ 62) ⊎ (c ≡ 91)
unfolding g.closing
closing_is from rest c (inl i) = inl (sym i.second.1)
closing_is from rest c (inr i) = inr (sym i.second.1)

doctype_end_is : (from rest : List ℕ) (c : ℕ) → g.doctype_end from rest c → (c ≡ 62) ⊎ (c ≡ 91)
unfolding g.doctype_end
doctype_end_is from rest c (inl i) = closing_is i.mid rest c i.second
doctype_end_is from rest c (inr i) = closing_is i.mid rest c i.second

pub closing_of_doctype : (from rest : List ℕ) (c : ℕ) → g.doctype from rest c → (c ≡ 62) ⊎ (c ≡ 91)
unfolding g.doctype
closing_of_doctype from rest c i = doctype_end_is i.mid rest c i.second

closing_narrow : Narrow g.closing
unfolding g.closing
closing_narrow = or_narrow (then_narrow (word_narrow (codes ">")) (λ _. gives_narrow _)) (then_narrow (word_narrow (codes "[")) (λ _. gives_narrow _))

literal_in_narrow : (quote : ℕ) → Narrow (g.literal_in quote)
unfolding g.literal_in
literal_in_narrow quote = then_narrow (then_narrow (word_narrow (quote ∷ [])) (λ _. any_of_narrow _)) (λ v. then_narrow (then_narrow (where_narrow _) (λ _. word_narrow (quote ∷ []))) (λ _. gives_narrow _))

literal_narrow : Narrow g.literal
unfolding g.literal
literal_narrow = or_narrow (literal_in_narrow 34) (literal_in_narrow 39)

public_in_narrow : (quote : ℕ) → Narrow (g.public_in quote)
unfolding g.public_in
public_in_narrow quote = then_narrow (then_narrow (word_narrow (quote ∷ [])) (λ _. any_of_narrow _)) (λ v. then_narrow (word_narrow (quote ∷ [])) (λ _. gives_narrow _))

public_narrow : Narrow g.public_literal
unfolding g.public_literal
public_narrow = or_narrow (public_in_narrow 34) (public_in_narrow 39)

external_narrow : Narrow g.external
unfolding g.external
external_narrow = or_narrow (then_narrow (then_narrow (word_narrow (codes "SYSTEM")) (λ _. some_of_narrow _)) (λ _. literal_narrow))
    (then_narrow (then_narrow (then_narrow (then_narrow (word_narrow (codes "PUBLIC")) (λ _. some_of_narrow _)) (λ _. public_narrow)) (λ _. some_of_narrow _)) (λ _. literal_narrow))

doctype_end_narrow : Narrow g.doctype_end
unfolding g.doctype_end
doctype_end_narrow = or_narrow (then_narrow (then_narrow (then_narrow (some_of_narrow is_blank) (λ _. external_narrow)) (λ _. any_of_narrow is_blank)) (λ _. closing_narrow)) (then_narrow (any_of_narrow is_blank) (λ _. closing_narrow))

pub doctype_strict : Strict g.doctype
unfolding g.doctype
doctype_strict = then_strict (then_strict (then_strict (word_strict 60 (codes "!DOCTYPE")) (λ _. some_of_narrow is_blank)) (λ _. name_narrow)) (λ _. doctype_end_narrow)

version_number_narrow : Narrow g.version_number
unfolding g.version_number
version_number_narrow = then_narrow (word_narrow (codes "1.")) (λ _. some_of_narrow _)

quoted_narrow : {A : Type 0} {R : Rule A} → Narrow R → Narrow (g.quoted R)
quoted_narrow e = or_narrow
    (then_narrow (then_narrow (word_narrow (34 ∷ [])) (λ _. e)) (λ a. then_narrow (word_narrow (34 ∷ [])) (λ _. gives_narrow a)))
    (then_narrow (then_narrow (word_narrow (39 ∷ [])) (λ _. e)) (λ a. then_narrow (word_narrow (39 ∷ [])) (λ _. gives_narrow a)))

version_narrow : Narrow g.version
unfolding g.version
version_narrow = then_narrow (then_narrow (then_narrow (some_of_narrow is_blank) (λ _. word_narrow (codes "version"))) (λ _. equals_narrow)) (λ _. quoted_narrow version_number_narrow)

encoding_name_narrow : Narrow g.encoding_name
unfolding g.encoding_name
encoding_name_narrow = then_narrow (any_of_narrow _) (λ e. then_narrow (where_narrow _) (λ _. gives_narrow e))

encoding_narrow : Narrow g.encoding
unfolding g.encoding
encoding_narrow = then_narrow (then_narrow (then_narrow (some_of_narrow is_blank) (λ _. word_narrow (codes "encoding"))) (λ _. equals_narrow)) (λ _. quoted_narrow encoding_name_narrow)

standalone_narrow : Narrow g.standalone
unfolding g.standalone
standalone_narrow = then_narrow (then_narrow (then_narrow (some_of_narrow is_blank) (λ _. word_narrow (codes "standalone"))) (λ _. equals_narrow)) (λ _. quoted_narrow (or_narrow (word_narrow (codes "yes")) (word_narrow (codes "no"))))

close_narrow : Narrow g.declaration_close
unfolding g.declaration_close
close_narrow = then_narrow (any_of_narrow is_blank) (λ _. word_narrow (codes "?>"))

declaration_end_narrow : Narrow g.declaration_end
unfolding g.declaration_end
declaration_end_narrow = or_narrow (then_narrow standalone_narrow (λ _. close_narrow)) close_narrow

pub declaration_narrow : Narrow g.declaration
unfolding g.declaration
declaration_narrow = then_narrow (then_narrow (word_narrow (codes "<?xml")) (λ _. version_narrow))
    (λ _. or_narrow (then_narrow encoding_narrow (λ e. then_narrow declaration_end_narrow (λ _. gives_narrow _))) (then_narrow declaration_end_narrow (λ _. gives_narrow _)))
