-- A piece of markup is one of four, told by its first bytes.
use Rattle.std.proofs.Common.{◌≡◌, ℕ, ◌<◌, Bool, true, false, cond, nat_eq, List, [], ◌∷◌, ◌++◌, length, codes, inl, inr, refl, ap, ◌∙◌, subst, arith, Some}
use Rattle.xq_base.specs.Chars.{is_name_start, is_name_char}
use Rattle.doc_shred.specs.Rules.{Rule, ◌▷=◌, gives, ◌or◌, starts, begins}
use Rattle.doc_shred.specs.Classes.{is_name_byte}
use Rattle.doc_shred.specs.Markup as g
use Rattle.doc_shred.specs.Reading as r
use Rattle.doc_shred.specs.Walk as w
use Rattle.doc_shred.proofs.Exact.{Exact, then_exact, give_exact, or_exact, Strict, Narrow, then_narrow, then_strict, or_narrow, gives_narrow, where_narrow, word_narrow, word_strict, any_of_narrow, some_of_narrow, before_narrow, many_narrow}
use Rattle.doc_shred.proofs.Lexical.{comment_exact, instruction_exact, not_begins, name_narrow}
use Rattle.doc_shred.proofs.TagLaws.{start_exact, end_tag_exact, name_starts, tag_end_narrow, attribute_strict}
use Rattle.doc_shred.proofs.Prologs.{comment_begins, instruction_begins}

-- what `piece` reads, as a rule
pub piece_rule : Rule w.Piece
piece_rule =
    g.end_tag ▷= (λ n. gives (w.ends n)) or g.comment ▷= (λ v. gives (w.notes v)) or g.instruction ▷= (λ i. gives (w.instructs i.0 i.1))
    or g.start ▷= λ t. gives (w.starts t)

end_tag_begins : (from rest n : List ℕ) → g.end_tag from rest n → (mid : List ℕ) × (from ≡ codes "</" ++ mid)
unfolding g.end_tag
end_tag_begins from rest n i = (i.first.mid, i.first.first)

-- after the '<' of a start tag comes a byte of a name
pub start_begins : (from rest : List ℕ) (t : g.Tag) → g.start from rest t → (mid : List ℕ) × (from ≡ 60 ∷ mid) × (starts is_name_byte mid ≡ true)
unfolding g.start
start_begins from rest t i = (i.first.mid, i.first.first, name_starts i.first.mid i.mid i.part i.first.second)

start_apart : (k : ℕ) (ks from rest : List ℕ) (t : g.Tag) → is_name_byte k ≡ false → g.start from rest t → begins (60 ∷ k ∷ ks) from ≡ false
start_apart k ks from rest t e i =
    let s = start_begins from rest t i in
    ap (begins (60 ∷ k ∷ ks)) s.1 ∙ not_begins is_name_byte k ks s.0 s.2 e

pub slash_no_name : is_name_byte 47 ≡ false
unfolding is_name_byte is_name_char is_name_start
slash_no_name = refl

pub mark_no_name : is_name_byte 33 ≡ false
unfolding is_name_byte is_name_char is_name_start
mark_no_name = refl

pub question_no_name : is_name_byte 63 ≡ false
unfolding is_name_byte is_name_char is_name_start
question_no_name = refl

pub piece_exact : Exact piece_rule w.piece
unfolding piece_rule w.piece
piece_exact =
    or_exact (begins (codes "</")) (then_exact end_tag_exact (λ n. give_exact))
    (or_exact (begins (codes "<!--")) (then_exact comment_exact (λ v. give_exact))
    (or_exact (begins (codes "<?")) (then_exact instruction_exact (λ i. give_exact)) (then_exact start_exact (λ t. give_exact))
    (λ from rest a i. let s = instruction_begins from i.mid i.part i.first in ap (begins (codes "<?")) s.1)
    (λ from rest a i. start_apart 63 [] from i.mid i.part question_no_name i.first))
    (λ from rest a i. let s = comment_begins from i.mid i.part i.first in ap (begins (codes "<!--")) s.1) no_comment)
    (λ from rest a i. let s = end_tag_begins from i.mid i.part i.first in ap (begins (codes "</")) s.1) no_end
  where
    no_comment : (from rest : List ℕ) (a : w.Piece) → (g.instruction ▷= (λ i. gives (w.instructs i.0 i.1)) or g.start ▷= λ t. gives (w.starts t)) from rest a → begins (codes "<!--") from ≡ false
    no_comment from rest a (inl i) = let s = instruction_begins from i.mid i.part i.first in ap (begins (codes "<!--")) s.1
    no_comment from rest a (inr i) = start_apart 33 (codes "--") from i.mid i.part mark_no_name i.first

    no_end : (from rest : List ℕ) (a : w.Piece) → (g.comment ▷= (λ v. gives (w.notes v)) or g.instruction ▷= (λ i. gives (w.instructs i.0 i.1)) or g.start ▷= λ t. gives (w.starts t)) from rest a → begins (codes "</") from ≡ false
    no_end from rest a (inl i) = let s = comment_begins from i.mid i.part i.first in ap (begins (codes "</")) s.1
    no_end from rest a (inr (inl i)) = let s = instruction_begins from i.mid i.part i.first in ap (begins (codes "</")) s.1
    no_end from rest a (inr (inr i)) = start_apart 47 [] from i.mid i.part slash_no_name i.first

-- ---- a piece is no part of a text

after_angle : (k : ℕ) (from mid : List ℕ) → from ≡ 60 ∷ mid → begins (33 ∷ []) mid ≡ false → r.has_text from ≡ false
after_angle k from mid e f = ap r.has_text e ∙ deeper mid f
  where
    deeper : (mid : List ℕ) → begins (33 ∷ []) mid ≡ false → begins (codes "![CDATA[") mid ≡ false
    deeper [] e = refl
    deeper (c ∷ cs) e = by (nat_eq c 33) e
      where
        by : (b : Bool) → cond b true false ≡ false → cond b (begins (codes "[CDATA[") cs) false ≡ false
        by true e = cc
        by false e = refl

pub start_no_text : (from rest : List ℕ) (t : g.Tag) → g.start from rest t → r.has_text from ≡ false
start_no_text from rest t i = let s = start_begins from rest t i in after_angle 0 from s.0 s.1 (not_begins is_name_byte 33 [] s.0 s.2 mark_no_name)

pub end_no_text : (from rest n : List ℕ) → g.end_tag from rest n → r.has_text from ≡ false
end_no_text from rest n i = let s = end_tag_begins from rest n i in ap r.has_text s.1

pub comment_no_text : (from rest v : List ℕ) → g.comment from rest v → r.has_text from ≡ false
comment_no_text from rest v i = let s = comment_begins from rest v i in ap r.has_text s.1

pub instruction_no_text : (from rest : List ℕ) (v : List ℕ × List ℕ) → g.instruction from rest v → r.has_text from ≡ false
instruction_no_text from rest v i = let s = instruction_begins from rest v i in ap r.has_text s.1

-- ---- pieces as they are read

pub read_end : (from rest n : List ℕ) → g.end_tag from rest n → w.piece from ≡ Some (w.ends n, rest)
unfolding piece_rule
read_end from rest n i = piece_exact.complete from rest (w.ends n) (inl (record { part = n; mid = rest; first = i; second = (refl, refl) }))

pub read_comment : (from rest v : List ℕ) → g.comment from rest v → w.piece from ≡ Some (w.notes v, rest)
unfolding piece_rule
read_comment from rest v i = piece_exact.complete from rest (w.notes v) (inr (inl (record { part = v; mid = rest; first = i; second = (refl, refl) })))

pub read_instruction : (from rest n v : List ℕ) → g.instruction from rest (n, v) → w.piece from ≡ Some (w.instructs n v, rest)
unfolding piece_rule
read_instruction from rest n v i = piece_exact.complete from rest (w.instructs n v) (inr (inr (inl (record { part = (n, v); mid = rest; first = i; second = (refl, refl) }))))

pub read_start : (from rest : List ℕ) (t : g.Tag) → g.start from rest t → w.piece from ≡ Some (w.starts t, rest)
unfolding piece_rule
read_start from rest t i = piece_exact.complete from rest (w.starts t) (inr (inr (inr (record { part = t; mid = rest; first = i; second = (refl, refl) }))))

-- what a piece that was read is
abbrev pub IsPiece : w.Piece → List ℕ → List ℕ → Type 0
IsPiece (w.starts t) from rest = g.start from rest t
IsPiece (w.ends n) from rest = g.end_tag from rest n
IsPiece (w.notes v) from rest = g.comment from rest v
IsPiece (w.instructs n v) from rest = g.instruction from rest (n, v)

pub piece_sound : (from : List ℕ) (x : w.Piece × List ℕ) → w.piece from ≡ Some x → IsPiece x.0 from x.1
unfolding piece_rule
piece_sound from x e = by (piece_exact.sound from x e)
  where
    by : (g.end_tag ▷= (λ n. gives (w.ends n)) or g.comment ▷= (λ v. gives (w.notes v)) or g.instruction ▷= (λ i. gives (w.instructs i.0 i.1)) or g.start ▷= λ t. gives (w.starts t)) from x.1 x.0 → IsPiece x.0 from x.1
    by (inl i) = subst (λ p. IsPiece p from x.1) i.second.1 (subst (λ z. g.end_tag from z i.part) i.second.0 i.first)
    by (inr (inl i)) = subst (λ p. IsPiece p from x.1) i.second.1 (subst (λ z. g.comment from z i.part) i.second.0 i.first)
    by (inr (inr (inl i))) = subst (λ p. IsPiece p from x.1) i.second.1 (subst (λ z. g.instruction from z i.part) i.second.0 i.first)
    by (inr (inr (inr i))) = subst (λ p. IsPiece p from x.1) i.second.1 (subst (λ z. g.start from z i.part) i.second.0 i.first)

-- ---- lengths

pub start_strict : Strict g.start
unfolding g.start
start_strict = then_strict (then_strict (word_strict 60 []) (λ _. name_narrow)) (λ n. then_narrow (many_narrow (λ from rest a i. omega (arith, attribute_strict from rest a i))) (λ found. then_narrow (then_narrow (where_narrow _) (λ _. tag_end_narrow)) (λ e. gives_narrow _)))

pub end_tag_strict : Strict g.end_tag
unfolding g.end_tag
end_tag_strict = then_strict (then_strict (word_strict 60 (codes "/")) (λ _. name_narrow)) (λ n. then_narrow (then_narrow (any_of_narrow _) (λ _. word_narrow (codes ">"))) (λ _. gives_narrow _))

pub comment_strict : Strict g.comment
unfolding g.comment
comment_strict = then_strict (then_strict (word_strict 60 (codes "!--")) (λ _. before_narrow (codes "--"))) (λ v. then_narrow (then_narrow (where_narrow _) (λ _. word_narrow (codes ">"))) (λ _. gives_narrow _))

pub instruction_value_narrow : Narrow g.instruction_value
unfolding g.instruction_value
instruction_value_narrow = or_narrow (then_narrow (word_narrow (codes "?>")) (λ _. gives_narrow _)) (then_narrow (then_narrow (some_of_narrow _) (λ _. before_narrow (codes "?>"))) (λ v. then_narrow (where_narrow _) (λ _. gives_narrow _)))

pub instruction_strict : Strict g.instruction
unfolding g.instruction
instruction_strict = then_strict (then_strict (word_strict 60 (codes "?")) (λ _. name_narrow)) (λ n. then_narrow (then_narrow (where_narrow _) (λ _. instruction_value_narrow)) (λ v. gives_narrow _))

pub piece_strict : (p : w.Piece) (from rest : List ℕ) → IsPiece p from rest → length rest < length from
piece_strict (w.starts t) from rest i = start_strict from rest t i
piece_strict (w.ends n) from rest i = end_tag_strict from rest n i
piece_strict (w.notes v) from rest i = comment_strict from rest v i
piece_strict (w.instructs n v) from rest i = instruction_strict from rest (n, v) i
