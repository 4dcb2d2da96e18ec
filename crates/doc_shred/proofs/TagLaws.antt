-- Attributes and tags are read as their productions say.
use Rattle.std.proofs.Common.{◌≡◌, ℕ, zero, suc, ◌+◌, ◌<◌, Bool, true, false, not, ◌||◌, ◌&&◌, cond, nat_eq, List, [], ◌∷◌, ◌++◌, length, codes, inl, inr, refl, sym, ap, ◌∙◌, subst, arith, true≢false, Option, Some, option_and_then, append-nil, append_assoc}
use Rattle.std.specs.Str.{bytes_eq}
use Rattle.std.proofs.lemmas.Option.{same_Some}
use Rattle.xq_base.specs.Chars.{is_name_start, is_name_char}
use Rattle.doc_shred.specs.Rules.{◌▷◌, gives, ◌or◌, word, IsMany, starts, begins, before, IsRunOf}
use Rattle.doc_shred.specs.Parsers.{run}
use Rattle.doc_shred.specs.Classes.{is_blank, is_name_text, is_name_byte, is_data_byte, is_value_byte}
use Rattle.doc_shred.specs.Markup as g
use Rattle.doc_shred.specs.Reading as r
use Rattle.doc_shred.proofs.Exact.{Exact, bound, chosen, then_exact, after_exact, give_exact, need_exact, or_exact, word_exact, any_of_exact, some_of_exact, repeat_exact, begins_front, run_again, Strict, Narrow, then_narrow, then_strict, or_narrow, or_strict, gives_narrow, where_narrow, word_narrow, word_strict, any_of_narrow, some_of_strict, before_narrow, many_narrow, same_byte}
use Rattle.doc_shred.proofs.Lexical.{name_exact, equals_exact, reference_exact, reference_strict, reference_starts, cdata_exact, value_part_exact, value_part_strict, IsQuote, name_narrow, equals_narrow}

-- ---- values

value_part_goes_on : (quote : ℕ) → IsQuote quote → (from rest a : List ℕ) → g.value_part quote from rest a → r.goes_on quote from ≡ true
unfolding g.value_part
value_part_goes_on quote q from rest a (inl i) = by from i.first.0
  where
    by : (from : List ℕ) → starts (is_value_byte quote) from ≡ true → r.goes_on quote from ≡ true
    by [] e = e
    by (c ∷ cs) e = first (not (nat_eq c quote)) (not (nat_eq c 60)) (not (nat_eq c 38)) e
      where
        first : (a b d : Bool) → (a && b) && d ≡ true → a ≡ true
        first true b d e = refl
        first false b d e = cc
value_part_goes_on quote q from rest a (inr i) =
    let s = reference_starts from rest a i in
    ap (r.goes_on quote) s.1 ∙ ap not q.1

value_close_ends : (quote : ℕ) (parts : List (List ℕ)) (from rest b : List ℕ) → (word (quote ∷ []) ▷ gives (g.joined parts)) from rest b → r.goes_on quote from ≡ false
value_close_ends quote parts from rest b i = ap (r.goes_on quote) i.first ∙ ap not (same_byte quote)

pub value_in_exact : (quote : ℕ) → IsQuote quote → Exact (g.value_in quote) (r.value_in quote)
unfolding g.value_in r.value_in r.value_from
value_in_exact quote q = after_exact (word_exact (quote ∷ []))
    (repeat_exact (r.goes_on quote) (value_part_exact quote) (λ parts. after_exact (word_exact (quote ∷ [])) give_exact)
    (value_part_goes_on quote q) (value_close_ends quote) (value_part_strict quote))

pub value_exact : Exact g.value r.value
unfolding g.value r.value g.value_in
value_exact = or_exact (begins (34 ∷ [])) (value_in_exact 34 (refl, refl)) (value_in_exact 39 (refl, refl))
    (λ from rest a i. ap (begins (34 ∷ [])) i.first) (λ from rest a i. ap (begins (34 ∷ [])) i.first)

value_in_narrow : (quote : ℕ) → Narrow (g.value_in quote)
unfolding g.value_in
value_in_narrow quote = then_narrow (word_narrow (quote ∷ [])) (λ _. then_narrow (many_narrow (λ from rest a i. omega (arith, value_part_strict quote from rest a i))) (λ parts. then_narrow (word_narrow (quote ∷ [])) (λ _. gives_narrow _)))

value_narrow : Narrow g.value
unfolding g.value
value_narrow = or_narrow (value_in_narrow 34) (value_in_narrow 39)

-- ---- attributes

pub attribute_exact : Exact g.attribute r.attribute
unfolding g.attribute r.attribute
attribute_exact = then_exact (after_exact (some_of_exact is_blank) name_exact) (λ n. then_exact (after_exact equals_exact value_exact) (λ v. give_exact))

pub attribute_strict : Strict g.attribute
unfolding g.attribute
attribute_strict = then_strict (then_strict (some_of_strict is_blank) (λ _. name_narrow)) (λ n. then_narrow (then_narrow equals_narrow (λ _. value_narrow)) (λ v. gives_narrow _))

-- a Name has a byte
name_text_filled : is_name_text [] ≡ false
unfolding is_name_text Rattle.std.specs.Str.chars
name_text_filled = and_false (Rattle.std.specs.Str.is_utf8 [])
  where
    and_false : (b : Bool) → b && false ≡ false
    and_false true = refl
    and_false false = refl

pub name_starts : (from rest n : List ℕ) → g.name from rest n → starts is_name_byte from ≡ true
unfolding g.name
name_starts from rest n i = by i.part (i.second.first.1) i.first
  where
    by : (m : List ℕ) → is_name_text m ≡ true → IsRunOf is_name_byte from i.mid m → starts is_name_byte from ≡ true
    by [] e run = absurd (true≢false (sym e ∙ name_text_filled))
    by (c ∷ cs) e run = ap (starts is_name_byte) run.whole ∙ run.each.0

pub attribute_goes_on : (from rest : List ℕ) (a : List ℕ × List ℕ) → g.attribute from rest a → r.has_attribute from ≡ true
unfolding g.attribute
attribute_goes_on from rest a i =
    let w = i.first in
    let blanks = run_again is_blank from w.mid w.part w.first.1 in
    ap (starts is_name_byte) blanks.1 ∙ name_starts w.mid i.mid i.part w.second

-- ---- ends of tags

pub tag_end_exact : Exact g.tag_end r.tag_end
unfolding g.tag_end r.tag_end
tag_end_exact = after_exact (any_of_exact is_blank) (or_exact (begins (codes ">"))
    (after_exact (word_exact (codes ">")) give_exact) (after_exact (word_exact (codes "/>")) give_exact)
    (λ from rest a i. ap (begins (codes ">")) i.first) (λ from rest a i. ap (begins (codes ">")) i.first))

tag_end_ends : (from rest : List ℕ) (e : Bool) → g.tag_end from rest e → r.has_attribute from ≡ false
unfolding g.tag_end is_name_byte is_name_char is_name_start
tag_end_ends from rest e i =
    let blanks = run_again is_blank from i.mid i.part i.first in
    ap (starts is_name_byte) blanks.1 ∙ by i.second
  where
    by : (word (codes ">") ▷ gives false or word (codes "/>") ▷ gives true) i.mid rest e → starts is_name_byte i.mid ≡ false
    by (inl j) = ap (starts is_name_byte) j.first
    by (inr j) = ap (starts is_name_byte) j.first

pub tag_end_narrow : Narrow g.tag_end
unfolding g.tag_end
tag_end_narrow = then_narrow (any_of_narrow is_blank) (λ _. or_narrow (then_narrow (word_narrow (codes ">")) (λ _. gives_narrow _)) (then_narrow (word_narrow (codes "/>")) (λ _. gives_narrow _)))

pub start_exact : Exact g.start r.start
unfolding g.start r.start
start_exact = then_exact (after_exact (word_exact (codes "<")) name_exact) (λ n.
    repeat_exact r.has_attribute attribute_exact (λ found. then_exact (after_exact need_exact tag_end_exact) (λ e. give_exact))
    attribute_goes_on
    (λ found from rest b i. ap r.has_attribute i.first.first.0 ∙ tag_end_ends i.first.mid i.mid i.part i.first.second)
    attribute_strict)

pub end_tag_exact : Exact g.end_tag r.end_tag
unfolding g.end_tag r.end_tag
end_tag_exact = then_exact (after_exact (word_exact (codes "</")) name_exact) (λ n. after_exact (after_exact (any_of_exact is_blank) (word_exact (codes ">"))) give_exact)

-- ---- texts

pub data_run_exact : Exact g.data_run r.data_run
unfolding g.data_run r.data_run
data_run_exact = then_exact (some_of_exact is_data_byte) (λ v. after_exact need_exact give_exact)

data_run_starts : (from rest v : List ℕ) → g.data_run from rest v → starts is_data_byte from ≡ true
unfolding g.data_run
data_run_starts from rest v i = i.first.0

cdata_begins : (from rest v : List ℕ) → g.cdata from rest v → (mid : List ℕ) × (from ≡ codes "<![CDATA[" ++ mid)
unfolding g.cdata
cdata_begins from rest v i = (i.first.mid, i.first.first)

marked_no_data : (from rest v : List ℕ) → (g.reference or g.cdata) from rest v → starts is_data_byte from ≡ false
marked_no_data from rest v (inl i) = let s = reference_starts from rest v i in ap (starts is_data_byte) s.1
marked_no_data from rest v (inr i) = let s = cdata_begins from rest v i in ap (starts is_data_byte) s.1

pub text_part_exact : Exact g.text_part r.text_part
unfolding g.text_part r.text_part
text_part_exact = or_exact (starts is_data_byte) data_run_exact
    (or_exact (begins (codes "&")) reference_exact cdata_exact
    (λ from rest v i. let s = reference_starts from rest v i in ap (begins (codes "&")) s.1)
    (λ from rest v i. let s = cdata_begins from rest v i in ap (begins (codes "&")) s.1))
    data_run_starts marked_no_data

pub text_part_strict : Strict g.text_part
unfolding g.text_part g.data_run g.cdata
text_part_strict = or_strict (then_strict (some_of_strict is_data_byte) (λ v. then_narrow (where_narrow _) (λ _. gives_narrow _)))
    (or_strict reference_strict (then_strict (then_strict (word_strict 60 (codes "![CDATA[")) (λ _. before_narrow (codes "]]>"))) (λ v. then_narrow (where_narrow _) (λ _. gives_narrow _))))

pub text_part_goes_on : (from rest v : List ℕ) → g.text_part from rest v → r.has_text from ≡ true
unfolding g.text_part
text_part_goes_on from rest v (inl i) = by from (data_run_starts from rest v i)
  where
    by : (from : List ℕ) → starts is_data_byte from ≡ true → r.has_text from ≡ true
    by [] e = absurd (true≢false (sym e))
    by (c ∷ cs) e = first (not (nat_eq c 60)) (not (nat_eq c 38)) (begins (codes "<![CDATA[") (c ∷ cs)) e
      where
        first : (a b d : Bool) → a && b ≡ true → a || d ≡ true
        first true b d e = refl
        first false b d e = cc
text_part_goes_on from rest v (inr (inl i)) = let s = reference_starts from rest v i in ap r.has_text s.1
text_part_goes_on from rest v (inr (inr i)) = let s = cdata_begins from rest v i in ap r.has_text s.1 ∙ begins_front (codes "<![CDATA[") s.0

-- a text that ends where no part of a text begins is read
pub text_from_complete : (n : ℕ) (before parts : List (List ℕ)) (from rest : List ℕ) → length from < n → IsMany g.text_part from rest parts → r.has_text rest ≡ false
    → r.text_from before n from ≡ Some (g.joined (before ++ parts), rest)
unfolding r.text_from
text_from_complete zero before parts from rest l m e = absurd (omega arith)
text_from_complete (suc n) before _ from _ l IsMany.none e =
    ap (λ c. cond c (option_and_then (λ (x : List ℕ × List ℕ). r.text_from (before ++ x.0 ∷ []) n x.1) (r.text_part from)) (Some (g.joined before, from))) e
    ∙ ap (λ z. Some (g.joined z, from)) (sym (append-nil before))
text_from_complete (suc n) before _ from rest l (IsMany.more {mid = mid} {a = a} {others = others} first m) e =
    ap (λ c. cond c (option_and_then (λ (x : List ℕ × List ℕ). r.text_from (before ++ x.0 ∷ []) n x.1) (r.text_part from)) (Some (g.joined before, from))) (text_part_goes_on from mid a first)
    ∙ ap (option_and_then (λ (x : List ℕ × List ℕ). r.text_from (before ++ x.0 ∷ []) n x.1)) (text_part_exact.complete from mid a first)
    ∙ text_from_complete n (before ++ a ∷ []) others mid rest (omega (arith, text_part_strict from mid a first)) m e
    ∙ ap (λ z. Some (g.joined z, rest)) (append_assoc before (a ∷ []) others)

-- and what is read as a text is one, which ends so
pub text_from_sound : (n : ℕ) (before : List (List ℕ)) (from : List ℕ) (y : List ℕ × List ℕ) → r.text_from before n from ≡ Some y
    → (parts : List (List ℕ)) × IsMany g.text_part from y.1 parts × (g.joined (before ++ parts) ≡ y.0) × (r.has_text y.1 ≡ false)
unfolding r.text_from
text_from_sound zero before from y e = cc
text_from_sound (suc n) before from y e = chosen (r.has_text from) _ _ (Some y) ((parts : List (List ℕ)) × IsMany g.text_part from y.1 parts × (g.joined (before ++ parts) ≡ y.0) × (r.has_text y.1 ≡ false)) e
    (λ h k.
    let b = bound (λ (x : List ℕ × List ℕ). r.text_from (before ++ x.0 ∷ []) n x.1) (r.text_part from) y k in
    let i = text_from_sound n (before ++ b.0.0 ∷ []) b.0.1 y b.2 in
    (b.0.0 ∷ i.0, IsMany.more (text_part_exact.sound from b.0 b.1) i.1, ap g.joined (sym (append_assoc before (b.0.0 ∷ []) i.0)) ∙ i.2, i.3))
    (λ h k.
    let P : List ℕ × List ℕ → Type 0 = λ z. (parts : List (List ℕ)) × IsMany g.text_part from z.1 parts × (g.joined (before ++ parts) ≡ z.0) × (r.has_text z.1 ≡ false) in
    subst P (same_Some (g.joined before, from) y k) ([], IsMany.none, ap g.joined (append-nil before), h))

pub text_run_complete : (from rest v : List ℕ) → g.text_run from rest v → r.has_text rest ≡ false → r.text_run from ≡ Some (v, rest)
unfolding g.text_run r.text_run
text_run_complete from rest v i e =
    let same = i.second.0 in
    let ends : r.has_text i.mid ≡ false = ap r.has_text same ∙ e in
    text_from_complete (length from + 1) [] i.part from i.mid (omega arith) i.first ends ∙ cong i.second.1 same
  where
    cong : {a b c d : List ℕ} → a ≡ b → c ≡ d → ◌≡◌ {A = Option (List ℕ × List ℕ)} (Some (a, c)) (Some (b, d))
    cong p q = cc

pub text_run_sound : (from : List ℕ) (y : List ℕ × List ℕ) → r.text_run from ≡ Some y → g.text_run from y.1 y.0 × (r.has_text y.1 ≡ false)
unfolding g.text_run r.text_run
text_run_sound from y e =
    let i = text_from_sound (length from + 1) [] from y e in
    (record { part = i.0; mid = y.1; first = i.1; second = (refl, i.2) }, i.3)
