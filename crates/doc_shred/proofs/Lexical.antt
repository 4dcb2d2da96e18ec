-- Each production of markup is read as it says.
use Rattle.std.proofs.Common.{Some, ◌≡◌, ℕ, Bool, true, false, not, ◌&&◌, cond, nat_eq, List, [], ◌∷◌, codes, inl, inr, refl, sym, ap, ◌∙◌, true≢false}
use Rattle.std.specs.Char.{encode_utf8, is_ascii_digit, is_ascii_hexdigit}
use Rattle.std.specs.Str.{bytes_eq}
use Rattle.std.proofs.lemmas.Bool.{eqb-true}
use Rattle.doc_shred.specs.Rules.{Rule, ◌▷=◌, ◌▷◌, gives, ◌or◌, word, starts, begins}
use Rattle.doc_shred.specs.Parsers.{strip}
use Rattle.doc_shred.specs.Classes.{is_blank, is_name_byte, is_value_byte, decimal, hexadecimal}
use Rattle.doc_shred.specs.Markup as g
use Rattle.doc_shred.specs.Reading as r
use Rattle.doc_shred.proofs.Exact.{Exact, then_exact, after_exact, give_exact, need_exact, or_exact, word_exact, any_of_exact, some_of_exact, before_exact, begins_front, Strict, Narrow, then_narrow, then_strict, or_narrow, or_strict, gives_narrow, where_narrow, word_narrow, word_strict, any_of_narrow, some_of_narrow, some_of_strict}

pub name_exact : Exact g.name r.name
unfolding g.name r.name
name_exact = then_exact (any_of_exact is_name_byte) (λ n. after_exact need_exact give_exact)

pub equals_exact : Exact g.equals r.equals
unfolding g.equals r.equals
equals_exact = after_exact (after_exact (any_of_exact is_blank) (word_exact (codes "="))) (any_of_exact is_blank)

pub comment_exact : Exact g.comment r.comment
unfolding g.comment r.comment
comment_exact = then_exact (after_exact (word_exact (codes "<!--")) (before_exact (codes "--"))) (λ v. after_exact (after_exact need_exact (word_exact (codes ">"))) give_exact)

-- a byte of one class isn't of another
pub other : (p : ℕ → Bool) (c k : ℕ) → p c ≡ true → p k ≡ false → nat_eq c k ≡ false
other p c k e f = by (nat_eq c k) refl
  where
    by : (b : Bool) → nat_eq c k ≡ b → b ≡ false
    by true h = absurd (true≢false (sym e ∙ ap p (eqb-true c k h) ∙ f))
    by false h = refl

-- a word that begins with a byte outside a class doesn't come where a byte of the class does
pub not_begins : (p : ℕ → Bool) (k : ℕ) (ks from : List ℕ) → starts p from ≡ true → p k ≡ false → begins (k ∷ ks) from ≡ false
not_begins p k ks [] e f = absurd (true≢false (sym e))
not_begins p k ks (c ∷ cs) e f = ap (λ b. cond b (begins ks cs) false) (other p c k e f)

pub instruction_value_exact : Exact g.instruction_value r.instruction_value
unfolding g.instruction_value r.instruction_value
instruction_value_exact = or_exact (begins (codes "?>"))
    (after_exact (word_exact (codes "?>")) give_exact)
    (then_exact (after_exact (some_of_exact is_blank) (before_exact (codes "?>"))) (λ v. after_exact need_exact give_exact))
    (λ from rest a i. ap (begins (codes "?>")) i.first ∙ begins_front (codes "?>") i.mid)
    (λ from rest a i. not_begins is_blank 63 (62 ∷ []) from i.first.first.0 refl)

pub instruction_exact : Exact g.instruction r.instruction
unfolding g.instruction r.instruction
instruction_exact = then_exact (after_exact (word_exact (codes "<?")) name_exact) (λ n. then_exact (after_exact need_exact instruction_value_exact) (λ v. give_exact))

pub cdata_exact : Exact g.cdata r.cdata
unfolding g.cdata r.cdata
cdata_exact = then_exact (after_exact (word_exact (codes "<![CDATA[")) (before_exact (codes "]]>"))) (λ v. after_exact need_exact give_exact)

-- a word with its value
pub row : (w v : List ℕ) → Exact (word w ▷ gives v) (λ from. Rattle.std.specs.Option.option_and_then (λ (x : Unit {0} × List ℕ). Some (v, x.1)) (strip w from))
row w v = after_exact (word_exact w) give_exact

pub row_begins : {A : Type 0} (w : List ℕ) (S : Unit {0} → Rule A) (from rest : List ℕ) (a : A) → (word w ▷= S) from rest a → begins w from ≡ true
row_begins w S from rest a i = ap (begins w) i.first ∙ begins_front w i.mid

pub entity_exact : Exact g.entity r.entity
unfolding g.entity r.entity
entity_exact =
    or_exact (begins (codes "amp;")) (row (codes "amp;") (codes "&"))
    (or_exact (begins (codes "lt;")) (row (codes "lt;") (codes "<"))
    (or_exact (begins (codes "gt;")) (row (codes "gt;") (codes ">"))
    (or_exact (begins (codes "quot;")) (row (codes "quot;") (34 ∷ [])) (row (codes "apos;") (codes "'"))
    (row_begins (codes "quot;") _) (λ from rest a i. ap (begins (codes "quot;")) i.first))
    (row_begins (codes "gt;") _) gt_alone)
    (row_begins (codes "lt;") _) lt_alone)
    (row_begins (codes "amp;") _) amp_alone
  where
    gt_alone : (from rest a : List ℕ) → (word (codes "quot;") ▷ gives (34 ∷ []) or word (codes "apos;") ▷ gives (codes "'")) from rest a → begins (codes "gt;") from ≡ false
    gt_alone from rest a (inl i) = ap (begins (codes "gt;")) i.first
    gt_alone from rest a (inr i) = ap (begins (codes "gt;")) i.first

    lt_alone : (from rest a : List ℕ) → (word (codes "gt;") ▷ gives (codes ">") or word (codes "quot;") ▷ gives (34 ∷ []) or word (codes "apos;") ▷ gives (codes "'")) from rest a → begins (codes "lt;") from ≡ false
    lt_alone from rest a (inl i) = ap (begins (codes "lt;")) i.first
    lt_alone from rest a (inr (inl i)) = ap (begins (codes "lt;")) i.first
    lt_alone from rest a (inr (inr i)) = ap (begins (codes "lt;")) i.first

    amp_alone : (from rest a : List ℕ) → (word (codes "lt;") ▷ gives (codes "<") or word (codes "gt;") ▷ gives (codes ">") or word (codes "quot;") ▷ gives (34 ∷ []) or word (codes "apos;") ▷ gives (codes "'")) from rest a → begins (codes "amp;") from ≡ false
    amp_alone from rest a (inl i) = ap (begins (codes "amp;")) i.first
    amp_alone from rest a (inr (inl i)) = ap (begins (codes "amp;")) i.first
    amp_alone from rest a (inr (inr (inl i))) = ap (begins (codes "amp;")) i.first
    amp_alone from rest a (inr (inr (inr i))) = ap (begins (codes "amp;")) i.first

pub numbered_exact : (c : ℕ) → Exact (g.numbered c) (r.numbered c)
unfolding g.numbered r.numbered
numbered_exact c = after_exact (after_exact need_exact (word_exact (codes ";"))) give_exact

pub character_exact : Exact g.character r.character
unfolding g.character r.character
character_exact = or_exact (begins (codes "#x"))
    (then_exact (after_exact (word_exact (codes "#x")) (some_of_exact is_ascii_hexdigit)) (λ ds. numbered_exact (hexadecimal ds)))
    (then_exact (after_exact (word_exact (codes "#")) (some_of_exact is_ascii_digit)) (λ ds. numbered_exact (decimal ds)))
    (λ from rest a i. ap (begins (codes "#x")) i.first.first ∙ begins_front (codes "#x") i.first.mid)
    (λ from rest a i. ap (begins (codes "#x")) i.first.first ∙ not_begins is_ascii_digit 120 [] i.first.mid i.first.second.0 refl)

entity_alone : (from rest a : List ℕ) → g.entity from rest a → begins (codes "#") from ≡ false
unfolding g.entity
entity_alone from rest a (inl i) = ap (begins (codes "#")) i.first
entity_alone from rest a (inr (inl i)) = ap (begins (codes "#")) i.first
entity_alone from rest a (inr (inr (inl i))) = ap (begins (codes "#")) i.first
entity_alone from rest a (inr (inr (inr (inl i)))) = ap (begins (codes "#")) i.first
entity_alone from rest a (inr (inr (inr (inr i)))) = ap (begins (codes "#")) i.first

character_begins : (from rest a : List ℕ) → g.character from rest a → begins (codes "#") from ≡ true
unfolding g.character
character_begins from rest a (inl i) = ap (begins (codes "#")) i.first.first
character_begins from rest a (inr i) = ap (begins (codes "#")) i.first.first

pub reference_exact : Exact g.reference r.reference
unfolding g.reference r.reference
reference_exact = after_exact (word_exact (codes "&")) (or_exact (begins (codes "#")) character_exact entity_exact character_begins entity_alone)

pub reference_starts : (from rest a : List ℕ) → g.reference from rest a → (mid : List ℕ) × (from ≡ 38 ∷ mid)
unfolding g.reference
reference_starts from rest a i = (i.mid, i.first)

-- the quotes: neither markup nor a reference begins with one
abbrev pub IsQuote : ℕ → Type 0
IsQuote quote = (nat_eq quote 38 ≡ false) × (nat_eq 38 quote ≡ false)

value_byte_not_38 : (quote : ℕ) → is_value_byte quote 38 ≡ false
value_byte_not_38 quote = by (not (nat_eq 38 quote))
  where
    by : (b : Bool) → (b && true) && false ≡ false
    by true = refl
    by false = refl

pub value_part_exact : (quote : ℕ) → Exact (g.value_part quote) (r.value_part quote)
unfolding g.value_part r.value_part
value_part_exact quote = or_exact (starts (is_value_byte quote))
    (then_exact (some_of_exact (is_value_byte quote)) (λ v. after_exact need_exact give_exact))
    reference_exact
    (λ from rest a i. i.first.0)
    (λ from rest a i. let s = reference_starts from rest a i in ap (starts (is_value_byte quote)) s.1 ∙ value_byte_not_38 quote)

-- ---- lengths

pub name_narrow : Narrow g.name
unfolding g.name
name_narrow = then_narrow (any_of_narrow is_name_byte) (λ n. then_narrow (where_narrow _) (λ _. gives_narrow n))

pub equals_narrow : Narrow g.equals
unfolding g.equals
equals_narrow = then_narrow (then_narrow (any_of_narrow is_blank) (λ _. word_narrow (codes "="))) (λ _. any_of_narrow is_blank)

entity_narrow : Narrow g.entity
unfolding g.entity
entity_narrow =
    or_narrow (then_narrow (word_narrow (codes "amp;")) (λ _. gives_narrow _)) (or_narrow (then_narrow (word_narrow (codes "lt;")) (λ _. gives_narrow _))
    (or_narrow (then_narrow (word_narrow (codes "gt;")) (λ _. gives_narrow _)) (or_narrow (then_narrow (word_narrow (codes "quot;")) (λ _. gives_narrow _)) (then_narrow (word_narrow (codes "apos;")) (λ _. gives_narrow _)))))

numbered_narrow : (c : ℕ) → Narrow (g.numbered c)
unfolding g.numbered
numbered_narrow c = then_narrow (then_narrow (where_narrow _) (λ _. word_narrow (codes ";"))) (λ _. gives_narrow _)

character_narrow : Narrow g.character
unfolding g.character
character_narrow = or_narrow (then_narrow (then_narrow (word_narrow (codes "#x")) (λ _. some_of_narrow _)) (λ ds. numbered_narrow _)) (then_narrow (then_narrow (word_narrow (codes "#")) (λ _. some_of_narrow _)) (λ ds. numbered_narrow _))

pub reference_strict : Strict g.reference
unfolding g.reference
reference_strict = then_strict (word_strict 38 []) (λ _. or_narrow character_narrow entity_narrow)

pub value_part_strict : (quote : ℕ) → Strict (g.value_part quote)
unfolding g.value_part
value_part_strict quote = or_strict (then_strict (some_of_strict _) (λ v. then_narrow (where_narrow _) (λ _. gives_narrow _))) reference_strict
