-- Whole documents are read exactly as the grammar says.
use Rattle.std.proofs.Common.{◌≡◌, ℕ, zero, suc, ◌+◌, ◌<◌, Bool, true, false, not, ◌||◌, cond, nat_eq, List, [], ◌∷◌, ◌++◌, length, codes, inl, inr, refl, sym, ap, ◌∙◌, subst, arith, true≢false, Option, Some, None, option_and_then, drop, append-nil, append_assoc}
use Rattle.std.proofs.lemmas.Option.{same_Some}
use Rattle.std.proofs.lemmas.Bool.{eqb-true}
use Rattle.xq_base.specs.Chars.{is_name_start, is_name_char}
use Rattle.doc_table.specs.Tree.{OfDocument, OfElement, OfAttribute, OfText, OfComment, OfInstruction, Tree, Branch, forest_of}
use Rattle.doc_shred.specs.Rules.{◌▷=◌, ◌▷◌, gives, where_, ◌or◌, IsMany, starts, begins}
use Rattle.doc_shred.specs.Parsers.{run}
use Rattle.doc_shred.specs.Classes.{is_blank, is_name_byte, is_xml, is_known_encoding}
use Rattle.doc_shred.specs.Markup as m
use Rattle.doc_shred.specs.Prolog as p
use Rattle.doc_shred.specs.Reading as r
use Rattle.doc_shred.specs.Content.{Text}
use Rattle.doc_shred.specs.Document as d
use Rattle.doc_shred.specs.Walk as w
use Rattle.doc_shred.specs.Walk.{Nodes, Walked, put_node, put_list, has_misc, miscs_from, at_end}
use Rattle.doc_shred.proofs.Exact.{bound, chosen, begins_front, run_again, Strict, then_strict, or_strict, some_of_strict, gives_narrow}
use Rattle.doc_shred.proofs.Lexical.{not_begins}
use Rattle.doc_shred.proofs.PieceLaws.{start_begins, mark_no_name, question_no_name, comment_strict, instruction_strict}
use Rattle.doc_shred.proofs.Prologs.{comment_begins, instruction_begins, misc_exact, doctype_exact, declaration_exact}
use Rattle.doc_shred.proofs.Complete.{root_read}
use Rattle.doc_shred.proofs.Sound.{root_sound}

-- ---- Misc*

misc_strict : Strict p.misc
unfolding p.misc
misc_strict = or_strict (then_strict (some_of_strict is_blank) (λ _. gives_narrow _)) (or_strict (then_strict comment_strict (λ v. gives_narrow _)) (then_strict instruction_strict (λ i. gives_narrow _)))

misc_goes_on : (from rest : List ℕ) (ts : List (Tree Text)) → p.misc from rest ts → has_misc from ≡ true
unfolding p.misc
misc_goes_on from rest ts (inl i) = ap (λ b. (b || begins (codes "<!--") from) || begins (codes "<?") from) i.first.0
misc_goes_on from rest ts (inr (inl i)) = let s = comment_begins from i.mid i.part i.first in ap has_misc s.1
misc_goes_on from rest ts (inr (inr i)) = let s = instruction_begins from i.mid i.part i.first in ap has_misc s.1

put_list-append : (ts us : List (Tree Text)) (os : Nodes) → put_list (ts ++ us) os ≡ put_list us (put_list ts os)
put_list-append [] us os = refl
put_list-append (t ∷ ts) us os = put_list-append ts us (put_node t os)

miscs_complete : (n : ℕ) (from rest : List ℕ) (found : List (List (Tree Text))) (os : Nodes) → length from < n → IsMany p.misc from rest found → has_misc rest ≡ false
    → miscs_from n from os ≡ Some (put_list (d.appended found) os, rest)
unfolding miscs_from
miscs_complete zero from rest found os l i e = absurd (omega arith)
miscs_complete (suc n) from _ _ os l IsMany.none e =
    ap (λ b. cond b (option_and_then (λ (x : List (Tree Text) × List ℕ). miscs_from n x.1 (put_list x.0 os)) (r.misc from)) (Some (os, from))) e
miscs_complete (suc n) from rest _ os l (IsMany.more {mid = mid} {a = a} {others = others} first i) e =
    ap (λ b. cond b (option_and_then (λ (x : List (Tree Text) × List ℕ). miscs_from n x.1 (put_list x.0 os)) (r.misc from)) (Some (os, from))) (misc_goes_on from mid a first)
    ∙ ap (option_and_then (λ (x : List (Tree Text) × List ℕ). miscs_from n x.1 (put_list x.0 os))) (misc_exact.complete from mid a first)
    ∙ miscs_complete n mid rest others (put_list a os) (omega (arith, misc_strict from mid a first)) i e
    ∙ ap (λ z. Some (z, rest)) (sym (put_list-append a (d.appended others) os))

miscs_read : (from rest : List ℕ) (ts : List (Tree Text)) (os : Nodes) → d.miscs from rest ts → has_misc rest ≡ false → w.miscs from os ≡ Some (put_list ts os, rest)
unfolding d.miscs
miscs_read from rest ts os i e =
    miscs_complete (length from + 1) from i.mid i.part os (omega arith) i.first (ap has_misc i.second.0 ∙ e)
    ∙ ap (λ z. Some (put_list (d.appended i.part) os, z)) i.second.0 ∙ ap (λ z. Some (put_list z os, rest)) i.second.1

abbrev AreMiscs : Nodes → List ℕ → Nodes × List ℕ → Type 0
AreMiscs os from y = (ts : List (Tree Text)) × d.miscs from y.1 ts × (y.0 ≡ put_list ts os) × (has_misc y.1 ≡ false)

miscs_sound : (n : ℕ) (from : List ℕ) (os : Nodes) (y : Nodes × List ℕ) → miscs_from n from os ≡ Some y → AreMiscs os from y
unfolding miscs_from d.miscs
miscs_sound zero from os y e = cc
miscs_sound (suc n) from os y e = chosen (has_misc from) _ _ (Some y) (AreMiscs os from y) e
    (λ h k.
    let b = bound (λ (x : List (Tree Text) × List ℕ). miscs_from n x.1 (put_list x.0 os)) (r.misc from) y k in
    let i = miscs_sound n b.0.1 (put_list b.0.0 os) y b.2 in (
      b.0.0 ++ i.0,
      record { part = b.0.0 ∷ i.1.part; mid = i.1.mid; first = IsMany.more (misc_exact.sound from b.0 b.1) i.1.first; second = (i.1.second.0, ap (λ z. b.0.0 ++ z) i.1.second.1) },
      i.2 ∙ sym (put_list-append b.0.0 i.0 os),
      i.3,
    ))
    (λ h k.
    let P : Nodes × List ℕ → Type 0 = λ z. AreMiscs os from z in
    subst P (same_Some (os, from) y k) ([], record { part = []; mid = from; first = IsMany.none; second = (refl, refl) }, refl, h))

-- ---- what begins the parts

doctype_begins : (from rest : List ℕ) (c : ℕ) → p.doctype from rest c → (mid : List ℕ) × (from ≡ codes "<!DOCTYPE" ++ mid)
unfolding p.doctype
doctype_begins from rest c i = (i.first.first.mid, i.first.first.first)

doctype_no_misc : (from rest : List ℕ) (c : ℕ) → p.doctype from rest c → has_misc from ≡ false
doctype_no_misc from rest c i = let s = doctype_begins from rest c i in ap has_misc s.1

-- the root element begins with '<' and a byte of a name
root_begins : (from rest : List ℕ) (t : Tree Text) → d.root from rest t → (mid : List ℕ) × (from ≡ 60 ∷ mid) × (starts is_name_byte mid ≡ true)
root_begins from rest (Branch OfDocument f) i = absurd i
root_begins from rest (Branch (OfElement n as') f) (inl i) = start_begins from rest _ i.0
root_begins from rest (Branch (OfElement n as') f) (inr i) = start_begins from i.inside _ i.opened
root_begins from rest (Branch (OfAttribute n v) f) i = absurd i
root_begins from rest (Branch (OfText v) f) i = absurd i
root_begins from rest (Branch (OfComment v) f) i = absurd i
root_begins from rest (Branch (OfInstruction n v) f) i = absurd i

root_no_misc : (from rest : List ℕ) (t : Tree Text) → d.root from rest t → has_misc from ≡ false
root_no_misc from rest t i =
    let s = root_begins from rest t i in
    ap has_misc s.1
    ∙ ap (λ b. b || begins (codes "?") s.0) (not_begins is_name_byte 33 (codes "--") s.0 s.2 mark_no_name)
    ∙ not_begins is_name_byte 63 [] s.0 s.2 question_no_name

root_no_doctype : (from rest : List ℕ) (t : Tree Text) → d.root from rest t → begins (codes "<!DOCTYPE") from ≡ false
root_no_doctype from rest t i =
    let s = root_begins from rest t i in
    ap (begins (codes "<!DOCTYPE")) s.1 ∙ not_begins is_name_byte 33 (codes "DOCTYPE") s.0 s.2 mark_no_name

-- ---- an XML declaration begins nothing else

xml_text : (text rest : List ℕ) (e : Option Text) → p.declaration text rest e → (tail : List ℕ) × (text ≡ codes "<?xml" ++ tail) × (starts is_blank tail ≡ true)
unfolding p.declaration p.version
xml_text text rest e i = (i.first.mid, i.first.first, i.first.second.first.first.first.0)

blank_no_name : (c : ℕ) → is_blank c ≡ true → is_name_byte c ≡ false
unfolding is_name_byte is_name_char is_name_start
blank_no_name c e = by (nat_eq c 32) (nat_eq c 9) (nat_eq c 13) (nat_eq c 10) refl refl refl refl e
  where
    by : (a b g h : Bool) → nat_eq c 32 ≡ a → nat_eq c 9 ≡ b → nat_eq c 13 ≡ g → nat_eq c 10 ≡ h → ((a || b) || g) || h ≡ true → is_name_byte c ≡ false
    by true b g h ea eb eg eh k = ap is_name_byte (eqb-true c 32 ea)
    by false true g h ea eb eg eh k = ap is_name_byte (eqb-true c 9 eb)
    by false false true h ea eb eg eh k = ap is_name_byte (eqb-true c 13 eg)
    by false false false true ea eb eg eh k = ap is_name_byte (eqb-true c 10 eh)
    by false false false false ea eb eg eh k = cc

xml_run : (tail : List ℕ) → starts is_blank tail ≡ true → run is_name_byte (codes "xml" ++ tail) ≡ codes "xml"
unfolding is_name_byte is_name_char is_name_start
xml_run [] e = cc
xml_run (c ∷ cs) e = ap (λ b. 120 ∷ 109 ∷ 108 ∷ cond b (c ∷ run is_name_byte cs) []) (blank_no_name c e)

xml_is : is_xml (codes "xml") ≡ true
unfolding is_xml
xml_is = refl

no_misc_here : (text rest tail : List ℕ) (ts : List (Tree Text)) → text ≡ codes "<?xml" ++ tail → starts is_blank tail ≡ true → p.misc text rest ts → ⊥
unfolding p.misc m.instruction m.name
no_misc_here text rest tail ts w b (inl i) = true≢false (sym i.first.0 ∙ ap (starts is_blank) w)
no_misc_here text rest tail ts w b (inr (inl i)) = let s = comment_begins text i.mid i.part i.first in true≢false (sym (ap (begins (codes "<!--")) s.1) ∙ ap (begins (codes "<!--")) w)
no_misc_here text rest tail ts w b (inr (inr i)) =
    let target = i.first in
    let opened : codes "<?xml" ++ tail ≡ codes "<?" ++ target.first.mid = sym w ∙ target.first.first in
    let here : codes "xml" ++ tail ≡ target.first.mid = ap (drop 2) opened in
    let named = target.first.second in
    let found : run is_name_byte target.first.mid ≡ named.part = (run_again is_name_byte target.first.mid named.mid named.part named.first).0 in
    let same : target.part ≡ codes "xml" = sym (named.second.second.1) ∙ sym found ∙ ap (run is_name_byte) (sym here) ∙ xml_run tail b in
    true≢false (sym (target.second.first.first.1) ∙ ap not (ap is_xml same ∙ xml_is))

-- a text with an XML declaration isn't read without it
not_declared : (text rest a : List ℕ) (e : Option Text) (ts : List (Tree Text)) → p.declaration text rest e → d.miscs text a ts → begins (codes "<?xml") a ≡ false → ⊥
unfolding d.miscs
not_declared text rest a e ts i k f = by (xml_text text rest e i) k.first (ap (begins (codes "<?xml")) k.second.0 ∙ f)
  where
    by : (tail : List ℕ) × (text ≡ codes "<?xml" ++ tail) × (starts is_blank tail ≡ true) → {mid : List ℕ} {found : List (List (Tree Text))} → IsMany p.misc text mid found → begins (codes "<?xml") mid ≡ false → ⊥
    by x IsMany.none g = true≢false (sym (begins_front (codes "<?xml") x.0) ∙ sym (ap (begins (codes "<?xml")) x.1) ∙ g)
    by x (IsMany.more {mid = mid} {a = ts} first others) g = no_misc_here text mid x.0 ts x.1 x.2 first

doctype_no_xml : (from rest : List ℕ) (c : ℕ) → p.doctype from rest c → begins (codes "<?xml") from ≡ false
doctype_no_xml from rest c i = let s = doctype_begins from rest c i in ap (begins (codes "<?xml")) s.1

root_no_xml : (from rest : List ℕ) (t : Tree Text) → d.root from rest t → begins (codes "<?xml") from ≡ false
root_no_xml from rest t i =
    let s = root_begins from rest t i in
    ap (begins (codes "<?xml")) s.1 ∙ not_begins is_name_byte 63 (codes "xml") s.0 s.2 question_no_name

-- where the text is read, its head is
head_read : (text a b : List ℕ) (ts : List (Tree Text)) → d.head text a tt → d.miscs a b ts → begins (codes "<?xml") b ≡ false → (w.head text).1 ≡ a
unfolding d.head
head_read text a b ts (inl i) k f = ap (λ z. (w.declared z text).1) (declaration_exact.complete text i.mid i.part i.first) ∙ i.second.0
head_read text a b ts (inr i) k f = by (r.declaration text) refl
  where
    by : (o : Option (Option Text × List ℕ)) → r.declaration text ≡ o → (w.declared o text).1 ≡ a
    by None e = i.0
    by (Some x) e = absurd (not_declared text x.1 b x.0 ts (declaration_exact.sound text x e) (subst (λ z. d.miscs z b ts) (sym i.0) k) f)

head_sound : (text : List ℕ) → d.head text (w.head text).1 tt
unfolding d.head
head_sound text = by (r.declaration text) refl
  where
    by : (o : Option (Option Text × List ℕ)) → r.declaration text ≡ o → (p.declaration ▷ gives (tt {0}) or gives (tt {0})) text (w.declared o text).1 (tt {0})
    by None e = inr (refl, refl)
    by (Some x) e = inl (record { part = x.0; mid = x.1; first = declaration_exact.sound text x e; second = (refl, refl) })

-- ---- the prolog

typed_read : (from rest : List ℕ) (ts : List (Tree Text)) (os : Nodes) → d.typed from rest ts → has_misc rest ≡ false → begins (codes "<!DOCTYPE") rest ≡ false → w.typed from os ≡ Some (put_list ts os, rest)
unfolding d.typed
typed_read from rest ts os (inl i) e f =
    let s = doctype_begins from i.mid i.part i.first in
    ap (λ b. cond b (option_and_then (w.after_doctype os) (r.doctype from)) (Some (os, from))) (ap (begins (codes "<!DOCTYPE")) s.1 ∙ begins_front (codes "<!DOCTYPE") s.0)
    ∙ ap (option_and_then (w.after_doctype os)) (doctype_exact.complete from i.mid i.part i.first)
    ∙ ap (λ b. cond b (w.miscs i.mid os) None) i.second.first.1
    ∙ miscs_read i.mid rest ts os (subst (λ z. d.miscs z rest ts) (sym i.second.first.0) i.second.second) e
typed_read from rest ts os (inr i) e f =
    ap (λ b. cond b (option_and_then (w.after_doctype os) (r.doctype from)) (Some (os, from))) (ap (begins (codes "<!DOCTYPE")) i.0 ∙ f)
    ∙ ap (λ z. Some (os, z)) i.0 ∙ ap (λ z. Some (put_list z os, rest)) i.1

abbrev IsTyped : Nodes → List ℕ → Nodes × List ℕ → Type 0
IsTyped os from y = (ts : List (Tree Text)) × d.typed from y.1 ts × (y.0 ≡ put_list ts os)

typed_sound : (from : List ℕ) (os : Nodes) (y : Nodes × List ℕ) → w.typed from os ≡ Some y → IsTyped os from y
unfolding d.typed
typed_sound from os y e = chosen (begins (codes "<!DOCTYPE") from) _ _ (Some y) (IsTyped os from y) e
    (λ h k.
    let b = bound (w.after_doctype os) (r.doctype from) y k in
    chosen (nat_eq b.0.0 62) _ _ (Some y) (IsTyped os from y) b.2
    (λ g l.
    let i = miscs_sound (length b.0.1 + 1) b.0.1 os y l in
    (i.0, inl (record { part = b.0.0; mid = b.0.1; first = doctype_exact.sound from b.0 b.1; second = record { part = tt {0}; mid = b.0.1; first = (refl, g); second = i.1 } }), i.2))
    (λ g l. cc))
    (λ h k.
    let P : Nodes × List ℕ → Type 0 = λ z. IsTyped os from z in
    subst P (same_Some (os, from) y k) ([], inr (refl, refl), refl))

-- the open document with these children
abbrev pub document_with : List (Tree Text) → Nodes
document_with kids = record { label = OfDocument; done = kids } ∷ []

put_list_is : (ts done : List (Tree Text)) → put_list ts (document_with done) ≡ document_with (done ++ ts)
put_list_is [] done = ap document_with (sym (append-nil done))
put_list_is (t ∷ ts) done = put_list_is ts (done ++ t ∷ []) ∙ ap document_with (append_assoc done (t ∷ []) ts)

root_is_read : (from rest : List ℕ) (t : Tree Text) (os : Nodes) → d.root from rest t → w.root from os ≡ Some (put_node t os, rest)
root_is_read from rest (Branch OfDocument f) os i = absurd i
root_is_read from rest (Branch (OfElement n as') f) os i = root_read n as' f from rest os i
root_is_read from rest (Branch (OfAttribute n v) f) os i = absurd i
root_is_read from rest (Branch (OfText v) f) os i = absurd i
root_is_read from rest (Branch (OfComment v) f) os i = absurd i
root_is_read from rest (Branch (OfInstruction n v) f) os i = absurd i

ended : (x : Nodes × List ℕ) (os : Nodes) → at_end x ≡ Some os → (x.1 ≡ []) × (x.0 ≡ os)
ended (z, []) os e = (refl, same_Some z os e)
ended (z, c ∷ cs) os e = cc

regroup : (first second last : List (Tree Text)) (t : Tree Text) → ((first ++ second) ++ t ∷ []) ++ last ≡ first ++ (second ++ (t ∷ last))
regroup first second last t = append_assoc (first ++ second) (t ∷ []) last ∙ append_assoc first second (t ∷ last)

-- the children that the parts give
gathered : (first second last : List (Tree Text)) (t : Tree Text) → put_list last (put_node t (put_list second (put_list first w.new_document))) ≡ document_with (first ++ (second ++ (t ∷ last)))
gathered first second last t =
    ap (λ z. put_list last (put_node t (put_list second z))) (put_list_is first [])
    ∙ ap (λ z. put_list last (put_node t z)) (put_list_is second first)
    ∙ put_list_is last ((first ++ second) ++ t ∷ []) ∙ ap document_with (regroup first second last t)

abbrev typed_step : Nodes × List ℕ → Walked
typed_step x = w.typed x.1 x.0

abbrev root_step : Nodes × List ℕ → Walked
root_step x = w.root x.1 x.0

abbrev miscs_step : Nodes × List ℕ → Walked
miscs_step x = w.miscs x.1 x.0

-- before the part that may be a document type declaration neither a comment nor an instruction begins, nor an XML declaration
typed_no_misc : (from rest : List ℕ) (ts : List (Tree Text)) → d.typed from rest ts → has_misc rest ≡ false → has_misc from ≡ false
unfolding d.typed
typed_no_misc from rest ts (inl i) e = doctype_no_misc from i.mid i.part i.first
typed_no_misc from rest ts (inr i) e = ap has_misc i.0 ∙ e

typed_no_xml : (from rest : List ℕ) (ts : List (Tree Text)) → d.typed from rest ts → begins (codes "<?xml") rest ≡ false → begins (codes "<?xml") from ≡ false
unfolding d.typed
typed_no_xml from rest ts (inl i) e = doctype_no_xml from i.mid i.part i.first
typed_no_xml from rest ts (inr i) e = ap (begins (codes "<?xml")) i.0 ∙ e

-- what the grammar says of a document is read
pub document_complete : (text : List ℕ) (kids : List (Tree Text)) → d.document text [] kids → w.document text ≡ Some (document_with kids)
unfolding d.document w.document
document_complete text kids i =
    let t = i.second in
    let q = t.second in
    let l = q.second in
    let no_misc = root_no_misc t.mid q.mid q.part q.first in
    let headed = head_read text i.first.mid i.mid i.part i.first.first i.first.second (typed_no_xml i.mid t.mid t.part t.first (root_no_xml t.mid q.mid q.part q.first)) in
    let os1 : Nodes = put_list i.part w.new_document in
    let os2 : Nodes = put_list t.part os1 in
    let os3 : Nodes = put_node q.part os2 in
    let os4 : Nodes = put_list l.part os3 in
    let one : w.miscs (w.head text).1 w.new_document ≡ Some (os1, i.mid) =
    ap (λ z. w.miscs z w.new_document) headed ∙ miscs_read i.first.mid i.mid i.part w.new_document i.first.second (typed_no_misc i.mid t.mid t.part t.first no_misc) in
    let two : w.typed i.mid os1 ≡ Some (os2, t.mid) = typed_read i.mid t.mid t.part os1 t.first no_misc (root_no_doctype t.mid q.mid q.part q.first) in
    let three : w.root t.mid os2 ≡ Some (os3, q.mid) = root_is_read t.mid q.mid q.part os2 q.first in
    let four : w.miscs q.mid os3 ≡ Some (os4, l.mid) = miscs_read q.mid l.mid l.part os3 l.first (ap has_misc l.second.0) in
    ap (λ o. option_and_then at_end (option_and_then miscs_step (option_and_then root_step (option_and_then typed_step o)))) one
    ∙ ap (λ o. option_and_then at_end (option_and_then miscs_step (option_and_then root_step o))) two
    ∙ ap (λ o. option_and_then at_end (option_and_then miscs_step o)) three
    ∙ ap (option_and_then at_end) four
    ∙ ap (λ z. at_end (os4, z)) l.second.0
    ∙ ap Some (gathered i.part t.part l.part q.part ∙ ap document_with l.second.1)

-- and what is read is a document
pub document_sound : (text : List ℕ) (os : Nodes) → w.document text ≡ Some os → (kids : List (Tree Text)) × (os ≡ document_with kids) × d.document text [] kids
unfolding d.document w.document
document_sound text os e =
    let b4 = bound at_end (option_and_then miscs_step (option_and_then root_step (w.prolog text))) os e in
    let b3 = bound miscs_step (option_and_then root_step (w.prolog text)) b4.0 b4.1 in
    let b2 = bound root_step (w.prolog text) b3.0 b3.1 in
    let b1 = bound typed_step (w.miscs (w.head text).1 w.new_document) b2.0 b2.1 in
    let first = miscs_sound (length (w.head text).1 + 1) (w.head text).1 w.new_document b1.0 b1.1 in
    let second = typed_sound b1.0.1 b1.0.0 b2.0 b1.2 in
    let before : b2.0.0 ≡ document_with (first.0 ++ second.0) = second.2 ∙ ap (put_list second.0) (first.2 ∙ put_list_is first.0 []) ∙ put_list_is second.0 first.0 in
    let read : w.root b2.0.1 (document_with (first.0 ++ second.0)) ≡ Some b3.0 = ap (w.root b2.0.1) (sym before) ∙ b2.2 in
    let element = root_sound (record { label = OfDocument; done = first.0 ++ second.0 }) b2.0.1 b3.0 read in
    let node : Tree Text = Branch (OfElement element.name element.attributes) element.kids in
    let last = miscs_sound (length b3.0.1 + 1) b3.0.1 b3.0.0 b4.0 b3.2 in
    let shut = ended b4.0 os b4.2 in (
      first.0 ++ (second.0 ++ (node ∷ last.0)),
      sym shut.1 ∙ last.2 ∙ ap (put_list last.0) element.given ∙ put_list_is last.0 ((first.0 ++ second.0) ++ node ∷ []) ∙ ap document_with (regroup first.0 second.0 last.0 node),
      record {
        part = first.0;
        mid = b1.0.1;
        first = record { part = tt {0}; mid = (w.head text).1; first = head_sound text; second = first.1 };
        second = record {
          part = second.0;
          mid = b2.0.1;
          first = second.1;
          second = record {
            part = node;
            mid = b3.0.1;
            first = element.node;
            second = record { part = last.0; mid = b4.0.1; first = last.1; second = (shut.0, refl) };
          };
        };
      },
    )

-- ---- what isn't read

subset_sound : (text : List ℕ) → w.has_subset (w.miscs (w.head text).1 w.new_document) ≡ true → (rest : List ℕ) × d.subset text rest (tt {0})
unfolding d.subset
subset_sound text e = by (w.miscs (w.head text).1 w.new_document) refl e
  where
    Subset : Type 0
    Subset = (rest : List ℕ) × (d.head ▷ d.miscs ▷ p.doctype ▷= λ c. where_ (nat_eq c 91)) text rest (tt {0})

    inner : (x : Nodes × List ℕ) → w.miscs (w.head text).1 w.new_document ≡ Some x → (o : Option (ℕ × List ℕ)) → r.doctype x.1 ≡ o → w.comes_to_subset o ≡ true → Subset
    inner x f None g e = cc
    inner x f (Some y) g e =
        let i = miscs_sound (length (w.head text).1 + 1) (w.head text).1 w.new_document x f in (
          y.1,
          record {
            part = y.0;
            mid = y.1;
            first = record { part = i.0; mid = x.1; first = record { part = tt {0}; mid = (w.head text).1; first = head_sound text; second = i.1 }; second = doctype_exact.sound x.1 y g };
            second = (refl, e);
          },
        )

    by : (o : Walked) → w.miscs (w.head text).1 w.new_document ≡ o → w.has_subset o ≡ true → Subset
    by None f e = cc
    by (Some x) f e = inner x f (r.doctype x.1) refl e

subset_complete : (text rest : List ℕ) → d.subset text rest (tt {0}) → w.has_subset (w.miscs (w.head text).1 w.new_document) ≡ true
unfolding d.subset
subset_complete text rest i =
    let t = i.first in
    let hm = t.first in
    let headed = head_read text hm.mid t.mid t.part hm.first hm.second (doctype_no_xml t.mid i.mid i.part t.second) in
    ap w.has_subset (ap (λ z. w.miscs z w.new_document) headed ∙ miscs_read hm.mid t.mid t.part w.new_document hm.second (doctype_no_misc t.mid i.mid i.part t.second))
    ∙ ap w.comes_to_subset (doctype_exact.complete t.mid i.mid i.part t.second)
    ∙ i.second.1

pub unsupported_sound : (text : List ℕ) → w.is_unsupported text ≡ true → d.IsUnsupportedText text
unfolding w.is_unsupported
unsupported_sound text e = either (w.is_unknown (w.head text).0) refl e
  where
    named : (o : Option (Option Text × List ℕ)) → r.declaration text ≡ o → w.is_unknown (w.declared o text).0 ≡ true → d.IsUnsupportedText text
    named None f e = cc
    named (Some (None, rest)) f e = cc
    named (Some (Some encoding, rest)) f e = inl (rest, encoding, declaration_exact.sound text (Some encoding, rest) f, not_true (is_known_encoding encoding) e)
      where
        not_true : (b : Bool) → not b ≡ true → b ≡ false
        not_true true e = cc
        not_true false e = refl

    either : (b : Bool) → w.is_unknown (w.head text).0 ≡ b → b || w.has_subset (w.miscs (w.head text).1 w.new_document) ≡ true → d.IsUnsupportedText text
    either true f e = named (r.declaration text) refl f
    either false f e = inr (subset_sound text e)

or_true : (b : Bool) → b || true ≡ true
or_true true = refl
or_true false = refl

pub unsupported_complete : (text : List ℕ) → d.IsUnsupportedText text → w.is_unsupported text ≡ true
unfolding w.is_unsupported
unsupported_complete text (inl i) =
    ap (λ o. w.is_unknown (w.declared o text).0 || w.has_subset (w.miscs (w.head text).1 w.new_document)) (declaration_exact.complete text i.0 (Some i.1) i.2)
    ∙ ap (λ b. not b || w.has_subset (w.miscs (w.head text).1 w.new_document)) i.3
unsupported_complete text (inr i) =
    ap (λ b. w.is_unknown (w.head text).0 || b) (subset_complete text i.0 i.1) ∙ or_true (w.is_unknown (w.head text).0)

-- ---- one tree

same_children : (ks ls : List (Tree Text)) → document_with ks ≡ document_with ls → ks ≡ ls
same_children ks ls e = ap children e
  where
    children : Nodes → List (Tree Text)
    children [] = []
    children (o ∷ os) = o.done

-- bytes have at most one tree
pub one_tree : (bytes : List ℕ) (t u : Tree Text) → d.IsDocument bytes t → d.IsDocument bytes u → t ≡ u
one_tree bytes t u i j =
    let same = same_children i.0 j.0 (same_Some _ _ (sym (document_complete (d.text_of bytes) i.0 i.2) ∙ document_complete (d.text_of bytes) j.0 j.2)) in
    i.1 ∙ ap (λ (ks : List (Tree Text)). Branch OfDocument (forest_of ks)) same ∙ sym j.1
