-- The prolog in the builder, step by step.
use Rattle.std.proofs.Common.{◌≡◌, ℕ, ◌+◌, ◌<◌, ◌≤◌, true, false, ◌||◌, cond, nat_eq, List, [], ◌∷◌, length, Option, Some, None, is_some, option_and_then, ◌⊎◌, inl, inr, refl, sym, ap, ◌∙◌, subst, arith, codes, true≢false}
use Rattle.xq_base.specs.declared.item.TextId.{TextId}
use Rattle.doc_table.specs.Tree.{OfDocument}
use Rattle.doc_table.specs.Spine.{Spine, rows_in, opened, empty_spine}
use Rattle.doc_shred.specs.Rules.{begins}
use Rattle.doc_shred.specs.Parsers.{strip}
use Rattle.doc_shred.specs.Content.{Text}
use Rattle.doc_shred.specs.declared.fault.Fault.{Fault}
use Rattle.doc_shred.specs.declared.fault.Fault.TheVariants.{Memory, Malformed}
use Rattle.doc_shred.specs.declared.refusal.ShredFault.{ShredFault}
use Rattle.doc_shred.specs.declared.refusal.ShredFault.TheVariants.{NotWellFormed, Unsupported, TooDeep, NoMemory}
use Rattle.doc_shred.specs.Reading as r
use Rattle.doc_shred.specs.Walk as w
use Rattle.doc_shred.specs.Standing.{Texts, seen, IsLater, IsState, MiscsRead, NoMiscs, RootRead, NoRoot}
use Rattle.doc_shred.specs.Refusals.{refusal_of, TypeRead, TypeRefused, PrologRead, PrologRefused, DocumentRead, DocumentRefused}
use Rattle.doc_shred.proofs.Prologs.{declaration_exact, declaration_narrow, doctype_exact, closing_of_doctype, doctype_strict}
use Rattle.doc_shred.proofs.Runs.{begins_by}
use Rattle.doc_shred.proofs.Spines.{later_self, later_later}

-- ---- document type declarations

none_stripped : (w from : List ℕ) → begins w from ≡ false → strip w from ≡ None
none_stripped w from e = by (strip w from) refl (begins_by w from)
  where
    by : (o : Option (Unit {0} × List ℕ)) → strip w from ≡ o → is_some (strip w from) ≡ begins w from → strip w from ≡ None
    by None f g = f
    by (Some x) f g = absurd (true≢false (sym (ap is_some f) ∙ g ∙ e))

no_doctype : (bytes : List ℕ) → begins (codes "<!DOCTYPE") bytes ≡ false → r.doctype bytes ≡ None
unfolding r.doctype
no_doctype bytes e = rw (none_stripped (codes "<!DOCTYPE") bytes e) refl

pub untyped : (texts : Texts) (s : Spine TextId) (bytes : List ℕ) → IsState [] s → begins (codes "<!DOCTYPE") bytes ≡ false → TypeRead texts s s bytes bytes
untyped texts s bytes i e = record {
  state = i;
  room = omega arith;
  fewer = omega arith;
  plain = ap w.comes_to_subset (no_doctype bytes e);
  reads = λ final k. ap (λ b. cond b (option_and_then (w.after_doctype (seen final s)) (r.doctype bytes)) (Some (seen final s, bytes))) e;
}

module _ (texts : Texts) (s : Spine TextId) (bytes : List ℕ) (e : begins (codes "<!DOCTYPE") bytes ≡ true) where
  typed_by : (final : Texts) → w.typed bytes (seen final s) ≡ option_and_then (w.after_doctype (seen final s)) (r.doctype bytes)
  typed_by final = ap (λ b. cond b (option_and_then (w.after_doctype (seen final s)) (r.doctype bytes)) (Some (seen final s, bytes))) e

  pub doctype_malformed : r.doctype bytes ≡ None → TypeRefused texts s bytes NotWellFormed
  doctype_malformed f = (ap w.comes_to_subset f, λ final k. typed_by final ∙ ap (option_and_then (w.after_doctype (seen final s))) f)

  module _ (c : ℕ) (rest : List ℕ) (f : r.doctype bytes ≡ Some (c, rest)) where
    pub doctype_subset : nat_eq c 91 ≡ true → TypeRefused texts s bytes Unsupported
    doctype_subset g = ap w.comes_to_subset f ∙ g

    module _ (g : nat_eq c 91 ≡ false) where
      shuts : nat_eq c 62 ≡ true
      shuts = either (closing_of_doctype bytes rest c (doctype_exact.sound bytes (c, rest) f)) g
        where
          either : (c ≡ 62) ⊎ (c ≡ 91) → nat_eq c 91 ≡ false → nat_eq c 62 ≡ true
          either (inl h) k = ap (λ z. nat_eq z 62) h
          either (inr h) k = absurd (true≢false (sym (ap (λ z. nat_eq z 91) h) ∙ k))

      after : (final : Texts) → w.typed bytes (seen final s) ≡ w.miscs rest (seen final s)
      after final = typed_by final ∙ ap (option_and_then (w.after_doctype (seen final s))) f ∙ ap (λ b. cond b (w.miscs rest (seen final s)) None) shuts

      shorter : length rest ≤ length bytes
      shorter = omega (arith, doctype_strict bytes rest c (doctype_exact.sound bytes (c, rest) f))

      pub doctype_room : (limit : ℕ) → rows_in s + length bytes + 2 < limit → rows_in s + length rest + 2 < limit
      doctype_room limit h = omega (arith, shorter)

      pub doctype_read : (later : Texts) (new : Spine TextId) (last : List ℕ) → MiscsRead later s new rest last → TypeRead later s new bytes last
      doctype_read later new last m = record {
        state = m.state;
        room = omega (arith, m.room, shorter);
        fewer = omega (arith, m.fewer, shorter);
        plain = ap w.comes_to_subset f ∙ g;
        reads = λ final k. after final ∙ m.reads final k;
      }

      pub doctype_refused : (later : Texts) (error : Fault) → (error ≡ Malformed → NoMiscs later s rest) → TypeRefused later s bytes (refusal_of error)
      doctype_refused later Memory h = tt
      doctype_refused later Malformed h = (ap w.comes_to_subset f ∙ g, λ final k. after final ∙ h refl final k)

-- ---- the prolog

pub new_state : (s : Spine TextId) → s ≡ opened OfDocument empty_spine → IsState [] s × (rows_in s ≡ 1) × ((final : Texts) → seen final s ≡ w.new_document)
new_state s e = (subst (IsState []) (sym e) (record { root = refl; depth = refl; tags = refl }), ap rows_in e, λ final. ap (seen final) e)

head_narrow : (text : List ℕ) → length (w.head text).1 ≤ length text
head_narrow text = by (r.declaration text) refl
  where
    by : (o : Option (Option Text × List ℕ)) → r.declaration text ≡ o → length (w.declared o text).1 ≤ length text
    by None e = omega arith
    by (Some x) e = omega (arith, declaration_narrow text x.1 x.0 (declaration_exact.sound text x e))

pub head_room : (text : List ℕ) (s : Spine TextId) → s ≡ opened OfDocument empty_spine → (limit : ℕ) → length text + 3 < limit → rows_in s + length (w.head text).1 + 2 < limit
head_room text s fresh limit h = omega (arith, head_narrow text, (new_state s fresh).1)

pub unknown_refused : (text : List ℕ) → w.is_unknown (w.head text).0 ≡ true → w.is_unsupported text ≡ true
unfolding w.is_unsupported
unknown_refused text e = ap (λ b. b || w.has_subset (w.miscs (w.head text).1 w.new_document)) e

-- what is known once the declaration was read
known : (text : List ℕ) → w.is_unknown (w.head text).0 ≡ false → w.is_unsupported text ≡ w.has_subset (w.miscs (w.head text).1 w.new_document)
unfolding w.is_unsupported
known text e = ap (λ b. b || w.has_subset (w.miscs (w.head text).1 w.new_document)) e

module _ (text : List ℕ) (s : Spine TextId) (fresh : s ≡ opened OfDocument empty_spine) (e : w.is_unknown (w.head text).0 ≡ false) where
  pub miscs_refused : (texts : Texts) (error : Fault) → (error ≡ Malformed → NoMiscs texts s (w.head text).1) → PrologRefused text (refusal_of error)
  miscs_refused texts Memory h = tt
  miscs_refused texts Malformed h =
      let none : w.miscs (w.head text).1 w.new_document ≡ None = ap (w.miscs (w.head text).1) (sym ((new_state s fresh).2 texts)) ∙ h refl texts (later_self texts) in
      (known text e ∙ ap w.has_subset none, ap (option_and_then (λ (x : w.Nodes × List ℕ). w.typed x.1 x.0)) none)

  module _ (texts : Texts) (mid : Spine TextId) (rest : List ℕ) (m : MiscsRead texts s mid (w.head text).1 rest) where
    found : (final : Texts) → IsLater texts final → w.miscs (w.head text).1 w.new_document ≡ Some (seen final mid, rest)
    found final k = ap (w.miscs (w.head text).1) (sym ((new_state s fresh).2 final)) ∙ m.reads final k

    subset_is : w.is_unsupported text ≡ w.comes_to_subset (r.doctype rest)
    subset_is = known text e ∙ ap w.has_subset (found texts (later_self texts))

    pub typed_room : (limit : ℕ) → length text + 3 < limit → rows_in mid + length rest + 2 < limit
    typed_room limit h = omega (arith, m.room, head_narrow text, (new_state s fresh).1)

    pub prolog_read : (later : Texts) (new : Spine TextId) (last : List ℕ) → IsLater texts later → TypeRead later mid new rest last → PrologRead later new text last
    prolog_read later new last k t = record {
      state = t.state;
      room = omega (arith, t.room, m.room, head_narrow text, (new_state s fresh).1);
      plain = subset_is ∙ t.plain;
      reads = λ final l.
          ap (option_and_then (λ (x : w.Nodes × List ℕ). w.typed x.1 x.0)) (found final (later_later texts later final k l)) ∙ t.reads final l;
    }

    pub prolog_refused : (later : Texts) (fault : ShredFault) → IsLater texts later → TypeRefused later mid rest fault → PrologRefused text fault
    prolog_refused later NotWellFormed k t =
        (subset_is ∙ t.0, ap (option_and_then (λ (x : w.Nodes × List ℕ). w.typed x.1 x.0)) (found later k) ∙ t.1 later (later_self later))
    prolog_refused later Unsupported k t = subset_is ∙ t
    prolog_refused later TooDeep k t = t
    prolog_refused later NoMemory k t = tt

-- ---- the root element, and what follows it

pub empty_list : (xs : List ℕ) → length xs ≡ 0 → xs ≡ []
empty_list [] e = refl
empty_list (x ∷ xs) e = absurd (omega arith)

pub filled_list : (xs : List ℕ) → 0 < length xs → xs ≡ [] → ⊥
filled_list [] l e = omega arith
filled_list (x ∷ xs) l e = cc

-- the steps after the prolog
last_of : Option (w.Nodes × List ℕ) → Option w.Nodes
last_of o = option_and_then w.at_end o

miscs_of : w.Walked → w.Walked
miscs_of o = option_and_then (λ (x : w.Nodes × List ℕ). w.miscs x.1 x.0) o

roots_of : w.Walked → w.Walked
roots_of o = option_and_then (λ (x : w.Nodes × List ℕ). w.root x.1 x.0) o

steps : (text : List ℕ) → w.document text ≡ last_of (miscs_of (roots_of (w.prolog text)))
unfolding w.document last_of miscs_of roots_of
steps text = refl

last_is : (os : w.Nodes) (bytes : List ℕ) → bytes ≡ [] → last_of (Some (os, bytes)) ≡ Some os
unfolding last_of
last_is os bytes e = ap (λ z. w.at_end (os, z)) e

last_none : (os : w.Nodes) (bytes : List ℕ) → (bytes ≡ [] → ⊥) → last_of (Some (os, bytes)) ≡ None
unfolding last_of
last_none os [] h = absurd (h refl)
last_none os (c ∷ cs) h = refl

miscs_is : (os : w.Nodes) (bytes : List ℕ) → miscs_of (Some (os, bytes)) ≡ w.miscs bytes os
unfolding miscs_of
miscs_is os bytes = refl

roots_is : (os : w.Nodes) (bytes : List ℕ) → roots_of (Some (os, bytes)) ≡ w.root bytes os
unfolding roots_of
roots_is os bytes = refl

nothing_left : last_of (miscs_of None) ≡ None
unfolding last_of miscs_of
nothing_left = refl

nothing_last : last_of None ≡ None
unfolding last_of
nothing_last = refl

nothing_read : last_of (miscs_of (roots_of None)) ≡ None
unfolding last_of miscs_of roots_of
nothing_read = refl

pub no_prolog : (text : List ℕ) (fault : ShredFault) → PrologRefused text fault → DocumentRefused text fault
no_prolog text NotWellFormed p = (p.0, steps text ∙ ap (λ o. last_of (miscs_of (roots_of o))) p.1 ∙ nothing_read)
no_prolog text Unsupported p = p
no_prolog text TooDeep p = p
no_prolog text NoMemory p = tt

module _ (text : List ℕ) (texts : Texts) (one : Spine TextId) (a : List ℕ) (p : PrologRead texts one text a) where
  pub root_has_room : (limit : ℕ) → length text + 3 < limit → rows_in one + length a + 2 < limit
  root_has_room limit h = omega (arith, p.room)

  rooted : (final : Texts) → IsLater texts final → w.document text ≡ last_of (miscs_of (w.root a (seen final one)))
  rooted final k = steps text ∙ ap (λ o. last_of (miscs_of (roots_of o))) (p.reads final k) ∙ ap (λ o. last_of (miscs_of o)) (roots_is (seen final one) a)

  pub no_root : (later : Texts) (error : Fault) → IsLater texts later → (error ≡ Malformed → NoRoot later one a) → DocumentRefused text (refusal_of error)
  no_root later Memory k h = tt
  no_root later Malformed k h = (p.plain, rooted later k ∙ ap (λ o. last_of (miscs_of o)) (h refl later (later_self later)) ∙ nothing_left)

  module _ (second : Texts) (two : Spine TextId) (b : List ℕ) (k : IsLater texts second) (q : RootRead second one two a b) where
    pub last_has_room : (limit : ℕ) → length text + 3 < limit → rows_in two + length b + 2 < limit
    last_has_room limit h = omega (arith, p.room, q.room)

    followed : (final : Texts) → IsLater second final → w.document text ≡ last_of (w.miscs b (seen final two))
    followed final l =
        rooted final (later_later texts second final k l) ∙ ap (λ o. last_of (miscs_of o)) (q.reads final l) ∙ ap last_of (miscs_is (seen final two) b)

    pub no_last : (later : Texts) (error : Fault) → IsLater second later → (error ≡ Malformed → NoMiscs later two b) → DocumentRefused text (refusal_of error)
    no_last later Memory l h = tt
    no_last later Malformed l h = (p.plain, followed later l ∙ ap last_of (h refl later (later_self later)) ∙ nothing_last)

    module _ (third : Texts) (three : Spine TextId) (c : List ℕ) (l : IsLater second third) (m : MiscsRead third two three b c) where
      pub something_left : (c ≡ [] → ⊥) → DocumentRefused text NotWellFormed
      something_left h = (p.plain, followed third l ∙ ap last_of (m.reads third (later_self third)) ∙ last_none (seen third three) c h)

      pub document_read : c ≡ [] → DocumentRead third three text
      document_read h = record {
        state = m.state;
        plain = p.plain;
        reads = λ final n. followed final (later_later second third final l n) ∙ ap last_of (m.reads final n) ∙ last_is (seen final three) c h;
      }
