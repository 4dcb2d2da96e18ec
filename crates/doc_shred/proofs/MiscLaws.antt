-- What stands before and after the root element, and the root element, in the builder.
use Rattle.std.proofs.Common.{◌≡◌, ℕ, suc, ◌+◌, ◌-◌, ◌<◌, ◌≤◌, true, false, cond, List, [], ◌∷◌, length, Some, None, option_and_then, refl, sym, ap, ◌∙◌, subst, arith, codes}
use Rattle.xq_base.specs.declared.item.TextId.{TextId}
use Rattle.doc_table.specs.Tree.{Tree, Branch, OfComment, OfInstruction, no_more}
use Rattle.doc_table.specs.Spine.{Spine, rows_in, text_last}
use Rattle.doc_shred.specs.Rules.{starts, begins}
use Rattle.doc_shred.specs.Parsers.{run, after_run}
use Rattle.doc_shred.specs.Classes.{is_blank}
use Rattle.doc_shred.specs.Content.{Text}
use Rattle.doc_shred.specs.Markup.{Tag}
use Rattle.doc_shred.specs.Reading as r
use Rattle.doc_shred.specs.Walk as w
use Rattle.doc_shred.specs.Walk.{Nodes, Walk, put_list, has_misc, miscs_from, content, step}
use Rattle.doc_shred.specs.Standing.{Texts, seen, IsLater, IsState, Walked, Starts, CommentAdded, InstructionAdded, Passed, ContentRead, NoContent, MiscAdded, MiscsRead, NoMiscs, RootRead, NoRoot}
use Rattle.doc_shred.proofs.Exact.{some_of_exact, some_of_strict}
use Rattle.doc_shred.proofs.Lexical.{comment_exact, instruction_exact}
use Rattle.doc_shred.proofs.PieceLaws.{comment_strict, instruction_strict}
use Rattle.doc_shred.proofs.Spines.{later_self, later_later, leaf_grown, comment_seen, instruction_seen}
use Rattle.doc_shred.proofs.Passes.{some_open, leaf_state, start_passed}

-- ---- one part

misc_space : (bytes : List ℕ) → starts is_blank bytes ≡ true → r.misc bytes ≡ Some ([], after_run is_blank bytes)
unfolding r.misc
misc_space bytes e = rw e refl

misc_comment : (bytes : List ℕ) → starts is_blank bytes ≡ false → begins (codes "<!--") bytes ≡ true → r.misc bytes ≡ option_and_then (λ (x : Text × List ℕ). Some (Branch (OfComment x.0) no_more ∷ [], x.1)) (r.comment bytes)
unfolding r.misc
misc_comment bytes e f = rw e (rw f refl)

misc_instruction : (bytes : List ℕ) → starts is_blank bytes ≡ false → begins (codes "<!--") bytes ≡ false → r.misc bytes ≡ option_and_then (λ (x : (Text × Text) × List ℕ). Some (Branch (OfInstruction x.0.0 x.0.1) no_more ∷ [], x.1)) (r.instruction bytes)
unfolding r.misc
misc_instruction bytes e f = rw e (rw f refl)

pub space_added : (texts : Texts) (old : Spine TextId) (bytes rest : List ℕ) → IsState [] old → starts is_blank bytes ≡ true → rest ≡ after_run is_blank bytes → MiscAdded texts old old bytes rest
space_added texts old bytes rest i e f =
    let shorter : length (after_run is_blank bytes) < length bytes = some_of_strict is_blank bytes (after_run is_blank bytes) (run is_blank bytes)
    ((some_of_exact is_blank).sound bytes (run is_blank bytes, after_run is_blank bytes) (ap (λ b. cond b (Some (run is_blank bytes, after_run is_blank bytes)) None) e)) in
    record {
      state = i;
      room = omega (arith, shorter, ap length f);
      fewer = omega (arith, shorter, ap length f);
      read = [];
      found = misc_space bytes e ∙ ap (λ z. Some ([], z)) (sym f);
      added = λ final k. refl;
    }

module _ (texts : Texts) (old new : Spine TextId) (bytes rest : List ℕ) (i : IsState [] old) (e : starts is_blank bytes ≡ false) where
  pub comment_misc : begins (codes "<!--") bytes ≡ true → CommentAdded texts old new bytes rest → MiscAdded texts old new bytes rest
  comment_misc f a =
      let shorter = comment_strict bytes rest a.read (comment_exact.sound bytes (a.read, rest) a.found) in
      let g = leaf_grown (OfComment a.value) old (some_open [] old i) i.root in
      record {
        state = subst (IsState []) (sym a.added) (leaf_state [] (OfComment a.value) old i);
        room = omega (arith, ap rows_in a.added, g.rows, shorter);
        fewer = shorter;
        read = Branch (OfComment a.read) no_more ∷ [];
        found = misc_comment bytes e f ∙ ap (option_and_then (λ (x : Text × List ℕ). Some (Branch (OfComment x.0) no_more ∷ [], x.1))) a.found;
        added = λ final k. comment_seen texts final old new a.value a.read a.added a.valued k;
      }

  pub instruction_misc : begins (codes "<!--") bytes ≡ false → InstructionAdded texts old new bytes rest → MiscAdded texts old new bytes rest
  instruction_misc f a =
      let shorter = instruction_strict bytes rest a.read (instruction_exact.sound bytes (a.read, rest) a.found) in
      let g = leaf_grown (OfInstruction a.name a.value) old (some_open [] old i) i.root in
      record {
        state = subst (IsState []) (sym a.added) (leaf_state [] (OfInstruction a.name a.value) old i);
        room = omega (arith, ap rows_in a.added, g.rows, shorter);
        fewer = shorter;
        read = Branch (OfInstruction a.read.0 a.read.1) no_more ∷ [];
        found = misc_instruction bytes e f ∙ ap (option_and_then (λ (x : (Text × Text) × List ℕ). Some (Branch (OfInstruction x.0.0 x.0.1) no_more ∷ [], x.1))) a.found;
        added = λ final k. instruction_seen texts texts final old new a.name a.value a.read.0 a.read.1 a.added a.named (later_self texts) a.valued k;
      }

pub no_comment : (bytes : List ℕ) → starts is_blank bytes ≡ false → begins (codes "<!--") bytes ≡ true → r.comment bytes ≡ None → r.misc bytes ≡ None
no_comment bytes e f g = misc_comment bytes e f ∙ ap (option_and_then (λ (x : Text × List ℕ). Some (Branch (OfComment x.0) no_more ∷ [], x.1))) g

pub no_instruction : (bytes : List ℕ) → starts is_blank bytes ≡ false → begins (codes "<!--") bytes ≡ false → r.instruction bytes ≡ None → r.misc bytes ≡ None
no_instruction bytes e f g = misc_instruction bytes e f ∙ ap (option_and_then (λ (x : (Text × Text) × List ℕ). Some (Branch (OfInstruction x.0.0 x.0.1) no_more ∷ [], x.1))) g

-- ---- the loop

pub record IsAmong (before texts : Texts) (old now : Spine TextId) (turns : ℕ) (bytes rest : List ℕ) : Type 0 where
  pub later : IsLater before texts
  pub state : IsState [] now
  pub room : rows_in now + length rest ≤ rows_in old + length bytes
  pub fewer : length rest ≤ length bytes
  pub reads : (final : Texts) → IsLater texts final → miscs_from turns rest (seen final now) ≡ miscs_from (length bytes + 1) bytes (seen final old)

pub among_begins : (texts : Texts) (old : Spine TextId) (bytes : List ℕ) → IsState [] old → IsAmong texts texts old old (length bytes + 1 - 0) bytes bytes
among_begins texts old bytes i = record {
  later = later_self texts;
  state = i;
  room = omega arith;
  fewer = omega arith;
  reads = λ final k. let n : length bytes + 1 - 0 ≡ length bytes + 1 = omega arith in ap (λ z. miscs_from z bytes (seen final old)) n;
}

misc_turn : (n : ℕ) (from : List ℕ) (os : Nodes) → has_misc from ≡ true → miscs_from (suc n) from os ≡ option_and_then (λ (x : List (Tree Text) × List ℕ). miscs_from n x.1 (put_list x.0 os)) (r.misc from)
unfolding miscs_from
misc_turn n from os e = ap (λ b. cond b (option_and_then (λ (x : List (Tree Text) × List ℕ). miscs_from n x.1 (put_list x.0 os)) (r.misc from)) (Some (os, from))) e

misc_end : (n : ℕ) (from : List ℕ) (os : Nodes) → has_misc from ≡ false → miscs_from (suc n) from os ≡ Some (os, from)
unfolding miscs_from
misc_end n from os e = ap (λ b. cond b (option_and_then (λ (x : List (Tree Text) × List ℕ). miscs_from n x.1 (put_list x.0 os)) (r.misc from)) (Some (os, from))) e

misc_none : (from : List ℕ) (os : Nodes) → miscs_from 0 from os ≡ None
unfolding miscs_from
misc_none from os = refl

module _ (before texts : Texts) (old now : Spine TextId) (m i : ℕ) (bytes rest : List ℕ) (turns : i < m) (s : IsAmong before texts old now (m - i) bytes rest) where
  among_left : m - i ≡ suc (m - (i + 1))
  among_left = omega arith

  pub among_goes_on : (later : Texts) (new : Spine TextId) (last : List ℕ) → has_misc rest ≡ true → IsLater texts later → MiscAdded later now new rest last → IsAmong before later old new (m - (i + 1)) bytes last
  among_goes_on later new last e k a = record {
    later = later_later before texts later s.later k;
    state = a.state;
    room = omega (arith, a.room, s.room);
    fewer = omega (arith, a.fewer, s.fewer);
    reads = λ final l.
        ap (miscs_from (m - (i + 1)) last) (a.added final l)
        ∙ ap (option_and_then (λ (x : List (Tree Text) × List ℕ). miscs_from (m - (i + 1)) x.1 (put_list x.0 (seen final now)))) (sym a.found)
        ∙ sym (misc_turn (m - (i + 1)) rest (seen final now) e)
        ∙ ap (λ z. miscs_from z rest (seen final now)) (sym among_left) ∙ s.reads final (later_later texts later final k l);
  }

  pub among_refused : (later : Texts) → has_misc rest ≡ true → IsLater texts later → r.misc rest ≡ None → NoMiscs later old bytes
  among_refused later e k f final l =
      sym (s.reads final (later_later texts later final k l)) ∙ ap (λ z. miscs_from z rest (seen final now)) among_left
      ∙ misc_turn (m - (i + 1)) rest (seen final now) e ∙ ap (option_and_then (λ (x : List (Tree Text) × List ℕ). miscs_from (m - (i + 1)) x.1 (put_list x.0 (seen final now)))) f

  pub among_ends : has_misc rest ≡ false → MiscsRead texts old now bytes rest
  among_ends e = record {
    state = s.state;
    room = s.room;
    fewer = s.fewer;
    reads = λ final k. sym (s.reads final k) ∙ ap (λ z. miscs_from z rest (seen final now)) among_left ∙ misc_end (m - (i + 1)) rest (seen final now) e;
  }

pub among_no_turn : (before texts : Texts) (old now : Spine TextId) (m i : ℕ) (bytes rest : List ℕ) → m ≤ i → IsAmong before texts old now (m - i) bytes rest → NoMiscs texts old bytes
among_no_turn before texts old now m i bytes rest l s final k =
    let none : m - i ≡ 0 = omega arith in
    sym (s.reads final k) ∙ ap (λ z. miscs_from z rest (seen final now)) none ∙ misc_none rest (seen final now)

-- ---- the root element

module _ (texts : Texts) (names : List Text) (old mid : Spine TextId) (bytes rest : List ℕ) (i : IsState [] old) (a : Walked (Starts bytes rest [] names old mid) texts [] names old mid) where
  begun : Passed w.marked texts [] names old mid bytes rest
  begun = start_passed texts [] names old mid bytes rest i a

  pub root_state : IsState names mid
  root_state = begun.state

  pub root_room : rows_in mid + length rest ≤ rows_in old + length bytes
  root_room = begun.room

  pub root_calm : text_last mid.nodes ≡ false
  root_calm = a.calm

  root_reads : (final : Texts) → IsLater texts final → w.root bytes (seen final old) ≡ content (length rest + 1) rest names (seen final mid)
  root_reads final k =
      let g = a.goes final k (content (length rest + 1) rest) in
      ap (option_and_then (λ (x : Tag × List ℕ). step (w.starts x.0) (content (length x.1 + 1) x.1) [] (seen final old))) g.1 ∙ g.2

  pub root_found : (later : Texts) (new : Spine TextId) (last : List ℕ) → IsLater texts later → ContentRead later names mid new rest last → RootRead later old new bytes last
  root_found later new last k c = record {
    state = c.state;
    room = omega (arith, c.room, begun.room);
    fewer = omega (arith, c.fewer, begun.fewer);
    reads = λ final l. root_reads final (later_later texts later final k l) ∙ c.reads final l;
  }

  pub root_refused : (later : Texts) → IsLater texts later → NoContent later names mid rest → NoRoot later old bytes
  root_refused later k c final l = root_reads final (later_later texts later final k l) ∙ c final l

pub root_no_start : (texts : Texts) (old : Spine TextId) (bytes : List ℕ) → r.start bytes ≡ None → NoRoot texts old bytes
root_no_start texts old bytes e final k = ap (option_and_then (λ (x : Tag × List ℕ). step (w.starts x.0) (content (length x.1 + 1) x.1) [] (seen final old))) e
