-- The loop over content, turn by turn.
use Rattle.std.proofs.Common.{◌≡◌, ℕ, suc, ◌+◌, ◌-◌, ◌<◌, ◌≤◌, false, List, [], ◌∷◌, length, Some, None, refl, sym, ap, ◌∙◌, subst, arith}
use Rattle.xq_base.specs.declared.item.TextId.{TextId}
use Rattle.doc_table.specs.Spine.{Spine, rows_in, text_last}
use Rattle.doc_shred.specs.Content.{Text}
use Rattle.doc_shred.specs.Walk.{Nodes, texted, content}
use Rattle.doc_shred.specs.Standing.{Texts, seen, IsLater, IsState, Passed, IsMalformed, ContentRead, NoContent}
use Rattle.doc_shred.proofs.Spines.{later_self, later_later}

-- so far: reading on gives what reading from the start gives
pub record IsWalking (before texts : Texts) (names here : List Text) (old now : Spine TextId) (turns : ℕ) (bytes rest : List ℕ) : Type 0 where
  pub later : IsLater before texts
  pub state : IsState here now
  pub room : rows_in now + length rest ≤ rows_in old + length bytes
  pub fewer : length rest ≤ length bytes
  pub calm : text_last now.nodes ≡ false
  pub reads : (final : Texts) → IsLater texts final → content turns rest here (seen final now) ≡ content (length bytes + 1) bytes names (seen final old)

pub walk_begins : (texts : Texts) (names : List Text) (old : Spine TextId) (bytes : List ℕ) → IsState names old → text_last old.nodes ≡ false → IsWalking texts texts names names old old (length bytes + 1 - 0) bytes bytes
walk_begins texts names old bytes i e = record {
  later = later_self texts;
  state = i;
  room = omega arith;
  fewer = omega arith;
  calm = e;
  reads = λ final k. let n : length bytes + 1 - 0 ≡ length bytes + 1 = omega arith in ap (λ z. content z bytes names (seen final old)) n;
}

-- with an element open, a turn is left
one_turn : (n : ℕ) (from : List ℕ) (names : List Text) (os : Nodes) → (names ≡ [] → ⊥) → content (suc n) from names os ≡ texted (content n) from names os
unfolding content
one_turn n from [] os h = absurd (h refl)
one_turn n from (m ∷ ms) os h = refl

no_names : (n : ℕ) (from : List ℕ) (os : Nodes) → content (suc n) from [] os ≡ Some (os, from)
unfolding content
no_names n from os = refl

no_turns : (from : List ℕ) (names : List Text) (os : Nodes) → content 0 from names os ≡ None
unfolding content
no_turns from names os = refl

module _ (before texts : Texts) (names here : List Text) (old now : Spine TextId) (m i : ℕ) (bytes rest : List ℕ) (turns : i < m) (s : IsWalking before texts names here old now (m - i) bytes rest) where
  walk_left : m - i ≡ suc (m - (i + 1))
  walk_left = omega arith

  pub walk_goes_on : (later : Texts) (after : List Text) (new : Spine TextId) (last : List ℕ) → (here ≡ [] → ⊥) → IsLater texts later → Passed texted later here after now new rest last
      → IsWalking before later names after old new (m - (i + 1)) bytes last
  walk_goes_on later after new last h k p = record {
    later = later_later before texts later s.later k;
    state = p.state;
    room = omega (arith, p.room, s.room);
    fewer = omega (arith, p.fewer, s.fewer);
    calm = p.calm;
    reads = λ final l.
        sym (p.goes final l (content (m - (i + 1)))) ∙ sym (one_turn (m - (i + 1)) rest here (seen final now) h)
        ∙ ap (λ z. content z rest here (seen final now)) (sym walk_left) ∙ s.reads final (later_later texts later final k l);
  }

  pub walk_refused : (later : Texts) → (here ≡ [] → ⊥) → IsLater texts later → IsMalformed texted later here now rest → NoContent later names old bytes
  walk_refused later h k p final l =
      sym (s.reads final (later_later texts later final k l)) ∙ ap (λ z. content z rest here (seen final now)) walk_left
      ∙ one_turn (m - (i + 1)) rest here (seen final now) h ∙ p final l (content (m - (i + 1)))

  pub walk_ends : here ≡ [] → ContentRead texts names old now bytes rest
  walk_ends e = record {
    state = subst (λ z. IsState z now) e s.state;
    room = s.room;
    fewer = s.fewer;
    reads = λ final k.
        sym (s.reads final k) ∙ ap (λ z. content z rest here (seen final now)) walk_left ∙ ap (λ z. content (suc (m - (i + 1))) rest z (seen final now)) e ∙ no_names (m - (i + 1)) rest (seen final now);
  }

pub walk_no_turn : (before texts : Texts) (names here : List Text) (old now : Spine TextId) (m i : ℕ) (bytes rest : List ℕ) → m ≤ i → IsWalking before texts names here old now (m - i) bytes rest → NoContent texts names old bytes
walk_no_turn before texts names here old now m i bytes rest l s final k =
    let none : m - i ≡ 0 = omega arith in
    sym (s.reads final k) ∙ ap (λ z. content z rest here (seen final now)) none ∙ no_turns rest here (seen final now)
