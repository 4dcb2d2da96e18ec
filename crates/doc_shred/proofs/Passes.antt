-- What is in the builder after a piece, and what a walk makes of it.
use Rattle.std.proofs.Common.{◌≡◌, ℕ, suc, ◌+◌, ◌<◌, ◌≤◌, Bool, true, false, not, ◌&&◌, cond, List, [], ◌∷◌, length, Option, Some, None, Result, Ok, Err, IfOk, IfErr, option_and_then, ◌⊎◌, inl, inr, refl, sym, ap, ◌∙◌, subst, arith, codes}
use Rattle.std.proofs.lemmas.Slice.Eq.{bytes_eq-Decides}
use Rattle.xq_base.specs.declared.item.TextId.{TextId}
use Rattle.doc_table.specs.Tree.{Label, OfText, OfComment, OfInstruction, Branch, no_more}
use Rattle.doc_table.specs.Spine.{Open, Spine, closed, is_some_open, is_text, rows_in, text_last, with_leaf, put_in, tree_of}
use Rattle.doc_table.proofs.SpineLaws.{rows-closed}
use Rattle.doc_shred.specs.Rules.{begins}
use Rattle.doc_shred.specs.Content.{Text}
use Rattle.doc_shred.specs.Markup.{Tag}
use Rattle.doc_shred.specs.Reading as r
use Rattle.doc_shred.specs.Walk.{Walk, Piece, starts, ends, notes, instructs, piece, leaf, step, end_step, marked, turn, add_text, texted}
use Rattle.doc_shred.specs.Standing.{Texts, seen, IsLater, none_text, Walked, Starts, CommentAdded, InstructionAdded, TextAdded, IsTextAdded, ElementClosed, OtherEnd, IsOther, IsState, Passed, IsMalformed}
use Rattle.doc_shred.proofs.Lexical.{comment_exact, instruction_exact}
use Rattle.doc_shred.proofs.TagLaws.{start_exact, end_tag_exact, text_run_sound}
use Rattle.doc_shred.proofs.Complete.{text_run_narrow, text_run_strict}
use Rattle.doc_shred.proofs.PieceLaws.{read_end, read_comment, read_instruction, read_start, start_strict, end_tag_strict, comment_strict, instruction_strict}
use Rattle.doc_shred.proofs.Spines.{later_self, later_later, leaf_grown, last_put, put_tags, comment_seen, instruction_seen, text_seen, closed_seen}

pub if_ok : {A E : Type 0} (P Q : A → Type 0) (o : Result A E) → IfOk o P → ((a : A) → P a → Q a) → IfOk o Q
if_ok P Q (Ok a) h k = k a h
if_ok P Q (Err e) h k = tt

pub if_err : {A E : Type 0} (P Q : E → Type 0) (o : Result A E) → IfErr o P → ((e : E) → P e → Q e) → IfErr o Q
if_err P Q (Ok a) h k = tt
if_err P Q (Err e) h k = k e h

pub some_open : (names : List Text) (s : Spine TextId) → IsState names s → is_some_open s.nodes ≡ true
some_open names s i = by s.nodes i.depth
  where
    by : (os : List (Open TextId)) → length os ≡ length names + 1 → is_some_open os ≡ true
    by [] e = absurd (omega arith)
    by (o ∷ os) e = refl

pub leaf_state : (names : List Text) (l : Label TextId) (s : Spine TextId) → IsState names s → IsState names (with_leaf l s)
leaf_state names l s i =
    let g = leaf_grown l s (some_open names s i) i.root in
    record { root = g.root; depth = g.depth ∙ i.depth; tags = put_tags (Branch l no_more) s.root s.nodes ∙ i.tags }

pub comment_passed : (texts : Texts) (names : List Text) (old new : Spine TextId) (bytes rest : List ℕ) → IsState names old → CommentAdded texts old new bytes rest → Passed marked texts names names old new bytes rest
comment_passed texts names old new bytes rest i a =
    let spelled = comment_exact.sound bytes (a.read, rest) a.found in
    let g = leaf_grown (OfComment a.value) old (some_open names old i) i.root in
    record {
      state = subst (IsState names) (sym a.added) (leaf_state names (OfComment a.value) old i);
      room = omega (arith, ap rows_in a.added, g.rows, comment_strict bytes rest a.read spelled);
      fewer = omega (arith, comment_strict bytes rest a.read spelled);
      calm = ap (λ (z : Spine TextId). text_last z.nodes) a.added ∙ last_put (Branch (OfComment a.value) no_more) old.root old.nodes refl;
      goes = λ final k next.
          ap (option_and_then (λ (x : Piece × List ℕ). step x.0 (next x.1) names (seen final old))) (read_comment bytes rest a.read spelled)
          ∙ ap (next rest names) (sym (comment_seen texts final old new a.value a.read a.added a.valued k));
    }

pub instruction_passed : (texts : Texts) (names : List Text) (old new : Spine TextId) (bytes rest : List ℕ) → IsState names old → InstructionAdded texts old new bytes rest → Passed marked texts names names old new bytes rest
instruction_passed texts names old new bytes rest i a =
    let spelled = instruction_exact.sound bytes (a.read, rest) a.found in
    let g = leaf_grown (OfInstruction a.name a.value) old (some_open names old i) i.root in
    record {
      state = subst (IsState names) (sym a.added) (leaf_state names (OfInstruction a.name a.value) old i);
      room = omega (arith, ap rows_in a.added, g.rows, instruction_strict bytes rest a.read spelled);
      fewer = omega (arith, instruction_strict bytes rest a.read spelled);
      calm = ap (λ (z : Spine TextId). text_last z.nodes) a.added ∙ last_put (Branch (OfInstruction a.name a.value) no_more) old.root old.nodes refl;
      goes = λ final k next.
          ap (option_and_then (λ (x : Piece × List ℕ). step x.0 (next x.1) names (seen final old))) (read_instruction bytes rest a.read.0 a.read.1 spelled)
          ∙ ap (next rest names) (sym (instruction_seen texts texts final old new a.name a.value a.read.0 a.read.1 a.added a.named (later_self texts) a.valued k));
    }

-- an element is closed below the document
closed_state : (name : Text) (names : List Text) (s : Spine TextId) → IsState (name ∷ names) s → IsState names (closed s) × (rows_in (closed s) ≡ rows_in s) × (text_last (closed s).nodes ≡ false)
closed_state name names s i =
    let b = by s.nodes refl i.depth i.tags in
    (record { root = b.0; depth = b.1; tags = b.2 }, rows-closed s (some_open (name ∷ names) s i) i.root, b.3)
  where
    by : (os : List (Open TextId)) → s.nodes ≡ os → length os ≡ length (name ∷ names) + 1 → none_text os ≡ true
        → ((closed s).root ≡ None) × (length (closed s).nodes ≡ length names + 1) × (none_text (closed s).nodes ≡ true) × (text_last (closed s).nodes ≡ false)
    by [] f e t = absurd (omega arith)
    by (o ∷ []) f e t = absurd (omega arith)
    by (o ∷ q ∷ os) f e t =
        let shut : closed s ≡ put_in (tree_of o) s.root (q ∷ os) = ap (Rattle.doc_table.specs.Spine.close_in s.root) f in
        let parts = both (is_text o.label) (not (is_text q.label) && none_text os) t in (
          ap (λ (z : Spine TextId). z.root) shut ∙ i.root,
          ap (λ (z : Spine TextId). length z.nodes) shut ∙ count (length os) e,
          ap (λ (z : Spine TextId). none_text z.nodes) shut ∙ parts.1,
          ap (λ (z : Spine TextId). text_last z.nodes) shut ∙ last_put (tree_of o) s.root (q ∷ os) parts.0,
        )
      where
        both : (a b : Bool) → not a && b ≡ true → (a ≡ false) × (b ≡ true)
        both true b e = cc
        both false b e = (refl, e)

        count : (n : ℕ) → suc (suc n) ≡ length (name ∷ names) + 1 → suc n ≡ length names + 1
        count n e = omega arith

pub end_passed : (texts : Texts) (names after : List Text) (old new : Spine TextId) (bytes rest : List ℕ) → IsState names old → ElementClosed names after old new bytes rest → Passed marked texts names after old new bytes rest
end_passed texts names after old new bytes rest i a =
    let spelled = end_tag_exact.sound bytes (a.name, rest) a.found in
    let shut = closed_state a.name after old (subst (λ z. IsState z old) a.same i) in
    record {
      state = subst (IsState after) (sym a.shut) shut.0;
      room = omega (arith, ap rows_in a.shut, shut.1, end_tag_strict bytes rest a.name spelled);
      fewer = omega (arith, end_tag_strict bytes rest a.name spelled);
      calm = ap (λ (z : Spine TextId). text_last z.nodes) a.shut ∙ shut.2;
      goes = λ final k next.
          ap (option_and_then (λ (x : Piece × List ℕ). step x.0 (next x.1) names (seen final old))) (read_end bytes rest a.name spelled)
          ∙ ap (λ z. end_step a.name (next rest) z (seen final old)) a.same
          ∙ ap (λ b. cond b (next rest after (Rattle.doc_shred.specs.Walk.close_node (seen final old))) None) ((bytes_eq-Decides a.name a.name).1 refl)
          ∙ ap (next rest after) (sym (closed_seen final old)) ∙ ap (λ z. next rest after (seen final z)) (sym a.shut);
    }

pub start_passed : (texts : Texts) (names after : List Text) (old new : Spine TextId) (bytes rest : List ℕ) → IsState names old → Walked (Starts bytes rest names after old new) texts names after old new → Passed marked texts names after old new bytes rest
start_passed texts names after old new bytes rest i a =
    let one = a.goes texts (later_self texts) (λ _ _. None) in
    let spelled = start_exact.sound bytes (one.0, rest) one.1 in
    record {
      state = record { root = a.root; depth = omega (arith, a.depth, i.depth); tags = a.tags ∙ i.tags };
      room = omega (arith, a.rows, start_strict bytes rest one.0 spelled);
      fewer = omega (arith, start_strict bytes rest one.0 spelled);
      calm = a.calm;
      goes = λ final k next.
          let g = a.goes final k (next rest) in
          ap (option_and_then (λ (x : Piece × List ℕ). step x.0 (next x.1) names (seen final old))) (read_start bytes rest g.0 (start_exact.sound bytes (g.0, rest) g.1)) ∙ g.2;
    }

-- ---- refusals

piece_end : (bytes : List ℕ) → begins (codes "</") bytes ≡ true → piece bytes ≡ option_and_then (λ (x : Text × List ℕ). Some (ends x.0, x.1)) (r.end_tag bytes)
unfolding piece
piece_end bytes e = ap (λ b. cond b (option_and_then (λ (x : Text × List ℕ). Some (ends x.0, x.1)) (r.end_tag bytes)) (others bytes)) e
  where
    others : List ℕ → Option (Piece × List ℕ)
    others bytes = cond (begins (codes "<!--") bytes) (option_and_then (λ (x : Text × List ℕ). Some (notes x.0, x.1)) (r.comment bytes))
        (cond (begins (codes "<?") bytes) (option_and_then (λ (x : (Text × Text) × List ℕ). Some (instructs x.0.0 x.0.1, x.1)) (r.instruction bytes)) (option_and_then (λ (x : Tag × List ℕ). Some (starts x.0, x.1)) (r.start bytes)))

piece_comment : (bytes : List ℕ) → begins (codes "</") bytes ≡ false → begins (codes "<!--") bytes ≡ true → piece bytes ≡ option_and_then (λ (x : Text × List ℕ). Some (notes x.0, x.1)) (r.comment bytes)
unfolding piece
piece_comment bytes e f = rw e (rw f refl)

piece_instruction : (bytes : List ℕ) → begins (codes "</") bytes ≡ false → begins (codes "<!--") bytes ≡ false → begins (codes "<?") bytes ≡ true → piece bytes ≡ option_and_then (λ (x : (Text × Text) × List ℕ). Some (instructs x.0.0 x.0.1, x.1)) (r.instruction bytes)
unfolding piece
piece_instruction bytes e f g = rw e (rw f (rw g refl))

piece_start : (bytes : List ℕ) → begins (codes "</") bytes ≡ false → begins (codes "<!--") bytes ≡ false → begins (codes "<?") bytes ≡ false → piece bytes ≡ option_and_then (λ (x : Tag × List ℕ). Some (starts x.0, x.1)) (r.start bytes)
unfolding piece
piece_start bytes e f g = rw e (rw f (rw g refl))

no_piece : (texts : Texts) (names : List Text) (old : Spine TextId) (bytes : List ℕ) → piece bytes ≡ None → IsMalformed marked texts names old bytes
no_piece texts names old bytes e final k next = ap (option_and_then (λ (x : Piece × List ℕ). step x.0 (next x.1) names (seen final old))) e

module _ (texts : Texts) (names : List Text) (old : Spine TextId) (bytes : List ℕ) where
  pub comment_refused : begins (codes "</") bytes ≡ false → begins (codes "<!--") bytes ≡ true → r.comment bytes ≡ None → IsMalformed marked texts names old bytes
  comment_refused e f g = no_piece texts names old bytes (piece_comment bytes e f ∙ ap (option_and_then (λ (x : Text × List ℕ). Some (notes x.0, x.1))) g)

  pub instruction_refused : begins (codes "</") bytes ≡ false → begins (codes "<!--") bytes ≡ false → begins (codes "<?") bytes ≡ true → r.instruction bytes ≡ None → IsMalformed marked texts names old bytes
  instruction_refused e f g h = no_piece texts names old bytes (piece_instruction bytes e f g ∙ ap (option_and_then (λ (x : (Text × Text) × List ℕ). Some (instructs x.0.0 x.0.1, x.1))) h)

  pub start_refused : begins (codes "</") bytes ≡ false → begins (codes "<!--") bytes ≡ false → begins (codes "<?") bytes ≡ false → r.start bytes ≡ None → IsMalformed marked texts names old bytes
  start_refused e f g h = no_piece texts names old bytes (piece_start bytes e f g ∙ ap (option_and_then (λ (x : Tag × List ℕ). Some (starts x.0, x.1))) h)

  other_step : (n : Text) (ms : List Text) (next : Walk) (os : Rattle.doc_shred.specs.Walk.Nodes) → IsOther n ms → end_step n next ms os ≡ None
  other_step n [] next os h = refl
  other_step n (m ∷ ms) next os h = ap (λ b. cond b (next ms (Rattle.doc_shred.specs.Walk.close_node os)) None) h

  pub end_refused : begins (codes "</") bytes ≡ true → (r.end_tag bytes ≡ None) ⊎ OtherEnd names bytes → IsMalformed marked texts names old bytes
  end_refused e (inl f) = no_piece texts names old bytes (piece_end bytes e ∙ ap (option_and_then (λ (x : Text × List ℕ). Some (ends x.0, x.1))) f)
  end_refused e (inr o) = λ final k next.
      ap (option_and_then (λ (x : Piece × List ℕ). step x.0 (next x.1) names (seen final old))) (piece_end bytes e ∙ ap (option_and_then (λ (x : Text × List ℕ). Some (ends x.0, x.1))) o.found)
      ∙ other_step o.name names (next o.rest) (seen final old) o.differs

-- ---- characters, and then a piece

-- characters that there are make what is left shorter
text_shortens : (bytes rest v : List ℕ) → r.text_run bytes ≡ Some (v, rest) → (length rest ≤ length bytes) × ((c : ℕ) (cs : List ℕ) → v ≡ c ∷ cs → length rest < length bytes)
text_shortens bytes rest v e =
    let s = text_run_sound bytes (v, rest) e in
    (text_run_narrow bytes rest v s.0, λ c cs f. text_run_strict bytes rest v c cs s.0 f)

record IsTexted (texts : Texts) (names : List Text) (old new : Spine TextId) (bytes rest : List ℕ) (v : Text) : Type 0 where
  state : IsState names new
  room : rows_in new + length rest ≤ rows_in old + length bytes
  fewer : length rest ≤ length bytes
  same : (final : Texts) → IsLater texts final → seen final new ≡ add_text v (seen final old)

texted_is : (texts : Texts) (names : List Text) (old new : Spine TextId) (bytes rest : List ℕ) (v : Text) → IsState names old → r.text_run bytes ≡ Some (v, rest) → IsTextAdded texts old new v → IsTexted texts names old new bytes rest v
texted_is texts names old new bytes rest [] i e a =
    let s = text_shortens bytes rest [] e in
    record { state = subst (IsState names) (sym a) i; room = omega (arith, ap rows_in a, s.0); fewer = s.0; same = λ final k. ap (seen final) a }
texted_is texts names old new bytes rest (c ∷ cs) i e a =
    let s = text_shortens bytes rest (c ∷ cs) e in
    let g = leaf_grown (OfText a.0) old (some_open names old i) i.root in
    record {
      state = subst (IsState names) (sym a.2) (leaf_state names (OfText a.0) old i);
      room = omega (arith, ap rows_in a.2, g.rows, s.1 c cs refl);
      fewer = s.0;
      same = λ final k. text_seen texts final old new a.0 (c ∷ cs) a.2 a.1 k;
    }

module _ (texts : Texts) (names : List Text) (old mid : Spine TextId) (bytes rest : List ℕ) (i : IsState names old) (a : TextAdded texts old mid bytes rest) where
  texted_so : IsTexted texts names old mid bytes rest a.read
  texted_so = texted_is texts names old mid bytes rest a.read i a.found a.added

  pub text_state : IsState names mid
  text_state = texted_so.state

  pub text_room : rows_in mid + length rest ≤ rows_in old + length bytes
  text_room = texted_so.room

  pub turn_passed : (later : Texts) (after : List Text) (new : Spine TextId) (last : List ℕ) → IsLater texts later → Passed marked later names after mid new rest last → Passed texted later names after old new bytes last
  turn_passed later after new last k p = record {
    state = p.state;
    room = omega (arith, p.room, texted_so.room);
    fewer = omega (arith, p.fewer, texted_so.fewer);
    calm = p.calm;
    goes = λ final l next.
        ap (option_and_then (λ (x : Text × List ℕ). marked next x.1 names (add_text x.0 (seen final old)))) a.found
        ∙ ap (marked next rest names) (sym (texted_so.same final (later_later texts later final k l)))
        ∙ p.goes final l next;
  }

  pub turn_refused : (later : Texts) → IsLater texts later → IsMalformed marked later names mid rest → IsMalformed texted later names old bytes
  turn_refused later k m final l next =
      ap (option_and_then (λ (x : Text × List ℕ). marked next x.1 names (add_text x.0 (seen final old)))) a.found
      ∙ ap (marked next rest names) (sym (texted_so.same final (later_later texts later final k l))) ∙ m final l next

pub no_text : (texts : Texts) (names : List Text) (old : Spine TextId) (bytes : List ℕ) → r.text_run bytes ≡ None → IsMalformed texted texts names old bytes
no_text texts names old bytes e final k next = ap (option_and_then (λ (x : Text × List ℕ). marked next x.1 names (add_text x.0 (seen final old)))) e
