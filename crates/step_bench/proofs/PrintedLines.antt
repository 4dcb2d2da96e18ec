-- One line more.
use Rattle.std.proofs.Common.{◌≡◌, ℕ, zero, suc, ◌+◌, ◌<◌, List, [], ◌∷◌, ◌++◌, length, take, get_or, Option, Some, None, refl, sym, ap, ◌∙◌, subst, arith}
use Rattle.std.specs.Io.KnownBytes.{Appends}
use Rattle.std.proofs.lemmas.List.{append-nil, append_assoc, take_more}
use Rattle.xq_base.specs.declared.item.TextId.{TextId}
use Rattle.xq_base.specs.declared.axis.Axis.{Axis}
use Rattle.doc_table.specs.Tree.{Tree}
use Rattle.staircase.specs.declared.kinds.Ctx.{Ctx}
use Rattle.step_bench.specs.declared.step.Taken.{Taken}
use Rattle.step_bench.specs.Line.{line_of}
use Rattle.step_bench.specs.Run.{AreLines, Prints}
use Rattle.step_bench.specs.Step.{IsTaken}

appends-more : (old mid new : Option (List ℕ)) (as' bs : List ℕ) → Appends old mid as' → Appends mid new bs → Appends old new (as' ++ bs)
appends-more None mid new as' bs p q = tt
appends-more (Some xs) None new as' bs p q = absurd p
appends-more (Some xs) (Some ys) None as' bs p q = absurd q
appends-more (Some xs) (Some ys) (Some zs) as' bs p q = q ∙ ap (λ k. k ++ bs) p ∙ append_assoc xs as' bs

lines-more : (axes : List Axis) (axis : Axis) (t : Tree TextId) (context : List Ctx) (text : List ℕ) (taken : Taken) → AreLines axes t context text → IsTaken axis t context taken → AreLines (axes ++ axis ∷ []) t context (text ++ line_of axis taken)
lines-more [] axis t context text taken l i = (taken, [], i, ap (λ k. k ++ line_of axis taken) l ∙ sym (append-nil (line_of axis taken)), refl)
lines-more (x ∷ axes) axis t context text taken l i = (
  l.0,
  l.1 ++ line_of axis taken,
  l.2,
  ap (λ k. k ++ line_of axis taken) l.3 ∙ append_assoc (line_of x l.0) l.1 (line_of axis taken),
  lines-more axes axis t context l.1 taken l.4 i,
)

pub none_printed : (t : Tree TextId) (context : List Ctx) (old : Option (List ℕ)) → Prints [] t context old old
none_printed t context old = record { text = []; lines = refl; appended = none old }
  where
    none : (old : Option (List ℕ)) → Appends old old []
    none None = tt
    none (Some xs) = sym (append-nil xs)

alone : (axis : Axis) (t : Tree TextId) (context : List Ctx) (text : List ℕ) → AreLines (axis ∷ []) t context text → (taken : Taken) × IsTaken axis t context taken × (text ≡ line_of axis taken)
alone axis t context text l = (l.0, l.2, l.3 ∙ ap (λ k. line_of axis l.0 ++ k) l.4 ∙ append-nil (line_of axis l.0))

pub one_printed : (axes : List Axis) (k : ℕ) (axis : Axis) (t : Tree TextId) (context : List Ctx) (old mid new : Option (List ℕ)) → k < length axes → axis ≡ get_or axes k axis → Prints (take k axes) t context old mid → Prints (axis ∷ []) t context mid new → Prints (take (k + 1) axes) t context old new
one_printed axes k axis t context old mid new h e p q =
    let s = alone axis t context q.text q.lines in
    let more : take (k + 1) axes ≡ take k axes ++ axis ∷ [] = take_more axes k axis h ∙ ap (λ (z : Axis). take k axes ++ z ∷ []) (sym e) in
    subst (λ z. Prints z t context old new) (sym more) (record {
      text = p.text ++ line_of axis s.0;
      lines = lines-more (take k axes) axis t context p.text s.0 p.lines s.1;
      appended = appends-more old mid new p.text (line_of axis s.0) p.appended (subst (Appends mid new) s.2 q.appended);
    })

pub next_printed : (axes : List Axis) (k : ℕ) (d : Axis) (t : Tree TextId) (context : List Ctx) (old mid new : Option (List ℕ)) → k < length axes → Prints (take k axes) t context old mid → Prints (get_or axes k d ∷ []) t context mid new → Prints (take (k + 1) axes) t context old new
next_printed axes k d t context old mid new h p q = one_printed axes k (get_or axes k d) t context old mid new h (same axes k d h) p q
  where
    same : (axes : List Axis) (k : ℕ) (d : Axis) → k < length axes → get_or axes k d ≡ get_or axes k (get_or axes k d)
    same [] k d h = absurd (omega (arith, h))
    same (x ∷ axes) zero d h = refl
    same (x ∷ axes) (suc k) d h = other axes k d (get_or axes k d) (omega (arith, h))
      where
        other : (axes : List Axis) (k : ℕ) (d e : Axis) → k < length axes → get_or axes k d ≡ get_or axes k e
        other [] k d e h = absurd (omega (arith, h))
        other (x ∷ axes) zero d e h = refl
        other (x ∷ axes) (suc k) d e h = other axes k d e (omega (arith, h))

pub line_printed : (axis : Axis) (t : Tree TextId) (context : List Ctx) (taken : Taken) (line : List ℕ) (old new : Option (List ℕ)) → IsTaken axis t context taken → line ≡ line_of axis taken → Appends old new line → Prints (axis ∷ []) t context old new
line_printed axis t context taken line old new i e a = record { text = line; lines = (taken, [], i, e ∙ sym (append-nil (line_of axis taken)), refl); appended = a }

pub take_whole : (axes : List Axis) → take (length axes) axes ≡ axes
take_whole [] = refl
take_whole (x ∷ axes) = ap (λ z. x ∷ z) (take_whole axes)
