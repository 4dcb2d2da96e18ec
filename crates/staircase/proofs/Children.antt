-- The next child, or the next row of the context.
use Rattle.std.proofs.Common.{inl, inr, ◌⊎◌, ◌≡◌, ℕ, suc, ◌+◌, ◌<◌, ◌≤◌, Bool, true, false, ◌||◌, cond, List, [], ◌∷◌, length, refl, sym, ap, ◌∙◌, subst, arith, Option, Some, None}
use Rattle.std.specs.Prelude.{nat_eq, nat_lt, nat_le}
use Rattle.std.proofs.lemmas.Bool.{eqb-true, eqb-false, ltb-true, ltb-false, leb-true, and_parts, or_left, or_right, cases_lt}
use Rattle.xq_base.specs.declared.item.TextId.{TextId}
use Rattle.doc_table.specs.Enc.{Line, line_in}
use Rattle.doc_table.specs.Places.{child, within, Kids}
use Rattle.staircase.specs.declared.frames.Frame.{Frame}
use Rattle.staircase.specs.Ahead.{has, any, UpFrom, first_of, is_first, without}
use Rattle.staircase.specs.Frames.{unfinished, advanced, with_frame, next_of, any_frame, FrameOk, FramesOk, KidsAhead}
use Rattle.staircase.specs.Passes.{NextIs, earlier}
use Rattle.staircase.proofs.RowsAhead.{any-none, comes-first, comes-none, comes-later, comes-past}

-- what is known of the rows of one tree
pub record Nests (lines : List (Line TextId)) : Type 0 where
  pub kids : Kids lines
  pub ends : (c : ℕ) → c < length lines → c + (line_in lines c).size < length lines
  pub nested : (u w : ℕ) → u < w → w ≤ u + (line_in lines u).size → w < length lines → w + (line_in lines w).size ≤ u + (line_in lines u).size

pub child-within : (lines : List (Line TextId)) (c w : ℕ) → child lines c w ≡ true → (c ≤ w) × (w ≤ c + (line_in lines c).size) × ((line_in lines w).level ≡ (line_in lines c).level + 1)
child-within lines c w e =
    let p = and_parts (within lines c w) (nat_eq (line_in lines w).level ((line_in lines c).level + 1)) e in
    let q = and_parts (nat_le c w) (nat_le w (c + (line_in lines c).size)) p.0 in
    (leb-true c w q.0, leb-true w (c + (line_in lines c).size) q.1, eqb-true (line_in lines w).level ((line_in lines c).level + 1) p.1)

pub not-child : (lines : List (Line TextId)) (c w : ℕ) → (child lines c w ≡ true → ⊥) → child lines c w ≡ false
not-child lines c w f = go (child lines c w) refl
  where
    go : (b : Bool) → child lines c w ≡ b → b ≡ false
    go true e = absurd (f e)
    go false e = refl

pub past-child : (lines : List (Line TextId)) (c w : ℕ) → c + (line_in lines c).size < w → child lines c w ≡ false
past-child lines c w l = not-child lines c w (λ e. (let p = child-within lines c w e in omega (arith, p.1)))

-- no row still to come has a row before all of them as its child
none-kids : (lines : List (Line TextId)) (a n : ℕ) (rest : List ℕ) → UpFrom a n rest → (w : ℕ) → w < a → any (λ c. child lines c w) rest ≡ false
none-kids lines a n rest u w l = any-none (λ c. child lines c w) a n rest u (λ c k m. not-child lines c w (λ e. (let p = child-within lines c w e in omega (arith, p.0))))

-- ---- frames

frames-bound : (lines : List (Line TextId)) (from a b : ℕ) (fs : List Frame) → b ≤ a → FramesOk lines from a fs → FramesOk lines from b fs
frames-bound lines from a b [] l h = tt
frames-bound lines from a b (f ∷ fs) l h = (record { in_rows = h.0.in_rows; last = h.0.last; before = h.0.before; later = h.0.later; beyond = omega (arith, h.0.beyond); wider = omega (arith, h.0.wider); kid = h.0.kid; none = h.0.none; inside = h.0.inside }, h.1)

-- later, where no frame's child is passed
frame-later : (lines : List (Line TextId)) (from to bound : ℕ) (f : Frame) → from ≤ to → to ≤ f.child → FrameOk lines from bound f → FrameOk lines to bound f
frame-later lines from to bound f l m h = record {
  in_rows = h.in_rows;
  last = h.last;
  before = omega (arith, h.before);
  later = m;
  beyond = h.beyond;
  wider = h.wider;
  kid = h.kid;
  none = λ w a b. h.none w (omega arith) b;
  inside = λ w a b. h.inside w (omega arith) b;
}

frames-later : (lines : List (Line TextId)) (from to bound : ℕ) (fs : List Frame) → from ≤ to → to ≤ bound + 1 → FramesOk lines from bound fs → FramesOk lines to bound fs
frames-later lines from to bound [] l m h = tt
frames-later lines from to bound (f ∷ fs) l m h = (frame-later lines from to bound f l (omega (arith, h.0.beyond)) h.0, frames-later lines from to f.last fs l (omega (arith, h.0.wider)) h.1)

-- rows up to the bound are children of no frame
frames-none : (lines : List (Line TextId)) (from bound w : ℕ) (fs : List Frame) → FramesOk lines from bound fs → from ≤ w → w ≤ bound → any_frame (λ f. child lines f.pre w) fs ≡ false
frames-none lines from bound w [] h l m = refl
frames-none lines from bound w (f ∷ fs) h l m = rw (h.0.none w l (omega (arith, h.0.beyond)), frames-none lines from f.last w fs h.1 l (omega (arith, h.0.wider))) refl

-- frames without a child left say nothing
finished-none : (lines : List (Line TextId)) (from bound w : ℕ) (f : Frame) → FrameOk lines from bound f → f.last < f.child → from ≤ w → child lines f.pre w ≡ false
finished-none lines from bound w f h l m = elim (cases_lt w f.child) [
  | inl a ↦ h.none w m a
  | inr b ↦ past-child lines f.pre w (omega (arith, h.last))
]

unfinished-ok : (lines : List (Line TextId)) (from bound : ℕ) (fs : List Frame) → FramesOk lines from bound fs → FramesOk lines from bound (unfinished fs)
unfinished-ok lines from bound [] h = tt
unfinished-ok lines from bound (f ∷ fs) h = go (nat_lt f.last f.child) (unfinished-ok lines from bound fs (frames-bound lines from f.last bound fs h.0.wider h.1))
  where
    go : (b : Bool) → FramesOk lines from bound (unfinished fs) → FramesOk lines from bound (cond b (unfinished fs) (f ∷ fs))
    go true r = r
    go false r = h

unfinished-same : (lines : List (Line TextId)) (from bound w : ℕ) (fs : List Frame) → FramesOk lines from bound fs → from ≤ w → any_frame (λ f. child lines f.pre w) (unfinished fs) ≡ any_frame (λ f. child lines f.pre w) fs
unfinished-same lines from bound w [] h l = refl
unfinished-same lines from bound w (f ∷ fs) h l = go (nat_lt f.last f.child) refl (unfinished-same lines from bound w fs (frames-bound lines from f.last bound fs h.0.wider h.1) l)
  where
    go : (b : Bool) → nat_lt f.last f.child ≡ b → any_frame (λ f. child lines f.pre w) (unfinished fs) ≡ any_frame (λ f. child lines f.pre w) fs → any_frame (λ f. child lines f.pre w) (cond b (unfinished fs) (f ∷ fs)) ≡ (child lines f.pre w || any_frame (λ f. child lines f.pre w) fs)
    go true e r = rw (finished-none lines from bound w f h.0 (ltb-true f.last f.child e) l) r
    go false e r = refl

abbrev pub TopOpen : List Frame → Type 0
TopOpen [] = Unit {0}
TopOpen (f ∷ fs) = f.child ≤ f.last

pub unfinished-open : (fs : List Frame) → TopOpen (unfinished fs)
unfinished-open [] = tt
unfinished-open (f ∷ fs) = go (nat_lt f.last f.child) refl (unfinished-open fs)
  where
    go : (b : Bool) → nat_lt f.last f.child ≡ b → TopOpen (unfinished fs) → TopOpen (cond b (unfinished fs) (f ∷ fs))
    go true e r = r
    go false e r = ltb-false f.last f.child e

pub kids-finished : (lines : List (Line TextId)) (rows rest : List ℕ) (fs : List Frame) (from : ℕ) → KidsAhead lines rows rest fs from → KidsAhead lines rows rest (unfinished fs) from
kids-finished lines rows rest fs from h = record {
  comes = h.comes;
  frames_ok = unfinished-ok lines from 0 fs h.frames_ok;
  kids = λ w l. h.kids w l ∙ ap (λ z. z || any (λ c. child lines c w) rest) (sym (unfinished-same lines from 0 w fs h.frames_ok l));
}

-- ---- the next row

nil-from : (rest : List ℕ) → first_of rest ≡ None → rest ≡ []
nil-from [] e = refl
nil-from (x ∷ xs) e = cc

up-at : (x n : ℕ) (rest : List ℕ) (from : ℕ) → UpFrom from n rest → first_of rest ≡ Some x → UpFrom x n rest
up-at x n [] from u e = cc
up-at x n (y ∷ ys) from u e = let q : y ≡ x = cc in (omega arith, u.1, u.2)

-- the next row where a frame is innermost
kids-at : (lines : List (Line TextId)) (rows rest : List ℕ) (g : Frame) (fs : List Frame) (from total at : ℕ) → Nests lines → length lines ≡ total → KidsAhead lines rows rest (g ∷ fs) from → g.child ≤ g.last
    → from ≤ at → at ≤ g.child → ((w : ℕ) → from ≤ w → w < at → has w rows ≡ false) → UpFrom at (length lines) rest → ((at ≡ g.child) ⊎ (has at rows ≡ true))
    → NextIs (λ v. has v rows || any (λ c. child lines c v) rows) (λ at. KidsAhead lines rows rest (g ∷ fs) at) from total (Some at)
kids-at lines rows rest g fs from total at nests e h o l m none up w =
    let ok = h.frames_ok.0 in
    let ends = nests.ends g.pre ok.in_rows in
    let clear : (v : ℕ) → from ≤ v → v < at → (has v rows || any (λ c. child lines c v) rows) ≡ false = λ v a b.
    let top : child lines g.pre v ≡ false = ok.none v a (omega arith) in
    let others : any_frame (λ f. child lines f.pre v) fs ≡ false = frames-none lines from g.last v fs h.frames_ok.1 a (omega arith) in
    let kids : any (λ c. child lines c v) rows ≡ false = h.kids v a ∙ rw (top, others) (none-kids lines at (length lines) rest up v b) in
    rw (none v a b, kids) refl in
    let there : (has at rows || any (λ c. child lines c at) rows) ≡ true = elim w [
      | inl q ↦ or_right (has at rows) (any (λ c. child lines c at) rows) (h.kids at l ∙ rw (ap (child lines g.pre) q ∙ ok.kid o) refl)
      | inr t ↦ or_left (has at rows) (any (λ c. child lines c at) rows) t
    ] in (
      l,
      omega (arith, ok.last),
      there,
      record {
        comes = comes-later rows rest from at (length lines) h.comes l none;
        frames_ok = (frame-later lines from at 0 g l m ok, frames-later lines from at g.last fs l (omega arith) h.frames_ok.1);
        kids = λ w a. h.kids w (omega arith);
      },
      clear,
    )

kids-top : (lines : List (Line TextId)) (rows rest : List ℕ) (g : Frame) (fs : List Frame) (from total at : ℕ) → Nests lines → length lines ≡ total → KidsAhead lines rows rest (g ∷ fs) from → g.child ≤ g.last → at ≡ earlier (first_of rest) g.child
    → NextIs (λ v. has v rows || any (λ c. child lines c v) rows) (λ at. KidsAhead lines rows rest (g ∷ fs) at) from total (Some at)
kids-top lines rows [] g fs from total at nests e h o f =
    kids-at lines rows [] g fs from total at nests e h o (omega (arith, h.frames_ok.0.later)) (omega arith) (λ w a b. h.comes.same w a) tt (inl f)
kids-top lines rows (x ∷ xs) g fs from total at nests e h o f =
    let k = comes-first rows (x ∷ xs) from x (length lines) h.comes refl in
    kids-at lines rows (x ∷ xs) g fs from total at nests e h o (omega (arith, h.frames_ok.0.later, h.comes.up.0)) (omega arith) (λ w a b. k.none w a (omega arith)) (omega arith, h.comes.up.1, h.comes.up.2) (which (cases_lt x g.child))
  where
    which : (x < g.child) ⊎ (g.child ≤ x) → (at ≡ g.child) ⊎ (has at rows ≡ true)
    which (inl a) = (let q : x ≡ at = omega arith in inr (subst (λ z. has z rows ≡ true) q (comes-first rows (x ∷ xs) from x (length lines) h.comes refl).there))
    which (inr a) = inl (omega arith)

pub kids-next : (lines : List (Line TextId)) (rows rest : List ℕ) (fs : List Frame) (from total : ℕ) → Nests lines → length lines ≡ total → KidsAhead lines rows rest fs from → TopOpen fs → (r : Option ℕ) → r ≡ next_of fs (first_of rest)
    → NextIs (λ v. has v rows || any (λ c. child lines c v) rows) (λ at. KidsAhead lines rows rest fs at) from total r
kids-next lines rows rest [] from total nests e h o None f = λ v l k.
    let empty : rest ≡ [] = nil-from rest (sym f) in
    let one : has v rows ≡ false = comes-none rows rest from (length lines) h.comes (sym f) v l in
    let two : any (λ c. child lines c v) rows ≡ false = h.kids v l ∙ ap (any (λ c. child lines c v)) empty in
    rw (one, two) refl
kids-next lines rows rest [] from total nests e h o (Some at) f =
    let k = comes-first rows rest from at (length lines) h.comes (sym f) in
    let clear : (v : ℕ) → from ≤ v → v < at → (has v rows || any (λ c. child lines c v) rows) ≡ false = λ v l m.
    let two : any (λ c. child lines c v) rows ≡ false = h.kids v l ∙ none-kids lines at (length lines) rest (up-at at (length lines) rest from h.comes.up (sym f)) v m in
    rw (k.none v l m, two) refl in
    (k.later, omega (arith, k.within), or_left (has at rows) (any (λ c. child lines c at) rows) k.there, record { comes = k.comes; frames_ok = tt; kids = λ w l. h.kids w (omega (arith, k.later)) }, clear)
kids-next lines rows rest (g ∷ fs) from total nests e h o None f = cc
kids-next lines rows rest (g ∷ fs) from total nests e h o (Some at) f = kids-top lines rows rest g fs from total at nests e h o (some-is at (earlier (first_of rest) g.child) f)
  where
    some-is : (x y : ℕ) → Some x ≡ Some y → x ≡ y
    some-is x y q = cc

-- ---- past a row

frame-past : (lines : List (Line TextId)) (at bound : ℕ) (f : Frame) → at < f.child → FrameOk lines at bound f → FrameOk lines (at + 1) bound f
frame-past lines at bound f l h = frame-later lines at (at + 1) bound f (omega arith) (omega arith) h

frames-past : (lines : List (Line TextId)) (at bound : ℕ) (fs : List Frame) → at ≤ bound → FramesOk lines at bound fs → FramesOk lines (at + 1) bound fs
frames-past lines at bound fs l h = frames-later lines at (at + 1) bound fs (omega arith) (omega arith) h

-- the innermost frame past its child
frame-advanced : (lines : List (Line TextId)) (at last : ℕ) (f : Frame) → Nests lines → FrameOk lines at 0 f → f.child ≤ f.last → f.child ≡ at → at < length lines → last ≡ at + (line_in lines at).size → FrameOk lines (at + 1) 0 (record { pre = f.pre; child = last + 1; last = f.last })
frame-advanced lines at last f nests h o q l e =
    let kid : child lines f.pre at ≡ true = subst (λ z. child lines f.pre z ≡ true) q (h.kid o) in
    let p = child-within lines f.pre at kid in
    record {
      in_rows = h.in_rows;
      last = h.last;
      before = omega (arith, h.before);
      later = omega arith;
      beyond = omega arith;
      wider = h.wider;
      kid = λ m. subst (λ z. child lines f.pre z ≡ true) (next-is m) (nests.kids.next f.pre at h.in_rows l kid (omega (arith, h.last)));
      none = λ w a b. not-child lines f.pre w (λ c. (let r = child-within lines f.pre w c in let d = nests.kids.deeper at w (omega arith) (omega arith) l in omega (arith, r.2, p.2)));
      inside = λ w a b. (let n = nests.nested at w (omega arith) (omega arith) (omega (arith, nests.ends at l)) in omega arith);
    }
  where
    next-is : last + 1 ≤ f.last → suc (at + (line_in lines at).size) ≡ last + 1
    next-is m = omega arith

-- the frames past a row that was read: each is beyond the row's subtree
record Past (lines : List (Line TextId)) (at last : ℕ) (fs : List Frame) : Type 0 where
  ok : FramesOk lines (at + 1) 0 fs
  beyond : FramesOk lines (at + 1) last fs

first-past : (lines : List (Line TextId)) (at last : ℕ) (f : Frame) (fs : List Frame) → FrameOk lines (at + 1) 0 f → FramesOk lines (at + 1) f.last fs → last < f.child → last ≤ f.last → Past lines at last (f ∷ fs)
first-past lines at last f fs h k l m = record {
  ok = (h, k);
  beyond = (record { in_rows = h.in_rows; last = h.last; before = h.before; later = h.later; beyond = l; wider = m; kid = h.kid; none = h.none; inside = h.inside }, k);
}

frames-advanced : (lines : List (Line TextId)) (at last : ℕ) (fs : List Frame) → Nests lines → FramesOk lines at 0 fs → TopOpen fs → at < length lines → last ≡ at + (line_in lines at).size → Past lines at last (advanced at last fs)
frames-advanced lines at last [] nests h o l e = record { ok = tt; beyond = tt }
frames-advanced lines at last (f ∷ fs) nests h o l e = go (nat_eq f.child at) refl
  where
    below : at ≤ f.last → last ≤ f.last
    below m = (let n = nests.nested f.pre at h.0.before (omega (arith, h.0.last)) l in omega (arith, h.0.last))

    go : (b : Bool) → nat_eq f.child at ≡ b → Past lines at last (cond b (record { pre = f.pre; child = last + 1; last = f.last } ∷ fs) (f ∷ fs))
    go true q =
        let r : f.child ≡ at = eqb-true f.child at q in
        first-past lines at last (record { pre = f.pre; child = last + 1; last = f.last }) fs (frame-advanced lines at last f nests h.0 o r l e) (frames-past lines at f.last fs (omega arith) h.1) (omega arith) (below (omega arith))
    go false q =
        let ne : f.child ≡ at → ⊥ = eqb-false f.child at q in
        let less : at < f.child = omega (arith, h.0.later, ne) in
        let in_kid = h.0.inside at (omega arith) less in
        first-past lines at last f fs (frame-past lines at 0 f less h.0) (frames-past lines at f.last fs (omega arith) h.1) (omega arith) (below (omega arith))

-- the frame of a row of the context that was read
new-frame : (lines : List (Line TextId)) (at last : ℕ) → Nests lines → at < length lines → last ≡ at + (line_in lines at).size → FrameOk lines (at + 1) 0 (record { pre = at; child = at + 1; last = last })
new-frame lines at last nests l e = record {
  in_rows = l;
  last = e;
  before = omega arith;
  later = omega arith;
  beyond = omega arith;
  wider = omega arith;
  kid = λ m. (let s : suc at ≡ at + 1 = omega arith in subst (λ z. child lines at z ≡ true) s (nests.kids.first at l (omega arith)));
  none = λ w a b. absurd (omega arith);
  inside = λ w a b. absurd (omega arith);
}

advanced-same : (lines : List (Line TextId)) (at last w : ℕ) (fs : List Frame) → any_frame (λ f. child lines f.pre w) (advanced at last fs) ≡ any_frame (λ f. child lines f.pre w) fs
advanced-same lines at last w [] = refl
advanced-same lines at last w (f ∷ fs) = go (nat_eq f.child at)
  where
    go : (b : Bool) → any_frame (λ f. child lines f.pre w) (cond b (record { pre = f.pre; child = last + 1; last = f.last } ∷ fs) (f ∷ fs)) ≡ (child lines f.pre w || any_frame (λ f. child lines f.pre w) fs)
    go true = refl
    go false = refl

moved : (x y z : Bool) → (x || (y || z)) ≡ ((y || x) || z)
moved true true z = refl
moved true false z = refl
moved false true z = refl
moved false false z = refl

pub kids-enter : (lines : List (Line TextId)) (rows rest : List ℕ) (fs : List Frame) (at last : ℕ) → Nests lines → KidsAhead lines rows rest fs at → TopOpen fs → at < length lines → last ≡ at + (line_in lines at).size
    → KidsAhead lines rows (without at rest) (with_frame (is_first at rest) (record { pre = at; child = at + 1; last = last }) (advanced at last fs)) (at + 1)
kids-enter lines rows rest fs at last nests h o l e =
    let past = frames-advanced lines at last fs nests h.frames_ok o l e in
    record {
      comes = comes-past rows rest at (length lines) h.comes;
      frames_ok = entered (is_first at rest) past;
      kids = λ w m. h.kids w (omega arith) ∙ ap (λ z. z || any (λ c. child lines c w) rest) (sym (advanced-same lines at last w fs)) ∙ same rest w;
    }
  where
    entered : (b : Bool) → Past lines at last (advanced at last fs) → FramesOk lines (at + 1) 0 (with_frame b (record { pre = at; child = at + 1; last = last }) (advanced at last fs))
    entered true p = (new-frame lines at last nests l e, p.beyond)
    entered false p = p.ok

    same : (rest : List ℕ) (w : ℕ) → (any_frame (λ f. child lines f.pre w) (advanced at last fs) || any (λ c. child lines c w) rest) ≡ (any_frame (λ f. child lines f.pre w) (with_frame (is_first at rest) (record { pre = at; child = at + 1; last = last }) (advanced at last fs)) || any (λ c. child lines c w) (without at rest))
    same [] w = refl
    same (x ∷ xs) w = go (nat_eq x at) refl
      where
        go : (b : Bool) → nat_eq x at ≡ b → (any_frame (λ f. child lines f.pre w) (advanced at last fs) || (child lines x w || any (λ c. child lines c w) xs)) ≡ (any_frame (λ f. child lines f.pre w) (with_frame b (record { pre = at; child = at + 1; last = last }) (advanced at last fs)) || any (λ c. child lines c w) (cond b xs (x ∷ xs)))
        go true q = ap (λ z. any_frame (λ f. child lines f.pre w) (advanced at last fs) || (child lines z w || any (λ c. child lines c w) xs)) (eqb-true x at q) ∙ moved (any_frame (λ f. child lines f.pre w) (advanced at last fs)) (child lines at w) (any (λ c. child lines c w) xs)
        go false q = refl

pub kids-as : (lines : List (Line TextId)) (rows rows2 rest rest2 : List ℕ) (fs fs2 : List Frame) (from : ℕ) → rows2 ≡ rows → rest2 ≡ rest → fs2 ≡ fs → KidsAhead lines rows rest fs from → KidsAhead lines rows2 rest2 fs2 from
kids-as lines rows rows2 rest rest2 fs fs2 from a b c h = subst (λ z. KidsAhead lines z rest2 fs2 from) (sym a) (subst (λ z. KidsAhead lines rows z fs2 from) (sym b) (subst (λ z. KidsAhead lines rows rest z from) (sym c) h))
