-- The rows of a context whose children are being read (own rule).
use Rattle.std.specs.Prelude.{ℕ, ◌≡◌, ◌+◌, ◌<◌, ◌≤◌, Bool, true, false, ◌||◌, if◌then◌else◌, List, [], ◌∷◌, length, Option, Some, None, nat_eq, nat_lt}
use Rattle.xq_base.specs.declared.item.TextId.{TextId}
use Rattle.doc_table.specs.Enc.{Line, line_in}
use Rattle.doc_table.specs.Places.{child}
use Rattle.staircase.specs.declared.frames.Frame.{Frame}
use Rattle.staircase.specs.Ahead.{any, Comes}
use Rattle.staircase.specs.Passes.{earlier}

abbrev pub first_frame : {F : Type 0} → List F → Option F
first_frame [] = None
first_frame (f ∷ fs) = Some f

abbrev pub rest_frames : {F : Type 0} → List F → List F
rest_frames [] = []
rest_frames (f ∷ fs) = fs

-- without the inner ones that have no child left
abbrev pub unfinished : List Frame → List Frame
unfinished [] = []
unfinished (f ∷ fs) = if nat_lt f.last f.child then unfinished fs else f ∷ fs

-- the innermost frame past its child `at`
abbrev pub advanced : ℕ → ℕ → List Frame → List Frame
advanced at last [] = []
advanced at last (f ∷ fs) = if nat_eq f.child at then record { pre = f.pre; child = last + 1; last = f.last } ∷ fs else f ∷ fs

abbrev pub with_frame : Bool → Frame → List Frame → List Frame
with_frame true f fs = f ∷ fs
with_frame false f fs = fs

-- the next row: a child, or the first row of the context
abbrev pub next_of : List Frame → Option ℕ → Option ℕ
next_of [] first = first
next_of (f ∷ fs) first = Some (earlier first f.child)

abbrev pub any_frame : (Frame → Bool) → List Frame → Bool
any_frame p [] = false
any_frame p (f ∷ fs) = p f || any_frame p fs

-- what is known of a frame where all rows below `from` are done, and the frame inside it ends at `bound`
pub record FrameOk (lines : List (Line TextId)) (from bound : ℕ) (f : Frame) : Type 0 where
  pub in_rows : f.pre < length lines
  pub last : f.last ≡ f.pre + (line_in lines f.pre).size
  pub before : f.pre < from
  pub later : from ≤ f.child
  pub beyond : bound < f.child
  pub wider : bound ≤ f.last
  pub kid : f.child ≤ f.last → child lines f.pre f.child ≡ true
  pub none : (w : ℕ) → from ≤ w → w < f.child → child lines f.pre w ≡ false
  pub inside : (w : ℕ) → from ≤ w → w < f.child → w + (line_in lines w).size < f.child

abbrev pub FramesOk : List (Line TextId) → ℕ → ℕ → List Frame → Type 0
FramesOk lines from bound [] = Unit {0}
FramesOk lines from bound (f ∷ fs) = FrameOk lines from bound f × FramesOk lines from f.last fs

-- the rows still to come that are children of a row of the context are those of the frames, and those
-- of the rows of the context that are still to come
pub record KidsAhead (lines : List (Line TextId)) (rows rest : List ℕ) (frames : List Frame) (from : ℕ) : Type 0 where
  pub comes : Comes rows rest from (length lines)
  pub frames_ok : FramesOk lines from 0 frames
  pub kids : (w : ℕ) → from ≤ w → any (λ c. child lines c w) rows ≡ (any_frame (λ f. child lines f.pre w) frames || any (λ c. child lines c w) rest)
