-- Which calls on a shelf or a sink in memory fail, and how many bytes one passes (own rules).
use Rattle.std.specs.Prelude.{ℕ, ◌+◌, ◌-◌, ◌^◌, ◌≡◌, List, min, Contains, Result, IsErr}
use Rattle.io_edge.specs.declared.course.Course.{Course}
use Rattle.io_edge.specs.declared.shelf.MemShelf.{MemShelf}
use Rattle.io_edge.specs.declared.mem.MemSink.{MemSink}

-- the number of the call after so many, counted from 1; the last number of 64 bits stays
abbrev pub next_call : ℕ → ℕ
next_call calls = min (calls + 1) (2 ^ 64 - 1)

-- one more call was made; which calls fail and the most bytes of one stay
abbrev pub IsNextOf : Course → Course → Type 0
IsNextOf old new = new ≡ record old { calls = next_call old.calls }

-- the next call is among those that fail
abbrev pub NextFails : Course → Type 0
NextFails course = Contains course.failing.items (next_call course.calls)

-- one more call was made, and it failed where its number is among those that fail
pub record Goes {T E : Type 0} (old new : Course) (result : Result T E) : Type 0 where
  pub counted : IsNextOf old new
  pub failed : NextFails old → IsErr result

-- no call was made; these fail, and one passes at most so many bytes
pub record Starts (course : Course) (most : ℕ) (fails : List ℕ) : Type 0 where
  pub calls : course.calls ≡ 0
  pub failing : course.failing.items ≡ fails
  pub piece : course.piece ≡ most

-- the course of the calls on a shelf
abbrev pub shelf_course : MemShelf → Course
shelf_course s = s.course

-- the course of the calls on a sink
abbrev pub sink_course : MemSink → Course
sink_course s = s.course
