-- Exit statuses (own rule).
use Rattle.std.specs.Prelude.{ℕ}
use Rattle.pathfinder_run.specs.declared.status.Status.{Status}
use Rattle.pathfinder_run.specs.declared.status.Status.TheVariants as s

abbrev pub code_of : Status → ℕ
code_of s.Done = 0
code_of (s.Static code place) = 1
code_of (s.Dynamic code place) = 2
code_of (s.DocRefused word kind) = 3
code_of (s.ReadFault word) = 4
code_of s.WriteFault = 5
code_of s.Usage = 6
code_of s.NoMemory = 7
code_of (s.TooLarge word) = 9
