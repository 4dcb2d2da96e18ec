-- The exit status of each fault (own rule).
use Rattle.std.specs.Prelude.{ℕ}
use Rattle.table_bench.specs.declared.fault.Fault.{Fault}
use Rattle.table_bench.specs.declared.fault.Fault.TheVariants as f

-- the exit status of a fault
abbrev pub code_of : Fault → ℕ
code_of f.Read = 4
code_of f.Write = 5
code_of f.Usage = 6
code_of f.NoMemory = 7
code_of f.TooLarge = 9

-- the input has too many bytes
abbrev pub IsLarge : Fault → Type 0
IsLarge f.TooLarge = Unit {0}
IsLarge _ = ⊥
