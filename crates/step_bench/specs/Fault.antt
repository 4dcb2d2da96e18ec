-- The exit status of each fault (own rule).
use Rattle.std.specs.Prelude.{ℕ}
use Rattle.doc_shred.specs.declared.refusal.ShredFault.{ShredFault}
use Rattle.doc_shred.specs.declared.refusal.ShredFault.TheVariants as s
use Rattle.step_bench.specs.declared.fault.Fault.{Fault}
use Rattle.step_bench.specs.declared.fault.Fault.TheVariants as f

-- the exit status of a refusal: want of memory has its own
abbrev pub refused_code : ShredFault → ℕ
refused_code s.NoMemory = 7
refused_code s.NotWellFormed = 3
refused_code s.Unsupported = 3
refused_code s.TooDeep = 3

-- the exit status of a fault
abbrev pub code_of : Fault → ℕ
code_of (f.Refused e) = refused_code e
code_of f.Read = 4
code_of f.Write = 5
code_of f.Usage = 6
code_of f.NoMemory = 7
code_of f.TooLarge = 9

-- the document has too many bytes
abbrev pub IsLarge : Fault → Type 0
IsLarge f.TooLarge = Unit {0}
IsLarge _ = ⊥
