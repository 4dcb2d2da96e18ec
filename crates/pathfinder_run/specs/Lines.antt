-- The line that is written to the diagnosis for a status (own rule).
use Rattle.std.specs.Prelude.{ℕ, List, [], ◌++◌, codes, decimal, Option, Some, None, ◌⊎◌}
use Rattle.io_edge.specs.Causes.{Rose}
use Rattle.io_edge.specs.Sinks.{TakesOf, TakesPrefix}
use Rattle.xq_base.specs.declared.code.Code.{Code}
use Rattle.xq_base.specs.Codes.{name_of}
use Rattle.pathfinder_run.specs.declared.status.Status.{Status}
use Rattle.pathfinder_run.specs.declared.status.Status.TheVariants as s
use Rattle.pathfinder_run.specs.declared.status.DocFault.{DocFault}
use Rattle.pathfinder_run.specs.declared.status.DocFault.TheVariants as d
use Rattle.pathfinder_run.specs.Words.{word_at}

-- a code, and its place where it has one
abbrev pub coded : Code → Option ℕ → List ℕ
coded code None = name_of code ++ codes "\n"
coded code (Some place) = name_of code ++ codes " at " ++ decimal place ++ codes "\n"

abbrev pub named : List ℕ → List ℕ → List ℕ
named text word = text ++ word ++ codes "\n"

abbrev pub too_large : List (List ℕ) → Option ℕ → List ℕ
too_large words None = codes "too large: more than 16 documents\n"
too_large words (Some k) = named (codes "too large: ") (word_at words k)

abbrev pub about : List ℕ → List ℕ → List ℕ
about word text = codes "document " ++ word ++ text

-- why a document is refused
abbrev pub refused : List ℕ → DocFault → List ℕ
refused word d.NotWellFormed = about word (codes " is not well-formed\n")
refused word d.Unsupported = about word (codes " is unsupported\n")
refused word d.TooDeep = about word (codes " is too deep\n")

abbrev pub line : List (List ℕ) → Status → List ℕ
line words s.Done = []
line words (s.Static code place) = coded code place
line words (s.Dynamic code place) = coded code place
line words (s.DocRefused k kind) = refused (word_at words k) kind
line words (s.ReadFault k) = named (codes "read fault: ") (word_at words k)
line words s.WriteFault = codes "write fault\n"
line words s.Usage = codes "usage: pathfinder run|check|plan|stats|shred|gen QUERY [DOC]...\n"
line words s.NoMemory = codes "want of memory\n"
line words (s.TooLarge k) = too_large words k

-- the whole line is taken, or a prefix of it where the count of faults rose
abbrev pub Said : ℕ → ℕ → Option (List ℕ) → Option (List ℕ) → List ℕ → Type 0
Said before now old new bytes = TakesOf old new bytes ⊎ (TakesPrefix old new bytes × Rose before now)
