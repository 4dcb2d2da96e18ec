-- What a function that may want memory answers, beside what its reading gives.
use Rattle.std.specs.Prelude.{◌≡◌, Option, Some, None, Result, Ok, Err}
use Rattle.doc_shred.specs.declared.fault.Fault.{Fault}
use Rattle.doc_shred.specs.declared.fault.Fault.TheVariants.{Memory, Malformed}

-- malformed exactly where nothing is read; want of memory says nothing
abbrev pub IsRefused : {B : Type 0} → Option B → Fault → Type 0
IsRefused read Malformed = read ≡ None
IsRefused read Memory = Unit {0}

-- the value that was read, seen so, or why there is none
abbrev pub IsRead : {A B : Type 0} → (A → B) → Option B → Result A Fault → Type 0
IsRead view read (Ok a) = read ≡ Some (view a)
IsRead view read (Err error) = IsRefused read error
