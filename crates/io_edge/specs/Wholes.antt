-- What reading a whole file gives (own rules).
use Rattle.std.specs.Prelude.{ℕ, ◌≡◌, ◌≤◌, ◌<◌, List, [], ◌++◌, length, Option, Some, None, Result, Ok, Err}
use Rattle.std.specs.declared.vec.Vec.{Vec}
use Rattle.std.specs.declared.alloc.Global.{Global}
use Rattle.io_edge.specs.Shelves.{Files, Names, AppendsName, MayAppendName}
use Rattle.io_edge.specs.declared.whole.ReadErr.{ReadErr}
use Rattle.io_edge.specs.declared.whole.ReadErr.TheVariants as e

-- the whole file where it is within the limit, too large exactly where it isn't; a missing file is a fault
abbrev pub WholeOf : Option (List ℕ) → ℕ → Result (Vec ℕ Global) ReadErr → Type 0
WholeOf (Some file) limit (Ok v) = (v.items ≡ file) × (length file ≤ limit)
WholeOf (Some file) limit (Err e.TooLarge) = limit < length file
WholeOf None limit (Ok v) = ⊥
WholeOf None limit (Err e.TooLarge) = ⊥
WholeOf file limit (Err e.ReadFault) = Unit {0}
WholeOf file limit (Err e.NoMemory) = Unit {0}

-- the same of the file of a name, where the files are told
abbrev pub ReadsWhole : Option Files → List ℕ → ℕ → Result (Vec ℕ Global) ReadErr → Type 0
ReadsWhole None name limit result = Unit {0}
ReadsWhole (Some files) name limit result = WholeOf (files name) limit result

-- the name is asked for once; a fault may leave it out
abbrev pub AsksWhole : Option Names → Option Names → List ℕ → Result (Vec ℕ Global) ReadErr → Type 0
AsksWhole old new name (Ok v) = AppendsName old new name
AsksWhole old new name (Err e.TooLarge) = AppendsName old new name
AsksWhole old new name (Err e.NoMemory) = AppendsName old new name
AsksWhole old new name (Err e.ReadFault) = MayAppendName old new name

-- what came and what is left are as before, and no bytes come only where none were left
abbrev pub TakesFrom : List ℕ → Option (List ℕ) → List ℕ → List ℕ → ℕ → Type 0
TakesFrom old None before after count = ⊥
TakesFrom old (Some rest) before after count = (before ++ old ≡ after ++ rest) × (count ≡ 0 → old ≡ [])

-- the next bytes behind those that came before, too large only where all are more than the limit
abbrev pub ReadsOn : Option (List ℕ) → Option (List ℕ) → List ℕ → List ℕ → ℕ → Result ℕ ReadErr → Type 0
ReadsOn None new before after limit result = Unit {0}
ReadsOn (Some old) new before after limit (Ok count) = TakesFrom old new before after count
ReadsOn (Some old) new before after limit (Err e.TooLarge) = limit < length (before ++ old)
ReadsOn (Some old) new before after limit (Err e.ReadFault) = Unit {0}
ReadsOn (Some old) new before after limit (Err e.NoMemory) = Unit {0}

-- what came and what is left are the file of the name, where the files are told
abbrev pub LeftOf : Option Files → List ℕ → List ℕ → Option (List ℕ) → Type 0
LeftOf None name bytes left = Unit {0}
LeftOf (Some files) name bytes None = ⊥
LeftOf (Some files) name bytes (Some rest) = files name ≡ Some (bytes ++ rest)
