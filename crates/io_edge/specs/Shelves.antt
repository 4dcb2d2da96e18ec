-- What a shelf of files gives (own rules).
use Rattle.std.specs.Prelude.{ℕ, ◌≡◌, ◌≤◌, List, [], ◌∷◌, ◌++◌, ◌⊎◌, length, take, Option, Some, None, Result, Ok, Err}
use Rattle.io_edge.specs.declared.edge.Failed.{Failed}

-- the bytes of a name's file, where it has one; names are the bytes of their texts
abbrev pub Files : Type 0
Files = List ℕ → Option (List ℕ)

-- names in the order in which they were asked for
abbrev pub Names : Type 0
Names = List (List ℕ)

-- an Ok makes the whole file what is left, where the files are told
abbrev pub Opens : Option Files → Option (List ℕ) → List ℕ → Result (Unit {0}) Failed → Type 0
Opens None left name result = Unit {0}
Opens (Some files) left name (Ok done) = (file : List ℕ) × (files name ≡ Some file) × (left ≡ Some file)
Opens (Some files) left name (Err e) = Unit {0}

-- the name comes to those asked for, where they are told; whether they are told stays
abbrev pub AppendsName : Option Names → Option Names → List ℕ → Type 0
AppendsName None new name = new ≡ None
AppendsName (Some old) new name = new ≡ Some (old ++ name ∷ [])

-- the names asked for are as before, or the name came to them; whether they are told stays
abbrev pub MayAppendName : Option Names → Option Names → List ℕ → Type 0
MayAppendName None new name = new ≡ None
MayAppendName (Some old) new name = (new ≡ Some old) ⊎ (new ≡ Some (old ++ name ∷ []))

-- an Ok appends the name to those asked for; a Failed may leave it out
abbrev pub Asks : Option Names → Option Names → List ℕ → Result (Unit {0}) Failed → Type 0
Asks old new name (Ok done) = AppendsName old new name
Asks old new name (Err e) = MayAppendName old new name

-- the next bytes of what is left come into the front of the buffer; none only where nothing is left
abbrev pub ReadsFrom : List ℕ → Option (List ℕ) → ℕ → List ℕ → Type 0
ReadsFrom old None n buf = ⊥
ReadsFrom old (Some new) n buf = (old ≡ take n buf ++ new) × (n ≡ 0 → old ≡ [])

-- where what is left isn't told, nothing is said
abbrev pub ReadsTold : Option (List ℕ) → Option (List ℕ) → ℕ → List ℕ → Type 0
ReadsTold None new n buf = Unit {0}
ReadsTold (Some old) new n buf = ReadsFrom old new n buf

-- the number of bytes is at most the buffer's length; after a Failed nothing is known of what is left
abbrev pub Reads : Option (List ℕ) → Option (List ℕ) → Result ℕ Failed → List ℕ → Type 0
Reads old new (Ok n) buf = (n ≤ length buf) × ReadsTold old new n buf
Reads old new (Err e) buf = Unit {0}
