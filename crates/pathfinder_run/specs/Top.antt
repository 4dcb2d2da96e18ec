-- What a call answers.
use Rattle.std.specs.Prelude.{ℕ, ◌≡◌, ◌<◌, ◌≤◌, ◌⊎◌, List, ◌∷◌, ◌++◌, take, length, Option, Some, None, Result, Ok, Err}
use Rattle.std.specs.declared.vec.Vec.{Vec}
use Rattle.std.specs.declared.alloc.Global.{Global}
use Rattle.xq_base.specs.declared.code.Code.{Code}
use Rattle.io_edge.specs.Causes.{Rose}
use Rattle.io_edge.specs.Shelves.{Files, Names}
use Rattle.io_edge.specs.Sinks.{TakesOf, TakesPrefix}
use Rattle.doc_table.specs.OtherTexts.{Grows}
use Rattle.core_meaning.specs.declared.node.Core.{Core}
use Rattle.core_meaning.specs.Erasure.{Texts}
use Rattle.query_engine.specs.Answering.{Accepts, IsRefused, IsCompiled, Meaning, Refuses, Fails, Writes, Means}
use Rattle.query_engine.specs.Evaluated.{CanEvaluate}
use Rattle.doc_table.specs.NodeRules.{Docs}
use Rattle.pathfinder_run.specs.declared.status.Status.{Status}
use Rattle.pathfinder_run.specs.declared.status.Status.TheVariants as s
use Rattle.pathfinder_run.specs.Words.{InForm, AreWords, query_place, most_documents}
use Rattle.pathfinder_run.specs.Inputs.{query_limit, IsWithin, IsLong, AreDocuments, StopsAt}

-- the query's text and all documents are read, the rules accept them, and the text has this meaning over the documents
pub record IsRun (files : Option Files) (query : List ℕ) (names : List (List ℕ)) (meaning : Meaning) : Type 0 where
  pub text : List ℕ
  pub docs : Docs
  pub read : IsWithin files query_limit query text
  pub documents : AreDocuments files names docs
  pub means : Means docs text meaning

-- the static rules refuse the query's text
pub record IsRefusal (files : Option Files) (query : List ℕ) (code : Code) (place : Option ℕ) : Type 0 where
  pub text : List ℕ
  pub read : IsWithin files query_limit query text
  pub refused : IsRefused text code place

-- the static rules accept the query's text, and a document isn't kept
pub record IsStop (files : Option Files) (query : List ℕ) (names : List (List ℕ)) (status : Status) : Type 0 where
  pub text : List ℕ
  pub read : IsWithin files query_limit query text
  pub accepted : Accepts text
  pub stops : StopsAt files names status

-- why there is no answer: the query's file, its text, a document, or an evaluation
abbrev pub NoAnswer : Option Files → List ℕ → List (List ℕ) → Status → Type 0
NoAnswer files query names (s.Static code place) = IsRefusal files query code place
NoAnswer files query names (s.Dynamic code place) = IsRun files query names (Fails code place)
NoAnswer files query names (s.DocRefused word kind) = IsStop files query names (s.DocRefused word kind)
NoAnswer files query names (s.ReadFault word) = (word ≡ query_place) ⊎ IsStop files query names (s.ReadFault word)
NoAnswer files query names (s.TooLarge word) = ((word ≡ Some query_place) × IsLong files query_limit query) ⊎ IsStop files query names (s.TooLarge word)
NoAnswer files query names s.NoMemory = Unit {0}
NoAnswer files query names s.Done = ⊥
NoAnswer files query names s.WriteFault = ⊥
NoAnswer files query names s.Usage = ⊥

-- the answer of a query over the documents of these names
abbrev pub Replies : Option Files → List ℕ → List (List ℕ) → Result (Vec ℕ Global) Status → Type 0
Replies files query names (Ok bytes) = IsRun files query names (Writes bytes.items)
Replies files query names (Err status) = NoAnswer files query names status

-- Where words are in form, what the status and the answer's sink say. The texts and documents are those of the told files;
-- over a shelf that doesn't tell its files, this says that there are such ones.
abbrev pub Answered : Option Files → List ℕ → List (List ℕ) → Option (List ℕ) → Option (List ℕ) → Status → Type 0
Answered files query names old new s.Done = (bytes : List ℕ) × IsRun files query names (Writes bytes) × TakesOf old new bytes
Answered files query names old new s.WriteFault = (bytes : List ℕ) × IsRun files query names (Writes bytes) × TakesPrefix old new bytes
Answered files query names old new (s.TooLarge None) = (most_documents < length names) × (new ≡ old)
Answered files query names old new status = NoAnswer files query names status × (new ≡ old)

-- neither a fault nor want of memory brings the status about
abbrev pub IsMeant : Status → Type 0
IsMeant (s.ReadFault word) = ⊥
IsMeant s.WriteFault = ⊥
IsMeant s.NoMemory = ⊥
IsMeant _ = Unit {0}

-- the status of a meaning that isn't refused
abbrev pub IsStatusOf : Meaning → Status → Type 0
IsStatusOf (Refuses code place) status = ⊥
IsStatusOf (Fails code place) status = status ≡ s.Dynamic code place
IsStatusOf (Writes bytes) status = status ≡ s.Done

-- the status that the told files mean, in the order in which it is decided: the number of documents, the query's file, its
-- text, the documents, the meaning over them
pub data Deserves (files : Files) (query : List ℕ) (names : List (List ℕ)) : Status → Type 0 where
  too_many : most_documents < length names → Deserves files query names (s.TooLarge None)
  too_long : length names ≤ most_documents → IsLong (Some files) query_limit query → Deserves files query names (s.TooLarge (Some query_place))
  refused : length names ≤ most_documents → (code : Code) (place : Option ℕ) → IsRefusal (Some files) query code place → Deserves files query names (s.Static code place)
  stopped : length names ≤ most_documents → (status : Status) → IsMeant status → IsStop (Some files) query names status → Deserves files query names status
  ran : length names ≤ most_documents → (meaning : Meaning) (status : Status) → IsStatusOf meaning status → IsRun (Some files) query names meaning → Deserves files query names status

-- where the files are told, their status is answered, unless a fault or want of memory comes
abbrev pub Exactly : Option Files → List (List ℕ) → Status → Type 0
Exactly told words result = (files : Files) (query : List ℕ) (names : List (List ℕ)) (status : Status) → told ≡ Some files → AreWords words query names → Deserves files query names status → IsMeant result → result ≡ status

-- nothing is taken under any other status than these two
abbrev pub Quiet : Option (List ℕ) → Option (List ℕ) → Status → Type 0
Quiet old new s.Done = Unit {0}
Quiet old new s.WriteFault = Unit {0}
Quiet old new _ = new ≡ old

-- a read fault has its cause in the shelf, a write fault in the answer's sink
abbrev pub HasReason : ℕ → ℕ → ℕ → ℕ → Status → Type 0
HasReason shelf_before shelf_now out_before out_now (s.ReadFault word) = Rose shelf_before shelf_now
HasReason shelf_before shelf_now out_before out_now s.WriteFault = Rose out_before out_now
HasReason shelf_before shelf_now out_before out_now _ = Unit {0}

-- Usage is answered exactly where the words aren't in form
pub record UsageExactly (words : List (List ℕ)) (status : Status) : Type 0 where
  pub only : status ≡ s.Usage → InForm words → ⊥
  pub always : (InForm words → ⊥) → status ≡ s.Usage

-- that there are too many documents is answered exactly where there are
pub record CountExactly (names : List (List ℕ)) (status : Status) : Type 0 where
  pub only : status ≡ s.TooLarge None → most_documents < length names
  pub always : most_documents < length names → status ≡ s.TooLarge None

-- these names come to those asked for, where they are told; whether they are told stays
abbrev pub AsksAll : Option Names → Option Names → List (List ℕ) → Type 0
AsksAll None new names = new ≡ None
AsksAll (Some old) new names = new ≡ Some (old ++ names)

-- some first ones of these names come to those asked for
abbrev pub AsksFirst : Option Names → Option Names → List (List ℕ) → Type 0
AsksFirst old new names = (n : ℕ) × (n ≤ length names) × AsksAll old new (take n names)

-- the names asked for in a call are first ones of the query's and the documents', and none where the words aren't in form
pub record AsksAtMost (words : List (List ℕ)) (old new : Option Names) : Type 0 where
  pub files : (query : List ℕ) (names : List (List ℕ)) → AreWords words query names → AsksFirst old new (query ∷ names)
  pub none : (InForm words → ⊥) → new ≡ old

-- a compiled query, or why there is none
abbrev pub TextFails : List ℕ → Status → Type 0
TextFails text (s.Static code place) = IsRefused text code place
TextFails text s.NoMemory = Unit {0}
TextFails text _ = ⊥

abbrev pub TextCompiled : List ℕ → Texts → Result Core Status → Type 0
TextCompiled text texts (Ok core) = (later : Texts) → Grows texts later → IsCompiled text later core × CanEvaluate later core
TextCompiled text texts (Err status) = TextFails text status

-- the bytes of a text's value over some documents, or its failure
abbrev pub ValueFails : Docs → List ℕ → Status → Type 0
ValueFails docs text (s.Dynamic code place) = Means docs text (Fails code place)
ValueFails docs text s.NoMemory = Unit {0}
ValueFails docs text _ = ⊥

abbrev pub ValueGiven : Docs → List ℕ → Result (Vec ℕ Global) Status → Type 0
ValueGiven docs text (Ok bytes) = Means docs text (Writes bytes.items)
ValueGiven docs text (Err status) = ValueFails docs text status
