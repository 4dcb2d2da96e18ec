-- Refusals, and what is known of a builder when a part of a document was read or refused.
use Rattle.std.specs.Prelude.{ℕ, ◌≡◌, ◌+◌, ◌≤◌, true, false, List, [], length, Some, None}
use Rattle.xq_base.specs.declared.item.TextId.{TextId}
use Rattle.doc_table.specs.Spine.{Spine, rows_in}
use Rattle.doc_shred.specs.declared.fault.Fault.{Fault}
use Rattle.doc_shred.specs.declared.fault.Fault.TheVariants.{Memory, Malformed}
use Rattle.doc_shred.specs.declared.refusal.ShredFault.{ShredFault}
use Rattle.doc_shred.specs.declared.refusal.ShredFault.TheVariants.{NotWellFormed, Unsupported, TooDeep, NoMemory}
use Rattle.doc_shred.specs.Reading as r
use Rattle.doc_shred.specs.Walk as w
use Rattle.doc_shred.specs.Standing.{Texts, seen, IsLater, IsState}

abbrev pub refusal_of : Fault → ShredFault
refusal_of Memory = NoMemory
refusal_of Malformed = NotWellFormed

-- What may stand between the first parts of the prolog and the root element was read.
pub record TypeRead (texts : Texts) (old new : Spine TextId) (bytes rest : List ℕ) : Type 0 where
  pub state : IsState [] new
  pub room : rows_in new + length rest ≤ rows_in old + length bytes
  pub fewer : length rest ≤ length bytes
  pub plain : w.comes_to_subset (r.doctype bytes) ≡ false
  pub reads : (final : Texts) → IsLater texts final → w.typed bytes (seen final old) ≡ Some (seen final new, rest)

-- why it wasn't read
abbrev pub TypeRefused : Texts → Spine TextId → List ℕ → ShredFault → Type 0
TypeRefused texts old bytes NotWellFormed = (w.comes_to_subset (r.doctype bytes) ≡ false) × ((final : Texts) → IsLater texts final → w.typed bytes (seen final old) ≡ None)
TypeRefused texts old bytes Unsupported = w.comes_to_subset (r.doctype bytes) ≡ true
TypeRefused texts old bytes TooDeep = ⊥
TypeRefused texts old bytes NoMemory = Unit {0}

-- The prolog was read into an empty document.
pub record PrologRead (texts : Texts) (new : Spine TextId) (text rest : List ℕ) : Type 0 where
  pub state : IsState [] new
  pub room : rows_in new + length rest ≤ 1 + length text
  pub plain : w.is_unsupported text ≡ false
  pub reads : (final : Texts) → IsLater texts final → w.prolog text ≡ Some (seen final new, rest)

abbrev pub PrologRefused : List ℕ → ShredFault → Type 0
PrologRefused text NotWellFormed = (w.is_unsupported text ≡ false) × (w.prolog text ≡ None)
PrologRefused text Unsupported = w.is_unsupported text ≡ true
PrologRefused text TooDeep = ⊥
PrologRefused text NoMemory = Unit {0}

-- A whole document was read.
pub record DocumentRead (texts : Texts) (new : Spine TextId) (text : List ℕ) : Type 0 where
  pub state : IsState [] new
  pub plain : w.is_unsupported text ≡ false
  pub reads : (final : Texts) → IsLater texts final → w.document text ≡ Some (seen final new)

abbrev pub DocumentRefused : List ℕ → ShredFault → Type 0
DocumentRefused text NotWellFormed = (w.is_unsupported text ≡ false) × (w.document text ≡ None)
DocumentRefused text Unsupported = w.is_unsupported text ≡ true
DocumentRefused text TooDeep = ⊥
DocumentRefused text NoMemory = Unit {0}
