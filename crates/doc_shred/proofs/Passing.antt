-- Faults that are passed on.
use Rattle.std.proofs.Common.{◌≡◌, Option, None}
use Rattle.doc_shred.specs.declared.fault.Fault.{Fault}
use Rattle.doc_shred.specs.declared.fault.Fault.TheVariants.{Memory, Malformed}
use Rattle.doc_shred.specs.Outcomes.{IsRefused}

pub passed_on : {B D : Type 0} (read : Option B) (other : Option D) (error : Fault) → IsRefused read error → (read ≡ None → other ≡ None) → IsRefused other error
passed_on read other Memory h k = tt
passed_on read other Malformed h k = k h
