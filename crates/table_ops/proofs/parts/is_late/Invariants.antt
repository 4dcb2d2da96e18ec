use Rattle.std.proofs.Common.{◌≡◌, drop, false}
use Rattle.table_ops.specs.Contents.{late_after}
use Rattle.table_ops.proofs.parts.is_late.Given as goal

abbrev pub invariant-loop-part : goal.invariant-loop-part
invariant-loop-part l = late_after l.seen.other l.seen.run l.seen.text (drop l.part-index l.parts) ≡ late_after false false false l.parts
