use Rattle.std.proofs.Common.{◌≡◌, drop}
use Rattle.std.specs.List.{list_any}
use Rattle.table_ops.specs.Contents.{is_attribute}
use Rattle.table_ops.proofs.parts.has_attribute.Given as goal

abbrev pub invariant-loop-part : goal.invariant-loop-part
invariant-loop-part l = list_any is_attribute (drop l.part-index l.parts) ≡ list_any is_attribute l.parts
