use Rattle.std.proofs.Common.{◌≡◌, ◌++◌, drop, map}
use Rattle.doc_table.specs.OtherTexts.{Grows}
use Rattle.core_scope.specs.Open.{open_in}
use Rattle.core_scope.specs.Standing.{Lasting}
use Rattle.core_scope.specs.Matching.{values_before, values_for}
use Rattle.core_scope.specs.Pending.{pending_value}
use Rattle.core_scope.proofs.resolving.Resolver.values.Given as goal

abbrev pub invariant-loop-part : goal.invariant-loop-part
invariant-loop-part g l = record {
  names : open_in l.names ≡ open_in l.fn.names;
  keeps : Grows l.fn.pool l.pool;
  stands : Lasting l.pool (λ later. values_before later l.found (pending_value l.pending (values_for l.self.functions.now (open_in l.fn.names) (drop l.part-index l.parts))) ≡ values_for l.self.functions.now (open_in l.fn.names) l.parts);
}
