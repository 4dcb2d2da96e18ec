use Rattle.std.proofs.Common.{◌≡◌, ◌++◌, drop, map}
use Rattle.doc_table.specs.OtherTexts.{Grows}
use Rattle.core_scope.specs.Open.{open_in}
use Rattle.core_scope.specs.Standing.{Lasting}
use Rattle.core_scope.specs.Matching.{parts_before, parts_for}
use Rattle.core_scope.specs.Pending.{pending_run}
use Rattle.core_scope.proofs.resolving.Resolver.parts.Given as goal

abbrev pub invariant-loop-part : goal.invariant-loop-part
invariant-loop-part g l = record {
  names : open_in l.names ≡ open_in l.fn.names;
  keeps : Grows l.fn.pool l.pool;
  stands : Lasting l.pool (λ later. parts_before later l.found (pending_run l.pending (parts_for l.self.functions.now (open_in l.fn.names) (drop l.part-index l.parts))) ≡ parts_for l.self.functions.now (open_in l.fn.names) l.parts);
}
