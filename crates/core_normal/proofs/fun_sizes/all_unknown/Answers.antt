use Rattle.std.proofs.Common.{◌+◌, sym, ap, ◌∙◌, subst, length}
use Rattle.std.proofs.lemmas.List.{length_push}
use Rattle.core_normal.specs.Settling.{AreUnknown}
use Rattle.core_normal.proofs.Settled.{unknown_more}
use Rattle.core_normal.proofs.fun_sizes.all_unknown.Goals as goal

pub loop-k-preserved : goal.loop-k-preserved
loop-k-preserved c = record {
  unknown =
      subst (λ hs. AreUnknown hs) (sym c.in_ok-push.ensures.items)
      (unknown_more c.loop-k.table.items (record { typed = c.new-typed.result; body = c.unknown-body.result }) c.loop-k.invariant.unknown (ap (λ a. a.is_known) c.unknown-body.ensures));
  count = ap length c.in_ok-push.ensures.items ∙ length_push c.loop-k.table.items _ ∙ ap (λ n. n + 1) c.loop-k.invariant.count;
}
