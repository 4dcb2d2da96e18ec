use Rattle.std.proofs.Common.{◌≡◌, length}
use Rattle.xq_base.specs.Texts.{trimmed_start}
use Rattle.xq_funs.proofs.spaces.after_spaces.Given as goal

abbrev pub invariant-loop-rest : goal.invariant-loop-rest
invariant-loop-rest l = trimmed_start l.rest ≡ trimmed_start l.bytes

abbrev pub decreases-loop-rest : goal.decreases-loop-rest
decreases-loop-rest l = length l.rest
