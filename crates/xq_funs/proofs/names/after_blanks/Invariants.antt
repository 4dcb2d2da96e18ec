use denote.Shadow.{shadow}
use denote.Text.{Utf8}
use Rattle.std.proofs.Common.{◌≡◌, length}
use Rattle.xq_base.specs.Texts.{trimmed_start}
use Rattle.xq_funs.proofs.names.after_blanks.Given as goal

abbrev pub invariant-loop-rest : goal.invariant-loop-rest
invariant-loop-rest l = (trimmed_start l.rest ≡ trimmed_start l.text) × shadow (Utf8 l.rest)

abbrev pub decreases-loop-rest : goal.decreases-loop-rest
decreases-loop-rest l = length l.rest
