use Rattle.std.proofs.Common.{◌≡◌, length}
use Rattle.core_meaning.specs.Erasure.{Texts, core_of}
use Rattle.core_normal.specs.Prologue.{with_globals}
use Rattle.core_normal.proofs.prolog.with_globals.Given as goal

abbrev pub decreases-loop-global : goal.decreases-loop-global
decreases-loop-global l = length l.left.items

abbrev pub invariant-loop-global : goal.invariant-loop-global
invariant-loop-global l = (t : Texts) → with_globals t 0 l.fn.globals.items (core_of t l.fn.e) ≡ with_globals t 0 l.left.items (core_of t l.core)
