use Rattle.std.proofs.Common.{drop, None}
use Rattle.core_normal.specs.Making.{SoFar}
use Rattle.core_normal.specs.Prologue.{normed_prolog, prolog_rest}
use Rattle.core_normal.proofs.maker.Maker.prolog.Given as goal

abbrev pub invariant-loop-declaration : goal.invariant-loop-declaration
invariant-loop-declaration g l =
    SoFar l.self.bodies.now l.fn.state None (normed_prolog l.self.bodies.now l.declarations l.main) (prolog_rest l.self.bodies.now l.main l.values.items (drop l.declaration-index l.declarations)) l.state
