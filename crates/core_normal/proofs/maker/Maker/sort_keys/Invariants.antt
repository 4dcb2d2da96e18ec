use Rattle.std.proofs.Common.{drop}
use Rattle.core_normal.specs.Making.{SoFar}
use Rattle.core_normal.specs.Sorting.{normed_keys}
use Rattle.core_normal.proofs.SortsMade.{keys_rest}
use Rattle.core_normal.proofs.maker.Maker.sort_keys.Given as goal

abbrev pub invariant-loop-key : goal.invariant-loop-key
invariant-loop-key g l = SoFar l.self.bodies.now l.fn.state l.focus (normed_keys l.self.bodies.now l.keys) (keys_rest l.self.bodies.now l.made (drop l.key-index l.keys)) l.state
