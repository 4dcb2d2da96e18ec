use Rattle.std.proofs.Common.{◌≡◌, ◌+◌, drop, map}
use Rattle.core_meaning.specs.Erasure.{core_of, cores_of}
use Rattle.core_meaning.specs.Size.{nodes_of_all}
use Rattle.query_engine.proofs.size.+size.Given as goal

abbrev pub invariant-size_of_all-loop-part : goal.invariant-size_of_all-loop-part
invariant-size_of_all-loop-part l = l.so_far + nodes_of_all (cores_of (map (core_of l.texts) (drop l.part-index l.all))) ≡ nodes_of_all (cores_of (map (core_of l.texts) l.all))
