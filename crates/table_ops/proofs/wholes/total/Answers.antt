use Rattle.std.proofs.Common.{◌≡◌, ◌∙◌, ◌+◌, ◌+ℤ◌, ap, arith, drop, to_z, of_z}
use Rattle.std.specs.Int.{w128}
use Rattle.std.proofs.lemmas.Int.{ints}
use Rattle.xq_base.specs.Answers.{with_value}
use Rattle.table_ops.specs.Wholes.{atoms_in, total_of}
use Rattle.table_ops.proofs.WholeLaws.{total_turn, total_stop, total_end}
use Rattle.table_ops.proofs.wholes.total.Goals as goal

pub add-requires-clause-low : goal.add-requires-clause-low
add-requires-clause-low c = omega (arith, ints, c.loop-place.invariant.1, c.loop-place-test.true, c.requires)

pub add-requires-clause-high : goal.add-requires-clause-high
add-requires-clause-high c = omega (arith, ints, c.loop-place.invariant.2, c.loop-place-test.true, c.requires)

pub returns-in-Err : goal.returns-in-Err
returns-in-Err c = λ texts. total_stop texts c.args.atoms.now c.loop-place.place _ _ c.in-Err.code c.loop-place-test.true (c.in-Err.ensures.sum texts) (c.loop-place.invariant.0 texts)

pub loop-place-preserved : goal.loop-place-preserved
loop-place-preserved c =
    let same : to_z w128 (of_z w128 c.in-Ok.sum) ≡ c.in-Ok.sum =
    omega (arith, ints, c.in-Ok.ensures.low, c.in-Ok.ensures.high, c.loop-place.invariant.1, c.loop-place.invariant.2, c.loop-place-test.true, c.requires) in (
      λ texts. ap (λ s. with_value (λ r. s +ℤ r) (total_of (atoms_in texts (drop (c.loop-place.place + 1) c.args.atoms.now)))) same
          ∙ total_turn texts c.args.atoms.now c.loop-place.place _ _ c.in-Ok.sum c.loop-place-test.true (c.in-Ok.ensures.sum texts) (c.loop-place.invariant.0 texts),
      omega (arith, ints, c.loop-place.invariant.1, c.in-Ok.ensures.low),
      omega (arith, ints, c.loop-place.invariant.2, c.in-Ok.ensures.high),
    )

pub returns : goal.returns
returns c = λ texts. total_end texts c.args.atoms.now c.loop-place.place _ c.loop-place-test.false (c.loop-place.invariant.0 texts)
