use Rattle.std.proofs.Common.{arith, sym, ◌≡◌, ◌<◌, length, false}
use Rattle.std.specs.Prelude.{slice_index_or}
use Rattle.staircase.specs.declared.seen.Seen.{Seen}
use Rattle.staircase.proofs.PartLaws.{in-at}
use Rattle.staircase.proofs.TaskLaws.{row-found_at, no-row}
use Rattle.staircase.proofs.tasks.own_row.Goals.{else-place-seen-via-then-place-seen+else-seen-place, else-place-seen-via-else-place-seen}
use Rattle.staircase.proofs.tasks.own_row.Goals as goal

pub returns-then-seen-place-clause-found : goal.returns-then-seen-place-clause-found
returns-then-seen-place-clause-found c = sym (row-found_at c.args.seen.now c.place_of-place.result c.args.pre _ c.requires.rising (omega arith) c.if-seen-place.true)

pub returns-then-seen-place-clause-small : goal.returns-then-seen-place-clause-small
returns-then-seen-place-clause-small c = c.requires.small _ (in-at c.args.seen.now c.place_of-place.result _ (omega arith))

pub returns-clause-found : goal.returns-clause-found
returns-clause-found c =
    let none : Seen = record { pre = 0; last = 0; level = 0; element = false; node = false; passes = false } in
    let other : c.place_of-place.result < length c.args.seen.now → (slice_index_or c.args.seen.now c.place_of-place.result none).pre ≡ c.args.pre → ⊥ =
    elim c.else-place-seen.branch [
      | else-place-seen-via-then-place-seen+else-seen-place w ↦ λ l e. w.if-seen-place.false e
      | else-place-seen-via-else-place-seen w ↦ λ l e. omega (arith, w.if-place-seen.false)
    ] in
    sym (no-row c.args.seen.now c.args.pre c.place_of-place.result none c.requires.rising (c.place_of-place.ensures.place c.requires.rising) other)

pub returns-then-seen-place-clause-there : goal.returns-then-seen-place-clause-there
returns-then-seen-place-clause-there c = (in-at c.args.seen.now c.place_of-place.result _ (omega arith), c.if-seen-place.true)
