use Rattle.std.proofs.Common.{arith, sym, ◌≡◌, ◌<◌, length}
use Rattle.std.specs.Prelude.{slice_index_or}
use Rattle.staircase.specs.Chains.{no_seen}
use Rattle.staircase.proofs.LinkLaws.{place-found_at, no-place}
use Rattle.staircase.proofs.chains.own_place.Goals.{else-place-seen-via-then-place-seen+else-seen-place, else-place-seen-via-else-place-seen}
use Rattle.staircase.proofs.chains.own_place.Goals as goal

pub returns-then-seen-place-clause-found : goal.returns-then-seen-place-clause-found
returns-then-seen-place-clause-found c = sym (place-found_at c.args.seen.now c.place_of-place.result c.args.pre _ c.requires.rising (omega arith) c.if-seen-place.true)

pub returns-clause-found : goal.returns-clause-found
returns-clause-found c =
    let other : c.place_of-place.result < length c.args.seen.now → (slice_index_or c.args.seen.now c.place_of-place.result no_seen).pre ≡ c.args.pre → ⊥ =
    elim c.else-place-seen.branch [
      | else-place-seen-via-then-place-seen+else-seen-place w ↦ λ l e. w.if-seen-place.false e
      | else-place-seen-via-else-place-seen w ↦ λ l e. omega (arith, w.if-place-seen.false)
    ] in
    sym (no-place c.args.seen.now c.args.pre c.place_of-place.result no_seen c.requires.rising (c.place_of-place.ensures.place c.requires.rising) other)
