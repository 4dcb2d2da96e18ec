use Rattle.core_normal.proofs.LastPlaces.{chain_place, signs_place, walk_place, primary_place, rooted_place, deep_place}
use Rattle.core_normal.proofs.places.+place.Goals as goal

pub returns-in-Chain : goal.returns-in-Chain
returns-in-Chain t c = λ x. chain_place x _ _ _ _ _ _ _ _ c.in-Chain.is c.get-operand.ensures c.as_slice-rights.ensures (c.place-inner.ensures x) c.level_place.ensures

pub returns-in-Signed : goal.returns-in-Signed
returns-in-Signed t c = λ x. signs_place x _ _ _ _ _ _ _ _ c.in-Signed.is c.get-plain.ensures c.as_slice-outer.ensures (c.place-inside.ensures x) c.signed_place.ensures

pub returns-in-Walk : goal.returns-in-Walk
returns-in-Walk t c = λ x. walk_place x _ _ _ _ _ _ _ _ c.in-Path.is c.as_slice-later.ensures c.in-Here.is c.in-Walk.is c.last_step.ensures

pub returns-in-Primary : goal.returns-in-Primary
returns-in-Primary t c =
    λ x. primary_place x _ _ _ _ _ _ _ _ _ _ _ c.in-Path.is c.as_slice-later.ensures c.in-Here.is c.in-Primary.is c.get-held.ensures c.as_slice-filters.ensures
    (c.place-held_place.ensures x) c.filtered_place-first.ensures c.last_step-in-Primary.ensures

pub returns-in-Root-start : goal.returns-in-Root-start
returns-in-Root-start t c = λ x. rooted_place x _ _ _ _ _ _ _ c.in-Path.is c.as_slice-later.ensures c.in-Root-start.is c.last_step-in-Root-start.ensures

pub returns-in-Deep : goal.returns-in-Deep
returns-in-Deep t c = λ x. deep_place x _ _ _ _ _ _ _ c.in-Path.is c.as_slice-later.ensures c.in-Deep.is c.last_step-in-Deep.ensures
