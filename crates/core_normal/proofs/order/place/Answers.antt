use Rattle.std.proofs.Common.{◌≡◌, refl, sym, ap, ◌∙◌, get_or}
use Rattle.core_normal.specs.declared.order.Mark.TheVariants as mark_
use Rattle.core_normal.proofs.Ordering.{left_placed, place_walks}
use Rattle.core_normal.proofs.order.place.Goals as goal

pub returns-in_ok-push-in-Entered-clause-sound : goal.returns-in_ok-push-in-Entered-clause-sound
returns-in_ok-push-in-Entered-clause-sound c =
    let entered : get_or c.args.walk.now.marks.items c.args.k mark_.Placed ≡ mark_.Entered =
    sym (c.mark_at.ensures ∙ ap (λ xs. get_or xs c.args.k mark_.Placed) c.as_slice.ensures.value) ∙ c.in-Entered.is in
    λ h. place_walks c.args.walk.now _ c.args.k entered refl c.in_ok-push-in-Entered.ensures.items h

pub returns-in_ok-push-in-Entered-clause-less : goal.returns-in_ok-push-in-Entered-clause-less
returns-in_ok-push-in-Entered-clause-less c =
    let entered : get_or c.args.walk.now.marks.items c.args.k mark_.Placed ≡ mark_.Entered =
    sym (c.mark_at.ensures ∙ ap (λ xs. get_or xs c.args.k mark_.Placed) c.as_slice.ensures.value) ∙ c.in-Entered.is in
    λ weight. left_placed weight c.args.walk.now.marks.items c.args.k entered
