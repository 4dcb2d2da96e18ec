use Rattle.std.proofs.Common.{◌≡◌, ◌+◌, refl, sym, ap, ◌∙◌, length, get_or, arith}
use Rattle.std.proofs.lemmas.List.{length_push}
use Rattle.std.proofs.lemmas.Result.{IfOk-weaker}
use Rattle.std.specs.Vec.{with_item}
use Rattle.core_normal.specs.declared.order.Mark.TheVariants as mark_
use Rattle.core_normal.proofs.Ordering.{enter_less}
use Rattle.core_normal.proofs.order.enter.Goals as goal

pub returns-in_ok-called-in-New-clause-less : goal.returns-in_ok-called-in-New-clause-less
returns-in_ok-called-in-New-clause-less c =
    let walk = c.args.walk.now in
    let new : get_or walk.marks.items c.args.k mark_.Placed ≡ mark_.New = sym (c.mark_at.ensures ∙ ap (λ xs. get_or xs c.args.k mark_.Placed) c.as_slice.ensures.value) ∙ c.in-New.is in
    let pushed : length c.push.new.self.items ≡ length walk.turns.items + 1 = ap length c.in_ok-push-in-New.ensures.items ∙ length_push walk.turns.items _ in
    let called : length c.as_slice-in-New.result.now ≡ length c.in_ok-called-in-New.called.items = ap length c.as_slice-in-New.ensures.value in
    IfOk-weaker c.go_to.result _ _
    (λ u e.
    let turns : length c.go_to.new.turns.items ≡ (length walk.turns.items + 1) + length c.in_ok-called-in-New.called.items = omega (arith, e, pushed, called) in
    enter_less c.args.declarations.now c.args.places.now walk (record { marks = with_item walk.marks c.args.k mark_.Entered; turns = c.go_to.new.turns; order = walk.order }) c.args.k c.in_ok-called-in-New.called.items
    new refl c.in_ok-called-in-New.ensures turns)
    c.go_to.ensures
