use Rattle.std.proofs.Common.{◌<◌, ◌∙◌, length, sym, subst}
use Rattle.staircase.specs.Chains.{Below, Past}
use Rattle.staircase.proofs.LinkLaws.{nearest-jump}
use Rattle.staircase.proofs.links.nearest.Goals as goal

pub loop-place-preserved : goal.loop-place-preserved
loop-place-preserved c =
    let k = c.in-Some.k in
    let l : k < length c.args.links.now = subst (λ z. Below z (length c.args.links.now)) c.in-Some.is c.loop-place.invariant.within in
    let j = nearest-jump c.args.axis c.args.rows.now (length c.args.links.now) c.args.from k c.requires.order c.requires.within l
    (λ i p m. c.loop-place.invariant.past i (subst (λ z. Past z i) (sym c.in-Some.is) p) m)
    (sym c.ends_at.ensures ∙ c.if-ends_at.false) _ (c.requires.links.nearest k l) in
    record { within = j.within; past = j.past }
