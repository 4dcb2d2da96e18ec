use Rattle.std.proofs.Common.{◌≡◌, ◌++◌, ◌∷◌, [], map, refl, sym, ap, ◌∙◌}
use Rattle.table_ops.proofs.Chaining.{after_push, linked_once}
use Rattle.table_ops.proofs.Lists.{joined_to, to_nothing}
use Rattle.table_ops.proofs.chains.follow.Goals as goal

pub loop-at-init : goal.loop-at-init
loop-at-init c = λ ps qs h k. ap (λ z. c.args.out.now.items ++ map (λ p. (c.args.left, p)) z) (linked_once c.args.next.now c.args.from ps qs h k)

pub loop-at-preserved : goal.loop-at-preserved
loop-at-preserved c = λ ps qs h k.
    let pushed : c.push.new.self.items ≡ c.loop-at.out.items ++ (c.args.left, c.loop-at.at) ∷ [] = after_push c.push.result _ _ _ c.if-is_err.ensures.value c.push.ensures.items in
    ap (λ z. z ++ map (λ p. (c.args.left, p)) ps) pushed
    ∙ joined_to c.loop-at.out.items ((c.args.left, c.loop-at.at) ∷ []) (map (λ p. (c.args.left, p)) ps)
    ∙ c.loop-at.invariant (c.loop-at.at ∷ ps) qs (refl, c.loop-at-test.true, h) k

pub returns : goal.returns
returns c = λ ps h. sym (to_nothing c.loop-at.out.items) ∙ c.loop-at.invariant [] ps c.loop-at-test.false h
