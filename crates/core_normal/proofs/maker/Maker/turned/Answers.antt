use Rattle.std.proofs.Common.{refl}
use Rattle.core_normal.specs.Held.{type_in}
use Rattle.core_normal.proofs.LoopsMade.{turned_for, turned_let}
use Rattle.core_normal.proofs.maker.Maker.turned.Goals as goal

pub returns-then-bind : goal.returns-then-bind
returns-then-bind g c =
    turned_for _ _ _ _ _ (λ t. type_in t c.maybe_type-ty.result) c.if-bind.true c.in_ok-value.ensures c.place-at.ensures c.maybe_type-ty.ensures c.in_ok-looped.ensures refl

pub returns : goal.returns
returns g c =
    turned_let _ _ _ _ _ (λ t. type_in t c.maybe_type-ty.result) c.if-bind.false c.in_ok-value.ensures c.place-at.ensures c.maybe_type-ty.ensures c.in_ok-turned.ensures refl
