use Rattle.std.proofs.Common.{refl}
use Rattle.core_normal.proofs.CallsMade.{held, inlined_made}
use Rattle.core_normal.proofs.maker.Maker.declared.Goals as goal

pub returns : goal.returns
returns g c =
    inlined_made c.args.self.now.bodies.now _ _ c.args.offset c.args.k c.args.args c.in_ok-template.template.now _
    (λ t. held t c.args.self.now.bodies.now.templates.items c.args.k c.in_ok-template.template.now c.in_ok-template.ensures) c.in_ok-core.ensures c.in_ok-state.ensures refl
