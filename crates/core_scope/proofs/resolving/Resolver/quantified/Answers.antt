use Rattle.std.proofs.Common.{ap, ◌∙◌, length}
use Rattle.core_scope.specs.Open.{open_in, left_to}
use Rattle.core_scope.proofs.Forming.{quantified_stands}
use Rattle.core_scope.proofs.Opening.{left_quants}
use Rattle.core_scope.proofs.resolving.Resolver.quantified.Goals as goal

pub returns-clause-stands : goal.returns-clause-stands
returns-clause-stands g c =
    quantified_stands c.args.self.now.functions.now (open_in c.args.names.now) c.quants.new.pool c.boxed.new.pool
    c.args.offset c.args.quantifier c.args.binds.now c.args.body.now c.in_ok-binds.binds c.in_ok-body.body (open_in c.quants.new.names)
    c.in_ok-binds.ensures.names c.in_ok-binds.ensures.stands c.boxed.ensures.keeps c.in_ok-body.ensures.stands

pub returns-clause-names : goal.returns-clause-names
returns-clause-names g c =
    c.in_ok-leave_to.ensures
    ∙ ap (λ m. left_to m (open_in c.boxed.new.names)) c.depth-mark.ensures
    ∙ ap (left_to (length ((open_in c.args.names.now).outer))) (c.in_ok-body.ensures.names ∙ c.in_ok-binds.ensures.names)
    ∙ left_quants c.args.binds.now (open_in c.args.names.now)
