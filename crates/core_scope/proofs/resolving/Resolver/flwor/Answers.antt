use Rattle.std.proofs.Common.{ap, ◌∙◌, map, length}
use Rattle.core_scope.specs.Open.{open_in, left_to}
use Rattle.core_scope.specs.Matching.{node_for, key_for}
use Rattle.core_scope.proofs.Forming.{flwor_stands}
use Rattle.core_scope.proofs.Opening.{left_clauses}
use Rattle.core_scope.proofs.resolving.Resolver.flwor.Goals as goal

pub returns-clause-stands : goal.returns-clause-stands
returns-clause-stands g c =
    flwor_stands c.args.self.now.functions.now (open_in c.args.names.now) c.clauses.new.pool c.maybe.new.pool c.keys.new.pool c.boxed.new.pool
    c.args.offset c.args.clauses.now c.args.condition.now c.args.keys.now c.args.body.now
    c.in_ok-clauses.clauses c.in_ok-condition.condition c.in_ok-keys.keys c.in_ok-body.body (open_in c.clauses.new.names)
    c.in_ok-clauses.ensures.names c.in_ok-clauses.ensures.stands c.maybe.ensures.keeps c.in_ok-condition.ensures.stands c.keys.ensures.keeps
    (λ later k. c.in_ok-keys.ensures.stands later k ∙ ap (λ v. map (key_for c.args.self.now.functions.now v) c.args.keys.now) c.in_ok-condition.ensures.names)
    c.boxed.ensures.keeps
    (λ later k. c.in_ok-body.ensures.stands later k ∙ ap (λ v. node_for c.args.self.now.functions.now v c.args.body.now) (c.in_ok-keys.ensures.names ∙ c.in_ok-condition.ensures.names))

pub returns-clause-names : goal.returns-clause-names
returns-clause-names g c =
    c.in_ok-leave_to.ensures
    ∙ ap (λ m. left_to m (open_in c.boxed.new.names)) c.depth-mark.ensures
    ∙ ap (left_to (length ((open_in c.args.names.now).outer)))
    (c.in_ok-body.ensures.names ∙ c.in_ok-keys.ensures.names ∙ c.in_ok-condition.ensures.names ∙ c.in_ok-clauses.ensures.names)
    ∙ left_clauses c.args.clauses.now (open_in c.args.names.now)
