use Rattle.std.proofs.Common.{◌≡◌, ◌∙◌, sym, ap, cond, Option, Some, None}
use Rattle.core_scope.specs.Names.{with_name}
use Rattle.core_scope.specs.Held.{names_in}
use Rattle.core_scope.proofs.Naming.{same_names, pointwise_text}
use Rattle.core_scope.proofs.names.Names.set.Goals as goal

pub returns-in-None : goal.returns-in-None
returns-in-None c =
    same_names _ _ (λ y. c.remove.ensures.updates.0 (record { ref_ptr = c.args.name.ref_ptr; now = y })
    ∙ ap (λ b. cond b None (names_in c.args.self.now y)) (pointwise_text c.args.name.now y))
    ∙ ap (λ v. with_name c.args.name.now v (names_in c.args.self.now)) (sym c.in-None.is)

pub returns-in_ok-insert-in-Some : goal.returns-in_ok-insert-in-Some
returns-in_ok-insert-in-Some c =
    same_names _ _ (λ y. c.in_ok-insert-in-Some.ensures.updates.0 (record { ref_ptr = c.args.name.ref_ptr; now = y })
    ∙ ap (λ b. cond b (Some c.in-Some.v) (names_in c.args.self.now y)) (pointwise_text c.args.name.now y))
    ∙ ap (λ v. with_name c.args.name.now v (names_in c.args.self.now)) (sym c.in-Some.is)
