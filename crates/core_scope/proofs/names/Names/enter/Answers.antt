use Rattle.std.proofs.Common.{◌≡◌, ◌∙◌, sym, ap, Some}
use Rattle.core_scope.specs.Names.{with_name}
use Rattle.core_scope.specs.Held.{names_in}
use Rattle.core_scope.proofs.Naming.{names_back}
use Rattle.core_scope.proofs.names.Names.enter.Goals as goal

pub returns-clause-before : goal.returns-clause-before
returns-clause-before c =
    ap (λ s. with_name c.args.name.now c.get-before.result s) c.in_ok-set.ensures
    ∙ ap (λ u. with_name c.args.name.now u (with_name c.args.name.now (Some c.args.v) (names_in c.args.self.now))) c.get-before.ensures
    ∙ names_back (names_in c.args.self.now) c.args.name.now (Some c.args.v)
