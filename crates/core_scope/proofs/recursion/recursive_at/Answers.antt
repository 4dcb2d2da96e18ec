use Rattle.std.proofs.Common.{◌+◌, sym, subst, ◌∙◌, Some}
use Rattle.core_scope.specs.Kinds.{IsRecursive}
use Rattle.core_scope.specs.Leasts.{IsLeast}
use Rattle.core_scope.specs.Refusals.{Comes}
use Rattle.core_scope.specs.Search.{Decides, targets}
use Rattle.core_scope.proofs.Falling.{no_way_back}
use Rattle.core_scope.proofs.Recursing.{recursive, not_recursive}
use Rattle.core_scope.proofs.recursion.recursive_at.Goals as goal

pub returns-then-falls : goal.returns-then-falls
returns-then-falls c =
    not_recursive c.args.graph.now c.args.offsets.now c.args.node c.args.first
    (no_way_back c.args.graph.now c.args.ranks.now c.requires.falling c.args.node (sym c.falls.ensures ∙ c.if-falls.true)) c.requires.least

pub returns-then-branch : goal.returns-then-branch
returns-then-branch c =
    subst (λ z. IsLeast (IsRecursive c.args.graph.now c.args.offsets.now (c.args.node + 1)) (Some z)) (sym c.earlier.ensures)
    (recursive c.args.graph.now c.args.offsets.now c.args.node c.args.first
    (subst (λ b. Decides b (Comes (targets c.args.graph.now) c.args.node c.args.node)) c.if-branch.true c.in_ok-comes_to_itself.ensures) c.requires.least)

pub returns : goal.returns
returns c =
    not_recursive c.args.graph.now c.args.offsets.now c.args.node c.args.first
    (subst (λ b. Decides b (Comes (targets c.args.graph.now) c.args.node c.args.node)) c.if-branch.false c.in_ok-comes_to_itself.ensures) c.requires.least
