use Rattle.std.proofs.Common.{refl, sym, ap, ◌∙◌, arith, ◌≤◌, length}
use Rattle.core_normal.specs.Binding.{binds_in}
use Rattle.core_normal.specs.Trees as trees
use Rattle.core_normal.proofs.Folding.{item_front}
use Rattle.core_normal.proofs.Refs.{refs_end}
use Rattle.core_normal.proofs.bind_refs.flwor_refs.Goals as goal

pub loop-clause-init : goal.loop-clause-init
loop-clause-init c = λ t. ap (λ l. binds_in t l (trees.clauses t c.args.clauses.now)) c.new-out.ensures.items

pub loop-clause-preserved : goal.loop-clause-preserved
loop-clause-preserved c =
    λ t. c.in_ok-clause_refs.ensures t _ ∙ ap (λ l. binds_in t c.loop-clause.out.items (trees.clauses t l)) (sym (item_front _ _ c.clause-item.result c.loop-clause-test.true c.clause-item.is)) ∙ c.loop-clause.invariant t

pub returns : goal.returns
returns c =
    let done : length c.args.clauses.now ≤ c.loop-clause.clause-index = omega arith in
    λ t. refs_end t (trees.clauses t) _ _ _ _ _ done refl (c.loop-clause.invariant t)
