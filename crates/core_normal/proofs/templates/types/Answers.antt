use Rattle.std.proofs.Common.{◌≤◌, ℕ, ap, length, map, ◌∙◌, arith}
use Rattle.std.proofs.lemmas.List.{take_all}
use Rattle.xq_ast.specs.declared.leaf.SeqType.{SeqType}
use Rattle.xq_ast.specs.declared.query.Param.{Param}
use Rattle.core_normal.specs.Trees.{type_of}
use Rattle.core_normal.proofs.templates.types.Goals as goal

pub returns : goal.returns
returns c =
    let done : length c.args.params.now ≤ c.loop-param.param-index = omega arith in
    λ t. c.loop-param.invariant t ∙ ap (map (λ (q : Param ℕ SeqType). type_of t q.ty)) (take_all c.loop-param.param-index c.args.params.now done)
