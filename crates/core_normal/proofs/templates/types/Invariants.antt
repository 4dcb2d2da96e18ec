use Rattle.std.proofs.Common.{◌≡◌, ℕ, map, take}
use Rattle.core_meaning.specs.Erasure.{Texts}
use Rattle.xq_ast.specs.declared.leaf.SeqType.{SeqType}
use Rattle.xq_ast.specs.declared.query.Param.{Param}
use Rattle.core_normal.specs.Making.{types_in}
use Rattle.core_normal.specs.Trees.{type_of}
use Rattle.core_normal.proofs.templates.types.Given as goal

abbrev pub invariant-loop-param : goal.invariant-loop-param
invariant-loop-param l = (t : Texts) → types_in t l.types.items ≡ map (λ (q : Param ℕ SeqType). type_of t q.ty) (take l.param-index l.params)
