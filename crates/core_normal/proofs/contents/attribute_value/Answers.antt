use Rattle.std.proofs.Common.{arith}
use Rattle.core_normal.proofs.ContentsMade.{value_many}
use Rattle.core_normal.proofs.contents.attribute_value.Goals as goal

pub returns-then-len-gt1 : goal.returns-then-len-gt1
returns-then-len-gt1 c = λ t z. value_many t _ _ _ (omega arith) (c.called.ensures t)
