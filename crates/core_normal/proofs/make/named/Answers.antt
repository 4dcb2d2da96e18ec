use Rattle.core_normal.proofs.NamedBuild.{named_build}
use Rattle.core_normal.proofs.make.named.Goals as goal

pub returns : goal.returns
returns c = λ t. named_build t _ _ _ _
