use Rattle.xq_types.proofs.Samples.{nothing_plus_one_lawful}
use Rattle.xq_types.proofs.tests.type_of_nothing_plus_one.Goals as goal

pub type_of-requires : goal.type_of-requires
type_of-requires c = record { lawful = nothing_plus_one_lawful c.in_ok-core.core c.in_ok-core.ensures }
