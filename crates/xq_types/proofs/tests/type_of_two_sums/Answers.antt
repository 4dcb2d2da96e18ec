use Rattle.xq_types.proofs.Samples.{two_sums_lawful}
use Rattle.xq_types.proofs.tests.type_of_two_sums.Goals as goal

pub type_of-requires : goal.type_of-requires
type_of-requires c = record { lawful = two_sums_lawful c.in_ok-core.core c.in_ok-core.ensures }
