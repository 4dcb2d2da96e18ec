use Rattle.xq_types.proofs.Samples.{text_plus_one_lawful}
use Rattle.xq_types.proofs.tests.type_of_text_plus_one.Goals as goal

pub type_of-requires : goal.type_of-requires
type_of-requires c = record { lawful = text_plus_one_lawful c.in_ok-core.core c.in_ok-core.ensures }
