use Rattle.core_normal.proofs.ContentsMade.{no_name_made, written_name_made, computed_name_made}
use Rattle.core_normal.proofs.maker.Maker.build_name.Goals as goal

pub returns-in-Absent : goal.returns-in-Absent
returns-in-Absent g c = no_name_made _ _ _ c.in-Absent.is

pub returns-in-Named : goal.returns-in-Named
returns-in-Named g c = written_name_made _ _ _ _ _ c.in-Named.is c.text-literal.ensures

pub returns-in_ok-core-in-Computed : goal.returns-in_ok-core-in-Computed
returns-in_ok-core-in-Computed g c = computed_name_made _ _ _ _ _ _ c.in-Computed.is c.get-inner.ensures c.in_ok-core-in-Computed.ensures
