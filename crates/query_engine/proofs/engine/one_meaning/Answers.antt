use Rattle.query_engine.proofs.OneMeaning.{one_meaning, refused_or_accepts}
use Rattle.query_engine.proofs.engine.one_meaning.Goals as goal

pub returns-clause-either : goal.returns-clause-either
returns-clause-either c = refused_or_accepts

pub returns-clause-one : goal.returns-clause-one
returns-clause-one c = one_meaning
