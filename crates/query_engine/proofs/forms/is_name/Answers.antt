use Rattle.std.proofs.Common.{sym}
use Rattle.core_meaning.specs.Erasure.{core_of}
use Rattle.query_engine.proofs.Compiling.{no_name}
use Rattle.query_engine.proofs.forms.is_name.Goals as goal

pub returns-in-len2-up : goal.returns-in-len2-up
returns-in-len2-up c = sym (no_name (core_of c.args.texts.now) c.args.arguments.now c.in-len2-up.len_at_least)
