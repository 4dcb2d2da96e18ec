use Rattle.std.proofs.Common.{◌∙◌}
use Rattle.doc_shred.proofs.Runs.{begins_stripped}
use Rattle.doc_shred.proofs.bytes.comes_word.Goals as goal

pub returns : goal.returns
returns c = c.is_some.ensures ∙ begins_stripped _ c.args.word.now c.args.bytes.now c.strip.ensures
