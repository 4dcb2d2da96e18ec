use Rattle.std.proofs.Common.{rules}
use Rattle.xq_funs.proofs.TrimLemmas.{is_word}
use Rattle.xq_funs.proofs.names.is_xml.Goals as goal

pub returns : goal.returns
returns c = is_word c.eq_ignore_ascii_case.result c.args.name.now (search rules)
