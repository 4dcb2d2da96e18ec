use Rattle.xq_parser.proofs.EncodingLaws.{too_long}
use Rattle.xq_parser.proofs.encodings.behind.Goals as goal

pub returns-then-bytes-word : goal.returns-then-bytes-word
returns-then-bytes-word c = too_long _ _ c.if-bytes-word.true
