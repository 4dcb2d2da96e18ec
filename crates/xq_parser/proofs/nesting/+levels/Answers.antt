use Rattle.std.proofs.Common.{arith}
use Rattle.xq_parser.specs.Reading as reading
use Rattle.xq_parser.specs.Outcomes.{single_reads, element_reads}
use Rattle.xq_parser.proofs.Turns.{deeper}
use Rattle.xq_parser.proofs.nesting.+levels.Goals as goal

pub single-returns : goal.single-returns
unfolding reading.single_reads
single-returns t c = rw (deeper (λ n. single_reads c.args.text.now n c.args.at) c.args.depth (omega arith)) c.level.ensures

pub element-returns : goal.element-returns
unfolding reading.element_reads
element-returns t c = rw (deeper (λ n. element_reads c.args.text.now n c.args.at) c.args.depth (omega arith)) c.elem.ensures
