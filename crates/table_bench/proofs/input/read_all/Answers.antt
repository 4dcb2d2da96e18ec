use Rattle.std.proofs.Common.{arith}
use Rattle.table_bench.proofs.WholeInput.{whole_taken, long_taken}
use Rattle.table_bench.proofs.input.read_all.Goals as goal

pub returns-then-len-gt-ROW_LIMIT-clause-large : goal.returns-then-len-gt-ROW_LIMIT-clause-large
returns-then-len-gt-ROW_LIMIT-clause-large g c = λ u. long_taken g.R.Read.remaining c.args.reader c.take-limited.result c.new-bytes.result.items c.read_to_end.new.buf.items c.take-limited.ensures.limit c.take-limited.ensures.inner c.new-bytes.ensures.items c.in-Ok.ensures.bytes (omega (arith, c.if-len-gt-ROW_LIMIT.true, c.len.ensures))

pub returns-in-Ok-clause-whole : goal.returns-in-Ok-clause-whole
returns-in-Ok-clause-whole g c = whole_taken g.R.Read.remaining c.args.reader c.take-limited.result c.new-bytes.result.items c.read_to_end.new.buf.items c.take-limited.ensures.limit c.take-limited.ensures.inner c.new-bytes.ensures.items c.in-Ok.ensures.bytes (omega (arith, c.if-len-gt-ROW_LIMIT.false, c.len.ensures))
