use Rattle.std.proofs.Common.{◌++◌, ◌≤◌, ◌+◌, length, string_bytes, slice_range, arith}
use Rattle.doc_table.specs.Enc.{enc}
use Rattle.doc_table.specs.TextRows.{texts_of_rows}
use Rattle.doc_table.proofs.StringValues.{rows-step, rows-done}
use Rattle.doc_table.proofs.strings.push_texts.Goals as goal

pub loop-pre-preserved : goal.loop-pre-preserved
loop-pre-preserved c =
    let end : c.args.first + c.args.size + 1 ≤ length (enc c.args.frag.now) = omega (arith, c.requires.rows) in
    rows-step c.args.pool.now (enc c.args.frag.now) c.loop-pre.pre (c.args.first + c.args.size + 1) (string_bytes c.loop-pre.out) (string_bytes c.args.out.now ++ texts_of_rows c.args.pool.now (slice_range (enc c.args.frag.now) c.args.first (c.args.first + c.args.size + 1)))
    (string_bytes c.push_text_row.new.out) c.loop-pre-test.true end c.loop-pre.invariant c.in_ok-push_text_row.ensures
