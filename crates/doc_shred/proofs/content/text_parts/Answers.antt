use Rattle.std.proofs.Common.{◌≡◌, ◌+◌, length, string_bytes, arith, rules, true, false}
use Rattle.doc_shred.specs.Parsers.{fronted}
use Rattle.doc_shred.specs.Reading as r
use Rattle.doc_shred.proofs.Gathering.{text_goes_on, text_refused, text_ends, text_no_turn}
use Rattle.doc_shred.proofs.Passing.{passed_on}
use Rattle.doc_shred.proofs.content.text_parts.Goals as goal

pub returns : goal.returns
unfolding r.text_run
returns c = text_no_turn (string_bytes c.loop-turn.text) (length c.args.bytes.now + 1) c.loop-turn._turn c.loop-turn.rest.now (length c.args.bytes.now + 1) c.args.bytes.now (omega arith) c.loop-turn.invariant

pub returns-in-Err : goal.returns-in-Err
unfolding r.text_run
returns-in-Err c =
    let on : r.has_text c.loop-turn.rest.now ≡ true = search rules in
    passed_on (fronted (string_bytes c.loop-turn.text) (r.text_part c.loop-turn.rest.now)) (r.text_run c.args.bytes.now) c.in-Err.error c.in-Err.ensures
    (text_refused (string_bytes c.loop-turn.text) (length c.args.bytes.now + 1) c.loop-turn._turn c.loop-turn.rest.now (length c.args.bytes.now + 1) c.args.bytes.now (omega arith) c.loop-turn.invariant on)

pub loop-turn-preserved : goal.loop-turn-preserved
loop-turn-preserved c =
    let on : r.has_text c.loop-turn.rest.now ≡ true = search rules in
    text_goes_on (string_bytes c.loop-turn.text) (length c.args.bytes.now + 1) c.loop-turn._turn c.loop-turn.rest.now (length c.args.bytes.now + 1) c.args.bytes.now (omega arith) c.loop-turn.invariant
    (string_bytes c.text_part.new.text) c.in-Ok.after.now on c.in-Ok.ensures

pub returns-then-not-has_text : goal.returns-then-not-has_text
unfolding r.text_run
returns-then-not-has_text c =
    let off : r.has_text c.loop-turn.rest.now ≡ false = search rules in
    text_ends (string_bytes c.loop-turn.text) (length c.args.bytes.now + 1) c.loop-turn._turn c.loop-turn.rest.now (length c.args.bytes.now + 1) c.args.bytes.now (omega arith) c.loop-turn.invariant off
