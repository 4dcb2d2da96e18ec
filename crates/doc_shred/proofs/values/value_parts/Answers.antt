use Rattle.std.proofs.Common.{◌≡◌, ◌+◌, length, string_bytes, arith, rules, true, false, [], ◌∷◌, Some, None}
use Rattle.doc_shred.specs.Parsers.{strip, fronted}
use Rattle.doc_shred.specs.Reading as r
use Rattle.doc_shred.proofs.Gathering.{value_goes_on, value_refused, value_ends, value_open, value_no_turn}
use Rattle.doc_shred.proofs.Passing.{passed_on}
use Rattle.doc_shred.proofs.values.value_parts.Goals as goal

pub returns : goal.returns
returns c = value_no_turn c.args.quote (string_bytes c.loop-turn.value) (length c.args.bytes.now + 1) c.loop-turn._turn c.loop-turn.rest.now (length c.args.bytes.now + 1) c.args.bytes.now (omega arith) c.loop-turn.invariant

pub returns-in-Err : goal.returns-in-Err
returns-in-Err c =
    let on : r.goes_on c.args.quote c.loop-turn.rest.now ≡ true = search rules in
    passed_on (fronted (string_bytes c.loop-turn.value) (r.value_part c.args.quote c.loop-turn.rest.now)) (r.value_from c.args.quote [] (length c.args.bytes.now + 1) c.args.bytes.now) c.in-Err.error c.in-Err.ensures
    (value_refused c.args.quote (string_bytes c.loop-turn.value) (length c.args.bytes.now + 1) c.loop-turn._turn c.loop-turn.rest.now (length c.args.bytes.now + 1) c.args.bytes.now (omega arith) c.loop-turn.invariant on)

pub loop-turn-preserved : goal.loop-turn-preserved
loop-turn-preserved c =
    let on : r.goes_on c.args.quote c.loop-turn.rest.now ≡ true = search rules in
    value_goes_on c.args.quote (string_bytes c.loop-turn.value) (length c.args.bytes.now + 1) c.loop-turn._turn c.loop-turn.rest.now (length c.args.bytes.now + 1) c.args.bytes.now (omega arith) c.loop-turn.invariant
    (string_bytes c.value_part.new.value) c.in-Ok.after.now on c.in-Ok.ensures

pub returns-in_default : goal.returns-in_default
returns-in_default c =
    let off : r.goes_on c.args.quote c.loop-turn.rest.now ≡ false = search rules in
    let open_ : strip (c.args.quote ∷ []) c.loop-turn.rest.now ≡ None = search rules in
    value_open c.args.quote (string_bytes c.loop-turn.value) (length c.args.bytes.now + 1) c.loop-turn._turn c.loop-turn.rest.now (length c.args.bytes.now + 1) c.args.bytes.now (omega arith) c.loop-turn.invariant off open_

pub returns-then-not-comes : goal.returns-then-not-comes
returns-then-not-comes c =
    let off : r.goes_on c.args.quote c.loop-turn.rest.now ≡ false = search rules in
    let shut : strip (c.args.quote ∷ []) c.loop-turn.rest.now ≡ Some (tt {0}, c.in-Some.after.now) = search rules in
    value_ends c.args.quote (string_bytes c.loop-turn.value) (length c.args.bytes.now + 1) c.loop-turn._turn c.loop-turn.rest.now (length c.args.bytes.now + 1) c.args.bytes.now (omega arith) c.loop-turn.invariant c.in-Some.after.now off shut
