use Rattle.std.proofs.Common.{◌≡◌, ◌+◌, length, arith, rules, true, false}
use Rattle.doc_shred.specs.Walk.{has_misc}
use Rattle.doc_shred.proofs.MiscLaws.{among_goes_on, among_refused, among_ends, among_no_turn}
use Rattle.doc_shred.proofs.document.miscs.Goals as goal

pub returns-then-not-has_misc-clause-read : goal.returns-then-not-has_misc-clause-read
returns-then-not-has_misc-clause-read c =
    let off : has_misc c.loop-turn.rest.now ≡ false = search rules in
    among_ends c.args.pool.now c.loop-turn.pool c.args.builder.now c.loop-turn.builder (length c.args.bytes.now + 1) c.loop-turn._turn c.args.bytes.now c.loop-turn.rest.now (omega arith) c.loop-turn.invariant off

pub returns-in-Err-clause-refused : goal.returns-in-Err-clause-refused
returns-in-Err-clause-refused c = λ e.
    let on : has_misc c.loop-turn.rest.now ≡ true = search rules in
    among_refused c.args.pool.now c.loop-turn.pool c.args.builder.now c.loop-turn.builder (length c.args.bytes.now + 1) c.loop-turn._turn c.args.bytes.now c.loop-turn.rest.now (omega arith) c.loop-turn.invariant
    c.misc.new.pool on c.misc.ensures.later (c.in-Err.ensures.refused (search rules))

pub loop-turn-preserved : goal.loop-turn-preserved
loop-turn-preserved c =
    let on : has_misc c.loop-turn.rest.now ≡ true = search rules in
    among_goes_on c.args.pool.now c.loop-turn.pool c.args.builder.now c.loop-turn.builder (length c.args.bytes.now + 1) c.loop-turn._turn c.args.bytes.now c.loop-turn.rest.now (omega arith) c.loop-turn.invariant
    c.misc.new.pool c.misc.new.builder c.in-Ok.after.now on c.misc.ensures.later c.in-Ok.ensures.added

pub returns-clause-refused : goal.returns-clause-refused
returns-clause-refused c = λ e.
    among_no_turn c.args.pool.now c.loop-turn.pool c.args.builder.now c.loop-turn.builder (length c.args.bytes.now + 1) c.loop-turn._turn c.args.bytes.now c.loop-turn.rest.now (omega arith) c.loop-turn.invariant
