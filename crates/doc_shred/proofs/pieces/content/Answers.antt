use Rattle.std.proofs.Common.{◌≡◌, ◌+◌, [], length, arith, rules}
use Rattle.std.proofs.lemmas.Grind.{common_steps}
use Rattle.doc_shred.proofs.Contents.{walk_goes_on, walk_refused, walk_ends, walk_no_turn}
use Rattle.doc_shred.proofs.pieces.content.Goals as goal

pub returns-then-is_empty-clause-found : goal.returns-then-is_empty-clause-found
returns-then-is_empty-clause-found c =
    let none : c.loop-turn.names ≡ [] = grind (arith, common_steps) in
    walk_ends c.args.pool.now c.loop-turn.pool c.args.names.now c.loop-turn.names c.args.builder.now c.loop-turn.builder (length c.args.bytes.now + 1) c.loop-turn._turn c.args.bytes.now c.loop-turn.rest.now (omega arith) c.loop-turn.invariant none

pub returns-in-Err-clause-refused : goal.returns-in-Err-clause-refused
returns-in-Err-clause-refused c = λ e.
    let some : c.loop-turn.names ≡ [] → ⊥ = grind (arith, common_steps) in
    walk_refused c.args.pool.now c.loop-turn.pool c.args.names.now c.loop-turn.names c.args.builder.now c.loop-turn.builder (length c.args.bytes.now + 1) c.loop-turn._turn c.args.bytes.now c.loop-turn.rest.now (omega arith) c.loop-turn.invariant
    c.turn.new.pool some c.turn.ensures.later (c.in-Err.ensures.refused (search rules))

pub loop-turn-preserved : goal.loop-turn-preserved
loop-turn-preserved c =
    let some : c.loop-turn.names ≡ [] → ⊥ = grind (arith, common_steps) in
    walk_goes_on c.args.pool.now c.loop-turn.pool c.args.names.now c.loop-turn.names c.args.builder.now c.loop-turn.builder (length c.args.bytes.now + 1) c.loop-turn._turn c.args.bytes.now c.loop-turn.rest.now (omega arith) c.loop-turn.invariant
    c.turn.new.pool c.turn.new.names c.turn.new.builder c.in-Ok.after.now some c.turn.ensures.later c.in-Ok.ensures.passed

pub returns-clause-refused : goal.returns-clause-refused
returns-clause-refused c = λ e.
    walk_no_turn c.args.pool.now c.loop-turn.pool c.args.names.now c.loop-turn.names c.args.builder.now c.loop-turn.builder (length c.args.bytes.now + 1) c.loop-turn._turn c.args.bytes.now c.loop-turn.rest.now (omega arith) c.loop-turn.invariant
