use Rattle.std.proofs.Common.{[], true, false, refl}
use Rattle.xq_funs.proofs.Calling.{given_value, given_fault}
use Rattle.xq_funs.proofs.calls.give_name.Goals as goal

pub give-requires : goal.give-requires
give-requires c = (c.in-Ok.ensures []).1

pub returns-in-Ok-clause-value : goal.returns-in-Ok-clause-value
returns-in-Ok-clause-value c = λ docs.
    given_value true false c.args.pool.now c.give.new.pool c.args.store.now _ _ c.in-Ok.value c.give.result (c.in-Ok.ensures docs) refl
    c.give.ensures.value c.give.ensures.given c.give.ensures.err c.give.ensures.memory

pub returns-in-Err-clause-value : goal.returns-in-Err-clause-value
returns-in-Err-clause-value c = λ docs. given_fault true false c.args.pool.now c.args.store.now _ _ c.in-Err.fault (c.in-Err.ensures docs) refl
