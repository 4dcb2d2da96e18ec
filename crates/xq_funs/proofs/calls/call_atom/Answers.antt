use Rattle.std.proofs.Common.{[], ◌∷◌}
use Rattle.std.specs.List.{list_all}
use Rattle.doc_table.specs.Items.{item_of}
use Rattle.doc_table.specs.StoredItems.{trees_of}
use Rattle.xq_funs.specs.Answering.{atom_in, is_plain}
use Rattle.xq_funs.specs.Calls.{gives_text}
use Rattle.xq_funs.proofs.Calling.{one_alone, given_value, given_fault}
use Rattle.xq_funs.proofs.calls.call_atom.Goals as goal

pub give-requires : goal.give-requires
give-requires c = (c.in-Ok-apply_one.ensures []).1

pub returns-in-Ok-apply_one-clause-value : goal.returns-in-Ok-apply_one-clause-value
returns-in-Ok-apply_one-clause-value c = λ docs.
    given_value (gives_text c.args.fun) (list_all is_plain (c.args.item ∷ [])) c.atomize.new.pool c.give.new.pool c.args.store.now _ _ c.in-Ok-apply_one.value c.give.result (c.in-Ok-apply_one.ensures docs)
    (one_alone docs c.args.fun (item_of c.args.pool.now (trees_of c.args.store.now) c.args.item) (atom_in c.atomize.new.pool c.in-Ok.atom) c.in-Ok.ensures.value c.requires.fun)
    c.give.ensures.value c.give.ensures.given c.give.ensures.err c.give.ensures.memory

pub returns-in-Err-clause-value : goal.returns-in-Err-clause-value
returns-in-Err-clause-value c = λ docs.
    given_fault (gives_text c.args.fun) (list_all is_plain (c.args.item ∷ [])) c.atomize.new.pool c.args.store.now _ _ c.in-Err.fault (c.in-Err.ensures docs)
    (one_alone docs c.args.fun (item_of c.args.pool.now (trees_of c.args.store.now) c.args.item) (atom_in c.atomize.new.pool c.in-Ok.atom) c.in-Ok.ensures.value c.requires.fun)
