use Rattle.std.proofs.Common.{[], ◌∷◌}
use Rattle.std.specs.List.{list_all}
use Rattle.doc_table.specs.Items.{item_of}
use Rattle.doc_table.specs.StoredItems.{trees_of}
use Rattle.xq_funs.specs.Answering.{atom_in, is_plain}
use Rattle.xq_funs.specs.Calls.{gives_text}
use Rattle.xq_funs.proofs.Calling.{three_alone, given_value, given_fault}
use Rattle.xq_funs.proofs.calls.call_three.Goals as goal

pub give-requires : goal.give-requires
give-requires c = (c.in-Ok-apply_three.ensures []).1

pub returns-in-Ok-apply_three-clause-value : goal.returns-in-Ok-apply_three-clause-value
returns-in-Ok-apply_three-clause-value c = λ docs.
    given_value (gives_text c.args.fun) (list_all is_plain (c.args.a ∷ c.args.b ∷ c.args.c ∷ [])) c.atomize_three.new.pool c.give.new.pool c.args.store.now _ _ c.in-Ok-apply_three.value c.give.result (c.in-Ok-apply_three.ensures docs)
    (three_alone docs c.args.fun (item_of c.args.pool.now (trees_of c.args.store.now) c.args.a) (item_of c.args.pool.now (trees_of c.args.store.now) c.args.b) (item_of c.args.pool.now (trees_of c.args.store.now) c.args.c)
    (atom_in c.atomize_three.new.pool c.in-Ok.first) (atom_in c.atomize_three.new.pool c.in-Ok.second) (atom_in c.atomize_three.new.pool c.in-Ok.third) c.in-Ok.ensures.value_a c.in-Ok.ensures.value_b c.in-Ok.ensures.value_c c.requires.fun)
    c.give.ensures.value c.give.ensures.given c.give.ensures.err c.give.ensures.memory

pub returns-in-Err-clause-value : goal.returns-in-Err-clause-value
returns-in-Err-clause-value c = λ docs.
    given_fault (gives_text c.args.fun) (list_all is_plain (c.args.a ∷ c.args.b ∷ c.args.c ∷ [])) c.atomize_three.new.pool c.args.store.now _ _ c.in-Err.fault (c.in-Err.ensures docs)
    (three_alone docs c.args.fun (item_of c.args.pool.now (trees_of c.args.store.now) c.args.a) (item_of c.args.pool.now (trees_of c.args.store.now) c.args.b) (item_of c.args.pool.now (trees_of c.args.store.now) c.args.c)
    (atom_in c.atomize_three.new.pool c.in-Ok.first) (atom_in c.atomize_three.new.pool c.in-Ok.second) (atom_in c.atomize_three.new.pool c.in-Ok.third) c.in-Ok.ensures.value_a c.in-Ok.ensures.value_b c.in-Ok.ensures.value_c c.requires.fun)
