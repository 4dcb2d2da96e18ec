use Rattle.std.proofs.Common.{◌<◌, ◌∙◌, ◌^◌, ap, sym, subst}
use Rattle.xq_base.specs.Answers.{Value}
use Rattle.doc_table.specs.Documents.{documents_in}
use Rattle.doc_table.specs.Items.{item_of}
use Rattle.doc_table.specs.StoredItems.{meanings, trees_of}
use Rattle.table_ops.specs.Wholes.{atoms_in, number_outcome, read_answers}
use Rattle.table_ops.proofs.Lists.{map_long}
use Rattle.table_ops.proofs.WholeLaws.{read_whole, unread_whole, read_few}
use Rattle.table_ops.proofs.wholes.of_numbers.Goals as goal

pub of_atoms-requires-clause-few : goal.of_atoms-requires-clause-few
of_atoms-requires-clause-few c =
    read_few c.read_all.new.pool c.deref.result.now (meanings c.args.pool.now c.args.store.now c.args.cells.now) (2 ^ 32)
    (c.in_ok-read_all.ensures.read ∙ ap (read_answers c.read_all.new.pool) c.in-Some.is ∙ ap (λ z. Value (atoms_in c.read_all.new.pool z)) (sym c.deref.ensures.value))
    (subst (λ k. k < 2 ^ 32) (sym (map_long (item_of c.args.pool.now (trees_of c.args.store.now)) c.args.cells.now)) c.requires.few)

pub returns-in-None-clause-outcome : goal.returns-in-None-clause-outcome
returns-in-None-clause-outcome c =
    sym (unread_whole (documents_in c.args.pool.now c.args.store.now) (meanings c.args.pool.now c.args.store.now c.args.cells.now) c.args.agg c.requires.agg (c.in_ok-read_all.ensures.read ∙ ap (read_answers c.read_all.new.pool) c.in-None.is))

pub returns-in-Some-clause-outcome : goal.returns-in-Some-clause-outcome
returns-in-Some-clause-outcome c =
    c.of_atoms.ensures.outcome c.args.store.now
    ∙ ap (λ z. number_outcome c.args.agg (atoms_in c.read_all.new.pool z)) c.deref.ensures.value
    ∙ sym (read_whole (documents_in c.args.pool.now c.args.store.now) (meanings c.args.pool.now c.args.store.now c.args.cells.now) c.args.agg (atoms_in c.read_all.new.pool c.in-Some.atoms.items) c.requires.agg
    (c.in_ok-read_all.ensures.read ∙ ap (read_answers c.read_all.new.pool) c.in-Some.is))

pub returns-in-Some-clause-given : goal.returns-in-Some-clause-given
returns-in-Some-clause-given c = c.of_atoms.ensures.given c.args.store.now
