use Rattle.std.proofs.Common.{◌≡◌, false, true, subst, rules}
use Rattle.xq_base.specs.Aggregates.{as_integer}
use Rattle.doc_table.specs.Items.{item_of}
use Rattle.doc_table.specs.StoredItems.{trees_of}
use Rattle.doc_table.specs.Values.{atomized}
use Rattle.xq_funs.proofs.Later.{item_given_later, trees_given_later, keeps_on}
use Rattle.table_ops.specs.Columns.{cell_of, no_cell}
use Rattle.table_ops.specs.Wholes.{atoms_in, ReadsOn}
use Rattle.table_ops.proofs.MapLaws.{names_later}
use Rattle.table_ops.proofs.ReadLaws.{cell_given, read_turn, read_stop}
use Rattle.table_ops.proofs.reading.read_all.Goals as goal

pub put_read-requires-clause-item : goal.put_read-requires-clause-item
put_read-requires-clause-item c = item_given_later c.args.pool.now c.loop-place.pool c.loop-place.invariant.0 c.args.store.now (cell_of c.args.cells.now c.loop-place.place) (cell_given c.args.pool.now c.args.store.now c.args.cells.now c.loop-place.place c.requires.items)

pub put_read-requires-clause-trees : goal.put_read-requires-clause-trees
put_read-requires-clause-trees c = trees_given_later c.args.pool.now c.loop-place.pool c.loop-place.invariant.0 c.args.store.now c.requires.trees

pub put_read-requires-clause-names : goal.put_read-requires-clause-names
put_read-requires-clause-names c = names_later c.args.pool.now c.loop-place.pool c.args.store.now c.loop-place.invariant.0 c.requires.trees c.requires.names

pub returns-then-not-branch-clause-read : goal.returns-then-not-branch-clause-read
returns-then-not-branch-clause-read c =
    let no : c.in_ok-put_read.field-0 ≡ false = search rules in
    read_stop c.args.pool.now c.loop-place.pool c.args.store.now c.loop-place.invariant.0 c.requires.trees c.args.cells.now c.loop-place.place no_cell c.loop-place-test.true (cell_given c.args.pool.now c.args.store.now c.args.cells.now c.loop-place.place c.requires.items)
    (atoms_in c.loop-place.pool c.loop-place.out.items) (atoms_in c.put_read.new.pool c.put_read.new.out.items)
    (subst (λ b. ReadsOn (as_integer (atomized (item_of c.loop-place.pool (trees_of c.args.store.now) (cell_of c.args.cells.now c.loop-place.place)))) (atoms_in c.loop-place.pool c.loop-place.out.items) b (atoms_in c.put_read.new.pool c.put_read.new.out.items)) no c.in_ok-put_read.ensures.read)
    c.loop-place.invariant.1

pub loop-place-preserved : goal.loop-place-preserved
loop-place-preserved c =
    let yes : c.in_ok-put_read.field-0 ≡ true = search rules in (
      keeps_on c.args.pool.now c.loop-place.pool c.put_read.new.pool c.loop-place.invariant.0 c.put_read.ensures.keeps,
      read_turn c.args.pool.now c.loop-place.pool c.args.store.now c.loop-place.invariant.0 c.requires.trees c.args.cells.now c.loop-place.place no_cell c.loop-place-test.true (cell_given c.args.pool.now c.args.store.now c.args.cells.now c.loop-place.place c.requires.items)
          (atoms_in c.loop-place.pool c.loop-place.out.items) (atoms_in c.put_read.new.pool c.put_read.new.out.items)
          (subst (λ b. ReadsOn (as_integer (atomized (item_of c.loop-place.pool (trees_of c.args.store.now) (cell_of c.args.cells.now c.loop-place.place)))) (atoms_in c.loop-place.pool c.loop-place.out.items) b (atoms_in c.put_read.new.pool c.put_read.new.out.items)) yes c.in_ok-put_read.ensures.read)
          c.loop-place.invariant.1,
      c.in_ok-put_read.ensures.given,
    )
