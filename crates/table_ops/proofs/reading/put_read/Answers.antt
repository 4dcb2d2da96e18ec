use Rattle.std.proofs.Common.{◌≡◌, ◌∙◌, ◌++◌, ◌∷◌, [], ap, subst, length, true, IfSome, rules}
use Rattle.xq_base.specs.Aggregates.{as_integer}
use Rattle.doc_table.specs.Items.{item_of}
use Rattle.doc_table.specs.StoredItems.{trees_of}
use Rattle.doc_table.specs.Values.{atomized}
use Rattle.xq_funs.specs.Answering.{atom_given}
use Rattle.table_ops.specs.Wholes.{read_answer}
use Rattle.table_ops.proofs.ReadLaws.{atoms_given_later, put_atom, put_given_atom}
use Rattle.table_ops.proofs.reading.put_read.Goals as goal

pub returns-in_default-clause-given : goal.returns-in_default-clause-given
returns-in_default-clause-given c = atoms_given_later c.args.pool.now c.read.new.pool c.read.ensures.keeps c.args.out.now.items c.requires.out

pub returns-clause-read : goal.returns-clause-read
returns-clause-read c =
    let pushed : c.push.new.self.items ≡ c.args.out.now.items ++ c.in-Some.atom ∷ [] = search rules in
    put_atom c.args.pool.now c.read.new.pool c.read.ensures.keeps (as_integer (atomized (item_of c.args.pool.now (trees_of c.args.store.now) c.args.cell))) c.args.out.now.items c.push.new.self.items c.in-Some.atom c.requires.out pushed
    (c.in_ok-atom.ensures.read ∙ ap (read_answer c.read.new.pool) c.in-Some.is)

pub returns-clause-given : goal.returns-clause-given
returns-clause-given c =
    let pushed : c.push.new.self.items ≡ c.args.out.now.items ++ c.in-Some.atom ∷ [] = search rules in
    put_given_atom c.args.pool.now c.read.new.pool c.read.ensures.keeps c.args.out.now.items c.push.new.self.items c.in-Some.atom c.requires.out pushed
    (subst (λ r. IfSome r (λ a. atom_given (length c.read.new.pool) a ≡ true)) c.in-Some.is c.in_ok-atom.ensures.given)
