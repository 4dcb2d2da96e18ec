use Rattle.std.proofs.Common.{◌∙◌, false}
use Rattle.doc_table.specs.Documents.{documents_in}
use Rattle.xq_funs.proofs.Later.{trees_given_later}
use Rattle.table_ops.proofs.MapLaws.{names_later}
use Rattle.table_ops.proofs.WholeLaws.{padded_given, concat_gives, concat_never}
use Rattle.table_ops.proofs.wholes.concat.Goals as goal

pub call-requires-clause-items : goal.call-requires-clause-items
call-requires-clause-items c =
    padded_given (documents_in c.intern.new.self c.args.store.now) c.args.pool.now c.intern.new.self c.intern.new.self c.args.store.now false c.intern.ensures.keeps c.requires.trees c.args.cells.now c.deref.result.now c.requires.items c.in_ok-empty.empty c.in_ok-empty.ensures.given
    (c.deref.ensures.value ∙ c.in_ok-texts.ensures)

pub call-requires-clause-trees : goal.call-requires-clause-trees
call-requires-clause-trees c = trees_given_later c.args.pool.now c.intern.new.self c.intern.ensures.keeps c.args.store.now c.requires.trees

pub call-requires-clause-names : goal.call-requires-clause-names
call-requires-clause-names c = names_later c.args.pool.now c.intern.new.self c.args.store.now c.intern.ensures.keeps c.requires.trees c.requires.names

pub returns-in-Ok-clause-outcome : goal.returns-in-Ok-clause-outcome
returns-in-Ok-clause-outcome c =
    concat_gives (documents_in c.intern.new.self c.args.store.now) c.args.pool.now c.intern.new.self c.call.new.pool c.args.store.now false c.intern.ensures.keeps c.requires.trees c.args.cells.now c.deref.result.now c.requires.items c.in_ok-empty.empty c.in_ok-empty.ensures.given
    (c.deref.ensures.value ∙ c.in_ok-texts.ensures) c.in-Ok.item c.in-Ok.ensures.value

pub unreachable-requires : goal.unreachable-requires
unreachable-requires c =
    concat_never (documents_in c.intern.new.self c.args.store.now) c.args.pool.now c.intern.new.self c.call.new.pool c.args.store.now _ c.intern.ensures.keeps c.requires.trees c.args.cells.now c.deref.result.now c.requires.items c.in_ok-empty.empty c.in_ok-empty.ensures.given
    (c.deref.ensures.value ∙ c.in_ok-texts.ensures) c.in-Err-Code.field-0 c.in-Err-Code.field-0-0 c.in-Err-Code.field-0-is c.in-Err-Code.ensures.value
