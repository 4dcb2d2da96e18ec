use Rattle.pathfinder_run.proofs.Loading.{new_number}
use Rattle.pathfinder_run.proofs.inputs.keep_document.Goals as goal

pub add_doc-requires-clause-different : goal.add_doc-requires-clause-different
add_doc-requires-clause-different c = new_number c.args.pool.now c.intern.new.self c.args.store.now c.args.name.now c.in-Ok.id c.requires.new c.in-Ok.ensures.keeps c.in-Ok.ensures.given
