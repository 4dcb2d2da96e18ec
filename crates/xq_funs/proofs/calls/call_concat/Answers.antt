use Rattle.std.proofs.Common.{◌∷◌, [], true, false, refl, string_bytes}
use Rattle.xq_base.specs.Answers.{Value}
use Rattle.doc_table.specs.Items.{TextItem}
use Rattle.xq_funs.specs.declared.computed.Computed.TheVariants as m
use Rattle.xq_funs.proofs.Calling.{given_value}
use Rattle.xq_funs.proofs.ConcatLaws.{concat_is}
use Rattle.xq_funs.proofs.calls.call_concat.Goals as goal

pub returns-in-Ok-clause-value : goal.returns-in-Ok-clause-value
returns-in-Ok-clause-value c = λ docs.
    given_value true false c.args.pool.now c.give.new.pool c.args.store.now _ (Value (TextItem (string_bytes c.in-Ok.text) ∷ [])) (m.Text c.in-Ok.text) c.give.result
    (refl, refl, λ _. refl) (concat_is c.args.pool.now c.args.store.now docs c.args.args.now (string_bytes c.in-Ok.text) c.in-Ok.ensures.ok)
    c.give.ensures.value c.give.ensures.given c.give.ensures.err c.give.ensures.memory
