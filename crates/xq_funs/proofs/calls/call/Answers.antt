use Rattle.std.proofs.Common.{◌≡◌, Ok, true, false, sym, ◌∙◌, subst}
use Rattle.std.proofs.lemmas.Bool.{true≢false}
use Rattle.xq_base.specs.declared.item.Item.TheVariants as i
use Rattle.doc_table.specs.Documents.{documents_in}
use Rattle.doc_table.specs.Functions.{fun_answer}
use Rattle.xq_funs.specs.Calls.{Gives, values, is_ternary}
use Rattle.xq_funs.specs.CallRules.{is_call, is_concat, wants_memory}
use Rattle.xq_funs.proofs.Calling.{as_list, none_left, two_items, three_items, or_else, more_than_three, concat_alone}
use Rattle.xq_funs.proofs.calls.call.Goals as goal

pub returns-then-is_concat-clause-value : goal.returns-then-is_concat-clause-value
returns-then-is_concat-clause-value c =
    let docs = documents_in c.args.pool.now c.args.store.now in
    let is = concat_alone c.args.fun (sym c.is_concat.ensures ∙ c.if-is_concat.true) in
    subst (λ g. Gives (wants_memory g c.args.args.now) c.call_concat.new.pool c.args.store.now (fun_answer docs g (values c.args.pool.now c.args.store.now c.args.args.now)) c.call_concat.result) (sym is) (c.call_concat.ensures.value docs)

pub call_three-requires-clause-fun : goal.call_three-requires-clause-fun
call_three-requires-clause-fun c =
    or_else (is_concat c.args.fun) (is_ternary c.args.fun) (subst (λ xs. is_call c.args.fun xs ≡ true) (three_items c.args.args.now (i.Bool true) (i.Bool true) (i.Bool true) c.in-len3.len_at_least c.in-len3.len_below) c.requires.fun) (sym c.is_concat.ensures ∙ c.if-is_concat.false)

pub returns-in-len2-clause-value : goal.returns-in-len2-clause-value
returns-in-len2-clause-value c =
    let docs = documents_in c.args.pool.now c.args.store.now in
    as_list c.args.fun c.args.pool.now c.call_two.new.pool c.args.store.now docs c.call_two.result _ _ (two_items c.args.args.now _ _ c.in-len2.len_at_least c.in-len2.len_below) (c.call_two.ensures.value docs)

pub returns-in-len3-clause-value : goal.returns-in-len3-clause-value
returns-in-len3-clause-value c =
    let docs = documents_in c.args.pool.now c.args.store.now in
    as_list c.args.fun c.args.pool.now c.call_three.new.pool c.args.store.now docs c.call_three.result _ _ (three_items c.args.args.now _ _ _ c.in-len3.len_at_least c.in-len3.len_below) (c.call_three.ensures.value docs)

pub unreachable-requires : goal.unreachable-requires
unreachable-requires c =
    true≢false (sym (more_than_three c.args.fun c.args.args.now c.requires.fun c.in_default.len_at_least) ∙ (sym c.is_concat.ensures ∙ c.if-is_concat.false))

pub returns-in-empty-clause-value : goal.returns-in-empty-clause-value
returns-in-empty-clause-value c =
    let docs = documents_in c.args.pool.now c.args.store.now in
    subst (λ xs. Gives false c.args.pool.now c.args.store.now (fun_answer docs c.args.fun (values c.args.pool.now c.args.store.now xs)) (Ok c.constant.result)) (sym (none_left c.args.args.now c.in-empty.len_below)) (c.constant.ensures false c.args.pool.now c.args.store.now docs)
