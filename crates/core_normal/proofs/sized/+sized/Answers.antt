use Rattle.std.proofs.Common.{sym, ◌∙◌, arith}
use Rattle.core_normal.proofs.CountedForms.{params_end, flwor_is, quantified_is, chain_is, path_is, known_is, declared_is, element_is}
use Rattle.core_normal.proofs.sized.+sized.Goals as goal

pub parameters-returns : goal.parameters-returns
parameters-returns t c =
    sym (c.loop-i.invariant ∙ params_end c.args.funs.now c.args.typed.now c.args.es.now c.loop-i.i c.loop-i.found (omega (arith, c.loop-i-test.false, c.min-count.ensures)))

pub sized-returns-in-Flwor : goal.sized-returns-in-Flwor
sized-returns-in-Flwor t c =
    flwor_is c.args.funs.now _ _ _ _ _ _ _ _ _ _ _ _ _ _ _ _ _ c.in-Flwor.is c.len-count.ensures c.is_sorted-is_sorted.ensures c.as_slice-in-Flwor.ensures c.all_clauses-round.ensures c.maybe-condition.ensures
    c.as_slice-in-Flwor-2.ensures c.all_keys-key_size.ensures c.get-in-Flwor.ensures c.sized-body.ensures c.len-count.ensures c.loop_size.ensures

pub sized-returns-in-Quantified : goal.sized-returns-in-Quantified
sized-returns-in-Quantified t c =
    quantified_is c.args.funs.now _ _ _ _ _ _ _ _ _ _ _ _ _ _ c.in-Quantified.is c.get-in-Quantified.ensures c.sized-body-in-Quantified.ensures c.as_slice-in-Quantified.ensures c.quant_binds-round.ensures c.leaf.ensures c.leaf-in-Quantified.ensures
    c.conditional.ensures c.filled.ensures c.over_one.ensures

pub sized-returns-in-Chain : goal.sized-returns-in-Chain
sized-returns-in-Chain t c =
    chain_is c.args.funs.now _ _ _ _ _ _ _ _ c.in-Chain.is c.get-in-Chain.ensures c.sized-first-in-Chain.ensures c.as_slice-in-Chain.ensures c.operators.ensures

pub sized-returns-in-Path : goal.sized-returns-in-Path
sized-returns-in-Path t c =
    path_is c.args.funs.now _ _ _ _ _ _ _ _ c.in-Path.is c.start.ensures c.step-first.ensures c.as_slice-in-Path.ensures c.steps.ensures

pub sized-returns-in-Known : goal.sized-returns-in-Known
sized-returns-in-Known t c =
    known_is c.args.funs.now _ _ _ _ _ _ _ _ _ c.in-Call.is c.in-Known.is c.as_slice-in-Known.ensures c.all-all.ensures c.len.ensures c.built_in.ensures

pub sized-returns-in-Declared : goal.sized-returns-in-Declared
sized-returns-in-Declared t c =
    declared_is c.args.funs.now _ _ _ _ _ _ _ _ _ _ c.in-Call.is c.in-Declared.is c.as_slice-in-Declared.ensures c.typed_at.ensures c.parameters-round.ensures c.body_at.ensures c.filled-in-Declared.ensures

pub sized-returns-in-Element : goal.sized-returns-in-Element
sized-returns-in-Element t c =
    element_is c.args.funs.now _ _ _ _ _ _ _ _ _ _ c.in-Element.is c.as_slice-in-Element.ensures c.all_attributes-first.ensures c.as_slice-in-Element-2.ensures c.all_parts-all.ensures c.element.ensures
