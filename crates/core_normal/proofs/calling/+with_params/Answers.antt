use Rattle.std.proofs.Common.{◌∙◌, sym}
use Rattle.core_meaning.specs.Erasure.{core_of}
use Rattle.core_normal.proofs.CallsMade.{params_end, params_turn}
use Rattle.core_normal.proofs.calling.+with_params.Goals as goal

pub returns-in-None : goal.returns-in-None
returns-in-None t c = λ x. sym (params_end x c.args.offset c.args.moving.base c.args.moving.by c.args.template.now.vars.items c.args.template.now.types.items c.args.args (core_of x c.args.body) c.in-None.ensures.0)

pub returns-in_ok-whole-in-Some : goal.returns-in_ok-whole-in-Some
returns-in_ok-whole-in-Some t c = λ x.
    c.in_ok-whole-in-Some.ensures x
    ∙ sym (params_turn x c.args.offset c.args.moving.base c.args.moving.by c.args.template.now.vars.items c.args.template.now.types.items c.args.args _ _ c.args.body _ _ c.in-Some.ensures c.len-i.ensures (c.in_ok-inner-in-Some.ensures x))
