use Rattle.core_normal.proofs.Adding.{declared_template}
use Rattle.core_normal.proofs.templates.template_of.Goals as goal

pub returns-in_ok-template-in-Fun-clause-made : goal.returns-in_ok-template-in-Fun-clause-made
returns-in_ok-template-in-Fun-clause-made g c =
    declared_template c.args.maker.now.bodies.now _ _ _ _ _ _ _ _ _ _ c.in-Fun.is c.as_slice-first.ensures c.get-e.ensures c.in_ok-has_calls-in-Fun.ensures c.in_ok-template-in-Fun.ensures.made
