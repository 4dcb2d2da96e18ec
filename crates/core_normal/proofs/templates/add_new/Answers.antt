use Rattle.core_normal.proofs.Adding.{bodies_more}
use Rattle.core_normal.specs.Order.{placed, places}
use Rattle.std.proofs.Common.{ap, sym, ◌∙◌}
use Rattle.std.specs.Prelude.{slice_get}
use Rattle.core_normal.proofs.templates.add_new.Goals as goal

pub returns-in_ok-put-in-Some-clause-made : goal.returns-in_ok-put-in-Some-clause-made
returns-in_ok-put-in-Some-clause-made g c = λ h q.
    bodies_more c.args.making.now.declarations.now _ _ _ _ _ _ c.requires.new
    (ap (λ ps. placed c.args.making.now.declarations.now (slice_get ps c.args.k)) (sym c.requires.places) ∙ c.in-Some.ensures)
    c.in_ok-template-in-Some.ensures.made c.in_ok-put-in-Some.ensures.base c.in_ok-put-in-Some.ensures.put q h
