use Rattle.std.proofs.Common.{refl, ◌∙◌}
use Rattle.core_normal.proofs.Adding.{bodies_none}
use Rattle.core_normal.proofs.templates.templates.Goals as goal

pub loop-k-init : goal.loop-k-init
loop-k-init g c = record {
  made = bodies_none _ _ _ c.requires.base c.in_ok-bodies.ensures.base c.in_ok-bodies.ensures.none;
  same = refl;
}

pub loop-k-preserved : goal.loop-k-preserved
loop-k-preserved g c = record {
  made = c.in_ok-add.ensures.made c.loop-k.invariant.made (c.loop-k.invariant.same ∙ c.requires.globals);
  same = c.in_ok-add.ensures.same ∙ c.loop-k.invariant.same;
}
