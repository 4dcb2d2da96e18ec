use Rattle.std.proofs.Common.{◌≡◌, ◌∙◌, length, arith}
use Rattle.core_normal.proofs.PrologMade.{globals_turn}
use Rattle.core_normal.proofs.prolog.with_globals.Goals as goal

pub loop-global-preserved : goal.loop-global-preserved
loop-global-preserved c =
    let count : c.len-n.result ≡ length c.pop.new.self.items = omega (arith, c.pop.new.self.ok.0, c.len-n.ensures) in
    λ t.
    c.loop-global.invariant t
    ∙ globals_turn t c.loop-global.left.items c.pop.new.self.items c.in-Some.global _ c.loop-global.core _ c.in-Some.ensures.items count (c.in_ok-core.ensures t)
