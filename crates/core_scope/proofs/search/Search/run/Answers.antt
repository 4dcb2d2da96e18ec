use Rattle.std.proofs.Common.{rules, ◌-◌, length, sym, ap, ◌∙◌, arith}
use Rattle.std.proofs.lemmas.Grind.{common_steps}
use Rattle.core_scope.proofs.Searching.{stop_law, next_law, last_law}
use Rattle.core_scope.proofs.search.Search.run.Goals as goal

pub returns-in-None : goal.returns-in-None
returns-in-None c =
    c.in-None.ensures.1
    ∙ sym (stop_law c.args.graph.now (length c.args.self.now.marked - c.loop-turn._turn) c.loop-turn.self c.in-None.ensures.0)
    ∙ c.loop-turn.invariant

pub loop-turn-preserved : goal.loop-turn-preserved
loop-turn-preserved c =
    sym (next_law c.args.graph.now (length c.args.self.now.marked) c.loop-turn._turn c.loop-turn.self c.next.new.self c.mark_all.new.self c.in-Some.f (grind (arith, common_steps, c.self.view_is, c.loop-turn-test.true)) c.in-Some.ensures.0 c.in-Some.ensures.1 (search rules))
    ∙ c.loop-turn.invariant

pub returns : goal.returns
returns c =
    last_law c.args.graph.now (length c.args.self.now.marked) c.loop-turn._turn c.loop-turn.self _ (grind (arith, common_steps, c.self.view_is, c.loop-turn-test.false)) c.loop-turn.invariant
