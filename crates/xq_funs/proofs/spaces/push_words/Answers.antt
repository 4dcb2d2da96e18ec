use Rattle.std.proofs.Common.{ap, rules}
use Rattle.std.specs.Str.{chars}
use Rattle.std.proofs.lemmas.Iterator.{YieldsList-from_chars}
use Rattle.std.proofs.lemmas.Iterator.Consumers.{YieldsList-turn, YieldsList-end}
use Rattle.xq_base.proofs.NameTurns.{IsNext}
use Rattle.xq_funs.specs.declared.spaces.Gap.TheVariants as g
use Rattle.xq_funs.specs.Gaps.{spaced_all}
use Rattle.xq_funs.proofs.GapLemmas.{spaced_turn, spaced_end}
use Rattle.xq_funs.proofs.spaces.push_words.Goals as goal

pub loop-c-init : goal.loop-c-init
loop-c-init c = ap (λ t. spaced_all (t, g.Start) (chars c.args.text.now)) c.requires

pub loop-c-preserved : goal.loop-c-preserved
loop-c-preserved c =
    let t : IsNext (chars c.args.text.now) c.loop-c.yielded c.in-Some.c = YieldsList-turn (YieldsList-from_chars c.args.text.now c.utf8.text cc) c.loop-c.yielded _ c.loop-c.yielded_by _ _ c.in-Some.c c.in-Some.is c.next.ensures.steps in
    spaced_turn _ _ _ (chars c.args.text.now) c.loop-c.yielded c.in-Some.c t (search rules) c.loop-c.invariant

pub returns : goal.returns
returns c =
    let t = YieldsList-end (YieldsList-from_chars c.args.text.now c.utf8.text cc) c.loop-c.yielded _ c.loop-c.yielded_by _ _ c.in-None.is c.next.ensures.steps in
    spaced_end _ _ c.args.text.now c.loop-c.yielded c.utf8.text t.1 c.loop-c.invariant
