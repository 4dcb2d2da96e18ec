use Rattle.std.proofs.Common.{◌≡◌, ◌+◌, suc, sym, subst, arith}
use Rattle.plan_eval.proofs.FoundSoFar.{SoFar, after-one, after-all, doc-named}
use Rattle.plan_eval.proofs.found.find_all.Goals as goal

pub returns-in_default-clause-notes : goal.returns-in_default-clause-notes
returns-in_default-clause-notes g c = (after-all c.args.axis c.args.test c.args.site c.args.store.now c.args.entries.now c.args.reads.now c.loop-rank.reads c.loop-rank.rank c.loop-rank.tally c.loop-rank.rows.items c.loop-rank.invariant (sym c.in_default.ensures)).noted

pub returns-in_default-clause-tally : goal.returns-in_default-clause-tally
returns-in_default-clause-tally g c = (after-all c.args.axis c.args.test c.args.site c.args.store.now c.args.entries.now c.args.reads.now c.loop-rank.reads c.loop-rank.rank c.loop-rank.tally c.loop-rank.rows.items c.loop-rank.invariant (sym c.in_default.ensures)).counted

pub find_in-requires : goal.find_in-requires
find_in-requires g c = doc-named c.args.store.now c.args.entries.now c.loop-rank.rank c.in-Some.frag.now c.requires.named (sym c.in-Some.ensures)

pub loop-rank-preserved : goal.loop-rank-preserved
loop-rank-preserved g c =
    let next : suc c.loop-rank.rank ≡ c.loop-rank.rank + 1 = omega arith in
    subst (λ n. SoFar c.args.axis c.args.test c.args.site c.args.store.now c.args.entries.now c.args.reads.now c.find_in.new.reads n c.in-Some-sum.both c.find_in.new.rows.items) next
    (after-one c.args.axis c.args.test c.args.site c.args.store.now c.args.entries.now c.args.reads.now c.loop-rank.reads c.find_in.new.reads c.loop-rank.rank c.loop-rank.tally c.in_ok-one.one c.in-Some-sum.both c.loop-rank.rows.items c.find_in.new.rows.items c.in-Some.frag.now
    c.loop-rank.invariant (sym c.in-Some.ensures) c.in_ok-one.ensures.rows c.in_ok-one.ensures.notes c.in_ok-one.ensures.refuses c.in_ok-one.ensures.tally c.in-Some-sum.ensures)
