use Rattle.std.proofs.Common.{◌∙◌, sym}
use Rattle.staircase.proofs.PassStarts.{on-ok}
use Rattle.staircase.proofs.GatherLaws.{chain-gains, span-gains}
use Rattle.staircase.proofs.gather.gather.Goals as goal

pub returns-then-is_chained : goal.returns-then-is_chained
returns-then-is_chained c = on-ok c.gather_chains.result c.gather_chains.ensures (λ w test t rows r.
    chain-gains c.args.axis test t c.args.context.now rows c.args.seen.now c.args.counting c.args.hits.now.items c.gather_chains.new.hits.items (sym c.is_chained.ensures ∙ c.if-is_chained.true) r w)

pub returns : goal.returns
returns c = on-ok c.gather_spans.result c.gather_spans.ensures (λ w test t rows r.
    span-gains c.args.axis test t c.args.context.now rows c.args.seen.now c.args.counting c.args.hits.now.items c.gather_spans.new.hits.items (sym c.is_chained.ensures ∙ c.if-is_chained.false) r w)
