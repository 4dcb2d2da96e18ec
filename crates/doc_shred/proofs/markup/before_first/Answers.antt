use Rattle.std.proofs.Common.{sym, ap, ◌∙◌, arith, rules}
use Rattle.doc_shred.specs.Parsers.{strip}
use Rattle.doc_shred.specs.Views.{silent}
use Rattle.doc_shred.proofs.Runs.{search_goes_on, search_found, search_ends, whole_rest}
use Rattle.doc_shred.proofs.markup.before_first.Goals as goal

pub returns-in-Some : goal.returns-in-Some
returns-in-Some c = search_found c.args.word.now c.args.bytes.now c.loop-at.at c.in-Some.rest.now (ap silent (sym c.in-Some.is) ∙ c.strip.ensures ∙ ap (strip c.args.word.now) (whole_rest c.args.bytes.now c.loop-at.at)) c.loop-at.invariant

pub loop-at-preserved : goal.loop-at-preserved
loop-at-preserved c = search_goes_on c.args.word.now c.args.bytes.now c.loop-at.at c.strip.result (omega arith) (c.strip.ensures ∙ ap (strip c.args.word.now) (whole_rest c.args.bytes.now c.loop-at.at)) (search rules) c.loop-at.invariant

pub returns : goal.returns
returns c = search_ends c.args.word.now c.args.bytes.now c.loop-at.at c.requires (omega arith) c.loop-at.invariant
