use Rattle.std.proofs.Common.{rules, ◌≡◌, ◌∙◌, ◌+◌, ◌<◌, Some, None, length, map, sym, ap, subst, arith}
use Rattle.xq_base.specs.declared.item.TextId.{TextId}
use Rattle.doc_table.specs.Tree.{Tree}
use Rattle.doc_table.specs.Enc.{enc}
use Rattle.doc_table.specs.Notes.{AppendsAll, notes_of}
use Rattle.doc_table.specs.Touched.{picked}
use Rattle.staircase.specs.Passes.{NextIs}
use Rattle.staircase.specs.Seen.{seen_of}
use Rattle.staircase.proofs.ReadLaws.{none-left, partly, reading-err, size-fits, read-more, read-part, entered}
use Rattle.staircase.proofs.read.read_rows.Goals as goal

pub returns-in-None-clause-notes : goal.returns-in-None-clause-notes
returns-in-None-clause-notes g c =
    let t : Tree TextId = g.R.Rows.tree c.args.rows.now in
    let w = c.loop-seen.invariant in
    let n = c.in-None.ensures.next t (sym c.len-total.ensures.length) w.known in
    let same = none-left (g.P.Pass.wants c.args.pass.now t) (g.P.Pass.wants c.loop-seen.pass t) (g.P.Pass.knows c.next.new.self t) c.loop-seen.from (length (enc t)) w.within w.same (subst (λ z. NextIs (g.P.Pass.wants c.loop-seen.pass t) (g.P.Pass.knows c.next.new.self t) c.loop-seen.from z None) c.len-total.ensures.length n) in
    subst (λ z. AppendsAll c.args.reads.now.notes c.loop-seen.reads.notes (notes_of c.args.site c.args.frag z)) (sym same) w.notes

pub returns-in-None-clause-seen : goal.returns-in-None-clause-seen
returns-in-None-clause-seen g c =
    let t : Tree TextId = g.R.Rows.tree c.args.rows.now in
    let w = c.loop-seen.invariant in
    let n = c.in-None.ensures.next t (sym c.len-total.ensures.length) w.known in
    let same = none-left (g.P.Pass.wants c.args.pass.now t) (g.P.Pass.wants c.loop-seen.pass t) (g.P.Pass.knows c.next.new.self t) c.loop-seen.from (length (enc t)) w.within w.same (subst (λ z. NextIs (g.P.Pass.wants c.loop-seen.pass t) (g.P.Pass.knows c.next.new.self t) c.loop-seen.from z None) c.len-total.ensures.length n) in
    w.rows ∙ ap (map (seen_of c.args.axis c.args.test t)) (sym same)

pub returns-in_err-row-in-Some-clause-notes : goal.returns-in_err-row-in-Some-clause-notes
returns-in_err-row-in-Some-clause-notes g c =
    let t : Tree TextId = g.R.Rows.tree c.args.rows.now in
    let w = c.loop-seen.invariant in
    let same : c.row.new.reads.notes ≡ c.loop-seen.reads.notes = c.in_err-row-in-Some.ensures.notes in
    let some = partly (g.P.Pass.wants c.args.pass.now t) c.loop-seen.from (length (enc t)) c.args.reads.now.notes c.row.new.reads.notes c.args.site c.args.frag w.within (subst (λ z. AppendsAll c.args.reads.now.notes z (notes_of c.args.site c.args.frag (picked (g.P.Pass.wants c.args.pass.now t) c.loop-seen.from))) (sym same) w.notes) in
    reading-err c.args.reads.now.notes c.row.new.reads.notes c.args.site c.args.frag _ c.from_residual.result c.from_residual.ensures.0 some

pub seen_row-one-requires : goal.seen_row-one-requires
seen_row-one-requires g c =
    let t : Tree TextId = g.R.Rows.tree c.args.rows.now in
    let n = c.in-Some.ensures.next t (sym c.len-total.ensures.length) c.loop-seen.invariant.known in
    let fits : c.in-Some.at + c.in_ok-row-in-Some.row.size < 4294967295 = size-fits t c.in-Some.at c.in_ok-row-in-Some.row c.in_ok-row-in-Some.ensures.row (omega (arith, n.1, c.len-total.ensures.length)) c.len-total.result c.len-total.ensures.length c.len-total.type_inv in
    omega arith

pub returns-then-is_err-clause-notes : goal.returns-then-is_err-clause-notes
returns-then-is_err-clause-notes g c =
    let t : Tree TextId = g.R.Rows.tree c.args.rows.now in
    let n = subst (λ z. NextIs (g.P.Pass.wants c.loop-seen.pass t) (g.P.Pass.knows c.next.new.self t) c.loop-seen.from z (Some c.in-Some.at)) c.len-total.ensures.length (c.in-Some.ensures.next t (sym c.len-total.ensures.length) c.loop-seen.invariant.known) in
    read-part t c.args.frag c.args.site c.args.axis c.args.test (g.P.Pass.wants c.args.pass.now t) (g.P.Pass.wants c.loop-seen.pass t) (g.P.Pass.knows c.loop-seen.pass t) (g.P.Pass.knows c.next.new.self t) c.loop-seen.from c.loop-seen.seen.items c.args.reads.now c.loop-seen.reads c.row.new.reads c.in-Some.at c.loop-seen.invariant n c.in_ok-row-in-Some.ensures.notes

pub enter-requires-clause-last : goal.enter-requires-clause-last
enter-requires-clause-last g c =
    let t : Tree TextId = g.R.Rows.tree c.args.rows.now in
    let n = c.in-Some.ensures.next t (sym c.len-total.ensures.length) c.loop-seen.invariant.known in
    let fits : c.in-Some.at + c.in_ok-row-in-Some.row.size < 4294967295 = size-fits t c.in-Some.at c.in_ok-row-in-Some.row c.in_ok-row-in-Some.ensures.row (omega (arith, n.1, c.len-total.ensures.length)) c.len-total.result c.len-total.ensures.length c.len-total.type_inv in
    let last : c.seen_row-one.result.last ≡ c.in-Some.at + c.in_ok-row-in-Some.row.size = ap (λ z. z.last) c.seen_row-one.ensures in
    omega arith

pub returns-in_err-enter-in-Some-clause-notes : goal.returns-in_err-enter-in-Some-clause-notes
returns-in_err-enter-in-Some-clause-notes g c =
    let t : Tree TextId = g.R.Rows.tree c.args.rows.now in
    let n = subst (λ z. NextIs (g.P.Pass.wants c.loop-seen.pass t) (g.P.Pass.knows c.next.new.self t) c.loop-seen.from z (Some c.in-Some.at)) c.len-total.ensures.length (c.in-Some.ensures.next t (sym c.len-total.ensures.length) c.loop-seen.invariant.known) in
    reading-err c.args.reads.now.notes c.row.new.reads.notes c.args.site c.args.frag _ c.from_residual-in_err-enter-in-Some.result c.from_residual-in_err-enter-in-Some.ensures.0
    (read-part t c.args.frag c.args.site c.args.axis c.args.test (g.P.Pass.wants c.args.pass.now t) (g.P.Pass.wants c.loop-seen.pass t) (g.P.Pass.knows c.loop-seen.pass t) (g.P.Pass.knows c.next.new.self t) c.loop-seen.from c.loop-seen.seen.items c.args.reads.now c.loop-seen.reads c.row.new.reads c.in-Some.at c.loop-seen.invariant n c.in_ok-row-in-Some.ensures.notes)

pub loop-seen-preserved : goal.loop-seen-preserved
loop-seen-preserved g c =
    let t : Tree TextId = g.R.Rows.tree c.args.rows.now in
    let n = subst (λ z. NextIs (g.P.Pass.wants c.loop-seen.pass t) (g.P.Pass.knows c.next.new.self t) c.loop-seen.from z (Some c.in-Some.at)) c.len-total.ensures.length (c.in-Some.ensures.next t (sym c.len-total.ensures.length) c.loop-seen.invariant.known) in
    read-more t c.args.frag c.args.site c.args.axis c.args.test (g.P.Pass.wants c.args.pass.now t) (g.P.Pass.wants c.loop-seen.pass t) (g.P.Pass.wants c.enter.new.self t) (g.P.Pass.knows c.loop-seen.pass t) (g.P.Pass.knows c.next.new.self t) (g.P.Pass.knows c.enter.new.self t) c.loop-seen.from c.loop-seen.seen.items c.args.reads.now c.loop-seen.reads c.row.new.reads c.in-Some.at c.in_ok-row-in-Some.row c.seen_row-one.result c.push.new.self.items
    c.loop-seen.invariant n c.in_ok-row-in-Some.ensures.row c.in_ok-row-in-Some.ensures.notes c.in_ok-row-in-Some.ensures.refuses c.seen_row-one.ensures (search rules) (λ v. c.in_ok-enter-in-Some.ensures.same t v ∙ c.in-Some.ensures.same t v)
    (entered t c.args.axis c.args.test c.in-Some.at c.in_ok-row-in-Some.row c.seen_row-one.result c.seen_row-one.ensures c.in_ok-row-in-Some.ensures.row (g.P.Pass.knows c.next.new.self t) (g.P.Pass.knows c.enter.new.self t) (g.P.Pass.wants c.next.new.self t) (c.in_ok-enter-in-Some.ensures.knows t) n.1 (c.in-Some.ensures.same t c.in-Some.at ∙ n.2) n.3)

pub enter-requires-clause-pre : goal.enter-requires-clause-pre
enter-requires-clause-pre g c =
    let pre : c.seen_row-one.result.pre ≡ c.in-Some.at = ap (λ z. z.pre) c.seen_row-one.ensures in
    let last : c.seen_row-one.result.last ≡ c.in-Some.at + c.in_ok-row-in-Some.row.size = ap (λ z. z.last) c.seen_row-one.ensures in
    omega arith
