use Rattle.std.proofs.Common.{◌∙◌, ◌+◌, ap}
use Rattle.doc_table.specs.Enc.{enc}
use Rattle.staircase.specs.Ahead.{rest_of}
use Rattle.staircase.specs.declared.frames.Frame.{Frame}
use Rattle.staircase.specs.Frames.{unfinished, advanced, with_frame}
use Rattle.staircase.proofs.Children.{kids-finished, kids-as, kids-enter, unfinished-open}
use Rattle.staircase.proofs.PassStarts.{tree-nests, on-ok}
use Rattle.staircase.proofs.kids.KidsPass.enter.Goals as goal

pub returns-clause-knows : goal.returns-clause-knows
returns-clause-knows c = on-ok c.enter_frame.result c.enter_frame.ensures (λ f t l w r k.
    let at = c.args.seen.pre in
    let last = c.args.seen.last in
    let rows = c.args.self.now.ahead.rows.now in
    let rest = rest_of c.args.self.now.ahead in
    let frame : Frame = record { pre = at; child = at + 1; last = last } in
    kids-as (enc t) rows _ _ _ _ _ (at + 1) c.pass-is_context.ensures.rows c.pass-is_context.ensures.rest
    (f ∙ ap (λ z. with_frame z frame c.advance.new.frames) c.pass-is_context.ensures.found ∙ ap (with_frame _ frame) (c.in_ok-advance.ensures ∙ ap (advanced at last) c.finish.ensures))
    (kids-enter (enc t) rows rest (unfinished c.args.self.now.frames) at last (tree-nests t) (kids-finished (enc t) rows rest c.args.self.now.frames at k) (unfinished-open c.args.self.now.frames) l r.0))
