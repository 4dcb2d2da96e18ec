use Rattle.std.proofs.Common.{◌∙◌, sym, subst, ap, refl}
use Rattle.doc_table.specs.Enc.{enc}
use Rattle.staircase.specs.Ahead.{rest_of}
use Rattle.staircase.specs.Frames.{unfinished, next_of}
use Rattle.staircase.proofs.Children.{TopOpen, kids-finished, kids-as, kids-next, unfinished-open}
use Rattle.staircase.proofs.PassStarts.{tree-nests}
use Rattle.staircase.proofs.kids.KidsPass.next.Goals as goal

pub returns-clause-next : goal.returns-clause-next
returns-clause-next c = λ t e k.
    let rest = rest_of c.args.self.now.ahead in
    let now = kids-as (enc t) c.args.self.now.ahead.rows.now c.args.self.now.ahead.rows.now rest rest (unfinished c.args.self.now.frames) c.finish.new.frames c.args._from refl refl c.finish.ensures (kids-finished (enc t) c.args.self.now.ahead.rows.now rest c.args.self.now.frames c.args._from k) in
    kids-next (enc t) c.args.self.now.ahead.rows.now rest c.finish.new.frames c.args._from c.args._total (tree-nests t) e now
    (subst (λ z. TopOpen z) (sym c.finish.ensures) (unfinished-open c.args.self.now.frames)) c.next_kid.result (c.next_kid.ensures ∙ ap (next_of c.finish.new.frames) c.first.ensures)
