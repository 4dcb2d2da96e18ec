use Rattle.std.proofs.Common.{◌≡◌, ◌<◌, ◌-◌, ◌∙◌, ap, sym, subst, length, take, drop, arith}
use Rattle.table_ops.specs.Chains.{places_of}
use Rattle.table_ops.specs.Filed.{span_at}
use Rattle.table_ops.specs.Keys.{item_eq, place_in}
use Rattle.table_ops.proofs.FiledLaws.{absent_places, piece_of}
use Rattle.table_ops.proofs.Keying.{absent_place, present_place}
use Rattle.table_ops.proofs.TallyLaws.{any_default}
use Rattle.table_ops.proofs.index.Index.places.Goals as goal

pub returns-in-None : goal.returns-in-None
returns-in-None c =
    let all : length c.self.inside.table.keys ≡ place_in item_eq c.self.inside.table.keys c.args.cell = absent_place item_eq c.self.inside.table.keys c.args.cell c.in-None.ensures.index in
    sym (absent_places c.self.inside.table.keys c.self.inside.keys.items c.self.inside.places.items c.self.inside.spans.items c.args.cell c.self.invariant (omega (arith, all)))
    ∙ ap (places_of (item_eq c.args.cell) 0) c.self.view_is

pub returns-in-Some : goal.returns-in-Some
returns-in-Some c =
    let at = present_place item_eq c.self.inside.table.keys c.args.cell c.in-Some.key c.in-Some.ensures.index in
    let within : c.in-Some.key < length c.self.inside.spans.items = subst (λ n. c.in-Some.key < n) (sym c.self.invariant.filed.many) at.1 in
    let span : c.index.result.now ≡ span_at c.self.inside.spans.items c.in-Some.key = c.index.ensures ∙ any_default c.self.inside.spans.items c.in-Some.key c.index.result.now (0, 0) within in
    let piece = piece_of c.self.inside.table.keys c.self.inside.keys.items c.self.inside.places.items c.self.inside.spans.items c.args.cell c.in-Some.key c.self.invariant at.0 at.1 in
    (λ i. take ((span i).1 - (span i).0) (drop (span i).0 (c.deref.ensures.value i)))
    ∙ piece.is
    ∙ ap (places_of (item_eq c.args.cell) 0) c.self.view_is
