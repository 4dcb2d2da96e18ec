use Rattle.std.proofs.Common.{◌≡◌, ◌+◌, ◌∙◌, ap, sym, map, length, arith, rules, true, false, ⊎_elim}
use Rattle.xq_base.specs.declared.item.TextId.{TextId}
use Rattle.doc_shred.specs.Standing.{name_numbers}
use Rattle.doc_shred.specs.Reading as r
use Rattle.doc_shred.proofs.Spines.{later_later, later_self}
use Rattle.doc_shred.proofs.AttributeLaws.{so_far_begins, so_far_goes_on, so_far_missing, so_far_twice, so_far_ends, so_far_no_turn}
use Rattle.doc_shred.proofs.tags.add_attributes.Goals as goal

pub returns-then-not-has_attribute-clause-added : goal.returns-then-not-has_attribute-clause-added
returns-then-not-has_attribute-clause-added c =
    let off : r.has_attribute c.loop-turn.rest.now ≡ false = search rules in
    so_far_ends c.loop-turn.pool c.args.builder.now c.loop-turn.builder (length c.args.bytes.now + 1) c.loop-turn._turn c.loop-turn.rest.now c.args.bytes.now (omega arith) c.requires.element c.loop-turn.invariant.1 off

pub returns-in-Err-clause-refused : goal.returns-in-Err-clause-refused
returns-in-Err-clause-refused c = λ e.
    let on : r.has_attribute c.loop-turn.rest.now ≡ true = search rules in
    ⊎_elim
    (so_far_missing c.loop-turn.pool c.args.builder.now c.loop-turn.builder (length c.args.bytes.now + 1) c.loop-turn._turn c.loop-turn.rest.now c.args.bytes.now (omega arith) c.requires.element c.loop-turn.invariant.1 on)
    (λ twice. so_far_twice c.loop-turn.pool c.args.builder.now c.loop-turn.builder (length c.args.bytes.now + 1) c.loop-turn._turn c.loop-turn.rest.now c.args.bytes.now (omega arith) c.requires.element c.loop-turn.invariant.1
    c.add_attribute.new.pool on c.add_attribute.ensures.later twice.1 twice.0)
    (c.in-Err.ensures.refused (search rules))

pub loop-turn-preserved : goal.loop-turn-preserved
loop-turn-preserved c =
    let on : r.has_attribute c.loop-turn.rest.now ≡ true = search rules in (
      later_later c.args.pool.now c.loop-turn.pool c.add_attribute.new.pool c.loop-turn.invariant.0 c.add_attribute.ensures.later,
      so_far_goes_on c.loop-turn.pool c.args.builder.now c.loop-turn.builder (length c.args.bytes.now + 1) c.loop-turn._turn c.loop-turn.rest.now c.args.bytes.now (omega arith) c.requires.element c.loop-turn.invariant.1
          c.add_attribute.new.pool c.add_attribute.new.builder c.in-Ok.after.now on c.add_attribute.ensures.later c.in-Ok.ensures.different c.in-Ok.ensures.added,
      c.in-Ok.ensures.names,
    )

pub returns-clause-refused : goal.returns-clause-refused
returns-clause-refused c = λ e. so_far_no_turn c.loop-turn.pool c.args.builder.now c.loop-turn.builder (length c.args.bytes.now + 1) c.loop-turn._turn c.loop-turn.rest.now c.args.bytes.now (omega arith) c.loop-turn.invariant.1

pub loop-turn-init : goal.loop-turn-init
loop-turn-init c =
    let none : c.new-names.result ≡ name_numbers c.args.builder.now.nodes = c.new-names.ensures ∙ ap (map (λ (a : TextId × TextId). a.0.0)) (sym c.requires.none) in
    (later_self c.args.pool.now, so_far_begins c.args.pool.now c.args.builder.now c.args.bytes.now c.requires.element c.requires.none, none)
