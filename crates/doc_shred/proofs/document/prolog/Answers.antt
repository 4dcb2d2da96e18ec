use Rattle.std.proofs.Common.{◌≡◌, ◌-◌, ◌^◌, length, subst, sym, ap, ◌∙◌, arith, false, Err}
use Rattle.doc_shred.specs.Views.{Lent}
use Rattle.doc_shred.specs.Walk as w
use Rattle.doc_shred.specs.Standing.{MiscsRead, NoMiscs}
use Rattle.doc_shred.specs.Refusals.{TypeRead, TypeRefused, PrologRead, PrologRefused}
use Rattle.doc_shred.proofs.Passes.{if_ok, if_err}
use Rattle.doc_shred.proofs.PrologSteps.{head_room, unknown_refused, miscs_refused, typed_room, prolog_read, prolog_refused}
use Rattle.doc_shred.proofs.document.prolog.Goals as goal

pub returns-then-is_unknown-clause-refused : goal.returns-then-is_unknown-clause-refused
returns-then-is_unknown-clause-refused c =
    unknown_refused c.args.text.now (ap w.is_unknown (sym c.head.ensures.encoding) ∙ sym c.is_unknown.ensures ∙ c.if-is_unknown.true)

pub miscs-requires-clause-room : goal.miscs-requires-clause-room
miscs-requires-clause-room c =
    omega (arith, ap length c.head.ensures.rest, head_room c.args.text.now c.args.builder.now c.requires.empty (2 ^ 32 - 1) c.requires.room)

pub returns-in-Err-clause-refused : goal.returns-in-Err-clause-refused
returns-in-Err-clause-refused c =
    let plain : w.is_unknown (w.head c.args.text.now).0 ≡ false = ap w.is_unknown (sym c.head.ensures.encoding) ∙ sym c.is_unknown.ensures ∙ c.if-is_unknown.false in
    subst (PrologRefused c.args.text.now) (sym c.refusal.ensures)
    (miscs_refused c.args.text.now c.args.builder.now c.requires.empty plain c.miscs.new.pool c.in-Err.error
    (λ e. subst (NoMiscs c.miscs.new.pool c.args.builder.now) c.head.ensures.rest (c.in-Err.ensures.refused (ap (λ z. Err z) e))))

pub typed-requires-clause-room : goal.typed-requires-clause-room
typed-requires-clause-room c =
    let plain : w.is_unknown (w.head c.args.text.now).0 ≡ false = ap w.is_unknown (sym c.head.ensures.encoding) ∙ sym c.is_unknown.ensures ∙ c.if-is_unknown.false in
    let read : MiscsRead c.miscs.new.pool c.args.builder.now c.miscs.new.builder (w.head c.args.text.now).1 c.in-Ok.rest.now = subst (λ z. MiscsRead c.miscs.new.pool c.args.builder.now c.miscs.new.builder z c.in-Ok.rest.now) c.head.ensures.rest c.in-Ok.ensures.read in
    typed_room c.args.text.now c.args.builder.now c.requires.empty plain c.miscs.new.pool c.miscs.new.builder c.in-Ok.rest.now read (2 ^ 32 - 1) c.requires.room

pub returns-clause-read : goal.returns-clause-read
returns-clause-read c =
    let plain : w.is_unknown (w.head c.args.text.now).0 ≡ false = ap w.is_unknown (sym c.head.ensures.encoding) ∙ sym c.is_unknown.ensures ∙ c.if-is_unknown.false in
    let read : MiscsRead c.miscs.new.pool c.args.builder.now c.miscs.new.builder (w.head c.args.text.now).1 c.in-Ok.rest.now = subst (λ z. MiscsRead c.miscs.new.pool c.args.builder.now c.miscs.new.builder z c.in-Ok.rest.now) c.head.ensures.rest c.in-Ok.ensures.read in
    if_ok
    (λ (last : Lent). TypeRead c.typed.new.pool c.miscs.new.builder c.typed.new.builder c.in-Ok.rest.now last.now)
    (λ (last : Lent). PrologRead c.typed.new.pool c.typed.new.builder c.args.text.now last.now)
    c.typed.result c.typed.ensures.read
    (λ last t. prolog_read c.args.text.now c.args.builder.now c.requires.empty plain c.miscs.new.pool c.miscs.new.builder c.in-Ok.rest.now read c.typed.new.pool c.typed.new.builder last.now c.typed.ensures.later t)

pub returns-clause-refused : goal.returns-clause-refused
returns-clause-refused c =
    let plain : w.is_unknown (w.head c.args.text.now).0 ≡ false = ap w.is_unknown (sym c.head.ensures.encoding) ∙ sym c.is_unknown.ensures ∙ c.if-is_unknown.false in
    let read : MiscsRead c.miscs.new.pool c.args.builder.now c.miscs.new.builder (w.head c.args.text.now).1 c.in-Ok.rest.now = subst (λ z. MiscsRead c.miscs.new.pool c.args.builder.now c.miscs.new.builder z c.in-Ok.rest.now) c.head.ensures.rest c.in-Ok.ensures.read in
    if_err
    (TypeRefused c.typed.new.pool c.miscs.new.builder c.in-Ok.rest.now) (PrologRefused c.args.text.now) c.typed.result c.typed.ensures.refused
    (λ fault t. prolog_refused c.args.text.now c.args.builder.now c.requires.empty plain c.miscs.new.pool c.miscs.new.builder c.in-Ok.rest.now read c.typed.new.pool fault c.typed.ensures.later t)
