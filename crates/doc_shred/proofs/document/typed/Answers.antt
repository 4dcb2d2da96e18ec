use Rattle.std.proofs.Common.{◌≡◌, ◌-◌, ◌^◌, arith, rules, true, false, Some, codes, nat_eq}
use Rattle.doc_shred.specs.Rules.{begins}
use Rattle.doc_shred.specs.Reading as r
use Rattle.doc_shred.proofs.PrologSteps.{untyped, doctype_room, doctype_read}
use Rattle.doc_shred.proofs.document.typed.Goals as goal

pub returns-then-not-comes_word-clause-read : goal.returns-then-not-comes_word-clause-read
returns-then-not-comes_word-clause-read c =
    let off : begins (codes "<!DOCTYPE") c.args.bytes.now ≡ false = search rules in
    untyped c.args.pool.now c.args.builder.now c.args.bytes.now c.requires.state off

pub miscs-requires-clause-room : goal.miscs-requires-clause-room
miscs-requires-clause-room c =
    let on : begins (codes "<!DOCTYPE") c.args.bytes.now ≡ true = search rules in
    let found : r.doctype c.args.bytes.now ≡ Some (c.in-Some.closing, c.in-Some.rest.now) = search rules in
    let shuts : nat_eq c.in-Some.closing 91 ≡ false = grind arith in
    doctype_room c.args.pool.now c.args.builder.now c.args.bytes.now on c.in-Some.closing c.in-Some.rest.now found shuts (2 ^ 32 - 1) c.requires.room

pub returns-in-Ok-clause-read : goal.returns-in-Ok-clause-read
returns-in-Ok-clause-read c =
    let on : begins (codes "<!DOCTYPE") c.args.bytes.now ≡ true = search rules in
    let found : r.doctype c.args.bytes.now ≡ Some (c.in-Some.closing, c.in-Some.rest.now) = search rules in
    let shuts : nat_eq c.in-Some.closing 91 ≡ false = grind arith in
    doctype_read c.args.pool.now c.args.builder.now c.args.bytes.now on c.in-Some.closing c.in-Some.rest.now found shuts c.miscs.new.pool c.miscs.new.builder c.in-Ok.rest.now c.in-Ok.ensures.read
