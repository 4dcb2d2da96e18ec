use Rattle.std.proofs.Common.{◌≡◌, ◌++◌, string_bytes, sym, ◌∙◌, rules}
use Rattle.std.specs.Char.{encode_utf8}
use Rattle.std.proofs.lemmas.List.{map-id}
use Rattle.std.proofs.lemmas.Iterator.{YieldsList-from_chars}
use Rattle.std.proofs.lemmas.Iterator.Consumers.{YieldsList-end}
use Rattle.doc_shred.proofs.Blanks.{one_blanked, all_blanked}
use Rattle.doc_shred.proofs.values.push_blanked.Goals as goal

pub loop-c-preserved : goal.loop-c-preserved
loop-c-preserved c =
    let grown : string_bytes c.push.new.self ≡ string_bytes c.loop-c.value ++ encode_utf8 c.blanked.result = search rules in
    one_blanked (string_bytes c.args.value.now) (string_bytes c.loop-c.value) (string_bytes c.push.new.self) c.in-Some.c c.blanked.result c.loop-c.yielded c.loop-c.invariant grown c.blanked.ensures

pub returns : goal.returns
returns c =
    let t = YieldsList-end (YieldsList-from_chars c.args.text.now c.utf8.text cc) c.loop-c.yielded _ c.loop-c.yielded_by _ _ c.in-None.is c.next.ensures.steps in
    record { ok = all_blanked (string_bytes c.args.value.now) (string_bytes c.loop-c.value) c.args.text.now c.loop-c.yielded c.utf8.text c.loop-c.invariant (sym (map-id c.loop-c.yielded) ∙ t.0) }
