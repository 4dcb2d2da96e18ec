use Rattle.std.proofs.Common.{◌≡◌, ◌&&◌, ◌++◌, ◌∷◌, [], length, drop, true, false, sym, ap, ◌∙◌, rules}
use Rattle.std.specs.List.{list_all}
use Rattle.std.specs.Str.{chars}
use Rattle.std.proofs.lemmas.Iterator.{YieldsList-from_chars}
use Rattle.std.proofs.lemmas.Iterator.Consumers.{YieldsList-turn, YieldsList-end}
use Rattle.xq_base.specs.Chars.{is_char}
use Rattle.xq_base.proofs.NameTurns.{IsNext, turn, at_end}
use Rattle.xq_parser.proofs.text.all_chars.Goals as goal

pub returns-then-not-is_char : goal.returns-then-not-is_char
returns-then-not-is_char c =
    let t : IsNext (chars c.args.text.now) c.loop-c.yielded c.in-Some.c = YieldsList-turn (YieldsList-from_chars c.args.text.now c.utf8.text cc) c.loop-c.yielded _ c.loop-c.yielded_by _ _ c.in-Some.c c.in-Some.is c.next.ensures.steps in
    let fails : is_char c.in-Some.c ≡ false = search rules in
    ap (λ b. b && list_all is_char (drop (length (c.loop-c.yielded ++ c.in-Some.c ∷ [])) (chars c.args.text.now))) (sym fails)
    ∙ sym (turn (list_all is_char) (chars c.args.text.now) c.loop-c.yielded c.in-Some.c t) ∙ c.loop-c.invariant

pub loop-c-preserved : goal.loop-c-preserved
loop-c-preserved c =
    let t : IsNext (chars c.args.text.now) c.loop-c.yielded c.in-Some.c = YieldsList-turn (YieldsList-from_chars c.args.text.now c.utf8.text cc) c.loop-c.yielded _ c.loop-c.yielded_by _ _ c.in-Some.c c.in-Some.is c.next.ensures.steps in
    let passes : is_char c.in-Some.c ≡ true = search rules in
    ap (λ b. b && list_all is_char (drop (length (c.loop-c.yielded ++ c.in-Some.c ∷ [])) (chars c.args.text.now))) (sym passes)
    ∙ sym (turn (list_all is_char) (chars c.args.text.now) c.loop-c.yielded c.in-Some.c t) ∙ c.loop-c.invariant

pub returns : goal.returns
returns c =
    let t = YieldsList-end (YieldsList-from_chars c.args.text.now c.utf8.text cc) c.loop-c.yielded _ c.loop-c.yielded_by _ _ c.in-None.is c.next.ensures.steps in
    sym (at_end (list_all is_char) (chars c.args.text.now) c.loop-c.yielded t.1) ∙ c.loop-c.invariant
