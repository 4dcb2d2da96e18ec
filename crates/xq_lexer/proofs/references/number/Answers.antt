use Rattle.std.proofs.Common.{◌≡◌, ◌+◌, ◌*◌, min, sym, ap, ◌∙◌, arith, rules, take, get_or}
use Rattle.std.specs.Char.{digit_value}
use Rattle.std.proofs.lemmas.List.{take_more}
use Rattle.xq_ast.specs.Values.{number}
use Rattle.xq_lexer.specs.Radix.{radix_of}
use Rattle.xq_lexer.proofs.Numbers.{number-push, step_capped}
use Rattle.xq_lexer.proofs.references.number.Goals as goal

pub loop-byte-preserved : goal.loop-byte-preserved
loop-byte-preserved c =
    let r = radix_of c.args.hexadecimal in
    let ds = c.args.digits.now in
    let i = c.loop-byte.byte-index in
    let d = get_or ds i 0 in
    let read : c.digit.result ≡ digit_value d = search rules in
    c.shifted-value.ensures
    ∙ ap (λ z. min (z * r + c.digit.result) 0x11_0000) c.loop-byte.invariant
    ∙ step_capped c.args.hexadecimal (number r 0 (take i ds)) c.digit.result
    ∙ ap (λ z. min (number r 0 (take i ds) * r + z) 0x11_0000) read
    ∙ ap (λ z. min z 0x11_0000) (sym (number-push r 0 d (take i ds)))
    ∙ ap (λ z. min (number r 0 z) 0x11_0000) (sym (take_more ds i 0 (omega arith)))
