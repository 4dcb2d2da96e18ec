use Rattle.std.proofs.Common.{◌≡◌, length, ap, sym, ◌∙◌}
use Rattle.std.specs.Prelude.{nat_eq}
use Rattle.std.proofs.lemmas.Bool.{false≢true}
use Rattle.xq_funs.specs.Numerals.{minus_then}
use Rattle.xq_funs.proofs.Digits.{number_law}
use Rattle.xq_funs.proofs.numerals.number.Goals as goal

pub returns : goal.returns
returns c =
    let some : length c.args.digits.now ≡ 0 → ⊥ = λ e. false≢true (c.if-is_empty.ensures ∙ ap (λ n. nat_eq n 0) e) in
    c.with_minus.ensures ∙ ap (minus_then c.args.negative) c.whole.ensures.value ∙ sym (number_law c.args.negative c.args.digits.now some)
