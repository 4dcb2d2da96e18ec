use Rattle.std.proofs.Common.{sym, ap, ◌∙◌}
use Rattle.core_meaning.specs.Erasure.{core_of}
use Rattle.core_normal.specs.Forming.{signed_all}
use Rattle.core_normal.specs.Pieces.{signed_core}
use Rattle.core_normal.proofs.singles.+signed_by.Goals as goal

pub returns-in_ok-core-in-Some : goal.returns-in_ok-core-in-Some
returns-in_ok-core-in-Some t c =
    λ x. c.in_ok-core-in-Some.ensures x ∙ ap (signed_core c.in-Some.outer.now.offset c.in-Some.outer.now.sign) (c.in_ok-inner-in-Some.ensures x) ∙ ap (λ l. signed_all l (core_of x c.args.a)) (sym c.in-Some.ensures.cases.0)
