use Rattle.std.proofs.Common.{sym, ap, ◌∙◌}
use Rattle.core_meaning.specs.Erasure.{core_of, node_kind}
use Rattle.core_meaning.specs.PlainCore as p
use Rattle.core_normal.specs.Contents.{core_at, named_by}
use Rattle.core_normal.proofs.contents.built.Goals as goal

pub returns-in_ok-core-in-None : goal.returns-in_ok-core-in-None
returns-in_ok-core-in-None c =
    λ t. c.in_ok-core-in-None.ensures t ∙ ap (λ q. p.Build c.args.offset (node_kind c.args.what) (named_by (core_at t q)) (core_of t c.args.content)) (sym c.in-None.is)

pub returns-in_ok-core-in-Some : goal.returns-in_ok-core-in-Some
returns-in_ok-core-in-Some c =
    λ t. c.in_ok-core-in-Some.ensures t ∙ ap (λ q. p.Build c.args.offset (node_kind c.args.what) (named_by (core_at t q)) (core_of t c.args.content)) (sym c.in-Some.is)
