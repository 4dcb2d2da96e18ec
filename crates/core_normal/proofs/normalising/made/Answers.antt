use Rattle.std.proofs.Common.{refl, ◌∙◌}
use Rattle.core_normal.proofs.Normalised.{query_made}
use Rattle.core_normal.proofs.normalising.made.Goals as goal

pub returns : goal.returns
returns c =
    query_made c.args.query.now _ _ _ _ _ _ c.as_slice-declarations.ensures c.get-main.ensures c.in_ok-bodies.ensures.made c.in_ok-has_main_calls.ensures
    (c.in_ok-bodies.ensures.same ∙ c.in_ok-known.ensures.vars) refl c.in_ok-core.ensures
