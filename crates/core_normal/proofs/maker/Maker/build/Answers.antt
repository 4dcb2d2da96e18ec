use Rattle.core_normal.proofs.ContentsMade.{build_made}
use Rattle.core_normal.proofs.maker.Maker.build.Goals as goal

pub returns : goal.returns
returns g c = build_made _ _ _ _ _ _ _ _ c.in_ok-called.ensures c.in_ok-inside.ensures (λ t. simp (c.in_ok-core.ensures, c.build_kind-kind.ensures))
