use Rattle.core_normal.proofs.SortsMade.{sorted_made}
use Rattle.core_normal.proofs.maker.Maker.sorted_flwor.Goals as goal

pub returns : goal.returns
returns g c = sorted_made _ _ _ _ _ _ _ _ _ c.as_slice-all.ensures.value c.new-none.ensures c.in_ok-refs.ensures c.in_ok-parts.ensures c.in_ok-core.ensures
