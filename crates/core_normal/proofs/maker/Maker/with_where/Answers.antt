use Rattle.core_normal.proofs.SortsMade.{where_none, where_some}
use Rattle.core_normal.proofs.maker.Maker.with_where.Goals as goal

pub returns-in-None : goal.returns-in-None
returns-in-None g c = where_none _ _ _ c.in-None.is

pub returns-in_ok-all-in-Some : goal.returns-in_ok-all-in-Some
returns-in_ok-all-in-Some g c =
    where_some _ _ _ _ _ _ _ _ c.in-Some.is c.get-inner.ensures c.in_ok-test-in-Some.ensures (λ t. simp (c.in_ok-truth-in-Some.ensures, c.place.ensures t)) c.in_ok-all-in-Some.ensures
