use Rattle.std.proofs.Common.{ap}
use Rattle.core_normal.specs.Held.{type_in}
use Rattle.core_normal.proofs.SortsMade.{with_test_none, with_test_some}
use Rattle.core_normal.proofs.sorting.with_test.Goals as goal

pub returns-in-None : goal.returns-in-None
returns-in-None c = λ t more. with_test_none t _ _ _ _ _ more (ap (type_in t) c.in-None.is)

pub returns-in_ok-push-in-Some : goal.returns-in_ok-push-in-Some
returns-in_ok-push-in-Some c =
    λ t more. with_test_some t _ _ _ _ _ _ _ _ _ (ap (type_in t) c.in-Some.is) c.in_ok-push-in-Some.ensures.ok (c.in_ok-test-in-Some.ensures t) (c.in_ok-value-in-Some.ensures t) more
