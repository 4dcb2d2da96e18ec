-- A word that none of the twelve axes has as its name is the name of no axis.
use Rattle.std.proofs.Common.{◌≡◌, ℕ, List}
use Rattle.xq_base.specs.declared.axis.Axis.{Axis}
use Rattle.xq_base.specs.declared.axis.Axis.TheVariants as a
use Rattle.step_bench.specs.Axes.{name_of, twelve, AreOthers}

pub no_axis : (word : List ℕ) (axis : Axis) → AreOthers twelve word → name_of axis ≡ word → ⊥
no_axis word a.SelfNode o = o.0
no_axis word a.Child o = o.1.0
no_axis word a.Descendant o = o.1.1.0
no_axis word a.DescendantOrSelf o = o.1.1.1.0
no_axis word a.Attribute o = o.1.1.1.1.0
no_axis word a.Parent o = o.1.1.1.1.1.0
no_axis word a.Ancestor o = o.1.1.1.1.1.1.0
no_axis word a.AncestorOrSelf o = o.1.1.1.1.1.1.1.0
no_axis word a.PrecedingSibling o = o.1.1.1.1.1.1.1.1.0
no_axis word a.FollowingSibling o = o.1.1.1.1.1.1.1.1.1.0
no_axis word a.Preceding o = o.1.1.1.1.1.1.1.1.1.1.0
no_axis word a.Following o = o.1.1.1.1.1.1.1.1.1.1.1.0
