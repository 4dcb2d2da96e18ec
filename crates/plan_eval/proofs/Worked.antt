-- Worked plans: in which order their operators are evaluated.
use Rattle.std.proofs.Common.{◌≡◌, [], ◌∷◌, refl, pos, true, Some}
use Rattle.xq_base.specs.declared.code.Code.TheVariants as c
use Rattle.xq_base.specs.declared.item.Atom.TheVariants as a
use Rattle.plan_dag.specs.declared.check.Check.{Check}
use Rattle.plan_dag.specs.declared.op.Op.TheVariants as o
use Rattle.plan_dag.specs.Meaning.{Graph}
use Rattle.plan_eval.specs.declared.events.Event.TheVariants as v
use Rattle.plan_eval.specs.Turns.{events_of, make_event}

-- three operators above one, two of which are checked, the last one first; the root is the first
abbrev first_check : Check
first_check = record { op = record { 0 = 3 }; code = c.FORG0001; offset = 7 }

abbrev second_check : Check
second_check = record { op = record { 0 = 1 }; code = c.FORG0006; offset = 9 }

abbrev branches : Graph
branches = record {
  ops =
      o.Unit (record { 0 = 0 })
      ∷ o.Attach (record { 0 = 0 }) (record { 0 = 1 }) (a.Int (pos 5))
      ∷ o.Attach (record { 0 = 0 }) (record { 0 = 2 }) (a.Bool true)
      ∷ o.Select (record { 0 = 2 }) (record { 0 = 2 })
      ∷ [];
  checks = first_check ∷ second_check ∷ [];
  root = Some (record { 0 = 2 });
}

-- what the first check needs comes first, and nothing is left for the root
branches_in_order : events_of branches ≡ make_event 0 ∷ make_event 2 ∷ make_event 3 ∷ v.Test first_check ∷ make_event 1 ∷ v.Test second_check ∷ []
branches_in_order = refl

-- an operator that neither a check nor the root needs isn't evaluated
abbrev idle : Graph
idle = record { ops = branches.ops; checks = []; root = Some (record { 0 = 1 }) }

idle_left_out : events_of idle ≡ make_event 0 ∷ make_event 1 ∷ []
idle_left_out = refl
