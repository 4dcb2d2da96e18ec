use Rattle.lift_laws.proofs.EmptyTypeCase.{none_instance_call, none_treat_call, none_conversion_call}
use Rattle.lift_laws.proofs.laws.empty_types_lift.Goals as goal

pub returns : goal.returns
returns c = λ docs s s1 s2 site looped a k.
    (λ m. none_instance_call docs site looped a k m, λ m h. none_treat_call docs site looped a k m h, λ m h. none_conversion_call docs site looped a k m h)
