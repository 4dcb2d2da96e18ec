-- The laws, from the cases of the induction.
use Rattle.std.proofs.Common.{◌≡◌, false, refl, ap, is_none}
use Rattle.doc_table.specs.Values.{item_of_atom}
use Rattle.core_meaning.specs.Meaning.{val}
use Rattle.lift_laws.specs.Laws.{ValuesWhereNothingFails, LiteralLifts, NothingLifts, VariableLifts, SequenceLifts, BindingLifts, LoopLifts, ChoiceLifts, NoPartsLift, PartsLift, CallsLift, FailuresAreReached, CostIsWork, ChecksAnswer, DemandsAreSmall, OperatorMakes, StepMakes, CheckAdds, RulesAreFair, FailuresLift, ConstantsLift, ExistsLifts, EmptyLifts, ZeroOrOneLifts, OneOrMoreLifts, ExactlyOneLifts, DataLifts, CountLifts, ItemRulesLift, CastableLifts, TextRulesLift, BooleansLift, PairRulesLift, TextPairsLift, ConnectivesLift, GeneralsLift, StepsLift, UnionsLift, PathsLift, ReverseLifts, ConcatsLift, AggregatesLift, InstancesLift, TreatsLift, ItemConversionsLift, AtomConversionsLift, NoneCarried, OneMoreCarried, LoopCarries, BranchCarries, TreesAreKnown}
use Rattle.lift_laws.proofs.Picks.{all_mono}
use Rattle.lift_laws.proofs.Values.{ValueAt, no_faults}
use Rattle.lift_laws.proofs.PlainCases.{atom_plain, lit_lifts, empty_lifts, var_lifts, seq_lifts, let_lifts}
use Rattle.lift_laws.proofs.LoopCase.{for_lifts}
use Rattle.lift_laws.proofs.ChoiceCase.{if_lifts}
use Rattle.lift_laws.proofs.CallCase.{no_args, more_args, call_lifts}
use Rattle.lift_laws.proofs.Carrying.{carried_none, carried_more, carries_of, restricts_of}
use Rattle.lift_laws.proofs.Growing.{adds_makes, step_makes, check_adds}
use Rattle.lift_laws.proofs.Known.{knowns_rooted}
use Rattle.lift_laws.proofs.FairRules.{rule_fair}
use Rattle.lift_laws.proofs.DataCase.{data_call}
use Rattle.lift_laws.proofs.CountCase.{count_call}
use Rattle.lift_laws.proofs.ItemCase.{item_rule_call}
use Rattle.lift_laws.proofs.CastableCase.{castable_call}
use Rattle.lift_laws.proofs.TextCase.{text_rule_call}
use Rattle.lift_laws.proofs.TruthCase.{boolean_call}
use Rattle.lift_laws.proofs.PairFunctions.{pair_rule_call, text_pair_call}
use Rattle.lift_laws.proofs.ConnectiveCase.{or_call, and_call}
use Rattle.lift_laws.proofs.GeneralCase.{general_call}
use Rattle.lift_laws.proofs.WalkCase.{walk_call}
use Rattle.lift_laws.proofs.NodeSets.{union_call, path_call}
use Rattle.lift_laws.proofs.ReverseCase.{reverse_call}
use Rattle.lift_laws.proofs.ConcatCase.{concat_call}
use Rattle.lift_laws.proofs.AggregateCase.{aggregate_call}
use Rattle.lift_laws.proofs.TypeCase.{instance_call, treat_call, item_conversion_call, atom_conversion_call}
use Rattle.lift_laws.proofs.FunctionCases.{failure_call, true_call, false_call, exists_call, empty_call, zero_or_one_call, one_or_more_call, exactly_one_call}
use Rattle.lift_laws.proofs.Reaching.{cost_is_work, faults_are_fails}
use Rattle.lift_laws.proofs.FirstFailure.{verdict, demands}

pub values_where_nothing_fails : ValuesWhereNothingFails
values_where_nothing_fails docs e its h = all_mono _ _ (λ i (v : ValueAt docs e i). let r : is_none (val docs e i.env i.vector) ≡ false = ap is_none v.1 in r) its (no_faults docs e its h)

pub literal_lifts : LiteralLifts
literal_lifts docs s s' n a looped vars t m = lit_lifts docs n (item_of_atom a) looped vars t (atom_plain a) m

pub nothing_lifts : NothingLifts
nothing_lifts docs s s' n looped vars t m = empty_lifts docs n looped vars t m

pub variable_lifts : VariableLifts
variable_lifts docs s n x looped vars = var_lifts docs s n x looped vars

pub sequence_lifts : SequenceLifts
sequence_lifts docs s s1 s2 s3 n a b looped vars ta tb t z la lb m = seq_lifts docs n a b looped vars ta tb t z la lb m

pub binding_lifts : BindingLifts
binding_lifts docs s s1 s2 n x b e looped vars tb t z lb le = let_lifts docs n x b e looped vars tb t z lb le

pub loop_lifts : LoopLifts
loop_lifts docs s s1 s2 s3 s4 s5 s6 s7 s8 n x p q e looped vars vars' tq m inner vx vp te t z lq mm mi mx mp mc le mb =
    for_lifts docs n x p q e looped vars vars' tq m inner vx vp te t z lq mm mi mx mp mc le mb

pub choice_lifts : ChoiceLifts
choice_lifts docs s s1 s2 s3 s4 s5 s6 s7 s8 n d a b looped vars va vb tc chosen_loop other_loop ta tb t z ld my mn ra la rb lb mt =
    if_lifts docs n d a b looped vars va vb tc chosen_loop other_loop ta tb t z ld my mn ra la rb lb mt

pub no_parts_lift : NoPartsLift
no_parts_lift docs s n looped vars = no_args docs s n looped vars

pub parts_lift : PartsLift
parts_lift docs s s1 s2 n e es looped vars t ts z l ls = more_args docs n e es looped vars t ts z l ls

pub calls_lift : CallsLift
calls_lift docs s s1 s2 n site r es looped vars ts t z ls cl = call_lifts docs n site r es looped vars ts t z (rule_fair docs site r) ls cl

pub failures_are_reached : FailuresAreReached
failures_are_reached docs e its = faults_are_fails docs e its

pub the_cost_is_work : CostIsWork
the_cost_is_work docs e i = cost_is_work docs e i

pub checks_answer : ChecksAnswer
checks_answer R fs root ss N s lo hi gs t o f = verdict R s.tables fs root ss N s lo hi gs refl t o f

pub demands_are_small : DemandsAreSmall
demands_are_small N s hi gs fs t = demands N s hi gs fs t

pub operator_makes : OperatorMakes
operator_makes docs texts g g' op id v q a = adds_makes docs texts g g' op id v q a

pub a_check_adds : CheckAdds
a_check_adds docs texts g c h = check_adds docs texts g c h

pub none_carried : NoneCarried
none_carried R s m vars inner = carried_none R s m vars inner

pub one_more_carried : OneMoreCarried
one_more_carried R s s1 s2 m vars inner ys z op im iv c o = carried_more R z op im iv c o

pub loop_carries : LoopCarries
loop_carries s s' m vars inner x p e c = carries_of x p e c

pub branch_carries : BranchCarries
branch_carries s s' l vars inner e c = restricts_of e c

pub trees_are_known : TreesAreKnown
trees_are_known docs W fw vs a = knowns_rooted docs W fw vs a

pub rules_are_fair : RulesAreFair
rules_are_fair docs site r = rule_fair docs site r

pub failures_lift : FailuresLift
failures_lift docs s s1 s2 site code looped t d m h = failure_call docs site code looped t d m h

pub constants_lift : ConstantsLift
constants_lift docs s s' site looped t = ((λ m. true_call docs site looped t m), (λ m. false_call docs site looped t m))

pub exists_lifts : ExistsLifts
exists_lifts docs s s' site looped a t m = exists_call docs site looped a t m

pub empty_lifts_call : EmptyLifts
empty_lifts_call docs s s' site looped a t m = empty_call docs site looped a t m

pub zero_or_one_lifts : ZeroOrOneLifts
zero_or_one_lifts docs s s1 s2 site looped a k m h = zero_or_one_call docs site looped a k m h

pub one_or_more_lifts : OneOrMoreLifts
one_or_more_lifts docs s s1 s2 site looped a k m h = one_or_more_call docs site looped a k m h

pub exactly_one_lifts : ExactlyOneLifts
exactly_one_lifts docs s s1 s2 site looped a k m h = exactly_one_call docs site looped a k m h

pub data_lifts : DataLifts
data_lifts docs s s' site looped a t m = data_call docs site looped a t m

pub count_lifts : CountLifts
count_lifts docs s s' site looped a t m = count_call docs site looped a t m

pub item_rules_lift : ItemRulesLift
item_rules_lift docs s s1 s2 site q looped a t cs m st = item_rule_call docs site looped a t cs q m st

pub castable_lifts : CastableLifts
castable_lifts docs s s' site kind optional looped a t m = castable_call docs site kind optional looped a t m

pub text_rules_lift : TextRulesLift
text_rules_lift docs s s1 s2 site q looped a t cs m st = text_rule_call docs s s1 s2 site q looped a t cs m st

pub pair_rules_lift : PairRulesLift
pair_rules_lift docs s s1 s2 site q looped a b t cs m st = pair_rule_call docs s s1 s2 site looped a b t cs q m st

pub booleans_lift : BooleansLift
booleans_lift docs s s1 s2 site there looped a t cs m st = boolean_call docs s s1 s2 site there looped a t cs m st

pub generals_lift : GeneralsLift
generals_lift docs s s1 s2 site op looped a b t cs m st = general_call docs s s1 s2 site op looped a b t cs m st

pub connectives_lift : ConnectivesLift
connectives_lift docs s s' site looped a b t = ((λ m. or_call docs s s' site looped a b t m), (λ m. and_call docs s s' site looped a b t m))

pub text_pairs_lift : TextPairsLift
text_pairs_lift docs s s1 s2 site q looped a b t cs m st = text_pair_call docs s s1 s2 site looped a b t cs q m st

pub steps_lift : StepsLift
steps_lift docs s s1 s2 s3 s4 site texts from axis wanted looped a k w t m h x o = walk_call docs s s1 s2 s3 s4 site texts from axis wanted looped a k w t m h x o

pub unions_lift : UnionsLift
unions_lift docs s s1 s2 site looped a b t cs m st = union_call docs s s1 s2 site looped a b t cs m st

pub paths_lift : PathsLift
paths_lift docs s s1 s2 site looped a t cs m st = path_call docs s s1 s2 site looped a t cs m st

pub reverse_lifts : ReverseLifts
reverse_lifts docs s s' site looped a t m = reverse_call docs site looped a t m

pub concats_lift : ConcatsLift
concats_lift docs s s1 s2 site looped ts t cs m st = concat_call docs s s1 s2 site looped ts t cs m st

pub aggregates_lift : AggregatesLift
aggregates_lift docs s s1 s2 site q looped a t cs m st = aggregate_call docs s s1 s2 site q looped a t cs m st

pub instances_lift : InstancesLift
instances_lift docs s s' site q occurs looped a t m = instance_call docs s s' site q occurs looped a t m

pub treats_lift : TreatsLift
treats_lift docs s s1 s2 site q occurs looped a k m h = treat_call docs s s1 s2 site occurs looped a q k m h

pub a_step_makes : StepMakes
a_step_makes docs texts g g' i axis wanted site offset it v id a = step_makes docs texts g g' i axis wanted site offset it v id a

pub item_conversions_lift : ItemConversionsLift
item_conversions_lift docs s s1 s2 site occurs looped a k m h = item_conversion_call docs s s1 s2 site occurs looped a k m h

pub atom_conversions_lift : AtomConversionsLift
atom_conversions_lift docs s s1 s2 site occurs looped a t cs m st = atom_conversion_call docs s s1 s2 site occurs looped a t cs m st
