use Rattle.std.proofs.Common.{refl, sym, ap, ◌∙◌}
use Rattle.std.proofs.lemmas.Result.{IfOk-weaker}
use Rattle.xq_base.specs.declared.code.Code.TheVariants as code
use Rattle.xq_base.specs.declared.fun.AtomKind.TheVariants as kind
use Rattle.xq_base.specs.declared.fun.Fun.TheVariants as fun_
use Rattle.core_meaning.specs.PlainCore as plain
use Rattle.core_normal.specs.Held.{focus_of}
use Rattle.core_normal.specs.Making.{cores_in}
use Rattle.core_normal.specs.Pieces.{cast_to, dot_at, last_at, of_dot, one, place_at}
use Rattle.core_normal.proofs.CallsMade.{named_call, plain_call}
use Rattle.core_normal.proofs.calling.built_in.Goals as goal

pub returns-in-Position : goal.returns-in-Position
returns-in-Position c = λ t. named_call t c.args.offset c.args.fun fun_.Position c.args.args c.args.focus _ (λ g. place_at c.args.offset (focus_of c.args.focus)) c.in-Position.is (c.place.ensures t) refl

pub returns-in-Last : goal.returns-in-Last
returns-in-Last c = λ t. named_call t c.args.offset c.args.fun fun_.Last c.args.args c.args.focus _ (λ g. last_at c.args.offset (focus_of c.args.focus)) c.in-Last.is (c.last.ensures t) refl

pub returns-in-Error : goal.returns-in-Error
returns-in-Error c = λ t. named_call t c.args.offset c.args.fun fun_.Error c.args.args c.args.focus _ (λ g. plain.Fail c.args.offset code.FOER0000) c.in-Error.is (c.fail.ensures t) refl

pub returns-in-XsInteger : goal.returns-in-XsInteger
returns-in-XsInteger c = IfOk-weaker c.cast_to.result _ _ (λ core i t. named_call t c.args.offset c.args.fun fun_.XsInteger c.args.args c.args.focus _ (λ g. cast_to c.args.offset kind.Integer g (cores_in t c.args.args)) c.in-XsInteger.is (i t) refl) c.cast_to.ensures

pub returns-in-XsString : goal.returns-in-XsString
returns-in-XsString c = IfOk-weaker c.cast_to-in-XsString.result _ _ (λ core i t. named_call t c.args.offset c.args.fun fun_.XsString c.args.args c.args.focus _ (λ g. cast_to c.args.offset kind.Text g (cores_in t c.args.args)) c.in-XsString.is (i t) refl) c.cast_to-in-XsString.ensures

pub returns-in-XsBoolean : goal.returns-in-XsBoolean
returns-in-XsBoolean c = IfOk-weaker c.cast_to-in-XsBoolean.result _ _ (λ core i t. named_call t c.args.offset c.args.fun fun_.XsBoolean c.args.args c.args.focus _ (λ g. cast_to c.args.offset kind.Boolean g (cores_in t c.args.args)) c.in-XsBoolean.is (i t) refl) c.cast_to-in-XsBoolean.ensures

pub returns-in-XsUntypedAtomic : goal.returns-in-XsUntypedAtomic
returns-in-XsUntypedAtomic c = IfOk-weaker c.cast_to-in-XsUntypedAtomic.result _ _ (λ core i t. named_call t c.args.offset c.args.fun fun_.XsUntypedAtomic c.args.args c.args.focus _ (λ g. cast_to c.args.offset kind.Untyped g (cores_in t c.args.args)) c.in-XsUntypedAtomic.is (i t) refl) c.cast_to-in-XsUntypedAtomic.ensures

pub returns-in-Root : goal.returns-in-Root
returns-in-Root c = IfOk-weaker c.of_dot.result _ _ (λ core i t. named_call t c.args.offset c.args.fun fun_.Root c.args.args c.args.focus _ (λ g. of_dot c.args.offset g (cores_in t c.args.args) (dot_at c.args.offset (focus_of c.args.focus))) c.in-Root.is (i t ∙ ap (of_dot c.args.offset c.args.fun (cores_in t c.args.args)) (c.dot.ensures t)) refl) c.of_dot.ensures

pub returns-in-StringOf : goal.returns-in-StringOf
returns-in-StringOf c = IfOk-weaker c.of_dot-in-StringOf.result _ _ (λ core i t. named_call t c.args.offset c.args.fun fun_.StringOf c.args.args c.args.focus _ (λ g. of_dot c.args.offset g (cores_in t c.args.args) (dot_at c.args.offset (focus_of c.args.focus))) c.in-StringOf.is (i t ∙ ap (of_dot c.args.offset c.args.fun (cores_in t c.args.args)) (c.dot-in-StringOf.ensures t)) refl) c.of_dot-in-StringOf.ensures

pub returns-in-Name : goal.returns-in-Name
returns-in-Name c = IfOk-weaker c.of_dot-in-Name.result _ _ (λ core i t. named_call t c.args.offset c.args.fun fun_.Name c.args.args c.args.focus _ (λ g. of_dot c.args.offset g (cores_in t c.args.args) (dot_at c.args.offset (focus_of c.args.focus))) c.in-Name.is (i t ∙ ap (of_dot c.args.offset c.args.fun (cores_in t c.args.args)) (c.dot-in-Name.ensures t)) refl) c.of_dot-in-Name.ensures

pub returns-in-LocalName : goal.returns-in-LocalName
returns-in-LocalName c = IfOk-weaker c.of_dot-in-LocalName.result _ _ (λ core i t. named_call t c.args.offset c.args.fun fun_.LocalName c.args.args c.args.focus _ (λ g. of_dot c.args.offset g (cores_in t c.args.args) (dot_at c.args.offset (focus_of c.args.focus))) c.in-LocalName.is (i t ∙ ap (of_dot c.args.offset c.args.fun (cores_in t c.args.args)) (c.dot-in-LocalName.ensures t)) refl) c.of_dot-in-LocalName.ensures

pub returns-in-StringLength : goal.returns-in-StringLength
returns-in-StringLength c = IfOk-weaker c.of_text.result _ _ (λ core i t. named_call t c.args.offset c.args.fun fun_.StringLength c.args.args c.args.focus _ (λ g. of_dot c.args.offset g (cores_in t c.args.args) (plain.Call c.args.offset fun_.StringOf (one (dot_at c.args.offset (focus_of c.args.focus))))) c.in-StringLength.is (i t) refl) c.of_text.ensures

pub returns-in-NormalizeSpace : goal.returns-in-NormalizeSpace
returns-in-NormalizeSpace c = IfOk-weaker c.of_text-in-NormalizeSpace.result _ _ (λ core i t. named_call t c.args.offset c.args.fun fun_.NormalizeSpace c.args.args c.args.focus _ (λ g. of_dot c.args.offset g (cores_in t c.args.args) (plain.Call c.args.offset fun_.StringOf (one (dot_at c.args.offset (focus_of c.args.focus))))) c.in-NormalizeSpace.is (i t) refl) c.of_text-in-NormalizeSpace.ensures

pub returns-in_default : goal.returns-in_default
returns-in_default c = λ t.
    c.called.ensures t ∙ sym (plain_call c.args.offset c.args.fun (cores_in t c.args.args) (focus_of c.args.focus) c.in_default.not-Position c.in_default.not-Last c.in_default.not-Error c.in_default.not-XsInteger c.in_default.not-XsString c.in_default.not-XsBoolean c.in_default.not-XsUntypedAtomic c.in_default.not-Root c.in_default.not-StringOf c.in_default.not-Name c.in_default.not-LocalName c.in_default.not-StringLength c.in_default.not-NormalizeSpace)
