use mir.Val.{SFits}
use Rattle.std.proofs.Common.{rules, ap, ◌∙◌, w64}
use Rattle.std.proofs.lemmas.Int.{to_z-of_z}
use Rattle.xq_base.specs.Atoms.{IntAtom}
use Rattle.core_meaning.specs.PlainCore as plain
use Rattle.core_normal.proofs.FormsNormed.{comment_form, dot_form, instruction_form, integer_form, root_form, text_form, var_form}
use Rattle.core_normal.proofs.maker.Maker.norm_plain.Goals as goal

pub returns-in-Integer : goal.returns-in-Integer
returns-in-Integer g c =
    let within : SFits w64 c.in-Integer.z = search rules in
    integer_form _ _ _ _ c.in-Integer.is (λ t. c.literal.ensures t ∙ ap (λ z. plain.Lit c.in-Integer.offset (IntAtom z)) (to_z-of_z w64 c.in-Integer.z within))

pub returns-in-Text : goal.returns-in-Text
returns-in-Text g c = text_form _ _ _ _ c.in-Text.is c.text.ensures

pub returns-in-Var : goal.returns-in-Var
returns-in-Var g c = var_form _ _ _ _ c.in-Var.is (λ t. c.var.ensures t ∙ ap (plain.Var c.in-Var.offset) c.get-x.ensures)

pub returns-in-Dot : goal.returns-in-Dot
returns-in-Dot g c = dot_form _ _ _ c.in-Dot.is c.dot.ensures

pub returns-in_ok-core-in-Root : goal.returns-in_ok-core-in-Root
returns-in_ok-core-in-Root g c = root_form _ _ _ c.in-Root.is c.in_ok-core-in-Root.ensures

pub returns-in_ok-core-in-Comment : goal.returns-in_ok-core-in-Comment
returns-in_ok-core-in-Comment g c = comment_form _ _ _ _ c.in-Comment.is c.in_ok-core-in-Comment.ensures

pub returns-in_ok-core-in-Instruction : goal.returns-in_ok-core-in-Instruction
returns-in_ok-core-in-Instruction g c = instruction_form _ _ _ _ _ c.in-Instruction.is c.in_ok-core-in-Instruction.ensures
