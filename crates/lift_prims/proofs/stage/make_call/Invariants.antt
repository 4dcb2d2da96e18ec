use Rattle.std.proofs.Common.{◌≡◌, List, take}
use Rattle.xq_base.specs.Texts.{Text}
use Rattle.doc_table.specs.NodeRules.{Docs}
use Rattle.plan_dag.specs.ItemRules.{item_rules}
use Rattle.plan_dag.specs.Meaning.{Graph}
use Rattle.lift_laws.specs.States.{state_of}
use Rattle.lift_prims.specs.Forms.{FormMade}
use Rattle.lift_prims.specs.Staging.{FormStages, form_marks}
use Rattle.lift_prims.proofs.stage.make_call.Given as goal

abbrev pub invariant-loop-mark : goal.invariant-loop-mark
invariant-loop-mark l =
    (g1 : Graph)
    × ((docs : Docs) (texts : List Text) → FormMade (item_rules docs texts) (state_of docs texts l.fn.plan) (state_of docs texts g1) l.inputs l.fn.values l.out)
    × FormStages l.fn.plan g1 l.plan l.fn.looped l.inputs (form_marks (take l.mark-index l.marks)) l.offset l.left
