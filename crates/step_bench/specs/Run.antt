-- What a run prints (own rule).
use Rattle.std.specs.Prelude.{ℕ, ◌≡◌, List, [], ◌∷◌, ◌++◌, length, Option}
use Rattle.std.specs.Io.KnownBytes.{Appends}
use Rattle.xq_base.specs.declared.item.TextId.{TextId}
use Rattle.xq_base.specs.declared.axis.Axis.{Axis}
use Rattle.doc_table.specs.Tree.{Tree}
use Rattle.doc_table.specs.Enc.{enc}
use Rattle.staircase.specs.declared.kinds.Ctx.{Ctx}
use Rattle.step_bench.specs.declared.step.Taken.{Taken}
use Rattle.step_bench.specs.Axes.{AreChosen}
use Rattle.step_bench.specs.Context.{every_second}
use Rattle.step_bench.specs.Input.{IsWhole, IsTreeOf}
use Rattle.step_bench.specs.Line.{line_of}
use Rattle.step_bench.specs.Step.{IsTaken}

-- the lines of the steps on these axes, one after the other
abbrev pub AreLines : List Axis → Tree TextId → List Ctx → List ℕ → Type 0
AreLines [] t context text = text ≡ []
AreLines (axis ∷ axes) t context text = (taken : Taken) × (rest : List ℕ) × IsTaken axis t context taken × (text ≡ line_of axis taken ++ rest) × AreLines axes t context rest

-- these lines were written, where the writer tells what it holds
pub record Prints (axes : List Axis) (t : Tree TextId) (context : List Ctx) (old new : Option (List ℕ)) : Type 0 where
  pub text : List ℕ
  pub lines : AreLines axes t context text
  pub appended : Appends old new text

-- the lines of the steps from every second row, on the axes that the words name, over the document that was read
pub record Runs (known : Option (List ℕ)) (words : List (List ℕ)) (old new : Option (List ℕ)) : Type 0 where
  pub bytes : List ℕ
  pub whole : IsWhole known bytes
  pub tree : Tree TextId
  pub is_tree : IsTreeOf bytes tree
  pub axes : List Axis
  pub chosen : AreChosen words axes
  pub prints : Prints axes tree (every_second (length (enc tree))) old new
