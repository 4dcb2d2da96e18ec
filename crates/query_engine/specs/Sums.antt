-- What the rule of a sum ensures: one integer or none, or a code.
use Rattle.std.specs.Prelude.{◌≡◌, ℤ, [], ◌∷◌, Option, Some, None, Result, Ok, Err}
use Rattle.xq_base.specs.declared.code.Code.{Code}
use Rattle.xq_base.specs.declared.code.Code.TheVariants as c
use Rattle.xq_base.specs.Answers.{Answer, Value, Fault}
use Rattle.doc_table.specs.Items.{IntItem}
use Rattle.doc_table.specs.Values.{Items}

-- an operand, or a wrong type
abbrev pub IsOperand : Answer (Option ℤ) → Option (Option ℤ) → Type 0
IsOperand answer None = answer ≡ Fault c.XPTY0004
IsOperand answer (Some operand) = answer ≡ Value operand

abbrev pub IsSum : Answer Items → Result (Option ℤ) Code → Type 0
IsSum answer (Ok None) = answer ≡ Value []
IsSum answer (Ok (Some z)) = answer ≡ Value (IntItem z ∷ [])
IsSum answer (Err code) = answer ≡ Fault code
