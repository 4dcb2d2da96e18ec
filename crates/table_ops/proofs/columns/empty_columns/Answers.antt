use Rattle.std.proofs.Common.{◌≡◌, ◌++◌, ◌∷◌, [], length, List, ap, sym, subst, ◌∙◌, refl, arith}
use Rattle.std.proofs.lemmas.List.{length_push}
use Rattle.table_ops.specs.Columns.{Column, heads, AllHigh}
use Rattle.table_ops.proofs.Chaining.{after_push}
use Rattle.table_ops.proofs.Columning.{high_push}
use Rattle.table_ops.proofs.columns.empty_columns.Goals as goal

pub loop-turn-preserved : goal.loop-turn-preserved
loop-turn-preserved c =
    let grown : c.push.new.self.items ≡ c.loop-turn.out.items ++ c.in_ok-column.column ∷ [] = after_push c.push.result _ _ _ c.if-is_err.ensures.value c.push.ensures.items in
    let many = ap (λ (z : List Column). length z) grown ∙ length_push c.loop-turn.out.items c.in_ok-column.column in
    (omega (arith, many, c.loop-turn.invariant.0), subst (λ (z : List Column). AllHigh 0 (heads 0 z)) (sym grown) (high_push 0 c.loop-turn.out.items c.in_ok-column.column c.loop-turn.invariant.1 refl))
