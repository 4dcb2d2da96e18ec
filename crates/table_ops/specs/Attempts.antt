-- What a function gives of the cells of a row (own rule).
use Rattle.std.specs.Prelude.{ℕ, suc, List, [], ◌∷◌, ◌++◌, map}
use Rattle.xq_base.specs.declared.item.Item.{Item}
use Rattle.xq_base.specs.Texts.{Text}
use Rattle.doc_table.specs.Items.{item_of}
use Rattle.doc_table.specs.Stores.{Holdings}
use Rattle.doc_table.specs.StoredItems.{ItemGiven, trees_of}
use Rattle.plan_dag.specs.Cells.{Outcome, Gives, Fails, Silent, given}
use Rattle.plan_dag.specs.ItemRules.{Cell}
use Rattle.table_ops.specs.declared.attempts.Attempt.{Attempt}
use Rattle.table_ops.specs.declared.attempts.Attempt.TheVariants as t

-- what is kept of it
abbrev pub outcome_in : List Text → Holdings → Attempt → Outcome Cell
outcome_in texts h (t.Value item) = Gives (item_of texts (trees_of h) item)
outcome_in texts h (t.Fails code) = Fails code
outcome_in texts h t.Silent = Silent

abbrev pub AttemptGiven : List Text → Holdings → Attempt → Type 0
AttemptGiven texts h (t.Value item) = ItemGiven texts h item
AttemptGiven texts h (t.Fails code) = Unit {0}
AttemptGiven texts h t.Silent = Unit {0}

-- the values of rows, each with the row's place, from this place on
abbrev pub valued : {R : Type 0} → (R → Outcome Cell) → ℕ → List R → List (ℕ × Cell)
valued O p [] = []
valued O p (r ∷ rows) = map (λ v. (p, v)) (given (O r)) ++ valued O (suc p) rows

-- found values, each with a place, and what they stand for
abbrev pub pairs_in : List Text → Holdings → List (ℕ × Item) → List (ℕ × Cell)
pairs_in texts h ps = map (λ p. (p.0, item_of texts (trees_of h) p.1)) ps

abbrev pub PairsGiven : List Text → Holdings → List (ℕ × Item) → Type 0
PairsGiven texts h [] = Unit {0}
PairsGiven texts h (p ∷ ps) = ItemGiven texts h p.1 × PairsGiven texts h ps
