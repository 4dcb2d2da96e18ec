-- Pairs of values that are compared (own rule).
use Rattle.std.specs.Prelude.{ℕ, suc, Bool, cond, List, [], ◌∷◌, ◌++◌}
use Rattle.std.specs.List.{list_any}
use Rattle.xq_base.specs.declared.fun.CompOp.{CompOp}
use Rattle.xq_base.specs.declared.item.Item.{Item}
use Rattle.xq_base.specs.Texts.{Text}
use Rattle.plan_dag.specs.Cells.{Outcome}
use Rattle.plan_dag.specs.Meaning.{is_true_outcome, fails_with}
use Rattle.plan_dag.specs.ItemRules.{atoms_outcome}
use Rattle.table_ops.specs.declared.comparing.Wanted.{Wanted}
use Rattle.table_ops.specs.declared.comparing.Wanted.TheVariants as w
use Rattle.table_ops.specs.Chains.{places_of}
use Rattle.table_ops.specs.Columns.{cell_of}
use Rattle.table_ops.specs.Held.{held_atom}
use Rattle.table_ops.specs.Keys.{item_eq}

-- what is wanted of a pair
abbrev pub passes : Wanted → Outcome Bool → Bool
passes w.True x = is_true_outcome x
passes (w.Fails code) x = fails_with code x

-- a pair of values, with these texts
abbrev pub pair_at : List Text → Wanted → CompOp → Item → Item → Bool
pair_at texts wanted op a b = passes wanted (atoms_outcome op (held_atom texts a) (held_atom texts b))

-- a left cell's place, where a right cell that equals it has a wanted value
abbrev pub pair_place : List Text → Wanted → CompOp → List Item → List Item → ℕ → Item → Item → List ℕ
pair_place texts wanted op rights others p c v = cond (list_any (λ r. pair_at texts wanted op v (cell_of others r)) (places_of (item_eq c) 0 rights)) (p ∷ []) []

-- the places of left cells for which there is one
abbrev pub pair_places : List Text → Wanted → CompOp → List Item → List Item → ℕ → List Item → List Item → List ℕ
pair_places texts wanted op rights others p [] vs = []
pair_places texts wanted op rights others p (c ∷ cs) [] = []
pair_places texts wanted op rights others p (c ∷ cs) (v ∷ vs) = pair_place texts wanted op rights others p c v ++ pair_places texts wanted op rights others (suc p) cs vs
