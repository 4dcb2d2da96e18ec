-- Operators by their turns.
use Rattle.std.proofs.Common.{◌≡◌, ℕ, suc, cond, List, [], ◌∷◌, ◌++◌, length, map, drop, refl, sym, ap, ◌∙◌, arith}
use Rattle.std.specs.Prelude.{nat_eq}
use Rattle.plan_dag.specs.declared.check.Check.{Check}
use Rattle.plan_dag.specs.Meaning.{Graph}
use Rattle.table_ops.specs.Chains.{places_of}
use Rattle.table_ops.specs.Keys.{item_eq}
use Rattle.plan_eval.specs.declared.events.Event.{Event}
use Rattle.plan_eval.specs.declared.events.Event.TheVariants as e
use Rattle.xq_base.specs.declared.item.Item.{Item}
use Rattle.plan_eval.proofs.TurnLaws.{drop-all}
use Rattle.plan_eval.specs.Turns.{turns_of, makes_at, events_from, events_of, turn_cell, make_event, makes_in, events_in}

turn-places : (turn from : ℕ) (turns : List ℕ) → places_of (item_eq (turn_cell turn)) from (map turn_cell turns) ≡ places_of (nat_eq turn) from turns
turn-places turn from [] = refl
turn-places turn from (x ∷ turns) = ap (λ z. cond (nat_eq turn x) (from ∷ z) z) (turn-places turn (suc from) turns)

events-as-cells : (turns : List ℕ) (turn : ℕ) (checks : List Check) → events_in (map turn_cell turns) turn checks ≡ events_from turns turn checks
events-as-cells turns turn [] = ap (map make_event) (turn-places turn 0 turns)
events-as-cells turns turn (c ∷ cs) =
    ap (λ z. map make_event z ++ e.Test c ∷ events_in (map turn_cell turns) (suc turn) cs) (turn-places turn 0 turns)
    ∙ ap (λ z. makes_at turns turn ++ e.Test c ∷ z) (events-as-cells turns (suc turn) cs)

pub events-are : (g : Graph) (turns : List ℕ) → turns ≡ turns_of g → events_in (map turn_cell turns) 0 g.checks ≡ events_of g
events-are g turns e = events-as-cells turns 0 g.checks ∙ ap (λ z. events_from z 0 g.checks) e

pub events-end : (g : Graph) (turns items : List ℕ) (cells : List Item) (checks : List Check) (turn : ℕ) (out new : List Event) → cells ≡ map turn_cell items → items ≡ turns → turns ≡ turns_of g → checks ≡ g.checks → turn ≡ length checks
    → out ++ events_in (map turn_cell turns) turn (drop turn checks) ≡ events_in (map turn_cell turns) 0 checks → new ≡ out ++ makes_in cells (length checks) → new ≡ events_of g
events-end g turns items cells checks turn out new c i t k n h e =
    let none : drop turn checks ≡ [] = drop-all turn checks (omega (arith, n)) in
    e
    ∙ ap (λ z. out ++ makes_in z (length checks)) (c ∙ ap (map turn_cell) i)
    ∙ ap (λ z. out ++ makes_in (map turn_cell turns) z) (sym n)
    ∙ ap (λ z. out ++ events_in (map turn_cell turns) turn z) (sym none)
    ∙ h ∙ ap (events_in (map turn_cell turns) 0) k ∙ events-are g turns t
