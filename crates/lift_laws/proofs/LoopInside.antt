-- The inside of a loop: its map, its loop, and its variables and those carried into it.
use Rattle.std.proofs.Common.{◌≡◌, ◌≢◌, ℕ, ◌≤◌, Bool, true, false, cond, List, [], ◌∷◌, length, map, refl, sym, ap, ◌∙◌, subst, arith, nat_eq}
use Rattle.std.specs.List.{flat_map}
use Rattle.std.proofs.lemmas.Bool.{ne_eqb, eqb-false}
use Rattle.xq_base.specs.Texts.{Text}
use Rattle.doc_table.specs.Items.{Item}
use Rattle.doc_table.specs.Values.{Items}
use Rattle.doc_table.specs.NodeRules.{Docs}
use Rattle.plan_dag.specs.declared.op.OpId.{OpId}
use Rattle.plan_dag.specs.ItemRules.{Cell}
use Rattle.core_meaning.specs.Expr.{Expr}
use Rattle.core_meaning.specs.Meaning.{with_var}
use Rattle.lift_laws.specs.Sums.{total, AllOf, Ascends, Same}
use Rattle.lift_laws.specs.Iterations.{Iter, num, item_rows, value_rows, loop_rows, cells, Turn, turns, all_turns}
use Rattle.lift_laws.specs.Bulk.{value, iter_of, weight}
use Rattle.lift_laws.specs.Worlds.{World, cell_of, Known}
use Rattle.lift_laws.specs.States.{State, at, Small, Makes, Holds, StandsFor, three, single}
use Rattle.lift_laws.specs.Shapes.{four, turn_map, inner_rows, item_var_rows, place_var_rows, into_rows}
use Rattle.lift_laws.specs.Carried.{set_var, Carries}
use Rattle.lift_laws.specs.Lifting.{IsFree}
use Rattle.lift_laws.proofs.Multi.{same-length}
use Rattle.lift_laws.proofs.Picks.{all_each, all_mono, all-map, flat-all, flat-map, map-map}
use Rattle.lift_laws.proofs.Loops.{map_row_of, turn_map_stands, inner_stands, item_var_stands, place_var_stands, into_stands, given_ascends}
use Rattle.lift_laws.proofs.Values.{items_hold, outer_hold}
use Rattle.lift_laws.proofs.Sizes.{map_length, size_values, size_turns, values_weigh}
use Rattle.lift_laws.proofs.Keeping.{grows_trans, holds_keep, holds_rows, makes_holds, small_most, small_join, small_keep}
use Rattle.lift_laws.proofs.PlainCases.{map_ascends}

pub inside_ascends : (x p : ℕ) (f : Iter → Items) (its : List Iter) → Ascends (λ i. i.number) 0 (map (iter_of x p) (turns f its))
inside_ascends x p f its = map_ascends (λ (u : Turn). u.number) (λ (i : Iter). i.number) (iter_of x p) (λ u. refl) 0 (turns f its) (given_ascends f 0 (all_turns f its))

module _ (docs : Docs) {s1 s2 s3 s4 s5 s6 : State} (x p : ℕ) (q e : Expr) (vars vars' : ℕ → OpId) (tq m inner vx vp : OpId)
    (mm : Makes s1 s2 m four (turn_map (at s1 tq).rows) (length (at s1 tq).rows))
    (mi : Makes s2 s3 inner single (inner_rows (at s2 m).rows) (length (at s2 m).rows))
    (mx : Makes s3 s4 vx three (item_var_rows (at s3 m).rows) (length (at s3 m).rows))
    (mp : Makes s4 s5 vp three (place_var_rows (at s4 m).rows) (length (at s4 m).rows))
    (mc : Carries s5 s6 m vars vars' x p e) where
  module _ (W : World) (N : ℕ) (its : List Iter) (asc : Ascends (λ i. i.number) 0 its) (hq : StandsFor docs W s1 tq (value docs q) its) (enough : total (weight docs q) its ≤ N)
      (scope : (y : ℕ) → y ≢ x → y ≢ p → IsFree y e → StandsFor docs W s1 (vars y) (λ i. i.env y) its)
      (few : (y : ℕ) → IsFree y e → total (λ (i : Iter). length (i.env y)) (map (iter_of x p) (turns (value docs q) its)) ≤ N) where
    abbrev c : Item Text → Cell
    c v = cell_of W v

    abbrev ts : List Turn
    ts = turns (value docs q) its

    abbrev within : List Iter
    within = map (iter_of x p) ts

    map_there : Holds s2 m four (map (map_row_of (cell_of W)) ts)
    map_there = makes_holds mm (turn_map_stands (cell_of W) (value docs q) its _ asc hq.there.rows_are)

    map_3 : Holds s3 m four (map (map_row_of (cell_of W)) ts)
    map_3 = holds_keep mi.grows map_there

    map_4 : Holds s4 m four (map (map_row_of (cell_of W)) ts)
    map_4 = holds_keep mx.grows map_3

    map_5 : Holds s5 m four (map (map_row_of (cell_of W)) ts)
    map_5 = holds_keep mp.grows map_4

    pub map_6 : Holds s6 m four (map (map_row_of (cell_of W)) ts)
    map_6 = holds_keep mc.grows map_5

    -- as many turns as items
    pub turns_few : length (map (map_row_of (cell_of W)) ts) ≤ total (weight docs q) its
    turns_few =
        let a = map_length (map_row_of (cell_of W)) ts in
        let b = size_turns (value docs q) its in
        let d = values_weigh docs q its in
        omega arith

    map_few : {st : State} → Holds st m four (map (map_row_of (cell_of W)) ts) → length (at st m).rows ≤ N
    map_few h = let a = same-length h.rows_are in let b = turns_few in omega arith

    pub loop_inside : Holds s6 inner single (loop_rows within)
    loop_inside =
        holds_rows (sym (map-map (λ (i : Iter). num i.number ∷ []) (iter_of x p) ts))
        (holds_keep mc.grows (holds_keep mp.grows (holds_keep mx.grows (makes_holds mi (inner_stands (cell_of W) ts _ map_there.rows_are)))))

    rows_inside : (y : ℕ) (g : Turn → List Cell) → ((u : Turn) → g u ≡ map (cell_of W) ((iter_of x p u).env y)) → flat_map (λ u. item_rows u.number 1 (g u)) ts ≡ value_rows (cells (cell_of W) (λ i. i.env y)) within
    rows_inside y g h = flat-all _ _ ts (all_each _ (λ u. ap (item_rows u.number 1) (h u)) ts) ∙ sym (flat-map (λ (i : Iter). item_rows i.number 1 (map (cell_of W) (i.env y))) (iter_of x p) ts)

    known_inside : (y : ℕ) → AllOf (λ u. AllOf (Known docs W) ((iter_of x p u).env y)) ts → AllOf (λ (i : Iter). AllOf (Known docs W) (i.env y)) within
    known_inside y a = all-map (λ (i : Iter). AllOf (Known docs W) (i.env y)) (iter_of x p) ts a

    place_inside : (y : ℕ) → nat_eq y p ≡ true → StandsFor docs W s6 vp (λ i. i.env y) within
    place_inside y h = record {
      there = holds_rows (rows_inside y (λ u. num u.place ∷ []) (λ u. ap (λ b. map (cell_of W) (cond b (num u.place ∷ []) (with_var u.outer.env x (u.item ∷ []) y))) (sym h)))
          (holds_keep mc.grows (makes_holds mp (place_var_stands (cell_of W) ts _ map_4.rows_are)));
      known = known_inside y (all_each _ (λ u. subst (λ b. AllOf (Known docs W) (cond b (num u.place ∷ []) (with_var u.outer.env x (u.item ∷ []) y))) (sym h) (tt, tt)) ts);
    }

    item_inside : (y : ℕ) → nat_eq y p ≡ false → nat_eq y x ≡ true → StandsFor docs W s6 vx (λ i. i.env y) within
    item_inside y h k = record {
      there = holds_rows (rows_inside y (λ u. cell_of W u.item ∷ []) (λ u. ap (λ b. map (cell_of W) (cond b (u.item ∷ []) (u.outer.env y))) (sym k) ∙ ap (λ b. map (cell_of W) (cond b (num u.place ∷ []) (with_var u.outer.env x (u.item ∷ []) y))) (sym h)))
          (holds_keep mc.grows (holds_keep mp.grows (makes_holds mx (item_var_stands (cell_of W) ts _ map_3.rows_are))));
      known = known_inside y (all_mono _ _ (λ u (w : Known docs W u.item). subst (λ b. AllOf (Known docs W) (cond b (num u.place ∷ []) (with_var u.outer.env x (u.item ∷ []) y))) (sym h) (subst (λ b. AllOf (Known docs W) (cond b (u.item ∷ []) (u.outer.env y))) (sym k) (w, tt))) ts (items_hold (Known docs W) (value docs q) its hq.known));
    }

    outer_stands : (y : ℕ) → y ≢ x → y ≢ p → IsFree y e → Same (into_rows (at s5 m).rows (at s5 (vars y)).rows) (flat_map (λ u. item_rows u.number 1 (cells (cell_of W) (λ i. i.env y) u.outer)) ts)
    outer_stands y ne np f =
        let there = holds_keep (grows_trans mm.grows (grows_trans mi.grows (grows_trans mx.grows mp.grows))) (scope y ne np f).there in
        into_stands (cell_of W) (value docs q) (cells (cell_of W) (λ i. i.env y)) its _ _ asc map_5.rows_are there.rows_are

    outer_rows : (y : ℕ) → nat_eq y p ≡ false → nat_eq y x ≡ false → flat_map (λ u. item_rows u.number 1 (cells (cell_of W) (λ i. i.env y) u.outer)) ts ≡ value_rows (cells (cell_of W) (λ i. i.env y)) within
    outer_rows y h k = rows_inside y (λ u. map (cell_of W) (u.outer.env y)) (λ u. ap (λ b. map (cell_of W) (cond b (u.item ∷ []) (u.outer.env y))) (sym k) ∙ ap (λ b. map (cell_of W) (cond b (num u.place ∷ []) (with_var u.outer.env x (u.item ∷ []) y))) (sym h))

    outer_few : (y : ℕ) → y ≢ x → y ≢ p → IsFree y e → length (into_rows (at s5 m).rows (at s5 (vars y)).rows) ≤ N
    outer_few y ne np f =
        let a = same-length (outer_stands y ne np f) in
        let b = ap length (outer_rows y (ne_eqb y p np) (ne_eqb y x ne)) in
        let d = size_values (cell_of W) (λ i. i.env y) within in
        let g = few y f in
        omega arith

    outer_inside : (y : ℕ) → nat_eq y p ≡ false → nat_eq y x ≡ false → IsFree y e → StandsFor docs W s6 (vars' y) (λ i. i.env y) within
    outer_inside y h k f =
        let ne = λ (z : y ≡ x). eqb-false y x k z in
        let np = λ (z : y ≡ p). eqb-false y p h z in
        let d = mc.carried y ne np f in
        let stands = outer_stands y ne np f in
        record {
          there = holds_rows (outer_rows y h k) (record { is_in = d.0; cols_are = ap (λ r. r.cols) d.1; rows_are = record { at = λ w. ap (λ r. total w r.rows) d.1 ∙ stands.at w } });
          known = known_inside y (all_mono _ _ (λ u (w : AllOf (Known docs W) (u.outer.env y)). subst (λ b. AllOf (Known docs W) (cond b (num u.place ∷ []) (with_var u.outer.env x (u.item ∷ []) y))) (sym h) (subst (λ b. AllOf (Known docs W) (cond b (u.item ∷ []) (u.outer.env y))) (sym k) w)) ts
              (outer_hold (λ (i : Iter). AllOf (Known docs W) (i.env y)) (value docs q) its (scope y ne np f).known));
        }

    pub vars_inside : (y : ℕ) → IsFree y e → StandsFor docs W s6 (set_var (set_var vars' x vx) p vp y) (λ i. i.env y) within
    vars_inside y f = go (nat_eq y p) refl (nat_eq y x) refl
      where
        go : (b : Bool) → nat_eq y p ≡ b → (d : Bool) → nat_eq y x ≡ d → StandsFor docs W s6 (cond (nat_eq y p) vp (cond (nat_eq y x) vx (vars' y))) (λ i. i.env y) within
        go true h d k = subst (λ b. StandsFor docs W s6 (cond b vp (cond (nat_eq y x) vx (vars' y))) (λ i. i.env y) within) (sym h) (place_inside y h)
        go false h true k = subst (λ b. StandsFor docs W s6 (cond b vp (cond (nat_eq y x) vx (vars' y))) (λ i. i.env y) within) (sym h) (subst (λ b. StandsFor docs W s6 (cond b vx (vars' y)) (λ i. i.env y) within) (sym k) (item_inside y h k))
        go false h false k = subst (λ b. StandsFor docs W s6 (cond b vp (cond (nat_eq y x) vx (vars' y))) (λ i. i.env y) within) (sym h) (subst (λ b. StandsFor docs W s6 (cond b vx (vars' y)) (λ i. i.env y) within) (sym k) (outer_inside y h k f))

    pub before_small : Small s6 (length s1.tables) (length s6.tables) N
    before_small =
        let l2 = mi.grows.longer in
        let l3 = mx.grows.longer in
        let l4 = mp.grows.longer in
        let l5 = mc.grows.longer in
        let sq = same-length hq.there.rows_are in
        let vq = size_values (cell_of W) (value docs q) its in
        let wq = values_weigh docs q its in
        let a : length (at s1 tq).rows ≤ N = omega arith in
        let g5 = mc.grows in
        let g4 = grows_trans mp.grows g5 in
        let g3 = grows_trans mx.grows g4 in
        let g2 = grows_trans mi.grows g3 in
        small_join (small_keep g2 (omega arith) (small_most mm.small a))
        (small_join (small_keep g3 (omega arith) (small_most mi.small (map_few map_there)))
        (small_join (small_keep g4 (omega arith) (small_most mx.small (map_few map_3)))
        (small_join (small_keep g5 (omega arith) (small_most mp.small (map_few map_4)))
        (mc.small N (map_few map_5) outer_few))))
