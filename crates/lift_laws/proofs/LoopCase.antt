-- The case of the induction for a loop.
use Rattle.std.proofs.Common.{◌≡◌, ◌≢◌, ℕ, ◌+◌, ◌≤◌, true, List, [], ◌∷◌, ◌++◌, length, map, refl, sym, ap, ◌∙◌, subst, arith}
use Rattle.std.proofs.lemmas.Bool.{and_parts}
use Rattle.xq_base.specs.Texts.{Text}
use Rattle.doc_table.specs.Items.{Item}
use Rattle.doc_table.specs.Values.{Items}
use Rattle.doc_table.specs.NodeRules.{Docs}
use Rattle.plan_dag.specs.declared.op.OpId.{OpId}
use Rattle.plan_dag.specs.ItemRules.{Cell}
use Rattle.core_meaning.specs.Expr.{Expr, For}
use Rattle.core_meaning.specs.Meaning.{val}
use Rattle.core_meaning.specs.Lawful.{nodes, is_sited}
use Rattle.core_meaning.specs.Work.{free, without}
use Rattle.lift_laws.specs.Sums.{total, AllOf, Same}
use Rattle.lift_laws.specs.Iterations.{Iter, item_rows, value_rows, cells, Turn, turns, turns_of, joined, bodies}
use Rattle.lift_laws.specs.Bulk.{list_of, value, iter_of, inside, faults, cost, weight, sites}
use Rattle.lift_laws.specs.Worlds.{World, cell_of, Known}
use Rattle.lift_laws.specs.States.{State, at, Small, Grows, Makes, Holds, StandsFor, three, single}
use Rattle.lift_laws.specs.Shapes.{four, turn_map, inner_rows, item_var_rows, place_var_rows, back_rows}
use Rattle.lift_laws.specs.Carried.{set_var, Carries}
use Rattle.lift_laws.specs.Lifting.{IsFree, Enters, Lifts}
use Rattle.lift_laws.proofs.Multi.{same-length, same-of, same-trans}
use Rattle.lift_laws.proofs.Picks.{all_mono, all-append, flat-all, flat-map, map-append}
use Rattle.lift_laws.proofs.Loops.{map_row_of, back_stands}
use Rattle.lift_laws.proofs.Values.{Has, append_nil, all_two, for_list, turns_back_of, ValueAt, body_val, turns_back, no_faults}
use Rattle.lift_laws.proofs.Free.{in_left, in_right, without_keeps}
use Rattle.lift_laws.proofs.Sizes.{size_values, values_weigh, many_free, own_most}
use Rattle.lift_laws.proofs.Keeping.{grows_trans, holds_keep, holds_rows, makes_holds, stands_keep, notes_keep, small_most, small_keep, tells_upper, tells_then, faults_from, chunk_then, chunk_makes, sited_then, walked_then, walked_more, chunk_told, chunk_below}
use Rattle.lift_laws.proofs.LoopInside.{inside_ascends, map_6, turns_few, loop_inside, vars_inside, before_small}

-- a variable of the body from outside
pub for_free : (x p : ℕ) (q e : Expr) (y : ℕ) → y ≢ x → y ≢ p → IsFree y e → IsFree y (For x p q e)
for_free x p q e y ne np f = in_right (free q) (without p (without x (free e))) y (without_keeps p (without x (free e)) y np (without_keeps x (free e) y ne f))

-- the bodies' cells, and what holds of their items
pub joined_cells : {A B : Type 0} (c : A → B) (h : Iter → ℕ → Item Text → List A) (i : Iter) (k : ℕ) (vs : Items) → joined (bodies (λ j l v. map c (h j l v)) i k vs) ≡ map c (joined (bodies h i k vs))
joined_cells c h i k [] = refl
joined_cells c h i k (v ∷ vs) = ap (λ l. map c (h i k v) ++ l) (joined_cells c h i (k + 1) vs) ∙ sym (map-append c (h i k v) (joined (bodies h i (k + 1) vs)))

-- bodies ask for their own iteration alone
pub bodies_own : {A : Type 0} (h : Iter → ℕ → Item Text → List A) (i : Iter) (k : ℕ) (vs : Items) → joined (bodies h i k vs) ≡ joined (bodies (λ j l v. h i l v) i k vs)
bodies_own h i k [] = refl
bodies_own h i k (v ∷ vs) = ap (λ l. h i k v ++ l) (bodies_own h i (k + 1) vs)

joined_hold : (K : Item Text → Type 0) (h : Iter → ℕ → Item Text → Items) (i : Iter) (k : ℕ) (vs : Items) → AllOf (λ t. AllOf K (h i t.place t.item)) (turns_of i k vs) → AllOf K (joined (bodies h i k vs))
joined_hold K h i k [] a = tt
joined_hold K h i k (v ∷ vs) a = all-append K (h i k v) (joined (bodies h i (k + 1) vs)) a.0 (joined_hold K h i (k + 1) vs a.1)

module _ (docs : Docs) where
  -- a loop
  abbrev turn_items : ℕ → ℕ → Expr → Iter → ℕ → Item Text → Items
  turn_items x p e i k v = list_of (body_val docs x p e i k v)

  for_value : (x p : ℕ) (s e : Expr) (i : Iter) → ValueAt docs s i → AllOf (λ t. Has (body_val docs x p e i t.place t.item)) (turns_of i 1 (value docs s i)) → joined (bodies (turn_items x p e) i 1 (value docs s i)) ≡ value docs (For x p s e) i
  for_value x p s e i u a = bodies_own (turn_items x p e) i 1 (value docs s i) ∙ sym (for_list x p (val docs e) (val docs s i.env i.vector) i u a)

  module _ {s s1 s2 s3 s4 s5 s6 s7 s8 : State} (n x p : ℕ) (q e : Expr) (looped : OpId) (vars vars' : ℕ → OpId) (tq m inner vx vp te t : OpId)
      (sited : is_sited n (For x p q e) ≡ true)
      (lq : Lifts docs s s1 n q looped vars tq)
      (mm : Makes s1 s2 m four (turn_map (at s1 tq).rows) (length (at s1 tq).rows))
      (mi : Makes s2 s3 inner single (inner_rows (at s2 m).rows) (length (at s2 m).rows))
      (mx : Makes s3 s4 vx three (item_var_rows (at s3 m).rows) (length (at s3 m).rows))
      (mp : Makes s4 s5 vp three (place_var_rows (at s4 m).rows) (length (at s4 m).rows))
      (mc : Carries s5 s6 m vars vars' x p e)
      (le : Lifts docs s6 s7 (n + nodes q) e inner (set_var (set_var vars' x vx) p vp) te)
      (mb : Makes s7 s8 t three (back_rows (at s7 m).rows (at s7 te).rows) (length (at s7 m).rows + length (back_rows (at s7 m).rows (at s7 te).rows))) where
    before_body : Grows s1 s6 []
    before_body = grows_trans mm.grows (grows_trans mi.grows (grows_trans mx.grows (grows_trans mp.grows mc.grows)))

    module _ (W : World) (N : ℕ) (its : List Iter) (en : Enters docs W N s (For x p q e) looped vars its) (hq : StandsFor docs W s1 tq (value docs q) its) where
      abbrev ts : List Turn
      ts = turns (value docs q) its

      abbrev within : List Iter
      within = map (iter_of x p) ts

      enough_q : total (weight docs q) its ≤ N
      enough_q = let d = own_most docs q its in let h = en.enough in omega arith

      enough_e : cost docs e within ≤ N
      enough_e = let h = en.enough in omega arith

      scope_1 : (y : ℕ) → y ≢ x → y ≢ p → IsFree y e → StandsFor docs W s1 (vars y) (λ i. i.env y) its
      scope_1 y ne np f = stands_keep lq.chunk.grows (en.scope y (for_free x p q e y ne np f))

      few_inside : (y : ℕ) → IsFree y e → total (λ (i : Iter). length (i.env y)) within ≤ N
      few_inside y f = let g = many_free docs e y f within in let h = own_most docs e within in let k = enough_e in omega arith

      map_7 : Holds s7 m four (map (map_row_of (cell_of W)) ts)
      map_7 = holds_keep le.chunk.grows (map_6 docs x p q e vars vars' tq m inner vx vp mm mi mx mp mc W N its en.ascends hq enough_q scope_1 few_inside)

      inside_enters : Enters docs W N s6 e inner (set_var (set_var vars' x vx) p vp) within
      inside_enters = record {
        faithful = en.faithful;
        numbered = en.numbered.1;
        enough = enough_e;
        ascends = inside_ascends x p (value docs q) its;
        loop = loop_inside docs x p q e vars vars' tq m inner vx vp mm mi mx mp mc W N its en.ascends hq enough_q scope_1 few_inside;
        scope = vars_inside docs x p q e vars vars' tq m inner vx vp mm mi mx mp mc W N its en.ascends hq enough_q scope_1 few_inside;
      }

      small_before : Small s6 (length s1.tables) (length s6.tables) N
      small_before = before_small docs x p q e vars vars' tq m inner vx vp mm mi mx mp mc W N its en.ascends hq enough_q scope_1 few_inside

      module _ (vq : AllOf (ValueAt docs q) its) (z : faults docs e within ≡ []) (body : StandsFor docs W s7 te (value docs e) within) where
        turn_cells : Iter → ℕ → Item Text → List Cell
        turn_cells i k v = map (cell_of W) (turn_items x p e i k v)

        values_are : AllOf (λ i. joined (bodies (turn_items x p e) i 1 (value docs q i)) ≡ value docs (For x p q e) i) its
        values_are = all_two _ _ _ (λ i (u : ValueAt docs q i) (a : AllOf (λ t. Has (body_val docs x p e i t.place t.item)) (turns_of i 1 (value docs q i))). for_value x p q e i u a) its vq (turns_back docs x p e (value docs q) its (no_faults docs e within z))

        rows_back : Same (back_rows (at s7 m).rows (at s7 te).rows) (value_rows (cells (cell_of W) (value docs (For x p q e))) its)
        rows_back =
            let he = holds_rows (flat-map (λ (i : Iter). item_rows i.number 1 (map (cell_of W) (value docs e i))) (iter_of x p) ts) body.there in
            same-trans (back_stands (cell_of W) (value docs q) (λ i k v. map (cell_of W) (turn_items x p e i k v)) its _ _ en.ascends map_7.rows_are he.rows_are)
            (same-of (flat-all _ _ its (all_mono _ _ (λ i (k : joined (bodies (turn_items x p e) i 1 (value docs q i)) ≡ value docs (For x p q e) i). ap (item_rows i.number 1) (joined_cells (cell_of W) (turn_items x p e) i 1 (value docs q i) ∙ ap (map (cell_of W)) k)) its values_are)))

        for_back : StandsFor docs W s8 t (value docs (For x p q e)) its
        for_back = record {
          there = makes_holds mb rows_back;
          known = all_two _ _ _ (λ i (k : joined (bodies (turn_items x p e) i 1 (value docs q i)) ≡ value docs (For x p q e) i) (a : AllOf (λ t. AllOf (Known docs W) (list_of (body_val docs x p e i t.place t.item))) (turns_of i 1 (value docs q i))). subst (AllOf (Known docs W)) k (joined_hold (Known docs W) (turn_items x p e) i 1 (value docs q i) a)) its values_are
              (turns_back_of (λ o. AllOf (Known docs W) (list_of o)) x p (val docs e) (value docs q) its body.known);
        }

        back_few : length (at s7 m).rows + length (back_rows (at s7 m).rows (at s7 te).rows) ≤ N
        back_few =
            let a = same-length map_7.rows_are in
            let b = turns_few docs x p q e vars vars' tq m inner vx vp mm mi mx mp mc W N its en.ascends hq enough_q scope_1 few_inside in
            let d = own_most docs q its in
            let f = same-length rows_back in
            let g = size_values (cell_of W) (value docs (For x p q e)) its in
            let h = values_weigh docs (For x p q e) its in
            let k = en.enough in
            omega arith

    pub for_lifts : Lifts docs s s8 n (For x p q e) looped vars t
    for_lifts = record {
      chunk = chunk_makes n (n + nodes q + nodes e) (n + nodes (For x p q e)) (omega arith) (chunk_then n (n + nodes q) (n + nodes q + nodes e) (omega arith) (omega arith) (chunk_makes n (n + nodes q) (n + nodes q) (omega arith) lq.chunk before_body) le.chunk) mb.grows;
      sited = sited_then (sites q) (sites e) lq.chunk.groups le.chunk.groups lq.sited le.sited;
      walked = walked_more (walked_then (walked_more lq.walked (mc.quiet ∙ mp.quiet ∙ mx.quiet ∙ mi.quiet ∙ mm.quiet)) le.walked) mb.quiet;
      told = λ W N its en.
          let enough = en.enough in
          let rq = lq.told W N its (record { faithful = en.faithful; numbered = en.numbered.0; enough = omega arith; ascends = en.ascends; loop = en.loop; scope = λ y f. en.scope y (in_left (free q) (without p (without x (free e))) y f) }) in
          let fq = faults docs q its in
          let within = inside docs x p q its in
          let fe = faults docs e within in
          let to_8 = grows_trans le.chunk.grows mb.grows in
          let go = λ (z : fq ≡ []). le.told W N within (inside_enters W N its en (rq.1 z).0) in
          let vq = λ (z : fq ≡ []). no_faults docs q its z in (
            tells_upper N s8 (length s.tables) (length s7.tables) (length s8.tables) (lq.chunk.groups ++ le.chunk.groups) (fq ++ fe)
                (λ z. let k = append_nil fq fe z in small_most mb.small (back_few W N its en (rq.1 k.0).0 (vq k.0) k.1 ((go k.0).1 k.1).0))
                (tells_then N s8 (length s.tables) (length s6.tables) (length s7.tables) (n + nodes q) lq.chunk.groups le.chunk.groups fq fe (chunk_below n (n + nodes q) lq.chunk) (faults_from docs e (n + nodes q) (n + nodes q) within (and_parts (is_sited n q) (is_sited (n + nodes q) e) sited).1 (omega arith))
                (tells_upper N s8 (length s.tables) (length s1.tables) (length s6.tables) lq.chunk.groups fq (λ z. small_keep to_8 (omega arith) (small_before W N its en (rq.1 z).0)) (chunk_told N n (n + nodes q) lq.chunk fq (grows_trans before_body to_8) rq.0))
                (λ z. chunk_told N (n + nodes q) (n + nodes q + nodes e) le.chunk fe mb.grows (go z).0)),
            λ z.
                let k = append_nil fq fe z in (
                  for_back W N its en (rq.1 k.0).0 (vq k.0) k.1 ((go k.0).1 k.1).0,
                  all-append _ lq.chunk.notes le.chunk.notes (notes_keep docs W lq.chunk.notes (grows_trans before_body to_8) (rq.1 k.0).1) (notes_keep docs W le.chunk.notes mb.grows ((go k.0).1 k.1).1),
                ),
          );
    }
