-- The binds of a sorted loop: the tuples themselves, and each bind round what follows it.
use Rattle.std.proofs.Common.{◌≡◌, ◌≢◌, ℕ, ◌+◌, ◌≤◌, Bool, true, false, cond, List, [], ◌∷◌, ◌++◌, length, map, refl, sym, ap, ◌∙◌, arith}
use Rattle.std.specs.List.{filter, flat_map}
use Rattle.std.proofs.lemmas.Bool.{and_parts}
use Rattle.xq_base.specs.Texts.{Text}
use Rattle.doc_table.specs.Items.{Item}
use Rattle.doc_table.specs.NodeRules.{Docs}
use Rattle.plan_dag.specs.declared.op.OpId.{OpId}
use Rattle.plan_dag.specs.ItemRules.{Cell}
use Rattle.core_meaning.specs.Expr.{Expr, Exprs, Spine, Leaf, ForBind, LetBind, WhereBind}
use Rattle.core_meaning.specs.Meaning.{holds}
use Rattle.core_meaning.specs.Lawful.{nodes, nodes_all, nodes_in, is_sited, sited_all, sited_in}
use Rattle.core_meaning.specs.Work.{is_member, free, free_all, free_in, without}
use Rattle.lift_laws.specs.Sums.{total, AllOf, Ascends, Same}
use Rattle.lift_laws.specs.Iterations.{Iter, num, item_rows, value_rows, loop_rows, cells, turns}
use Rattle.lift_laws.specs.Bulk.{list_of, value, chosen_in, chosen, with_value, iter_of, bound, inside, faults, faults_all, faults_in, tuple_weight, weight, sites, sites_all, sites_in}
use Rattle.lift_laws.specs.Worlds.{World, cell_of}
use Rattle.lift_laws.specs.States.{State, at, Small, Grows, Makes, Holds, StandsFor, three, single}
use Rattle.lift_laws.specs.Shapes.{pair, columns, pick, four, turn_map, inner_rows, item_var_rows, place_var_rows, back_rows, chosen_rows}
use Rattle.lift_laws.specs.Carried.{set_var, Carries, Restricts}
use Rattle.lift_laws.specs.Lifting.{IsFree, Lifts, LiftsAll}
use Rattle.lift_laws.specs.Tuples.{as_expr, numbers, tuples_all, body_iter, tuples_at, tuple_cells, EntersIn, TuplesStand, LiftsIn}
use Rattle.lift_laws.specs.Sorted.{tuple_rows}
use Rattle.lift_laws.proofs.Multi.{same-length, same-map, same-of, same-trans, length-total, total-flat, total-ext}
use Rattle.lift_laws.proofs.Picks.{all_each, all_mono, all-append, flat-all, flat-map, map-map}
use Rattle.lift_laws.proofs.Loops.{map_row_of, back_stands}
use Rattle.lift_laws.proofs.Simple.{chosen_stands, keep_ascends}
use Rattle.lift_laws.proofs.Values.{append_nil, ValueAt, no_faults}
use Rattle.lift_laws.proofs.Free.{in_left, in_right, without_keeps}
use Rattle.lift_laws.proofs.Sizes.{size_loop, size_cells, map_length, total_most, values_weigh, own_most, used_most}
use Rattle.lift_laws.proofs.Keeping.{grows_trans, grows_self, holds_keep, holds_rows, makes_holds, stands_keep, hold_all_keep, notes_keep, small_most, small_join, small_keep, tells_upper, tells_then, faults_from, faults_in_from, chunk_then, chunk_makes, sited_then, walked_then, walked_more, chunk_told, chunk_below}
use Rattle.lift_laws.proofs.PlainCases.{bound_all, bound_ascends, bound_loop, let_scope}
use Rattle.lift_laws.proofs.LoopInside.{inside_ascends, map_6, turns_few, loop_inside, vars_inside, before_small}
use Rattle.lift_laws.proofs.LoopCase.{joined_cells}
use Rattle.lift_laws.proofs.ChoiceCase.{keep_same, true_cells, branch_stands, branch_small}
use Rattle.lift_laws.proofs.TupleLists.{body_iters, tuples_of_all, tuples_few}

-- the tuples of the innermost loop, each alone
abbrev out : List Cell → List Cell
out r = pick (columns (0 ∷ 1 ∷ [])) (pair 0 0 ∷ pair 1 1 ∷ pair 2 0 ∷ []) r

tuples_stand : (its : List Iter) (l : List (List Cell)) → Same l (loop_rows its) → Same (tuple_rows l) (value_rows (λ i. num i.number ∷ []) its)
tuples_stand its l s =
    same-trans (same-map out (same-map (λ r. r ++ num 1 ∷ []) s))
    (same-of (ap (map out) (map-map (λ r. r ++ num 1 ∷ []) (λ (i : Iter). num i.number ∷ []) its) ∙ map-map out (λ (i : Iter). num i.number ∷ num 1 ∷ []) its ∙ flat its))
  where
    flat : (js : List Iter) → map (λ (i : Iter). num i.number ∷ num 1 ∷ num i.number ∷ []) js ≡ value_rows (λ i. num i.number ∷ []) js
    flat [] = refl
    flat (j ∷ js) = ap (λ l. (num j.number ∷ num 1 ∷ num j.number ∷ []) ∷ l) (flat js)

-- as many rows as tuples
tuple_size : (ls : List (List Iter)) → total (λ l. length (numbers l)) ls ≡ total (λ l. length l) ls
tuple_size [] = refl
tuple_size (l ∷ ls) = let r = tuple_size ls in let m = map_length (λ (i : Iter). num i.number) l in omega arith

module _ (docs : Docs) where
  pub tuples_size : (sp : Spine) (its : List Iter) → Ascends (λ i. i.number) 0 its → faults_in docs sp its ≡ [] → length (value_rows (tuple_cells docs sp its) its) ≡ length (tuples_all docs sp its)
  tuples_size sp its a z =
      size_cells (tuple_cells docs sp its) its
      ∙ total-ext _ _ its (λ i. map_length (λ (l : Iter). num l.number) (tuples_at docs sp its i) ∙ length-total (tuples_at docs sp its i))
      ∙ sym (ap (λ (l : List Iter). length l) (tuples_of_all docs sp its a z) ∙ length-total (flat_map (tuples_at docs sp its) its) ∙ total-flat (λ l. 1) (tuples_at docs sp its) its)

  -- each tuple weighs the items of the variables that are free in what follows
  used_few : (sp : Spine) (y : ℕ) → is_member y (free_in sp) ≡ true → (its : List Iter) → total (λ i. length (i.env y)) its ≤ total (tuple_weight docs sp) its
  used_few sp y f its = total_most (λ i. length (i.env y)) (tuple_weight docs sp) its (λ i. let r = used_most i.env (free_in sp) y f in omega arith)

  count_few : (sp : Spine) (its : List Iter) → length its ≤ total (tuple_weight docs sp) its
  count_few sp its = let l = length-total its in let m = total_most (λ i. 1) (tuple_weight docs sp) its (λ i. omega arith) in omega arith

  -- keys and body
  module _ {s s1 s2 s3 : State} (n : ℕ) (ks : Exprs) (e : Expr) (looped : OpId) (vars : ℕ → OpId) (keys : List OpId) (body tu : OpId) (sited : sited_in n (Leaf ks e) ≡ true)
      (lk : LiftsAll docs s s1 n ks looped vars keys) (le : Lifts docs s1 s2 (n + nodes_all ks) e looped vars body) (mt : Makes s2 s3 tu three (tuple_rows (at s2 looped).rows) (length (at s2 looped).rows)) where
    pub leaf_lifts : LiftsIn docs s s3 n (Leaf ks e) looped vars looped tu keys body
    leaf_lifts = record {
      chunk = chunk_makes n (n + nodes_all ks + nodes e) (n + nodes_in (Leaf ks e)) (omega arith) (chunk_then n (n + nodes_all ks) (n + nodes_all ks + nodes e) (omega arith) (omega arith) lk.chunk le.chunk) mt.grows;
      sited = sited_then (sites_all ks) (sites e) lk.chunk.groups le.chunk.groups lk.sited le.sited;
      walked = walked_more (walked_then lk.walked le.walked) mt.quiet;
      told = λ W N its en.
          let enough = en.enough in
          let sites = and_parts (sited_all n ks) (is_sited (n + nodes_all ks) e) sited in
          let rk = lk.told W N its (record { faithful = en.faithful; numbered = en.numbered.0; enough = omega arith; ascends = en.ascends; loop = en.loop; scope = λ y f. en.scope y (in_left (free_all ks) (free e) y f) }) in
          let re = le.told W N its (record { faithful = en.faithful; numbered = en.numbered.1; enough = omega arith; ascends = en.ascends; loop = holds_keep lk.chunk.grows en.loop; scope = λ y f. stands_keep lk.chunk.grows (en.scope y (in_right (free_all ks) (free e) y f)) }) in
          let fk = faults_all docs ks its in
          let fe = faults docs e its in
          let loop_2 = holds_keep le.chunk.grows (holds_keep lk.chunk.grows en.loop) in
          let few : length (at s2 looped).rows ≤ N = (let a = same-length loop_2.rows_are in let b = size_loop its in let c = tuples_few docs (Leaf ks e) its in omega arith) in (
            tells_upper N s3 (length s.tables) (length s2.tables) (length s3.tables) (lk.chunk.groups ++ le.chunk.groups) (fk ++ fe) (λ z. small_most mt.small few)
                (tells_then N s3 (length s.tables) (length s1.tables) (length s2.tables) (n + nodes_all ks) lk.chunk.groups le.chunk.groups fk fe (chunk_below n (n + nodes_all ks) lk.chunk) (faults_from docs e (n + nodes_all ks) (n + nodes_all ks) its sites.1 (omega arith))
                (chunk_told N n (n + nodes_all ks) lk.chunk fk (grows_trans le.chunk.grows mt.grows) rk.0)
                (λ z. chunk_told N (n + nodes_all ks) (n + nodes_all ks + nodes e) le.chunk fe mt.grows re.0)),
            λ z.
                let k = append_nil fk fe z in
                let a = rk.1 k.0 in
                let b = re.1 k.1 in (
                  record {
                    loop = holds_keep mt.grows loop_2;
                    there = makes_holds mt (tuples_stand its _ loop_2.rows_are);
                    by_keys = hold_all_keep keys _ its (grows_trans le.chunk.grows mt.grows) a.0;
                    with_body = stands_keep mt.grows b.0;
                  },
                  all-append _ lk.chunk.notes le.chunk.notes (notes_keep docs W lk.chunk.notes (grows_trans le.chunk.grows mt.grows) a.2) (notes_keep docs W le.chunk.notes mt.grows b.1),
                ),
          );
    }

  -- a bound variable
  module _ {s s1 s2 : State} (n x : ℕ) (b : Expr) (sp : Spine) (looped : OpId) (vars : ℕ → OpId) (tb inner tu : OpId) (keys : List OpId) (body : OpId) (sited : sited_in n (LetBind x b sp) ≡ true)
      (lb : Lifts docs s s1 n b looped vars tb) (ls : LiftsIn docs s1 s2 (n + nodes b) sp looped (set_var vars x tb) inner tu keys body) where
    let_inside : (W : World) (N : ℕ) (its : List Iter) → EntersIn docs W N s (LetBind x b sp) looped vars its → AllOf (ValueAt docs b) its → StandsFor docs W s1 tb (value docs b) its → EntersIn docs W N s1 sp looped (set_var vars x tb) (bound docs x b its)
    let_inside W N its en vb hb =
        let enough = en.enough in
        record {
          faithful = en.faithful;
          numbered = en.numbered.1;
          enough = omega arith;
          ascends = bound_ascends docs x b its vb en.ascends;
          loop = holds_rows (bound_loop docs x b its vb) (holds_keep lb.chunk.grows en.loop);
          scope = let_scope docs W x b (as_expr sp) vars tb its vb (λ y ne f. stands_keep lb.chunk.grows (en.scope y (in_right (free b) (without x (free_in sp)) y (without_keeps x (free_in sp) y ne f)))) hb;
        }

    let_back : (W : World) (its : List Iter) → AllOf (ValueAt docs b) its → TuplesStand docs W s2 sp (bound docs x b its) inner tu keys body → TuplesStand docs W s2 (LetBind x b sp) its inner tu keys body
    let_back W its vb h =
        let T = tuple_cells docs sp (bound docs x b its) in
        record {
          loop = h.loop;
          there = holds_rows (ap (value_rows T) (bound_all docs x b its vb) ∙ flat-map (λ (i : Iter). item_rows i.number 1 (T i)) (λ i. with_value x i (value docs b i)) its) h.there;
          by_keys = h.by_keys;
          with_body = h.with_body;
        }

    pub let_bind_lifts : LiftsIn docs s s2 n (LetBind x b sp) looped vars inner tu keys body
    let_bind_lifts = record {
      chunk = chunk_makes n (n + nodes b + nodes_in sp) (n + nodes_in (LetBind x b sp)) (omega arith) (chunk_then n (n + nodes b) (n + nodes b + nodes_in sp) (omega arith) (omega arith) lb.chunk ls.chunk) (grows_self s2);
      sited = sited_then (sites b) (sites_in sp) lb.chunk.groups ls.chunk.groups lb.sited ls.sited;
      walked = walked_then lb.walked ls.walked;
      told = λ W N its en.
          let enough = en.enough in
          let sites = and_parts (is_sited n b) (sited_in (n + nodes b) sp) sited in
          let rb = lb.told W N its (record { faithful = en.faithful; numbered = en.numbered.0; enough = omega arith; ascends = en.ascends; loop = en.loop; scope = λ y f. en.scope y (in_left (free b) (without x (free_in sp)) y f) }) in
          let fb = faults docs b its in
          let fs = faults_in docs sp (bound docs x b its) in
          let go = λ (z : fb ≡ []). ls.told W N (bound docs x b its) (let_inside W N its en (no_faults docs b its z) (rb.1 z).0) in (
            tells_then N s2 (length s.tables) (length s1.tables) (length s2.tables) (n + nodes b) lb.chunk.groups ls.chunk.groups fb fs (chunk_below n (n + nodes b) lb.chunk) (faults_in_from docs sp (n + nodes b) (n + nodes b) (bound docs x b its) sites.1 (omega arith))
                (chunk_told N n (n + nodes b) lb.chunk fb ls.chunk.grows rb.0)
                (λ z. (go z).0),
            λ z.
                let k = append_nil fb fs z in (
                  let_back W its (no_faults docs b its k.0) ((go k.0).1 k.1).0,
                  all-append _ lb.chunk.notes ls.chunk.notes (notes_keep docs W lb.chunk.notes ls.chunk.grows (rb.1 k.0).1) ((go k.0).1 k.1).1,
                ),
          );
    }

  -- a condition
  module _ {s s1 s2 s3 s4 : State} (n : ℕ) (d : Expr) (sp : Spine) (looped : OpId) (vars vars' : ℕ → OpId) (tc kept inner tu : OpId) (keys : List OpId) (body : OpId) (sited : sited_in n (WhereBind d sp) ≡ true)
      (ld : Lifts docs s s1 n d looped vars tc)
      (mk : Makes s1 s2 kept single (chosen_rows (at s1 tc).rows) (length (at s1 tc).rows))
      (rs : Restricts s2 s3 kept vars vars' (as_expr sp))
      (ls : LiftsIn docs s3 s4 (n + nodes d) sp kept vars' inner tu keys body) where
    before_rest : Grows s1 s3 []
    before_rest = grows_trans mk.grows rs.grows

    module _ (W : World) (N : ℕ) (its : List Iter) (en : EntersIn docs W N s (WhereBind d sp) looped vars its) (vd : AllOf (ValueAt docs d) its) (hd : StandsFor docs W s1 tc (value docs d) its) where
      abbrev some_its : List Iter
      some_its = filter (chosen docs d) its

      kept_2 : Holds s2 kept single (loop_rows some_its)
      kept_2 =
          let p = λ (i : Iter). holds (value docs d i) in
          let chosen_same : filter p its ≡ some_its = keep_same p (chosen docs d) its (all_mono _ _ (λ i (u : ValueAt docs d i). let r : p i ≡ chosen docs d i = ap (λ o. holds (list_of o)) u.1 ∙ sym (ap chosen_in u.1) in r) its vd) in
          let cells_same = keep_same (λ i. holds (cells (cell_of W) (value docs d) i)) p its (all_each _ (λ i. true_cells W (value docs d i)) its) in
          holds_rows (ap loop_rows (cells_same ∙ chosen_same)) (makes_holds mk (chosen_stands (cells (cell_of W) (value docs d)) its _ en.ascends hd.there.rows_are))

      scope_2 : (y : ℕ) → IsFree y (as_expr sp) → StandsFor docs W s2 (vars y) (λ i. i.env y) its
      scope_2 y f = stands_keep mk.grows (stands_keep ld.chunk.grows (en.scope y (in_right (free d) (free_in sp) y f)))

      weights : total (tuple_weight docs sp) some_its ≤ N
      weights = let h = en.enough in omega arith

      where_inside : EntersIn docs W N s3 sp kept vars' some_its
      where_inside =
          let h = en.enough in
          record {
            faithful = en.faithful;
            numbered = en.numbered.1;
            enough = omega arith;
            ascends = keep_ascends (chosen docs d) 0 its en.ascends;
            loop = holds_keep rs.grows kept_2;
            scope = λ y f. branch_stands docs W N (chosen docs d) (as_expr sp) kept vars vars' its en.ascends rs kept_2 scope_2 y f;
          }

      small_between : Small s3 (length s1.tables) (length s3.tables) N
      small_between =
          let l1 = mk.grows.longer in
          let l2 = rs.grows.longer in
          let x = same-length hd.there.rows_are in
          let y = size_cells (cells (cell_of W) (value docs d)) its in
          let q = total-ext (λ i. length (cells (cell_of W) (value docs d) i)) (λ i. length (value docs d i)) its (λ i. map_length (cell_of W) (value docs d i)) in
          let z = values_weigh docs d its in
          let o = own_most docs d its in
          let h = en.enough in
          let w = weights in
          let c = count_few sp some_its in
          let m : length (at s1 tc).rows ≤ N = omega arith in
          small_join (small_keep rs.grows (omega arith) (small_most mk.small m))
          (branch_small docs W N (chosen docs d) (as_expr sp) kept vars vars' its en.ascends rs kept_2 scope_2 (omega arith) (λ y f. let u = used_few sp y f some_its in omega arith))

      where_back : TuplesStand docs W s4 sp some_its inner tu keys body → TuplesStand docs W s4 (WhereBind d sp) its inner tu keys body
      where_back h =
          let T = tuple_cells docs sp some_its in
          record { loop = h.loop; there = holds_rows (kept_rows (chosen docs d) (tuples_at docs sp some_its) its) h.there; by_keys = h.by_keys; with_body = h.with_body }
        where
          kept_rows : (p : Iter → Bool) (T : Iter → List Iter) (js : List Iter) → value_rows (λ i. numbers (T i)) (filter p js) ≡ value_rows (λ i. numbers (cond (p i) (T i) [])) js
          kept_rows p T [] = refl
          kept_rows p T (j ∷ js) =
              let r = kept_rows p T js in
              elim (p j) as (λ b. value_rows (λ i. numbers (T i)) (cond b (j ∷ filter p js) (filter p js)) ≡ item_rows j.number 1 (numbers (cond b (T j) [])) ++ value_rows (λ i. numbers (cond (p i) (T i) [])) js) [
                | true ↦ ap (λ l. item_rows j.number 1 (numbers (T j)) ++ l) r
                | false ↦ r
              ]

    pub where_bind_lifts : LiftsIn docs s s4 n (WhereBind d sp) looped vars inner tu keys body
    where_bind_lifts = record {
      chunk = chunk_makes n (n + nodes d + nodes_in sp) (n + nodes_in (WhereBind d sp)) (omega arith) (chunk_then n (n + nodes d) (n + nodes d + nodes_in sp) (omega arith) (omega arith) (chunk_makes n (n + nodes d) (n + nodes d) (omega arith) ld.chunk before_rest) ls.chunk) (grows_self s4);
      sited = sited_then (sites d) (sites_in sp) ld.chunk.groups ls.chunk.groups ld.sited ls.sited;
      walked = walked_then (walked_more ld.walked (rs.quiet ∙ mk.quiet)) ls.walked;
      told = λ W N its en.
          let enough = en.enough in
          let sites = and_parts (is_sited n d) (sited_in (n + nodes d) sp) sited in
          let rd = ld.told W N its (record { faithful = en.faithful; numbered = en.numbered.0; enough = omega arith; ascends = en.ascends; loop = en.loop; scope = λ y f. en.scope y (in_left (free d) (free_in sp) y f) }) in
          let fd = faults docs d its in
          let some = filter (chosen docs d) its in
          let fs = faults_in docs sp some in
          let vd = λ (z : fd ≡ []). no_faults docs d its z in
          let go = λ (z : fd ≡ []). ls.told W N some (where_inside W N its en (vd z) (rd.1 z).0) in (
            tells_then N s4 (length s.tables) (length s3.tables) (length s4.tables) (n + nodes d) ld.chunk.groups ls.chunk.groups fd fs (chunk_below n (n + nodes d) ld.chunk) (faults_in_from docs sp (n + nodes d) (n + nodes d) some sites.1 (omega arith))
                (tells_upper N s4 (length s.tables) (length s1.tables) (length s3.tables) ld.chunk.groups fd (λ z. small_keep ls.chunk.grows (omega arith) (small_between W N its en (vd z) (rd.1 z).0)) (chunk_told N n (n + nodes d) ld.chunk fd (grows_trans before_rest ls.chunk.grows) rd.0))
                (λ z. (go z).0),
            λ z.
                let k = append_nil fd fs z in (
                  where_back W N its en (vd k.0) (rd.1 k.0).0 ((go k.0).1 k.1).0,
                  all-append _ ld.chunk.notes ls.chunk.notes (notes_keep docs W ld.chunk.notes (grows_trans before_rest ls.chunk.grows) (rd.1 k.0).1) ((go k.0).1 k.1).1,
                ),
          );
    }

  -- a loop
  module _ {s s1 s2 s3 s4 s5 s6 s7 s8 : State} (n x p : ℕ) (q : Expr) (sp : Spine) (looped : OpId) (vars vars' : ℕ → OpId) (tq m turned vx vp inner tu t : OpId) (keys : List OpId) (body : OpId)
      (sited : sited_in n (ForBind x p q sp) ≡ true)
      (lq : Lifts docs s s1 n q looped vars tq)
      (mm : Makes s1 s2 m four (turn_map (at s1 tq).rows) (length (at s1 tq).rows))
      (mi : Makes s2 s3 turned single (inner_rows (at s2 m).rows) (length (at s2 m).rows))
      (mx : Makes s3 s4 vx three (item_var_rows (at s3 m).rows) (length (at s3 m).rows))
      (mp : Makes s4 s5 vp three (place_var_rows (at s4 m).rows) (length (at s4 m).rows))
      (mc : Carries s5 s6 m vars vars' x p (as_expr sp))
      (ls : LiftsIn docs s6 s7 (n + nodes q) sp turned (set_var (set_var vars' x vx) p vp) inner tu keys body)
      (mb : Makes s7 s8 t three (back_rows (at s7 m).rows (at s7 tu).rows) (length (at s7 m).rows + length (back_rows (at s7 m).rows (at s7 tu).rows))) where
    before_body : Grows s1 s6 []
    before_body = grows_trans mm.grows (grows_trans mi.grows (grows_trans mx.grows (grows_trans mp.grows mc.grows)))

    module _ (W : World) (N : ℕ) (its : List Iter) (en : EntersIn docs W N s (ForBind x p q sp) looped vars its) (hq : StandsFor docs W s1 tq (value docs q) its) where
      abbrev within : List Iter
      within = map (iter_of x p) (turns (value docs q) its)

      enough_q : total (weight docs q) its ≤ N
      enough_q = let d = own_most docs q its in let h = en.enough in omega arith

      scope_1 : (y : ℕ) → y ≢ x → y ≢ p → IsFree y (as_expr sp) → StandsFor docs W s1 (vars y) (λ i. i.env y) its
      scope_1 y ne np f = stands_keep lq.chunk.grows (en.scope y (in_right (free q) (without p (without x (free_in sp))) y (without_keeps p (without x (free_in sp)) y np (without_keeps x (free_in sp) y ne f))))

      few_inside : (y : ℕ) → IsFree y (as_expr sp) → total (λ (i : Iter). length (i.env y)) within ≤ N
      few_inside y f = let g = used_few sp y f within in let h = en.enough in omega arith

      map_7 : Holds s7 m four (map (map_row_of (cell_of W)) (turns (value docs q) its))
      map_7 = holds_keep ls.chunk.grows (map_6 docs x p q (as_expr sp) vars vars' tq m turned vx vp mm mi mx mp mc W N its en.ascends hq enough_q scope_1 few_inside)

      loop_enters : EntersIn docs W N s6 sp turned (set_var (set_var vars' x vx) p vp) within
      loop_enters =
          let h = en.enough in
          record {
            faithful = en.faithful;
            numbered = en.numbered.1;
            enough = omega arith;
            ascends = inside_ascends x p (value docs q) its;
            loop = loop_inside docs x p q (as_expr sp) vars vars' tq m turned vx vp mm mi mx mp mc W N its en.ascends hq enough_q scope_1 few_inside;
            scope = vars_inside docs x p q (as_expr sp) vars vars' tq m turned vx vp mm mi mx mp mc W N its en.ascends hq enough_q scope_1 few_inside;
          }

      small_before : Small s6 (length s1.tables) (length s6.tables) N
      small_before = before_small docs x p q (as_expr sp) vars vars' tq m turned vx vp mm mi mx mp mc W N its en.ascends hq enough_q scope_1 few_inside

      module _ (z : faults_in docs (ForBind x p q sp) its ≡ []) (st : TuplesStand docs W s7 sp within inner tu keys body) where
        abbrev T : Iter → List Iter
        T = tuples_at docs sp within

        abbrev h : Iter → ℕ → Item Text → List Iter
        h i k v = T (body_iter docs x p q its i k v)

        rows_back : Same (back_rows (at s7 m).rows (at s7 tu).rows) (value_rows (tuple_cells docs (ForBind x p q sp) its) its)
        rows_back =
            let f = value docs q in
            let turned_rows = holds_rows (flat-map (λ (i : Iter). item_rows i.number 1 (numbers (T i))) (iter_of x p) (turns f its)
            ∙ flat-all _ _ (turns f its) (all_mono _ _ (λ t (e : body_iter docs x p q its t.outer t.place t.item ≡ iter_of x p t). ap (λ i. item_rows t.number 1 (numbers (T i))) (sym e)) (turns f its) (body_iters docs x p q its en.ascends))) st.there in
            same-trans (back_stands (cell_of W) f (λ i k v. numbers (h i k v)) its _ _ en.ascends map_7.rows_are turned_rows.rows_are)
            (same-of (flat-all _ _ its (all_each _ (λ i. ap (item_rows i.number 1) (joined_cells (λ (l : Iter). num l.number) h i 1 (f i))) its)))

        loop_back : TuplesStand docs W s8 (ForBind x p q sp) its inner t keys body
        loop_back = record {
          loop = holds_keep mb.grows st.loop;
          there = makes_holds mb rows_back;
          by_keys = hold_all_keep keys _ _ mb.grows st.by_keys;
          with_body = stands_keep mb.grows st.with_body;
        }

        back_few : length (at s7 m).rows + length (back_rows (at s7 m).rows (at s7 tu).rows) ≤ N
        back_few =
            let a = same-length map_7.rows_are in
            let b = turns_few docs x p q (as_expr sp) vars vars' tq m turned vx vp mm mi mx mp mc W N its en.ascends hq enough_q scope_1 few_inside in
            let d = own_most docs q its in
            let f = same-length rows_back in
            let g = tuples_size (ForBind x p q sp) its en.ascends z in
            let k = tuples_few docs sp within in
            let e = en.enough in
            omega arith

    pub for_bind_lifts : LiftsIn docs s s8 n (ForBind x p q sp) looped vars inner t keys body
    for_bind_lifts = record {
      chunk = chunk_makes n (n + nodes q + nodes_in sp) (n + nodes_in (ForBind x p q sp)) (omega arith) (chunk_then n (n + nodes q) (n + nodes q + nodes_in sp) (omega arith) (omega arith) (chunk_makes n (n + nodes q) (n + nodes q) (omega arith) lq.chunk before_body) ls.chunk) mb.grows;
      sited = sited_then (sites q) (sites_in sp) lq.chunk.groups ls.chunk.groups lq.sited ls.sited;
      walked = walked_more (walked_then (walked_more lq.walked (mc.quiet ∙ mp.quiet ∙ mx.quiet ∙ mi.quiet ∙ mm.quiet)) ls.walked) mb.quiet;
      told = λ W N its en.
          let enough = en.enough in
          let sites = and_parts (is_sited n q) (sited_in (n + nodes q) sp) sited in
          let rq = lq.told W N its (record { faithful = en.faithful; numbered = en.numbered.0; enough = omega arith; ascends = en.ascends; loop = en.loop; scope = λ y f. en.scope y (in_left (free q) (without p (without x (free_in sp))) y f) }) in
          let fq = faults docs q its in
          let within = inside docs x p q its in
          let fs = faults_in docs sp within in
          let to_8 = grows_trans ls.chunk.grows mb.grows in
          let go = λ (z : fq ≡ []). ls.told W N within (loop_enters W N its en (rq.1 z).0) in (
            tells_upper N s8 (length s.tables) (length s7.tables) (length s8.tables) (lq.chunk.groups ++ ls.chunk.groups) (fq ++ fs)
                (λ z. let k = append_nil fq fs z in small_most mb.small (back_few W N its en (rq.1 k.0).0 z ((go k.0).1 k.1).0))
                (tells_then N s8 (length s.tables) (length s6.tables) (length s7.tables) (n + nodes q) lq.chunk.groups ls.chunk.groups fq fs (chunk_below n (n + nodes q) lq.chunk) (faults_in_from docs sp (n + nodes q) (n + nodes q) within sites.1 (omega arith))
                (tells_upper N s8 (length s.tables) (length s1.tables) (length s6.tables) lq.chunk.groups fq (λ z. small_keep to_8 (omega arith) (small_before W N its en (rq.1 z).0)) (chunk_told N n (n + nodes q) lq.chunk fq (grows_trans before_body to_8) rq.0))
                (λ z. chunk_told N (n + nodes q) (n + nodes q + nodes_in sp) ls.chunk fs mb.grows (go z).0)),
            λ z.
                let k = append_nil fq fs z in (
                  loop_back W N its en (rq.1 k.0).0 z ((go k.0).1 k.1).0,
                  all-append _ lq.chunk.notes ls.chunk.notes (notes_keep docs W lq.chunk.notes (grows_trans before_body to_8) (rq.1 k.0).1) (notes_keep docs W ls.chunk.notes mb.grows ((go k.0).1 k.1).1),
                ),
          );
    }
