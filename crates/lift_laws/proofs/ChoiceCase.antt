-- The case of the induction for a choice.
use Rattle.std.proofs.Common.{◌≡◌, ℕ, ◌+◌, ◌≤◌, Bool, true, false, cond, not, ◌&&◌, List, [], ◌∷◌, ◌++◌, length, map, refl, sym, ap, ◌∙◌, subst, arith}
use Rattle.std.specs.List.{filter}
use Rattle.std.proofs.lemmas.Bool.{and_parts}
use Rattle.doc_table.specs.Items.{IntItem, TextItem, UntypedItem, BoolItem, NodeItem}
use Rattle.doc_table.specs.Values.{Items}
use Rattle.doc_table.specs.NodeRules.{Docs}
use Rattle.plan_dag.specs.declared.op.OpId.{OpId}
use Rattle.core_meaning.specs.Expr.{Expr, If}
use Rattle.core_meaning.specs.Meaning.{and_then, holds, val}
use Rattle.core_meaning.specs.Lawful.{nodes, is_sited}
use Rattle.core_meaning.specs.Work.{free, union}
use Rattle.lift_laws.specs.Sums.{total, AllOf, Ascends, Same}
use Rattle.lift_laws.specs.Iterations.{Iter, item_rows, value_rows, loop_rows, cells}
use Rattle.lift_laws.specs.Bulk.{list_of, value, chosen_in, other_in, chosen, other, faults, cost, sites}
use Rattle.lift_laws.specs.Worlds.{World, cell_of, Known}
use Rattle.lift_laws.specs.States.{State, at, Small, Grows, Makes, Holds, StandsFor, three, single}
use Rattle.lift_laws.specs.Shapes.{chosen_rows, other_rows, restrict_rows, either_rows}
use Rattle.lift_laws.specs.Carried.{Restricts}
use Rattle.lift_laws.specs.Lifting.{IsFree, Enters, Lifts}
use Rattle.lift_laws.proofs.Multi.{same-length}
use Rattle.lift_laws.proofs.Picks.{all_each, all_mono, all-append, flat-all}
use Rattle.lift_laws.proofs.Simple.{two_hold, chosen_stands, keep_ascends, restrict_stands, either_stands, other_stands}
use Rattle.lift_laws.proofs.Values.{append_nil, all_two, ValueAt, no_faults}
use Rattle.lift_laws.proofs.Free.{in_left, in_right}
use Rattle.lift_laws.proofs.Sizes.{size_values, size_loop, weighs, values_weigh, many_free, own_most}
use Rattle.lift_laws.proofs.Keeping.{grows_trans, holds_keep, holds_rows, makes_holds, stands_keep, notes_keep, small_most, small_join, small_keep, tells_upper, tells_then, faults_from, chunk_then, chunk_makes, sited_then, walked_then, walked_more, chunk_told, chunk_below}

pub keep_same : {A : Type 0} (p q : A → Bool) (xs : List A) → AllOf (λ x. p x ≡ q x) xs → filter p xs ≡ filter q xs
keep_same p q [] a = refl
keep_same p q (x ∷ xs) a =
    let r = keep_same p q xs a.1 in
    ap (λ b. cond b (x ∷ filter p xs) (filter p xs)) a.0 ∙ elim (q x) as (λ b. cond b (x ∷ filter p xs) (filter p xs) ≡ cond b (x ∷ filter q xs) (filter q xs)) [ true ↦ ap (λ l. x ∷ l) r | false ↦ r ]

pub keep_hold : {A : Type 0} (P : A → Type 0) (p : A → Bool) (xs : List A) → AllOf P xs → AllOf P (filter p xs)
keep_hold P p [] a = tt
keep_hold P p (x ∷ xs) a =
    let r = keep_hold P p xs a.1 in
    elim (p x) as (λ b. AllOf P (cond b (x ∷ filter p xs) (filter p xs))) [ true ↦ (a.0, r) | false ↦ r ]

pub true_cells : (W : World) (vs : Items) → holds (map (cell_of W) vs) ≡ holds vs
true_cells W [] = refl
true_cells W (IntItem z ∷ []) = refl
true_cells W (TextItem t ∷ []) = refl
true_cells W (UntypedItem t ∷ []) = refl
true_cells W (BoolItem b ∷ []) = refl
true_cells W (NodeItem n ∷ []) = refl
true_cells W (v ∷ u ∷ vs) = two_hold (cell_of W v) (cell_of W u) (map (cell_of W) vs) ∙ sym (two_hold v u vs)

module _ (docs : Docs) where
  -- one branch is entered
  module _ {s s' : State} (W : World) (N : ℕ) (p : Iter → Bool) (e : Expr) (l : OpId) (vars vars' : ℕ → OpId) (its : List Iter) (asc : Ascends (λ i. i.number) 0 its) (r : Restricts s s' l vars vars' e)
      (hl : Holds s l single (loop_rows (filter p its))) (hv : (y : ℕ) → IsFree y e → StandsFor docs W s (vars y) (λ i. i.env y) its) where
    branch_var : (y : ℕ) → IsFree y e → Same (restrict_rows (at s l).rows (at s (vars y)).rows) (value_rows (cells (cell_of W) (λ i. i.env y)) (filter p its))
    branch_var y f = restrict_stands p (cells (cell_of W) (λ i. i.env y)) its _ _ asc hl.rows_are (hv y f).there.rows_are

    pub branch_stands : (y : ℕ) → IsFree y e → StandsFor docs W s' (vars' y) (λ i. i.env y) (filter p its)
    branch_stands y f =
        let k = r.carried y f in
        let stands = branch_var y f in
        record {
          there = record { is_in = k.0; cols_are = ap (λ q. q.cols) k.1; rows_are = record { at = λ w. ap (λ q. total w q.rows) k.1 ∙ stands.at w } };
          known = keep_hold (λ (i : Iter). AllOf (Known docs W) (i.env y)) p its (hv y f).known;
        }

    pub branch_small : length (filter p its) ≤ N → ((y : ℕ) → IsFree y e → total (λ i. length (i.env y)) (filter p its) ≤ N) → Small s' (length s.tables) (length s'.tables) N
    branch_small few used =
        let a = same-length hl.rows_are in
        let b = size_loop (filter p its) in
        let m : length (at s l).rows ≤ N = omega arith in
        r.small N m (λ y f.
        let h = same-length (branch_var y f) in
        let k = size_values (cell_of W) (λ i. i.env y) (filter p its) in
        let j = used y f in
        let q : length (restrict_rows (at s l).rows (at s (vars y)).rows) ≤ N = omega arith in q)

    -- it is small where the branch is lifted
    branch_enough : cost docs e (filter p its) ≤ N → Small s' (length s.tables) (length s'.tables) N
    branch_enough enough =
        let d = weighs docs e (filter p its) in
        let g = own_most docs e (filter p its) in
        branch_small (omega arith) (λ y f. let j = many_free docs e y f (filter p its) in omega arith)

  module _ {s s1 s2 s3 s4 s5 s6 s7 s8 : State} (n : ℕ) (d a b : Expr) (looped : OpId) (vars va vb : ℕ → OpId) (tc chosen_loop other_loop ta tb t : OpId)
      (sited : is_sited n (If d a b) ≡ true)
      (ld : Lifts docs s s1 n d looped vars tc)
      (my : Makes s1 s2 chosen_loop single (chosen_rows (at s1 tc).rows) (length (at s1 tc).rows))
      (mn : Makes s2 s3 other_loop single (other_rows (at s2 looped).rows (at s2 chosen_loop).rows) (length (at s2 looped).rows))
      (ra : Restricts s3 s4 chosen_loop vars va a)
      (la : Lifts docs s4 s5 (n + nodes d) a chosen_loop va ta)
      (rb : Restricts s5 s6 other_loop vars vb b)
      (lb : Lifts docs s6 s7 (n + nodes d + nodes a) b other_loop vb tb)
      (mt : Makes s7 s8 t three (either_rows (at s7 ta).rows (at s7 tb).rows) (length (at s7 ta).rows + length (at s7 tb).rows)) where
    sites_a : is_sited (n + nodes d) a ≡ true
    sites_a = (and_parts (is_sited n d) (is_sited (n + nodes d) a) (and_parts (is_sited n d && is_sited (n + nodes d) a) (is_sited (n + nodes d + nodes a) b) sited).0).1

    sites_b : is_sited (n + nodes d + nodes a) b ≡ true
    sites_b = (and_parts (is_sited n d && is_sited (n + nodes d) a) (is_sited (n + nodes d + nodes a) b) sited).1

    to_3 : Grows s1 s3 []
    to_3 = grows_trans my.grows mn.grows

    to_4 : Grows s1 s4 []
    to_4 = grows_trans my.grows (grows_trans mn.grows ra.grows)

    module _ (W : World) (N : ℕ) (its : List Iter) (en : Enters docs W N s (If d a b) looped vars its) (vd : AllOf (ValueAt docs d) its) (hd : StandsFor docs W s1 tc (value docs d) its) where
      abbrev p : Iter → Bool
      p i = holds (value docs d i)

      p_chosen : filter p its ≡ filter (chosen docs d) its
      p_chosen = keep_same p (chosen docs d) its (all_mono _ _ (λ i (u : ValueAt docs d i). let r : p i ≡ chosen docs d i = ap (λ o. holds (list_of o)) u.1 ∙ sym (ap chosen_in u.1) in r) its vd)

      p_other : filter (λ i. not (p i)) its ≡ filter (other docs d) its
      p_other = keep_same (λ i. not (p i)) (other docs d) its (all_mono _ _ (λ i (u : ValueAt docs d i). let r : not (p i) ≡ other docs d i = ap (λ o. not (holds (list_of o))) u.1 ∙ sym (ap other_in u.1) in r) its vd)

      p_cells : filter (λ i. holds (cells (cell_of W) (value docs d) i)) its ≡ filter p its
      p_cells = keep_same (λ i. holds (cells (cell_of W) (value docs d) i)) p its (all_each _ (λ i. true_cells W (value docs d i)) its)

      yes_2 : Holds s2 chosen_loop single (loop_rows (filter p its))
      yes_2 = holds_rows (ap loop_rows p_cells) (makes_holds my (chosen_stands (cells (cell_of W) (value docs d)) its _ en.ascends hd.there.rows_are))

      loop_2 : Holds s2 looped single (loop_rows its)
      loop_2 = holds_keep my.grows (holds_keep ld.chunk.grows en.loop)

      no_3 : Holds s3 other_loop single (loop_rows (filter (λ i. not (p i)) its))
      no_3 = makes_holds mn (other_stands p its _ _ en.ascends loop_2.rows_are yes_2.rows_are)

      yes_3 : Holds s3 chosen_loop single (loop_rows (filter (chosen docs d) its))
      yes_3 = holds_rows (ap loop_rows p_chosen) (holds_keep mn.grows yes_2)

      no_5 : Holds s5 other_loop single (loop_rows (filter (other docs d) its))
      no_5 = holds_rows (ap loop_rows p_other) (holds_keep la.chunk.grows (holds_keep ra.grows no_3))

      var_3 : (y : ℕ) → IsFree y a → StandsFor docs W s3 (vars y) (λ i. i.env y) its
      var_3 y f = stands_keep mn.grows (stands_keep my.grows (stands_keep ld.chunk.grows (en.scope y (in_right (free d) (union (free a) (free b)) y (in_left (free a) (free b) y f)))))

      var_5 : (y : ℕ) → IsFree y b → StandsFor docs W s5 (vars y) (λ i. i.env y) its
      var_5 y f = stands_keep la.chunk.grows (stands_keep ra.grows (stands_keep mn.grows (stands_keep my.grows (stands_keep ld.chunk.grows (en.scope y (in_right (free d) (union (free a) (free b)) y (in_right (free a) (free b) y f)))))))

      enough_a : cost docs a (filter (chosen docs d) its) ≤ N
      enough_a = let h = en.enough in omega arith

      enough_b : cost docs b (filter (other docs d) its) ≤ N
      enough_b = let h = en.enough in omega arith

      enters_a : Enters docs W N s4 a chosen_loop va (filter (chosen docs d) its)
      enters_a = record {
        faithful = en.faithful;
        numbered = en.numbered.1;
        enough = enough_a;
        ascends = keep_ascends (chosen docs d) 0 its en.ascends;
        loop = holds_keep ra.grows yes_3;
        scope = λ y f. branch_stands W N (chosen docs d) a chosen_loop vars va its en.ascends ra yes_3 var_3 y f;
      }

      enters_b : Enters docs W N s6 b other_loop vb (filter (other docs d) its)
      enters_b = record {
        faithful = en.faithful;
        numbered = en.numbered.2;
        enough = enough_b;
        ascends = keep_ascends (other docs d) 0 its en.ascends;
        loop = holds_keep rb.grows no_5;
        scope = λ y f. branch_stands W N (other docs d) b other_loop vars vb its en.ascends rb no_5 var_5 y f;
      }

      before_a : Small s4 (length s1.tables) (length s4.tables) N
      before_a =
          let l2 = mn.grows.longer in
          let l3 = ra.grows.longer in
          let l1 = my.grows.longer in
          let x = same-length hd.there.rows_are in
          let y = size_values (cell_of W) (value docs d) its in
          let z = values_weigh docs d its in
          let o = own_most docs d its in
          let h = en.enough in
          let x2 = same-length loop_2.rows_are in
          let y2 = size_loop its in
          let z2 = weighs docs d its in
          let m1 : length (at s1 tc).rows ≤ N = omega arith in
          let m2 : length (at s2 looped).rows ≤ N = omega arith in
          small_join (small_keep (grows_trans mn.grows ra.grows) (omega arith) (small_most my.small m1))
          (small_join (small_keep ra.grows (omega arith) (small_most mn.small m2)) (branch_enough W N (chosen docs d) a chosen_loop vars va its en.ascends ra yes_3 var_3 enough_a))

      before_b : Small s6 (length s5.tables) (length s6.tables) N
      before_b = branch_enough W N (other docs d) b other_loop vars vb its en.ascends rb no_5 var_5 enough_b

      if_value : (i : Iter) → ValueAt docs d i → cond (p i) (value docs a i) (value docs b i) ≡ value docs (If d a b) i
      if_value i u =
          ap (λ o. cond (holds (list_of o)) (value docs a i) (value docs b i)) u.1
          ∙ elim (holds u.0) as (λ k. cond k (value docs a i) (value docs b i) ≡ list_of (cond k (val docs a i.env i.vector) (val docs b i.env i.vector))) [ true ↦ refl | false ↦ refl ]
          ∙ sym (ap (λ o. list_of (and_then o (λ v. cond (holds v) (val docs a i.env i.vector) (val docs b i.env i.vector)))) u.1)

      either_known : (js : List Iter) → AllOf (λ i. AllOf (Known docs W) (value docs a i)) (filter p js) → AllOf (λ i. AllOf (Known docs W) (value docs b i)) (filter (λ i. not (p i)) js) → AllOf (λ i. AllOf (Known docs W) (cond (p i) (value docs a i) (value docs b i))) js
      either_known [] ka kb = tt
      either_known (i ∷ js) ka kb = one (p i) (λ x y. either_known js x y) ka kb
        where
          one : (k : Bool) → (AllOf (λ i. AllOf (Known docs W) (value docs a i)) (filter p js) → AllOf (λ i. AllOf (Known docs W) (value docs b i)) (filter (λ i. not (p i)) js) → AllOf (λ i. AllOf (Known docs W) (cond (p i) (value docs a i) (value docs b i))) js)
              → AllOf (λ i. AllOf (Known docs W) (value docs a i)) (cond k (i ∷ filter p js) (filter p js)) → AllOf (λ i. AllOf (Known docs W) (value docs b i)) (cond (not k) (i ∷ filter (λ i. not (p i)) js) (filter (λ i. not (p i)) js)) → AllOf (Known docs W) (cond k (value docs a i) (value docs b i)) × AllOf (λ i. AllOf (Known docs W) (cond (p i) (value docs a i) (value docs b i))) js
          one true r x y = (x.0, r x.1 y)
          one false r x y = (y.0, r x y.1)

      module _ (sa : StandsFor docs W s5 ta (value docs a) (filter (chosen docs d) its)) (sb : StandsFor docs W s7 tb (value docs b) (filter (other docs d) its)) where
        rows_a : Holds s7 ta three (value_rows (cells (cell_of W) (value docs a)) (filter p its))
        rows_a = holds_rows (ap (value_rows (cells (cell_of W) (value docs a))) (sym p_chosen)) (holds_keep lb.chunk.grows (holds_keep rb.grows sa.there))

        rows_b : Holds s7 tb three (value_rows (cells (cell_of W) (value docs b)) (filter (λ i. not (p i)) its))
        rows_b = holds_rows (ap (value_rows (cells (cell_of W) (value docs b))) (sym p_other)) sb.there

        if_there : StandsFor docs W s8 t (value docs (If d a b)) its
        if_there = record {
          there = holds_rows (flat-all _ _ its (all_mono _ _ (λ i (u : ValueAt docs d i). ap (item_rows i.number 1) (one (p i) (value docs a i) (value docs b i) ∙ ap (map (cell_of W)) (if_value i u))) its vd))
              (makes_holds mt (either_stands p (cells (cell_of W) (value docs a)) (cells (cell_of W) (value docs b)) its _ _ rows_a.rows_are rows_b.rows_are));
          known = all_two _ _ _ (λ i (u : ValueAt docs d i) (k : AllOf (Known docs W) (cond (p i) (value docs a i) (value docs b i))). subst (AllOf (Known docs W)) (if_value i u) k) its vd
              (either_known its (subst (AllOf (λ i. AllOf (Known docs W) (value docs a i))) (sym p_chosen) sa.known) (subst (AllOf (λ i. AllOf (Known docs W) (value docs b i))) (sym p_other) sb.known));
        }
          where
            one : (k : Bool) (us vs : Items) → cond k (map (cell_of W) us) (map (cell_of W) vs) ≡ map (cell_of W) (cond k us vs)
            one true us vs = refl
            one false us vs = refl

        after_few : length (at s7 ta).rows + length (at s7 tb).rows ≤ N
        after_few =
            let x = same-length rows_a.rows_are in
            let x2 = size_values (cell_of W) (value docs a) (filter p its) in
            let x3 = values_weigh docs a (filter (chosen docs d) its) in
            let x4 = own_most docs a (filter (chosen docs d) its) in
            let x5 = ap (λ js. total (λ i. length (value docs a i)) js) p_chosen in
            let y = same-length rows_b.rows_are in
            let y2 = size_values (cell_of W) (value docs b) (filter (λ i. not (p i)) its) in
            let y3 = values_weigh docs b (filter (other docs d) its) in
            let y4 = own_most docs b (filter (other docs d) its) in
            let y5 = ap (λ js. total (λ i. length (value docs b i)) js) p_other in
            let h = en.enough in
            omega arith

    pub if_lifts : Lifts docs s s8 n (If d a b) looped vars t
    if_lifts = record {
      chunk = chunk_makes n (n + nodes d + nodes a + nodes b) (n + nodes (If d a b)) (omega arith)
          (chunk_then n (n + nodes d) (n + nodes d + nodes a + nodes b) (omega arith) (omega arith) (chunk_makes n (n + nodes d) (n + nodes d) (omega arith) ld.chunk to_4)
          (chunk_then (n + nodes d) (n + nodes d + nodes a) (n + nodes d + nodes a + nodes b) (omega arith) (omega arith) (chunk_makes (n + nodes d) (n + nodes d + nodes a) (n + nodes d + nodes a) (omega arith) la.chunk rb.grows) lb.chunk)) mt.grows;
      sited = sited_then (sites d) (sites a ++ sites b) ld.chunk.groups (la.chunk.groups ++ lb.chunk.groups) ld.sited (sited_then (sites a) (sites b) la.chunk.groups lb.chunk.groups la.sited lb.sited);
      walked = walked_more (walked_then (walked_more ld.walked (ra.quiet ∙ mn.quiet ∙ my.quiet)) (walked_then (walked_more la.walked rb.quiet) lb.walked)) mt.quiet;
      told = λ W N its en.
          let enough = en.enough in
          let rd = ld.told W N its (record { faithful = en.faithful; numbered = en.numbered.0; enough = omega arith; ascends = en.ascends; loop = en.loop; scope = λ y f. en.scope y (in_left (free d) (union (free a) (free b)) y f) }) in
          let fd = faults docs d its in
          let fa = faults docs a (filter (chosen docs d) its) in
          let fb = faults docs b (filter (other docs d) its) in
          let vd = λ (z : fd ≡ []). no_faults docs d its z in
          let ga = λ (z : fd ≡ []). la.told W N (filter (chosen docs d) its) (enters_a W N its en (vd z) (rd.1 z).0) in
          let gb = λ (z : fd ≡ []). lb.told W N (filter (other docs d) its) (enters_b W N its en (vd z) (rd.1 z).0) in
          let g48 = grows_trans la.chunk.grows (grows_trans rb.grows (grows_trans lb.chunk.grows mt.grows)) in
          let g58 = grows_trans rb.grows (grows_trans lb.chunk.grows mt.grows) in
          let g68 = grows_trans lb.chunk.grows mt.grows in
          let gs = ld.chunk.groups ++ (la.chunk.groups ++ lb.chunk.groups) in (
            tells_upper N s8 (length s.tables) (length s7.tables) (length s8.tables) gs (fd ++ (fa ++ fb))
                (λ z. let k = append_nil fd (fa ++ fb) z in let m = append_nil fa fb k.1 in small_most mt.small (after_few W N its en (vd k.0) (rd.1 k.0).0 ((ga k.0).1 m.0).0 ((gb k.0).1 m.1).0))
                (tells_then N s8 (length s.tables) (length s4.tables) (length s7.tables) (n + nodes d) ld.chunk.groups (la.chunk.groups ++ lb.chunk.groups) fd (fa ++ fb) (chunk_below n (n + nodes d) ld.chunk)
                (all-append _ fa fb (faults_from docs a (n + nodes d) (n + nodes d) (filter (chosen docs d) its) sites_a (omega arith)) (faults_from docs b (n + nodes d) (n + nodes d + nodes a) (filter (other docs d) its) sites_b (omega arith)))
                (tells_upper N s8 (length s.tables) (length s1.tables) (length s4.tables) ld.chunk.groups fd (λ z. small_keep g48 (omega arith) (before_a W N its en (vd z) (rd.1 z).0)) (chunk_told N n (n + nodes d) ld.chunk fd (grows_trans to_4 g48) rd.0))
                (λ z. tells_then N s8 (length s4.tables) (length s6.tables) (length s7.tables) (n + nodes d + nodes a) la.chunk.groups lb.chunk.groups fa fb (chunk_below (n + nodes d) (n + nodes d + nodes a) la.chunk) (faults_from docs b (n + nodes d + nodes a) (n + nodes d + nodes a) (filter (other docs d) its) sites_b (omega arith))
                (tells_upper N s8 (length s4.tables) (length s5.tables) (length s6.tables) la.chunk.groups fa (λ y. small_keep g68 (omega arith) (before_b W N its en (vd z) (rd.1 z).0)) (chunk_told N (n + nodes d) (n + nodes d + nodes a) la.chunk fa g58 (ga z).0))
                (λ y. chunk_told N (n + nodes d + nodes a) (n + nodes d + nodes a + nodes b) lb.chunk fb mt.grows (gb z).0))),
            λ z.
                let k = append_nil fd (fa ++ fb) z in
                let m = append_nil fa fb k.1 in (
                  if_there W N its en (vd k.0) (rd.1 k.0).0 ((ga k.0).1 m.0).0 ((gb k.0).1 m.1).0,
                  all-append _ ld.chunk.notes (la.chunk.notes ++ lb.chunk.notes) (notes_keep docs W ld.chunk.notes (grows_trans to_4 g48) (rd.1 k.0).1)
                      (all-append _ la.chunk.notes lb.chunk.notes (notes_keep docs W la.chunk.notes g58 ((ga k.0).1 m.0).1) (notes_keep docs W lb.chunk.notes mt.grows ((gb k.0).1 m.1).1)),
                ),
          );
    }
