-- The case of the induction for a sorted loop: its binds, a check of the keys, and the bodies in the order of the tuples.
use Rattle.std.proofs.Common.{◌≡◌, ℕ, ◌+◌, ◌≤◌, Bool, true, false, cond, not, List, [], ◌∷◌, ◌++◌, length, map, refl, sym, ap, ◌∙◌, subst, inl, arith, Some, None}
use Rattle.std.specs.List.{filter, flat_map}
use Rattle.std.proofs.lemmas.Bool.{and_parts, eqb-true}
use Rattle.std.proofs.Math.Nat.{max-le}
use Rattle.std.specs.Prelude.{nat_eq}
use Rattle.xq_base.specs.declared.code.Code.TheVariants as c
use Rattle.xq_base.specs.Answers.{Answer}
use Rattle.doc_table.specs.Orders.{in_order}
use Rattle.doc_table.specs.Values.{Items}
use Rattle.doc_table.specs.NodeRules.{Docs}
use Rattle.plan_dag.specs.declared.op.OpId.{OpId}
use Rattle.plan_dag.specs.declared.check.Check.{Check}
use Rattle.plan_dag.specs.ItemRules.{Cell}
use Rattle.core_meaning.specs.Expr.{Site, Order, Spine, Sorted}
use Rattle.core_meaning.specs.Meaning.{and_then, value_in, tuples}
use Rattle.core_meaning.specs.Reached.{where_some}
use Rattle.core_meaning.specs.Sorting.{sorted_answer}
use Rattle.core_meaning.specs.Failures.{failure, faults_of}
use Rattle.core_meaning.specs.Lawful.{nodes, nodes_in, is_sited, sited_in}
use Rattle.lift_laws.specs.Sums.{total, AllOf, Ascends, Same}
use Rattle.lift_laws.specs.Iterations.{Iter, num, item_rows, value_rows, loop_rows, cells}
use Rattle.lift_laws.specs.Bulk.{list_of, value, values_of, Fault, fault, own_faults, faults_in, walks_in, sites_in}
use Rattle.lift_laws.specs.Worlds.{World, cell_of, Known}
use Rattle.lift_laws.specs.States.{State, at, IsIn, Small, Grows, Makes, Checks, Holds, HoldAll, StandsFor, three, single}
use Rattle.lift_laws.specs.Sequences.{rows_at}
use Rattle.lift_laws.specs.Lifting.{Walked, Tells, Chunk, first_cells, part_cells, Enters, Lifts}
use Rattle.lift_laws.specs.Tuples.{numbers, keys_in, body_in, tuples_all, tuples_at, tuple_cells, EntersIn, TuplesStand, LiftsIn}
use Rattle.lift_laws.specs.Sorted.{all_unlike, mixed_rows, mixed_most, order_rows, order_most, by_keys_rows, keys_most}
use Rattle.lift_laws.proofs.Multi.{same-length, same-of, same-trans, total-ext}
use Rattle.lift_laws.proofs.Picks.{all_each, all_mono, all-append, all-flat, flat-all, map-flat}
use Rattle.lift_laws.proofs.Values.{all_two, append_nil, flat_nil, Has, no_faults_in}
use Rattle.lift_laws.proofs.Sizes.{size_loop, size_values, weighs, values_weigh}
use Rattle.lift_laws.proofs.Simple.{other_stands}
use Rattle.lift_laws.proofs.ChoiceCase.{keep_same}
use Rattle.lift_laws.proofs.Keeping.{append_none, grows_self, grows_trans, holds_keep, makes_holds, stands_keep, hold_all_keep, notes_keep, sited_then, small_less, small_keep, small_join, small_most, sorted_from, chunk_then, chunk_makes, chunk_told, chunk_below, walked_quiet, walked_then, tells_then}
use Rattle.lift_laws.proofs.Marks.{fault_in, weigh, CodeIn, code_self, exact_keep, rule_tells}
use Rattle.lift_laws.proofs.Cleared.{none_of, cleared_stands}
use Rattle.lift_laws.proofs.FunctionCases.{is_value_of, unmap}
use Rattle.lift_laws.proofs.WeakOrders.{order_hold}
use Rattle.lift_laws.proofs.TupleLists.{tuples_of_all, tuples_ascend, tuples_hold, tuples_picked, tuples_cost, tuples_few, tuple_of, TuplesAre, tuple_values}
use Rattle.lift_laws.proofs.TupleCases.{tuples_size}
use Rattle.lift_laws.proofs.KeyRows.{all_tests, marks_all_unlike}
use Rattle.lift_laws.proofs.KeyCells.{some_unfit, sorted_fails}
use Rattle.lift_laws.proofs.KeyOrders.{as_compared, by_all, sorted_value}
use Rattle.lift_laws.proofs.KeySorts.{AllPicked, AllOnes, sorted_picked, keys_sort, keys_few, bodies_stand}
use Rattle.lift_laws.proofs.SortedKeys.{same_order, tests_are, ones_are, keys_sized, parts_few}

-- a fault by a test
fault_by_test : (b : Bool) (v : Cell → ℕ) (n : ℕ) → cond b (v (num n)) 0 ≡ weigh c.XPTY0004 v n (cond b (Some c.XPTY0004) None)
fault_by_test true v n = sym (ap (λ d. cond d (v (num n)) 0) (code_self c.XPTY0004))
fault_by_test false v n = refl

is_none : (b : Bool) → cond b (Some c.XPTY0004) None ≡ None → b ≡ false
is_none true e = cc
is_none false e = refl

module _ (docs : Docs) {s s1 s2 s3 s4 : State} (n : ℕ) (site : Site) (os : List Order) (sp : Spine) (looped : OpId) (vars : ℕ → OpId) (inner tu : OpId) (keys : List OpId) (body k t : OpId)
    (sited : is_sited n (Sorted site os sp) ≡ true)
    (ls : LiftsIn docs s s1 n sp looped vars inner tu keys body)
    (mk : Makes s1 s2 k single (mixed_rows (at s1 looped).rows (at s1 tu).rows (rows_at s1 keys)) (mixed_most (at s1 looped).rows (at s1 tu).rows (rows_at s1 keys)))
    (ck : Checks s2 s3 (record { op = k; code = c.XPTY0004; offset = site.offset }))
    (mt : Makes s3 s4 t three (order_rows os (at s3 inner).rows (rows_at s3 keys) (at s3 tu).rows (at s3 body).rows) (order_most os (at s3 inner).rows (rows_at s3 keys) (at s3 tu).rows (at s3 body).rows)) where
  abbrev the_check : Check
  the_check = record { op = k; code = c.XPTY0004; offset = site.offset }

  abbrev m : ℕ
  m = n + nodes_in sp

  here : site.number ≡ m
  here = eqb-true site.number m (and_parts (nat_eq site.number m) (sited_in n sp) sited).0

  from_2 : Grows s2 s4 (the_check ∷ [])
  from_2 = grows_trans ck.grows mt.grows

  from_1 : Grows s1 s4 (the_check ∷ [])
  from_1 = grows_trans mk.grows from_2

  lengths : (length s3.tables ≡ length s2.tables) × (length s3.tables ≤ length s4.tables) × (k.0 + 1 ≤ length s2.tables)
  lengths = let a = ck.as_many in let b = mt.grows.longer in let d = mk.is_in in (a, b, omega arith)

  check_is_in : IsIn s4 k
  check_is_in = let l = lengths in let a = l.0 in let b = l.1 in let d = l.2 in omega arith

  abbrev own : Chunk s1 s4 m (m + 1)
  own = record {
    groups = record { site = site; checks = the_check ∷ [] } ∷ [];
    notes = [];
    grows = from_1;
    placed = (((let h = here in omega arith), (let h = here in omega arith), ((check_is_in, refl, refl), tt)), tt);
    coded = ((tt, tt), tt);
  }

  walked : Walked s s4 (ls.chunk.notes ++ []) (walks_in sp)
  walked = subst (λ q. Walked s s4 (ls.chunk.notes ++ []) q) (append_none (walks_in sp)) (walked_then ls.walked (walked_quiet (mt.quiet ∙ ck.quiet ∙ mk.quiet)))

  module _ (W : World) (N : ℕ) (its : List Iter) (en : Enters docs W N s (Sorted site os sp) looped vars its) where
    binds_enter : EntersIn docs W N s sp looped vars its
    binds_enter = let e = en.enough in record { faithful = en.faithful; numbered = en.numbered; enough = omega arith; ascends = en.ascends; loop = en.loop; scope = en.scope }

    module _ (z : faults_in docs sp its ≡ []) (st : TuplesStand docs W s1 sp its inner tu keys body) where
      abbrev all_tuples : List Iter
      all_tuples = tuples_all docs sp its

      abbrev G : Iter → List Iter
      G = tuples_at docs sp its

      abbrev gs : List (Iter → Items)
      gs = values_of docs (keys_in sp)

      abbrev ks : List (Iter → List Cell)
      ks = part_cells docs W (keys_in sp)

      abbrev B : Iter → Items
      B = value docs (body_in sp)

      abbrev answer : Iter → Answer Items
      answer i = sorted_answer os (map (tuple_of docs sp) (G i))

      abbrev unfit_at : Iter → Bool
      unfit_at i = some_unfit B gs (G i)

      tasc : Ascends (λ i. i.number) 0 all_tuples
      tasc = tuples_ascend docs sp its en.ascends z

      picked : AllPicked its all_tuples en.ascends tasc G
      picked = tuples_picked docs sp its en.ascends z

      abbrev TuplesIn : Iter → Type 0
      TuplesIn i = tuples docs sp i.env i.vector ≡ Some (map (tuple_of docs sp) (G i))

      tuples_in : AllOf TuplesIn its
      tuples_in =
          all_two _ _ _ (λ i (u : Has (tuples docs sp i.env i.vector)) (r : TuplesAre docs sp its i). let q : TuplesIn i = u.1 ∙ ap Some (sym (ap list_of u.1) ∙ r) in q) its
          (no_faults_in docs sp its z) (tuple_values docs sp its en.ascends z)

      fails : (i : Iter) → fault_in (answer i) ≡ cond (unfit_at i) (Some c.XPTY0004) None
      fails i = sorted_fails B os gs (G i)

      -- the failures, and the value
      abbrev own_fs : List Fault
      own_fs = flat_map (λ i. map (fault i.number) (faults_of (answer i) (failure site i.vector))) its

      own_are : own_faults docs (Sorted site os sp) its ≡ own_fs
      own_are = flat-all _ _ its (all_mono _ _ (λ i (e : TuplesIn i). ap (λ o. map (fault i.number) (where_some o (λ ts. faults_of (sorted_answer os ts) (failure site i.vector)))) e) its tuples_in)

      value_at : (i : Iter) → TuplesIn i → unfit_at i ≡ false → value docs (Sorted site os sp) i ≡ flat_map B (in_order (by_all os (map as_compared gs)) (G i))
      value_at i e f = ap (λ o. list_of (and_then o (λ ts. value_in (sorted_answer os ts)))) e ∙ ap (λ x. list_of (value_in x)) (sorted_value B os gs (G i) f)

      -- the check
      sizes : length (value_rows (tuple_cells docs sp its) its) ≡ length all_tuples
      sizes = tuples_size docs sp its en.ascends z

      few_tuples : length all_tuples ≤ N
      few_tuples = let a = tuples_few docs sp its in let e = en.enough in omega arith

      few_keys : AllOf (λ (g : Iter → List Cell). total (λ l. length (g l)) all_tuples ≤ N) ks
      few_keys = let a = tuples_cost docs sp its in let e = en.enough in keys_sized docs W all_tuples N (keys_in sp) (omega arith)

      loop_1 : Holds s1 looped single (loop_rows its)
      loop_1 = holds_keep ls.chunk.grows en.loop

      unfit_stand : Same (mixed_rows (at s1 looped).rows (at s1 tu).rows (rows_at s1 keys)) (loop_rows (filter unfit_at its))
      unfit_stand =
          let marks = marks_all_unlike G its (at s1 tu).rows en.ascends st.there.rows_are all_tuples tasc (λ P h. tuples_hold docs P sp its en.ascends z h) s1 keys ks st.by_keys in
          let left = cleared_stands (all_unlike (at s1 tu).rows (rows_at s1 keys)) (all_tests G ks) its (at s1 looped).rows loop_1.rows_are marks in
          same-trans (other_stands (none_of (all_tests G ks)) its (at s1 looped).rows _ en.ascends loop_1.rows_are left)
          (same-of (ap loop_rows (keep_same (λ i. not (none_of (all_tests G ks) i)) unfit_at its (all_each _ (λ i. tests_are W B G gs i) its))))

      small_check : Small s2 (length s1.tables) (length s2.tables) N
      small_check =
          let a = same-length loop_1.rows_are ∙ size_loop its in
          let w = weighs docs (Sorted site os sp) its in
          let e = en.enough in
          let b = same-length st.there.rows_are ∙ sizes in
          let f = few_tuples in
          small_most mk.small (max-le (max-le {a = length (at s1 looped).rows} {b = length (at s1 tu).rows} (omega arith) (omega arith)) (parts_few docs W all_tuples N s1 keys ks st.by_keys few_keys))

      kept_small : Small s4 (length s1.tables) (length s2.tables) N
      kept_small = small_keep from_2 (omega arith) small_check

      abbrev Exact : Check → Type 0
      Exact d = (v : Cell → ℕ) → total v (first_cells (at s4 d.op)) ≡ total (λ i. weigh d.code v i.number (fault_in (answer i))) its

      exact : Exact the_check
      exact v =
          ap (λ q. total v (first_cells q)) (from_2.same k mk.is_in ∙ mk.is)
          ∙ exact_keep unfit_at its _ unfit_stand v
          ∙ total-ext _ _ its (λ i. fault_by_test (unfit_at i) v i.number ∙ ap (weigh c.XPTY0004 v i.number) (sym (fails i)))

      coded : AllOf (λ i. CodeIn (fault_in (answer i)) (the_check ∷ [])) its
      coded = all_each _ (λ i. subst (λ o. CodeIn o (the_check ∷ [])) (sym (fails i)) (one (unfit_at i))) its
        where
          one : (b : Bool) → CodeIn (cond b (Some c.XPTY0004) None) (the_check ∷ [])
          one true = inl refl
          one false = tt

      few_check : Small s4 (length s1.tables) (k.0 + 1) N
      few_check = let l = lengths in let d = l.2 in small_less (omega arith) kept_small

      -- the order, where every key fits
      module _ (y : own_fs ≡ []) where
        all_fit : AllOf (λ i. unfit_at i ≡ false) its
        all_fit = all_mono _ _ (λ i (e : map (fault i.number) (faults_of (answer i) (failure site i.vector)) ≡ []). is_none (unfit_at i) (sym (fails i) ∙ is_value_of (answer i) (failure site i.vector) (unmap (fault i.number) _ e))) its (flat_nil _ its y)

        gather : (P : Iter → Type 0) → AllOf (λ i. AllOf P (G i)) its → AllOf P all_tuples
        gather P h = subst (AllOf P) (sym (tuples_of_all docs sp its en.ascends z)) (all-flat P G its h)

        ones : AllOnes its all_tuples en.ascends tasc (at s3 inner).rows (holds_keep (grows_trans mk.grows ck.grows) st.loop).rows_are G picked ks
        ones = ones_are W B G gs its all_tuples gather all_fit

        abbrev H : Iter → List Iter
        H i = in_order (by_all os (map as_compared ks)) (G i)

        to_3 : Grows s1 s3 (the_check ∷ [])
        to_3 = grows_trans mk.grows ck.grows

        tuples_3 : Same (at s3 tu).rows (value_rows (λ i. numbers (G i)) its)
        tuples_3 = (holds_keep to_3 st.there).rows_are

        loop_3 : Same (at s3 inner).rows (loop_rows all_tuples)
        loop_3 = (holds_keep to_3 st.loop).rows_are

        keys_3 : HoldAll s3 keys ks all_tuples
        keys_3 = hold_all_keep keys ks all_tuples to_3 st.by_keys

        sorted_3 : Same (by_keys_rows os (at s3 inner).rows (rows_at s3 keys) (at s3 tu).rows) (value_rows (λ i. numbers (H i)) its)
        sorted_3 = keys_sort its all_tuples en.ascends tasc (at s3 inner).rows loop_3 G picked os s3 keys ks (at s3 tu).rows keys_3 ones tuples_3

        abbrev Sorted_in : Iter → Type 0
        Sorted_in i = flat_map (λ l. map (cell_of W) (B l)) (H i) ≡ map (cell_of W) (value docs (Sorted site os sp) i)

        sorted_in : AllOf Sorted_in its
        sorted_in =
            all_two _ _ _ (λ i (e : TuplesIn i) (f : unfit_at i ≡ false).
            let q : Sorted_in i = sym (map-flat (cell_of W) B (H i)) ∙ ap (λ ls. map (cell_of W) (flat_map B ls)) (same_order W os gs (G i)) ∙ ap (map (cell_of W)) (sym (value_at i e f)) in q) its tuples_in all_fit

        rows_sorted : Same (order_rows os (at s3 inner).rows (rows_at s3 keys) (at s3 tu).rows (at s3 body).rows) (value_rows (cells (cell_of W) (value docs (Sorted site os sp))) its)
        rows_sorted =
            same-trans (bodies_stand its all_tuples en.ascends tasc (λ l. map (cell_of W) (B l)) H _ (at s3 body).rows (sorted_picked its all_tuples en.ascends tasc G (by_all os (map as_compared ks)) picked) sorted_3 (stands_keep to_3 st.with_body).there.rows_are)
            (same-of (flat-all _ _ its (all_mono _ _ (λ i (e : Sorted_in i). ap (item_rows i.number 1) e) its sorted_in)))

        sorted_stands : StandsFor docs W s4 t (value docs (Sorted site os sp)) its
        sorted_stands = record {
          there = makes_holds mt rows_sorted;
          known = all_two _ _ _ (λ i (e : TuplesIn i × (unfit_at i ≡ false)) (h : AllOf (λ l. AllOf (Known docs W) (B l)) (G i)).
              subst (AllOf (Known docs W)) (sym (value_at i e.0 e.1)) (all-flat (Known docs W) B (in_order (by_all os (map as_compared gs)) (G i)) (order_hold (λ l. AllOf (Known docs W) (B l)) (by_all os (map as_compared gs)) (G i) h))) its
              (all_two _ _ _ (λ i (e : TuplesIn i) (f : unfit_at i ≡ false). let q : TuplesIn i × (unfit_at i ≡ false) = (e, f) in q) its tuples_in all_fit)
              (tuples_hold docs (λ l. AllOf (Known docs W) (B l)) sp its en.ascends z st.with_body.known);
        }

        small_order : Small s4 (length s2.tables) (length s4.tables) N
        small_order =
            let l = lengths in
            let l0 = l.0 in
            let a = same-length loop_3 ∙ size_loop all_tuples in
            let b = same-length tuples_3 ∙ sizes in
            let d = same-length rows_sorted ∙ size_values (cell_of W) (value docs (Sorted site os sp)) its in
            let w = values_weigh docs (Sorted site os sp) its in
            let e = en.enough in
            let f = few_tuples in
            let g : length (at s3 tu).rows ≤ N = omega arith in
            let h = keys_few its all_tuples en.ascends tasc (at s3 inner).rows loop_3 G picked N os s3 keys ks (at s3 tu).rows keys_3 ones tuples_3 few_tuples g few_keys in
            let most = max-le (max-le {a = length (at s3 inner).rows} {b = length (at s3 tu).rows} (omega arith) g) (max-le {a = keys_most os (at s3 inner).rows (rows_at s3 keys) (at s3 tu).rows} h (omega arith)) in
            subst (λ q. Small s4 q (length s4.tables) N) l0 (small_most mt.small most)

      own_told : Tells N s4 (length s1.tables) (length s4.tables) own.groups own_fs
      own_told = rule_tells site answer its N s1 s4 (the_check ∷ []) (exact, tt) coded (few_check, tt) (λ y. small_join kept_small (small_order y))

  pub sorted_lifts : Lifts docs s s4 n (Sorted site os sp) looped vars t
  sorted_lifts = record {
    chunk = chunk_makes n (m + 1) (n + nodes (Sorted site os sp)) (omega arith) (chunk_then n m (m + 1) (omega arith) (omega arith) ls.chunk own) (grows_self s4);
    sited = sited_then (sites_in sp) (site ∷ []) ls.chunk.groups own.groups ls.sited (inl refl, tt);
    walked = walked;
    told = λ W N its en.
        let a = ls.told W N its (binds_enter W N its en) in
        let fs = faults_in docs sp its in
        let os_fs = own_faults docs (Sorted site os sp) its in
        let same = λ (z : fs ≡ []). own_are W N its en z (a.1 z).0 in (
          tells_then N s4 (length s.tables) (length s1.tables) (length s4.tables) m ls.chunk.groups own.groups fs os_fs (chunk_below n m ls.chunk) (sorted_from docs n site os sp its sited)
              (chunk_told N n m ls.chunk fs from_1 a.0)
              (λ z. subst (λ l. Tells N s4 (length s1.tables) (length s4.tables) own.groups l) (sym (same z)) (own_told W N its en z (a.1 z).0)),
          λ z.
              let q = append_nil fs os_fs z in (
                sorted_stands W N its en q.0 (a.1 q.0).0 (sym (same q.0) ∙ q.1),
                all-append _ ls.chunk.notes [] (notes_keep docs W ls.chunk.notes from_1 (a.1 q.0).1) tt,
              ),
        );
  }
