-- A plan's state when an operator is handed in: its table is there, and nothing else changes.
use Rattle.std.proofs.Common.{◌≡◌, ℕ, zero, suc, ◌+◌, ◌<◌, ◌≤◌, true, List, [], ◌∷◌, ◌++◌, length, refl, sym, ap, ◌∙◌, subst, ⊎_elim, arith, append_assoc, length-append, slice_get, slice_index_or, Option, Some, None}
use Rattle.std.proofs.lemmas.Bool.{ltb-true, and_parts}
use Rattle.std.proofs.Math.Nat.{max-le}
use lib.ListN.{get_or-append}
use Rattle.xq_base.specs.declared.axis.Axis.{Axis}
use Rattle.xq_base.specs.declared.axis.NodeTest.{NodeTest}
use Rattle.xq_base.specs.Texts.{Text}
use Rattle.doc_table.specs.NodeRules.{Docs}
use Rattle.plan_dag.specs.declared.cols.Col.{Col}
use Rattle.plan_dag.specs.declared.op.OpId.{OpId}
use Rattle.plan_dag.specs.declared.op.Op.{Op}
use Rattle.plan_dag.specs.declared.op.Op.TheVariants as o
use Rattle.plan_dag.specs.declared.check.Check.{Check}
use Rattle.plan_dag.specs.Cells.{Rules}
use Rattle.plan_dag.specs.ItemRules.{Cell, item_rules}
use Rattle.plan_dag.specs.Meaning.{Table, Graph, no_table, table_at, table_of, table_over, input_table, tables, tables_from, demand_of}
use Rattle.plan_dag.specs.Schema.{first_input, second_input, stands_before, reads_before, fits, fits_over, fits_columns, input_cols, site_is_new, schemas, schemas_from, columns, valid_from, is_valid}
use Rattle.plan_dag.specs.Graphs.{Adds, in_graph, with_op, with_check}
use Rattle.lift_laws.specs.States.{StepAt, at, IsIn, Small, state_of, demands_of, step_at, steps_from, op_id, demand_at, Grows, Makes, Checks}
use Rattle.lift_laws.specs.Walks.{walk_test, MakesStep}
use Rattle.lift_laws.proofs.Keeping.{append_none, grows_self, small_none, small_most}

get_length : {A : Type 0} (xs : List A) (k : ℕ) (x : A) → slice_get xs k ≡ Some x → k < length xs
get_length [] k x e = cc
get_length (y ∷ xs) zero x e = omega arith
get_length (y ∷ xs) (suc k) x e = let h = get_length xs k x e in omega arith

last_of : {A : Type 0} (xs : List A) (x d : A) → slice_index_or (xs ++ x ∷ []) (length xs) d ≡ x
last_of [] x d = refl
last_of (y ∷ xs) x d = last_of xs x d

one_longer : {A : Type 0} (xs : List A) (x : A) → length (xs ++ x ∷ []) ≡ length xs + 1
one_longer xs x = length-append xs (x ∷ [])

module _ (R : Rules Cell) where
  tables_more : (ts : List (Table Cell)) (ops : List Op) (op : Op) → tables_from R ts (ops ++ op ∷ []) ≡ tables_from R ts ops ++ table_of R (tables_from R ts ops) op ∷ []
  tables_more ts [] op = refl
  tables_more ts (p ∷ ops) op = tables_more (ts ++ table_of R ts p ∷ []) ops op

  tables_length : (ts : List (Table Cell)) (ops : List Op) → length (tables_from R ts ops) ≡ length ts + length ops
  tables_length ts [] = omega arith
  tables_length ts (p ∷ ops) = let h = tables_length (ts ++ table_of R ts p ∷ []) ops in let e = one_longer ts (table_of R ts p) in omega arith

  demands_more : (ops : List Op) (ts : List (Table Cell)) (op : Op) (t : Table Cell) → length ts ≡ length ops → demands_of R (ops ++ op ∷ []) (ts ++ t ∷ []) ≡ demands_of R ops ts ++ demand_of R op t ∷ []
  demands_more [] [] op t e = refl
  demands_more [] (u ∷ ts) op t e = absurd (omega arith)
  demands_more (p ∷ ops) [] op t e = absurd (omega arith)
  demands_more (p ∷ ops) (u ∷ ts) op t e = ap (λ l. demand_of R p u ∷ l) (demands_more ops ts op t (omega arith))

  demands_length : (ops : List Op) (ts : List (Table Cell)) → length ts ≡ length ops → length (demands_of R ops ts) ≡ length ops
  demands_length [] ts e = refl
  demands_length (p ∷ ops) [] e = absurd (omega arith)
  demands_length (p ∷ ops) (u ∷ ts) e = let h = demands_length ops ts (omega arith) in omega arith

  -- earlier tables stay
  kept : (ts : List (Table Cell)) (ops : List Op) (i : ℕ) → i < length ts → slice_index_or (tables_from R ts ops) i no_table ≡ slice_index_or ts i no_table
  kept ts [] i l = refl
  kept ts (p ∷ ops) i l = let e = one_longer ts (table_of R ts p) in kept (ts ++ table_of R ts p ∷ []) ops i (omega arith) ∙ get_or-append ts (table_of R ts p ∷ []) no_table i l

  input_kept : (ts : List (Table Cell)) (ops : List Op) (i : Option OpId) → stands_before (length ts) i ≡ true → input_table R (tables_from R ts ops) i ≡ input_table R ts i
  input_kept ts ops None h = refl
  input_kept ts ops (Some i) h = kept ts ops i.0 (ltb-true i.0 (length ts) h)

  -- an operator's table is the one that it would have at the end
  table_kept : (ts : List (Table Cell)) (ops : List Op) (op : Op) → reads_before (length ts) op ≡ true → table_of R (tables_from R ts ops) op ≡ table_of R ts op
  table_kept ts ops op h =
      let p = and_parts (stands_before (length ts) (first_input op)) (stands_before (length ts) (second_input op)) h in
      ap (λ t. table_over R op t (input_table R (tables_from R ts ops) (second_input op))) (input_kept ts ops (first_input op) p.0)
      ∙ ap (λ t. table_over R op (input_table R ts (first_input op)) t) (input_kept ts ops (second_input op) p.1)

schemas_length : (s : List (List Col)) (ops : List Op) → length (schemas_from s ops) ≡ length s + length ops
schemas_length s [] = omega arith
schemas_length s (p ∷ ops) = let h = schemas_length (s ++ columns s p ∷ []) ops in let e = one_longer s (columns s p) in omega arith

fits_reads : (done : List Op) (op : Op) → fits done op ≡ true → reads_before (length done) op ≡ true
fits_reads done op h =
    let p = and_parts (fits_columns (schemas done) op) (site_is_new done op) h in
    let q = and_parts (reads_before (length (schemas done)) op) (fits_over op (input_cols (schemas done) (first_input op)) (input_cols (schemas done) (second_input op))) p.0 in
    let e : length (schemas done) ≡ length done = (let l = schemas_length [] done in omega arith) in
    subst (λ n. reads_before n op ≡ true) e q.0

module _ (R : Rules Cell) where
  found_from : (ts : List (Table Cell)) (done ops : List Op) (k : ℕ) (op : Op) → length ts ≡ length done → valid_from done ops ≡ true → slice_get ops k ≡ Some op → slice_index_or (tables_from R ts ops) (length ts + k) no_table ≡ table_of R (tables_from R ts ops) op
  found_from ts done [] k op e v g = cc
  found_from ts done (p ∷ ops) zero op e v g =
      let same : p ≡ op = cc in
      let w = and_parts (fits done p) (valid_from (done ++ p ∷ []) ops) v in
      let rb : reads_before (length ts) p ≡ true = subst (λ n. reads_before n p ≡ true) (sym e) (fits_reads done p w.0) in
      let l = one_longer ts (table_of R ts p) in
      let z : length ts + 0 ≡ length ts = omega arith in
      ap (λ n. slice_index_or (tables_from R ts (p ∷ ops)) n no_table) z
      ∙ kept R (ts ++ table_of R ts p ∷ []) ops (length ts) (omega arith)
      ∙ last_of ts (table_of R ts p) no_table
      ∙ sym (table_kept R ts (p ∷ ops) p rb)
      ∙ ap (table_of R (tables_from R ts (p ∷ ops))) same
  found_from ts done (p ∷ ops) (suc k) op e v g =
      let w = and_parts (fits done p) (valid_from (done ++ p ∷ []) ops) v in
      let l = one_longer ts (table_of R ts p) in
      let m = one_longer done p in
      let z : length ts + suc k ≡ length (ts ++ table_of R ts p ∷ []) + k = omega arith in
      ap (λ n. slice_index_or (tables_from R ts (p ∷ ops)) n no_table) z
      ∙ found_from (ts ++ table_of R ts p ∷ []) (done ++ p ∷ []) ops k op (omega arith) w.1 g

  -- in a valid plan each operator's table is made of the tables of all
  pub found : (ops : List Op) (k : ℕ) (op : Op) → is_valid ops ≡ true → slice_get ops k ≡ Some op → table_at (tables R ops) (op_id k) ≡ table_of R (tables R ops) op
  found ops k op v g = let z : 0 + k ≡ k = omega arith in sym (ap (λ n. slice_index_or (tables R ops) n no_table) z) ∙ found_from [] [] ops k op refl v g

steps_more : (texts : List Text) (n : ℕ) (ops : List Op) (op : Op) → steps_from texts n (ops ++ op ∷ []) ≡ steps_from texts n ops ++ step_at texts (n + length ops) op
steps_more texts n [] op = let z : n ≡ n + 0 = omega arith in append_none (step_at texts n op) ∙ ap (λ m. step_at texts m op) z
steps_more texts n (p ∷ ops) op =
    let z : n + 1 + length ops ≡ n + length (p ∷ ops) = omega arith in
    ap (λ l. step_at texts n p ++ l) (steps_more texts (n + 1) ops op)
    ∙ sym (append_assoc (step_at texts n p) (steps_from texts (n + 1) ops) (step_at texts (n + 1 + length ops) op))
    ∙ ap (λ m. (step_at texts n p ++ steps_from texts (n + 1) ops) ++ step_at texts m op) z

module _ (docs : Docs) (texts : List Text) where
  abbrev R : Rules Cell
  R = item_rules docs texts

  pub many : (g : Graph) → length (tables R g.ops) ≡ length g.ops
  many g = let h = tables_length R [] g.ops in omega arith

  -- a new operator
  pub grows_op : (g : Graph) (op : Op) → Grows (state_of docs texts g) (state_of docs texts (with_op op g)) []
  grows_op g op =
      let t = table_of R (tables R g.ops) op in
      let more = tables_more R [] g.ops op in
      let m = many g in
      let dl = demands_length R g.ops (tables R g.ops) m in
      let l = ap (λ ts. length ts) more ∙ one_longer (tables R g.ops) t in
      record {
        longer = omega arith;
        same = λ i h. ap (λ ts. slice_index_or ts i.0 no_table) more ∙ get_or-append (tables R g.ops) (t ∷ []) no_table i.0 h;
        same_demand = λ i h.
            ap (λ ts. slice_index_or (demands_of R (g.ops ++ op ∷ []) ts) i 0) more
            ∙ ap (λ ds. slice_index_or ds i 0) (demands_more R g.ops (tables R g.ops) op t m)
            ∙ get_or-append (demands_of R g.ops (tables R g.ops)) (demand_of R op t ∷ []) 0 i (omega arith);
        checks = sym (append_none g.checks);
      }

  -- its table and its demand
  abbrev new_id : Graph → OpId
  new_id g = op_id (length g.ops)

  op_there : (g : Graph) (op : Op) → IsIn (state_of docs texts (with_op op g)) (new_id g) × (at (state_of docs texts (with_op op g)) (new_id g) ≡ table_of R (tables R g.ops) op)
      × Small (state_of docs texts (with_op op g)) (length (tables R g.ops)) (length (tables R (g.ops ++ op ∷ []))) (demand_of R op (table_of R (tables R g.ops) op))
  op_there g op =
      let t = table_of R (tables R g.ops) op in
      let more = tables_more R [] g.ops op in
      let m = many g in
      let dl = demands_length R g.ops (tables R g.ops) m in
      let l = ap (λ ts. length ts) more ∙ one_longer (tables R g.ops) t in
      let last : demand_at (state_of docs texts (with_op op g)) (length g.ops) ≡ demand_of R op t =
      ap (λ ts. slice_index_or (demands_of R (g.ops ++ op ∷ []) ts) (length g.ops) 0) more
      ∙ ap (λ ds. slice_index_or ds (length g.ops) 0) (demands_more R g.ops (tables R g.ops) op t m)
      ∙ ap (λ n. slice_index_or (demands_of R g.ops (tables R g.ops) ++ demand_of R op t ∷ []) n 0) (sym dl)
      ∙ last_of (demands_of R g.ops (tables R g.ops)) (demand_of R op t) 0 in (
        omega arith,
        ap (λ ts. slice_index_or ts (length g.ops) no_table) more ∙ ap (λ n. slice_index_or (tables R g.ops ++ t ∷ []) n no_table) (sym m) ∙ last_of (tables R g.ops) t no_table,
        record {
          each = λ i a b.
              let e : length g.ops ≡ i = omega arith in
              subst (λ n. demand_at (state_of docs texts (with_op op g)) n ≤ demand_of R op t) e (subst (λ d. d ≤ demand_of R op t) (sym last) (omega arith));
        },
      )

  zero_plus : (n : ℕ) → 0 + n ≡ n
  zero_plus n = omega arith

  steps_then : (g : Graph) (op : Op) → steps_from texts 0 (g.ops ++ op ∷ []) ≡ steps_from texts 0 g.ops ++ step_at texts (length g.ops) op
  steps_then g op = steps_more texts 0 g.ops op ∙ ap (λ n. steps_from texts 0 g.ops ++ step_at texts n op) (zero_plus (length g.ops))

  pub makes_op : (g : Graph) (op : Op) → step_at texts (length g.ops) op ≡ [] → Makes (state_of docs texts g) (state_of docs texts (with_op op g)) (op_id (length g.ops)) (table_of R (tables R g.ops) op).cols (table_of R (tables R g.ops) op).rows (demand_of R op (table_of R (tables R g.ops) op))
  makes_op g op q =
      let h = op_there g op in
      record { grows = grows_op g op; is_in = h.0; is = h.1; small = h.2; quiet = steps_then g op ∙ ap (λ l. steps_from texts 0 g.ops ++ l) q ∙ append_none (steps_from texts 0 g.ops) }

  -- a step is always a new one
  module _ (g g' : Graph) (i : OpId) (axis : Axis) (wanted : NodeTest) (site offset : ℕ) (it v : Col) (id : OpId) where
    abbrev step_op : Op
    step_op = o.Step i axis wanted site offset it v

    abbrev the_step : OpId → StepAt
    the_step k = record { step = record { site = record { number = site; offset = offset }; axis = axis; test = walk_test texts wanted }; input = i; op = k }

    abbrev table : Table Cell
    table = table_of R (tables R g.ops) (o.Step i axis wanted site offset it v)

    makes_new : MakesStep (state_of docs texts g) (state_of docs texts (with_op step_op g)) (the_step (op_id (length g.ops))) table.cols table.rows
    makes_new =
        let h = op_there g step_op in
        let few : demand_of R step_op table ≤ length table.rows = max-le (omega arith) (omega arith) in
        record { grows = grows_op g step_op; is_in = h.0; is = h.1; small = small_most h.2 few; added = steps_then g step_op }

    pub step_makes : Adds g step_op id g' → MakesStep (state_of docs texts g) (state_of docs texts g') (the_step id) table.cols table.rows
    step_makes a =
        ⊎_elim (λ h. let z = h.1 in cc) (λ h.
        subst (λ k. MakesStep (state_of docs texts g) (state_of docs texts k) (the_step id) table.cols table.rows) (sym h.2)
        (subst (λ k. MakesStep (state_of docs texts g) (state_of docs texts (with_op step_op g)) (the_step (op_id k)) table.cols table.rows) (sym h.1) makes_new)) a.1

  -- an operator that was there, or a new one
  pub adds_makes : (g g' : Graph) (op : Op) (id : OpId) → is_valid g.ops ≡ true → step_at texts (length g.ops) op ≡ [] → Adds g op id g' → Makes (state_of docs texts g) (state_of docs texts g') id (table_of R (tables R g.ops) op).cols (table_of R (tables R g.ops) op).rows (demand_of R op (table_of R (tables R g.ops) op))
  adds_makes g g' op id v q a = ⊎_elim (λ h. old h.0) (λ h. new h.1 h.2) a.1
    where
      old : g' ≡ g → Makes (state_of docs texts g) (state_of docs texts g') id (table_of R (tables R g.ops) op).cols (table_of R (tables R g.ops) op).rows (demand_of R op (table_of R (tables R g.ops) op))
      old e =
          let at_id : slice_get g.ops id.0 ≡ Some op = subst (λ (k : Graph). slice_get k.ops id.0 ≡ Some op) e a.0 in
          let l = get_length g.ops id.0 op at_id in
          let m = many g in
          subst (λ k. Makes (state_of docs texts g) (state_of docs texts k) id (table_of R (tables R g.ops) op).cols (table_of R (tables R g.ops) op).rows (demand_of R op (table_of R (tables R g.ops) op))) (sym e)
          (record {
            grows = grows_self (state_of docs texts g);
            is_in = omega arith;
            is = found R g.ops id.0 op v at_id;
            small = small_none (length (tables R g.ops)) (demand_of R op (table_of R (tables R g.ops) op));
            quiet = refl;
          })

      new : id.0 ≡ length g.ops → g' ≡ with_op op g → Makes (state_of docs texts g) (state_of docs texts g') id (table_of R (tables R g.ops) op).cols (table_of R (tables R g.ops) op).rows (demand_of R op (table_of R (tables R g.ops) op))
      new n e =
          subst (λ k. Makes (state_of docs texts g) (state_of docs texts k) id (table_of R (tables R g.ops) op).cols (table_of R (tables R g.ops) op).rows (demand_of R op (table_of R (tables R g.ops) op))) (sym e)
          (subst (λ k. Makes (state_of docs texts g) (state_of docs texts (with_op op g)) (op_id k) (table_of R (tables R g.ops) op).cols (table_of R (tables R g.ops) op).rows (demand_of R op (table_of R (tables R g.ops) op))) (sym n) (makes_op g op q))

  pub check_adds : (g : Graph) (c : Check) → in_graph g c.op → Checks (state_of docs texts g) (state_of docs texts (with_check c g)) c
  check_adds g c h = record {
    grows = record { longer = omega arith; same = λ i l. refl; same_demand = λ i l. refl; checks = refl };
    as_many = refl;
    is_in = (let m = many g in omega arith);
    quiet = refl;
  }
