-- A form made operator by operator: what stands after each of them.
use Rattle.std.proofs.Common.{◌≡◌, ℕ, zero, suc, ◌+◌, ◌-◌, ◌<◌, ◌≤◌, Bool, true, false, ◌&&◌, List, [], ◌∷◌, ◌++◌, length, map, refl, sym, ap, ◌∙◌, subst, arith, append_assoc, length-append, slice_index_or, Option, Some, None, nat_le, take, drop, get_or}
use Rattle.std.proofs.lemmas.Bool.{ltb-true, and_parts}
use Rattle.std.proofs.Math.Nat.{max-le}
use Rattle.xq_base.specs.Texts.{Text}
use Rattle.doc_table.specs.NodeRules.{Docs}
use Rattle.plan_dag.specs.declared.cols.Col.{Col}
use Rattle.plan_dag.specs.declared.op.OpId.{OpId}
use Rattle.plan_dag.specs.declared.op.Op.{Op}
use Rattle.plan_dag.specs.Cells.{Rules}
use Rattle.plan_dag.specs.ItemRules.{Cell, item_rules}
use Rattle.plan_dag.specs.Meaning.{Table, Graph, no_table, table_at, table_of, tables, tables_from, input_table, demand_of, extents}
use Rattle.plan_dag.specs.Schema.{columns, fits_columns, schemas, schemas_from, cols_at, input_cols, fits, site_of, site_is_new, is_site, reads_before, fits_over, first_input, second_input, is_valid, is_constructor}
use Rattle.plan_dag.specs.Graphs.{Adds, in_graph}
use Rattle.lift_laws.specs.Sums.{AllOf}
use Rattle.lift_laws.specs.States.{State, state_of, at, IsIn, Small, Grows, Makes}
use Rattle.lift_laws.proofs.Growing.{adds_makes}
use Rattle.lift_laws.proofs.Keeping.{append_none, grows_self, grows_trans, small_none, small_keep, small_join, small_most}
use Rattle.lift_prims.specs.Forms.{is_plain, id_at, placed, form_fits, FormSmall, form_table, form_cols, cols_in, FormMade}
use Rattle.lift_prims.proofs.Twins.{twin, table_same, columns_same, fits_same}

-- lists
map_more : {A B : Type 0} (f : A → B) (xs : List A) (x : A) → map f (xs ++ x ∷ []) ≡ map f xs ++ f x ∷ []
map_more f [] x = refl
map_more f (y ∷ xs) x = ap (λ l. f y ∷ l) (map_more f xs x)

map_alike : {A B : Type 0} (f g : A → B) (xs : List A) → AllOf (λ x. f x ≡ g x) xs → map f xs ≡ map g xs
map_alike f g [] a = refl
map_alike f g (x ∷ xs) a = ap (λ y. y ∷ map f xs) a.0 ∙ ap (λ l. g x ∷ l) (map_alike f g xs a.1)

map_length : {A B : Type 0} (f : A → B) (xs : List A) → length (map f xs) ≡ length xs
map_length f [] = refl
map_length f (x ∷ xs) = ap suc (map_length f xs)

all_more : {A : Type 0} (P : A → Type 0) (xs : List A) (x : A) → AllOf P xs → P x → AllOf P (xs ++ x ∷ [])
all_more P [] x a p = (p, tt)
all_more P (y ∷ xs) x a p = (a.0, all_more P xs x a.1 p)

all_mono : {A : Type 0} (P Q : A → Type 0) (xs : List A) → ((x : A) → P x → Q x) → AllOf P xs → AllOf Q xs
all_mono P Q [] h a = tt
all_mono P Q (y ∷ xs) h a = (h y a.0, all_mono P Q xs h a.1)

-- the columns of the tables are those of the schemas
module _ (R : Rules Cell) where
  abbrev cols_of : List (Table Cell) → List (List Col)
  cols_of ts = map (λ t. t.cols) ts

  get_cols : (ts : List (Table Cell)) (k : ℕ) → slice_index_or (cols_of ts) k [] ≡ (slice_index_or ts k no_table).cols
  get_cols [] k = refl
  get_cols (t ∷ ts) zero = refl
  get_cols (t ∷ ts) (suc k) = get_cols ts k

  input_is : (ts : List (Table Cell)) (i : Option OpId) → input_cols (cols_of ts) i ≡ (input_table R ts i).cols
  input_is ts None = refl
  input_is ts (Some i) = get_cols ts i.0

  columns_are : (ts : List (Table Cell)) (op : Op) → columns (cols_of ts) op ≡ (table_of R ts op).cols
  columns_are ts op =
      ap (λ x. Rattle.plan_dag.specs.Schema.columns_of op x (input_cols (cols_of ts) (second_input op))) (input_is ts (first_input op))
      ∙ ap (λ x. Rattle.plan_dag.specs.Schema.columns_of op (input_table R ts (first_input op)).cols x) (input_is ts (second_input op))

  schemas_are : (ts : List (Table Cell)) (ops : List Op) → schemas_from (cols_of ts) ops ≡ cols_of (tables_from R ts ops)
  schemas_are ts [] = refl
  schemas_are ts (op ∷ ops) =
      ap (λ c. schemas_from (cols_of ts ++ c ∷ []) ops) (columns_are ts op)
      ∙ ap (λ s. schemas_from s ops) (sym (map_more (λ (t : Table Cell). t.cols) ts (table_of R ts op)))
      ∙ schemas_are (ts ++ table_of R ts op ∷ []) ops

  tables_more : (ts : List (Table Cell)) (ops : List Op) (op : Op) → tables_from R ts (ops ++ op ∷ []) ≡ tables_from R ts ops ++ table_of R (tables_from R ts ops) op ∷ []
  tables_more ts [] op = refl
  tables_more ts (p ∷ ops) op = tables_more (ts ++ table_of R ts p ∷ []) ops op

  tables_length : (ts : List (Table Cell)) (ops : List Op) → length (tables_from R ts ops) ≡ length ts + length ops
  tables_length ts [] = omega arith
  tables_length ts (p ∷ ops) = let h = tables_length (ts ++ table_of R ts p ∷ []) ops in let e = length-append ts (table_of R ts p ∷ []) in omega arith

  small_parts : (most : ℕ) (ts : List (Table Cell)) (ops : List Op) (op : Op) → FormSmall R most ts (ops ++ op ∷ []) → FormSmall R most ts ops × (length (table_of R (tables_from R ts ops) op).rows ≤ most)
  small_parts most ts [] op h = (tt, h.0)
  small_parts most ts (p ∷ ops) op h = let r = small_parts most (ts ++ table_of R ts p ∷ []) ops op h.1 in ((h.0, r.0), r.1)

pub cols_are : (docs : Docs) (texts : List Text) (g : Graph) (i : OpId) → cols_at (schemas g.ops) i ≡ (at (state_of docs texts g) i).cols
cols_are docs texts g i = ap (λ s. cols_at s i) (schemas_are (item_rules docs texts) [] g.ops) ∙ get_cols (item_rules docs texts) (tables (item_rules docs texts) g.ops) i.0

pub in_ops : (docs : Docs) (texts : List Text) (g : Graph) (i : OpId) → IsIn (state_of docs texts g) i → in_graph g i
in_ops docs texts g i h = let e = tables_length (item_rules docs texts) [] g.ops in omega arith

pub in_tables : (docs : Docs) (texts : List Text) (g : Graph) (i : OpId) → in_graph g i → IsIn (state_of docs texts g) i
in_tables docs texts g i h = let e = tables_length (item_rules docs texts) [] g.ops in omega arith

-- so far: the form's operators done, those that are left, and what the plan has at the places
pub record Reached (R : Rules Cell) (s s' : State) (ins ids : List OpId) (done : List Op) : Type 0 where
  pub grows : Grows s s' []
  pub quiet : s'.steps ≡ s.steps
  pub tables_are : map (at s') ids ≡ tables_from R (map (at s) ins) done
  pub small : (most : ℕ) → FormSmall R most (map (at s) ins) done → Small s' (length s.tables) (length s'.tables) most

pub record SoFar (g g' : Graph) (ins ids : List OpId) (done rest : List Op) : Type 0 where
  pub there : AllOf (in_graph g') ids
  pub fits : form_fits (cols_in g' ids) rest ≡ true
  pub reached : (docs : Docs) (texts : List Text) → Reached (item_rules docs texts) (state_of docs texts g) (state_of docs texts g') ins ids done

pub begun : (g : Graph) (ins : List OpId) (ops : List Op) → AllOf (in_graph g) ins → form_fits (cols_in g ins) ops ≡ true → SoFar g g ins ins [] ops
begun g ins ops a f = record {
  there = a;
  fits = f;
  reached = λ docs texts. record { grows = grows_self (state_of docs texts g); quiet = refl; tables_are = refl; small = λ most h. small_none (length (state_of docs texts g).tables) most };
}

-- a plain operator has no site
no_site : (ops : List Op) (op : Op) → site_of op ≡ None → site_is_new ops op ≡ true
no_site [] op e = refl
no_site (p ∷ ops) op e = let h = no_site ops op e in grind (arith, e, h)

module _ {g g' : Graph} {ins ids : List OpId} {done rest : List Op} {op : Op} (h : SoFar g g' ins ids done (op ∷ rest)) where
  parts : ((is_plain op ≡ true) × (fits_columns (cols_in g' ids) op ≡ true)) × (form_fits (cols_in g' ids ++ columns (cols_in g' ids) op ∷ []) rest ≡ true)
  parts =
      let a = and_parts (is_plain op && fits_columns (cols_in g' ids) op) (form_fits (cols_in g' ids ++ columns (cols_in g' ids) op ∷ []) rest) h.fits in
      (and_parts (is_plain op) (fits_columns (cols_in g' ids) op) a.0, a.1)

  reads : reads_before (length ids) op ≡ true
  reads =
      let a = and_parts (reads_before (length (cols_in g' ids)) op) (fits_over op (input_cols (cols_in g' ids) (first_input op)) (input_cols (cols_in g' ids) (second_input op))) parts.0.1 in
      subst (λ n. reads_before n op ≡ true) (map_length (cols_at (schemas g'.ops)) ids) a.0

  schemas_long : length (schemas g'.ops) ≡ length g'.ops
  schemas_long =
      let R = item_rules [] [] in
      let e = ap (λ (s : List (List Col)). length s) (schemas_are R [] g'.ops) ∙ map_length (λ (t : Table Cell). t.cols) (tables R g'.ops) ∙ tables_length R [] g'.ops in
      omega arith

  there_too : AllOf (λ (i : OpId). i.0 < length (schemas g'.ops)) ids
  there_too = subst (λ n. AllOf (λ (i : OpId). i.0 < n) ids) (sym schemas_long) h.there

  -- the next operator fits
  pub next_fits : fits g'.ops (placed ids op) ≡ true
  next_fits =
      let a = fits_same (schemas g'.ops) ids there_too op parts.0.0 parts.0.1 in
      let b = no_site g'.ops (placed ids op) (twin ids op parts.0.0).site in
      grind (arith, a, b)

  -- and leads on
  module _ (g2 : Graph) (id : OpId) (valid : is_valid g'.ops ≡ true) (adds : Adds g' (placed ids op) id g2) where
    module _ (docs : Docs) (texts : List Text) where
      abbrev R : Rules Cell
      R = item_rules docs texts

      abbrev s0 : State
      s0 = state_of docs texts g

      abbrev s1 : State
      s1 = state_of docs texts g'

      abbrev s2 : State
      s2 = state_of docs texts g2

      abbrev new : Table Cell
      new = table_of R (tables R g'.ops) (placed ids op)

      makes : Makes s1 s2 id new.cols new.rows (demand_of R (placed ids op) new)
      makes = adds_makes docs texts g' g2 (placed ids op) id valid ((twin ids op parts.0.0).step texts (length g'.ops)) adds

      long : length s1.tables ≡ length g'.ops
      long = let e = tables_length R [] g'.ops in omega arith

      stay : AllOf (λ i. at s2 i ≡ at s1 i) ids
      stay = all_mono (in_graph g') (λ i. at s2 i ≡ at s1 i) ids (λ i l. makes.grows.same i (let e = long in omega arith)) h.there

      old : map (at s2) ids ≡ tables_from R (map (at s0) ins) done
      old = map_alike (at s2) (at s1) ids stay ∙ (h.reached docs texts).tables_are

      new_is : new ≡ table_of R (tables_from R (map (at s0) ins) done) op
      new_is = table_same R (tables R g'.ops) ids op parts.0.0 reads ∙ ap (λ ts. table_of R ts op) (h.reached docs texts).tables_are

      few : (most : ℕ) → length new.rows ≤ most → demand_of R (placed ids op) new ≤ most
      few most l =
          let e : extents R (placed ids op) new.rows ≡ 0 = grind (arith, (twin ids op parts.0.0).plain) in
          max-le l (omega arith)

      go_on : Reached R s0 s2 ins (ids ++ id ∷ []) (done ++ op ∷ [])
      go_on =
          let r = h.reached docs texts in
          record {
            grows = grows_trans r.grows makes.grows;
            quiet = makes.quiet ∙ r.quiet;
            tables_are =
                map_more (at s2) ids id
                ∙ ap (λ l. l ++ at s2 id ∷ []) old
                ∙ ap (λ t. tables_from R (map (at s0) ins) done ++ t ∷ []) (makes.is ∙ new_is)
                ∙ sym (tables_more R (map (at s0) ins) done op);
            small = λ most f.
                let p = small_parts R most (map (at s0) ins) done op f in
                let n : length new.rows ≤ most = subst (λ (t : Table Cell). length t.rows ≤ most) (sym new_is) p.1 in
                small_join (small_keep makes.grows (omega arith) (r.small most p.0)) (small_most makes.small (few most n));
          }

    pub goes_on : SoFar g g2 ins (ids ++ id ∷ []) (done ++ op ∷ []) rest
    goes_on =
        let m = makes [] [] in
        let l = long [] [] in
        let same : AllOf (λ i. cols_at (schemas g2.ops) i ≡ cols_at (schemas g'.ops) i) ids =
        all_mono (λ i. at (s2 [] []) i ≡ at (s1 [] []) i) (λ i. cols_at (schemas g2.ops) i ≡ cols_at (schemas g'.ops) i) ids (λ i e. cols_are [] [] g2 i ∙ ap (λ (t : Table Cell). t.cols) e ∙ sym (cols_are [] [] g' i)) (stay [] []) in
        let own : cols_at (schemas g2.ops) id ≡ columns (cols_in g' ids) op =
        cols_are [] [] g2 id
        ∙ ap (λ (t : Table Cell). t.cols) m.is
        ∙ sym (columns_are (item_rules [] []) (tables (item_rules [] []) g'.ops) (placed ids op))
        ∙ ap (λ s. columns s (placed ids op)) (sym (schemas_are (item_rules [] []) [] g'.ops))
        ∙ columns_same (schemas g'.ops) ids there_too op parts.0.0 reads in
        let cols : cols_in g2 (ids ++ id ∷ []) ≡ cols_in g' ids ++ columns (cols_in g' ids) op ∷ [] =
        map_more (cols_at (schemas g2.ops)) ids id
        ∙ ap (λ l. l ++ cols_at (schemas g2.ops) id ∷ []) (map_alike (cols_at (schemas g2.ops)) (cols_at (schemas g'.ops)) ids same)
        ∙ ap (λ c. cols_in g' ids ++ c ∷ []) own in
        let long2 = tables_length (item_rules [] []) [] g2.ops in
        record {
          there = all_more (in_graph g2) ids id (all_mono (in_graph g') (in_graph g2) ids (λ i k. let u = m.grows.longer in omega arith) h.there) (let u = m.is_in in omega arith);
          fits = subst (λ c. form_fits c rest ≡ true) (sym cols) parts.1;
          reached = go_on;
        }

-- an element of the form
front_of : {X : Type 0} (xs : List X) (i : ℕ) (x : X) → i < length xs → x ≡ get_or xs i x → drop i xs ≡ x ∷ drop (i + 1) xs
front_of [] i x h e = absurd (omega arith)
front_of (y ∷ xs) zero x h e = let z : x ≡ y = e in ap (λ y. y ∷ xs) (sym z)
front_of (y ∷ xs) (suc i) x h e = let n : suc i + 1 ≡ suc (i + 1) = omega arith in front_of xs i x (omega arith) e ∙ ap (λ k. x ∷ drop k (y ∷ xs)) (sym n)

pub done_too : {X : Type 0} (xs : List X) (i : ℕ) (x : X) → i < length xs → x ≡ get_or xs i x → take (i + 1) xs ≡ take i xs ++ x ∷ []
done_too [] i x h e = absurd (omega arith)
done_too (y ∷ xs) zero x h e = let z : x ≡ y = e in ap (λ y. y ∷ []) (sym z)
done_too (y ∷ xs) (suc i) x h e = let n : suc i + 1 ≡ suc (i + 1) = omega arith in ap (λ k. take k (y ∷ xs)) n ∙ ap (λ l. y ∷ l) (done_too xs i x (omega arith) e)

next_is : {g g' : Graph} {ins ids : List OpId} (ops : List Op) (i : ℕ) (op : Op) → i < length ops → op ≡ get_or ops i op → SoFar g g' ins ids (take i ops) (drop i ops) → SoFar g g' ins ids (take i ops) (op ∷ drop (i + 1) ops)
next_is {g = g} {g' = g'} {ins = ins} {ids = ids} ops i op l e h = subst (λ r. SoFar g g' ins ids (take i ops) r) (front_of ops i op l e) h

pub turn_fits : {g g' : Graph} {ins ids : List OpId} (ops : List Op) (i : ℕ) (op put : Op) → i < length ops → op ≡ get_or ops i op → put ≡ placed ids op → SoFar g g' ins ids (take i ops) (drop i ops) → fits g'.ops put ≡ true
turn_fits {g' = g'} ops i op put l e n h = subst (λ q. fits g'.ops q ≡ true) (sym n) (next_fits (next_is ops i op l e h))

pub turn_done : {g g' g2 : Graph} {ins ids : List OpId} (ops : List Op) (i : ℕ) (op put : Op) (id : OpId) → i < length ops → op ≡ get_or ops i op → put ≡ placed ids op → is_valid g'.ops ≡ true → Adds g' put id g2
    → (ids2 : List OpId) → ids2 ≡ ids ++ id ∷ [] → SoFar g g' ins ids (take i ops) (drop i ops) → SoFar g g2 ins ids2 (take (i + 1) ops) (drop (i + 1) ops)
turn_done {g = g} {g' = g'} {g2 = g2} {ins = ins} {ids = ids} ops i op put id l e n v a ids2 q h =
    subst (λ k. SoFar g g2 ins k (take (i + 1) ops) (drop (i + 1) ops)) (sym q) (subst (λ d. SoFar g g2 ins (ids ++ id ∷ []) d (drop (i + 1) ops)) (sym (done_too ops i op l e)) (goes_on (next_is ops i op l e h) g2 id v (subst (λ q. Adds g' q id g2) n a)))

-- at the end
last_get : {A B : Type 0} (f : A → B) (xs : List A) (k : ℕ) (d : A) (e : B) → k < length xs → slice_index_or (map f xs) k e ≡ f (slice_index_or xs k d)
last_get f [] k d e l = absurd (omega arith)
last_get f (x ∷ xs) zero d e l = refl
last_get f (x ∷ xs) (suc k) d e l = last_get f xs k d e (omega arith)

all_at : (P : OpId → Type 0) (xs : List OpId) (k : ℕ) (d : OpId) → AllOf P xs → k < length xs → P (slice_index_or xs k d)
all_at P [] k d a l = absurd (omega arith)
all_at P (x ∷ xs) zero d a l = a.0
all_at P (x ∷ xs) (suc k) d a l = all_at P xs k d a.1 (omega arith)

pub long_enough : {g g' : Graph} {ins ids : List OpId} {done rest : List Op} → SoFar g g' ins ids done rest → length ids ≡ length ins + length done
long_enough {g = g} {g' = g'} {ins = ins} {ids = ids} {done = done} h =
    let r = h.reached [] [] in
    let a = map_length (at (state_of [] [] g')) ids in
    let b = map_length (at (state_of [] [] g)) ins in
    let c = ap (λ (l : List (Table Cell)). length l) r.tables_are in
    let d = tables_length (item_rules [] []) (map (at (state_of [] [] g)) ins) done in
    omega arith

pub is_made : {g g' : Graph} {ins ids : List OpId} {done rest : List Op} → SoFar g g' ins ids done rest → 0 < length done → (d : OpId)
    → (docs : Docs) (texts : List Text) → FormMade (item_rules docs texts) (state_of docs texts g) (state_of docs texts g') ins done (slice_index_or ids (length ids - 1) d)
is_made {g = g} {g' = g'} {ins = ins} {ids = ids} {done = done} h some d docs texts =
    let R = item_rules docs texts in
    let r = h.reached docs texts in
    let n = long_enough h in
    let m = map_length (at (state_of docs texts g)) ins in
    let l = tables_length R [] g'.ops in
    let same : length ids - 1 ≡ length (map (at (state_of docs texts g)) ins) + length done - 1 = omega arith in
    record {
      grows = r.grows;
      is_in = let i = all_at (in_graph g') ids (length ids - 1) d h.there (omega arith) in omega arith;
      is =
          sym (last_get (at (state_of docs texts g')) ids (length ids - 1) d no_table (omega arith))
          ∙ ap (λ ts. slice_index_or ts (length ids - 1) no_table) r.tables_are
          ∙ ap (λ k. slice_index_or (tables_from R (map (at (state_of docs texts g)) ins) done) k no_table) same;
      small = r.small;
      quiet = r.quiet;
    }

pub take_all : {X : Type 0} (xs : List X) (i : ℕ) → length xs ≤ i → take i xs ≡ xs
take_all [] zero l = refl
take_all [] (suc i) l = refl
take_all (x ∷ xs) zero l = absurd (omega arith)
take_all (x ∷ xs) (suc i) l = ap (λ l. x ∷ l) (take_all xs i (omega arith))

pub all_done : {g g' : Graph} {ins ids : List OpId} (ops : List Op) (i : ℕ) → length ops ≤ i → SoFar g g' ins ids (take i ops) (drop i ops) → SoFar g g' ins ids ops (drop i ops)
all_done {g = g} {g' = g'} {ins = ins} {ids = ids} ops i l h = subst (λ d. SoFar g g' ins ids d (drop i ops)) (take_all ops i l) h

pub at_end : {g g' : Graph} {ins ids : List OpId} (ops : List Op) (i : ℕ) → length ops ≤ i → 0 < length ops → SoFar g g' ins ids (take i ops) (drop i ops) → 1 ≤ length ids
at_end ops i l some h = let e = long_enough (all_done ops i l h) in omega arith

pub last_made : {g g' : Graph} {ins ids : List OpId} (ops : List Op) (i n : ℕ) (t : OpId) → length ops ≤ i → 0 < length ops → n ≡ length ids → t ≡ get_or ids (n - 1) t → SoFar g g' ins ids (take i ops) (drop i ops)
    → (docs : Docs) (texts : List Text) → FormMade (item_rules docs texts) (state_of docs texts g) (state_of docs texts g') ins ops t
last_made {g = g} {g' = g'} {ins = ins} {ids = ids} ops i n t l some e is h docs texts =
    let m = is_made (all_done ops i l h) some t docs texts in
    let same : get_or ids (length ids - 1) t ≡ t = ap (λ k. get_or ids (k - 1) t) (sym e) ∙ sym is in
    subst (λ k. FormMade (item_rules docs texts) (state_of docs texts g) (state_of docs texts g') ins ops k) same m

-- the columns of what a form makes
pub form_cols_are : (g g' : Graph) {ins : List OpId} {ops : List Op} {t : OpId} → FormMade (item_rules [] []) (state_of [] [] g) (state_of [] [] g') ins ops t → cols_at (schemas g'.ops) t ≡ form_cols (cols_in g ins) ops
form_cols_are g g' {ins = ins} {ops = ops} {t = t} m =
    let R = item_rules [] [] in
    let ts = map (at (state_of [] [] g)) ins in
    let a = map_length (at (state_of [] [] g)) ins in
    let b = map_length (cols_at (schemas g.ops)) ins in
    let n : length ts + length ops - 1 ≡ length (cols_in g ins) + length ops - 1 = omega arith in
    let same : cols_of R ts ≡ cols_in g ins = cols_too g ins in
    cols_are [] [] g' t
    ∙ ap (λ (x : Table Cell). x.cols) m.is
    ∙ sym (get_cols R (tables_from R ts ops) (length ts + length ops - 1))
    ∙ ap (λ s. slice_index_or s (length ts + length ops - 1) []) (sym (schemas_are R ts ops))
    ∙ ap (λ s. slice_index_or (schemas_from s ops) (length ts + length ops - 1) []) same
    ∙ ap (λ k. slice_index_or (schemas_from (cols_in g ins) ops) k []) n
  where
    cols_too : (g : Graph) (ins : List OpId) → map (λ (x : Table Cell). x.cols) (map (at (state_of [] [] g)) ins) ≡ cols_in g ins
    cols_too g [] = refl
    cols_too g (i ∷ is) = ap (λ x. x ∷ map (λ (x : Table Cell). x.cols) (map (at (state_of [] [] g)) is)) (sym (cols_are [] [] g i)) ∙ ap (λ l. cols_at (schemas g.ops) i ∷ l) (cols_too g is)
