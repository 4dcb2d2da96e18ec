-- What a form makes of inputs with known columns.
use Rattle.std.proofs.Common.{◌≡◌, ℕ, ◌≤◌, ◌<◌, true, List, [], ◌∷◌, length, map, Result, Ok, Err, IfOk, refl, sym, ap, ◌∙◌, subst, arith}
use Rattle.xq_base.specs.Texts.{Text}
use Rattle.doc_table.specs.NodeRules.{Docs}
use Rattle.plan_dag.specs.declared.cols.Col.{Col}
use Rattle.plan_dag.specs.declared.op.OpId.{OpId}
use Rattle.plan_dag.specs.declared.op.Op.{Op}
use Rattle.plan_dag.specs.declared.check.Check.{Check}
use Rattle.plan_dag.specs.Cells.{Rules}
use Rattle.plan_dag.specs.ItemRules.{Cell, item_rules}
use Rattle.plan_dag.specs.Meaning.{Table, Graph, tables}
use Rattle.plan_dag.specs.Schema.{schemas, cols_at}
use Rattle.plan_dag.specs.Graphs.{in_graph}
use Rattle.lift_laws.specs.Sums.{AllOf}
use Rattle.lift_laws.specs.Iterations.{Row}
use Rattle.lift_laws.specs.States.{State, state_of, at, IsIn, Grows, Makes}
use Rattle.lift_laws.proofs.Keeping.{append_none}
use Rattle.lift_prims.specs.Forms.{form_fits, form_cols, FormSmall, form_table, cols_in, FormMade}
use Rattle.lift_prims.specs.Made.{Shaped, rows_in, Rows, Most, Made, tab}
use Rattle.lift_prims.proofs.Making.{cols_are, in_ops, in_tables}
use Rattle.lift_prims.proofs.Bounds.{AllMost, long_rows, small_form}

-- inputs with these columns
abbrev pub AllShaped : Graph → List OpId → List (List Col) → Type 0
AllShaped g [] [] = Unit {0}
AllShaped g [] (c ∷ cs) = ⊥
AllShaped g (i ∷ is) [] = ⊥
AllShaped g (i ∷ is) (c ∷ cs) = Shaped g i c × AllShaped g is cs

pub shaped_there : (g : Graph) (is : List OpId) (cs : List (List Col)) → AllShaped g is cs → AllOf (in_graph g) is
shaped_there g [] cs h = tt
shaped_there g (i ∷ is) [] h = absurd h
shaped_there g (i ∷ is) (c ∷ cs) h = (h.0.0, shaped_there g is cs h.1)

pub shaped_cols : (g : Graph) (is : List OpId) (cs : List (List Col)) → AllShaped g is cs → cols_in g is ≡ cs
shaped_cols g [] [] h = refl
shaped_cols g [] (c ∷ cs) h = absurd h
shaped_cols g (i ∷ is) [] h = absurd h
shaped_cols g (i ∷ is) (c ∷ cs) h = ap (λ x. x ∷ cols_in g is) h.0.1 ∙ ap (λ l. c ∷ l) (shaped_cols g is cs h.1)

-- a form fits over them
pub fits_over_inputs : (g : Graph) (is : List OpId) (cs : List (List Col)) (ops ops' : List Op) → AllShaped g is cs → ops' ≡ ops → form_fits cs ops ≡ true → form_fits (cols_in g is) ops' ≡ true
fits_over_inputs g is cs ops ops' h e f = subst (λ l. form_fits (cols_in g is) l ≡ true) (sym e) (subst (λ c. form_fits c ops ≡ true) (sym (shaped_cols g is cs h)) f)

-- rows for inputs with these columns, and their tables
abbrev pub Inputs : List (List Col) → Type 0
Inputs [] = Unit {0}
Inputs (c ∷ cs) = List Row × Inputs cs

abbrev pub tabs : (cs : List (List Col)) → Inputs cs → List (Table Cell)
tabs [] rs = []
tabs (c ∷ cs) rs = tab c rs.0 ∷ tabs cs rs.1

abbrev pub own_rows : Docs → List Text → Graph → List OpId → (cs : List (List Col)) → Inputs cs
own_rows docs texts g is [] = tt
own_rows docs texts g [] (c ∷ cs) = ([], own_rows docs texts g [] cs)
own_rows docs texts g (i ∷ is) (c ∷ cs) = (rows_in docs texts g i, own_rows docs texts g is cs)

pub tables_are : (docs : Docs) (texts : List Text) (g : Graph) (is : List OpId) (cs : List (List Col)) → AllShaped g is cs → map (at (state_of docs texts g)) is ≡ tabs cs (own_rows docs texts g is cs)
tables_are docs texts g [] [] h = refl
tables_are docs texts g [] (c ∷ cs) h = absurd h
tables_are docs texts g (i ∷ is) [] h = absurd h
tables_are docs texts g (i ∷ is) (c ∷ cs) h =
    let e : (at (state_of docs texts g) i).cols ≡ c = sym (cols_are docs texts g i) ∙ h.0.1 in
    ap (λ x. tab x (rows_in docs texts g i) ∷ map (at (state_of docs texts g)) is) e ∙ ap (λ l. tab c (rows_in docs texts g i) ∷ l) (tables_are docs texts g is cs h.1)

-- what a form's operators make, over inputs with these columns and any rows
pub record Form (cs : List (List Col)) (ops : List Op) (cols : List Col) (rows : Docs → List Text → Inputs cs → List Row) (most : Docs → List Text → Inputs cs → ℕ) : Type 0 where
  pub fits : form_fits cs ops ≡ true
  pub some : 0 < length ops
  pub cols_are : form_cols cs ops ≡ cols
  pub is : (docs : Docs) (texts : List Text) (rs : Inputs cs) → form_table (item_rules docs texts) (tabs cs rs) ops ≡ tab cols (rows docs texts rs)
  pub few : (docs : Docs) (texts : List Text) (rs : Inputs cs) → AllMost (item_rules docs texts) (most docs texts rs) (tabs cs rs) (long_rows (item_rules docs texts) (tabs cs rs)) ops

pub made_by : {g g' : Graph} {is : List OpId} {cs : List (List Col)} {ops ops' : List Op} {cols : List Col} {rows : Docs → List Text → Inputs cs → List Row} {most : Docs → List Text → Inputs cs → ℕ} {t : OpId}
    → Form cs ops cols rows most → AllShaped g is cs → ops' ≡ ops → ((docs : Docs) (texts : List Text) → FormMade (item_rules docs texts) (state_of docs texts g) (state_of docs texts g') is ops' t)
    → Made g g' cols (λ docs texts. rows docs texts (own_rows docs texts g is cs)) (λ docs texts. most docs texts (own_rows docs texts g is cs)) t
made_by {g = g} {g' = g'} {is = is} {cs = cs} {ops = ops} {ops' = ops'} {cols = cols} {rows = rows} {most = most} {t = t} f h same m =
    let makes : (docs : Docs) (texts : List Text) → Makes (state_of docs texts g) (state_of docs texts g') t cols (rows docs texts (own_rows docs texts g is cs)) (most docs texts (own_rows docs texts g is cs)) = λ docs texts.
    let k = subst (λ l. FormMade (item_rules docs texts) (state_of docs texts g) (state_of docs texts g') is l t) same (m docs texts) in
    let e = tables_are docs texts g is cs h in
    record {
      grows = k.grows;
      is_in = k.is_in;
      is = k.is ∙ ap (λ ts. form_table (item_rules docs texts) ts ops) e ∙ f.is docs texts (own_rows docs texts g is cs);
      small =
          k.small (most docs texts (own_rows docs texts g is cs))
          (subst (λ ts. FormSmall (item_rules docs texts) (most docs texts (own_rows docs texts g is cs)) ts ops) (sym e) (small_form (item_rules docs texts) (most docs texts (own_rows docs texts g is cs)) (tabs cs (own_rows docs texts g is cs)) ops (f.few docs texts (own_rows docs texts g is cs))));
      quiet = k.quiet;
    } in
    record { shaped = (in_ops [] [] g' t (makes [] []).is_in, cols_are [] [] g' t ∙ ap (λ (x : Table Cell). x.cols) (makes [] []).is); makes = makes }

pub if_ok : {T E : Type 0} (r : Result T E) (P Q : T → Type 0) → ((t : T) → P t → Q t) → IfOk r P → IfOk r Q
if_ok (Ok x) P Q f h = f x h
if_ok (Err e) P Q f h = tt

pub form_ok : {E : Type 0} (r : Result OpId E) (g g' : Graph) (is : List OpId) {cs : List (List Col)} {ops ops' : List Op} {cols : List Col} {rows : Docs → List Text → Inputs cs → List Row} {most : Docs → List Text → Inputs cs → ℕ}
    → Form cs ops cols rows most → AllShaped g is cs → ops' ≡ ops → IfOk r (λ t. (docs : Docs) → (texts : List Text) → FormMade (item_rules docs texts) (state_of docs texts g) (state_of docs texts g') is ops' t)
    → IfOk r (Made g g' cols (λ docs texts. rows docs texts (own_rows docs texts g is cs)) (λ docs texts. most docs texts (own_rows docs texts g is cs)))
form_ok r g g' is {ops' = ops'} f h same m = if_ok r (λ t. (docs : Docs) → (texts : List Text) → FormMade (item_rules docs texts) (state_of docs texts g) (state_of docs texts g') is ops' t) _ (λ t k. made_by f h same k) m

-- what was there stays
pub shaped_stays : (g g' : Graph) {new : List Check} {i : OpId} {cols : List Col} → Grows (state_of [] [] g) (state_of [] [] g') new → Shaped g i cols → Shaped g' i cols
shaped_stays g g' {i = i} k h =
    let there = in_tables [] [] g i h.0 in
    let l = k.longer in
    (in_ops [] [] g' i (omega arith), cols_are [] [] g' i ∙ ap (λ (x : Table Cell). x.cols) (k.same i there) ∙ sym (cols_are [] [] g i) ∙ h.1)
