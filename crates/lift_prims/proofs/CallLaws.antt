-- Calls that are made by forms, as the laws of calls take them.
use Rattle.std.proofs.Common.{◌≡◌, ℕ, ◌+◌, ◌≤◌, ◌<◌, true, List, [], ◌∷◌, ◌++◌, length, map, Result, Ok, Err, IfOk, refl, sym, ap, ◌∙◌, subst, arith, take}
use Rattle.xq_base.specs.declared.code.Code.{Code}
use Rattle.xq_base.specs.Texts.{Text}
use Rattle.doc_table.specs.NodeRules.{Docs}
use Rattle.plan_dag.specs.declared.cols.Col.{Col}
use Rattle.plan_dag.specs.declared.op.OpId.{OpId}
use Rattle.plan_dag.specs.declared.op.Op.{Op}
use Rattle.plan_dag.specs.declared.check.Check.{Check}
use Rattle.plan_dag.specs.Cells.{Rules}
use Rattle.plan_dag.specs.ItemRules.{Cell, item_rules}
use Rattle.plan_dag.specs.Meaning.{Graph, Table, table_of}
use Rattle.core_meaning.specs.Expr.{Site, Rule}
use Rattle.lift_laws.specs.Sums.{AllOf}
use Rattle.lift_laws.specs.Iterations.{Row}
use Rattle.lift_laws.specs.States.{State, state_of, at, Makes, Checks, single, three}
use Rattle.lift_laws.specs.Shapes.{named_rows}
use Rattle.lift_laws.specs.Stages.{Stages}
use Rattle.lift_laws.specs.Lifting.{CallLifts}
use Rattle.lift_prims.specs.Forms.{form_fits, form_cols, form_table, cols_in, FormSmall, FormMade}
use Rattle.lift_prims.specs.Made.{Shaped, IsLoop, HasItems, rows_in, Rows, Most, Made, tab}
use Rattle.lift_prims.specs.Staging.{CheckedForm, Marks, MarkFits, CallFits, CallMade, FormStages, marked_rows, LiftedCall}
use Rattle.lift_prims.proofs.Bounds.{AllMost, bound_of, long_rows, small_form}
use Rattle.lift_prims.proofs.Over.{AllShaped, shaped_there, shaped_cols, Inputs, tabs, own_rows, tables_are, Form, made_by, shaped_stays, if_ok}
use Rattle.lift_prims.proofs.StageLaws.{stage_of, stage_grows}

abbrev pub RowsOf : List (List Col) → Type 0
RowsOf cs = Docs → List Text → Inputs cs → List Row

abbrev pub MostOf : List (List Col) → Type 0
MostOf cs = Docs → List Text → Inputs cs → ℕ

most_more : (R : Rules Cell) (m n : ℕ) (ts : List (Table Cell)) (bs : List ℕ) (ops : List Op) → m ≤ n → AllMost R m ts bs ops → AllMost R n ts bs ops
most_more R m n ts bs [] l a = tt
most_more R m n ts bs (op ∷ ops) l a = (omega (arith, a.0), most_more R m n (ts ++ table_of R ts op ∷ []) (bs ++ bound_of R ts bs op ∷ []) ops l a.1)

-- a form with a greater bound
pub form_more : {cs : List (List Col)} {ops : List Op} {cols : List Col} {rows : RowsOf cs} {m n : MostOf cs} → Form cs ops cols rows m → ((docs : Docs) (texts : List Text) (rs : Inputs cs) → m docs texts rs ≤ n docs texts rs) → Form cs ops cols rows n
form_more {cs = cs} {ops = ops} {m = m} {n = n} f l = record {
  fits = f.fits;
  some = f.some;
  cols_are = f.cols_are;
  is = f.is;
  few = λ docs texts rs. most_more (item_rules docs texts) (m docs texts rs) (n docs texts rs) (tabs cs rs) (long_rows (item_rules docs texts) (tabs cs rs)) ops (l docs texts rs) (f.few docs texts rs);
}

-- the same form
pub form_at : {cs : List (List Col)} {ops ops' : List Op} {cols : List Col} {rows : RowsOf cs} {m : MostOf cs} → ops' ≡ ops → Form cs ops cols rows m → Form cs ops' cols rows m
form_at {cs = cs} {cols = cols} {rows = rows} {m = m} e f = subst (λ q. Form cs q cols rows m) (sym e) f

-- forms of rows that name iterations, each with its code
abbrev pub MarksAre : (cs : List (List Col)) → Marks → List (Code × RowsOf cs) → MostOf cs → Type 0
MarksAre cs [] [] most = Unit {0}
MarksAre cs [] (f ∷ fs) most = ⊥
MarksAre cs (m ∷ ms) [] most = ⊥
MarksAre cs (m ∷ ms) (f ∷ fs) most = (m.0 ≡ f.0) × Form cs m.1 single f.1 most × MarksAre cs ms fs most

mark_fits : {cs : List (List Col)} {ops : List Op} {rows : RowsOf cs} {most : MostOf cs} → Form cs ops single rows most → MarkFits cs ops
mark_fits f = record { fits = f.fits; some = f.some; columns = f.cols_are }

marks_fit : (cs : List (List Col)) (ms : Marks) (fs : List (Code × RowsOf cs)) (most : MostOf cs) → MarksAre cs ms fs most → AllOf (λ m. MarkFits cs m.1) ms
marks_fit cs [] [] most h = tt
marks_fit cs [] (f ∷ fs) most h = absurd h
marks_fit cs (m ∷ ms) [] most h = absurd h
marks_fit cs (m ∷ ms) (f ∷ fs) most h = (mark_fits h.1, marks_fit cs ms fs most h.2)

-- what a call by forms owes
pub call_fits : (g : Graph) (looped : OpId) (ins : List OpId) {cs : List (List Col)} {values values' : List Op} {ms ms' : Marks} {rows : RowsOf cs} {few : MostOf cs} (fs : List (Code × RowsOf cs)) (most : MostOf cs)
    → Form cs values three rows few → values' ≡ values → MarksAre cs ms fs most → ms' ≡ ms → IsLoop g looped → AllShaped g ins cs → CallFits g looped ins values' ms'
call_fits g looped ins {cs = cs} {values = values} {ms = ms} fs most f e k d l h =
    let c = sym (shaped_cols g ins cs h) in
    record {
      loop = l;
      there = shaped_there g ins cs h;
      fits = subst (λ v. form_fits (cols_in g ins) v ≡ true) (sym e) (subst (λ x. form_fits x values ≡ true) c f.fits);
      some = subst (λ v. 0 < length v) (sym e) f.some;
      marked = subst (λ q. AllOf (λ m. MarkFits (cols_in g ins) m.1) q) (sym d) (subst (λ x. AllOf (λ m. MarkFits x m.1) ms) c (marks_fit cs ms fs most k));
    }

module _ (docs : Docs) (texts : List Text) (cs : List (List Col)) (rs : Inputs cs) where
  abbrev pub named : List (Code × RowsOf cs) → List (Code × List Row)
  named fs = map (λ f. (f.0, f.1 docs texts rs)) fs

  marks_are : (ms : Marks) (fs : List (Code × RowsOf cs)) (most : MostOf cs) → MarksAre cs ms fs most → marked_rows (item_rules docs texts) (tabs cs rs) ms ≡ named fs
  marks_are [] [] most h = refl
  marks_are [] (f ∷ fs) most h = absurd h
  marks_are (m ∷ ms) [] most h = absurd h
  marks_are (m ∷ ms) (f ∷ fs) most h =
      ap (λ c. (c, (form_table (item_rules docs texts) (tabs cs rs) m.1).rows) ∷ marked_rows (item_rules docs texts) (tabs cs rs) ms) h.0
      ∙ ap (λ (t : Table Cell). (f.0, t.rows) ∷ marked_rows (item_rules docs texts) (tabs cs rs) ms) (h.1.is docs texts rs)
      ∙ ap (λ l. (f.0, f.1 docs texts rs) ∷ l) (marks_are ms fs most h.2)

  marks_small : (ms : Marks) (fs : List (Code × RowsOf cs)) (most : MostOf cs) → MarksAre cs ms fs most → AllOf (λ m. FormSmall (item_rules docs texts) (most docs texts rs) (tabs cs rs) m.1) ms
  marks_small [] [] most h = tt
  marks_small [] (f ∷ fs) most h = absurd h
  marks_small (m ∷ ms) [] most h = absurd h
  marks_small (m ∷ ms) (f ∷ fs) most h = (small_form (item_rules docs texts) (most docs texts rs) (tabs cs rs) m.1 (h.1.few docs texts rs), marks_small ms fs most h.2)

-- a call by forms is lifted where a law takes its rows, over texts that go on after the pool
pub call_in : (pool : List Text) {g g' : Graph} (looped : OpId) (ins args : List OpId) (rule : Rule) {offset : ℕ} {t : OpId} {cs : List (List Col)} {values values' : List Op} {ms ms' : Marks} {rows : RowsOf cs} {few : MostOf cs} (fs : List (Code × RowsOf cs)) (most : MostOf cs)
    → Form cs values three rows few → values' ≡ values → MarksAre cs ms fs most → ms' ≡ ms → AllShaped g ins cs
    → ((docs : Docs) (texts : List Text) → length (rows_in docs texts g looped) ≤ most docs texts (own_rows docs texts g ins cs))
    → ((docs : Docs) (texts : List Text) (s1 s2 : State) (site : Site) (t : OpId) (checks : List Check) → take (length pool) texts ≡ pool → Makes (state_of docs texts g) s1 t three (rows docs texts (own_rows docs texts g ins cs)) (few docs texts (own_rows docs texts g ins cs))
    → Stages site (most docs texts (own_rows docs texts g ins cs)) s1 s2 (rows_in docs texts g looped) (named docs texts cs (own_rows docs texts g ins cs) fs) checks → CallLifts docs (state_of docs texts g) s2 site rule looped args t)
    → CallMade g g' looped ins values' ms' offset t → LiftedCall pool g g' rule offset looped args t
call_in pool {g = g} {g' = g'} looped ins args rule {offset = offset} {t = t} {cs = cs} {ms = ms} fs most f e k d h loop_few law c =
    let m = made_by {g = g} {g' = c.between} f h e c.made in
    let st = subst (λ q. FormStages g c.between g' looped ins q offset c.left) d c.stages in
    record {
      shaped = shaped_stays c.between g' (st.after [] []) m.shaped;
      lifts = λ docs texts site p o.
          let own = own_rows docs texts g ins cs in
          let same = tables_are docs texts g ins cs h in
          let few_all = subst (λ ts. AllOf (λ m. FormSmall (item_rules docs texts) (most docs texts own) ts m.1) ms) (sym same) (marks_small docs texts cs own ms fs most k) in
          let q = st.stages docs texts (most docs texts own) site o (loop_few docs texts) few_all in
          let q2 = subst (λ ts. Stages site (most docs texts own) (state_of docs texts c.between) (state_of docs texts g') (rows_in docs texts g looped) (marked_rows (item_rules docs texts) ts ms) st.checks) same q in
          let q3 = subst (λ x. Stages site (most docs texts own) (state_of docs texts c.between) (state_of docs texts g') (rows_in docs texts g looped) x st.checks) (marks_are docs texts cs own ms fs most k) q2 in
          law docs texts (state_of docs texts c.between) (state_of docs texts g') site t st.checks p (m.makes docs texts) q3;
    }

-- the same over any texts
pub call_ok : {E : Type 0} (r : Result OpId E) (g g' : Graph) (looped : OpId) (ins args : List OpId) (rule : Rule) (offset : ℕ) {cs : List (List Col)} {values values' : List Op} {ms ms' : Marks} {rows : RowsOf cs} {few : MostOf cs} (fs : List (Code × RowsOf cs)) (most : MostOf cs)
    → Form cs values three rows few → values' ≡ values → MarksAre cs ms fs most → ms' ≡ ms → IsLoop g looped → AllShaped g ins cs
    → ((docs : Docs) (texts : List Text) → length (rows_in docs texts g looped) ≤ most docs texts (own_rows docs texts g ins cs))
    → ((docs : Docs) (texts : List Text) (s1 s2 : State) (site : Site) (t : OpId) (checks : List Check) → Makes (state_of docs texts g) s1 t three (rows docs texts (own_rows docs texts g ins cs)) (few docs texts (own_rows docs texts g ins cs))
    → Stages site (most docs texts (own_rows docs texts g ins cs)) s1 s2 (rows_in docs texts g looped) (named docs texts cs (own_rows docs texts g ins cs) fs) checks → CallLifts docs (state_of docs texts g) s2 site rule looped args t)
    → IfOk r (CallMade g g' looped ins values' ms' offset) → IfOk r (λ t. (pool : List Text) → LiftedCall pool g g' rule offset looped args t)
call_ok r g g' looped ins args rule offset {values' = values'} {ms' = ms'} fs most f e k d l h loop_few law made =
    if_ok r (CallMade g g' looped ins values' ms' offset) _ (λ t c pool. call_in pool looped ins args rule fs most f e k d h loop_few (λ docs texts s1 s2 site t cs p. law docs texts s1 s2 site t cs) c) made

-- a rule without checks is lifted where a law takes its rows, over texts that go on after the pool
pub plain_in : (pool : List Text) {g g' : Graph} (looped : OpId) (args : List OpId) (rule : Rule) (offset : ℕ) {rows : Rows} {most : Most} {t : OpId}
    → ((docs : Docs) (texts : List Text) (site : Site) → take (length pool) texts ≡ pool → Makes (state_of docs texts g) (state_of docs texts g') t three (rows docs texts) (most docs texts) → CallLifts docs (state_of docs texts g) (state_of docs texts g') site rule looped args t)
    → Made g g' three rows most t → LiftedCall pool g g' rule offset looped args t
plain_in pool looped args rule offset law m = record { shaped = m.shaped; lifts = λ docs texts site p o. law docs texts site p (m.makes docs texts) }

-- the same over any texts
pub plain_ok : {E : Type 0} (r : Result OpId E) (g g' : Graph) (looped : OpId) (args : List OpId) (rule : Rule) {rows : Rows} {most : Most}
    → ((docs : Docs) (texts : List Text) (site : Site) (t : OpId) → Makes (state_of docs texts g) (state_of docs texts g') t three (rows docs texts) (most docs texts) → CallLifts docs (state_of docs texts g) (state_of docs texts g') site rule looped args t)
    → IfOk r (Made g g' three rows most) → IfOk r (λ t. (pool : List Text) → (offset : ℕ) → LiftedCall pool g g' rule offset looped args t)
plain_ok r g g' looped args rule {rows = rows} {most = most} law made = if_ok r (Made g g' three rows most) _ (λ t m pool offset. plain_in pool looped args rule offset (λ docs texts site p. law docs texts site t) m) made

-- a rule with one check, whose value is its argument
pub checked_ok : {g g' : Graph} (looped arg : OpId) (ins args : List OpId) (rule : Rule) {code : Code} {offset : ℕ} {rest : OpId} {cs : List (List Col)} {marks marks' : List Op} {rows : RowsOf cs} {most : MostOf cs}
    → Form cs marks single rows most → marks' ≡ marks → IsLoop g looped → AllShaped g ins cs → HasItems g arg
    → ((docs : Docs) (texts : List Text) → length (rows_in docs texts g looped) ≤ most docs texts (own_rows docs texts g ins cs))
    → ((docs : Docs) (texts : List Text) (s1 s2 : State) (site : Site) (k : OpId) → Makes (state_of docs texts g) s1 k single (named_rows (rows_in docs texts g looped) (rows docs texts (own_rows docs texts g ins cs))) (most docs texts (own_rows docs texts g ins cs))
    → Checks s1 s2 (record { op = k; code = code; offset = site.offset }) → CallLifts docs (state_of docs texts g) s2 site rule looped args arg)
    → CheckedForm g g' looped ins marks' code offset rest → (pool : List Text) → LiftedCall pool g g' rule offset looped args arg
checked_ok {g = g} {g' = g'} looped arg ins args rule {code = code} {offset = offset} {cs = cs} {most = most} f e l h ha loop_few law c pool =
    let m = made_by {g = g} {g' = c.between} f h e c.made in
    record {
      shaped = shaped_stays g g' (stage_grows [] [] g c.between g' l (m.makes [] []) c.checked) ha;
      lifts = λ docs texts site p o.
          let st = stage_of docs texts g c.between g' l (m.makes docs texts) c.checked site (most docs texts (own_rows docs texts g ins cs)) o (omega arith) (loop_few docs texts) in
          law docs texts (state_of docs texts c.checked.mid) (state_of docs texts g') site c.checked.op st.made (subst (λ (n : ℕ). Checks (state_of docs texts c.checked.mid) (state_of docs texts g') (record { op = c.checked.op; code = code; offset = n })) (sym o) st.check);
    }
