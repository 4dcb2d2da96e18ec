-- The checks of forms one after another, as the laws of calls take them.
use Rattle.std.proofs.Common.{◌≡◌, ℕ, zero, suc, ◌+◌, ◌≤◌, ◌<◌, true, List, [], ◌∷◌, ◌++◌, length, map, take, drop, get_or, refl, sym, ap, ◌∙◌, subst, arith}
use Rattle.lift_prims.specs.declared.stage.Mark.{Mark}
use Rattle.xq_base.specs.declared.code.Code.{Code}
use Rattle.xq_base.specs.Texts.{Text}
use Rattle.doc_table.specs.NodeRules.{Docs}
use Rattle.plan_dag.specs.declared.cols.Col.{Col}
use Rattle.plan_dag.specs.declared.op.OpId.{OpId}
use Rattle.plan_dag.specs.declared.op.Op.{Op}
use Rattle.plan_dag.specs.declared.check.Check.{Check}
use Rattle.plan_dag.specs.Cells.{Rules}
use Rattle.plan_dag.specs.ItemRules.{Cell, item_rules}
use Rattle.plan_dag.specs.Meaning.{Graph, Table}
use Rattle.plan_dag.specs.Schema.{schemas, cols_at}
use Rattle.plan_dag.specs.Graphs.{in_graph}
use Rattle.core_meaning.specs.Expr.{Site}
use Rattle.lift_laws.specs.Sums.{AllOf}
use Rattle.lift_laws.specs.Iterations.{Row}
use Rattle.lift_laws.specs.States.{State, state_of, at, Grows, Makes}
use Rattle.lift_laws.specs.Shapes.{less, cleared}
use Rattle.lift_laws.specs.Stages.{Stage, Stages}
use Rattle.lift_laws.proofs.Keeping.{append_none, grows_self, grows_trans}
use Rattle.lift_prims.specs.Forms.{FormMade, FormSmall, form_table, cols_in}
use Rattle.lift_prims.specs.Made.{IsLoop, rows_in}
use Rattle.lift_prims.specs.Staging.{CheckedForm, Marks, MarkFits, CallFits, CallMade, FormStages, marked_rows, form_marks}
use Rattle.lift_prims.proofs.Bounds.{filter_few}
use Rattle.lift_prims.proofs.Making.{cols_are, in_ops, in_tables, done_too, take_all}
use Rattle.lift_prims.proofs.Over.{shaped_stays}
use Rattle.lift_prims.proofs.StageLaws.{rows_stay, stage_of, stage_left, stage_grows}

less_few : (l b : List Row) → length (less l b) ≤ length l
less_few l b = filter_few _ l

cleared_few : (l : List Row) (bs : List (List Row)) → length (cleared l bs) ≤ length l
cleared_few l [] = omega arith
cleared_few l (b ∷ bs) = let h = cleared_few (less l b) bs in let k = less_few l b in omega arith

cleared_more : (l : List Row) (bs : List (List Row)) (b : List Row) → cleared l (bs ++ b ∷ []) ≡ less (cleared l bs) b
cleared_more l [] b = refl
cleared_more l (c ∷ bs) b = cleared_more (less l c) bs b

map_more : {A B : Type 0} (f : A → B) (xs : List A) (x : A) → map f (xs ++ x ∷ []) ≡ map f xs ++ f x ∷ []
map_more f [] x = refl
map_more f (y ∷ xs) x = ap (λ l. f y ∷ l) (map_more f xs x)

stages_more : (site : Site) (most : ℕ) (s s1 mid s2 : State) (l b : List Row) (ms : List (Code × List Row)) (cs : List Check) (code : Code) (c : Check) → Stages site most s s1 l ms cs
    → Stage site most s1 mid s2 (cleared l (map (λ (m : Code × List Row). m.1) ms)) b code c → Stages site most s s2 l (ms ++ (code, b) ∷ []) (cs ++ c ∷ [])
stages_more site most s s1 mid s2 l b [] [] code c h k = (mid, s2, subst (λ q. Stage site most q mid s2 l b code c) h k, refl)
stages_more site most s s1 mid s2 l b [] (d ∷ cs) code c h k = absurd h
stages_more site most s s1 mid s2 l b (m ∷ ms) [] code c h k = absurd h
stages_more site most s s1 mid s2 l b (m ∷ ms) (d ∷ cs) code c h k = (h.0, h.1, h.2, stages_more site most h.1 s1 mid s2 (less l m.1) b ms cs code c h.3 k)

all_more : {A : Type 0} (P : A → Type 0) (xs : List A) (x : A) → AllOf P (xs ++ x ∷ []) → AllOf P xs × P x
all_more P [] x a = (tt, a.0)
all_more P (y ∷ xs) x a = let r = all_more P xs x a.1 in ((a.0, r.0), r.1)

-- inputs stay
tables_stay : (docs : Docs) (texts : List Text) (g g' : Graph) {new : List Check} (is : List OpId) → AllOf (in_graph g) is → Grows (state_of docs texts g) (state_of docs texts g') new → map (at (state_of docs texts g')) is ≡ map (at (state_of docs texts g)) is
tables_stay docs texts g g' [] a k = refl
tables_stay docs texts g g' (i ∷ is) a k = ap (λ t. t ∷ map (at (state_of docs texts g')) is) (k.same i (in_tables docs texts g i a.0)) ∙ ap (λ l. at (state_of docs texts g) i ∷ l) (tables_stay docs texts g g' is a.1 k)

pub there_stay : (g g' : Graph) {new : List Check} (is : List OpId) → Grows (state_of [] [] g) (state_of [] [] g') new → AllOf (in_graph g) is → AllOf (in_graph g') is
there_stay g g' [] k a = tt
there_stay g g' (i ∷ is) k a = let l = k.longer in let t = in_tables [] [] g i a.0 in (in_ops [] [] g' i (omega arith), there_stay g g' is k a.1)

pub cols_stay : (g g' : Graph) {new : List Check} (is : List OpId) → Grows (state_of [] [] g) (state_of [] [] g') new → AllOf (in_graph g) is → cols_in g' is ≡ cols_in g is
cols_stay g g' [] k a = refl
cols_stay g g' (i ∷ is) k a =
    ap (λ c. c ∷ cols_in g' is) (cols_are [] [] g' i ∙ ap (λ (x : Table Cell). x.cols) (k.same i (in_tables [] [] g i a.0)) ∙ sym (cols_are [] [] g i)) ∙ ap (λ l. cols_at (schemas g.ops) i ∷ l) (cols_stay g g' is k a.1)

-- none yet
pub no_stages : (g g1 : Graph) (looped : OpId) (ins : List OpId) (offset : ℕ) → ((docs : Docs) (texts : List Text) → Grows (state_of docs texts g) (state_of docs texts g1) []) → IsLoop g looped → FormStages g g1 g1 looped ins [] offset looped
no_stages g g1 looped ins offset k h = record {
  shaped = shaped_stays g g1 (k [] []) h;
  checks = [];
  grows = k;
  after = λ docs texts. grows_self (state_of docs texts g1);
  left_is = λ docs texts. rows_stay docs texts g g1 looped h.0 (k docs texts);
  stages = λ docs texts most site e l a. refl;
}

-- one more
pub one_stage : {g g1 g2 g3 : Graph} {looped left rest : OpId} {ins : List OpId} {offset : ℕ} {marks : Marks} {code : Code} {ops : List Op} → AllOf (in_graph g) ins → FormStages g g1 g2 looped ins marks offset left → CheckedForm g2 g3 left ins ops code offset rest
    → FormStages g g1 g3 looped ins (marks ++ (code, ops) ∷ []) offset rest
one_stage {g = g} {g1 = g1} {g2 = g2} {g3 = g3} {looped = looped} {left = left} {rest = rest} {ins = ins} {offset = offset} {marks = marks} {code = code} {ops = ops} a h c =
    let check : Check = record { op = c.checked.op; code = code; offset = offset } in
    let ts : Docs → List Text → List (Table Cell) = λ docs texts. map (at (state_of docs texts g)) ins in
    let same : (docs : Docs) (texts : List Text) → map (at (state_of docs texts g2)) ins ≡ ts docs texts = λ docs texts. tables_stay docs texts g g2 ins a (h.grows docs texts) in
    let b : Docs → List Text → List Row = λ docs texts. (form_table (item_rules docs texts) (ts docs texts) ops).rows in
    let made : (docs : Docs) (texts : List Text) (most : ℕ) → FormSmall (item_rules docs texts) most (ts docs texts) ops
    → Makes (state_of docs texts g2) (state_of docs texts c.between) c.marked (form_table (item_rules docs texts) (ts docs texts) ops).cols (b docs texts) most = λ docs texts most f.
    let k = c.made docs texts in record { grows = k.grows; is_in = k.is_in; is = k.is ∙ ap (λ x. form_table (item_rules docs texts) x ops) (same docs texts); small = k.small most (subst (λ x. FormSmall (item_rules docs texts) most x ops) (sym (same docs texts)) f); quiet = k.quiet } in
    let grown : (docs : Docs) (texts : List Text) → Grows (state_of docs texts g2) (state_of docs texts g3) (check ∷ []) = λ docs texts.
    grows_trans (c.made docs texts).grows (grows_trans (c.checked.makes docs texts).grows (c.checked.checks docs texts).grows) in
    record {
      shaped = c.checked.shaped;
      checks = h.checks ++ check ∷ [];
      grows = λ docs texts. grows_trans (h.grows docs texts) (grown docs texts);
      after = λ docs texts. grows_trans (h.after docs texts) (grown docs texts);
      left_is = λ docs texts.
          let l = rows_in docs texts g looped in
          let R = item_rules docs texts in
          c.checked.left docs texts
          ∙ ap (λ y. less y (rows_in docs texts c.between c.marked)) (rows_stay docs texts g2 c.between left h.shaped.0 (c.made docs texts).grows ∙ h.left_is docs texts)
          ∙ ap (λ y. less (cleared l (map (λ m. m.1) (marked_rows R (ts docs texts) marks))) y) (ap (λ (t : Table Cell). t.rows) ((c.made docs texts).is ∙ ap (λ x. form_table R x ops) (same docs texts)))
          ∙ sym (cleared_more l (map (λ m. m.1) (marked_rows R (ts docs texts) marks)) (b docs texts))
          ∙ ap (cleared l) (sym (map_more (λ (m : Code × List Row). m.1) (marked_rows R (ts docs texts) marks) (code, b docs texts)))
          ∙ ap (λ ms. cleared l (map (λ (m : Code × List Row). m.1) ms)) (sym (map_more (λ (m : Code × List Op). (m.0, (form_table R (ts docs texts) m.1).rows)) marks (code, ops)));
      stages = λ docs texts most site e few f.
          let l = rows_in docs texts g looped in
          let R = item_rules docs texts in
          let ms = marked_rows R (ts docs texts) marks in
          let p = all_more (λ (m : Code × List Op). FormSmall R most (ts docs texts) m.1) marks (code, ops) f in
          let r : length (rows_in docs texts g2 left) ≤ most =
          (let x = cleared_few l (map (λ (m : Code × List Row). m.1) ms) in let z = ap (λ (rs : List Row). length rs) (h.left_is docs texts) in omega arith) in
          let k = stage_of docs texts g2 c.between g3 h.shaped (made docs texts most p.1) c.checked site most e (omega arith) r in
          let k2 = subst (λ x. Stage site most (state_of docs texts g2) (state_of docs texts c.checked.mid) (state_of docs texts g3) x (b docs texts) code check) (h.left_is docs texts) k in
          subst (λ q. Stages site most (state_of docs texts g1) (state_of docs texts g3) l q (h.checks ++ check ∷ [])) (sym (map_more (λ (m : Code × List Op). (m.0, (form_table R (ts docs texts) m.1).rows)) marks (code, ops)))
          (stages_more site most (state_of docs texts g1) (state_of docs texts g2) (state_of docs texts c.checked.mid) (state_of docs texts g3) l (b docs texts) ms h.checks code check (h.stages docs texts most site e few p.0) k2);
    }

-- the marks of a slice, one more
pub marks_done : (ms : List Mark) (i : ℕ) (m : Mark) → i < length ms → m ≡ get_or ms i m → form_marks (take (i + 1) ms) ≡ form_marks (take i ms) ++ (m.code, m.form.now) ∷ []
marks_done ms i m l e = ap form_marks (done_too ms i m l e) ∙ map_more (λ (m : Mark). (m.code, m.form.now)) (take i ms) m

-- what one of them owes
pub mark_owes : (P : Code × List Op → Type 0) (ms : List Mark) (i : ℕ) (m : Mark) → i < length ms → m ≡ get_or ms i m → AllOf P (form_marks ms) → P (m.code, m.form.now)
mark_owes P [] i m l e a = absurd (omega arith)
mark_owes P (n ∷ ms) zero m l e a = subst (λ (k : Mark). P (k.code, k.form.now)) (sym e) a.0
mark_owes P (n ∷ ms) (suc i) m l e a = mark_owes P ms i m (omega arith) e a.1

pub call_made : {g g1 g' : Graph} {looped left : OpId} {ins : List OpId} {values : List Op} {offset : ℕ} {t : OpId} (ms : List Mark) (i : ℕ) → length ms ≤ i
    → ((docs : Docs) (texts : List Text) → FormMade (item_rules docs texts) (state_of docs texts g) (state_of docs texts g1) ins values t) → FormStages g g1 g' looped ins (form_marks (take i ms)) offset left → CallMade g g' looped ins values (form_marks ms) offset t
call_made {g = g} {g1 = g1} {g' = g'} {looped = looped} {left = left} {ins = ins} {offset = offset} ms i l m h =
    record { between = g1; made = m; left = left; stages = subst (λ q. FormStages g g1 g' looped ins (form_marks q) offset left) (take_all ms i l) h }
