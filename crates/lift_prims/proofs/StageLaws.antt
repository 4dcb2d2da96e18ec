-- Operators made one after another, and checks as stages of a call.
use Rattle.std.proofs.Common.{◌≡◌, ℕ, ◌+◌, ◌≤◌, ◌<◌, true, List, [], ◌∷◌, ◌++◌, length, refl, sym, ap, ◌∙◌, subst, arith}
use Rattle.xq_base.specs.declared.code.Code.{Code}
use Rattle.xq_base.specs.Texts.{Text}
use Rattle.doc_table.specs.NodeRules.{Docs}
use Rattle.plan_dag.specs.declared.cols.Col.{Col}
use Rattle.plan_dag.specs.declared.op.OpId.{OpId}
use Rattle.plan_dag.specs.declared.check.Check.{Check}
use Rattle.plan_dag.specs.Meaning.{Graph, Table}
use Rattle.plan_dag.specs.Graphs.{in_graph, with_check}
use Rattle.core_meaning.specs.Expr.{Site}
use Rattle.lift_laws.specs.Iterations.{Row}
use Rattle.lift_laws.specs.States.{State, state_of, at, IsIn, Grows, Makes, Checks, Small, single}
use Rattle.lift_laws.specs.Shapes.{less, named_rows}
use Rattle.lift_laws.specs.Stages.{Stage}
use Rattle.lift_laws.proofs.Growing.{check_adds}
use Rattle.lift_laws.proofs.Keeping.{append_none, grows_trans, small_keep, small_join, small_most}
use Rattle.lift_prims.specs.Made.{Shaped, IsLoop, rows_in, Rows, Most, Made}
use Rattle.lift_prims.specs.Staging.{Checked}
use Rattle.lift_prims.proofs.Making.{cols_are, in_tables, in_ops}
use Rattle.lift_prims.proofs.Over.{shaped_stays}

-- two operators one after the other
pub makes_then : {s s1 s2 : State} {a b : OpId} {ca cb : List Col} {ra rb : List Row} {m n : ℕ} (most : ℕ) → Makes s s1 a ca ra m → Makes s1 s2 b cb rb n → m ≤ most → n ≤ most → Makes s s2 b cb rb most
makes_then most x y p q = record {
  grows = grows_trans x.grows y.grows;
  is_in = y.is_in;
  is = y.is;
  small = small_join (small_keep y.grows (omega arith) (small_most x.small p)) (small_most y.small q);
  quiet = y.quiet ∙ x.quiet;
}

-- the rows of an operator that was there
pub rows_stay : (docs : Docs) (texts : List Text) (g g' : Graph) {new : List Check} (i : OpId) → in_graph g i → Grows (state_of docs texts g) (state_of docs texts g') new → rows_in docs texts g' i ≡ rows_in docs texts g i
rows_stay docs texts g g' i h k = ap (λ (t : Table _). t.rows) (k.same i (in_tables docs texts g i h))

-- the rows of one that was made
pub rows_made : {docs : Docs} {texts : List Text} {g g' : Graph} {cols : List Col} {rows : Rows} {most : Most} {t : OpId} → Made g g' cols rows most t → rows_in docs texts g' t ≡ rows docs texts
rows_made {docs = docs} {texts = texts} m = ap (λ (t : Table _). t.rows) (m.makes docs texts).is

-- a check of an operator in between, and the loop that it leaves
pub checked_by : (g g1 g2 g3 : Graph) (looped marked rest named : OpId) (code : Code) (offset : ℕ) → IsLoop g looped → IsLoop g marked
    → Made g g1 single (λ docs texts. less (rows_in docs texts g looped) (rows_in docs texts g marked)) (λ docs texts. length (rows_in docs texts g looped)) rest
    → Made g1 g2 single (λ docs texts. less (rows_in docs texts g1 looped) (rows_in docs texts g1 rest)) (λ docs texts. length (rows_in docs texts g1 looped)) named
    → g3 ≡ with_check (record { op = named; code = code; offset = offset }) g2 → Checked g g3 looped marked code offset rest
checked_by g g1 g2 g3 looped marked rest named code offset hl hm a b e =
    let c : Check = record { op = named; code = code; offset = offset } in
    let checks : (docs : Docs) (texts : List Text) → Checks (state_of docs texts g2) (state_of docs texts g3) c = λ docs texts. subst (λ q. Checks (state_of docs texts g2) (state_of docs texts q) c) (sym e) (check_adds docs texts g2 c b.shaped.0) in
    record {
      shaped = shaped_stays g2 g3 (checks [] []).grows (shaped_stays g1 g2 (b.makes [] []).grows a.shaped);
      mid = g2;
      op = named;
      makes = λ docs texts.
          let l : rows_in docs texts g1 looped ≡ rows_in docs texts g looped = rows_stay docs texts g g1 looped hl.0 (a.makes docs texts).grows in
          let r : rows_in docs texts g1 rest ≡ less (rows_in docs texts g looped) (rows_in docs texts g marked) = rows_made a in
          let k : Makes (state_of docs texts g1) (state_of docs texts g2) named single (named_rows (rows_in docs texts g looped) (rows_in docs texts g marked)) (length (rows_in docs texts g looped)) =
          subst (λ x. Makes (state_of docs texts g1) (state_of docs texts g2) named single (less (rows_in docs texts g looped) x) (length (rows_in docs texts g looped))) r
          (subst (λ x. Makes (state_of docs texts g1) (state_of docs texts g2) named single (less x (rows_in docs texts g1 rest)) (length x)) l (b.makes docs texts)) in
          makes_then (length (rows_in docs texts g looped)) (a.makes docs texts) k (omega arith) (omega arith);
      checks = checks;
      left = λ docs texts. rows_stay docs texts g2 g3 rest (shaped_stays g1 g2 (b.makes [] []).grows a.shaped).0 (checks docs texts).grows ∙ rows_stay docs texts g1 g2 rest a.shaped.0 (b.makes docs texts).grows ∙ rows_made a;
    }

-- a stage: the rows that name iterations, and then their check
module _ (docs : Docs) (texts : List Text) (g g1 g2 : Graph) {looped marked rest : OpId} {code : Code} {offset : ℕ} {cols : List Col} {rows : List Row} {most : ℕ} (hl : IsLoop g looped) (x : Makes (state_of docs texts g) (state_of docs texts g1) marked cols rows most)
    (c : Checked g1 g2 looped marked code offset rest) where
  loop_same : rows_in docs texts g1 looped ≡ rows_in docs texts g looped
  loop_same = rows_stay docs texts g g1 looped hl.0 x.grows

  rows_same : rows_in docs texts g1 marked ≡ rows
  rows_same = ap (λ (t : Table _). t.rows) x.is

  pub stage_of : (site : Site) (N : ℕ) → site.offset ≡ offset → most ≤ N → length (rows_in docs texts g looped) ≤ N
      → Stage site N (state_of docs texts g) (state_of docs texts c.mid) (state_of docs texts g2) (rows_in docs texts g looped) rows code (record { op = c.op; code = code; offset = offset })
  stage_of site N e p q =
      let k : Makes (state_of docs texts g1) (state_of docs texts c.mid) c.op single (named_rows (rows_in docs texts g looped) rows) (length (rows_in docs texts g looped)) =
      subst (λ y. Makes (state_of docs texts g1) (state_of docs texts c.mid) c.op single (named_rows (rows_in docs texts g looped) y) (length (rows_in docs texts g looped))) rows_same
      (subst (λ y. Makes (state_of docs texts g1) (state_of docs texts c.mid) c.op single (named_rows y (rows_in docs texts g1 marked)) (length y)) loop_same (c.makes docs texts)) in
      record { made = makes_then N x k p q; check = c.checks docs texts; code_is = refl; offset_is = sym e }

  pub stage_left : rows_in docs texts g2 rest ≡ less (rows_in docs texts g looped) rows
  stage_left = c.left docs texts ∙ ap (λ y. less y (rows_in docs texts g1 marked)) loop_same ∙ ap (λ y. less (rows_in docs texts g looped) y) rows_same

  pub stage_grows : Grows (state_of docs texts g) (state_of docs texts g2) (record { op = c.op; code = code; offset = offset } ∷ [])
  stage_grows = grows_trans x.grows (grows_trans (c.makes docs texts).grows (c.checks docs texts).grows)
