-- What a step on parent, ancestor, ancestor-or-self and the sibling axes touches.
use Rattle.std.proofs.Common.{inl, inr, ◌≡◌, ℕ, ◌+◌, ◌<◌, ◌≤◌, Bool, true, false, ◌&&◌, cond, List, length, refl, sym, ◌∙◌, subst, arith}
use Rattle.std.specs.Prelude.{nat_eq}
use Rattle.std.proofs.lemmas.Bool.{eqb-true, and_parts, or_left, or_right, or_cases, false≢true}
use Rattle.xq_base.specs.declared.item.TextId.{TextId}
use Rattle.xq_base.specs.declared.axis.Axis.{Axis}
use Rattle.xq_base.specs.declared.axis.Axis.TheVariants as a
use Rattle.doc_table.specs.Tree.{Tree}
use Rattle.doc_table.specs.Enc.{enc, line_in}
use Rattle.doc_table.specs.Paths.{is_prefix, is_same, is_child}
use Rattle.doc_table.specs.Axes.{on_axis, on_ancestor, on_self, on_following_sibling, on_preceding_sibling}
use Rattle.doc_table.specs.Places.{path_at, row_path, child, RowsTell}
use Rattle.doc_table.specs.Touched.{is_context, adds_owner, on_way, on_some_way, touched}
use Rattle.staircase.specs.declared.kinds.Ctx.{Ctx}
use Rattle.staircase.specs.Joins.{is_near, path_with, places}
use Rattle.staircase.specs.Parts.{In}
use Rattle.doc_table.proofs.Kids.{within-parts}
use Rattle.staircase.proofs.ByWay.{way-holds, way-before}
use Rattle.staircase.proofs.Children.{child-within}
use Rattle.staircase.proofs.RowHits.{context-row, some-row_of}

-- a row on the way to a row of the context
pub near-way : (axis : Axis) (t : Tree TextId) (cs : List Ctx) (c v : ℕ) → is_near axis ≡ true → c < length (enc t) → is_context axis (places cs) c ≡ true → on_way t v c ≡ true → touched axis t (places cs) v ≡ true
near-way a.Parent t cs c v s l i e = some-row_of a.Parent t cs c (on_way t v) l i e
near-way a.Ancestor t cs c v s l i e = some-row_of a.Ancestor t cs c (on_way t v) l i e
near-way a.AncestorOrSelf t cs c v s l i e = some-row_of a.AncestorOrSelf t cs c (on_way t v) l i e
near-way a.PrecedingSibling t cs c v s l i e = some-row_of a.PrecedingSibling t cs c (on_way t v) l i e
near-way a.FollowingSibling t cs c v s l i e = or_left (on_some_way a.FollowingSibling t (places cs) v) _ (some-row_of a.FollowingSibling t cs c (on_way t v) l i e)
near-way a.SelfNode t cs c v s l i e = absurd (false≢true s)
near-way a.Attribute t cs c v s l i e = absurd (false≢true s)
near-way a.Child t cs c v s l i e = absurd (false≢true s)
near-way a.Descendant t cs c v s l i e = absurd (false≢true s)
near-way a.DescendantOrSelf t cs c v s l i e = absurd (false≢true s)
near-way a.Following t cs c v s l i e = absurd (false≢true s)
near-way a.Preceding t cs c v s l i e = absurd (false≢true s)

-- a row that holds a row of the context
pub near-holds : (axis : Axis) (t : Tree TextId) (cs : List Ctx) (c v : ℕ) → RowsTell t → is_near axis ≡ true → c < length (enc t) → v < length (enc t) → is_context axis (places cs) c ≡ true → v ≤ c → c ≤ v + (line_in (enc t) v).size → touched axis t (places cs) v ≡ true
near-holds axis t cs c v b s l m i h k = near-way axis t cs c v s l i (way-holds t v c b m l h k)

-- a row of the context
pub near-own : (axis : Axis) (t : Tree TextId) (cs : List Ctx) (c : ℕ) → RowsTell t → is_near axis ≡ true → c < length (enc t) → is_context axis (places cs) c ≡ true → touched axis t (places cs) c ≡ true
near-own axis t cs c b s l i = near-holds axis t cs c c b s l l i (omega arith) (omega arith)

-- the parent of a row of the context
pub near-parent : (axis : Axis) (t : Tree TextId) (cs : List Ctx) (d c : ℕ) → RowsTell t → is_near axis ≡ true → d < length (enc t) → c < length (enc t) → is_context axis (places cs) c ≡ true → child (enc t) d c ≡ true → touched axis t (places cs) d ≡ true
near-parent axis t cs d c b s m l i h = let w = child-within (enc t) d c h in near-holds axis t cs c d b s l m i w.0 w.1

-- a row whose path begins that of a node of the context
begins-touched : (axis : Axis) (t : Tree TextId) (cs : List Ctx) (c : Ctx) (v : ℕ) → RowsTell t → is_near axis ≡ true → adds_owner axis ≡ true → In c cs → c.pre < length (enc t) → v < length (enc t) → is_prefix (path_at t v) (path_at t c.pre) ≡ true → touched axis t (places cs) v ≡ true
begins-touched axis t cs c v b s o i l m e =
    let w = within-parts t v c.pre (sym (b.prefix v c.pre m l) ∙ e) in
    near-holds axis t cs c.pre v b s l m (context-row axis cs c i (or_right (nat_eq c.attr 0) (adds_owner axis) o)) w.0 w.1

parent-begins : (k : Bool) (p q : List ℕ) → cond k (is_child q p) (is_same q p) ≡ true → is_prefix q p ≡ true
parent-begins true p q e = (and_parts (is_prefix q p) (nat_eq (length p) (length q + 1)) e).0
parent-begins false p q e = (and_parts (is_prefix q p) (is_prefix p q) e).0

ancestor-begins : (t : Tree TextId) (c k v : ℕ) → on_ancestor (path_with t c k) (row_path t v) ≡ true → is_prefix (path_at t v) (path_at t c) ≡ true
ancestor-begins t c k v e = (and_parts (is_prefix (path_at t v) (path_at t c)) _ e).0

-- a sibling's node is a row
no-owner : (x y z : Bool) → ((x && true && y) && z) ≡ true → x ≡ true
no-owner true y z e = refl
no-owner false y z e = e

-- a row on the axis of a node of the context
pub near-axis : (axis : Axis) (t : Tree TextId) (cs : List Ctx) (c : Ctx) (v : ℕ) → RowsTell t → is_near axis ≡ true → In c cs → c.pre < length (enc t) → v < length (enc t) → on_axis axis (path_with t c.pre c.attr) (row_path t v) ≡ true → touched axis t (places cs) v ≡ true
near-axis a.Parent t cs c v b s i l m e = begins-touched a.Parent t cs c v b s refl i l m (parent-begins (nat_eq c.attr 0) (path_at t c.pre) (path_at t v) e)
near-axis a.Ancestor t cs c v b s i l m e = begins-touched a.Ancestor t cs c v b s refl i l m (ancestor-begins t c.pre c.attr v e)
near-axis a.AncestorOrSelf t cs c v b s i l m e = begins-touched a.AncestorOrSelf t cs c v b s refl i l m (elim (or_cases (on_ancestor (path_with t c.pre c.attr) (row_path t v)) (on_self (path_with t c.pre c.attr) (row_path t v)) e) [
  | inl x ↦ ancestor-begins t c.pre c.attr v x
  | inr x ↦ (and_parts (is_prefix (path_at t c.pre) (path_at t v)) (is_prefix (path_at t v) (path_at t c.pre)) (and_parts (is_same (path_at t c.pre) (path_at t v)) (nat_eq c.attr 0) x).0).1
])
near-axis a.PrecedingSibling t cs c v b s i l m e =
    let z : nat_eq c.attr 0 ≡ true = no-owner (nat_eq c.attr 0) _ _ e in
    let row : on_preceding_sibling (row_path t c.pre) (row_path t v) ≡ true = subst (λ k. on_preceding_sibling (path_with t c.pre k) (row_path t v) ≡ true) (eqb-true c.attr 0 z) e in
    near-way a.PrecedingSibling t cs c.pre v s l (context-row a.PrecedingSibling cs c i (or_left (nat_eq c.attr 0) false z)) (way-before t v c.pre b l row)
near-axis a.FollowingSibling t cs c v b s i l m e =
    let z : nat_eq c.attr 0 ≡ true = no-owner (nat_eq c.attr 0) _ _ e in
    let row : on_following_sibling (row_path t c.pre) (row_path t v) ≡ true = subst (λ k. on_following_sibling (path_with t c.pre k) (row_path t v) ≡ true) (eqb-true c.attr 0 z) e in
    or_right (on_some_way a.FollowingSibling t (places cs) v) _ (some-row_of a.FollowingSibling t cs c.pre (λ p. on_following_sibling (row_path t p) (row_path t v)) l (context-row a.FollowingSibling cs c i (or_left (nat_eq c.attr 0) false z)) row)
near-axis a.SelfNode t cs c v b s i l m e = absurd (false≢true s)
near-axis a.Attribute t cs c v b s i l m e = absurd (false≢true s)
near-axis a.Child t cs c v b s i l m e = absurd (false≢true s)
near-axis a.Descendant t cs c v b s i l m e = absurd (false≢true s)
near-axis a.DescendantOrSelf t cs c v b s i l m e = absurd (false≢true s)
near-axis a.Following t cs c v b s i l m e = absurd (false≢true s)
near-axis a.Preceding t cs c v b s i l m e = absurd (false≢true s)
