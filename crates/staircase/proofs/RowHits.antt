-- The rows on an axis are what the tasks of a context find.
use Rattle.std.proofs.Common.{inl, inr, ◌≡◌, ℕ, zero, suc, ◌+◌, ◌<◌, Bool, true, false, ◌&&◌, ◌||◌, cond, List, [], ◌∷◌, length, refl, sym, ap, ◌∙◌, subst, arith, Option, Some, None}
use Rattle.std.specs.Prelude.{nat_eq, nat_le}
use Rattle.std.proofs.lemmas.Bool.{eq-eqb, eqb-true, le-leb, ltb-true, and_parts, and_from, or_left, or_right, or_cases, false≢true, true≢false}
use Rattle.xq_base.specs.declared.item.TextId.{TextId}
use Rattle.xq_base.specs.declared.axis.Axis.{Axis}
use Rattle.xq_base.specs.declared.axis.Axis.TheVariants as a
use Rattle.xq_base.specs.declared.axis.NodeTest.{NodeTest}
use Rattle.doc_table.specs.Tree.{Tree}
use Rattle.doc_table.specs.Enc.{enc, line_in}
use Rattle.doc_table.specs.Paths.{is_same, is_prefix}
use Rattle.doc_table.specs.Axes.{on_axis, on_self, on_child, on_descendant, on_following, on_preceding}
use Rattle.doc_table.specs.Places.{path_at, row_path, RowsTell}
use Rattle.doc_table.specs.Touched.{is_context, some_context, adds_owner, touched, place_path}
use Rattle.doc_table.proofs.ByRows.{same, by-preceding}
use Rattle.staircase.specs.declared.hits.Hit.{Hit}
use Rattle.staircase.specs.declared.kinds.Ctx.{Ctx}
use Rattle.staircase.specs.declared.seen.Seen.{Seen}
use Rattle.staircase.specs.declared.task.Task.{Task}
use Rattle.staircase.specs.Joins.{Stands, is_chained, is_near, path_with, places}
use Rattle.staircase.specs.Made.{task_for, task_at, listed, made_one, made, row_found, iter_for, where_row}
use Rattle.staircase.specs.Parts.{In}
use Rattle.staircase.specs.Seen.{seen_of}
use Rattle.staircase.specs.Tasks.{Finds, in_task, lets, hit_in}
use Rattle.staircase.proofs.RowsRead.{rows_read, read-in, in-read, read-found, found-read}
use Rattle.staircase.proofs.Elements.{in-left, in-right, in-parts}
use Rattle.staircase.proofs.LookLaws.{looks, looks-is, before-attribute}
use Rattle.staircase.proofs.SomeTests.{place-in_some, below-some}

-- ---- the tasks of a context

in-made : (axis : Axis) (counting : Bool) (seen : List Seen) (cs : List Ctx) (task : Task) → In task (made axis counting seen cs) → (c : Ctx) × In c cs × In task (made_one axis counting seen c)
in-made axis counting seen [] task h = absurd h
in-made axis counting seen (c ∷ cs) task h = elim (in-parts task (made_one axis counting seen c) (made axis counting seen cs) h) [
  | inl x ↦ (c, inl refl, x)
  | inr y ↦ (let r = in-made axis counting seen cs task y in (r.0, inr r.1, r.2))
]

made-in : (axis : Axis) (counting : Bool) (seen : List Seen) (cs : List Ctx) (c : Ctx) (task : Task) → In c cs → In task (made_one axis counting seen c) → In task (made axis counting seen cs)
made-in axis counting seen [] c task h k = absurd h
made-in axis counting seen (d ∷ cs) c task h k = elim h [
  | inl e ↦ in-left task (made_one axis counting seen d) (made axis counting seen cs) (subst (λ (z : Ctx). In task (made_one axis counting seen z)) e k)
  | inr r ↦ in-right task (made_one axis counting seen d) (made axis counting seen cs) (made-in axis counting seen cs c task r k)
]

listed-is : (task : Task) (o : Option Task) → In task (listed o) → o ≡ Some task
listed-is task None h = absurd h
listed-is task (Some x) h = elim h [ inl e ↦ ap (λ z. Some z) (sym e) | inr r ↦ absurd r ]

some-row : (k : ℕ) (o : Option Task) (task : Task) → where_row k o ≡ Some task → (nat_eq k 0 ≡ true) × (o ≡ Some task)
some-row k o task e = at (nat_eq k 0) refl e
  where
    at : (b : Bool) → nat_eq k 0 ≡ b → cond b o None ≡ Some task → (nat_eq k 0 ≡ true) × (o ≡ Some task)
    at true g e = (g, e)
    at false g e = cc

some-iter : (x task : Task) → Some x ≡ Some task → task.iter ≡ x.iter
some-iter x task e = let q : x ≡ task = cc in ap (λ (z : Task). z.iter) (sym q)

task-iter : (axis : Axis) (i k : ℕ) (own : Seen) (task : Task) → task_for axis i k own ≡ Some task → task.iter ≡ i
task-iter a.SelfNode i k own task e = some-iter _ task (some-row k _ task e).1
task-iter a.Child i k own task e = cc
task-iter a.Descendant i k own task e = some-iter _ task (some-row k _ task e).1
task-iter a.DescendantOrSelf i k own task e = some-iter _ task (some-row k _ task e).1
task-iter a.Following i k own task e = some-iter _ task e
task-iter a.Preceding i k own task e = some-iter _ task e
task-iter a.Attribute i k own task e = cc
task-iter a.Parent i k own task e = cc
task-iter a.Ancestor i k own task e = cc
task-iter a.AncestorOrSelf i k own task e = cc
task-iter a.FollowingSibling i k own task e = cc
task-iter a.PrecedingSibling i k own task e = cc

-- a node that looks for rows is on a row of the context
task-own : (axis : Axis) (i k : ℕ) (own : Seen) (task : Task) → task_for axis i k own ≡ Some task → (nat_eq k 0 || adds_owner axis) ≡ true
task-own a.SelfNode i k own task e = or_left (nat_eq k 0) true (some-row k _ task e).0
task-own a.Child i k own task e = cc
task-own a.Descendant i k own task e = or_left (nat_eq k 0) false (some-row k _ task e).0
task-own a.DescendantOrSelf i k own task e = or_left (nat_eq k 0) false (some-row k _ task e).0
task-own a.Following i k own task e = or_right (nat_eq k 0) true refl
task-own a.Preceding i k own task e = or_right (nat_eq k 0) true refl
task-own a.Attribute i k own task e = cc
task-own a.Parent i k own task e = cc
task-own a.Ancestor i k own task e = cc
task-own a.AncestorOrSelf i k own task e = cc
task-own a.FollowingSibling i k own task e = cc
task-own a.PrecedingSibling i k own task e = cc

looks-some : (o : Option Task) (s : Seen) → looks o s ≡ true → (task : Task) × (o ≡ Some task) × (in_task task s ≡ true)
looks-some None s e = absurd (false≢true e)
looks-some (Some task) s e = (task, refl, e)

-- ---- what is touched

pub context-row : (axis : Axis) (cs : List Ctx) (c : Ctx) → In c cs → (nat_eq c.attr 0 || adds_owner axis) ≡ true → is_context axis (places cs) c.pre ≡ true
context-row axis cs c i e = place-in_some (λ p. nat_eq p.pre c.pre && (nat_eq p.attr 0 || adds_owner axis)) c cs i (and_from (nat_eq c.pre c.pre) (nat_eq c.attr 0 || adds_owner axis) (eq-eqb c.pre c.pre refl) e)

pub some-row_of : (axis : Axis) (t : Tree TextId) (cs : List Ctx) (c : ℕ) (p : ℕ → Bool) → c < length (enc t) → is_context axis (places cs) c ≡ true → p c ≡ true → some_context axis t (places cs) p ≡ true
some-row_of axis t cs c p l i e = below-some (λ c. is_context axis (places cs) c && p c) (length (enc t)) c l (and_from (is_context axis (places cs) c) (p c) i e)

pub touch-own : (axis : Axis) (t : Tree TextId) (cs : List Ctx) (c : ℕ) → is_near axis ≡ false → c < length (enc t) → is_context axis (places cs) c ≡ true → touched axis t (places cs) c ≡ true
touch-own a.SelfNode t cs c s l e = e
touch-own a.Attribute t cs c s l e = e
touch-own a.Child t cs c s l e = or_left (is_context a.Child (places cs) c) _ e
touch-own a.Descendant t cs c s l e = or_left (is_context a.Descendant (places cs) c) _ e
touch-own a.DescendantOrSelf t cs c s l e = or_left (is_context a.DescendantOrSelf (places cs) c) _ e
touch-own a.Following t cs c s l e = or_left (is_context a.Following (places cs) c) _ e
touch-own a.Preceding t cs c s l e = some-row_of a.Preceding t cs c (λ p. nat_le c p) l e (le-leb c c (omega arith))
touch-own a.Parent t cs c s l e = absurd (true≢false s)
touch-own a.Ancestor t cs c s l e = absurd (true≢false s)
touch-own a.AncestorOrSelf t cs c s l e = absurd (true≢false s)
touch-own a.FollowingSibling t cs c s l e = absurd (true≢false s)
touch-own a.PrecedingSibling t cs c s l e = absurd (true≢false s)

first-of : (x y : Bool) → (x && y) ≡ true → x ≡ true
first-of x y e = (and_parts x y e).0

zero-attr : (k : ℕ) → nat_eq k 0 ≡ true → k ≡ 0
zero-attr k e = eqb-true k 0 e

pub touch-axis : (axis : Axis) (t : Tree TextId) (cs : List Ctx) (c : Ctx) (v : ℕ) → RowsTell t → is_near axis ≡ false → In c cs → c.pre < length (enc t) → v < length (enc t) → on_axis axis (path_with t c.pre c.attr) (row_path t v) ≡ true → touched axis t (places cs) v ≡ true
touch-axis a.SelfNode t cs c v b s i l m e =
    let p = and_parts (is_same (path_at t c.pre) (path_at t v)) (nat_eq c.attr 0) e in
    let q : c.pre ≡ v = eqb-true c.pre v (sym (same t c.pre v b l m) ∙ p.0) in
    subst (λ z. is_context a.SelfNode (places cs) z ≡ true) q (context-row a.SelfNode cs c i (or_left (nat_eq c.attr 0) true p.1))
touch-axis a.Attribute t cs c v b s i l m e = absurd (no-row (nat_eq c.attr 0) (is_same (path_at t c.pre) (path_at t v)) e)
  where
    no-row : (x y : Bool) → (x && false && y) ≡ true → ⊥
    no-row true y e = false≢true e
    no-row false y e = false≢true e
touch-axis a.Child t cs c v b s i l m e =
    let z : nat_eq c.attr 0 ≡ true = first-of (nat_eq c.attr 0) _ (first-of (nat_eq c.attr 0 && true) _ e) in
    or_right (is_context a.Child (places cs) v) _ (some-row_of a.Child t cs c.pre (λ p. on_child (row_path t p) (row_path t v)) l (context-row a.Child cs c i (or_left (nat_eq c.attr 0) false z)) (subst (λ k. on_child (path_with t c.pre k) (row_path t v) ≡ true) (zero-attr c.attr z) e))
touch-axis a.Descendant t cs c v b s i l m e =
    let z : nat_eq c.attr 0 ≡ true = first-of (nat_eq c.attr 0) _ (first-of (nat_eq c.attr 0 && true) _ (first-of ((nat_eq c.attr 0 && true) && is_prefix (path_at t c.pre) (path_at t v)) _ e)) in
    or_right (is_context a.Descendant (places cs) v) _ (some-row_of a.Descendant t cs c.pre (λ p. on_descendant (row_path t p) (row_path t v)) l (context-row a.Descendant cs c i (or_left (nat_eq c.attr 0) false z)) (subst (λ k. on_descendant (path_with t c.pre k) (row_path t v) ≡ true) (zero-attr c.attr z) e))
touch-axis a.DescendantOrSelf t cs c v b s i l m e = elim (or_cases (on_descendant (path_with t c.pre c.attr) (row_path t v)) (on_self (path_with t c.pre c.attr) (row_path t v)) e) [
  | inl d ↦ (let z : nat_eq c.attr 0 ≡ true = first-of (nat_eq c.attr 0) _ (first-of (nat_eq c.attr 0 && true) _ (first-of ((nat_eq c.attr 0 && true) && is_prefix (path_at t c.pre) (path_at t v)) _ d)) in
      or_right (is_context a.DescendantOrSelf (places cs) v) _ (some-row_of a.DescendantOrSelf t cs c.pre (λ p. on_descendant (row_path t p) (row_path t v)) l (context-row a.DescendantOrSelf cs c i (or_left (nat_eq c.attr 0) false z)) (subst (λ k. on_descendant (path_with t c.pre k) (row_path t v) ≡ true) (zero-attr c.attr z) d)))
  | inr f ↦ (let p = and_parts (is_same (path_at t c.pre) (path_at t v)) (nat_eq c.attr 0) f in
      let q : c.pre ≡ v = eqb-true c.pre v (sym (same t c.pre v b l m) ∙ p.0) in
      or_left (is_context a.DescendantOrSelf (places cs) v) _ (subst (λ z. is_context a.DescendantOrSelf (places cs) z ≡ true) q (context-row a.DescendantOrSelf cs c i (or_left (nat_eq c.attr 0) false p.1))))
]
touch-axis a.Following t cs c v b s i l m e = or_right (is_context a.Following (places cs) v) _ (place-in_some (λ p. on_following (place_path t p) (row_path t v)) c cs i e)
touch-axis a.Preceding t cs c v b s i l m e = some-row_of a.Preceding t cs c.pre (λ p. nat_le v p) l (context-row a.Preceding cs c i (or_right (nat_eq c.attr 0) true refl)) (le-leb v c.pre (omega (arith, less c.attr e)))
  where
    less : (k : ℕ) → on_preceding (path_with t c.pre k) (row_path t v) ≡ true → v < c.pre
    less zero e = omega (arith, ltb-true (v + (line_in (enc t) v).size) c.pre (sym (by-preceding t c.pre v b l m) ∙ e))
    less (suc k) e = omega (arith, ltb-true (v + (line_in (enc t) v).size) c.pre (sym (before-attribute t c.pre k v b l m) ∙ e))
touch-axis a.Parent t cs c v b s i l m e = absurd (true≢false s)
touch-axis a.Ancestor t cs c v b s i l m e = absurd (true≢false s)
touch-axis a.AncestorOrSelf t cs c v b s i l m e = absurd (true≢false s)
touch-axis a.FollowingSibling t cs c v b s i l m e = absurd (true≢false s)
touch-axis a.PrecedingSibling t cs c v b s i l m e = absurd (true≢false s)

-- ---- what the tasks find

not-near : (axis : Axis) → is_chained axis ≡ false → is_near axis ≡ false
not-near a.SelfNode e = refl
not-near a.Attribute e = refl
not-near a.Child e = refl
not-near a.Descendant e = refl
not-near a.DescendantOrSelf e = refl
not-near a.Following e = refl
not-near a.Preceding e = refl
not-near a.Parent e = e
not-near a.Ancestor e = e
not-near a.AncestorOrSelf e = e
not-near a.FollowingSibling e = e
not-near a.PrecedingSibling e = e

pub stands-from : (axis : Axis) (tested : NodeTest) (t : Tree TextId) (cs : List Ctx) (counting : Bool) (wants : ℕ → Bool) (h : Hit) (task : Task) → RowsTell t → is_chained axis ≡ false → length (enc t) < 4294967296 → ((c : Ctx) → In c cs → c.pre < length (enc t))
    → In task (made axis counting (rows_read axis tested t wants (length (enc t))) cs) → Finds (rows_read axis tested t wants (length (enc t))) counting task h → Stands axis tested t cs counting h
stands-from axis tested t cs counting wants h task b s n rows i f =
    let seen : List Seen = rows_read axis tested t wants (length (enc t)) in
    let m = in-made axis counting seen cs task i in
    let c : Ctx = m.0 in
    let r = in-read axis tested t wants (length (enc t)) f.0 f.1 in
    go c m.1 m.2 (row_found seen c.pre) refl r
  where
    seen : List Seen
    seen = rows_read axis tested t wants (length (enc t))

    go : (c : Ctx) → In c cs → In task (made_one axis counting seen c) → (o : Option Seen) → row_found seen c.pre ≡ o → (v : ℕ) × (v < length (enc t)) × (wants v ≡ true) × (f.0 ≡ seen_of axis tested t v) → Stands axis tested t cs counting h
    go c k j None e r = absurd (subst (λ z. In task (task_at axis counting c z)) e j)
    go c k j (Some own) e r =
        let v : ℕ = r.0 in
        let own_is : own ≡ seen_of axis tested t c.pre = found-read axis tested t wants (length (enc t)) c.pre own e in
        let some : task_for axis (iter_for counting c) c.attr own ≡ Some task = listed-is task (task_for axis (iter_for counting c) c.attr own) (subst (λ z. In task (task_at axis counting c z)) e j) in
        let some2 : task_for axis (iter_for counting c) c.attr (seen_of axis tested t c.pre) ≡ Some task = ap (λ z. task_for axis (iter_for counting c) c.attr z) (sym own_is) ∙ some in
        let on : on_axis axis (path_with t c.pre c.attr) (row_path t v) ≡ true =
        sym (looks-is axis tested t (iter_for counting c) c.pre c.attr v b s n (rows c k) r.1) ∙ ap (λ z. looks z (seen_of axis tested t v)) some2 ∙ ap (in_task task) (sym r.3) ∙ f.3 in
        record {
          ctx = c;
          there = k;
          row = v;
          within = r.1;
          lets_in = ap (lets counting) (sym r.3) ∙ f.2;
          on = on;
          is = f.4 ∙ ap (λ (z : Seen). hit_in task.iter z) r.3 ∙ ap (λ z. record { pre = v; attr = 0; iter = z }) (task-iter axis (iter_for counting c) c.attr own task some);
        }

pub record Found (axis : Axis) (counting : Bool) (seen : List Seen) (cs : List Ctx) (h : Hit) : Type 0 where
  pub task : Task
  pub made_in : In task (made axis counting seen cs)
  pub finds : Finds seen counting task h

pub stands-to : (axis : Axis) (tested : NodeTest) (t : Tree TextId) (cs : List Ctx) (counting : Bool) (wants : ℕ → Bool) (h : Hit) → RowsTell t → is_chained axis ≡ false → length (enc t) < 4294967296 → ((c : Ctx) → In c cs → c.pre < length (enc t))
    → ((v : ℕ) → v < length (enc t) → wants v ≡ touched axis t (places cs) v)
    → Stands axis tested t cs counting h → Found axis counting (rows_read axis tested t wants (length (enc t))) cs h
stands-to axis tested t cs counting wants h b s n rows w x =
    let c : Ctx = x.ctx in
    let v : ℕ = x.row in
    let seen : List Seen = rows_read axis tested t wants (length (enc t)) in
    let l = rows c x.there in
    let look = looks-some (task_for axis (iter_for counting c) c.attr (seen_of axis tested t c.pre)) (seen_of axis tested t v) (looks-is axis tested t (iter_for counting c) c.pre c.attr v b s n l x.within ∙ x.on) in
    let task : Task = look.0 in
    let own = context-row axis cs c x.there (task-own axis (iter_for counting c) c.attr (seen_of axis tested t c.pre) task look.1) in
    let wc : wants c.pre ≡ true = w c.pre l ∙ touch-own axis t cs c.pre (not-near axis s) l own in
    let wv : wants v ≡ true = w v x.within ∙ touch-axis axis t cs c v b (not-near axis s) x.there l x.within x.on in
    let one : made_one axis counting seen c ≡ task ∷ [] = ap (task_at axis counting c) (read-found axis tested t wants (length (enc t)) c.pre l wc) ∙ ap listed look.1 in
    record {
      task = task;
      made_in = made-in axis counting seen cs c task x.there (subst (λ z. In task z) (sym one) (inl refl));
      finds = (seen_of axis tested t v, read-in axis tested t wants (length (enc t)) v x.within wv, x.lets_in, look.2, x.is ∙ ap (λ z. record { pre = v; attr = 0; iter = z }) (sym (task-iter axis (iter_for counting c) c.attr (seen_of axis tested t c.pre) task look.1)));
    }
