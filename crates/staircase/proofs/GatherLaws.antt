-- The rows that are gathered are those on the axis, on each axis.
use Rattle.std.proofs.Common.{◌≡◌, ℕ, zero, suc, ◌<◌, Bool, true, false, ◌||◌, List, length, refl, sym, ap, ◌∙◌, subst, arith, Option}
use Rattle.std.specs.Prelude.{nat_eq}
use Rattle.std.proofs.lemmas.Bool.{ne_eqb, or_right, false≢true}
use Rattle.xq_base.specs.declared.item.TextId.{TextId}
use Rattle.xq_base.specs.declared.axis.Axis.{Axis}
use Rattle.xq_base.specs.declared.axis.Axis.TheVariants as a
use Rattle.xq_base.specs.declared.axis.NodeTest.{NodeTest}
use Rattle.doc_table.specs.Tree.{Tree}
use Rattle.doc_table.specs.Enc.{enc}
use Rattle.doc_table.specs.Axes.{on_axis}
use Rattle.doc_table.specs.Places.{row_path, RowsTell}
use Rattle.doc_table.specs.Touched.{adds_owner, is_context, touched}
use Rattle.doc_table.proofs.Marks.{bridge}
use Rattle.doc_table.proofs.RowNodes.{named_row}
use Rattle.staircase.specs.declared.chain.Start.{Start}
use Rattle.staircase.specs.declared.hits.Hit.{Hit}
use Rattle.staircase.specs.declared.kinds.Ctx.{Ctx}
use Rattle.staircase.specs.declared.seen.Seen.{Seen}
use Rattle.staircase.specs.Chains.{all_starts, lined, onward, row_at, turned, AddsChains, Linked, OnChain}
use Rattle.staircase.specs.Joins.{is_chained, is_near, path_with, place_of, places, AreNodes, Ready, Stands}
use Rattle.staircase.specs.Made.{iter_for, made}
use Rattle.staircase.specs.Parts.{In, AreRows}
use Rattle.staircase.specs.Seen.{seen_of, AllSeen}
use Rattle.staircase.specs.Tasks.{AddsAll, AnyOf, Finds, Gains, lets}
use Rattle.staircase.proofs.RowsRead.{rows_read, read-in, read-ordered, in-read}
use Rattle.staircase.proofs.ChainLaws.{Laid, laid, leads-past, place-of, pre_at}
use Rattle.staircase.proofs.HitGains.{gains-as}
use Rattle.staircase.proofs.LinkLaws.{found-place, lined-at, lined-many, onward-falls, place-found_at, start-within, starts-from, starts-to, turned-within}
use Rattle.staircase.proofs.NearTouched.{near-axis, near-own}
use Rattle.staircase.proofs.PartLaws.{place-in, same-at}
use Rattle.staircase.proofs.RowHits.{context-row, stands-from, stands-to, touch-axis, touch-own}
use Rattle.staircase.proofs.ChainAxes.{chain-on, on-chain}

pub row-of : (axis : Axis) (t : Tree TextId) (cs : List Ctx) → RowsTell t → AreNodes t cs → (c : Ctx) → In c cs → c.pre < length (enc t)
row-of axis t cs b nodes c i = named_row t (place_of c) b (nodes c i)

abbrev pub wanted : Axis → Tree TextId → List Ctx → ℕ → Bool
wanted axis t cs = touched axis t (places cs)

-- ---- the list of rows that were read

pub ready-rows : (axis : Axis) (test : NodeTest) (t : Tree TextId) (cs : List Ctx) (seen : List Seen) → length (enc t) < 4294967296 → seen ≡ rows_read axis test t (wanted axis t cs) (length (enc t)) → AreRows seen
ready-rows axis test t cs seen n e = subst AreRows (sym e) (read-ordered axis test t (wanted axis t cs) (bridge t) n)

pub ready-seen : (axis : Axis) (test : NodeTest) (t : Tree TextId) (cs : List Ctx) (seen : List Seen) → seen ≡ rows_read axis test t (wanted axis t cs) (length (enc t)) → AllSeen axis test t seen
ready-seen axis test t cs seen e s i =
    let r = in-read axis test t (wanted axis t cs) (length (enc t)) s (subst (λ z. In s z) e i) in
    let pre : s.pre ≡ r.0 = ap (λ (z : Seen). z.pre) r.3 in
    (subst (λ z. z < length (enc t)) (sym pre) r.1, r.3 ∙ ap (seen_of axis test t) (sym pre))

-- a row that is touched was read
pub seen-in : (axis : Axis) (test : NodeTest) (t : Tree TextId) (cs : List Ctx) (rows : List ℕ) (seen : List Seen) → Ready axis test t cs rows seen → (v : ℕ) → v < length (enc t) → touched axis t (places cs) v ≡ true → In (seen_of axis test t v) seen
seen-in axis test t cs rows seen r v l e = subst (λ z. In (seen_of axis test t v) z) (sym r.seen_are) (read-in axis test t (wanted axis t cs) (length (enc t)) v l e)

-- ---- what a step touches

pub own-touched : (axis : Axis) (t : Tree TextId) (cs : List Ctx) (c : ℕ) → c < length (enc t) → is_context axis (places cs) c ≡ true → touched axis t (places cs) c ≡ true
own-touched axis t cs c l e = go (is_near axis) refl
  where
    go : (b : Bool) → is_near axis ≡ b → touched axis t (places cs) c ≡ true
    go true n = near-own axis t cs c (bridge t) n l e
    go false n = touch-own axis t cs c n l e

pub axis-touched : (axis : Axis) (t : Tree TextId) (cs : List Ctx) (c : Ctx) (v : ℕ) → In c cs → c.pre < length (enc t) → v < length (enc t) → on_axis axis (path_with t c.pre c.attr) (row_path t v) ≡ true → touched axis t (places cs) v ≡ true
axis-touched axis t cs c v i l m e = go (is_near axis) refl
  where
    go : (b : Bool) → is_near axis ≡ b → touched axis t (places cs) v ≡ true
    go true n = near-axis axis t cs c v (bridge t) n i l m e
    go false n = touch-axis axis t cs c v (bridge t) n i l m e

-- ---- the axes whose rows stand between two numbers

pub span-gains : (axis : Axis) (test : NodeTest) (t : Tree TextId) (cs : List Ctx) (rows : List ℕ) (seen : List Seen) (counting : Bool) (old new : List Hit) → is_chained axis ≡ false → Ready axis test t cs rows seen → AddsAll seen counting (made axis counting seen cs) old new → Gains (Stands axis test t cs counting) old new
span-gains axis test t cs rows seen counting old new n r = gains-as (AnyOf (Finds seen counting) (made axis counting seen cs)) (Stands axis test t cs counting) old new
    (λ h f. stands-from axis test t cs counting (wanted axis t cs) h f.0 (bridge t) n r.few (row-of axis t cs (bridge t) r.nodes) (subst (λ z. In f.0 (made axis counting z cs)) r.seen_are f.1) (subst (λ z. Finds z counting f.0 h) r.seen_are f.2))
    (λ h s. let f = stands-to axis test t cs counting (wanted axis t cs) h (bridge t) n r.few (row-of axis t cs (bridge t) r.nodes) (λ w m. refl) s in
    (f.task, subst (λ z. In f.task (made axis counting z cs)) (sym r.seen_are) f.made_in, subst (λ z. Finds z counting f.task h) (sym r.seen_are) f.finds))

-- ---- the axes whose rows stand on chains

-- a node with rows on one of these axes is on a row of the context
chain-owner : (axis : Axis) (t : Tree TextId) (c k v : ℕ) → is_chained axis ≡ true → on_axis axis (path_with t c k) (row_path t v) ≡ true → (nat_eq k 0 || adds_owner axis) ≡ true
chain-owner a.Parent t c k v n e = or_right (nat_eq k 0) true refl
chain-owner a.Ancestor t c k v n e = or_right (nat_eq k 0) true refl
chain-owner a.AncestorOrSelf t c k v n e = or_right (nat_eq k 0) true refl
chain-owner a.PrecedingSibling t c zero v n e = refl
chain-owner a.PrecedingSibling t c (suc k) v n e = (let z : nat_eq (suc k) 0 ≡ false = ne_eqb (suc k) 0 (λ q. omega arith) in absurd (false≢true (rw z at e)))
chain-owner a.FollowingSibling t c zero v n e = refl
chain-owner a.FollowingSibling t c (suc k) v n e = (let z : nat_eq (suc k) 0 ≡ false = ne_eqb (suc k) 0 (λ q. omega arith) in absurd (false≢true (rw z at e)))
chain-owner a.SelfNode t c k v n e = absurd (false≢true n)
chain-owner a.Child t c zero v n e = refl
chain-owner a.Child t c (suc k) v n e = (let z : nat_eq (suc k) 0 ≡ false = ne_eqb (suc k) 0 (λ q. omega arith) in absurd (false≢true (rw z at e)))
chain-owner a.Attribute t c k v n e = absurd (false≢true n)
chain-owner a.Descendant t c k v n e = absurd (false≢true n)
chain-owner a.DescendantOrSelf t c k v n e = absurd (false≢true n)
chain-owner a.Following t c k v n e = absurd (false≢true n)
chain-owner a.Preceding t c k v n e = absurd (false≢true n)

module _ (axis : Axis) (test : NodeTest) (t : Tree TextId) (cs : List Ctx) (rows : List ℕ) (seen : List Seen) (counting : Bool) (links : List (Option ℕ)) (chained : is_chained axis ≡ true) (r : Ready axis test t cs rows seen) (linked : Linked axis (lined axis seen) links (length (lined axis seen))) where
  abbrev lines : List Seen
  lines = lined axis seen

  d : Laid axis test t (lined axis seen)
  d = laid axis test t seen (ready-rows axis test t cs seen r.few r.seen_are) (ready-seen axis test t cs seen r.seen_are)

  -- where a row that was found stands in the order of the chains
  stood-at : (k pre : ℕ) → k < length seen → (row_at seen k).pre ≡ pre → (turned axis (length (lined axis seen)) k < length (lined axis seen)) × (pre_at (lined axis seen) (turned axis (length (lined axis seen)) k) ≡ pre)
  stood-at k pre l e = (
    turned-within axis (length (lined axis seen)) k (omega (arith, lined-many axis seen)),
    ap (λ z. pre_at (lined axis seen) (turned axis z k)) (lined-many axis seen) ∙ ap (λ (z : Seen). z.pre) (lined-at axis seen k l) ∙ e,
  )

  chain-stands : (h : Hit) → AnyOf (OnChain (onward axis (lined axis seen) links) counting (lined axis seen)) (all_starts axis counting seen (lined axis seen) links cs) h → Stands axis test t cs counting h
  chain-stands h x =
      let start : Start = x.0 in
      let b = starts-from axis counting seen (lined axis seen) links cs start x.1 in
      let f = found-place seen b.ctx.pre b.place b.found in
      let k : ℕ = turned axis (length (lined axis seen)) b.place in
      let w = stood-at b.place b.ctx.pre f.0 f.1 in
      let s = start-within axis (lined axis seen) links b.ctx.attr k start.place linked w.0 b.begins in
      let m : ℕ = x.2.0 in
      let p = leads-past {step = onward axis (lined axis seen) links} {n = length (lined axis seen)} {k = start.place} {m = m} (onward-falls axis (lined axis seen) links (length (lined axis seen)) linked) (omega (arith, w.0)) x.2.1 in
      let l : m < length (lined axis seen) = omega (arith, w.0) in
      let stood = d.stood m l in
      record {
        ctx = b.ctx;
        there = b.there;
        row = pre_at (lined axis seen) m;
        within = stood.within;
        lets_in = ap (lets counting) (sym stood.is) ∙ x.2.2;
        on = subst (λ z. on_axis axis (path_with t z b.ctx.attr) (row_path t (pre_at (lined axis seen) m)) ≡ true) w.1 (chain-on test t (lined axis seen) links axis chained d linked b.ctx.attr k start.place m w.0 b.begins x.2.1);
        is = x.2.3 ∙ ap (λ z. record { pre = pre_at (lined axis seen) m; attr = 0; iter = z }) b.iter;
      }

  stands-chain : (h : Hit) → Stands axis test t cs counting h → AnyOf (OnChain (onward axis (lined axis seen) links) counting (lined axis seen)) (all_starts axis counting seen (lined axis seen) links cs) h
  stands-chain h x =
      let c : Ctx = x.ctx in
      let lc : c.pre < length (enc t) = row-of axis t cs (bridge t) r.nodes c x.there in
      let own = own-touched axis t cs c.pre lc (context-row axis cs c x.there (chain-owner axis t c.pre c.attr x.row chained x.on)) in
      let p = place-in (seen_of axis test t c.pre) seen (seen-in axis test t cs rows seen r c.pre lc own) in
      let pre : (row_at seen p.0).pre ≡ c.pre = ap (λ (z : Seen). z.pre) (same-at seen p.0 _ (seen_of axis test t c.pre) p.1 ∙ p.2) in
      let found = place-found_at seen p.0 c.pre _ (ready-rows axis test t cs seen r.few r.seen_are).rising p.1 pre in
      let k : ℕ = turned axis (length (lined axis seen)) p.0 in
      let w = stood-at p.0 c.pre p.1 pre in
      let m = read x.row x.within x.on in
      let go = on-chain test t (lined axis seen) links axis chained d linked c.attr k m.0 w.0 m.1
      (λ y l e. read y l (subst (λ z. on_axis axis (path_with t z c.attr) (row_path t y) ≡ true) w.1 e))
      (subst (λ z. on_axis axis (path_with t (pre_at (lined axis seen) k) c.attr) (row_path t z) ≡ true) (sym m.2) (subst (λ z. on_axis axis (path_with t z c.attr) (row_path t x.row) ≡ true) (sym w.1) x.on)) in
      let stood = d.stood m.0 m.1 in
      let is : seen_of axis test t x.row ≡ row_at (lined axis seen) m.0 = ap (seen_of axis test t) (sym m.2) ∙ sym stood.is in (
        record { iter = iter_for counting c; place = go.start },
        starts-to axis counting seen (lined axis seen) links cs c p.0 go.start x.there found go.begins,
        (m.0, go.leads, ap (lets counting) (sym is) ∙ x.lets_in, x.is ∙ ap (λ z. record { pre = z; attr = 0; iter = iter_for counting c }) (sym m.2)),
      )
    where
      read : (v : ℕ) → v < length (enc t) → on_axis axis (path_with t x.ctx.pre x.ctx.attr) (row_path t v) ≡ true → (k : ℕ) × (k < length (lined axis seen)) × (pre_at (lined axis seen) k ≡ v)
      read v l e = place-of axis seen (seen_of axis test t v) (seen-in axis test t cs rows seen r v l (axis-touched axis t cs x.ctx v x.there (row-of axis t cs (bridge t) r.nodes x.ctx x.there) l e))

pub chain-gains : (axis : Axis) (test : NodeTest) (t : Tree TextId) (cs : List Ctx) (rows : List ℕ) (seen : List Seen) (counting : Bool) (old new : List Hit) → is_chained axis ≡ true → Ready axis test t cs rows seen → AddsChains axis counting seen cs old new → Gains (Stands axis test t cs counting) old new
chain-gains axis test t cs rows seen counting old new n r g =
    let linked : Linked axis (lined axis seen) g.links (length (lined axis seen)) = subst (λ z. Linked axis (lined axis seen) g.links z) (sym (lined-many axis seen)) g.linked in
    gains-as (AnyOf (OnChain (onward axis (lined axis seen) g.links) counting (lined axis seen)) (all_starts axis counting seen (lined axis seen) g.links cs)) (Stands axis test t cs counting) old new
    (chain-stands axis test t cs rows seen counting g.links n r linked) (stands-chain axis test t cs rows seen counting g.links n r linked) g.gains
