-- How passes begin, and that they read what the step touches.
use Rattle.std.proofs.Common.{inl, inr, ◌≡◌, ℕ, ◌<◌, ◌≤◌, Bool, true, false, ◌||◌, cond, List, [], length, refl, sym, ap, ◌∙◌, subst, arith, Some, None, Result, Ok, Err, OnOk}
use Rattle.std.specs.Prelude.{nat_eq, nat_lt}
use Rattle.std.proofs.lemmas.Bool.{le-ltb, lt-leb, false≢true}
use Rattle.xq_base.specs.declared.item.TextId.{TextId}
use Rattle.xq_base.specs.declared.axis.Axis.{Axis}
use Rattle.xq_base.specs.declared.axis.Axis.TheVariants as a
use Rattle.doc_table.specs.Tree.{Tree}
use Rattle.doc_table.specs.Enc.{enc}
use Rattle.doc_table.specs.Places.{below, child, RowsTell}
use Rattle.doc_table.proofs.ByRows.{nested}
use Rattle.doc_table.proofs.Kids.{children_stand}
use Rattle.doc_table.proofs.Marks.{bridge}
use Rattle.staircase.specs.declared.frames.Frame.{Frame}
use Rattle.staircase.specs.Frames.{KidsAhead}
use Rattle.staircase.proofs.Children.{Nests}
use Rattle.doc_table.specs.Touched.{picked, touched, touched_rows}
use Rattle.staircase.specs.declared.kinds.Ctx.{Ctx}
use Rattle.staircase.specs.Ahead.{has, any, UpFrom, Comes}
use Rattle.staircase.specs.Hits.{Ascending}
use Rattle.staircase.specs.Joins.{AreNodes, end_of, is_down, is_own, own, owning, places}
use Rattle.staircase.specs.Parts.{In}
use Rattle.staircase.specs.Passes.{Follows, Reached, follows}
use Rattle.staircase.proofs.Picks.{picked-like}
use Rattle.staircase.proofs.SomeTests.{has-in, in-has, rows-sound, rows-complete}
use Rattle.staircase.proofs.TouchedRows.{own-is, own-up, owning-up, child-touches, down-touches, before-touches, after-touches, end-within}

pub comes-all : (n : ℕ) (rows : List ℕ) → UpFrom 0 n rows → Comes rows rows 0 n
comes-all n rows u = record { up = u; same = λ w l. refl }

pub own-start : (axis : Axis) (t : Tree TextId) (cs : List Ctx) (rows : List ℕ) → RowsTell t → Ascending cs → AreNodes t cs → rows ≡ own axis cs → Comes rows rows 0 (length (enc t))
own-start axis t cs rows b up nodes e = comes-all (length (enc t)) rows (subst (λ z. UpFrom 0 (length (enc t)) z) (sym e) (own-up axis t cs b up nodes))

pub own-rows : (axis : Axis) (t : Tree TextId) (cs : List Ctx) (rows : List ℕ) → is_own axis ≡ true → rows ≡ own axis cs → picked (λ v. has v rows) (length (enc t)) ≡ touched_rows axis t (places cs)
own-rows a.SelfNode t cs rows s e = picked-like (λ v. has v rows) (touched a.SelfNode t (places cs)) (length (enc t)) (λ v l. ap (has v) e ∙ own-is a.SelfNode cs v)
own-rows a.Attribute t cs rows s e = picked-like (λ v. has v rows) (touched a.Attribute t (places cs)) (length (enc t)) (λ v l. ap (has v) e ∙ own-is a.Attribute cs v)
own-rows a.Child t cs rows s e = absurd (false≢true s)
own-rows a.Descendant t cs rows s e = absurd (false≢true s)
own-rows a.DescendantOrSelf t cs rows s e = absurd (false≢true s)
own-rows a.Parent t cs rows s e = absurd (false≢true s)
own-rows a.Ancestor t cs rows s e = absurd (false≢true s)
own-rows a.AncestorOrSelf t cs rows s e = absurd (false≢true s)
own-rows a.Following t cs rows s e = absurd (false≢true s)
own-rows a.Preceding t cs rows s e = absurd (false≢true s)
own-rows a.FollowingSibling t cs rows s e = absurd (false≢true s)
own-rows a.PrecedingSibling t cs rows s e = absurd (false≢true s)

pub down-start : (axis : Axis) (t : Tree TextId) (cs : List Ctx) (rows : List ℕ) → RowsTell t → Ascending cs → AreNodes t cs → rows ≡ own axis cs → Reached (enc t) rows rows 0 0
down-start axis t cs rows b up nodes e = record {
  comes = own-start axis t cs rows b up nodes e;
  within = omega arith;
  reached = λ w l. ap (λ z. z || any (λ c. below (enc t) c w) rows) (sym (le-ltb w 0 (omega arith)));
}

down-same : (axis : Axis) (t : Tree TextId) (cs : List Ctx) (v : ℕ) → RowsTell t → UpFrom 0 (length (enc t)) (own axis cs) → is_down axis ≡ true → v < length (enc t) → (has v (own axis cs) || any (λ c. below (enc t) c v) (own axis cs)) ≡ touched axis t (places cs) v
down-same a.Descendant t cs v b u s l = down-touches a.Descendant t cs v b u l
down-same a.DescendantOrSelf t cs v b u s l = down-touches a.DescendantOrSelf t cs v b u l
down-same a.SelfNode t cs v b u s l = absurd (false≢true s)
down-same a.Attribute t cs v b u s l = absurd (false≢true s)
down-same a.Child t cs v b u s l = absurd (false≢true s)
down-same a.Parent t cs v b u s l = absurd (false≢true s)
down-same a.Ancestor t cs v b u s l = absurd (false≢true s)
down-same a.AncestorOrSelf t cs v b u s l = absurd (false≢true s)
down-same a.Following t cs v b u s l = absurd (false≢true s)
down-same a.Preceding t cs v b u s l = absurd (false≢true s)
down-same a.FollowingSibling t cs v b u s l = absurd (false≢true s)
down-same a.PrecedingSibling t cs v b u s l = absurd (false≢true s)

pub down-rows : (axis : Axis) (t : Tree TextId) (cs : List Ctx) (rows : List ℕ) → RowsTell t → Ascending cs → AreNodes t cs → is_down axis ≡ true → rows ≡ own axis cs → picked (λ v. has v rows || any (λ c. below (enc t) c v) rows) (length (enc t)) ≡ touched_rows axis t (places cs)
down-rows axis t cs rows b up nodes s e = picked-like (λ v. has v rows || any (λ c. below (enc t) c v) rows) (touched axis t (places cs)) (length (enc t))
    (λ v l. ap (λ z. has v z || any (λ c. below (enc t) c v) z) e ∙ down-same axis t cs v b (own-up axis t cs b up nodes) s l)

pub before-start : (axis : Axis) (t : Tree TextId) (cs : List Ctx) (rows : List ℕ) (end : ℕ) → RowsTell t → Ascending cs → AreNodes t cs → rows ≡ own axis cs → end ≡ end_of rows → end ≤ length (enc t)
before-start axis t cs rows end b up nodes e f = subst (λ z. z ≤ length (enc t)) (sym (f ∙ ap end_of e)) (end-within 0 (length (enc t)) (own axis cs) (own-up axis t cs b up nodes))

pub before-rows : (axis : Axis) (t : Tree TextId) (cs : List Ctx) (rows : List ℕ) (end : ℕ) → RowsTell t → length (enc t) < 4294967296 → Ascending cs → AreNodes t cs → axis ≡ a.Preceding → rows ≡ own axis cs → end ≡ end_of rows → picked (λ v. nat_lt v end) (length (enc t)) ≡ touched_rows axis t (places cs)
before-rows axis t cs rows end b n up nodes s e f =
    let own_is : rows ≡ own a.Preceding cs = e ∙ ap (λ z. own z cs) s in
    picked-like (λ v. nat_lt v end) (touched a.Preceding t (places cs)) (length (enc t))
    (λ v l. ap (nat_lt v) (f ∙ ap end_of own_is) ∙ before-touches a.Preceding t cs v n (own-up a.Preceding t cs b up nodes))
    ∙ ap (λ z. touched_rows z t (places cs)) (sym s)

owner-row : (cs : List Ctx) (w : ℕ) → has w (owning cs) ≡ true → has w (own a.Following cs) ≡ true
owner-row cs w h =
    let r = rows-sound false true None cs w (in-has w (owning cs) h) in
    has-in w (own a.Following cs) (subst (λ z. In z (own a.Following cs)) r.2 (elim (rows-complete true true None cs r.0 r.1 (both (nat_eq r.0.attr 0))) [ inl x ↦ absurd (none-some x) | inr x ↦ x ]))
  where
    both : (b : Bool) → cond b true true ≡ true
    both true = refl
    both false = refl

    none-some : {x : ℕ} → None ≡ Some x → ⊥
    none-some e = cc

pub after-start : (axis : Axis) (t : Tree TextId) (cs : List Ctx) (rows owners : List ℕ) → RowsTell t → length (enc t) < 4294967296 → Ascending cs → AreNodes t cs → axis ≡ a.Following → rows ≡ own axis cs → owners ≡ owning cs → Follows (enc t) rows rows owners owners 4294967295 0
after-start axis t cs rows owners b n up nodes s e f =
    let own_is : rows ≡ own a.Following cs = e ∙ ap (λ z. own z cs) s in
    record {
      comes = own-start axis t cs rows b up nodes e;
      owning = comes-all (length (enc t)) owners (subst (λ z. UpFrom 0 (length (enc t)) z) (sym f) (owning-up t cs b up nodes));
      own = λ w h. ap (has w) own_is ∙ owner-row cs w (sym (ap (has w) f) ∙ h);
      beyond_rows = λ w l m. ap (λ z. z || (any (λ c. follows (enc t) c w) rows || any (λ c. nat_lt c w) owners)) (sym (lt-leb 4294967295 w (omega arith)));
    }

pub after-rows : (axis : Axis) (t : Tree TextId) (cs : List Ctx) (rows owners : List ℕ) → RowsTell t → AreNodes t cs → axis ≡ a.Following → rows ≡ own axis cs → owners ≡ owning cs → picked (λ v. has v rows || (any (λ c. follows (enc t) c v) rows || any (λ c. nat_lt c v) owners)) (length (enc t)) ≡ touched_rows axis t (places cs)
after-rows axis t cs rows owners b nodes s e f =
    let own_is : rows ≡ own a.Following cs = e ∙ ap (λ z. own z cs) s in
    picked-like (λ v. has v rows || (any (λ c. follows (enc t) c v) rows || any (λ c. nat_lt c v) owners)) (touched a.Following t (places cs)) (length (enc t))
    (λ v l. ap (λ z. has v z || (any (λ c. follows (enc t) c v) z || any (λ c. nat_lt c v) owners)) own_is ∙ ap (λ z. has v (own a.Following cs) || (any (λ c. follows (enc t) c v) (own a.Following cs) || any (λ c. nat_lt c v) z)) f ∙ after-touches t cs v b nodes l)
    ∙ ap (λ z. touched_rows z t (places cs)) (sym s)

-- ---- child

pub on-ok : {T E P Q : Type 0} (r : Result T E) → OnOk r P → (P → Q) → OnOk r Q
on-ok (Ok x) p f = f p
on-ok (Err e) p f = p

pub tree-nests : (t : Tree TextId) → Nests (enc t)
tree-nests t = record { kids = children_stand t; ends = (bridge t).ends; nested = λ u w a b l. nested t u w (bridge t) a b l }

pub kids-start : (axis : Axis) (t : Tree TextId) (cs : List Ctx) (rows : List ℕ) (fs : List Frame) → RowsTell t → Ascending cs → AreNodes t cs → rows ≡ own axis cs → fs ≡ [] → KidsAhead (enc t) rows rows fs 0
kids-start axis t cs rows fs b up nodes e f = subst (λ z. KidsAhead (enc t) rows rows z 0) (sym f) (record { comes = own-start axis t cs rows b up nodes e; frames_ok = tt; kids = λ w l. refl })

pub kids-rows : (axis : Axis) (t : Tree TextId) (cs : List Ctx) (rows : List ℕ) → RowsTell t → Ascending cs → AreNodes t cs → axis ≡ a.Child → rows ≡ own axis cs → picked (λ v. has v rows || any (λ c. child (enc t) c v) rows) (length (enc t)) ≡ touched_rows axis t (places cs)
kids-rows axis t cs rows b up nodes s e =
    let own_is : rows ≡ own a.Child cs = e ∙ ap (λ z. own z cs) s in
    picked-like (λ v. has v rows || any (λ c. child (enc t) c v) rows) (touched a.Child t (places cs)) (length (enc t))
    (λ v l. ap (λ z. has v z || any (λ c. child (enc t) c v) z) own_is ∙ child-touches a.Child t cs v b (own-up a.Child t cs b up nodes) l)
    ∙ ap (λ z. touched_rows z t (places cs)) (sym s)
