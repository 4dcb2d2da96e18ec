-- The attributes on an axis are those that are gathered.
use Rattle.std.proofs.Common.{inl, inr, ◌≡◌, ℕ, zero, suc, ◌+◌, ◌<◌, Bool, true, false, cond, List, [], ◌∷◌, length, refl, sym, ap, ◌∙◌, subst, arith, Option, Some, None}
use Rattle.std.specs.Prelude.{nat_eq}
use Rattle.std.proofs.lemmas.Bool.{eq-eqb, ne_eqb, eqb-true, eqb-false, lt-ltb, le-leb, and_from, or_right, false≢true}
use Rattle.xq_base.specs.declared.item.TextId.{TextId}
use Rattle.xq_base.specs.declared.axis.Axis.{Axis}
use Rattle.xq_base.specs.declared.axis.Axis.TheVariants as a
use Rattle.xq_base.specs.declared.axis.NodeTest.{NodeTest}
use Rattle.doc_table.specs.Tree.{Tree, AttributeNode}
use Rattle.doc_table.specs.Paths.{Path, is_same, is_prefix, nth_pair, label_at, label_of_pair}
use Rattle.doc_table.specs.Enc.{enc, line_in}
use Rattle.doc_table.specs.Axes.{id_eq, on_axis, on_self, on_attribute, on_descendant, on_ancestor, selects, selects_label, test_of, steps_to}
use Rattle.doc_table.specs.Places.{Place, path_at, names_node, node_at, is_lone, RowsTell}
use Rattle.doc_table.specs.Attributes.{attributes_apart}
use Rattle.doc_table.proofs.RowNodes.{row_not_named, named_row, attribute_label}
use Rattle.staircase.specs.declared.hits.Hit.{Hit}
use Rattle.staircase.specs.declared.kinds.Ctx.{Ctx}
use Rattle.staircase.specs.declared.seen.Seen.{Seen}
use Rattle.staircase.specs.Attributes.{all_hits, attribute_hit, attribute_part, attribute_parts, holds_self, is_attribute_axis, own_hit, row_hits}
use Rattle.staircase.specs.Hits.{ctx_of}
use Rattle.staircase.specs.Joins.{AreNodes, Reaches, place_of}
use Rattle.staircase.specs.Made.{row_found}
use Rattle.staircase.specs.Parts.{In}
use Rattle.staircase.proofs.Elements.{in-left, in-right, in-parts}

-- ---- gathered attributes

pub record Gathered (axis : Axis) (tested : NodeTest) (c : Ctx) (k : ℕ) (o : Option (TextId × TextId)) (h : Hit) : Type 0 where
  pub pair : TextId × TextId
  pub is_pair : o ≡ Some pair
  pub passes : selects id_eq axis (test_of tested) AttributeNode (Some pair.0) ≡ true
  pub is : h ≡ record { pre = c.pre; attr = k; iter = c.iter }

hit-from : (axis : Axis) (tested : NodeTest) (c : Ctx) (k : ℕ) (x : TextId × TextId) (h : Hit) → In h (attribute_hit axis tested c k x.0) → Gathered axis tested c k (Some x) h
hit-from axis tested c k x h i = go (selects id_eq axis (test_of tested) AttributeNode (Some x.0)) refl i
  where
    go : (b : Bool) → selects id_eq axis (test_of tested) AttributeNode (Some x.0) ≡ b → In h (cond b (record { pre = c.pre; attr = k; iter = c.iter } ∷ []) []) → Gathered axis tested c k (Some x) h
    go true e i = elim i [ inl q ↦ record { pair = x; is_pair = refl; passes = e; is = q } | inr r ↦ absurd r ]
    go false e i = absurd i

own-from : (axis : Axis) (tested : NodeTest) (c : Ctx) (o : Option (TextId × TextId)) (h : Hit) → In h (own_hit axis tested c o) → Gathered axis tested c c.attr o h
own-from axis tested c None h i = absurd i
own-from axis tested c (Some x) h i = hit-from axis tested c c.attr x h i

pub to-hit : (axis : Axis) (tested : NodeTest) (c : Ctx) (k : ℕ) (x : TextId × TextId) → selects id_eq axis (test_of tested) AttributeNode (Some x.0) ≡ true → In (record { pre = c.pre; attr = k; iter = c.iter }) (attribute_hit axis tested c k x.0)
to-hit axis tested c k x e = rw e (inl refl)

record AllGathered (axis : Axis) (tested : NodeTest) (c : Ctx) (first : ℕ) (pairs : List (TextId × TextId)) (h : Hit) : Type 0 where
  place : ℕ
  within : place < length pairs
  gathered : Gathered axis tested c (first + place) (nth_pair pairs (suc place)) h

all-from : (axis : Axis) (tested : NodeTest) (c : Ctx) (first : ℕ) (pairs : List (TextId × TextId)) (h : Hit) → In h (all_hits axis tested c first pairs) → AllGathered axis tested c first pairs h
all-from axis tested c first [] h i = absurd i
all-from axis tested c first (x ∷ pairs) h i = elim (in-parts h (attribute_hit axis tested c first x.0) (all_hits axis tested c (first + 1) pairs) i) [
  | inl y ↦ (let z : first ≡ first + 0 = omega arith in record { place = 0; within = omega arith; gathered = subst (λ k. Gathered axis tested c k (Some x) h) z (hit-from axis tested c first x h y) })
  | inr y ↦ (let r = all-from axis tested c (first + 1) pairs h y in
      let z : (first + 1) + r.place ≡ first + suc r.place = omega arith in
      record { place = suc r.place; within = omega (arith, r.within); gathered = subst (λ k. Gathered axis tested c k (nth_pair pairs (suc r.place)) h) z r.gathered })
]

pub to-all : (axis : Axis) (tested : NodeTest) (c : Ctx) (first : ℕ) (pairs : List (TextId × TextId)) (place : ℕ) (x : TextId × TextId) → nth_pair pairs (suc place) ≡ Some x → selects id_eq axis (test_of tested) AttributeNode (Some x.0) ≡ true → In (record { pre = c.pre; attr = first + place; iter = c.iter }) (all_hits axis tested c first pairs)
to-all axis tested c first [] place x e s = cc
to-all axis tested c first (y ∷ pairs) zero x e s =
    let q : x ≡ y = cc in
    let z : first + 0 ≡ first = omega arith in
    in-left (record { pre = c.pre; attr = first + 0; iter = c.iter }) (attribute_hit axis tested c first y.0) (all_hits axis tested c (first + 1) pairs)
    (subst (λ w. In (record { pre = c.pre; attr = first + 0; iter = c.iter }) (attribute_hit axis tested c first w.0)) q
    (subst (λ k. In (record { pre = c.pre; attr = k; iter = c.iter }) (attribute_hit axis tested c first x.0)) (sym z) (to-hit axis tested c first x s)))
to-all axis tested c first (y ∷ pairs) (suc place) x e s =
    let z : (first + 1) + place ≡ first + suc place = omega arith in
    in-right (record { pre = c.pre; attr = first + suc place; iter = c.iter }) (attribute_hit axis tested c first y.0) (all_hits axis tested c (first + 1) pairs)
    (subst (λ k. In (record { pre = c.pre; attr = k; iter = c.iter }) (all_hits axis tested c (first + 1) pairs)) z (to-all axis tested c (first + 1) pairs place x e s))

pub selects-pair : (axis : Axis) (tested : NodeTest) (o : Option (TextId × TextId)) → selects_label id_eq axis (test_of tested) (label_of_pair o) ≡ true → (x : TextId × TextId) × (o ≡ Some x) × (selects id_eq axis (test_of tested) AttributeNode (Some x.0) ≡ true)
selects-pair axis tested None e = absurd (false≢true e)
selects-pair axis tested (Some x) e = (x, refl, e)

-- ---- what is gathered is on the axis

is-attribute : (axis : Axis) → is_attribute_axis axis ≡ true → axis ≡ a.Attribute
is-attribute a.Attribute e = refl
is-attribute a.SelfNode e = absurd (false≢true e)
is-attribute a.Child e = absurd (false≢true e)
is-attribute a.Descendant e = absurd (false≢true e)
is-attribute a.DescendantOrSelf e = absurd (false≢true e)
is-attribute a.Parent e = absurd (false≢true e)
is-attribute a.Ancestor e = absurd (false≢true e)
is-attribute a.AncestorOrSelf e = absurd (false≢true e)
is-attribute a.Following e = absurd (false≢true e)
is-attribute a.Preceding e = absurd (false≢true e)
is-attribute a.FollowingSibling e = absurd (false≢true e)
is-attribute a.PrecedingSibling e = absurd (false≢true e)

self-on : (axis : Axis) (p : Path) → holds_self axis ≡ true → on_self p p ≡ true → on_axis axis p p ≡ true
self-on a.SelfNode p e s = s
self-on a.DescendantOrSelf p e s = or_right (on_descendant p p) (on_self p p) s
self-on a.AncestorOrSelf p e s = or_right (on_ancestor p p) (on_self p p) s
self-on a.Attribute p e s = absurd (false≢true e)
self-on a.Child p e s = absurd (false≢true e)
self-on a.Descendant p e s = absurd (false≢true e)
self-on a.Parent p e s = absurd (false≢true e)
self-on a.Ancestor p e s = absurd (false≢true e)
self-on a.Following p e s = absurd (false≢true e)
self-on a.Preceding p e s = absurd (false≢true e)
self-on a.FollowingSibling p e s = absurd (false≢true e)
self-on a.PrecedingSibling p e s = absurd (false≢true e)

prefix-self : (p : List ℕ) → is_prefix p p ≡ true
prefix-self [] = refl
prefix-self (i ∷ p) = and_from (nat_eq i i) (is_prefix p p) (eq-eqb i i refl) (prefix-self p)

on-self : (p : Path) → on_self p p ≡ true
on-self p = and_from (is_same p.steps p.steps) (nat_eq p.attr p.attr) (and_from (is_prefix p.steps p.steps) (is_prefix p.steps p.steps) (prefix-self p.steps) (prefix-self p.steps)) (eq-eqb p.attr p.attr refl)

pub record Reached (axis : Axis) (tested : NodeTest) (t : Tree TextId) (cs : List Ctx) (h : Ctx) : Type 0 where
  pub named : names_node t (place_of h) ≡ true
  pub reaches : Reaches axis tested t cs h

passes-label : (axis : Axis) (tested : NodeTest) (o : Option (TextId × TextId)) (x : TextId × TextId) → o ≡ Some x → selects id_eq axis (test_of tested) AttributeNode (Some x.0) ≡ true → selects_label id_eq axis (test_of tested) (label_of_pair o) ≡ true
passes-label axis tested o x e s = ap (λ z. selects_label id_eq axis (test_of tested) (label_of_pair z)) e ∙ s

-- a node that is an attribute, on an axis that holds it
self-sound : (axis : Axis) (tested : NodeTest) (t : Tree TextId) (cs : List Ctx) (c : Ctx) (h : Hit) → RowsTell t → attributes_apart t ≡ true → AreNodes t cs → In c cs → nat_eq c.attr 0 ≡ false → holds_self axis ≡ true → In h (own_hit axis tested c (nth_pair (line_in (enc t) c.pre).attributes c.attr)) → Reached axis tested t cs (ctx_of h)
self-sound axis tested t cs c h b s nodes i z e k =
    let r = own-from axis tested c (nth_pair (line_in (enc t) c.pre).attributes c.attr) h k in
    let ne : c.attr ≡ 0 → ⊥ = eqb-false c.attr 0 z in
    let name = nodes c i in
    let label = attribute_label t (place_of c) b s name (omega (arith, ne)) in
    let p : Path = node_at t (place_of c) in
    let on : steps_to id_eq axis (test_of tested) t p p ≡ true = and_from (on_axis axis p p) (selects_label id_eq axis (test_of tested) (label_at t p)) (self-on axis p e (on-self p)) (ap (selects_label id_eq axis (test_of tested)) label ∙ passes-label axis tested (nth_pair (line_in (enc t) c.pre).attributes c.attr) r.pair r.is_pair r.passes) in
    let own : Reached axis tested t cs c = record { named = name; reaches = (c, i, refl, on) } in
    subst (λ (y : Hit). Reached axis tested t cs (ctx_of y)) (sym r.is) own

-- the attributes of a row
row-sound : (tested : NodeTest) (t : Tree TextId) (cs : List Ctx) (c : Ctx) (h : Hit) → RowsTell t → attributes_apart t ≡ true → AreNodes t cs → In c cs → c.attr ≡ 0 → In h (all_hits a.Attribute tested c 1 (line_in (enc t) c.pre).attributes) → Reached a.Attribute tested t cs (ctx_of h)
row-sound tested t cs c h b s nodes i z k =
    let r = all-from a.Attribute tested c 1 (line_in (enc t) c.pre).attributes h k in
    let j : ℕ = r.place in
    let name : names_node t (record { pre = c.pre; attr = 0 }) ≡ true = subst (λ x. names_node t (record { pre = c.pre; attr = x }) ≡ true) z (nodes c i) in
    go (is_lone t) refl r.place r.within r.gathered name
  where
    go : (d : Bool) → is_lone t ≡ d → (j : ℕ) → j < length (line_in (enc t) c.pre).attributes → Gathered a.Attribute tested c (1 + j) (nth_pair (line_in (enc t) c.pre).attributes (suc j)) h → names_node t (record { pre = c.pre; attr = 0 }) ≡ true → Reached a.Attribute tested t cs (ctx_of h)
    go true l j w g name = absurd (row_not_named t c.pre l name)
    go false l j w g name =
        let one : 1 + j ≡ suc j = omega arith in
        let q : Place = record { pre = c.pre; attr = suc j } in
        let row : c.pre < length (enc t) = named_row t (record { pre = c.pre; attr = 0 }) b name in
        let named : names_node t q ≡ true = rw (l, lt-ltb c.pre (length (enc t)) row, le-leb (suc j) (length (line_in (enc t) c.pre).attributes) w) refl in
        let label = attribute_label t q b s named (omega arith) in
        let from : node_at t (place_of c) ≡ record { steps = path_at t c.pre; attr = 0 } = ap (λ x. cond x (record { steps = []; attr = 0 }) (record { steps = path_at t c.pre; attr = c.attr })) l ∙ ap (λ x. record { steps = path_at t c.pre; attr = x }) z in
        let to : node_at t q ≡ record { steps = path_at t c.pre; attr = suc j } = ap (λ x. cond x (record { steps = []; attr = 0 }) (record { steps = path_at t c.pre; attr = suc j })) l in
        let on : on_attribute (record { steps = path_at t c.pre; attr = 0 }) (record { steps = path_at t c.pre; attr = suc j }) ≡ true = rw (ne_eqb (suc j) 0 (λ x. omega arith), prefix-self (path_at t c.pre)) refl in
        let on2 : on_axis a.Attribute (node_at t (place_of c)) (node_at t q) ≡ true = rw (from, to) on in
        let steps : steps_to id_eq a.Attribute (test_of tested) t (node_at t (place_of c)) (node_at t q) ≡ true = and_from (on_axis a.Attribute (node_at t (place_of c)) (node_at t q)) (selects_label id_eq a.Attribute (test_of tested) (label_at t (node_at t q))) on2 (ap (selects_label id_eq a.Attribute (test_of tested)) label ∙ passes-label a.Attribute tested (nth_pair (line_in (enc t) c.pre).attributes (suc j)) g.pair g.is_pair g.passes) in
        let there : Reached a.Attribute tested t cs (record { iter = c.iter; pre = c.pre; attr = suc j }) = record { named = named; reaches = (c, i, refl, steps) } in
        subst (λ (y : Hit). Reached a.Attribute tested t cs (ctx_of y)) (sym (g.is ∙ ap (λ x. record { pre = c.pre; attr = x; iter = c.iter }) one)) there

part-sound : (axis : Axis) (tested : NodeTest) (t : Tree TextId) (seen : List Seen) (cs : List Ctx) (c : Ctx) (h : Hit) → RowsTell t → attributes_apart t ≡ true → AreNodes t cs → In c cs → In h (attribute_part axis tested t seen c) → Reached axis tested t cs (ctx_of h)
part-sound axis tested t seen cs c h b s nodes i k = go (nat_eq c.attr 0) refl (is_attribute_axis axis) refl (holds_self axis) refl k
  where
    row : axis ≡ a.Attribute → nat_eq c.attr 0 ≡ true → (o : Option Seen) → In h (row_hits axis tested t c o) → Reached axis tested t cs (ctx_of h)
    row e z None k = absurd k
    row e z (Some own) k = at own.element k
      where
        at : (d : Bool) → In h (cond d (all_hits axis tested c 1 (line_in (enc t) c.pre).attributes) []) → Reached axis tested t cs (ctx_of h)
        at true k = subst (λ x. Reached x tested t cs (ctx_of h)) (sym e) (row-sound tested t cs c h b s nodes i (eqb-true c.attr 0 z) (subst (λ x. In h (all_hits x tested c 1 (line_in (enc t) c.pre).attributes)) e k))
        at false k = absurd k

    go : (z : Bool) → nat_eq c.attr 0 ≡ z → (d : Bool) → is_attribute_axis axis ≡ d → (f : Bool) → holds_self axis ≡ f → In h (cond z (cond d (row_hits axis tested t c (row_found seen c.pre)) []) (cond f (own_hit axis tested c (nth_pair (line_in (enc t) c.pre).attributes c.attr)) [])) → Reached axis tested t cs (ctx_of h)
    go true z true d f g k = row (is-attribute axis d) z (row_found seen c.pre) k
    go true z false d f g k = absurd k
    go false z d x true g k = self-sound axis tested t cs c h b s nodes i z g k
    go false z d x false g k = absurd k

parts-in : (axis : Axis) (tested : NodeTest) (t : Tree TextId) (seen : List Seen) (cs : List Ctx) (h : Hit) → In h (attribute_parts axis tested t seen cs) → (c : Ctx) × In c cs × In h (attribute_part axis tested t seen c)
parts-in axis tested t seen [] h k = absurd k
parts-in axis tested t seen (c ∷ cs) h k = elim (in-parts h (attribute_part axis tested t seen c) (attribute_parts axis tested t seen cs) k) [
  | inl x ↦ (c, inl refl, x)
  | inr y ↦ (let r = parts-in axis tested t seen cs h y in (r.0, inr r.1, r.2))
]

pub in-attribute_parts : (axis : Axis) (tested : NodeTest) (t : Tree TextId) (seen : List Seen) (cs : List Ctx) (c : Ctx) (h : Hit) → In c cs → In h (attribute_part axis tested t seen c) → In h (attribute_parts axis tested t seen cs)
in-attribute_parts axis tested t seen [] c h i k = absurd i
in-attribute_parts axis tested t seen (d ∷ cs) c h i k = elim i [
  | inl e ↦ in-left h (attribute_part axis tested t seen d) (attribute_parts axis tested t seen cs) (subst (λ (z : Ctx). In h (attribute_part axis tested t seen z)) e k)
  | inr r ↦ in-right h (attribute_part axis tested t seen d) (attribute_parts axis tested t seen cs) (in-attribute_parts axis tested t seen cs c h r k)
]

pub attributes-sound : (axis : Axis) (tested : NodeTest) (t : Tree TextId) (seen : List Seen) (cs : List Ctx) (h : Hit) → RowsTell t → attributes_apart t ≡ true → AreNodes t cs → In h (attribute_parts axis tested t seen cs) → Reached axis tested t cs (ctx_of h)
attributes-sound axis tested t seen cs h b s nodes k = (let r = parts-in axis tested t seen cs h k in part-sound axis tested t seen cs r.0 h b s nodes r.1 r.2)
