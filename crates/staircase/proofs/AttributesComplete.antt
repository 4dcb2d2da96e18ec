-- The attributes on an axis are all gathered.
use Rattle.std.proofs.Common.{inl, inr, ◌⊎◌, ◌≡◌, ℕ, suc, ◌+◌, ◌-◌, ◌<◌, Bool, true, false, not, ◌&&◌, cond, List, [], length, refl, sym, ap, ◌∙◌, subst, arith, Some}
use Rattle.std.specs.Prelude.{nat_eq}
use Rattle.std.proofs.lemmas.Bool.{eq-eqb, ne_eqb, eqb-true, and_parts, or_cases, false≢true, true≢false}
use Rattle.xq_base.specs.declared.item.TextId.{TextId}
use Rattle.xq_base.specs.declared.axis.Axis.{Axis}
use Rattle.xq_base.specs.declared.axis.Axis.TheVariants as a
use Rattle.xq_base.specs.declared.axis.NodeTest.{NodeTest}
use Rattle.doc_table.specs.Tree.{Tree, AttributeNode}
use Rattle.doc_table.specs.Paths.{Path, is_same, is_prefix, is_less, is_child, have_one_parent, nth_pair, label_at}
use Rattle.doc_table.specs.Enc.{enc, line_in}
use Rattle.doc_table.specs.Axes.{id_eq, on_axis, on_self, on_descendant, on_ancestor, selects, selects_label, test_of}
use Rattle.doc_table.specs.Places.{path_at, names_node, node_at, is_lone, RowsTell}
use Rattle.doc_table.specs.Attributes.{attributes_apart}
use Rattle.doc_table.proofs.ByRows.{same}
use Rattle.doc_table.proofs.RowNodes.{named_row, lone_parts, attribute_label, owner_element}
use Rattle.staircase.specs.declared.hits.Hit.{Hit}
use Rattle.staircase.specs.declared.kinds.Ctx.{Ctx}
use Rattle.staircase.specs.declared.seen.Seen.{Seen}
use Rattle.staircase.specs.Attributes.{attribute_part, attribute_parts, holds_self, is_attribute_axis}
use Rattle.staircase.specs.Joins.{AreNodes, Reaches, place_of}
use Rattle.staircase.specs.Made.{row_found}
use Rattle.staircase.specs.Parts.{In}
use Rattle.staircase.specs.Seen.{seen_of, is_element}
use Rattle.staircase.proofs.AttributesSound.{selects-pair, to-hit, to-all, in-attribute_parts}

-- a node whose axis holds an attribute: the attribute itself, or its row
abbrev pub Holds : Axis → Ctx → Ctx → Type 0
Holds axis c h = (c.pre ≡ h.pre) × (((holds_self axis ≡ true) × (c.attr ≡ h.attr)) ⊎ ((axis ≡ a.Attribute) × (c.attr ≡ 0)))

no-and : (x y : Bool) → ((x && false) && y) ≡ true → ⊥
no-and true y e = false≢true e
no-and false y e = false≢true e

no-and3 : (x y z : Bool) → (((x && false) && y) && z) ≡ true → ⊥
no-and3 true y z e = false≢true e
no-and3 false y z e = false≢true e

-- two rows of one path, and one attribute number
same-place : (t : Tree TextId) (c h : Ctx) → RowsTell t → c.pre < length (enc t) → h.pre < length (enc t) → on_self (record { steps = path_at t c.pre; attr = c.attr }) (record { steps = path_at t h.pre; attr = h.attr }) ≡ true → (c.pre ≡ h.pre) × (c.attr ≡ h.attr)
same-place t c h b l m e =
    let p = and_parts (is_same (path_at t c.pre) (path_at t h.pre)) (nat_eq c.attr h.attr) e in
    (eqb-true c.pre h.pre (sym (same t c.pre h.pre b l m) ∙ p.0), eqb-true c.attr h.attr p.1)

holds-plain : (axis : Axis) (t : Tree TextId) (c h : Ctx) → RowsTell t → c.pre < length (enc t) → h.pre < length (enc t) → nat_eq h.attr 0 ≡ false → on_axis axis (record { steps = path_at t c.pre; attr = c.attr }) (record { steps = path_at t h.pre; attr = h.attr }) ≡ true → Holds axis c h
holds-plain a.SelfNode t c h b l m z e = (let p = same-place t c h b l m e in (p.0, inl (refl, p.1)))
holds-plain a.DescendantOrSelf t c h b l m z e = elim (or_cases (on_descendant (record { steps = path_at t c.pre; attr = c.attr }) (record { steps = path_at t h.pre; attr = h.attr })) (on_self (record { steps = path_at t c.pre; attr = c.attr }) (record { steps = path_at t h.pre; attr = h.attr })) e) [
  | inl d ↦ absurd (no-and3 (nat_eq c.attr 0) (is_prefix (path_at t c.pre) (path_at t h.pre)) (not (is_same (path_at t c.pre) (path_at t h.pre))) (subst (λ x. (((nat_eq c.attr 0 && x) && is_prefix (path_at t c.pre) (path_at t h.pre)) && not (is_same (path_at t c.pre) (path_at t h.pre))) ≡ true) z d))
  | inr d ↦ (let p = same-place t c h b l m d in (p.0, inl (refl, p.1)))
]
holds-plain a.AncestorOrSelf t c h b l m z e = elim (or_cases (on_ancestor (record { steps = path_at t c.pre; attr = c.attr }) (record { steps = path_at t h.pre; attr = h.attr })) (on_self (record { steps = path_at t c.pre; attr = c.attr }) (record { steps = path_at t h.pre; attr = h.attr })) e) [
  | inl d ↦ absurd (false≢true (subst (λ x. ((x && is_prefix (path_at t h.pre) (path_at t c.pre)) && not (nat_eq c.attr 0 && is_same (path_at t h.pre) (path_at t c.pre))) ≡ true) z d))
  | inr d ↦ (let p = same-place t c h b l m d in (p.0, inl (refl, p.1)))
]
holds-plain a.Attribute t c h b l m z e =
    let p = and_parts (nat_eq c.attr 0 && not (nat_eq h.attr 0)) (is_same (path_at t c.pre) (path_at t h.pre)) e in
    let q = and_parts (nat_eq c.attr 0) (not (nat_eq h.attr 0)) p.0 in
    (eqb-true c.pre h.pre (sym (same t c.pre h.pre b l m) ∙ p.1), inr (refl, eqb-true c.attr 0 q.0))
holds-plain a.Child t c h b l m z e = absurd (no-and (nat_eq c.attr 0) (is_child (path_at t c.pre) (path_at t h.pre)) (subst (λ x. ((nat_eq c.attr 0 && x) && is_child (path_at t c.pre) (path_at t h.pre)) ≡ true) z e))
holds-plain a.Descendant t c h b l m z e = absurd (no-and3 (nat_eq c.attr 0) (is_prefix (path_at t c.pre) (path_at t h.pre)) (not (is_same (path_at t c.pre) (path_at t h.pre))) (subst (λ x. (((nat_eq c.attr 0 && x) && is_prefix (path_at t c.pre) (path_at t h.pre)) && not (is_same (path_at t c.pre) (path_at t h.pre))) ≡ true) z e))
holds-plain a.FollowingSibling t c h b l m z e = absurd (no-and3 (nat_eq c.attr 0) (have_one_parent (path_at t c.pre) (path_at t h.pre)) (is_less (path_at t c.pre) (path_at t h.pre)) (subst (λ x. (((nat_eq c.attr 0 && x) && have_one_parent (path_at t c.pre) (path_at t h.pre)) && is_less (path_at t c.pre) (path_at t h.pre)) ≡ true) z e))
holds-plain a.PrecedingSibling t c h b l m z e = absurd (no-and3 (nat_eq c.attr 0) (have_one_parent (path_at t c.pre) (path_at t h.pre)) (is_less (path_at t h.pre) (path_at t c.pre)) (subst (λ x. (((nat_eq c.attr 0 && x) && have_one_parent (path_at t c.pre) (path_at t h.pre)) && is_less (path_at t h.pre) (path_at t c.pre)) ≡ true) z e))
holds-plain a.Parent t c h b l m z e = absurd (first-false (nat_eq h.attr 0) _ z e)
  where
    first-false : (x y : Bool) → x ≡ false → (x && y) ≡ true → ⊥
    first-false true y z e = true≢false z
    first-false false y z e = false≢true e
holds-plain a.Ancestor t c h b l m z e = absurd (first-false (nat_eq h.attr 0) _ _ z e)
  where
    first-false : (x y w : Bool) → x ≡ false → ((x && y) && w) ≡ true → ⊥
    first-false true y w z e = true≢false z
    first-false false y w z e = false≢true e
holds-plain a.Following t c h b l m z e = absurd (first-false (nat_eq h.attr 0) _ _ z e)
  where
    first-false : (x y w : Bool) → x ≡ false → ((x && y) && w) ≡ true → ⊥
    first-false true y w z e = true≢false z
    first-false false y w z e = false≢true e
holds-plain a.Preceding t c h b l m z e = absurd (first-false (nat_eq h.attr 0) _ _ z e)
  where
    first-false : (x y w : Bool) → x ≡ false → ((x && y) && w) ≡ true → ⊥
    first-false true y w z e = true≢false z
    first-false false y w z e = false≢true e

abbrev root-path : Path
root-path = record { steps = []; attr = 0 }

holds-lone : (axis : Axis) → on_axis axis root-path root-path ≡ true → holds_self axis ≡ true
holds-lone a.SelfNode e = refl
holds-lone a.DescendantOrSelf e = refl
holds-lone a.AncestorOrSelf e = refl
holds-lone a.Attribute e = absurd (false≢true e)
holds-lone a.Child e = absurd (false≢true e)
holds-lone a.Descendant e = absurd (false≢true e)
holds-lone a.Parent e = absurd (false≢true e)
holds-lone a.Ancestor e = absurd (false≢true e)
holds-lone a.Following e = absurd (false≢true e)
holds-lone a.Preceding e = absurd (false≢true e)
holds-lone a.FollowingSibling e = absurd (false≢true e)
holds-lone a.PrecedingSibling e = absurd (false≢true e)

holds : (axis : Axis) (t : Tree TextId) (c h : Ctx) → RowsTell t → names_node t (place_of c) ≡ true → names_node t (place_of h) ≡ true → 0 < h.attr → on_axis axis (node_at t (place_of c)) (node_at t (place_of h)) ≡ true → Holds axis c h
holds axis t c h b n m z e = go (is_lone t) refl
  where
    go : (d : Bool) → is_lone t ≡ d → Holds axis c h
    go true l =
        let p = lone_parts t (place_of c) l n in
        let q = lone_parts t (place_of h) l m in
        let from : node_at t (place_of c) ≡ root-path = ap (λ x. cond x root-path (record { steps = path_at t c.pre; attr = c.attr })) l in
        let to : node_at t (place_of h) ≡ root-path = ap (λ x. cond x root-path (record { steps = path_at t h.pre; attr = h.attr })) l in
        (p.0 ∙ sym q.0, inl (holds-lone axis (subst (λ x. on_axis axis x root-path ≡ true) from (subst (λ x. on_axis axis (node_at t (place_of c)) x ≡ true) to e)), p.1 ∙ sym q.1))
    go false l =
        let from : node_at t (place_of c) ≡ record { steps = path_at t c.pre; attr = c.attr } = ap (λ x. cond x root-path (record { steps = path_at t c.pre; attr = c.attr })) l in
        let to : node_at t (place_of h) ≡ record { steps = path_at t h.pre; attr = h.attr } = ap (λ x. cond x root-path (record { steps = path_at t h.pre; attr = h.attr })) l in
        holds-plain axis t c h b (named_row t (place_of c) b n) (named_row t (place_of h) b m) (ne_eqb h.attr 0 (λ x. omega arith))
        (subst (λ x. on_axis axis x (record { steps = path_at t h.pre; attr = h.attr }) ≡ true) from (subst (λ x. on_axis axis (node_at t (place_of c)) x ≡ true) to e))

pub attributes-complete : (axis : Axis) (tested : NodeTest) (t : Tree TextId) (seen : List Seen) (cs : List Ctx) (h : Ctx) → RowsTell t → attributes_apart t ≡ true → AreNodes t cs
    → ((c : Ctx) → In c cs → axis ≡ a.Attribute → c.attr ≡ 0 → row_found seen c.pre ≡ Some (seen_of axis tested t c.pre))
    → names_node t (place_of h) ≡ true → 0 < h.attr → Reaches axis tested t cs h → In (record { pre = h.pre; attr = h.attr; iter = h.iter }) (attribute_parts axis tested t seen cs)
attributes-complete axis tested t seen cs h b s nodes found name z r =
    let c : Ctx = r.0 in
    let p = and_parts (on_axis axis (node_at t (place_of c)) (node_at t (place_of h))) (selects_label id_eq axis (test_of tested) (label_at t (node_at t (place_of h)))) r.3 in
    let q = selects-pair axis tested (nth_pair (line_in (enc t) h.pre).attributes h.attr) (sym (ap (selects_label id_eq axis (test_of tested)) (attribute_label t (place_of h) b s name z)) ∙ p.1) in
    let w = holds axis t c h b (nodes c r.1) name z p.0 in
    let hit : Hit = record { pre = h.pre; attr = h.attr; iter = h.iter } in
    in-attribute_parts axis tested t seen cs c hit r.1 (elim w.1 [
      | inl o ↦ itself c r.2 q.0 q.1 q.2 w.0 o.0 o.1
      | inr o ↦ of-row c r.1 r.2 q.0 q.1 q.2 w.0 o.0 o.1
    ])
  where
    itself : (c : Ctx) → c.iter ≡ h.iter → (x : TextId × TextId) → nth_pair (line_in (enc t) h.pre).attributes h.attr ≡ Some x → selects id_eq axis (test_of tested) AttributeNode (Some x.0) ≡ true → c.pre ≡ h.pre → holds_self axis ≡ true → c.attr ≡ h.attr → In (record { pre = h.pre; attr = h.attr; iter = h.iter }) (attribute_part axis tested t seen c)
    itself c e x q f p o d =
        let zero : nat_eq c.attr 0 ≡ false = ne_eqb c.attr 0 (λ y. omega (arith, d)) in
        let pair : nth_pair (line_in (enc t) c.pre).attributes c.attr ≡ Some x = ap (λ y. nth_pair (line_in (enc t) y).attributes c.attr) p ∙ ap (nth_pair (line_in (enc t) h.pre).attributes) d ∙ q in
        let same_hit : record { pre = h.pre; attr = h.attr; iter = h.iter } ≡ record { pre = c.pre; attr = c.attr; iter = c.iter } = ap (λ y. record { pre = y; attr = h.attr; iter = h.iter }) (sym p) ∙ ap (λ y. record { pre = c.pre; attr = y; iter = h.iter }) (sym d) ∙ ap (λ y. record { pre = c.pre; attr = c.attr; iter = y }) (sym e) in
        subst (λ (y : Hit). In y (attribute_part axis tested t seen c)) (sym same_hit) (rw (zero, o, pair) (to-hit axis tested c c.attr x f))

    of-row : (c : Ctx) → In c cs → c.iter ≡ h.iter → (x : TextId × TextId) → nth_pair (line_in (enc t) h.pre).attributes h.attr ≡ Some x → selects id_eq axis (test_of tested) AttributeNode (Some x.0) ≡ true → c.pre ≡ h.pre → axis ≡ a.Attribute → c.attr ≡ 0 → In (record { pre = h.pre; attr = h.attr; iter = h.iter }) (attribute_part axis tested t seen c)
    of-row c i e x q f p o d =
        let zero : nat_eq c.attr 0 ≡ true = eq-eqb c.attr 0 d in
        let is_axis : is_attribute_axis axis ≡ true = ap is_attribute_axis o in
        let own = found c i o d in
        let kind : is_element (line_in (enc t) c.pre).kind ≡ true = ap (λ y. is_element (line_in (enc t) y).kind) p ∙ ap is_element (owner_element t (place_of h) name z) in
        let place : ℕ = h.attr - 1 in
        let number : h.attr ≡ suc place = omega arith in
        let one : 1 + place ≡ h.attr = omega arith in
        let pair : nth_pair (line_in (enc t) c.pre).attributes (suc place) ≡ Some x = ap (λ y. nth_pair (line_in (enc t) y).attributes (suc place)) p ∙ ap (nth_pair (line_in (enc t) h.pre).attributes) (sym number) ∙ q in
        let same_hit : record { pre = h.pre; attr = h.attr; iter = h.iter } ≡ record { pre = c.pre; attr = 1 + place; iter = c.iter } = ap (λ y. record { pre = y; attr = h.attr; iter = h.iter }) (sym p) ∙ ap (λ y. record { pre = c.pre; attr = y; iter = h.iter }) (sym one) ∙ ap (λ y. record { pre = c.pre; attr = 1 + place; iter = y }) (sym e) in
        subst (λ (y : Hit). In y (attribute_part axis tested t seen c)) (sym same_hit) (rw (zero, is_axis, own, kind) (to-all axis tested c 1 (line_in (enc t) c.pre).attributes place x pair f))
