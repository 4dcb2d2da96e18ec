-- The rows that a step touches and what it counts are known by which places are in its context.
use Rattle.std.proofs.Common.{inl, inr, ◌≡◌, ℕ, zero, suc, Bool, true, false, not, ◌&&◌, ◌||◌, List, [], ◌∷◌, length, refl, sym, ap, ◌∙◌}
use Rattle.std.specs.Prelude.{nat_eq, nat_le}
use Rattle.std.proofs.lemmas.Bool.{false≢true}
use Rattle.xq_base.specs.declared.axis.Axis.{Axis}
use Rattle.xq_base.specs.declared.axis.Axis.TheVariants as a
use Rattle.doc_table.specs.Tree.{Tree}
use Rattle.doc_table.specs.Enc.{enc}
use Rattle.doc_table.specs.Axes.{on_axis, on_child, on_descendant, on_following, on_following_sibling}
use Rattle.doc_table.specs.Places.{Place, row_path, names_node, node_at}
use Rattle.doc_table.specs.Ascending.{In}
use Rattle.doc_table.specs.Touched.{picked, some_below, some_place, adds_owner, is_context, some_context, on_way, place_path, touched, touched_rows, is_result, counts}
use Rattle.doc_table.proofs.StrictOrders.{same-bools}

some-of : (p : Place → Bool) (cs : List Place) → some_place p cs ≡ true → (c : Place) × In c cs × (p c ≡ true)
some-of p [] h = absurd (false≢true h)
some-of p (c ∷ cs) h = at (p c) refl h (λ k. some-of p cs k)
  where
    at : (b : Bool) → p c ≡ b → b || some_place p cs ≡ true → (some_place p cs ≡ true → (d : Place) × In d cs × (p d ≡ true)) → (d : Place) × In d (c ∷ cs) × (p d ≡ true)
    at true e k go = (c, inl refl, e)
    at false e k go = let r = go k in (r.0, inr r.1, r.2)

in-some : (p : Place → Bool) (c : Place) (cs : List Place) → In c cs → p c ≡ true → some_place p cs ≡ true
in-some p c [] h e = absurd h
in-some p c (d ∷ cs) h e = elim h [
  | inl s ↦ ap (λ b. b || some_place p cs) (sym (ap p s) ∙ e)
  | inr k ↦ at (p d) (in-some p c cs k e)
]
  where
    at : (b : Bool) → some_place p cs ≡ true → b || some_place p cs ≡ true
    at true q = refl
    at false q = q

below-like : (p q : ℕ → Bool) (n : ℕ) → ((v : ℕ) → p v ≡ q v) → some_below p n ≡ some_below q n
below-like p q zero f = refl
below-like p q (suc n) f = rw (f n, below-like p q n f) refl

picked-like : (p q : ℕ → Bool) (n : ℕ) → ((v : ℕ) → p v ≡ q v) → picked p n ≡ picked q n
picked-like p q zero f = refl
picked-like p q (suc n) f = rw (f n, picked-like p q n f) refl

module _ {T : Type 0} (t : Tree T) (cs ds : List Place) (same : (p : Place → Bool) → some_place p cs ≡ some_place p ds) where
  context-same : (axis : Axis) (v : ℕ) → is_context axis cs v ≡ is_context axis ds v
  context-same axis v = same (λ c. nat_eq c.pre v && (nat_eq c.attr 0 || adds_owner axis))

  some-same : (axis : Axis) (p : ℕ → Bool) → some_context axis t cs p ≡ some_context axis t ds p
  some-same axis p = below-like (λ c. is_context axis cs c && p c) (λ c. is_context axis ds c && p c) (length (enc t)) (λ c. ap (λ b. b && p c) (context-same axis c))

  touched-same : (axis : Axis) (v : ℕ) → touched axis t cs v ≡ touched axis t ds v
  touched-same a.SelfNode v = context-same a.SelfNode v
  touched-same a.Attribute v = context-same a.Attribute v
  touched-same a.Child v = rw (context-same a.Child v, some-same a.Child (λ p. on_child (row_path t p) (row_path t v))) refl
  touched-same a.Descendant v = rw (context-same a.Descendant v, some-same a.Descendant (λ p. on_descendant (row_path t p) (row_path t v))) refl
  touched-same a.DescendantOrSelf v = rw (context-same a.DescendantOrSelf v, some-same a.DescendantOrSelf (λ p. on_descendant (row_path t p) (row_path t v))) refl
  touched-same a.Following v = rw (context-same a.Following v, same (λ c. on_following (place_path t c) (row_path t v))) refl
  touched-same a.Preceding v = some-same a.Preceding (λ p. nat_le v p)
  touched-same a.Parent v = some-same a.Parent (on_way t v)
  touched-same a.Ancestor v = some-same a.Ancestor (on_way t v)
  touched-same a.AncestorOrSelf v = some-same a.AncestorOrSelf (on_way t v)
  touched-same a.PrecedingSibling v = some-same a.PrecedingSibling (on_way t v)
  touched-same a.FollowingSibling v = rw (some-same a.FollowingSibling (on_way t v), some-same a.FollowingSibling (λ p. on_following_sibling (row_path t p) (row_path t v))) refl

  result-same : (axis : Axis) (v : ℕ) → is_result axis t cs v ≡ is_result axis t ds v
  result-same axis v = ap (λ b. names_node t (record { pre = v; attr = 0 }) && b) (same (λ c. on_axis axis (node_at t c) (node_at t (record { pre = v; attr = 0 }))))

  rows-same : (axis : Axis) → touched_rows axis t cs ≡ touched_rows axis t ds
  rows-same axis = picked-like (touched axis t cs) (touched axis t ds) (length (enc t)) (touched-same axis)

  skipped-same : (axis : Axis) (v : ℕ) → touched axis t cs v && not (is_context axis cs v || is_result axis t cs v) ≡ touched axis t ds v && not (is_context axis ds v || is_result axis t ds v)
  skipped-same axis v = rw (touched-same axis v, context-same axis v, result-same axis v) refl

  counts-same : (axis : Axis) → counts axis t cs ≡ counts axis t ds
  counts-same axis =
      let n = length (enc t) in
      let x = picked-like (is_context axis cs) (is_context axis ds) n (context-same axis) in
      let y = picked-like (is_result axis t cs) (is_result axis t ds) n (result-same axis) in
      let z = picked-like (λ v. touched axis t cs v && not (is_context axis cs v || is_result axis t cs v)) (λ v. touched axis t ds v && not (is_context axis ds v || is_result axis t ds v)) n (skipped-same axis) in
      rw (x, y, z, rows-same axis) refl

same-places : (cs ds : List Place) → ((c : Place) → In c cs → In c ds) → ((c : Place) → In c ds → In c cs) → (p : Place → Bool) → some_place p cs ≡ some_place p ds
same-places cs ds f g p = same-bools (some_place p cs) (some_place p ds)
    (λ h. let r = some-of p cs h in in-some p r.0 ds (f r.0 r.1) r.2)
    (λ h. let r = some-of p ds h in in-some p r.0 cs (g r.0 r.1) r.2)

pub touched-by-places : {T : Type 0} (t : Tree T) (axis : Axis) (cs ds : List Place) → ((c : Place) → In c cs → In c ds) → ((c : Place) → In c ds → In c cs) → touched_rows axis t cs ≡ touched_rows axis t ds
touched-by-places t axis cs ds f g = rows-same t cs ds (same-places cs ds f g) axis

pub counts-by-places : {T : Type 0} (t : Tree T) (axis : Axis) (cs ds : List Place) → ((c : Place) → In c cs → In c ds) → ((c : Place) → In c ds → In c cs) → counts axis t cs ≡ counts axis t ds
counts-by-places t axis cs ds f g = counts-same t cs ds (same-places cs ds f g) axis
