-- What a step finds in one document after another.
use Rattle.std.proofs.Common.{inl, inr, ◌≡◌, ℕ, suc, ◌<◌, Bool, true, false, cond, ◌&&◌, ◌||◌, List, [], ◌∷◌, ◌++◌, map, refl, sym, ap, ◌∙◌, subst, arith}
use Rattle.std.specs.Prelude.{nat_eq, nat_lt}
use Rattle.std.proofs.lemmas.Bool.Decides.{nat_tests}
use Rattle.std.proofs.lemmas.Bool.{false≢true, eqb-true, eq-eqb, lt-ltb}
use Rattle.xq_base.specs.declared.axis.Axis.{Axis}
use Rattle.xq_base.specs.declared.axis.NodeTest.{NodeTest}
use Rattle.xq_base.specs.declared.item.FragKey.{FragKey}
use Rattle.xq_base.specs.declared.item.FragKey.TheVariants as f
use Rattle.xq_base.specs.declared.item.TextId.{TextId}
use Rattle.doc_table.specs.Ascending.{In, AllAfter, Ascends}
use Rattle.doc_table.specs.Axes.{id_eq, test_of, steps_to}
use Rattle.doc_table.specs.Identity.{tree_id_less, id_of_key, place_of}
use Rattle.doc_table.specs.Places.{Place, names_node, node_at}
use Rattle.doc_table.specs.Touched.{touched_rows, counts}
use Rattle.doc_table.specs.Tree.{Tree}
use Rattle.doc_table.proofs.Ascending.{in-left, in-right, in-parts, in-map, in-unmap, ascends-append, ascends-map}
use Rattle.staircase.specs.declared.hits.Hit.{Hit}
use Rattle.staircase.specs.declared.kinds.Ctx.{Ctx}
use Rattle.staircase.specs.Hits.{before, all_after, Ascending, AppendsHits, ctx_of}
use Rattle.staircase.specs.Joins.{place_of as place_in}
use Rattle.staircase.proofs.Elements.{in-contains, contains-in}
use Rattle.plan_eval.specs.declared.entries.Reached.{Reached}
use Rattle.plan_eval.specs.Entries.{is_doc, hit_of, hits_at, hit_place, doc_places, reached_at, AreNamed, AddsFound, reached_less, Leads, AreFound}
use Rattle.plan_eval.proofs.TouchedSets.{touched-by-places, counts-by-places}

-- ---- the entries of a document

pub doc-is : (rank : ℕ) (key : FragKey) → is_doc rank key ≡ true → key ≡ f.Doc rank
doc-is rank (f.Doc n) h = ap f.Doc (eqb-true n rank h)
doc-is rank (f.Built site iter) h = absurd (false≢true h)

pub is-doc : (rank : ℕ) (key : FragKey) → key ≡ f.Doc rank → is_doc rank key ≡ true
is-doc rank key e = ap (is_doc rank) e ∙ eq-eqb rank rank refl

-- an entry of a document
pub record OfDoc (rank : ℕ) (es : List Reached) (h : Hit) : Type 0 where
  pub entry : Reached
  pub there : In entry es
  pub doc : is_doc rank entry.node.frag ≡ true
  pub is : h ≡ hit_of entry

pub from-hits : (rank : ℕ) (es : List Reached) (h : Hit) → In h (hits_at rank es) → OfDoc rank es h
from-hits rank [] h i = absurd i
from-hits rank (e ∷ es) h i = at (is_doc rank e.node.frag) refl i (λ k. more (from-hits rank es h k))
  where
    more : OfDoc rank es h → OfDoc rank (e ∷ es) h
    more o = record { entry = o.entry; there = inr o.there; doc = o.doc; is = o.is }

    at : (b : Bool) → is_doc rank e.node.frag ≡ b → In h (cond b (hit_of e ∷ hits_at rank es) (hits_at rank es)) → (In h (hits_at rank es) → OfDoc rank (e ∷ es) h) → OfDoc rank (e ∷ es) h
    at true q k go = elim k [ inl s ↦ record { entry = e; there = inl refl; doc = q; is = s } | inr l ↦ go l ]
    at false q k go = go k

pub to-hits : (rank : ℕ) (es : List Reached) (e : Reached) → In e es → is_doc rank e.node.frag ≡ true → In (hit_of e) (hits_at rank es)
to-hits rank [] e i d = absurd i
to-hits rank (x ∷ es) e i d = at (is_doc rank x.node.frag) refl (λ k. to-hits rank es e k d)
  where
    at : (b : Bool) → is_doc rank x.node.frag ≡ b → (In e es → In (hit_of e) (hits_at rank es)) → In (hit_of e) (cond b (hit_of x ∷ hits_at rank es) (hits_at rank es))
    at true q go = elim i [ inl s ↦ inl (ap hit_of s) | inr k ↦ inr (go k) ]
    at false q go = elim i [ inl s ↦ absurd (false≢true (sym q ∙ ap (λ z. is_doc rank z.node.frag) (sym s) ∙ d)) | inr k ↦ go k ]

-- ---- the context

context-is : (hs : List Hit) (cs : List Ctx) (a : AppendsHits hs [] cs) → cs ≡ a.more
context-is hs cs a = a.appended

pub from-context : (hs : List Hit) (cs : List Ctx) → AppendsHits hs [] cs → (c : Ctx) → In c cs → (h : Hit) × In h hs × (ctx_of h ≡ c)
from-context hs cs a c i =
    let r = a.sound c (in-contains c a.more (subst (λ z. In c z) a.appended i)) in
    (r.0, contains-in r.0 hs r.1, r.2)

pub to-context : (hs : List Hit) (cs : List Ctx) → AppendsHits hs [] cs → (h : Hit) → In h hs → In (ctx_of h) cs
to-context hs cs a h i = subst (λ z. In (ctx_of h) z) (sym a.appended) (contains-in (ctx_of h) a.more (a.complete h (in-contains h hs i)))

pub context-ascends : (hs : List Hit) (cs : List Ctx) → AppendsHits hs [] cs → Ascending cs
context-ascends hs cs a = subst Ascending (sym a.appended) a.ascending

-- the context has the places of the entries
pub places-there : (rank : ℕ) (es : List Reached) (cs : List Ctx) → AppendsHits (hits_at rank es) [] cs → (p : Place) → In p (map place_in cs) → In p (doc_places rank es)
places-there rank es cs a p i =
    let c = in-unmap place_in p cs i in
    let h = from-context (hits_at rank es) cs a c.0 c.1 in
    subst (λ q. In q (doc_places rank es)) (ap place_in h.2 ∙ sym c.2) (in-map hit_place h.0 (hits_at rank es) h.1)

pub places-back : (rank : ℕ) (es : List Reached) (cs : List Ctx) → AppendsHits (hits_at rank es) [] cs → (p : Place) → In p (doc_places rank es) → In p (map place_in cs)
places-back rank es cs a p i =
    let h = in-unmap hit_place p (hits_at rank es) i in
    subst (λ q. In q (map place_in cs)) (sym h.2) (in-map place_in (ctx_of h.0) cs (to-context (hits_at rank es) cs a h.0 h.1))

pub context-named : (rank : ℕ) (t : Tree TextId) (es : List Reached) (cs : List Ctx) → AreNamed rank t es → AppendsHits (hits_at rank es) [] cs → (c : Ctx) → In c cs → names_node t (place_in c) ≡ true
context-named rank t es cs named a c i =
    let h = from-context (hits_at rank es) cs a c i in
    let o = from-hits rank es h.0 h.1 in
    ap (λ z. names_node t (place_in z)) (sym h.2) ∙ ap (λ z. names_node t (hit_place z)) o.is ∙ named o.entry o.there o.doc

-- so the step touches and counts what it does from the entries
pub context-touched : (axis : Axis) (t : Tree TextId) (rank : ℕ) (es : List Reached) (cs ds : List Ctx) → cs ≡ ds → AppendsHits (hits_at rank es) [] ds → touched_rows axis t (map place_in cs) ≡ touched_rows axis t (doc_places rank es)
context-touched axis t rank es cs ds e a = ap (λ z. touched_rows axis t (map place_in z)) e ∙ touched-by-places t axis (map place_in ds) (doc_places rank es) (places-there rank es ds a) (places-back rank es ds a)

pub context-counts : (axis : Axis) (t : Tree TextId) (rank : ℕ) (es : List Reached) (cs ds : List Ctx) → cs ≡ ds → AppendsHits (hits_at rank es) [] ds → counts axis t (map place_in cs) ≡ counts axis t (doc_places rank es)
context-counts axis t rank es cs ds e a = ap (λ z. counts axis t (map place_in z)) e ∙ counts-by-places t axis (map place_in ds) (doc_places rank es) (places-there rank es ds a) (places-back rank es ds a)

-- ---- one document more

to-after : (c : Ctx) (ds : List Ctx) → all_after c ds → AllAfter before c ds
to-after c [] a = tt
to-after c (d ∷ ds) a = (a.0, to-after c ds a.1)

to-ascends : (cs : List Ctx) → Ascending cs → Ascends before cs
to-ascends [] a = tt
to-ascends (c ∷ cs) a = (to-after c cs a.0, to-ascends cs a.1)

less-numbers : (k p a i q b j : ℕ) → (nat_lt p q || (nat_eq p q && (nat_lt a b || (nat_eq a b && nat_lt i j)))) ≡ true
    → ((nat_lt k k || (nat_eq k k && (nat_lt p q || (nat_eq p q && nat_lt a b)))) || ((nat_eq k k && (nat_eq p q && nat_eq a b)) && nat_lt i j)) ≡ true
less-numbers k p a i q b j h = grind (arith, nat_tests)

less-reached : (rank : ℕ) (c d : Ctx) → before c d ≡ true → reached_less (reached_at rank c) (reached_at rank d) ≡ true
less-reached rank c d h = less-numbers rank c.pre c.attr c.iter d.pre d.attr d.iter h

-- the hits of a document ascend
new-ascends : (rank : ℕ) (hs : List Ctx) → Ascending hs → Ascends reached_less (map (reached_at rank) hs)
new-ascends rank hs a = ascends-map before reached_less (reached_at rank) hs (λ x y h k e. less-reached rank x y e) (to-ascends hs a)

or-true : (a b c : Bool) → a ≡ true → ((a || b) || c) ≡ true
or-true true b c e = refl
or-true false b c e = absurd (false≢true e)

between : (n k : ℕ) (r s : Reached) → n < k → r.node.frag ≡ f.Doc n → s.node.frag ≡ f.Doc k → reached_less r s ≡ true
between n k r s l e g =
    let ids : tree_id_less (id_of_key r.node.frag) (id_of_key s.node.frag) ≡ true = ap (λ z. tree_id_less (id_of_key z) (id_of_key s.node.frag)) e ∙ ap (λ z. tree_id_less (id_of_key (f.Doc n)) (id_of_key z)) g ∙ lt-ltb n k l in
    or-true (tree_id_less (id_of_key r.node.frag) (id_of_key s.node.frag)) _ _ ids

-- nothing is found in no document
pub none-found : (axis : Axis) (wanted : NodeTest) (trees : FragKey → Tree TextId) (es : List Reached) → AreFound axis wanted trees es 0 []
none-found axis wanted trees es = record {
  ascends = tt;
  docs = λ r h. absurd h;
  named = λ r h. absurd h;
  sound = λ r h. absurd h;
  complete = λ r n l e g k. absurd (omega (arith, l));
}

module _ (axis : Axis) (wanted : NodeTest) (trees : FragKey → Tree TextId) (k : ℕ) (es old new : List Reached) (found : AreFound axis wanted trees es k old) (adds : AddsFound axis wanted (trees (f.Doc k)) k es old new) where
  abbrev t : Tree TextId
  t = trees (f.Doc k)

  abbrev more : List Reached
  more = map (reached_at k) adds.hits

  more-named : (c : Ctx) → In c adds.hits → names_node (trees (reached_at k c).node.frag) (place_of (reached_at k c).node) ≡ true
  more-named c i = adds.are_hits.nodes c i

  more-sound : (c : Ctx) → In c adds.hits → Leads axis wanted trees es (reached_at k c)
  more-sound c i =
      let s = adds.are_hits.sound c i in
      let h = from-context (hits_at k es) adds.context adds.of_entries s.0 s.1 in
      let o = from-hits k es h.0 h.1 in
      let same : s.0 ≡ ctx_of (hit_of o.entry) = sym h.2 ∙ ap ctx_of o.is in (
        o.entry,
        o.there,
        ap (λ z. z.iter) (sym same) ∙ s.2,
        doc-is k o.entry.node.frag o.doc,
        ap (λ z. steps_to id_eq axis (test_of wanted) t (node_at t (place_in z)) (node_at t (place_in c))) (sym same) ∙ s.3,
      )

  more-complete : (r : Reached) → r.node.frag ≡ f.Doc k → names_node (trees r.node.frag) (place_of r.node) ≡ true → Leads axis wanted trees es r → In r more
  more-complete r e named l =
      let c : Ctx = record { iter = r.iter; pre = r.node.pre; attr = r.node.attr } in
      let name : names_node t (place_in c) ≡ true = subst (λ z. names_node (trees z) (place_of r.node) ≡ true) e named in
      let d : is_doc k (l.0).node.frag ≡ true = is-doc k (l.0).node.frag (l.3 ∙ e) in
      let there = to-context (hits_at k es) adds.context adds.of_entries (hit_of l.0) (to-hits k es l.0 l.1 d) in
      let goes : steps_to id_eq axis (test_of wanted) t (node_at t (place_of (l.0).node)) (node_at t (place_of r.node)) ≡ true = subst (λ z. steps_to id_eq axis (test_of wanted) (trees z) (node_at (trees z) (place_of (l.0).node)) (node_at (trees z) (place_of r.node)) ≡ true) e l.4 in
      let hit = adds.are_hits.complete c name (ctx_of (hit_of l.0), there, l.2, goes) in
      let is : reached_at k c ≡ r = ap (λ z. record { iter = r.iter; node = record { frag = z; pre = r.node.pre; attr = r.node.attr } }) (sym e) in
      subst (λ z. In z more) is (in-map (reached_at k) c adds.hits hit)

  in-new : (r : Reached) → In r new → In r (old ++ more)
  in-new r h = subst (λ z. In r z) adds.appended h

  pub one-more : AreFound axis wanted trees es (suc k) new
  one-more = record {
    ascends = subst (Ascends reached_less) (sym adds.appended) (ascends-append reached_less old more found.ascends (new-ascends k adds.hits adds.are_hits.ascending)
        (λ r s i j. let d = found.docs r i in let c = in-unmap (reached_at k) s adds.hits j in between d.0 k r s d.1 d.2 (ap (λ z. z.node.frag) c.2)));
    docs = λ r h. elim (in-parts r old more (in-new r h)) [
      | inl i ↦ (let d = found.docs r i in (d.0, omega (arith, d.1), d.2))
      | inr i ↦ (let c = in-unmap (reached_at k) r adds.hits i in (k, omega arith, ap (λ z. z.node.frag) c.2))
    ];
    named = λ r h. elim (in-parts r old more (in-new r h)) [
      | inl i ↦ found.named r i
      | inr i ↦ (let c = in-unmap (reached_at k) r adds.hits i in ap (λ z. names_node (trees z.node.frag) (place_of z.node)) c.2 ∙ more-named c.0 c.1)
    ];
    sound = λ r h. elim (in-parts r old more (in-new r h)) [
      | inl i ↦ found.sound r i
      | inr i ↦ (let c = in-unmap (reached_at k) r adds.hits i in subst (Leads axis wanted trees es) (sym c.2) (more-sound c.0 c.1))
    ];
    complete = λ r n l e named leads. subst (λ z. In r z) (sym adds.appended) (at r n (nat_lt n k) refl l e named leads);
  }
    where
      at : (r : Reached) (n : ℕ) (b : Bool) → nat_lt n k ≡ b → n < suc k → r.node.frag ≡ f.Doc n → names_node (trees r.node.frag) (place_of r.node) ≡ true → Leads axis wanted trees es r → In r (old ++ more)
      at r n true q l e named leads = in-left r old more (found.complete r n (grind (arith, nat_tests)) e named leads)
      at r n false q l e named leads = let same : n ≡ k = grind (arith, nat_tests) in in-right r old more (more-complete r (e ∙ ap f.Doc same) named leads)
