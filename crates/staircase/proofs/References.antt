-- Hits in one iteration, as references to nodes.
use Rattle.std.proofs.Common.{inl, inr, ◌≡◌, ℕ, Bool, true, false, cond, ◌&&◌, ◌||◌, List, [], ◌∷◌, refl, sym, ap, ◌∙◌, subst, arith}
use Rattle.std.specs.Prelude.{nat_eq, nat_lt}
use Rattle.std.proofs.lemmas.Bool.Decides.{nat_tests}
use Rattle.std.proofs.lemmas.Bool.{eqb-true, eq-eqb, false≢true}
use Rattle.xq_base.specs.declared.item.FragKey.{FragKey}
use Rattle.xq_base.specs.declared.item.NodeRef.{NodeRef}
use Rattle.doc_table.specs.Axes.{id_eq, test_of, steps_to}
use Rattle.doc_table.specs.Places.{names_node, node_at}
use Rattle.doc_table.specs.Identity.{tree_id_less, id_of_key, ref_less}
use Rattle.doc_table.specs.Identity.{place_of as place_of_ref}
use Rattle.doc_table.specs.Ascending.{In, Ascends}
use Rattle.doc_table.specs.StepLaws.{Reaches as ReachesRef}
use Rattle.doc_table.proofs.Ascending.{after-all}
use Rattle.doc_table.proofs.StrictOrders.{ids_order}
use Rattle.staircase.specs.declared.kinds.Ctx.{Ctx}
use Rattle.staircase.specs.Hits.{before, all_after, Ascending}
use Rattle.staircase.specs.Joins.{Reaches, place_of}
use Rattle.staircase.specs.References.{ref_of, refs_of, HitsAreReached}

module _ (key : FragKey) (iter : ℕ) where
  -- an entry of the iteration
  record Of (cs : List Ctx) (r : NodeRef) : Type 0 where
    pub entry : Ctx
    pub there : In entry cs
    pub now : entry.iter ≡ iter
    pub is : r ≡ ref_of key entry

  from-refs : (cs : List Ctx) (r : NodeRef) → In r (refs_of key iter cs) → Of cs r
  from-refs [] r h = absurd h
  from-refs (c ∷ cs) r h = at (nat_eq c.iter iter) refl h (λ k. from-refs cs r k)
    where
      more : Of cs r → Of (c ∷ cs) r
      more o = record { entry = o.entry; there = inr o.there; now = o.now; is = o.is }

      at : (b : Bool) → nat_eq c.iter iter ≡ b → In r (cond b (ref_of key c ∷ refs_of key iter cs) (refs_of key iter cs)) → (In r (refs_of key iter cs) → Of cs r) → Of (c ∷ cs) r
      at true e k go = elim k [ inl s ↦ record { entry = c; there = inl refl; now = eqb-true c.iter iter e; is = s } | inr l ↦ more (go l) ]
      at false e k go = more (go k)

  to-refs : (cs : List Ctx) (c : Ctx) → In c cs → c.iter ≡ iter → In (ref_of key c) (refs_of key iter cs)
  to-refs [] c h e = absurd h
  to-refs (d ∷ cs) c h e = at (nat_eq d.iter iter) refl (λ k. to-refs cs c k e)
    where
      at : (b : Bool) → nat_eq d.iter iter ≡ b → (In c cs → In (ref_of key c) (refs_of key iter cs)) → In (ref_of key c) (cond b (ref_of key d ∷ refs_of key iter cs) (refs_of key iter cs))
      at true q go = elim h [ inl s ↦ inl (ap (ref_of key) s) | inr k ↦ inr (go k) ]
      at false q go = elim h [ inl s ↦ (let t : nat_eq d.iter iter ≡ true = eq-eqb d.iter iter (ap (λ z. z.iter) (sym s) ∙ e) in absurd (false≢true (sym q ∙ t))) | inr k ↦ go k ]

  all-after-at : (c d : Ctx) (ds : List Ctx) → all_after c ds → In d ds → before c d ≡ true
  all-after-at c d [] a h = absurd h
  all-after-at c d (x ∷ ds) a h = elim h [ inl e ↦ ap (before c) e ∙ a.0 | inr k ↦ all-after-at c d ds a.1 k ]

  less-refs : (c d : Ctx) → c.iter ≡ iter → d.iter ≡ iter → before c d ≡ true → ref_less (ref_of key c) (ref_of key d) ≡ true
  less-refs c d e f h = rw (ids_order.eq_self (id_of_key key)) (or-right (tree_id_less (id_of_key key) (id_of_key key)) (nat_lt c.pre d.pre || (nat_eq c.pre d.pre && nat_lt c.attr d.attr)) (by-places c.pre c.attr c.iter d.pre d.attr d.iter (e ∙ sym f) h))
    where
      or-right : (a b : Bool) → b ≡ true → a || b ≡ true
      or-right true b k = refl
      or-right false b k = k

      by-places : (p a i q b j : ℕ) → i ≡ j → (nat_lt p q || (nat_eq p q && (nat_lt a b || (nat_eq a b && nat_lt i j)))) ≡ true → (nat_lt p q || (nat_eq p q && nat_lt a b)) ≡ true
      by-places p a i q b j g k = grind (arith, nat_tests)

  refs-ascend : (hs : List Ctx) → Ascending hs → Ascends ref_less (refs_of key iter hs)
  refs-ascend [] a = tt
  refs-ascend (c ∷ hs) a = at (nat_eq c.iter iter) refl (refs-ascend hs a.1)
    where
      at : (b : Bool) → nat_eq c.iter iter ≡ b → Ascends ref_less (refs_of key iter hs) → Ascends ref_less (cond b (ref_of key c ∷ refs_of key iter hs) (refs_of key iter hs))
      at true e s =
          (after-all ref_less (ref_of key c) (refs_of key iter hs) (λ r h. let o = from-refs hs r h in ap (ref_less (ref_of key c)) o.is ∙ less-refs c o.entry (eqb-true c.iter iter e) o.now (all-after-at c o.entry hs a.0 o.there)), s)
      at false e s = s

pub hits_are_reached : HitsAreReached
hits_are_reached axis test trees key cs hs iter hits = record {
  ascends = refs-ascend key iter hs hits.ascending;
  named = λ r h. let o = from-refs key iter hs r h in ap (λ z. names_node (trees z.frag) (place_of_ref z)) o.is ∙ hits.nodes o.entry o.there;
  sound = λ r h. let o = from-refs key iter hs r h in subst (ReachesRef id_eq axis (test_of test) trees (refs_of key iter cs)) (sym o.is) (reached o.entry o.now (hits.sound o.entry o.there));
  complete = λ r h s. complete r h s (from-refs key iter cs s.0 s.1);
}
  where
    reached : (h : Ctx) → h.iter ≡ iter → Reaches axis test (trees key) cs h → ReachesRef id_eq axis (test_of test) trees (refs_of key iter cs) (ref_of key h)
    reached h e s = (ref_of key s.0, to-refs key iter cs s.0 s.1 (s.2 ∙ e), refl, s.3)

    complete : (r : NodeRef) → names_node (trees r.frag) (place_of_ref r) ≡ true → (s : ReachesRef id_eq axis (test_of test) trees (refs_of key iter cs) r) → Of key iter cs s.0 → In r (refs_of key iter hs)
    complete r named s o =
        let frag : key ≡ r.frag = ap (λ z. z.frag) (sym o.is) ∙ s.2 in
        let h : Ctx = record { iter = iter; pre = r.pre; attr = r.attr } in
        let there : names_node (trees key) (place_of h) ≡ true = subst (λ k. names_node (trees k) (place_of h) ≡ true) (sym frag) named in
        let goes : steps_to id_eq axis (test_of test) (trees r.frag) (node_at (trees r.frag) (place_of o.entry)) (node_at (trees r.frag) (place_of h)) ≡ true =
        ap (λ z. steps_to id_eq axis (test_of test) (trees r.frag) (node_at (trees r.frag) (place_of_ref z)) (node_at (trees r.frag) (place_of h))) (sym o.is) ∙ s.3 in
        let back : steps_to id_eq axis (test_of test) (trees key) (node_at (trees key) (place_of o.entry)) (node_at (trees key) (place_of h)) ≡ true =
        subst (λ k. steps_to id_eq axis (test_of test) (trees k) (node_at (trees k) (place_of o.entry)) (node_at (trees k) (place_of h)) ≡ true) (sym frag) goes in
        let hit : In h hs = hits.complete h there (o.entry, o.there, o.now, back) in
        subst (λ k. In (record { frag = k; pre = r.pre; attr = r.attr }) (refs_of key iter hs)) frag (to-refs key iter hs h hit refl)
