-- Pairs of an iteration and a node, each once: what an operator finds in all iterations is what is found in each of them.
use Rattle.std.proofs.Common.{◌≡◌, ℕ, ◌+◌, ◌≤◌, Bool, true, false, cond, not, ◌&&◌, List, [], ◌∷◌, map, refl, sym, ap, ◌∙◌, arith, add-zero, zero-add, nat_lt, nat_eq}
use Rattle.std.specs.List.{flat_map}
use Rattle.std.specs.Cmp.{IsEquivalence}
use Rattle.std.proofs.lemmas.Bool.{eq-eqb, eqb-true}
use Rattle.xq_base.specs.Texts.{Text}
use Rattle.doc_table.specs.Identity.{Node, node_eq, node_less}
use Rattle.doc_table.specs.Orders.{once}
use Rattle.lift_laws.specs.Sums.{total, count, bit, AllOf, Ascends, Same}
use Rattle.lift_laws.specs.Iterations.{Iter}
use Rattle.lift_laws.proofs.Multi.{total-ext, total-map, total-flat, total-zero}
use Rattle.lift_laws.proofs.Picks.{all_mono, all-map, all-flat, total-all}
use Rattle.lift_laws.proofs.Once.{once_all, same_sets}

module _ {Z : Type 0} (eq : Z → Z → Bool) (equal : IsEquivalence eq) (embed : ℕ → Node Text → Z) (canon : Z → Z) (canon_same : (x y : Z) → eq x y ≡ true → canon x ≡ canon y)
    (head : Z → ℕ → Bool) (head_one : (z : Z) (m n : ℕ) → head z m ≡ true → head z n ≡ true → m ≡ n)
    (tail : Z → Node Text → Bool) (tail_once : (z : Z) (ns : List (Node Text)) → count (tail z) (once node_less node_eq ns) ≡ bit (nat_lt 0 (count (tail z) ns)))
    (eq_is : (z : Z) (n : ℕ) (m : Node Text) → eq z (embed n m) ≡ (head z n && tail z m)) where
  -- how often an element stands among the pairs of one iteration
  in_block : (z : Z) (n : ℕ) (ms : List (Node Text)) → count (eq z) (map (embed n) ms) ≡ cond (head z n) (count (tail z) ms) 0
  in_block z n ms = total-map (λ r. bit (eq z r)) (embed n) ms ∙ total-ext _ _ ms (λ m. ap bit (eq_is z n m)) ∙ go (head z n)
    where
      go : (b : Bool) → total (λ m. bit (b && tail z m)) ms ≡ cond b (count (tail z) ms) 0
      go true = refl
      go false = total-zero ms

  -- one iteration alone can have it
  bits : (z : Z) (c : Iter → ℕ) (n : ℕ) (js : List Iter) → Ascends (λ i. i.number) n js → total (λ (i : Iter). cond (head z i.number) (bit (nat_lt 0 (c i))) 0) js ≡ bit (nat_lt 0 (total (λ (i : Iter). cond (head z i.number) (c i) 0) js))
  bits z c n [] b = refl
  bits z c n (j ∷ js) b = go (head z j.number) refl (bits z c j.number js b.1)
    where
      none_behind : (k : ℕ) (is : List Iter) → head z j.number ≡ true → j.number ≤ k → Ascends (λ i. i.number) k is → (d : Iter → ℕ) → total (λ (i : Iter). cond (head z i.number) (d i) 0) is ≡ 0
      none_behind k [] e l s d = refl
      none_behind k (i ∷ is) e l s d = at (head z i.number) refl (none_behind i.number is e (let q = s.0 in omega arith) s.1 d)
        where
          at : (b : Bool) → head z i.number ≡ b → total (λ (i : Iter). cond (head z i.number) (d i) 0) is ≡ 0 → cond b (d i) 0 + total (λ (i : Iter). cond (head z i.number) (d i) 0) is ≡ 0
          at true h r = let q = s.0 in let same = head_one z j.number i.number e h in absurd (omega arith)
          at false h r = zero-add _ ∙ r

      go : (d : Bool) → head z j.number ≡ d → total (λ (i : Iter). cond (head z i.number) (bit (nat_lt 0 (c i))) 0) js ≡ bit (nat_lt 0 (total (λ (i : Iter). cond (head z i.number) (c i) 0) js))
          → cond d (bit (nat_lt 0 (c j))) 0 + total (λ (i : Iter). cond (head z i.number) (bit (nat_lt 0 (c i))) 0) js ≡ bit (nat_lt 0 (cond d (c j) 0 + total (λ (i : Iter). cond (head z i.number) (c i) 0) js))
      go true e r =
          ap (λ m. bit (nat_lt 0 (c j)) + m) (none_behind j.number js e (omega arith) b.1 (λ i. bit (nat_lt 0 (c i)))) ∙ add-zero _
          ∙ ap (λ m. bit (nat_lt 0 m)) (sym (add-zero (c j)) ∙ ap (λ m. c j + m) (sym (none_behind j.number js e (omega arith) b.1 c)))
      go false e r = zero-add _ ∙ r ∙ ap (λ m. bit (nat_lt 0 m)) (sym (zero-add _))

  -- what is found, as an operator finds it and in each iteration
  module _ (ns : Iter → List (Node Text)) (its : List Iter) (asc : Ascends (λ i. i.number) 0 its) (all ys : List Z) (same_all : Same all (flat_map (λ i. map (embed i.number) (ns i)) its))
      (counted : (z : Z) → count (eq z) ys ≡ bit (nat_lt 0 (count (eq z) all))) (kept : (P : Z → Type 0) → AllOf P all → AllOf P ys)
      (known : AllOf (λ i. AllOf (λ m. (n : ℕ) → canon (embed n m) ≡ embed n m) (ns i)) its) where
    abbrev pairs : List Z
    pairs = flat_map (λ (i : Iter). map (embed i.number) (ns i)) its

    abbrev steps : List Z
    steps = flat_map (λ (i : Iter). map (embed i.number) (once node_less node_eq (ns i))) its

    counts : (z : Z) → count (eq z) ys ≡ count (eq z) steps
    counts z =
        counted z
        ∙ ap (λ m. bit (nat_lt 0 m)) (same_all.at (λ r. bit (eq z r)) ∙ total-flat (λ r. bit (eq z r)) (λ (i : Iter). map (embed i.number) (ns i)) its ∙ total-ext _ _ its (λ i. in_block z i.number (ns i)))
        ∙ sym (bits z (λ i. count (tail z) (ns i)) 0 its asc)
        ∙ total-ext _ _ its (λ i. ap (λ m. cond (head z i.number) m 0) (sym (tail_once z (ns i))) ∙ sym (in_block z i.number (once node_less node_eq (ns i))))
        ∙ sym (total-flat (λ r. bit (eq z r)) (λ (i : Iter). map (embed i.number) (once node_less node_eq (ns i))) its)

    at_most : (z : Z) → count (eq z) ys ≤ 1
    at_most z = let e = counted z in let b = bit_most (nat_lt 0 (count (eq z) all)) in omega arith
      where
        bit_most : (b : Bool) → bit b ≤ 1
        bit_most true = omega arith
        bit_most false = omega arith

    module _ (w : Z → ℕ) where
      abbrev good : Z → Bool
      good z = nat_eq (w z) (w (canon z))

      good_pairs : AllOf (λ z. good z ≡ true) pairs
      good_pairs = all-flat _ (λ (i : Iter). map (embed i.number) (ns i)) its (all_mono _ _ (λ i (k : AllOf (λ m. (n : ℕ) → canon (embed n m) ≡ embed n m) (ns i)).
          all-map (λ z. good z ≡ true) (embed i.number) (ns i) (all_mono _ _ (λ m (e : (n : ℕ) → canon (embed n m) ≡ embed n m). eq-eqb (w (embed i.number m)) (w (canon (embed i.number m))) (ap w (sym (e i.number)))) (ns i) k)) its known)

      none_bad : (zs : List Z) → AllOf (λ z. good z ≡ true) zs → count (λ z. not (good z)) zs ≡ 0
      none_bad [] k = refl
      none_bad (z ∷ zs) k = ap (λ b. bit (not b) + count (λ z. not (good z)) zs) k.0 ∙ zero-add _ ∙ none_bad zs k.1

      bad_none : (zs : List Z) → count (λ z. not (good z)) zs ≡ 0 → AllOf (λ z. w z ≡ w (canon z)) zs
      bad_none [] e = tt
      bad_none (z ∷ zs) e = go (good z) refl e (λ q. bad_none zs q)
        where
          go : (b : Bool) → good z ≡ b → bit (not b) + count (λ z. not (good z)) zs ≡ 0 → (count (λ z. not (good z)) zs ≡ 0 → AllOf (λ z. w z ≡ w (canon z)) zs) → (w z ≡ w (canon z)) × AllOf (λ z. w z ≡ w (canon z)) zs
          go true h q k = (eqb-true (w z) (w (canon z)) h, k (omega arith))
          go false h q k = absurd (omega arith)

      all_good : AllOf (λ z. w z ≡ w (canon z)) all
      all_good = bad_none all (same_all.at (λ z. bit (not (good z))) ∙ none_bad pairs good_pairs)

      steps_good : AllOf (λ z. w (canon z) ≡ w z) steps
      steps_good = all-flat _ (λ (i : Iter). map (embed i.number) (once node_less node_eq (ns i))) its (all_mono _ _ (λ i (k : AllOf (λ m. (n : ℕ) → canon (embed n m) ≡ embed n m) (ns i)).
          all-map (λ z. w (canon z) ≡ w z) (embed i.number) (once node_less node_eq (ns i)) (all_mono _ _ (λ m (e : (n : ℕ) → canon (embed n m) ≡ embed n m). ap w (e i.number)) (once node_less node_eq (ns i)) (once_all node_less node_eq _ (ns i) k))) its known)

      weighed : total w ys ≡ total w steps
      weighed =
          total-all w (λ z. w (canon z)) ys (kept (λ z. w z ≡ w (canon z)) all_good)
          ∙ same_sets eq equal (λ z. w (canon z)) (λ x y e. ap w (canon_same x y e)) ys steps counts at_most
          ∙ total-all (λ z. w (canon z)) w steps steps_good

    pub found_stands : Same ys steps
    found_stands = record { at = λ w. weighed w }
