-- The tuples of a sorted loop as lists: the numbers of turns, all tuples by the iterations that make them, and their values.
use Rattle.std.proofs.Common.{◌≡◌, ℕ, suc, ◌+◌, ◌<◌, ◌≤◌, Bool, true, false, cond, List, [], ◌∷◌, ◌++◌, length, map, refl, sym, ap, ◌∙◌, subst, arith, add-zero, Some}
use Rattle.std.specs.List.{filter, flat_map}
use Rattle.xq_base.specs.Texts.{Text}
use Rattle.doc_table.specs.Items.{Item}
use Rattle.doc_table.specs.Values.{Items}
use Rattle.doc_table.specs.NodeRules.{Docs}
use Rattle.core_meaning.specs.Expr.{Expr, Spine, Leaf, ForBind, LetBind, WhereBind}
use Rattle.core_meaning.specs.Sorting.{Tuple}
use Rattle.core_meaning.specs.Meaning.{with_var, in_loop, deeper, and_then, holds, val, tuples}
use Rattle.lift_laws.specs.Sums.{AllOf, Ascends}
use Rattle.lift_laws.specs.Iterations.{Iter, Turn, turn, turns_of, all_turns, given, turns, joined, bodies}
use Rattle.lift_laws.specs.Bulk.{list_of, value, values_of, chosen_in, chosen, with_value, iter_of, bound, inside, faults, faults_all, faults_in, cost, cost_all, cost_in}
use Rattle.lift_laws.specs.Tuples.{keys_in, body_in, turn_number, tuples_all, body_iter, tuples_at}
use Rattle.lift_laws.proofs.Numbers.{nat_eq_self, nat_eq_below}
use Rattle.lift_laws.proofs.Picks.{Picked, picks, later, all_each, all_mono, all-flat, flat-all, flat-map, flat-flat, map-append}
use Rattle.lift_laws.proofs.Loops.{given_flat, turns_outer}
use Rattle.lift_laws.proofs.Simple.{keep_ascends}
use Rattle.lift_laws.proofs.Values.{Has, append_nil, all_two, all_map_back, all_flat_back, all_keep_back, turns_each, turns_back_of, given_outer, for_list, ValueAt, ValuesAt, bound_back, no_faults, no_faults_all, no_faults_in}
use Rattle.lift_laws.proofs.Sizes.{weighs, own_most}
use Rattle.lift_laws.proofs.PlainCases.{bound_all, bound_ascends}
use Rattle.lift_laws.proofs.LoopInside.{inside_ascends}
use Rattle.lift_laws.proofs.LoopCase.{bodies_own}
use Rattle.lift_laws.proofs.CallCase.{vals_are}

-- the turns of one iteration at the front of all, from this number and this place on
first_turns : (P : Turn → Type 0) (i : Iter) (n k : ℕ) (vs : Items) (us : List Turn) → ((m l : ℕ) (v : Item Text) → m + k ≡ n + l → P (turn m i l v)) → AllOf P (given (n + length vs) us) → AllOf P (given n (turns_of i k vs ++ us))
first_turns P i n k [] us h a = subst (λ m. AllOf P (given m us)) (add-zero n) a
first_turns P i n k (v ∷ vs) us h a =
    let e : n + suc (length vs) ≡ n + 1 + length vs = omega arith in
    (h n k v refl, first_turns P i (n + 1) (k + 1) vs us (λ m l w q. h m l w (omega arith)) (subst (λ m. AllOf P (given m us)) e a))

module _ (f : Iter → Items) where
  abbrev Numbered : ℕ → List Iter → Turn → Type 0
  Numbered n its t = t.number + 1 ≡ n + turn_number f its t.outer.number t.place

  from_number : (n m : ℕ) (its : List Iter) → Ascends (λ i. i.number) m its → AllOf (Numbered n its) (given n (all_turns f its))
  from_number n m [] a = tt
  from_number n m (i ∷ its) a =
      let own = λ (j l : ℕ) (v : Item Text) (e : j + 1 ≡ n + l). let q : Numbered n (i ∷ its) (turn j i l v) = e ∙ ap (λ b. n + cond b l (length (f i) + turn_number f its i.number l)) (sym (nat_eq_self i.number)) in q in
      let rest = from_number (n + length (f i)) i.number its a.1 in
      let past = given_outer (λ j. i.number < j.number) (n + length (f i)) (all_turns f its) (all-flat _ (λ j. turns_of j 1 (f j)) its (all_mono _ _ (λ j (h : i.number < j.number). turns_outer f (λ l. i.number < l.number) j 1 (f j) h) its (later (λ (j : Iter). j.number) i.number its a.1))) in
      first_turns (Numbered n (i ∷ its)) i n 1 (f i) (all_turns f its) own
      (all_two _ _ _ (λ t (h : Numbered (n + length (f i)) its t) (l : i.number < t.outer.number).
      let tn = turn_number f its t.outer.number t.place in
      let e : n + length (f i) + tn ≡ n + (length (f i) + tn) = omega arith in
      let q : Numbered n (i ∷ its) t = h ∙ e ∙ ap (λ b. n + cond b t.place (length (f i) + tn)) (sym (nat_eq_below i.number t.outer.number l)) in q) (given (n + length (f i)) (all_turns f its)) rest past)

  pub turn_numbers : (its : List Iter) → Ascends (λ i. i.number) 0 its → AllOf (λ t. turn_number f its t.outer.number t.place ≡ t.number) (turns f its)
  turn_numbers its a = all_mono _ _ (λ t (h : Numbered 1 its t). let q : turn_number f its t.outer.number t.place ≡ t.number = omega arith in q) (turns f its) (from_number 1 0 its a)

-- one list for each item, and one for each turn
joined_turns : {A : Type 0} (h : Iter → ℕ → Item Text → List A) (i : Iter) (k : ℕ) (vs : Items) → joined (bodies h i k vs) ≡ flat_map (λ t. h t.outer t.place t.item) (turns_of i k vs)
joined_turns h i k [] = refl
joined_turns h i k (v ∷ vs) = ap (λ l. h i k v ++ l) (joined_turns h i (k + 1) vs)

joined_same : {A B : Type 0} (c : A → B) (g : Iter → ℕ → Item Text → List B) (h : Iter → ℕ → Item Text → List A) (i : Iter) (k : ℕ) (vs : Items) → AllOf (λ t. g t.outer t.place t.item ≡ map c (h t.outer t.place t.item)) (turns_of i k vs) → joined (bodies g i k vs) ≡ map c (joined (bodies h i k vs))
joined_same c g h i k [] a = refl
joined_same c g h i k (v ∷ vs) a =
    ap (λ l. l ++ joined (bodies g i (k + 1) vs)) a.0 ∙ ap (λ l. map c (h i k v) ++ l) (joined_same c g h i (k + 1) vs a.1) ∙ sym (map-append c (h i k v) (joined (bodies h i (k + 1) vs)))

flat_self : {A : Type 0} (xs : List A) → xs ≡ flat_map (λ x. x ∷ []) xs
flat_self [] = refl
flat_self (x ∷ xs) = ap (λ l. x ∷ l) (flat_self xs)

flat_keep : {A B : Type 0} (p : A → Bool) (g : A → List B) (xs : List A) → flat_map g (filter p xs) ≡ flat_map (λ x. cond (p x) (g x) []) xs
flat_keep p g [] = refl
flat_keep p g (x ∷ xs) =
    let r = flat_keep p g xs in
    elim (p x) as (λ b. flat_map g (cond b (x ∷ filter p xs) (filter p xs)) ≡ cond b (g x) [] ++ flat_map (λ y. cond (p y) (g y) []) xs) [ true ↦ ap (λ l. g x ++ l) r | false ↦ r ]

module _ (docs : Docs) where
  -- the body's iterations for the items are those of the turns
  pub body_iters : (x p : ℕ) (s : Expr) (its : List Iter) → Ascends (λ i. i.number) 0 its → AllOf (λ t. body_iter docs x p s its t.outer t.place t.item ≡ iter_of x p t) (turns (value docs s) its)
  body_iters x p s its a =
      all_mono _ _ (λ t (e : turn_number (value docs s) its t.outer.number t.place ≡ t.number). let q : body_iter docs x p s its t.outer t.place t.item ≡ iter_of x p t = ap (λ n. iter_of x p (turn n t.outer t.place t.item)) e in q) (turns (value docs s) its) (turn_numbers (value docs s) its a)

  -- all tuples are those of each iteration
  pub tuples_of_all : (sp : Spine) (its : List Iter) → Ascends (λ i. i.number) 0 its → faults_in docs sp its ≡ [] → tuples_all docs sp its ≡ flat_map (tuples_at docs sp its) its
  tuples_of_all (Leaf ks e) its a z = flat_self its
  tuples_of_all (ForBind x p s sp) its a z =
      let f = value docs s in
      let within = inside docs x p s its in
      let T = tuples_at docs sp within in
      let h = λ (i : Iter) (k : ℕ) (v : Item Text). T (body_iter docs x p s its i k v) in
      let k = append_nil (faults docs s its) (faults_in docs sp within) z in
      tuples_of_all sp within (inside_ascends x p f its) k.1
      ∙ flat-map T (iter_of x p) (turns f its)
      ∙ flat-all _ _ (turns f its) (all_mono _ _ (λ t (e : body_iter docs x p s its t.outer t.place t.item ≡ iter_of x p t). ap T (sym e)) (turns f its) (body_iters x p s its a))
      ∙ given_flat (λ t. h t.outer t.place t.item) (λ t n. refl) 1 (all_turns f its)
      ∙ flat-flat (λ t. h t.outer t.place t.item) (λ i. turns_of i 1 (f i)) its
      ∙ flat-all _ _ its (all_each _ (λ i. sym (joined_turns h i 1 (f i))) its)
  tuples_of_all (LetBind x b sp) its a z =
      let k = append_nil (faults docs b its) (faults_in docs sp (bound docs x b its)) z in
      let vb = no_faults docs b its k.0 in
      let T = tuples_at docs sp (bound docs x b its) in
      tuples_of_all sp (bound docs x b its) (bound_ascends docs x b its vb a) k.1
      ∙ ap (flat_map T) (bound_all docs x b its vb)
      ∙ flat-map T (λ i. with_value x i (value docs b i)) its
  tuples_of_all (WhereBind c sp) its a z =
      let k = append_nil (faults docs c its) (faults_in docs sp (filter (chosen docs c) its)) z in
      tuples_of_all sp (filter (chosen docs c) its) (keep_ascends (chosen docs c) 0 its a) k.1
      ∙ flat_keep (chosen docs c) (tuples_at docs sp (filter (chosen docs c) its)) its

  pub tuples_ascend : (sp : Spine) (its : List Iter) → Ascends (λ i. i.number) 0 its → faults_in docs sp its ≡ [] → Ascends (λ i. i.number) 0 (tuples_all docs sp its)
  tuples_ascend (Leaf ks e) its a z = a
  tuples_ascend (ForBind x p s sp) its a z = tuples_ascend sp (inside docs x p s its) (inside_ascends x p (value docs s) its) (append_nil (faults docs s its) (faults_in docs sp (inside docs x p s its)) z).1
  tuples_ascend (LetBind x b sp) its a z =
      let k = append_nil (faults docs b its) (faults_in docs sp (bound docs x b its)) z in tuples_ascend sp (bound docs x b its) (bound_ascends docs x b its (no_faults docs b its k.0) a) k.1
  tuples_ascend (WhereBind c sp) its a z = tuples_ascend sp (filter (chosen docs c) its) (keep_ascends (chosen docs c) 0 its a) (append_nil (faults docs c its) (faults_in docs sp (filter (chosen docs c) its)) z).1

  -- what holds of all tuples holds of each iteration's
  pub tuples_hold : (P : Iter → Type 0) (sp : Spine) (its : List Iter) → Ascends (λ i. i.number) 0 its → faults_in docs sp its ≡ [] → AllOf P (tuples_all docs sp its) → AllOf (λ i. AllOf P (tuples_at docs sp its i)) its
  tuples_hold P sp its a z h = all_flat_back P (tuples_at docs sp its) its (subst (AllOf P) (tuples_of_all sp its a z) h)

  pub tuples_picked : (sp : Spine) (its : List Iter) → Ascends (λ i. i.number) 0 its → faults_in docs sp its ≡ [] → AllOf (λ i. AllOf (Picked (λ (l : Iter). l.number) (tuples_all docs sp its)) (tuples_at docs sp its i)) its
  tuples_picked sp its a z = tuples_hold (Picked (λ (l : Iter). l.number) (tuples_all docs sp its)) sp its a z (picks (λ (l : Iter). l.number) 0 (tuples_all docs sp its) (tuples_ascend sp its a z))

  -- keys and body of all tuples are in the cost
  pub tuples_cost : (sp : Spine) (its : List Iter) → cost_all docs (keys_in sp) (tuples_all docs sp its) + cost docs (body_in sp) (tuples_all docs sp its) ≤ cost_in docs sp its
  tuples_cost (Leaf ks e) its = omega arith
  tuples_cost (ForBind x p s sp) its = let r = tuples_cost sp (inside docs x p s its) in omega arith
  tuples_cost (LetBind x b sp) its = let r = tuples_cost sp (bound docs x b its) in omega arith
  tuples_cost (WhereBind c sp) its = let r = tuples_cost sp (filter (chosen docs c) its) in omega arith

  pub tuples_few : (sp : Spine) (its : List Iter) → length (tuples_all docs sp its) ≤ cost_in docs sp its
  tuples_few sp its =
      let c = tuples_cost sp its in
      let w = weighs docs (body_in sp) (tuples_all docs sp its) in
      let o = own_most docs (body_in sp) (tuples_all docs sp its) in
      omega arith

  -- the values of the keys and of the body of one
  abbrev pub tuple_of : Spine → Iter → Tuple
  tuple_of sp l = record { keys = map (λ g. g l) (values_of docs (keys_in sp)); body = value docs (body_in sp) l }

  abbrev pub TuplesAre : Spine → List Iter → Iter → Type 0
  TuplesAre sp its i = list_of (tuples docs sp i.env i.vector) ≡ map (tuple_of sp) (tuples_at docs sp its i)

  -- the tuples of each iteration, where nothing fails
  pub tuple_values : (sp : Spine) (its : List Iter) → Ascends (λ i. i.number) 0 its → faults_in docs sp its ≡ [] → AllOf (TuplesAre sp its) its
  tuple_values (Leaf ks e) its a z =
      let k = append_nil (faults_all docs ks its) (faults docs e its) z in
      all_two _ _ _ (λ i (u : ValuesAt docs ks i) (v : ValueAt docs e i).
      let q : TuplesAre (Leaf ks e) its i =
      ap (λ o. list_of (and_then o (λ vs. and_then (val docs e i.env i.vector) (λ w. let t : Tuple = record { keys = vs; body = w } in Some (t ∷ []))))) (vals_are docs ks i u)
      ∙ ap (λ o. list_of (and_then o (λ w. let t : Tuple = record { keys = map (λ g. g i) (values_of docs ks); body = w } in Some (t ∷ [])))) v.1
      ∙ ap (λ o. let t : Tuple = record { keys = map (λ g. g i) (values_of docs ks); body = list_of o } in t ∷ []) (sym v.1) in q) its (no_faults_all docs ks its k.0) (no_faults docs e its k.1)
  tuple_values (ForBind x p s sp) its a z =
      let f = value docs s in
      let within = inside docs x p s its in
      let T = tuples_at docs sp within in
      let c = tuple_of sp in
      let g = λ (i : Iter) (k : ℕ) (v : Item Text). list_of (tuples docs sp (in_loop x p i.env k v) (deeper i.vector k)) in
      let h = λ (i : Iter) (k : ℕ) (v : Item Text). T (body_iter docs x p s its i k v) in
      let k = append_nil (faults docs s its) (faults_in docs sp within) z in
      let each = all_map_back (TuplesAre sp within) (iter_of x p) (turns f its) (tuple_values sp within (inside_ascends x p f its) k.1) in
      let at_turns = all_two _ _ _ (λ t (r : TuplesAre sp within (iter_of x p t)) (e : body_iter docs x p s its t.outer t.place t.item ≡ iter_of x p t).
      let q : g t.outer t.place t.item ≡ map c (h t.outer t.place t.item) = r ∙ ap (λ i. map c (T i)) (sym e) in q) (turns f its) each (body_iters x p s its a) in
      let back = turns_each (λ i j v. g i j v ≡ map c (h i j v)) f its at_turns in
      let there = turns_back_of Has x p (tuples docs sp) f its (no_faults_in docs sp within k.1) in
      all_two _ _ _ (λ i (u : ValueAt docs s i) (w : AllOf (λ t. Has (tuples docs sp (in_loop x p i.env t.place t.item) (deeper i.vector t.place))) (turns_of i 1 (f i)) × AllOf (λ t. g t.outer t.place t.item ≡ map c (h t.outer t.place t.item)) (turns_of i 1 (f i))).
      let q : TuplesAre (ForBind x p s sp) its i = for_list x p (tuples docs sp) (val docs s i.env i.vector) i u w.0 ∙ sym (bodies_own g i 1 (f i)) ∙ joined_same c g h i 1 (f i) w.1 in q) its (no_faults docs s its k.0)
      (all_two _ _ _ (λ i (v : AllOf (λ t. Has (tuples docs sp (in_loop x p i.env t.place t.item) (deeper i.vector t.place))) (turns_of i 1 (f i))) (w : AllOf (λ t. g t.outer t.place t.item ≡ map c (h t.outer t.place t.item)) (turns_of i 1 (f i))).
      let q : AllOf (λ t. Has (tuples docs sp (in_loop x p i.env t.place t.item) (deeper i.vector t.place))) (turns_of i 1 (f i)) × AllOf (λ t. g t.outer t.place t.item ≡ map c (h t.outer t.place t.item)) (turns_of i 1 (f i)) = (v, w) in q) its there back)
  tuple_values (LetBind x b sp) its a z =
      let k = append_nil (faults docs b its) (faults_in docs sp (bound docs x b its)) z in
      let vb = no_faults docs b its k.0 in
      all_two _ _ _ (λ i (u : ValueAt docs b i) (r : TuplesAre sp (bound docs x b its) (with_value x i (value docs b i))).
      let q : TuplesAre (LetBind x b sp) its i =
      ap (λ o. list_of (and_then o (λ v. tuples docs sp (with_var i.env x v) i.vector))) u.1 ∙ ap (λ w. list_of (tuples docs sp (with_var i.env x (list_of w)) i.vector)) (sym u.1) ∙ r in q) its vb
      (bound_back docs (TuplesAre sp (bound docs x b its)) x b its vb (tuple_values sp (bound docs x b its) (bound_ascends docs x b its vb a) k.1))
  tuple_values (WhereBind c sp) its a z =
      let kept = filter (chosen docs c) its in
      let k = append_nil (faults docs c its) (faults_in docs sp kept) z in
      all_two _ _ _ (λ i (u : ValueAt docs c i) (r : chosen docs c i ≡ true → TuplesAre sp kept i). at_one i u r) its (no_faults docs c its k.0) (all_keep_back (TuplesAre sp kept) (chosen docs c) its (tuple_values sp kept (keep_ascends (chosen docs c) 0 its a) k.1))
    where
      at_one : (i : Iter) → ValueAt docs c i → (chosen docs c i ≡ true → TuplesAre sp (filter (chosen docs c) its) i) → TuplesAre (WhereBind c sp) its i
      at_one i u r = ap (λ o. list_of (and_then o (λ v. cond (holds v) (tuples docs sp i.env i.vector) (Some [])))) u.1 ∙ go (holds u.0) refl
        where
          go : (t : Bool) → holds u.0 ≡ t → list_of (cond (holds u.0) (tuples docs sp i.env i.vector) (Some [])) ≡ map (tuple_of (WhereBind c sp)) (tuples_at docs (WhereBind c sp) its i)
          go true e = ap (λ t. list_of (cond t (tuples docs sp i.env i.vector) (Some []))) e ∙ r (ap chosen_in u.1 ∙ e) ∙ ap (λ t. map (tuple_of sp) (cond t (tuples_at docs sp (filter (chosen docs c) its) i) [])) (sym (ap chosen_in u.1 ∙ e))
          go false e = ap (λ t. list_of (cond t (tuples docs sp i.env i.vector) (Some []))) e ∙ ap (λ t. map (tuple_of sp) (cond t (tuples_at docs sp (filter (chosen docs c) its) i) [])) (sym (ap chosen_in u.1 ∙ e))
