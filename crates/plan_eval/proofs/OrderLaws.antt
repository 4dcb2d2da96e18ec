-- What an event reads was evaluated before it.
use Rattle.std.proofs.Common.{inl, inr, ◌≡◌, ℕ, zero, suc, ◌+◌, ◌<◌, ◌≤◌, min, Bool, true, false, cond, ◌||◌, List, [], ◌∷◌, ◌++◌, length, map, get_or, drop, refl, sym, ap, ◌∙◌, subst, arith, Option, Some, None}
use Rattle.std.specs.Prelude.{nat_eq, nat_lt, slice_get}
use Rattle.std.proofs.lemmas.Bool.{false≢true, eqb-true, ltb-true}
use Rattle.std.proofs.lemmas.Bool.Decides.{nat_tests}
use Rattle.doc_table.specs.Ascending.{In}
use Rattle.doc_table.proofs.Ascending.{in-left, in-right}
use Rattle.plan_dag.specs.declared.check.Check.{Check}
use Rattle.plan_dag.specs.declared.op.Op.{Op}
use Rattle.plan_dag.specs.declared.op.OpId.{OpId}
use Rattle.plan_dag.specs.Meaning.{Graph}
use Rattle.plan_dag.specs.Needed.{is_input}
use Rattle.plan_dag.specs.Schema.{second_input, is_valid}
use Rattle.table_ops.specs.Chains.{places_of}
use Rattle.plan_eval.specs.declared.events.Event.{Event}
use Rattle.plan_eval.specs.declared.events.Event.TheVariants as v
use Rattle.plan_eval.specs.Turns.{targets_of, first_turn, reads_op, least_turn, turns_from, turns_of, make_event, events_from, events_of}
use Rattle.plan_eval.specs.Uses.{reads_with, uses}
use Rattle.plan_eval.proofs.OnceMaps.{to-none}
use Rattle.plan_eval.proofs.TurnLaws.{all_turns, turns-length, map-length, turn-in, reads-none-later}

-- the operators that are done have all that events read
abbrev pub Ordered : Graph → List ℕ → List Event → Type 0
Ordered g done [] = (k : ℕ) → k < length g.ops → is_input k g.root ≡ true → In k done
Ordered g done (v.Make i ∷ es) = (i.0 < length g.ops) × ((k : ℕ) → k < length g.ops → uses g.ops k (v.Make i) ≡ true → In k done) × Ordered g (done ++ i.0 ∷ []) es
Ordered g done (v.Test c ∷ es) = ((k : ℕ) → k < length g.ops → uses g.ops k (v.Test c) ≡ true → In k done) × Ordered g done es

-- ---- least turns

least-base : (k b : ℕ) (rs : List (Op × ℕ)) → least_turn k b rs ≤ b
least-base k b [] = omega arith
least-base k b (r ∷ rs) = at (reads_op k r.0) (least-base k b rs)
  where
    at : (t : Bool) → least_turn k b rs ≤ b → cond t (min (least_turn k b rs) r.1) (least_turn k b rs) ≤ b
    at true l = omega (arith, l)
    at false l = l

least-member : (k b : ℕ) (rs : List (Op × ℕ)) (r : Op × ℕ) → In r rs → reads_op k r.0 ≡ true → least_turn k b rs ≤ r.1
least-member k b [] r i e = absurd i
least-member k b (x ∷ rs) r i e = elim i [
  | inl s ↦ here (reads_op k x.0) (ap (λ z. reads_op k z.0) (sym s) ∙ e) (ap (λ z. z.1) s)
  | inr j ↦ there (reads_op k x.0) (least-member k b rs r j e)
]
  where
    here : (t : Bool) → t ≡ true → r.1 ≡ x.1 → cond t (min (least_turn k b rs) x.1) (least_turn k b rs) ≤ r.1
    here true q s = omega (arith, s)
    here false q s = absurd (false≢true q)

    there : (t : Bool) → least_turn k b rs ≤ r.1 → cond t (min (least_turn k b rs) x.1) (least_turn k b rs) ≤ r.1
    there true l = omega (arith, l)
    there false l = l

first-least : (k : ℕ) (ts : List (Option OpId)) (t : ℕ) (target : Option OpId) → slice_get ts t ≡ Some target → is_input k target ≡ true → first_turn k ts ≤ t
first-least k [] t target g e = absurd (cc)
first-least k (x ∷ ts) zero target g e = at (is_input k x) (ap (is_input k) (inner g) ∙ e)
  where
    inner : {X : Type 0} {x y : X} → Some x ≡ Some y → x ≡ y
    inner e = cc

    at : (b : Bool) → b ≡ true → cond b 0 (suc (first_turn k ts)) ≤ 0
    at true q = omega arith
    at false q = absurd (false≢true q)
first-least k (x ∷ ts) (suc t) target g e = at (is_input k x) (first-least k ts t target g e)
  where
    at : (b : Bool) → first_turn k ts ≤ t → cond b 0 (suc (first_turn k ts)) ≤ suc t
    at true l = omega arith
    at false l = omega (arith, l)

-- ---- places in lists

some-at : {X : Type 0} (xs : List X) (k : ℕ) → k < length xs → (x : X) × (slice_get xs k ≡ Some x)
some-at [] k l = absurd (omega (arith, l))
some-at (x ∷ xs) zero l = (x, refl)
some-at (x ∷ xs) (suc k) l = some-at xs k (omega (arith, l))

in-drop : {X : Type 0} (xs : List X) (m j : ℕ) (x : X) → slice_get xs m ≡ Some x → j ≤ m → In x (drop j xs)
in-drop [] m j x g l = absurd (cc)
in-drop (y ∷ xs) zero zero x g l = inl (inner g)
  where
    inner : {X : Type 0} {x y : X} → Some y ≡ Some x → x ≡ y
    inner e = cc
in-drop (y ∷ xs) zero (suc j) x g l = absurd (omega (arith, l))
in-drop (y ∷ xs) (suc m) zero x g l = inr (subst (In x) (drop-none xs) (in-drop xs m 0 x g (omega arith)))
  where
    drop-none : {X : Type 0} (xs : List X) → drop 0 xs ≡ xs
    drop-none [] = refl
    drop-none (x ∷ xs) = refl
in-drop (y ∷ xs) (suc m) (suc j) x g l = in-drop xs m j x g (omega (arith, l))

turn-listed : (ts : List (Option OpId)) (from m : ℕ) (ops : List Op) (op : Op) → slice_get ops m ≡ Some op → slice_get (turns_from ts from ops) m ≡ Some (op, get_or (map (λ r. r.1) (turns_from ts from ops)) m 0)
turn-listed ts from m [] op g = absurd (cc)
turn-listed ts from zero (x ∷ ops) op g = ap (λ z. Some (z, least_turn from (first_turn from ts) (turns_from ts (suc from) ops))) (inner g)
  where
    inner : {X : Type 0} {x y : X} → Some x ≡ Some y → x ≡ y
    inner e = cc
turn-listed ts from (suc m) (x ∷ ops) op g = turn-listed ts (suc from) m ops op g

drop-next : (xs : List ℕ) (i x : ℕ) (rest : List ℕ) → drop i xs ≡ x ∷ rest → (i < length xs) × (get_or xs i 0 ≡ x) × (drop (suc i) xs ≡ rest)
drop-next [] zero x rest e = absurd (cc)
drop-next [] (suc i) x rest e = absurd (cc)
drop-next (y ∷ xs) zero x rest e = (omega arith, first e, second e)
  where
    first : {X : Type 0} {y x : X} {xs rest : List X} → y ∷ xs ≡ x ∷ rest → y ≡ x
    first e = cc

    second : {X : Type 0} {y x : X} {xs rest : List X} → y ∷ xs ≡ x ∷ rest → drop 0 xs ≡ rest
    second e = cc
drop-next (y ∷ xs) (suc i) x rest e = let r = drop-next xs i x rest e in (omega (arith, r.0), r.1, r.2)

drop-over : (xs : List ℕ) (i : ℕ) → drop i xs ≡ [] → length xs ≤ i
drop-over [] i e = omega arith
drop-over (y ∷ xs) zero e = absurd (cc)
drop-over (y ∷ xs) (suc i) e = let r = drop-over xs i e in omega (arith, r)

check-next : (xs : List Check) (i : ℕ) (x : Check) (rest : List Check) → drop i xs ≡ x ∷ rest → (slice_get xs i ≡ Some x) × (drop (suc i) xs ≡ rest)
check-next [] zero x rest e = absurd (cc)
check-next [] (suc i) x rest e = absurd (cc)
check-next (y ∷ xs) zero x rest e = (ap Some (first e), second e)
  where
    first : {X : Type 0} {y x : X} {xs rest : List X} → y ∷ xs ≡ x ∷ rest → y ≡ x
    first e = cc

    second : {X : Type 0} {y x : X} {xs rest : List X} → y ∷ xs ≡ x ∷ rest → drop 0 xs ≡ rest
    second e = cc
check-next (y ∷ xs) (suc i) x rest e = check-next xs i x rest e

target-check : (checks : List Check) (root : Option OpId) (t : ℕ) (c : Check) → slice_get checks t ≡ Some c → slice_get (targets_of checks root) t ≡ Some (Some c.op)
target-check [] root t c g = absurd (cc)
target-check (x ∷ checks) root zero c g = ap (λ (z : Check). Some (Some z.op)) (inner g)
  where
    inner : {X : Type 0} {x y : X} → Some x ≡ Some y → x ≡ y
    inner e = cc
target-check (x ∷ checks) root (suc t) c g = target-check checks root t c g

target-root : (checks : List Check) (root : Option OpId) (t : ℕ) → drop t checks ≡ [] → t ≤ length checks → slice_get (targets_of checks root) t ≡ Some root
target-root [] root zero e l = refl
target-root [] root (suc t) e l = absurd (omega (arith, l))
target-root (c ∷ checks) root zero e l = absurd (cc)
target-root (c ∷ checks) root (suc t) e l = target-root checks root t e (omega (arith, l))

module _ (g : Graph) (valid : is_valid g.ops ≡ true) where
  abbrev ts : List (Option OpId)
  ts = targets_of g.checks g.root

  abbrev turn : ℕ → ℕ
  turn k = get_or (turns_of g) k 0

  turn-own : (k : ℕ) → k < length g.ops → turn k ≡ least_turn k (first_turn k ts) (drop (suc k) (all_turns g))
  turn-own k l =
      let x = some-at g.ops k l in
      let r = turn-in ts 0 k g.ops x.0 x.1 in
      let e : 0 + k ≡ k = omega arith in
      r.1 ∙ ap (λ z. least_turn z (first_turn z ts) (drop (suc k) (all_turns g))) e

  by-target : (k t : ℕ) (target : Option OpId) → k < length g.ops → slice_get ts t ≡ Some target → is_input k target ≡ true → turn k ≤ t
  by-target k t target l s i =
      let a = turn-own k l in
      let b = least-base k (first_turn k ts) (drop (suc k) (all_turns g)) in
      let c = first-least k ts t target s i in
      omega (arith, a, b, c)

  -- what an operator reads stands before it and has no later turn
  reads-before' : (m k : ℕ) (op : Op) → slice_get g.ops m ≡ Some op → reads_op k op ≡ true → k < length g.ops → (k < m) × (turn k ≤ turn m)
  reads-before' m k op s r l = at (nat_lt k m) refl
    where
      none : m ≤ k → reads_op k op ≡ false
      none q = let n = reads-none-later g m k op valid s q in ap (λ b. b || is_input k (second_input op)) n.0 ∙ n.1

      at : (b : Bool) → nat_lt k m ≡ b → (k < m) × (turn k ≤ turn m)
      at true q =
          let less = ltb-true k m q in
          let own = turn-own k l in
          let listed = in-drop (all_turns g) m (suc k) (op, turn m) (turn-listed ts 0 m g.ops op s) (omega (arith, less)) in
          let least = least-member k (first_turn k ts) (drop (suc k) (all_turns g)) (op, turn m) listed r in
          (less, omega (arith, own, least))
      at false q =
          let more : m ≤ k = grind (arith, nat_tests) in
          absurd (false≢true (sym (none more) ∙ r))

  -- the operators of all turns before one are done
  abbrev Full : ℕ → List ℕ → Type 0
  Full t done = (k : ℕ) → k < length g.ops → turn k < t → In k done

  abbrev Part : ℕ → ℕ → List ℕ → Type 0
  Part t i done = (k : ℕ) → k < i → k < length g.ops → turn k ≡ t → In k done

  up-to : (t i : ℕ) (done : List ℕ) → Full t done → Part t i done → (k : ℕ) → k < i → k < length g.ops → turn k ≤ t → In k done
  up-to t i done full part k l w u = at (nat_lt (turn k) t) refl
    where
      at : (b : Bool) → nat_lt (turn k) t ≡ b → In k done
      at true q = full k w (ltb-true (turn k) t q)
      at false q = let same : turn k ≡ t = grind (arith, nat_tests) in part k l w same

  many : length (turns_of g) ≡ length g.ops
  many = map-length (λ r. r.1) (all_turns g) ∙ turns-length ts 0 g.ops

  segment : (t i : ℕ) (xs done : List ℕ) (rest : List Event) → drop i (turns_of g) ≡ xs → Full t done → Part t i done → ((after : List ℕ) → Full (suc t) after → Ordered g after rest) → Ordered g done (map make_event (places_of (nat_eq t) i xs) ++ rest)
  segment t i [] done rest e full part go =
      let over = drop-over (turns_of g) i e in
      go done (λ k w u. up-to t i done full part k (omega (arith, over, many, w)) w (omega (arith, u)))
  segment t i (x ∷ xs) done rest e full part go = at (nat_eq t x) refl (λ done' f q. segment t (suc i) xs done' rest (drop-next (turns_of g) i x xs e).2 f q go)
    where
      here : (i < length (turns_of g)) × (turn i ≡ x) × (drop (suc i) (turns_of g) ≡ xs)
      here = drop-next (turns_of g) i x xs e

      reads : (k : ℕ) → k < length g.ops → x ≡ t → (o : Option Op) → slice_get g.ops i ≡ o → reads_with k o ≡ true → In k done
      reads k w s None q u = absurd (false≢true u)
      reads k w s (Some op) q u =
          let r = reads-before' i k op q u w in
          up-to t i done full part k r.0 w (let h = here.1 in omega (arith, r.1, h, s))

      later : (done' : List ℕ) → ((k : ℕ) → In k done → In k done') → (x ≡ t → In i done') → Part t (suc i) done'
      later done' f own k l w u = two (nat_lt k i) refl
        where
          two : (b : Bool) → nat_lt k i ≡ b → In k done'
          two true q = f k (part k (ltb-true k i q) w u)
          two false q =
              let same : k ≡ i = grind (arith, nat_tests) in
              subst (λ z. In z done') (sym same) (own (sym here.1 ∙ ap turn (sym same) ∙ u))

      at : (b : Bool) → nat_eq t x ≡ b → ((done' : List ℕ) → Full t done' → Part t (suc i) done' → Ordered g done' (map make_event (places_of (nat_eq t) (suc i) xs) ++ rest)) → Ordered g done (map make_event (cond b (i ∷ places_of (nat_eq t) (suc i) xs) (places_of (nat_eq t) (suc i) xs)) ++ rest)
      at true q next =
          let s : x ≡ t = sym (eqb-true t x q) in
          let small : i < length g.ops = let h = here.0 in omega (arith, h, many) in
          let done' = done ++ i ∷ [] in (
            small,
            (λ k w u. reads k w s (slice_get g.ops i) refl u),
            next done' (λ k w u. in-left k done (i ∷ []) (full k w u)) (later done' (λ k h. in-left k done (i ∷ []) h) (λ _. in-right i done (i ∷ []) (inl refl))),
          )
      at false q next = next done full (later done (λ k h. h) (λ s. absurd (false≢true (sym q ∙ ap (nat_eq t) s ∙ self t))))
        where
          self : (n : ℕ) → nat_eq n n ≡ true
          self n = grind (arith, nat_tests)

  from-turn : (t : ℕ) (checks : List Check) (done : List ℕ) → drop t g.checks ≡ checks → t ≤ length g.checks → Full t done → Ordered g done (events_from (turns_of g) t checks)
  from-turn t [] done e l full =
      subst (Ordered g done) (to-none (map make_event (places_of (nat_eq t) 0 (turns_of g))))
      (segment t 0 (turns_of g) done [] (drop-none (turns_of g)) full (λ k w u. absurd (omega (arith, w)))
      (λ after f k w i. f k w (let b = by-target k t g.root w (target-root g.checks g.root t e l) i in omega (arith, b))))
    where
      drop-none : (xs : List ℕ) → drop 0 xs ≡ xs
      drop-none [] = refl
      drop-none (x ∷ xs) = refl
  from-turn t (c ∷ cs) done e l full =
      let next = check-next g.checks t c cs e in
      segment t 0 (turns_of g) done (v.Test c ∷ events_from (turns_of g) (suc t) cs) (drop-none (turns_of g)) full (λ k w u. absurd (omega (arith, w)))
      (λ after f. ((λ k w u. f k w (let b = by-target k t (Some c.op) w (target-check g.checks g.root t c next.0) u in omega (arith, b))), from-turn (suc t) cs after next.1 (within g.checks t c next.0) f))
    where
      drop-none : (xs : List ℕ) → drop 0 xs ≡ xs
      drop-none [] = refl
      drop-none (x ∷ xs) = refl

      within : (xs : List Check) (t : ℕ) (x : Check) → slice_get xs t ≡ Some x → suc t ≤ length xs
      within [] t x g = absurd (cc)
      within (y ∷ xs) zero x g = omega arith
      within (y ∷ xs) (suc t) x g = let r = within xs t x g in omega (arith, r)

  pub events-ordered : Ordered g [] (events_of g)
  events-ordered = from-turn 0 g.checks [] (drop-none g.checks) (omega arith) (λ k w u. absurd (omega (arith, u)))
    where
      drop-none : (xs : List Check) → drop 0 xs ≡ xs
      drop-none [] = refl
      drop-none (x ∷ xs) = refl
