-- The turns of operators, from the last operator to the first.
use Rattle.std.proofs.Common.{◌≡◌, ℕ, zero, suc, ◌+◌, ◌-◌, ◌<◌, ◌≤◌, min, Bool, true, false, cond, ◌&&◌, ◌||◌, List, [], ◌∷◌, length, map, get_or, set, drop, refl, sym, ap, ◌∙◌, subst, arith, Option, Some, None}
use Rattle.std.specs.Prelude.{nat_eq, nat_lt, slice_get, slice_index_or}
use Rattle.std.proofs.lemmas.Bool.{false≢true, eqb-true, and_parts, lt-ltb, ltb-true}
use Rattle.std.proofs.lemmas.Bool.Decides.{nat_tests}
use Rattle.std.proofs.lemmas.List.{length-set, get_or-set_same, get_or-set_other}
use Rattle.plan_dag.specs.declared.check.Check.{Check}
use Rattle.plan_dag.specs.declared.op.Op.{Op}
use Rattle.plan_dag.specs.declared.op.OpId.{OpId}
use Rattle.plan_dag.specs.Meaning.{Graph}
use Rattle.plan_dag.specs.Needed.{is_input}
use Rattle.plan_dag.specs.Schema.{first_input, second_input, is_valid, stands_before}
use Rattle.plan_eval.proofs.TableLaws.{fits-in}
use Rattle.plan_eval.specs.Turns.{targets_of, first_turn, reads_op, least_turn, turns_from, turns_of, lowered, AreFirst}

-- ---- one turn lowered

pub lowered-length : (turn : ℕ) (input : Option OpId) (ts : List ℕ) → length (lowered turn input ts) ≡ length ts
lowered-length turn None ts = refl
lowered-length turn (Some i) ts = at (nat_lt i.0 (length ts) && nat_lt turn (get_or ts i.0 0))
  where
    at : (b : Bool) → length (cond b (set ts i.0 turn) ts) ≡ length ts
    at true = length-set ts i.0 turn
    at false = refl

min-least : (a b : ℕ) → nat_lt b a ≡ false → min a b ≡ a
min-least a b h = omega (arith, le)
  where
    le : a ≤ b
    le = grind (arith, nat_tests)

min-second : (a b : ℕ) → nat_lt b a ≡ true → min a b ≡ b
min-second a b h = let l = ltb-true b a h in omega (arith, l)

pub lowered-at : (turn : ℕ) (input : Option OpId) (ts : List ℕ) (k : ℕ) → k < length ts → get_or (lowered turn input ts) k 0 ≡ cond (is_input k input) (min (get_or ts k 0) turn) (get_or ts k 0)
lowered-at turn None ts k l = refl
lowered-at turn (Some i) ts k l = at (nat_eq i.0 k) refl
  where
    there : i.0 ≡ k → (b : Bool) → nat_lt i.0 (length ts) && nat_lt turn (get_or ts i.0 0) ≡ b → get_or (cond b (set ts i.0 turn) ts) k 0 ≡ min (get_or ts k 0) turn
    there e true h =
        let p = and_parts (nat_lt i.0 (length ts)) (nat_lt turn (get_or ts i.0 0)) h in
        ap (λ z. get_or (set ts z turn) k 0) e ∙ get_or-set_same ts k turn 0 l ∙ sym (min-second (get_or ts k 0) turn (ap (λ z. nat_lt turn (get_or ts z 0)) (sym e) ∙ p.1))
    there e false h =
        let w : nat_lt i.0 (length ts) ≡ true = lt-ltb i.0 (length ts) (subst (λ z. z < length ts) (sym e) l) in
        sym (min-least (get_or ts k 0) turn (ap (λ z. nat_lt turn (get_or ts z 0)) (sym e) ∙ ap (λ b. b && nat_lt turn (get_or ts i.0 0)) (sym w) ∙ h))

    other : (nat_eq i.0 k ≡ false) → (b : Bool) → get_or (cond b (set ts i.0 turn) ts) k 0 ≡ get_or ts k 0
    other n true = get_or-set_other ts i.0 k turn 0 (λ e. false≢true (sym n ∙ ap (λ z. nat_eq z k) (sym e) ∙ self k))
      where
        self : (k : ℕ) → nat_eq k k ≡ true
        self k = grind (arith, nat_tests)
    other n false = refl

    at : (b : Bool) → nat_eq i.0 k ≡ b → get_or (lowered turn (Some i) ts) k 0 ≡ cond b (min (get_or ts k 0) turn) (get_or ts k 0)
    at true e = there (eqb-true i.0 k e) (nat_lt i.0 (length ts) && nat_lt turn (get_or ts i.0 0)) refl
    at false e = other e (nat_lt i.0 (length ts) && nat_lt turn (get_or ts i.0 0))

-- ---- the turns of targets

min-suc : (n x : ℕ) → min (suc n + x) n ≡ n + 0
min-suc n x = omega arith

pub first-lowered : (turn : ℕ) (target : Option OpId) (rest : List (Option OpId)) (ts : List ℕ) (k : ℕ) → k < length ts → get_or ts k 0 ≡ suc turn + first_turn k rest → get_or (lowered turn target ts) k 0 ≡ turn + first_turn k (target ∷ rest)
first-lowered turn target rest ts k l e = lowered-at turn target ts k l ∙ ap (λ z. cond (is_input k target) (min z turn) z) e ∙ at (is_input k target)
  where
    at : (b : Bool) → cond b (min (suc turn + first_turn k rest) turn) (suc turn + first_turn k rest) ≡ turn + cond b 0 (suc (first_turn k rest))
    at true = min-suc turn (first_turn k rest)
    at false = omega arith

-- ---- from the last operator on

abbrev pub all_turns : Graph → List (Op × ℕ)
all_turns g = turns_from (targets_of g.checks g.root) 0 g.ops

-- from an operator on the turns are final; before it those that stand behind are taken into account
pub record TurnsFrom (g : Graph) (k : ℕ) (turns : List ℕ) : Type 0 where
  pub within : k ≤ length g.ops
  pub as_many : length turns ≡ length g.ops
  pub before : (j : ℕ) → j < k → get_or turns j 0 ≡ least_turn j (first_turn j (targets_of g.checks g.root)) (drop k (all_turns g))
  pub done : (j : ℕ) → k ≤ j → j < length g.ops → get_or turns j 0 ≡ get_or (turns_of g) j 0

pub turns-length : (ts : List (Option OpId)) (k : ℕ) (ops : List Op) → length (turns_from ts k ops) ≡ length ops
turns-length ts k [] = refl
turns-length ts k (op ∷ ops) = ap suc (turns-length ts (suc k) ops)

pub drop-all : {X : Type 0} (n : ℕ) (xs : List X) → length xs ≤ n → drop n xs ≡ []
drop-all zero [] l = refl
drop-all (suc n) [] l = refl
drop-all zero (x ∷ xs) l = absurd (omega (arith, l))
drop-all (suc n) (x ∷ xs) l = drop-all n xs (omega (arith, l))

pub turns-begin : (g : Graph) (k : ℕ) (turns : List ℕ) → AreFirst g turns → k ≡ length turns → TurnsFrom g k turns
turns-begin g k turns a e = record {
  within = omega (arith, e, a.as_many);
  as_many = a.as_many;
  before = λ j l. a.first j (omega (arith, e, l, a.as_many)) ∙ ap (least_turn j (first_turn j (targets_of g.checks g.root))) (sym (drop-all k (all_turns g) (let m = turns-length (targets_of g.checks g.root) 0 g.ops in omega (arith, m, e, a.as_many))));
  done = λ j l m. absurd (omega (arith, e, l, m, a.as_many));
}

-- the turn of an operator is known from those behind it
pub turn-in : (ts : List (Option OpId)) (from k : ℕ) (ops : List Op) (op : Op) → slice_get ops k ≡ Some op
    → (drop k (turns_from ts from ops) ≡ (op, least_turn (from + k) (first_turn (from + k) ts) (drop (suc k) (turns_from ts from ops))) ∷ drop (suc k) (turns_from ts from ops))
    × (get_or (map (λ r. r.1) (turns_from ts from ops)) k 0 ≡ least_turn (from + k) (first_turn (from + k) ts) (drop (suc k) (turns_from ts from ops)))
turn-in ts from k [] op e = absurd (cc)
turn-in ts from zero (x ∷ ops) op e =
    let same : x ≡ op = inner e in
    let none : from ≡ from + 0 = omega arith in
    let rest = turns_from ts (suc from) ops in
    (ap (λ z. (z, least_turn from (first_turn from ts) rest) ∷ rest) same ∙ ap (λ z. (op, least_turn z (first_turn z ts) rest) ∷ rest) none, ap (λ z. least_turn z (first_turn z ts) rest) none)
  where
    inner : {X : Type 0} {x y : X} → Some x ≡ Some y → x ≡ y
    inner e = cc
turn-in ts from (suc k) (x ∷ ops) op e =
    let r = turn-in ts (suc from) k ops op e in
    let same : suc from + k ≡ from + suc k = omega arith in
    let rest = drop (suc k) (turns_from ts (suc from) ops) in
    (r.0 ∙ ap (λ z. (op, least_turn z (first_turn z ts) rest) ∷ rest) same, r.1 ∙ ap (λ z. least_turn z (first_turn z ts) rest) same)

-- in a valid plan an operator reads those before it alone
stands : (n k : ℕ) (input : Option OpId) → stands_before n input ≡ true → n ≤ k → is_input k input ≡ false
stands n k None h l = refl
stands n k (Some i) h l = let m = ltb-true i.0 n h in apart (omega (arith, m, l))
  where
    apart : i.0 < k → nat_eq i.0 k ≡ false
    apart h = grind (arith, nat_tests)

pub reads-none-later : (g : Graph) (k j : ℕ) (op : Op) → is_valid g.ops ≡ true → slice_get g.ops k ≡ Some op → k ≤ j → (is_input j (first_input op) ≡ false) × (is_input j (second_input op) ≡ false)
reads-none-later g k j op v e l =
    let f = fits-in g.ops k op v e in
    (stands k j (first_input op) f.first_before l, stands k j (second_input op) f.second_before l)

min-twice : (a b : Bool) (x t : ℕ) → cond b (min (cond a (min x t) x) t) (cond a (min x t) x) ≡ cond (a || b) (min x t) x
min-twice true true x t = omega arith
min-twice true false x t = refl
min-twice false true x t = refl
min-twice false false x t = refl

any-default : (xs : List ℕ) (k d : ℕ) → k < length xs → get_or xs k d ≡ get_or xs k 0
any-default [] k d l = absurd (omega (arith, l))
any-default (x ∷ xs) zero d l = refl
any-default (x ∷ xs) (suc k) d l = any-default xs k d (omega (arith, l))

-- one operator more
pub turns-step : (g : Graph) (k : ℕ) (op : Op) (turn d : ℕ) (turns mid new : List ℕ) → is_valid g.ops ≡ true → TurnsFrom g (suc k) turns → slice_get g.ops k ≡ Some op → turn ≡ get_or turns k d
    → mid ≡ lowered turn (first_input op) turns → new ≡ lowered turn (second_input op) mid → TurnsFrom g k new
turns-step g k op turn d turns mid new v s e t' m n =
    let t : turn ≡ get_or turns k 0 = t' ∙ any-default turns k d (let w = s.within in let q = s.as_many in omega (arith, w, q)) in
    let ts = targets_of g.checks g.root in
    let at = turn-in ts 0 k g.ops op e in
    let zero-plus : 0 + k ≡ k = omega arith in
    let rest = drop (suc k) (all_turns g) in
    let own : get_or (turns_of g) k 0 ≡ least_turn k (first_turn k ts) rest = at.1 ∙ ap (λ z. least_turn z (first_turn z ts) rest) zero-plus in
    let mine : turn ≡ least_turn k (first_turn k ts) rest = t ∙ s.before k (omega arith) in
    let next : drop k (all_turns g) ≡ (op, turn) ∷ rest = at.0 ∙ ap (λ z. (op, least_turn z (first_turn z ts) rest) ∷ rest) zero-plus ∙ ap (λ z. (op, z) ∷ rest) (sym mine) in
    let many : length mid ≡ length g.ops = ap length m ∙ lowered-length turn (first_input op) turns ∙ s.as_many in
    let small : k < length g.ops = let w = s.within in omega (arith, w) in
    let both : (j : ℕ) → j < length g.ops → get_or new j 0 ≡ cond (reads_op j op) (min (get_or turns j 0) turn) (get_or turns j 0) = λ j l.
    ap (λ z. get_or z j 0) n ∙ lowered-at turn (second_input op) mid j (omega (arith, many, l))
    ∙ ap (λ z. cond (is_input j (second_input op)) (min z turn) z) (ap (λ z. get_or z j 0) m ∙ lowered-at turn (first_input op) turns j (let x = s.as_many in omega (arith, x, l)))
    ∙ min-twice (is_input j (first_input op)) (is_input j (second_input op)) (get_or turns j 0) turn in
    let later : (j : ℕ) → k ≤ j → j < length g.ops → get_or new j 0 ≡ get_or turns j 0 = λ j l w.
    let r = reads-none-later g k j op v e l in
    both j w ∙ ap (λ b. cond (b || is_input j (second_input op)) (min (get_or turns j 0) turn) (get_or turns j 0)) r.0 ∙ ap (λ b. cond b (min (get_or turns j 0) turn) (get_or turns j 0)) r.1 in
    record {
      within = omega (arith, small);
      as_many = ap length n ∙ lowered-length turn (second_input op) mid ∙ many;
      before = λ j l. both j (omega (arith, l, small)) ∙ ap (λ z. cond (reads_op j op) (min z turn) z) (s.before j (omega (arith, l))) ∙ ap (least_turn j (first_turn j ts)) (sym next);
      done = λ j l w. later j l w ∙ here j l w (nat_lt k j) refl (sym t ∙ mine ∙ sym own);
    }
  where
    here : (j : ℕ) → k ≤ j → j < length g.ops → (b : Bool) → nat_lt k j ≡ b → get_or turns k 0 ≡ get_or (turns_of g) k 0 → get_or turns j 0 ≡ get_or (turns_of g) j 0
    here j l w true q o = s.done j (ltb-true k j q) w
    here j l w false q o = let same : k ≡ j = grind (arith, nat_tests) in subst (λ z. get_or turns z 0 ≡ get_or (turns_of g) z 0) same o

-- lists with the same elements at each place
each-place : (xs ys : List ℕ) → length xs ≡ length ys → ((k : ℕ) → k < length ys → get_or xs k 0 ≡ get_or ys k 0) → xs ≡ ys
each-place [] [] e f = refl
each-place [] (y ∷ ys) e f = absurd (omega (arith, e))
each-place (x ∷ xs) [] e f = absurd (omega (arith, e))
each-place (x ∷ xs) (y ∷ ys) e f = ap (λ z. z ∷ xs) (f 0 (omega arith)) ∙ ap (λ z. y ∷ z) (each-place xs ys (omega (arith, e)) (λ k l. f (suc k) (omega (arith, l))))

pub map-length : {X Y : Type 0} (g : X → Y) (xs : List X) → length (map g xs) ≡ length xs
map-length g [] = refl
map-length g (x ∷ xs) = ap suc (map-length g xs)

pub turns-end : (g : Graph) (turns : List ℕ) → TurnsFrom g 0 turns → turns ≡ turns_of g
turns-end g turns s =
    let many : length (turns_of g) ≡ length g.ops = map-length (λ r. r.1) (all_turns g) ∙ turns-length (targets_of g.checks g.root) 0 g.ops in
    each-place turns (turns_of g) (s.as_many ∙ sym many) (λ k l. s.done k (omega arith) (omega (arith, many, l)))

-- the turns of targets, one target more
pub first-step : (checks : List Check) (root : Option OpId) (n turn : ℕ) (c : Check) (old new : List ℕ) → 0 < turn → turn ≤ length checks → slice_get checks (turn - 1) ≡ Some c → new ≡ lowered (turn - 1) (Some c.op) old → length old ≡ n
    → ((k : ℕ) → k < n → get_or old k 0 ≡ turn + first_turn k (drop turn (targets_of checks root)))
    → (turn - 1 ≤ length checks) × (length new ≡ n) × ((k : ℕ) → k < n → get_or new k 0 ≡ turn - 1 + first_turn k (drop (turn - 1) (targets_of checks root)))
first-step checks root n zero c old new some l e g m f = absurd (omega (arith, some))
first-step checks root n (suc t) c old new some l e g m f =
    let back : suc t - 1 ≡ t = omega arith in
    let at : slice_get checks t ≡ Some c = ap (slice_get checks) (sym back) ∙ e in
    let is : new ≡ lowered t (Some c.op) old = g ∙ ap (λ z. lowered z (Some c.op) old) back in
    let next : drop t (targets_of checks root) ≡ Some c.op ∷ drop (suc t) (targets_of checks root) = target-next checks root t c at in (
      omega (arith, l),
      ap length is ∙ lowered-length t (Some c.op) old ∙ m,
      (λ k w. ap (λ z. get_or z k 0) is ∙ first-lowered t (Some c.op) (drop (suc t) (targets_of checks root)) old k (omega (arith, w, m)) (f k w) ∙ ap (λ z. t + first_turn k z) (sym next) ∙ ap (λ z. z + first_turn k (drop z (targets_of checks root))) (sym back)),
    )
  where
    target-next : (xs : List Check) (root : Option OpId) (t : ℕ) (c : Check) → slice_get xs t ≡ Some c → drop t (targets_of xs root) ≡ Some c.op ∷ drop (suc t) (targets_of xs root)
    target-next [] root t c e = absurd (cc)
    target-next (x ∷ xs) root zero c e = ap (λ (z : Check). Some z.op ∷ targets_of xs root) (inner e)
      where
        inner : {X : Type 0} {x y : X} → Some x ≡ Some y → x ≡ y
        inner e = cc
    target-next (x ∷ xs) root (suc t) c e = target-next xs root t c e

pub check-at : (checks : List Check) (k : ℕ) (d : Check) → k < length checks → slice_get checks k ≡ Some (slice_index_or checks k d)
check-at [] k d l = absurd (omega (arith, l))
check-at (x ∷ checks) zero d l = refl
check-at (x ∷ checks) (suc k) d l = check-at checks k d (omega (arith, l))

pub turns-of-input : (turn : ℕ) (input asked : Option OpId) (old new : List ℕ) → input ≡ asked → new ≡ lowered turn input old → new ≡ lowered turn asked old
turns-of-input turn input asked old new e n = n ∙ ap (λ z. lowered turn z old) e
