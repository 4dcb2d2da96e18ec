-- Places of last uses, as events come.
use Rattle.std.proofs.Common.{◌≡◌, ℕ, zero, suc, ◌+◌, ◌<◌, ◌≤◌, Bool, true, false, cond, ◌||◌, List, [], ◌∷◌, length, get_or, set, refl, sym, ap, ◌∙◌, subst, arith, Option, Some, None}
use Rattle.std.specs.Prelude.{nat_eq, nat_lt, slice_get, slice_index_or}
use Rattle.std.proofs.lemmas.Bool.{false≢true, eqb-true, lt-ltb}
use Rattle.std.proofs.lemmas.Bool.Decides.{nat_tests}
use Rattle.std.proofs.lemmas.List.{length-set, get_or-set_same, get_or-set_other}
use Rattle.plan_dag.specs.declared.op.Op.{Op}
use Rattle.plan_dag.specs.declared.op.OpId.{OpId}
use Rattle.plan_dag.specs.Needed.{is_input}
use Rattle.plan_dag.specs.Schema.{first_input, second_input}
use Rattle.plan_eval.specs.declared.events.Event.{Event}
use Rattle.plan_eval.specs.declared.events.Event.TheVariants as e
use Rattle.plan_eval.specs.Uses.{reads_with, uses, raised, raised_by, raised_at, LastUses}

raised-length : (place : ℕ) (input : Option OpId) (last : List ℕ) → length (raised place input last) ≡ length last
raised-length place None last = refl
raised-length place (Some i) last = at (nat_lt i.0 (length last))
  where
    at : (b : Bool) → length (cond b (set last i.0 place) last) ≡ length last
    at true = length-set last i.0 place
    at false = refl

raised-value : (place : ℕ) (input : Option OpId) (last : List ℕ) (k : ℕ) → k < length last → get_or (raised place input last) k 0 ≡ cond (is_input k input) place (get_or last k 0)
raised-value place None last k l = refl
raised-value place (Some i) last k l = at (nat_eq i.0 k) refl
  where
    self : (k : ℕ) → nat_eq k k ≡ true
    self k = grind (arith, nat_tests)

    other : nat_eq i.0 k ≡ false → (b : Bool) → get_or (cond b (set last i.0 place) last) k 0 ≡ get_or last k 0
    other n true = get_or-set_other last i.0 k place 0 (λ e. false≢true (sym n ∙ ap (λ z. nat_eq z k) (sym e) ∙ self k))
    other n false = refl

    at : (b : Bool) → nat_eq i.0 k ≡ b → get_or (raised place (Some i) last) k 0 ≡ cond b place (get_or last k 0)
    at true e =
        let same : i.0 ≡ k = eqb-true i.0 k e in
        let w : nat_lt i.0 (length last) ≡ true = lt-ltb i.0 (length last) (subst (λ z. z < length last) (sym same) l) in
        ap (λ b. get_or (cond b (set last i.0 place) last) k 0) w ∙ ap (λ z. get_or (set last z place) k 0) same ∙ get_or-set_same last k place 0 l
    at false e = other e (nat_lt i.0 (length last))

by-length : (place : ℕ) (op : Option Op) (last : List ℕ) → length (raised_by place op last) ≡ length last
by-length place None last = refl
by-length place (Some op) last = raised-length place (second_input op) (raised place (first_input op) last) ∙ raised-length place (first_input op) last

pub at-length : (ops : List Op) (place : ℕ) (event : Event) (last : List ℕ) → length (raised_at ops place event last) ≡ length last
at-length ops place (e.Make i) last = by-length place (slice_get ops i.0) last
at-length ops place (e.Test c) last = raised-length place (Some c.op) last

two-tests : (a b : Bool) (p x : ℕ) → cond b p (cond a p x) ≡ cond (a || b) p x
two-tests true true p x = refl
two-tests true false p x = refl
two-tests false true p x = refl
two-tests false false p x = refl

by-value : (place : ℕ) (op : Option Op) (last : List ℕ) (k : ℕ) → k < length last → get_or (raised_by place op last) k 0 ≡ cond (reads_with k op) place (get_or last k 0)
by-value place None last k l = refl
by-value place (Some op) last k l =
    let many = raised-length place (first_input op) last in
    raised-value place (second_input op) (raised place (first_input op) last) k (omega (arith, l, many))
    ∙ ap (cond (is_input k (second_input op)) place) (raised-value place (first_input op) last k l)
    ∙ two-tests (is_input k (first_input op)) (is_input k (second_input op)) place (get_or last k 0)

at-value : (ops : List Op) (place : ℕ) (event : Event) (last : List ℕ) (k : ℕ) → k < length last → get_or (raised_at ops place event last) k 0 ≡ cond (uses ops k event) place (get_or last k 0)
at-value ops place (e.Make i) last k l = by-value place (slice_get ops i.0) last k l
at-value ops place (e.Test c) last k l = raised-value place (Some c.op) last k l

-- the uses of the first so many events
pub record UsesTo (ops : List Op) (events : List Event) (places : ℕ) (last : List ℕ) : Type 0 where
  pub as_many : length last ≡ length ops
  pub used : (k place : ℕ) (event : Event) → place < places → k < length ops → slice_get events place ≡ Some event → uses ops k event ≡ true → place ≤ get_or last k 0

pub no-uses : (ops : List Op) (events : List Event) (last : List ℕ) → length last ≡ length ops → UsesTo ops events 0 last
no-uses ops events last e = record { as_many = e; used = λ k place event l w g u. absurd (omega (arith, l)) }

pub one-more-use : (ops : List Op) (events : List Event) (place : ℕ) (event : Event) (old new : List ℕ) → UsesTo ops events place old → slice_get events place ≡ Some event → new ≡ raised_at ops place event old → UsesTo ops events (place + 1) new
one-more-use ops events place event old new s e n = record {
  as_many = ap length n ∙ at-length ops place event old ∙ s.as_many;
  used = λ k q ev l w g u.
      let small : k < length old = let m = s.as_many in omega (arith, m, w) in
      let value = ap (λ z. get_or z k 0) n ∙ at-value ops place event old k small in
      at k q ev l w g u (uses ops k event) refl value (nat_lt q place) refl;
}
  where
    inner : {X : Type 0} {x y : X} → Some x ≡ Some y → x ≡ y
    inner e = cc

    at : (k q : ℕ) (ev : Event) → q < place + 1 → k < length ops → slice_get events q ≡ Some ev → uses ops k ev ≡ true → (b : Bool) → uses ops k event ≡ b → get_or new k 0 ≡ cond b place (get_or old k 0) → (d : Bool) → nat_lt q place ≡ d → q ≤ get_or new k 0
    at k q ev l w g u true b v d h = omega (arith, l, v)
    at k q ev l w g u false b v true h =
        let m : q < place = grind (arith, nat_tests) in
        let r = s.used k q ev m w g u in omega (arith, r, v)
    at k q ev l w g u false b v false h =
        let same : q ≡ place = grind (arith, nat_tests) in
        let ev-is : ev ≡ event = inner (sym g ∙ ap (slice_get events) same ∙ e) in
        absurd (false≢true (sym b ∙ ap (uses ops k) (sym ev-is) ∙ u))

pub uses-end : (ops : List Op) (root : Option OpId) (events : List Event) (places : ℕ) (old new : List ℕ) → UsesTo ops events places old → places ≡ length events → new ≡ raised (length events) root old → LastUses ops root events new
uses-end ops root events places old new s p n = record {
  as_many = ap length n ∙ raised-length (length events) root old ∙ s.as_many;
  used = λ k place event w g u.
      let small : k < length old = let m = s.as_many in omega (arith, m, w) in
      let inside = within events place event g in
      let value = ap (λ z. get_or z k 0) n ∙ raised-value (length events) root old k small in
      let r = s.used k place event (omega (arith, inside, p)) w g u in
      at k place (is_input k root) value inside r;
  root_used = λ k w i.
      let small : k < length old = let m = s.as_many in omega (arith, m, w) in
      let value = ap (λ z. get_or z k 0) n ∙ raised-value (length events) root old k small ∙ ap (λ b. cond b (length events) (get_or old k 0)) i in
      omega (arith, value);
}
  where
    within : (events : List Event) (place : ℕ) (event : Event) → slice_get events place ≡ Some event → place < length events
    within [] place event g = absurd (cc)
    within (x ∷ events) zero event g = omega arith
    within (x ∷ events) (suc place) event g = let r = within events place event g in omega (arith, r)

    at : (k place : ℕ) (b : Bool) → get_or new k 0 ≡ cond b (length events) (get_or old k 0) → place < length events → place ≤ get_or old k 0 → place ≤ get_or new k 0
    at k place true v l r = omega (arith, v, l)
    at k place false v l r = omega (arith, v, r)

-- the event at a place
pub event-at : (events : List Event) (place : ℕ) (d : Event) → place < length events → slice_get events place ≡ Some (slice_index_or events place d)
event-at [] place d l = absurd (omega (arith, l))
event-at (x ∷ events) zero d l = refl
event-at (x ∷ events) (suc place) d l = event-at events place d (omega (arith, l))
