-- The steps of a walk over the declared functions: what it has placed is an order, and it ends.
use Rattle.std.proofs.Common.{◌≡◌, refl, sym, ap, ◌∙◌, subst, ℕ, zero, suc, ◌+◌, ◌<◌, ◌≤◌, ◌⊎◌, inl, inr, cond, List, [], ◌∷◌, ◌++◌, length, take, get_or, set, arith, length-set, slice_get}
use Rattle.std.specs.List.{Contains}
use Rattle.std.proofs.lemmas.Bool.{cases_lt}
use Rattle.std.proofs.lemmas.List.{get_or_append_left, get_or_push, take-append-le, take_at, length_push, get_or-set_same, get_or-set_other}
use Rattle.std.proofs.lemmas.List.Elements.{Contains-push_cases}
use Rattle.core_normal.specs.declared.order.Mark.{Mark}
use Rattle.core_normal.specs.declared.order.Mark.TheVariants as mark_
use Rattle.core_normal.specs.declared.order.Walk.{Walk}
use Rattle.core_normal.specs.Measuring.{Declarations}
use Rattle.core_normal.specs.Order.{IsOrder, Walks, body_calls, placed, is_new, left, turns_at, turns_left}

-- one number more
order_here : (n : ℕ) (ks : List ℕ) (k i : ℕ) → IsOrder n ks → k < n → (Contains ks k → ⊥) → i < length (ks ++ k ∷ []) → (i < length ks) ⊎ (length ks ≤ i) →
    (get_or (ks ++ k ∷ []) i 0 < n) × (Contains (take i (ks ++ k ∷ [])) (get_or (ks ++ k ∷ []) i 0) → ⊥)
order_here n ks k i p below fresh h (inl here) =
    subst (λ x. (x < n) × (Contains (take i (ks ++ k ∷ [])) x → ⊥)) (sym (get_or_append_left ks (k ∷ []) 0 i here))
    (subst (λ xs. (get_or ks i 0 < n) × (Contains xs (get_or ks i 0) → ⊥)) (sym (take-append-le i ks (k ∷ []) (omega arith))) (p i here))
order_here n ks k i p below fresh h (inr past) =
    let last : length ks ≡ i = omega (arith, length_push ks k) in
    subst (λ x. (x < n) × (Contains (take i (ks ++ k ∷ [])) x → ⊥)) (sym (get_or_push ks k 0 i last))
    (subst (λ xs. (k < n) × (Contains xs k → ⊥)) (sym (take_at ks (k ∷ []) i last)) (below, fresh))

pub order_more : (n : ℕ) (ks : List ℕ) (k : ℕ) → IsOrder n ks → k < n → (Contains ks k → ⊥) → IsOrder n (ks ++ k ∷ [])
order_more n ks k p below fresh i h = order_here n ks k i p below fresh h (cases_lt i (length ks))

-- the functions that are placed are marked
abbrev pub Marked : List Mark → List ℕ → Type 0
Marked ms ks = (j : ℕ) → Contains ks j → get_or ms j mark_.Placed ≡ mark_.Placed

pub inside : (ms : List Mark) (k : ℕ) (m : Mark) → get_or ms k mark_.Placed ≡ m → (m ≡ mark_.Placed → ⊥) → k < length ms
inside [] k m p other = absurd (other (sym p))
inside (x ∷ ms) zero m p other = omega arith
inside (x ∷ ms) (suc k) m p other = omega (arith, inside ms k m p other)

pub not_placed : (m : Mark) → (m ≡ mark_.New) ⊎ (m ≡ mark_.Entered) → m ≡ mark_.Placed → ⊥
not_placed m (inl p) q = cc
not_placed m (inr p) q = cc

pub fresh_at : (ms : List Mark) (ks : List ℕ) (k : ℕ) (m : Mark) → get_or ms k mark_.Placed ≡ m → (m ≡ mark_.Placed → ⊥) → Marked ms ks → Contains ks k → ⊥
fresh_at ms ks k m p other q c = other (sym p ∙ q k c)

pub marked_other : (ms : List Mark) (ks : List ℕ) (k : ℕ) (m : Mark) → (Contains ks k → ⊥) → Marked ms ks → Marked (set ms k m) ks
marked_other ms ks k m fresh q j c =
    get_or-set_other ms k j m mark_.Placed (λ e. fresh (subst (λ x. Contains ks x) e c)) ∙ q j c

marked_here : (ms : List Mark) (ks : List ℕ) (k j : ℕ) → k < length ms → (Contains ks k → ⊥) → Marked ms ks → Contains ks j ⊎ (k ≡ j) → get_or (set ms k mark_.Placed) j mark_.Placed ≡ mark_.Placed
marked_here ms ks k j h fresh q (inl c) = marked_other ms ks k mark_.Placed fresh q j c
marked_here ms ks k j h fresh q (inr e) = subst (λ x. get_or (set ms k mark_.Placed) x mark_.Placed ≡ mark_.Placed) e (get_or-set_same ms k mark_.Placed mark_.Placed h)

pub marked_more : (ms : List Mark) (ks : List ℕ) (k : ℕ) → k < length ms → (Contains ks k → ⊥) → Marked ms ks → Marked (set ms k mark_.Placed) (ks ++ k ∷ [])
marked_more ms ks k h fresh q j c = marked_here ms ks k j h fresh q (Contains-push_cases ks k j c)

-- what is left to find: less by the weight of a function that is entered, the same where one is placed
pub left_entered : (w : ℕ → ℕ) (ms : List Mark) (k : ℕ) → get_or ms k mark_.Placed ≡ mark_.New → left w (set ms k mark_.Entered) + w k ≡ left w ms
left_entered w [] k p = absurd (not_placed mark_.New (inl refl) (sym p))
left_entered w (m ∷ ms) zero p = rw p (omega arith)
left_entered w (m ∷ ms) (suc k) p = omega (arith, left_entered (λ j. w (suc j)) ms k p)

pub left_placed : (w : ℕ → ℕ) (ms : List Mark) (k : ℕ) → get_or ms k mark_.Placed ≡ mark_.Entered → left w (set ms k mark_.Placed) ≡ left w ms
left_placed w [] k p = refl
left_placed w (m ∷ ms) zero p = rw p refl
left_placed w (m ∷ ms) (suc k) p = ap (λ n. cond (is_new m) (w 0) 0 + n) (left_placed (λ j. w (suc j)) ms k p)

-- a walk that enters a function, and one that places it
pub enter_walks : (w w' : Walk) (k : ℕ) → get_or w.marks.items k mark_.Placed ≡ mark_.New → w'.marks.items ≡ set w.marks.items k mark_.Entered → w'.order.items ≡ w.order.items → Walks w → Walks w'
enter_walks w w' k new marks order h = record {
  in_order =
      subst (λ n. IsOrder n w'.order.items) (sym (ap length marks ∙ length-set w.marks.items k mark_.Entered))
      (subst (λ ks. IsOrder (length w.marks.items) ks) (sym order) h.in_order);
  is_marked = λ j c.
      subst (λ ms. get_or ms j mark_.Placed ≡ mark_.Placed) (sym marks)
      (marked_other w.marks.items w.order.items k mark_.Entered (fresh_at w.marks.items w.order.items k mark_.New new (not_placed mark_.New (inl refl)) h.is_marked) h.is_marked j
      (subst (λ ks. Contains ks j) order c));
}

pub enter_less : (ds : Declarations) (ps : List ℕ) (w w' : Walk) (k : ℕ) (called : List ℕ) → get_or w.marks.items k mark_.Placed ≡ mark_.New → w'.marks.items ≡ set w.marks.items k mark_.Entered →
    called ≡ body_calls (placed ds (slice_get ps k)) [] → length w'.turns.items ≡ (length w.turns.items + 1) + length called → turns_left ds ps w' ≤ turns_left ds ps w
enter_less ds ps w w' k called new marks is turns =
    let less : left (turns_at ds ps) (set w.marks.items k mark_.Entered) + suc (length (body_calls (placed ds (slice_get ps k)) [])) ≡ left (turns_at ds ps) w.marks.items
    = left_entered (turns_at ds ps) w.marks.items k new in
    let same : left (turns_at ds ps) w'.marks.items ≡ left (turns_at ds ps) (set w.marks.items k mark_.Entered) = ap (left (turns_at ds ps)) marks in
    let calls : length called ≡ length (body_calls (placed ds (slice_get ps k)) []) = ap length is in
    omega (arith, less, same, calls, turns)

pub place_walks : (w w' : Walk) (k : ℕ) → get_or w.marks.items k mark_.Placed ≡ mark_.Entered → w'.marks.items ≡ set w.marks.items k mark_.Placed → w'.order.items ≡ w.order.items ++ k ∷ [] → Walks w → Walks w'
place_walks w w' k entered marks order h =
    let within : k < length w.marks.items = inside w.marks.items k mark_.Entered entered (not_placed mark_.Entered (inr refl)) in
    let fresh = fresh_at w.marks.items w.order.items k mark_.Entered entered (not_placed mark_.Entered (inr refl)) h.is_marked in
    record {
      in_order =
          subst (λ n. IsOrder n w'.order.items) (sym (ap length marks ∙ length-set w.marks.items k mark_.Placed))
          (subst (λ ks. IsOrder (length w.marks.items) ks) (sym order) (order_more (length w.marks.items) w.order.items k h.in_order within fresh));
      is_marked = λ j c.
          subst (λ ms. get_or ms j mark_.Placed ≡ mark_.Placed) (sym marks)
          (marked_more w.marks.items w.order.items k within fresh h.is_marked j (subst (λ ks. Contains ks j) order c));
    }
