-- What a search marks: what was marked, and all that the marked nodes come to.
use Rattle.std.proofs.Common.{◌≡◌, ◌≢◌, refl, sym, ap, subst, ◌∙◌, ℕ, zero, suc, ◌+◌, ◌-◌, ◌<◌, ◌≤◌, length, Bool, true, false, cond, map, List, [], ◌∷◌, ◌++◌, get_or, set, replicate, ◌⊎◌, inl, inr, Contains, slice_index_or, nat_eq, arith}
use Rattle.std.proofs.lemmas.Grind.{common_steps}
use Rattle.std.proofs.lemmas.List.{get_or-set_same, get_or-set_other, get_or-map}
use Rattle.core_scope.specs.Refusals.{Comes, straight, through}
use Rattle.core_scope.specs.Search.{Marked, Decides, Graph, targets, Search, mark, mark_all, turn_of, searched}

abbrev pub In : {A : Type 0} → A → List A → Type 0
In x [] = ⊥
In x (y ∷ ys) = (y ≡ x) ⊎ In x ys

-- how many aren't marked
abbrev pub unmarked : List Bool → ℕ
unmarked [] = 0
unmarked (true ∷ ms) = unmarked ms
unmarked (false ∷ ms) = suc (unmarked ms)

unmarked_set : (ms : List Bool) (t : ℕ) → get_or ms t true ≡ false → suc (unmarked (set ms t true)) ≡ unmarked ms
unmarked_set [] t e = cc
unmarked_set (true ∷ ms) zero e = cc
unmarked_set (false ∷ ms) zero e = refl
unmarked_set (true ∷ ms) (suc t) e = unmarked_set ms t e
unmarked_set (false ∷ ms) (suc t) e = ap suc (unmarked_set ms t e)

-- each turn takes one node off what is to be done
abbrev pub left : Search → ℕ
left s = length s.todo + unmarked s.marked

left_sum : (n a b : ℕ) → suc a ≡ b → suc n + a ≡ n + b
left_sum n a b e = omega (arith, e)

left_mark_at : (b : Bool) (t : ℕ) (s : Search) → get_or s.marked t true ≡ b → left (cond b s (record { marked = set s.marked t true; todo = t ∷ s.todo })) ≡ left s
left_mark_at true t s e = refl
left_mark_at false t s e = let one : suc (unmarked (set s.marked t true)) ≡ unmarked s.marked = unmarked_set s.marked t e in left_sum (length s.todo) (unmarked (set s.marked t true)) (unmarked s.marked) one

left_mark : (t : ℕ) (s : Search) → left (mark t s) ≡ left s
left_mark t s = left_mark_at (get_or s.marked t true) t s refl

pub left_mark_all : (ts : List ℕ) (s : Search) → left (mark_all ts s) ≡ left s
left_mark_all [] s = refl
left_mark_all (t ∷ ts) s = left_mark_all ts (mark t s) ∙ left_mark t s

searched_none : (g : Graph) (n : ℕ) (ms : List Bool) → searched g n (record { marked = ms; todo = [] }) ≡ record { marked = ms; todo = [] }
unfolding searched
searched_none g zero ms = refl
searched_none g (suc n) ms = searched_none g n ms

empty_at : (todo : List ℕ) (n : ℕ) → length todo + n ≤ 0 → todo ≡ []
empty_at [] n h = refl
empty_at (f ∷ fs) n h = let no : ⊥ = omega (arith, h) in elim no [ ]

turn_empty : (g : Graph) (n : ℕ) (ms : List Bool) (todo : List ℕ) → length todo + unmarked ms ≤ suc n → ((s : Search) → left s ≤ n → (searched g n s).todo ≡ []) →
    (searched g n (turn_of g ms todo)).todo ≡ []
turn_empty g n ms [] h rec = ap (λ s. s.todo) (searched_none g n ms)
turn_empty g n ms (f ∷ fs) h rec =
    let same : left (mark_all (targets g f) (record { marked = ms; todo = fs })) ≡ length fs + unmarked ms = left_mark_all (targets g f) (record { marked = ms; todo = fs }) in
    rec (mark_all (targets g f) (record { marked = ms; todo = fs })) (omega (arith, same, h))

pub todo_empty : (g : Graph) (n : ℕ) (s : Search) → left s ≤ n → (searched g n s).todo ≡ []
unfolding searched
todo_empty g zero s h = empty_at s.todo (unmarked s.marked) h
todo_empty g (suc n) s h = turn_empty g n s.marked s.todo h (todo_empty g n)

-- lengths stay
pub set_length : {A : Type 0} (ms : List A) (t : ℕ) (b : A) → length (set ms t b) ≡ length ms
set_length ms t b = grind (arith, common_steps)

mark_length_at : (b : Bool) (t : ℕ) (s : Search) → length ((cond b s (record { marked = set s.marked t true; todo = t ∷ s.todo })).marked) ≡ length s.marked
mark_length_at true t s = refl
mark_length_at false t s = set_length s.marked t true

pub mark_all_length : (ts : List ℕ) (s : Search) → length ((mark_all ts s).marked) ≡ length s.marked
mark_all_length [] s = refl
mark_all_length (t ∷ ts) s = mark_all_length ts (mark t s) ∙ mark_length_at (get_or s.marked t true) t s

turn_length : (g : Graph) (ms : List Bool) (todo : List ℕ) → length ((turn_of g ms todo).marked) ≡ length ms
turn_length g ms [] = refl
turn_length g ms (f ∷ fs) = mark_all_length (targets g f) (record { marked = ms; todo = fs })

pub searched_length : (g : Graph) (n : ℕ) (s : Search) → length ((searched g n s).marked) ≡ length s.marked
unfolding searched
searched_length g zero s = refl
searched_length g (suc n) s = searched_length g n (turn_of g s.marked s.todo) ∙ turn_length g s.marked s.todo

-- what is marked after one node is marked
same_or_other : (t k : ℕ) → (k ≡ t) ⊎ (k ≢ t)
same_or_other t k = at (nat_eq k t) refl
  where
    at : (b : Bool) → nat_eq k t ≡ b → (k ≡ t) ⊎ (k ≢ t)
    at true e = inl (grind (arith, e))
    at false e = inr (grind (arith, e))

set_only : (ms : List Bool) (t k : ℕ) → Marked (set ms t true) k → Marked ms k ⊎ (k ≡ t)
set_only ms t k m = at (same_or_other t k)
  where
    at : (k ≡ t) ⊎ (k ≢ t) → Marked ms k ⊎ (k ≡ t)
    at (inl e) = inr e
    at (inr e) = inl (sym (get_or-set_other ms t k true false e) ∙ m)

set_kept : (ms : List Bool) (t k : ℕ) → t < length ms → Marked ms k → Marked (set ms t true) k
set_kept ms t k h m = at (same_or_other t k)
  where
    at : (k ≡ t) ⊎ (k ≢ t) → Marked (set ms t true) k
    at (inl e) = subst (λ z. Marked (set ms t true) z) (sym e) (get_or-set_same ms t true false h)
    at (inr e) = get_or-set_other ms t k true false e ∙ m

inside : (ms : List Bool) (t : ℕ) → get_or ms t true ≡ false → t < length ms
inside [] t e = cc
inside (m ∷ ms) zero e = omega arith
inside (m ∷ ms) (suc t) e = let h = inside ms t e in omega (arith, h)

was_true : (ms : List Bool) (t : ℕ) → get_or ms t true ≡ true → t < length ms → Marked ms t
was_true [] t e h = let no : ⊥ = omega (arith, h) in elim no [ ]
was_true (m ∷ ms) zero e h = e
was_true (m ∷ ms) (suc t) e h = was_true ms t e (omega (arith, h))

-- sound: whatever holds of what was marked and to be done, and of targets, holds of all that is marked
module _ (P : ℕ → Type 0) where
  pub record Holds (s : Search) : Type 0 where
    pub of_marked : (k : ℕ) → Marked s.marked k → P k
    pub of_todo : (k : ℕ) → In k s.todo → P k

  either_is : (A : Type 0) (t k : ℕ) → P t → (A → P k) → A ⊎ (k ≡ t) → P k
  either_is A t k p h (inl a) = h a
  either_is A t k p h (inr e) = subst P (sym e) p

  todo_is : (t k : ℕ) (ts : List ℕ) → P t → (In k ts → P k) → In k (t ∷ ts) → P k
  todo_is t k ts p h (inl e) = subst P e p
  todo_is t k ts p h (inr i) = h i

  holds_mark_at : (b : Bool) (t : ℕ) (s : Search) → P t → Holds s → Holds (cond b s (record { marked = set s.marked t true; todo = t ∷ s.todo }))
  holds_mark_at true t s p h = h
  holds_mark_at false t s p h = record {
    of_marked = λ k m. either_is (Marked s.marked k) t k p (h.of_marked k) (set_only s.marked t k m);
    of_todo = λ k i. todo_is t k s.todo p (h.of_todo k) i;
  }

  pub holds_mark : (t : ℕ) (s : Search) → P t → Holds s → Holds (mark t s)
  holds_mark t s p h = holds_mark_at (get_or s.marked t true) t s p h

  pub holds_mark_all : (ts : List ℕ) (s : Search) → ((k : ℕ) → In k ts → P k) → Holds s → Holds (mark_all ts s)
  holds_mark_all [] s p h = h
  holds_mark_all (t ∷ ts) s p h = holds_mark_all ts (mark t s) (λ k i. p k (inr i)) (holds_mark t s (p t (inl refl)) h)

  module _ (g : Graph) (closed : (f k : ℕ) → P f → In k (targets g f) → P k) where
    holds_turn : (ms : List Bool) (todo : List ℕ) → Holds (record { marked = ms; todo = todo }) → Holds (turn_of g ms todo)
    holds_turn ms [] h = h
    holds_turn ms (f ∷ fs) h =
        holds_mark_all (targets g f) (record { marked = ms; todo = fs }) (λ k i. closed f k (h.of_todo f (inl refl)) i)
        (record { of_marked = h.of_marked; of_todo = λ k i. h.of_todo k (inr i) })

    pub holds_searched : (n : ℕ) (s : Search) → Holds s → Holds (searched g n s)
    unfolding searched
    holds_searched zero s h = h
    holds_searched (suc n) s h = holds_searched n (turn_of g s.marked s.todo) (holds_turn s.marked s.todo h)

-- marks stay
kept_mark_at : (b : Bool) (t : ℕ) (s : Search) (k : ℕ) → get_or s.marked t true ≡ b → Marked s.marked k → Marked ((cond b s (record { marked = set s.marked t true; todo = t ∷ s.todo })).marked) k
kept_mark_at true t s k e m = m
kept_mark_at false t s k e m = set_kept s.marked t k (inside s.marked t e) m

pub kept_mark : (t : ℕ) (s : Search) (k : ℕ) → Marked s.marked k → Marked ((mark t s).marked) k
kept_mark t s k m = kept_mark_at (get_or s.marked t true) t s k refl m

pub kept_mark_all : (ts : List ℕ) (s : Search) (k : ℕ) → Marked s.marked k → Marked ((mark_all ts s).marked) k
kept_mark_all [] s k m = m
kept_mark_all (t ∷ ts) s k m = kept_mark_all ts (mark t s) k (kept_mark t s k m)

kept_turn : (g : Graph) (ms : List Bool) (todo : List ℕ) (k : ℕ) → Marked ms k → Marked ((turn_of g ms todo).marked) k
kept_turn g ms [] k m = m
kept_turn g ms (f ∷ fs) k m = kept_mark_all (targets g f) (record { marked = ms; todo = fs }) k m

pub kept_searched : (g : Graph) (n : ℕ) (s : Search) (k : ℕ) → Marked s.marked k → Marked ((searched g n s).marked) k
unfolding searched
kept_searched g zero s k m = m
kept_searched g (suc n) s k m = kept_searched g n (turn_of g s.marked s.todo) k (kept_turn g s.marked s.todo k m)

-- nodes that are there are marked
marks_at : (b : Bool) (t : ℕ) (s : Search) → get_or s.marked t true ≡ b → t < length s.marked → Marked ((cond b s (record { marked = set s.marked t true; todo = t ∷ s.todo })).marked) t
marks_at true t s e h = was_true s.marked t e h
marks_at false t s e h = get_or-set_same s.marked t true false h

pub marks : (t : ℕ) (s : Search) → t < length s.marked → Marked ((mark t s).marked) t
marks t s h = marks_at (get_or s.marked t true) t s refl h

pub marks_all : (ts : List ℕ) (s : Search) (k : ℕ) → In k ts → k < length s.marked → Marked ((mark_all ts s).marked) k
marks_all [] s k i h = elim i [ ]
marks_all (t ∷ ts) s k (inl e) h = kept_mark_all ts (mark t s) k (subst (λ z. Marked ((mark t s).marked) z) e (marks t s (subst (λ z. z < length s.marked) (sym e) h)))
marks_all (t ∷ ts) s k (inr i) h = marks_all ts (mark t s) k i (subst (λ z. k < z) (sym (mark_length_at (get_or s.marked t true) t s)) h)

-- complete: what is marked has its targets marked, or is still to be done
module _ (g : Graph) where
  -- but for nodes that pass
  abbrev pub CoversBut : (ℕ → Type 0) → Search → Type 0
  CoversBut Q s = (f k : ℕ) → Marked s.marked f → In k (targets g f) → k < length s.marked → Marked s.marked k ⊎ (In f s.todo ⊎ Q f)

  abbrev pub Covers : Search → Type 0
  Covers s = CoversBut (λ f. ⊥) s

  covers_mark_at : (Q : ℕ → Type 0) (b : Bool) (t : ℕ) (s : Search) → get_or s.marked t true ≡ b → CoversBut Q s → CoversBut Q (cond b s (record { marked = set s.marked t true; todo = t ∷ s.todo }))
  covers_mark_at Q true t s e c = c
  covers_mark_at Q false t s e c = λ f k m i h. at f k i (subst (λ z. k < z) (set_length s.marked t true) h) (set_only s.marked t f m)
    where
      again : (f k : ℕ) → Marked s.marked k ⊎ (In f s.todo ⊎ Q f) → Marked (set s.marked t true) k ⊎ (In f (t ∷ s.todo) ⊎ Q f)
      again f k (inl m) = inl (set_kept s.marked t k (inside s.marked t e) m)
      again f k (inr (inl i)) = inr (inl (inr i))
      again f k (inr (inr q)) = inr (inr q)

      at : (f k : ℕ) → In k (targets g f) → k < length s.marked → Marked s.marked f ⊎ (f ≡ t) → Marked (set s.marked t true) k ⊎ (In f (t ∷ s.todo) ⊎ Q f)
      at f k i h (inl m) = again f k (c f k m i h)
      at f k i h (inr p) = inr (inl (inl (sym p)))

  pub covers_mark : (Q : ℕ → Type 0) (t : ℕ) (s : Search) → CoversBut Q s → CoversBut Q (mark t s)
  covers_mark Q t s c = covers_mark_at Q (get_or s.marked t true) t s refl c

  pub covers_mark_all : (Q : ℕ → Type 0) (ts : List ℕ) (s : Search) → CoversBut Q s → CoversBut Q (mark_all ts s)
  covers_mark_all Q [] s c = c
  covers_mark_all Q (t ∷ ts) s c = covers_mark_all Q ts (mark t s) (covers_mark Q t s c)

  covers_turn : (ms : List Bool) (todo : List ℕ) → Covers (record { marked = ms; todo = todo }) → Covers (turn_of g ms todo)
  covers_turn ms [] c = c
  covers_turn ms (f ∷ fs) c = λ a k m i h. done a k i (subst (λ z. k < z) (mark_all_length (targets g f) start) h) (but a k m i h)
    where
      start : Search
      start = record { marked = ms; todo = fs }

      first : (a k : ℕ) → Marked ms k ⊎ (In a (f ∷ fs) ⊎ ⊥) → Marked ms k ⊎ (In a fs ⊎ (f ≡ a))
      first a k (inl m) = inl m
      first a k (inr (inl (inl e))) = inr (inr e)
      first a k (inr (inl (inr i))) = inr (inl i)
      first a k (inr (inr x)) = elim x [ ]

      but : CoversBut (λ a. f ≡ a) (mark_all (targets g f) start)
      but = covers_mark_all (λ a. f ≡ a) (targets g f) start (λ a k m i h. first a k (c a k m i h))

      done : (a k : ℕ) → In k (targets g a) → k < length ms → Marked ((mark_all (targets g f) start).marked) k ⊎ (In a ((mark_all (targets g f) start).todo) ⊎ (f ≡ a)) →
          Marked ((mark_all (targets g f) start).marked) k ⊎ (In a ((mark_all (targets g f) start).todo) ⊎ ⊥)
      done a k i h (inl m) = inl m
      done a k i h (inr (inl x)) = inr (inl x)
      done a k i h (inr (inr e)) = inl (marks_all (targets g f) start k (subst (λ z. In k (targets g z)) (sym e) i) h)

  pub covers_searched : (n : ℕ) (s : Search) → Covers s → Covers (searched g n s)
  unfolding searched
  covers_searched zero s c = c
  covers_searched (suc n) s c = covers_searched n (turn_of g s.marked s.todo) (covers_turn s.marked s.todo c)

  -- what is marked has its targets marked
  abbrev pub ClosedMarks : List Bool → Type 0
  ClosedMarks ms = (f k : ℕ) → Marked ms f → In k (targets g f) → k < length ms → Marked ms k

  pub closed_searched : (n : ℕ) (s : Search) → left s ≤ n → Covers s → ClosedMarks ((searched g n s).marked)
  closed_searched n s h c = λ f k m i l. at f k (covers_searched n s c f k m i l)
    where
      at : (f k : ℕ) → Marked ((searched g n s).marked) k ⊎ (In f ((searched g n s).todo) ⊎ ⊥) → Marked ((searched g n s).marked) k
      at f k (inl m) = m
      at f k (inr (inl i)) = let no : ⊥ = subst (λ z. In f z) (todo_empty g n s h) i in elim no [ ]
      at f k (inr (inr x)) = elim x [ ]

  pub covers_closed : (ms : List Bool) → ClosedMarks ms → Covers (record { marked = ms; todo = [] })
  covers_closed ms c = λ f k m i h. inl (c f k m i h)

-- elements by their places, and one by one
pub contains_in : {A : Type 0} (xs : List A) (x : A) (k : ℕ) → k < length xs → slice_index_or xs k x ≡ x → In x xs
contains_in [] x k h e = let no : ⊥ = omega (arith, h) in elim no [ ]
contains_in (y ∷ ys) x zero h e = inl e
contains_in (y ∷ ys) x (suc k) h e = inr (contains_in ys x k (omega (arith, h)) e)

pub in_contains : {A : Type 0} (xs : List A) (x : A) → In x xs → Contains xs x
in_contains [] x i = elim i [ ]
in_contains (y ∷ ys) x (inl e) = (zero, omega arith, e)
in_contains (y ∷ ys) x (inr i) = let c = in_contains ys x i in (suc c.0, omega (arith, c.1), c.2)

-- a node that isn't there has no target
pub inside_edge : (g : Graph) (f k : ℕ) → In k (targets g f) → f < length g
inside_edge [] f k i = elim i [ ]
inside_edge (x ∷ xs) zero k i = omega arith
inside_edge (x ∷ xs) (suc f) k i = let h = inside_edge xs f k i in omega (arith, h)

pub comes_inside : (g : Graph) (f k : ℕ) → Comes (targets g) f k → f < length g
comes_inside g f k (straight s) = inside_edge g f k (contains_in (targets g f) k s.0 s.1 s.2)
comes_inside g f k (through {g = h} s rest) = inside_edge g f h (contains_in (targets g f) h s.0 s.1 s.2)

-- what a marked node comes to is marked, if it is there
pub comes_marked : (g : Graph) (ms : List Bool) → length ms ≡ length g → ClosedMarks g ms → (f k : ℕ) → k < length g → Marked ms f → Comes (targets g) f k → Marked ms k
comes_marked g ms same c f k l m (straight s) = c f k m (contains_in (targets g f) k s.0 s.1 s.2) (subst (λ z. k < z) (sym same) l)
comes_marked g ms same c f k l m (through {g = h} s rest) =
    comes_marked g ms same c h k l (c f h m (contains_in (targets g f) h s.0 s.1 s.2) (subst (λ z. h < z) (sym same) (comes_inside g h k rest))) rest

pub comes_more : (g : Graph) (f h k : ℕ) → Comes (targets g) f h → In k (targets g h) → Comes (targets g) f k
comes_more g f h k (straight s) i = through s (straight (in_contains (targets g h) k i))
comes_more g f h k (through s rest) i = through s (comes_more g _ h k rest i)

-- a turn more
pub turn_law : (g : Graph) (n i : ℕ) (s : Search) → i < n → searched g (n - i) s ≡ searched g (n - (i + 1)) (turn_of g s.marked s.todo)
unfolding searched
turn_law g n i s h = let e : n - i ≡ suc (n - (i + 1)) = omega arith in rw e refl

pub next_law : (g : Graph) (n i : ℕ) (s u w : Search) (f : ℕ) → i < n → s.todo ≡ f ∷ u.todo → u.marked ≡ s.marked → w ≡ mark_all (targets g f) u → searched g (n - i) s ≡ searched g (n - (i + 1)) w
next_law g n i s u w f h p q r =
    turn_law g n i s h ∙ ap (λ ts. searched g (n - (i + 1)) (turn_of g s.marked ts)) p
    ∙ ap (λ ms. searched g (n - (i + 1)) (mark_all (targets g f) (record { marked = ms; todo = u.todo }))) (sym q)
    ∙ ap (searched g (n - (i + 1))) (sym r)

pub stop_law : (g : Graph) (n : ℕ) (s : Search) → s.todo ≡ [] → searched g n s ≡ s
stop_law g n s e = at s.marked s.todo e
  where
    at : (ms : List Bool) (todo : List ℕ) → todo ≡ [] → searched g n (record { marked = ms; todo = todo }) ≡ record { marked = ms; todo = todo }
    at ms [] e = searched_none g n ms
    at ms (f ∷ fs) e = cc

-- a target more of a node
map_set : {V : Type 0} (f : V → List ℕ) (vs : List V) (i : ℕ) (w : V) → map f (set vs i w) ≡ set (map f vs) i (f w)
map_set f [] i w = refl
map_set f (v ∷ vs) zero w = refl
map_set f (v ∷ vs) (suc i) w = ap (λ xs. f v ∷ xs) (map_set f vs i w)

pub add_law : {V : Type 0} (vs : List V) (f : V → List ℕ) (i : ℕ) (v w : V) (t : ℕ) → i < length vs → v ≡ get_or vs i v → f w ≡ f v ++ t ∷ [] →
    map f (set vs i w) ≡ set (map f vs) i (get_or (map f vs) i [] ++ t ∷ [])
add_law vs f i v w t h is e =
    map_set f vs i w ∙ ap (λ xs. set (map f vs) i xs) (e ∙ ap (λ xs. xs ++ t ∷ []) (ap f is ∙ sym (get_or-map f vs i v [] h)))

-- no node is marked before a search
abbrev pub fresh : ℕ → Search
fresh n = record { marked = replicate n false; todo = [] }

pub none_marked : (n k : ℕ) → Marked (replicate n false) k → ⊥
none_marked zero k m = cc
none_marked (suc n) zero m = cc
none_marked (suc n) (suc k) m = none_marked n k m

pub unmarked_fresh : (n : ℕ) → unmarked (replicate n false) ≡ n
unmarked_fresh zero = refl
unmarked_fresh (suc n) = ap suc (unmarked_fresh n)

pub length_fresh : (n : ℕ) → length (replicate n false) ≡ n
length_fresh zero = refl
length_fresh (suc n) = ap suc (length_fresh n)

module _ (g : Graph) (k : ℕ) where
  abbrev pub begun : Search
  begun = mark_all (targets g k) (fresh (length g))

  abbrev pub ended : Search
  ended = searched g (length g) begun

  holds_ended : Holds (Comes (targets g) k) ended
  holds_ended =
      holds_searched (Comes (targets g) k) g (λ f h p i. comes_more g k f h p i) (length g) begun
      (holds_mark_all (Comes (targets g) k) (targets g k) (fresh (length g)) (λ h i. straight (in_contains (targets g k) h i))
      (record { of_marked = λ h m. none h m; of_todo = λ h i. nothing_todo h i }))
    where
      none : (h : ℕ) → Marked (replicate (length g) false) h → Comes (targets g) k h
      none h m = let x : ⊥ = none_marked (length g) h m in elim x [ ]

      nothing_todo : (h : ℕ) → In h [] → Comes (targets g) k h
      nothing_todo h i = elim i [ ]

  pub begun_length : length (begun.marked) ≡ length g
  begun_length = mark_all_length (targets g k) (fresh (length g)) ∙ length_fresh (length g)

  ended_length : length (ended.marked) ≡ length g
  ended_length = searched_length g (length g) begun ∙ begun_length

  closed_ended : ClosedMarks g (ended.marked)
  closed_ended =
      let same : left begun ≡ left (fresh (length g)) = left_mark_all (targets g k) (fresh (length g)) in
      let many : unmarked (replicate (length g) false) ≡ length g = unmarked_fresh (length g) in
      closed_searched g (length g) begun (omega (arith, same, many))
      (covers_mark_all g (λ f. ⊥) (targets g k) (fresh (length g)) (covers_closed g (replicate (length g) false) (λ f h m i l. none f h m)))
    where
      none : (f h : ℕ) → Marked (replicate (length g) false) f → Marked (replicate (length g) false) h
      none f h m = let x : ⊥ = none_marked (length g) f m in elim x [ ]

  first_marked : (h : ℕ) → h < length g → In h (targets g k) → Marked (ended.marked) h
  first_marked h l i =
      kept_searched g (length g) begun h (marks_all (targets g k) (fresh (length g)) h i (subst (λ z. h < z) (sym (length_fresh (length g))) l))

  -- what is marked at the end is what the node comes to
  pub ended_sound : (h : ℕ) → Marked (ended.marked) h → Comes (targets g) k h
  ended_sound h m = holds_ended.of_marked h m

  pub ended_complete : (h : ℕ) → h < length g → Comes (targets g) k h → Marked (ended.marked) h
  ended_complete h l (straight s) = first_marked h l (contains_in (targets g k) h s.0 s.1 s.2)
  ended_complete h l (through {g = f} s rest) =
      comes_marked g (ended.marked) ended_length closed_ended f h l
      (first_marked f (comes_inside g f h rest) (contains_in (targets g k) f s.0 s.1 s.2)) rest

  -- whether a node comes to itself
  pub itself : (b : Bool) → k < length g → b ≡ get_or (ended.marked) k false → Decides b (Comes (targets g) k k)
  itself true l e = ended_sound k (sym e)
  itself false l e = λ c. at (ended_complete k l c)
    where
      at : Marked (ended.marked) k → ⊥
      at m = let x : true ≡ false = sym m ∙ sym e in cc

-- the same of the steps of the code
pub itself_found : (g : Graph) (k : ℕ) (b : Bool) (ts : List ℕ) (s u w : Search) → k < length g → s ≡ fresh (length g) → ts ≡ targets g k → u ≡ mark_all ts s →
    w ≡ searched g (length u.marked) u → b ≡ get_or w.marked k false → Decides b (Comes (targets g) k k)
itself_found g k b ts s u w l p q r t e =
    let start : u ≡ begun g k = r ∙ ap (λ xs. mark_all xs s) q ∙ ap (mark_all (targets g k)) p in
    let many : length u.marked ≡ length g = ap (λ x. length x.marked) start ∙ begun_length g k in
    let all : w ≡ ended g k = t ∙ ap (λ n. searched g n u) many ∙ ap (searched g (length g)) start in
    itself g k b l (e ∙ ap (λ x. get_or x.marked k false) all)

-- no turn is left
pub last_law : (g : Graph) (n i : ℕ) (s t : Search) → n ≤ i → searched g (n - i) s ≡ t → s ≡ t
unfolding searched
last_law g n i s t h e = let none : n - i ≡ 0 = omega (arith, h) in sym (ap (λ m. searched g m s) none) ∙ e
