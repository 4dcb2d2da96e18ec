-- Which functions come to a variable of this number or a later one, by a search from the last variable to the first.
use Rattle.std.proofs.Common.{◌≡◌, refl, sym, ap, subst, ◌∙◌, ℕ, zero, suc, ◌+◌, ◌<◌, ◌≤◌, length, Bool, true, false, List, [], ◌∷◌, get_or, replicate, ◌⊎◌, inl, inr, nat_eq, nat_le, arith}
use Rattle.core_scope.specs.Refusals.{Comes, straight, through}
use Rattle.core_scope.specs.Search.{Marked, Graph, targets, Search, mark_all, searched, turned}
use Rattle.core_scope.proofs.Searching.{In, left, left_mark_all, unmarked, unmarked_fresh, length_fresh, none_marked, fresh, mark_all_length, searched_length, Holds, holds_mark_all, holds_searched, kept_searched, marks_all, covers_mark_all, covers_closed, closed_searched, todo_empty, ClosedMarks, Covers, kept_mark_all, inside_edge, contains_in, in_contains, comes_more, comes_inside, comes_marked}
use Rattle.core_scope.proofs.Turning.{turned_length, turned_sound, turned_made, comes_turned}

-- calls, references by function, and the number of variables
module _ (calls refers : Graph) (variables : ℕ) where
  abbrev pub callers : Graph
  callers = turned (length calls) calls

  abbrev pub referrers : Graph
  referrers = turned variables refers

  -- a function refers to a variable, itself or through calls
  abbrev pub Reaches : ℕ → ℕ → Type 0
  Reaches f m = In m (targets refers f) ⊎ ((h : ℕ) × Comes (targets calls) f h × In m (targets refers h))

  -- to this one or a later one
  abbrev pub From : ℕ → ℕ → Type 0
  From l f = (m : ℕ) × (l ≤ m) × Reaches f m

  reaches_before : (f g m : ℕ) → Reaches g m → In g (targets calls f) → Reaches f m
  reaches_before f g m (inl i) c = inr (g, straight (in_contains (targets calls f) g c), i)
  reaches_before f g m (inr p) c = inr (p.0, through (in_contains (targets calls f) g c) p.1, p.2)

  pub record Exact (l : ℕ) (s : Search) : Type 0 where
    pub nothing_todo : s.todo ≡ []
    pub same_length : length s.marked ≡ length calls
    pub closed : ClosedMarks callers s.marked
    pub sound : (f : ℕ) → Marked s.marked f → From l f
    pub complete : (f : ℕ) → f < length calls → From l f → Marked s.marked f

  weaken : (l f : ℕ) → From (l + 1) f → From l f
  weaken l f p = let h : l + 1 ≤ p.0 = p.1 in (p.0, omega (arith, h), p.2)

  before_edge : (l f k : ℕ) → From l f → In k (targets callers f) → From l k
  before_edge l f k p i = (p.0, p.1, reaches_before k f p.0 p.2 (turned_sound (length calls) calls f k i))

  unmarked_few : (ms : List Bool) → unmarked ms ≤ length ms
  unmarked_few [] = omega arith
  unmarked_few (true ∷ ms) = let h = unmarked_few ms in omega (arith, h)
  unmarked_few (false ∷ ms) = let h = unmarked_few ms in omega (arith, h)

  comes_back : (f h : ℕ) → Comes (targets calls) f h → h < length calls → Comes (targets callers) h f
  comes_back f h (straight s) l = straight (in_contains (targets callers h) f (turned_made (length calls) calls h f (contains_in (targets calls f) h s.0 s.1 s.2) l))
  comes_back f h (through {g = a} s rest) l =
      comes_more callers h a f (comes_back a h rest l)
      (turned_made (length calls) calls a f (contains_in (targets calls f) a s.0 s.1 s.2) (comes_inside calls a h rest))

  callers_length : length callers ≡ length calls
  callers_length = turned_length (length calls) calls

  module _ (bounded : (f m : ℕ) → In m (targets refers f) → m < variables) (as_many : length refers ≡ length calls) where
    -- before the search
    pub begins : Exact variables (fresh (length calls))
    begins = record {
      nothing_todo = refl;
      same_length = length_fresh (length calls);
      closed = λ f k m i h. none f k m;
      sound = λ f m. nothing f m;
      complete = λ f h p. beyond f p;
    }
      where
        none : (f k : ℕ) → Marked (replicate (length calls) false) f → Marked (replicate (length calls) false) k
        none f k m = let x : ⊥ = none_marked (length calls) f m in elim x [ ]

        nothing : (f : ℕ) → Marked (replicate (length calls) false) f → From variables f
        nothing f m = let x : ⊥ = none_marked (length calls) f m in elim x [ ]

        too_far : (f m : ℕ) → variables ≤ m → Reaches f m → ⊥
        too_far f m h (inl i) = let b = bounded f m i in omega (arith, h, b)
        too_far f m h (inr p) = let b = bounded p.0 m p.2 in omega (arith, h, b)

        beyond : (f : ℕ) → From variables f → Marked (replicate (length calls) false) f
        beyond f p = let x : ⊥ = too_far f p.0 p.1 p.2 in elim x [ ]

    module _ (l : ℕ) (s : Search) (below : l < variables) (now : Exact (l + 1) s) where
      abbrev pub started : Search
      started = mark_all (targets referrers l) s

      abbrev pub stage : Search
      stage = searched callers (length s.marked) (mark_all (targets referrers l) s)

      started_length : length (started.marked) ≡ length calls
      started_length = mark_all_length (targets referrers l) s ∙ now.same_length

      few : left started ≤ length s.marked
      few =
          let e : left started ≡ left s = left_mark_all (targets referrers l) s in
          let t : length s.todo ≡ 0 = ap length now.nothing_todo in
          let u : unmarked s.marked ≤ length s.marked = unmarked_few s.marked in
          omega (arith, e, t, u)

      no_todo : (f : ℕ) → In f s.todo → From l f
      no_todo f i = let x : ⊥ = subst (λ z. In f z) now.nothing_todo i in elim x [ ]

      holds : Holds (From l) stage
      holds =
          holds_searched (From l) callers (λ f k p i. before_edge l f k p i) (length s.marked) started
          (holds_mark_all (From l) (targets referrers l) s (λ f i. (l, omega arith, inl (turned_sound variables refers l f i)))
          (record { of_marked = λ f m. weaken l f (now.sound f m); of_todo = no_todo }))

      closed_now : ClosedMarks callers (stage.marked)
      closed_now =
          closed_searched callers (length s.marked) started few
          (covers_mark_all callers (λ f. ⊥) (targets referrers l) s (covers s.marked s.todo now.nothing_todo now.closed))
        where
          covers : (ms : List Bool) (todo : List ℕ) → todo ≡ [] → ClosedMarks callers ms → Covers callers (record { marked = ms; todo = todo })
          covers ms [] e c = covers_closed callers ms c
          covers ms (x ∷ xs) e c = cc

      stage_length : length (stage.marked) ≡ length calls
      stage_length = searched_length callers (length s.marked) started ∙ started_length

      first_ones : (f : ℕ) → f < length calls → In l (targets refers f) → Marked (stage.marked) f
      first_ones f h i =
          kept_searched callers (length s.marked) started f
          (marks_all (targets referrers l) s f (turned_made variables refers l f i below) (subst (λ z. f < z) (sym now.same_length) h))

      later_ones : (f : ℕ) → Marked s.marked f → Marked (stage.marked) f
      later_ones f m = kept_searched callers (length s.marked) started f (kept_mark_all (targets referrers l) s f m)

      all_ones : (f : ℕ) → f < length calls → Reaches f l → Marked (stage.marked) f
      all_ones f h (inl i) = first_ones f h i
      all_ones f h (inr p) =
          let there : p.0 < length calls = subst (λ z. p.0 < z) as_many (inside_edge refers p.0 l p.2) in
          comes_marked callers (stage.marked) (stage_length ∙ sym callers_length) closed_now p.0 f (subst (λ z. f < z) (sym callers_length) h)
          (first_ones p.0 there p.2) (comes_back f p.0 p.1 there)

      whole : (f : ℕ) → f < length calls → From l f → Marked (stage.marked) f
      whole f h p = at (nat_eq p.0 l) refl
        where
          at : (b : Bool) → nat_eq p.0 l ≡ b → Marked (stage.marked) f
          at true e = let q : p.0 ≡ l = grind (arith, e) in all_ones f h (subst (λ z. Reaches f z) q p.2)
          at false e = let q : l + 1 ≤ p.0 = grind (arith, e, p.1) in later_ones f (now.complete f h (p.0, q, p.2))

      -- a variable more
      pub advances : Exact l stage
      advances = record {
        nothing_todo = todo_empty callers (length s.marked) started few;
        same_length = stage_length;
        closed = closed_now;
        sound = λ f m. holds.of_marked f m;
        complete = whole;
      }
