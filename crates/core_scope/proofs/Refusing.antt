-- The first of all refusals of a query, from the first ones of each kind.
use Rattle.std.proofs.Common.{◌≡◌, sym, ap, subst, ◌∙◌, ℕ, ◌+◌, ◌<◌, ◌≤◌, length, map, List, [], get_or, Option, ◌⊎◌, inl, inr, Contains, arith}
use Rattle.xq_base.specs.declared.code.Code.TheVariants as code
use Rattle.core_scope.specs.declared.refusal.Refusal.{Refusal}
use Rattle.core_scope.specs.declared.found.DeclaredCall.{DeclaredCall}
use Rattle.core_scope.specs.Syn.{Query, read}
use Rattle.core_scope.specs.Walk.{refused}
use Rattle.core_scope.specs.Prolog.{of_variable, all_told, local_refusals, functions_of}
use Rattle.core_scope.specs.Names.{no_names}
use Rattle.core_scope.specs.Refusals.{Comes, the_functions, called_by, referred_by, Recursive, Refers, itself, by_call, TooSoon, IsRefusal, first_of}
use Rattle.core_scope.specs.Search.{Graph, targets}
use Rattle.core_scope.specs.Leasts.{IsLeast, first_of_two}
use Rattle.core_scope.specs.Kinds.{IsRecursive, RefersTo, IsTooSoon}
use Rattle.core_scope.specs.Gathering.{Gained, Gathered, gained, value_calls}
use Rattle.core_scope.specs.Whole.{calls_of, refers_of, offsets_of, gathered_of, IsByCalls}
use Rattle.core_scope.proofs.Searching.{In, contains_in, in_contains}
use Rattle.core_scope.proofs.Leasting.{first_of_both, least_same}
use Rattle.core_scope.proofs.Firsts.{least_of}
use Rattle.core_scope.proofs.Bounds.{all_bounded_by}
use Rattle.core_scope.proofs.Early.{as_many_mapped}
use Rattle.core_scope.proofs.Gathers.{Numbered, told_numbered, value_at, variable_at, calls_at, refers_at, offset_at, offsets_length}

-- what stands in the graphs
module _ (q : Query read) where
  abbrev pub functions : List Gained
  functions = map gained (the_functions q)

  abbrev pub calls : Graph
  calls = calls_of functions

  abbrev pub refers : Graph
  refers = refers_of functions

  abbrev pub values : List (List DeclaredCall)
  values = value_calls (all_told q)

  same_calls : targets calls ≡ called_by q
  same_calls = λ i k. calls_at (the_functions q) k i

  same_refers : targets refers ≡ referred_by q
  same_refers = λ i k. refers_at (the_functions q) k i

  numbered : Numbered 0 (all_told q)
  numbered = told_numbered (functions_of q) q.declarations [] [] 0 no_names

  -- recursion
  recursive_to : (r : Refusal) → IsRecursive calls (offsets_of functions) (length (offsets_of functions)) r → Recursive q r
  recursive_to r p =
      let below : p.0 < length (offsets_of functions) = p.1 in
      let many : length (offsets_of functions) ≡ length (the_functions q) = offsets_length (the_functions q) in
      record {
        number = p.0;
        is_function = omega (arith, below, many);
        calls_itself = subst (λ z. Comes z p.0 p.0) same_calls p.2;
        is = p.3 ∙ ap (refused code.PFRC0001) (offset_at (the_functions q) p.0);
      }

  recursive_from : (r : Refusal) → Recursive q r → IsRecursive calls (offsets_of functions) (length (offsets_of functions)) r
  recursive_from r p =
      let below : p.number < length (the_functions q) = p.is_function in
      let many : length (offsets_of functions) ≡ length (the_functions q) = offsets_length (the_functions q) in
      (p.number, omega (arith, below, many), subst (λ z. Comes z p.number p.number) (sym same_calls) p.calls_itself, p.is ∙ ap (refused code.PFRC0001) (sym (offset_at (the_functions q) p.number)))

  -- calls that come too soon
  refers_to : (f m : ℕ) → RefersTo calls refers f m → Refers q f m
  refers_to f m (inl c) = itself (subst (λ z. Contains (z f) m) same_refers c)
  refers_to f m (inr p) = by_call {g = p.0} (subst (λ z. Comes z f p.0) same_calls p.1) (subst (λ z. Contains (z p.0) m) same_refers p.2)

  refers_from : (f m : ℕ) → Refers q f m → RefersTo calls refers f m
  refers_from f m (itself c) = inl (subst (λ z. Contains (z f) m) (sym same_refers) c)
  refers_from f m (by_call {g = g} w c) = inr (g, subst (λ z. Comes z f g) (sym same_calls) w, subst (λ z. Contains (z g) m) (sym same_refers) c)

  soon_to : (r : Refusal) → IsTooSoon calls refers values 0 r → TooSoon q r
  soon_to r p = at p.0 p.2 p.3 p.4 p.5 p.6 p.7
    where
      at : (j : ℕ) (c : DeclaredCall) → Contains (get_or values j []) c → (m : ℕ) → j ≤ m → RefersTo calls refers c.function m → r ≡ refused code.XPST0008 c.offset → TooSoon q r
      at j c k m h w e =
          let v = variable_at 0 (all_told q) j c numbered (contains_in (get_or values j []) c k.0 k.1 k.2) in
          let same : 0 + j ≡ j = omega arith in
          record {
            number = j;
            facts = v.0;
            is_variable = in_contains (all_told q) (of_variable j v.0) (subst (λ z. In (of_variable z v.0) (all_told q)) same v.1);
            call = c;
            is_call = in_contains (v.0.calls) c v.2;
            later = m;
            is_later = h;
            refers = refers_to c.function m w;
            is = e;
          }

  soon_from : (r : Refusal) → TooSoon q r → IsTooSoon calls refers values 0 r
  soon_from r p =
      let i : Contains (all_told q) (of_variable p.number p.facts) = p.is_variable in
      let v = value_at 0 (all_told q) p.number p.facts numbered (contains_in (all_told q) (of_variable p.number p.facts) i.0 i.1 i.2) in
      let n : p.number ≡ 0 + v.0 = v.1 in
      let same : p.number ≡ v.0 = omega (arith, n) in
      let later : p.number ≤ p.later = p.is_later in
      (v.0, omega arith, p.call, subst (λ z. Contains z p.call) (sym v.2) p.is_call, p.later, omega (arith, same, later), refers_from (p.call.function) p.later p.refers, p.is)

  by_calls_to : (r : Refusal) → IsByCalls functions values r → Recursive q r ⊎ TooSoon q r
  by_calls_to r (inl p) = inl (recursive_to r p)
  by_calls_to r (inr p) = inr (soon_to r p)

  by_calls_from : (r : Refusal) → Recursive q r ⊎ TooSoon q r → IsByCalls functions values r
  by_calls_from r (inl p) = inl (recursive_from r p)
  by_calls_from r (inr p) = inr (soon_from r p)

  -- all kinds together
  least_law : (a : Option Refusal) → IsLeast (IsByCalls functions values) a → IsLeast (IsRefusal q) (first_of_two (first_of (local_refusals q)) a)
  least_law a p =
      first_of_both (λ x. Contains (local_refusals q) x) (λ x. Recursive q x ⊎ TooSoon q x) (first_of (local_refusals q)) a (least_of (local_refusals q))
      (least_same (IsByCalls functions values) (λ x. Recursive q x ⊎ TooSoon q x) a by_calls_to by_calls_from p)

  -- the variables to which functions refer are there
  bounded : (f m : ℕ) → Contains (targets refers f) m → m < length values
  bounded f m c =
      all_bounded_by (functions_of q) q.declarations f m
      (subst (λ z. In m z) (refers_at (the_functions q) f) (contains_in (targets refers f) m c.0 c.1 c.2))

  gathered_least : (g : Gathered) (a : Option Refusal) → g ≡ gathered_of q → IsLeast (IsByCalls g.functions g.variables) a → IsLeast (IsRefusal q) (first_of_two g.first a)
  gathered_least g a ge p =
      subst (λ z. IsLeast (IsRefusal q) (first_of_two z.first a)) (sym ge) (least_law a (subst (λ z. IsLeast (IsByCalls z.functions z.variables) a) ge p))

  gathered_bounded : (g : Gathered) → g ≡ gathered_of q → (f m : ℕ) → Contains (targets (refers_of g.functions) f) m → m < length g.variables
  gathered_bounded g ge = subst (λ z. (f m : ℕ) → Contains (targets (refers_of z.functions) f) m → m < length z.variables) (sym ge) bounded

-- the same of the steps of the code, whose lists stand for what is gathered
module _ {G V : Type 0} (fs fs' : List G) (vs vs' : List V) (gain : G → Gained) (items : V → List DeclaredCall) (first : Option Refusal) (q : Query read) where
  abbrev gathered_as : Gathered
  gathered_as = record { first = first; functions = map gain fs'; variables = map items vs' }

  pub first_least : (a o : Option Refusal) → fs ≡ fs' → vs ≡ vs' → gathered_as ≡ gathered_of q → IsLeast (IsByCalls (map gain fs) (map items vs)) a → o ≡ first_of_two first a → IsLeast (IsRefusal q) o
  first_least a o fe ve ge p oe =
      subst (λ z. IsLeast (IsRefusal q) z) (sym oe)
      (gathered_least q gathered_as a ge
      (subst (λ z. IsLeast (IsByCalls (map gain z) (map items vs')) a) fe (subst (λ z. IsLeast (IsByCalls (map gain fs) (map items z)) a) ve p)))

  pub first_bounded : fs ≡ fs' → vs ≡ vs' → gathered_as ≡ gathered_of q → (f m : ℕ) → Contains (targets (refers_of (map gain fs)) f) m → m < length vs
  first_bounded fe ve ge f m c =
      subst (λ z. m < length z) (sym ve)
      (subst (λ z. m < z) (sym (as_many_mapped items vs')) (gathered_bounded q gathered_as ge f m (subst (λ z. Contains (targets (refers_of (map gain z)) f) m) fe c)))

-- recursion and early calls by their graphs
pub by_calls_law : (fs : List Gained) (values : List (List DeclaredCall)) (ways links : Graph) (places : List ℕ) (a b o : Option Refusal) →
    ways ≡ calls_of fs → links ≡ refers_of fs → places ≡ offsets_of fs → IsLeast (IsRecursive ways places (length places)) a → IsLeast (IsTooSoon ways links values 0) b →
    o ≡ first_of_two a b → IsLeast (IsByCalls fs values) o
by_calls_law fs values ways links places a b o ce re fe p r oe =
    subst (λ z. IsLeast (IsByCalls fs values) z) (sym oe)
    (first_of_both (IsRecursive (calls_of fs) (offsets_of fs) (length (offsets_of fs))) (IsTooSoon (calls_of fs) (refers_of fs) values 0) a b
    (subst (λ z. IsLeast (IsRecursive z (offsets_of fs) (length (offsets_of fs))) a) ce (subst (λ z. IsLeast (IsRecursive ways z (length z)) a) fe p))
    (subst (λ z. IsLeast (IsTooSoon z (refers_of fs) values 0) b) ce (subst (λ z. IsLeast (IsTooSoon ways z values 0) b) re r)))
