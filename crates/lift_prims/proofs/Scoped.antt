-- Scopes with one more binding, and variables carried one after the other.
use Rattle.std.proofs.Common.{◌≡◌, ℕ, zero, suc, ◌+◌, ◌<◌, ◌≤◌, Bool, true, false, cond, ◌||◌, List, [], ◌∷◌, ◌++◌, length, take, get_or, max, nat_eq, refl, sym, ap, ◌∙◌, subst, arith}
use Rattle.std.proofs.Math.Nat.{max-le}
use Rattle.xq_base.specs.Texts.{Text}
use Rattle.doc_table.specs.NodeRules.{Docs}
use Rattle.plan_dag.specs.declared.op.OpId.{OpId}
use Rattle.plan_dag.specs.Meaning.{Graph}
use Rattle.plan_dag.specs.Graphs.{in_graph}
use Rattle.core_meaning.specs.Work.{is_member}
use Rattle.lift_laws.specs.Iterations.{Row}
use Rattle.lift_laws.specs.States.{State, state_of, at, IsIn, three}
use Rattle.lift_laws.specs.Carried.{set_var, CarryOne, CarriedFor}
use Rattle.lift_laws.proofs.Carrying.{carried_more}
use Rattle.lift_laws.proofs.Keeping.{small_most}
use Rattle.lift_laws.proofs.Numbers.{nat_eq_self}
use Rattle.lift_prims.specs.declared.carry.Bound.{Bound}
use Rattle.lift_prims.specs.Made.{Shaped, HasItems, rows_in, Made}
use Rattle.lift_prims.specs.Scopes.{look, scope_of}
use Rattle.lift_prims.proofs.Making.{in_tables, done_too, take_all}
use Rattle.lift_prims.proofs.Over.{shaped_stays}

look_end : (found : OpId) (bs : List Bound) (b : Bound) (y : ℕ) → look found (bs ++ b ∷ []) y ≡ cond (nat_eq y b.var) b.op (look found bs y)
look_end found [] b y = refl
look_end found (k ∷ bs) b y = look_end (cond (nat_eq y k.var) k.op found) bs b y

-- one more binding
pub scope_more : (bs new : List Bound) (x : ℕ) (op : OpId) → new ≡ bs ++ record { var = x; op = op } ∷ [] → (y : ℕ) → scope_of new y ≡ set_var (scope_of bs) x op y
scope_more bs new x op e y = ap (λ l. scope_of l y) e ∙ look_end (record { 0 = 0 }) bs (record { var = x; op = op }) y

-- an element of a list
pub member_here : (xs : List ℕ) (i x : ℕ) → i < length xs → x ≡ get_or xs i x → is_member x xs ≡ true
member_here [] i x l e = absurd (omega arith)
member_here (y ∷ xs) zero x l e = let z : x ≡ y = e in ap (λ k. nat_eq k y || is_member k xs) z ∙ ap (λ b. b || is_member y xs) (nat_eq_self y)
member_here (y ∷ xs) (suc i) x l e = or_true (nat_eq x y) (member_here xs i x (omega arith) e)
  where
    or_true : (b : Bool) {d : Bool} → d ≡ true → (b || d) ≡ true
    or_true true h = refl
    or_true false h = h

-- the same scopes
same_inner : {R : List Row → List Row → List Row} {s s' : State} {m : OpId} {vars u w : ℕ → OpId} {ys : List ℕ} → ((y : ℕ) → w y ≡ u y) → CarriedFor R s s' m vars u ys → CarriedFor R s s' m vars w ys
same_inner {R = R} {s = s} {s' = s'} {m = m} {vars = vars} h c = record {
  grows = c.grows;
  quiet = c.quiet;
  carried = λ y q. subst (λ o. IsIn s' o × (at s' o ≡ record { cols = three; rows = R (at s m).rows (at s (vars y)).rows })) (sym (h y)) (c.carried y q);
  small = c.small;
}

-- a variable that is made anew is carried
module _ (R : List Row → List Row → List Row) where
  abbrev pub MadeFor : Graph → Graph → OpId → OpId → OpId → Type 0
  MadeFor g g' m v op = Made g g' three (λ docs texts. R (rows_in docs texts g m) (rows_in docs texts g v)) (λ docs texts. max (length (rows_in docs texts g m)) (length (R (rows_in docs texts g m) (rows_in docs texts g v)))) op

  abbrev pub AllCarried : Graph → Graph → OpId → (ℕ → OpId) → (ℕ → OpId) → List ℕ → Type 0
  AllCarried g g' m vars inner ys = (docs : Docs) (texts : List Text) → CarriedFor R (state_of docs texts g) (state_of docs texts g') m vars inner ys

  carry_one : (docs : Docs) (texts : List Text) {g g' : Graph} {m v op : OpId} → MadeFor g g' m v op → CarryOne R (state_of docs texts g) (state_of docs texts g') m v op
  carry_one docs texts k = let z = k.makes docs texts in record { grows = z.grows; quiet = z.quiet; is_in = z.is_in; is = z.is; small = λ N a b. small_most z.small (max-le a b) }

  -- what is read stays
  pub read_stays : (g g1 : Graph) {m : OpId} {vars inner : ℕ → OpId} (done names : List ℕ) (i name : ℕ) (v : OpId) → i < length names → name ≡ get_or names i name → v ≡ vars name
      → ((y : ℕ) → is_member y names ≡ true → HasItems g (vars y)) → AllCarried g g1 m vars inner done → HasItems g1 v
  read_stays g g1 {vars = vars} done names i name v l n e h c = subst (λ o. HasItems g1 o) (sym e) (shaped_stays g g1 (c [] []).grows (h name (member_here names i name l n)))

  -- one more
  pub carries_on : (g g1 g2 : Graph) (m v op : OpId) (vars : ℕ → OpId) (inner new : List Bound) (names : List ℕ) (i name : ℕ) → i < length names → name ≡ get_or names i name → in_graph g m → v ≡ vars name
      → ((y : ℕ) → is_member y names ≡ true → HasItems g (vars y)) → AllCarried g g1 m vars (scope_of inner) (take i names) → MadeFor g1 g2 m v op → new ≡ inner ++ record { var = name; op = op } ∷ []
      → AllCarried g g2 m vars (scope_of new) (take (i + 1) names)
  carries_on g g1 g2 m v op vars inner new names i name l n hm e h c k q docs texts =
      let there : IsIn (state_of docs texts g) (vars name) = in_tables docs texts g (vars name) (h name (member_here names i name l n)).0 in
      let one = subst (λ o. CarryOne R (state_of docs texts g1) (state_of docs texts g2) m o op) e (carry_one docs texts k) in
      subst (λ ys. CarriedFor R (state_of docs texts g) (state_of docs texts g2) m vars (scope_of new) ys) (sym (done_too names i name l n))
      (same_inner (scope_more inner new name op q) (carried_more R name op (in_tables docs texts g m hm) there (c docs texts) one))

  -- at the end
  pub carries_all : (g g1 : Graph) (m : OpId) (vars inner : ℕ → OpId) (names : List ℕ) (i : ℕ) → length names ≤ i → AllCarried g g1 m vars inner (take i names) → AllCarried g g1 m vars inner names
  carries_all g g1 m vars inner names i l c = subst (λ ys. AllCarried g g1 m vars inner ys) (take_all names i l) c

-- an element, by whatever stands for one outside
pub own_get : (xs : List ℕ) (i : ℕ) → i < length xs → get_or xs i 0 ≡ get_or xs i (get_or xs i 0)
own_get [] i l = absurd (omega arith)
own_get (x ∷ xs) zero l = refl
own_get (x ∷ xs) (suc i) l = own_get xs i (omega arith)
