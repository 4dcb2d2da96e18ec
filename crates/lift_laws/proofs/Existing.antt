-- A world for every expression whose sites are its nodes' numbers: each site is looked up among the nodes with a rule of their
-- own and the iterations that reach them.
use Rattle.std.proofs.Common.{◌≡◌, ℕ, ◌+◌, ◌<◌, ◌≤◌, Bool, true, false, cond, not, ◌&&◌, ◌||◌, List, [], ◌∷◌, ◌++◌, length, map, refl, sym, ap, ◌∙◌, arith, nat_eq, nat_lt, Option, Some, None}
use Rattle.std.specs.List.{filter}
use Rattle.std.proofs.lemmas.Bool.{lt-ltb, eqb-true, ne_eqb, and_parts}
use Rattle.xq_base.specs.declared.fun.Fun.TheVariants as f
use Rattle.xq_base.specs.Texts.{Text}
use Rattle.doc_table.specs.Items.{Item, IntItem, TextItem, UntypedItem, BoolItem, NodeItem}
use Rattle.doc_table.specs.Paths.{is_less}
use Rattle.doc_table.specs.Values.{Items, is_node}
use Rattle.doc_table.specs.NodeRules.{Docs}
use Rattle.core_meaning.specs.Expr.{Site, Apply, Expr, Exprs, Spine, Lit, Empty, Var, Seq, Let, For, If, Sorted, Call, no_more, one_more, Leaf, ForBind, LetBind, WhereBind}
use Rattle.core_meaning.specs.Meaning.{deeper, val}
use Rattle.core_meaning.specs.Reached.{where_some}
use Rattle.core_meaning.specs.Lawful.{nodes, nodes_all, nodes_in, is_sited, sited_all, sited_in, rule_fits, fits, fits_all, fits_in}
use Rattle.lift_laws.specs.Sums.{AllOf, Ascends}
use Rattle.lift_laws.specs.Iterations.{Iter, Turn, turns_of, all_turns, given, turns}
use Rattle.lift_laws.specs.Bulk.{value, chosen, other, with_value, iter_of, bound, inside}
use Rattle.lift_laws.specs.Worlds.{Reach, World, InStep, Faithful, Known, Numbers, NumbersAll, NumbersIn}
use Rattle.lift_laws.specs.Existence.{Numbered, WorldFor}
use Rattle.lift_laws.proofs.Numbers.{nat_eq_self, nat_lt_self}
use Rattle.lift_laws.proofs.Picks.{all_each, all_mono, all-append, all-flat}
use Rattle.lift_laws.proofs.Values.{all_two, all_front, all_behind}
use Rattle.lift_laws.proofs.ChoiceCase.{keep_hold}

-- numbers and vectors of two iterations, one behind the other
abbrev After : Iter → Iter → Type 0
After i j = (i.number < j.number) × (is_less i.vector j.vector ≡ true)

keep_step : (p : Iter → Bool) (its : List Iter) → InStep its → InStep (filter p its)
keep_step p [] s = tt
keep_step p (i ∷ its) s =
    let r = keep_step p its s.1 in
    let h = keep_hold (After i) p its s.0 in
    elim (p i) as (λ b. InStep (cond b (i ∷ filter p its) (filter p its))) [ true ↦ (h, r) | false ↦ r ]

-- from the pairs in order to an ascending list
above : (n : ℕ) (its : List Iter) → AllOf (λ i. n < i.number) its → InStep its → Ascends (λ i. i.number) n its
above n [] a s = tt
above n (i ∷ its) a s = (a.0, above i.number its (all_mono _ _ (λ j (h : After i j). let r : i.number < j.number = h.0 in r) its s.0) s.1)

positive : (n : ℕ) (its : List Iter) → Ascends (λ i. i.number) n its → AllOf (λ i. 0 < i.number) its
positive n [] a = tt
positive n (i ∷ its) a = (let h = a.0 in omega arith, positive i.number its a.1)

-- vectors of turns
longer_same : (v : List ℕ) (j k : ℕ) → j < k → is_less (deeper v j) (deeper v k) ≡ true
longer_same [] j k h = ap (λ b. b || (nat_eq j k && false)) (lt-ltb j k h)
longer_same (a ∷ v) j k h = ap (λ b. b || (nat_eq a a && is_less (deeper v j) (deeper v k))) (nat_lt_self a) ∙ ap (λ b. b && is_less (deeper v j) (deeper v k)) (nat_eq_self a) ∙ longer_same v j k h

longer_other : (v u : List ℕ) (j k : ℕ) → length v ≡ length u → is_less v u ≡ true → is_less (deeper v j) (deeper u k) ≡ true
longer_other [] [] j k l e = cc
longer_other [] (b ∷ u) j k l e = absurd (omega arith)
longer_other (a ∷ v) [] j k l e = absurd (omega arith)
longer_other (a ∷ v) (b ∷ u) j k l e = go (nat_lt a b) refl (nat_eq a b) refl e (λ h. longer_other v u j k (omega arith) h)
  where
    go : (x : Bool) → nat_lt a b ≡ x → (y : Bool) → nat_eq a b ≡ y → (x || (y && is_less v u)) ≡ true → (is_less v u ≡ true → is_less (deeper v j) (deeper u k) ≡ true) → (x || (y && is_less (deeper v j) (deeper u k))) ≡ true
    go true p y q h r = refl
    go false p true q h r = r h
    go false p false q h r = h

abbrev vector_at : Turn → List ℕ
vector_at t = deeper t.outer.vector t.place

abbrev Up : List Turn → Type 0
Up [] = Unit {0}
Up (t ∷ ts) = AllOf (λ u. is_less (vector_at t) (vector_at u) ≡ true) ts × Up ts

turns_above : (i : Iter) (j k : ℕ) (vs : Items) → j < k → AllOf (λ u. is_less (deeper i.vector j) (vector_at u) ≡ true) (turns_of i k vs)
turns_above i j k [] h = tt
turns_above i j k (v ∷ vs) h = (longer_same i.vector j k h, turns_above i j (k + 1) vs (omega arith))

turns_later : (i : Iter) (k : ℕ) (o : Iter) (l : ℕ) (vs : Items) → length i.vector ≡ length o.vector → is_less i.vector o.vector ≡ true → AllOf (λ u. is_less (deeper i.vector k) (vector_at u) ≡ true) (turns_of o l vs)
turns_later i k o l [] e h = tt
turns_later i k o l (v ∷ vs) e h = (longer_other i.vector o.vector k l e h, turns_later i k o (l + 1) vs e h)

up_append : (i : Iter) (k : ℕ) (vs : Items) (rest : List Turn) → ((j : ℕ) → AllOf (λ u. is_less (deeper i.vector j) (vector_at u) ≡ true) rest) → Up rest → Up (turns_of i k vs ++ rest)
up_append i k [] rest a s = s
up_append i k (v ∷ vs) rest a s = (all-append _ (turns_of i (k + 1) vs) rest (turns_above i k (k + 1) vs (omega arith)) (a k), up_append i (k + 1) vs rest a s)

all_up : (size : ℕ) (f : Iter → Items) (its : List Iter) → InStep its → AllOf (λ i. length i.vector ≡ size) its → Up (all_turns f its)
all_up size f [] s l = tt
all_up size f (i ∷ its) s l =
    up_append i 1 (f i) (all_turns f its)
    (λ j. all-flat _ (λ o. turns_of o 1 (f o)) its (all_two _ _ _ (λ o (h : After i o) (e : length o.vector ≡ size). turns_later i j o 1 (f o) (l.0 ∙ sym e) h.1) its s.0 l.1))
    (all_up size f its s.1 l.1)

given_later : (t : Turn) (n m : ℕ) (x p : ℕ) (ts : List Turn) → n < m → AllOf (λ u. is_less (vector_at t) (vector_at u) ≡ true) ts → AllOf (λ (j : Iter). (n < j.number) × (is_less (vector_at t) j.vector ≡ true)) (map (iter_of x p) (given m ts))
given_later t n m x p [] l a = tt
given_later t n m x p (u ∷ ts) l a = ((l, a.0), given_later t n (m + 1) x p ts (omega arith) a.1)

given_step : (x p n : ℕ) (ts : List Turn) → Up ts → InStep (map (iter_of x p) (given n ts))
given_step x p n [] s = tt
given_step x p n (t ∷ ts) s = (given_later t n (n + 1) x p ts (omega arith) s.0, given_step x p (n + 1) ts s.1)

given_positive : (x p n : ℕ) (ts : List Turn) → 0 < n → AllOf (λ (j : Iter). 0 < j.number) (map (iter_of x p) (given n ts))
given_positive x p n [] l = tt
given_positive x p n (t ∷ ts) l = (l, given_positive x p (n + 1) ts (omega arith))

length_one : (v : List ℕ) (k : ℕ) → length (deeper v k) ≡ length v + 1
length_one [] k = refl
length_one (a ∷ v) k = let r = length_one v k in omega arith

given_lengths : (size x p n : ℕ) (ts : List Turn) → AllOf (λ t. length t.outer.vector ≡ size) ts → AllOf (λ (j : Iter). length j.vector ≡ size + 1) (map (iter_of x p) (given n ts))
given_lengths size x p n [] a = tt
given_lengths size x p n (t ∷ ts) a = (length_one t.outer.vector t.place ∙ ap (λ m. m + 1) a.0, given_lengths size x p (n + 1) ts a.1)

outer_of : (size : ℕ) (i : Iter) (k : ℕ) (vs : Items) → length i.vector ≡ size → AllOf (λ t. length t.outer.vector ≡ size) (turns_of i k vs)
outer_of size i k [] e = tt
outer_of size i k (v ∷ vs) e = (e, outer_of size i (k + 1) vs e)

numbered_keep : {size : ℕ} (p : Iter → Bool) {its : List Iter} → Numbered size its → Numbered size (filter p its)
numbered_keep p {its = its} g =
    let s = keep_step p its g.step in
    record { step = s; ascends = above 0 (filter p its) (keep_hold (λ i. 0 < i.number) p its (positive 0 its g.ascends)) s; lengths = keep_hold _ p its g.lengths }

numbered_turns : {size : ℕ} (x p : ℕ) (f : Iter → Items) {its : List Iter} → Numbered size its → Numbered (size + 1) (map (iter_of x p) (turns f its))
numbered_turns {size = size} x p f {its = its} g =
    let s = given_step x p 1 (all_turns f its) (all_up size f its g.step g.lengths) in
    record {
      step = s;
      ascends = above 0 (map (iter_of x p) (turns f its)) (given_positive x p 1 (all_turns f its) (omega arith)) s;
      lengths = given_lengths size x p 1 (all_turns f its) (all-flat _ (λ i. turns_of i 1 (f i)) its (all_mono _ _ (λ i (e : length i.vector ≡ size). outer_of size i 1 (f i) e) its g.lengths));
    }

-- no call: of a sorted loop only the iterations count
abbrev pub no_call : Site → List Iter → Reach
no_call site its = record { site = site; rule = Apply f.True; parts = no_more; its = its }

-- what is reached, by the sites
abbrev pub look : List Reach → ℕ → Reach
look [] n = no_call (record { number = n; offset = 0 }) []
look (x ∷ xs) n = cond (nat_eq x.site.number n) x (look xs n)

abbrev Fit : Reach → Type 0
Fit x = InStep x.its × Ascends (λ i. i.number) 0 x.its

look_fit : (xs : List Reach) → AllOf Fit xs → (n : ℕ) → InStep (look xs n).its × Ascends (λ i. i.number) 0 (look xs n).its
look_fit [] a n = (tt, tt)
look_fit (x ∷ xs) a n =
    let r = look_fit xs a.1 n in
    elim (nat_eq x.site.number n) as (λ b. InStep (cond b x (look xs n)).its × Ascends (λ (i : Iter). i.number) 0 (cond b x (look xs n)).its) [ true ↦ a.0 | false ↦ r ]

-- the sites are from lo to below hi, and differ
abbrev pub Between : ℕ → ℕ → Reach → Type 0
Between lo hi x = (lo ≤ x.site.number) × (x.site.number < hi)

abbrev pub Differ : List Reach → Type 0
Differ [] = Unit {0}
Differ (x ∷ xs) = AllOf (λ y. nat_eq x.site.number y.site.number ≡ false) xs × Differ xs

pub record Stretch (lo hi : ℕ) (xs : List Reach) : Type 0 where
  pub inside_it : AllOf (Between lo hi) xs
  pub differ : Differ xs

no_stretch : (lo hi : ℕ) → Stretch lo hi []
no_stretch lo hi = record { inside_it = tt; differ = tt }

wider : (lo hi lo' hi' : ℕ) (xs : List Reach) → lo' ≤ lo → hi ≤ hi' → AllOf (Between lo hi) xs → AllOf (Between lo' hi') xs
wider lo hi lo' hi' xs a b h = all_mono _ _ (λ x (k : Between lo hi x). let k0 = k.0 in let k1 = k.1 in let r : Between lo' hi' x = (omega arith, omega arith) in r) xs h

differ_then : (lo mid hi : ℕ) (xs ys : List Reach) → AllOf (Between lo mid) xs → AllOf (Between mid hi) ys → Differ xs → Differ ys → Differ (xs ++ ys)
differ_then lo mid hi [] ys a b d e = e
differ_then lo mid hi (x ∷ xs) ys a b d e = (
  all-append _ xs ys d.0 (all_mono _ _ (λ y (h : Between mid hi y). let k = h.0 in let l = a.0.1 in let r : nat_eq x.site.number y.site.number ≡ false = ne_eqb x.site.number y.site.number (λ q. omega arith) in r) ys b),
  differ_then lo mid hi xs ys a.1 b d.1 e,
)

stretch_then : (lo mid hi hi' : ℕ) (xs ys : List Reach) → lo ≤ mid → mid ≤ hi → hi ≤ hi' → Stretch lo mid xs → Stretch mid hi ys → Stretch lo hi' (xs ++ ys)
stretch_then lo mid hi hi' xs ys a b c s t = record {
  inside_it = all-append _ xs ys (wider lo mid lo hi' xs (omega arith) (omega arith) s.inside_it) (wider mid hi lo hi' ys a c t.inside_it);
  differ = differ_then lo mid hi xs ys s.inside_it t.inside_it s.differ t.differ;
}

module _ (docs : Docs) where
  abbrev mutual
    -- what reaches each node with a rule of its own
    pub entries : Expr → List Iter → List Reach
    entries (Lit a) its = []
    entries Empty its = []
    entries (Var x) its = []
    entries (Seq a b) its = entries a its ++ entries b its
    entries (Let x b e) its = entries b its ++ entries e (bound docs x b its)
    entries (For x p s e) its = entries s its ++ entries e (inside docs x p s its)
    entries (If c a b) its = (entries c its ++ entries a (filter (chosen docs c) its)) ++ entries b (filter (other docs c) its)
    entries (Sorted site os sp) its = entries_in sp its ++ no_call site its ∷ []
    entries (Call site r es) its = entries_all es its ++ record { site = site; rule = r; parts = es; its = its } ∷ []

    pub entries_all : Exprs → List Iter → List Reach
    entries_all no_more its = []
    entries_all (one_more e es) its = entries e its ++ entries_all es its

    pub entries_in : Spine → List Iter → List Reach
    entries_in (Leaf ks e) its = entries_all ks its ++ entries e its
    entries_in (ForBind x p s sp) its = entries s its ++ entries_in sp (inside docs x p s its)
    entries_in (LetBind x b sp) its = entries b its ++ entries_in sp (bound docs x b its)
    entries_in (WhereBind c sp) its = entries c its ++ entries_in sp (filter (chosen docs c) its)

  mutual
    pub stretch_of : (e : Expr) (n : ℕ) (its : List Iter) → is_sited n e ≡ true → Stretch n (n + nodes e) (entries e its)
    stretch_of (Lit a) n its z = no_stretch n (n + 1)
    stretch_of Empty n its z = no_stretch n (n + 1)
    stretch_of (Var x) n its z = no_stretch n (n + 1)
    stretch_of (Seq a b) n its z =
        let p = and_parts (is_sited n a) (is_sited (n + nodes a) b) z in
        stretch_then n (n + nodes a) (n + nodes a + nodes b) (n + nodes (Seq a b)) (entries a its) (entries b its) (omega arith) (omega arith) (omega arith) (stretch_of a n its p.0) (stretch_of b (n + nodes a) its p.1)
    stretch_of (Let x b e) n its z =
        let p = and_parts (is_sited n b) (is_sited (n + nodes b) e) z in
        stretch_then n (n + nodes b) (n + nodes b + nodes e) (n + nodes (Let x b e)) (entries b its) (entries e (bound docs x b its)) (omega arith) (omega arith) (omega arith) (stretch_of b n its p.0) (stretch_of e (n + nodes b) (bound docs x b its) p.1)
    stretch_of (For x y s e) n its z =
        let p = and_parts (is_sited n s) (is_sited (n + nodes s) e) z in
        stretch_then n (n + nodes s) (n + nodes s + nodes e) (n + nodes (For x y s e)) (entries s its) (entries e (inside docs x y s its)) (omega arith) (omega arith) (omega arith) (stretch_of s n its p.0) (stretch_of e (n + nodes s) (inside docs x y s its) p.1)
    stretch_of (If c a b) n its z =
        let p = and_parts (is_sited n c && is_sited (n + nodes c) a) (is_sited (n + nodes c + nodes a) b) z in
        let q = and_parts (is_sited n c) (is_sited (n + nodes c) a) p.0 in
        let ia = filter (chosen docs c) its in
        let ib = filter (other docs c) its in
        stretch_then n (n + nodes c + nodes a) (n + nodes c + nodes a + nodes b) (n + nodes (If c a b)) (entries c its ++ entries a ia) (entries b ib) (omega arith) (omega arith) (omega arith)
        (stretch_then n (n + nodes c) (n + nodes c + nodes a) (n + nodes c + nodes a) (entries c its) (entries a ia) (omega arith) (omega arith) (omega arith) (stretch_of c n its q.0) (stretch_of a (n + nodes c) ia q.1))
        (stretch_of b (n + nodes c + nodes a) ib p.1)
    stretch_of (Sorted site os sp) n its z =
        let p = and_parts (nat_eq site.number (n + nodes_in sp)) (sited_in n sp) z in
        let e = eqb-true site.number (n + nodes_in sp) p.0 in
        stretch_then n (n + nodes_in sp) (n + nodes (Sorted site os sp)) (n + nodes (Sorted site os sp)) (entries_in sp its) (no_call site its ∷ []) (omega arith) (omega arith) (omega arith) (stretch_in sp n its p.1)
        (record { inside_it = ((omega arith, omega arith), tt); differ = (tt, tt) })
    stretch_of (Call site r es) n its z =
        let p = and_parts (nat_eq site.number (n + nodes_all es)) (sited_all n es) z in
        let e = eqb-true site.number (n + nodes_all es) p.0 in
        stretch_then n (n + nodes_all es) (n + nodes (Call site r es)) (n + nodes (Call site r es)) (entries_all es its) (record { site = site; rule = r; parts = es; its = its } ∷ []) (omega arith) (omega arith) (omega arith) (stretch_all es n its p.1)
        (record { inside_it = ((omega arith, omega arith), tt); differ = (tt, tt) })

    stretch_all : (es : Exprs) (n : ℕ) (its : List Iter) → sited_all n es ≡ true → Stretch n (n + nodes_all es) (entries_all es its)
    stretch_all no_more n its z = no_stretch n (n + 0)
    stretch_all (one_more e es) n its z =
        let p = and_parts (is_sited n e) (sited_all (n + nodes e) es) z in
        stretch_then n (n + nodes e) (n + nodes e + nodes_all es) (n + nodes_all (one_more e es)) (entries e its) (entries_all es its) (omega arith) (omega arith) (omega arith) (stretch_of e n its p.0) (stretch_all es (n + nodes e) its p.1)

    stretch_in : (sp : Spine) (n : ℕ) (its : List Iter) → sited_in n sp ≡ true → Stretch n (n + nodes_in sp) (entries_in sp its)
    stretch_in (Leaf ks e) n its z =
        let p = and_parts (sited_all n ks) (is_sited (n + nodes_all ks) e) z in
        stretch_then n (n + nodes_all ks) (n + nodes_all ks + nodes e) (n + nodes_in (Leaf ks e)) (entries_all ks its) (entries e its) (omega arith) (omega arith) (omega arith) (stretch_all ks n its p.0) (stretch_of e (n + nodes_all ks) its p.1)
    stretch_in (ForBind x y s sp) n its z =
        let p = and_parts (is_sited n s) (sited_in (n + nodes s) sp) z in
        stretch_then n (n + nodes s) (n + nodes s + nodes_in sp) (n + nodes_in (ForBind x y s sp)) (entries s its) (entries_in sp (inside docs x y s its)) (omega arith) (omega arith) (omega arith) (stretch_of s n its p.0) (stretch_in sp (n + nodes s) (inside docs x y s its) p.1)
    stretch_in (LetBind x b sp) n its z =
        let p = and_parts (is_sited n b) (sited_in (n + nodes b) sp) z in
        stretch_then n (n + nodes b) (n + nodes b + nodes_in sp) (n + nodes_in (LetBind x b sp)) (entries b its) (entries_in sp (bound docs x b its)) (omega arith) (omega arith) (omega arith) (stretch_of b n its p.0) (stretch_in sp (n + nodes b) (bound docs x b its) p.1)
    stretch_in (WhereBind c sp) n its z =
        let p = and_parts (is_sited n c) (sited_in (n + nodes c) sp) z in
        stretch_then n (n + nodes c) (n + nodes c + nodes_in sp) (n + nodes_in (WhereBind c sp)) (entries c its) (entries_in sp (filter (chosen docs c) its)) (omega arith) (omega arith) (omega arith) (stretch_of c n its p.0) (stretch_in sp (n + nodes c) (filter (chosen docs c) its) p.1)

  -- one more variable changes neither number nor vector
  bound_hold : (P : ℕ → List ℕ → Type 0) (x : ℕ) (b : Expr) (its : List Iter) → AllOf (λ i. P i.number i.vector) its → AllOf (λ i. P i.number i.vector) (bound docs x b its)
  bound_hold P x b its a = all-flat _ (λ i. where_some (val docs b i.env i.vector) (λ v. with_value x i v ∷ [])) its (all_mono _ _ (λ i (h : P i.number i.vector). one i h (val docs b i.env i.vector)) its a)
    where
      one : (i : Iter) → P i.number i.vector → (o : Option Items) → AllOf (λ j. P j.number j.vector) (where_some o (λ v. with_value x i v ∷ []))
      one i h None = tt
      one i h (Some v) = (h, tt)

  bound_step : (x : ℕ) (b : Expr) (its : List Iter) → InStep its → InStep (bound docs x b its)
  bound_step x b [] s = tt
  bound_step x b (i ∷ its) s = go (val docs b i.env i.vector) (bound_step x b its s.1) (bound_hold (λ n v. (i.number < n) × (is_less i.vector v ≡ true)) x b its s.0)
    where
      go : (o : Option Items) → InStep (bound docs x b its) → AllOf (λ j. (i.number < j.number) × (is_less i.vector j.vector ≡ true)) (bound docs x b its) → InStep (where_some o (λ v. with_value x i v ∷ []) ++ bound docs x b its)
      go None r h = r
      go (Some v) r h = (h, r)

  numbered_bound : {size : ℕ} (x : ℕ) (b : Expr) {its : List Iter} → Numbered size its → Numbered size (bound docs x b its)
  numbered_bound {size = size} x b {its = its} g =
      let s = bound_step x b its g.step in
      record { step = s; ascends = above 0 (bound docs x b its) (bound_hold (λ n v. 0 < n) x b its (positive 0 its g.ascends)) s; lengths = bound_hold (λ n v. length v ≡ size) x b its g.lengths }

  mutual
    fit_of : (e : Expr) (size : ℕ) (its : List Iter) → Numbered size its → AllOf Fit (entries e its)
    fit_of (Lit a) size its g = tt
    fit_of Empty size its g = tt
    fit_of (Var x) size its g = tt
    fit_of (Seq a b) size its g = all-append Fit (entries a its) (entries b its) (fit_of a size its g) (fit_of b size its g)
    fit_of (Let x b e) size its g = all-append Fit (entries b its) (entries e (bound docs x b its)) (fit_of b size its g) (fit_of e size (bound docs x b its) (numbered_bound x b g))
    fit_of (For x p s e) size its g = all-append Fit (entries s its) (entries e (inside docs x p s its)) (fit_of s size its g) (fit_of e (size + 1) (inside docs x p s its) (numbered_turns x p (value docs s) g))
    fit_of (If c a b) size its g =
        let ia = filter (chosen docs c) its in
        let ib = filter (other docs c) its in
        all-append Fit (entries c its ++ entries a ia) (entries b ib) (all-append Fit (entries c its) (entries a ia) (fit_of c size its g) (fit_of a size ia (numbered_keep (chosen docs c) g))) (fit_of b size ib (numbered_keep (other docs c) g))
    fit_of (Sorted site os sp) size its g = all-append Fit (entries_in sp its) (no_call site its ∷ []) (fit_in sp size its g) ((g.step, g.ascends), tt)
    fit_of (Call site r es) size its g = all-append Fit (entries_all es its) (record { site = site; rule = r; parts = es; its = its } ∷ []) (fit_all es size its g) ((g.step, g.ascends), tt)

    fit_all : (es : Exprs) (size : ℕ) (its : List Iter) → Numbered size its → AllOf Fit (entries_all es its)
    fit_all no_more size its g = tt
    fit_all (one_more e es) size its g = all-append Fit (entries e its) (entries_all es its) (fit_of e size its g) (fit_all es size its g)

    fit_in : (sp : Spine) (size : ℕ) (its : List Iter) → Numbered size its → AllOf Fit (entries_in sp its)
    fit_in (Leaf ks e) size its g = all-append Fit (entries_all ks its) (entries e its) (fit_all ks size its g) (fit_of e size its g)
    fit_in (ForBind x p s sp) size its g = all-append Fit (entries s its) (entries_in sp (inside docs x p s its)) (fit_of s size its g) (fit_in sp (size + 1) (inside docs x p s its) (numbered_turns x p (value docs s) g))
    fit_in (LetBind x b sp) size its g = all-append Fit (entries b its) (entries_in sp (bound docs x b its)) (fit_of b size its g) (fit_in sp size (bound docs x b its) (numbered_bound x b g))
    fit_in (WhereBind c sp) size its g = all-append Fit (entries c its) (entries_in sp (filter (chosen docs c) its)) (fit_of c size its g) (fit_in sp size (filter (chosen docs c) its) (numbered_keep (chosen docs c) g))

  -- a literal is known in every world
  literal_known : (W : World) (a : Item Text) → not (is_node a) ≡ true → Known docs W a
  literal_known W (IntItem z) h = tt
  literal_known W (TextItem t) h = tt
  literal_known W (UntypedItem t) h = tt
  literal_known W (BoolItem b) h = tt
  literal_known W (NodeItem n) h = cc

  abbrev pub Agrees : World → Reach → Type 0
  Agrees W x = W x.site.number ≡ x

  pub looked : (xs : List Reach) → Differ xs → AllOf (Agrees (look xs)) xs
  looked [] d = tt
  looked (x ∷ xs) d = (
    ap (λ b. cond b x (look xs x.site.number)) (nat_eq_self x.site.number),
    all_two _ _ _ (λ y (n : nat_eq x.site.number y.site.number ≡ false) (h : look xs y.site.number ≡ y). let r : look (x ∷ xs) y.site.number ≡ y = ap (λ b. cond b x (look xs y.site.number)) n ∙ h in r) xs d.0 (looked xs d.1),
  )

  mutual
    numbers_of : (W : World) (vars : List ℕ) (e : Expr) (its : List Iter) → fits vars e ≡ true → AllOf (Agrees W) (entries e its) → Numbers docs W e its
    numbers_of W vars (Lit a) its t h = all_each _ (λ i. literal_known W a t) its
    numbers_of W vars Empty its t h = tt
    numbers_of W vars (Var x) its t h = tt
    numbers_of W vars (Seq a b) its t h =
        let p = and_parts (fits vars a) (fits vars b) t in
        (numbers_of W vars a its p.0 (all_front (Agrees W) (entries a its) _ h), numbers_of W vars b its p.1 (all_behind (Agrees W) (entries a its) _ h))
    numbers_of W vars (Let x b e) its t h =
        let p = and_parts (fits vars b) (fits (x ∷ vars) e) t in
        (numbers_of W vars b its p.0 (all_front (Agrees W) (entries b its) _ h), numbers_of W (x ∷ vars) e (bound docs x b its) p.1 (all_behind (Agrees W) (entries b its) _ h))
    numbers_of W vars (For x y s e) its t h =
        let p = and_parts (fits vars s) (fits (x ∷ y ∷ vars) e) t in
        (numbers_of W vars s its p.0 (all_front (Agrees W) (entries s its) _ h), numbers_of W (x ∷ y ∷ vars) e (inside docs x y s its) p.1 (all_behind (Agrees W) (entries s its) _ h))
    numbers_of W vars (If c a b) its t h =
        let p = and_parts (fits vars c && fits vars a) (fits vars b) t in
        let q = and_parts (fits vars c) (fits vars a) p.0 in
        let ia = filter (chosen docs c) its in
        let ib = filter (other docs c) its in
        let k = all_front (Agrees W) (entries c its ++ entries a ia) (entries b ib) h in
        (numbers_of W vars c its q.0 (all_front (Agrees W) (entries c its) _ k), numbers_of W vars a ia q.1 (all_behind (Agrees W) (entries c its) _ k), numbers_of W vars b ib p.1 (all_behind (Agrees W) (entries c its ++ entries a ia) _ h))
    numbers_of W vars (Sorted site os sp) its t h = numbers_in W vars sp its t (all_front (Agrees W) (entries_in sp its) _ h)
    numbers_of W vars (Call site r es) its t h =
        let p = and_parts (rule_fits r es) (fits_all vars es) t in
        (numbers_all W vars es its p.1 (all_front (Agrees W) (entries_all es its) _ h), (all_behind (Agrees W) (entries_all es its) _ h).0)

    numbers_all : (W : World) (vars : List ℕ) (es : Exprs) (its : List Iter) → fits_all vars es ≡ true → AllOf (Agrees W) (entries_all es its) → NumbersAll docs W es its
    numbers_all W vars no_more its t h = tt
    numbers_all W vars (one_more e es) its t h =
        let p = and_parts (fits vars e) (fits_all vars es) t in
        (numbers_of W vars e its p.0 (all_front (Agrees W) (entries e its) _ h), numbers_all W vars es its p.1 (all_behind (Agrees W) (entries e its) _ h))

    numbers_in : (W : World) (vars : List ℕ) (sp : Spine) (its : List Iter) → fits_in vars sp ≡ true → AllOf (Agrees W) (entries_in sp its) → NumbersIn docs W sp its
    numbers_in W vars (Leaf ks e) its t h =
        let p = and_parts (fits_all vars ks) (fits vars e) t in
        (numbers_all W vars ks its p.0 (all_front (Agrees W) (entries_all ks its) _ h), numbers_of W vars e its p.1 (all_behind (Agrees W) (entries_all ks its) _ h))
    numbers_in W vars (ForBind x y s sp) its t h =
        let p = and_parts (fits vars s) (fits_in (x ∷ y ∷ vars) sp) t in
        (numbers_of W vars s its p.0 (all_front (Agrees W) (entries s its) _ h), numbers_in W (x ∷ y ∷ vars) sp (inside docs x y s its) p.1 (all_behind (Agrees W) (entries s its) _ h))
    numbers_in W vars (LetBind x b sp) its t h =
        let p = and_parts (fits vars b) (fits_in (x ∷ vars) sp) t in
        (numbers_of W vars b its p.0 (all_front (Agrees W) (entries b its) _ h), numbers_in W (x ∷ vars) sp (bound docs x b its) p.1 (all_behind (Agrees W) (entries b its) _ h))
    numbers_in W vars (WhereBind c sp) its t h =
        let p = and_parts (fits vars c) (fits_in vars sp) t in
        (numbers_of W vars c its p.0 (all_front (Agrees W) (entries c its) _ h), numbers_in W vars sp (filter (chosen docs c) its) p.1 (all_behind (Agrees W) (entries c its) _ h))

  -- the world of an expression
  pub world_faithful : (size : ℕ) (e : Expr) (its : List Iter) → Numbered size its → Faithful (look (entries e its))
  world_faithful size e its g n = look_fit (entries e its) (fit_of e size its g) n

  pub world_agrees : (n : ℕ) (e : Expr) (its : List Iter) → is_sited n e ≡ true → AllOf (Agrees (look (entries e its))) (entries e its)
  world_agrees n e its z = looked (entries e its) (stretch_of e n its z).differ

  pub world_numbered : (n : ℕ) (vars : List ℕ) (e : Expr) (its : List Iter) → is_sited n e ≡ true → fits vars e ≡ true → Numbers docs (look (entries e its)) e its
  world_numbered n vars e its z t = numbers_of (look (entries e its)) vars e its t (world_agrees n e its z)

  pub world_for : (n size : ℕ) (vars : List ℕ) (e : Expr) (its : List Iter) → is_sited n e ≡ true → fits vars e ≡ true → Numbered size its → WorldFor docs e its
  world_for n size vars e its z t g = record {
    world = look (entries e its);
    faithful = world_faithful size e its g;
    numbered = world_numbered n vars e its z t;
  }
