-- Chains of rows, on which the hits of child, parent, ancestor, ancestor-or-self and both sibling axes
-- stand (own rule).
use Rattle.std.specs.Prelude.{ℕ, suc, ◌≡◌, ◌+◌, ◌-◌, ◌<◌, ◌≤◌, Bool, true, false, not, ◌&&◌, if◌then◌else◌, ◌⊎◌, List, [], ◌∷◌, ◌++◌, length, reverse, Option, Some, None, slice_index_or, nat_eq, nat_lt, nat_le}
use Rattle.xq_base.specs.declared.axis.Axis.{Axis}
use Rattle.xq_base.specs.declared.axis.Axis.TheVariants as a
use Rattle.staircase.specs.declared.chain.Start.{Start}
use Rattle.staircase.specs.declared.hits.Hit.{Hit}
use Rattle.staircase.specs.declared.kinds.Ctx.{Ctx}
use Rattle.staircase.specs.declared.seen.Seen.{Seen}
use Rattle.staircase.specs.Made.{iter_for}
use Rattle.staircase.specs.Parts.{In, IsSmall}
use Rattle.staircase.specs.Tasks.{AnyOf, Gains, lets, hit_in}

-- stands for a row where there is none
abbrev pub no_seen : Seen
no_seen = record { pre = 0; last = 0; level = 0; element = false; node = false; passes = false }

-- the row at a place
abbrev pub row_at : List Seen → ℕ → Seen
row_at rows k = slice_index_or rows k no_seen

-- what is kept for a place
abbrev pub kept_at : List (Option ℕ) → ℕ → Option ℕ
kept_at xs k = slice_index_or xs k None

-- the axes whose chains lead from sibling to sibling
abbrev pub is_sibling : Axis → Bool
is_sibling a.Child = true
is_sibling a.PrecedingSibling = true
is_sibling a.FollowingSibling = true
is_sibling _ = false

-- the axes whose chains lead to later rows
abbrev pub leads_on : Axis → Bool
leads_on a.Child = true
leads_on a.FollowingSibling = true
leads_on _ = false

-- the rows in an order in which chains lead to earlier places
abbrev pub lined : Axis → List Seen → List Seen
lined axis seen = if leads_on axis then reverse seen else seen

-- the place of a row in that order
abbrev pub turned : Axis → ℕ → ℕ → ℕ
turned axis n k = if leads_on axis then n - 1 - k else k

-- numbers that can be made greater by one, and a last row that isn't before the row
pub record AreOrdered (rows : List Seen) : Type 0 where
  pub small : (s : Seen) → In s rows → IsSmall s
  pub order : (s : Seen) → In s rows → s.pre ≤ s.last

-- a search from row r back to earlier places ends at row s: at a row that is no deeper, or at one that
-- holds row r
abbrev pub ends_at : Axis → Seen → Seen → Bool
ends_at axis s r = if is_sibling axis then nat_le s.level r.level else nat_le r.pre s.last

-- the nearest place below n where a search from row r ends
abbrev pub Nearest : Axis → List Seen → Seen → ℕ → Option ℕ → Type 0
Nearest axis rows r n None = (i : ℕ) → i < n → ends_at axis (row_at rows i) r ≡ false
Nearest axis rows r n (Some j) = (j < n) × (ends_at axis (row_at rows j) r ≡ true) × ((i : ℕ) → j < i → i < n → ends_at axis (row_at rows i) r ≡ false)

-- for each of the first n places the nearest one before it where a search ends
pub record Linked (axis : Axis) (rows : List Seen) (links : List (Option ℕ)) (n : ℕ) : Type 0 where
  pub many : length links ≡ n
  pub nearest : (k : ℕ) → k < n → Nearest axis rows (row_at rows k) k (kept_at links k)

-- the row at which a search from row r ended comes next in a chain
abbrev pub is_next : Axis → Seen → Seen → Bool
is_next a.Parent s r = nat_eq r.level (s.level + 1)
is_next a.Ancestor s r = true
is_next a.AncestorOrSelf s r = true
is_next a.Child s r = nat_eq s.level r.level && nat_eq s.pre (r.last + 1)
is_next a.PrecedingSibling s r = nat_eq s.level r.level && nat_eq r.pre (s.last + 1)
is_next a.FollowingSibling s r = nat_eq s.level r.level && nat_eq s.pre (r.last + 1)
is_next _ s r = false

-- this place, where its row comes next to row r
abbrev pub where_next : Axis → List Seen → Seen → Option ℕ → Option ℕ
where_next axis rows r None = None
where_next axis rows r (Some j) = if is_next axis (row_at rows j) r then Some j else None

-- the place that comes next to a place
abbrev pub next_of : Axis → List Seen → List (Option ℕ) → ℕ → Option ℕ
next_of axis rows links k = where_next axis rows (row_at rows k) (kept_at links k)

-- one row alone is on the axis of a row
abbrev pub is_lone_step : Axis → Bool
is_lone_step a.Parent = true
is_lone_step _ = false

-- how a chain goes on
abbrev pub onward : Axis → List Seen → List (Option ℕ) → ℕ → Option ℕ
onward axis rows links k = if is_lone_step axis then None else next_of axis rows links k

-- the place of the first child of the row at a place, where the rows are turned around
abbrev pub first_child : List Seen → ℕ → Option ℕ
first_child rows k = if nat_lt 0 k && (nat_lt (row_at rows k).pre (row_at rows k).last && nat_eq (row_at rows (k - 1)).pre ((row_at rows k).pre + 1)) then Some (k - 1) else None

-- the chain of a row, or of an attribute, begins with this row itself, or with the row of the attribute
abbrev pub begins_here : Axis → Bool → Bool
begins_here a.Parent is_row = not is_row
begins_here a.Ancestor is_row = not is_row
begins_here a.AncestorOrSelf is_row = true
begins_here _ is_row = false

-- the axis on which the chain of a row begins with its first child
abbrev pub begins_below : Axis → Bool
begins_below a.Child = true
begins_below _ = false

-- where the chain of a row begins, if not with the row itself
abbrev pub first_of_row : Axis → List Seen → List (Option ℕ) → ℕ → Option ℕ
first_of_row axis rows links k = if begins_below axis then first_child rows k else next_of axis rows links k

-- where the chain of a row, or of an attribute of it, begins
abbrev pub start_of : Axis → List Seen → List (Option ℕ) → ℕ → ℕ → Option ℕ
start_of axis rows links attr k = if begins_here axis (nat_eq attr 0) then Some k else (if nat_eq attr 0 then first_of_row axis rows links k else None)

-- one place later
abbrev pub one_later : Option ℕ → Option ℕ
one_later None = None
one_later (Some k) = Some (suc k)

-- the first place of a row with this number
abbrev pub place_found : List Seen → ℕ → Option ℕ
place_found [] pre = None
place_found (s ∷ ss) pre = if nat_eq s.pre pre then Some 0 else one_later (place_found ss pre)

-- a chain, where it begins
abbrev pub started : ℕ → Option ℕ → List Start
started iter None = []
started iter (Some k) = record { iter = iter; place = k } ∷ []

-- the chain of a node whose row stands at this place
abbrev pub starts_at : Axis → Bool → List Seen → List (Option ℕ) → Ctx → Option ℕ → List Start
starts_at axis counting rows links c None = []
starts_at axis counting rows links c (Some k) = started (iter_for counting c) (start_of axis rows links c.attr (turned axis (length rows) k))

-- where the chain of a node begins
abbrev pub starts_one : Axis → Bool → List Seen → List Seen → List (Option ℕ) → Ctx → List Start
starts_one axis counting seen rows links c = starts_at axis counting rows links c (place_found seen c.pre)

-- where the chains of the nodes of a context begin
abbrev pub all_starts : Axis → Bool → List Seen → List Seen → List (Option ℕ) → List Ctx → List Start
all_starts axis counting seen rows links [] = []
all_starts axis counting seen rows links (c ∷ cs) = starts_one axis counting seen rows links c ++ all_starts axis counting seen rows links cs

-- a chain that goes on by these steps leads from a place to another one
pub data Leads (step : ℕ → Option ℕ) : ℕ → ℕ → Type 0 where
  leads_here : {k : ℕ} → Leads step k k
  leads_more : {k j m : ℕ} → step k ≡ Some j → Leads step j m → Leads step k m

-- a hit of a chain
abbrev pub OnChain : (ℕ → Option ℕ) → Bool → List Seen → Start → Hit → Type 0
OnChain step counting rows start h = (m : ℕ) × Leads step start.place m × (lets counting (row_at rows m) ≡ true) × (h ≡ hit_in start.iter (row_at rows m))

-- all rows on the chain of a place that is marked for an iteration are among the hits
abbrev pub Marked : (ℕ → Option ℕ) → Bool → List Seen → List (Option ℕ) → List Hit → Type 0
Marked step counting rows marks hits = (k i m : ℕ) → kept_at marks k ≡ Some i → Leads step k m → lets counting (row_at rows m) ≡ true → In (hit_in i (row_at rows m)) hits

-- the hits of a chain come to those that there are
pub record Walks (step : ℕ → Option ℕ) (counting : Bool) (rows : List Seen) (start : Start) (marks : List (Option ℕ)) (old new : List Hit) : Type 0 where
  pub gains : Gains (OnChain step counting rows start) old new
  pub marked : Marked step counting rows marks new

-- a place that the rest of a walk leads to
abbrev pub Behind : (ℕ → Option ℕ) → Option ℕ → ℕ → Type 0
Behind step None m = ⊥
Behind step (Some k) m = Leads step k m

-- a place that a walk has passed
abbrev pub Past : Option ℕ → ℕ → Type 0
Past None k = Unit {0}
Past (Some j) k = j < k

-- a place of a walk is below this number
abbrev pub Below : Option ℕ → ℕ → Type 0
Below None n = Unit {0}
Below (Some k) n = k < n

-- how many places there are up to this one
abbrev pub up_to : Option ℕ → ℕ
up_to None = 0
up_to (Some k) = suc k

-- a place that a walk came to from its start
abbrev pub OnWay : (ℕ → Option ℕ) → ℕ → Option ℕ → Type 0
OnWay step start None = Unit {0}
OnWay step start (Some k) = Leads step start k

-- a chain whose hits are gathered up to a place
pub record Walking (step : ℕ → Option ℕ) (counting : Bool) (rows : List Seen) (start : Start) (at : Option ℕ) (marks : List (Option ℕ)) (old new : List Hit) : Type 0 where
  pub kept : (h : Hit) → In h old → In h new
  pub sound : (h : Hit) → In h new → In h old ⊎ OnChain step counting rows start h
  pub way : OnWay step start.place at
  pub rest : (m : ℕ) → Leads step start.place m → lets counting (row_at rows m) ≡ true → In (hit_in start.iter (row_at rows m)) new ⊎ Behind step at m
  pub marked : (k i m : ℕ) → kept_at marks k ≡ Some i → Leads step k m → lets counting (row_at rows m) ≡ true → In (hit_in i (row_at rows m)) new ⊎ ((i ≡ start.iter) × Past at k × Behind step at m)

-- a mark for each place, for no iteration
pub record NoMarks (marks : List (Option ℕ)) (n : ℕ) : Type 0 where
  pub many : length marks ≡ n
  pub none : (k : ℕ) → kept_at marks k ≡ None

-- chains begin within the rows
abbrev pub AreWithin : List Start → ℕ → Type 0
AreWithin xs n = (start : Start) → In start xs → start.place < n

-- the hits of these chains come to those that there are
abbrev pub AddsWalks : Axis → Bool → List Seen → List (Option ℕ) → List Start → List Hit → List Hit → Type 0
AddsWalks axis counting rows links xs old new = Gains (AnyOf (OnChain (onward axis rows links) counting rows) xs) old new

-- the hits of the chains of a context come to those that there are
pub record AddsChains (axis : Axis) (counting : Bool) (seen : List Seen) (cs : List Ctx) (old new : List Hit) : Type 0 where
  pub links : List (Option ℕ)
  pub linked : Linked axis (lined axis seen) links (length seen)
  pub gains : AddsWalks axis counting (lined axis seen) links (all_starts axis counting seen (lined axis seen) links cs) old new
