-- What a join appends and counts (XPath 2.0, section 3.2, for all iterations of all loops at once).
use Rattle.std.specs.Prelude.{ℕ, ◌≡◌, ◌+◌, ◌^◌, ◌<◌, max, min, length, Bool, true, false, not, ◌&&◌, if◌then◌else◌, List, [], ◌∷◌, ◌++◌, map, Option, Some, None, nat_eq}
use Rattle.xq_base.specs.declared.item.TextId.{TextId}
use Rattle.xq_base.specs.declared.axis.Axis.{Axis}
use Rattle.xq_base.specs.declared.axis.NodeTest.{NodeTest}
use Rattle.doc_table.specs.Tree.{Tree}
use Rattle.doc_table.specs.Axes.{id_eq, on_axis, test_of, steps_to}
use Rattle.doc_table.specs.Places.{Place, names_node, node_at, path_at, row_path}
use Rattle.doc_table.specs.Paths.{Path}
use Rattle.doc_table.specs.Touched.{Counts, adds_owner, touched_rows}
use Rattle.doc_table.specs.Enc.{enc}
use Rattle.doc_table.specs.Attributes.{attributes_apart}
use Rattle.xq_base.specs.declared.axis.Axis.TheVariants as a
use Rattle.staircase.specs.declared.hits.Hit.{Hit}
use Rattle.staircase.specs.declared.seen.Seen.{Seen}
use Rattle.staircase.specs.Seen.{seen_of}
use Rattle.staircase.specs.declared.kinds.Ctx.{Ctx}
use Rattle.staircase.specs.declared.kinds.Tally.{Tally}
use Rattle.staircase.specs.Hits.{Ascending, AppendsHits}
use Rattle.staircase.specs.Made.{iter_for}
use Rattle.staircase.specs.Parts.{In}
use Rattle.staircase.specs.Tasks.{lets}

abbrev pub place_of : Ctx → Place
place_of c = record { pre = c.pre; attr = c.attr }

abbrev pub places : List Ctx → List Place
places cs = map place_of cs

-- each entry names a node of the tree
abbrev pub AreNodes : Tree TextId → List Ctx → Type 0
AreNodes t cs = (c : Ctx) → In c cs → names_node t (place_of c) ≡ true

-- a step goes from a node of the context to this node, in its iteration
abbrev pub Reaches : Axis → NodeTest → Tree TextId → List Ctx → Ctx → Type 0
Reaches axis test t cs h = (c : Ctx) × In c cs × (c.iter ≡ h.iter) × (steps_to id_eq axis (test_of test) t (node_at t (place_of c)) (node_at t (place_of h)) ≡ true)

-- ascending, each once, and exactly the pairs of iteration and node that the step has
pub record AreHits (axis : Axis) (test : NodeTest) (t : Tree TextId) (cs hs : List Ctx) : Type 0 where
  pub ascending : Ascending hs
  pub nodes : (h : Ctx) → In h hs → names_node t (place_of h) ≡ true
  pub sound : (h : Ctx) → In h hs → Reaches axis test t cs h
  pub complete : (h : Ctx) → names_node t (place_of h) ≡ true → Reaches axis test t cs h → In h hs

-- these hits were appended
pub record Joins (axis : Axis) (test : NodeTest) (t : Tree TextId) (cs old new : List Ctx) : Type 0 where
  pub hits : List Ctx
  pub appended : new ≡ old ++ hits
  pub are_hits : AreHits axis test t cs hits

-- the counts, as a join gives them
abbrev pub tally_of : Counts → Tally
tally_of c = record { context = c.context; result = c.result; skipped = c.skipped; read = c.read }

-- a node is of those that are wanted: rows, or attributes
abbrev pub is_wanted : Bool → Bool → Ctx → Bool
is_wanted rows owners c = if nat_eq c.attr 0 then rows else owners

abbrev pub is_after : Option ℕ → ℕ → Bool
is_after None pre = true
is_after (Some last) pre = not (nat_eq last pre)

-- the rows of the wanted nodes, each once where they ascend
abbrev pub rows_from : Bool → Bool → Option ℕ → List Ctx → List ℕ
rows_from rows owners last [] = []
rows_from rows owners last (c ∷ cs) = (if is_wanted rows owners c && is_after last c.pre then c.pre ∷ [] else []) ++ rows_from rows owners (if is_wanted rows owners c then Some c.pre else last) cs

-- the rows of a context
abbrev pub own : Axis → List Ctx → List ℕ
own axis cs = rows_from true (adds_owner axis) None cs

-- the rows of the attributes of a context
abbrev pub owning : List Ctx → List ℕ
owning cs = rows_from false true None cs

-- the axes whose rows stand on chains; those of the others stand between two numbers
abbrev pub is_chained : Axis → Bool
is_chained a.Child = true
is_chained a.Parent = true
is_chained a.Ancestor = true
is_chained a.AncestorOrSelf = true
is_chained a.FollowingSibling = true
is_chained a.PrecedingSibling = true
is_chained a.SelfNode = false
is_chained a.Descendant = false
is_chained a.DescendantOrSelf = false
is_chained a.Following = false
is_chained a.Preceding = false
is_chained a.Attribute = false

-- the rows of the context and the rows that the step reads, as they were found
pub record Ready (axis : Axis) (test : NodeTest) (t : Tree TextId) (cs : List Ctx) (rows : List ℕ) (seen : List Seen) : Type 0 where
  pub few : length (enc t) < 2 ^ 32
  pub apart : attributes_apart t ≡ true
  pub ascending : Ascending cs
  pub nodes : AreNodes t cs
  pub rows_are : rows ≡ own axis cs
  pub seen_are : seen ≡ map (seen_of axis test t) (touched_rows axis t (places cs))

-- the path of a row, or of an attribute of it
abbrev pub path_with : Tree TextId → ℕ → ℕ → Path
path_with t c k = record { steps = path_at t c; attr = k }

-- the hit is a row on the axis of a node of the context, and is one of those that come in question
pub record Stands (axis : Axis) (test : NodeTest) (t : Tree TextId) (cs : List Ctx) (counting : Bool) (h : Hit) : Type 0 where
  pub ctx : Ctx
  pub there : In ctx cs
  pub row : ℕ
  pub within : row < length (enc t)
  pub lets_in : lets counting (seen_of axis test t row) ≡ true
  pub on : on_axis axis (path_with t ctx.pre ctx.attr) (row_path t row) ≡ true
  pub is : h ≡ record { pre = row; attr = 0; iter = iter_for counting ctx }

-- as many as the hits have, each once
pub record IsCount (hits : List Hit) (n : ℕ) : Type 0 where
  pub out : List Ctx
  pub appends : AppendsHits hits [] out
  pub count : n ≡ length out

abbrev pub row_hit : ℕ → Hit
row_hit v = record { pre = v; attr = 0; iter = 0 }

-- the number after that of the last row
abbrev pub end_of : List ℕ → ℕ
end_of [] = 0
end_of (x ∷ xs) = max (min (x + 1) 4294967295) (end_of xs)

-- the axes that touch the rows of the context alone
abbrev pub is_own : Axis → Bool
is_own a.SelfNode = true
is_own a.Attribute = true
is_own _ = false

-- the axes that touch the rows below those of the context
abbrev pub is_down : Axis → Bool
is_down a.Descendant = true
is_down a.DescendantOrSelf = true
is_down _ = false

-- the axes that touch the rows on the way to those of the context
abbrev pub is_near : Axis → Bool
is_near a.Parent = true
is_near a.Ancestor = true
is_near a.AncestorOrSelf = true
is_near a.PrecedingSibling = true
is_near a.FollowingSibling = true
is_near _ = false

-- the axis that touches the siblings after the rows of the context as well
abbrev pub adds_siblings : Axis → Bool
adds_siblings a.FollowingSibling = true
adds_siblings _ = false
