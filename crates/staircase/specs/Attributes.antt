-- The attributes on an axis (XPath 2.0, section 3.2.1.1).
use Rattle.std.specs.Prelude.{ℕ, ◌+◌, Bool, true, false, if◌then◌else◌, List, [], ◌∷◌, ◌++◌, Option, Some, None, nat_eq}
use Rattle.doc_table.specs.Paths.{nth_pair}
use Rattle.xq_base.specs.declared.item.TextId.{TextId}
use Rattle.xq_base.specs.declared.axis.Axis.{Axis}
use Rattle.xq_base.specs.declared.axis.Axis.TheVariants as a
use Rattle.xq_base.specs.declared.axis.NodeTest.{NodeTest}
use Rattle.doc_table.specs.Tree.{Tree, AttributeNode}
use Rattle.doc_table.specs.Enc.{enc, line_in}
use Rattle.doc_table.specs.Axes.{id_eq, selects, test_of}
use Rattle.staircase.specs.declared.hits.Hit.{Hit}
use Rattle.staircase.specs.declared.kinds.Ctx.{Ctx}
use Rattle.staircase.specs.declared.seen.Seen.{Seen}
use Rattle.staircase.specs.Made.{row_found}

abbrev pub holds_self : Axis → Bool
holds_self a.SelfNode = true
holds_self a.DescendantOrSelf = true
holds_self a.AncestorOrSelf = true
holds_self _ = false

abbrev pub is_attribute_axis : Axis → Bool
is_attribute_axis a.Attribute = true
is_attribute_axis _ = false

-- an attribute of a node's row, where it passes the node_test
abbrev pub attribute_hit : Axis → NodeTest → Ctx → ℕ → TextId → List Hit
attribute_hit axis node_test c attr name = if selects id_eq axis (test_of node_test) AttributeNode (Some name) then record { pre = c.pre; attr = attr; iter = c.iter } ∷ [] else []

abbrev pub own_hit : Axis → NodeTest → Ctx → Option (TextId × TextId) → List Hit
own_hit axis node_test c None = []
own_hit axis node_test c (Some at) = attribute_hit axis node_test c c.attr at.0

-- all of them, the first one with this number
abbrev pub all_hits : Axis → NodeTest → Ctx → ℕ → List (TextId × TextId) → List Hit
all_hits axis node_test c k [] = []
all_hits axis node_test c k (at ∷ as') = attribute_hit axis node_test c k at.0 ++ all_hits axis node_test c (k + 1) as'

abbrev pub row_hits : Axis → NodeTest → Tree TextId → Ctx → Option Seen → List Hit
row_hits axis node_test t c None = []
row_hits axis node_test t c (Some own) = if own.element then all_hits axis node_test c 1 (line_in (enc t) c.pre).attributes else []

-- the attributes on the axis of a node
abbrev pub attribute_part : Axis → NodeTest → Tree TextId → List Seen → Ctx → List Hit
attribute_part axis node_test t seen c =
    if nat_eq c.attr 0
    then (if is_attribute_axis axis then row_hits axis node_test t c (row_found seen c.pre) else [])
    else (if holds_self axis then own_hit axis node_test c (nth_pair (line_in (enc t) c.pre).attributes c.attr) else [])

abbrev pub attribute_parts : Axis → NodeTest → Tree TextId → List Seen → List Ctx → List Hit
attribute_parts axis node_test t seen [] = []
attribute_parts axis node_test t seen (c ∷ cs) = attribute_part axis node_test t seen c ++ attribute_parts axis node_test t seen cs
