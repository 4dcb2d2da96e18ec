-- Items over a store and a pool (own rule).
use Rattle.std.specs.Prelude.{◌≡◌, true, List, [], ◌∷◌, length, map, Option, Some, None}
use Rattle.xq_base.specs.declared.item.TextId.{TextId}
use Rattle.xq_base.specs.declared.item.FragKey.{FragKey}
use Rattle.xq_base.specs.declared.item.NodeRef.{NodeRef}
use Rattle.xq_base.specs.declared.item.Item.{Item as Held}
use Rattle.xq_base.specs.declared.item.Item.TheVariants as i
use Rattle.xq_base.specs.Texts.{Text}
use Rattle.doc_table.specs.Tree.{Tree}
use Rattle.doc_table.specs.Places.{names_node}
use Rattle.doc_table.specs.Identity.{place_of}
use Rattle.doc_table.specs.Items.{Item, item_of}
use Rattle.doc_table.specs.Kept.{root_or}
use Rattle.doc_table.specs.Stores.{Holdings, tree_at}
use Rattle.doc_table.specs.Given.{is_given}

-- the trees under the keys of a store
abbrev pub trees_of : Holdings → FragKey → Tree TextId
trees_of h key = root_or (tree_at h key)

-- what items stand for
abbrev pub meanings : List Text → Holdings → List Held → List (Item Text)
meanings texts h items = map (item_of texts (trees_of h)) items

-- a reference to a node of a tree in the store
abbrev pub IsNodeOf : Holdings → NodeRef → Option (Tree TextId) → Type 0
IsNodeOf h r None = ⊥
IsNodeOf h r (Some t) = names_node t (place_of r) ≡ true

-- a node is one of the store, and the pool gave a text
abbrev pub ItemGiven : List Text → Holdings → Held → Type 0
ItemGiven texts h (i.Int n) = Unit {0}
ItemGiven texts h (i.Str id) = is_given (length texts) id ≡ true
ItemGiven texts h (i.Untyped id) = is_given (length texts) id ≡ true
ItemGiven texts h (i.Bool b) = Unit {0}
ItemGiven texts h (i.Node r) = IsNodeOf h r (tree_at h r.frag)

abbrev pub ItemsGiven : List Text → Holdings → List Held → Type 0
ItemsGiven texts h [] = Unit {0}
ItemsGiven texts h (x ∷ xs) = ItemGiven texts h x × ItemsGiven texts h xs
