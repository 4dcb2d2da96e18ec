-- How axes are spelled (XPath 2.0, section 3.2.1.1).
use Rattle.std.specs.Prelude.{ℕ, ◌≡◌, ◌≢◌, List, [], ◌∷◌, map, codes}
use Rattle.xq_base.specs.declared.axis.Axis.{Axis}
use Rattle.xq_base.specs.declared.axis.Axis.TheVariants as a

-- the name of an axis
abbrev pub name_of : Axis → List ℕ
name_of a.SelfNode = codes "self"
name_of a.Child = codes "child"
name_of a.Descendant = codes "descendant"
name_of a.DescendantOrSelf = codes "descendant-or-self"
name_of a.Attribute = codes "attribute"
name_of a.Parent = codes "parent"
name_of a.Ancestor = codes "ancestor"
name_of a.AncestorOrSelf = codes "ancestor-or-self"
name_of a.PrecedingSibling = codes "preceding-sibling"
name_of a.FollowingSibling = codes "following-sibling"
name_of a.Preceding = codes "preceding"
name_of a.Following = codes "following"

-- none of these axes has this name
abbrev pub AreOthers : List Axis → List ℕ → Type 0
AreOthers [] word = Unit {0}
AreOthers (axis ∷ axes) word = (name_of axis ≢ word) × AreOthers axes word

-- the twelve axes, in the order in which steps are taken
abbrev pub twelve : List Axis
twelve =
    a.SelfNode ∷ a.Child ∷ a.Descendant ∷ a.DescendantOrSelf ∷ a.Attribute ∷ a.Parent ∷ a.Ancestor ∷ a.AncestorOrSelf
    ∷ a.PrecedingSibling ∷ a.FollowingSibling ∷ a.Preceding ∷ a.Following ∷ []

-- the axes that words name: each by its name, in their order, or all twelve, where there is no word
abbrev pub AreChosen : List (List ℕ) → List Axis → Type 0
AreChosen [] axes = axes ≡ twelve
AreChosen (word ∷ words) axes = map name_of axes ≡ word ∷ words
