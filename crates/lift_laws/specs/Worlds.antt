-- Which iterations reach each site: this fixes the number that stands for a vector in a table, and the trees that constructors
-- make (own rule).
use Rattle.std.specs.Prelude.{◌≡◌, ◌⊎◌, ℕ, zero, suc, ◌<◌, true, cond, List, [], ◌∷◌, Option, Some, None, nat_eq}
use Rattle.std.specs.List.{filter}
use Rattle.xq_base.specs.Texts.{Text}
use Rattle.doc_table.specs.Tree.{Tree}
use Rattle.doc_table.specs.Paths.{is_same, is_less, has_node}
use Rattle.doc_table.specs.Identity.{TreeId, DocTree, BuiltTree}
use Rattle.doc_table.specs.Items.{Item, IntItem, TextItem, UntypedItem, BoolItem, NodeItem}
use Rattle.doc_table.specs.Nodes.{root_path}
use Rattle.doc_table.specs.Values.{Items}
use Rattle.doc_table.specs.NodeRules.{Docs}
use Rattle.plan_dag.specs.ItemRules.{Cell}
use Rattle.core_meaning.specs.Expr.{Site, Rule, Expr, Exprs, Spine, Lit, Empty, Var, Seq, Let, For, If, Sorted, Call, no_more, one_more, Leaf, ForBind, LetBind, WhereBind}
use Rattle.core_meaning.specs.Meaning.{val}
use Rattle.lift_laws.specs.Sums.{AllOf, Ascends}
use Rattle.lift_laws.specs.Iterations.{Iter}
use Rattle.lift_laws.specs.Bulk.{chosen, other, bound, inside}

-- a call, and all iterations that reach it
pub record Reach : Type 0 where
  pub site : Site
  pub rule : Rule
  pub parts : Exprs
  pub its : List Iter

-- what reaches each site, by its number
abbrev pub World : Type 0
World = ℕ → Reach

abbrev pub number_in : List Iter → List ℕ → ℕ
number_in [] v = 0
number_in (i ∷ its) v = cond (is_same i.vector v) i.number (number_in its v)

-- in a table the number of the iteration stands for the vector
abbrev pub id_in : World → TreeId → TreeId
id_in W (DocTree d) = DocTree d
id_in W (BuiltTree s v) = BuiltTree s (number_in (W s).its v ∷ [])

-- the cell that stands for an item
abbrev pub cell_of : World → Item Text → Cell
cell_of W (IntItem z) = IntItem z
cell_of W (TextItem t) = TextItem t
cell_of W (UntypedItem t) = UntypedItem t
cell_of W (BoolItem b) = BoolItem b
cell_of W (NodeItem n) = NodeItem (record { id = id_in W n.id; tree = n.tree; path = n.path })

-- the numbers and the vectors ascend together
abbrev pub InStep : List Iter → Type 0
InStep [] = Unit {0}
InStep (i ∷ its) = AllOf (λ j. (i.number < j.number) × (is_less i.vector j.vector ≡ true)) its × InStep its

abbrev pub Faithful : World → Type 0
Faithful W = (s : ℕ) → InStep (W s).its × Ascends (λ i. i.number) 0 (W s).its

abbrev pub Among : Iter → List Iter → Type 0
Among i [] = ⊥
Among i (j ∷ js) = (i ≡ j) ⊎ Among i js

-- the tree of a document
abbrev pub doc_tree : Docs → ℕ → Option (Tree Text)
doc_tree [] n = None
doc_tree (d ∷ docs) zero = Some d.1
doc_tree (d ∷ docs) (suc n) = doc_tree docs n

module _ (docs : Docs) where
  -- the call of this site makes this tree at this vector
  pub record Comes (W : World) (s : ℕ) (v : List ℕ) (tree : Tree Text) : Type 0 where
    pub from : Iter
    pub among : Among from (W s).its
    pub vector_is : from.vector ≡ v
    pub made_is : val docs (Call (W s).site (W s).rule (W s).parts) from.env from.vector ≡ Some (NodeItem (record { id = BuiltTree s v; tree = tree; path = root_path }) ∷ [])

  -- a tree's identity is of this world
  abbrev pub KnownTree : World → TreeId → Tree Text → Type 0
  KnownTree W (DocTree d) tree = doc_tree docs d ≡ Some tree
  KnownTree W (BuiltTree s v) tree = Comes W s v tree

  -- an item's nodes are of this world, and stand in their trees
  abbrev pub Known : World → Item Text → Type 0
  Known W (NodeItem n) = KnownTree W n.id n.tree × (has_node n.tree n.path ≡ true)
  Known W _ = Unit {0}

  abbrev pub one_tree : Option Items → Option (Tree Text)
  one_tree (Some (NodeItem n ∷ [])) = Some n.tree
  one_tree _ = None

  abbrev pub tree_at : Reach → ℕ → List Iter → Option (Tree Text)
  tree_at r k [] = None
  tree_at r k (i ∷ its) = cond (nat_eq i.number k) (one_tree (val docs (Call r.site r.rule r.parts) i.env i.vector)) (tree_at r k its)

  -- the tree under a cell's identity: a document's, or the one that the call of the site makes in the iteration of this number
  abbrev pub tree_under : World → TreeId → Option (Tree Text)
  tree_under W (DocTree d) = doc_tree docs d
  tree_under W (BuiltTree s (k ∷ [])) = tree_at (W s) k (W s).its
  tree_under W (BuiltTree s _) = None

  -- each call is reached in exactly these iterations
  abbrev mutual
    pub Numbers : World → Expr → List Iter → Type 0
    Numbers W (Lit a) its = AllOf (λ (i : Iter). Known W a) its
    Numbers W Empty its = Unit {0}
    Numbers W (Var x) its = Unit {0}
    Numbers W (Seq a b) its = Numbers W a its × Numbers W b its
    Numbers W (Let x b e) its = Numbers W b its × Numbers W e (bound docs x b its)
    Numbers W (For x p s e) its = Numbers W s its × Numbers W e (inside docs x p s its)
    Numbers W (If c a b) its = Numbers W c its × Numbers W a (filter (chosen docs c) its) × Numbers W b (filter (other docs c) its)
    Numbers W (Sorted site os sp) its = NumbersIn W sp its
    Numbers W (Call site r es) its = NumbersAll W es its × (W site.number ≡ record { site = site; rule = r; parts = es; its = its })

    pub NumbersAll : World → Exprs → List Iter → Type 0
    NumbersAll W no_more its = Unit {0}
    NumbersAll W (one_more e es) its = Numbers W e its × NumbersAll W es its

    pub NumbersIn : World → Spine → List Iter → Type 0
    NumbersIn W (Leaf ks e) its = NumbersAll W ks its × Numbers W e its
    NumbersIn W (ForBind x p s sp) its = Numbers W s its × NumbersIn W sp (inside docs x p s its)
    NumbersIn W (LetBind x b sp) its = Numbers W b its × NumbersIn W sp (bound docs x b its)
    NumbersIn W (WhereBind c sp) its = Numbers W c its × NumbersIn W sp (filter (chosen docs c) its)
