-- Functions of nodes: which they are, and their values (XQuery 1.0, section 3.5.3; Functions and Operators, sections 14 and 15.5).
use Rattle.std.specs.Prelude.{Bool, true, false, []}
use Rattle.xq_base.specs.declared.fun.Fun.{Fun}
use Rattle.xq_base.specs.declared.fun.Fun.TheVariants as f
use Rattle.xq_base.specs.declared.item.NodeRef.{NodeRef}
use Rattle.xq_base.specs.Texts.{Text}
use Rattle.xq_base.specs.Words.{local_part}
use Rattle.doc_table.specs.Identity.{Node, node_eq, node_less, ref_eq, ref_less}

-- functions of one item that is not atomised, or of the text of one and the documents
abbrev pub is_of_node : Fun → Bool
is_of_node f.Root = true
is_of_node f.Name = true
is_of_node f.LocalName = true
is_of_node f.Doc = true
is_of_node (f.IsKind kind) = true
is_of_node _ = false

abbrev pub is_naming : Fun → Bool
is_naming f.Name = true
is_naming f.LocalName = true
is_naming _ = false

abbrev pub name_for : Fun → Text → Text
name_for f.Name t = t
name_for f.LocalName t = local_part t
name_for _ t = []

abbrev pub is_node_comparison : Fun → Bool
is_node_comparison f.Is = true
is_node_comparison f.Before = true
is_node_comparison f.After = true
is_node_comparison _ = false

-- how two nodes stand, and two references
abbrev pub nodes_stand : Fun → Node Text → Node Text → Bool
nodes_stand f.Is m n = node_eq m n
nodes_stand f.Before m n = node_less m n
nodes_stand f.After m n = node_less n m
nodes_stand _ m n = false

abbrev pub refs_stand : Fun → NodeRef → NodeRef → Bool
refs_stand f.Is r s = ref_eq r s
refs_stand f.Before r s = ref_less r s
refs_stand f.After r s = ref_less s r
refs_stand _ r s = false
