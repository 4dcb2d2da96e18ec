-- Worked examples: paths, predicates and documents.
use Rattle.std.proofs.Common.{◌≡◌, [], ◌∷◌, pos, codes, true, false, Some, refl}
use Rattle.xq_base.specs.declared.code.Code.TheVariants as c
use Rattle.xq_base.specs.declared.fun.Fun.TheVariants as f
use Rattle.xq_base.specs.declared.axis.Axis.TheVariants as axis
use Rattle.xq_base.specs.Atoms.{IntAtom, TextAtom}
use Rattle.doc_table.specs.Axes.{AnyNode, Named, Principal, IsText}
use Rattle.doc_table.specs.Items.{IntItem, TextItem, BoolItem}
use Rattle.core_meaning.specs.declared.node.StepFrom.TheVariants as from
use Rattle.core_meaning.specs.PlainCore.{PlainCore}
use Rattle.core_meaning.specs.PlainCore as t
use Rattle.core_meaning.specs.ExprOf.{expr_of, site_at}
use Rattle.core_meaning.specs.Meaning.{no_variables, val}
use Rattle.core_meaning.specs.Failures.{failure, fails, first}
use Rattle.core_meaning.specs.Contexts.{context}
use Rattle.doc_table.specs.Steps.{items_at}
use Rattle.core_meaning.proofs.Terms.{a_tree, a_docs, n_tree, n_docs, node_of, one_integer}

-- doc("a.xml")//b/text()
texts_below : PlainCore
texts_below = t.Step 17 from.Path axis.Child IsText (t.Step 15 from.Path axis.Child (Named (codes "b")) (t.Step 12 from.Path axis.DescendantOrSelf AnyNode (t.Call 0 f.Doc (t.one_core (t.Lit 4 (TextAtom (codes "a.xml"))) t.no_cores))))

texts_below_value : val a_docs (expr_of texts_below) no_variables [] ≡ Some ((node_of a_tree (1 ∷ 1 ∷ 1 ∷ []) 0) ∷ (node_of a_tree (1 ∷ 4 ∷ 1 ∷ []) 0) ∷ [])
unfolding texts_below
texts_below_value = refl

-- doc("n.xml")//x/descendant::y: one y below two x
nested_context : PlainCore
nested_context = t.Step 16 from.Path axis.Descendant (Named (codes "y")) (t.Step 14 from.Path axis.Child (Named (codes "x")) (t.Step 12 from.Path axis.DescendantOrSelf AnyNode (t.Call 0 f.Doc (t.one_core (t.Lit 4 (TextAtom (codes "n.xml"))) t.no_cores))))

nested_context_value : val n_docs (expr_of nested_context) no_variables [] ≡ Some ((node_of n_tree (1 ∷ 1 ∷ 1 ∷ 1 ∷ []) 0) ∷ [])
unfolding nested_context
nested_context_value = refl

-- count(doc("a.xml")/a/@x/following::node()): what follows an attribute
count_following : PlainCore
count_following = t.Call 0 f.Count (t.one_core (t.Step 24 from.Path axis.Following AnyNode (t.Step 21 from.Path axis.Attribute (Named (codes "x")) (t.Step 19 from.Path axis.Child (Named (codes "a")) (t.Call 6 f.Doc (t.one_core (t.Lit 10 (TextAtom (codes "a.xml"))) t.no_cores))))) t.no_cores)

count_following_value : val a_docs (expr_of count_following) no_variables [] ≡ Some ((IntItem (pos 6)) ∷ [])
unfolding count_following
count_following_value = refl

-- doc("a.xml")//b = 3
some_pair : PlainCore
some_pair = t.Call 0 f.GeneralEq (t.one_core (t.Step 15 from.Path axis.Child (Named (codes "b")) (t.Step 12 from.Path axis.DescendantOrSelf AnyNode (t.Call 0 f.Doc (t.one_core (t.Lit 4 (TextAtom (codes "a.xml"))) t.no_cores)))) (t.one_core (t.Lit 18 (IntAtom (pos 3))) t.no_cores))

some_pair_value : val a_docs (expr_of some_pair) no_variables [] ≡ Some ((BoolItem true) ∷ [])
unfolding some_pair
some_pair_value = refl

-- doc("a.xml")/a/text() = 3
no_number : PlainCore
no_number = t.Call 0 f.GeneralEq (t.one_core (t.Step 15 from.Path axis.Child IsText (t.Step 13 from.Path axis.Child (Named (codes "a")) (t.Call 0 f.Doc (t.one_core (t.Lit 4 (TextAtom (codes "a.xml"))) t.no_cores)))) (t.one_core (t.Lit 24 (IntAtom (pos 3))) t.no_cores))

no_number_failure : first (fails a_docs (expr_of no_number) no_variables []) ≡ Some (failure (site_at 5 0) [] c.FORG0001)
unfolding no_number
no_number_failure = refl

-- doc("a.xml")/a/@x
an_attribute : PlainCore
an_attribute = t.Step 15 from.Path axis.Attribute (Named (codes "x")) (t.Step 13 from.Path axis.Child (Named (codes "a")) (t.Call 0 f.Doc (t.one_core (t.Lit 4 (TextAtom (codes "a.xml"))) t.no_cores)))

an_attribute_value : val a_docs (expr_of an_attribute) no_variables [] ≡ Some ((node_of a_tree (1 ∷ []) 1) ∷ [])
unfolding an_attribute
an_attribute_value = refl

-- for $b in doc("a.xml")//b order by $b descending return string($b)
sorted_by_value : PlainCore
sorted_by_value = t.Sorted 0 (t.one_bind (t.for_bind 1 2 (t.Step 24 from.Path axis.Child (Named (codes "b")) (t.Step 22 from.Path axis.DescendantOrSelf AnyNode (t.Call 10 f.Doc (t.one_core (t.Lit 14 (TextAtom (codes "a.xml"))) t.no_cores))))) t.no_binds) (t.one_key (t.key_by (t.Var 35 1) true false) t.no_keys) (t.Call 56 f.StringOf (t.one_core (t.Var 63 1) t.no_cores))

sorted_by_value_value : val a_docs (expr_of sorted_by_value) no_variables [] ≡ Some ((TextItem (codes "3")) ∷ (TextItem (codes "2")) ∷ [])
unfolding sorted_by_value
sorted_by_value_value = refl

-- doc("b.xml") with a.xml alone
no_document : PlainCore
no_document = t.Call 0 f.Doc (t.one_core (t.Lit 4 (TextAtom (codes "b.xml"))) t.no_cores)

no_document_failure : first (fails a_docs (expr_of no_document) no_variables []) ≡ Some (failure (site_at 1 0) [] c.FODC0002)
unfolding no_document
no_document_failure = refl

-- doc("a.xml")/a/*[2]
second_child : PlainCore
second_child = t.Call 15 f.PathOrder (t.one_core (t.For 15 101 102 (t.Step 13 from.Path axis.Child (Named (codes "a")) (t.Call 0 f.Doc (t.one_core (t.Lit 4 (TextAtom (codes "a.xml"))) t.no_cores))) (t.Let 15 103 (t.Step 15 from.Path axis.Child Principal (t.Var 15 101)) (t.Let 15 104 (t.Call 15 f.Count (t.one_core (t.Var 15 103) t.no_cores)) (t.For 15 105 106 (t.Var 15 103) (t.Let 15 107 (t.Lit 17 (IntAtom (pos 2))) (t.If 15 (t.If 15 (t.Instance 15 (t.Var 15 107) one_integer) (t.Call 15 f.Eq (t.one_core (t.Var 15 107) (t.one_core (t.Var 15 106) t.no_cores))) (t.Call 15 f.Boolean (t.one_core (t.Var 15 107) t.no_cores))) (t.Var 15 105) (t.Empty 15))))))) t.no_cores)

second_child_value : val a_docs (expr_of second_child) no_variables [] ≡ Some ((node_of a_tree (1 ∷ 2 ∷ []) 0) ∷ [])
unfolding second_child
second_child_value = refl

-- doc("a.xml")//b[2]/preceding-sibling::*[1]: on a reverse axis the nearest is the first
nearest_sibling : PlainCore
nearest_sibling = t.Call 19 f.PathOrder (t.one_core (t.For 19 115 116 (t.Call 14 f.PathOrder (t.one_core (t.For 14 108 109 (t.Step 12 from.Path axis.DescendantOrSelf AnyNode (t.Call 0 f.Doc (t.one_core (t.Lit 4 (TextAtom (codes "a.xml"))) t.no_cores))) (t.Let 14 110 (t.Step 14 from.Path axis.Child (Named (codes "b")) (t.Var 14 108)) (t.Let 14 111 (t.Call 14 f.Count (t.one_core (t.Var 14 110) t.no_cores)) (t.For 14 112 113 (t.Var 14 110) (t.Let 14 114 (t.Lit 16 (IntAtom (pos 2))) (t.If 14 (t.If 14 (t.Instance 14 (t.Var 14 114) one_integer) (t.Call 14 f.Eq (t.one_core (t.Var 14 114) (t.one_core (t.Var 14 113) t.no_cores))) (t.Call 14 f.Boolean (t.one_core (t.Var 14 114) t.no_cores))) (t.Var 14 112) (t.Empty 14))))))) t.no_cores)) (t.Let 19 117 (t.Call 19 f.Reverse (t.one_core (t.Step 19 from.Path axis.PrecedingSibling Principal (t.Var 19 115)) t.no_cores)) (t.Let 19 118 (t.Call 19 f.Count (t.one_core (t.Var 19 117) t.no_cores)) (t.For 19 119 120 (t.Var 19 117) (t.Let 19 121 (t.Lit 40 (IntAtom (pos 1))) (t.If 19 (t.If 19 (t.Instance 19 (t.Var 19 121) one_integer) (t.Call 19 f.Eq (t.one_core (t.Var 19 121) (t.one_core (t.Var 19 120) t.no_cores))) (t.Call 19 f.Boolean (t.one_core (t.Var 19 121) t.no_cores))) (t.Var 19 119) (t.Empty 19))))))) t.no_cores)

nearest_sibling_value : val a_docs (expr_of nearest_sibling) no_variables [] ≡ Some ((node_of a_tree (1 ∷ 2 ∷ []) 0) ∷ [])
unfolding nearest_sibling
nearest_sibling_value = refl

-- (doc("a.xml")//b[2]/preceding-sibling::*)[1]: in parentheses the order is document order
first_in_order : PlainCore
first_in_order = t.Let 0 122 (t.Step 20 from.Path axis.PrecedingSibling Principal (t.Call 14 f.PathOrder (t.one_core (t.For 14 108 109 (t.Step 12 from.Path axis.DescendantOrSelf AnyNode (t.Call 0 f.Doc (t.one_core (t.Lit 4 (TextAtom (codes "a.xml"))) t.no_cores))) (t.Let 14 110 (t.Step 14 from.Path axis.Child (Named (codes "b")) (t.Var 14 108)) (t.Let 14 111 (t.Call 14 f.Count (t.one_core (t.Var 14 110) t.no_cores)) (t.For 14 112 113 (t.Var 14 110) (t.Let 14 114 (t.Lit 16 (IntAtom (pos 2))) (t.If 14 (t.If 14 (t.Instance 14 (t.Var 14 114) one_integer) (t.Call 14 f.Eq (t.one_core (t.Var 14 114) (t.one_core (t.Var 14 113) t.no_cores))) (t.Call 14 f.Boolean (t.one_core (t.Var 14 114) t.no_cores))) (t.Var 14 112) (t.Empty 14))))))) t.no_cores))) (t.Let 0 123 (t.Call 0 f.Count (t.one_core (t.Var 0 122) t.no_cores)) (t.For 0 124 125 (t.Var 0 122) (t.Let 0 126 (t.Lit 42 (IntAtom (pos 1))) (t.If 0 (t.If 0 (t.Instance 0 (t.Var 0 126) one_integer) (t.Call 0 f.Eq (t.one_core (t.Var 0 126) (t.one_core (t.Var 0 125) t.no_cores))) (t.Call 0 f.Boolean (t.one_core (t.Var 0 126) t.no_cores))) (t.Var 0 124) (t.Empty 0)))))

first_in_order_value : val a_docs (expr_of first_in_order) no_variables [] ≡ Some ((node_of a_tree (1 ∷ 1 ∷ []) 0) ∷ [])
unfolding first_in_order
first_in_order_value = refl

-- the contexts of the three steps of the y below two x: the document, all its nodes, both x
nested_contexts : items_at (context n_docs 2 (expr_of nested_context)) ≡ node_of n_tree [] 0 ∷ []
unfolding nested_context
nested_contexts = refl

nested_contexts_of_all : items_at (context n_docs 3 (expr_of nested_context)) ≡ node_of n_tree [] 0 ∷ node_of n_tree (1 ∷ []) 0 ∷ node_of n_tree (1 ∷ 1 ∷ []) 0 ∷ node_of n_tree (1 ∷ 1 ∷ 1 ∷ []) 0 ∷ node_of n_tree (1 ∷ 1 ∷ 1 ∷ 1 ∷ []) 0 ∷ []
unfolding nested_context
nested_contexts_of_all = refl

nested_contexts_of_both : items_at (context n_docs 4 (expr_of nested_context)) ≡ node_of n_tree (1 ∷ 1 ∷ []) 0 ∷ node_of n_tree (1 ∷ 1 ∷ 1 ∷ []) 0 ∷ []
unfolding nested_context
nested_contexts_of_both = refl
