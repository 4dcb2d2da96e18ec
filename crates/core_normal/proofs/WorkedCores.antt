-- Worked examples: the Cores of queries, one query a row. Each was found a second time by a program that follows the same
-- rules apart from these definitions.
use Rattle.std.proofs.Common.{◌≡◌, refl, true, false, Some, None, [], ◌∷◌, codes, pos}
use Rattle.xq_base.specs.declared.axis.Axis.TheVariants as axis
use Rattle.xq_base.specs.declared.code.Code.TheVariants as code
use Rattle.xq_base.specs.declared.fun.AtomKind.TheVariants as kind
use Rattle.xq_base.specs.declared.fun.Fun.TheVariants as fun
use Rattle.xq_base.specs.Atoms.{IntAtom, TextAtom, BoolAtom}
use Rattle.doc_table.specs.Tree.{ElementNode, AttributeNode, TextNode, CommentNode, InstructionNode, DocumentNode}
use Rattle.doc_table.specs.Axes.{AnyNode, Named, IsText, IsDocumentNode, IsElement}
use Rattle.core_meaning.specs.declared.node.Occurs.TheVariants as occurs
use Rattle.core_meaning.specs.declared.node.StepFrom.TheVariants as start
use Rattle.core_meaning.specs.Types.{AnyItem, AtomOf, NodeOf, NoItems, ItemsOf}
use Rattle.core_meaning.specs.PlainCore as c
use Rattle.xq_ast.specs.declared.leaf.BuildKind.TheVariants as build
use Rattle.xq_ast.specs.declared.leaf.ContentRun.TheVariants as content
use Rattle.xq_ast.specs.declared.leaf.KindTest.TheVariants as node_kind
use Rattle.xq_ast.specs.declared.leaf.Occurs.TheVariants as read_occurs
use Rattle.xq_ast.specs.declared.leaf.Operator.TheVariants as op
use Rattle.xq_ast.specs.declared.leaf.Quantifier.TheVariants as quantifier
use Rattle.xq_ast.specs.declared.leaf.ReadItem.TheVariants as i
use Rattle.xq_ast.specs.declared.leaf.ReadType.TheVariants as t
use Rattle.xq_ast.specs.declared.leaf.Sign.TheVariants as sign
use Rattle.xq_ast.specs.declared.leaf.ValueRun.TheVariants as value
use Rattle.core_scope.specs.Syn as s
use Rattle.core_scope.specs.Resolving.{resolve}
use Rattle.core_scope.specs.Prolog.{resolved_query}
use Rattle.core_normal.specs.Around.{found, known, focused}
use Rattle.core_normal.specs.Pieces.{counted, dot_at, place_at, last_at, selected}
use Rattle.core_normal.specs.Normal.{norm, bound, with_place}
use Rattle.core_normal.specs.Query.{core_of_query}

-- 1+2
a_sum : core_of_query (resolved_query (record { version = None; setters = []; declarations = []; body = (s.binary 0 op.Add (s.integer 0 (codes "1")) (s.integer 2 (codes "2"))) })) ≡ (c.Call 0 fun.Add (c.one_core (c.Lit 0 (IntAtom (pos 1))) (c.one_core (c.Lit 2 (IntAtom (pos 2))) c.no_cores)))
unfolding resolve norm found known focused with_place bound counted dot_at place_at last_at selected
a_sum = refl

-- for $x in (1,2), $y in (10,20) return $x+$y
two_loops : core_of_query (resolved_query (record { version = None; setters = []; declarations = []; body = (s.flwor 0 (s.for_bind 4 (codes "x") None None (s.paren 10 (s.present (s.comma 11 (s.integer 11 (codes "1")) (s.one_more (s.integer 13 (codes "2")) s.no_more)))) (s.for_bind 17 (codes "y") None None (s.paren 23 (s.present (s.comma 24 (s.integer 24 (codes "10")) (s.one_more (s.integer 27 (codes "20")) s.no_more)))) s.no_binds)) s.absent s.no_keys (s.binary 38 op.Add (s.var 38 (codes "x")) (s.var 41 (codes "y")))) })) ≡ (c.For 0 1 2 (c.Seq 11 (c.Lit 11 (IntAtom (pos 1))) (c.Lit 13 (IntAtom (pos 2)))) (c.For 0 3 4 (c.Seq 24 (c.Lit 24 (IntAtom (pos 10))) (c.Lit 27 (IntAtom (pos 20)))) (c.Call 38 fun.Add (c.one_core (c.Var 38 1) (c.one_core (c.Var 41 3) c.no_cores)))))
unfolding resolve norm found known focused with_place bound counted dot_at place_at last_at selected
two_loops = refl

-- doc("a.xml")//b/text()
below_and_text : core_of_query (resolved_query (record { version = None; setters = []; declarations = []; body = (s.step 16 axis.Child IsText (s.present (s.step 14 axis.Child (Named (codes "b")) (s.present (s.step 12 axis.DescendantOrSelf AnyNode (s.present (s.call 0 (codes "doc") (s.one_more (s.text 4 (codes "a.xml")) s.no_more))) s.no_more)) s.no_more)) s.no_more) })) ≡ (c.Step 16 start.Path axis.Child IsText (c.Step 14 start.Path axis.Child (Named (codes "b")) (c.Step 12 start.Path axis.DescendantOrSelf AnyNode (c.Call 0 fun.Doc (c.one_core (c.Lit 4 (TextAtom (codes "a.xml"))) c.no_cores)))))
unfolding resolve norm found known focused with_place bound counted dot_at place_at last_at selected
below_and_text = refl

-- for $x in (1,2) return (if ($x = 2) then () else 0, -$x)
a_condition : core_of_query (resolved_query (record { version = None; setters = []; declarations = []; body = (s.flwor 0 (s.for_bind 4 (codes "x") None None (s.paren 10 (s.present (s.comma 11 (s.integer 11 (codes "1")) (s.one_more (s.integer 13 (codes "2")) s.no_more)))) s.no_binds) s.absent s.no_keys (s.paren 23 (s.present (s.comma 24 (s.conditional 24 (s.binary 28 op.GeneralEq (s.var 28 (codes "x")) (s.integer 33 (codes "2"))) (s.paren 41 s.absent) (s.integer 49 (codes "0"))) (s.one_more (s.signed 52 sign.Minus (s.var 53 (codes "x"))) s.no_more))))) })) ≡ (c.For 0 1 2 (c.Seq 11 (c.Lit 11 (IntAtom (pos 1))) (c.Lit 13 (IntAtom (pos 2)))) (c.Seq 24 (c.If 24 (c.Call 28 fun.Boolean (c.one_core (c.Call 28 fun.GeneralEq (c.one_core (c.Var 28 1) (c.one_core (c.Lit 33 (IntAtom (pos 2))) c.no_cores))) c.no_cores)) (c.Empty 41) (c.Lit 49 (IntAtom (pos 0)))) (c.Call 52 fun.Negate (c.one_core (c.Var 53 1) c.no_cores))))
unfolding resolve norm found known focused with_place bound counted dot_at place_at last_at selected
a_condition = refl

-- for $b as node() at $i in doc("a.xml")//b[position() = 2][@x] let $c as xs:string? := string($b) where $b/c > 3 and $i lt 4 stable order by $b descending empty greatest, $c return (string-length(), $b/../c)
a_sorted_loop : core_of_query (resolved_query (record { version = None; setters = []; declarations = []; body = (s.flwor 0 (s.for_bind 4 (codes "b") (Some (t.Of 10 (i.Kind node_kind.Node) read_occurs.One)) (Some (20, (codes "i"))) (s.step 40 axis.Child (Named (codes "b")) (s.present (s.step 38 axis.DescendantOrSelf AnyNode (s.present (s.call 26 (codes "doc") (s.one_more (s.text 30 (codes "a.xml")) s.no_more))) s.no_more)) (s.one_more (s.binary 42 op.GeneralEq (s.call 42 (codes "position") s.no_more) (s.integer 55 (codes "2"))) (s.one_more (s.step 58 axis.Attribute (Named (codes "x")) s.absent s.no_more) s.no_more))) (s.let_bind 66 (codes "c") (Some (t.Of 72 (i.Named (record { offset = 72; text = (codes "xs:string") })) read_occurs.Optional)) (s.call 86 (codes "string") (s.one_more (s.var 93 (codes "b")) s.no_more)) s.no_binds)) (s.present (s.binary 103 op.And (s.binary 103 op.GeneralGt (s.step 106 axis.Child (Named (codes "c")) (s.present (s.var 103 (codes "b"))) s.no_more) (s.integer 110 (codes "3"))) (s.binary 116 op.Lt (s.var 116 (codes "i")) (s.integer 122 (codes "4"))))) (s.one_key (s.var 140 (codes "b")) true true (s.one_key (s.var 170 (codes "c")) false false s.no_keys)) (s.paren 180 (s.present (s.comma 181 (s.call 181 (codes "string-length") s.no_more) (s.one_more (s.step 204 axis.Child (Named (codes "c")) (s.present (s.step 201 axis.Parent AnyNode (s.present (s.var 198 (codes "b"))) s.no_more)) s.no_more) s.no_more))))) })) ≡ (c.Sorted 0 (c.one_bind (c.for_bind 13 14 (c.Call 40 fun.PathOrder (c.one_core (c.For 40 1 2 (c.Step 38 start.Path axis.DescendantOrSelf AnyNode (c.Call 26 fun.Doc (c.one_core (c.Lit 30 (TextAtom (codes "a.xml"))) c.no_cores))) (c.Let 40 8 (c.Let 40 3 (c.Step 40 start.Path axis.Child (Named (codes "b")) (c.Var 40 1)) (c.Let 40 4 (c.Call 40 fun.Count (c.one_core (c.Var 40 3) c.no_cores)) (c.For 40 5 6 (c.Var 40 3) (c.Let 40 7 (c.Call 42 fun.GeneralEq (c.one_core (c.Var 42 6) (c.one_core (c.Lit 55 (IntAtom (pos 2))) c.no_cores))) (c.If 40 (c.If 40 (c.Instance 40 (c.Var 40 7) (ItemsOf (AtomOf kind.Integer) occurs.One)) (c.Call 40 fun.Eq (c.one_core (c.Var 40 7) (c.one_core (c.Var 40 6) c.no_cores))) (c.Call 40 fun.Boolean (c.one_core (c.Var 40 7) c.no_cores))) (c.Var 40 5) (c.Empty 40)))))) (c.Let 40 9 (c.Call 40 fun.Count (c.one_core (c.Var 40 8) c.no_cores)) (c.For 40 10 11 (c.Var 40 8) (c.Let 40 12 (c.Step 58 start.Dot axis.Attribute (Named (codes "x")) (c.Var 58 10)) (c.If 40 (c.If 40 (c.Instance 40 (c.Var 40 12) (ItemsOf (AtomOf kind.Integer) occurs.One)) (c.Call 40 fun.Eq (c.one_core (c.Var 40 12) (c.one_core (c.Var 40 11) c.no_cores))) (c.Call 40 fun.Boolean (c.one_core (c.Var 40 12) c.no_cores))) (c.Var 40 10) (c.Empty 40))))))) c.no_cores))) (c.one_bind (c.let_bind 15 (c.If 40 (c.Instance 40 (c.Var 40 13) (ItemsOf (NodeOf AnyNode) occurs.One)) (c.Var 40 13) (c.Fail 40 code.XPTY0004))) (c.one_bind (c.let_bind 16 (c.Call 86 fun.StringOf (c.one_core (c.Var 93 15) c.no_cores))) (c.one_bind (c.let_bind 17 (c.If 86 (c.Instance 86 (c.Var 86 16) (ItemsOf (AtomOf kind.Text) occurs.Optional)) (c.Var 86 16) (c.Fail 86 code.XPTY0004))) (c.one_bind (c.where_bind (c.Call 103 fun.Boolean (c.one_core (c.Call 103 fun.And (c.one_core (c.Call 103 fun.Boolean (c.one_core (c.Call 103 fun.GeneralGt (c.one_core (c.Step 106 start.Path axis.Child (Named (codes "c")) (c.Var 103 15)) (c.one_core (c.Lit 110 (IntAtom (pos 3))) c.no_cores))) c.no_cores)) (c.one_core (c.Call 116 fun.Boolean (c.one_core (c.Call 116 fun.Lt (c.one_core (c.Var 116 14) (c.one_core (c.Lit 122 (IntAtom (pos 4))) c.no_cores))) c.no_cores)) c.no_cores))) c.no_cores))) c.no_binds))))) (c.one_key (c.key_by (c.Var 140 15) true true) (c.one_key (c.key_by (c.Var 170 17) false false) c.no_keys)) (c.Seq 181 (c.Call 181 fun.StringLength (c.one_core (c.Call 181 fun.StringOf (c.one_core (c.Fail 181 code.XPDY0002) c.no_cores)) c.no_cores)) (c.Step 204 start.Path axis.Child (Named (codes "c")) (c.Step 201 start.Path axis.Parent AnyNode (c.Var 198 15)))))
unfolding resolve norm found known focused with_place bound counted dot_at place_at last_at selected
a_sorted_loop = refl

-- some $x in (1,2), $y as xs:integer in $x satisfies every $z in ($x, $y) satisfies $z = 1
quantifiers : core_of_query (resolved_query (record { version = None; setters = []; declarations = []; body = (s.quantified 0 quantifier.Some (s.for_bind 5 (codes "x") None None (s.paren 11 (s.present (s.comma 12 (s.integer 12 (codes "1")) (s.one_more (s.integer 14 (codes "2")) s.no_more)))) (s.for_bind 18 (codes "y") (Some (t.Of 24 (i.Named (record { offset = 24; text = (codes "xs:integer") })) read_occurs.One)) None (s.var 38 (codes "x")) s.no_binds)) (s.quantified 51 quantifier.Every (s.for_bind 57 (codes "z") None None (s.paren 63 (s.present (s.comma 64 (s.var 64 (codes "x")) (s.one_more (s.var 68 (codes "y")) s.no_more)))) s.no_binds) (s.binary 82 op.GeneralEq (s.var 82 (codes "z")) (s.integer 87 (codes "1"))))) })) ≡ (c.Call 0 fun.Exists (c.one_core (c.For 0 1 2 (c.Seq 12 (c.Lit 12 (IntAtom (pos 1))) (c.Lit 14 (IntAtom (pos 2)))) (c.For 0 3 4 (c.Var 38 1) (c.Let 38 5 (c.If 38 (c.Instance 38 (c.Var 38 3) (ItemsOf (AtomOf kind.Integer) occurs.One)) (c.Var 38 3) (c.Fail 38 code.XPTY0004)) (c.If 0 (c.Call 51 fun.Boolean (c.one_core (c.Call 51 fun.Empty (c.one_core (c.For 51 6 7 (c.Seq 64 (c.Var 64 1) (c.Var 68 5)) (c.If 51 (c.Call 82 fun.Boolean (c.one_core (c.Call 82 fun.GeneralEq (c.one_core (c.Var 82 6) (c.one_core (c.Lit 87 (IntAtom (pos 1))) c.no_cores))) c.no_cores)) (c.Empty 51) (c.Lit 51 (BoolAtom true)))) c.no_cores)) c.no_cores)) (c.Lit 0 (BoolAtom true)) (c.Empty 0))))) c.no_cores))
unfolding resolve norm found known focused with_place bound counted dot_at place_at last_at selected
quantifiers = refl

-- declare variable $v := 1; declare function local:f($x as xs:integer, $y) as item()* { for $z in $x return ($z, $y, $v, .) }; declare variable $w as xs:integer+ := local:f($v, 2); declare function local:g() { local:f(local:f(1, $w), $w) }; local:g() + local:g()
functions_and_variables : core_of_query (resolved_query (record { version = None; setters = []; declarations = s.variable 0 17 (codes "v") None (s.integer 23 (codes "1")) ∷ s.function 26 43 (codes "local:f") (s.param 51 (codes "x") (Some (t.Of 57 (i.Named (record { offset = 57; text = (codes "xs:integer") })) read_occurs.One)) (s.param 69 (codes "y") None s.no_params)) (Some (t.Of 76 i.Any read_occurs.Many)) (s.flwor 86 (s.for_bind 90 (codes "z") None None (s.var 96 (codes "x")) s.no_binds) s.absent s.no_keys (s.paren 106 (s.present (s.comma 107 (s.var 107 (codes "z")) (s.one_more (s.var 111 (codes "y")) (s.one_more (s.var 115 (codes "v")) (s.one_more (s.dot 119) s.no_more))))))) ∷ s.variable 125 142 (codes "w") (Some (t.Of 148 (i.Named (record { offset = 148; text = (codes "xs:integer") })) read_occurs.AtLeastOne)) (s.call 163 (codes "local:f") (s.one_more (s.var 171 (codes "v")) (s.one_more (s.integer 175 (codes "2")) s.no_more))) ∷ s.function 179 196 (codes "local:g") s.no_params None (s.call 208 (codes "local:f") (s.one_more (s.call 216 (codes "local:f") (s.one_more (s.integer 224 (codes "1")) (s.one_more (s.var 227 (codes "w")) s.no_more))) (s.one_more (s.var 232 (codes "w")) s.no_more))) ∷ []; body = (s.binary 239 op.Add (s.call 239 (codes "local:g") s.no_more) (s.call 251 (codes "local:g") s.no_more)) })) ≡ (c.Let 17 1 (c.Lit 23 (IntAtom (pos 1))) (c.Let 142 3 (c.Let 163 5 (c.Convert 163 (c.Var 171 1) (ItemsOf (AtomOf kind.Integer) occurs.One)) (c.Let 163 6 (c.Lit 175 (IntAtom (pos 2))) (c.Convert 163 (c.For 86 7 8 (c.Var 96 5) (c.Seq 107 (c.Seq 107 (c.Seq 107 (c.Var 107 7) (c.Var 111 6)) (c.Var 115 1)) (c.Fail 119 code.XPDY0002))) (ItemsOf AnyItem occurs.Many)))) (c.Let 163 4 (c.If 163 (c.Instance 163 (c.Var 163 3) (ItemsOf (AtomOf kind.Integer) occurs.AtLeastOne)) (c.Var 163 3) (c.Fail 163 code.XPTY0004)) (c.Call 239 fun.Add (c.one_core (c.Let 208 13 (c.Convert 208 (c.Let 216 9 (c.Convert 216 (c.Lit 224 (IntAtom (pos 1))) (ItemsOf (AtomOf kind.Integer) occurs.One)) (c.Let 216 10 (c.Var 227 4) (c.Convert 216 (c.For 86 11 12 (c.Var 96 9) (c.Seq 107 (c.Seq 107 (c.Seq 107 (c.Var 107 11) (c.Var 111 10)) (c.Var 115 1)) (c.Fail 119 code.XPDY0002))) (ItemsOf AnyItem occurs.Many)))) (ItemsOf (AtomOf kind.Integer) occurs.One)) (c.Let 208 14 (c.Var 232 4) (c.Convert 208 (c.For 86 15 16 (c.Var 96 13) (c.Seq 107 (c.Seq 107 (c.Seq 107 (c.Var 107 15) (c.Var 111 14)) (c.Var 115 1)) (c.Fail 119 code.XPDY0002))) (ItemsOf AnyItem occurs.Many)))) (c.one_core (c.Let 208 21 (c.Convert 208 (c.Let 216 17 (c.Convert 216 (c.Lit 224 (IntAtom (pos 1))) (ItemsOf (AtomOf kind.Integer) occurs.One)) (c.Let 216 18 (c.Var 227 4) (c.Convert 216 (c.For 86 19 20 (c.Var 96 17) (c.Seq 107 (c.Seq 107 (c.Seq 107 (c.Var 107 19) (c.Var 111 18)) (c.Var 115 1)) (c.Fail 119 code.XPDY0002))) (ItemsOf AnyItem occurs.Many)))) (ItemsOf (AtomOf kind.Integer) occurs.One)) (c.Let 208 22 (c.Var 232 4) (c.Convert 208 (c.For 86 23 24 (c.Var 96 21) (c.Seq 107 (c.Seq 107 (c.Seq 107 (c.Var 107 23) (c.Var 111 22)) (c.Var 115 1)) (c.Fail 119 code.XPDY0002))) (ItemsOf AnyItem occurs.Many)))) c.no_cores))))))
unfolding resolve norm found known focused with_place bound counted dot_at place_at last_at selected
functions_and_variables = refl

-- <a x="1{2}{3}&amp;" y="" z="{1}">  {1} {2}<b>{()}</b> t &lt;{3}<!--c--><?p v?><![CDATA[ ]]> </a>
a_direct_element : core_of_query (resolved_query (record { version = None; setters = []; declarations = []; body = (s.element 0 (codes "a") (s.attribute 3 (codes "x") (s.value_run (value.Chars (codes "1")) (s.value_brace (s.integer 8 (codes "2")) (s.value_brace (s.integer 11 (codes "3")) (s.value_run (value.Reference (codes "&")) s.no_values)))) (s.attribute 20 (codes "y") s.no_values (s.attribute 25 (codes "z") (s.value_brace (s.integer 29 (codes "1")) s.no_values) s.no_attributes))) (s.run (content.Chars (codes "  ")) (s.brace (s.integer 36 (codes "1")) (s.run (content.Chars (codes " ")) (s.brace (s.integer 40 (codes "2")) (s.inner (s.element 42 (codes "b") s.no_attributes (s.brace (s.paren 46 s.absent) s.no_parts)) (s.run (content.Chars (codes " t ")) (s.run (content.Reference (codes "<")) (s.brace (s.integer 61 (codes "3")) (s.inner (s.comment 63 (codes "c")) (s.inner (s.instruction 71 (codes "p") (codes "v")) (s.run (content.Cdata (codes " ")) (s.run (content.Chars (codes " ")) s.no_parts))))))))))))) })) ≡ (c.Build 0 ElementNode (c.one_core (c.Lit 0 (TextAtom (codes "a"))) c.no_cores) (c.Seq 0 (c.Seq 0 (c.Seq 0 (c.Seq 0 (c.Seq 0 (c.Seq 0 (c.Seq 0 (c.Seq 0 (c.Seq 0 (c.Seq 0 (c.Seq 0 (c.Build 3 AttributeNode (c.one_core (c.Lit 3 (TextAtom (codes "x"))) c.no_cores) (c.Call 3 fun.Concat (c.one_core (c.Lit 3 (TextAtom (codes "1"))) (c.one_core (c.Call 3 fun.ContentText (c.one_core (c.Lit 8 (IntAtom (pos 2))) c.no_cores)) (c.one_core (c.Call 3 fun.ContentText (c.one_core (c.Lit 11 (IntAtom (pos 3))) c.no_cores)) (c.one_core (c.Lit 3 (TextAtom (codes "&"))) c.no_cores)))))) (c.Build 20 AttributeNode (c.one_core (c.Lit 20 (TextAtom (codes "y"))) c.no_cores) (c.Lit 20 (TextAtom [])))) (c.Build 25 AttributeNode (c.one_core (c.Lit 25 (TextAtom (codes "z"))) c.no_cores) (c.Call 25 fun.ContentText (c.one_core (c.Lit 29 (IntAtom (pos 1))) c.no_cores)))) (c.Lit 36 (IntAtom (pos 1)))) (c.Build 0 TextNode c.no_cores (c.Lit 0 (TextAtom [])))) (c.Lit 40 (IntAtom (pos 2)))) (c.Build 42 ElementNode (c.one_core (c.Lit 42 (TextAtom (codes "b"))) c.no_cores) (c.Empty 46))) (c.Build 0 TextNode c.no_cores (c.Lit 0 (TextAtom (codes " t <"))))) (c.Lit 61 (IntAtom (pos 3)))) (c.Build 63 CommentNode c.no_cores (c.Lit 63 (TextAtom (codes "c"))))) (c.Build 71 InstructionNode (c.one_core (c.Lit 71 (TextAtom (codes "p"))) c.no_cores) (c.Lit 71 (TextAtom (codes "v"))))) (c.Build 0 TextNode c.no_cores (c.Lit 0 (TextAtom (codes "  "))))))
unfolding resolve norm found known focused with_place bound counted dot_at place_at last_at selected
a_direct_element = refl

-- (1, <a/>)/ancestor::x[2]/(., last())[1]/element(q)
steps_and_contexts : core_of_query (resolved_query (record { version = None; setters = []; declarations = []; body = (s.step 40 axis.Child (IsElement (Some (codes "q"))) (s.present (s.through 25 (s.step 10 axis.Ancestor (Named (codes "x")) (s.present (s.paren 0 (s.present (s.comma 1 (s.integer 1 (codes "1")) (s.one_more (s.element 4 (codes "a") s.no_attributes s.no_parts) s.no_more))))) (s.one_more (s.integer 22 (codes "2")) s.no_more)) (s.filtered 25 (s.paren 25 (s.present (s.comma 26 (s.dot 26) (s.one_more (s.call 29 (codes "last") s.no_more) s.no_more)))) (s.one_more (s.integer 37 (codes "1")) s.no_more)))) s.no_more) })) ≡ (c.Step 40 start.Path axis.Child (IsElement (Some (codes "q"))) (c.Let 25 8 (c.Call 10 fun.PathOrder (c.one_core (c.For 10 1 2 (c.Seq 1 (c.Lit 1 (IntAtom (pos 1))) (c.Build 4 ElementNode (c.one_core (c.Lit 4 (TextAtom (codes "a"))) c.no_cores) (c.Empty 4))) (c.Let 10 3 (c.Call 10 fun.Reverse (c.one_core (c.Step 10 start.Path axis.Ancestor (Named (codes "x")) (c.Var 10 1)) c.no_cores)) (c.Let 10 4 (c.Call 10 fun.Count (c.one_core (c.Var 10 3) c.no_cores)) (c.For 10 5 6 (c.Var 10 3) (c.Let 10 7 (c.Lit 22 (IntAtom (pos 2))) (c.If 10 (c.If 10 (c.Instance 10 (c.Var 10 7) (ItemsOf (AtomOf kind.Integer) occurs.One)) (c.Call 10 fun.Eq (c.one_core (c.Var 10 7) (c.one_core (c.Var 10 6) c.no_cores))) (c.Call 10 fun.Boolean (c.one_core (c.Var 10 7) c.no_cores))) (c.Var 10 5) (c.Empty 10))))))) c.no_cores)) (c.Let 25 9 (c.Call 25 fun.Count (c.one_core (c.Var 25 8) c.no_cores)) (c.Call 25 fun.PathOrder (c.one_core (c.For 25 10 11 (c.Var 25 8) (c.If 25 (c.Instance 25 (c.Var 25 10) (ItemsOf (NodeOf AnyNode) occurs.One)) (c.Let 25 12 (c.Seq 26 (c.Var 26 10) (c.Var 29 9)) (c.Let 25 13 (c.Call 25 fun.Count (c.one_core (c.Var 25 12) c.no_cores)) (c.For 25 14 15 (c.Var 25 12) (c.Let 25 16 (c.Lit 37 (IntAtom (pos 1))) (c.If 25 (c.If 25 (c.Instance 25 (c.Var 25 16) (ItemsOf (AtomOf kind.Integer) occurs.One)) (c.Call 25 fun.Eq (c.one_core (c.Var 25 16) (c.one_core (c.Var 25 15) c.no_cores))) (c.Call 25 fun.Boolean (c.one_core (c.Var 25 16) c.no_cores))) (c.Var 25 14) (c.Empty 25)))))) (c.Fail 25 code.XPTY0019))) c.no_cores)))))
unfolding resolve norm found known focused with_place bound counted dot_at place_at last_at selected
steps_and_contexts = refl

-- /a[1] | //b | (1 to 3)[. mod 2 = 1][2]
roots_and_predicates : core_of_query (resolved_query (record { version = None; setters = []; declarations = []; body = (s.binary 0 op.Union (s.binary 0 op.Union (s.step 1 axis.Child (Named (codes "a")) (s.present (s.root 0)) (s.one_more (s.integer 3 (codes "1")) s.no_more)) (s.step 10 axis.Child (Named (codes "b")) (s.present (s.step 8 axis.DescendantOrSelf AnyNode (s.present (s.root 8)) s.no_more)) s.no_more)) (s.filtered 14 (s.paren 14 (s.present (s.binary 15 op.To (s.integer 15 (codes "1")) (s.integer 20 (codes "3"))))) (s.one_more (s.binary 23 op.GeneralEq (s.binary 23 op.Modulo (s.dot 23) (s.integer 29 (codes "2"))) (s.integer 33 (codes "1"))) (s.one_more (s.integer 36 (codes "2")) s.no_more)))) })) ≡ (c.Call 0 fun.Union (c.one_core (c.Call 0 fun.Union (c.one_core (c.Call 1 fun.PathOrder (c.one_core (c.For 1 1 2 (c.If 0 (c.Instance 0 (c.Fail 0 code.XPDY0002) (ItemsOf (NodeOf AnyNode) occurs.One)) (c.Treat 0 (c.Call 0 fun.Root (c.one_core (c.Fail 0 code.XPDY0002) c.no_cores)) (ItemsOf (NodeOf IsDocumentNode) occurs.One)) (c.Fail 0 code.XPTY0020)) (c.Let 1 3 (c.Step 1 start.Path axis.Child (Named (codes "a")) (c.Var 1 1)) (c.Let 1 4 (c.Call 1 fun.Count (c.one_core (c.Var 1 3) c.no_cores)) (c.For 1 5 6 (c.Var 1 3) (c.Let 1 7 (c.Lit 3 (IntAtom (pos 1))) (c.If 1 (c.If 1 (c.Instance 1 (c.Var 1 7) (ItemsOf (AtomOf kind.Integer) occurs.One)) (c.Call 1 fun.Eq (c.one_core (c.Var 1 7) (c.one_core (c.Var 1 6) c.no_cores))) (c.Call 1 fun.Boolean (c.one_core (c.Var 1 7) c.no_cores))) (c.Var 1 5) (c.Empty 1))))))) c.no_cores)) (c.one_core (c.Step 10 start.Path axis.Child (Named (codes "b")) (c.Step 8 start.Path axis.DescendantOrSelf AnyNode (c.If 8 (c.Instance 8 (c.Fail 8 code.XPDY0002) (ItemsOf (NodeOf AnyNode) occurs.One)) (c.Treat 8 (c.Call 8 fun.Root (c.one_core (c.Fail 8 code.XPDY0002) c.no_cores)) (ItemsOf (NodeOf IsDocumentNode) occurs.One)) (c.Fail 8 code.XPTY0020)))) c.no_cores))) (c.one_core (c.Let 14 13 (c.Let 14 8 (c.Call 15 fun.To (c.one_core (c.Lit 15 (IntAtom (pos 1))) (c.one_core (c.Lit 20 (IntAtom (pos 3))) c.no_cores))) (c.Let 14 9 (c.Call 14 fun.Count (c.one_core (c.Var 14 8) c.no_cores)) (c.For 14 10 11 (c.Var 14 8) (c.Let 14 12 (c.Call 23 fun.GeneralEq (c.one_core (c.Call 23 fun.Modulo (c.one_core (c.Var 23 10) (c.one_core (c.Lit 29 (IntAtom (pos 2))) c.no_cores))) (c.one_core (c.Lit 33 (IntAtom (pos 1))) c.no_cores))) (c.If 14 (c.If 14 (c.Instance 14 (c.Var 14 12) (ItemsOf (AtomOf kind.Integer) occurs.One)) (c.Call 14 fun.Eq (c.one_core (c.Var 14 12) (c.one_core (c.Var 14 11) c.no_cores))) (c.Call 14 fun.Boolean (c.one_core (c.Var 14 12) c.no_cores))) (c.Var 14 10) (c.Empty 14)))))) (c.Let 14 14 (c.Call 14 fun.Count (c.one_core (c.Var 14 13) c.no_cores)) (c.For 14 15 16 (c.Var 14 13) (c.Let 14 17 (c.Lit 36 (IntAtom (pos 2))) (c.If 14 (c.If 14 (c.Instance 14 (c.Var 14 17) (ItemsOf (AtomOf kind.Integer) occurs.One)) (c.Call 14 fun.Eq (c.one_core (c.Var 14 17) (c.one_core (c.Var 14 16) c.no_cores))) (c.Call 14 fun.Boolean (c.one_core (c.Var 14 17) c.no_cores))) (c.Var 14 15) (c.Empty 14)))))) c.no_cores)))
unfolding resolve norm found known focused with_place bound counted dot_at place_at last_at selected
roots_and_predicates = refl

-- element {"p"} {text {"u"}, comment {"v"}, processing-instruction w {"z"}, document {<q/>}, attribute k {}}
constructors : core_of_query (resolved_query (record { version = None; setters = []; declarations = []; body = (s.build 0 build.Element (s.computed (s.text 9 (codes "p"))) (s.present (s.comma 15 (s.build 15 build.Text s.no_name (s.present (s.text 21 (codes "u")))) (s.one_more (s.build 27 build.Comment s.no_name (s.present (s.text 36 (codes "v")))) (s.one_more (s.build 42 build.Pi (s.named (codes "w")) (s.present (s.text 68 (codes "z")))) (s.one_more (s.build 74 build.Document s.no_name (s.present (s.element 84 (codes "q") s.no_attributes s.no_parts))) (s.one_more (s.build 91 build.Attribute (s.named (codes "k")) s.absent) s.no_more))))))) })) ≡ (c.Build 0 ElementNode (c.one_core (c.Lit 9 (TextAtom (codes "p"))) c.no_cores) (c.Seq 15 (c.Seq 15 (c.Seq 15 (c.Seq 15 (c.Build 15 TextNode c.no_cores (c.Lit 21 (TextAtom (codes "u")))) (c.Build 27 CommentNode c.no_cores (c.Lit 36 (TextAtom (codes "v"))))) (c.Build 42 InstructionNode (c.one_core (c.Lit 42 (TextAtom (codes "w"))) c.no_cores) (c.Lit 68 (TextAtom (codes "z"))))) (c.Build 74 DocumentNode c.no_cores (c.Build 84 ElementNode (c.one_core (c.Lit 84 (TextAtom (codes "q"))) c.no_cores) (c.Empty 84)))) (c.Build 91 AttributeNode (c.one_core (c.Lit 91 (TextAtom (codes "k"))) c.no_cores) (c.Empty 91))))
unfolding resolve norm found known focused with_place bound counted dot_at place_at last_at selected
constructors = refl

-- "x" cast as xs:integer? treat as item()+ instance of empty-sequence(), xs:boolean("1") castable as xs:string, error(), name(), normalize-space("a"), ./preceding::node()[1]
types_and_calls : core_of_query (resolved_query (record { version = None; setters = []; declarations = []; body = (s.comma 0 (s.instance 0 (s.treat 0 (s.cast 0 (s.text 0 (codes "x")) (record { offset = 12; text = (codes "xs:integer") }) true) (t.Of 33 i.Any read_occurs.AtLeastOne)) (t.Empty 53)) (s.one_more (s.castable 71 (s.call 71 (codes "xs:boolean") (s.one_more (s.text 82 (codes "1")) s.no_more)) (record { offset = 99; text = (codes "xs:string") }) false) (s.one_more (s.call 110 (codes "error") s.no_more) (s.one_more (s.call 119 (codes "name") s.no_more) (s.one_more (s.call 127 (codes "normalize-space") (s.one_more (s.text 143 (codes "a")) s.no_more)) (s.one_more (s.step 151 axis.Preceding AnyNode (s.present (s.dot 149)) (s.one_more (s.integer 169 (codes "1")) s.no_more)) s.no_more)))))) })) ≡ (c.Seq 0 (c.Seq 0 (c.Seq 0 (c.Seq 0 (c.Seq 0 (c.Instance 0 (c.Treat 0 (c.Cast 0 (c.Lit 0 (TextAtom (codes "x"))) kind.Integer true) (ItemsOf AnyItem occurs.AtLeastOne)) NoItems) (c.Castable 71 (c.Cast 71 (c.Lit 82 (TextAtom (codes "1"))) kind.Boolean true) kind.Text false)) (c.Fail 110 code.FOER0000)) (c.Call 119 fun.Name (c.one_core (c.Fail 119 code.XPDY0002) c.no_cores))) (c.Call 127 fun.NormalizeSpace (c.one_core (c.Lit 143 (TextAtom (codes "a"))) c.no_cores))) (c.Call 151 fun.PathOrder (c.one_core (c.For 151 1 2 (c.Fail 149 code.XPDY0002) (c.Let 151 3 (c.Call 151 fun.Reverse (c.one_core (c.Step 151 start.Path axis.Preceding AnyNode (c.Var 151 1)) c.no_cores)) (c.Let 151 4 (c.Call 151 fun.Count (c.one_core (c.Var 151 3) c.no_cores)) (c.For 151 5 6 (c.Var 151 3) (c.Let 151 7 (c.Lit 169 (IntAtom (pos 1))) (c.If 151 (c.If 151 (c.Instance 151 (c.Var 151 7) (ItemsOf (AtomOf kind.Integer) occurs.One)) (c.Call 151 fun.Eq (c.one_core (c.Var 151 7) (c.one_core (c.Var 151 6) c.no_cores))) (c.Call 151 fun.Boolean (c.one_core (c.Var 151 7) c.no_cores))) (c.Var 151 5) (c.Empty 151))))))) c.no_cores)))
unfolding resolve norm found known focused with_place bound counted dot_at place_at last_at selected
types_and_calls = refl

-- declare function local:a($x) { $x[1] }; declare function local:b($x as xs:string*) as xs:integer { local:a($x) + local:a(local:a($x)) }; for $i in 1 order by local:b($i) return local:b("q")
functions_in_functions : core_of_query (resolved_query (record { version = None; setters = []; declarations = s.function 0 17 (codes "local:a") (s.param 25 (codes "x") None s.no_params) None (s.filtered 31 (s.var 31 (codes "x")) (s.one_more (s.integer 34 (codes "1")) s.no_more)) ∷ s.function 40 57 (codes "local:b") (s.param 65 (codes "x") (Some (t.Of 71 (i.Named (record { offset = 71; text = (codes "xs:string") })) read_occurs.Many)) s.no_params) (Some (t.Of 86 (i.Named (record { offset = 86; text = (codes "xs:integer") })) read_occurs.One)) (s.binary 99 op.Add (s.call 99 (codes "local:a") (s.one_more (s.var 107 (codes "x")) s.no_more)) (s.call 113 (codes "local:a") (s.one_more (s.call 121 (codes "local:a") (s.one_more (s.var 129 (codes "x")) s.no_more)) s.no_more))) ∷ []; body = (s.flwor 137 (s.for_bind 141 (codes "i") None None (s.integer 147 (codes "1")) s.no_binds) s.absent (s.one_key (s.call 158 (codes "local:b") (s.one_more (s.var 166 (codes "i")) s.no_more)) false false s.no_keys) (s.call 177 (codes "local:b") (s.one_more (s.text 185 (codes "q")) s.no_more))) })) ≡ (c.Sorted 137 (c.one_bind (c.for_bind 1 2 (c.Lit 147 (IntAtom (pos 1)))) c.no_binds) (c.one_key (c.key_by (c.Let 158 3 (c.Convert 158 (c.Var 166 1) (ItemsOf (AtomOf kind.Text) occurs.Many)) (c.Convert 158 (c.Call 99 fun.Add (c.one_core (c.Let 99 4 (c.Var 107 3) (c.Let 31 5 (c.Var 31 4) (c.Let 31 6 (c.Call 31 fun.Count (c.one_core (c.Var 31 5) c.no_cores)) (c.For 31 7 8 (c.Var 31 5) (c.Let 31 9 (c.Lit 34 (IntAtom (pos 1))) (c.If 31 (c.If 31 (c.Instance 31 (c.Var 31 9) (ItemsOf (AtomOf kind.Integer) occurs.One)) (c.Call 31 fun.Eq (c.one_core (c.Var 31 9) (c.one_core (c.Var 31 8) c.no_cores))) (c.Call 31 fun.Boolean (c.one_core (c.Var 31 9) c.no_cores))) (c.Var 31 7) (c.Empty 31))))))) (c.one_core (c.Let 113 16 (c.Let 121 10 (c.Var 129 3) (c.Let 31 11 (c.Var 31 10) (c.Let 31 12 (c.Call 31 fun.Count (c.one_core (c.Var 31 11) c.no_cores)) (c.For 31 13 14 (c.Var 31 11) (c.Let 31 15 (c.Lit 34 (IntAtom (pos 1))) (c.If 31 (c.If 31 (c.Instance 31 (c.Var 31 15) (ItemsOf (AtomOf kind.Integer) occurs.One)) (c.Call 31 fun.Eq (c.one_core (c.Var 31 15) (c.one_core (c.Var 31 14) c.no_cores))) (c.Call 31 fun.Boolean (c.one_core (c.Var 31 15) c.no_cores))) (c.Var 31 13) (c.Empty 31))))))) (c.Let 31 17 (c.Var 31 16) (c.Let 31 18 (c.Call 31 fun.Count (c.one_core (c.Var 31 17) c.no_cores)) (c.For 31 19 20 (c.Var 31 17) (c.Let 31 21 (c.Lit 34 (IntAtom (pos 1))) (c.If 31 (c.If 31 (c.Instance 31 (c.Var 31 21) (ItemsOf (AtomOf kind.Integer) occurs.One)) (c.Call 31 fun.Eq (c.one_core (c.Var 31 21) (c.one_core (c.Var 31 20) c.no_cores))) (c.Call 31 fun.Boolean (c.one_core (c.Var 31 21) c.no_cores))) (c.Var 31 19) (c.Empty 31))))))) c.no_cores))) (ItemsOf (AtomOf kind.Integer) occurs.One))) false false) c.no_keys) (c.Let 177 22 (c.Convert 177 (c.Lit 185 (TextAtom (codes "q"))) (ItemsOf (AtomOf kind.Text) occurs.Many)) (c.Convert 177 (c.Call 99 fun.Add (c.one_core (c.Let 99 23 (c.Var 107 22) (c.Let 31 24 (c.Var 31 23) (c.Let 31 25 (c.Call 31 fun.Count (c.one_core (c.Var 31 24) c.no_cores)) (c.For 31 26 27 (c.Var 31 24) (c.Let 31 28 (c.Lit 34 (IntAtom (pos 1))) (c.If 31 (c.If 31 (c.Instance 31 (c.Var 31 28) (ItemsOf (AtomOf kind.Integer) occurs.One)) (c.Call 31 fun.Eq (c.one_core (c.Var 31 28) (c.one_core (c.Var 31 27) c.no_cores))) (c.Call 31 fun.Boolean (c.one_core (c.Var 31 28) c.no_cores))) (c.Var 31 26) (c.Empty 31))))))) (c.one_core (c.Let 113 35 (c.Let 121 29 (c.Var 129 22) (c.Let 31 30 (c.Var 31 29) (c.Let 31 31 (c.Call 31 fun.Count (c.one_core (c.Var 31 30) c.no_cores)) (c.For 31 32 33 (c.Var 31 30) (c.Let 31 34 (c.Lit 34 (IntAtom (pos 1))) (c.If 31 (c.If 31 (c.Instance 31 (c.Var 31 34) (ItemsOf (AtomOf kind.Integer) occurs.One)) (c.Call 31 fun.Eq (c.one_core (c.Var 31 34) (c.one_core (c.Var 31 33) c.no_cores))) (c.Call 31 fun.Boolean (c.one_core (c.Var 31 34) c.no_cores))) (c.Var 31 32) (c.Empty 31))))))) (c.Let 31 36 (c.Var 31 35) (c.Let 31 37 (c.Call 31 fun.Count (c.one_core (c.Var 31 36) c.no_cores)) (c.For 31 38 39 (c.Var 31 36) (c.Let 31 40 (c.Lit 34 (IntAtom (pos 1))) (c.If 31 (c.If 31 (c.Instance 31 (c.Var 31 40) (ItemsOf (AtomOf kind.Integer) occurs.One)) (c.Call 31 fun.Eq (c.one_core (c.Var 31 40) (c.one_core (c.Var 31 39) c.no_cores))) (c.Call 31 fun.Boolean (c.one_core (c.Var 31 40) c.no_cores))) (c.Var 31 38) (c.Empty 31))))))) c.no_cores))) (ItemsOf (AtomOf kind.Integer) occurs.One))))
unfolding resolve norm found known focused with_place bound counted dot_at place_at last_at selected
functions_in_functions = refl

-- (1 and (2 or +3)) or 4 and 5, /a/normalize-space(), root(), (//a intersect //b) except /c, "x" lt "y", 1 << 2, string(), @k/local-name()
operators_and_contexts : core_of_query (resolved_query (record { version = None; setters = []; declarations = []; body = (s.comma 0 (s.binary 0 op.Or (s.paren 0 (s.present (s.binary 1 op.And (s.integer 1 (codes "1")) (s.paren 7 (s.present (s.binary 8 op.Or (s.integer 8 (codes "2")) (s.signed 13 sign.Plus (s.integer 14 (codes "3"))))))))) (s.binary 21 op.And (s.integer 21 (codes "4")) (s.integer 27 (codes "5")))) (s.one_more (s.through 33 (s.step 31 axis.Child (Named (codes "a")) (s.present (s.root 30)) s.no_more) (s.call 33 (codes "normalize-space") s.no_more)) (s.one_more (s.call 52 (codes "root") s.no_more) (s.one_more (s.binary 60 op.Except (s.paren 60 (s.present (s.binary 61 op.Intersect (s.step 63 axis.Child (Named (codes "a")) (s.present (s.step 61 axis.DescendantOrSelf AnyNode (s.present (s.root 61)) s.no_more)) s.no_more) (s.step 77 axis.Child (Named (codes "b")) (s.present (s.step 75 axis.DescendantOrSelf AnyNode (s.present (s.root 75)) s.no_more)) s.no_more)))) (s.step 88 axis.Child (Named (codes "c")) (s.present (s.root 87)) s.no_more)) (s.one_more (s.binary 91 op.Lt (s.text 91 (codes "x")) (s.text 98 (codes "y"))) (s.one_more (s.binary 103 op.Before (s.integer 103 (codes "1")) (s.integer 108 (codes "2"))) (s.one_more (s.call 111 (codes "string") s.no_more) (s.one_more (s.through 124 (s.step 121 axis.Attribute (Named (codes "k")) s.absent s.no_more) (s.call 124 (codes "local-name") s.no_more)) s.no_more)))))))) })) ≡ (c.Seq 0 (c.Seq 0 (c.Seq 0 (c.Seq 0 (c.Seq 0 (c.Seq 0 (c.Seq 0 (c.Call 0 fun.Or (c.one_core (c.Call 0 fun.Boolean (c.one_core (c.Call 1 fun.And (c.one_core (c.Call 1 fun.Boolean (c.one_core (c.Lit 1 (IntAtom (pos 1))) c.no_cores)) (c.one_core (c.Call 7 fun.Boolean (c.one_core (c.Call 8 fun.Or (c.one_core (c.Call 8 fun.Boolean (c.one_core (c.Lit 8 (IntAtom (pos 2))) c.no_cores)) (c.one_core (c.Call 13 fun.Boolean (c.one_core (c.Call 13 fun.Add (c.one_core (c.Lit 13 (IntAtom (pos 0))) (c.one_core (c.Lit 14 (IntAtom (pos 3))) c.no_cores))) c.no_cores)) c.no_cores))) c.no_cores)) c.no_cores))) c.no_cores)) (c.one_core (c.Call 21 fun.Boolean (c.one_core (c.Call 21 fun.And (c.one_core (c.Call 21 fun.Boolean (c.one_core (c.Lit 21 (IntAtom (pos 4))) c.no_cores)) (c.one_core (c.Call 27 fun.Boolean (c.one_core (c.Lit 27 (IntAtom (pos 5))) c.no_cores)) c.no_cores))) c.no_cores)) c.no_cores))) (c.Let 33 1 (c.Step 31 start.Path axis.Child (Named (codes "a")) (c.If 30 (c.Instance 30 (c.Fail 30 code.XPDY0002) (ItemsOf (NodeOf AnyNode) occurs.One)) (c.Treat 30 (c.Call 30 fun.Root (c.one_core (c.Fail 30 code.XPDY0002) c.no_cores)) (ItemsOf (NodeOf IsDocumentNode) occurs.One)) (c.Fail 30 code.XPTY0020))) (c.Let 33 2 (c.Call 33 fun.Count (c.one_core (c.Var 33 1) c.no_cores)) (c.Call 33 fun.PathOrder (c.one_core (c.For 33 3 4 (c.Var 33 1) (c.If 33 (c.Instance 33 (c.Var 33 3) (ItemsOf (NodeOf AnyNode) occurs.One)) (c.Call 33 fun.NormalizeSpace (c.one_core (c.Call 33 fun.StringOf (c.one_core (c.Var 33 3) c.no_cores)) c.no_cores)) (c.Fail 33 code.XPTY0019))) c.no_cores))))) (c.Call 52 fun.Root (c.one_core (c.Fail 52 code.XPDY0002) c.no_cores))) (c.Call 60 fun.Except (c.one_core (c.Call 61 fun.Intersect (c.one_core (c.Step 63 start.Path axis.Child (Named (codes "a")) (c.Step 61 start.Path axis.DescendantOrSelf AnyNode (c.If 61 (c.Instance 61 (c.Fail 61 code.XPDY0002) (ItemsOf (NodeOf AnyNode) occurs.One)) (c.Treat 61 (c.Call 61 fun.Root (c.one_core (c.Fail 61 code.XPDY0002) c.no_cores)) (ItemsOf (NodeOf IsDocumentNode) occurs.One)) (c.Fail 61 code.XPTY0020)))) (c.one_core (c.Step 77 start.Path axis.Child (Named (codes "b")) (c.Step 75 start.Path axis.DescendantOrSelf AnyNode (c.If 75 (c.Instance 75 (c.Fail 75 code.XPDY0002) (ItemsOf (NodeOf AnyNode) occurs.One)) (c.Treat 75 (c.Call 75 fun.Root (c.one_core (c.Fail 75 code.XPDY0002) c.no_cores)) (ItemsOf (NodeOf IsDocumentNode) occurs.One)) (c.Fail 75 code.XPTY0020)))) c.no_cores))) (c.one_core (c.Step 88 start.Path axis.Child (Named (codes "c")) (c.If 87 (c.Instance 87 (c.Fail 87 code.XPDY0002) (ItemsOf (NodeOf AnyNode) occurs.One)) (c.Treat 87 (c.Call 87 fun.Root (c.one_core (c.Fail 87 code.XPDY0002) c.no_cores)) (ItemsOf (NodeOf IsDocumentNode) occurs.One)) (c.Fail 87 code.XPTY0020))) c.no_cores)))) (c.Call 91 fun.Lt (c.one_core (c.Lit 91 (TextAtom (codes "x"))) (c.one_core (c.Lit 98 (TextAtom (codes "y"))) c.no_cores)))) (c.Call 103 fun.Before (c.one_core (c.Lit 103 (IntAtom (pos 1))) (c.one_core (c.Lit 108 (IntAtom (pos 2))) c.no_cores)))) (c.Call 111 fun.StringOf (c.one_core (c.Fail 111 code.XPDY0002) c.no_cores))) (c.Let 124 5 (c.Step 121 start.Dot axis.Attribute (Named (codes "k")) (c.Fail 121 code.XPDY0002)) (c.Let 124 6 (c.Call 124 fun.Count (c.one_core (c.Var 124 5) c.no_cores)) (c.Call 124 fun.PathOrder (c.one_core (c.For 124 7 8 (c.Var 124 5) (c.If 124 (c.Instance 124 (c.Var 124 7) (ItemsOf (NodeOf AnyNode) occurs.One)) (c.Call 124 fun.LocalName (c.one_core (c.Var 124 7) c.no_cores)) (c.Fail 124 code.XPTY0019))) c.no_cores)))))
unfolding resolve norm found known focused with_place bound counted dot_at place_at last_at selected
operators_and_contexts = refl
