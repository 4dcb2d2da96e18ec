-- Worked examples: constructors and node identity.
use Rattle.std.proofs.Common.{◌≡◌, [], ◌∷◌, pos, codes, false, Some, refl}
use Rattle.std.specs.Str.{chars}
use Rattle.std.specs.Fmt.{digits}
use Rattle.std.specs.Char.{encode_utf8}
use Rattle.xq_base.specs.Chars.{is_name_start, is_name_char}
use Rattle.xq_base.specs.declared.code.Code.TheVariants as c
use Rattle.xq_base.specs.declared.fun.Fun.TheVariants as f
use Rattle.xq_base.specs.declared.axis.Axis.TheVariants as axis
use Rattle.xq_base.specs.Atoms.{IntAtom, TextAtom}
use Rattle.doc_table.specs.Tree.{ElementNode, AttributeNode, TextNode, CommentNode, InstructionNode, DocumentNode}
use Rattle.doc_table.specs.Axes.{Named}
use Rattle.core_meaning.specs.declared.node.StepFrom.TheVariants as from
use Rattle.core_meaning.specs.PlainCore.{PlainCore}
use Rattle.core_meaning.specs.PlainCore as t
use Rattle.core_meaning.specs.ExprOf.{expr_of, site_at}
use Rattle.core_meaning.specs.Meaning.{no_variables, val}
use Rattle.core_meaning.specs.Failures.{failure, fails, first}
use Rattle.core_meaning.proofs.Terms.{element, text_leaf, comment_leaf, instruction_leaf, a_docs, bib_docs, made, one_node}

-- (for $i in (1,2) return (<a n="{$i}"/>, <b n="{$i}"/>))/.: the nodes of one constructor stand together
trees_by_site : PlainCore
trees_by_site = t.Let 57 127 (t.For 1 1 2 (t.Seq 11 (t.Lit 12 (IntAtom (pos 1))) (t.Lit 14 (IntAtom (pos 2)))) (t.Seq 24 (t.Build 25 ElementNode (t.one_core (t.Lit 25 (TextAtom (codes "a"))) t.no_cores) (t.Build 28 AttributeNode (t.one_core (t.Lit 28 (TextAtom (codes "n"))) t.no_cores) (t.Call 31 f.ContentText (t.one_core (t.Var 32 1) t.no_cores)))) (t.Build 40 ElementNode (t.one_core (t.Lit 40 (TextAtom (codes "b"))) t.no_cores) (t.Build 43 AttributeNode (t.one_core (t.Lit 43 (TextAtom (codes "n"))) t.no_cores) (t.Call 46 f.ContentText (t.one_core (t.Var 47 1) t.no_cores)))))) (t.Let 57 128 (t.Call 57 f.Count (t.one_core (t.Var 57 127) t.no_cores)) (t.Call 57 f.PathOrder (t.one_core (t.For 57 129 130 (t.Var 57 127) (t.If 57 (t.Instance 57 (t.Var 57 129) one_node) (t.Var 57 129) (t.Fail 57 c.XPTY0019))) t.no_cores)))

trees_by_site_value : val [] (expr_of trees_by_site) no_variables [] ≡ Some ((made 8 (1 ∷ []) (element (codes "a") (((codes "n"), (codes "1")) ∷ []) [])) ∷ (made 8 (2 ∷ []) (element (codes "a") (((codes "n"), (codes "2")) ∷ []) [])) ∷ (made 14 (1 ∷ []) (element (codes "b") (((codes "n"), (codes "1")) ∷ []) [])) ∷ (made 14 (2 ∷ []) (element (codes "b") (((codes "n"), (codes "2")) ∷ []) [])) ∷ [])
unfolding trees_by_site chars digits encode_utf8 is_name_start is_name_char
trees_by_site_value = refl

-- (1, <a/>)/.
atom_in_path : PlainCore
atom_in_path = t.Let 10 131 (t.Seq 0 (t.Lit 1 (IntAtom (pos 1))) (t.Build 4 ElementNode (t.one_core (t.Lit 4 (TextAtom (codes "a"))) t.no_cores) (t.Empty 4))) (t.Let 10 132 (t.Call 10 f.Count (t.one_core (t.Var 10 131) t.no_cores)) (t.Call 10 f.PathOrder (t.one_core (t.For 10 133 134 (t.Var 10 131) (t.If 10 (t.Instance 10 (t.Var 10 133) one_node) (t.Var 10 133) (t.Fail 10 c.XPTY0019))) t.no_cores)))

atom_in_path_failure : first (fails [] (expr_of atom_in_path) no_variables []) ≡ Some (failure (site_at 11 10) (1 ∷ []) c.XPTY0019)
unfolding atom_in_path chars is_name_start
atom_in_path_failure = refl

-- <a/>/(1, .)
mixed_result : PlainCore
mixed_result = t.Let 5 135 (t.Build 0 ElementNode (t.one_core (t.Lit 0 (TextAtom (codes "a"))) t.no_cores) (t.Empty 0)) (t.Let 5 136 (t.Call 5 f.Count (t.one_core (t.Var 5 135) t.no_cores)) (t.Call 5 f.PathOrder (t.one_core (t.For 5 137 138 (t.Var 5 135) (t.If 5 (t.Instance 5 (t.Var 5 137) one_node) (t.Seq 5 (t.Lit 6 (IntAtom (pos 1))) (t.Var 9 137)) (t.Fail 5 c.XPTY0019))) t.no_cores)))

mixed_result_failure : first (fails [] (expr_of mixed_result) no_variables []) ≡ Some (failure (site_at 14 5) [] c.XPTY0018)
unfolding mixed_result chars is_name_start
mixed_result_failure = refl

-- <a>{attribute x {1}, "t", attribute y {2}}</a>
late_attribute : PlainCore
late_attribute = t.Build 0 ElementNode (t.one_core (t.Lit 0 (TextAtom (codes "a"))) t.no_cores) (t.Seq 4 (t.Seq 4 (t.Build 4 AttributeNode (t.one_core (t.Lit 4 (TextAtom (codes "x"))) t.no_cores) (t.Lit 17 (IntAtom (pos 1)))) (t.Lit 21 (TextAtom (codes "t")))) (t.Build 26 AttributeNode (t.one_core (t.Lit 26 (TextAtom (codes "y"))) t.no_cores) (t.Lit 39 (IntAtom (pos 2)))))

late_attribute_failure : first (fails [] (expr_of late_attribute) no_variables []) ≡ Some (failure (site_at 10 0) [] c.XQTY0024)
unfolding late_attribute chars digits encode_utf8 is_name_start is_name_char
late_attribute_failure = refl

-- <a>{1, 2}{"x"}<b/>{()}</a>: atoms of one brace are joined by a blank, two braces by nothing
neighbouring_braces : PlainCore
neighbouring_braces = t.Build 0 ElementNode (t.one_core (t.Lit 0 (TextAtom (codes "a"))) t.no_cores) (t.Seq 0 (t.Seq 0 (t.Seq 0 (t.Seq 0 (t.Seq 4 (t.Lit 4 (IntAtom (pos 1))) (t.Lit 7 (IntAtom (pos 2)))) (t.Build 0 TextNode t.no_cores (t.Lit 0 (TextAtom [])))) (t.Lit 10 (TextAtom (codes "x")))) (t.Build 14 ElementNode (t.one_core (t.Lit 14 (TextAtom (codes "b"))) t.no_cores) (t.Empty 14))) (t.Empty 19))

neighbouring_braces_value : val [] (expr_of neighbouring_braces) no_variables [] ≡ Some ((made 15 [] (element (codes "a") [] ((text_leaf (codes "1 2x")) ∷ (element (codes "b") [] []) ∷ []))) ∷ [])
unfolding neighbouring_braces chars digits encode_utf8 is_name_start is_name_char
neighbouring_braces_value = refl

-- <r>{doc("a.xml")/a/@x}</r>
copied_attribute : PlainCore
copied_attribute = t.Build 0 ElementNode (t.one_core (t.Lit 0 (TextAtom (codes "r"))) t.no_cores) (t.Step 19 from.Path axis.Attribute (Named (codes "x")) (t.Step 17 from.Path axis.Child (Named (codes "a")) (t.Call 4 f.Doc (t.one_core (t.Lit 8 (TextAtom (codes "a.xml"))) t.no_cores))))

copied_attribute_value : val a_docs (expr_of copied_attribute) no_variables [] ≡ Some ((made 5 [] (element (codes "r") (((codes "x"), (codes "1")) ∷ []) [])) ∷ [])
unfolding copied_attribute chars is_name_start
copied_attribute_value = refl

-- element {"p"} {text {"u"}, comment {"v"}, processing-instruction w {"z"}, document {<q/>}}
computed : PlainCore
computed = t.Build 0 ElementNode (t.one_core (t.Lit 9 (TextAtom (codes "p"))) t.no_cores) (t.Seq 15 (t.Seq 15 (t.Seq 15 (t.Build 15 TextNode t.no_cores (t.Lit 21 (TextAtom (codes "u")))) (t.Build 27 CommentNode t.no_cores (t.Lit 36 (TextAtom (codes "v"))))) (t.Build 42 InstructionNode (t.one_core (t.Lit 65 (TextAtom (codes "w"))) t.no_cores) (t.Lit 68 (TextAtom (codes "z"))))) (t.Build 74 DocumentNode t.no_cores (t.Build 84 ElementNode (t.one_core (t.Lit 84 (TextAtom (codes "q"))) t.no_cores) (t.Empty 84))))

computed_value : val [] (expr_of computed) no_variables [] ≡ Some ((made 15 [] (element (codes "p") [] ((text_leaf (codes "u")) ∷ (comment_leaf (codes "v")) ∷ (instruction_leaf (codes "w") (codes "z")) ∷ (element (codes "q") [] []) ∷ []))) ∷ [])
unfolding computed chars is_name_start is_name_char
computed_value = refl

-- comment {"a--b"}
double_hyphen : PlainCore
double_hyphen = t.Build 0 CommentNode t.no_cores (t.Lit 9 (TextAtom (codes "a--b")))

double_hyphen_failure : first (fails [] (expr_of double_hyphen) no_variables []) ≡ Some (failure (site_at 1 0) [] c.XQDY0072)
unfolding double_hyphen
double_hyphen_failure = refl

-- <result>{ for $b in doc("bib.xml")/bib/book where $b/price < 60 or $b/@year = "1994" order by $b/title return <entry n="{count($b/author)}">{$b/title}</entry> }</result>
cheap_or_old : PlainCore
cheap_or_old = t.Build 0 ElementNode (t.one_core (t.Lit 0 (TextAtom (codes "result"))) t.no_cores) (t.Sorted 10 (t.one_bind (t.for_bind 1 2 (t.Step 39 from.Path axis.Child (Named (codes "book")) (t.Step 35 from.Path axis.Child (Named (codes "bib")) (t.Call 20 f.Doc (t.one_core (t.Lit 24 (TextAtom (codes "bib.xml"))) t.no_cores))))) (t.one_bind (t.where_bind (t.Call 50 f.Boolean (t.one_core (t.Call 50 f.Or (t.one_core (t.Call 50 f.Boolean (t.one_core (t.Call 50 f.GeneralLt (t.one_core (t.Step 53 from.Path axis.Child (Named (codes "price")) (t.Var 50 1)) (t.one_core (t.Lit 61 (IntAtom (pos 60))) t.no_cores))) t.no_cores)) (t.one_core (t.Call 67 f.Boolean (t.one_core (t.Call 67 f.GeneralEq (t.one_core (t.Step 70 from.Path axis.Attribute (Named (codes "year")) (t.Var 67 1)) (t.one_core (t.Lit 78 (TextAtom (codes "1994"))) t.no_cores))) t.no_cores)) t.no_cores))) t.no_cores))) t.no_binds)) (t.one_key (t.key_by (t.Step 97 from.Path axis.Child (Named (codes "title")) (t.Var 94 1)) false false) t.no_keys) (t.Build 110 ElementNode (t.one_core (t.Lit 110 (TextAtom (codes "entry"))) t.no_cores) (t.Seq 110 (t.Build 117 AttributeNode (t.one_core (t.Lit 117 (TextAtom (codes "n"))) t.no_cores) (t.Call 121 f.ContentText (t.one_core (t.Call 121 f.Count (t.one_core (t.Step 130 from.Path axis.Child (Named (codes "author")) (t.Var 127 1)) t.no_cores)) t.no_cores))) (t.Step 144 from.Path axis.Child (Named (codes "title")) (t.Var 141 1)))))

cheap_or_old_value : val bib_docs (expr_of cheap_or_old) no_variables [] ≡ Some ((made 31 [] (element (codes "result") [] ((element (codes "entry") (((codes "n"), (codes "2")) ∷ []) ((element (codes "title") [] ((text_leaf (codes "Data & Web")) ∷ [])) ∷ [])) ∷ (element (codes "entry") (((codes "n"), (codes "1")) ∷ []) ((element (codes "title") [] ((text_leaf (codes "TCP/IP")) ∷ [])) ∷ [])) ∷ []))) ∷ [])
unfolding cheap_or_old chars digits encode_utf8 is_name_start is_name_char
cheap_or_old_value = refl
