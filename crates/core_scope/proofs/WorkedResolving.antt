-- Worked examples: resolved forms, one query a row.
use Rattle.std.proofs.Common.{◌≡◌, refl, ℕ, true, false, Option, Some, None, List, [], ◌∷◌, codes, pos}
use Rattle.xq_base.specs.declared.fun.AtomKind.TheVariants as kind
use Rattle.xq_base.specs.declared.fun.Fun.TheVariants as fun
use Rattle.core_meaning.specs.declared.node.Occurs.TheVariants as occurs
use Rattle.core_meaning.specs.Types.{AnyAtom, ItemsOf}
use Rattle.xq_ast.specs.declared.leaf.Callee.TheVariants as callee
use Rattle.xq_ast.specs.declared.leaf.ContentRun.TheVariants as content
use Rattle.xq_ast.specs.declared.leaf.Quantifier.TheVariants as quantifier
use Rattle.xq_ast.specs.declared.leaf.Occurs.TheVariants as read_occurs
use Rattle.xq_ast.specs.declared.leaf.ReadItem.TheVariants as i
use Rattle.xq_ast.specs.declared.leaf.ReadType.TheVariants as t
use Rattle.xq_ast.specs.declared.leaf.ValueRun.TheVariants as value
use Rattle.core_scope.specs.Syn as s
use Rattle.core_scope.specs.Resolving.{resolve}
use Rattle.core_scope.specs.Prolog.{resolved_query}

-- for $x in 1 return (for $x in $x return $x)
inner_for_hides : resolved_query (record { version = None; setters = []; declarations = []; body = (s.flwor 0 (s.for_bind 4 (codes "x") None None (s.integer 10 (codes "1")) s.no_binds) s.absent s.no_keys (s.paren 19 (s.present (s.flwor 20 (s.for_bind 24 (codes "x") None None (s.var 30 (codes "x")) s.no_binds) s.absent s.no_keys (s.var 40 (codes "x")))))) }) ≡ record { version = None; setters = []; declarations = []; body = (s.flwor 0 (s.for_bind 4 4 None None (s.integer 10 (pos 1)) s.no_binds) s.absent s.no_keys (s.paren 19 (s.present (s.flwor 20 (s.for_bind 24 24 None None (s.var 30 4) s.no_binds) s.absent s.no_keys (s.var 40 24))))) }
unfolding resolve
inner_for_hides = refl

-- let $x := 1 let $x := $x return $x
let_hides : resolved_query (record { version = None; setters = []; declarations = []; body = (s.flwor 0 (s.let_bind 4 (codes "x") None (s.integer 10 (codes "1")) (s.let_bind 16 (codes "x") None (s.var 22 (codes "x")) s.no_binds)) s.absent s.no_keys (s.var 32 (codes "x"))) }) ≡ record { version = None; setters = []; declarations = []; body = (s.flwor 0 (s.let_bind 4 4 None (s.integer 10 (pos 1)) (s.let_bind 16 16 None (s.var 22 4) s.no_binds)) s.absent s.no_keys (s.var 32 16)) }
unfolding resolve
let_hides = refl

-- let $p := 1 for $x at $p in $p return $p
position_hides : resolved_query (record { version = None; setters = []; declarations = []; body = (s.flwor 0 (s.let_bind 4 (codes "p") None (s.integer 10 (codes "1")) (s.for_bind 16 (codes "x") None (Some (22, (codes "p"))) (s.var 28 (codes "p")) s.no_binds)) s.absent s.no_keys (s.var 38 (codes "p"))) }) ≡ record { version = None; setters = []; declarations = []; body = (s.flwor 0 (s.let_bind 4 4 None (s.integer 10 (pos 1)) (s.for_bind 16 16 None (Some (22, 22)) (s.var 28 4) s.no_binds)) s.absent s.no_keys (s.var 38 22)) }
unfolding resolve
position_hides = refl

-- for $x in 1 return (some $x in $x satisfies $x, $x)
quantifier_hides : resolved_query (record { version = None; setters = []; declarations = []; body = (s.flwor 0 (s.for_bind 4 (codes "x") None None (s.integer 10 (codes "1")) s.no_binds) s.absent s.no_keys (s.paren 19 (s.present (s.comma 20 (s.quantified 20 quantifier.Some (s.for_bind 25 (codes "x") None None (s.var 31 (codes "x")) s.no_binds) (s.var 44 (codes "x"))) (s.one_more (s.var 48 (codes "x")) s.no_more))))) }) ≡ record { version = None; setters = []; declarations = []; body = (s.flwor 0 (s.for_bind 4 4 None None (s.integer 10 (pos 1)) s.no_binds) s.absent s.no_keys (s.paren 19 (s.present (s.comma 20 (s.quantified 20 quantifier.Some (s.for_bind 25 25 None None (s.var 31 4) s.no_binds) (s.var 44 25)) (s.one_more (s.var 48 4) s.no_more))))) }
unfolding resolve
quantifier_hides = refl

-- declare variable $x := 1; declare function local:f($x) { $x }; $x
parameter_hides : resolved_query (record { version = None; setters = []; declarations = s.variable 0 17 (codes "x") None (s.integer 23 (codes "1")) ∷ s.function 26 43 (codes "local:f") (s.param 51 (codes "x") None s.no_params) None (s.var 57 (codes "x")) ∷ []; body = (s.var 63 (codes "x")) }) ≡ record { version = None; setters = []; declarations = s.variable 0 17 17 None (s.integer 23 (pos 1)) ∷ s.function 26 43 (codes "local:f") (s.param 51 51 None s.no_params) None (s.var 57 51) ∷ []; body = (s.var 63 17) }
unfolding resolve
parameter_hides = refl

-- declare function string() { 1 }; (string(), fn:string(2))
built_in_before_declared : resolved_query (record { version = None; setters = []; declarations = s.function 0 17 (codes "string") s.no_params None (s.integer 28 (codes "1")) ∷ []; body = (s.paren 33 (s.present (s.comma 34 (s.call 34 (codes "string") s.no_more) (s.one_more (s.call 44 (codes "fn:string") (s.one_more (s.integer 54 (codes "2")) s.no_more)) s.no_more)))) }) ≡ record { version = None; setters = []; declarations = s.function 0 17 (codes "string") s.no_params None (s.integer 28 (pos 1)) ∷ []; body = (s.paren 33 (s.present (s.comma 34 (s.call 34 (callee.Known fun.StringOf) s.no_more) (s.one_more (s.call 44 (callee.Known fun.StringOf) (s.one_more (s.integer 54 (pos 2)) s.no_more)) s.no_more)))) }
unfolding resolve
built_in_before_declared = refl

-- declare function f() { g() }; declare function g() { 1 }; declare function g() { 2 }; fn:g()
first_of_two_declarations : resolved_query (record { version = None; setters = []; declarations = s.function 0 17 (codes "f") s.no_params None (s.call 23 (codes "g") s.no_more) ∷ s.function 30 47 (codes "g") s.no_params None (s.integer 53 (codes "1")) ∷ s.function 58 75 (codes "g") s.no_params None (s.integer 81 (codes "2")) ∷ []; body = (s.call 86 (codes "fn:g") s.no_more) }) ≡ record { version = None; setters = []; declarations = s.function 0 17 (codes "f") s.no_params None (s.call 23 (callee.Declared 1) s.no_more) ∷ s.function 30 47 (codes "g") s.no_params None (s.integer 53 (pos 1)) ∷ s.function 58 75 (codes "g") s.no_params None (s.integer 81 (pos 2)) ∷ []; body = (s.call 86 (callee.Declared 1) s.no_more) }
unfolding resolve
first_of_two_declarations = refl

-- (1 treat as xs:anyAtomicType+) cast as xs:string?
types : resolved_query (record { version = None; setters = []; declarations = []; body = (s.cast 0 (s.paren 0 (s.present (s.treat 1 (s.integer 1 (codes "1")) (t.Of 12 (i.Named (record { offset = 12; text = (codes "xs:anyAtomicType") })) read_occurs.AtLeastOne)))) (record { offset = 39; text = (codes "xs:string") }) true) }) ≡ record { version = None; setters = []; declarations = []; body = (s.cast 0 (s.paren 0 (s.present (s.treat 1 (s.integer 1 (pos 1)) (ItemsOf AnyAtom occurs.AtLeastOne)))) kind.Text true) }
unfolding resolve
types = refl

-- <a b="x{{&lt;{1}{2}"> &#x20; <![CDATA[c]]>{1} {2} t</a>
pieces_are_one_run : resolved_query (record { version = None; setters = []; declarations = []; body = (s.element 0 (codes "a") (s.attribute 3 (codes "b") (s.value_run (value.Chars (codes "x")) (s.value_run value.OpenBrace (s.value_run (value.Reference (codes "<")) (s.value_brace (s.integer 14 (codes "1")) (s.value_brace (s.integer 17 (codes "2")) s.no_values))))) s.no_attributes) (s.run (content.Chars (codes " ")) (s.run (content.Reference (codes " ")) (s.run (content.Chars (codes " ")) (s.run (content.Cdata (codes "c")) (s.brace (s.integer 43 (codes "1")) (s.run (content.Chars (codes " ")) (s.brace (s.integer 47 (codes "2")) (s.run (content.Chars (codes " t")) s.no_parts))))))))) }) ≡ record { version = None; setters = []; declarations = []; body = (s.element 0 (codes "a") (s.attribute 3 (codes "b") (s.value_run (codes "x{<") (s.value_brace (s.integer 14 (pos 1)) (s.value_brace (s.integer 17 (pos 2)) s.no_values))) s.no_attributes) (s.run (record { text = codes "   c"; is_boundary = false }) (s.brace (s.integer 43 (pos 1)) (s.run (record { text = codes " "; is_boundary = true }) (s.brace (s.integer 47 (pos 2)) (s.run (record { text = codes " t"; is_boundary = false }) s.no_parts)))))) }
unfolding resolve
pieces_are_one_run = refl

-- <a>&#x20;</a>
white_reference_is_no_boundary : resolved_query (record { version = None; setters = []; declarations = []; body = (s.element 0 (codes "a") s.no_attributes (s.run (content.Reference (codes " ")) s.no_parts)) }) ≡ record { version = None; setters = []; declarations = []; body = (s.element 0 (codes "a") s.no_attributes (s.run (record { text = codes " "; is_boundary = false }) s.no_parts)) }
unfolding resolve
white_reference_is_no_boundary = refl
