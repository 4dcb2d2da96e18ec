-- What the rule of a query gives from the start of a text is what reading the text gives.
use Rattle.std.proofs.Common.{◌≡◌, ℕ, true, false, List, Result, Ok, Err, inl, inr, sym, ap, ◌∙◌, arith}
use Rattle.xq_ast.specs.Phrases.{Why, deep, left_out}
use Rattle.xq_ast.specs.Trees as trees
use Rattle.xq_ast.specs.Rules.{is}
use Rattle.xq_ast.specs.Grammar.{language, query, max_level}
use Rattle.xq_ast.specs.Query.{is_text, after_mark, IsQuery, IsCut, IsLeastCut, IsNoQuery}
use Rattle.xq_parser.specs.declared.fault.ParseFault.{ParseFault}
use Rattle.xq_parser.specs.declared.fault.ParseFault.TheVariants.{NoMemory, Syntax, TooDeep, LeftOut}
use Rattle.xq_parser.specs.Reading.{begins, empty}
use Rattle.xq_parser.specs.Parsers.{syntax_fault, cut, Outcome}
use Rattle.xq_parser.specs.Nested.{nested}
use Rattle.xq_parser.specs.Outcomes.{Fails, read}
use Rattle.xq_parser.specs.Query.{Faults, ReadsAs}
use Rattle.xq_parser.proofs.Exact.{Exact}
use Rattle.xq_parser.proofs.Good.{Starts}
use Rattle.xq_parser.proofs.Levels.{rule_agrees}
use Rattle.xq_parser.proofs.AllGood.{grammar_good, query_good, query_stops}

abbrev Any : ℕ → Type 0
Any at = Unit {0}

abbrev query_from : List ℕ → ℕ → Outcome trees.Query
query_from text at = read text max_level query at

query_exact : (text : List ℕ) → Exact (is language text max_level query) (Starts text (begins nested query) (empty nested query) Any) Any (read text max_level query)
query_exact text = rule_agrees nested language text grammar_good max_level query query_good Any (λ at h. query_stops text at)

is_read : (text : List ℕ) (q : trees.Query) → IsQuery text q → (to : ℕ) × (query_from text (after_mark text) ≡ Ok (q, to))
is_read text q i = (i.0, (query_exact text).complete (after_mark text) i.0 q i.1 tt)

is_cut : (text : List ℕ) (why : Why) (place : ℕ) → IsCut text why place → query_from text (after_mark text) ≡ Err (cut why place)
is_cut text why place c = (query_exact text).found why (after_mark text) place c

same : {A E : Type 0} (x y : A) → ◌≡◌ {A = Result A E} (Ok x) (Ok y) → x ≡ y
same x y e = cc

pub one_tree : (text : List ℕ) (a b : trees.Query) → IsQuery text a → IsQuery text b → a ≡ b
one_tree text a b p q = ap (λ (z : trees.Query × ℕ). z.0) (same _ _ (sym (is_read text a p).1 ∙ (is_read text b q).1))

pub one_cut : (text : List ℕ) (why other : Why) (place at : ℕ) → IsCut text why place → IsCut text other at → (why ≡ other) × (place ≡ at)
one_cut text why other place at p q = let x = is_cut text why place p in let y = is_cut text other at q in (cc, cc)

pub tree_or_cut : (text : List ℕ) (a : trees.Query) (why : Why) (place : ℕ) → IsQuery text a → IsCut text why place → ⊥
tree_or_cut text a why place p q = let x = (is_read text a p).1 in let y = is_cut text why place q in cc

least : (text : List ℕ) (why : Why) (place : ℕ) → query_from text (after_mark text) ≡ Err (cut why place) → IsLeastCut text why place
least text why place e =
    let c = (query_exact text).cut_sound (after_mark text) why place e in
    record {
      cut = c;
      least = λ other at o. let same = (one_cut text why other place at c o).1 in omega (arith, same);
      deep_first = λ o. (one_cut text why deep place place c o).0;
    }

pub tree_reads : (text : List ℕ) (q : trees.Query) (to : ℕ) → is_text text ≡ true → query_from text (after_mark text) ≡ Ok (q, to) → ReadsAs text (Ok q)
tree_reads text q to t e =
    let i : IsQuery text q = (to, (query_exact text).sound (after_mark text) (q, to) e) in
    (t, i, λ why place c. tree_or_cut text q why place i c)

pub fault_reads : (text : List ℕ) (e : ParseFault) → is_text text ≡ true → Fails (query_from text (after_mark text)) e → Faults text e
fault_reads text NoMemory t f = tt
fault_reads text Syntax t f =
    let n : IsNoQuery text = record {
      no_tree = λ q i. let x = (is_read text q i).1 in cc;
      no_cut = λ why place c. let x = is_cut text why place c in cc;
    } in
    inr n
fault_reads text (TooDeep place) t f = (t, least text deep place f)
fault_reads text (LeftOut place) t f = (t, least text left_out place f)

pub no_text_reads : (text : List ℕ) → is_text text ≡ false → Faults text Syntax
no_text_reads text t = inl t
