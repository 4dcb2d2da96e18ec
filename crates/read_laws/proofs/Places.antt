-- The variables of a prolog stand at different places: each declaration begins where the one before it ends, and the "$" of its
-- variable is a token between both places.
use Rattle.std.proofs.Common.{◌≡◌, refl, sym, ap, ◌∙◌, subst, ℕ, ◌<◌, ◌≤◌, Bool, true, false, ◌&&◌, ◌||◌, nat_eq, List, [], ◌∷◌, map, Option, inl, inr, arith}
use Rattle.std.proofs.lemmas.Grind.{common_steps}
use Rattle.xq_ast.specs.declared.token.Mode.TheVariants as mode_
use Rattle.xq_ast.specs.declared.look.Due.TheVariants.{Operand, Named, Prologue}
use Rattle.xq_ast.specs.declared.look.Look.TheVariants as k
use Rattle.xq_ast.specs.declared.node.AsRead.{AsRead}
use Rattle.xq_ast.specs.declared.query.Declaration.TheVariants as declaration_
use Rattle.xq_ast.specs.declared.leaf.ReadType.{ReadType}
use Rattle.xq_ast.specs.Bytes.{start}
use Rattle.xq_ast.specs.Tokens.{token, token_here}
use Rattle.xq_ast.specs.Look.{Sym, end_at, end_of}
use Rattle.xq_ast.specs.Phrases as g
use Rattle.xq_ast.specs.Rules.{is, make, many, maybe, either, prefer, ◌&◌, ◌◁◌}
use Rattle.xq_ast.specs.Trees.{Variable, Tree, Declaration}
use Rattle.xq_ast.specs.Terminals.{Rule, one, sign, operator, place, name, left}
use Rattle.xq_ast.specs.Types.{typ}
use Rattle.xq_ast.specs.Bindings.{variable}
use Rattle.xq_ast.specs.Grammar as l
use Rattle.xq_ast.specs.Grammar.{language}
use Rattle.core_meaning.specs.Lawful.{all_differ}
use Rattle.core_meaning.specs.Work.{is_member}
use Rattle.core_scope.specs.Erasure.{declaration_of}
use Rattle.core_scope.specs.Leaves.{read_leaves}
use Rattle.core_normal.specs.Sound.{places}
use Rattle.xq_parser.specs.Reading.{good}
use Rattle.xq_parser.specs.Nested.{nested}
use Rattle.xq_parser.proofs.Bools.{both}
use Rattle.xq_parser.proofs.Follow.{set_spans}
use Rattle.xq_parser.proofs.Levels.{rule_agrees}
use Rattle.xq_parser.proofs.AllGood.{grammar_good, query_good}
use Rattle.read_laws.proofs.Each.{Each}
use Rattle.read_laws.proofs.Keeping.{Keeps, gives, passed, ended}
use Rattle.read_laws.proofs.Levels.{at_level}

-- a rule passes the parser's test, by which each value ends at or behind the place where it begins; so do its parts
record Passes {A : Type 0} (r : Rule A) : Type 0 where
  test : good nested r ≡ true

apply_passes : {A B : Type 0} {r : Rule (A → B)} {s : Rule A} → Passes (r & s) → Passes r × Passes s
apply_passes {r = r} {s = s} q = let b = both (good nested r) (good nested s) (both (good nested r && good nested s) _ q.test).0 in (record { test = b.0 }, record { test = b.1 })

before_passes : {A B : Type 0} {r : Rule A} {s : Rule B} → Passes (r ◁ s) → Passes r × Passes s
before_passes {r = r} {s = s} q = let b = both (good nested r) (good nested s) (both (good nested r && good nested s) _ q.test).0 in (record { test = b.0 }, record { test = b.1 })

either_passes : {A : Type 0} {ss : List Sym} {r s : Rule A} → Passes (either ss r s) → Passes r × Passes s
either_passes {r = r} {s = s} q = let b = both (good nested r) _ q.test in (record { test = b.0 }, record { test = (both (good nested s) _ b.1).0 })

prefer_passes : {A : Type 0} {ss : List Sym} {r s : Rule A} → Passes (prefer ss r s) → Passes r × Passes s
prefer_passes {r = r} {s = s} q = let b = both (good nested r) (good nested s) q.test in (record { test = b.0 }, record { test = b.1 })

many_passes : {A : Type 0} {r : Rule A} → Passes (many r) → Passes r
many_passes {r = r} q = record { test = (both (good nested r) _ q.test).0 }

query_passes : Passes l.query
query_passes = record { test = query_good }

declaration_passes : Passes l.declaration
unfolding l.query l.prolog l.declarations
declaration_passes =
    let prolog : Passes l.prolog = (apply_passes (apply_passes (before_passes query_passes).0).0).1 in
    many_passes (apply_passes (before_passes (prefer_passes prolog).1).0).1

var_decl_passes : Passes l.var_decl
unfolding l.declaration
var_decl_passes = (either_passes (before_passes declaration_passes).0).0

module _ (text : List ℕ) (d : ℕ) where
  -- from this place to that one stands such a value, over so many levels
  abbrev Is : {A : Type 0} → Rule A → ℕ → ℕ → A → Type 0
  Is r = (is language text d r).Is

  grows : {A : Type 0} (r : Rule A) → Passes r → (from to : ℕ) (a : A) → Is r from to a → from ≤ to
  grows r q = (rule_agrees nested language text grammar_good d r q.test (λ at. ⊥) (λ at h. absurd h)).grows

-- a "$" at this place takes some of the text, between these places
record Marked (text : List ℕ) (from to i : ℕ) : Type 0 where
  mark : ℕ
  behind : from ≤ mark
  is : i ≡ start text mark
  takes : mark < end_at text Operand mark
  ends : end_at text Operand mark ≤ to

wider : (text : List ℕ) (from at to end i : ℕ) → Marked text at to i → from ≤ at → to ≤ end → Marked text from end i
wider text from at to end i m p q =
    record { mark = m.mark; behind = omega (arith, m.behind, p); is = m.is; takes = m.takes; ends = omega (arith, m.ends, q) }

-- two that stand one behind the other stand at different places
same_end : (text : List ℕ) (m n : ℕ) → start text m ≡ start text n → end_at text Operand m ≡ end_at text Operand n
unfolding token
same_end text m n q = ap (λ p. end_of (token_here text p mode_.Operand)) q

differ : (text : List ℕ) (a b c i j : ℕ) → Marked text a b i → Marked text b c j → i ≡ j → ⊥
differ text a b c i j m n q = omega (arith, m.ends, n.behind, n.takes, same_end text m.mark n.mark (sym m.is ∙ q ∙ n.is))

no_member : (text : List ℕ) (a b c i : ℕ) (xs : List ℕ) → Marked text a b i → Each (Marked text b c) xs → is_member i xs ≡ false
no_member text a b c i [] m h = refl
no_member text a b c i (x ∷ xs) m h = at (nat_eq i x) (λ e. differ text a b c i x m h.0 (grind (arith, common_steps, e))) (no_member text a b c i xs m h.1)
  where
    at : (t : Bool) → (t ≡ true → ⊥) → is_member i xs ≡ false → (t || is_member i xs) ≡ false
    at true p q = absurd (p refl)
    at false p q = q

-- the place of a declaration's variable
abbrev At : ℕ → Declaration → Type 0
At i (declaration_.Var o v t e) = v.offset ≡ i
At i (declaration_.Fun o f ps t e) = Unit {0}

abbrev MarkedIn : List ℕ → ℕ → ℕ → Declaration → Type 0
MarkedIn text from to (declaration_.Var o v t e) = Marked text from to v.offset
MarkedIn text from to (declaration_.Fun o f ps t e) = Unit {0}

marked_in : (text : List ℕ) (from to i : ℕ) (x : Declaration) → At i x → Marked text from to i → MarkedIn text from to x
marked_in text from to i (declaration_.Var o v t e) q m = subst (λ j. Marked text from to j) (sym q) m
marked_in text from to i (declaration_.Fun o f ps t e) q m = tt

-- the places of declarations, where the first begins and the last ends
abbrev pub the_places : List Declaration → List ℕ
the_places ds = places (map (declaration_of read_leaves AsRead) ds)

record Declared (text : List ℕ) (from to : ℕ) (ds : List Declaration) : Type 0 where
  grown : from ≤ to
  marked : Each (Marked text from to) (the_places ds)
  apart : all_differ (the_places ds) ≡ true

all_wider : (text : List ℕ) (from at to : ℕ) (xs : List ℕ) → from ≤ at → Each (Marked text at to) xs → Each (Marked text from to) xs
all_wider text from at to [] p h = tt
all_wider text from at to (x ∷ xs) p h = (wider text from at to to x h.0 p (omega arith), all_wider text from at to xs p h.1)

one_more : (text : List ℕ) (from at to : ℕ) (x : Declaration) (ds : List Declaration) → from ≤ at → MarkedIn text from at x → Declared text at to ds → Declared text from to (x ∷ ds)
one_more text from at to (declaration_.Fun o f ps t e) ds p m h =
    record { grown = omega (arith, p, h.grown); marked = all_wider text from at to (the_places ds) p h.marked; apart = h.apart }
one_more text from at to (declaration_.Var o v t e) ds p m h =
    record {
      grown = omega (arith, p, h.grown);
      marked = (wider text from from at to v.offset m (omega arith) h.grown, all_wider text from at to (the_places ds) p h.marked);
      apart = rw (no_member text from at to v.offset (the_places ds) m h.marked) h.apart;
    }

marked_wider : (text : List ℕ) (from at to : ℕ) (x : Declaration) → at ≤ to → MarkedIn text from at x → MarkedIn text from to x
marked_wider text from at to (declaration_.Var o v t e) p m = wider text from from to to v.offset (wider text from from at to v.offset m (omega arith) p) (omega arith) (omega arith)
marked_wider text from at to (declaration_.Fun o f ps t e) p m = tt

-- what stands before the variable of a declaration
abbrev beginning : Rule (Variable → Option ReadType → Tree → Declaration)
beginning = make declaration_.Var & place ◁ sign Prologue k.DeclareVariable ◁ operator k.Variable

module _ (text : List ℕ) (d : ℕ) where
  variable_marked : (from to : ℕ) (v : Variable) → Is text d variable from to v → Marked text from to v.offset
  unfolding variable
  variable_marked from to v j =
      let head = j.first in
      let first = head.first in
      let named = head.second.second.1 ∙ first.second.second.1 ∙ ap (λ f. f first.second.part) first.first.1 in
      record {
        mark = head.mid;
        behind = omega (arith, first.first.0, first.second.first.0, first.second.second.0);
        is =
            ap (λ (z : Variable). z.offset) (j.second.second.1 ∙ ap (λ f. f j.second.part) named)
            ∙ first.second.first.1 ∙ ap (λ p. start text p) (first.second.first.0 ∙ first.second.second.0);
        takes = (set_spans text Operand (one Operand k.Dollar) head.mid refl refl head.second.first.0).some;
        ends = omega (arith, head.second.first.2, head.second.second.0, grows text d (name Named) (record { test = refl }) j.mid j.second.mid j.second.part j.second.first, j.second.second.0);
      }

  beginning_keeps : Keeps (at_level text d) beginning (λ f. (v : Variable) (t : Option ReadType) (e : Tree) → At v.offset (f v t e))
  beginning_keeps = ended (ended (passed (gives (λ o v t e. refl))))

  var_decl_marked : (from to : ℕ) (x : Declaration) → Is text d l.var_decl from to x → MarkedIn text from to x
  unfolding l.var_decl
  var_decl_marked from to x i =
      let typed = i.first in
      let named = typed.first in
      let v = named.second.part in
      let whole = apply_passes var_decl_passes in
      let parts = apply_passes whole.0 in
      let begins = (apply_passes parts.0).0 in
      let is = i.second.second.1 ∙ ap (λ f. f i.second.part) (typed.second.second.1 ∙ ap (λ f. f typed.second.part) named.second.second.1) in
      let at = beginning_keeps.kept from named.mid named.part named.first v typed.second.part i.second.part in
      let marked = variable_marked named.mid named.second.mid v named.second.first in
      let before = grows text d beginning begins from named.mid named.part named.first in
      let type_grows = grows text d (maybe typ) parts.1 typed.mid typed.second.mid typed.second.part typed.second.first in
      let value_grows = grows text d l.initial whole.1 i.mid i.second.mid i.second.part i.second.first in
      marked_in text from to v.offset x (subst (λ z. At v.offset z) (sym is) at)
      (wider text from named.mid named.second.mid to v.offset marked before (omega (arith, named.second.second.0, type_grows, typed.second.second.0, value_grows, i.second.second.0)))

  fun_decl_keeps : Keeps (at_level text d) l.fun_decl (λ x. (from to : ℕ) → MarkedIn text from to x)
  unfolding l.fun_decl
  fun_decl_keeps = passed (passed (passed (ended (passed (ended (ended (passed (gives (λ o f ps t e from to. tt)))))))))

  -- a declaration without its semicolon
  abbrev either_declaration : Rule Declaration
  either_declaration = either (one Prologue k.DeclareVariable) l.var_decl (either (one Prologue k.DeclareFunction) l.fun_decl (left Prologue (k.LeftOut ∷ [])))

  either_marked : (from to : ℕ) (x : Declaration) → Is text d either_declaration from to x → MarkedIn text from to x
  either_marked from to x (inl i) = var_decl_marked from to x i
  either_marked from to x (inr (inl i)) = fun_decl_keeps.kept from to x i from to
  either_marked from to x (inr (inr i)) = absurd i

  declaration_marked : (from to : ℕ) (x : Declaration) → Is text d l.declaration from to x → MarkedIn text from to x
  unfolding l.declaration
  declaration_marked from to x i =
      let more = grows text d (operator k.Semicolon) (record { test = refl }) i.mid i.second.mid tt i.second.first in
      let m = marked_wider text from i.mid to i.part (omega (arith, more, i.second.second.0)) (either_marked from i.mid i.part i.first) in
      subst (λ z. MarkedIn text from to z) (sym i.second.second.1) m

  declared : (from to : ℕ) (ds : List Declaration) → g.IsMany (is language text d l.declaration) from to ds → Declared text from to ds
  declared from _ _ g.none = record { grown = omega arith; marked = tt; apart = refl }
  declared from to _ (g.more {mid = mid} {a = x} {as_ = ds} i m) =
      one_more text from mid to x ds (grows text d l.declaration declaration_passes from mid x i) (declaration_marked from mid x i) (declared mid to ds m)

  pub places_differ : Keeps (at_level text d) (many l.declaration) (λ ds. all_differ (the_places ds) ≡ true)
  places_differ = record { kept = λ from to ds i. (declared from to ds i).apart }
