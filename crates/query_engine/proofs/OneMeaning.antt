-- A text has at most one meaning.
use Rattle.std.proofs.Common.{◌≡◌, ℕ, List, true, false, Option, Some, None, inl, inr, refl, sym, ap, ◌∙◌, subst, arith}
use Rattle.xq_base.specs.declared.code.Code.{Code}
use Rattle.doc_table.specs.NodeRules.{Docs}
use Rattle.core_meaning.specs.PlainCore.{PlainCore}
use Rattle.core_scope.specs.Leaves.{query_read}
use Rattle.core_scope.specs.Refusals.{Scoped}
use Rattle.core_scope.specs.Refusals as scope
use Rattle.core_scope.specs.Syn.{Query, read, resolved}
use Rattle.core_scope.proofs.OneScoping.{one_scoping}
use Rattle.core_normal.specs.Limits.{Normal, Normalises}
use Rattle.core_normal.specs.Limits as limits
use Rattle.core_meaning.specs.ExprOf.{expr_of}
use Rattle.core_meaning.specs.Expr.{Expr}
use Rattle.core_meaning.specs.Failures.{Failure, first}
use Rattle.xq_ast.specs.Phrases.{Why, deep, left_out}
use Rattle.xq_ast.specs.Query.{Reading, Reads, IsLeastCut, tree, cut, no_query}
use Rattle.xq_parser.proofs.Query.{one_tree}
use Rattle.xq_serial.specs.Ser.{ser, attribute_place}
use Rattle.query_engine.specs.Answering.{Static, refused, accepted, of_normal, IsOfScoped, IsOfQuery, IsOfReading, IsStatic, Accepts, IsRefused, IsAccepted, IsAnswer, IsFailing, evaluation, attribute, Meaning, Refuses, Fails, Writes, Means}

one_why : (text : List ℕ) (v w : Why) (place : ℕ) → IsLeastCut text v place → IsLeastCut text w place → v ≡ w
one_why text deep deep place a b = refl
one_why text deep left_out place a b = sym (b.deep_first a.cut)
one_why text left_out deep place a b = a.deep_first b.cut
one_why text left_out left_out place a b = refl

one_cut : (text : List ℕ) (v w : Why) (m n : ℕ) → IsLeastCut text v m → IsLeastCut text w n → cut v m ≡ cut w n
one_cut text v w m n a b =
    let same : m ≡ n = omega (arith, a.least w n b.cut, b.least v m a.cut) in
    ap (λ x. cut x m) (one_why text v w m a (subst (IsLeastCut text w) (sym same) b)) ∙ ap (cut w) same

both_ways : {b : _} → b ≡ true → b ≡ false → ⊥
both_ways t f = let x = sym t ∙ f in cc

-- a text is read in one way
pub one_reading : (text : List ℕ) (a b : Reading) → Reads text a → Reads text b → a ≡ b
one_reading text (tree q) (tree r) a b = ap tree (one_tree text q r a.1 b.1)
one_reading text (tree q) (cut v m) a b = absurd (a.2 v m b.1.cut)
one_reading text (tree q) no_query a (inl f) = absurd (both_ways a.0 f)
one_reading text (tree q) no_query a (inr n) = absurd (n.no_tree q a.1)
one_reading text (cut v m) (tree r) a b = absurd (b.2 v m a.1.cut)
one_reading text (cut v m) (cut w n) a b = one_cut text v w m n a.1 b.1
one_reading text (cut v m) no_query a (inl f) = absurd (both_ways a.0 f)
one_reading text (cut v m) no_query a (inr n) = absurd (n.no_cut v m a.1.cut)
one_reading text no_query (tree r) (inl f) b = absurd (both_ways b.0 f)
one_reading text no_query (tree r) (inr n) b = absurd (n.no_tree r b.1)
one_reading text no_query (cut w n) (inl f) b = absurd (both_ways b.0 f)
one_reading text no_query (cut w n) (inr x) b = absurd (x.no_cut w n b.1.cut)
one_reading text no_query no_query a b = refl

one_normal : (q : Query resolved) (n m : Normal) → Normalises q n → Normalises q m → n ≡ m
one_normal q (limits.core x) (limits.core y) a b = ap limits.core (a.1 ∙ sym b.1)
one_normal q (limits.core x) (limits.too_large n m) a b = absurd (both_ways b.0 a.0)
one_normal q (limits.too_large n m) (limits.core y) a b = absurd (both_ways a.0 b.0)
one_normal q (limits.too_large n m) (limits.too_large k l) a b = ap (λ x. limits.too_large x m) (a.1 ∙ sym b.1) ∙ ap (limits.too_large k) (a.2 ∙ sym b.2)

of_scoped : (x : Scoped) (s t : Static) → IsOfScoped x s → IsOfScoped x t → s ≡ t
of_scoped (scope.refusal r) s t a b = a ∙ sym b
of_scoped (scope.accepted q) s t a b = a.2 ∙ ap of_normal (one_normal q a.0 b.0 a.1 b.1) ∙ sym b.2

of_query : (q : Query read) (s t : Static) → IsOfQuery q s → IsOfQuery q t → s ≡ t
of_query q s t a b = of_scoped a.0 s t a.2 (subst (λ x. IsOfScoped x t) (one_scoping q b.0 a.0 b.1 a.1) b.2)

of_reading : (r : Reading) (s t : Static) → IsOfReading r s → IsOfReading r t → s ≡ t
of_reading no_query s t a b = a ∙ sym b
of_reading (cut deep place) s t a b = a ∙ sym b
of_reading (cut left_out place) s t a b = a ∙ sym b
of_reading (tree q) s t a b = of_query (query_read q) s t a b

one_static : (text : List ℕ) (s t : Static) → IsStatic text s → IsStatic text t → s ≡ t
one_static text s t a b = of_reading a.reading s t a.is (subst (λ x. IsOfReading x t) (one_reading text b.reading a.reading b.read a.read) b.is)

one_core : (text : List ℕ) (e f : PlainCore) → IsAccepted text e → IsAccepted text f → e ≡ f
one_core text e f a b = let x = one_static text (accepted e) (accepted f) a b in cc

some_same : {A : Type 0} (x y : A) → Some x ≡ Some y → x ≡ y
some_same x y e = cc

none_some : {A : Type 0} (x : A) → ◌≡◌ {A = Option A} None (Some x) → ⊥
none_some x e = cc

refused_or_accepted : (text : List ℕ) (code : Code) (place : Option ℕ) (e : PlainCore) → IsRefused text code place → IsAccepted text e → ⊥
refused_or_accepted text code place e r a = let x = one_static text (refused code place) (accepted e) r a in cc

pub refused_or_accepts : (text : List ℕ) (code : Code) (place : Option ℕ) → IsRefused text code place → Accepts text → ⊥
refused_or_accepts text code place r a = refused_or_accepted text code place a.0 r a.1

one_refusal : (text : List ℕ) (b d : Code) (p q : Option ℕ) → IsRefused text b p → IsRefused text d q → Refuses b p ≡ Refuses d q
one_refusal text b d p q r s = let x = one_static text (refused b p) (refused d q) r s in cc

one_failure : (docs : Docs) (e : Expr) (c d : Code) (p q : Option ℕ) → IsFailing docs e c p → IsFailing docs e d q → Fails c p ≡ Fails d q
one_failure docs e b d p q (evaluation f first_f) (evaluation g first_g) = ap (λ (x : Failure). Fails x.code (Some x.site.offset)) (some_same f g (sym first_f ∙ first_g))
one_failure docs e b d p q (evaluation f first_f) (attribute items at value calm place) = absurd (none_some f (sym (ap first calm) ∙ first_f))
one_failure docs e b d p q (attribute items at value calm place) (evaluation f first_f) = absurd (none_some f (sym (ap first calm) ∙ first_f))
one_failure docs e b d p q (attribute items at value calm place) (attribute items' at' value' calm' place') = refl

fails_or_writes : (docs : Docs) (e : Expr) (c : Code) (p : Option ℕ) (bytes : List ℕ) → IsFailing docs e c p → IsAnswer docs e bytes → ⊥
fails_or_writes docs e c p bytes (evaluation f first_f) a = none_some f (sym (ap first a.calm) ∙ first_f)
fails_or_writes docs e c p bytes (attribute items at value calm place) a =
    none_some at (sym a.plain ∙ ap attribute_place (sym (some_same items a.items (sym value ∙ a.value))) ∙ place)

one_answer : (docs : Docs) (e : Expr) (x y : List ℕ) → IsAnswer docs e x → IsAnswer docs e y → Writes x ≡ Writes y
one_answer docs e x y a b =
    let same : a.items ≡ b.items = some_same _ _ (sym a.value ∙ b.value) in
    ap Writes (a.bytes_are ∙ ap ser same ∙ sym b.bytes_are)

pub one_meaning : (docs : Docs) (text : List ℕ) (a b : Meaning) → Means docs text a → Means docs text b → a ≡ b
one_meaning docs text (Refuses b p) (Refuses d q) m n = one_refusal text b d p q m n
one_meaning docs text (Refuses b p) (Fails d q) m n = absurd (refused_or_accepted text b p n.0 m n.1)
one_meaning docs text (Refuses b p) (Writes y) m n = absurd (refused_or_accepted text b p n.0 m n.1)
one_meaning docs text (Fails b p) (Refuses d q) m n = absurd (refused_or_accepted text d q m.0 n m.1)
one_meaning docs text (Fails b p) (Fails d q) m n = one_failure docs (expr_of m.0) b d p q m.2 (subst (λ x. IsFailing docs (expr_of x) d q) (one_core text n.0 m.0 n.1 m.1) n.2)
one_meaning docs text (Fails b p) (Writes y) m n = absurd (fails_or_writes docs (expr_of m.0) b p y m.2 (subst (λ x. IsAnswer docs (expr_of x) y) (one_core text n.0 m.0 n.1 m.1) n.2))
one_meaning docs text (Writes x) (Refuses d q) m n = absurd (refused_or_accepted text d q m.0 n m.1)
one_meaning docs text (Writes x) (Fails d q) m n = absurd (fails_or_writes docs (expr_of n.0) d q x n.2 (subst (λ z. IsAnswer docs (expr_of z) x) (one_core text m.0 n.0 m.1 n.1) m.2))
one_meaning docs text (Writes x) (Writes y) m n = one_answer docs (expr_of m.0) x y m.2 (subst (λ z. IsAnswer docs (expr_of z) y) (one_core text n.0 m.0 n.1 m.1) n.2)
