-- A rule keeps a property: each value that it gives has it. A lemma for each way of putting rules together.
use Rattle.std.proofs.Common.{◌≡◌, ℕ, Bool, true, List, Option, inl, inr, sym, subst}
use Rattle.xq_ast.specs.Look.{Sym, stands_one}
use Rattle.xq_ast.specs.Phrases as g
use Rattle.xq_ast.specs.Phrases.{Phrase}
use Rattle.xq_ast.specs.Rules as rules
use Rattle.xq_ast.specs.Rules.{Rule, Ends, means, make, stands, apply, before, fit, chain, either, prefer, cut, ◌▷◌}
use Rattle.read_laws.proofs.Each.{Each, Perhaps}

-- a text, and what nests
pub record Over (S E : Type 0) : Type 1 where
  pub text : List ℕ
  pub single : Phrase S
  pub element : Phrase E

abbrev pub Is : {S E A : Type 0} → Over S E → Rule S E A → Phrase A
Is x r = means x.text x.single x.element r

pub record Keeps {S E A : Type 0} (x : Over S E) (r : Rule S E A) (Q : A → Type 0) : Type 0 where
  pub kept : (from to : ℕ) (a : A) → (Is x r).Is from to a → Q a

-- each value of a phrase has it
abbrev Gives : {A : Type 0} → Phrase A → (A → Type 0) → Type 0
Gives {A} R Q = (from to : ℕ) (a : A) → R.Is from to a → Q a

many_kept : {A : Type 0} (R : Phrase A) (Q : A → Type 0) → Gives R Q → Gives (g.many R) (Each Q)
many_kept R Q h from _ _ g.none = tt
many_kept R Q h from to _ (g.more {mid = mid} {a = a} {as_ = as_} i m) = (h from mid a i, many_kept R Q h mid to as_ m)

maybe_kept : {A : Type 0} (R : Phrase A) (Q : A → Type 0) → Gives R Q → Gives (g.maybe R) (Perhaps Q)
maybe_kept R Q h from _ _ g.without = tt
maybe_kept R Q h from to _ (g.with {a = a} i) = h from to a i

either_kept : {A : Type 0} (R T : Phrase A) (Q : A → Type 0) → Gives R Q → Gives T Q → Gives (g.one_of R T) Q
either_kept R T Q k l from to a (inl i) = k from to a i
either_kept R T Q k l from to a (inr i) = l from to a i

choice_kept : {A : Type 0} (test : ℕ → Bool) (R T : Phrase A) (Q : A → Type 0) → Gives R Q → Gives T Q → Gives (g.choice test R T) Q
choice_kept test R T Q k l from to a (inl i) = k i.mid to a i.second
choice_kept test R T Q k l from to a (inr i) = l i.mid to a i.second

module _ {S E : Type 0} {x : Over S E} where
  pub gives : {A : Type 0} {Q : A → Type 0} {a : A} → Q a → Keeps x (make a) Q
  gives {Q = Q} h = record { kept = λ from to b i. subst Q (sym i.1) h }

  pub stood : {A : Type 0} {Q : A → Type 0} {ss : List Sym} {end : Ends} {value : List ℕ → ℕ → A} → ((at : ℕ) → stands_one x.text ss at ≡ true → Q (value x.text at)) → Keeps x (stands ss end value) Q
  stood {Q = Q} h = record { kept = λ from to b i. subst Q (sym i.1) (h from i.0) }

  -- behind a part, one with a property, one of which nothing is asked, and one without value
  infixl 10 ◌&◌
  pub ◌&◌ : {A B : Type 0} {P : A → Type 0} {Q : B → Type 0} {r : Rule S E (A → B)} {s : Rule S E A} → Keeps x r (λ f. (a : A) → P a → Q (f a)) → Keeps x s P → Keeps x (apply r s) Q
  ◌&◌ {Q = Q} k l = record {
    kept = λ from to b i.
        subst Q (sym i.second.second.1) (k.kept from i.mid i.part i.first i.second.part (l.kept i.mid i.second.mid i.second.part i.second.first));
  }

  pub passed : {A B : Type 0} {Q : B → Type 0} {r : Rule S E (A → B)} {s : Rule S E A} → Keeps x r (λ f. (a : A) → Q (f a)) → Keeps x (apply r s) Q
  passed {Q = Q} k = record { kept = λ from to b i. subst Q (sym i.second.second.1) (k.kept from i.mid i.part i.first i.second.part) }

  pub ended : {A B : Type 0} {Q : A → Type 0} {r : Rule S E A} {s : Rule S E B} → Keeps x r Q → Keeps x (before r s) Q
  ended {Q = Q} k = record { kept = λ from to b i. subst Q (sym i.second.second.1) (k.kept from i.mid i.part i.first) }

  -- the value of the second
  pub begun : {A B : Type 0} {Q : B → Type 0} {r : Rule S E A} {s : Rule S E B} → Keeps x s Q → Keeps x (r ▷ s) Q
  begun {Q = Q} k = ended (gives (λ a h. h)) & k

  pub fitted : {A B : Type 0} {P : A → Type 0} {Q : B → Type 0} {f : A → Option B} {r : Rule S E A} → Keeps x r P → ((a : A) → P a → Perhaps Q (f a)) → Keeps x (fit f r) Q
  fitted {Q = Q} k h = record { kept = λ from to b i. subst (λ o. Perhaps Q o) i.second.1 (h i.part (k.kept from i.mid i.part i.first)) }

  pub many : {A : Type 0} {Q : A → Type 0} {r : Rule S E A} → Keeps x r Q → Keeps x (rules.many r) (Each Q)
  many {Q = Q} {r = r} k = record { kept = many_kept (Is x r) Q k.kept }

  pub maybe : {A : Type 0} {Q : A → Type 0} {r : Rule S E A} → Keeps x r Q → Keeps x (rules.maybe r) (Perhaps Q)
  maybe {Q = Q} {r = r} k = record { kept = maybe_kept (Is x r) Q k.kept }

  -- a part, and any number of them behind operators
  pub chained : {A B C O : Type 0} {P : A → Type 0} {PB : B → Type 0} {Q : C → Type 0} {f : A → List B → C} {op_of : O → A → B} {op : Rule S E O} {r : Rule S E A}
      → Keeps x r P → ((o : O) (a : A) → P a → PB (op_of o a)) → ((a : A) → P a → (bs : List B) → Each PB bs → Q (f a bs)) → Keeps x (chain f op_of op r) Q
  chained {Q = Q} {f = f} {op_of = op_of} {op = op} {r = r} k h t =
      let whole : Keeps x (apply (apply (make f) r) (rules.many (apply (apply (make op_of) op) r))) Q = gives t & k & many (passed (gives h) & k) in
      record { kept = λ from to c i. whole.kept from to c i }

  pub or : {A : Type 0} {Q : A → Type 0} {ss : List Sym} {r s : Rule S E A} → Keeps x r Q → Keeps x s Q → Keeps x (either ss r s) Q
  or {Q = Q} {r = r} {s = s} k l = record { kept = either_kept (Is x r) (Is x s) Q k.kept l.kept }

  pub elsewhere : {A : Type 0} {Q : A → Type 0} {ss : List Sym} {r s : Rule S E A} → Keeps x r Q → Keeps x s Q → Keeps x (prefer ss r s) Q
  elsewhere {Q = Q} {ss = ss} {r = r} {s = s} k l = record { kept = choice_kept (stands_one x.text ss) (Is x r) (Is x s) Q k.kept l.kept }

  pub never : {A : Type 0} {Q : A → Type 0} {why : g.Why} {ss : List Sym} {end : Ends} → Keeps x (cut why ss end) Q
  never = record { kept = λ from to a i. absurd i }

  pub together : {A : Type 0} {P Q : A → Type 0} {r : Rule S E A} → Keeps x r P → Keeps x r Q → Keeps x r (λ a. P a × Q a)
  together k l = record { kept = λ from to a i. (k.kept from to a i, l.kept from to a i) }
