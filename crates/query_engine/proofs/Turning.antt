-- What the turns of a loop have found: at the start, after one turn more, and at the end.
use Rattle.std.proofs.Common.{◌≡◌, ℕ, ℤ, pos, zero, suc, ◌+◌, ◌<◌, ◌≤◌, Bool, true, false, cond, List, [], ◌∷◌, ◌++◌, Option, Some, None, Result, Ok, Err, refl, sym, ap, ◌∙◌, subst, append_assoc, get_or, drop, length, arith}
use Rattle.std.proofs.lemmas.List.{append-nil, drop_all, get_or_default}
use Rattle.std.specs.declared.vec.Vec.{Vec}
use Rattle.std.specs.declared.alloc.Global.{Global}
use Rattle.xq_base.specs.declared.item.Item.{Item as Held}
use Rattle.xq_base.specs.declared.item.Item.TheVariants as i
use Rattle.xq_base.specs.Texts.{Text}
use Rattle.doc_table.specs.Items.{Item, item_of}
use Rattle.doc_table.specs.Values.{Items}
use Rattle.doc_table.specs.Stores.{Holdings}
use Rattle.doc_table.specs.StoredItems.{meanings, trees_of}
use Rattle.doc_table.specs.Documents.{documents_in}
use Rattle.core_meaning.specs.Erasure.{Texts}
use Rattle.core_meaning.specs.PlainCore.{PlainCore}
use Rattle.core_meaning.specs.ExprOf.{expr_from}
use Rattle.core_meaning.specs.Meaning.{Env, in_loop, deeper, both, each_from}
use Rattle.core_meaning.specs.Reached.{all_from}
use Rattle.core_meaning.specs.Failures.{Failure, first, is_before, lesser}
use Rattle.query_engine.specs.declared.evaluate.Failed.{Failed}
use Rattle.query_engine.specs.declared.evaluate.EvalFault.{EvalFault}
use Rattle.query_engine.specs.declared.evaluate.EvalFault.TheVariants.{NoMemory, Reached}
use Rattle.query_engine.specs.declared.evaluate.Found.{Found}
use Rattle.query_engine.specs.declared.evaluate.Found.TheVariants as f
use Rattle.query_engine.specs.declared.evaluate.Value.{Value}
use Rattle.query_engine.specs.Evaluating.{Bound, env_of, Fits, AllFit, failed_of, told, lesser_failed, CoreGives, TurnsGive, SoFar, IsStep, turn_value, turn_fails}
use Rattle.query_engine.proofs.Drops.{drop_item}
use Rattle.query_engine.proofs.Firsts.{merged, first-append}
use Rattle.query_engine.proofs.EvalLaws.{calm, all_fit, meanings_append}

module _ {A : Type 0} where
  both_nothing : (o : Option (List A)) → o ≡ both (Some []) o
  both_nothing None = refl
  both_nothing (Some a) = refl

  both_end : (a : List A) → both (Some a) (Some []) ≡ Some a
  both_end a = ap Some (append-nil a)

  both_more : (a b : List A) (o : Option (List A)) → both (Some a) (both (Some b) o) ≡ both (Some (a ++ b)) o
  both_more a b None = refl
  both_more a b (Some c) = ap Some (sym (append_assoc a b c))

-- ---- the lesser of two failures, as it is told

told_chosen : (b : Bool) (g e : Failure) → failed_of (cond b g e) ≡ cond b (failed_of g) (failed_of e)
told_chosen true g e = refl
told_chosen false g e = refl

told_lesser : (e g : Failure) → failed_of (lesser e g) ≡ lesser_failed (failed_of e) (failed_of g)
told_lesser e g = told_chosen (is_before g e) g e

pub told_is : (f : Failure) (g : Failed) → told (Some f) ≡ Some g → failed_of f ≡ g
told_is f g e = cc

told_both : (fs gs : List Failure) (e g : Failed) → told (first fs) ≡ Some e → told (first gs) ≡ Some g → told (first (fs ++ gs)) ≡ Some (lesser_failed e g)
told_both fs gs e g p q = ap told (first-append fs gs) ∙ by (first fs) (first gs) p q
  where
    by : (a b : Option Failure) → told a ≡ Some e → told b ≡ Some g → told (merged a b) ≡ Some (lesser_failed e g)
    by None b p q = cc
    by (Some a) None p q = cc
    by (Some a) (Some b) p q = ap Some (told_lesser a b ∙ ap (λ z. lesser_failed z (failed_of b)) (told_is a e p) ∙ ap (lesser_failed e) (told_is b g q))

-- the answer of a loop, from what all turns found
abbrev pub IsEnd : Found → Result (Vec Held Global) EvalFault → Type 0
IsEnd (f.Items v) (Ok w) = v.items ≡ w.items
IsEnd (f.Items v) (Err e) = ⊥
IsEnd (f.Failing g) (Ok w) = ⊥
IsEnd (f.Failing g) (Err NoMemory) = ⊥
IsEnd (f.Failing g) (Err (Reached e)) = g ≡ e

module _ (sums : Bool) (texts : Texts) (h : Holdings) (n : ℕ) (body : PlainCore) (x p : ℕ) (env : Env) where
  abbrev Before : Items → ℕ → Items → Found → Type 0
  Before all k rest found = SoFar sums texts h n body x p env all k rest found

  abbrev turn_of : List ℕ → ℕ → Item Text → Option Items
  turn_of vec k i = turn_value sums texts h n body x p env vec k i

  abbrev failing_of : List ℕ → ℕ → Item Text → List Failure
  failing_of vec k i = turn_fails sums texts h n body x p env vec k i

  -- no turn yet
  pub no_turn : (all : Items) (v : Vec Held Global) → v.items ≡ [] → Before all 1 all (f.Items v)
  no_turn all v e =
      (λ vec. both_nothing (each_from (turn_of vec) 1 all) ∙ ap (λ xs. both (Some (meanings texts h xs)) (each_from (turn_of vec) 1 all)) (sym e), λ vec. refl, subst (AllFit sums h) (sym e) tt)

  -- all turns
  pub all_turns : (items : List Held) (k : ℕ) (found : Found) (r : Result (Vec Held Global) EvalFault) → Before (meanings texts h items) k [] found → IsEnd found r → TurnsGive sums texts h n body x p env items r
  all_turns items k (f.Items v) (Ok w) s e =
      (λ vec. s.0 vec ∙ both_end (meanings texts h v.items) ∙ ap (λ z. Some (meanings texts h z)) e, subst (AllFit sums h) e s.2)
  all_turns items k (f.Items v) (Err e) s i = absurd i
  all_turns items k (f.Failing g) (Ok w) s i = absurd i
  all_turns items k (f.Failing g) (Err NoMemory) s e = absurd e
  all_turns items k (f.Failing g) (Err (Reached e)) s i = λ vec.
      let t = s vec in
      ap (λ z. told (first z)) (t.1 ∙ append-nil t.0) ∙ t.2 ∙ ap Some i

  -- nothing fails in a turn that has items
  turn_calm : (k : ℕ) (i : Item Text) (vec : List ℕ) (v : Items) → turn_of vec k i ≡ Some v → failing_of vec k i ≡ []
  turn_calm k i vec v e = calm (documents_in texts h) (expr_from n body) (in_loop x p env k i) (deeper vec k) v e

  abbrev Turn : ℕ → Item Text → Result Value EvalFault → Type 0
  Turn k i turn = CoreGives sums texts h n body (in_loop x p env k i) turn

  items_items : (all rest : Items) (k : ℕ) (i : Item Text) (v w : Vec Held Global) (t : Value) → Before all k (i ∷ rest) (f.Items v) → w.items ≡ v.items ++ t.items.items → Turn k i (Ok t) → Before all (k + 1) rest (f.Items w)
  items_items all rest k i v w t s e g = (
    λ vec. s.0 vec ∙ ap (λ o. both (Some (meanings texts h v.items)) (both o (each_from (turn_of vec) (k + 1) rest))) (g.0.0 (deeper vec k))
        ∙ both_more (meanings texts h v.items) (meanings texts h t.items.items) (each_from (turn_of vec) (k + 1) rest)
        ∙ ap (λ z. both (Some z) (each_from (turn_of vec) (k + 1) rest)) (sym (meanings_append sums texts h v.items t.items.items) ∙ ap (meanings texts h) (sym e)),
    λ vec. s.1 vec ∙ ap (λ z. z ++ all_from (failing_of vec) (k + 1) rest) (turn_calm k i vec (meanings texts h t.items.items) (g.0.0 (deeper vec k))),
    subst (AllFit sums h) (sym e) (all_fit sums texts h v.items t.items.items s.2 g.0.1),
  )

  items_fault : (all rest : Items) (k : ℕ) (i : Item Text) (v : Vec Held Global) (e : Failed) → Before all k (i ∷ rest) (f.Items v) → Turn k i (Err (Reached e)) → Before all (k + 1) rest (f.Failing e)
  items_fault all rest k i v e s g = λ vec. (failing_of vec k i, s.1 vec, g (deeper vec k))

  fault_items : (all rest : Items) (k : ℕ) (i : Item Text) (e : Failed) (t : Value) → Before all k (i ∷ rest) (f.Failing e) → Turn k i (Ok t) → Before all (k + 1) rest (f.Failing e)
  fault_items all rest k i e t s g = λ vec.
      let u = s vec in
      (u.0, u.1 ∙ ap (λ z. u.0 ++ (z ++ all_from (failing_of vec) (k + 1) rest)) (turn_calm k i vec (meanings texts h t.items.items) (g.0.0 (deeper vec k))), u.2)

  fault_fault : (all rest : Items) (k : ℕ) (i : Item Text) (e d : Failed) → Before all k (i ∷ rest) (f.Failing e) → Turn k i (Err (Reached d)) → Before all (k + 1) rest (f.Failing (lesser_failed e d))
  fault_fault all rest k i e d s g = λ vec.
      let u = s vec in
      (u.0 ++ failing_of vec k i, u.1 ∙ sym (append_assoc u.0 (failing_of vec k i) (all_from (failing_of vec) (k + 1) rest)), told_both u.0 (failing_of vec k i) e d u.2 (g (deeper vec k)))

  -- one turn more
  pub next_turn : (all rest : Items) (k : ℕ) (i : Item Text) (found new : Found) (turn : Result Value EvalFault) → Before all k (i ∷ rest) found → IsStep found turn new → Turn k i turn → Before all (k + 1) rest new
  next_turn all rest k i found new (Err NoMemory) s e g = absurd e
  next_turn all rest k i (f.Items v) (f.Items w) (Ok t) s e g = items_items all rest k i v w t s e g
  next_turn all rest k i (f.Items v) (f.Failing d) (Ok t) s e g = absurd e
  next_turn all rest k i (f.Items v) new (Err (Reached d)) s e g = subst (Before all (k + 1) rest) (sym e) (items_fault all rest k i v d s g)
  next_turn all rest k i (f.Failing d) new (Ok t) s e g = subst (Before all (k + 1) rest) (sym e) (fault_items all rest k i d t s g)
  next_turn all rest k i (f.Failing c) new (Err (Reached d)) s e g = subst (Before all (k + 1) rest) (sym e) (fault_fault all rest k i c d s g)

  -- the items from one turn on
  pub at_turn : (items : List Held) (at : ℕ) (d : Held) (found : Found) → at < length items → Before (meanings texts h items) (at + 1) (meanings texts h (drop at items)) found → Before (meanings texts h items) (at + 1) (item_of texts (trees_of h) (get_or items at d) ∷ meanings texts h (drop (at + 1) items)) found
  at_turn items at d found l s =
      subst (λ xs. Before (meanings texts h items) (at + 1) (meanings texts h xs) found) (drop_item items at (get_or items at d) l (get_or_default items at d (get_or items at d) l)) s

  pub after_turns : (items : List Held) (at : ℕ) (found new : Found) → length items ≤ at → found ≡ new → Before (meanings texts h items) (at + 1) (meanings texts h (drop at items)) found → Before (meanings texts h items) (at + 1) [] new
  after_turns items at found new l e s =
      subst (Before (meanings texts h items) (at + 1) []) e (subst (λ xs. Before (meanings texts h items) (at + 1) (meanings texts h xs) found) (drop_all at items l) s)

pub fits_at : (sums : Bool) (h : Holdings) (items : List Held) (at : ℕ) (d : Held) → AllFit sums h items → at < length items → Fits sums h (get_or items at d)
fits_at sums h [] at d p l = absurd (omega arith)
fits_at sums h (x ∷ xs) zero d p l = p.0
fits_at sums h (x ∷ xs) (suc at) d p l = fits_at sums h xs at d p.1 (omega arith)

-- the bindings of one turn
pub turn_env : (texts : Texts) (h : Holdings) (env outer inner : List Bound) (x p k : ℕ) (item : Held) (xs ps : List Held) (place : ℤ) → xs ≡ item ∷ [] → ps ≡ i.Int place ∷ [] → place ≡ pos k → outer ≡ (x, xs) ∷ env → inner ≡ (p, ps) ∷ outer → env_of texts h inner ≡ in_loop x p (env_of texts h env) k (item_of texts (trees_of h) item)
turn_env texts h env outer inner x p k item xs ps place e f g o q =
    ap (env_of texts h) (q ∙ ap (λ (z : List Bound). (p, ps) ∷ z) o ∙ ap (λ z. (p, ps) ∷ (x, z) ∷ env) e ∙ ap (λ z. (p, z) ∷ (x, item ∷ []) ∷ env) (f ∙ ap (λ z. i.Int z ∷ []) g))
