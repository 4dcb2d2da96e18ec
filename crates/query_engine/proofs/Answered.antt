-- What a query's Core answers, from what its evaluation gives and what is written of its value.
use Rattle.std.proofs.Common.{◌≡◌, ℕ, Bool, true, false, ◌||◌, List, [], ◌∷◌, Option, Some, None, Ok, Err, refl, sym, ap, ◌∙◌, subst}
use Rattle.std.specs.declared.vec.Vec.{Vec}
use Rattle.std.specs.declared.alloc.Global.{Global}
use Rattle.xq_base.specs.declared.item.Item.{Item as Held}
use Rattle.xq_base.specs.declared.item.Item.TheVariants as i
use Rattle.xq_base.specs.declared.code.Code.TheVariants as c
use Rattle.doc_table.specs.Stores.{Holdings}
use Rattle.doc_table.specs.StoredItems.{meanings, ItemsGiven}
use Rattle.doc_table.specs.Documents.{documents_in}
use Rattle.core_meaning.specs.declared.node.Core.{Core}
use Rattle.core_meaning.specs.Erasure.{Texts, core_of}
use Rattle.core_meaning.specs.ExprOf.{expr_of}
use Rattle.core_meaning.specs.PlainCore.{PlainCore}
use Rattle.core_meaning.specs.Meaning.{no_variables}
use Rattle.core_meaning.specs.Failures.{Failure, fails, first}
use Rattle.xq_serial.specs.Answer as serial
use Rattle.xq_serial.specs.declared.fault.SerialFault.TheVariants.{Attribute}
use Rattle.query_engine.specs.declared.evaluate.Failed.{Failed}
use Rattle.query_engine.specs.declared.evaluate.EvalFault.TheVariants.{Reached}
use Rattle.query_engine.specs.declared.evaluate.Value.{Value}
use Rattle.query_engine.specs.Evaluated.{has_forms, CanEvaluate, Runs}
use Rattle.query_engine.specs.Evaluating.{AllFit, told, FaultOf, fails_of, CoreGives}
use Rattle.query_engine.specs.Answering.{IsAnswer, IsFailing, evaluation, attribute}
use Rattle.query_engine.proofs.EvalLaws.{calm}
use Rattle.query_engine.proofs.Turning.{told_is}

-- the one of two kinds of forms
chosen : (b : Bool) (f : Bool → Bool) → b ≡ f true → (f true || f false) ≡ true → f b ≡ true
chosen true f e p = sym e
chosen false f e p = by (f true) (f false) (sym e) p
  where
    by : (u v : Bool) → u ≡ false → (u || v) ≡ true → v ≡ true
    by true v e p = cc
    by false v e p = p

pub runs_chosen : (sums : Bool) (texts : Texts) (core : Core) → sums ≡ has_forms true (core_of texts core) → CanEvaluate texts core → Runs sums texts core
runs_chosen sums texts core e can = record { forms = chosen sums (λ b. has_forms b (core_of texts core)) e can.forms; fixed = can.fixed }

pub all_given : (sums : Bool) (texts : Texts) (h : Holdings) (items : List Held) → AllFit sums h items → ItemsGiven texts h items
all_given sums texts h [] p = tt
all_given sums texts h (i.Int n ∷ xs) p = (tt, all_given sums texts h xs p.1)
all_given sums texts h (i.Str id ∷ xs) p = absurd p.0
all_given sums texts h (i.Untyped id ∷ xs) p = absurd p.0
all_given sums texts h (i.Bool b ∷ xs) p = absurd p.0
all_given sums texts h (i.Node r ∷ xs) p = (p.0.1, all_given sums texts h xs p.1)

module _ (sums : Bool) (texts : Texts) (h : Holdings) (core : PlainCore) where
  pub writes : (v : Value) (items : List Held) (bytes : Vec ℕ Global) → CoreGives sums texts h 0 core no_variables (Ok v) → items ≡ v.items.items → serial.Answers (meanings texts h items) (Ok bytes) → IsAnswer (documents_in texts h) (expr_of core) bytes.items
  writes v items bytes g e a =
      let value = g.0.0 [] ∙ ap (λ xs. Some (meanings texts h xs)) (sym e) in
      record { items = meanings texts h items; value = value; calm = calm (documents_in texts h) (expr_of core) no_variables [] (meanings texts h items) value; plain = a.0; bytes_are = a.1 }

  pub holds_attribute : (v : Value) (items : List Held) (place : ℕ) → CoreGives sums texts h 0 core no_variables (Ok v) → items ≡ v.items.items → serial.Answers (meanings texts h items) (Err (Attribute place)) → IsFailing (documents_in texts h) (expr_of core) c.SENR0001 None
  holds_attribute v items place g e a =
      let value = g.0.0 [] ∙ ap (λ xs. Some (meanings texts h xs)) (sym e) in
      attribute (meanings texts h items) place value (calm (documents_in texts h) (expr_of core) no_variables [] (meanings texts h items) value) a

  pub fails_first : (f : Failed) → FaultOf (fails_of sums texts h 0 core no_variables) (Reached f) → IsFailing (documents_in texts h) (expr_of core) f.code (Some f.offset)
  fails_first f t = by (first (fails (documents_in texts h) (expr_of core) no_variables [])) refl (t [])
    where
      by : (o : Option Failure) → first (fails (documents_in texts h) (expr_of core) no_variables []) ≡ o → told o ≡ Some f → IsFailing (documents_in texts h) (expr_of core) f.code (Some f.offset)
      by None e p = cc
      by (Some g) e p = subst (λ (z : Failed). IsFailing (documents_in texts h) (expr_of core) z.code (Some z.offset)) (told_is g f p) (evaluation g e)
