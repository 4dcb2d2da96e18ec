-- What a call gives, from what its rule gives on the values of its arguments.
use Rattle.std.proofs.Common.{◌≡◌, ℕ, ◌+◌, Bool, List, [], ◌∷◌, Some, Result, Ok, Err, refl, sym, ap, ◌∙◌, subst, arith}
use Rattle.xq_base.specs.declared.item.Item.{Item as Held}
use Rattle.xq_base.specs.declared.code.Code.{Code}
use Rattle.xq_base.specs.declared.fun.Fun.{Fun}
use Rattle.xq_base.specs.Atoms.{TextAtom}
use Rattle.doc_table.specs.Items.{TextItem}
use Rattle.doc_table.specs.Stores.{Holdings}
use Rattle.doc_table.specs.StoredItems.{meanings}
use Rattle.doc_table.specs.Documents.{documents_in}
use Rattle.doc_table.specs.Functions.{fun_answer}
use Rattle.core_meaning.specs.Erasure.{Texts}
use Rattle.core_meaning.specs.PlainCore.{PlainCore, Lit, Call, no_cores, one_core}
use Rattle.core_meaning.specs.Expr as e
use Rattle.core_meaning.specs.ExprOf.{site_at}
use Rattle.core_meaning.specs.Size.{nodes}
use Rattle.core_meaning.specs.Meaning.{Env, value_in}
use Rattle.core_meaning.specs.Failures.{failure, faults_of, first}
use Rattle.query_engine.specs.declared.evaluate.Failed.{Failed}
use Rattle.query_engine.specs.declared.evaluate.EvalFault.{EvalFault}
use Rattle.query_engine.specs.declared.evaluate.EvalFault.TheVariants.{NoMemory, Reached}
use Rattle.query_engine.specs.declared.evaluate.Value.{Value as Found}
use Rattle.query_engine.specs.Evaluating.{told, FaultOf, IsValue, RuleGives, value_of, fails_of, CoreGives}
use Rattle.query_engine.proofs.FormFails.{fails-call}
use Rattle.query_engine.proofs.EvalLaws.{two, two_own, two_value}

same_failed : (e : Failed) (k o : ℕ) (d : Code) → e.site ≡ k → e.offset ≡ o → e.code ≡ d → record { site = k; offset = o; code = d } ≡ e
same_failed e k o d p q r = rw (sym p, sym q, sym r) refl

module _ (sums : Bool) (texts : Texts) (h : Holdings) where
  pub two_ruled : (n m k o : ℕ) (g : Fun) (a b : PlainCore) (env : Env) (xs ys : List Held) (r : Result Found EvalFault) → IsValue sums texts h (value_of sums texts h n a env) xs → m ≡ n + nodes a → IsValue sums texts h (value_of sums texts h m b env) ys → k ≡ m + nodes b → RuleGives sums texts h k o (fun_answer (documents_in texts h) g (meanings texts h xs ∷ meanings texts h ys ∷ [])) r → CoreGives sums texts h n (two sums texts h o g a b) env r
  two_ruled n m k o g a b env xs ys (Ok v) u i w j s = (two_value sums texts h n m o g a b env xs ys v.items.items u i w s.0 s.1, omega (arith, i, j, s.2))
  two_ruled n m k o g a b env xs ys (Err NoMemory) u i w j s = tt
  two_ruled n m k o g a b env xs ys (Err (Reached e)) u i w j s =
      subst (λ z. FaultOf (fails_of sums texts h n (two sums texts h o g a b) env) (Reached z)) (same_failed e k o e.code s.1 s.2 refl)
      (two_own sums texts h n m k o g a b env xs ys e.code u i w j s.0)

  -- a function of one literal text
  abbrev pub named : ℕ → ℕ → Fun → List ℕ → PlainCore
  named o q g t = Call o g (one_core (Lit q (TextAtom t)) no_cores)

  pub name_ruled : (n o q : ℕ) (g : Fun) (t : List ℕ) (env : Env) (r : Result Found EvalFault) → RuleGives sums texts h (n + 1) o (fun_answer (documents_in texts h) g ((TextItem t ∷ []) ∷ [])) r → CoreGives sums texts h n (named o q g t) env r
  name_ruled n o q g t env (Ok v) s = ((λ vec. ap value_in s.0, s.1), omega (arith, s.2))
  name_ruled n o q g t env (Err NoMemory) s = tt
  name_ruled n o q g t env (Err (Reached f)) s = λ vec.
      let place : n + (1 + 0) ≡ f.site = omega (arith, s.1) in
      ap (λ z. told (first z)) (fails-call (documents_in texts h) (site_at (n + (1 + 0)) o) (e.Apply g) (e.one_more (e.Lit (TextItem t)) e.no_more) env vec)
      ∙ ap (λ a. told (first (faults_of a (failure (site_at (n + (1 + 0)) o) vec)))) s.0 ∙ ap Some (same_failed f (n + (1 + 0)) o f.code (sym place) s.2 refl)
