-- What is gathered of a whole query.
use Rattle.std.proofs.Common.{◌≡◌, refl, sym, ap, ◌∙◌, ℕ, ◌+◌, length, drop, map, List, [], ◌∷◌, ◌++◌, Option, None}
use Rattle.xq_base.specs.declared.code.Code.TheVariants as code
use Rattle.xq_ast.specs.declared.node.AsRead.{AsRead}
use Rattle.xq_ast.specs.declared.query.Declaration.TheVariants as declaration_
use Rattle.xq_ast.specs.Trees.{Tree, Declaration, Query}
use Rattle.core_scope.specs.declared.refusal.Refusal.{Refusal}
use Rattle.core_scope.specs.Erasure.{version_of}
use Rattle.core_scope.specs.Leaves.{read_leaves, syn_read, query_read}
use Rattle.core_scope.specs.Names.{Scope, Signature, no_names}
use Rattle.core_scope.specs.Walk.{refused, walk}
use Rattle.core_scope.specs.Prolog as prolog
use Rattle.core_scope.specs.Prolog.{Told, signature_of, signatures, behind_prolog, setter_refusals, version_refusals, told_refusals, all_told, body_facts}
use Rattle.core_scope.specs.Refusals.{first_from, first_of, told_functions}
use Rattle.core_scope.specs.Open.{none_open}
use Rattle.core_scope.specs.Kept.{only_first}
use Rattle.core_scope.specs.Gathering.{Gathered, none_gathered, Passed, none_passed, passed, passed_all, told_variable, with_body, signatures_at, gained, value_calls}
use Rattle.core_scope.specs.Whole.{gathered_of}
use Rattle.core_scope.proofs.Keeping.{first_append}
use Rattle.core_scope.proofs.Told.{back}
use Rattle.core_scope.proofs.Passing.{params, declarations, gathered_law, signature_law, length_more}
use Rattle.core_scope.proofs.Gathers.{gather_law}

pub setters_start : (os : List ℕ) → map (refused code.XQST0068) (drop 1 os) ≡ setter_refusals os
setters_start [] = refl
setters_start (o ∷ os) = refl

pub signatures_law : (ds : List Declaration) → signatures_at ds ≡ signatures (declarations ds)
signatures_law [] = refl
signatures_law (declaration_.Var at v ty e ∷ ds) = signatures_law ds
signatures_law (declaration_.Fun at n xs ty e ∷ ds) = ap (λ s. s ∷ signatures_at ds) (sym (signature_law n xs)) ∙ ap (λ z. signature_of n.text (params xs) ∷ z) (signatures_law ds)

-- the variables that are visible behind the declarations
scope_law : (fs : List Signature) (ds : List Declaration) (p : Passed) → ((passed_all fs ds p).open').scope ≡ behind_prolog (declarations ds) (length p.gathered.variables) (p.open').scope
scope_law fs [] p = refl
scope_law fs (declaration_.Fun at n xs ty e ∷ ds) p = scope_law fs ds (passed fs (declaration_.Fun at n xs ty e) p)
scope_law fs (declaration_.Var at v ty e ∷ ds) p =
    let q : Passed = passed fs (declaration_.Var at v ty e) p in
    scope_law fs ds q ∙ ap (λ m. behind_prolog (declarations ds) m (q.open').scope) (length_more p.gathered.variables ((told_variable fs v ty e p.open' (only_first p.gathered.first)).calls))

first_parts : (v t u b : List Refusal) → first_from (first_from (first_from (first_from None v) t) u) b ≡ first_of (v ++ t ++ u ++ b)
first_parts v t u b =
    sym (first_append None (v ++ t ++ u) b ∙ ap (λ z. first_from z b) (first_append None (v ++ t) u ∙ ap (λ z. first_from z u) (first_append None v t)))

-- the body's facts behind what was gathered
abbrev finished : List Signature → Tree → Scope → Gathered → Gathered
finished fs t sc g = record { first = first_from g.first ((walk fs (syn_read t) sc).refusals); functions = g.functions; variables = g.variables }

body_law : (fs : List Signature) (t : Tree) (p : Passed) → with_body fs t p ≡ finished fs t (p.open').scope p.gathered
body_law fs t p = ap (λ k. record { first = k.first; functions = p.gathered.functions; variables = p.gathered.variables }) (sym (back fs t p.open' (only_first p.gathered.first)))

module _ (q : Query) where
  abbrev ds : List Declaration
  ds = q.prolog.declarations

  abbrev outer : Option Refusal
  outer = first_from (first_from None (version_refusals (version_of read_leaves AsRead q.version))) (setter_refusals q.prolog.setters)

  abbrev told_with : List Signature → List Told
  told_with fs = prolog.told fs (declarations ds) [] [] 0 no_names

  abbrev with_signatures : List Signature → Gathered
  with_signatures fs =
      record {
        first = first_from (first_from outer (told_refusals (told_with fs))) ((walk fs (syn_read q.body) (behind_prolog (declarations ds) 0 no_names)).refusals);
        functions = map gained (told_functions (told_with fs));
        variables = value_calls (told_with fs);
      }

  gathered_law_of : (fs : List Signature) → with_body fs q.body (passed_all fs ds (none_passed outer)) ≡ with_signatures fs
  gathered_law_of fs =
      body_law fs q.body (passed_all fs ds (none_passed outer))
      ∙ ap (λ sc. finished fs q.body sc ((passed_all fs ds (none_passed outer)).gathered)) (scope_law fs ds (none_passed outer))
      ∙ ap (finished fs q.body (behind_prolog (declarations ds) 0 no_names)) (gathered_law fs ds [] [] none_open (none_gathered outer) (λ y. refl) ∙ gather_law (told_with fs) (none_gathered outer))

  pub whole_law : with_body (signatures_at ds) q.body (passed_all (signatures_at ds) ds (none_passed outer)) ≡ gathered_of (query_read q)
  whole_law =
      gathered_law_of (signatures_at ds) ∙ ap with_signatures (signatures_law ds)
      ∙ ap (λ z. record { first = z; functions = map gained (told_functions (all_told (query_read q))); variables = value_calls (all_told (query_read q)) })
      (first_parts (version_refusals (version_of read_leaves AsRead q.version)) (setter_refusals q.prolog.setters) (told_refusals (all_told (query_read q))) ((body_facts (query_read q)).refusals))

  -- the same of the steps of the code
  pub whole_steps : (fs : List Signature) (xs : List Declaration) (p : Passed) (os : List ℕ) (v k : Option Refusal) (g : Gathered) → xs ≡ ds → fs ≡ signatures_at xs →
      v ≡ first_from None (version_refusals (version_of read_leaves AsRead q.version)) → os ≡ q.prolog.setters → k ≡ first_from v (setter_refusals os) →
      p ≡ passed_all fs xs (none_passed k) → g ≡ with_body fs q.body p → g ≡ gathered_of (query_read q)
  whole_steps fs xs p os v k g xe fe ve oe ke pe ge =
      ge ∙ ap (with_body fs q.body) pe
      ∙ ap (λ z. with_body fs q.body (passed_all fs xs (none_passed z))) (ke ∙ ap (λ z. first_from z (setter_refusals os)) ve ∙ ap (λ z. first_from (first_from None (version_refusals (version_of read_leaves AsRead q.version))) (setter_refusals z)) oe)
      ∙ ap (λ z. with_body z q.body (passed_all z xs (none_passed outer))) fe
      ∙ ap (λ z. with_body (signatures_at z) q.body (passed_all (signatures_at z) z (none_passed outer))) xe
      ∙ whole_law
