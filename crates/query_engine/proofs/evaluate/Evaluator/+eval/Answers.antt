use Rattle.std.proofs.Common.{◌≡◌, ◌+◌, ◌++◌, ◌∷◌, [], IfOk, Ok, Err, pos, drop, sym, ap, ◌∙◌, subst, refl, arith, w64, FitsSigned, rules}
use Rattle.std.proofs.lemmas.Int.{to_z-of_z}
use Rattle.std.proofs.lemmas.Result.{IfOk-weaker}
use Rattle.xq_base.specs.declared.fun.Fun.TheVariants as fun
use Rattle.xq_base.specs.declared.item.Atom.TheVariants as atom
use Rattle.xq_base.specs.declared.item.Item.TheVariants as i
use Rattle.core_meaning.specs.declared.node.CoreKind.TheVariants as k
use Rattle.core_meaning.specs.Erasure.{core_of}
use Rattle.core_meaning.specs.PlainCore as p
use Rattle.core_meaning.specs.Size.{nodes}
use Rattle.core_meaning.specs.Meaning.{each_from}
use Rattle.core_meaning.specs.Reached.{all_from}
use Rattle.doc_table.specs.Documents.{documents_in}
use Rattle.doc_table.specs.Functions.{fun_answer}
use Rattle.doc_table.specs.Items.{item_of}
use Rattle.doc_table.specs.StoredItems.{meanings, trees_of}
use Rattle.doc_table.specs.Tree.{text_in}
use Rattle.query_engine.specs.declared.evaluate.EvalFault.TheVariants.{Reached}
use Rattle.query_engine.specs.declared.evaluate.Found.TheVariants as found
use Rattle.query_engine.specs.Evaluated.{Runs}
use Rattle.query_engine.specs.Evaluating.{bindings_of, env_of, FaultOf, IsValue, RuleGives, CoreGives, turn_value, turn_fails}
use Rattle.query_engine.proofs.EvalLaws.{plain, seq_failed, seq_then, seq_value, let_failed, let_then, let_value, for_failed, for_then, for_value, two_failed, two_then}
use Rattle.query_engine.proofs.Falling.{nodes_in, parts_fall, pair_nodes, turn_falls}
use Rattle.query_engine.proofs.Few.{one_of, two_of}
use Rattle.query_engine.proofs.PlainForms.{is_lit, is_seq, is_let, is_for, is_call, seq_runs, let_runs, for_runs, sum_runs, document_runs}
use Rattle.query_engine.proofs.Ruling.{two_ruled, name_ruled}
use Rattle.query_engine.proofs.Turning.{all_turns, next_turn, at_turn, after_turns, fits_at, turn_env}
use Rattle.query_engine.proofs.evaluate.Evaluator.+eval.Goals as goal

-- ---- bindings

pub bound-returns-in-Err : goal.bound-returns-in-Err
bound-returns-in-Err t c =
    let s = c.args.self.now in
    let texts = s.pool.now in
    let h = s.store.now in
    let_failed s.sums texts h c.args.site c.args.var.0 (core_of texts c.args.value.now) (core_of texts c.args.body.now) (env_of texts h (bindings_of c.args.env.now)) c.in-Err.fault c.in-Err.ensures

pub bound-returns-in-Err-eval : goal.bound-returns-in-Err-eval
bound-returns-in-Err-eval t c =
    let s = c.args.self.now in
    let texts = s.pool.now in
    let h = s.store.now in
    let_then s.sums texts h c.args.site c.in-Ok.found.next c.args.var.0 (core_of texts c.args.value.now) (core_of texts c.args.body.now) (env_of texts h (bindings_of c.args.env.now)) (env_of texts h (bindings_of c.as_slice.result.now)) c.in-Ok.found.items.items c.in-Err-eval.fault
    c.in-Ok.ensures.0 c.in-Ok.ensures.1 (ap (λ bs. env_of texts h (bindings_of bs)) c.as_slice.ensures.value ∙ ap (env_of texts h) c.in-Ok-extended.ensures.value) c.in-Err-eval.ensures

pub bound-returns : goal.bound-returns
bound-returns t c =
    let s = c.args.self.now in
    let texts = s.pool.now in
    let h = s.store.now in
    let a = core_of texts c.args.value.now in
    let b = core_of texts c.args.body.now in
    let env = env_of texts h (bindings_of c.args.env.now) in
    let behind : c.in-Ok-eval.value.next + 1 ≡ c.args.site + (nodes a + nodes b + 1) = omega (arith, c.in-Ok.ensures.1, c.in-Ok-eval.ensures.1) in
    plain s.sums texts h (c.args.site + (nodes a + nodes b + 1)) _ _ c.in-Ok-eval.value.items.items c.passed.result
    (subst (λ z. IfOk c.passed.result (λ v. (v.items.items ≡ c.in-Ok-eval.value.items.items) × (v.next ≡ z))) behind c.passed.ensures.value) c.passed.ensures.fault
    (let_value s.sums texts h c.args.site c.in-Ok.found.next c.args.var.0 a b env (env_of texts h (bindings_of c.as_slice.result.now)) c.in-Ok.found.items.items c.in-Ok-eval.value.items.items
    c.in-Ok.ensures.0 c.in-Ok.ensures.1 (ap (λ bs. env_of texts h (bindings_of bs)) c.as_slice.ensures.value ∙ ap (env_of texts h) c.in-Ok-extended.ensures.value) c.in-Ok-eval.ensures.0)

-- ---- loops

pub each-returns-in-Err : goal.each-returns-in-Err
each-returns-in-Err t c =
    let s = c.args.self.now in
    let texts = s.pool.now in
    let h = s.store.now in
    for_failed s.sums texts h c.args.site c.args.vars.0.0 c.args.vars.1.0 (core_of texts c.args.seq.now) (core_of texts c.args.body.now) (env_of texts h (bindings_of c.args.env.now)) c.in-Err.fault c.in-Err.ensures

pub each-returns-in-Err-turns : goal.each-returns-in-Err-turns
each-returns-in-Err-turns t c =
    let s = c.args.self.now in
    let texts = s.pool.now in
    let h = s.store.now in
    let b = core_of texts c.args.body.now in
    let env = env_of texts h (bindings_of c.args.env.now) in
    for_then s.sums texts h c.args.site c.in-Ok.found.next c.args.vars.0.0 c.args.vars.1.0 (core_of texts c.args.seq.now) b env c.in-Ok.found.items.items c.in-Err-turns.fault
    c.in-Ok.ensures.0 c.in-Ok.ensures.1
    (subst (λ xs. FaultOf (λ vec. all_from (turn_fails s.sums texts h c.in-Ok.found.next b c.args.vars.0.0 c.args.vars.1.0 env vec) 1 (meanings texts h xs)) c.in-Err-turns.fault) c.as_slice.ensures.value c.in-Err-turns.ensures)

pub each-returns : goal.each-returns
each-returns t c =
    let s = c.args.self.now in
    let texts = s.pool.now in
    let h = s.store.now in
    let a = core_of texts c.args.seq.now in
    let b = core_of texts c.args.body.now in
    let env = env_of texts h (bindings_of c.args.env.now) in
    let behind : c.in-Ok.found.next + nodes b + 1 ≡ c.args.site + (nodes a + nodes b + 1) = omega (arith, c.in-Ok.ensures.1) in
    plain s.sums texts h (c.args.site + (nodes a + nodes b + 1)) _ _ c.in-Ok-turns.items.items c.counted.result
    (subst (λ z. IfOk c.counted.result (λ v. (v.items.items ≡ c.in-Ok-turns.items.items) × (v.next ≡ z))) behind c.counted.ensures.value) c.counted.ensures.fault
    (for_value s.sums texts h c.args.site c.in-Ok.found.next c.args.vars.0.0 c.args.vars.1.0 a b env c.in-Ok.found.items.items c.in-Ok-turns.items.items
    c.in-Ok.ensures.0 c.in-Ok.ensures.1
    (subst (λ xs. IsValue s.sums texts h (λ vec. each_from (turn_value s.sums texts h c.in-Ok.found.next b c.args.vars.0.0 c.args.vars.1.0 env vec) 1 (meanings texts h xs)) c.in-Ok-turns.items.items) c.as_slice.ensures.value c.in-Ok-turns.ensures))

-- ---- the forms

pub eval-sequence-requires : goal.eval-sequence-requires
eval-sequence-requires t c =
    let s = c.args.self.now in
    let texts = s.pool.now in
    let core = c.args.core.now in
    let r = seq_runs s.sums texts core c.in-Seq.first c.in-Seq.second c.in-Seq.is c.requires.core in (
      parts_fall texts core c.in-Seq.first c.in-Seq.second c.get.result.now c.get-in-Seq.result.now t (ap nodes (is_seq texts core c.in-Seq.first c.in-Seq.second c.in-Seq.is)) c.get.ensures c.get-in-Seq.ensures c.decreases,
      (subst (Runs s.sums texts) (sym c.get.ensures) r.0, (subst (Runs s.sums texts) (sym c.get-in-Seq.ensures) r.1, (c.requires.env, c.requires.names))),
    )

pub eval-bound-requires : goal.eval-bound-requires
eval-bound-requires t c =
    let s = c.args.self.now in
    let texts = s.pool.now in
    let core = c.args.core.now in
    let r = let_runs s.sums texts core c.in-Let.var c.in-Let.bound c.in-Let.body c.in-Let.is c.requires.core in (
      parts_fall texts core c.in-Let.bound c.in-Let.body c.get-in-Let.result.now c.get-in-Let-2.result.now t (ap nodes (is_let texts core c.in-Let.var c.in-Let.bound c.in-Let.body c.in-Let.is)) c.get-in-Let.ensures c.get-in-Let-2.ensures c.decreases,
      (subst (Runs s.sums texts) (sym c.get-in-Let.ensures) r.0, (subst (Runs s.sums texts) (sym c.get-in-Let-2.ensures) r.1, (c.requires.env, c.requires.names))),
    )

pub eval-each-requires : goal.eval-each-requires
eval-each-requires t c =
    let s = c.args.self.now in
    let texts = s.pool.now in
    let core = c.args.core.now in
    let r = for_runs s.sums texts core c.in-For.var c.in-For.pos c.in-For.seq c.in-For.body c.in-For.is c.requires.core in (
      parts_fall texts core c.in-For.seq c.in-For.body c.get-in-For.result.now c.get-in-For-2.result.now t (ap nodes (is_for texts core c.in-For.var c.in-For.pos c.in-For.seq c.in-For.body c.in-For.is)) c.get-in-For.ensures c.get-in-For-2.ensures c.decreases,
      (subst (Runs s.sums texts) (sym c.get-in-For.ensures) r.0, (subst (Runs s.sums texts) (sym c.get-in-For-2.ensures) r.1, (c.requires.env, c.requires.names))),
    )

pub eval-sum-requires : goal.eval-sum-requires
eval-sum-requires t c =
    let s = c.args.self.now in
    let texts = s.pool.now in
    let core = c.args.core.now in
    let two = two_of c.as_slice.result.now c.first-item.result c.second-item.result c.in-len2.len_at_least c.in-len2.len_below c.first-item.is c.second-item.is in
    let is : core.kind ≡ k.Call fun.Add (c.first-item.result ∷ c.second-item.result ∷ []) = c.in-Call.is ∙ ap (λ g. k.Call g c.in-Call.arguments) c.in-Add.is ∙ ap (k.Call fun.Add) (sym c.as_slice.ensures ∙ two) in
    let r = sum_runs s.sums texts core c.first-item.result c.second-item.result is c.requires.core in (
      parts_fall texts core c.first-item.result c.second-item.result c.first-item.result c.second-item.result t (pair_nodes (nodes_in texts core) (nodes_in texts c.first-item.result) (nodes_in texts c.second-item.result) (ap nodes (is_call texts core fun.Add (c.first-item.result ∷ c.second-item.result ∷ []) is))) refl refl c.decreases,
      (r.0, (r.1.0, (r.1.1, (c.requires.env, c.requires.names)))),
    )

pub eval-document-requires-clause-name : goal.eval-document-requires-clause-name
eval-document-requires-clause-name t c =
    let s = c.args.self.now in
    let texts = s.pool.now in
    let core = c.args.core.now in
    let name = c.name-item.result in
    let one = one_of c.as_slice-in-Doc.result.now name c.in-len1.len_at_least c.in-len1.len_below c.name-item.is in
    let is : core.kind ≡ k.Call fun.Doc (name ∷ []) = c.in-Call.is ∙ ap (λ g. k.Call g c.in-Call.arguments) c.in-Doc.is ∙ ap (k.Call fun.Doc) (sym c.as_slice-in-Doc.ensures ∙ one) in
    let text : name.kind ≡ k.Lit (atom.Str c.in-Some.id) = c.in-Some.ensures in
    (document_runs s.sums texts core name c.in-Some.id is text c.requires.core).1

pub eval-returns-in-Seq : goal.eval-returns-in-Seq
eval-returns-in-Seq t c =
    let s = c.args.self.now in
    let texts = s.pool.now in
    let h = s.store.now in
    let env = env_of texts h (bindings_of c.args.env.now) in
    subst (λ z. CoreGives s.sums texts h c.args.site z env c.sequence.result) (sym (is_seq texts c.args.core.now c.in-Seq.first c.in-Seq.second c.in-Seq.is))
    (subst (λ z. CoreGives s.sums texts h c.args.site (p.Seq 0 (core_of texts z) (core_of texts c.in-Seq.second)) env c.sequence.result) c.get.ensures
    (subst (λ z. CoreGives s.sums texts h c.args.site (p.Seq 0 (core_of texts c.get.result.now) (core_of texts z)) env c.sequence.result) c.get-in-Seq.ensures c.sequence.ensures))

pub eval-returns-in-Let : goal.eval-returns-in-Let
eval-returns-in-Let t c =
    let s = c.args.self.now in
    let texts = s.pool.now in
    let h = s.store.now in
    let env = env_of texts h (bindings_of c.args.env.now) in
    subst (λ z. CoreGives s.sums texts h c.args.site z env c.bound.result) (sym (is_let texts c.args.core.now c.in-Let.var c.in-Let.bound c.in-Let.body c.in-Let.is))
    (subst (λ z. CoreGives s.sums texts h c.args.site (p.Let 0 c.in-Let.var.0 (core_of texts z) (core_of texts c.in-Let.body)) env c.bound.result) c.get-in-Let.ensures
    (subst (λ z. CoreGives s.sums texts h c.args.site (p.Let 0 c.in-Let.var.0 (core_of texts c.get-in-Let.result.now) (core_of texts z)) env c.bound.result) c.get-in-Let-2.ensures c.bound.ensures))

pub eval-returns-in-For : goal.eval-returns-in-For
eval-returns-in-For t c =
    let s = c.args.self.now in
    let texts = s.pool.now in
    let h = s.store.now in
    let env = env_of texts h (bindings_of c.args.env.now) in
    subst (λ z. CoreGives s.sums texts h c.args.site z env c.each.result) (sym (is_for texts c.args.core.now c.in-For.var c.in-For.pos c.in-For.seq c.in-For.body c.in-For.is))
    (subst (λ z. CoreGives s.sums texts h c.args.site (p.For 0 c.in-For.var.0 c.in-For.pos.0 (core_of texts z) (core_of texts c.in-For.body)) env c.each.result) c.get-in-For.ensures
    (subst (λ z. CoreGives s.sums texts h c.args.site (p.For 0 c.in-For.var.0 c.in-For.pos.0 (core_of texts c.get-in-For.result.now) (core_of texts z)) env c.each.result) c.get-in-For-2.ensures c.each.ensures))

pub eval-returns-in-len2 : goal.eval-returns-in-len2
eval-returns-in-len2 t c =
    let s = c.args.self.now in
    let texts = s.pool.now in
    let core = c.args.core.now in
    let two = two_of c.as_slice.result.now c.first-item.result c.second-item.result c.in-len2.len_at_least c.in-len2.len_below c.first-item.is c.second-item.is in
    let is : core.kind ≡ k.Call fun.Add (c.first-item.result ∷ c.second-item.result ∷ []) = c.in-Call.is ∙ ap (λ g. k.Call g c.in-Call.arguments) c.in-Add.is ∙ ap (k.Call fun.Add) (sym c.as_slice.ensures ∙ two) in
    subst (λ z. CoreGives s.sums texts s.store.now c.args.site z (env_of texts s.store.now (bindings_of c.args.env.now)) c.sum.result) (sym (is_call texts core fun.Add (c.first-item.result ∷ c.second-item.result ∷ []) is)) c.sum.ensures

pub eval-returns-in-Some : goal.eval-returns-in-Some
eval-returns-in-Some t c =
    let s = c.args.self.now in
    let texts = s.pool.now in
    let core = c.args.core.now in
    let name = c.name-item.result in
    let one = one_of c.as_slice-in-Doc.result.now name c.in-len1.len_at_least c.in-len1.len_below c.name-item.is in
    let is : core.kind ≡ k.Call fun.Doc (name ∷ []) = c.in-Call.is ∙ ap (λ g. k.Call g c.in-Call.arguments) c.in-Doc.is ∙ ap (k.Call fun.Doc) (sym c.as_slice-in-Doc.ensures ∙ one) in
    let text : name.kind ≡ k.Lit (atom.Str c.in-Some.id) = c.in-Some.ensures in
    subst (λ z. CoreGives s.sums texts s.store.now c.args.site z (env_of texts s.store.now (bindings_of c.args.env.now)) c.document.result)
    (sym (is_call texts core fun.Doc (name ∷ []) is ∙ ap (λ z. p.Call core.offset fun.Doc (p.one_core z p.no_cores)) (is_lit texts name (atom.Str c.in-Some.id) text)))
    (name_ruled s.sums texts s.store.now c.args.site core.offset name.offset fun.Doc (text_in texts c.in-Some.id) (env_of texts s.store.now (bindings_of c.args.env.now)) c.document.result c.document.ensures)

-- ---- sequences

pub sequence-returns-in-Err : goal.sequence-returns-in-Err
sequence-returns-in-Err t c =
    let s = c.args.self.now in
    let texts = s.pool.now in
    let h = s.store.now in
    seq_failed s.sums texts h c.args.site (core_of texts c.args.first.now) (core_of texts c.args.second.now) (env_of texts h (bindings_of c.args.env.now)) c.in-Err.fault c.in-Err.ensures

pub sequence-returns-in-Err-eval : goal.sequence-returns-in-Err-eval
sequence-returns-in-Err-eval t c =
    let s = c.args.self.now in
    let texts = s.pool.now in
    let h = s.store.now in
    seq_then s.sums texts h c.args.site c.in-Ok.found.next (core_of texts c.args.first.now) (core_of texts c.args.second.now) (env_of texts h (bindings_of c.args.env.now)) c.in-Ok.found.items.items c.in-Err-eval.fault
    c.in-Ok.ensures.0 c.in-Ok.ensures.1 c.in-Err-eval.ensures

pub sequence-returns-in-Ok-eval : goal.sequence-returns-in-Ok-eval
sequence-returns-in-Ok-eval t c =
    let s = c.args.self.now in
    let texts = s.pool.now in
    let h = s.store.now in
    let a = core_of texts c.args.first.now in
    let b = core_of texts c.args.second.now in
    let xs = c.in-Ok.found.items.items ++ c.in-Ok-eval.more.items.items in
    let behind : c.in-Ok-eval.more.next + 1 ≡ c.args.site + (nodes a + nodes b + 1) = omega (arith, c.in-Ok.ensures.1, c.in-Ok-eval.ensures.1) in
    plain s.sums texts h (c.args.site + (nodes a + nodes b + 1)) _ _ xs c.joined.result
    (subst (λ z. IfOk c.joined.result (λ v. (v.items.items ≡ xs) × (v.next ≡ z))) behind c.joined.ensures.value) c.joined.ensures.fault
    (seq_value s.sums texts h c.args.site c.in-Ok.found.next a b (env_of texts h (bindings_of c.args.env.now)) c.in-Ok.found.items.items c.in-Ok-eval.more.items.items c.in-Ok.ensures.0 c.in-Ok.ensures.1 c.in-Ok-eval.ensures.0)

-- ---- sums

pub sum-returns-in-Err : goal.sum-returns-in-Err
sum-returns-in-Err t c =
    let s = c.args.self.now in
    let texts = s.pool.now in
    let h = s.store.now in
    two_failed s.sums texts h c.args.site c.args.offset fun.Add (core_of texts c.args.first.now) (core_of texts c.args.second.now) (env_of texts h (bindings_of c.args.env.now)) c.in-Err.fault c.in-Err.ensures

pub sum-returns-in-Err-eval : goal.sum-returns-in-Err-eval
sum-returns-in-Err-eval t c =
    let s = c.args.self.now in
    let texts = s.pool.now in
    let h = s.store.now in
    two_then s.sums texts h c.args.site c.in-Ok.found.next c.args.offset fun.Add (core_of texts c.args.first.now) (core_of texts c.args.second.now) (env_of texts h (bindings_of c.args.env.now)) c.in-Ok.found.items.items c.in-Err-eval.fault
    c.in-Ok.ensures.0 c.in-Ok.ensures.1 c.in-Err-eval.ensures

pub sum-returns : goal.sum-returns
sum-returns t c =
    let s = c.args.self.now in
    let texts = s.pool.now in
    let h = s.store.now in
    let xs = c.in-Ok.found.items.items in
    let ys = c.in-Ok-eval.more.items.items in
    two_ruled s.sums texts h c.args.site c.in-Ok.found.next c.in-Ok-eval.more.next c.args.offset fun.Add (core_of texts c.args.first.now) (core_of texts c.args.second.now) (env_of texts h (bindings_of c.args.env.now)) xs ys c.added.result
    c.in-Ok.ensures.0 c.in-Ok.ensures.1 c.in-Ok-eval.ensures.0 c.in-Ok-eval.ensures.1
    (subst (λ z. RuleGives s.sums texts h c.in-Ok-eval.more.next c.args.offset (fun_answer (documents_in texts h) fun.Add (meanings texts h z ∷ meanings texts h ys ∷ [])) c.added.result) c.as_slice.ensures.value
    (subst (λ z. RuleGives s.sums texts h c.in-Ok-eval.more.next c.args.offset (fun_answer (documents_in texts h) fun.Add (meanings texts h c.as_slice.result.now ∷ meanings texts h z ∷ [])) c.added.result) c.as_slice-in-Ok-eval.ensures.value c.added.ensures))

-- ---- turns

pub turn-returns-clause-ok : goal.turn-returns-clause-ok
turn-returns-clause-ok t c =
    λ all rest before.
    let s = c.args.self.now in
    let texts = s.pool.now in
    let h = s.store.now in
    let body = core_of texts c.args.body.now in
    let env = env_of texts h (bindings_of c.args.env.now) in
    let place : FitsSigned w64 c.in_ok-place.place = search rules in
    let inner = turn_env texts h (bindings_of c.args.env.now) (bindings_of c.as_slice.result.now) (bindings_of c.as_slice-2.result.now) c.args.vars.0.0 c.args.vars.1.0 (c.args.at.0 + 1) c.args.at.1 c.in_ok-alone.field-0.items c.in_ok-alone-2.field-0.items _
    c.in_ok-alone.ensures.value c.in_ok-alone-2.ensures.value (to_z-of_z w64 c.in_ok-place.place place ∙ c.in_ok-place.ensures.place) (ap (λ bs. bindings_of bs) c.as_slice.ensures.value ∙ c.in_ok-outer.ensures.value) (ap (λ bs. bindings_of bs) c.as_slice-2.ensures.value ∙ c.in_ok-inner.ensures.value) in
    IfOk-weaker c.one_more.result _ _
    (λ new step. next_turn s.sums texts h c.args.site body c.args.vars.0.0 c.args.vars.1.0 env all rest (c.args.at.0 + 1) (item_of texts (trees_of h) c.args.at.1) c.args.found new c.eval.result before step
    (subst (λ z. CoreGives s.sums texts h c.args.site body z c.eval.result) inner c.eval.ensures))
    c.one_more.ensures.ok

pub turns-turn-requires : goal.turns-turn-requires
turns-turn-requires t c =
    (turn_falls (nodes_in c.args.self.now.pool.now c.args.body.now) t c.decreases, (c.requires.body, (fits_at c.args.self.now.sums c.args.self.now.store.now c.args.items.now c.loop-index.index (i.Int (pos 0)) c.requires.items c.loop-index-test.true, (c.requires.env, c.requires.names))))

pub turns-loop-index-preserved : goal.turns-loop-index-preserved
turns-loop-index-preserved t c =
    let s = c.args.self.now in
    let texts = s.pool.now in
    let h = s.store.now in
    let body = core_of texts c.args.body.now in
    let env = env_of texts h (bindings_of c.args.env.now) in
    c.in_ok-found.ensures.ok (meanings texts h c.args.items.now) (meanings texts h (drop (c.loop-index.index + 1) c.args.items.now))
    (at_turn s.sums texts h c.args.site body c.args.vars.0.0 c.args.vars.1.0 env c.args.items.now c.loop-index.index (i.Int (pos 0)) c.loop-index.found c.loop-index-test.true c.loop-index.invariant)

pub turns-returns-in-Items : goal.turns-returns-in-Items
turns-returns-in-Items t c =
    let s = c.args.self.now in
    let texts = s.pool.now in
    let h = s.store.now in
    let body = core_of texts c.args.body.now in
    let env = env_of texts h (bindings_of c.args.env.now) in
    all_turns s.sums texts h c.args.site body c.args.vars.0.0 c.args.vars.1.0 env c.args.items.now (c.loop-index.index + 1) (found.Items c.in-Items.items) (Ok c.in-Items.items)
    (after_turns s.sums texts h c.args.site body c.args.vars.0.0 c.args.vars.1.0 env c.args.items.now c.loop-index.index c.loop-index.found (found.Items c.in-Items.items) c.loop-index-test.false c.in-Items.is c.loop-index.invariant) refl

pub turns-returns-in-Failing : goal.turns-returns-in-Failing
turns-returns-in-Failing t c =
    let s = c.args.self.now in
    let texts = s.pool.now in
    let h = s.store.now in
    let body = core_of texts c.args.body.now in
    let env = env_of texts h (bindings_of c.args.env.now) in
    all_turns s.sums texts h c.args.site body c.args.vars.0.0 c.args.vars.1.0 env c.args.items.now (c.loop-index.index + 1) (found.Failing c.in-Failing.failed) (Err (Reached c.in-Failing.failed))
    (after_turns s.sums texts h c.args.site body c.args.vars.0.0 c.args.vars.1.0 env c.args.items.now c.loop-index.index c.loop-index.found (found.Failing c.in-Failing.failed) c.loop-index-test.false c.in-Failing.is c.loop-index.invariant) refl
