use Rattle.std.proofs.Common.{◌≡◌, ◌≤◌, ◌++◌, ◌∷◌, [], true, length, map, sym, subst, ap, ◌∙◌, refl, arith}
use Rattle.doc_table.specs.Documents.{documents_in}
use Rattle.doc_table.specs.Notes.{AppendsAll}
use Rattle.table_ops.specs.Standing.{standing}
use Rattle.plan_eval.specs.Contexts.{op_notes}
use Rattle.plan_eval.specs.Evaluating.{row_limit}
use Rattle.plan_eval.specs.Making.{Made, demand_in, row_of, tallies_op}
use Rattle.plan_eval.specs.Plans.{step_given}
use Rattle.plan_eval.proofs.StepLaws.{entries-named, demand-of-step, made-of-step, notes-of-step, tally-of-step}
use Rattle.plan_eval.proofs.steps.make_step.Goals as goal

pub find-requires-clause-named : goal.find-requires-clause-named
find-requires-clause-named g c = entries-named c.args.pool.now c.args.store.now c.args.left.now.cols c.in-Step.iter c.in-Step.node c.args.left.now.rows c.requires.left_rows

pub returns-then-many-gt-ROW_LIMIT-clause-made : goal.returns-then-many-gt-ROW_LIMIT-clause-made
returns-then-many-gt-ROW_LIMIT-clause-made g c =
    let given = subst (λ op. step_given (length c.args.pool.now) op ≡ true) c.in-Step.is c.requires.test in
    let demand = demand-of-step c.args.pool.now c.intern.new.self c.args.store.now c.intern.ensures.keeps c.in_ok-intern-in-Step.ensures.different c.validity.ensures.kept c.requires.built c.requires.trees c.requires.names c.in-Step.input c.in-Step.axis c.in-Step.test c.in-Step.site c.in-Step.offset c.in-Step.iter c.in-Step.node c.args.left.now c.args.right.now given c.requires.left_rows c.requires.right_rows c.find.new.rows.items c.in_ok-tally-in-Step.ensures.rows in
    let many : c.len-many.result ≡ length c.find.new.rows.items = omega (arith, c.len-many.ensures, c.find.new.rows.ok.0) in
    (refl, many ∙ sym demand ∙ ap (λ op. demand_in c.args.pool.now c.args.store.now op c.args.left.now c.args.right.now) (sym c.in-Step.is), omega (arith, c.if-many-gt-ROW_LIMIT.true))

pub returns-then-many-gt-ROW_LIMIT-clause-notes : goal.returns-then-many-gt-ROW_LIMIT-clause-notes
returns-then-many-gt-ROW_LIMIT-clause-notes g c =
    let given = subst (λ op. step_given (length c.args.pool.now) op ≡ true) c.in-Step.is c.requires.test in
    let notes = notes-of-step c.args.pool.now c.intern.new.self c.args.store.now c.intern.ensures.keeps c.in_ok-intern-in-Step.ensures.different c.validity.ensures.kept c.requires.built c.requires.trees c.requires.names c.in-Step.input c.in-Step.axis c.in-Step.test c.in-Step.site c.in-Step.offset c.in-Step.iter c.in-Step.node c.args.left.now c.args.right.now given c.requires.left_rows c.requires.right_rows in
    subst (AppendsAll c.args.reads.now.notes c.find.new.reads.notes) (notes ∙ ap (λ op. op_notes (documents_in c.args.pool.now c.args.store.now) op (standing c.args.pool.now c.args.store.now c.args.left.now)) (sym c.in-Step.is)) c.in_ok-tally-in-Step.ensures.notes

pub returns-clause-made : goal.returns-clause-made
returns-clause-made g c =
    let given = subst (λ op. step_given (length c.args.pool.now) op ≡ true) c.in-Step.is c.requires.test in
    let few : length c.find.new.rows.items ≤ row_limit = omega (arith, c.if-many-gt-ROW_LIMIT.false, c.len-many.ensures, c.find.new.rows.ok.0) in
    let made = made-of-step c.args.pool.now c.intern.new.self c.args.store.now c.intern.ensures.keeps c.in_ok-intern-in-Step.ensures.different c.validity.ensures.kept c.requires.built c.requires.trees c.requires.names c.in-Step.input c.in-Step.axis c.in-Step.test c.in-Step.site c.in-Step.offset c.in-Step.iter c.in-Step.node c.args.left.now c.args.right.now given c.requires.left_rows c.requires.right_rows c.find.new.rows.items c.in_ok-tally-in-Step.ensures.rows
    c.in_ok-table-in-Step.table (c.in_ok-table-in-Step.ensures ∙ ap (λ rows. record { cols = c.in-Step.iter ∷ c.in-Step.node ∷ []; rows = map row_of rows }) c.deref.ensures.value) few in
    subst (λ op. Made c.args.pool.now c.intern.new.self c.args.store.now op c.args.left.now c.args.right.now c.in_ok-table-in-Step.table) (sym c.in-Step.is) made

pub returns-clause-notes : goal.returns-clause-notes
returns-clause-notes g c =
    let given = subst (λ op. step_given (length c.args.pool.now) op ≡ true) c.in-Step.is c.requires.test in
    let notes = notes-of-step c.args.pool.now c.intern.new.self c.args.store.now c.intern.ensures.keeps c.in_ok-intern-in-Step.ensures.different c.validity.ensures.kept c.requires.built c.requires.trees c.requires.names c.in-Step.input c.in-Step.axis c.in-Step.test c.in-Step.site c.in-Step.offset c.in-Step.iter c.in-Step.node c.args.left.now c.args.right.now given c.requires.left_rows c.requires.right_rows in
    subst (AppendsAll c.args.reads.now.notes c.find.new.reads.notes) (notes ∙ ap (λ op. op_notes (documents_in c.args.pool.now c.args.store.now) op (standing c.args.pool.now c.args.store.now c.args.left.now)) (sym c.in-Step.is)) c.in_ok-tally-in-Step.ensures.notes

pub returns-clause-tallies : goal.returns-clause-tallies
returns-clause-tallies g c =
    let given = subst (λ op. step_given (length c.args.pool.now) op ≡ true) c.in-Step.is c.requires.test in
    let tally = tally-of-step c.args.pool.now c.intern.new.self c.args.store.now c.intern.ensures.keeps c.in_ok-intern-in-Step.ensures.different c.validity.ensures.kept c.requires.built c.requires.trees c.requires.names c.in-Step.input c.in-Step.axis c.in-Step.test c.in-Step.site c.in-Step.offset c.in-Step.iter c.in-Step.node c.args.left.now c.args.right.now given c.requires.left_rows c.requires.right_rows in
    c.in_ok-push-in-Step.ensures.items
    ∙ ap (λ t. c.args.tallies.now.items ++ record { site = c.in-Step.site; offset = c.in-Step.offset; axis = c.in-Step.axis; tally = t } ∷ []) (c.in_ok-tally-in-Step.ensures.tally ∙ tally)
    ∙ ap (λ op. c.args.tallies.now.items ++ tallies_op c.args.pool.now c.args.store.now op c.args.left.now) (sym c.in-Step.is)
