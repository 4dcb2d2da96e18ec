use Rattle.std.proofs.Common.{◌≡◌, ◌++◌, ◌∙◌, ℕ, Option, List, length, sym, ap, subst}
use Rattle.staircase.specs.declared.seen.Seen.{Seen}
use Rattle.staircase.specs.Chains.{all_starts, AddsWalks, AreOrdered, AreWithin, Linked}
use Rattle.staircase.proofs.PassStarts.{on-ok}
use Rattle.staircase.proofs.LinkLaws.{chains-added, lined-many, lined-ordered, starts-within}
use Rattle.staircase.proofs.chains.gather_chains.Goals as goal

pub links-requires : goal.links-requires
links-requires c = record { order = subst AreOrdered (sym (c.as_slice.ensures.value ∙ c.in_ok-rows.ensures)) (lined-ordered c.args.axis c.args.seen.now c.requires) }

pub make_starts-requires-clause-order : goal.make_starts-requires-clause-order
make_starts-requires-clause-order c = subst AreOrdered (sym (c.as_slice-2.ensures.value ∙ c.in_ok-rows.ensures)) (lined-ordered c.args.axis c.args.seen.now c.requires)

pub walk_all-requires-clause-order : goal.walk_all-requires-clause-order
walk_all-requires-clause-order c = subst AreOrdered (sym (c.as_slice-4.ensures.value ∙ c.in_ok-rows.ensures)) (lined-ordered c.args.axis c.args.seen.now c.requires)

pub walk_all-requires-clause-starts : goal.walk_all-requires-clause-starts
walk_all-requires-clause-starts c =
    let rows : List Seen = c.in_ok-rows.rows.items in
    let links : List (Option ℕ) = c.in_ok-links.links.items in
    let linked : Linked c.args.axis rows links (length rows) = subst (λ z. Linked c.args.axis z links (length z)) c.as_slice.ensures.value c.in_ok-links.ensures in
    let made : c.make_starts.new.starts.items ≡ all_starts c.args.axis c.args.counting c.args.seen.now rows links c.args.context.now =
    c.in_ok-make_starts.ensures ∙ ap (λ z. z ++ all_starts c.args.axis c.args.counting c.args.seen.now c.as_slice-2.result.now c.as_slice-3.result.now c.args.context.now) c.new-starts.ensures.items ∙ ap (λ z. all_starts c.args.axis c.args.counting c.args.seen.now z c.as_slice-3.result.now c.args.context.now) c.as_slice-2.ensures.value ∙ ap (λ z. all_starts c.args.axis c.args.counting c.args.seen.now rows z c.args.context.now) c.as_slice-3.ensures.value in
    subst (λ z. AreWithin c.make_starts.new.starts.items (length z)) (sym c.as_slice-4.ensures.value)
    (subst (λ z. AreWithin z (length rows)) (sym made) (starts-within c.args.axis c.args.counting c.args.seen.now rows links c.args.context.now (ap length c.in_ok-rows.ensures ∙ lined-many c.args.axis c.args.seen.now) linked))

pub returns : goal.returns
returns c = on-ok c.walk_all.result c.walk_all.ensures (λ w.
    let rows : List Seen = c.in_ok-rows.rows.items in
    let links : List (Option ℕ) = c.in_ok-links.links.items in
    let linked : Linked c.args.axis rows links (length rows) = subst (λ z. Linked c.args.axis z links (length z)) c.as_slice.ensures.value c.in_ok-links.ensures in
    let made : c.make_starts.new.starts.items ≡ all_starts c.args.axis c.args.counting c.args.seen.now rows links c.args.context.now =
    c.in_ok-make_starts.ensures ∙ ap (λ z. z ++ all_starts c.args.axis c.args.counting c.args.seen.now c.as_slice-2.result.now c.as_slice-3.result.now c.args.context.now) c.new-starts.ensures.items ∙ ap (λ z. all_starts c.args.axis c.args.counting c.args.seen.now z c.as_slice-3.result.now c.args.context.now) c.as_slice-2.ensures.value ∙ ap (λ z. all_starts c.args.axis c.args.counting c.args.seen.now rows z c.args.context.now) c.as_slice-3.ensures.value in
    chains-added c.args.axis c.args.counting c.args.seen.now rows links c.make_starts.new.starts.items c.args.context.now c.args.hits.now.items c.walk_all.new.hits.items c.in_ok-rows.ensures linked made
    (subst (λ z. AddsWalks c.args.axis c.args.counting z links c.make_starts.new.starts.items c.args.hits.now.items c.walk_all.new.hits.items) c.as_slice-4.ensures.value
    (subst (λ z. AddsWalks c.args.axis c.args.counting c.as_slice-4.result.now z c.make_starts.new.starts.items c.args.hits.now.items c.walk_all.new.hits.items) c.as_slice-5.ensures.value w)))
