use Rattle.std.proofs.Common.{◌≡◌, ◌<◌, ◌∙◌, ℕ, Option, Some, None, List, length, sym, subst, arith}
use Rattle.std.specs.Prelude.{slice_set}
use Rattle.std.proofs.Math.ListN.{length-set}
use Rattle.staircase.specs.declared.seen.Seen.{Seen}
use Rattle.staircase.specs.Chains.{kept_at, onward, Below, Walking}
use Rattle.staircase.proofs.LinkLaws.{onward-falls, onward-below}
use Rattle.staircase.proofs.PartLaws.{same-at}
use Rattle.staircase.proofs.WalkLaws.{option-same, walk-start, walk-end, walk-met, walk-step}
use Rattle.staircase.proofs.chain.walk.Goals as goal

pub loop-place-init : goal.loop-place-init
loop-place-init c = record {
  within = c.requires.start;
  many = c.requires.marks;
  walking = λ a. walk-start (onward c.args.axis c.args.rows.now c.args.links.now) c.args.counting c.args.rows.now c.args.start c.args.marks.now.items c.args.hits.now.items a;
}

pub returns-in-None-clause-walks : goal.returns-in-None-clause-walks
returns-in-None-clause-walks c = λ a.
    let step : ℕ → Option ℕ = onward c.args.axis c.args.rows.now c.args.links.now in
    walk-end step c.args.counting c.args.rows.now c.args.start c.loop-place.marks.items c.args.hits.now.items c.loop-place.hits.items
    (subst (λ z. Walking step c.args.counting c.args.rows.now c.args.start z c.loop-place.marks.items c.args.hits.now.items c.loop-place.hits.items) c.in-None.is (c.loop-place.invariant.walking a))

pub returns-then-eq-clause-walks : goal.returns-then-eq-clause-walks
returns-then-eq-clause-walks c = λ a.
    let step : ℕ → Option ℕ = onward c.args.axis c.args.rows.now c.args.links.now in
    let k : ℕ = c.in-Some.k in
    let l : k < length c.args.rows.now = subst (λ z. Below z (length c.args.rows.now)) c.in-Some.is c.loop-place.invariant.within in
    let met : kept_at c.loop-place.marks.items k ≡ Some c.args.start.iter = same-at c.loop-place.marks.items k None c.index.result.now (omega (arith, c.loop-place.invariant.many)) ∙ sym c.index.ensures ∙ option-same c.index.result.now c.args.start.iter (sym c.eq.ensures ∙ c.if-eq.true) in
    walk-met step c.args.counting c.args.rows.now c.args.start k c.loop-place.marks.items c.args.hits.now.items c.loop-place.hits.items
    (subst (λ z. Walking step c.args.counting c.args.rows.now c.args.start z c.loop-place.marks.items c.args.hits.now.items c.loop-place.hits.items) c.in-Some.is (c.loop-place.invariant.walking a)) met

pub loop-place-preserved : goal.loop-place-preserved
loop-place-preserved c =
    let axis = c.args.axis in
    let rows : List Seen = c.args.rows.now in
    let links : List (Option ℕ) = c.args.links.now in
    let step : ℕ → Option ℕ = onward axis rows links in
    let k : ℕ = c.in-Some.k in
    let l : k < length rows = subst (λ z. Below z (length rows)) c.in-Some.is c.loop-place.invariant.within in
    let falls : (i : ℕ) → step k ≡ Some i → i < k = λ i e. onward-falls axis rows links (length rows) c.requires.links k i l e in
    record {
      within = subst (λ z. Below z (length rows)) (sym c.onward-place.ensures) (onward-below axis rows links (length rows) k c.requires.links l);
      many = length-set c.loop-place.marks.items k (Some c.args.start.iter) ∙ c.loop-place.invariant.many;
      walking = λ a. subst (λ z. Walking step c.args.counting rows c.args.start z (slice_set c.loop-place.marks.items k (Some c.args.start.iter)) c.args.hits.now.items c.push_row.new.hits.items) (sym c.onward-place.ensures)
          (walk-step step c.args.counting rows c.args.start k c.loop-place.marks.items c.args.hits.now.items c.loop-place.hits.items c.push_row.new.hits.items falls (omega (arith, c.loop-place.invariant.many)) c.in_ok-push_row-in-Some.ensures
          (subst (λ z. Walking step c.args.counting rows c.args.start z c.loop-place.marks.items c.args.hits.now.items c.loop-place.hits.items) c.in-Some.is (c.loop-place.invariant.walking a)));
    }
