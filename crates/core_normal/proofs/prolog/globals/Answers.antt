use Rattle.std.proofs.Common.{◌≤◌, ◌+◌, ap, length, sym, ◌∙◌, arith}
use Rattle.std.proofs.lemmas.List.{drop_all}
use Rattle.core_normal.specs.Standing.{vars_in}
use Rattle.core_normal.specs.Templating.{global_values, var_count}
use Rattle.core_normal.proofs.Folding.{item_front}
use Rattle.core_normal.proofs.prolog.globals.Goals as goal

pub loop-declaration-init : goal.loop-declaration-init
loop-declaration-init c = record {
  vars = ap (global_values c.args.declarations.now 0) (sym c.new-vars.ensures);
  count = omega arith;
}

pub loop-declaration-preserved : goal.loop-declaration-preserved
loop-declaration-preserved c =
    let front = item_front c.args.declarations.now c.loop-declaration.declaration-index c.declaration-item.result c.loop-declaration-test.true c.declaration-item.is in
    record {
      vars = c.loop-declaration.invariant.vars ∙ ap (λ l. global_values l c.loop-declaration.j (vars_in c.loop-declaration.vars)) front ∙ c.in_ok-j.ensures.vars _;
      count = c.loop-declaration.invariant.count ∙ ap (λ l. c.loop-declaration.j + var_count l) front ∙ c.in_ok-j.ensures.count _;
    }

pub returns-clause-vars : goal.returns-clause-vars
returns-clause-vars c =
    let done : length c.args.declarations.now ≤ c.loop-declaration.declaration-index = omega arith in
    sym (c.loop-declaration.invariant.vars ∙ ap (λ l. global_values l c.loop-declaration.j (vars_in c.loop-declaration.vars)) (drop_all c.loop-declaration.declaration-index c.args.declarations.now done))

pub returns-clause-count : goal.returns-clause-count
returns-clause-count c =
    let done : length c.args.declarations.now ≤ c.loop-declaration.declaration-index = omega arith in
    sym (c.loop-declaration.invariant.count ∙ ap (λ l. c.loop-declaration.j + var_count l) (drop_all c.loop-declaration.declaration-index c.args.declarations.now done) ∙ omega arith)
