use Rattle.std.proofs.Common.{◌≤◌, length, arith}
use Rattle.std.proofs.lemmas.List.{drop_all}
use Rattle.core_normal.proofs.PrologMade.{prolog_start, prolog_turn, prolog_end}
use Rattle.core_normal.proofs.maker.Maker.prolog.Goals as goal

pub loop-declaration-init : goal.loop-declaration-init
loop-declaration-init g c = prolog_start _ _ _ c.new-values.ensures.items

pub loop-declaration-preserved : goal.loop-declaration-preserved
loop-declaration-preserved g c =
    prolog_turn _ _ _ c.declaration-item.result _ _ c.loop-declaration-test.true c.declaration-item.is c.loop-declaration.invariant c.in_ok-pass.ensures

pub returns : goal.returns
returns g c =
    let done : length c.args.declarations.now ≤ c.loop-declaration.declaration-index = omega arith in
    prolog_end _ _ _ _ _ _ (drop_all c.loop-declaration.declaration-index c.args.declarations.now done) c.loop-declaration.invariant c.in_ok-core.ensures c.in_ok-whole.ensures
