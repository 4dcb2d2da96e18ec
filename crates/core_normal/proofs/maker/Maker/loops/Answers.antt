use Rattle.std.proofs.Common.{◌≡◌, length, arith}
use Rattle.core_normal.proofs.SortsMade.{flwor_plain, flwor_sorted}
use Rattle.core_normal.proofs.maker.Maker.loops.Goals as goal

pub returns-in_ok-core-in-empty : goal.returns-in_ok-core-in-empty
returns-in_ok-core-in-empty g c =
    let none : length c.args.keys.now ≡ 0 = omega arith in
    flwor_plain _ _ _ _ _ _ _ none c.in_ok-core-in-empty.ensures

pub returns-in_ok-core-in-len1-up : goal.returns-in_ok-core-in-len1-up
returns-in_ok-core-in-len1-up g c = flwor_sorted _ _ _ _ _ _ _ c.in-len1-up.len_at_least c.in_ok-core-in-len1-up.ensures
