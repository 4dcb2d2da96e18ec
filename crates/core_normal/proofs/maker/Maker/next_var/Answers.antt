use Rattle.std.proofs.Common.{refl}
use Rattle.core_normal.proofs.maker.Maker.next_var.Goals as goal

pub returns : goal.returns
returns g c = record {
  gives = c.in_ok-x.ensures;
  same = refl;
}
