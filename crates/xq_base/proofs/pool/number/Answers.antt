use Rattle.std.proofs.Common.{refl, inl, ◌≡◌, Some, slice_get, rules}
use Rattle.xq_base.specs.Pool.{texts_of}
use Rattle.xq_base.proofs.Distinct.{Holds-at}
use Rattle.xq_base.proofs.pool.number.Goals as goal

pub returns-in-Some-clause-gained : goal.returns-in-Some-clause-gained
returns-in-Some-clause-gained c =
    let found : slice_get (texts_of c.args.kept.now.keys) c.in-Some.at ≡ Some c.args.text.now = search rules in
    inl (Holds-at (texts_of c.args.kept.now.keys) c.in-Some.at c.args.text.now found, refl)
