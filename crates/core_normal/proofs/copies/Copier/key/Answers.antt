use Rattle.std.proofs.Common.{ℕ}
use Rattle.core_meaning.specs.declared.node.Bind.TheFolds.{fold_out-SortKey}
use Rattle.core_meaning.specs.PlainCore.{PlainCore, PlainBind, PlainKey}
use Rattle.core_meaning.specs.Erasure.{bind_of, form_of, key_of, node_of}
use Rattle.core_normal.proofs.Copied.{key_copied}
use Rattle.core_normal.proofs.copies.Copier.key.Goals as goal

pub returns : goal.returns
returns g c = λ x.
    key_copied c.args.self.now.moving.base c.args.self.now.moving.by x c.args.key.now _ _ _ _ _ _
    (fold_out-SortKey PlainBind (ℕ → PlainCore) PlainCore PlainKey (bind_of x) (form_of x) (node_of x) (key_of x) c.args.key.now) c.get.ensures (c.in_ok-value.ensures x) (c.in_ok-copy.ensures x)
