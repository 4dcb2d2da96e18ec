use Rattle.std.proofs.Common.{sym, ap, ◌∙◌, length}
use Rattle.core_scope.proofs.Declaring.{noted_at, not_noted_at}
use Rattle.core_scope.proofs.signatures.Functions.push_plain.Goals as goal

pub invariant_of-self-in-None : goal.invariant_of-self-in-None
invariant_of-self-in-None c = λ x n.
    noted_at c.self.inside.known.items c.reserve.new.self.items c.push_reserved.new.self.items (record { name = c.args.plain; arity = c.args.arity }) x n c.args.number _ _
    c.reserve.ensures.items c.push_reserved.ensures.items (c.requires ∙ ap length (sym c.self.view_is)) (sym c.number.ensures ∙ c.in-None.is) (c.self.invariant x n)
    (c.in_ok-insert-in-None.ensures.updates.0 (record { ref_ptr = c.args.plain.ref_ptr; now = x }, n))

pub invariant_of-self-in-Some : goal.invariant_of-self-in-Some
invariant_of-self-in-Some c = λ x n.
    not_noted_at c.self.inside.known.items c.reserve.new.self.items c.push_reserved-in-Some.new.self.items (record { name = c.args.plain; arity = c.args.arity }) x n c.in-Some.field-0 _
    c.reserve.ensures.items c.push_reserved-in-Some.ensures.items (sym c.number.ensures ∙ c.in-Some.is) (c.self.invariant x n)
