use Rattle.std.proofs.Common.{◌≡◌, ◌∷◌, ◌++◌, drop}
use Rattle.query_engine.specs.Evaluating.{bindings_of}
use Rattle.query_engine.proofs.evaluate.extended.Given as goal

abbrev pub invariant-loop-binding : goal.invariant-loop-binding
invariant-loop-binding l = bindings_of l.found.items ++ bindings_of (drop l.binding-index l.env) ≡ (l.fn.inner.var, l.fn.inner.items.items) ∷ bindings_of l.env
