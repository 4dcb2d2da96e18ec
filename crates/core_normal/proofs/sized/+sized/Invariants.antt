use Rattle.std.proofs.Common.{◌≡◌, false, None, drop, map}
use Rattle.core_normal.specs.Counting as z
use Rattle.core_normal.specs.Counting.{size_of}
use Rattle.core_normal.proofs.sized.+sized.Given as goal

abbrev pub invariant-chain-loop-e : goal.invariant-chain-loop-e
invariant-chain-loop-e l = z.chain l.fn.first (map (size_of l.funs) l.es) ≡ z.chain l.found (map (size_of l.funs) (drop l.e-index l.es))

abbrev pub invariant-all-loop-e : goal.invariant-all-loop-e
invariant-all-loop-e l = z.all_from z.nothing (map (size_of l.funs) l.es) ≡ z.all_from l.found (map (size_of l.funs) (drop l.e-index l.es))

abbrev pub invariant-parameters-loop-i : goal.invariant-parameters-loop-i
invariant-parameters-loop-i l = z.params l.typed (map (size_of l.funs) l.es) z.bare ≡ z.params (drop l.i l.typed) (map (size_of l.funs) (drop l.i l.es)) l.found

abbrev pub invariant-operators-loop-right : goal.invariant-operators-loop-right
invariant-operators-loop-right l = z.operators (size_of l.funs) l.fn.first l.behind ≡ z.operators (size_of l.funs) l.found (drop l.right-index l.behind)

abbrev pub invariant-steps-loop-next : goal.invariant-steps-loop-next
invariant-steps-loop-next l = z.steps (size_of l.funs) l.fn.first l.behind ≡ z.steps (size_of l.funs) l.found (drop l.next-index l.behind)

abbrev pub invariant-all_clauses-loop-clause : goal.invariant-all_clauses-loop-clause
invariant-all_clauses-loop-clause l = z.clauses (size_of l.funs) l.is_sorted z.bare l.clauses ≡ z.clauses (size_of l.funs) l.is_sorted l.found (drop l.clause-index l.clauses)

abbrev pub invariant-quant_binds-loop-one : goal.invariant-quant_binds-loop-one
invariant-quant_binds-loop-one l = z.quant_binds (size_of l.funs) z.bare l.binds ≡ z.quant_binds (size_of l.funs) l.found (drop l.one-index l.binds)

abbrev pub invariant-all_keys-loop-key : goal.invariant-all_keys-loop-key
invariant-all_keys-loop-key l = z.keys (size_of l.funs) z.nothing l.keys ≡ z.keys (size_of l.funs) l.found (drop l.key-index l.keys)

abbrev pub invariant-all_attributes-loop-one : goal.invariant-all_attributes-loop-one
invariant-all_attributes-loop-one l = z.attributes (size_of l.funs) None l.attributes ≡ z.attributes (size_of l.funs) l.found (drop l.one-index l.attributes)

abbrev pub invariant-all_parts-loop-part : goal.invariant-all_parts-loop-part
invariant-all_parts-loop-part l = z.parts (size_of l.funs) false l.fn.first l.parts ≡ z.parts (size_of l.funs) l.behind l.found (drop l.part-index l.parts)

abbrev pub invariant-step-loop-q : goal.invariant-step-loop-q
invariant-step-loop-q l = z.predicates (z.base (size_of l.funs) l.step.kind) (map (size_of l.funs) l.predicates) ≡ z.predicates l.chosen (map (size_of l.funs) (drop l.q-index l.predicates))

abbrev pub invariant-steps-loop-q : goal.invariant-steps-loop-q
invariant-steps-loop-q l = z.predicates (z.base (size_of l.funs) l.next.step.kind) (map (size_of l.funs) l.predicates) ≡ z.predicates l.chosen (map (size_of l.funs) (drop l.q-index l.predicates))

abbrev pub invariant-all_clauses-loop-one : goal.invariant-all_clauses-loop-one
invariant-all_clauses-loop-one l = z.for_binds (size_of l.funs) l.is_sorted l.initial.found l.loops ≡ z.for_binds (size_of l.funs) l.is_sorted l.found (drop l.one-index l.loops)

abbrev pub invariant-all_clauses-loop-each : goal.invariant-all_clauses-loop-each
invariant-all_clauses-loop-each l = z.let_binds (size_of l.funs) l.is_sorted l.initial.found l.lets ≡ z.let_binds (size_of l.funs) l.is_sorted l.found (drop l.each-index l.lets)

abbrev pub invariant-all_attributes-loop-part : goal.invariant-all_attributes-loop-part
invariant-all_attributes-loop-part l = z.values (size_of l.funs) z.nothing l.parts ≡ z.values (size_of l.funs) l.all (drop l.part-index l.parts)
