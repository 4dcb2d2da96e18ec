use Rattle.std.proofs.Common.{◌≡◌, ◌+◌, drop}
use Rattle.core_normal.specs.Finding as f
use Rattle.core_normal.specs.Finding.{with_calls}
use Rattle.core_normal.proofs.calls.+calls.Given as goal

abbrev pub invariant-all-loop-e : goal.invariant-all-loop-e
invariant-all-loop-e l = f.every with_calls l.es l.initial.found.items ≡ f.every with_calls (drop l.e-index l.es) l.found.items

abbrev pub invariant-operands-loop-right : goal.invariant-operands-loop-right
invariant-operands-loop-right l = f.operands with_calls l.behind l.initial.found.items ≡ f.operands with_calls (drop l.right-index l.behind) l.found.items

abbrev pub invariant-steps-loop-next : goal.invariant-steps-loop-next
invariant-steps-loop-next l = f.steps with_calls l.behind l.initial.found.items ≡ f.steps with_calls (drop l.next-index l.behind) l.found.items

abbrev pub invariant-for_binds-loop-one : goal.invariant-for_binds-loop-one
invariant-for_binds-loop-one l = f.for_binds with_calls l.binds l.initial.found.items ≡ f.for_binds with_calls (drop l.one-index l.binds) l.found.items

abbrev pub invariant-let_binds-loop-one : goal.invariant-let_binds-loop-one
invariant-let_binds-loop-one l = f.let_binds with_calls l.binds l.initial.found.items ≡ f.let_binds with_calls (drop l.one-index l.binds) l.found.items

abbrev pub invariant-quant_binds-loop-one : goal.invariant-quant_binds-loop-one
invariant-quant_binds-loop-one l = f.quant_binds with_calls l.binds l.initial.found.items ≡ f.quant_binds with_calls (drop l.one-index l.binds) l.found.items

abbrev pub invariant-all_clauses-loop-clause : goal.invariant-all_clauses-loop-clause
invariant-all_clauses-loop-clause l = f.clauses with_calls l.clauses l.initial.found.items ≡ f.clauses with_calls (drop l.clause-index l.clauses) l.found.items

abbrev pub invariant-all_keys-loop-key : goal.invariant-all_keys-loop-key
invariant-all_keys-loop-key l = f.keys with_calls l.keys l.initial.found.items ≡ f.keys with_calls (drop l.key-index l.keys) l.found.items

abbrev pub invariant-values-loop-value : goal.invariant-values-loop-value
invariant-values-loop-value l = f.values with_calls l.values l.initial.found.items ≡ f.values with_calls (drop l.value-index l.values) l.found.items

abbrev pub invariant-all_attributes-loop-one : goal.invariant-all_attributes-loop-one
invariant-all_attributes-loop-one l = f.attributes with_calls l.attributes l.initial.found.items ≡ f.attributes with_calls (drop l.one-index l.attributes) l.found.items

abbrev pub invariant-all_parts-loop-part : goal.invariant-all_parts-loop-part
invariant-all_parts-loop-part l = f.parts with_calls l.parts l.initial.found.items ≡ f.parts with_calls (drop l.part-index l.parts) l.found.items

-- what a piece calls ranks by how many lists stand in it

abbrev pub decreases-calls : goal.decreases-calls
decreases-calls l = goal.size-calls l + goal.size-calls l + goal.size-calls l + goal.size-calls l

abbrev pub decreases-maybe : goal.decreases-maybe
decreases-maybe l = goal.size-maybe l + goal.size-maybe l + goal.size-maybe l + goal.size-maybe l + 1

abbrev pub decreases-all : goal.decreases-all
decreases-all l = goal.size-all l + goal.size-all l + goal.size-all l + goal.size-all l + 1

abbrev pub decreases-operands : goal.decreases-operands
decreases-operands l = goal.size-operands l + goal.size-operands l + goal.size-operands l + goal.size-operands l + 1

abbrev pub decreases-for_binds : goal.decreases-for_binds
decreases-for_binds l = goal.size-for_binds l + goal.size-for_binds l + goal.size-for_binds l + goal.size-for_binds l + 1

abbrev pub decreases-let_binds : goal.decreases-let_binds
decreases-let_binds l = goal.size-let_binds l + goal.size-let_binds l + goal.size-let_binds l + goal.size-let_binds l + 1

abbrev pub decreases-quant_binds : goal.decreases-quant_binds
decreases-quant_binds l = goal.size-quant_binds l + goal.size-quant_binds l + goal.size-quant_binds l + goal.size-quant_binds l + 1

abbrev pub decreases-all_keys : goal.decreases-all_keys
decreases-all_keys l = goal.size-all_keys l + goal.size-all_keys l + goal.size-all_keys l + goal.size-all_keys l + 1

abbrev pub decreases-build_name : goal.decreases-build_name
decreases-build_name l = goal.size-build_name l + goal.size-build_name l + goal.size-build_name l + goal.size-build_name l + 1

abbrev pub decreases-values : goal.decreases-values
decreases-values l = goal.size-values l + goal.size-values l + goal.size-values l + goal.size-values l + 1

abbrev pub decreases-all_parts : goal.decreases-all_parts
decreases-all_parts l = goal.size-all_parts l + goal.size-all_parts l + goal.size-all_parts l + goal.size-all_parts l + 1

abbrev pub decreases-step : goal.decreases-step
decreases-step l = goal.size-step l + goal.size-step l + goal.size-step l + goal.size-step l + 2

abbrev pub decreases-all_clauses : goal.decreases-all_clauses
decreases-all_clauses l = goal.size-all_clauses l + goal.size-all_clauses l + goal.size-all_clauses l + goal.size-all_clauses l + 2

abbrev pub decreases-all_attributes : goal.decreases-all_attributes
decreases-all_attributes l = goal.size-all_attributes l + goal.size-all_attributes l + goal.size-all_attributes l + goal.size-all_attributes l + 2

abbrev pub decreases-steps : goal.decreases-steps
decreases-steps l = goal.size-steps l + goal.size-steps l + goal.size-steps l + goal.size-steps l + 3
