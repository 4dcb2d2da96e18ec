use Rattle.std.proofs.Common.{◌≡◌, ◌+◌, drop}
use Rattle.core_scope.specs.Held.{names_in}
use Rattle.core_scope.specs.Names.{no_names}
use Rattle.core_scope.specs.Open.{open_in}
use Rattle.core_scope.specs.Telling.{entered_fors, entered_lets, entered_quants, entered_clauses, told_all, told_rights, told_behinds, told_keys, told_values, told_parts, told_fors, told_lets, told_quants, told_clauses, told_attributes}
use Rattle.core_scope.proofs.walk.+walk.Given as goal

abbrev pub invariant-walk_all-loop-node : goal.invariant-walk_all-loop-node
invariant-walk_all-loop-node l = record {
  found : told_all l.functions (drop l.node-index l.nodes) (open_in l.names) l.found ≡ told_all l.functions l.nodes (open_in l.fn.names) l.fn.found;
  names : open_in l.names ≡ open_in l.fn.names;
}

abbrev pub invariant-walk_rights-loop-right : goal.invariant-walk_rights-loop-right
invariant-walk_rights-loop-right l = record {
  found : told_rights l.functions (drop l.right-index l.rights) (open_in l.names) l.found ≡ told_rights l.functions l.rights (open_in l.fn.names) l.fn.found;
  names : open_in l.names ≡ open_in l.fn.names;
}

abbrev pub invariant-walk_behinds-loop-behind : goal.invariant-walk_behinds-loop-behind
invariant-walk_behinds-loop-behind l = record {
  found : told_behinds l.functions (drop l.behind-index l.behinds) (open_in l.names) l.found ≡ told_behinds l.functions l.behinds (open_in l.fn.names) l.fn.found;
  names : open_in l.names ≡ open_in l.fn.names;
}

abbrev pub invariant-walk_keys-loop-key : goal.invariant-walk_keys-loop-key
invariant-walk_keys-loop-key l = record {
  found : told_keys l.functions (drop l.key-index l.keys) (open_in l.names) l.found ≡ told_keys l.functions l.keys (open_in l.fn.names) l.fn.found;
  names : open_in l.names ≡ open_in l.fn.names;
}

abbrev pub invariant-walk_values-loop-part : goal.invariant-walk_values-loop-part
invariant-walk_values-loop-part l = record {
  found : told_values l.functions (drop l.part-index l.parts) (open_in l.names) l.found ≡ told_values l.functions l.parts (open_in l.fn.names) l.fn.found;
  names : open_in l.names ≡ open_in l.fn.names;
}

abbrev pub invariant-walk_parts-loop-part : goal.invariant-walk_parts-loop-part
invariant-walk_parts-loop-part l = record {
  found : told_parts l.functions (drop l.part-index l.parts) (open_in l.names) l.found ≡ told_parts l.functions l.parts (open_in l.fn.names) l.fn.found;
  names : open_in l.names ≡ open_in l.fn.names;
}

abbrev pub invariant-walk_fors-loop-bind : goal.invariant-walk_fors-loop-bind
invariant-walk_fors-loop-bind l = record {
  found : told_fors l.functions (drop l.bind-index l.binds) (open_in l.names) l.found ≡ told_fors l.functions l.binds (open_in l.fn.names) l.fn.found;
  names : entered_fors (drop l.bind-index l.binds) (open_in l.names) ≡ entered_fors l.binds (open_in l.fn.names);
}

abbrev pub invariant-walk_lets-loop-bind : goal.invariant-walk_lets-loop-bind
invariant-walk_lets-loop-bind l = record {
  found : told_lets l.functions (drop l.bind-index l.binds) (open_in l.names) l.found ≡ told_lets l.functions l.binds (open_in l.fn.names) l.fn.found;
  names : entered_lets (drop l.bind-index l.binds) (open_in l.names) ≡ entered_lets l.binds (open_in l.fn.names);
}

abbrev pub invariant-walk_quants-loop-bind : goal.invariant-walk_quants-loop-bind
invariant-walk_quants-loop-bind l = record {
  found : told_quants l.functions (drop l.bind-index l.binds) (open_in l.names) l.found ≡ told_quants l.functions l.binds (open_in l.fn.names) l.fn.found;
  names : entered_quants (drop l.bind-index l.binds) (open_in l.names) ≡ entered_quants l.binds (open_in l.fn.names);
}

abbrev pub invariant-walk_clauses-loop-clause : goal.invariant-walk_clauses-loop-clause
invariant-walk_clauses-loop-clause l = record {
  found : told_clauses l.functions (drop l.clause-index l.clauses) (open_in l.names) l.found ≡ told_clauses l.functions l.clauses (open_in l.fn.names) l.fn.found;
  names : entered_clauses (drop l.clause-index l.clauses) (open_in l.names) ≡ entered_clauses l.clauses (open_in l.fn.names);
}

abbrev pub invariant-walk_attributes-loop-attribute : goal.invariant-walk_attributes-loop-attribute
invariant-walk_attributes-loop-attribute l = record {
  found : told_attributes l.functions (drop l.attribute-index l.attributes) (names_in l.seen) (open_in l.names) l.found ≡ told_attributes l.functions l.attributes no_names (open_in l.fn.names) l.fn.found;
  names : open_in l.names ≡ open_in l.fn.names;
}

-- what a piece is walked as ranks by how many lists stand in it

abbrev pub decreases-walk : goal.decreases-walk
decreases-walk l = goal.size-walk l + goal.size-walk l + goal.size-walk l + goal.size-walk l + goal.size-walk l

abbrev pub decreases-walk_all : goal.decreases-walk_all
decreases-walk_all l = goal.size-walk_all l + goal.size-walk_all l + goal.size-walk_all l + goal.size-walk_all l + goal.size-walk_all l + 1

abbrev pub decreases-walk_maybe : goal.decreases-walk_maybe
decreases-walk_maybe l = goal.size-walk_maybe l + goal.size-walk_maybe l + goal.size-walk_maybe l + goal.size-walk_maybe l + goal.size-walk_maybe l + 1

abbrev pub decreases-walk_rights : goal.decreases-walk_rights
decreases-walk_rights l = goal.size-walk_rights l + goal.size-walk_rights l + goal.size-walk_rights l + goal.size-walk_rights l + goal.size-walk_rights l + 1

abbrev pub decreases-walk_keys : goal.decreases-walk_keys
decreases-walk_keys l = goal.size-walk_keys l + goal.size-walk_keys l + goal.size-walk_keys l + goal.size-walk_keys l + goal.size-walk_keys l + 1

abbrev pub decreases-walk_name : goal.decreases-walk_name
decreases-walk_name l = goal.size-walk_name l + goal.size-walk_name l + goal.size-walk_name l + goal.size-walk_name l + goal.size-walk_name l + 1

abbrev pub decreases-walk_step : goal.decreases-walk_step
decreases-walk_step l = goal.size-walk_step l + goal.size-walk_step l + goal.size-walk_step l + goal.size-walk_step l + goal.size-walk_step l + 2

abbrev pub decreases-walk_behinds : goal.decreases-walk_behinds
decreases-walk_behinds l = goal.size-walk_behinds l + goal.size-walk_behinds l + goal.size-walk_behinds l + goal.size-walk_behinds l + goal.size-walk_behinds l + 3

abbrev pub decreases-walk_for : goal.decreases-walk_for
decreases-walk_for l = goal.size-walk_for l + goal.size-walk_for l + goal.size-walk_for l + goal.size-walk_for l + goal.size-walk_for l + 1

abbrev pub decreases-walk_fors : goal.decreases-walk_fors
decreases-walk_fors l = goal.size-walk_fors l + goal.size-walk_fors l + goal.size-walk_fors l + goal.size-walk_fors l + goal.size-walk_fors l + 2

abbrev pub decreases-walk_let : goal.decreases-walk_let
decreases-walk_let l = goal.size-walk_let l + goal.size-walk_let l + goal.size-walk_let l + goal.size-walk_let l + goal.size-walk_let l + 1

abbrev pub decreases-walk_lets : goal.decreases-walk_lets
decreases-walk_lets l = goal.size-walk_lets l + goal.size-walk_lets l + goal.size-walk_lets l + goal.size-walk_lets l + goal.size-walk_lets l + 2

abbrev pub decreases-walk_quant : goal.decreases-walk_quant
decreases-walk_quant l = goal.size-walk_quant l + goal.size-walk_quant l + goal.size-walk_quant l + goal.size-walk_quant l + goal.size-walk_quant l + 1

abbrev pub decreases-walk_quants : goal.decreases-walk_quants
decreases-walk_quants l = goal.size-walk_quants l + goal.size-walk_quants l + goal.size-walk_quants l + goal.size-walk_quants l + goal.size-walk_quants l + 2

abbrev pub decreases-walk_clause : goal.decreases-walk_clause
decreases-walk_clause l = goal.size-walk_clause l + goal.size-walk_clause l + goal.size-walk_clause l + goal.size-walk_clause l + goal.size-walk_clause l + 3

abbrev pub decreases-walk_clauses : goal.decreases-walk_clauses
decreases-walk_clauses l = goal.size-walk_clauses l + goal.size-walk_clauses l + goal.size-walk_clauses l + goal.size-walk_clauses l + goal.size-walk_clauses l + 4

abbrev pub decreases-walk_value : goal.decreases-walk_value
decreases-walk_value l = goal.size-walk_value l + goal.size-walk_value l + goal.size-walk_value l + goal.size-walk_value l + goal.size-walk_value l + 1

abbrev pub decreases-walk_values : goal.decreases-walk_values
decreases-walk_values l = goal.size-walk_values l + goal.size-walk_values l + goal.size-walk_values l + goal.size-walk_values l + goal.size-walk_values l + 2

abbrev pub decreases-walk_attribute : goal.decreases-walk_attribute
decreases-walk_attribute l = goal.size-walk_attribute l + goal.size-walk_attribute l + goal.size-walk_attribute l + goal.size-walk_attribute l + goal.size-walk_attribute l + 3

abbrev pub decreases-walk_attributes : goal.decreases-walk_attributes
decreases-walk_attributes l = goal.size-walk_attributes l + goal.size-walk_attributes l + goal.size-walk_attributes l + goal.size-walk_attributes l + goal.size-walk_attributes l + 4

abbrev pub decreases-walk_part : goal.decreases-walk_part
decreases-walk_part l = goal.size-walk_part l + goal.size-walk_part l + goal.size-walk_part l + goal.size-walk_part l + goal.size-walk_part l + 1

abbrev pub decreases-walk_parts : goal.decreases-walk_parts
decreases-walk_parts l = goal.size-walk_parts l + goal.size-walk_parts l + goal.size-walk_parts l + goal.size-walk_parts l + goal.size-walk_parts l + 2
