use Rattle.std.proofs.Common.{◌≡◌, ◌++◌, flat_map, string_bytes}
use Rattle.xq_funs.specs.Replacements.{in_place}
use Rattle.xq_funs.proofs.translate.push_translated.Given as goal

abbrev pub invariant-loop-c : goal.invariant-loop-c
invariant-loop-c l = string_bytes l.out ≡ string_bytes l.initial.out ++ flat_map (in_place l.table.entries) l.yielded
