use Rattle.std.proofs.Common.{◌≡◌, ◌++◌, [], map, drop, Ok}
use Rattle.core_meaning.specs.Erasure.{core_of, plain_bind, plain_key, cores_of, binds_of, keys_of}
use Rattle.xq_types.specs.Held.{typ_of}
use Rattle.xq_types.specs.Entered.{around, before}
use Rattle.xq_types.specs.Judging.{and_then, judged_all, judged_binds, judged_keys}
use Rattle.xq_types.specs.Scopes.{types_in}
use Rattle.xq_types.proofs.infer.+infer.Given as goal

abbrev pub invariant-infer_all-loop-core : goal.invariant-infer_all-loop-core
invariant-infer_all-loop-core l = record {
  so_far : judged_all (types_in l.fn.scope) (cores_of (map (core_of []) l.cores)) ≡ and_then (judged_all (types_in l.fn.scope) (cores_of (map (core_of []) (drop l.core-index l.cores)))) (λ ts. Ok (map typ_of l.types.items ++ ts));
  same : types_in l.scope ≡ types_in l.fn.scope;
}

abbrev pub invariant-enter_binds-loop-bind : goal.invariant-enter_binds-loop-bind
invariant-enter_binds-loop-bind l = record {
  so_far : judged_binds (types_in l.fn.scope) (binds_of (map (plain_bind []) l.binds)) ≡ and_then (judged_binds (types_in l.scope) (binds_of (map (plain_bind []) (drop l.bind-index l.binds)))) (λ q. Ok (q.0, λ u. around l.entered (q.1 u)));
  back : before l.entered (types_in l.scope) ≡ types_in l.fn.scope;
}

abbrev pub invariant-infer_keys-loop-key : goal.invariant-infer_keys-loop-key
invariant-infer_keys-loop-key l = record {
  so_far : judged_keys (types_in l.fn.scope) (keys_of (map (plain_key []) l.keys)) ≡ judged_keys (types_in l.fn.scope) (keys_of (map (plain_key []) (drop l.key-index l.keys)));
  same : types_in l.scope ≡ types_in l.fn.scope;
}
