-- The turns of the loops that type the parts of a node.
use Rattle.std.proofs.Common.{◌≡◌, Bool, ℕ, ◌+◌, ◌<◌, length, get_or, drop, List, [], ◌∷◌, ◌++◌, map, Result, Ok, Err, refl, sym, ap, ◌∙◌}
use Rattle.std.proofs.Math.Seq.{drop-cons}
use Rattle.std.proofs.Common.{suc, arith}
use Rattle.core_meaning.specs.declared.node.Core.{Core}
use Rattle.core_meaning.specs.declared.node.Bind.{Bind}
use Rattle.core_meaning.specs.declared.node.SortKey.{SortKey}
use Rattle.core_meaning.specs.PlainCore as c
use Rattle.core_meaning.specs.PlainCore.{PlainCore, PlainBind, PlainKey}
use Rattle.core_meaning.specs.Erasure.{core_of, plain_bind, plain_key, cores_of, binds_of, keys_of}
use Rattle.xq_types.specs.declared.typ.XqType.{XqType}
use Rattle.xq_types.specs.declared.entered.Entered.{Entered}
use Rattle.xq_types.specs.Types.{Typ}
use Rattle.xq_types.specs.Calls.{Types}
use Rattle.xq_types.specs.Typing.{TypeEnv}
use Rattle.xq_types.specs.Held.{typ_of}
use Rattle.xq_types.specs.Judging.{and_then, Bound, judged, judged_all, judged_binds, judged_keys}
use Rattle.xq_types.specs.Entered.{around}

drop_item : {A : Type 0} (xs : List A) (i : ℕ) (x : A) → i < length xs → x ≡ get_or xs i x → drop i xs ≡ x ∷ drop (i + 1) xs
drop_item xs i x h is =
    let e : suc i ≡ i + 1 = omega arith in
    drop-cons xs i x h ∙ ap (λ y. y ∷ drop (suc i) xs) (sym is) ∙ ap (λ k. x ∷ drop k xs) e

-- the types of some parts
abbrev rest_of : TypeEnv → List Core → Result Types ℕ
rest_of types xs = judged_all types (cores_of (map (core_of []) xs))

abbrev behind : List XqType → Result Types ℕ → Result Types ℕ
behind done k = and_then k (λ ts. Ok (map typ_of done ++ ts))

moved : (done : List XqType) (t : XqType) (ts : Types) → map typ_of done ++ typ_of t ∷ ts ≡ map typ_of (done ++ t ∷ []) ++ ts
moved [] t ts = refl
moved (d ∷ done) t ts = ap (λ r. typ_of d ∷ r) (moved done t ts)

behind_one : (k : Result Types ℕ) (done : List XqType) (t : XqType) → behind done (and_then k (λ ts. Ok (typ_of t ∷ ts))) ≡ behind (done ++ t ∷ []) k
behind_one (Ok ts) done t = ap Ok (moved done t ts)
behind_one (Err o) done t = refl

pub all_turn : (types now : TypeEnv) (xs : List Core) (i : ℕ) (x : Core) (j : Result Types ℕ) (done more : List XqType) (t : XqType) → i < length xs → x ≡ get_or xs i x → now ≡ types → j ≡ and_then (judged_all types (cores_of (map (core_of []) (drop i xs)))) (λ ts. Ok (map typ_of done ++ ts)) → judged now (core_of [] x) ≡ Ok (typ_of t) → more ≡ done ++ t ∷ []
    → j ≡ and_then (judged_all types (cores_of (map (core_of []) (drop (i + 1) xs)))) (λ ts. Ok (map typ_of more ++ ts))
all_turn types now xs i x j done more t h is same so_far got pushed =
    let e : drop i xs ≡ x ∷ drop (i + 1) xs = drop_item xs i x h is in
    let k = rest_of types (drop (i + 1) xs) in
    so_far ∙ ap (λ r. behind done (rest_of types r)) e
    ∙ ap (λ r. behind done (and_then r (λ v. and_then k (λ ts. Ok (v ∷ ts))))) (ap (λ e. judged e (core_of [] x)) (sym same) ∙ got)
    ∙ behind_one k done t
    ∙ ap (λ d. behind d k) (sym pushed)

-- the binds of a sorted loop
abbrev rest_binds : TypeEnv → List Bind → Result Bound ℕ
rest_binds types bs = judged_binds types (binds_of (map (plain_bind []) bs))

abbrev inside : List Entered → Result Bound ℕ → Result Bound ℕ
inside done k = and_then k (λ q. Ok (q.0, λ u. around done (q.1 u)))

pub binds_start : (k : Result Bound ℕ) (done : List Entered) → done ≡ [] → k ≡ inside done k
binds_start k done none = at k ∙ sym (ap (λ d. inside d k) none)
  where
    at : (k : Result Bound ℕ) → k ≡ inside [] k
    at (Ok q) = refl
    at (Err n) = refl

-- its keys
abbrev rest_keys : TypeEnv → List SortKey → Result (Unit {0}) ℕ
rest_keys types ks = judged_keys types (keys_of (map (plain_key []) ks))

key_then : (types : TypeEnv) (x : SortKey) (xs : List SortKey) (e : Core) (down greatest : Bool) → plain_key [] x ≡ c.key_by (core_of [] e) down greatest → rest_keys types (x ∷ xs) ≡ and_then (judged types (core_of [] e)) (λ _. rest_keys types xs)
key_then types x xs e down greatest out = ap (λ k. judged_keys types (c.one_key k (keys_of (map (plain_key []) xs)))) out

pub keys_turn : (types now : TypeEnv) (xs : List SortKey) (i : ℕ) (x : SortKey) (j : Result (Unit {0}) ℕ) (e d : Core) (down greatest : Bool) (t : Typ) → i < length xs → x ≡ get_or xs i x → plain_key [] x ≡ c.key_by (core_of [] e) down greatest → d ≡ e → now ≡ types → j ≡ rest_keys types (drop i xs) → judged now (core_of [] d) ≡ Ok t
    → j ≡ rest_keys types (drop (i + 1) xs)
keys_turn types now xs i x j e d down greatest t h is out key same so_far got =
    let front : drop i xs ≡ x ∷ drop (i + 1) xs = drop_item xs i x h is in
    let found : judged types (core_of [] e) ≡ Ok t = ap (λ z. judged types (core_of [] z)) (sym key) ∙ ap (λ z. judged z (core_of [] d)) (sym same) ∙ got in
    so_far ∙ ap (rest_keys types) front ∙ key_then types x (drop (i + 1) xs) e down greatest out ∙ ap (λ r. and_then r (λ _. rest_keys types (drop (i + 1) xs))) found
