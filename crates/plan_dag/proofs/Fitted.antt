-- Tests of operators.
use Rattle.std.proofs.Common.{◌≡◌, ◌<◌, ◌&&◌, Bool, true, false, List, length, refl, arith, sym, ◌∙◌}
use Rattle.std.specs.Prelude.{nat_lt, ◌&&◌}
use Rattle.std.proofs.lemmas.Bool.Decides.{Decides-ltb}
use Rattle.plan_dag.specs.declared.cols.Col.{Col}
use Rattle.plan_dag.specs.Schema.{is_schema, cols_differ}
use Rattle.std.proofs.Common.{true≢false, [], ◌∷◌, ℕ, nat_eq, ap}
use Rattle.std.specs.Cmp.Lexicographic.{pointwise}
use Rattle.std.specs.Cmp.{unsigned_Decides, booleans_Decides}
use Rattle.plan_dag.specs.declared.keys.Key.{Key}
use Rattle.plan_dag.specs.declared.pairs.Pair.{Pair}
use Rattle.plan_dag.specs.Padded.{col_eq, key_eq, pair_eq}

-- more than eight columns are no table's
pub too_many : (b : Bool) (cs : List Col) → 8 < length cs → (b && is_schema cs) ≡ false
too_many b cs h = by b (nat_lt 0 (length cs)) (nat_lt (length cs) 9) (cols_differ cs) (short (nat_lt (length cs) 9) refl)
  where
    short : (x : Bool) → nat_lt (length cs) 9 ≡ x → nat_lt (length cs) 9 ≡ false
    short true e = absurd (omega (arith, h, (Decides-ltb (length cs) 9).0 e))
    short false e = e

    by : (b x y z : Bool) → y ≡ false → (b && ((x && y) && z)) ≡ false
    by true true true z e = absurd (true≢false e)
    by true true false z e = refl
    by true false y z e = refl
    by false x y z e = refl

pub both : (a b : Bool) → (a && b) ≡ true → (a ≡ true) × (b ≡ true)
both true true e = (refl, refl)
both true false e = absurd (true≢false (sym e))
both false b e = absurd (true≢false (sym e))

-- equal lists
pub same_lists : {X : Type 0} (eq : X → X → Bool) → ((x y : X) → eq x y ≡ true → x ≡ y) → (xs ys : List X) → pointwise eq xs ys ≡ true → xs ≡ ys
same_lists eq h [] [] e = refl
same_lists eq h [] (y ∷ ys) e = absurd (true≢false (sym e))
same_lists eq h (x ∷ xs) [] e = absurd (true≢false (sym e))
same_lists eq h (x ∷ xs) (y ∷ ys) e = let p = both (eq x y) (pointwise eq xs ys) e in λ i. h x y p.0 i ∷ same_lists eq h xs ys p.1 i

col_same : (x y : Col) → col_eq x y ≡ true → x ≡ y
col_same x y e = λ i. record { 0 = (unsigned_Decides x.0 y.0).0 e i }

pub cols_same : (xs ys : List Col) → pointwise col_eq xs ys ≡ true → xs ≡ ys
cols_same = same_lists col_eq col_same

key_same : (x y : Key) → key_eq x y ≡ true → x ≡ y
key_same x y e = let p = both (nat_eq x.col.0 y.col.0) _ e in λ i. record { col = col_same x.col y.col p.0 i; descending = (booleans_Decides x.descending y.descending).0 p.1 i }

pub keys_same : (xs ys : List Key) → pointwise key_eq xs ys ≡ true → xs ≡ ys
keys_same = same_lists key_eq key_same

pair_same : (x y : Pair) → pair_eq x y ≡ true → x ≡ y
pair_same x y e = let p = both (nat_eq x.new.0 y.new.0) _ e in λ i. record { new = col_same x.new y.new p.0 i; old = col_same x.old y.old p.1 i }

pub pairs_same : (xs ys : List Pair) → pointwise pair_eq xs ys ≡ true → xs ≡ ys
pairs_same = same_lists pair_eq pair_same
