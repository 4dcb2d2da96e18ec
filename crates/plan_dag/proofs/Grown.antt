-- One more operator.
use Rattle.std.proofs.Common.{◌≡◌, ◌&&◌, ◌++◌, ◌∷◌, [], ℕ, zero, suc, Bool, true, false, not, List, Option, Some, None, length, map, refl, sym, ap, ◌∙◌, subst, true≢false, slice_get, arith, ◌+◌, Result, Ok, Err, is_ok, is_err, if◌then◌else◌}
use Rattle.std.specs.List.{list_any}
use Rattle.plan_dag.specs.declared.cols.Col.{Col}
use Rattle.plan_dag.specs.declared.op.Op.{Op}
use Rattle.plan_dag.specs.Schema.{schemas, schemas_from, columns, fits, valid_from, is_valid, is_site, site_of, site_is_new}
use Rattle.plan_dag.specs.Graphs.{ops_in, cols_in, sites_in, site_list, KeepsPlan}
use Rattle.plan_dag.proofs.Sites.{sites_pushed}

both : (a b : Bool) → (a && b) ≡ true → (a ≡ true) × (b ≡ true)
both true true e = (refl, refl)
both true false e = absurd (true≢false (sym e))
both false b e = absurd (true≢false (sym e))

join : (a b : Bool) → a ≡ true → b ≡ true → (a && b) ≡ true
join true true e f = refl
join true false e f = f
join false b e f = e

app : {X : Type 0} (xs : List X) (y : X) (zs : List X) → (xs ++ y ∷ []) ++ zs ≡ xs ++ y ∷ zs
app [] y zs = refl
app (x ∷ xs) y zs = ap (λ z. x ∷ z) (app xs y zs)

app_none : {X : Type 0} (xs : List X) → xs ++ [] ≡ xs
app_none [] = refl
app_none (x ∷ xs) = ap (λ z. x ∷ z) (app_none xs)

valid_more : (done ops : List Op) (op : Op) → valid_from done ops ≡ true → fits (done ++ ops) op ≡ true → valid_from done (ops ++ op ∷ []) ≡ true
valid_more done [] op v f = join (fits done op) true (subst (λ z. fits z op ≡ true) (app_none done) f) refl
valid_more done (p ∷ ops) op v f =
    let h = both (fits done p) (valid_from (done ++ p ∷ []) ops) v in
    join (fits done p) (valid_from (done ++ p ∷ []) (ops ++ op ∷ [])) h.0 (valid_more (done ++ p ∷ []) ops op h.1 (subst (λ z. fits z op ≡ true) (sym (app done p ops)) f))

schemas_more : (s : List (List Col)) (ops : List Op) (op : Op) → schemas_from s (ops ++ op ∷ []) ≡ schemas_from s ops ++ columns (schemas_from s ops) op ∷ []
schemas_more s [] op = refl
schemas_more s (p ∷ ops) op = schemas_more (s ++ columns s p ∷ []) ops op

pub ops_more : (ks : List (Op × List Col)) (k : Op × List Col) → ops_in (ks ++ k ∷ []) ≡ ops_in ks ++ k.0 ∷ []
ops_more [] k = refl
ops_more (x ∷ ks) k = ap (λ z. x.0 ∷ z) (ops_more ks k)

cols_more : (ks : List (Op × List Col)) (k : Op × List Col) → cols_in (ks ++ k ∷ []) ≡ cols_in ks ++ k.1 ∷ []
cols_more [] k = refl
cols_more (x ∷ ks) k = ap (λ z. x.1 ∷ z) (cols_more ks k)

pub keeps_more : (ks ls : List (Op × List Col)) (sites more : List ℕ) (k : Op × List Col) → KeepsPlan ks sites → fits (ops_in ks) k.0 ≡ true → k.1 ≡ columns (schemas (ops_in ks)) k.0
    → ls ≡ ks ++ k ∷ [] → more ≡ sites ++ site_list (site_of k.0) → KeepsPlan ls more
keeps_more ks ls sites more k keeps f c grown sited =
    let there : ops_in ls ≡ ops_in ks ++ k.0 ∷ [] = ap ops_in grown ∙ ops_more ks k in
    record {
      valid = subst (λ z. valid_from [] z ≡ true) (sym there) (valid_more [] (ops_in ks) k.0 keeps.valid f);
      cols_are = ap cols_in grown ∙ cols_more ks k ∙ ap (λ z. z ++ k.1 ∷ []) keeps.cols_are ∙ ap (λ z. schemas (ops_in ks) ++ z ∷ []) c ∙ sym (schemas_more [] (ops_in ks) k.0) ∙ ap schemas (sym there);
      sites_are = sited ∙ ap (λ z. z ++ site_list (site_of k.0)) keeps.sites_are ∙ sym (sites_pushed (ops_in ks) k.0) ∙ ap sites_in (sym there);
    }

pub last_op : (ops : List Op) (op : Op) → slice_get (ops ++ op ∷ []) (length ops) ≡ Some op
last_op ops op = by ops
  where
    by : (ops : List Op) → slice_get (ops ++ op ∷ []) (length ops) ≡ Some op
    by [] = refl
    by (p ∷ ops) = by ops

pub as_many : (ks : List (Op × List Col)) → length (ops_in ks) ≡ length ks
as_many [] = refl
as_many (k ∷ ks) = ap suc (as_many ks)
