-- The sites of operators, and the tests of them.
use Rattle.std.proofs.Common.{◌≡◌, ◌∙◌, ◌&&◌, ◌||◌, ◌++◌, ◌∷◌, [], ℕ, zero, suc, Bool, true, false, not, nat_eq, List, Option, Some, None, slice_get, refl, sym, ap, true≢false}
use Rattle.std.specs.List.{list_any}
use Rattle.std.specs.Cmp.{unsigned_Decides}
use Rattle.std.proofs.lemmas.List.{append-nil, append_assoc}
use Rattle.plan_dag.specs.declared.op.Op.{Op}
use Rattle.plan_dag.specs.Schema.{is_site, site_of, site_is_new}
use Rattle.plan_dag.specs.Graphs.{site_list, sites_in, IsNewSite}

-- no site is taken where there is none
pub nothing_taken : (s : Option ℕ) (ops : List Op) → s ≡ None → not (list_any (λ p. is_site s (site_of p)) ops) ≡ true
nothing_taken None [] e = refl
nothing_taken None (op ∷ ops) e = nothing_taken None ops e
nothing_taken (Some n) [] e = refl
nothing_taken (Some n) (op ∷ ops) e = cc

-- a site among the sites is one of an operator
pub site_among : (s : ℕ) (ops : List Op) → list_any (nat_eq s) (sites_in ops) ≡ list_any (λ p. is_site (Some s) (site_of p)) ops
site_among s [] = refl
site_among s (op ∷ ops) = by (site_of op) (site_among s ops)
  where
    by : (o : Option ℕ) → list_any (nat_eq s) (sites_in ops) ≡ list_any (λ p. is_site (Some s) (site_of p)) ops
        → list_any (nat_eq s) (site_list o ++ sites_in ops) ≡ is_site (Some s) o || list_any (λ p. is_site (Some s) (site_of p)) ops
    by None e = e
    by (Some t) e = ap (λ b. nat_eq s t || b) e

not_true : (b : Bool) → not b ≡ true → b ≡ false
not_true true e = absurd (true≢false (sym e))
not_true false e = refl

-- the site of an operator that fits isn't among them
pub new_site : (ops : List Op) (op : Op) (sites : List ℕ) (s : Option ℕ) → sites ≡ sites_in ops → s ≡ site_of op → site_is_new ops op ≡ true → IsNewSite sites s
new_site ops op sites None e f new = tt
new_site ops op sites (Some s) e f new =
    ap (λ z. list_any (nat_eq s) z) e ∙ site_among s ops ∙ not_true _ (ap (λ z. not (list_any (λ p. is_site z (site_of p)) ops)) f ∙ new)

pub sites_pushed : (ops : List Op) (op : Op) → sites_in (ops ++ op ∷ []) ≡ sites_in ops ++ site_list (site_of op)
sites_pushed [] op = append-nil (site_list (site_of op))
sites_pushed (p ∷ ops) op = ap (λ z. site_list (site_of p) ++ z) (sites_pushed ops op) ∙ sym (append_assoc (site_list (site_of p)) (sites_in ops) (site_list (site_of op)))

-- an operator that is there has its site taken
taken : (ops : List Op) (op : Op) (i s : ℕ) → slice_get ops i ≡ Some op → site_of op ≡ Some s → list_any (λ p. is_site (Some s) (site_of p)) ops ≡ true
taken [] op i s at e = cc
taken (p ∷ ops) op zero s at e =
    let same : p ≡ op = cc in
    ap (λ z. is_site (Some s) z || list_any (λ q. is_site (Some s) (site_of q)) ops) (ap site_of same ∙ e) ∙ ap (λ b. b || list_any (λ q. is_site (Some s) (site_of q)) ops) ((unsigned_Decides s s).1 refl)
taken (p ∷ ops) op (suc i) s at e = by (is_site (Some s) (site_of p)) (taken ops op i s at e)
  where
    by : (b : Bool) → list_any (λ q. is_site (Some s) (site_of q)) ops ≡ true → b || list_any (λ q. is_site (Some s) (site_of q)) ops ≡ true
    by true e = refl
    by false e = e

-- so an operator that fits and is there has none
pub plain : (ops : List Op) (op : Op) (i : ℕ) → slice_get ops i ≡ Some op → site_is_new ops op ≡ true → site_of op ≡ None
plain ops op i at new = by (site_of op) refl
  where
    by : (s : Option ℕ) → site_of op ≡ s → s ≡ None
    by None e = refl
    by (Some s) e = absurd (true≢false (sym (taken ops op i s at e) ∙ not_true _ (ap (λ z. not (list_any (λ p. is_site z (site_of p)) ops)) (sym e) ∙ new)))
