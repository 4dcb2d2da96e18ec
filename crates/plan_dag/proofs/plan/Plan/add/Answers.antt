use Rattle.std.proofs.Common.{arith, rules, ◌≡◌, ◌++◌, ◌∷◌, [], ◌&&◌, Bool, true, false, List, ℕ, Some, None, inl, inr, refl, sym, ap, ◌∙◌, subst, length, slice_get, true≢false}
use Rattle.plan_dag.specs.declared.op.Op.{Op}
use Rattle.plan_dag.specs.Meaning.{Graph}
use Rattle.plan_dag.specs.Schema.{fits, fits_columns, schemas, site_is_new, site_of}
use Rattle.plan_dag.specs.Graphs.{ops_in, site_list, Lacks, with_op}
use Rattle.plan_dag.proofs.Fitted.{both}
use Rattle.plan_dag.proofs.Grown.{keeps_more, ops_more, last_op, as_many}
use Rattle.plan_dag.proofs.Sites.{plain, new_site}
use Rattle.plan_dag.proofs.plan.Plan.add.Goals as goal

new : (ops : List Op) (op : Op) → fits ops op ≡ true → site_is_new ops op ≡ true
new ops op e = (both (fits_columns (schemas ops) op) (site_is_new ops op) e).1

pub returns-in-Some-clause-ok : goal.returns-in-Some-clause-ok
returns-in-Some-clause-ok c =
    let there : slice_get c.args.self.now.ops c.in-Some.at ≡ Some c.args.op = ap (λ (g : Graph). slice_get g.ops c.in-Some.at) (sym c.self.view_is) ∙ c.in-Some.ensures in
    (there, inl (refl, plain c.args.self.now.ops c.args.op c.in-Some.at there (new c.args.self.now.ops c.args.op c.requires)))

pub put_site-requires : goal.put_site-requires
put_site-requires c =
    let ops = ops_in c.self.inside.kept.entries in
    new_site ops c.args.op c.self.inside.sites.keys c.site.result c.self.invariant.sites_are c.site.ensures (new ops c.args.op c.in-Some-fitting_behind.ensures.0)

grown : (c : goal.Else-is_err) → c.put_op.new.kept.entries ≡ c.self.inside.kept.entries ++ (c.args.op, c.in-Some-fitting_behind.cols) ∷ []
grown c = search rules

pub invariant_of-self-else-is_err : goal.invariant_of-self-else-is_err
invariant_of-self-else-is_err c =
    let sited : c.put_site.new.sites.keys ≡ c.self.inside.sites.keys ++ site_list c.site.result = search rules in
    keeps_more c.self.inside.kept.entries c.put_op.new.kept.entries c.self.inside.sites.keys c.put_site.new.sites.keys (c.args.op, c.in-Some-fitting_behind.cols)
    c.self.invariant c.in-Some-fitting_behind.ensures.0 c.in-Some-fitting_behind.ensures.1 (grown c) (sited ∙ ap (λ z. c.self.inside.sites.keys ++ site_list z) c.site.ensures)

pub returns-clause-ok : goal.returns-clause-ok
returns-clause-ok c =
    let ops = ops_in c.self.inside.kept.entries in
    let there : ops_in c.put_op.new.kept.entries ≡ ops ++ c.args.op ∷ [] = ap ops_in (grown c) ∙ ops_more c.self.inside.kept.entries (c.args.op, c.in-Some-fitting_behind.cols) in
    let number : c.len-id.result ≡ length ops = omega (arith, as_many c.self.inside.kept.entries, c.len-id.ensures.len) in (
      ap (λ z. slice_get z c.len-id.result) there ∙ ap (slice_get (ops ++ c.args.op ∷ [])) number ∙ last_op ops c.args.op,
      inr (
        (subst (λ (g : Graph). Lacks g.ops c.args.op) c.self.view_is c.in_default.ensures),
        number ∙ ap (λ (g : Graph). length g.ops) c.self.view_is,
        ap (λ z. record { ops = z; checks = c.self.inside.checks.items; root = c.self.inside.root }) there ∙ ap (with_op c.args.op) c.self.view_is,
      ),
    )
