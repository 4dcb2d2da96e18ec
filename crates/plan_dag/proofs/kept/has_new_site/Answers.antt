use Rattle.std.proofs.Common.{◌∙◌, sym, ap, not, nat_eq}
use Rattle.std.specs.List.{list_any}
use Rattle.plan_dag.specs.Graphs.{ops_in}
use Rattle.plan_dag.specs.Schema.{is_site, site_of}
use Rattle.plan_dag.proofs.Sites.{nothing_taken, site_among}
use Rattle.plan_dag.proofs.kept.has_new_site.Goals as goal

pub returns-in-None : goal.returns-in-None
returns-in-None c = sym (nothing_taken (site_of c.args.op.now) (ops_in c.args.kept.now.entries) (sym c.site.ensures ∙ c.in-None.is))

pub returns-in-Some : goal.returns-in-Some
returns-in-Some c =
    let ops = ops_in c.args.kept.now.entries in
    ap not (c.contains.ensures ∙ ap (λ z. list_any (nat_eq c.in-Some.wanted) z) c.requires.sites_are ∙ site_among c.in-Some.wanted ops)
    ∙ ap (λ z. not (list_any (λ p. is_site z (site_of p)) ops)) (sym c.in-Some.is ∙ c.site.ensures)
