use Rattle.std.proofs.Common.{◌≡◌, ◌∙◌, ◌++◌, sym, ap, subst, OnOk}
use Rattle.std.proofs.lemmas.List.{append-nil}
use Rattle.doc_table.proofs.RowNodes.{pair_before, pair_past}
use Rattle.staircase.specs.Attributes.{own_hit}
use Rattle.staircase.proofs.attributes.own_attribute.Goals as goal

pub returns-then-place-attributes : goal.returns-then-place-attributes
returns-then-place-attributes c = sym (append-nil c.args.hits.now.items) ∙ ap (λ z. c.args.hits.now.items ++ own_hit c.args.axis c.args.test c.args.ctx z) (sym (pair_past c.args.attributes.now c.args.ctx.attr c.requires c.if-place-attributes.true))

pub returns : goal.returns
returns c = subst (λ z. OnOk c.push_attribute.result (c.push_attribute.new.hits.items ≡ c.args.hits.now.items ++ own_hit c.args.axis c.args.test c.args.ctx z)) (sym (pair_before c.args.attributes.now c.args.ctx.attr _ c.requires c.if-place-attributes.false)) c.push_attribute.ensures
