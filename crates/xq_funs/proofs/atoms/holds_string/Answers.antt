use Rattle.std.proofs.Common.{ap, sym, ◌∙◌}
use Rattle.std.specs.Option.{option_copied}
use Rattle.xq_funs.proofs.Typed.{typed_under, typed_as}
use Rattle.xq_funs.proofs.atoms.holds_string.Goals as goal

pub returns-then-node-eq0 : goal.returns-then-node-eq0
returns-then-node-eq0 c = λ texts s.
    typed_under texts c.args.store.now c.args.node c.in-Some.frag.now s c.validity.ensures.kept c.requires (sym c.get.ensures ∙ ap option_copied c.in-Some.is) c.if-node-eq0.true
    ∙ ap (λ b. typed_as b s) (sym c.is_string_row.ensures)
