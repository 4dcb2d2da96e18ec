use Rattle.std.proofs.Common.{◌≡◌, false, nat_eq, ◌++◌, ap, ◌∙◌, arith}
use Rattle.std.proofs.lemmas.Grind.{common_steps}
use Rattle.xq_types.specs.Kinds.{is_empty_set}
use Rattle.xq_types.specs.Spelling.{number_mark}
use Rattle.xq_types.specs.Held.{kinds_in, typ_of}
use Rattle.xq_types.specs.Written.{with_atoms, with_trees, with_leaves}
use Rattle.xq_types.proofs.Writing.{full_text}
use Rattle.xq_types.proofs.written.type_text.Goals as goal

pub returns : goal.returns
returns c =
    let most : nat_eq c.args.ty.most 0 ≡ false = grind (arith, common_steps) in
    let kinds : is_empty_set (kinds_in c.args.ty.kinds) ≡ false = grind (arith, common_steps) in
    full_text (typ_of c.args.ty) c.write_type.new.text.items most kinds
    (c.in_ok-write_type.ensures ∙ ap (λ z. with_leaves (kinds_in c.args.ty.kinds) (with_trees (kinds_in c.args.ty.kinds) (with_atoms (kinds_in c.args.ty.kinds) z)) ++ number_mark c.args.ty.least c.args.ty.most) c.new-text.ensures.items)
