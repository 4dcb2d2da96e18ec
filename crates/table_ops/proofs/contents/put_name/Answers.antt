use Rattle.std.proofs.Common.{◌≡◌, ◌++◌, ◌∷◌, [], length, sym, subst, rules, true}
use Rattle.xq_base.specs.declared.item.Item.TheVariants as i
use Rattle.doc_table.specs.Given.{option_given}
use Rattle.doc_table.specs.StoredItems.{ItemsGiven}
use Rattle.table_ops.proofs.RowMoves.{items_append}
use Rattle.table_ops.proofs.contents.put_name.Goals as goal

pub returns-clause-given : goal.returns-clause-given
returns-clause-given c =
    let pushed : c.push.new.self.items ≡ c.args.out.now.items ++ i.Str c.in-Some.name ∷ [] = search rules in
    λ texts trees g. subst (ItemsGiven texts c.args.store.now) (sym pushed) (items_append texts c.args.store.now c.args.out.now.items (i.Str c.in-Some.name ∷ []) g (subst (λ o. option_given (length texts) o ≡ true) c.in-Some.is (c.name_of.ensures.given (length texts) trees), tt))
