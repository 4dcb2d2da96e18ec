use Rattle.std.proofs.Common.{sym, ap, ◌∙◌}
use Rattle.doc_table.specs.Items.{item_of}
use Rattle.doc_table.specs.StoredItems.{trees_of}
use Rattle.table_ops.specs.declared.parts.Part.TheVariants as t
use Rattle.table_ops.specs.Contents.{part_of}
use Rattle.table_ops.proofs.PartLaws.{integer_text}
use Rattle.table_ops.proofs.parts.part_of.Goals as goal

pub returns-in-Int : goal.returns-in-Int
returns-in-Int c = ap t.Value (integer_text c.in-Int.field-0) ∙ ap (λ v. part_of (item_of c.args.pool.now (trees_of c.args.store.now) v)) (sym c.in-Int.is)

pub returns-in-Str : goal.returns-in-Str
returns-in-Str c = ap t.Value c.has_text.ensures ∙ ap (λ v. part_of (item_of c.args.pool.now (trees_of c.args.store.now) v)) (sym c.in-Str.is)

pub returns-in-Untyped : goal.returns-in-Untyped
returns-in-Untyped c = ap t.Value c.has_text-in-Untyped.ensures ∙ ap (λ v. part_of (item_of c.args.pool.now (trees_of c.args.store.now) v)) (sym c.in-Untyped.is)
