use Rattle.std.proofs.Common.{◌≡◌, ◌++◌, drop, flat_map, string_bytes}
use Rattle.doc_table.specs.Items.{item_of}
use Rattle.doc_table.specs.StoredItems.{trees_of}
use Rattle.doc_table.specs.Values.{text_of_item}
use Rattle.xq_funs.proofs.concatenation.push_items.Given as goal

abbrev pub invariant-loop-place : goal.invariant-loop-place
invariant-loop-place l = string_bytes l.out ++ flat_map (λ x. text_of_item (item_of l.pool (trees_of l.store) x)) (drop l.place l.items) ≡ string_bytes l.initial.out ++ flat_map (λ x. text_of_item (item_of l.pool (trees_of l.store) x)) l.items
