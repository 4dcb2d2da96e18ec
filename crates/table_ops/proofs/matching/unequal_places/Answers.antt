use Rattle.std.proofs.Common.{◌∙◌, ◌^◌, List, length, ap, map}
use Rattle.table_ops.specs.Chains.{places_of}
use Rattle.table_ops.specs.Keys.{item_eq, place_in}
use Rattle.table_ops.specs.Picks.{is_at_least}
use Rattle.table_ops.proofs.Combining.{if_ok_at}
use Rattle.table_ops.proofs.MatchLaws.{table_few, lone_by_keys}
use Rattle.table_ops.proofs.matching.unequal_places.Goals as goal

pub look_up-requires : goal.look_up-requires
look_up-requires c = table_few (2 ^ 32) c.args.right.now c.number.new.table.keys c.in_ok-_right_keys.ensures.table c.requires.right

pub returns : goal.returns
returns c =
    if_ok_at (λ out. out.items) c.places_from.result _ _
    ((λ i. places_of (is_at_least ((c.len.ensures.len ∙ ap (λ (z : List _). length z) c.in_ok-_right_keys.ensures.table) i)) 0 ((c.deref.ensures.value ∙ c.in_ok-left_keys.ensures ∙ ap (λ t. map (place_in item_eq t) c.args.left.now) c.in_ok-_right_keys.ensures.table) i))
    ∙ lone_by_keys c.args.left.now c.args.right.now)
    c.places_from.ensures
