use Rattle.doc_table.proofs.PlaceLists.{one_place}
use Rattle.doc_table.proofs.laws.places_one_to_one.Goals as goal

pub returns : goal.returns
returns c = record { numbers = one_place; texts = one_place }
