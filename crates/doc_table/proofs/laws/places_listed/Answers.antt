use Rattle.doc_table.proofs.PlaceLists.{lists_places}
use Rattle.doc_table.proofs.laws.places_listed.Goals as goal

pub returns : goal.returns
returns c = record { numbers = lists_places; texts = lists_places }
