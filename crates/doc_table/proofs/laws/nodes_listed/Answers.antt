use Rattle.doc_table.proofs.NodeLists.{lists_nodes}
use Rattle.doc_table.proofs.laws.nodes_listed.Goals as goal

pub returns : goal.returns
returns c = record { numbers = lists_nodes; texts = lists_nodes }
