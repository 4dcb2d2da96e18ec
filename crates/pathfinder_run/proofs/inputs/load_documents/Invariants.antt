use Rattle.std.proofs.Common.{◌≡◌, ◌≤◌, map, take, string_bytes}
use Rattle.doc_table.specs.OtherTexts.{Grows}
use Rattle.pathfinder_run.specs.Inputs.{Loaded}
use Rattle.pathfinder_run.specs.Top.{AsksAll}
use Rattle.pathfinder_run.proofs.inputs.load_documents.Given as goal

abbrev pub invariant-loop-k : goal.invariant-loop-k
invariant-loop-k g l = record {
  later : g.F.Shelf.faults l.initial.shelf ≤ g.F.Shelf.faults l.shelf;
  grown : Grows l.initial.pool l.pool;
  files : g.F.Shelf.files l.shelf ≡ g.F.Shelf.files l.initial.shelf;
  asked : AsksAll (g.F.Shelf.asked l.initial.shelf) (g.F.Shelf.asked l.shelf) (take l.k (map string_bytes l.names));
  loaded : Loaded (g.F.Shelf.files l.initial.shelf) (take l.k (map string_bytes l.names)) l.pool l.store;
}
