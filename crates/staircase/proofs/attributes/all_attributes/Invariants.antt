use Rattle.std.proofs.Common.{◌≡◌, ◌++◌, ◌+◌, drop}
use Rattle.staircase.specs.Attributes.{all_hits}
use Rattle.staircase.proofs.attributes.all_attributes.Given as goal

abbrev pub invariant-loop-attribute : goal.invariant-loop-attribute
invariant-loop-attribute l = record {
  number : l.number ≡ l.attribute-index;
  hits : l.hits.items ++ all_hits l.axis l.test l.ctx (l.attribute-index + 1) (drop l.attribute-index l.attributes) ≡ l.initial.hits.items ++ all_hits l.axis l.test l.ctx 1 l.attributes;
}
