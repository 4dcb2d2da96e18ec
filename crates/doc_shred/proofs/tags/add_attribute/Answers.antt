use Rattle.std.proofs.Common.{rules, arith}
use Rattle.std.specs.Cow.{cow_str_bytes}
use Rattle.std.proofs.lemmas.Grind.{common_steps}
use Rattle.doc_shred.proofs.NameNumbers.{name_absent, number_kept}
use Rattle.doc_shred.proofs.tags.add_attribute.Goals as goal

pub returns-clause-added : goal.returns-clause-added
returns-clause-added c = record {
  name = c.in_ok-name.name;
  value = c.in_ok-value.value;
  read = (c.in-Ok.read.0.0.now, cow_str_bytes c.in-Ok.read.0.1);
  found = first_of (search rules, grind (arith, common_steps));
  named = number_kept c.intern.new.self c.intern-2.new.self c.in_ok-name.name.0 c.in-Ok.read.0.0.now c.in_ok-name.ensures.given c.intern-2.ensures.keeps;
  valued = first_of (search rules, grind (arith, common_steps));
  first = first_of (search (rules, name_absent), grind (arith, common_steps, name_absent));
  added = first_of (search rules, grind (arith, common_steps));
}
