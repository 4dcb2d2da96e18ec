use Rattle.core_normal.proofs.maker.Maker.next_context.Goals as goal

pub returns : goal.returns
returns g c = record {
  s1 = c.next_var.new.state;
  s2 = c.next_var-2.new.state;
  s3 = c.next_var-3.new.state;
  items = c.in_ok-items.ensures;
  count = c.in_ok-last.ensures;
  item = c.in_ok-item.ensures;
  position = c.in_ok-place.ensures;
}
