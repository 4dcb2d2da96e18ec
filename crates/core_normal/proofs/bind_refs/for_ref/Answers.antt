use Rattle.core_normal.proofs.bind_refs.for_ref.Goals as goal

pub returns : goal.returns
returns c = λ t rest. simp (c.position.ensures t, c.get.ensures)
