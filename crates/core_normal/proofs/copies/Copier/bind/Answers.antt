use Rattle.core_normal.proofs.CopiedForms.{for_bind_form, let_bind_form, where_form}
use Rattle.core_normal.proofs.copies.Copier.bind.Goals as goal

pub returns-in_ok-copy-in-For : goal.returns-in_ok-copy-in-For
returns-in_ok-copy-in-For g c = λ t.
    for_bind_form t _ _ _ _ _ _ _ _ _ c.in-For.is c.get.ensures (c.in_ok-value-in-For.ensures t) (c.in_ok-copy-in-For.ensures t)

pub returns-in_ok-copy-in-Let : goal.returns-in_ok-copy-in-Let
returns-in_ok-copy-in-Let g c = λ t.
    let_bind_form t _ _ _ _ _ _ _ _ c.in-Let.is c.get-in-Let.ensures (c.in_ok-bound-in-Let.ensures t) (c.in_ok-copy-in-Let.ensures t)

pub returns-in_ok-copy-in-Where : goal.returns-in_ok-copy-in-Where
returns-in_ok-copy-in-Where g c = λ t.
    where_form t _ _ _ _ _ _ _ c.in-Where.is c.get-in-Where.ensures (c.in_ok-test-in-Where.ensures t) (c.in_ok-copy-in-Where.ensures t)
