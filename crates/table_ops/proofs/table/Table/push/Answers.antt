use Rattle.std.proofs.Common.{◌≡◌, length, rules, arith}
use Rattle.table_ops.proofs.Combining.{written, push_whole, unpushed_whole, on_err}
use Rattle.table_ops.proofs.table.Table.push.Goals as goal

pub invariant_of-self : goal.invariant_of-self
invariant_of-self c =
    let long : length c.push_cells.new.columns ≡ length c.self.inside.columns.items = search rules in
    let len : c.self.inside.columns.len ≡ length c.self.inside.columns.items = search rules in
    (unpushed_whole c.args.self.now c.self.inside.cols c.self.inside.columns.items _ c.push_cells.new.columns _ c.self.inside.height c.self.view_is c.self.invariant c.deref_mut.ensures.value (written _ _ _ len long) c.in_err-push_cells.ensures.err).0

pub returns-in_err-push_cells-clause-err : goal.returns-in_err-push_cells-clause-err
returns-in_err-push_cells-clause-err c =
    let long : length c.push_cells.new.columns ≡ length c.self.inside.columns.items = search rules in
    let len : c.self.inside.columns.len ≡ length c.self.inside.columns.items = search rules in
    on_err c.from_residual.result _ (unpushed_whole c.args.self.now c.self.inside.cols c.self.inside.columns.items _ c.push_cells.new.columns _ c.self.inside.height c.self.view_is c.self.invariant c.deref_mut.ensures.value (written _ _ _ len long) c.in_err-push_cells.ensures.err).1

pub invariant_of-self-2 : goal.invariant_of-self-2
invariant_of-self-2 c =
    let long : length c.push_cells.new.columns ≡ length c.self.inside.columns.items = search rules in
    let len : c.self.inside.columns.len ≡ length c.self.inside.columns.items = search rules in
    (push_whole c.args.self.now c.self.inside.cols c.self.inside.columns.items _ c.push_cells.new.columns _ c.self.inside.height c.in-Some.height c.args.row.now c.self.view_is c.self.invariant c.requires (omega (arith, c.in-Some.ensures)) c.deref_mut.ensures.value (written _ _ _ len long) c.in_ok-push_cells.ensures.ok).0

pub returns-clause-ok : goal.returns-clause-ok
returns-clause-ok c =
    let long : length c.push_cells.new.columns ≡ length c.self.inside.columns.items = search rules in
    let len : c.self.inside.columns.len ≡ length c.self.inside.columns.items = search rules in
    (push_whole c.args.self.now c.self.inside.cols c.self.inside.columns.items _ c.push_cells.new.columns _ c.self.inside.height c.in-Some.height c.args.row.now c.self.view_is c.self.invariant c.requires (omega (arith, c.in-Some.ensures)) c.deref_mut.ensures.value (written _ _ _ len long) c.in_ok-push_cells.ensures.ok).1
