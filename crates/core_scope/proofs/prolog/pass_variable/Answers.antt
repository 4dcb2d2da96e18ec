use Rattle.std.proofs.Common.{length, ap, ◌∙◌}
use Rattle.core_scope.specs.Gathering.{told_variable, with_variable}
use Rattle.core_scope.specs.Kept.{only_first}
use Rattle.core_scope.specs.Open.{open_in, entered, global_at}
use Rattle.core_scope.proofs.prolog.pass_variable.Goals as goal

pub returns-clause-names : goal.returns-clause-names
returns-clause-names c =
    c.in_ok-enter.ensures
    ∙ ap (λ z. entered z (global_at c.args.variable.now.offset c.next_variable-number.result) (open_in c.walk_variable.new.names)) c.as_slice.ensures
    ∙ ap (λ z. entered c.args.variable.now.name.text (global_at c.args.variable.now.offset z) (open_in c.walk_variable.new.names)) c.next_variable-number.ensures
    ∙ ap (entered c.args.variable.now.name.text (global_at c.args.variable.now.offset (length c.args.gathered.now.variables))) c.in_ok-walk_variable.ensures.names

pub returns-clause-gathered : goal.returns-clause-gathered
returns-clause-gathered c =
    c.in_ok-add_variable.ensures
    ∙ ap (λ z. with_variable z c.args.gathered.now)
    (c.in_ok-walk_variable.ensures.found
    ∙ ap (told_variable c.args.functions.now c.args.variable.now c.args.ty.now c.args.value.now (open_in c.args.names.now)) (c.with_first-found.ensures ∙ ap only_first c.first_so_far.ensures))
