use Rattle.std.proofs.Common.{◌≡◌, ◌∙◌, sym, subst, Some, true, Option}
use Rattle.staircase.specs.declared.task.Task.{Task}
use Rattle.staircase.specs.Tasks.{AllOf, Goes, covers}
use Rattle.staircase.proofs.TaskLaws.{go-covered, go-done}
use Rattle.staircase.proofs.tasks.go_on.Goals as goal

pub returns-then-covers : goal.returns-then-covers
returns-then-covers c = λ a.
    let fits : covers c.in-Some.before c.args.task ≡ true = sym c.covers.ensures ∙ c.if-covers.true in
    let P : Option Task → Type 0 = λ z. AllOf c.args.seen.now c.args.counting z c.args.hits.now.items → Goes c.args.seen.now c.args.counting z (Some c.in-Some.before) c.args.task c.args.hits.now.items c.args.hits.now.items in
    subst P (sym c.in-Some.is) (λ b. go-covered c.args.seen.now c.args.counting c.in-Some.before c.args.task c.args.hits.now.items fits b) a

pub returns : goal.returns
returns c = λ a. go-done c.args.seen.now c.args.counting c.args.before c.args.task c.args.hits.now.items c.do_task.new.hits.items (c.in_ok-do_task.ensures c.requires.rising)
