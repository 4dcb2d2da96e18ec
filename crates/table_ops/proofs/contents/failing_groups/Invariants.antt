use Rattle.std.proofs.Common.{◌≡◌, ◌++◌, drop}
use Rattle.table_ops.specs.Chains.{places_of}
use Rattle.table_ops.specs.Contents.{content_fails_with}
use Rattle.table_ops.proofs.contents.failing_groups.Given as goal

abbrev pub invariant-loop-place : goal.invariant-loop-place
invariant-loop-place l =
    l.out.items ++ places_of (content_fails_with l.pool l.store l.wanted.place l.wanted.code l.input.cols l.wanted.pos l.wanted.item l.input.rows l.index) l.place (drop l.place l.groups)
    ≡ places_of (content_fails_with l.pool l.store l.wanted.place l.wanted.code l.input.cols l.wanted.pos l.wanted.item l.input.rows l.index) 0 l.groups
