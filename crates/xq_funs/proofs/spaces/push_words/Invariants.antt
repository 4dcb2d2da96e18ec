use Rattle.std.proofs.Common.{◌≡◌, [], length, drop, string_bytes}
use Rattle.std.specs.Str.{chars}
use Rattle.xq_funs.specs.declared.spaces.Gap.TheVariants as g
use Rattle.xq_funs.specs.Gaps.{spaced_all}
use Rattle.xq_funs.proofs.spaces.push_words.Given as goal

abbrev pub invariant-loop-c : goal.invariant-loop-c
invariant-loop-c l = spaced_all (string_bytes l.out, l.gap) (drop (length l.yielded) (chars l.text)) ≡ spaced_all ([], g.Start) (chars l.text)
