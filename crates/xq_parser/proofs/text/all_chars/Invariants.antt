use Rattle.std.proofs.Common.{◌≡◌, length, drop}
use Rattle.std.specs.List.{list_all}
use Rattle.std.specs.Str.{chars}
use Rattle.xq_base.specs.Chars.{is_char}
use Rattle.xq_parser.proofs.text.all_chars.Given as goal

abbrev pub invariant-loop-c : goal.invariant-loop-c
invariant-loop-c l = list_all is_char (drop (length l.yielded) (chars l.text)) ≡ list_all is_char (chars l.text)
