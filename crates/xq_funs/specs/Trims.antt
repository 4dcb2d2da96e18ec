-- White space at one end of a text (own rule).
use Rattle.std.specs.Prelude.{Bool, false, ◌∷◌, [], reverse}
use Rattle.xq_base.specs.Texts.{Text, is_space}

abbrev pub begins_blank : Text → Bool
begins_blank [] = false
begins_blank (c ∷ cs) = is_space c

abbrev pub ends_blank : Text → Bool
ends_blank t = begins_blank (reverse t)
