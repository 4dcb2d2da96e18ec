-- Words with one blank between each two, a character at a time (own rule).
use Rattle.std.specs.Prelude.{ℕ, cond, List, [], ◌∷◌, ◌++◌}
use Rattle.std.specs.Char.{encode_utf8}
use Rattle.xq_base.specs.Texts.{Text, is_space, blank}
use Rattle.xq_funs.specs.declared.spaces.Gap.{Gap}
use Rattle.xq_funs.specs.declared.spaces.Gap.TheVariants as g

-- white space at the start is dropped
abbrev pub behind_space : Gap → Gap
behind_space g.Start = g.Start
behind_space g.Inside = g.Due
behind_space g.Due = g.Due

-- what comes before a character that isn't white space
abbrev pub before_char : Gap → Text
before_char g.Start = []
before_char g.Inside = []
before_char g.Due = blank

-- what is written, and where that stands, after one character more
abbrev pub spaced : Text × Gap → ℕ → Text × Gap
spaced s c = cond (is_space c) (s.0, behind_space s.1) ((s.0 ++ before_char s.1) ++ encode_utf8 c, g.Inside)

abbrev pub spaced_all : Text × Gap → List ℕ → Text × Gap
spaced_all s [] = s
spaced_all s (c ∷ cs) = spaced_all (spaced s c) cs
