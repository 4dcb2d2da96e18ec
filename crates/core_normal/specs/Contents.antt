-- The content of a direct constructor, gathered part by part (Formal Semantics, section 4.7.1).
use Rattle.std.specs.Prelude.{ℕ, Bool, true, false, ◌&&◌, Option, Some, None, List, []}
use Rattle.xq_base.specs.declared.item.TextId.{TextId}
use Rattle.core_meaning.specs.declared.node.Core.{Core}
use Rattle.core_meaning.specs.Erasure.{Texts, core_of}
use Rattle.core_meaning.specs.PlainCore.{PlainCore, PlainCores}
use Rattle.core_meaning.specs.PlainCore as c
use Rattle.xq_ast.specs.declared.leaf.TextRun.{TextRun as CodeRun}
use Rattle.xq_ast.specs.declared.node.Attribute.{Attribute}
use Rattle.xq_ast.specs.declared.node.Part.{Part}
use Rattle.xq_ast.specs.declared.node.Part.TheVariants as part_
use Rattle.core_scope.specs.Syn.{BuildName, Maybe, Values, resolved}
use Rattle.core_scope.specs.Leaves.{ResolvedTree}
use Rattle.core_normal.specs.declared.bodies.Bodies.{Bodies}
use Rattle.core_normal.specs.Fresh.{give, ◌▷=◌}
use Rattle.core_normal.specs.Making.{Making, bodies_in}
use Rattle.core_normal.specs.Normal.{norm_name, norm_content, norm_attributes, norm_values, norm_parts}
use Rattle.core_normal.specs.Pieces.{one, text_node}
use Rattle.core_normal.specs.Trees as trees

-- a Core, where there is one
abbrev pub core_at : Texts → Option Core → Option PlainCore
core_at t None = None
core_at t (Some a) = Some (core_of t a)

abbrev pub named_by : Option PlainCore → PlainCores
named_by None = c.no_cores
named_by (Some a) = one a

abbrev pub name_in : Texts → Option Core → PlainCores
name_in t a = named_by (core_at t a)

-- a Core as one part of several, and as what was gathered
abbrev pub value_in : Texts → Core → PlainCores
value_in t a = one (core_of t a)

abbrev pub some_in : Texts → Core → Option PlainCore
some_in t a = Some (core_of t a)

-- what was gathered, with one part more and with several, and where nothing was
abbrev pub joined : ℕ → Option PlainCore → PlainCore → PlainCore
joined o None a = a
joined o (Some e) a = c.Seq o e a

abbrev pub joined_all : ℕ → Option PlainCore → PlainCores → Option PlainCore
joined_all o e c.no_cores = e
joined_all o e (c.one_core a as') = joined_all o (Some (joined o e a)) as'

abbrev pub or_empty : ℕ → Option PlainCore → PlainCore
or_empty o None = c.Empty o
or_empty o (Some e) = e

-- an empty text between neighbouring braces, and whether a brace may have a neighbour behind a part
abbrev pub kept_apart : ℕ → Bool → Option PlainCore → Option PlainCore
kept_apart o true e = Some (joined o e (text_node o []))
kept_apart o false e = e

abbrev pub behind_part : Part CodeRun ResolvedTree → Bool → Bool
behind_part (part_.Run at r) behind = r.is_boundary && behind
behind_part (part_.Brace at x) behind = true
behind_part (part_.Inner x) behind = false

unfoldable pub normed_name : Bodies → (Texts → BuildName resolved) → ℕ → Making PlainCores
normed_name p n o t r = norm_name p.base (bodies_in t p) (n t) o r

unfoldable pub normed_content : Bodies → (Texts → Maybe resolved) → ℕ → Making PlainCore
normed_content p e o t r = norm_content p.base (bodies_in t p) (e t) o r

unfoldable pub normed_values : Bodies → (Texts → Values resolved) → ℕ → Making PlainCores
normed_values p vs o t r = norm_values p.base (bodies_in t p) (vs t) o r

-- attributes alone, and parts behind what was gathered
unfoldable pub normed_attributes : Bodies → ℕ → List (Attribute TextId TextId ResolvedTree) → (Texts → Option PlainCore) → Making (Option PlainCore)
normed_attributes p o as' e t r = norm_attributes p.base (bodies_in t p) (trees.attributes t as') r (λ q. give c.no_cores) ▷= λ es. give (joined_all o (e t) es)

unfoldable pub normed_parts : Bodies → ℕ → List (Part CodeRun ResolvedTree) → Bool → (Texts → Option PlainCore) → Making (Option PlainCore)
normed_parts p o ps behind e t r = norm_parts p.base (bodies_in t p) (trees.parts t ps) behind o r ▷= λ es. give (joined_all o (e t) es)
