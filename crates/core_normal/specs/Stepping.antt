-- The Core of steps and operators over that of what stands before them, part by part (Formal Semantics, section 4.2).
use Rattle.std.specs.Prelude.{ℕ, List, [], ◌∷◌}
use Rattle.xq_base.specs.declared.axis.Axis.{Axis}
use Rattle.xq_base.specs.declared.axis.Axis.TheVariants as axis_
use Rattle.xq_base.specs.declared.item.TextId.{TextId}
use Rattle.xq_base.specs.Texts.{Text}
use Rattle.doc_table.specs.Axes.{Test, AnyNode}
use Rattle.doc_table.specs.Tree.{text_in}
use Rattle.core_meaning.specs.declared.node.StepFrom.TheVariants as start
use Rattle.core_meaning.specs.PlainCore.{PlainCore}
use Rattle.core_meaning.specs.PlainCore as c
use Rattle.xq_ast.specs.declared.node.Behind.{Behind}
use Rattle.xq_ast.specs.declared.node.Right.{Right}
use Rattle.xq_ast.specs.declared.node.Slashes.{Slashes}
use Rattle.xq_ast.specs.declared.node.Slashes.TheVariants as slashes_
use Rattle.xq_ast.specs.declared.node.Step.{Step}
use Rattle.xq_ast.specs.declared.node.StepKind.{StepKind}
use Rattle.xq_ast.specs.declared.node.StepKind.TheVariants as step_
use Rattle.core_scope.specs.Syn.{Syns, resolved, place_of}
use Rattle.core_scope.specs.Syn as s
use Rattle.core_scope.specs.Erasure.{test_of}
use Rattle.core_scope.specs.Leaves.{ResolvedTree, syn_resolved}
use Rattle.core_normal.specs.Fresh.{Makes, give, fresh, ◌▷=◌}
use Rattle.core_normal.specs.Around.{Around, focused}
use Rattle.core_normal.specs.Pieces.{Inlined, counted, dot_at, for_each_node, fun_of, operand, ordered, two}
use Rattle.core_normal.specs.Normal.{norm, predicates}
use Rattle.core_normal.specs.Trees.{syns}

-- what a step goes from, behind its slashes
abbrev pub behind_slashes : Slashes → PlainCore → PlainCore
behind_slashes slashes_.One e = e
behind_slashes (slashes_.Two o) e = c.Step o start.Path axis_.DescendantOrSelf AnyNode e

module _ (base : ℕ) (bodies : ℕ → Makes Inlined) (t : List Text) where
  -- predicates over what they select from, ordered where there are any
  abbrev pub chosen_from_dot : ℕ → PlainCore → PlainCore → Syns resolved → Around → Makes PlainCore
  chosen_from_dot o plain here s.no_more r = give plain
  chosen_from_dot o plain here (s.one_more p ps) r = predicates base bodies (s.one_more p ps) o here r ▷= λ a. give (ordered o a)

  -- the first step of a path that nothing stands before
  abbrev pub first_kind : ℕ → StepKind TextId ResolvedTree → List ResolvedTree → Around → Makes PlainCore
  first_kind o (step_.Walk x test) qs r =
      chosen_from_dot o (c.Step o start.Dot x (test_of (text_in t) test) (dot_at o r.focus)) (counted o x (c.Step o start.Dot x (test_of (text_in t) test) (dot_at o r.focus))) (syns t qs) r
  first_kind o (step_.Primary m) qs r = norm base bodies (syn_resolved t m) r ▷= λ e. predicates base bodies (syns t qs) o e r

  abbrev pub first_step : Step TextId ResolvedTree → Around → Makes PlainCore
  first_step x = first_kind x.offset x.kind x.predicates

  -- a step along an axis, over the Core of what stands before it
  abbrev pub walked : ℕ → Axis → Test Text → Syns resolved → PlainCore → Around → Makes PlainCore
  walked o x test s.no_more e r = give (c.Step o start.Path x test e)
  walked o x test (s.one_more p ps) e r =
      fresh base ▷= λ d. fresh base ▷= λ q. predicates base bodies (s.one_more p ps) o (counted o x (c.Step o start.Path x test (c.Var o d))) r
      ▷= λ b. give (ordered o (c.For o d q e b))

  abbrev pub next_kind : ℕ → StepKind TextId ResolvedTree → List ResolvedTree → PlainCore → Around → Makes PlainCore
  next_kind o (step_.Walk x test) qs e r = walked o x (test_of (text_in t) test) (syns t qs) e r
  next_kind o (step_.Primary m) qs e r =
      fresh base ▷= λ y. fresh base ▷= λ last. fresh base ▷= λ dot. fresh base ▷= λ place.
      (norm base bodies (syn_resolved t m) (focused dot place last r) ▷= λ a. predicates base bodies (syns t qs) o a (focused dot place last r))
      ▷= λ b. give (for_each_node o e y last dot place b)

  abbrev pub next_step : Step TextId ResolvedTree → PlainCore → Around → Makes PlainCore
  next_step x = next_kind x.offset x.kind x.predicates

  abbrev pub next_steps : List (Behind TextId ResolvedTree) → PlainCore → Around → Makes PlainCore
  next_steps [] e r = give e
  next_steps (b ∷ bs) e r = next_step b.step (behind_slashes b.slashes e) r ▷= λ a. next_steps bs a r

  -- operators of a level over the Core of what stands before them, and its place
  abbrev pub next_operands : ℕ → List (Right ResolvedTree) → ℕ → PlainCore → Around → Makes PlainCore
  next_operands o [] at e r = give e
  next_operands o (b ∷ bs) at e r =
      norm base bodies (syn_resolved t b.operand) r ▷= λ a.
      next_operands o bs o (c.Call o (fun_of b.operator) (two (operand b.operator at e) (operand b.operator (place_of (syn_resolved t b.operand)) a))) r
