-- The prolog's variables stay where own variables move.
use Rattle.std.proofs.Common.{◌≡◌, refl, ap, ◌∙◌, ℕ, ◌+◌, ◌*◌, ◌<◌, ◌≤◌, Option, Some, None, List, [], ◌∷◌, arith}
use Rattle.core_meaning.specs.Types.{SequenceTest}
use Rattle.core_scope.specs.Syn.{Declaration, resolved}
use Rattle.core_scope.specs.Syn as s
use Rattle.core_normal.specs.Around.{Env, no_vars}
use Rattle.core_normal.specs.Query.{globals, global_of, variables, functions}
use Rattle.core_normal.specs.Laws.{BodiesMove}
use Rattle.core_normal.specs.Shift as h
use Rattle.core_normal.proofs.Moves.{template_law}

abbrev pub Below : ℕ → Env → Type 0
Below base [] = Unit {0}
Below base (k ∷ ks) = (k.core < base) × Below base ks

stays : (base d x : ℕ) → x < base → h.moved base d x ≡ x
unfolding h.moved
stays base d x p = grind arith

pub fixed_law : (base d : ℕ) (v : Env) → Below base v → h.env base d v ≡ v
fixed_law base d [] b = refl
fixed_law base d (k ∷ ks) (p, b) =
    ap (λ x. record { var = k.var; core = x } ∷ h.env base d ks) (stays base d k.core p) ∙ ap (λ e. k ∷ e) (fixed_law base d ks b)

global_below : (base j n : ℕ) (t : Option SequenceTest) → 2 * (j + (n + 1)) + 1 ≤ base → global_of t j < base
global_below base j n None p = omega (arith, p)
global_below base j n (Some t) p = omega (arith, p)

globals_below : (base : ℕ) (ds : List (Declaration resolved)) (j : ℕ) (v : Env) → Below base v → 2 * (j + variables ds) + 1 ≤ base → Below base (globals ds j v)
globals_below base [] j v b p = b
globals_below base (s.function o i n ps t e ∷ ds) j v b p = globals_below base ds j v b p
globals_below base (s.variable o i x t e ∷ ds) j v b p =
    globals_below base ds (j + 1) (record { var = x; core = global_of t j } ∷ v) (global_below base j (variables ds) t p, b) (omega (arith, p))

pub globals_fixed : (d : ℕ) (ds : List (Declaration resolved)) → h.env (2 * variables ds + 1) d (globals ds 0 no_vars) ≡ globals ds 0 no_vars
globals_fixed d ds = fixed_law (2 * variables ds + 1) d (globals ds 0 no_vars) (globals_below (2 * variables ds + 1) ds 0 no_vars tt (omega arith))

pub bodies_move : BodiesMove
bodies_move q d i k =
    template_law (2 * variables q.declarations + 1) d (omega arith) i (globals q.declarations 0 no_vars) (globals_fixed d q.declarations) (functions q.declarations) k
