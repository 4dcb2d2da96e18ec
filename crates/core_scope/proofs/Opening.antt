-- Binds make the variables visible that the syntax says, and leaving them gives back those before.
use Rattle.std.proofs.Common.{◌≡◌, refl, sym, ap, ◌∙◌, ℕ, ◌+◌, ◌<◌, ◌≤◌, suc, length, Bool, true, false, cond, nat_lt, List, [], ◌∷◌, Option, Some, None, arith}
use Rattle.xq_base.specs.Texts.{Text}
use Rattle.xq_ast.specs.declared.leaf.Name.{Name}
use Rattle.xq_ast.specs.declared.leaf.Variable.{Variable}
use Rattle.xq_ast.specs.declared.node.Clause.TheVariants as clause_
use Rattle.xq_ast.specs.Trees.{Tree, Clause, ForBind, LetBind, QuantBind}
use Rattle.core_scope.specs.declared.names.Visible.{Visible}
use Rattle.core_scope.specs.Syn.{Syn, Binds, read}
use Rattle.core_scope.specs.Erasure as e
use Rattle.core_scope.specs.Leaves.{read_leaves}
use Rattle.core_scope.specs.Names.{Scope, with_name, behind_for, behind_binds, with_position}
use Rattle.core_scope.specs.Open.{Open, local_at, entered, entered_variable, entered_maybe, left_of, left_one, left_from, left_to}
use Rattle.core_scope.specs.Telling.{entered_for, entered_fors, entered_lets, entered_quants, entered_clause, entered_clauses}
use Rattle.core_scope.proofs.Naming.{names_back}
use Rattle.core_scope.proofs.Mapped.{mapped_fors, mapped_lets, mapped_quants, mapped_clauses}

position_scope : (v : Option (Variable (Name Text))) (w : Open) → (entered_maybe v w).scope ≡ with_position (e.position_of read_leaves v) w.scope
position_scope None w = refl
position_scope (Some v) w = refl

pub entered_for_scope : (b : ForBind) (w : Open) → (entered_for b w).scope ≡ behind_for b.var.offset b.var.name.text (e.position_of read_leaves b.at) w.scope
entered_for_scope b w = ap (with_name b.var.name.text (Some (local_at b.var.offset))) (position_scope b.at w)

fors_scope : (bs : List ForBind) (rest : Binds read) (w : Open) → behind_binds (e.for_binds_of read_leaves (mapped_fors bs) rest) w.scope ≡ behind_binds rest ((entered_fors bs w).scope)
fors_scope [] rest w = refl
fors_scope (b ∷ bs) rest w =
    ap (behind_binds (e.for_binds_of read_leaves (mapped_fors bs) rest)) (sym (entered_for_scope b w)) ∙ fors_scope bs rest (entered_for b w)

lets_scope : (bs : List LetBind) (rest : Binds read) (w : Open) → behind_binds (e.let_binds_of read_leaves (mapped_lets bs) rest) w.scope ≡ behind_binds rest ((entered_lets bs w).scope)
lets_scope [] rest w = refl
lets_scope (b ∷ bs) rest w = lets_scope bs rest (entered_variable b.var w)

pub entered_quants_scope : (bs : List QuantBind) (w : Open) → (entered_quants bs w).scope ≡ behind_binds (e.quant_binds_of read_leaves (mapped_quants bs)) w.scope
entered_quants_scope [] w = refl
entered_quants_scope (b ∷ bs) w = entered_quants_scope bs (entered_variable b.var w)

pub entered_clauses_scope : (cs : List Clause) (w : Open) → (entered_clauses cs w).scope ≡ behind_binds (e.clauses_of read_leaves (mapped_clauses cs)) w.scope
entered_clauses_scope [] w = refl
entered_clauses_scope (clause_.For bs ∷ cs) w =
    entered_clauses_scope cs (entered_fors bs w) ∙ sym (fors_scope bs (e.clauses_of read_leaves (mapped_clauses cs)) w)
entered_clauses_scope (clause_.Let bs ∷ cs) w =
    entered_clauses_scope cs (entered_lets bs w) ∙ sym (lets_scope bs (e.clauses_of read_leaves (mapped_clauses cs)) w)

-- what is left down to a number of bindings is left by one binding more
pub left_entered : (m : ℕ) (x : Text) (v : Visible) (w : Open) → m ≤ length w.outer → left_to m (entered x v w) ≡ left_to m w
left_entered m x v w h =
    let more : nat_lt m (length ((x, w.scope x) ∷ w.outer)) ≡ true = grind (arith, h) in
    ap (λ b. cond b (left_from m (with_name x (w.scope x) (with_name x (Some v) w.scope)) w.outer) (record { scope = with_name x (Some v) w.scope; outer = (x, w.scope x) ∷ w.outer })) more
    ∙ ap (λ sc. left_from m sc w.outer) (names_back w.scope x (Some v))

-- one binding left of more than these, and none of no more
pub left_step : (m : ℕ) (w : Open) → m < length w.outer → left_to m (left_one w) ≡ left_to m w
left_step m w h = at w.scope w.outer h
  where
    at : (sc : Scope) (us : List (Text × Option Visible)) → m < length us → left_to m (left_of sc us) ≡ left_from m sc us
    at sc [] h = let no_place : ⊥ = omega (arith, h) in elim no_place [ ]
    at sc (u ∷ us) h =
        let more : nat_lt m (length (u ∷ us)) ≡ true = grind (arith, h) in
        sym (ap (λ b. cond b (left_from m (with_name u.0 u.1 sc) us) (record { scope = sc; outer = u ∷ us })) more)

pub left_shorter : (w : Open) → 0 < length w.outer → suc (length ((left_one w).outer)) ≡ length w.outer
left_shorter w h = at w.scope w.outer h
  where
    at : (sc : Scope) (us : List (Text × Option Visible)) → 0 < length us → suc (length ((left_of sc us).outer)) ≡ length us
    at sc [] h = let no_place : ⊥ = omega (arith, h) in elim no_place [ ]
    at sc (u ∷ us) h = refl

pub left_done : (m : ℕ) (w : Open) → length w.outer ≤ m → left_to m w ≡ w
left_done m w h = at w.scope w.outer h
  where
    at : (sc : Scope) (us : List (Text × Option Visible)) → length us ≤ m → left_from m sc us ≡ record { scope = sc; outer = us }
    at sc [] h = refl
    at sc (u ∷ us) h =
        let none : nat_lt m (length (u ∷ us)) ≡ false = grind (arith, h) in
        ap (λ b. cond b (left_from m (with_name u.0 u.1 sc) us) (record { scope = sc; outer = u ∷ us })) none

pub left_here : (w : Open) → left_to (length w.outer) w ≡ w
left_here w = left_done (length w.outer) w (omega arith)

pub more_outer : (m : ℕ) (x : Text) (v : Visible) (w : Open) → m ≤ length w.outer → m ≤ length ((entered x v w).outer)
more_outer m x v w h = omega (arith, h)

left_maybe : (m : ℕ) (v : Option (Variable (Name Text))) (w : Open) → m ≤ length w.outer → left_to m (entered_maybe v w) ≡ left_to m w
left_maybe m None w h = refl
left_maybe m (Some v) w h = left_entered m v.name.text (local_at v.offset) w h

more_maybe : (m : ℕ) (v : Option (Variable (Name Text))) (w : Open) → m ≤ length w.outer → m ≤ length ((entered_maybe v w).outer)
more_maybe m None w h = h
more_maybe m (Some v) w h = more_outer m v.name.text (local_at v.offset) w h

left_for : (m : ℕ) (b : ForBind) (w : Open) → m ≤ length w.outer → left_to m (entered_for b w) ≡ left_to m w
left_for m b w h =
    left_entered m b.var.name.text (local_at b.var.offset) (entered_maybe b.at w) (more_maybe m b.at w h) ∙ left_maybe m b.at w h

more_for : (m : ℕ) (b : ForBind) (w : Open) → m ≤ length w.outer → m ≤ length ((entered_for b w).outer)
more_for m b w h = more_outer m b.var.name.text (local_at b.var.offset) (entered_maybe b.at w) (more_maybe m b.at w h)

left_fors : (m : ℕ) (bs : List ForBind) (w : Open) → m ≤ length w.outer → left_to m (entered_fors bs w) ≡ left_to m w
left_fors m [] w h = refl
left_fors m (b ∷ bs) w h = left_fors m bs (entered_for b w) (more_for m b w h) ∙ left_for m b w h

more_fors : (m : ℕ) (bs : List ForBind) (w : Open) → m ≤ length w.outer → m ≤ length ((entered_fors bs w).outer)
more_fors m [] w h = h
more_fors m (b ∷ bs) w h = more_fors m bs (entered_for b w) (more_for m b w h)

left_lets : (m : ℕ) (bs : List LetBind) (w : Open) → m ≤ length w.outer → left_to m (entered_lets bs w) ≡ left_to m w
left_lets m [] w h = refl
left_lets m (b ∷ bs) w h =
    left_lets m bs (entered_variable b.var w) (more_outer m b.var.name.text (local_at b.var.offset) w h) ∙ left_entered m b.var.name.text (local_at b.var.offset) w h

more_lets : (m : ℕ) (bs : List LetBind) (w : Open) → m ≤ length w.outer → m ≤ length ((entered_lets bs w).outer)
more_lets m [] w h = h
more_lets m (b ∷ bs) w h = more_lets m bs (entered_variable b.var w) (more_outer m b.var.name.text (local_at b.var.offset) w h)

left_quants_to : (m : ℕ) (bs : List QuantBind) (w : Open) → m ≤ length w.outer → left_to m (entered_quants bs w) ≡ left_to m w
left_quants_to m [] w h = refl
left_quants_to m (b ∷ bs) w h =
    left_quants_to m bs (entered_variable b.var w) (more_outer m b.var.name.text (local_at b.var.offset) w h) ∙ left_entered m b.var.name.text (local_at b.var.offset) w h

left_clauses_to : (m : ℕ) (cs : List Clause) (w : Open) → m ≤ length w.outer → left_to m (entered_clauses cs w) ≡ left_to m w
left_clauses_to m [] w h = refl
left_clauses_to m (clause_.For bs ∷ cs) w h = left_clauses_to m cs (entered_fors bs w) (more_fors m bs w h) ∙ left_fors m bs w h
left_clauses_to m (clause_.Let bs ∷ cs) w h = left_clauses_to m cs (entered_lets bs w) (more_lets m bs w h) ∙ left_lets m bs w h

-- leaving binds gives back what was there before them
pub left_quants : (bs : List QuantBind) (w : Open) → left_to (length w.outer) (entered_quants bs w) ≡ w
left_quants bs w = left_quants_to (length w.outer) bs w (omega arith) ∙ left_here w

pub left_clauses : (cs : List Clause) (w : Open) → left_to (length w.outer) (entered_clauses cs w) ≡ w
left_clauses cs w = left_clauses_to (length w.outer) cs w (omega arith) ∙ left_here w
