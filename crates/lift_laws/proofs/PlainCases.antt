-- The cases of the induction for a literal, nothing, a variable, two parts one after the other, and a binding.
use Rattle.std.proofs.Common.{◌≡◌, ◌≢◌, ℕ, ◌+◌, ◌≤◌, Bool, true, false, cond, List, [], ◌∷◌, ◌++◌, length, map, refl, sym, ap, ◌∙◌, subst, arith, nat_eq, Some}
use Rattle.std.proofs.lemmas.Bool.{eq-eqb, eqb-false, and_parts}
use Rattle.xq_base.specs.Texts.{Text}
use Rattle.xq_base.specs.Atoms.{Atom, IntAtom, TextAtom, UntypedAtom, BoolAtom}
use Rattle.doc_table.specs.Items.{Item}
use Rattle.doc_table.specs.Values.{item_of_atom}
use Rattle.doc_table.specs.NodeRules.{Docs}
use Rattle.plan_dag.specs.declared.op.OpId.{OpId}
use Rattle.core_meaning.specs.Expr.{Expr, Lit, Empty, Var, Seq, Let}
use Rattle.core_meaning.specs.Meaning.{with_var, and_then, both, val}
use Rattle.core_meaning.specs.Reached.{where_some}
use Rattle.core_meaning.specs.Lawful.{nodes, is_sited}
use Rattle.core_meaning.specs.Work.{free, without}
use Rattle.lift_laws.specs.Sums.{AllOf, Ascends}
use Rattle.lift_laws.specs.Iterations.{Iter, num, item_rows, value_rows, loop_rows, cells}
use Rattle.lift_laws.specs.Bulk.{list_of, value, with_value, bound, faults, sites}
use Rattle.lift_laws.specs.Worlds.{World, cell_of, Known}
use Rattle.lift_laws.specs.States.{State, at, Makes, StandsFor, three}
use Rattle.lift_laws.specs.Shapes.{literal_rows, seq_rows}
use Rattle.lift_laws.specs.Carried.{set_var}
use Rattle.lift_laws.specs.Lifting.{IsFree, Enters, Lifts}
use Rattle.lift_laws.proofs.Multi.{same-length}
use Rattle.lift_laws.proofs.Picks.{all_each, all_mono, all-append, all-map, flat-all, flat-map, map-map, map-append}
use Rattle.lift_laws.proofs.Simple.{literal_stands, empty_stands, seq_stands}
use Rattle.lift_laws.proofs.Values.{append_nil, all_two, all_map_back, ValueAt, no_faults}
use Rattle.lift_laws.proofs.Free.{in_left, in_right, without_keeps}
use Rattle.lift_laws.proofs.Sizes.{size_values, size_loop, weighs, values_most}
use Rattle.lift_laws.proofs.Keeping.{grows_trans, grows_self, holds_keep, holds_rows, makes_holds, stands_keep, notes_keep, small_none, small_most, tells_upper, tells_then, faults_from, chunk_none, chunk_then, chunk_makes, sited_then, walked_quiet, walked_then, walked_more, chunk_told, chunk_below}

-- a literal is no node
abbrev pub Plain : Item Text → Type 0
Plain a = (W : World) → cell_of W a ≡ a

pub atom_plain : (a : Atom) → Plain (item_of_atom a)
atom_plain (IntAtom z) W = refl
atom_plain (TextAtom t) W = refl
atom_plain (UntypedAtom t) W = refl
atom_plain (BoolAtom b) W = refl

pub map_ascends : {X Y : Type 0} (kx : X → ℕ) (ky : Y → ℕ) (f : X → Y) → ((x : X) → ky (f x) ≡ kx x) → (n : ℕ) (xs : List X) → Ascends kx n xs → Ascends ky n (map f xs)
map_ascends kx ky f e n [] a = tt
map_ascends kx ky f e n (x ∷ xs) a =
    let h = a.0 in
    let k = e x in
    (omega arith, subst (λ m. Ascends ky m (map f xs)) (sym k) (map_ascends kx ky f e (kx x) xs a.1))

module _ (docs : Docs) where
  each_known : (W : World) (a : Item Text) (its : List Iter) → AllOf (λ (i : Iter). Known docs W a) its → AllOf (λ (i : Iter). AllOf (Known docs W) (a ∷ [])) its
  each_known W a its h = all_mono _ _ (λ i (k : Known docs W a). let r : AllOf (Known docs W) (a ∷ []) = (k, tt) in r) its h

  pub lit_lifts : {s s' : State} (n : ℕ) (a : Item Text) (looped : OpId) (vars : ℕ → OpId) (t : OpId) → Plain a → Makes s s' t three (literal_rows a (at s looped).rows) (length (at s looped).rows) → Lifts docs s s' n (Lit a) looped vars t
  lit_lifts {s = s} {s' = s'} n a looped vars t plain m = record {
    chunk = chunk_none n (n + 1) m.grows;
    sited = tt;
    walked = walked_quiet m.quiet;
    told = λ W N its en.
        let few = same-length en.loop.rows_are ∙ size_loop its in
        let w = weighs docs (Lit a) its in
        let c = en.enough in
        let l : length (at s looped).rows ≤ N = omega arith in (
          (refl, small_most m.small l),
          (λ e. (record { there = holds_rows (flat-all _ _ its (all_each _ (λ i. ap (λ v. item_rows i.number 1 (v ∷ [])) (sym (plain W))) its)) (makes_holds m (literal_stands a its _ en.loop.rows_are)); known = each_known W a its en.numbered }, tt)),
        );
  }

  pub empty_lifts : {s s' : State} (n : ℕ) (looped : OpId) (vars : ℕ → OpId) (t : OpId) → Makes s s' t three [] 0 → Lifts docs s s' n Empty looped vars t
  empty_lifts n looped vars t m = record {
    chunk = chunk_none n (n + 1) m.grows;
    sited = tt;
    walked = walked_quiet m.quiet;
    told = λ W N its en. (
      (refl, small_most m.small (omega arith)),
      (λ e. (record { there = makes_holds m (empty_stands its); known = all_each _ (λ i. tt) its }, tt)),
    );
  }

  self_free : (x : ℕ) → IsFree x (Var x)
  self_free x = rw (eq-eqb x x refl) refl

  pub var_lifts : (s : State) (n x : ℕ) (looped : OpId) (vars : ℕ → OpId) → Lifts docs s s n (Var x) looped vars (vars x)
  var_lifts s n x looped vars = record {
    chunk = chunk_none n (n + 1) (grows_self s);
    sited = tt;
    walked = walked_quiet refl;
    told = λ W N its en. ((refl, small_none (length s.tables) N), (λ e. (en.scope x (self_free x), tt)));
  }

  -- where nothing fails, the value of two parts
  seq_value : (a b : Expr) (i : Iter) → ValueAt docs a i → ValueAt docs b i → value docs a i ++ value docs b i ≡ value docs (Seq a b) i
  seq_value a b i u v =
      ap (λ o. list_of o ++ value docs b i) u.1 ∙ ap (λ o. u.0 ++ list_of o) v.1
      ∙ sym (ap (λ o. list_of (both o (val docs b i.env i.vector))) u.1 ∙ ap (λ o. list_of (both (Some u.0) o)) v.1)

  -- one after the other
  pub seq_lifts : {s s1 s2 s3 : State} (n : ℕ) (a b : Expr) (looped : OpId) (vars : ℕ → OpId) (ta tb t : OpId) → is_sited n (Seq a b) ≡ true → Lifts docs s s1 n a looped vars ta → Lifts docs s1 s2 (n + nodes a) b looped vars tb → Makes s2 s3 t three (seq_rows (at s2 ta).rows (at s2 tb).rows) (length (at s2 ta).rows + length (at s2 tb).rows) → Lifts docs s s3 n (Seq a b) looped vars t
  seq_lifts {s = s} {s1 = s1} {s2 = s2} {s3 = s3} n a b looped vars ta tb t sited la lb m = record {
    chunk = chunk_makes n (n + nodes a + nodes b) (n + nodes (Seq a b)) (omega arith) (chunk_then n (n + nodes a) (n + nodes a + nodes b) (omega arith) (omega arith) la.chunk lb.chunk) m.grows;
    sited = sited_then (sites a) (sites b) la.chunk.groups lb.chunk.groups la.sited lb.sited;
    walked = walked_more (walked_then la.walked lb.walked) m.quiet;
    told = λ W N its en.
        let enough = en.enough in
        let z = and_parts (is_sited n a) (is_sited (n + nodes a) b) sited in
        let ra = la.told W N its (record { faithful = en.faithful; numbered = en.numbered.0; enough = omega arith; ascends = en.ascends; loop = en.loop; scope = λ y f. en.scope y (in_left (free a) (free b) y f) }) in
        let rb = lb.told W N its (record { faithful = en.faithful; numbered = en.numbered.1; enough = omega arith; ascends = en.ascends; loop = holds_keep la.chunk.grows en.loop; scope = λ y f. stands_keep la.chunk.grows (en.scope y (in_right (free a) (free b) y f)) }) in
        let fa = faults docs a its in
        let fb = faults docs b its in
        let values = λ (e : fa ++ fb ≡ []). let k = append_nil fa fb e in all_two _ _ _ (λ i (u : ValueAt docs a i) (v : ValueAt docs b i). seq_value a b i u v) its (no_faults docs a its k.0) (no_faults docs b its k.1) in
        let sa = λ (e : fa ++ fb ≡ []). stands_keep lb.chunk.grows (ra.1 (append_nil fa fb e).0).0 in
        let sb = λ (e : fa ++ fb ≡ []). (rb.1 (append_nil fa fb e).1).0 in
        let most = λ (e : fa ++ fb ≡ []).
        let x = same-length (sa e).there.rows_are ∙ size_values (cell_of W) (value docs a) its in
        let y = same-length (sb e).there.rows_are ∙ size_values (cell_of W) (value docs b) its in
        let k = values_most docs (value docs a) (value docs b) (Seq a b) its (values e) in
        let r : length (at s2 ta).rows + length (at s2 tb).rows ≤ N = omega arith in r in (
          tells_upper N s3 (length s.tables) (length s2.tables) (length s3.tables) (la.chunk.groups ++ lb.chunk.groups) (fa ++ fb) (λ e. small_most m.small (most e))
              (tells_then N s3 (length s.tables) (length s1.tables) (length s2.tables) (n + nodes a) la.chunk.groups lb.chunk.groups fa fb (chunk_below n (n + nodes a) la.chunk) (faults_from docs b (n + nodes a) (n + nodes a) its z.1 (omega arith))
              (chunk_told N n (n + nodes a) la.chunk fa (grows_trans lb.chunk.grows m.grows) ra.0)
              (λ e. chunk_told N (n + nodes a) (n + nodes a + nodes b) lb.chunk fb m.grows rb.0)),
          λ e. (
            record {
              there = holds_rows (flat-all _ _ its (all_mono _ _ (λ i (q : value docs a i ++ value docs b i ≡ value docs (Seq a b) i). ap (item_rows i.number 1) (sym (map-append (cell_of W) (value docs a i) (value docs b i)) ∙ ap (map (cell_of W)) q)) its (values e)))
                  (makes_holds m (seq_stands (cells (cell_of W) (value docs a)) (cells (cell_of W) (value docs b)) its _ _ en.ascends (sa e).there.rows_are (sb e).there.rows_are));
              known = all_two _ _ _ (λ i (q : value docs a i ++ value docs b i ≡ value docs (Seq a b) i) (k : AllOf (Known docs W) (value docs a i) × AllOf (Known docs W) (value docs b i)). subst (AllOf (Known docs W)) q (all-append (Known docs W) (value docs a i) (value docs b i) k.0 k.1)) its (values e) (all_two _ _ _ (λ i (x : AllOf (Known docs W) (value docs a i)) (y : AllOf (Known docs W) (value docs b i)). let r : AllOf (Known docs W) (value docs a i) × AllOf (Known docs W) (value docs b i) = (x, y) in r) its (sa e).known (sb e).known);
            },
            all-append _ la.chunk.notes lb.chunk.notes (notes_keep docs W la.chunk.notes (grows_trans lb.chunk.grows m.grows) (ra.1 (append_nil fa fb e).0).1) (notes_keep docs W lb.chunk.notes m.grows (rb.1 (append_nil fa fb e).1).1),
          ),
        );
  }

  -- a binding
  pub bound_all : (x : ℕ) (b : Expr) (its : List Iter) → AllOf (ValueAt docs b) its → bound docs x b its ≡ map (λ i. with_value x i (value docs b i)) its
  bound_all x b [] a = refl
  bound_all x b (i ∷ its) a =
      let h = a.0 in
      ap (λ o. where_some o (λ v. with_value x i v ∷ []) ++ bound docs x b its) h.1
      ∙ ap (λ l. with_value x i h.0 ∷ l) (bound_all x b its a.1)
      ∙ ap (λ v. with_value x i v ∷ map (λ j. with_value x j (value docs b j)) its) (sym (ap list_of h.1))

  pub bound_ascends : (x : ℕ) (b : Expr) (its : List Iter) → AllOf (ValueAt docs b) its → Ascends (λ i. i.number) 0 its → Ascends (λ i. i.number) 0 (bound docs x b its)
  bound_ascends x b its vb asc =
      subst (λ js. Ascends (λ (i : Iter). i.number) 0 js) (sym (bound_all x b its vb)) (map_ascends (λ (i : Iter). i.number) (λ (i : Iter). i.number) (λ i. with_value x i (value docs b i)) (λ i. refl) 0 its asc)

  pub bound_loop : (x : ℕ) (b : Expr) (its : List Iter) → AllOf (ValueAt docs b) its → loop_rows its ≡ loop_rows (bound docs x b its)
  bound_loop x b its vb = sym (map-map (λ (i : Iter). num i.number ∷ []) (λ i. with_value x i (value docs b i)) its) ∙ ap loop_rows (sym (bound_all x b its vb))

  -- a variable of what follows a binding: the new one, or one from outside
  module _ {s : State} (W : World) (x : ℕ) (b e : Expr) (vars : ℕ → OpId) (tb : OpId) (its : List Iter) (vb : AllOf (ValueAt docs b) its)
      (hv : (y : ℕ) → y ≢ x → IsFree y e → StandsFor docs W s (vars y) (λ i. i.env y) its) (hb : StandsFor docs W s tb (value docs b) its) where
    let_var : (y : ℕ) → IsFree y e → (d : Bool) → nat_eq y x ≡ d → StandsFor docs W s (set_var vars x tb y) (λ i. i.env y) (bound docs x b its)
    let_var y f true q =
        let c = cell_of W in
        let all = bound_all x b its vb in
        let rows : value_rows (cells c (value docs b)) its ≡ value_rows (cells c (λ i. i.env y)) (bound docs x b its) =
        flat-all _ _ its (all_each _ (λ (i : Iter). ap (λ d. item_rows i.number 1 (map c (cond d (value docs b i) (i.env y)))) (sym q)) its)
        ∙ sym (flat-map (λ (i : Iter). item_rows i.number 1 (map c (i.env y))) (λ i. with_value x i (value docs b i)) its)
        ∙ ap (value_rows (cells c (λ i. i.env y))) (sym all) in
        let known = subst (AllOf (λ (i : Iter). AllOf (Known docs W) (i.env y))) (sym all) (all-map (λ (i : Iter). AllOf (Known docs W) (i.env y)) (λ i. with_value x i (value docs b i)) its (all_mono _ _ (λ i (k : AllOf (Known docs W) (value docs b i)). subst (λ d. AllOf (Known docs W) (cond d (value docs b i) (i.env y))) (sym q) k) its hb.known)) in
        subst (λ d. StandsFor docs W s (cond d tb (vars y)) (λ i. i.env y) (bound docs x b its)) (sym q) (record { there = holds_rows rows hb.there; known = known })
    let_var y f false q =
        let c = cell_of W in
        let all = bound_all x b its vb in
        let h = hv y (eqb-false y x q) f in
        let rows : value_rows (cells c (λ i. i.env y)) its ≡ value_rows (cells c (λ i. i.env y)) (bound docs x b its) =
        flat-all _ _ its (all_each _ (λ (i : Iter). ap (λ d. item_rows i.number 1 (map c (cond d (value docs b i) (i.env y)))) (sym q)) its)
        ∙ sym (flat-map (λ (i : Iter). item_rows i.number 1 (map c (i.env y))) (λ i. with_value x i (value docs b i)) its)
        ∙ ap (value_rows (cells c (λ i. i.env y))) (sym all) in
        let known = subst (AllOf (λ (i : Iter). AllOf (Known docs W) (i.env y))) (sym all) (all-map (λ (i : Iter). AllOf (Known docs W) (i.env y)) (λ i. with_value x i (value docs b i)) its (all_mono _ _ (λ i (k : AllOf (Known docs W) (i.env y)). subst (λ d. AllOf (Known docs W) (cond d (value docs b i) (i.env y))) (sym q) k) its h.known)) in
        subst (λ d. StandsFor docs W s (cond d tb (vars y)) (λ i. i.env y) (bound docs x b its)) (sym q) (record { there = holds_rows rows h.there; known = known })

    pub let_scope : (y : ℕ) → IsFree y e → StandsFor docs W s (set_var vars x tb y) (λ i. i.env y) (bound docs x b its)
    let_scope y f = let_var y f (nat_eq y x) refl

  let_value : (x : ℕ) (b e : Expr) (i : Iter) → ValueAt docs b i → value docs e (with_value x i (value docs b i)) ≡ value docs (Let x b e) i
  let_value x b e i u = ap (λ w. list_of (val docs e (with_var i.env x (list_of w)) i.vector)) u.1 ∙ sym (ap (λ o. list_of (and_then o (λ v. val docs e (with_var i.env x v) i.vector))) u.1)

  module _ {s s1 s2 : State} (n x : ℕ) (b e : Expr) (looped : OpId) (vars : ℕ → OpId) (tb t : OpId) (sited : is_sited n (Let x b e) ≡ true) (lb : Lifts docs s s1 n b looped vars tb) (le : Lifts docs s1 s2 (n + nodes b) e looped (set_var vars x tb) t) where
    let_inside : (W : World) (N : ℕ) (its : List Iter) → Enters docs W N s (Let x b e) looped vars its → AllOf (ValueAt docs b) its → StandsFor docs W s1 tb (value docs b) its → Enters docs W N s1 e looped (set_var vars x tb) (bound docs x b its)
    let_inside W N its en vb hb =
        let enough = en.enough in
        record {
          faithful = en.faithful;
          numbered = en.numbered.1;
          enough = omega arith;
          ascends = bound_ascends x b its vb en.ascends;
          loop = holds_rows (bound_loop x b its vb) (holds_keep lb.chunk.grows en.loop);
          scope = let_scope W x b e vars tb its vb (λ y ne f. stands_keep lb.chunk.grows (en.scope y (in_right (free b) (without x (free e)) y (without_keeps x (free e) y ne f)))) hb;
        }

    let_back : (W : World) (its : List Iter) → AllOf (ValueAt docs b) its → StandsFor docs W s2 t (value docs e) (bound docs x b its) → StandsFor docs W s2 t (value docs (Let x b e)) its
    let_back W its vb h =
        let c = cell_of W in
        let all = bound_all x b its vb in
        let each = all_mono _ _ (λ i (u : ValueAt docs b i). let_value x b e i u) its vb in
        record {
          there = holds_rows (ap (value_rows (cells c (value docs e))) all
              ∙ flat-map (λ (i : Iter). item_rows i.number 1 (map c (value docs e i))) (λ i. with_value x i (value docs b i)) its
              ∙ flat-all _ _ its (all_mono _ _ (λ i (q : value docs e (with_value x i (value docs b i)) ≡ value docs (Let x b e) i). ap (λ l. item_rows i.number 1 (map c l)) q) its each)) h.there;
          known = all_two _ _ _ (λ i (q : value docs e (with_value x i (value docs b i)) ≡ value docs (Let x b e) i) (k : AllOf (Known docs W) (value docs e (with_value x i (value docs b i)))). subst (AllOf (Known docs W)) q k) its each
              (all_map_back (λ (i : Iter). AllOf (Known docs W) (value docs e i)) (λ i. with_value x i (value docs b i)) its (subst (AllOf (λ (i : Iter). AllOf (Known docs W) (value docs e i))) all h.known));
        }

    pub let_lifts : Lifts docs s s2 n (Let x b e) looped vars t
    let_lifts = record {
      chunk = chunk_makes n (n + nodes b + nodes e) (n + nodes (Let x b e)) (omega arith) (chunk_then n (n + nodes b) (n + nodes b + nodes e) (omega arith) (omega arith) lb.chunk le.chunk) (grows_self s2);
      sited = sited_then (sites b) (sites e) lb.chunk.groups le.chunk.groups lb.sited le.sited;
      walked = walked_then lb.walked le.walked;
      told = λ W N its en.
          let enough = en.enough in
          let sites = and_parts (is_sited n b) (is_sited (n + nodes b) e) sited in
          let rb = lb.told W N its (record { faithful = en.faithful; numbered = en.numbered.0; enough = omega arith; ascends = en.ascends; loop = en.loop; scope = λ y f. en.scope y (in_left (free b) (without x (free e)) y f) }) in
          let fb = faults docs b its in
          let fe = faults docs e (bound docs x b its) in
          let go = λ (z : fb ≡ []). le.told W N (bound docs x b its) (let_inside W N its en (no_faults docs b its z) (rb.1 z).0) in (
            tells_then N s2 (length s.tables) (length s1.tables) (length s2.tables) (n + nodes b) lb.chunk.groups le.chunk.groups fb fe (chunk_below n (n + nodes b) lb.chunk) (faults_from docs e (n + nodes b) (n + nodes b) (bound docs x b its) sites.1 (omega arith))
                (chunk_told N n (n + nodes b) lb.chunk fb le.chunk.grows rb.0)
                (λ z. (go z).0),
            λ z.
                let k = append_nil fb fe z in (
                  let_back W its (no_faults docs b its k.0) ((go k.0).1 k.1).0,
                  all-append _ lb.chunk.notes le.chunk.notes (notes_keep docs W lb.chunk.notes le.chunk.grows (rb.1 k.0).1) ((go k.0).1 k.1).1,
                ),
          );
    }
