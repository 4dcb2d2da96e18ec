-- The case of the induction for a call: its parts, and then its own rule. Steps, constructors and all other nodes with a rule of
-- their own but a sorted loop are calls.
use Rattle.std.proofs.Common.{◌≡◌, ℕ, ◌+◌, ◌≤◌, true, List, [], ◌∷◌, length, map, refl, sym, ap, ◌∙◌, subst, inl, inr, arith, Option, Some, None}
use Rattle.std.proofs.lemmas.Bool.{and_parts, eqb-true}
use Rattle.xq_base.specs.Answers.{Answer, Value, Fault as Refused}
use Rattle.doc_table.specs.Values.{Items}
use Rattle.doc_table.specs.NodeRules.{Docs}
use Rattle.plan_dag.specs.declared.op.OpId.{OpId}
use Rattle.plan_dag.specs.ItemRules.{Cell}
use Rattle.core_meaning.specs.Expr.{Site, Rule, Apply, Walk, Make, IsOf, TreatAs, ConvertTo, CastTo, CastableTo, FailWith, Expr, Exprs, Call, no_more, one_more}
use Rattle.core_meaning.specs.Rules.{rule_answer}
use Rattle.core_meaning.specs.Meaning.{and_then, value_in, val, vals}
use Rattle.core_meaning.specs.Reached.{where_some}
use Rattle.core_meaning.specs.Failures.{failure, faults_of}
use Rattle.core_meaning.specs.Lawful.{nodes, nodes_all, is_sited, sited_all}
use Rattle.core_meaning.specs.Work.{free, free_all, rule_work}
use Rattle.lift_laws.specs.Sums.{total, AllOf}
use Rattle.lift_laws.specs.Iterations.{Iter, item_rows}
use Rattle.lift_laws.specs.Bulk.{list_of, value, values_of, fault, own_faults, faults, faults_all, cost_all, weight, Step, own_walks, sites, sites_all}
use Rattle.lift_laws.specs.Worlds.{World, Reach, cell_of, Known, Faithful, Among, tree_under}
use Rattle.lift_laws.specs.States.{State, StepAt, Grows, HoldAll}
use Rattle.lift_laws.specs.Lifting.{Note, NoteStands, NotedBy, Walked, Tells, Chunk, PartsKnown, part_cells, Lifts, LiftsAll, call_answer, call_faults, call_cost, OwnSteps, Rooted, CallLifts, answer_cells, Fair}
use Rattle.lift_laws.proofs.Multi.{total-sum, total-zero}
use Rattle.lift_laws.proofs.Picks.{all_each, all_mono, all-append, flat-all}
use Rattle.lift_laws.proofs.Values.{Has, append_nil, all_two, ValuesAt, no_faults_all}
use Rattle.lift_laws.proofs.Free.{in_left, in_right}
use Rattle.lift_laws.proofs.Sizes.{map_length, own_most, values_weigh, total_most_all, count_list}
use Rattle.lift_laws.proofs.Keeping.{append_none, grows_self, holds_keep, holds_rows, stands_keep, hold_all_keep, notes_keep, sited_then, walked_quiet, walked_then, chunk_none, chunk_then, chunk_makes, chunk_told, chunk_below, faults_all_from, own_from, tells_then, small_none}
use Rattle.lift_laws.proofs.Known.{knowns_rooted, work_cells}

pub among_each : (its : List Iter) → AllOf (λ i. Among i its) its
among_each [] = tt
among_each (j ∷ js) = (inl refl, all_mono _ _ (λ i (h : Among i js). let r : Among i (j ∷ js) = inr h in r) js (among_each js))

-- a step has a note
abbrev pub notes_of : Site → Rule → Exprs → List OpId → List Note
notes_of site (Walk from axis test) es ts = record { site = site; parts = es; ops = ts } ∷ []
notes_of site _ es ts = []

same_fault : (W : World) (a : Answer Items) (site : Site) (vec : List ℕ) → faults_of (answer_cells (cell_of W) a) (failure site vec) ≡ faults_of a (failure site vec)
same_fault W (Value v) site vec = refl
same_fault W (Refused c) site vec = refl

same_value : (W : World) (a : Answer Items) → list_of (value_in (answer_cells (cell_of W) a)) ≡ map (cell_of W) (list_of (value_in a))
same_value W (Value v) = refl
same_value W (Refused c) = refl

head_is : {A : Type 0} (x y : A) (xs ys : List A) → x ∷ xs ≡ y ∷ ys → x ≡ y
head_is x y xs ys e = cc

tail_is : {A : Type 0} (x y : A) (xs ys : List A) → x ∷ xs ≡ y ∷ ys → xs ≡ ys
tail_is x y xs ys e = cc

one_note : (site : Site) (es : Exprs) (ts : List OpId) (qs : List StepAt) (w : Rule) → map (λ (q : StepAt). q.step) qs ≡ own_walks site w → AllOf (λ q. ts ≡ q.input ∷ []) qs → AllOf (λ q. NotedBy q (notes_of site w es ts)) qs
one_note site es ts [] w e a = tt
one_note site es ts (q ∷ qs) (Walk from axis test) e a =
    let at : Step = record { site = site; axis = axis; test = test } in
    let k : q.step.site ≡ site = ap (λ (z : Step). z.site) (head_is q.step at (map (λ (p : StepAt). p.step) qs) [] e) in
    let z = tail_is q.step at (map (λ (p : StepAt). p.step) qs) [] e in
    (inl (sym k, a.0), none qs z)
  where
    none : (ps : List StepAt) → map (λ (p : StepAt). p.step) ps ≡ [] → AllOf (λ p. NotedBy p (notes_of site (Walk from axis test) es ts)) ps
    none [] z = tt
    none (p ∷ ps) z = cc
one_note site es ts (q ∷ qs) (Apply f) e a = cc
one_note site es ts (q ∷ qs) (Make kind) e a = cc
one_note site es ts (q ∷ qs) (IsOf t) e a = cc
one_note site es ts (q ∷ qs) (TreatAs t) e a = cc
one_note site es ts (q ∷ qs) (ConvertTo t) e a = cc
one_note site es ts (q ∷ qs) (CastTo kind o) e a = cc
one_note site es ts (q ∷ qs) (CastableTo kind o) e a = cc
one_note site es ts (q ∷ qs) (FailWith code) e a = cc

own_walked : {s s' : State} (site : Site) (r : Rule) (es : Exprs) (ts : List OpId) → OwnSteps s s' site r ts → Walked s s' (notes_of site r es ts) (own_walks site r)
own_walked {s = s} {s' = s'} site r es ts h = record { added = h.added; steps_are = h.steps_are; walks_are = h.walks_are; noted = one_note site es ts h.added r h.walks_are h.inputs }

module _ (docs : Docs) where
  pub no_args : (s : State) (n : ℕ) (looped : OpId) (vars : ℕ → OpId) → LiftsAll docs s s n no_more looped vars []
  no_args s n looped vars = record {
    chunk = chunk_none n (n + 0) (grows_self s);
    sited = tt;
    walked = walked_quiet refl;
    told = λ W N its en. ((refl, small_none (length s.tables) N), (λ e. (tt, all_each _ (λ i. tt) its, tt)));
  }

  pub more_args : {s s1 s2 : State} (n : ℕ) (e : Expr) (es : Exprs) (looped : OpId) (vars : ℕ → OpId) (t : OpId) (ts : List OpId) → sited_all n (one_more e es) ≡ true → Lifts docs s s1 n e looped vars t → LiftsAll docs s1 s2 (n + nodes e) es looped vars ts → LiftsAll docs s s2 n (one_more e es) looped vars (t ∷ ts)
  more_args {s = s} {s1 = s1} {s2 = s2} n e es looped vars t ts sited l ls = record {
    chunk = chunk_makes n (n + nodes e + nodes_all es) (n + nodes_all (one_more e es)) (omega arith) (chunk_then n (n + nodes e) (n + nodes e + nodes_all es) (omega arith) (omega arith) l.chunk ls.chunk) (grows_self s2);
    sited = sited_then (sites e) (sites_all es) l.chunk.groups ls.chunk.groups l.sited ls.sited;
    walked = walked_then l.walked ls.walked;
    told = λ W N its en.
        let enough = en.enough in
        let sites = and_parts (is_sited n e) (sited_all (n + nodes e) es) sited in
        let r = l.told W N its (record { faithful = en.faithful; numbered = en.numbered.0; enough = omega arith; ascends = en.ascends; loop = en.loop; scope = λ y f. en.scope y (in_left (free e) (free_all es) y f) }) in
        let rs = ls.told W N its (record { faithful = en.faithful; numbered = en.numbered.1; enough = omega arith; ascends = en.ascends; loop = holds_keep l.chunk.grows en.loop; scope = λ y f. stands_keep l.chunk.grows (en.scope y (in_right (free e) (free_all es) y f)) }) in
        let fe = faults docs e its in
        let fs = faults_all docs es its in (
          tells_then N s2 (length s.tables) (length s1.tables) (length s2.tables) (n + nodes e) l.chunk.groups ls.chunk.groups fe fs (chunk_below n (n + nodes e) l.chunk) (faults_all_from docs es (n + nodes e) (n + nodes e) its sites.1 (omega arith))
              (chunk_told N n (n + nodes e) l.chunk fe ls.chunk.grows r.0) (λ z. rs.0),
          λ z.
              let k = append_nil fe fs z in
              let a = r.1 k.0 in
              let b = rs.1 k.1 in (
                (holds_keep ls.chunk.grows a.0.there, b.0),
                all_two _ _ _ (λ i (x : AllOf (Known docs W) (value docs e i)) (y : AllOf (AllOf (Known docs W)) (map (λ g. g i) (values_of docs es))). let q : AllOf (AllOf (Known docs W)) (map (λ g. g i) (values_of docs (one_more e es))) = (x, y) in q) its a.0.known b.1,
                all-append _ l.chunk.notes ls.chunk.notes (notes_keep docs W l.chunk.notes ls.chunk.grows a.1) b.2,
              ),
        );
  }

  pub vals_are : (es : Exprs) (i : Iter) → ValuesAt docs es i → vals docs es i.env i.vector ≡ Some (map (λ g. g i) (values_of docs es))
  vals_are no_more i h = refl
  vals_are (one_more e es) i h = go (val docs e i.env i.vector) refl (vals docs es i.env i.vector) refl (λ k. vals_are es i k) h
    where
      go : (o : Option Items) → val docs e i.env i.vector ≡ o → (p : Option (List Items)) → vals docs es i.env i.vector ≡ p → (ValuesAt docs es i → vals docs es i.env i.vector ≡ Some (map (λ g. g i) (values_of docs es))) → Has (and_then o (λ v. and_then p (λ vs. Some (v ∷ vs)))) → and_then (val docs e i.env i.vector) (λ v. and_then (vals docs es i.env i.vector) (λ vs. Some (v ∷ vs))) ≡ Some (value docs e i ∷ map (λ g. g i) (values_of docs es))
      go None a p b r x = let y = x.1 in cc
      go (Some v) a None b r x = let y = x.1 in cc
      go (Some v) a (Some vs) b r x =
          ap (λ o. and_then o (λ w. and_then (vals docs es i.env i.vector) (λ ws. Some (w ∷ ws)))) a
          ∙ ap (λ p. and_then p (λ ws. Some (v ∷ ws))) (r (vs, b))
          ∙ ap (λ o. Some (list_of o ∷ map (λ g. g i) (values_of docs es))) (sym a)

  -- the parts' cells in one iteration
  cells_are : (W : World) (es : Exprs) (i : Iter) → map (λ g. g i) (part_cells docs W es) ≡ map (map (cell_of W)) (map (λ g. g i) (values_of docs es))
  cells_are W no_more i = refl
  cells_are W (one_more e es) i = ap (λ l. map (cell_of W) (value docs e i) ∷ l) (cells_are W es i)

  sizes_same : (W : World) (es : Exprs) (i : Iter) → total (λ (g : Iter → List Cell). length (g i)) (part_cells docs W es) ≡ total (λ (g : Iter → Items). length (g i)) (values_of docs es)
  sizes_same W no_more i = refl
  sizes_same W (one_more e es) i = let r = sizes_same W es i in let s = map_length (cell_of W) (value docs e i) in omega arith

  parts_most : (es : Exprs) (its : List Iter) → total (λ i. total (λ (g : Iter → Items). length (g i)) (values_of docs es)) its ≤ cost_all docs es its
  parts_most no_more its = let z = total-zero its in omega arith
  parts_most (one_more e es) its =
      let s = total-sum (λ i. length (value docs e i)) (λ i. total (λ (g : Iter → Items). length (g i)) (values_of docs es)) its in
      let a = values_weigh docs e its in
      let b = own_most docs e its in
      let r = parts_most es its in
      omega arith

  parts_rooted : (W : World) (es : Exprs) (its : List Iter) → Faithful W → PartsKnown docs W es its → AllOf (λ g. AllOf (λ i. AllOf (Rooted (tree_under docs W)) (g i)) its) (part_cells docs W es)
  parts_rooted W no_more its fw a = tt
  parts_rooted W (one_more e es) its fw a = (
    all_mono _ _ (λ i (h : AllOf (AllOf (Known docs W)) (map (λ g. g i) (values_of docs (one_more e es)))). knowns_rooted docs W fw (value docs e i) h.0) its a,
    parts_rooted W es its fw (all_mono _ _ (λ i (h : AllOf (AllOf (Known docs W)) (map (λ g. g i) (values_of docs (one_more e es)))). let r : AllOf (AllOf (Known docs W)) (map (λ g. g i) (values_of docs es)) = h.1 in r) its a),
  )

  own_notes : (W : World) (s : State) (site : Site) (r : Rule) (es : Exprs) (ts : List OpId) (its : List Iter) → W site.number ≡ record { site = site; rule = r; parts = es; its = its } → HoldAll s ts (part_cells docs W es) its → PartsKnown docs W es its → AllOf (NoteStands docs W s) (notes_of site r es ts)
  own_notes W s site (Walk from axis test) es ts its k h j = ((subst (λ (q : Reach). HoldAll s ts (part_cells docs W es) q.its) (sym k) h, subst (λ (q : Reach). PartsKnown docs W es q.its) (sym k) j, ap (λ (q : Reach). q.parts) k), tt)
  own_notes W s site (Apply f) es ts its k h j = tt
  own_notes W s site (Make kind) es ts its k h j = tt
  own_notes W s site (IsOf t) es ts its k h j = tt
  own_notes W s site (TreatAs t) es ts its k h j = tt
  own_notes W s site (ConvertTo t) es ts its k h j = tt
  own_notes W s site (CastTo kind o) es ts its k h j = tt
  own_notes W s site (CastableTo kind o) es ts its k h j = tt
  own_notes W s site (FailWith code) es ts its k h j = tt

  module _ {s s1 s2 : State} (n : ℕ) (site : Site) (r : Rule) (es : Exprs) (looped : OpId) (vars : ℕ → OpId) (ts : List OpId) (t : OpId) (sited : is_sited n (Call site r es) ≡ true) (fair : Fair docs site r) (ls : LiftsAll docs s s1 n es looped vars ts) (cl : CallLifts docs s1 s2 site r looped ts t) where
    here : site.number ≡ n + nodes_all es
    here = eqb-true site.number (n + nodes_all es) (and_parts _ (sited_all n es) sited).0

    abbrev own : Chunk s1 s2 (n + nodes_all es) (n + nodes_all es + 1)
    own = record {
      groups = record { site = site; checks = cl.new } ∷ [];
      notes = notes_of site r es ts;
      grows = subst (λ l. Grows s1 s2 l) (sym (append_none cl.new)) cl.grows;
      placed = (((let h = here in omega arith), (let h = here in omega arith), cl.placed), tt);
      coded = (cl.coded, tt);
    }

    -- the rule in one iteration, over cells and over values
    abbrev answer : Iter → Answer Items
    answer i = rule_answer docs site i.vector r (map (λ g. g i) (values_of docs es))

    abbrev RuleSame : World → Iter → Type 0
    RuleSame W i =
        (call_answer docs site r (part_cells docs W es) i ≡ answer_cells (cell_of W) (answer i))
        × (vals docs es i.env i.vector ≡ Some (map (λ g. g i) (values_of docs es)))
        × AllOf (Known docs W) (list_of (value_in (answer i)))

    rules_same : (W : World) (its : List Iter) → Faithful W → W site.number ≡ record { site = site; rule = r; parts = es; its = its } → AllOf (ValuesAt docs es) its → PartsKnown docs W es its → AllOf (RuleSame W) its
    rules_same W its fw nw has known =
        all_two _ _ _ (λ i (a : Among i its) (b : ValuesAt docs es i × AllOf (AllOf (Known docs W)) (map (λ g. g i) (values_of docs es))).
        let v = vals_are es i b.0 in
        let h = fair W es its fw nw i a (map (λ g. g i) (values_of docs es)) v b.1 in
        let q : RuleSame W i = (ap (rule_answer docs site (i.number ∷ []) r) (cells_are W es i) ∙ h.0, v, h.1) in q) its (among_each its)
        (all_two _ _ _ (λ i (x : ValuesAt docs es i) (y : AllOf (AllOf (Known docs W)) (map (λ g. g i) (values_of docs es))). let q : ValuesAt docs es i × AllOf (AllOf (Known docs W)) (map (λ g. g i) (values_of docs es)) = (x, y) in q) its has known)

    own_calls : (W : World) (its : List Iter) → AllOf (RuleSame W) its → own_faults docs (Call site r es) its ≡ call_faults docs site r (part_cells docs W es) its
    own_calls W its a =
        flat-all _ _ its (all_mono _ _ (λ i (h : RuleSame W i).
        ap (map (fault i.number))
        (ap (λ o. where_some o (λ vs. faults_of (rule_answer docs site i.vector r vs) (failure site i.vector))) h.1 ∙ sym (same_fault W (answer i) site i.vector) ∙ sym (ap (λ x. faults_of x (failure site i.vector)) h.0))) its a)

    value_here : (W : World) (i : Iter) → RuleSame W i → list_of (value_in (answer i)) ≡ value docs (Call site r es) i
    value_here W i h = sym (ap (λ o. list_of (and_then o (λ vs. value_in (rule_answer docs site i.vector r vs)))) h.1)

    work_here : (W : World) (i : Iter) → RuleSame W i → rule_work r (Some (map (λ g. g i) (part_cells docs W es))) (value_in (call_answer docs site r (part_cells docs W es) i)) ≡ rule_work r (vals docs es i.env i.vector) (val docs (Call site r es) i.env i.vector)
    work_here W i h =
        ap (λ vs. rule_work r (Some vs) (value_in (call_answer docs site r (part_cells docs W es) i))) (cells_are W es i)
        ∙ ap (λ x. rule_work r (Some (map (map (cell_of W)) (map (λ g. g i) (values_of docs es)))) (value_in x)) h.0
        ∙ work_cells W r (map (λ g. g i) (values_of docs es)) (answer i)
        ∙ sym (ap (λ o. rule_work r o (and_then o (λ vs. value_in (rule_answer docs site i.vector r vs)))) h.1)

    costs : (W : World) (its : List Iter) → AllOf (RuleSame W) its → call_cost docs site r (part_cells docs W es) its ≤ cost_all docs es its + total (weight docs (Call site r es)) its
    costs W its a =
        let parts = parts_most es its in
        let args = λ (i : Iter). total (λ (g : Iter → Items). length (g i)) (values_of docs es) in
        let s = total-sum args (weight docs (Call site r es)) its in
        let m = total_most_all (λ i. 1 + total (λ (g : Iter → List Cell). length (g i)) (part_cells docs W es) + length (list_of (value_in (call_answer docs site r (part_cells docs W es) i))) + rule_work r (Some (map (λ g. g i) (part_cells docs W es))) (value_in (call_answer docs site r (part_cells docs W es) i))) (λ i. args i + weight docs (Call site r es) i) its
        (all_mono _ _ (λ i (h : RuleSame W i).
        let q = sizes_same W es i in
        let v : length (list_of (value_in (call_answer docs site r (part_cells docs W es) i))) ≡ length (value docs (Call site r es) i) =
        ap (λ b. length (list_of (value_in b))) h.0 ∙ ap (λ (l : List Cell). length l) (same_value W (answer i)) ∙ map_length (cell_of W) _ ∙ ap (λ (l : Items). length l) (value_here W i h) in
        let c = count_list (val docs (Call site r es) i.env i.vector) in
        let x = work_here W i h in
        let b : 1 + total (λ (g : Iter → List Cell). length (g i)) (part_cells docs W es) + length (list_of (value_in (call_answer docs site r (part_cells docs W es) i))) + rule_work r (Some (map (λ g. g i) (part_cells docs W es))) (value_in (call_answer docs site r (part_cells docs W es) i)) ≤ args i + weight docs (Call site r es) i = omega arith in b) its a) in
        omega arith

    pub call_lifts : Lifts docs s s2 n (Call site r es) looped vars t
    call_lifts = record {
      chunk = chunk_makes n (n + nodes_all es + 1) (n + nodes (Call site r es)) (omega arith) (chunk_then n (n + nodes_all es) (n + nodes_all es + 1) (omega arith) (omega arith) ls.chunk own) (grows_self s2);
      sited = sited_then (sites_all es) (site ∷ []) ls.chunk.groups own.groups ls.sited (inl refl, tt);
      walked = walked_then ls.walked (own_walked site r es ts cl.steps);
      told = λ W N its en.
          let enough = en.enough in
          let a = ls.told W N its (record { faithful = en.faithful; numbered = en.numbered.0; enough = omega arith; ascends = en.ascends; loop = en.loop; scope = en.scope }) in
          let m = n + nodes_all es in
          let fs = faults_all docs es its in
          let gs = own_faults docs (Call site r es) its in
          let rules = λ (z : fs ≡ []). rules_same W its en.faithful en.numbered.1 (no_faults_all docs es its z) (a.1 z).1 in
          let few = λ (z : fs ≡ []). let k = costs W its (rules z) in let q : call_cost docs site r (part_cells docs W es) its ≤ N = omega arith in q in
          let go = λ (z : fs ≡ []). cl.told N its (part_cells docs W es) en.ascends (holds_keep ls.chunk.grows en.loop) (a.1 z).0 (tree_under docs W) (parts_rooted W es its en.faithful (a.1 z).1) (few z) in
          let same = λ (z : fs ≡ []). own_calls W its (rules z) in (
            tells_then N s2 (length s.tables) (length s1.tables) (length s2.tables) m ls.chunk.groups own.groups fs gs (chunk_below n m ls.chunk) (own_from docs n site r es its sited)
                (chunk_told N n m ls.chunk fs cl.grows a.0)
                (λ z. subst (λ l. Tells N s2 (length s1.tables) (length s2.tables) own.groups l) (sym (same z)) (go z).0),
            λ z.
                let k = append_nil fs gs z in
                let there = (go k.0).1 (sym (same k.0) ∙ k.1) in (
                  record {
                    there = holds_rows (flat-all _ _ its (all_mono _ _ (λ i (h : RuleSame W i). ap (item_rows i.number 1) (ap (λ b. list_of (value_in b)) h.0 ∙ same_value W (answer i) ∙ ap (map (cell_of W)) (value_here W i h))) its (rules k.0))) there;
                    known = all_mono _ _ (λ i (h : RuleSame W i). subst (AllOf (Known docs W)) (value_here W i h) h.2) its (rules k.0);
                  },
                  all-append _ ls.chunk.notes own.notes (notes_keep docs W ls.chunk.notes cl.grows (a.1 k.0).2) (own_notes W s2 site r es ts its en.numbered.1 (hold_all_keep ts (part_cells docs W es) its cl.grows (a.1 k.0).0) (a.1 k.0).1),
                ),
          );
    }
