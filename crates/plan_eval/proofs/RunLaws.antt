-- The events of a plan, one after the other.
use Rattle.std.proofs.Common.{inl, inr, ◌⊎◌, ◌≡◌, ℕ, zero, suc, ◌<◌, ◌≤◌, Bool, true, false, cond, not, ◌&&◌, ◌||◌, List, [], ◌∷◌, ◌++◌, length, map, take, drop, set, get_or, refl, sym, ap, ◌∙◌, subst, arith, Option, Some, None, Ok, Err}
use Rattle.std.proofs.lemmas.Option.{slice_get_within}
use Rattle.std.specs.Prelude.{nat_eq, nat_lt, slice_get, slice_index_or}
use Rattle.std.specs.List.{flat_map, list_all}
use Rattle.std.proofs.lemmas.Bool.{false≢true, eqb-true, and_parts, lt-ltb, ltb-true}
use Rattle.std.proofs.lemmas.Bool.Decides.{nat_tests}
use Rattle.std.proofs.lemmas.List.{length-set}
use Rattle.xq_base.specs.declared.axis.NodeTest.{NodeTest}
use Rattle.xq_base.specs.declared.axis.NodeTest.TheVariants as w
use Rattle.xq_base.specs.declared.item.Atom.{Atom as Constant}
use Rattle.xq_base.specs.declared.item.Atom.TheVariants as a
use Rattle.xq_base.specs.declared.item.Item.{Item}
use Rattle.xq_base.specs.declared.item.TextId.{TextId}
use Rattle.xq_base.specs.Texts.{Text}
use Rattle.doc_table.specs.Account.{Account}
use Rattle.doc_table.specs.Ascending.{In}
use Rattle.doc_table.specs.Axes.{test_of}
use Rattle.doc_table.specs.Documents.{documents_in}
use Rattle.doc_table.specs.Given.{is_given, option_given, trees_given}
use Rattle.doc_table.specs.Notes.{AppendsAll}
use Rattle.doc_table.specs.NodeRules.{Docs}
use Rattle.doc_table.specs.StoredItems.{meanings}
use Rattle.doc_table.specs.Stores.{Holdings, AreGiven}
use Rattle.doc_table.specs.TestTexts.{test_given}
use Rattle.doc_table.proofs.Ascending.{in-parts}
use Rattle.doc_table.proofs.GrownPools.{grown_pool_keeps}
use Rattle.xq_funs.specs.Answering.{atom_given}
use Rattle.xq_funs.proofs.Later.{trees_given_later, keeps_on}
use Rattle.plan_dag.specs.declared.check.Check.{Check}
use Rattle.plan_dag.specs.declared.op.Op.{Op}
use Rattle.plan_dag.specs.declared.op.Op.TheVariants as o
use Rattle.plan_dag.specs.declared.op.OpId.{OpId}
use Rattle.plan_dag.specs.Cells.{Rules}
use Rattle.plan_dag.specs.ItemRules.{Cell}
use Rattle.plan_dag.specs.Meaning.{Graph, Table, no_table, table_at, input_table, table_over, demand_of, answer_from, plan_answer, Answers, Refuses, root_items}
use Rattle.plan_dag.specs.Needed.{is_input}
use Rattle.plan_dag.specs.Schema.{first_input, second_input, is_valid, is_constructor, fits_over, input_cols, schemas}
use Rattle.table_ops.specs.Chains.{places_of}
use Rattle.table_ops.specs.Demands.{rules_in}
use Rattle.table_ops.specs.Results.{op_table}
use Rattle.table_ops.specs.Standing.{standing, RowsGiven}
use Rattle.table_ops.proofs.MapLaws.{rows_given_later, names_later}
use Rattle.plan_eval.specs.declared.events.Event.{Event}
use Rattle.plan_eval.specs.declared.events.Event.TheVariants as v
use Rattle.plan_eval.specs.declared.fault.EvalFault.{EvalFault}
use Rattle.plan_eval.specs.declared.fault.EvalFault.TheVariants as fault'
use Rattle.plan_eval.specs.declared.fault.StepTally.{StepTally}
use Rattle.plan_eval.specs.Evaluating.{row_limit, evaluated, demand_with, demand_at, beyond, begun, notes_with, notes_at, tallies_with, tallies_at, tables_in, beyond_in, notes_in, UnlessWant}
use Rattle.plan_eval.specs.Contexts.{op_notes, op_tallies}
use Rattle.plan_eval.specs.Making.{Made, MakesOp, NotesOp, demand_in, kept_input}
use Rattle.plan_eval.specs.Plans.{op_given, PlanOver}
use Rattle.plan_eval.specs.Running.{released, released_by, released_at, AreEmpty, RunGives}
use Rattle.plan_eval.specs.Turns.{reads_op, turns_of, make_event, makes_at, events_from, events_of}
use Rattle.plan_eval.specs.Uses.{reads_with, uses, LastUses}
use Rattle.plan_eval.proofs.FoundSoFar.{appended-both, drop-at, nothing-appended}
use Rattle.plan_eval.proofs.GrownRules.{standing-later, table-later}
use Rattle.plan_eval.proofs.OnceMaps.{append-assoc, to-none, map-append, flat-append}
use Rattle.plan_eval.proofs.OrderLaws.{Ordered, events-ordered}
use Rattle.plan_eval.proofs.TableLaws.{FitsIn, fits-in, table-is, table-cols, tables-length}
use Rattle.plan_eval.proofs.TurnLaws.{map-length, drop-all}
use Rattle.plan_eval.proofs.UseLaws.{event-at}

-- ---- what a longer pool gave

more-given : (m n : ℕ) (id : TextId) → m ≤ n → is_given m id ≡ true → is_given n id ≡ true
more-given m n id l g = let s = ltb-true id.0 m g in lt-ltb id.0 n (omega (arith, l, s))

more-option : (m n : ℕ) (id : Option TextId) → m ≤ n → option_given m id ≡ true → option_given n id ≡ true
more-option m n None l g = refl
more-option m n (Some id) l g = more-given m n id l g

more-atom : (m n : ℕ) (x : Constant) → m ≤ n → atom_given m x ≡ true → atom_given n x ≡ true
more-atom m n (a.Int z) l g = refl
more-atom m n (a.Str id) l g = more-given m n id l g
more-atom m n (a.Untyped id) l g = more-given m n id l g
more-atom m n (a.Bool b) l g = refl

pub more-test : (m n : ℕ) (t : NodeTest) → m ≤ n → test_given m (test_of t) ≡ true → test_given n (test_of t) ≡ true
more-test m n w.Any l g = refl
more-test m n (w.Name id) l g = more-given m n id l g
more-test m n w.Star l g = refl
more-test m n w.Text l g = refl
more-test m n w.Comment l g = refl
more-test m n (w.Pi id) l g = more-option m n id l g
more-test m n w.Document l g = refl
more-test m n (w.Element id) l g = more-option m n id l g
more-test m n (w.Attribute id) l g = more-option m n id l g

pub op-given-later : (m n : ℕ) (op : Op) → m ≤ n → op_given m op ≡ true → op_given n op ≡ true
op-given-later m n (o.Attach i c x) l g = let p = and_parts (atom_given m x) true g in ap (λ b. b && true) (more-atom m n x l p.0)
op-given-later m n (o.Step i axis wanted site offset it c) l g = more-test m n wanted l g
op-given-later m n (o.Unit c) l g = refl
op-given-later m n (o.Empty cs) l g = refl
op-given-later m n (o.Project i ps) l g = refl
op-given-later m n (o.Select i c) l g = refl
op-given-later m n (o.Join i j x y) l g = refl
op-given-later m n (o.Union i j) l g = refl
op-given-later m n (o.Difference i j x y) l g = refl
op-given-later m n (o.Distinct i cs) l g = refl
op-given-later m n (o.Rownum i c ks part) l g = refl
op-given-later m n (o.Count i k c) l g = refl
op-given-later m n (o.Aggregate i agg k x c) l g = refl
op-given-later m n (o.AggregateFails i agg code k x) l g = refl
op-given-later m n (o.Map i fun xs c) l g = refl
op-given-later m n (o.MapFails i fun code xs) l g = refl
op-given-later m n (o.Range i x y c) l g = refl
op-given-later m n (o.ExistsCompare i j op x y z u) l g = refl
op-given-later m n (o.CompareFails i j op code x y z u) l g = refl
op-given-later m n (o.Element i j site it p x) l g = refl
op-given-later m n (o.Attribute i j site it p x) l g = refl
op-given-later m n (o.Pi i j site it p x) l g = refl
op-given-later m n (o.Text i j site it p x) l g = refl
op-given-later m n (o.Comment i j site it p x) l g = refl
op-given-later m n (o.Document i j site it p x) l g = refl
op-given-later m n (o.ContentFails j place code it p x) l g = refl

all-at : {X : Type 0} (p : X → Bool) (xs : List X) (k : ℕ) (x : X) → list_all p xs ≡ true → slice_get xs k ≡ Some x → p x ≡ true
all-at p [] k x h g = absurd (cc)
all-at p (y ∷ xs) zero x h g = let r = and_parts (p y) (list_all p xs) h in ap p (sym (inner g)) ∙ r.0
  where
    inner : {X : Type 0} {x y : X} → Some x ≡ Some y → x ≡ y
    inner e = cc
all-at p (y ∷ xs) (suc k) x h g = let r = and_parts (p y) (list_all p xs) h in all-at p xs k x r.1 g

-- ---- lists of operators

abbrev pub id_of : ℕ → OpId
id_of k = record { 0 = k }

module _ {C : Type 0} (R : Rules C) (ops : List Op) (ts : List (Table C)) where
  beyond-append : (xs ys : List OpId) → beyond R ops ts xs ≡ None → beyond R ops ts (xs ++ ys) ≡ beyond R ops ts ys
  beyond-append [] ys e = refl
  beyond-append (x ∷ xs) ys e = at (nat_lt row_limit (demand_at R ops ts x)) refl e (λ k. beyond-append xs ys k)
    where
      at : (b : Bool) → nat_lt row_limit (demand_at R ops ts x) ≡ b → cond b (Some (x, demand_at R ops ts x)) (beyond R ops ts xs) ≡ None → (beyond R ops ts xs ≡ None → beyond R ops ts (xs ++ ys) ≡ beyond R ops ts ys) → cond b (Some (x, demand_at R ops ts x)) (beyond R ops ts (xs ++ ys)) ≡ beyond R ops ts ys
      at true q k go = absurd (cc)
      at false q k go = go k

  begun-append : (xs ys : List OpId) → beyond R ops ts xs ≡ None → begun R ops ts (xs ++ ys) ≡ xs ++ begun R ops ts ys
  begun-append [] ys e = refl
  begun-append (x ∷ xs) ys e = at (nat_lt row_limit (demand_at R ops ts x)) refl e (λ k. begun-append xs ys k)
    where
      at : (b : Bool) → nat_lt row_limit (demand_at R ops ts x) ≡ b → cond b (Some (x, demand_at R ops ts x)) (beyond R ops ts xs) ≡ None → (beyond R ops ts xs ≡ None → begun R ops ts (xs ++ ys) ≡ xs ++ begun R ops ts ys) → x ∷ cond b [] (begun R ops ts (xs ++ ys)) ≡ x ∷ (xs ++ begun R ops ts ys)
      at true q k go = absurd (cc)
      at false q k go = ap (λ z. x ∷ z) (go k)

-- ---- tables that are put and dropped

index-set-same : {X : Type 0} (xs : List X) (i : ℕ) (x d : X) → i < length xs → slice_index_or (set xs i x) i d ≡ x
index-set-same [] i x d l = absurd (omega (arith, l))
index-set-same (y ∷ xs) zero x d l = refl
index-set-same (y ∷ xs) (suc i) x d l = index-set-same xs i x d (omega (arith, l))

index-set-other : {X : Type 0} (xs : List X) (i k : ℕ) (x d : X) → (i ≡ k → ⊥) → slice_index_or (set xs i x) k d ≡ slice_index_or xs k d
index-set-other [] i k x d n = refl
index-set-other (y ∷ xs) zero zero x d n = absurd (n refl)
index-set-other (y ∷ xs) zero (suc k) x d n = refl
index-set-other (y ∷ xs) (suc i) zero x d n = refl
index-set-other (y ∷ xs) (suc i) (suc k) x d n = index-set-other xs i k x d (λ e. n (ap suc e))

index-past : {X : Type 0} (xs : List X) (k : ℕ) (d : X) → length xs ≤ k → slice_index_or xs k d ≡ d
index-past [] k d l = refl
index-past (x ∷ xs) zero d l = absurd (omega (arith, l))
index-past (x ∷ xs) (suc k) d l = index-past xs k d (omega (arith, l))

abbrev Tables : Type 0
Tables = List (Table Item)

abbrev at : Tables → ℕ → Table Item
at ts k = slice_index_or ts k no_table

-- some tables are dropped, none of which is used behind this place
record KeepsMost (place : ℕ) (last : List ℕ) (ts us : Tables) : Type 0 where
  pub many : length us ≡ length ts
  pub each : (k : ℕ) → (at us k ≡ at ts k) ⊎ ((at us k ≡ no_table) × (get_or last k 0 ≡ place))

keeps-all : (place : ℕ) (last : List ℕ) (ts : Tables) → KeepsMost place last ts ts
keeps-all place last ts = record { many = refl; each = λ k. inl refl }

keeps-both : (place : ℕ) (last : List ℕ) (ts us vs : Tables) → KeepsMost place last ts us → KeepsMost place last us vs → KeepsMost place last ts vs
keeps-both place last ts us vs a b = record {
  many = b.many ∙ a.many;
  each = λ k. elim (b.each k) [
    | inl e ↦ elim (a.each k) [ inl f ↦ inl (e ∙ f) | inr f ↦ inr (e ∙ f.0, f.1) ]
    | inr e ↦ inr e
  ];
}

release-one : (place : ℕ) (last : List ℕ) (input : Option OpId) (ts : Tables) → KeepsMost place last ts (released place last input ts)
release-one place last None ts = keeps-all place last ts
release-one place last (Some i) ts = by (nat_lt i.0 (length ts) && (nat_lt i.0 (length last) && nat_eq (get_or last i.0 0) place)) refl
  where
    by : (b : Bool) → nat_lt i.0 (length ts) && (nat_lt i.0 (length last) && nat_eq (get_or last i.0 0) place) ≡ b → KeepsMost place last ts (cond b (set ts i.0 no_table) ts)
    by false q = keeps-all place last ts
    by true q =
        let p = and_parts (nat_lt i.0 (length ts)) (nat_lt i.0 (length last) && nat_eq (get_or last i.0 0) place) q in
        let r = and_parts (nat_lt i.0 (length last)) (nat_eq (get_or last i.0 0) place) p.1 in
        let here = eqb-true (get_or last i.0 0) place r.1 in
        record { many = length-set ts i.0 no_table; each = λ k. two k here (ltb-true i.0 (length ts) p.0) (nat_eq i.0 k) refl }
      where
        two : (k : ℕ) → get_or last i.0 0 ≡ place → i.0 < length ts → (c : Bool) → nat_eq i.0 k ≡ c → (at (set ts i.0 no_table) k ≡ at ts k) ⊎ ((at (set ts i.0 no_table) k ≡ no_table) × (get_or last k 0 ≡ place))
        two k here l true e =
            let same = eqb-true i.0 k e in
            inr (ap (λ z. at (set ts i.0 no_table) z) (sym same) ∙ index-set-same ts i.0 no_table no_table l, ap (λ z. get_or last z 0) (sym same) ∙ here)
        two k here l false e = inl (index-set-other ts i.0 k no_table no_table (λ s. false≢true (sym e ∙ ap (nat_eq i.0) (sym s) ∙ self i.0)))
          where
            self : (n : ℕ) → nat_eq n n ≡ true
            self n = grind (arith, nat_tests)

release-by : (place : ℕ) (last : List ℕ) (op : Option Op) (ts : Tables) → KeepsMost place last ts (released_by place last op ts)
release-by place last None ts = keeps-all place last ts
release-by place last (Some op) ts = keeps-both place last ts (released place last (first_input op) ts) (released place last (second_input op) (released place last (first_input op) ts)) (release-one place last (first_input op) ts) (release-one place last (second_input op) (released place last (first_input op) ts))

release-at : (ops : List Op) (place : ℕ) (last : List ℕ) (event : Event) (ts : Tables) → KeepsMost place last ts (released_at ops place last event ts)
release-at ops place last (v.Make i) ts = release-by place last (slice_get ops i.0) ts
release-at ops place last (v.Test c) ts = release-one place last (Some c.op) ts

-- the events' checks
abbrev pub tests : List Event → List Check
tests [] = []
tests (v.Make i ∷ es) = tests es
tests (v.Test c ∷ es) = c ∷ tests es

pub event-is : (es : List Event) (place : ℕ) (d x : Event) → place < length es → slice_index_or es place d ≡ x → slice_get es place ≡ Some x
event-is es place d x l e = event-at es place d l ∙ ap Some e

abbrev pub ids : List ℕ → List OpId
ids done = map id_of done

-- ---- the state between two events

module _ (old : List Text) (h : Holdings) (g : Graph) (events : List Event) (last : List ℕ) where
  abbrev RS : Rules Cell
  RS = rules_in old h

  abbrev TT : List (Table Cell)
  TT = tables_in old h g

  abbrev DD : Docs
  DD = documents_in old h

  pub record Running (before after : Account) (told0 : List StepTally) (place : ℕ) (pool : List Text) (ts : Tables) (told : List StepTally) : Type 0 where
    pub grown : take (length old) pool ≡ old
    pub within : place ≤ length events
    pub many : length ts ≡ length g.ops
    pub rows : (k : ℕ) → RowsGiven pool h (at ts k).rows
    pub few : (k : ℕ) → length (at ts k).rows ≤ row_limit
    pub done : List ℕ
    pub stands : (k : ℕ) → In k done → place ≤ get_or last k 0 → standing pool h (at ts k) ≡ slice_index_or TT k no_table
    pub ordered : Ordered g done (drop place events)
    pub course : evaluated TT events ≡ ids done ++ evaluated TT (drop place events)
    pub fine : beyond RS g.ops TT (ids done) ≡ None
    pub noted : AppendsAll before.notes after.notes (flat_map (notes_at RS DD g.ops TT) (ids done))
    pub counted : told ≡ told0 ++ flat_map (tallies_at RS DD g.ops TT) (ids done)
    pub answer : plan_answer RS g ≡ answer_from RS TT (tests (drop place events)) g.root
    pub refuses : after.may_refuse ≡ before.may_refuse

module _ (old : List Text) (h : Holdings) (g : Graph) (events : List Event) (last : List ℕ) (valid : is_valid g.ops ≡ true) (over : PlanOver old h g) (last_uses : LastUses g.ops g.root events last) where
  abbrev R : Rules Cell
  R = rules_in old h

  abbrev TS : List (Table Cell)
  TS = tables_in old h g

  abbrev docs : Docs
  docs = documents_in old h

  -- what an event reads stands
  module _ (before after : Account) (told0 : List StepTally) (place : ℕ) (pool : List Text) (ts : Tables) (told : List StepTally) (s : Running old h g events last before after told0 place pool ts told) where
    pub longer : length old ≤ length pool
    longer = (grown_pool_keeps old pool s.grown).longer

    input-stands : (input : Option OpId) → ((k : ℕ) → is_input k input ≡ true → k < length g.ops → In k s.done × (place ≤ get_or last k 0)) → standing pool h (kept_input ts input) ≡ input_table R TS input
    input-stands None f = refl
    input-stands (Some i) f = by (nat_lt i.0 (length g.ops)) refl
      where
        self : (n : ℕ) → nat_eq n n ≡ true
        self n = grind (arith, nat_tests)

        by : (b : Bool) → nat_lt i.0 (length g.ops) ≡ b → standing pool h (at ts i.0) ≡ slice_index_or TS i.0 no_table
        by true q = let r = f i.0 (self i.0) (ltb-true i.0 (length g.ops) q) in s.stands i.0 r.0 r.1
        by false q =
            let more : length g.ops ≤ i.0 = grind (arith, nat_tests) in
            let m = s.many in
            let n = tables-length R g.ops in
            ap (standing pool h) (index-past ts i.0 no_table (omega (arith, more, m))) ∙ sym (index-past TS i.0 no_table (omega (arith, more, n)))

    pub input-rows : (input : Option OpId) → RowsGiven pool h (kept_input ts input).rows
    input-rows None = tt
    input-rows (Some i) = s.rows i.0

    pub input-few : (input : Option OpId) → length (kept_input ts input).rows ≤ row_limit
    input-few None = omega arith
    input-few (Some i) = s.few i.0

    used-at : (event : Event) → slice_get events place ≡ Some event → (k : ℕ) → k < length g.ops → uses g.ops k event ≡ true → place ≤ get_or last k 0
    used-at event e k l u = last_uses.used k place event l e u

    pub make-small : (i : OpId) → slice_get events place ≡ Some (v.Make i) → i.0 < length g.ops
    make-small i e = (subst (Ordered g s.done) (drop-at events place (v.Make i) e) s.ordered).0

    -- an operator that comes next
    pub record Next (i : ℕ) (op : Op) : Type 0 where
      pub small : i < length g.ops
      pub first : standing pool h (kept_input ts (first_input op)) ≡ input_table R TS (first_input op)
      pub second : standing pool h (kept_input ts (second_input op)) ≡ input_table R TS (second_input op)
      pub fit : FitsIn g.ops i op
      pub behind : Ordered g (s.done ++ i ∷ []) (drop (suc place) events)

    pub next-op : (i : OpId) (op : Op) → slice_get events place ≡ Some (v.Make i) → slice_get g.ops i.0 ≡ Some op → Next i.0 op
    next-op i op e f =
        let o = subst (Ordered g s.done) (drop-at events place (v.Make i) e) s.ordered in
        let reads : (k : ℕ) → reads_op k op ≡ true → uses g.ops k (v.Make i) ≡ true = λ k u. ap (reads_with k) f ∙ u in
        record {
          small = o.0;
          first = input-stands (first_input op) (λ k u l. let w = reads k (ap (λ b. b || is_input k (second_input op)) u) in (o.1 k l w, used-at (v.Make i) e k l w));
          second = input-stands (second_input op) (λ k u l. let w = reads k (or-second (is_input k (first_input op)) (is_input k (second_input op)) u) in (o.1 k l w, used-at (v.Make i) e k l w));
          fit = fits-in g.ops i.0 op valid f;
          behind = o.2;
        }
      where
        or-second : (a b : Bool) → b ≡ true → a || b ≡ true
        or-second true b q = refl
        or-second false b q = q

    -- the operator fits over what is kept
    pub next-fits : (i : ℕ) (op : Op) → Next i op → fits_over op (kept_input ts (first_input op)).cols (kept_input ts (second_input op)).cols ≡ true
    next-fits i op n =
        ap (λ z. fits_over op z (kept_input ts (second_input op)).cols) (ap (λ t. t.cols) n.first ∙ table-cols R g.ops (first_input op))
        ∙ ap (fits_over op (input_cols (schemas g.ops) (first_input op))) (ap (λ t. t.cols) n.second ∙ table-cols R g.ops (second_input op))
        ∙ (n.fit).over

    pub next-given : (i : ℕ) (op : Op) → slice_get g.ops i ≡ Some op → op_given (length pool) op ≡ true
    next-given i op f = op-given-later (length old) (length pool) op longer (all-at (op_given (length old)) g.ops i op over.given f)

    pub next-kind : (i : ℕ) (op : Op) → slice_get g.ops i ≡ Some op → is_constructor op ≡ false
    next-kind i op f = turned (is_constructor op) (all-at (λ op. not (is_constructor op)) g.ops i op over.makes f)
      where
        turned : (b : Bool) → not b ≡ true → b ≡ false
        turned true e = absurd (false≢true e)
        turned false e = refl

    pub trees-now : trees_given (length pool) h ≡ true
    trees-now = trees_given_later old pool s.grown h over.trees

    pub names-now : AreGiven pool h.docs
    names-now = names_later old pool h s.grown over.trees over.names

    -- its table over what is kept is the plan's
    next-table : (i : ℕ) (op : Op) → slice_get g.ops i ≡ Some op → Next i op → op_table pool h op (kept_input ts (first_input op)) (kept_input ts (second_input op)) ≡ slice_index_or TS i no_table
    next-table i op f n =
        ap (λ z. table_over (rules_in pool h) op z (standing pool h (kept_input ts (second_input op)))) n.first
        ∙ ap (table_over (rules_in pool h) op (input_table R TS (first_input op))) n.second
        ∙ table-later old pool h op (input_table R TS (first_input op)) (input_table R TS (second_input op)) s.grown over.trees over.names (all-at (op_given (length old)) g.ops i op over.given f)
        ∙ sym (table-is R g.ops i op f n.fit)

    pub next-demand : (i : OpId) (op : Op) → slice_get g.ops i.0 ≡ Some op → Next i.0 op → demand_in pool h op (kept_input ts (first_input op)) (kept_input ts (second_input op)) ≡ demand_at R g.ops TS i
    next-demand i op f n = ap (demand_of (rules_in pool h) op) (next-table i.0 op f n) ∙ ap (λ z. demand_with R z (table_at TS i)) (sym f)

    same-docs : documents_in pool h ≡ docs
    same-docs = (grown_pool_keeps old pool s.grown).documents h over.names over.trees

    pub next-notes : (i : OpId) (op : Op) → slice_get g.ops i.0 ≡ Some op → Next i.0 op → op_notes (documents_in pool h) op (standing pool h (kept_input ts (first_input op))) ≡ notes_at R docs g.ops TS i
    next-notes i op f n =
        ap (λ z. op_notes z op (standing pool h (kept_input ts (first_input op)))) same-docs ∙ ap (op_notes docs op) n.first ∙ ap (notes_with R docs TS) (sym f)

    pub next-tallies : (i : OpId) (op : Op) → slice_get g.ops i.0 ≡ Some op → Next i.0 op → op_tallies (documents_in pool h) op (standing pool h (kept_input ts (first_input op))) ≡ tallies_at R docs g.ops TS i
    next-tallies i op f n =
        ap (λ z. op_tallies z op (standing pool h (kept_input ts (first_input op)))) same-docs ∙ ap (op_tallies docs op) n.first ∙ ap (tallies_with R docs TS) (sym f)

    -- one more operator in the course
    ids-more : (i : ℕ) → ids (s.done ++ i ∷ []) ≡ ids s.done ++ id_of i ∷ []
    ids-more i = map-append id_of s.done (i ∷ [])

    one-flat : {Y : Type 0} (F : OpId → List Y) (i : ℕ) → flat_map F (ids (s.done ++ i ∷ [])) ≡ flat_map F (ids s.done) ++ F (id_of i)
    one-flat F i = ap (flat_map F) (ids-more i) ∙ flat-append F (ids s.done) (id_of i ∷ []) ∙ ap (λ z. flat_map F (ids s.done) ++ z) (to-none (F (id_of i)))

    -- the operator that passes the limit
    pub too-large : (i : OpId) → slice_get events place ≡ Some (v.Make i) → row_limit < demand_at R g.ops TS i
        → (beyond R g.ops TS (evaluated TS events) ≡ Some (i, demand_at R g.ops TS i)) × (flat_map (notes_at R docs g.ops TS) (begun R g.ops TS (evaluated TS events)) ≡ flat_map (notes_at R docs g.ops TS) (ids s.done) ++ notes_at R docs g.ops TS i)
    too-large i e l =
        let rest = evaluated TS (drop (suc place) events) in
        let course : evaluated TS events ≡ ids s.done ++ i ∷ rest = s.course ∙ ap (λ z. ids s.done ++ evaluated TS z) (drop-at events place (v.Make i) e) in
        let test : nat_lt row_limit (demand_at R g.ops TS i) ≡ true = lt-ltb row_limit (demand_at R g.ops TS i) l in
        let F = notes_at R docs g.ops TS in (
          ap (beyond R g.ops TS) course ∙ beyond-append R g.ops TS (ids s.done) (i ∷ rest) s.fine ∙ ap (λ b. cond b (Some (i, demand_at R g.ops TS i)) (beyond R g.ops TS rest)) test,
          ap (flat_map F) (ap (begun R g.ops TS) course ∙ begun-append R g.ops TS (ids s.done) (i ∷ rest) s.fine ∙ ap (λ b. ids s.done ++ i ∷ cond b [] (begun R g.ops TS rest)) test)
              ∙ flat-append F (ids s.done) (i ∷ []) ∙ ap (λ z. flat_map F (ids s.done) ++ z) (to-none (F i)),
        )

    -- after an operator
    pub after-make : (i : OpId) (op : Op) (new : List Text) (t : Table Item) (us vs : Tables) (after' : Account) (told' : List StepTally) → slice_get events place ≡ Some (v.Make i) → slice_get g.ops i.0 ≡ Some op
        → Made pool new h op (kept_input ts (first_input op)) (kept_input ts (second_input op)) t → take (length pool) new ≡ pool → take (length old) new ≡ old
        → us ≡ set ts i.0 t → vs ≡ released_at g.ops place last (v.Make i) us
        → AppendsAll after.notes after'.notes (op_notes (documents_in pool h) op (standing pool h (kept_input ts (first_input op)))) → after'.may_refuse ≡ after.may_refuse
        → told' ≡ told ++ op_tallies (documents_in pool h) op (standing pool h (kept_input ts (first_input op)))
        → Running old h g events last before after' told0 (suc place) new vs told'
    after-make i op new t us vs after' told' e f made later grown' u q notes refuses' tallies =
        let n = next-op i op e f in
        let trees' = trees-later in
        let keeps = subst (KeepsMost place last us) (sym q) (release-at g.ops place last (v.Make i) us) in
        let inside : i.0 < length ts = let m = s.many in let l = n.small in omega (arith, m, l) in
        let next = drop-at events place (v.Make i) e in
        let within : nat_lt row_limit (demand_at R g.ops TS i) ≡ false = let d = next-demand i op f n in let w = made.few in not-beyond (demand_at R g.ops TS i) (omega (arith, d, w)) in
        record {
          grown = grown';
          within = let z = slice_get_within events place (v.Make i) e in omega (arith, z);
          many = keeps.many ∙ ap length u ∙ length-set ts i.0 t ∙ s.many;
          rows = λ k. elim (keeps.each k) [
            | inl x ↦ subst (λ z. RowsGiven new h z.rows) (sym x) (put-rows inside k (nat_eq i.0 k) refl)
            | inr x ↦ subst (λ z. RowsGiven new h z.rows) (sym x.0) tt
          ];
          few = λ k. elim (keeps.each k) [
            | inl x ↦ subst (λ z. length z.rows ≤ row_limit) (sym x) (put-few inside k (nat_eq i.0 k) refl)
            | inr x ↦ subst (λ z. length z.rows ≤ row_limit) (sym x.0) (omega arith)
          ];
          done = s.done ++ i.0 ∷ [];
          stands = λ k there l. elim (keeps.each k) [
            | inl x ↦ ap (standing new h) x ∙ put-stands n inside k there (omega (arith, l)) (nat_eq i.0 k) refl
            | inr x ↦ absurd (let y = x.1 in omega (arith, l, y))
          ];
          ordered = n.behind;
          course = s.course ∙ ap (λ z. ids s.done ++ evaluated TS z) next ∙ sym (append-assoc (ids s.done) (i ∷ []) (evaluated TS (drop (suc place) events))) ∙ ap (λ z. z ++ evaluated TS (drop (suc place) events)) (sym (ids-more i.0));
          fine = ap (beyond R g.ops TS) (ids-more i.0) ∙ beyond-append R g.ops TS (ids s.done) (i ∷ []) s.fine ∙ ap (λ b. cond b (Some (i, demand_at R g.ops TS i)) None) within;
          noted = subst (AppendsAll before.notes after'.notes) (ap (λ z. flat_map (notes_at R docs g.ops TS) (ids s.done) ++ z) (next-notes i op f n) ∙ sym (one-flat (notes_at R docs g.ops TS) i.0)) (appended-both before.notes after.notes after'.notes (flat_map (notes_at R docs g.ops TS) (ids s.done)) (op_notes (documents_in pool h) op (standing pool h (kept_input ts (first_input op)))) s.noted notes);
          counted =
              tallies ∙ ap (λ z. z ++ op_tallies (documents_in pool h) op (standing pool h (kept_input ts (first_input op)))) s.counted
              ∙ append-assoc told0 (flat_map (tallies_at R docs g.ops TS) (ids s.done)) (op_tallies (documents_in pool h) op (standing pool h (kept_input ts (first_input op))))
              ∙ ap (λ z. told0 ++ (flat_map (tallies_at R docs g.ops TS) (ids s.done) ++ z)) (next-tallies i op f n)
              ∙ ap (λ z. told0 ++ z) (sym (one-flat (tallies_at R docs g.ops TS) i.0));
          answer = s.answer ∙ ap (λ z. answer_from R TS (tests z) g.root) next;
          refuses = refuses' ∙ s.refuses;
        }
      where
        not-beyond : (d : ℕ) → d ≤ row_limit → nat_lt row_limit d ≡ false
        not-beyond d l = grind (arith, nat_tests)

        trees-later : trees_given (length pool) h ≡ true
        trees-later = trees_given_later old pool s.grown h over.trees

        put-at : i.0 < length ts → (k : ℕ) → nat_eq i.0 k ≡ true → at us k ≡ t
        put-at l k b = ap (λ z. at z k) u ∙ ap (λ z. at (set ts i.0 t) z) (sym (eqb-true i.0 k b)) ∙ index-set-same ts i.0 t no_table l

        put-other : (k : ℕ) → nat_eq i.0 k ≡ false → at us k ≡ at ts k
        put-other k b = ap (λ z. at z k) u ∙ index-set-other ts i.0 k t no_table (λ r. false≢true (sym b ∙ ap (nat_eq i.0) (sym r) ∙ self i.0))
          where
            self : (n : ℕ) → nat_eq n n ≡ true
            self n = grind (arith, nat_tests)

        put-rows : i.0 < length ts → (k : ℕ) (b : Bool) → nat_eq i.0 k ≡ b → RowsGiven new h (at us k).rows
        put-rows l k true b = subst (λ z. RowsGiven new h z.rows) (sym (put-at l k b)) made.given
        put-rows l k false b = subst (λ z. RowsGiven new h z.rows) (sym (put-other k b)) (rows_given_later pool new h later trees-later (at ts k).rows (s.rows k))

        put-few : i.0 < length ts → (k : ℕ) (b : Bool) → nat_eq i.0 k ≡ b → length (at us k).rows ≤ row_limit
        put-few l k true b = subst (λ z. length z.rows ≤ row_limit) (sym (put-at l k b)) made.rows_few
        put-few l k false b = subst (λ z. length z.rows ≤ row_limit) (sym (put-other k b)) (s.few k)

        put-stands : Next i.0 op → i.0 < length ts → (k : ℕ) → In k (s.done ++ i.0 ∷ []) → place ≤ get_or last k 0 → (b : Bool) → nat_eq i.0 k ≡ b → standing new h (at us k) ≡ slice_index_or TS k no_table
        put-stands n l k there w true b = ap (standing new h) (put-at l k b) ∙ made.table ∙ next-table i.0 op f n ∙ ap (λ z. slice_index_or TS z no_table) (eqb-true i.0 k b)
        put-stands n l k there w false b =
            let known : In k s.done = elim (in-parts k s.done (i.0 ∷ []) there) [
              | inl x ↦ x
              | inr x ↦ elim x [ inl y ↦ absurd (false≢true (sym b ∙ ap (nat_eq i.0) y ∙ self i.0)) | inr y ↦ absurd y ]
            ] in
            ap (standing new h) (put-other k b) ∙ standing-later pool new h (at ts k) later trees-later (s.rows k) ∙ s.stands k known w
          where
            self : (n : ℕ) → nat_eq n n ≡ true
            self n = grind (arith, nat_tests)

    -- after a check without a row
    test-table : (c : Check) → slice_get events place ≡ Some (v.Test c) → standing pool h (kept_input ts (Some c.op)) ≡ table_at TS c.op
    test-table c e =
        let o = subst (Ordered g s.done) (drop-at events place (v.Test c) e) s.ordered in
        input-stands (Some c.op) (λ k u l. (o.0 k l u, used-at (v.Test c) e k l u))

    same-height : (c : Check) → slice_get events place ≡ Some (v.Test c) → length (table_at TS c.op).rows ≡ length (kept_input ts (Some c.op)).rows
    same-height c e = ap (λ z. length z.rows) (sym (test-table c e)) ∙ map-length (meanings pool h) (kept_input ts (Some c.op)).rows

    pub after-test : (c : Check) (us : Tables) → slice_get events place ≡ Some (v.Test c) → length (kept_input ts (Some c.op)).rows ≤ 0 → us ≡ released_at g.ops place last (v.Test c) ts → Running old h g events last before after told0 (suc place) pool us told
    after-test c us e none q =
        let next = drop-at events place (v.Test c) e in
        let o = subst (Ordered g s.done) next s.ordered in
        let keeps = subst (KeepsMost place last ts) (sym q) (release-at g.ops place last (v.Test c) ts) in
        let empty : nat_lt 0 (length (table_at TS c.op).rows) ≡ false = let w = same-height c e in no-row (length (table_at TS c.op).rows) (omega (arith, w, none)) in
        record {
          grown = s.grown;
          within = let z = slice_get_within events place (v.Test c) e in omega (arith, z);
          many = keeps.many ∙ s.many;
          rows = λ k. elim (keeps.each k) [
            | inl x ↦ subst (λ z. RowsGiven pool h z.rows) (sym x) (s.rows k)
            | inr x ↦ subst (λ z. RowsGiven pool h z.rows) (sym x.0) tt
          ];
          few = λ k. elim (keeps.each k) [
            | inl x ↦ subst (λ z. length z.rows ≤ row_limit) (sym x) (s.few k)
            | inr x ↦ subst (λ z. length z.rows ≤ row_limit) (sym x.0) (omega arith)
          ];
          done = s.done;
          stands = λ k there l. elim (keeps.each k) [
            | inl x ↦ ap (standing pool h) x ∙ s.stands k there (omega (arith, l))
            | inr x ↦ absurd (let y = x.1 in omega (arith, l, y))
          ];
          ordered = o.1;
          course = s.course ∙ ap (λ z. ids s.done ++ evaluated TS z) next ∙ ap (λ b. ids s.done ++ cond b [] (evaluated TS (drop (suc place) events))) empty;
          fine = s.fine;
          noted = s.noted;
          counted = s.counted;
          answer = s.answer ∙ ap (λ z. answer_from R TS (tests z) g.root) next ∙ ap (λ b. cond b (Refuses c.code c.offset) (answer_from R TS (tests (drop (suc place) events)) g.root)) empty;
          refuses = s.refuses;
        }
      where
        no-row : (n : ℕ) → n ≤ 0 → nat_lt 0 n ≡ false
        no-row n l = grind (arith, nat_tests)

    -- a check with a row
    pub at-test : (c : Check) → slice_get events place ≡ Some (v.Test c) → 0 < length (kept_input ts (Some c.op)).rows
        → (beyond R g.ops TS (evaluated TS events) ≡ None) × (plan_answer R g ≡ Refuses c.code c.offset) × (begun R g.ops TS (evaluated TS events) ≡ ids s.done)
    at-test c e some =
        let next = drop-at events place (v.Test c) e in
        let full : nat_lt 0 (length (table_at TS c.op).rows) ≡ true = let w = same-height c e in lt-ltb 0 (length (table_at TS c.op).rows) (omega (arith, w, some)) in
        let course : evaluated TS events ≡ ids s.done ++ [] = s.course ∙ ap (λ z. ids s.done ++ evaluated TS z) next ∙ ap (λ b. ids s.done ++ cond b [] (evaluated TS (drop (suc place) events))) full in (
          ap (beyond R g.ops TS) course ∙ beyond-append R g.ops TS (ids s.done) [] s.fine,
          s.answer ∙ ap (λ z. answer_from R TS (tests z) g.root) next ∙ ap (λ b. cond b (Refuses c.code c.offset) (answer_from R TS (tests (drop (suc place) events)) g.root)) full,
          ap (begun R g.ops TS) course ∙ begun-append R g.ops TS (ids s.done) [] s.fine ∙ to-none (ids s.done),
        )

    -- behind the last event
    pub at-end : length events ≤ place
        → (beyond R g.ops TS (evaluated TS events) ≡ None) × (plan_answer R g ≡ Answers (root_items R (input_table R TS g.root))) × (evaluated TS events ≡ ids s.done) × (begun R g.ops TS (evaluated TS events) ≡ ids s.done) × (standing pool h (kept_input ts g.root) ≡ input_table R TS g.root)
    at-end l =
        let rest : drop place events ≡ [] = drop-all place events l in
        let course : evaluated TS events ≡ ids s.done ++ [] = s.course ∙ ap (λ z. ids s.done ++ evaluated TS z) rest in
        let o = subst (Ordered g s.done) rest s.ordered in (
          ap (beyond R g.ops TS) course ∙ beyond-append R g.ops TS (ids s.done) [] s.fine,
          s.answer ∙ ap (λ z. answer_from R TS (tests z) g.root) rest,
          course ∙ to-none (ids s.done),
          ap (begun R g.ops TS) course ∙ begun-append R g.ops TS (ids s.done) [] s.fine ∙ to-none (ids s.done),
          input-stands g.root (λ k u w. (o k w u, root-used k w u)),
        )
      where
        root-used : (k : ℕ) → k < length g.ops → is_input k g.root ≡ true → place ≤ get_or last k 0
        root-used k w u = let r = last_uses.root_used k w u in place-within r
          where
            place-within : length events ≤ get_or last k 0 → place ≤ get_or last k 0
            place-within r = let p = s.within in omega (arith, r, p)

    -- what is answered and noted then
    pub ends : events ≡ events_of g → length events ≤ place → RunGives old pool h g ts told0 told (Ok tt) × AppendsAll before.notes after.notes (notes_in old h g)
    ends e l =
        let r = at-end l in
        let F = tallies_at R docs g.ops TS in
        let N = notes_at R docs g.ops TS in (
          (
            ap (λ z. beyond R g.ops TS (evaluated TS z)) (sym e) ∙ r.0,
            r.1,
            s.counted ∙ ap (λ z. told0 ++ flat_map F z) (sym r.2) ∙ ap (λ z. told0 ++ flat_map F (evaluated TS z)) e,
            record { stands = r.4; given = input-rows g.root; few = input-few g.root },
          ),
          subst (AppendsAll before.notes after.notes) (ap (flat_map N) (sym r.3) ∙ ap (λ z. flat_map N (begun R g.ops TS (evaluated TS z))) e) s.noted,
        )

    pub fails : (c : Check) → events ≡ events_of g → slice_get events place ≡ Some (v.Test c) → 0 < length (kept_input ts (Some c.op)).rows
        → ((beyond_in old h g ≡ None) × (plan_answer R g ≡ Refuses c.code c.offset)) × AppendsAll before.notes after.notes (notes_in old h g)
    fails c e f some =
        let r = at-test c f some in
        let N = notes_at R docs g.ops TS in (
          (ap (λ z. beyond R g.ops TS (evaluated TS z)) (sym e) ∙ r.0, r.1),
          subst (AppendsAll before.notes after.notes) (ap (flat_map N) (sym r.2) ∙ ap (λ z. flat_map N (begun R g.ops TS (evaluated TS z))) e) s.noted,
        )

    pub stops : (i : OpId) (op : Op) (rows : ℕ) (after' : Account) → events ≡ events_of g → slice_get events place ≡ Some (v.Make i) → slice_get g.ops i.0 ≡ Some op
        → rows ≡ demand_in pool h op (kept_input ts (first_input op)) (kept_input ts (second_input op)) → row_limit < rows
        → AppendsAll after.notes after'.notes (op_notes (documents_in pool h) op (standing pool h (kept_input ts (first_input op))))
        → (beyond_in old h g ≡ Some (i, rows)) × AppendsAll before.notes after'.notes (notes_in old h g)
    stops i op rows after' e f o many large notes =
        let n = next-op i op f o in
        let d : rows ≡ demand_at R g.ops TS i = many ∙ next-demand i op o n in
        let r = too-large i f (subst (λ z. row_limit < z) d large) in
        let N = notes_at R docs g.ops TS in (
          ap (λ z. beyond R g.ops TS (evaluated TS z)) (sym e) ∙ r.0 ∙ ap (λ z. Some (i, z)) (sym d),
          subst (AppendsAll before.notes after'.notes)
              (ap (λ z. flat_map N (ids s.done) ++ z) (next-notes i op o n) ∙ sym r.1 ∙ ap (λ z. flat_map N (begun R g.ops TS (evaluated TS z))) e)
              (appended-both before.notes after.notes after'.notes (flat_map N (ids s.done)) (op_notes (documents_in pool h) op (standing pool h (kept_input ts (first_input op)))) s.noted notes),
        )

    -- what a call of an operator's evaluation is asked and gives, where these are its inputs
    pub call-fits : (i : OpId) (op : Op) (l r : Table Item) → slice_get events place ≡ Some (v.Make i) → slice_get g.ops i.0 ≡ Some op → l ≡ kept_input ts (first_input op) → r ≡ kept_input ts (second_input op) → fits_over op l.cols r.cols ≡ true
    call-fits i op l r e f p q = ap (λ z. fits_over op z.cols r.cols) p ∙ ap (λ z. fits_over op (kept_input ts (first_input op)).cols z.cols) q ∙ next-fits i.0 op (next-op i op e f)

    pub call-made : (i : OpId) (op : Op) (l r : Table Item) (new : List Text) (t : Table Item) (us vs : Tables) (after' : Account) (told' : List StepTally) (n : ℕ) → slice_get events place ≡ Some (v.Make i) → slice_get g.ops i.0 ≡ Some op
        → l ≡ kept_input ts (first_input op) → r ≡ kept_input ts (second_input op) → Made pool new h op l r t → take (length pool) new ≡ pool → us ≡ set ts i.0 t → vs ≡ released_at g.ops place last (v.Make i) us
        → AppendsAll after.notes after'.notes (op_notes (documents_in pool h) op (standing pool h l)) → after'.may_refuse ≡ after.may_refuse → told' ≡ told ++ op_tallies (documents_in pool h) op (standing pool h l) → n ≡ suc place
        → Running old h g events last before after' told0 n new vs told'
    call-made i op l r new t us vs after' told' n e f p q made later u w notes refuses' tallies k =
        subst (λ m. Running old h g events last before after' told0 m new vs told') (sym k)
        (after-make i op new t us vs after' told' e f
        (subst (λ z. Made pool new h op (kept_input ts (first_input op)) z t) q (subst (λ z. Made pool new h op z r t) p made))
        later (keeps_on old pool new s.grown later) u w
        (subst (λ z. AppendsAll after.notes after'.notes (op_notes (documents_in pool h) op (standing pool h z))) p notes) refuses'
        (tallies ∙ ap (λ z. told ++ op_tallies (documents_in pool h) op (standing pool h z)) p))

    pub call-fails : (i : OpId) (op : Op) (l r : Table Item) (new : List Text) (us : Tables) (after' : Account) (told' : List StepTally) (fault : EvalFault) → events ≡ events_of g → slice_get events place ≡ Some (v.Make i) → slice_get g.ops i.0 ≡ Some op
        → l ≡ kept_input ts (first_input op) → r ≡ kept_input ts (second_input op) → MakesOp pool new h i op l r (Err fault) → NotesOp pool h op l after.notes after'.notes (Err fault)
        → RunGives old new h g us told0 told' (Err fault) × UnlessWant {T = Unit} (Err fault) (AppendsAll before.notes after'.notes (notes_in old h g))
    call-fails i op l r new us after' told' (fault'.Dynamic code offset) b e f p q made notes = absurd made
    call-fails i op l r new us after' told' (fault'.TableLimit at' rows) b e f p q made notes =
        let many = made.1 ∙ ap (λ z. demand_in pool h op z r) p ∙ ap (demand_in pool h op (kept_input ts (first_input op))) q in
        let x = stops i op rows after' b e f many made.2 (subst (λ z. AppendsAll after.notes after'.notes (op_notes (documents_in pool h) op (standing pool h z))) p notes) in
        (x.0 ∙ ap (λ z. Some (z, rows)) (sym made.0), x.1)
    call-fails i op l r new us after' told' fault'.NoMemory b e f p q made notes = (tt, tt)

    pub call-tests : (c : Check) (t : Table Item) (us : Tables) (n : ℕ) → slice_get events place ≡ Some (v.Test c) → t ≡ kept_input ts (Some c.op) → length t.rows ≤ 0 → us ≡ released_at g.ops place last (v.Test c) ts → n ≡ suc place → Running old h g events last before after told0 n pool us told
    call-tests c t us n e p none q k = subst (λ m. Running old h g events last before after told0 m pool us told) (sym k) (after-test c us e (subst (λ z. length z.rows ≤ 0) p none) q)

-- ---- before the first event

take-all : {X : Type 0} (xs : List X) → take (length xs) xs ≡ xs
take-all [] = refl
take-all (x ∷ xs) = ap (λ z. x ∷ z) (take-all xs)

drop-none : {X : Type 0} (xs : List X) → drop 0 xs ≡ xs
drop-none [] = refl
drop-none (x ∷ xs) = refl

tests-behind : (ps : List ℕ) (es : List Event) → tests (map make_event ps ++ es) ≡ tests es
tests-behind [] es = refl
tests-behind (p ∷ ps) es = tests-behind ps es

tests-are : (turns : List ℕ) (turn : ℕ) (checks : List Check) → tests (events_from turns turn checks) ≡ checks
tests-are turns turn [] = ap tests (sym (to-none (makes_at turns turn))) ∙ tests-behind (places_of (nat_eq turn) 0 turns) []
tests-are turns turn (c ∷ cs) = tests-behind (places_of (nat_eq turn) 0 turns) (v.Test c ∷ events_from turns (suc turn) cs) ∙ ap (λ z. c ∷ z) (tests-are turns (suc turn) cs)

pub run-begins : (old : List Text) (h : Holdings) (g : Graph) (events : List Event) (last : List ℕ) (reads : Account) (told : List StepTally) (ts : Tables) → is_valid g.ops ≡ true → events ≡ events_of g → AreEmpty (length g.ops) ts → Running old h g events last reads reads told 0 old ts told
run-begins old h g events last reads told ts valid e empty = record {
  grown = take-all old;
  within = omega arith;
  many = empty.many;
  rows = λ k. subst (λ z. RowsGiven old h z.rows) (sym (empty.none k)) tt;
  few = λ k. subst (λ z. length z.rows ≤ row_limit) (sym (empty.none k)) (omega arith);
  done = [];
  stands = λ k there l. absurd there;
  ordered = subst (Ordered g []) (sym (drop-none events ∙ e)) (events-ordered g valid);
  course = ap (evaluated (tables_in old h g)) (sym (drop-none events));
  fine = refl;
  noted = nothing-appended reads.notes;
  counted = sym (to-none told);
  answer = ap (λ z. answer_from (rules_in old h) (tables_in old h g) z g.root) (sym (ap tests (drop-none events ∙ e) ∙ tests-are (turns_of g) 0 g.checks));
  refuses = refl;
}
