-- Orders of numbers, of lists and of pairs, and what is made of them.
use Rattle.std.proofs.Common.{◌≡◌, ℕ, Bool, true, false, ◌&&◌, ◌||◌, List, [], ◌∷◌, refl, sym, ap, ◌∙◌, arith}
use Rattle.std.specs.Prelude.{nat_eq, nat_lt}
use Rattle.std.proofs.lemmas.Bool.Decides.{nat_tests}
use Rattle.std.proofs.lemmas.Bool.{false≢true, true≢false, eqb-true, eq-eqb, and_parts}
use Rattle.doc_table.specs.Paths.{Path, is_prefix, is_less, is_same, path_eq, path_less}
use Rattle.doc_table.specs.Places.{Place, place_eq, place_less}
use Rattle.doc_table.specs.Identity.{TreeId, DocTree, BuiltTree, tree_id_eq, tree_id_less, Node, node_eq, node_less, id_of_key, place_of, ref_eq, ref_less}
use Rattle.doc_table.specs.Ascending.{IsOrder}
use Rattle.doc_table.proofs.Marks.{is_prefix-self, is_less-turned}

-- ---- equalities that are exact

pub same-bools : (a b : Bool) → (a ≡ true → b ≡ true) → (b ≡ true → a ≡ true) → a ≡ b
same-bools true b f g = sym (f refl)
same-bools false true f g = g refl
same-bools false false f g = refl

-- a strict order over an equality that is exact
module _ {A : Type 0} (less eq : A → A → Bool) (self : (x : A) → eq x x ≡ true) (exact : (x y : A) → eq x y ≡ true → x ≡ y) (turn : (x y : A) → less x y ≡ true → less y x ≡ false)
    (third : (x y : A) → less x y ≡ false → eq x y ≡ false → less y x ≡ true) (chain : (x y z : A) → less x y ≡ true → less y z ≡ true → less x z ≡ true) where
  turned : (x y : A) → eq x y ≡ true → eq y x ≡ true
  turned x y h = ap (λ z. eq z x) (sym (exact x y h)) ∙ self x

  apart : (x y : A) → less x y ≡ true → eq x y ≡ false
  apart x y h = at (eq x y) refl
    where
      at : (b : Bool) → eq x y ≡ b → b ≡ false
      at true e = absurd (false≢true (sym (turn x y h) ∙ ap (λ z. less z x) (sym (exact x y e)) ∙ ap (less x) (exact x y e) ∙ h))
      at false e = refl

  pub exact_order : IsOrder less eq
  exact_order = record {
    eq_self = self;
    eq_turn = λ x y. same-bools (eq x y) (eq y x) (turned x y) (turned y x);
    eq_same = λ x y z h. ap (λ w. eq w z) (exact x y h);
    less_same = λ x y z h. ap (λ w. less w z) (exact x y h);
    less_turn = turn;
    less_apart = apart;
    third = third;
    chain = chain;
  }

pub numbers_order : IsOrder nat_lt nat_eq
numbers_order = exact_order nat_lt nat_eq (λ n. eq-eqb n n refl) (λ m n h. eqb-true m n h) (λ m n h. grind (arith, nat_tests)) (λ m n h k. grind (arith, nat_tests)) (λ l m n h k. grind (arith, nat_tests))

-- ---- lists of numbers

pub same-lists : (p q : List ℕ) → is_same p q ≡ true → p ≡ q
same-lists [] [] h = refl
same-lists [] (j ∷ q) h = absurd (false≢true h)
same-lists (i ∷ p) [] h = absurd (false≢true h)
same-lists (i ∷ p) (j ∷ q) h =
    let a = and_parts (nat_eq i j && is_prefix p q) (nat_eq j i && is_prefix q p) h in
    let b = and_parts (nat_eq i j) (is_prefix p q) a.0 in
    let c = and_parts (nat_eq j i) (is_prefix q p) a.1 in
    let both : is_same p q ≡ true = rw (b.1, c.1) refl in
    ap (λ z. z ∷ p) (eqb-true i j b.0) ∙ ap (λ z. j ∷ z) (same-lists p q both)

pub is_same-self : (p : List ℕ) → is_same p p ≡ true
is_same-self p = rw (is_prefix-self p) refl

third-list : (p q : List ℕ) → is_less p q ≡ false → is_same p q ≡ false → is_less q p ≡ true
third-list [] [] h k = absurd (true≢false k)
third-list [] (j ∷ q) h k = absurd (true≢false h)
third-list (i ∷ p) [] h k = refl
third-list (i ∷ p) (j ∷ q) h k = grind (arith, nat_tests, third-list p q)

chain-list : (p q r : List ℕ) → is_less p q ≡ true → is_less q r ≡ true → is_less p r ≡ true
chain-list p q [] h k = absurd (false≢true k)
chain-list [] q (l ∷ r) h k = refl
chain-list (i ∷ p) [] (l ∷ r) h k = absurd (false≢true h)
chain-list (i ∷ p) (j ∷ q) (l ∷ r) h k = grind (arith, nat_tests, chain-list p q r)

pub lists_order : IsOrder is_less is_same
lists_order = exact_order is_less is_same is_same-self same-lists is_less-turned third-list chain-list

-- ---- by one, and then by another

module _ {A B C : Type 0} (f : C → A) (g : C → B) {l e : A → A → Bool} {m d : B → B → Bool} (a : IsOrder l e) (b : IsOrder m d) where
  abbrev less_by : C → C → Bool
  less_by x y = l (f x) (f y) || (e (f x) (f y) && m (g x) (g y))

  abbrev eq_by : C → C → Bool
  eq_by x y = e (f x) (f y) && d (g x) (g y)

  by-self : (x : C) → eq_by x x ≡ true
  by-self x = rw (a.eq_self (f x), b.eq_self (g x)) refl

  by-turn : (x y : C) → eq_by x y ≡ eq_by y x
  by-turn x y = rw (a.eq_turn (f x) (f y), b.eq_turn (g x) (g y)) refl

  by-eq_same : (x y z : C) → eq_by x y ≡ true → eq_by x z ≡ eq_by y z
  by-eq_same x y z h = let r = and_parts (e (f x) (f y)) (d (g x) (g y)) h in rw (a.eq_same (f x) (f y) (f z) r.0, b.eq_same (g x) (g y) (g z) r.1) refl

  by-less_same : (x y z : C) → eq_by x y ≡ true → less_by x z ≡ less_by y z
  by-less_same x y z h = let r = and_parts (e (f x) (f y)) (d (g x) (g y)) h in rw (a.less_same (f x) (f y) (f z) r.0, a.eq_same (f x) (f y) (f z) r.0, b.less_same (g x) (g y) (g z) r.1) refl

  turn-by : (lxy exy mxy lyx eyx myx : Bool) → (lxy ≡ true → lyx ≡ false) → (lxy ≡ true → exy ≡ false) → (lyx ≡ true → eyx ≡ false) → exy ≡ eyx → (mxy ≡ true → myx ≡ false) → (lxy || (exy && mxy)) ≡ true → (lyx || (eyx && myx)) ≡ false
  turn-by true true mxy lyx eyx myx p q r s t h = absurd (true≢false (q refl))
  turn-by true false mxy true eyx myx p q r s t h = absurd (true≢false (p refl))
  turn-by true false mxy false true myx p q r s t h = absurd (false≢true s)
  turn-by true false mxy false false myx p q r s t h = refl
  turn-by false true true true eyx myx p q r s t h = absurd (true≢false (s ∙ r refl))
  turn-by false true true false true myx p q r s t h = t refl
  turn-by false true true false false myx p q r s t h = refl
  turn-by false true false lyx eyx myx p q r s t h = cc
  turn-by false false mxy lyx eyx myx p q r s t h = cc

  by-less_turn : (x y : C) → less_by x y ≡ true → less_by y x ≡ false
  by-less_turn x y h = turn-by (l (f x) (f y)) (e (f x) (f y)) (m (g x) (g y)) (l (f y) (f x)) (e (f y) (f x)) (m (g y) (g x)) (a.less_turn (f x) (f y)) (a.less_apart (f x) (f y)) (a.less_apart (f y) (f x)) (a.eq_turn (f x) (f y)) (b.less_turn (g x) (g y)) h

  apart-by : (lxy exy mxy dxy : Bool) → (lxy ≡ true → exy ≡ false) → (mxy ≡ true → dxy ≡ false) → (lxy || (exy && mxy)) ≡ true → (exy && dxy) ≡ false
  apart-by lxy false mxy dxy p q h = refl
  apart-by true true mxy dxy p q h = absurd (true≢false (p refl))
  apart-by false true true dxy p q h = q refl
  apart-by false true false dxy p q h = cc

  by-less_apart : (x y : C) → less_by x y ≡ true → eq_by x y ≡ false
  by-less_apart x y h = apart-by (l (f x) (f y)) (e (f x) (f y)) (m (g x) (g y)) (d (g x) (g y)) (a.less_apart (f x) (f y)) (b.less_apart (g x) (g y)) h

  third-by : (lxy exy mxy dxy lyx eyx myx : Bool) → (lxy ≡ false → exy ≡ false → lyx ≡ true) → exy ≡ eyx → (mxy ≡ false → dxy ≡ false → myx ≡ true) → (lxy || (exy && mxy)) ≡ false → (exy && dxy) ≡ false → (lyx || (eyx && myx)) ≡ true
  third-by true exy mxy dxy lyx eyx myx p q r h k = cc
  third-by false false mxy dxy lyx eyx myx p q r h k = rw (p refl refl) refl
  third-by false true true dxy lyx eyx myx p q r h k = cc
  third-by false true false true lyx eyx myx p q r h k = cc
  third-by false true false false true eyx myx p q r h k = refl
  third-by false true false false false eyx myx p q r h k = rw (← q, r refl refl) refl

  by-third : (x y : C) → less_by x y ≡ false → eq_by x y ≡ false → less_by y x ≡ true
  by-third x y h k = third-by (l (f x) (f y)) (e (f x) (f y)) (m (g x) (g y)) (d (g x) (g y)) (l (f y) (f x)) (e (f y) (f x)) (m (g y) (g x)) (a.third (f x) (f y)) (a.eq_turn (f x) (f y)) (b.third (g x) (g y)) h k

  or-left : (p q : Bool) → p ≡ true → p || q ≡ true
  or-left true q h = refl
  or-left false q h = cc

  by-chain : (x y z : C) → less_by x y ≡ true → less_by y z ≡ true → less_by x z ≡ true
  by-chain x y z h k = at (l (f x) (f y)) refl (l (f y) (f z)) refl h k
    where
      at : (p : Bool) → l (f x) (f y) ≡ p → (q : Bool) → l (f y) (f z) ≡ q → p || (e (f x) (f y) && m (g x) (g y)) ≡ true → q || (e (f y) (f z) && m (g y) (g z)) ≡ true → less_by x z ≡ true
      at true p true q s t = or-left (l (f x) (f z)) (e (f x) (f z) && m (g x) (g z)) (a.chain (f x) (f y) (f z) p q)
      at true p false q s t =
          let r = and_parts (e (f y) (f z)) (m (g y) (g z)) t in
          let turned : e (f z) (f y) ≡ true = a.eq_turn (f z) (f y) ∙ r.0 in
          or-left (l (f x) (f z)) (e (f x) (f z) && m (g x) (g z)) (before (f x) (f y) (f z) p r.0)
        where
          before : (u v w : A) → l u v ≡ true → e v w ≡ true → l u w ≡ true
          before u v w i j = two (l u w) refl
            where
              two : (c : Bool) → l u w ≡ c → c ≡ true
              two true n = refl
              two false n = three (e u w) refl
                where
                  three : (c : Bool) → e u w ≡ c → false ≡ true
                  three true o = absurd (false≢true (sym (a.less_apart u v i) ∙ a.eq_same u w v o ∙ a.eq_turn w v ∙ j))
                  three false o = absurd (false≢true (sym (a.less_turn u v i) ∙ a.less_same v w u j ∙ a.third u w n o))
      at false p true q s t =
          let r = and_parts (e (f x) (f y)) (m (g x) (g y)) s in
          or-left (l (f x) (f z)) (e (f x) (f z) && m (g x) (g z)) (a.less_same (f x) (f y) (f z) r.0 ∙ q)
      at false p false q s t =
          let r = and_parts (e (f x) (f y)) (m (g x) (g y)) s in
          let u = and_parts (e (f y) (f z)) (m (g y) (g z)) t in
          rw (a.eq_same (f x) (f y) (f z) r.0 ∙ u.0, b.chain (g x) (g y) (g z) r.1 u.1) (or-true (l (f x) (f z)))
        where
          or-true : (b : Bool) → b || true ≡ true
          or-true true = refl
          or-true false = refl

  pub order_by : IsOrder less_by eq_by
  order_by = record { eq_self = by-self; eq_turn = by-turn; eq_same = by-eq_same; less_same = by-less_same; less_turn = by-less_turn; less_apart = by-less_apart; third = by-third; chain = by-chain }

-- ---- paths, places, trees, nodes, references

pub paths_order : IsOrder path_less path_eq
paths_order = order_by (λ (p : Path). p.steps) (λ p. p.attr) lists_order numbers_order

pub places_order : IsOrder place_less place_eq
places_order = order_by (λ (p : Place). p.pre) (λ p. p.attr) numbers_order numbers_order

built_order : IsOrder (λ (x y : ℕ × List ℕ). nat_lt x.0 y.0 || (nat_eq x.0 y.0 && is_less x.1 y.1)) (λ x y. nat_eq x.0 y.0 && is_same x.1 y.1)
built_order = order_by (λ (p : ℕ × List ℕ). p.0) (λ p. p.1) numbers_order lists_order

pub same-ids : (i j : TreeId) → tree_id_eq i j ≡ true → i ≡ j
same-ids (DocTree m) (DocTree n) h = ap DocTree (eqb-true m n h)
same-ids (DocTree m) (BuiltTree r u) h = absurd (false≢true h)
same-ids (BuiltTree s v) (DocTree n) h = absurd (false≢true h)
same-ids (BuiltTree s v) (BuiltTree r u) h =
    let p = and_parts (nat_eq s r) (is_same v u) h in
    ap (λ z. BuiltTree z v) (eqb-true s r p.0) ∙ ap (BuiltTree r) (same-lists v u p.1)

id-self : (i : TreeId) → tree_id_eq i i ≡ true
id-self (DocTree m) = eq-eqb m m refl
id-self (BuiltTree s v) = built_order.eq_self (s, v)

id-turn : (i j : TreeId) → tree_id_less i j ≡ true → tree_id_less j i ≡ false
id-turn (DocTree m) (DocTree n) h = numbers_order.less_turn m n h
id-turn (DocTree m) (BuiltTree r u) h = refl
id-turn (BuiltTree s v) (DocTree n) h = absurd (false≢true h)
id-turn (BuiltTree s v) (BuiltTree r u) h = built_order.less_turn (s, v) (r, u) h

id-third : (i j : TreeId) → tree_id_less i j ≡ false → tree_id_eq i j ≡ false → tree_id_less j i ≡ true
id-third (DocTree m) (DocTree n) h k = numbers_order.third m n h k
id-third (DocTree m) (BuiltTree r u) h k = absurd (true≢false h)
id-third (BuiltTree s v) (DocTree n) h k = refl
id-third (BuiltTree s v) (BuiltTree r u) h k = built_order.third (s, v) (r, u) h k

id-chain : (i j k : TreeId) → tree_id_less i j ≡ true → tree_id_less j k ≡ true → tree_id_less i k ≡ true
id-chain (DocTree m) (DocTree n) (DocTree o) h k = numbers_order.chain m n o h k
id-chain (DocTree m) (DocTree n) (BuiltTree r u) h k = refl
id-chain (DocTree m) (BuiltTree r u) (DocTree o) h k = absurd (false≢true k)
id-chain (DocTree m) (BuiltTree r u) (BuiltTree q w) h k = refl
id-chain (BuiltTree s v) (DocTree n) x h k = absurd (false≢true h)
id-chain (BuiltTree s v) (BuiltTree r u) (DocTree o) h k = absurd (false≢true k)
id-chain (BuiltTree s v) (BuiltTree r u) (BuiltTree q w) h k = built_order.chain (s, v) (r, u) (q, w) h k

pub ids_order : IsOrder tree_id_less tree_id_eq
ids_order = exact_order tree_id_less tree_id_eq id-self same-ids id-turn id-third id-chain

pub nodes_order : {T : Type 0} → IsOrder (node_less {T = T}) node_eq
nodes_order {T} = order_by (λ (n : Node T). n.id) (λ n. n.path) ids_order paths_order

pub refs_order : IsOrder ref_less ref_eq
refs_order = order_by (λ r. id_of_key r.frag) place_of ids_order places_order
