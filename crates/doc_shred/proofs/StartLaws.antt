-- A start tag, part after part.
use Rattle.std.proofs.Common.{◌≡◌, ℕ, zero, suc, ◌+◌, ◌≤◌, Bool, true, false, not, ◌||◌, ◌&&◌, cond, List, [], ◌∷◌, ◌++◌, map, length, Option, Some, None, slice_get, option_and_then, refl, sym, ap, ◌∙◌, arith, true≢false, length-append, codes}
use Rattle.std.specs.Str.{bytes_eq}
use Rattle.std.proofs.lemmas.Slice.Eq.{bytes_eq-Decides}
use Rattle.xq_base.specs.declared.item.TextId.{TextId}
use Rattle.doc_table.specs.Tree.{OfElement, Branch, no_more, text_in, pair_with}
use Rattle.doc_table.specs.Sound.{names_differ}
use Rattle.doc_table.specs.Spine.{Open, Spine, is_named, opened, closed, is_some_open, rows_in, text_last, put_in}
use Rattle.doc_table.proofs.SpineLaws.{rows-opened, rows-closed}
use Rattle.doc_shred.specs.Content.{Text}
use Rattle.doc_shred.specs.Parsers.{Parser, strip, need, give, repeat, ◌>>=◌, ◌>>◌}
use Rattle.doc_shred.specs.Markup.{Tag}
use Rattle.doc_shred.specs.Reading as r
use Rattle.doc_shred.specs.Walk as w
use Rattle.doc_shred.specs.Walk.{Walk, starts, step, open_node}
use Rattle.doc_shred.specs.Standing.{Texts, seen, IsLater, AttributesAdded, none_text, Walked, Starts, with_attributes}
use Rattle.doc_shred.proofs.Exact.{word_exact}
use Rattle.doc_shred.proofs.Lexical.{name_exact, name_narrow}
use Rattle.doc_shred.proofs.Spines.{text_kept, later_later, last_put, put_tags, closed_seen}

-- ---- names that differ

same_sides : (x y : Text) → bytes_eq x y ≡ bytes_eq y x
same_sides x y = by (bytes_eq x y) refl (bytes_eq y x) refl
  where
    by : (a : Bool) → bytes_eq x y ≡ a → (b : Bool) → bytes_eq y x ≡ b → a ≡ b
    by true e true f = refl
    by false e false f = refl
    by true e false f = absurd (true≢false (sym ((bytes_eq-Decides y x).1 (sym ((bytes_eq-Decides x y).0 e))) ∙ f))
    by false e true f = absurd (true≢false (sym ((bytes_eq-Decides x y).1 (sym ((bytes_eq-Decides y x).0 f))) ∙ e))

named_at_end : (n : Text) (xs : List (Text × Text)) (a : Text × Text) → is_named bytes_eq n (xs ++ a ∷ []) ≡ is_named bytes_eq n xs || bytes_eq n a.0
named_at_end n [] a = or_false (bytes_eq n a.0)
  where
    or_false : (b : Bool) → b || false ≡ b
    or_false true = refl
    or_false false = refl
named_at_end n (x ∷ xs) a = ap (λ b. bytes_eq n x.0 || b) (named_at_end n xs a) ∙ or_or (bytes_eq n x.0) (is_named bytes_eq n xs) (bytes_eq n a.0)
  where
    or_or : (a b c : Bool) → a || (b || c) ≡ (a || b) || c
    or_or true b c = refl
    or_or false b c = refl

pub differ_push : (xs : List (Text × Text)) (a : Text × Text) → names_differ bytes_eq (xs ++ a ∷ []) ≡ names_differ bytes_eq xs && not (is_named bytes_eq a.0 xs)
differ_push [] a = refl
differ_push (x ∷ xs) a =
    ap (λ b. not b && names_differ bytes_eq (xs ++ a ∷ [])) (named_at_end x.0 xs a ∙ ap (λ b. is_named bytes_eq x.0 xs || b) (same_sides x.0 a.0))
    ∙ ap (λ b. not (is_named bytes_eq x.0 xs || bytes_eq a.0 x.0) && b) (differ_push xs a)
    ∙ arrange (is_named bytes_eq x.0 xs) (bytes_eq a.0 x.0) (names_differ bytes_eq xs) (is_named bytes_eq a.0 xs)
  where
    arrange : (p q d n : Bool) → not (p || q) && (d && not n) ≡ (not p && d) && not (q || n)
    arrange true q d n = refl
    arrange false true true n = refl
    arrange false true false n = refl
    arrange false false d n = refl

-- ---- the two readings of attributes

abbrev tag_with : Text → List (Text × Text) → Bool → Tag
tag_with n found e = record { name = n; attributes = found; is_empty = e }

abbrev finish : Text → List (Text × Text) → Parser Tag
finish n found = need (names_differ bytes_eq found) >> r.tag_end >>= λ e. give (tag_with n found e)

abbrev close_tag : Text → List (Text × Text) × List ℕ → Option (Tag × List ℕ)
close_tag n x = option_and_then (λ (y : Bool × List ℕ). Some (tag_with n x.0 y.0, y.1)) (r.tag_end x.1)

not_finished : (n : Text) (found : List (Text × Text)) (from : List ℕ) → names_differ bytes_eq found ≡ false → finish n found from ≡ None
not_finished n found from e = ap (λ b. option_and_then (λ (y : Bool × List ℕ). Some (tag_with n found y.0, y.1)) (option_and_then (λ (u : Unit {0} × List ℕ). r.tag_end u.1) (cond b (Some (tt {0}, from)) None))) e

finished : (n : Text) (found : List (Text × Text)) (from : List ℕ) → names_differ bytes_eq found ≡ true → finish n found from ≡ close_tag n (found, from)
finished n found from e = ap (λ b. option_and_then (λ (y : Bool × List ℕ). Some (tag_with n found y.0, y.1)) (option_and_then (λ (u : Unit {0} × List ℕ). r.tag_end u.1) (cond b (Some (tt {0}, from)) None))) e

never : (n : Text) (k : ℕ) (found : List (Text × Text)) (from : List ℕ) → names_differ bytes_eq found ≡ false → repeat r.has_attribute r.attribute (finish n) found k from ≡ None
never n zero found from e = refl
never n (suc k) found from e = by (r.has_attribute from) (r.attribute from) (λ a rest. never n k (found ++ a ∷ []) rest (differ_push found a ∙ ap (λ b. b && not (is_named bytes_eq a.0 found)) e))
  where
    by : (b : Bool) (o : Option ((Text × Text) × List ℕ)) → ((a : Text × Text) (rest : List ℕ) → repeat r.has_attribute r.attribute (finish n) (found ++ a ∷ []) k rest ≡ None)
        → cond b (option_and_then (λ (x : (Text × Text) × List ℕ). repeat r.has_attribute r.attribute (finish n) (found ++ x.0 ∷ []) k x.1) o) (finish n found from) ≡ None
    by true None next = refl
    by true (Some x) next = next x.0 x.1
    by false o next = not_finished n found from e

both_readings : (n : Text) (k : ℕ) (found : List (Text × Text)) (from : List ℕ) → names_differ bytes_eq found ≡ true
    → repeat r.has_attribute r.attribute (finish n) found k from ≡ option_and_then (close_tag n) (w.attributes_from found k from)
unfolding w.attributes_from
both_readings n zero found from e = refl
both_readings n (suc k) found from e =
    by (r.has_attribute from) (r.attribute from)
    (λ a rest h. both_readings n k (found ++ a ∷ []) rest (differ_push found a ∙ ap (λ b. b && not (is_named bytes_eq a.0 found)) e ∙ ap not h))
    (λ a rest h. never n k (found ++ a ∷ []) rest (differ_push found a ∙ ap (λ b. b && not (is_named bytes_eq a.0 found)) e ∙ ap not h))
  where
    one : (x : (Text × Text) × List ℕ) (b : Bool) → is_named bytes_eq x.0.0 found ≡ b
        → (is_named bytes_eq x.0.0 found ≡ false → repeat r.has_attribute r.attribute (finish n) (found ++ x.0 ∷ []) k x.1 ≡ option_and_then (close_tag n) (w.attributes_from (found ++ x.0 ∷ []) k x.1))
        → (is_named bytes_eq x.0.0 found ≡ true → repeat r.has_attribute r.attribute (finish n) (found ++ x.0 ∷ []) k x.1 ≡ None)
        → repeat r.has_attribute r.attribute (finish n) (found ++ x.0 ∷ []) k x.1 ≡ option_and_then (close_tag n) (cond b None (w.attributes_from (found ++ x.0 ∷ []) k x.1))
    one x true h next none = none h
    one x false h next none = next h

    by : (b : Bool) (o : Option ((Text × Text) × List ℕ))
        → ((a : Text × Text) (rest : List ℕ) → is_named bytes_eq a.0 found ≡ false → repeat r.has_attribute r.attribute (finish n) (found ++ a ∷ []) k rest ≡ option_and_then (close_tag n) (w.attributes_from (found ++ a ∷ []) k rest))
        → ((a : Text × Text) (rest : List ℕ) → is_named bytes_eq a.0 found ≡ true → repeat r.has_attribute r.attribute (finish n) (found ++ a ∷ []) k rest ≡ None)
        → cond b (option_and_then (λ (x : (Text × Text) × List ℕ). repeat r.has_attribute r.attribute (finish n) (found ++ x.0 ∷ []) k x.1) o) (finish n found from)
        ≡ option_and_then (close_tag n) (cond b (option_and_then (λ (x : (Text × Text) × List ℕ). cond (is_named bytes_eq x.0.0 found) None (w.attributes_from (found ++ x.0 ∷ []) k x.1)) o) (Some (found, from)))
    by true None next none = refl
    by true (Some x) next none = one x (is_named bytes_eq x.0.0 found) refl (next x.0 x.1) (none x.0 x.1)
    by false o next none = finished n found from e

-- ---- the parts of a tag

pub start_parts : (bytes : List ℕ)
    → r.start bytes ≡ option_and_then (λ (a : Unit {0} × List ℕ). option_and_then (λ (b : Text × List ℕ). option_and_then (close_tag b.0) (w.attributes b.1)) (r.name a.1)) (strip (codes "<") bytes)
unfolding r.start
start_parts bytes = by (strip (codes "<") bytes)
  where
    inner : (o : Option (Text × List ℕ))
        → option_and_then (λ (b : Text × List ℕ). repeat r.has_attribute r.attribute (finish b.0) [] (length b.1 + 1) b.1) o ≡ option_and_then (λ (b : Text × List ℕ). option_and_then (close_tag b.0) (w.attributes b.1)) o
    inner None = refl
    inner (Some b) = both_readings b.0 (length b.1 + 1) [] b.1 refl

    by : (o : Option (Unit {0} × List ℕ))
        → option_and_then (λ (b : Text × List ℕ). repeat r.has_attribute r.attribute (finish b.0) [] (length b.1 + 1) b.1) (option_and_then (λ (a : Unit {0} × List ℕ). r.name a.1) o)
        ≡ option_and_then (λ (a : Unit {0} × List ℕ). option_and_then (λ (b : Text × List ℕ). option_and_then (close_tag b.0) (w.attributes b.1)) (r.name a.1)) o
    by None = refl
    by (Some a) = inner (r.name a.1)

module _ (bytes a : List ℕ) where
  pub start_no_angle : strip (codes "<") bytes ≡ None → r.start bytes ≡ None
  start_no_angle e = start_parts bytes ∙ ap (option_and_then (λ (a : Unit {0} × List ℕ). option_and_then (λ (b : Text × List ℕ). option_and_then (close_tag b.0) (w.attributes b.1)) (r.name a.1))) e

  after_angle : strip (codes "<") bytes ≡ Some (tt {0}, a) → r.start bytes ≡ option_and_then (λ (b : Text × List ℕ). option_and_then (close_tag b.0) (w.attributes b.1)) (r.name a)
  after_angle e = start_parts bytes ∙ ap (option_and_then (λ (a : Unit {0} × List ℕ). option_and_then (λ (b : Text × List ℕ). option_and_then (close_tag b.0) (w.attributes b.1)) (r.name a.1))) e

  pub start_no_name : strip (codes "<") bytes ≡ Some (tt {0}, a) → r.name a ≡ None → r.start bytes ≡ None
  start_no_name e f = after_angle e ∙ ap (option_and_then (λ (b : Text × List ℕ). option_and_then (close_tag b.0) (w.attributes b.1))) f

  module _ (n : Text) (b : List ℕ) (e : strip (codes "<") bytes ≡ Some (tt {0}, a)) (f : r.name a ≡ Some (n, b)) where
    after_name : r.start bytes ≡ option_and_then (close_tag n) (w.attributes b)
    after_name = after_angle e ∙ ap (option_and_then (λ (b : Text × List ℕ). option_and_then (close_tag b.0) (w.attributes b.1))) f

    pub start_no_attributes : w.attributes b ≡ None → r.start bytes ≡ None
    start_no_attributes g = after_name ∙ ap (option_and_then (close_tag n)) g

    pub start_no_end : (found : List (Text × Text)) (c : List ℕ) → w.attributes b ≡ Some (found, c) → r.tag_end c ≡ None → r.start bytes ≡ None
    start_no_end found c g h = after_name ∙ ap (option_and_then (close_tag n)) g ∙ ap (option_and_then (λ (y : Bool × List ℕ). Some (tag_with n found y.0, y.1))) h

    pub start_is : (found : List (Text × Text)) (c rest : List ℕ) (is_empty : Bool) → w.attributes b ≡ Some (found, c) → r.tag_end c ≡ Some (is_empty, rest) → r.start bytes ≡ Some (tag_with n found is_empty, rest)
    start_is found c rest is_empty g h = after_name ∙ ap (option_and_then (close_tag n)) g ∙ ap (option_and_then (λ (y : Bool × List ℕ). Some (tag_with n found y.0, y.1))) h

    pub name_narrows : length b ≤ length bytes
    name_narrows = omega (arith, name_narrow a b n (name_exact.sound a (n, b) f), ap length ((word_exact (codes "<")).sound bytes (tt {0}, a) e), length-append (codes "<") a)

    -- a tag whose element stays open
    module _ (texts later : Texts) (s one two : Spine TextId) (id : TextId) (c rest : List ℕ) (none : s.root ≡ None) (inside : is_some_open s.nodes ≡ true)
        (kept : IsLater texts later) (given : slice_get texts id.0 ≡ Some n) (begun : one ≡ opened (OfElement id []) s) (added : AttributesAdded later one two b c) where
      with_all : two ≡ opened (OfElement id added.all) s
      with_all = added.added ∙ ap (with_attributes added.all) begun

      name_is : (final : Texts) → IsLater later final → text_in final id ≡ n
      name_is final k = text_kept texts final id n given (later_later texts later final kept k)

      pub started : (names after : List Text) → after ≡ n ∷ names → r.tag_end c ≡ Some (false, rest) → Walked (Starts bytes rest names after s two) later names after s two
      started names after g h = record {
        root = ap (λ (z : Spine TextId). z.root) with_all ∙ none;
        rows = omega (arith, ap rows_in with_all, rows-opened (OfElement id added.all) s);
        depth = omega (arith, ap (λ (z : Spine TextId). length z.nodes) with_all, ap length g);
        tags = ap (λ (z : Spine TextId). none_text z.nodes) with_all;
        calm = ap (λ (z : Spine TextId). text_last z.nodes) with_all;
        goes = λ final k next.
            let found : List (Text × Text) = map (pair_with (text_in final)) added.all in (
              tag_with n found false,
              start_is found c rest false (added.found final k) h,
              ap (λ z. next (n ∷ names) (open_node (OfElement z found) (seen final s))) (sym (name_is final k))
                  ∙ ap (λ z. next (n ∷ names) (seen final z)) (sym with_all) ∙ ap (λ z. next z (seen final two)) (sym g),
            );
      }

      pub added_empty : (names : List Text) (three : Spine TextId) → three ≡ closed two → r.tag_end c ≡ Some (true, rest) → Walked (Starts bytes rest names names s three) later names names s three
      added_empty names three g h =
          let shut : three ≡ closed (opened (OfElement id added.all) s) = g ∙ ap closed with_all in
          record {
            root = ap (λ (z : Spine TextId). z.root) shut ∙ at_root s.nodes inside;
            rows = omega (arith, ap rows_in shut, rows-closed (opened (OfElement id added.all) s) refl none, rows-opened (OfElement id added.all) s);
            depth = omega (arith, ap (λ (z : Spine TextId). length z.nodes) shut, at_depth s.nodes inside);
            tags = ap (λ (z : Spine TextId). none_text z.nodes) shut ∙ put_tags (Branch (OfElement id added.all) no_more) s.root s.nodes;
            calm = ap (λ (z : Spine TextId). text_last z.nodes) shut ∙ last_put (Branch (OfElement id added.all) no_more) s.root s.nodes refl;
            goes = λ final k next.
                let found : List (Text × Text) = map (pair_with (text_in final)) added.all in (
                  tag_with n found true,
                  start_is found c rest true (added.found final k) h,
                  ap (λ z. next names (w.leaf (OfElement z found) (seen final s))) (sym (name_is final k))
                      ∙ ap (next names) (sym (closed_seen final (opened (OfElement id added.all) s)))
                      ∙ ap (λ z. next names (seen final z)) (sym shut),
                );
          }
        where
          at_root : (os : List (Open TextId)) → is_some_open os ≡ true → (put_in (Branch (OfElement id added.all) no_more) s.root os).root ≡ None
          at_root [] i = absurd (true≢false (sym i))
          at_root (o ∷ os) i = none

          at_depth : (os : List (Open TextId)) → is_some_open os ≡ true → length (put_in (Branch (OfElement id added.all) no_more) s.root os).nodes ≡ length os
          at_depth [] i = absurd (true≢false (sym i))
          at_depth (o ∷ os) i = refl
