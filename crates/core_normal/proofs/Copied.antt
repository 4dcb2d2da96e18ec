-- Lists of copies, and the parts of a sorted loop with their variables moved.
use Rattle.std.proofs.Common.{◌≡◌, refl, sym, ap, ◌∙◌, ℕ, zero, suc, ◌+◌, ◌<◌, ◌≤◌, Bool, List, [], ◌∷◌, ◌++◌, map, length, take, get_or, arith}
use Rattle.std.proofs.lemmas.List.{map-append, map_more}
use Rattle.xq_base.specs.declared.fun.Fun.{Fun}
use Rattle.core_meaning.specs.declared.node.Bind.{Bind}
use Rattle.core_meaning.specs.declared.node.Core.{Core}
use Rattle.core_meaning.specs.declared.node.SortKey.{SortKey}
use Rattle.core_meaning.specs.Erasure.{Texts, binds_of, core_of, cores_of, keys_of, plain_bind, plain_key}
use Rattle.core_meaning.specs.PlainCore.{PlainBind, PlainKey}
use Rattle.core_meaning.specs.PlainCore as c
use Rattle.core_normal.specs.Copying.{bind_moved, key_moved}
use Rattle.core_normal.specs.Shift as shift

-- one copy more
pub one_more : {X Y Z : Type 0} (f : Y → Z) (g : X → Z) (xs : List X) (i : ℕ) (x : X) (copies more : List Y) (y : Y) →
    i < length xs → x ≡ get_or xs i x → more ≡ copies ++ y ∷ [] → f y ≡ g x →
    map f copies ≡ map g (take i xs) → map f more ≡ map g (take (i + 1) xs)
one_more f g xs i x copies more y h is m q so =
    ap (map f) m ∙ map-append f copies (y ∷ []) ∙ ap (λ l. l ++ f y ∷ []) so ∙ ap (λ z. map g (take i xs) ++ z ∷ []) (q ∙ ap g is) ∙ sym (map_more g xs i x h)

module _ (base d : ℕ) (t : Texts) where
  pub cores_moved : (xs : List Core) → cores_of (map (λ x. shift.core base d (core_of t x)) xs) ≡ shift.cores base d (cores_of (map (core_of t) xs))
  cores_moved [] = refl
  cores_moved (x ∷ xs) = ap (c.one_core (shift.core base d (core_of t x))) (cores_moved xs)

  bind_first : (b : PlainBind) (bs : c.Binds) → c.one_bind (bind_moved base d b) (shift.binds base d bs) ≡ shift.binds base d (c.one_bind b bs)
  bind_first (c.for_bind x p a) bs = refl
  bind_first (c.let_bind x a) bs = refl
  bind_first (c.where_bind a) bs = refl

  pub binds_moved : (xs : List Bind) → binds_of (map (λ x. bind_moved base d (plain_bind t x)) xs) ≡ shift.binds base d (binds_of (map (plain_bind t) xs))
  binds_moved [] = refl
  binds_moved (x ∷ xs) = ap (c.one_bind (bind_moved base d (plain_bind t x))) (binds_moved xs) ∙ bind_first (plain_bind t x) (binds_of (map (plain_bind t) xs))

  key_first : (k : PlainKey) (ks : c.Keys) → c.one_key (key_moved base d k) (shift.keys base d ks) ≡ shift.keys base d (c.one_key k ks)
  key_first (c.key_by a g e) ks = refl

  pub keys_moved : (xs : List SortKey) → keys_of (map (λ x. key_moved base d (plain_key t x)) xs) ≡ shift.keys base d (keys_of (map (plain_key t) xs))
  keys_moved [] = refl
  keys_moved (x ∷ xs) = ap (c.one_key (key_moved base d (plain_key t x))) (keys_moved xs) ∙ key_first (plain_key t x) (keys_of (map (plain_key t) xs))

-- the forms whose parts are lists
pub call_moved : (base d : ℕ) (t : Texts) (o : ℕ) (f : Fun) (es rs : List Core) (copy : Core) →
    map (core_of t) rs ≡ map (λ y. shift.core base d (core_of t y)) es → core_of t copy ≡ c.Call o f (cores_of (map (core_of t) rs)) → core_of t copy ≡ shift.core base d (c.Call o f (cores_of (map (core_of t) es)))
call_moved base d t o f es rs copy made copied = copied ∙ ap (λ l. c.Call o f (cores_of l)) made ∙ ap (c.Call o f) (cores_moved base d t es)

pub sorted_moved : (base d : ℕ) (t : Texts) (o : ℕ) (bs rs : List Bind) (ks ls : List SortKey) (b e copy : Core) →
    map (plain_bind t) rs ≡ map (λ y. bind_moved base d (plain_bind t y)) bs → map (plain_key t) ls ≡ map (λ y. key_moved base d (plain_key t y)) ks → core_of t e ≡ shift.core base d (core_of t b) →
    core_of t copy ≡ c.Sorted o (binds_of (map (plain_bind t) rs)) (keys_of (map (plain_key t) ls)) (core_of t e) →
    core_of t copy ≡ shift.core base d (c.Sorted o (binds_of (map (plain_bind t) bs)) (keys_of (map (plain_key t) ks)) (core_of t b))
sorted_moved base d t o bs rs ks ls b e copy binds keys body copied =
    copied
    ∙ ap (λ l. c.Sorted o (binds_of l) (keys_of (map (plain_key t) ls)) (core_of t e)) binds
    ∙ ap (λ l. c.Sorted o l (keys_of (map (plain_key t) ls)) (core_of t e)) (binds_moved base d t bs)
    ∙ ap (λ l. c.Sorted o (shift.binds base d (binds_of (map (plain_bind t) bs))) (keys_of l) (core_of t e)) keys
    ∙ ap (λ l. c.Sorted o (shift.binds base d (binds_of (map (plain_bind t) bs))) l (core_of t e)) (keys_moved base d t ks)
    ∙ ap (c.Sorted o (shift.binds base d (binds_of (map (plain_bind t) bs))) (shift.keys base d (keys_of (map (plain_key t) ks)))) body

take_whole : {X : Type 0} (xs : List X) (i : ℕ) → length xs ≤ i → take i xs ≡ xs
take_whole [] zero p = refl
take_whole [] (suc i) p = refl
take_whole (x ∷ xs) zero p = absurd (omega (arith, p))
take_whole (x ∷ xs) (suc i) p = ap (λ l. x ∷ l) (take_whole xs i (omega (arith, p)))

-- all are copied
pub all_copied : {X Y Z : Type 0} (f : Y → Z) (g : X → Z) (xs : List X) (i : ℕ) (copies : List Y) → length xs ≤ i → map f copies ≡ map g (take i xs) → map f copies ≡ map g xs
all_copied f g xs i copies p so = so ∙ ap (map g) (take_whole xs i p)

-- a key that was copied, by its parts
pub key_copied : (base d : ℕ) (t : Texts) (x : SortKey) (e g v : Core) (down greatest : Bool) (copy : SortKey) → plain_key t x ≡ c.key_by (core_of t e) down greatest → g ≡ e →
    core_of t v ≡ shift.core base d (core_of t g) → plain_key t copy ≡ c.key_by (core_of t v) down greatest → plain_key t copy ≡ key_moved base d (plain_key t x)
key_copied base d t x e g v down greatest copy key same made copied =
    copied ∙ ap (λ a. c.key_by a down greatest) (made ∙ ap (λ y. shift.core base d (core_of t y)) same) ∙ sym (ap (key_moved base d) key)
