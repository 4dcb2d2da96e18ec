-- The derived order of references is document order.
use Rattle.std.proofs.Common.{◌≡◌, ◌==◌, cond, ℕ, Bool, true, false, ◌&&◌, ◌||◌, Ordering, Less, Equal, Greater, nat_cmp, is_lt, is_eq, refl, sym, ap, ◌∙◌, arith}
use Rattle.std.specs.Prelude.{nat_eq, nat_lt}
use Rattle.std.specs.Ordering.{ordering_then}
use Rattle.std.proofs.lemmas.Bool.Decides.{nat_tests}
use Rattle.xq_base.specs.declared.item.FragKey.{FragKey}
use Rattle.xq_base.specs.declared.item.FragKey.TheVariants as f
use Rattle.xq_base.specs.declared.item.NodeRef.{NodeRef}
use Rattle.doc_table.specs.Identity.{tree_id_eq, tree_id_less, id_of_key, ref_eq, ref_less}
use Rattle.doc_table.specs.DerivedOrder.{key_cmp, ref_cmp, DerivedOrder}

less-number : (m n : ℕ) → is_lt (nat_cmp m n) ≡ nat_lt m n
less-number m n = at (nat_lt m n) (m == n)
  where
    at : (b c : Bool) → is_lt (cond b Less (cond c Equal Greater)) ≡ b
    at true c = refl
    at false true = refl
    at false false = refl

same-number : (m n : ℕ) → is_eq (nat_cmp m n) ≡ nat_eq m n
same-number m n = at (nat_lt m n) refl (m == n) refl
  where
    at : (b : Bool) → nat_lt m n ≡ b → (c : Bool) → (m == n) ≡ c → is_eq (cond b Less (cond c Equal Greater)) ≡ c
    at true e true d = grind (arith, nat_tests)
    at true e false d = refl
    at false e true d = refl
    at false e false d = refl

less-then : (a b : Ordering) → is_lt (ordering_then a b) ≡ (is_lt a || (is_eq a && is_lt b))
less-then Less b = refl
less-then Equal b = refl
less-then Greater b = refl

same-then : (a b : Ordering) → is_eq (ordering_then a b) ≡ (is_eq a && is_eq b)
same-then Less b = refl
same-then Equal b = refl
same-then Greater b = refl

-- an order by two numbers
less-pair : (s r i j : ℕ) → is_lt (ordering_then (nat_cmp s r) (nat_cmp i j)) ≡ (nat_lt s r || (nat_eq s r && nat_lt i j))
less-pair s r i j = less-then (nat_cmp s r) (nat_cmp i j) ∙ rw (less-number s r, same-number s r, less-number i j) refl

same-pair : (s r i j : ℕ) → is_eq (ordering_then (nat_cmp s r) (nat_cmp i j)) ≡ (nat_eq s r && nat_eq i j)
same-pair s r i j = same-then (nat_cmp s r) (nat_cmp i j) ∙ rw (same-number s r, same-number i j) refl

one-step : (i j : ℕ) → (nat_lt i j || (nat_eq i j && false)) ≡ nat_lt i j
one-step i j = at (nat_lt i j) (nat_eq i j)
  where
    at : (b c : Bool) → (b || (c && false)) ≡ b
    at true c = refl
    at false true = refl
    at false false = refl

one-equal : (i j : ℕ) → ((nat_eq i j && true) && (nat_eq j i && true)) ≡ nat_eq i j
one-equal i j = grind (arith, nat_tests)

key-less : (k l : FragKey) → is_lt (key_cmp k l) ≡ tree_id_less (id_of_key k) (id_of_key l)
key-less (f.Doc m) (f.Doc n) = less-number m n
key-less (f.Doc m) (f.Built s i) = refl
key-less (f.Built s i) (f.Doc n) = refl
key-less (f.Built s i) (f.Built r j) = less-pair s r i j ∙ ap (λ b. nat_lt s r || (nat_eq s r && b)) (sym (one-step i j))

key-same : (k l : FragKey) → is_eq (key_cmp k l) ≡ tree_id_eq (id_of_key k) (id_of_key l)
key-same (f.Doc m) (f.Doc n) = same-number m n
key-same (f.Doc m) (f.Built s i) = refl
key-same (f.Built s i) (f.Doc n) = refl
key-same (f.Built s i) (f.Built r j) = same-pair s r i j ∙ ap (λ b. nat_eq s r && b) (sym (one-equal i j))

less : (r s : NodeRef) → is_lt (ref_cmp r s) ≡ ref_less r s
less r s =
    less-then (key_cmp r.frag s.frag) (ordering_then (nat_cmp r.pre s.pre) (nat_cmp r.attr s.attr))
    ∙ rw (key-less r.frag s.frag, key-same r.frag s.frag, less-pair r.pre s.pre r.attr s.attr) refl

same : (r s : NodeRef) → is_eq (ref_cmp r s) ≡ ref_eq r s
same r s =
    same-then (key_cmp r.frag s.frag) (ordering_then (nat_cmp r.pre s.pre) (nat_cmp r.attr s.attr))
    ∙ rw (key-same r.frag s.frag, same-pair r.pre s.pre r.attr s.attr) refl

pub derived_order : DerivedOrder
derived_order = record { key_less = key-less; key_same = key-same; less = less; same = same }
