-- The numbers of declared functions, once one more is declared.
use Rattle.std.proofs.Common.{◌≡◌, refl, sym, ap, ◌∙◌, ℕ, suc, ◌+◌, length, map, Bool, true, false, cond, ◌&&◌, nat_eq, List, [], ◌∷◌, ◌++◌, Option, Some, None, arith}
use Rattle.xq_base.specs.Texts.{Text, text_eq}
use Rattle.std.proofs.lemmas.Bool.{and_parts}
use Rattle.std.specs.Cmp.Lexicographic.{pointwise}
use Rattle.core_scope.specs.declared.signatures.Declared.{Declared}
use Rattle.core_scope.specs.Held.{signature_in}
use Rattle.core_scope.specs.Names.{Signature, declared_from}
use Rattle.core_scope.proofs.Naming.{eq_from_text, pointwise_text}

abbrev or_else : Option ℕ → Option ℕ → Option ℕ
or_else None b = b
or_else (Some a) b = Some a

-- the new one has its number where none before it is the same
declared_more : (fs : List Signature) (f : Signature) (j : ℕ) (x : Text) (n : ℕ) →
    declared_from j (fs ++ f ∷ []) x n ≡ or_else (declared_from j fs x n) (cond (text_eq f.name x && nat_eq f.arity n) (Some (j + length fs)) None)
declared_more [] f j x n = let e : j ≡ j + 0 = omega arith in ap (λ z. cond (text_eq f.name x && nat_eq f.arity n) (Some z) None) e
declared_more (g ∷ gs) f j x n = at (text_eq g.name x && nat_eq g.arity n) (declared_more gs f (suc j) x n)
  where
    far : suc j + length gs ≡ j + suc (length gs)
    far = omega arith

    at : (b : Bool) → declared_from (suc j) (gs ++ f ∷ []) x n ≡ or_else (declared_from (suc j) gs x n) (cond (text_eq f.name x && nat_eq f.arity n) (Some (suc j + length gs)) None) →
        cond b (Some j) (declared_from (suc j) (gs ++ f ∷ []) x n)
        ≡ or_else (cond b (Some j) (declared_from (suc j) gs x n)) (cond (text_eq f.name x && nat_eq f.arity n) (Some (j + suc (length gs))) None)
    at true rest = refl
    at false rest = rest ∙ ap (λ z. or_else (declared_from (suc j) gs x n) (cond (text_eq f.name x && nat_eq f.arity n) (Some z) None)) far

or_none : (a : Option ℕ) → or_else a None ≡ a
or_none None = refl
or_none (Some a) = refl

-- where name and number of parameters are the same, so is what is declared
same_key : (fs : List Signature) (name x : Text) (arity n : ℕ) → (text_eq name x && nat_eq arity n) ≡ true → declared_from 0 fs x n ≡ declared_from 0 fs name arity
same_key fs name x arity n e =
    let p = and_parts (text_eq name x) (nat_eq arity n) e in
    let q : nat_eq arity n ≡ true = p.1 in
    let same : arity ≡ n = grind (arith, q) in
    ap (λ z. declared_from 0 fs z n) (sym (eq_from_text name x p.0)) ∙ ap (declared_from 0 fs name) (sym same)

abbrev signature : Text → ℕ → Signature
signature name arity = record { name = name; arity = arity }

-- a first declaration has the number of those before it
pub noted : (fs : List Signature) (name x : Text) (arity n number : ℕ) (old new : Option ℕ) → number ≡ length fs → declared_from 0 fs name arity ≡ None → old ≡ declared_from 0 fs x n →
    new ≡ cond (text_eq name x && nat_eq arity n) (Some number) old → new ≡ declared_from 0 (fs ++ signature name arity ∷ []) x n
noted fs name x arity n number old new ne none oe e =
    e ∙ at (text_eq name x && nat_eq arity n) refl ∙ sym (declared_more fs (signature name arity) 0 x n)
  where
    here : number ≡ 0 + length fs
    here = omega (arith, ne)

    at : (b : Bool) → (text_eq name x && nat_eq arity n) ≡ b → cond b (Some number) old ≡ or_else (declared_from 0 fs x n) (cond b (Some (0 + length fs)) None)
    at true p = ap (λ z. Some z) here ∙ ap (λ z. or_else z (Some (0 + length fs))) (sym (same_key fs name x arity n p ∙ none))
    at false p = oe ∙ sym (or_none (declared_from 0 fs x n))

-- a later one changes nothing
pub not_noted : (fs : List Signature) (name x : Text) (arity n j : ℕ) (old : Option ℕ) → declared_from 0 fs name arity ≡ Some j → old ≡ declared_from 0 fs x n →
    old ≡ declared_from 0 (fs ++ signature name arity ∷ []) x n
not_noted fs name x arity n j old some oe = oe ∙ at (text_eq name x && nat_eq arity n) refl ∙ sym (declared_more fs (signature name arity) 0 x n)
  where
    at : (b : Bool) → (text_eq name x && nat_eq arity n) ≡ b → declared_from 0 fs x n ≡ or_else (declared_from 0 fs x n) (cond b (Some (0 + length fs)) None)
    at true p =
        let d : declared_from 0 fs x n ≡ Some j = same_key fs name x arity n p ∙ some in
        d ∙ ap (λ z. or_else z (Some (0 + length fs))) (sym d)
    at false p = sym (or_none (declared_from 0 fs x n))

-- the same of the code's declarations
abbrev signatures : List Declared → List Signature
signatures = map signature_in

more_signatures : (ds : List Declared) (d : Declared) → signatures (ds ++ d ∷ []) ≡ signatures ds ++ signature d.name.now d.arity ∷ []
more_signatures [] d = refl
more_signatures (e ∷ es) d = ap (λ z. signature_in e ∷ z) (more_signatures es d)

declared_in : (ds es : List Declared) (d : Declared) (x : Text) (n : ℕ) → es ≡ ds ++ d ∷ [] → declared_from 0 (signatures ds ++ signature d.name.now d.arity ∷ []) x n ≡ declared_from 0 (signatures es) x n
declared_in ds es d x n e = ap (λ z. declared_from 0 z x n) (sym (ap signatures e ∙ more_signatures ds d))

pub noted_at : (before ds es : List Declared) (d : Declared) (x : Text) (n number : ℕ) (old new : Option ℕ) → ds ≡ before → es ≡ ds ++ d ∷ [] → number ≡ length (signatures before) →
    declared_from 0 (signatures ds) d.name.now d.arity ≡ None → old ≡ declared_from 0 (signatures before) x n → new ≡ cond (pointwise nat_eq d.name.now x && nat_eq d.arity n) (Some number) old →
    new ≡ declared_from 0 (signatures es) x n
noted_at before ds es d x n number old new same more ne none oe e =
    noted (signatures ds) d.name.now x d.arity n number old new (ne ∙ ap (λ z. length (signatures z)) (sym same)) none (oe ∙ ap (λ z. declared_from 0 (signatures z) x n) (sym same))
    (e ∙ ap (λ b. cond (b && nat_eq d.arity n) (Some number) old) (pointwise_text d.name.now x))
    ∙ declared_in ds es d x n more

pub not_noted_at : (before ds es : List Declared) (d : Declared) (x : Text) (n j : ℕ) (old : Option ℕ) → ds ≡ before → es ≡ ds ++ d ∷ [] →
    declared_from 0 (signatures ds) d.name.now d.arity ≡ Some j → old ≡ declared_from 0 (signatures before) x n → old ≡ declared_from 0 (signatures es) x n
not_noted_at before ds es d x n j old same more some oe =
    not_noted (signatures ds) d.name.now x d.arity n j old some (oe ∙ ap (λ z. declared_from 0 (signatures z) x n) (sym same)) ∙ declared_in ds es d x n more
