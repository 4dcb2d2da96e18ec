-- The Cores that the tests type: "a" + 1, () + 1, and (1 + "a", "a" + 1).
use Rattle.std.specs.Prelude.{ℕ, ◌≡◌, pos}
use Rattle.xq_base.specs.declared.fun.Fun.TheVariants as f
use Rattle.xq_base.specs.Atoms.{IntAtom, TextAtom}
use Rattle.doc_table.specs.Tree.{text_in}
use Rattle.core_meaning.specs.declared.node.Core.{Core}
use Rattle.core_meaning.specs.PlainCore as c
use Rattle.core_meaning.specs.PlainCore.{PlainCore}
use Rattle.core_meaning.specs.Erasure.{Texts, core_of}

abbrev pub letter : Texts → ℕ → PlainCore
letter t n = c.Lit n (TextAtom (text_in t (record { 0 = 1 })))

abbrev pub number : ℕ → PlainCore
number n = c.Lit n (IntAtom (pos 1))

abbrev pub plus : ℕ → PlainCore → PlainCore → PlainCore
plus n d e = c.Call n f.Add (c.one_core d (c.one_core e c.no_cores))

abbrev pub IsTextPlusOne : Core → Type 0
IsTextPlusOne core = (t : Texts) → core_of t core ≡ plus 0 (letter t 0) (number 6)

abbrev pub IsNothingPlusOne : Core → Type 0
IsNothingPlusOne core = (t : Texts) → core_of t core ≡ plus 0 (c.Empty 0) (number 5)

abbrev pub IsTwoSums : Core → Type 0
IsTwoSums core = (t : Texts) → core_of t core ≡ c.Seq 0 (plus 1 (number 1) (letter t 5)) (plus 10 (letter t 10) (number 16))
