-- Hits: nodes of a fragment in iterations, ascending, each once (own rule).
use Rattle.std.specs.Prelude.{◌≡◌, Bool, true, false, ◌&&◌, ◌||◌, List, [], ◌∷◌, ◌++◌, Contains, if◌then◌else◌, Option, Some, None, nat_eq, nat_lt}
use Rattle.staircase.specs.declared.kinds.Ctx.{Ctx}
use Rattle.staircase.specs.declared.hits.Hit.{Hit}

-- by row, then by attribute, then by iteration
abbrev pub before : Ctx → Ctx → Bool
before c d = nat_lt c.pre d.pre || (nat_eq c.pre d.pre && (nat_lt c.attr d.attr || (nat_eq c.attr d.attr && nat_lt c.iter d.iter)))

abbrev pub all_after : Ctx → List Ctx → Type 0
all_after c [] = Unit {0}
all_after c (d ∷ ds) = (before c d ≡ true) × all_after c ds

-- ascending, each once
abbrev pub Ascending : List Ctx → Type 0
Ascending [] = Unit {0}
Ascending (c ∷ cs) = all_after c cs × Ascending cs

abbrev pub ctx_of : Hit → Ctx
ctx_of h = record { iter = h.iter; pre = h.pre; attr = h.attr }

abbrev pub same_hit : Hit → Hit → Bool
same_hit h k = nat_eq h.pre k.pre && (nat_eq h.attr k.attr && nat_eq h.iter k.iter)

abbrev pub is_last : Option Hit → Hit → Bool
is_last None h = false
is_last (Some k) h = same_hit k h

-- without those that are equal to the one before them
abbrev pub spread : Option Hit → List Hit → List Ctx
spread last [] = []
spread last (h ∷ hs) = (if is_last last h then [] else ctx_of h ∷ []) ++ spread (Some h) hs

-- the appended part is the gathered hits, ascending, each once
pub record AppendsHits (hits : List Hit) (old new : List Ctx) : Type 0 where
  pub more : List Ctx
  pub appended : new ≡ old ++ more
  pub ascending : Ascending more
  pub sound : (c : Ctx) → Contains more c → (h : Hit) × Contains hits h × (ctx_of h ≡ c)
  pub complete : (h : Hit) → Contains hits h → Contains more (ctx_of h)

-- the second list begins with the first
abbrev pub Extends : List Ctx → List Ctx → Type 0
Extends old new = (more : List Ctx) × (new ≡ old ++ more)
