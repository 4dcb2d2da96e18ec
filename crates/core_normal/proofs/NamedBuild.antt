-- The plain Core of a constructor with a name.
use Rattle.std.proofs.Common.{◌≡◌, ℕ, Some, sym, ap, ◌∙◌}
use Rattle.core_meaning.specs.declared.node.BuildKind.{BuildKind}
use Rattle.core_meaning.specs.declared.node.Core.{Core, roll-Core}
use Rattle.core_meaning.specs.declared.node.CoreKind.TheVariants as k
use Rattle.core_meaning.specs.declared.node.Bind.TheOpen as o
use Rattle.core_meaning.specs.declared.node.Bind.TheFolds.{fold-roll-Core, fold-roll-CoreKind}
use Rattle.core_meaning.specs.declared.node.Bind.TheViews.{rolls-Build}
use Rattle.core_meaning.specs.Erasure.{Texts, bind_of, form_of, node_of, key_of, core_of, kind_of, node_kind}
use Rattle.core_meaning.specs.PlainCore.{PlainCore, PlainBind, PlainKey}
use Rattle.core_meaning.specs.PlainCore as c
use Rattle.core_normal.specs.Pieces.{one}

pub named_build : (t : Texts) (place : ℕ) (what : BuildKind) (name content : Core) →
    core_of t (roll-Core (record { kind = k.Build what (Some name) content; offset = place })) ≡ c.Build place (node_kind what) (one (core_of t name)) (core_of t content)
named_build t place what name content =
    fold-roll-Core PlainBind (ℕ → PlainCore) PlainCore PlainKey (bind_of t) (form_of t) (node_of t) (key_of t) (record { kind = k.Build what (Some name) content; offset = place })
    ∙ ap (λ z. kind_of t z place) (sym (rolls-Build what (Some name) content))
    ∙ ap (λ (g : ℕ → PlainCore). g place) (fold-roll-CoreKind PlainBind (ℕ → PlainCore) PlainCore PlainKey (bind_of t) (form_of t) (node_of t) (key_of t) (o.Build what (Some name) content))
