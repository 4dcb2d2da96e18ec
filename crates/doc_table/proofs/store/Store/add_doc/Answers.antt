use Rattle.std.proofs.Common.{◌≡◌, ◌<◌, ◌∙◌, ◌++◌, ◌∷◌, [], List, length, false, ap, sym, subst}
use Rattle.xq_base.specs.declared.item.TextId.{TextId}
use Rattle.doc_table.specs.Tree.{Tree}
use Rattle.doc_table.specs.Limits.{size_limit}
use Rattle.doc_table.specs.Stores.{Holdings, has_doc, StoreKeeps}
use Rattle.doc_table.proofs.Finds.{ok_part, doc-keeps, kept-from}
use Rattle.doc_table.proofs.store.Store.add_doc.Goals as goal

pub invariant_of-self-2 : goal.invariant_of-self-2
invariant_of-self-2 c =
    let new : has_doc c.args.name c.self.inside.docs.items ≡ false = ap (λ (h : Holdings). has_doc c.args.name h.docs) c.self.view_is ∙ c.requires.different in
    let room : length c.self.inside.docs.items < size_limit = subst (λ (h : Holdings). length h.docs < size_limit) (sym c.self.view_is) c.requires.room in
    subst (λ (ds : List (TextId × Tree TextId)). StoreKeeps ds c.self.inside.built.entries) (sym (ok_part c.push.result c.push.new.self.items (c.self.inside.docs.items ++ (c.args.name, c.args.frag) ∷ []) c.self.inside.docs.items c.if-is_err.ensures.value c.push.ensures.items))
    (doc-keeps c.self.inside.docs.items c.self.inside.built.entries (c.args.name, c.args.frag) c.self.invariant room new (kept-from c.args.frag c.validity.ensures.sound c.validity.ensures.few) c.requires.document)
