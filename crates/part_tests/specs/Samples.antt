-- The documents that the tests build.
use Rattle.std.specs.Prelude.{ℕ, [], ◌∷◌}
use Rattle.xq_base.specs.declared.item.TextId.{TextId}
use Rattle.doc_table.specs.Tree.{Tree, Forest, Branch, no_more, one_more, OfDocument, OfElement, OfText, OfComment, OfInstruction}

-- the number of a text
abbrev pub text : ℕ → TextId
text n = record { 0 = n }

-- a child without siblings
abbrev pub lone : Tree TextId → Forest TextId
lone t = one_more t no_more

-- an element without attributes that has one text
abbrev pub with_text : ℕ → ℕ → Tree TextId
with_text name value = Branch (OfElement (text name) []) (lone (Branch (OfText (text value)) no_more))

-- `<r><x><x><y/></x></x></r>`, where r, x and y have the numbers 1 to 3
abbrev pub nested : Tree TextId
nested = Branch OfDocument (lone (Branch (OfElement (text 1) []) (lone (Branch (OfElement (text 2) []) (lone (Branch (OfElement (text 2) []) (lone (Branch (OfElement (text 3) []) no_more))))))))

-- `<a x="1"><b>2</b><c/>t<b>3</b></a>`, where a, x, 1, b, 2, c, t and 3 have the numbers 1 to 8
abbrev pub mixed : Tree TextId
mixed = Branch OfDocument (lone (Branch (OfElement (text 1) ((text 2, text 3) ∷ []))
    (one_more (with_text 4 5)
    (one_more (Branch (OfElement (text 6) []) no_more)
    (one_more (Branch (OfText (text 7)) no_more)
    (lone (with_text 4 8)))))))

-- `<n n="v"><n/><!--v--><?n v?></n>`
abbrev pub of_all_kinds : TextId → TextId → Tree TextId
of_all_kinds n v = Branch OfDocument (lone (Branch (OfElement n ((n, v) ∷ []))
    (one_more (Branch (OfElement n []) no_more)
    (one_more (Branch (OfComment v) no_more)
    (lone (Branch (OfInstruction n v) no_more))))))
