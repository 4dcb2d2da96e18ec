-- From the files that were read to the answer of a call.
use Rattle.std.proofs.Common.{◌≡◌, ◌<◌, ◌+◌, ℕ, suc, List, [], ◌∷◌, ◌++◌, length, take, get_or, inl, inr, Option, Some, None, Result, Ok, Err, sym, ap, ◌∙◌, arith, append_assoc}
use Rattle.std.specs.declared.vec.Vec.{Vec}
use Rattle.std.specs.declared.alloc.Global.{Global}
use Rattle.std.proofs.lemmas.List.{take_more}
use Rattle.io_edge.specs.Shelves.{Files, Names, MayAppendName}
use Rattle.doc_table.specs.Stores.{Holdings}
use Rattle.core_meaning.specs.declared.node.Core.{Core}
use Rattle.core_meaning.specs.Erasure.{Texts}
use Rattle.doc_table.specs.NodeRules.{Docs}
use Rattle.doc_table.specs.Documents.{documents_in}
use Rattle.query_engine.specs.Answering.{IsCompiled}
use Rattle.pathfinder_run.specs.declared.status.Status.{Status}
use Rattle.pathfinder_run.specs.declared.status.Status.TheVariants as s
use Rattle.pathfinder_run.specs.Inputs.{query_limit, IsWithin, Loaded, StopsAt, RisesWith}
use Rattle.pathfinder_run.specs.Top.{AsksAll, AsksFirst, ValueGiven, Replies, NoAnswer}
use Rattle.pathfinder_run.proofs.Values.{accepted}

-- ---- the names asked for

pub asks_stop : (old mid new : Option Names) (names : Names) (k : ℕ) → k < length names → AsksAll old mid (take k names) → MayAppendName mid new (get_or names k []) → AsksFirst old new names
asks_stop None mid new names k h a m = (0, omega arith, gone mid a m)
  where
    gone : (mid : Option Names) → mid ≡ None → MayAppendName mid new (get_or names k []) → new ≡ None
    gone None e m = m
    gone (Some x) e m = cc
asks_stop (Some old) mid new names k h a m = here mid a m
  where
    here : (mid : Option Names) → mid ≡ Some (old ++ take k names) → MayAppendName mid new (get_or names k []) → AsksFirst (Some old) new names
    here None e m = cc
    here (Some x) e (inl q) = (k, omega (arith, h), q ∙ e)
    here (Some x) e (inr q) =
        let is : x ≡ old ++ take k names = cc in
        (k + 1, omega (arith, h), q ∙ ap (λ z. Some (z ++ get_or names k [] ∷ [])) is ∙ ap Some (append_assoc old (take k names) (get_or names k [] ∷ [])) ∙ ap (λ z. Some (old ++ z)) (sym (take_more names k [] h)))

pub asks_one : (old new : Option Names) (query : List ℕ) (names : Names) → AsksAll old new (query ∷ []) → AsksFirst old new (query ∷ names)
asks_one old new query names a = (1, omega arith, a)

pub asks_then : (old mid new : Option Names) (query : List ℕ) (names : Names) → AsksAll old mid (query ∷ []) → AsksFirst mid new names → AsksFirst old new (query ∷ names)
asks_then None None new query names a f = (0, omega arith, f.2)
asks_then None (Some x) new query names a f = cc
asks_then (Some old) None new query names a f = cc
asks_then (Some old) (Some x) new query names a f =
    let is : x ≡ old ++ query ∷ [] = cc in
    (suc f.0, omega (arith, f.1), f.2 ∙ ap (λ z. Some (z ++ take f.0 names)) is ∙ ap Some (append_assoc old (query ∷ []) (take f.0 names)))

-- ---- the answer

pub value_rises : (docs : Docs) (text : List ℕ) (before now : ℕ) (r : Result (Vec ℕ Global) Status) → ValueGiven docs text r → RisesWith before now r
value_rises docs text before now (Ok bytes) v = tt
value_rises docs text before now (Err s.Done) v = tt
value_rises docs text before now (Err (s.Static code place)) v = tt
value_rises docs text before now (Err (s.Dynamic code place)) v = tt
value_rises docs text before now (Err (s.DocRefused word kind)) v = tt
value_rises docs text before now (Err (s.ReadFault word)) v = absurd v
value_rises docs text before now (Err s.WriteFault) v = tt
value_rises docs text before now (Err s.Usage) v = tt
value_rises docs text before now (Err s.NoMemory) v = tt
value_rises docs text before now (Err (s.TooLarge word)) v = tt

pub replied : (files : Option Files) (query : List ℕ) (names : Names) (text : List ℕ) (texts : Names) (h : Holdings) (r : Result (Vec ℕ Global) Status) → IsWithin files query_limit query text → Loaded files names texts h → ValueGiven (documents_in texts h) text r → Replies files query names r
replied files query names text texts h (Ok bytes) read l v = record { text = text; docs = documents_in texts h; read = read; documents = l.documents; means = v }
replied files query names text texts h (Err (s.Dynamic code place)) read l v = record { text = text; docs = documents_in texts h; read = read; documents = l.documents; means = v }
replied files query names text texts h (Err s.NoMemory) read l v = tt
replied files query names text texts h (Err s.Done) read l v = absurd v
replied files query names text texts h (Err (s.Static code place)) read l v = absurd v
replied files query names text texts h (Err (s.DocRefused word kind)) read l v = absurd v
replied files query names text texts h (Err (s.ReadFault word)) read l v = absurd v
replied files query names text texts h (Err s.WriteFault) read l v = absurd v
replied files query names text texts h (Err s.Usage) read l v = absurd v
replied files query names text texts h (Err (s.TooLarge word)) read l v = absurd v

pub stopped : (files : Option Files) (query : List ℕ) (names : Names) (text : List ℕ) (texts : Texts) (q : Core) (status : Status) → IsWithin files query_limit query text → IsCompiled text texts q → StopsAt files names status → NoAnswer files query names status
stopped files query names text texts q (s.DocRefused word kind) read c st = record { text = text; read = read; accepted = accepted text texts q c; stops = st }
stopped files query names text texts q (s.ReadFault word) read c st = inr (record { text = text; read = read; accepted = accepted text texts q c; stops = st })
stopped files query names text texts q (s.TooLarge word) read c st = inr (record { text = text; read = read; accepted = accepted text texts q c; stops = st })
stopped files query names text texts q s.NoMemory read c st = tt
stopped files query names text texts q s.Done read c st = absurd st.cause
stopped files query names text texts q (s.Static code place) read c st = absurd st.cause
stopped files query names text texts q (s.Dynamic code place) read c st = absurd st.cause
stopped files query names text texts q s.WriteFault read c st = absurd st.cause
stopped files query names text texts q s.Usage read c st = absurd st.cause
