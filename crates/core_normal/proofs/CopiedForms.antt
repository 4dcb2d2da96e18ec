-- Copies of Cores by their forms.
use Rattle.std.proofs.Common.{◌≡◌, sym, ap, ◌∙◌, ℕ, Bool, List, map, Option, None, Some}
use Rattle.xq_base.specs.declared.code.Code.{Code}
use Rattle.xq_base.specs.declared.fun.AtomKind.{AtomKind}
use Rattle.xq_base.specs.declared.fun.Fun.{Fun}
use Rattle.core_meaning.specs.declared.node.Bind.{Bind}
use Rattle.core_meaning.specs.declared.node.Bind.TheVariants as b
use Rattle.core_meaning.specs.declared.node.BuildKind.{BuildKind}
use Rattle.core_meaning.specs.declared.node.Core.{Core}
use Rattle.core_meaning.specs.declared.node.CoreKind.{CoreKind}
use Rattle.core_meaning.specs.declared.node.CoreKind.TheVariants as k
use Rattle.core_meaning.specs.declared.node.SortKey.{SortKey}
use Rattle.core_meaning.specs.declared.node.VarId.{VarId}
use Rattle.core_meaning.specs.declared.node.Bind.TheOpen as o
use Rattle.core_meaning.specs.declared.node.Bind.TheFolds.{fold-roll-Bind, fold-roll-CoreKind, fold_out-Core}
use Rattle.core_meaning.specs.declared.node.Bind.TheViews.{rolls-Bind::For, rolls-Bind::Let, rolls-Build, rolls-Cast, rolls-Castable, rolls-Call, rolls-CoreKind::For, rolls-CoreKind::Let, rolls-Empty, rolls-Fail, rolls-If, rolls-Seq, rolls-Sorted, rolls-Var, rolls-Where}
use Rattle.core_meaning.specs.Erasure.{Texts, bind_of, binds_of, core_of, cores_of, form_of, key_of, keys_of, kind_of, node_kind, node_of, plain_bind, plain_key}
use Rattle.core_meaning.specs.PlainCore.{PlainCore, PlainBind, PlainKey}
use Rattle.core_meaning.specs.PlainCore as c
use Rattle.core_normal.specs.Copying.{bind_moved, name_in}
use Rattle.core_normal.specs.Pieces.{one}
use Rattle.core_normal.specs.Shift as shift

module _ (t : Texts) where
  -- a Core by its form
  core_kind : (x : Core) (f : CoreKind) → x.kind ≡ f → core_of t x ≡ kind_of t f x.offset
  core_kind x f is = fold_out-Core PlainBind (ℕ → PlainCore) PlainCore PlainKey (bind_of t) (form_of t) (node_of t) (key_of t) x ∙ ap (λ z. kind_of t z x.offset) is

  core_empty : (x : Core) → x.kind ≡ k.Empty → core_of t x ≡ c.Empty x.offset
  core_empty x is = core_kind x k.Empty is ∙ ap (λ z. kind_of t z x.offset) (sym rolls-Empty)
      ∙ ap (λ (g : ℕ → PlainCore). g x.offset) (fold-roll-CoreKind PlainBind (ℕ → PlainCore) PlainCore PlainKey (bind_of t) (form_of t) (node_of t) (key_of t) o.Empty)

  core_seq : (x d e : Core) → x.kind ≡ k.Seq d e → core_of t x ≡ c.Seq x.offset (core_of t d) (core_of t e)
  core_seq x d e is = core_kind x (k.Seq d e) is ∙ ap (λ z. kind_of t z x.offset) (sym (rolls-Seq d e))
      ∙ ap (λ (g : ℕ → PlainCore). g x.offset) (fold-roll-CoreKind PlainBind (ℕ → PlainCore) PlainCore PlainKey (bind_of t) (form_of t) (node_of t) (key_of t) (o.Seq d e))

  core_fail : (x : Core) (n : Code) → x.kind ≡ k.Fail n → core_of t x ≡ c.Fail x.offset n
  core_fail x n is = core_kind x (k.Fail n) is ∙ ap (λ z. kind_of t z x.offset) (sym (rolls-Fail n))
      ∙ ap (λ (g : ℕ → PlainCore). g x.offset) (fold-roll-CoreKind PlainBind (ℕ → PlainCore) PlainCore PlainKey (bind_of t) (form_of t) (node_of t) (key_of t) (o.Fail n))

  core_var : (x : Core) (v : VarId) → x.kind ≡ k.Var v → core_of t x ≡ c.Var x.offset v.0
  core_var x v is = core_kind x (k.Var v) is ∙ ap (λ z. kind_of t z x.offset) (sym (rolls-Var v))
      ∙ ap (λ (g : ℕ → PlainCore). g x.offset) (fold-roll-CoreKind PlainBind (ℕ → PlainCore) PlainCore PlainKey (bind_of t) (form_of t) (node_of t) (key_of t) (o.Var v))

  core_let : (x : Core) (v : VarId) (d e : Core) → x.kind ≡ k.Let v d e → core_of t x ≡ c.Let x.offset v.0 (core_of t d) (core_of t e)
  core_let x v d e is = core_kind x (k.Let v d e) is ∙ ap (λ z. kind_of t z x.offset) (sym (rolls-CoreKind::Let v d e))
      ∙ ap (λ (g : ℕ → PlainCore). g x.offset) (fold-roll-CoreKind PlainBind (ℕ → PlainCore) PlainCore PlainKey (bind_of t) (form_of t) (node_of t) (key_of t) (o.CoreKind::Let v d e))

  core_if : (x : Core) (d e f : Core) → x.kind ≡ k.If d e f → core_of t x ≡ c.If x.offset (core_of t d) (core_of t e) (core_of t f)
  core_if x d e f is = core_kind x (k.If d e f) is ∙ ap (λ z. kind_of t z x.offset) (sym (rolls-If d e f))
      ∙ ap (λ (g : ℕ → PlainCore). g x.offset) (fold-roll-CoreKind PlainBind (ℕ → PlainCore) PlainCore PlainKey (bind_of t) (form_of t) (node_of t) (key_of t) (o.If d e f))

  core_cast : (x : Core) (d : Core) (n : AtomKind) (m : Bool) → x.kind ≡ k.Cast d n m → core_of t x ≡ c.Cast x.offset (core_of t d) n m
  core_cast x d n m is = core_kind x (k.Cast d n m) is ∙ ap (λ z. kind_of t z x.offset) (sym (rolls-Cast d n m))
      ∙ ap (λ (g : ℕ → PlainCore). g x.offset) (fold-roll-CoreKind PlainBind (ℕ → PlainCore) PlainCore PlainKey (bind_of t) (form_of t) (node_of t) (key_of t) (o.Cast d n m))

  core_castable : (x : Core) (d : Core) (n : AtomKind) (m : Bool) → x.kind ≡ k.Castable d n m → core_of t x ≡ c.Castable x.offset (core_of t d) n m
  core_castable x d n m is = core_kind x (k.Castable d n m) is ∙ ap (λ z. kind_of t z x.offset) (sym (rolls-Castable d n m))
      ∙ ap (λ (g : ℕ → PlainCore). g x.offset) (fold-roll-CoreKind PlainBind (ℕ → PlainCore) PlainCore PlainKey (bind_of t) (form_of t) (node_of t) (key_of t) (o.Castable d n m))

  core_for : (x : Core) (v w : VarId) (d e : Core) → x.kind ≡ k.For v w d e → core_of t x ≡ c.For x.offset v.0 w.0 (core_of t d) (core_of t e)
  core_for x v w d e is = core_kind x (k.For v w d e) is ∙ ap (λ z. kind_of t z x.offset) (sym (rolls-CoreKind::For v w d e))
      ∙ ap (λ (g : ℕ → PlainCore). g x.offset) (fold-roll-CoreKind PlainBind (ℕ → PlainCore) PlainCore PlainKey (bind_of t) (form_of t) (node_of t) (key_of t) (o.CoreKind::For v w d e))

  core_call : (x : Core) (f : Fun) (es : List Core) → x.kind ≡ k.Call f es → core_of t x ≡ c.Call x.offset f (cores_of (map (core_of t) es))
  core_call x f es is = core_kind x (k.Call f es) is ∙ ap (λ z. kind_of t z x.offset) (sym (rolls-Call f es))
      ∙ ap (λ (g : ℕ → PlainCore). g x.offset) (fold-roll-CoreKind PlainBind (ℕ → PlainCore) PlainCore PlainKey (bind_of t) (form_of t) (node_of t) (key_of t) (o.Call f es))

  core_sorted : (x : Core) (bs : List Bind) (ks : List SortKey) (e : Core) → x.kind ≡ k.Sorted bs ks e →
      core_of t x ≡ c.Sorted x.offset (binds_of (map (plain_bind t) bs)) (keys_of (map (plain_key t) ks)) (core_of t e)
  core_sorted x bs ks e is = core_kind x (k.Sorted bs ks e) is ∙ ap (λ z. kind_of t z x.offset) (sym (rolls-Sorted bs ks e))
      ∙ ap (λ (g : ℕ → PlainCore). g x.offset) (fold-roll-CoreKind PlainBind (ℕ → PlainCore) PlainCore PlainKey (bind_of t) (form_of t) (node_of t) (key_of t) (o.Sorted bs ks e))

  -- the fold of a constructor
  rolled_build : (place : ℕ) (what : BuildKind) (n : Option Core) (e : Core) → kind_of t (k.Build what n e) place ≡ c.Build place (node_kind what) (name_in t n) (core_of t e)
  rolled_build place what None e = ap (λ z. kind_of t z place) (sym (rolls-Build what None e))
      ∙ ap (λ (g : ℕ → PlainCore). g place) (fold-roll-CoreKind PlainBind (ℕ → PlainCore) PlainCore PlainKey (bind_of t) (form_of t) (node_of t) (key_of t) (o.Build what None e))
  rolled_build place what (Some d) e = ap (λ z. kind_of t z place) (sym (rolls-Build what (Some d) e))
      ∙ ap (λ (g : ℕ → PlainCore). g place) (fold-roll-CoreKind PlainBind (ℕ → PlainCore) PlainCore PlainKey (bind_of t) (form_of t) (node_of t) (key_of t) (o.Build what (Some d) e))

  core_build : (x : Core) (what : BuildKind) (n : Option Core) (e : Core) → x.kind ≡ k.Build what n e → core_of t x ≡ c.Build x.offset (node_kind what) (name_in t n) (core_of t e)
  core_build x what n e is = core_kind x (k.Build what n e) is ∙ rolled_build x.offset what n e

  bind_for : (x : Bind) (v w : VarId) (d : Core) → x ≡ b.For v w d → plain_bind t x ≡ c.for_bind v.0 w.0 (core_of t d)
  bind_for x v w d is = ap (plain_bind t) (is ∙ sym (rolls-Bind::For v w d)) ∙ fold-roll-Bind PlainBind (ℕ → PlainCore) PlainCore PlainKey (bind_of t) (form_of t) (node_of t) (key_of t) (o.Bind::For v w d)

  bind_let : (x : Bind) (v : VarId) (d : Core) → x ≡ b.Let v d → plain_bind t x ≡ c.let_bind v.0 (core_of t d)
  bind_let x v d is = ap (plain_bind t) (is ∙ sym (rolls-Bind::Let v d)) ∙ fold-roll-Bind PlainBind (ℕ → PlainCore) PlainCore PlainKey (bind_of t) (form_of t) (node_of t) (key_of t) (o.Bind::Let v d)

  bind_where : (x : Bind) (d : Core) → x ≡ b.Where d → plain_bind t x ≡ c.where_bind (core_of t d)
  bind_where x d is = ap (plain_bind t) (is ∙ sym (rolls-Where d)) ∙ fold-roll-Bind PlainBind (ℕ → PlainCore) PlainCore PlainKey (bind_of t) (form_of t) (node_of t) (key_of t) (o.Where d)

  module _ (base m : ℕ) where
    pub empty_form : (x r : Core) → x.kind ≡ k.Empty → core_of t r ≡ c.Empty x.offset → core_of t r ≡ shift.core base m (core_of t x)
    empty_form x r is copied = copied ∙ sym (ap (shift.core base m) (core_empty x is))

    pub seq_form : (x d d' e e' r : Core) → x.kind ≡ k.Seq d e → d' ≡ d → e' ≡ e → core_of t r ≡ shift.core base m (c.Seq x.offset (core_of t d') (core_of t e')) →
        core_of t r ≡ shift.core base m (core_of t x)
    seq_form x d d' e e' r is first second copied =
        copied ∙ ap (λ y. shift.core base m (c.Seq x.offset (core_of t y) (core_of t e'))) first ∙ ap (λ y. shift.core base m (c.Seq x.offset (core_of t d) (core_of t y))) second
        ∙ sym (ap (shift.core base m) (core_seq x d e is))

    pub where_form : (x r : Bind) (d d' e : Core) → x ≡ b.Where d → d' ≡ d → core_of t e ≡ shift.core base m (core_of t d') → plain_bind t r ≡ c.where_bind (core_of t e) →
        plain_bind t r ≡ bind_moved base m (plain_bind t x)
    where_form x r d d' e is same made copied =
        copied ∙ ap c.where_bind (made ∙ ap (λ y. shift.core base m (core_of t y)) same) ∙ sym (ap (bind_moved base m) (bind_where x d is))

    -- a copy of what a Core is
    pub said_form : (x r : Core) (y z : PlainCore) → core_of t x ≡ y → z ≡ y → core_of t r ≡ shift.core base m z → core_of t r ≡ shift.core base m (core_of t x)
    said_form x r y z is same copied = copied ∙ ap (shift.core base m) (same ∙ sym is)

    pub fail_form : (x r : Core) (n : Code) → x.kind ≡ k.Fail n → core_of t r ≡ c.Fail x.offset n → core_of t r ≡ shift.core base m (core_of t x)
    fail_form x r n is copied = copied ∙ sym (ap (shift.core base m) (core_fail x n is))

    pub var_form : (x r : Core) (v : VarId) → x.kind ≡ k.Var v → core_of t r ≡ shift.core base m (c.Var x.offset v.0) → core_of t r ≡ shift.core base m (core_of t x)
    var_form x r v is copied = copied ∙ sym (ap (shift.core base m) (core_var x v is))

    pub let_form : (x r : Core) (v : VarId) (d d' e e' : Core) → x.kind ≡ k.Let v d e → d' ≡ d → e' ≡ e → core_of t r ≡ shift.core base m (c.Let x.offset v.0 (core_of t d') (core_of t e')) → core_of t r ≡ shift.core base m (core_of t x)
    let_form x r v d d' e e' is p q copied = said_form x r _ _ (core_let x v d e is) (ap (λ y. c.Let x.offset v.0 (core_of t y) (core_of t e')) p ∙ ap (λ y. c.Let x.offset v.0 (core_of t d) (core_of t y)) q) copied

    pub if_form : (x r d d' e e' f f' : Core) → x.kind ≡ k.If d e f → d' ≡ d → e' ≡ e → f' ≡ f → core_of t r ≡ shift.core base m (c.If x.offset (core_of t d') (core_of t e') (core_of t f')) → core_of t r ≡ shift.core base m (core_of t x)
    if_form x r d d' e e' f f' is p q u copied =
        said_form x r _ _ (core_if x d e f is) (ap (λ y. c.If x.offset (core_of t y) (core_of t e') (core_of t f')) p ∙ ap (λ y. c.If x.offset (core_of t d) (core_of t y) (core_of t f')) q ∙ ap (λ y. c.If x.offset (core_of t d) (core_of t e) (core_of t y)) u) copied

    pub cast_form : (x r d d' : Core) (n : AtomKind) (o : Bool) → x.kind ≡ k.Cast d n o → d' ≡ d → core_of t r ≡ shift.core base m (c.Cast x.offset (core_of t d') n o) → core_of t r ≡ shift.core base m (core_of t x)
    cast_form x r d d' n o is p copied = said_form x r _ _ (core_cast x d n o is) (ap (λ y. c.Cast x.offset (core_of t y) n o) p) copied

    pub castable_form : (x r d d' : Core) (n : AtomKind) (o : Bool) → x.kind ≡ k.Castable d n o → d' ≡ d → core_of t r ≡ shift.core base m (c.Castable x.offset (core_of t d') n o) → core_of t r ≡ shift.core base m (core_of t x)
    castable_form x r d d' n o is p copied = said_form x r _ _ (core_castable x d n o is) (ap (λ y. c.Castable x.offset (core_of t y) n o) p) copied

    pub for_form : (x r : Core) (v w : VarId) (d d' e e' : Core) → x.kind ≡ k.For v w d e → d' ≡ d → e' ≡ e → core_of t r ≡ shift.core base m (c.For x.offset v.0 w.0 (core_of t d') (core_of t e')) → core_of t r ≡ shift.core base m (core_of t x)
    for_form x r v w d d' e e' is p q copied = said_form x r _ _ (core_for x v w d e is) (ap (λ y. c.For x.offset v.0 w.0 (core_of t y) (core_of t e')) p ∙ ap (λ y. c.For x.offset v.0 w.0 (core_of t d) (core_of t y)) q) copied

    pub call_form : (x r : Core) (f : Fun) (es es' : List Core) → x.kind ≡ k.Call f es → es' ≡ es → core_of t r ≡ shift.core base m (c.Call x.offset f (cores_of (map (core_of t) es'))) → core_of t r ≡ shift.core base m (core_of t x)
    call_form x r f es es' is p copied = said_form x r _ _ (core_call x f es is) (ap (λ l. c.Call x.offset f (cores_of (map (core_of t) l))) p) copied

    pub sorted_form : (x r : Core) (bs bs' : List Bind) (ks ks' : List SortKey) (e e' : Core) → x.kind ≡ k.Sorted bs ks e → bs' ≡ bs → ks' ≡ ks → e' ≡ e →
        core_of t r ≡ shift.core base m (c.Sorted x.offset (binds_of (map (plain_bind t) bs')) (keys_of (map (plain_key t) ks')) (core_of t e')) → core_of t r ≡ shift.core base m (core_of t x)
    sorted_form x r bs bs' ks ks' e e' is p q u copied =
        said_form x r _ _ (core_sorted x bs ks e is)
        (ap (λ l. c.Sorted x.offset (binds_of (map (plain_bind t) l)) (keys_of (map (plain_key t) ks')) (core_of t e')) p
        ∙ ap (λ l. c.Sorted x.offset (binds_of (map (plain_bind t) bs)) (keys_of (map (plain_key t) l)) (core_of t e')) q
        ∙ ap (λ y. c.Sorted x.offset (binds_of (map (plain_bind t) bs)) (keys_of (map (plain_key t) ks)) (core_of t y)) u) copied

    pub build_form : (x r : Core) (what : BuildKind) (n : Option Core) (e e' : Core) → x.kind ≡ k.Build what n e → e' ≡ e →
        core_of t r ≡ shift.core base m (c.Build x.offset (node_kind what) (name_in t n) (core_of t e')) → core_of t r ≡ shift.core base m (core_of t x)
    build_form x r what n e e' is p copied = said_form x r _ _ (core_build x what n e is) (ap (λ y. c.Build x.offset (node_kind what) (name_in t n) (core_of t y)) p) copied

    -- the same of a constructor with a name, and of one without
    pub with_name : (r : Core) (place : ℕ) (what : BuildKind) (n : Option Core) (d d' e : Core) → n ≡ Some d → d' ≡ d →
        core_of t r ≡ shift.core base m (c.Build place (node_kind what) (one (core_of t d')) (core_of t e)) → core_of t r ≡ shift.core base m (c.Build place (node_kind what) (name_in t n) (core_of t e))
    with_name r place what n d d' e is same copied =
        copied ∙ ap (λ y. shift.core base m (c.Build place (node_kind what) (one (core_of t y)) (core_of t e))) same
        ∙ sym (ap (λ y. shift.core base m (c.Build place (node_kind what) (name_in t y) (core_of t e))) is)

    pub without_name : (r : Core) (place : ℕ) (what : BuildKind) (n : Option Core) (e : Core) → n ≡ None →
        core_of t r ≡ shift.core base m (c.Build place (node_kind what) c.no_cores (core_of t e)) → core_of t r ≡ shift.core base m (c.Build place (node_kind what) (name_in t n) (core_of t e))
    without_name r place what n e is copied = copied ∙ sym (ap (λ y. shift.core base m (c.Build place (node_kind what) (name_in t y) (core_of t e))) is)

    pub for_bind_form : (x r : Bind) (v w : VarId) (d d' e : Core) → x ≡ b.For v w d → d' ≡ d → core_of t e ≡ shift.core base m (core_of t d') →
        plain_bind t r ≡ c.for_bind (shift.moved base m v.0) (shift.moved base m w.0) (core_of t e) → plain_bind t r ≡ bind_moved base m (plain_bind t x)
    for_bind_form x r v w d d' e is same made copied =
        copied ∙ ap (c.for_bind (shift.moved base m v.0) (shift.moved base m w.0)) (made ∙ ap (λ y. shift.core base m (core_of t y)) same) ∙ sym (ap (bind_moved base m) (bind_for x v w d is))

    pub let_bind_form : (x r : Bind) (v : VarId) (d d' e : Core) → x ≡ b.Let v d → d' ≡ d → core_of t e ≡ shift.core base m (core_of t d') →
        plain_bind t r ≡ c.let_bind (shift.moved base m v.0) (core_of t e) → plain_bind t r ≡ bind_moved base m (plain_bind t x)
    let_bind_form x r v d d' e is same made copied =
        copied ∙ ap (c.let_bind (shift.moved base m v.0)) (made ∙ ap (λ y. shift.core base m (core_of t y)) same) ∙ sym (ap (bind_moved base m) (bind_let x v d is))
