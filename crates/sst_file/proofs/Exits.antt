-- A fault that is handed on.
use Rattle.std.proofs.Common.{◌≡◌, ℕ, List, sym, subst, Option, Some, None, IfSome, Result, Ok, Err, IfErr, IfOk}
use Rattle.std.specs.Prelude.{OnErr, OnOk}
use Rattle.std.specs.Result.{IsErrAnd}
use Rattle.kv_base.specs.Map.{Bytes}
use Rattle.kv_outside.specs.ToldLaws.{told_leads}
use Rattle.sst_parts.specs.declared.index.Spot.{Spot}
use Rattle.sst_parts.specs.declared.foot.Foot.{Foot}
use Rattle.sst_grammar.specs.Judging.{judged_foot, judged_index, judged_filter, judged_table}
use Rattle.sst_file.specs.Opening.{ThreeParts}
use Rattle.sst_file.specs.OpenedPartLaws.{index_to_blame, filter_to_blame}

pub err_is : {T E : Type 0} (r : Result T E) (e : E) (P : E → Type 0) → IsErrAnd r (λ f. f ≡ e) → P e → IfErr r P
err_is (Ok x) e P is p = absurd is
err_is (Err f) e P is p = subst P (sym is) p

pub on_err : {T E : Type 0} (r : Result T E) (P : Type 0) → P → OnErr r P
on_err (Ok x) P p = tt
on_err (Err e) P p = p

pub on_ok : {T E : Type 0} (r : Result T E) (P : Type 0) → P → OnOk r P
on_ok (Ok x) P p = p
on_ok (Err e) P p = tt

pub always : (held : Option Bytes) (P : Bytes → Type 0) → ((bytes : Bytes) → P bytes) → IfSome held P
always None P p = tt
always (Some bytes) P p = p bytes

pub index_leads : (held : Option Bytes) (foot : Foot) → IfSome held (λ bytes. judged_foot bytes ≡ Ok foot) → IfSome held (λ bytes. (place : ℕ) → judged_index foot bytes ≡ Err place → judged_table bytes ≡ Err place)
index_leads held foot f = told_leads (λ bytes. judged_foot bytes ≡ Ok foot) (λ bytes. (place : ℕ) → judged_index foot bytes ≡ Err place → judged_table bytes ≡ Err place) (λ bytes is place h. index_to_blame bytes foot place is h) held f

pub filter_leads : (held : Option Bytes) (foot : Foot) (spots : List Spot) → IfSome held (λ bytes. judged_foot bytes ≡ Ok foot) → IfSome held (λ bytes. judged_index foot bytes ≡ Ok spots)
    → IfSome held (λ bytes. (place : ℕ) → judged_filter foot bytes ≡ Err place → judged_table bytes ≡ Err place)
filter_leads None foot spots f i = tt
filter_leads (Some bytes) foot spots f i = λ place h. filter_to_blame bytes foot spots place f i h

pub three : (held : Option Bytes) (foot : Foot) (spots : List Spot) (bits : Bytes) → IfSome held (λ bytes. judged_foot bytes ≡ Ok foot) → IfSome held (λ bytes. judged_index foot bytes ≡ Ok spots) → IfSome held (λ bytes. judged_filter foot bytes ≡ Ok bits)
    → IfSome held (ThreeParts foot spots bits)
three None foot spots bits f i t = tt
three (Some bytes) foot spots bits f i t = record { foot_is = f; index_is = i; filter_is = t }

pub ok_then : {T E : Type 0} (r : Result T E) (P Q R : T → Type 0) → IfOk r P → IfOk r Q → ((x : T) → P x → Q x → R x) → IfOk r R
ok_then (Ok x) P Q R p q f = f x p q
ok_then (Err e) P Q R p q f = tt
