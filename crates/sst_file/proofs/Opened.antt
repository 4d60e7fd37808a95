-- The stages of an opening, each judged as it is read.
use Rattle.std.proofs.Common.{◌≡◌, ℕ, ◌+◌, ◌-◌, ◌<◌, ◌≤◌, List, refl, sym, ap, subst, ◌∙◌, Bool, true, false, cond, length, take, drop, Option, Some, None, IfSome, Result, Err, length-drop, arith}
use Rattle.std.specs.Prelude.{◌&&◌, nat_le}
use Rattle.std.proofs.lemmas.List.{take_all}
use Rattle.std.proofs.lemmas.Bool.Decides.{nat_tests}
use Rattle.kv_base.specs.Map.{Bytes, same, kept}
use Rattle.kv_base.specs.declared.name.FileName.TheVariants.{Table}
use Rattle.kv_base.specs.declared.name.TableId.{TableId}
use Rattle.kv_base.specs.declared.fault.StoreFault.{StoreFault}
use Rattle.kv_base.specs.declared.fault.StoreFault.TheVariants.{Damaged}
use Rattle.kv_outside.specs.ToldLaws.{told_leads}
use Rattle.sst_file.specs.Opening.{IsBlame}
use Rattle.sst_parts.specs.declared.foot.Foot.{Foot}
use Rattle.sst_parts.specs.declared.index.Spot.{Spot}
use Rattle.sst_parts.specs.Index.{read_block_index}
use Rattle.sst_parts.specs.Filter.{read_filter}
use Rattle.sst_parts.specs.Tables.{table_head, head_length, foot_length, read_foot, is_foot_of}
use Rattle.sst_grammar.specs.Judging.{slice_at, or_off, foot_place, judged_foot, judged_index, judged_filter}

-- ---- head and foot

-- a file of this length, whose head and foot are judged
abbrev pub foot_by : ℕ → Bool → Option Foot → Result Foot ℕ
foot_by place head foot = cond head (or_off place foot) (Err 0)

too_short : (n m : ℕ) → m < n → nat_le n m ≡ false
too_short n m h = grind (arith, nat_tests)

enough : (n m : ℕ) → n ≤ m → nat_le n m ≡ true
enough n m h = grind (arith, nat_tests)

pub foot_short : (bytes : Bytes) (n : ℕ) → n ≡ length bytes → n < head_length + foot_length → judged_foot bytes ≡ Err 0
unfolding judged_foot
foot_short bytes n is short =
    let place = foot_place bytes in
    ap (λ b. cond (b && same (take head_length bytes) table_head) (or_off place (kept (is_foot_of (length bytes)) (read_foot (drop place bytes)))) (Err 0)) (too_short (head_length + foot_length) (length bytes) (omega (arith, is, short)))

pub foot_headless : (bytes head : Bytes) (n : ℕ) → n ≡ length bytes → head_length + foot_length ≤ n → head ≡ slice_at 0 head_length bytes → same head table_head ≡ false → judged_foot bytes ≡ Err 0
unfolding judged_foot
foot_headless bytes head n is long there other =
    let place = foot_place bytes in
    let test : (nat_le (head_length + foot_length) (length bytes) && same (take head_length bytes) table_head) ≡ false =
    (λ i. enough (head_length + foot_length) (length bytes) (omega (arith, is, long)) i && (ap (λ (h : Bytes). same h table_head) (sym there) ∙ other) i) in
    ap (λ b. cond b (or_off place (kept (is_foot_of (length bytes)) (read_foot (drop place bytes)))) (Err 0)) test

pub foot_judged : (bytes head foot : Bytes) (n place : ℕ) → n ≡ length bytes → head_length + foot_length ≤ n → head ≡ slice_at 0 head_length bytes → same head table_head ≡ true → place ≡ n - foot_length → foot ≡ slice_at place foot_length bytes
    → judged_foot bytes ≡ or_off place (kept (is_foot_of n) (read_foot foot))
unfolding judged_foot
foot_judged bytes head foot n place is long there matches at behind =
    let test : (nat_le (head_length + foot_length) (length bytes) && same (take head_length bytes) table_head) ≡ true =
    (λ i. enough (head_length + foot_length) (length bytes) (omega (arith, is, long)) i && (ap (λ (h : Bytes). same h table_head) (sym there) ∙ matches) i) in
    let here : foot_place bytes ≡ place = omega (arith, is, at) in
    let dropped = length-drop {A = ℕ} place bytes in
    let last : drop place bytes ≡ foot = sym (behind ∙ take_all foot_length (drop place bytes) (omega (arith, dropped, is, at, long))) in
    ap (λ b. cond b (or_off (foot_place bytes) (kept (is_foot_of (length bytes)) (read_foot (drop (foot_place bytes) bytes)))) (Err 0)) test
    ∙ ap (λ (k : ℕ). or_off k (kept (is_foot_of (length bytes)) (read_foot (drop k bytes)))) here
    ∙ ap (λ (k : ℕ). or_off place (kept (is_foot_of k) (read_foot (drop place bytes)))) (sym is)
    ∙ ap (λ (b : Bytes). or_off place (kept (is_foot_of n) (read_foot b))) last

-- ---- index and filter

pub index_judged : (foot : Foot) (bytes found : Bytes) (o : Option (List Spot)) → found ≡ slice_at foot.index foot.index_length bytes → o ≡ read_block_index head_length foot.index found → judged_index foot bytes ≡ or_off foot.index o
unfolding judged_index
index_judged foot bytes found o is read = ap (λ (b : Bytes). or_off foot.index (read_block_index head_length foot.index b)) (sym is) ∙ ap (or_off foot.index) (sym read)

pub filter_judged : (foot : Foot) (bytes found : Bytes) (o : Option Bytes) → found ≡ slice_at foot.filter foot.filter_length bytes → o ≡ read_filter found → judged_filter foot bytes ≡ or_off foot.filter o
unfolding judged_filter
filter_judged foot bytes found o is read = ap (λ (b : Bytes). or_off foot.filter (read_filter b)) (sym is) ∙ ap (or_off foot.filter) (sym read)

-- ---- where the bytes may not be told

told_both : (P Q : Bytes → Type 0) (held : Option Bytes) → IfSome held P → IfSome held Q → IfSome held (λ b. P b × Q b)
told_both P Q None p q = tt
told_both P Q (Some bytes) p q = (p, q)

pub blamed : {X : Type 0} (before now : ℕ) (id : TableId) (held : Option Bytes) (judge : Bytes → Result X ℕ) (place : ℕ) (fault : StoreFault) → fault ≡ Damaged (Table id) place → IfSome held (λ bytes. judge bytes ≡ Err place)
    → IsBlame before now id held judge fault
blamed before now id held judge place fault is off = subst (IsBlame before now id held judge) (sym is) (refl, off)

pub index_told : (foot : Foot) (found slice : Bytes) (held : Option Bytes) (place : ℕ) (o r : Option (List Spot)) → slice ≡ found → place ≡ head_length → IfSome held (λ bytes. found ≡ slice_at foot.index foot.index_length bytes) → o ≡ read_block_index place foot.index slice → o ≡ r
    → IfSome held (λ bytes. judged_index foot bytes ≡ or_off foot.index r)
index_told foot found slice held place o r same_bytes first there read is =
    told_leads (λ bytes. found ≡ slice_at foot.index foot.index_length bytes) (λ bytes. judged_index foot bytes ≡ or_off foot.index r)
    (λ bytes at. index_judged foot bytes slice o (same_bytes ∙ at) (read ∙ ap (λ (k : ℕ). read_block_index k foot.index slice) first) ∙ ap (or_off foot.index) is) held there

pub filter_told : (foot : Foot) (found slice : Bytes) (held : Option Bytes) (o r : Option Bytes) → slice ≡ found → IfSome held (λ bytes. found ≡ slice_at foot.filter foot.filter_length bytes) → o ≡ read_filter slice → o ≡ r
    → IfSome held (λ bytes. judged_filter foot bytes ≡ or_off foot.filter r)
filter_told foot found slice held o r same_bytes there read is =
    told_leads (λ bytes. found ≡ slice_at foot.filter foot.filter_length bytes) (λ bytes. judged_filter foot bytes ≡ or_off foot.filter r)
    (λ bytes at. filter_judged foot bytes slice o (same_bytes ∙ at) read ∙ ap (or_off foot.filter) is) held there

pub short_told : (n bound : ℕ) (held : Option Bytes) → IfSome held (λ bytes. n ≡ length bytes) → bound ≡ head_length → n < bound + foot_length → IfSome held (λ bytes. judged_foot bytes ≡ Err 0)
short_told n bound held long eight short =
    told_leads (λ bytes. n ≡ length bytes) (λ bytes. judged_foot bytes ≡ Err 0) (λ bytes is. foot_short bytes n is (omega (arith, eight, short))) held long

module _ (n bound : ℕ) (held : Option Bytes) (long : IfSome held (λ bytes. n ≡ length bytes)) (eight : bound ≡ head_length) (enough_bytes : bound + foot_length ≤ n) (head slice : Bytes) (same_head : slice ≡ head)
    (there : IfSome held (λ bytes. head ≡ slice_at 0 head_length bytes)) where
  pub headless_told : same slice table_head ≡ false → IfSome held (λ bytes. judged_foot bytes ≡ Err 0)
  headless_told other =
      told_leads (λ bytes. (n ≡ length bytes) × (head ≡ slice_at 0 head_length bytes)) (λ bytes. judged_foot bytes ≡ Err 0)
      (λ bytes both. foot_headless bytes slice n both.0 (omega (arith, eight, enough_bytes)) (same_head ∙ both.1) other) held
      (told_both (λ bytes. n ≡ length bytes) (λ bytes. head ≡ slice_at 0 head_length bytes) held long there)

  pub foot_told : same slice table_head ≡ true → (place : ℕ) (found bytes_read : Bytes) (r : Option Foot) → place ≡ n - foot_length → bytes_read ≡ found → IfSome held (λ bytes. found ≡ slice_at place foot_length bytes)
      → r ≡ kept (is_foot_of n) (read_foot bytes_read) → IfSome held (λ bytes. judged_foot bytes ≡ or_off place r)
  foot_told matches place found bytes_read r at same_bytes behind is =
      told_leads (λ bytes. ((n ≡ length bytes) × (head ≡ slice_at 0 head_length bytes)) × (found ≡ slice_at place foot_length bytes)) (λ bytes. judged_foot bytes ≡ or_off place r)
      (λ bytes all. foot_judged bytes slice bytes_read n place all.0.0 (omega (arith, eight, enough_bytes)) (same_head ∙ all.0.1) matches at (same_bytes ∙ all.1) ∙ ap (or_off place) (sym is)) held
      (told_both (λ bytes. (n ≡ length bytes) × (head ≡ slice_at 0 head_length bytes)) (λ bytes. found ≡ slice_at place foot_length bytes) held
      (told_both (λ bytes. n ≡ length bytes) (λ bytes. head ≡ slice_at 0 head_length bytes) held long there) behind)
