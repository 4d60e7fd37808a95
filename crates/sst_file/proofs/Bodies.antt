-- The body of a block, as a cursor takes it.
use Rattle.std.proofs.Common.{◌≡◌, ℕ, ◌+◌, ◌-◌, ◌≤◌, ◌<◌, ◌^◌, List, [], ◌∷◌, ◌++◌, refl, sym, ap, subst, ◌∙◌, true, cond, length, drop, Option, Some, None, IfSome, append-nil, length-append, arith}
use Rattle.std.specs.Prelude.{◌==◌, option_and_then}
use Rattle.std.proofs.lemmas.List.{drop_at}
use Rattle.kv_base.specs.Map.{Bytes}
use Rattle.kv_base.specs.MetaValues.{is_empty}
use Rattle.kv_base.specs.Fields.{text, read_text}
use Rattle.kv_base.specs.FieldLaws.{text_is_read, only_text_is_read, length-text, length-u32}
use Rattle.kv_base.specs.InversionLaws.{same_some, and_then_is, if_is, number_is}
use Rattle.kv_base.specs.declared.row.Row.{Row}
use Rattle.sst_parts.specs.declared.index.Spot.{Spot}
use Rattle.sst_parts.specs.RowTexts.{rows_text}
use Rattle.sst_parts.specs.Blocks.{block_text}
use Rattle.sst_grammar.specs.Judging.{slice_at}
use Rattle.sst_file.specs.Searching.{HasBlock}
use Rattle.sst_file.specs.Walking.{IsBodyAt, text_of_block}

module _ (block slice body behind : Bytes) (same : slice ≡ block) (read : Some (body, behind) ≡ read_text slice) where
  is_text : block ≡ text body ++ behind
  is_text = sym same ∙ (only_text_is_read slice body behind (sym read)).0

  long : length block ≡ 4 + length body + length behind
  long = let parts = length-append (text body) behind in let front = length-text body in let all = ap (λ (b : Bytes). length b) is_text in omega (arith, parts, front, all)

  slice_long : length slice ≡ length block
  slice_long = ap (λ (b : Bytes). length b) same

  pub body_within : length body ≤ length slice
  body_within = omega (arith, long, slice_long)

  body_behind : (rest : Bytes) → behind ≡ rest → rest ≡ [] → (n : ℕ) → n ≡ 4 → drop n block ≡ body
  unfolding text
  body_behind rest is none n four =
      ap (λ (b : Bytes). drop n b) (is_text ∙ ap (λ (b : Bytes). text body ++ b) (is ∙ none) ∙ append-nil (text body))
      ∙ drop_at _ body n (length-u32 (length body) ∙ sym four)

  pub body_is_left : true ≡ (length behind == 0) → Some (drop (length slice - length body) block) ≡ text_of_block block
  body_is_left none =
      let zero_is = number_is (length behind) 0 (sym none) in
      let nothing = no_bytes behind zero_is in
      ap (λ (b : Bytes). Some b) (body_behind behind refl nothing (length slice - length body) (omega (arith, long, slice_long, zero_is)))
      ∙ ap (λ (b : Bytes). cond (is_empty b) (Some body) None) (sym nothing)
      ∙ ap (option_and_then (λ (front : Bytes × Bytes). cond (is_empty front.1) (Some front.0) None)) (read ∙ ap read_text same)
    where
      no_bytes : (b : Bytes) → length b ≡ 0 → b ≡ []
      no_bytes [] h = refl
      no_bytes (x ∷ b) h = absurd (omega (arith, h))

-- ---- of a block that stands at a spot

text_of_text : (t : Bytes) → length t < 2 ^ 32 → text_of_block (text t) ≡ Some t
text_of_text t short = ap (option_and_then (λ (front : Bytes × Bytes). cond (is_empty front.1) (Some front.0) None)) (ap read_text (sym (append-nil (text t))) ∙ text_is_read t short [])

text_of_rows : (rows : List Row) (block : Bytes) → block ≡ block_text rows → length block < 2 ^ 32 → text_of_block block ≡ Some (rows_text rows)
unfolding block_text
text_of_rows rows block is short =
    let long = ap (λ (b : Bytes). length b) is in
    let parts = length-text (rows_text rows) in
    ap text_of_block is ∙ text_of_text (rows_text rows) (omega (arith, long, parts, short))

pub body_short : (block rest : Bytes) → Some rest ≡ text_of_block block → length rest < 2 ^ 32
body_short block rest is =
    let it = and_then_is (λ (front : Bytes × Bytes). cond (is_empty front.1) (Some front.0) None) (read_text block) rest (sym is) in
    let kept_is = if_is (is_empty it.0.1) (Some it.0.0) rest it.2 in
    subst (λ (b : Bytes). length b < 2 ^ 32) (same_some it.0.0 rest kept_is.1) (only_text_is_read block it.0.0 it.0.1 it.1).1

module _ (spot : Spot) (block : Bytes) (short : length block < 2 ^ 32) where
  pub body_at_spot : (rest : Bytes) (held : Option Bytes) → IfSome held (λ bytes. block ≡ slice_at spot.place spot.bytes bytes) → Some rest ≡ text_of_block block → IfSome held (IsBodyAt spot rest)
  body_at_spot rest None there is = tt
  body_at_spot rest (Some bytes) there is = λ rows readable has. same_some rest (rows_text rows) (is ∙ text_of_rows rows block (there ∙ has) short)

  pub body_never_cut : (held : Option Bytes) → IfSome held (HasBlock spot) → IfSome held (λ bytes. block ≡ slice_at spot.place spot.bytes bytes) → None ≡ text_of_block block → IfSome held (λ bytes. ⊥)
  body_never_cut None has there none = tt
  body_never_cut (Some bytes) has there none =
      let some : ◌≡◌ {A = Option Bytes} None (Some (rows_text has.0)) = none ∙ text_of_rows has.0 block (there ∙ has.2) short in
      absurd (cc)
