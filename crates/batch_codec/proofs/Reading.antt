-- Entries that are read one after another into a batch.
use Rattle.std.proofs.Common.{◌≡◌, ℕ, suc, length, arith, List, [], ◌∷◌, refl, ap, ◌∙◌, true, false, cond, Option, Some, None, option_map, option_and_then}
use Rattle.std.specs.Prelude.{◌==◌}
use Rattle.kv_base.specs.InversionLaws.{number_is}
use Rattle.kv_base.specs.Map.{Bytes, insert, insert_all}
use Rattle.batch_codec.specs.Batches.{Batch, BatchEntry}
use Rattle.batch_codec.specs.Bodies.{read_entry, is_next_entry, read_entries}
use Rattle.batch_codec.specs.BodyLaws.{read_next_entry, read_more}

-- what is still to be read, onto what was read
abbrev pub onto : Batch → ℕ → Option Bytes → Bytes → Option Batch
onto batch left last bytes = option_map (insert_all batch) (read_entries left last bytes)

through : (batch : Batch) (e : BatchEntry) (o : Option (List BatchEntry)) → option_map (insert_all batch) (option_map (λ es. e ∷ es) o) ≡ option_map (insert_all (insert batch e.0 e.1)) o
through batch e None = refl
through batch e (Some es) = refl

pub one_more : (batch : Batch) (left n : ℕ) (last : Option Bytes) (bytes behind : Bytes) (e : BatchEntry) → left ≡ suc n → read_entry bytes ≡ Some (e, behind) → is_next_entry last e ≡ true
    → onto batch left last bytes ≡ onto (insert batch e.0 e.1) n (Some e.0) behind
one_more batch left n last bytes behind e counted is next =
    ap (λ (k : ℕ). option_map (insert_all batch) (read_entries k last bytes)) counted
    ∙ ap (λ o. option_map (insert_all batch) o) (read_more n last bytes ∙ ap (λ o. option_and_then (read_next_entry n last) o) is ∙ ap (λ b. cond b (option_map (λ es. e ∷ es) (read_entries n (Some e.0) behind)) None) next)
    ∙ through batch e (read_entries n (Some e.0) behind)

pub no_entry : (batch : Batch) (left n : ℕ) (last : Option Bytes) (bytes : Bytes) → left ≡ suc n → read_entry bytes ≡ None → onto batch left last bytes ≡ None
no_entry batch left n last bytes counted is =
    ap (λ (k : ℕ). option_map (insert_all batch) (read_entries k last bytes)) counted
    ∙ ap (λ o. option_map (insert_all batch) o) (read_more n last bytes ∙ ap (λ o. option_and_then (read_next_entry n last) o) is)

pub not_next : (batch : Batch) (left n : ℕ) (last : Option Bytes) (bytes behind : Bytes) (e : BatchEntry) → left ≡ suc n → read_entry bytes ≡ Some (e, behind) → is_next_entry last e ≡ false → onto batch left last bytes ≡ None
not_next batch left n last bytes behind e counted is next =
    ap (λ (k : ℕ). option_map (insert_all batch) (read_entries k last bytes)) counted
    ∙ ap (λ o. option_map (insert_all batch) o) (read_more n last bytes ∙ ap (λ o. option_and_then (read_next_entry n last) o) is ∙ ap (λ b. cond b (option_map (λ es. e ∷ es) (read_entries n (Some e.0) behind)) None) next)

pub at_end : (batch : Batch) (left : ℕ) (last : Option Bytes) (bytes : Bytes) → left ≡ 0 → (length bytes == 0) ≡ true → onto batch left last bytes ≡ Some batch
unfolding read_entries
at_end batch left last [] counted is = ap (λ (k : ℕ). option_map (insert_all batch) (read_entries k last [])) counted
at_end batch left last (b ∷ bytes) counted is = let never : length (b ∷ bytes) ≡ 0 = number_is (length (b ∷ bytes)) 0 is in absurd (omega (arith, never))

pub more_behind : (batch : Batch) (left : ℕ) (last : Option Bytes) (bytes : Bytes) → left ≡ 0 → (length bytes == 0) ≡ false → onto batch left last bytes ≡ None
unfolding read_entries
more_behind batch left last [] counted is = absurd (cc)
more_behind batch left last (b ∷ bytes) counted is = ap (λ (k : ℕ). option_map (insert_all batch) (read_entries k last (b ∷ bytes))) counted
