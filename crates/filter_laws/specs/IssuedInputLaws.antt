-- Inputs that are issued, and of the commands' keys none above a plan's base, have versions below those of its new lives.
use Rattle.std.proofs.Common.{◌≡◌, ℕ, ◌<◌, ◌≤◌, List, refl, sym, ap, ◌∙◌, inr, arith}
use Rattle.std.specs.Prelude.{◌&&◌, Option, Some, None, IsTrue, IfSome, ◌++◌}
use Rattle.std.specs.List.{Contains}
use Rattle.kv_base.specs.Map.{Bytes}
use Rattle.kv_base.specs.Number.{fits}
use Rattle.kv_base.specs.Fields.{u64}
use Rattle.kv_base.specs.InversionLaws.{same_some, both_first, both_second}
use Rattle.kv_base.specs.RawKeys.{RawKey, MetaKey, ElementKey, ScoreKey, is_key, is_version, is_raw_within, score_number, raw_text, read_raw}
use Rattle.kv_base.specs.RawKeyLaws.{only_raw_is_read}
use Rattle.redis_model.specs.declared.command.Cmds.{Cmds}
use Rattle.redis_model.specs.Keys.{among}
use Rattle.kv_base.specs.declared.row.Row.{Row}
use Rattle.lives_model.specs.Rows.{Elements, Scores, row_key}
use Rattle.lives_model.specs.RowKeys.{IsOfKey}
use Rattle.lives_model.specs.Plans.{version, keys_in}
use Rattle.filter_laws.specs.Kept.{row_life}
use Rattle.filter_laws.specs.Filtered.{AreIssuedBefore}
use Rattle.filter_laws.specs.IssuedInputs.{IsRowOf, HasIssuedVersion}

-- a raw key that is read as one of a life is where a row of that life stands
pub read_life_row : (raw : Bytes) (life : Bytes × ℕ) → row_life (read_raw raw) ≡ Some life → IsRowOf raw life.0 life.1
unfolding row_key raw_text is_raw_within
read_life_row raw life e = by_read (read_raw raw) refl e
  where
    by_parts : (k : Bytes) (v : ℕ) → IsRowOf raw k v → Some (k, v) ≡ Some life → IsRowOf raw life.0 life.1
    by_parts k v row e = let one = same_some {X = Bytes × ℕ} (k, v) life e in record {
      side = row.side;
      subkey = row.subkey;
      key = ap is_key (sym (ap (λ (l : Bytes × ℕ). l.0) one)) ∙ row.key;
      version = ap is_version (sym (ap (λ (l : Bytes × ℕ). l.1) one)) ∙ row.version;
      is = row.is ∙ (λ i. row_key row.side (one i).0 (one i).1 row.subkey);
    }

    by_read : (o : Option RawKey) → read_raw raw ≡ o → row_life o ≡ Some life → IsRowOf raw life.0 life.1
    by_read None r e = absurd (cc)
    by_read (Some (MetaKey k)) r e = absurd (cc)
    by_read (Some (ElementKey k v subkey)) r e =
        let whole = only_raw_is_read raw (ElementKey k v subkey) r in
        let front = both_first (is_key k && is_version v) (is_key subkey) whole.1 in
        by_parts k v (record {
          side = Elements;
          subkey = subkey;
          key = both_first (is_key k) (is_version v) front;
          version = both_second (is_key k) (is_version v) front;
          is = whole.0;
        }) e
    by_read (Some (ScoreKey k v score member)) r e =
        let whole = only_raw_is_read raw (ScoreKey k v score member) r in
        let front = both_first (is_key k && is_version v) (fits score) (both_first (is_key k && is_version v && fits score) (is_key member) whole.1) in
        by_parts k v (record {
          side = Scores;
          subkey = u64 (score_number score) ++ member;
          key = both_first (is_key k) (is_version v) front;
          version = both_second (is_key k) (is_version v) front;
          is = whole.0;
        }) e

-- inputs that are issued, and not above the base where their keys are named, have versions below those of new lives
pub issued_before : (inputs : List Row) (ds : Cmds) (base : ℕ) → ((row : Row) → Contains inputs row → HasIssuedVersion row)
    → ((row : Row) (k : Bytes) → Contains inputs row → IsTrue (among (keys_in ds) k) → IsOfKey k row.raw → row.seq ≤ base) → AreIssuedBefore inputs ds base
issued_before inputs ds base issued old row there = by_life (row_life (read_raw row.raw)) refl
  where
    by_life : (o : Option (Bytes × ℕ)) → row_life (read_raw row.raw) ≡ o → IfSome o (λ life. IsTrue (among (keys_in ds) life.0) → life.1 < version base 0)
    by_life None e = tt
    by_life (Some life) e = λ named.
        let of = read_life_row row.raw life e in
        let low = issued row there of.side life.0 life.1 of.subkey of.key of.version of.is in
        let up = old row life.0 there named (inr (record { side = of.side; version = life.1; subkey = of.subkey; fits = of.version; is = of.is })) in
        omega (arith, low, up)
