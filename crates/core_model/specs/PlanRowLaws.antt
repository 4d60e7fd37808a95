-- A key that commands don't name has no row in the batch of their plan.
use Rattle.std.proofs.Common.{◌≡◌, ℕ, sym, subst, inl, inr}
use Rattle.std.specs.Prelude.{None, IsTrue, IsSome}
use Rattle.kv_base.specs.Map.{Bytes, get}
use Rattle.kv_base.specs.RawKeys.{is_key}
use Rattle.batch_codec.specs.Batches.{Batch}
use Rattle.redis_model.specs.declared.command.Cmds.{Cmds}
use Rattle.redis_model.specs.Keys.{among}
use Rattle.lives_model.specs.Rows.{Side, meta_key, row_key}
use Rattle.lives_model.specs.RowKeys.{IsOfKey}
use Rattle.lives_model.specs.RowKeyLaws.{meta_key_is, row_key_is_no_meta_key}
use Rattle.lives_model.specs.Plans.{AreAsked, keys_in}
use Rattle.lives_model.specs.OwnKeys.{IsAmong}
use Rattle.lives_model.specs.OwnKeyLaws.{none_is}
use Rattle.lives_model.specs.AskedKeyLaws.{asked_keys}
use Rattle.core_model.specs.AlikeLaws.{row_tells_key}

module _ (ds : Cmds) (b : Batch) (asked : AreAsked ds) (names : (raw : Bytes) → IsSome (get b raw) → IsAmong (keys_in ds) raw) (k : Bytes) (key : IsTrue (is_key k)) (other : IsTrue (among (keys_in ds) k) → ⊥) where
  -- neither metadata
  pub no_meta_of_others : get b (meta_key k) ≡ None
  no_meta_of_others = none_is (get b (meta_key k)) (λ there. let own = names (meta_key k) there in by_key own.key own.is own.among)
    where
      by_key : (j : Bytes) → IsOfKey j (meta_key k) → IsTrue (among (keys_in ds) j) → ⊥
      by_key j (inl is) named = other (subst (λ (x : Bytes). IsTrue (among (keys_in ds) x)) (sym (meta_key_is k j is)) named)
      by_key j (inr row) named = row_key_is_no_meta_key row.side j row.version row.subkey k (sym row.is)

  -- nor a row of a life
  pub no_row_of_others : (side : Side) (v : ℕ) (subkey : Bytes) → get b (row_key side k v subkey) ≡ None
  no_row_of_others side v subkey = none_is (get b (row_key side k v subkey)) (λ there. let own = names (row_key side k v subkey) there in by_key own.key own.is own.among)
    where
      by_key : (j : Bytes) → IsOfKey j (row_key side k v subkey) → IsTrue (among (keys_in ds) j) → ⊥
      by_key j (inl is) named = row_key_is_no_meta_key side k v subkey j is
      by_key j (inr row) named =
          let same_key = row_tells_key side row.side k j v row.version subkey row.subkey key (asked_keys ds j asked named) row.is in
          other (subst (λ (x : Bytes). IsTrue (among (keys_in ds) x)) (sym same_key) named)
