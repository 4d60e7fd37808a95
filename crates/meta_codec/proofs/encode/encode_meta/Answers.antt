use Rattle.std.proofs.Common.{◌≡◌, ◌≤◌, ℕ, length, subst, arith}
use Rattle.std.specs.Prelude.{IsTrue, true}
use Rattle.std.proofs.lemmas.Bool.Decides.{nat_tests}
use Rattle.kv_base.specs.Map.{Bytes}
use Rattle.kv_base.specs.InversionLaws.{both_second}
use Rattle.kv_base.specs.MetaValues.{StringValue, is_deadline, is_payload, is_meta_within}
use Rattle.kv_base.specs.RowRefs.{meta_seen}
use Rattle.kv_base.specs.declared.raw_ref.MetaRef.{MetaRef}
use Rattle.meta_codec.proofs.encode.encode_meta.Goals as goal

short : (payload : Bytes) → is_payload payload ≡ true → length payload ≤ 1048576
short payload h = grind (arith, nat_tests)

-- a string within its limits has a payload within its own
short_payload : (expire : ℕ) (payload : Bytes) → IsTrue (is_meta_within (StringValue expire payload)) → length payload ≤ 1048576
unfolding is_meta_within
short_payload expire payload h = short payload (both_second (is_deadline expire) (is_payload payload) h)

pub encode_string-requires : goal.encode_string-requires
encode_string-requires c =
    short_payload c.in-Str.expire c.in-Str.payload.now (subst (λ (m : MetaRef). IsTrue (is_meta_within (meta_seen m))) c.in-Str.is c.requires)
