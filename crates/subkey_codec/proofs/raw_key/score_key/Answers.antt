use Rattle.std.proofs.Common.{rules, ◌≡◌, ℕ, ◌++◌, sym, ap, subst, ◌∙◌, append_assoc}
use Rattle.std.specs.Prelude.{ℤ, IsTrue}
use Rattle.kv_base.specs.Map.{Bytes}
use Rattle.kv_base.specs.Fields.{u64}
use Rattle.kv_base.specs.RawKeys.{ScoreKey, life_prefix, raw_text, is_raw_text, score_number, score_space}
use Rattle.subkey_codec.specs.ElementKeyLaws.{score_key_is_raw}
use Rattle.subkey_codec.proofs.raw_key.score_key.Goals as goal

-- the prefix, the score's number and the member, one behind the other
joined : (key : Bytes) (version : ℕ) (score : ℤ) (member : Bytes) {prefix number front raw : Bytes} → prefix ≡ life_prefix score_space key version → number ≡ u64 (score_number score)
    → front ≡ prefix ++ number → raw ≡ front ++ member → raw ≡ raw_text (ScoreKey key version score member)
unfolding raw_text
joined key version score member prefix_is number_is front_is raw_is =
    raw_is ∙ ap (λ b. b ++ member) (front_is ∙ (λ i. prefix_is i ++ number_is i)) ∙ append_assoc (life_prefix score_space key version) (u64 (score_number score)) member

pub returns-clause-raw_key : goal.returns-clause-raw_key
unfolding u64
returns-clause-raw_key c =
    let number : c.to_be_bytes.result ≡ u64 (score_number c.args.score) = search rules in
    let spelled = joined c.args.key.now c.args.version c.args.score c.args.member.now c.in_ok-raw.ensures.bytes number c.in_ok-extend_from_slice.ensures.items c.in_ok-extend_from_slice-2.ensures.items in
    let raw = score_key_is_raw c.args.key.now c.args.version c.args.score c.args.member.now c.in_ok-raw.ensures.key c.requires.version c.requires.score c.requires.member in
    subst (λ (b : Bytes). IsTrue (is_raw_text b)) (sym (c.from_vec.ensures ∙ spelled)) raw
