use Rattle.std.proofs.Common.{◌≡◌, ℕ, Option, Some, None, IsSome, length, subst, sym, rules, arith}
use Rattle.std.specs.Prelude.{◌↔◌}
use Rattle.kv_base.specs.Map.{Bytes}
use Rattle.subkey_codec.specs.Numbers.{read_index}
use Rattle.subkey_codec.specs.NumberLaws.{index_has_eight_bytes}
use Rattle.subkey_codec.proofs.number.decode_index.Goals as goal

-- what is read is there exactly for eight bytes
eight_of : (o : Option ℕ) (bytes : Bytes) → o ≡ read_index bytes → IsSome (read_index bytes) ↔ (length bytes ≡ 8) → IsSome o ↔ (length bytes ≡ 8)
eight_of o bytes e h = subst (λ (r : Option ℕ). IsSome r ↔ (length bytes ≡ 8)) (sym e) h

pub returns-in_err-number-clause-eight : goal.returns-in_err-number-clause-eight
unfolding read_index
returns-in_err-number-clause-eight c =
    eight_of c.from_residual.result c.args.bytes.now (search rules) (index_has_eight_bytes c.args.bytes.now (λ i. omega (arith, c.type_inv.bytes i)))

pub returns-then-is_empty-clause-eight : goal.returns-then-is_empty-clause-eight
unfolding read_index
returns-then-is_empty-clause-eight c =
    eight_of (Some c.in_ok-number.number) c.args.bytes.now (search rules) (index_has_eight_bytes c.args.bytes.now (λ i. omega (arith, c.type_inv.bytes i)))

pub returns-else-is_empty-clause-eight : goal.returns-else-is_empty-clause-eight
unfolding read_index
returns-else-is_empty-clause-eight c =
    eight_of None c.args.bytes.now (search rules) (index_has_eight_bytes c.args.bytes.now (λ i. omega (arith, c.type_inv.bytes i)))
