-- Which configuration some bytes are.
use Rattle.std.proofs.Common.{◌≡◌, ◌<◌, ◌≤◌, ℕ, Bool, true, false, length, take, drop, None, Some, Option, Err, refl, sym, ap, ◌∙◌, ◌+◌, arith}
use Rattle.std.specs.Prelude.{nat_lt, not, ◌&&◌, ◌==◌, option_map, IsUtf8}
use Rattle.std.specs.Path.{rfind_below, rsplit_once}
use Rattle.std.specs.Str.{is_utf8}
use Rattle.std.proofs.lemmas.Bool.Decides.{nat_tests}
use Rattle.std.proofs.lemmas.List.{drop-drop}
use Rattle.std.proofs.lemmas.Str.{is_utf8-from_IsUtf8, IsUtf8-from_is_utf8}
use Rattle.toml.specs.Data.{Members}
use Rattle.toml.specs.Parse.{parse_document}
use Rattle.kv_base.specs.Map.{Bytes}
use Rattle.kv_base.specs.Unsigned.{read_u64}
use Rattle.conf_file.specs.declared.fault.ConfFlaw.TheVariants as flaw
use Rattle.conf_file.specs.Configuration.{colon, are_host_port, is_address, is_port_number, conf_in, configured, most_bytes}

pub configured_long : (bytes : Bytes) → most_bytes < length bytes → configured bytes ≡ Err flaw.TooLong
configured_long bytes long =
    let many : nat_lt most_bytes (length bytes) ≡ true = grind (arith, nat_tests) in
    rw many

pub configured_table : (bytes : Bytes) (table : Members) → length bytes ≤ most_bytes → IsUtf8 bytes → parse_document bytes ≡ Some table → configured bytes ≡ conf_in table
configured_table bytes table short utf8 parsed =
    let few : nat_lt most_bytes (length bytes) ≡ false = grind (arith, nat_tests) in
    rw (few, is_utf8-from_IsUtf8 bytes utf8, parsed)

pub configured_none : (bytes : Bytes) → length bytes ≤ most_bytes → (IsUtf8 bytes → parse_document bytes ≡ None) → configured bytes ≡ Err flaw.NoToml
configured_none bytes short refused =
    let few : nat_lt most_bytes (length bytes) ≡ false = grind (arith, nat_tests) in
    by_test few (is_utf8 bytes) refl
  where
    by_test : nat_lt most_bytes (length bytes) ≡ false → (b : Bool) → is_utf8 bytes ≡ b → configured bytes ≡ Err flaw.NoToml
    by_test few true valid = rw (few, valid, refused (IsUtf8-from_is_utf8 bytes valid))
    by_test few false invalid = rw (few, invalid)

-- ---- an address

-- it is parted at its last colon
address_at : (text : Bytes) (place : Option ℕ) → place ≡ rfind_below colon text (length text) → is_address text ≡ are_host_port (option_map (λ i. (take i text, drop (i + 1) text)) place)
unfolding rsplit_once
address_at text place is = ap (λ o. are_host_port (option_map (λ i. (take i text, drop (i + 1) text)) o)) (sym is)

pub no_address : (text : Bytes) → None ≡ rfind_below colon text (length text) → false ≡ is_address text
no_address text none = sym (address_at text None none)

behind : (i : ℕ) (text : Bytes) → drop 1 (drop i text) ≡ drop (i + 1) text
behind i text = drop-drop 1 i text

pub address_parts : (text host port : Bytes) (i : ℕ) → Some i ≡ rfind_below colon text (length text) → host ≡ take i text → port ≡ drop 1 (drop i text) → (not (length host == 0) && is_port_number (read_u64 port)) ≡ is_address text
address_parts text host port i is front back =
    ap (λ h. not (length h == 0) && is_port_number (read_u64 port)) front
    ∙ ap (λ p. not (length (take i text) == 0) && is_port_number (read_u64 p)) (back ∙ behind i text)
    ∙ sym (address_at text (Some i) is)
