use Rattle.std.proofs.Common.{◌≡◌, ◌<◌, ◌^◌, true, drop}
use Rattle.kv_base.specs.Digits.{are_digits}
use Rattle.kv_base.proofs.DigitLists.{read_on}
use Rattle.kv_base.proofs.digits.digits_value.Given as goal

abbrev pub invariant-loop-byte : goal.invariant-loop-byte
invariant-loop-byte l = record {
  fits : l.value < 2 ^ 64;
  value : read_on l.value (drop l.byte-index l.digits) ≡ read_on 0 l.fn.digits;
  digits : are_digits (drop l.byte-index l.digits) ≡ true;
}
