use Rattle.std.proofs.Common.{◌≡◌, ◌≢◌, ℕ, ◌/◌, ◌^◌, zero, suc, refl, sym, ap}
use Rattle.kv_fakes.specs.declared.fate.Fate.TheVariants.{Torn}
use Rattle.kv_fakes.specs.Crash.{fate, fate_by}
use Rattle.kv_fakes.proofs.fate.Fate.of.Goals as goal

others : (n : ℕ) → n ≢ 0 → n ≢ 1 → Torn ≡ fate_by n
others zero other more = absurd (other refl)
others (suc zero) other more = absurd (more refl)
others (suc (suc n)) other more = refl

pub returns-then-quarter-eq0 : goal.returns-then-quarter-eq0
unfolding fate
returns-then-quarter-eq0 c = sym (ap fate_by c.if-quarter-eq0.true)

pub returns-then-quarter-eq1 : goal.returns-then-quarter-eq1
unfolding fate
returns-then-quarter-eq1 c = sym (ap fate_by c.if-quarter-eq1.true)

pub returns-else-quarter-eq1 : goal.returns-else-quarter-eq1
unfolding fate
returns-else-quarter-eq1 c = others (c.args.number / 2 ^ 62) c.if-quarter-eq0.false c.if-quarter-eq1.false
