-- Which plans are written: how many bytes a planned body has, and that there is one where the commands touch a key.
use Rattle.std.proofs.Common.{◌≡◌, ◌↔◌, ℕ, zero, suc, ◌-◌, ◌<◌, ◌≤◌, ◌^◌, Bool, true, false, cond, List, [], ◌∷◌, length, refl, sym, ap, ◌∙◌, arith}
use Rattle.std.specs.Prelude.{◌==◌, min}
use Rattle.std.proofs.lemmas.Bool.Decides.{nat_tests}
use Rattle.kv_base.specs.Map.{Bytes, size, size-empty, empty, same_entries_map}
use Rattle.batch_codec.specs.Batches.{BatchEntry, Batch}
use Rattle.batch_codec.specs.Bodies.{body_of}
use Rattle.batch_codec.specs.BodyLaws.{length-body}
use Rattle.redis_model.specs.declared.command.Cmds.{Cmds}
use Rattle.redis_model.specs.Desk.{longest_body}
use Rattle.redis_model.specs.Machine.{State, moment_at, at_moment}
use Rattle.lives_model.specs.WrittenKeys.{touched_in}
use Rattle.lives_model.specs.WrittenKeyLaws.{quiet_plan}
use Rattle.log_store.specs.Keeping.{KeptState}
use Rattle.log_store.specs.Playing.{batches, batches_of, planned_for, IsBodyOfPlan}

-- ---- the bytes of a body

-- a number above 0 is not 0
pub not_none : (n : ℕ) → 0 < n → (n == 0) ≡ false
not_none n some = grind (arith, nat_tests)

by_size : (b : Batch) (t : Bool) → (size b == 0) ≡ t → planned_for b ≡ cond t 0 (min (length (body_of 0 0 b)) 18446744073709551615)
by_size b t e = ap (λ t. cond t 0 (min (length (body_of 0 0 b)) 18446744073709551615)) e

pub planned_some : (b : Batch) → 0 < size b → planned_for b ≡ min (length (body_of 0 0 b)) (2 ^ 64 - 1)
planned_some b some = by_size b false (not_none (size b) some)

pub planned_none : (b : Batch) → size b ≡ 0 → planned_for b ≡ 0
planned_none b none = by_size b true (less (size b) none)
  where
    less : (n : ℕ) → n ≡ 0 → (n == 0) ≡ true
    less n none = grind (arith, nat_tests)

-- where a body is planned there is a row
pub some_planned : (b : Batch) → 0 < planned_for b → 0 < size b
some_planned b some = by_cases (size b) refl
  where
    by_cases : (n : ℕ) → size b ≡ n → 0 < n
    by_cases zero e = let never : ⊥ = omega (arith, planned_none b e) in absurd never
    by_cases (suc n) e = omega arith

-- and where none is, nothing is changed
pub none_planned : (b : Batch) → planned_for b ≡ 0 → b ≡ empty
unfolding size empty
none_planned b none = same_entries_map b empty (by_entries b.entries refl)
  where
    by_entries : (es : List BatchEntry) → b.entries ≡ es → b.entries ≡ []
    by_entries [] e = e
    by_entries (x ∷ xs) e =
        let long = ap length e in
        let never : ⊥ = omega (arith, planned_some b (omega arith), length-body 0 0 b) in
        absurd never

-- a body that is not longer than planned fits with any sequence and moment
pub body_fits : (b : Batch) (planned seq moment : ℕ) → 0 < planned → planned ≡ planned_for b → planned ≤ longest_body → length (body_of seq moment b) ≤ longest_body
body_fits b planned seq moment some is small = omega (arith, planned_some b (some_planned b (omega arith)), length-body seq moment b, length-body 0 0 b)

-- ---- whether there is a batch

-- where a body was planned there is one
pub some_batch : (n : ℕ) → 0 < n → batches n ≡ 1
some_batch n some = ap (λ (b : Bool). cond {A = ℕ} b 0 1) (not_none n some)

-- one batch is written where the commands touch a key, and none where they touch none
pub batches_are : (store : KeptState) (now : ℕ) (s : State) (ds : Cmds) (planned : ℕ) → IsBodyOfPlan store now s ds planned → batches planned ≡ batches_of s now ds
batches_are store now s ds planned body =
    ap batches body.bytes
    ∙ by_keys (touched_in (at_moment s now).keys (moment_at s now) ds)
    (quiet_plan store.rows (moment_at s now) store.sequence (at_moment s now).keys ds body.batch body.answer body.until body.plan)
  where
    some : (k : Bytes) (ks : List Bytes) → ((k ∷ ks ≡ []) ↔ (body.batch ≡ empty)) → (n : ℕ) → planned_for body.batch ≡ n → batches n ≡ 1
    some k ks quiet zero is = let never : k ∷ ks ≡ [] = quiet.1 (none_planned body.batch is) in absurd (cc)
    some k ks quiet (suc n) is = some_batch (suc n) (omega arith)

    by_keys : (ks : List Bytes) → ((ks ≡ []) ↔ (body.batch ≡ empty)) → batches (planned_for body.batch) ≡ cond (length ks == 0) 0 1
    by_keys [] quiet = ap batches (planned_none body.batch (ap size (quiet.0 refl) ∙ size-empty _))
    by_keys (k ∷ ks) quiet = some k ks quiet (planned_for body.batch) refl ∙ sym (ap (λ b. cond {A = ℕ} b 0 1) (not_none (length (k ∷ ks)) (omega arith)))
