-- Which commands are on strings, and plans of one command as answers of a planner.
use Rattle.std.proofs.Common.{ℕ, ◌≡◌, Bool, true, false, refl, subst}
use Rattle.std.specs.Prelude.{Option, Some, None, Result, Ok, Err, IfOk, IfSome, IsTrue, IsFalse, ◌||◌}
use Rattle.kv_base.specs.declared.fault.StoreFault.{StoreFault}
use Rattle.redis_model.specs.declared.command.Command.{Command}
use Rattle.redis_model.specs.declared.command.Command.TheVariants as cmd
use Rattle.redis_model.specs.declared.command.Cmds.TheVariants.{One}
use Rattle.redis_model.specs.Families.{is_keyless_command, is_hash_command, is_list_command, is_set_command, is_sorted_set_command}
use Rattle.lives_model.specs.declared.plan.Plan.{Plan}
use Rattle.lives_model.specs.Rows.{Rows}
use Rattle.lives_model.specs.Plans.{IsPlan, IsPlanned, version}
use Rattle.string_cmds.specs.Carried.{CarriesOut}
use Rattle.string_cmds.specs.Families.{is_string_command}

-- ---- families

-- each command is of a family
has_family : (d : Command) → is_keyless_command d || (is_string_command d || (is_hash_command d || (is_list_command d || (is_set_command d || is_sorted_set_command d)))) ≡ true
has_family (cmd.Ping v w) = refl
has_family _ = refl

left_over : (k s h l u z : Bool) → (k || (s || (h || (l || (u || z))))) ≡ true → k ≡ false → h ≡ false → l ≡ false → u ≡ false → z ≡ false → s ≡ true
left_over k true h l u z some e f g i j = refl
left_over true false h l u z some e f g i j = absurd (cc)
left_over false false true l u z some e f g i j = absurd (cc)
left_over false false false true u z some e f g i j = absurd (cc)
left_over false false false false true z some e f g i j = absurd (cc)
left_over false false false false false true some e f g i j = absurd (cc)
left_over false false false false false false some e f g i j = absurd (cc)

-- a command that has a key and is on no collection is one on strings or on keys of any type
pub is_on_strings : (d : Command) → IsFalse (is_keyless_command d) → IsFalse (is_hash_command d) → IsFalse (is_list_command d) → IsFalse (is_set_command d) → IsFalse (is_sorted_set_command d) → IsTrue (is_string_command d)
is_on_strings d e f g i j = left_over (is_keyless_command d) (is_string_command d) (is_hash_command d) (is_list_command d) (is_set_command d) (is_sorted_set_command d) (has_family d) e f g i j

-- ---- plans

-- one that carries the command out on any rows
pub planned_nowhere : (rows : Option Rows) (t fresh : ℕ) (d : Command) (plan : Plan) → ((c : Rows) (t fresh : ℕ) → CarriesOut c t fresh d plan)
    → IfSome rows (λ c. IsPlan c t fresh d plan.batch plan.reply plan.until)
planned_nowhere None t fresh d plan carries = tt
planned_nowhere (Some c) t fresh d plan carries = record { plan = λ m means ready. (carries c t fresh).law m means }

-- one with the version of the first place
pub planned_first : (r : Result Plan StoreFault) (rows : Option Rows) (t base v : ℕ) (d : Command) → v ≡ version base 0 → IfOk r (λ p. IfSome rows (λ c. IsPlan c t v d p.batch p.reply p.until))
    → IfOk r (λ p. IfSome rows (λ c. IsPlanned c t base (One d) p.batch p.reply p.until))
planned_first (Ok p) None t base v d first is = tt
planned_first (Ok p) (Some c) t base v d first is =
    let plan : IsPlan c t (version base 0) d p.batch p.reply p.until = subst (λ (n : ℕ). IsPlan c t n d p.batch p.reply p.until) first is in
    record { plan = λ m means ready. plan.plan m means ready }
planned_first (Err fault) rows t base v d first is = tt
