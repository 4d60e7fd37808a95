-- Laws on what stands in `Begun.antt`.
use Rattle.std.proofs.Common.{◌≡◌, ℕ, zero, suc, ◌+◌, ◌*◌, ◌^◌, ◌<◌, ◌≤◌, List, [], ◌∷◌, ◌++◌, length, sym, subst, arith, length-append}
use Rattle.std.specs.Prelude.{All, sum_by}
use Rattle.std.proofs.lemmas.List.Elements.{All-append}
use Rattle.std.proofs.lemmas.List.Sums.{sum_by-append}
use Rattle.redis_model.specs.declared.command.Command.{Command}
use Rattle.redis_model.specs.declared.command.Cmds.TheVariants.{Many}
use Rattle.redis_model.specs.About.{weight}
use Rattle.redis_model.specs.Apply.{due}
use Rattle.redis_model.specs.Limits.{IsWithin}
use Rattle.redis_model.specs.LimitsLaws.{IsWithin-due, IsDue-due}
use Rattle.lives_model.specs.Plans.{IsAsked, AreAsked, words}
use Rattle.kv_tests_plans.specs.Begun.{IsBegunTransaction}

one : (c : Command) → IsAsked c → All IsAsked (c ∷ [])
one c asked zero d low = asked
one c asked (suc k) d low = let never : ⊥ = omega arith in absurd never

-- one command more
pub begun_more : (commands : List Command) (old : ℕ) (c : Command) → IsBegunTransaction commands old → IsAsked c → length commands < 1024 → old + weight c ≤ 2 ^ 23 → IsBegunTransaction (commands ++ c ∷ []) (old + weight c)
begun_more commands old c begun asked room light =
    let sum = sum_by-append words commands (c ∷ []) in
    let long = length-append commands (c ∷ []) in
    let few = asked.0.weighed in
    let was = begun.weighed in
    record {
      few = omega arith;
      asked = All-append IsAsked commands (c ∷ []) begun.asked (one c asked);
      light = light;
      weighed = omega arith;
    }

-- whose amount of time has become a deadline
pub begun_due : (commands new : List Command) (old now : ℕ) (asked c : Command) (more : ℕ) → IsBegunTransaction commands old → IsWithin asked → c ≡ due now asked → more ≡ weight c
    → length commands < 1024 → old + more ≤ 2 ^ 23 → new ≡ commands ++ c ∷ [] → IsBegunTransaction new (old + more)
begun_due commands new old now asked c more begun within same is room light last =
    let due_asked : IsAsked c = subst IsAsked (sym same) (IsWithin-due asked now within, IsDue-due asked now) in
    subst (λ (cs : List Command). IsBegunTransaction cs (old + more)) (sym last)
    (subst (λ (n : ℕ). IsBegunTransaction (commands ++ c ∷ []) (old + n)) (sym is) (begun_more commands old c begun due_asked room (omega (arith, is, light))))

-- all of them
pub begun_asked : (commands : List Command) (weight : ℕ) → IsBegunTransaction commands weight → AreAsked (Many commands)
begun_asked commands weight begun = let few = begun.few in let light = begun.light in let weighed = begun.weighed in (few, begun.asked, omega arith)
