-- What is known of the parts where a reading that is made of steps gave something.
use Rattle.std.proofs.Common.{◌≡◌, ℕ, refl, Bool, true, false, cond, Option, Some, None, option_map, option_and_then, arith}
use Rattle.std.specs.Prelude.{◌==◌, ◌&&◌}
use Rattle.std.proofs.lemmas.Bool.Decides.{nat_tests}
use Rattle.kv_base.specs.Map.{kept}

pub same_some : {X : Type 0} (x y : X) → Some x ≡ Some y → x ≡ y
same_some x y e = cc

pub and_then_is : {X Y : Type 0} (f : X → Option Y) (o : Option X) (y : Y) → option_and_then f o ≡ Some y → (x : X) × (o ≡ Some x) × (f x ≡ Some y)
and_then_is f None y e = absurd (cc)
and_then_is f (Some x) y e = (x, refl, e)

pub map_is : {X Y : Type 0} (f : X → Y) (o : Option X) (y : Y) → option_map f o ≡ Some y → (x : X) × (o ≡ Some x) × (f x ≡ y)
map_is f None y e = absurd (cc)
map_is f (Some x) y e = (x, refl, same_some (f x) y e)

pub if_is : {X : Type 0} (b : Bool) (o : Option X) (y : X) → cond b o None ≡ Some y → (b ≡ true) × (o ≡ Some y)
if_is true o y e = (refl, e)
if_is false o y e = absurd (cc)

pub kept_is : {X : Type 0} (p : X → Bool) (o : Option X) (y : X) → kept p o ≡ Some y → (o ≡ Some y) × (p y ≡ true)
kept_is p None y e = absurd (cc)
kept_is p (Some x) y e = passed (p x) refl e
  where
    passed : (b : Bool) → p x ≡ b → cond b (Some x) None ≡ Some y → (Some x ≡ Some y) × (p y ≡ true)
    passed true is e = (e, (rw (same_some x y e) at is))
    passed false is e = absurd (cc)

pub both_first : (a b : Bool) → (a && b) ≡ true → a ≡ true
both_first true b e = refl
both_first false b e = cc

pub both_second : (a b : Bool) → (a && b) ≡ true → b ≡ true
both_second true b e = e
both_second false b e = cc

pub number_is : (a b : ℕ) → (a == b) ≡ true → a ≡ b
number_is a b e = grind (arith, nat_tests)
