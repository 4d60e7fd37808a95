-- What is known where a test on truth values or on an order has passed.
use Rattle.std.specs.Prelude.{◌≡◌, Bool, true, false, ◌&&◌, T, refl}
use Rattle.std.proofs.Common.{subst, sym}
use Rattle.std.specs.declared.cmp.Ordering.{Ordering}
use Rattle.std.specs.declared.cmp.Ordering.TheVariants.{Less, Equal, Greater}
use Rattle.std.specs.Ordering.{is_lt, is_eq}

pub first : (a b : Bool) → T (a && b) → T a
first true b p = tt
first false b p = p

pub second : (a b : Bool) → T (a && b) → T b
second true b p = p
second false b p = absurd p

pub both : (a b : Bool) → T a → T b → T (a && b)
both true b p q = q
both false b p q = p

pub less : (o : Ordering) → T (is_lt o) → o ≡ Less
less Less p = refl
less Equal p = absurd p
less Greater p = absurd p

pub tied : (o : Ordering) → T (is_eq o) → o ≡ Equal
tied Less p = absurd p
tied Equal p = refl
tied Greater p = absurd p

pub is_less : (o : Ordering) → o ≡ Less → T (is_lt o)
is_less o e = subst (λ (r : Ordering). T (is_lt r)) (sym e) tt

-- the same of a test that is true
pub less_is : (o : Ordering) → is_lt o ≡ true → o ≡ Less
less_is Less e = refl
less_is Equal e = absurd (cc)
less_is Greater e = absurd (cc)
