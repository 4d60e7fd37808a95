-- What holds on one outcome of a call.
use Rattle.std.proofs.Common.{Result, Ok, Err, OnOk, OnErr}

pub on_ok : {T E A B : Type 0} (r : Result T E) → (A → B) → OnOk r A → OnOk r B
on_ok (Ok x) f a = f a
on_ok (Err e) f a = tt

pub on_err : {T E A B : Type 0} (r : Result T E) → (A → B) → OnErr r A → OnErr r B
on_err (Ok x) f a = tt
on_err (Err e) f a = f a

-- what follows from either outcome
pub on_each : {T E A B C : Type 0} (r : Result T E) → (A → C) → (B → C) → OnOk r A → OnErr r B → C
on_each (Ok x) f g a b = f a
on_each (Err e) f g a b = g b

pub on_both : {T E A B C : Type 0} (r : Result T E) → (A → B → C) → OnOk r A → OnOk r B → OnOk r C
on_both (Ok x) f a b = f a b
on_both (Err e) f a b = tt

pub err_both : {T E A B C : Type 0} (r : Result T E) → (A → B → C) → OnErr r A → OnErr r B → OnErr r C
err_both (Ok x) f a b = tt
err_both (Err e) f a b = f a b
