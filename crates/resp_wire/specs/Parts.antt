-- What the functions that read the parts of a request answer.
use Rattle.std.specs.Prelude.{◌≡◌, Result, Ok, Err}
use Rattle.resp_wire.specs.declared.stop.Stop.{Stop}

-- What a function answered, seen by view, is what the grammar gives.
abbrev pub Gives : {X Y : Type 0} → (X → Y) → Result X Stop → Result Y Stop → Type 0
Gives view (Ok x) read = read ≡ Ok (view x)
Gives view (Err e) read = read ≡ Err e
