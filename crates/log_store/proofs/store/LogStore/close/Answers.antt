use Rattle.std.proofs.Common.{◌≡◌, Bool, true, false, List, Result, Ok, Err, refl, sym, ap, subst, ◌∙◌}
use Rattle.std.specs.Prelude.{OnOk, OnErr}
use Rattle.gated_log.specs.States.{LogState}
use Rattle.redis_model.specs.declared.command.Cmds.{Cmds}
use Rattle.row_model.specs.Rows.{at}
use Rattle.log_store.specs.Keeping.{IsKept, Keeps, KeepsOrMore, KeptState}
use Rattle.log_store.proofs.Appending.{keeps_keys, keeps_mended, keeps_unsure}
use Rattle.log_store.proofs.store.LogStore.close.Goals as goal

on_ok : {T E P Q : Type 0} (r : Result T E) → (P → Q) → OnOk r P → OnOk r Q
on_ok (Ok x) f p = f p
on_ok (Err e) f p = tt

on_err : {T E P Q R : Type 0} (r : Result T E) → (P → Q → R) → OnErr r P → OnErr r Q → OnErr r R
on_err (Ok x) f p q = tt
on_err (Err e) f p q = f p q

-- a mending that fails was due
was_unsure : (before after : Bool) → (before ≡ false → after ≡ before) → after ≡ true → before ≡ true
was_unsure true after idle is = refl
was_unsure false after idle is = sym (idle refl) ∙ is

pub returns-clause-kept : goal.returns-clause-kept
returns-clause-kept g c =
    let old : KeptState = record { rows = at c.self.inside.table c.self.inside.sequence; floor = c.self.inside.floor; written = c.self.inside.written; log = c.self.inside.log; sequence = c.self.inside.sequence; planned = c.self.inside.planned } in
    subst (λ (s : KeptState). OnOk c.mend.result ((failed : List Cmds) → IsKept (g.F.Files.disk c.args.files.now) s failed → Keeps (g.F.Files.disk c.mend.new.files) s)) c.self.view_is
    (on_ok c.mend.result (keeps_mended (g.F.Files.disk c.args.files.now) (g.F.Files.disk c.mend.new.files) old c.mend.new.self c.mend.ensures.name) c.mend.ensures.mended)

pub returns-clause-keys : goal.returns-clause-keys
returns-clause-keys g c =
    on_ok c.mend.result (λ keeps failed kept s stands. keeps_keys (g.F.Files.disk c.mend.new.files) c.args.self.now s stands (keeps failed kept)) (returns-clause-kept g c)

pub returns-clause-kept_or_more : goal.returns-clause-kept_or_more
returns-clause-kept_or_more g c =
    let old : KeptState = record { rows = at c.self.inside.table c.self.inside.sequence; floor = c.self.inside.floor; written = c.self.inside.written; log = c.self.inside.log; sequence = c.self.inside.sequence; planned = c.self.inside.planned } in
    subst (λ (s : KeptState). OnErr c.mend.result ((failed : List Cmds) → IsKept (g.F.Files.disk c.args.files.now) s failed → KeepsOrMore (g.F.Files.disk c.mend.new.files) s failed)) c.self.view_is
    (on_err c.mend.result
    (λ unsure. keeps_unsure (g.F.Files.disk c.args.files.now) (g.F.Files.disk c.mend.new.files) old c.mend.new.self c.self.inside.log.unsure refl
    (was_unsure c.self.inside.log.unsure c.mend.new.self.unsure (λ sure. ap (λ (l : LogState). l.unsure) (c.mend.ensures.idle sure).1) unsure) c.mend.ensures.name)
    c.mend.ensures.unsure c.mend.ensures.not_mended)
