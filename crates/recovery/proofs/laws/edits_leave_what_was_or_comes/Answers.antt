use Rattle.std.proofs.Common.{◌≡◌, true}
use Rattle.recovery.specs.RecoverLaws.{edits_leave}
use Rattle.recovery.proofs.laws.edits_leave_what_was_or_comes.Goals as goal

pub returns : goal.returns
returns g c = λ slot before after was comes is_slot says alone first last.
    edits_leave (g.F.Files.disk c.args.old.now) (g.F.Files.disk c.args.new.now) slot before after (λ found. was found ≡ true) (λ found. comes found ≡ true) is_slot says alone first last
