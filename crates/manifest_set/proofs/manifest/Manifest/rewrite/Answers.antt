use Rattle.std.proofs.Common.{◌∙◌, arith}
use Rattle.manifest_set.specs.RewritingLaws.{goes_on_moments, goes_on_kept, goes_on_alone, nothing_written, nothing_alone, anew_moments, anew_kept, anew_alone}
use Rattle.manifest_set.proofs.Opening.{head_named}
use Rattle.manifest_set.proofs.manifest.Manifest.rewrite.Goals as goal

pub returns-in-Ok-clause-kept : goal.returns-in-Ok-clause-kept
returns-in-Ok-clause-kept g c = λ has.
    goes_on_kept _ _ c.args.slots.now has (omega (arith, c.if-epoch-ge-LAST_EPOCH.true)) c.resume.ensures.any_moment c.in-Ok.slot c.in-Ok.ensures.name c.in-Ok.ensures.rests

pub returns-in-Ok-clause-any_moment : goal.returns-in-Ok-clause-any_moment
returns-in-Ok-clause-any_moment g c = λ has. goes_on_moments _ _ c.args.slots.now has (omega (arith, c.if-epoch-ge-LAST_EPOCH.true)) c.resume.ensures.any_moment

pub returns-in-Err-clause-any_moment : goal.returns-in-Err-clause-any_moment
returns-in-Err-clause-any_moment g c = λ has. goes_on_moments _ _ c.args.slots.now has (omega (arith, c.if-epoch-ge-LAST_EPOCH.true)) c.resume.ensures.any_moment

pub returns-in_err-head-clause-any_moment : goal.returns-in_err-head-clause-any_moment
returns-in_err-head-clause-any_moment g c = λ has. nothing_written _ (g.F.Files.disk c.args.files.now) c.args.slots.now has _

pub returns-in-Ok-write_head-clause-kept : goal.returns-in-Ok-write_head-clause-kept
returns-in-Ok-write_head-clause-kept g c = λ has.
    anew_kept _ _ c.args.slots.now has (omega (arith, c.if-epoch-ge-LAST_EPOCH.false)) c.in_ok-head.head c.in_ok-head.ensures.read
    (head_named _ _ _ _ _ c.other_slot.ensures c.write_head.ensures.any_moment) c.in-Ok-write_head.slot (c.in-Ok-write_head.ensures.name ∙ c.other_slot.ensures) c.in-Ok-write_head.ensures.rests

pub returns-in-Ok-write_head-clause-any_moment : goal.returns-in-Ok-write_head-clause-any_moment
returns-in-Ok-write_head-clause-any_moment g c = λ has.
    anew_moments _ _ c.args.slots.now has (omega (arith, c.if-epoch-ge-LAST_EPOCH.false)) c.in_ok-head.head c.in_ok-head.ensures.read
    (head_named _ _ _ _ _ c.other_slot.ensures c.write_head.ensures.any_moment)

pub returns-clause-any_moment : goal.returns-clause-any_moment
returns-clause-any_moment g c = λ has.
    anew_moments _ _ c.args.slots.now has (omega (arith, c.if-epoch-ge-LAST_EPOCH.false)) c.in_ok-head.head c.in_ok-head.ensures.read
    (head_named _ _ _ _ _ c.other_slot.ensures c.write_head.ensures.any_moment)

pub returns-in-Ok-clause-alone : goal.returns-in-Ok-clause-alone
returns-in-Ok-clause-alone g c = λ has. goes_on_alone _ _ c.args.slots.now has (omega (arith, c.if-epoch-ge-LAST_EPOCH.true)) c.resume.ensures.any_moment

pub returns-in-Err-clause-alone : goal.returns-in-Err-clause-alone
returns-in-Err-clause-alone g c = λ has. goes_on_alone _ _ c.args.slots.now has (omega (arith, c.if-epoch-ge-LAST_EPOCH.true)) c.resume.ensures.any_moment

pub returns-in_err-head-clause-alone : goal.returns-in_err-head-clause-alone
returns-in_err-head-clause-alone g c = λ has. nothing_alone _ (g.F.Files.disk c.args.files.now) c.args.slots.now has

pub returns-in-Ok-write_head-clause-alone : goal.returns-in-Ok-write_head-clause-alone
returns-in-Ok-write_head-clause-alone g c = λ has.
    anew_alone _ _ c.args.slots.now has (omega (arith, c.if-epoch-ge-LAST_EPOCH.false)) c.in_ok-head.head c.in_ok-head.ensures.read
    (head_named _ _ _ _ _ c.other_slot.ensures c.write_head.ensures.any_moment)

pub returns-clause-alone : goal.returns-clause-alone
returns-clause-alone g c = λ has.
    anew_alone _ _ c.args.slots.now has (omega (arith, c.if-epoch-ge-LAST_EPOCH.false)) c.in_ok-head.head c.in_ok-head.ensures.read
    (head_named _ _ _ _ _ c.other_slot.ensures c.write_head.ensures.any_moment)
