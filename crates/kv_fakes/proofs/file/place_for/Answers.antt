use Rattle.std.proofs.Common.{◌≡◌, length, refl, sym, ◌∙◌, arith, ap}
use Rattle.kv_fakes.specs.Content.{file_place}
use Rattle.kv_fakes.proofs.Files.{place_push, same_pushed, place_within}
use Rattle.kv_fakes.proofs.file.place_for.Goals as goal

pub returns-in_ok-push-clause-place : goal.returns-in_ok-push-clause-place
returns-in_ok-push-clause-place c =
    let here : c.place_of-at.result ≡ file_place c.args.files.now.items c.args.name = c.place_of-at.ensures ∙ ap (λ l. file_place l c.args.name) c.deref.ensures.value in
    let last : c.place_of-at.result ≡ length c.args.files.now.items = omega (arith, c.if-at-len.true, c.len.ensures) in
    last ∙ sym (ap (λ l. file_place l c.args.name) c.in_ok-push.ensures.items ∙ place_push c.args.files.now.items _ c.args.name refl (omega (arith, here, last)))

pub returns-in_ok-push-clause-same : goal.returns-in_ok-push-clause-same
returns-in_ok-push-clause-same c = same_pushed c.args.files.now.items c.push.new.self.items _ c.new.ensures.items c.in_ok-push.ensures.items

pub returns-else-at-len-clause-there : goal.returns-else-at-len-clause-there
returns-else-at-len-clause-there c = omega (arith, c.if-at-len.false, c.len.ensures, c.place_of-at.ensures ∙ ap (λ l. file_place l c.args.name) c.deref.ensures.value, place_within c.args.files.now.items c.args.name)
