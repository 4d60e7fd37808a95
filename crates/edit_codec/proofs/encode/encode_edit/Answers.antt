use Rattle.std.proofs.Common.{◌≡◌, Some, IfOk, ap, ◌∙◌, subst}
use Rattle.kv_base.specs.Map.{Bytes}
use Rattle.edit_codec.specs.Records.{read_edit}
use Rattle.edit_codec.specs.Records.{FitsId, FitsHome}
use Rattle.edit_codec.specs.RecordLaws.{edit_is_read}
use Rattle.edit_codec.proofs.Writing.{edit_written, if_ok_leads, list_fits}
use Rattle.edit_codec.proofs.encode.encode_edit.Goals as goal

pub returns-clause-bytes : goal.returns-clause-bytes
returns-clause-bytes c =
    let whole = edit_written c.args.edit.now c.in_ok-body.ensures c.in_ok-push.ensures.ok c.in_ok-write_numbers.ensures.written c.in_ok-write_ids.ensures.written c.in_ok-write_homes.ensures.written c.as_slice.ensures c.as_slice-2.ensures in
    subst (λ (b : Bytes). IfOk c.finish.result (λ body. body ≡ b)) whole c.finish.ensures

pub returns-clause-read : goal.returns-clause-read
returns-clause-read c =
    let edit = c.args.edit.now in
    let whole = edit_written edit c.in_ok-body.ensures c.in_ok-push.ensures.ok c.in_ok-write_numbers.ensures.written c.in_ok-write_ids.ensures.written c.in_ok-write_homes.ensures.written c.as_slice.ensures c.as_slice-2.ensures in
    let read = edit_is_read edit c.requires
    (c.write_numbers.ensures.fits, (list_fits FitsId c.as_slice.result.now edit.removed c.as_slice.ensures c.in_ok-write_ids.ensures.fits, list_fits FitsHome c.as_slice-2.result.now edit.added c.as_slice-2.ensures c.in_ok-write_homes.ensures.fits)) in
    if_ok_leads (λ (body : Bytes). body ≡ c.write_homes.new.body) (λ (body : Bytes). read_edit body ≡ Some edit) c.finish.result c.finish.ensures (λ body is. ap read_edit (is ∙ whole) ∙ read)
