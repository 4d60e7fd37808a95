use Rattle.std.proofs.Common.{◌≡◌, true, Some, IfOk, ap, ◌∙◌, subst, arith}
use Rattle.std.specs.List.{list_all}
use Rattle.kv_base.specs.Map.{Bytes}
use Rattle.level_set.specs.Tables.{is_table}
use Rattle.edit_codec.specs.Records.{read_state_head}
use Rattle.edit_codec.specs.Records.{FitsHome}
use Rattle.edit_codec.specs.RecordLaws.{head_is_read}
use Rattle.edit_codec.specs.States.{is_state_head, with_epoch}
use Rattle.edit_codec.proofs.Writing.{each_is_table, head_written, if_ok_leads, list_fits}
use Rattle.edit_codec.proofs.encode.encode_head.Goals as goal

pub write_homes-requires : goal.write_homes-requires
write_homes-requires c = ap (list_all is_table) c.homes.ensures.all ∙ each_is_table c.args.state.now.levels c.homes.ensures.order

pub returns-clause-bytes : goal.returns-clause-bytes
returns-clause-bytes c =
    let state = with_epoch c.args.epoch c.args.state.now in
    let whole = head_written state c.in_ok-body.ensures c.in_ok-push.ensures.ok c.in_ok-put_u64.ensures.ok c.in_ok-write_numbers.ensures.written c.in_ok-write_homes.ensures.written c.homes.ensures.all in
    subst (λ (b : Bytes). IfOk c.finish.result (λ body. body ≡ b)) whole c.finish.ensures

pub returns-clause-read : goal.returns-clause-read
returns-clause-read c =
    let state = with_epoch c.args.epoch c.args.state.now in
    let whole = head_written state c.in_ok-body.ensures c.in_ok-push.ensures.ok c.in_ok-put_u64.ensures.ok c.in_ok-write_numbers.ensures.written c.in_ok-write_homes.ensures.written c.homes.ensures.all in
    if_ok_leads (λ (body : Bytes). body ≡ c.write_homes.new.body) (λ (body : Bytes). is_state_head state ≡ true → read_state_head body ≡ Some state) c.finish.result c.finish.ensures (λ body is limits.
    ap read_state_head (is ∙ whole)
    ∙ head_is_read state limits (omega (arith, c.ranges.epoch.fits), (c.write_numbers.ensures.fits, list_fits FitsHome c.homes.result.now state.levels c.homes.ensures.all c.in_ok-write_homes.ensures.fits)))
