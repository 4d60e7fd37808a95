-- The bytes of an answer. The texts are this server's own where Redis has no such answer.
use Rattle.std.specs.Prelude.{ℕ, Bool, true, false, ◌++◌, codes, decimal, Result, Ok, Err}
use Rattle.kv_base.specs.Map.{Bytes}
use Rattle.kv_base.specs.declared.name.FileName.{FileName}
use Rattle.kv_base.specs.declared.name.FileName.TheVariants as file
use Rattle.redis_model.specs.declared.desk.DeskFault.{DeskFault}
use Rattle.redis_model.specs.declared.desk.DeskFault.TheVariants as desk
use Rattle.redis_model.specs.declared.reply.Reply.{Reply}
use Rattle.redis_model.specs.declared.reply.Reply.TheVariants as reply
use Rattle.redis_model.specs.Render.{render, line_end}
use Rattle.session.specs.declared.answer.Answer.{Answer}
use Rattle.session.specs.declared.answer.Answer.TheVariants as answer
use Rattle.cmd_words.specs.Texts.{command_fault_text}
use Rattle.cmd_words.specs.declared.fault.CommandFault.{CommandFault}
use Rattle.cmd_words.specs.declared.fault.CommandFault.TheVariants.{Unknown}

-- an error of RESP2
abbrev pub error_line : Bytes → Bytes
error_line text = codes "-" ++ text ++ line_end

-- words that are no command
abbrev pub refusal_line : CommandFault → Bytes
refusal_line fault = error_line (command_fault_text fault)

-- ---- a desk without a reply

-- the name of a file in its folder
abbrev pub file_text : FileName → Bytes
file_text file.SlotA = codes "slot-a"
file_text file.SlotB = codes "slot-b"
file_text (file.Segment n) = codes "wal-" ++ decimal n
file_text (file.Table id) = codes "t-" ++ decimal id.run ++ codes "-" ++ decimal id.part

abbrev pub damage_line : FileName → ℕ → Bytes
damage_line name place = error_line (codes "DAMAGED " ++ file_text name ++ codes " " ++ decimal place)

abbrev pub desk_fault_line : DeskFault → Bytes
desk_fault_line desk.IoError = error_line (codes "IOERR a file call failed")
desk_fault_line desk.NoMem = error_line (codes "NOMEM no memory")
desk_fault_line (desk.Damaged name place) = damage_line name place
desk_fault_line desk.SeqFull = error_line (codes "ERR sequence exhausted")
desk_fault_line desk.TooBig = error_line (codes "ERR batch too large")
desk_fault_line desk.Busy = error_line (codes "BUSY another job is open")

-- ---- an answer

-- what is not served yet is answered as what is none, and QUIT with OK
unfoldable pub say : Answer → Bytes
say (answer.Reply reply) = render reply
say (answer.Refused fault) = refusal_line fault
say answer.Unserved = refusal_line Unknown
say (answer.Fault fault) = desk_fault_line fault
say answer.Quit = render reply.Ok

-- what a desk answered
abbrev pub desk_answer : Result Reply DeskFault → Answer
desk_answer (Ok reply) = answer.Reply reply
desk_answer (Err fault) = answer.Fault fault

-- the answer to QUIT
abbrev pub quits : Answer → Bool
quits answer.Quit = true
quits _ = false
