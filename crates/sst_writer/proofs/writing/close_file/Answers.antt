use Rattle.sst_sums.specs.OkLaws.{ok_then}
use Rattle.sst_writer.specs.WritingLaws.{closed_durable}
use Rattle.sst_writer.proofs.writing.close_file.Goals as goal

pub returns-clause-durable : goal.returns-clause-durable
returns-clause-durable g c =
    let F = g.F.Files in
    ok_then c.seal.result _ _ _ c.seal.ensures.bytes c.seal.ensures.bytes (λ file is again agrees.
    closed_durable (F.name_of c.args.log) (F.name_of c.append.new.log) (F.disk c.args.files.now) (F.disk c.append.new.files) (F.disk c.sync.new.self) (F.disk c.seal.new.self)
    (F.bytes_of c.args.log) (F.bytes_of c.append.new.log) (F.bytes_of c.sync.new.log) (F.sealed_bytes file)
    c.append.ensures.name c.append.ensures.agrees c.in_ok-sync.ensures.durable c.seal.ensures.disk is agrees)
