use Rattle.manifest_set.specs.ReadingLaws.{reads_same}
use Rattle.manifest_set.proofs.Opening.{slots_read}
use Rattle.manifest_set.proofs.manifest.Manifest.read.Goals as goal

pub returns-clause-reads : goal.returns-clause-reads
returns-clause-reads g c =
    slots_read _ _ _ c.in_ok-first.first.items c.in_ok-second.second.items c.read_file.ensures.disk c.read_file-2.ensures.disk c.in_ok-first.ensures.bytes c.in_ok-second.ensures.bytes
    c.in_ok-first.ensures.durable c.in_ok-second.ensures.durable c.read_both.result
    (reads_same c.as_slice.result.now c.as_slice-2.result.now c.in_ok-first.first.items c.in_ok-second.second.items c.read_both.result c.as_slice.ensures.value c.as_slice-2.ensures.value c.read_both.ensures)
