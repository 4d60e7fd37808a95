use Rattle.std.proofs.Common.{◌≡◌, ◌+◌, drop}
use Rattle.kv_fakes.specs.Content.{file_place}
use Rattle.kv_fakes.proofs.file.place_of.Given as goal

abbrev pub invariant-loop-at : goal.invariant-loop-at
invariant-loop-at l = l.at + file_place (drop l.at l.files) l.name ≡ file_place l.files l.name
