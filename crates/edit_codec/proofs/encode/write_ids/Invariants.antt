use Rattle.std.proofs.Common.{◌≡◌, ◌++◌, take, drop}
use Rattle.std.specs.List.{flat_map}
use Rattle.edit_codec.specs.Codecs.{EachFits}
use Rattle.edit_codec.specs.Records.{id_text}
use Rattle.edit_codec.specs.Records.{FitsId}
use Rattle.edit_codec.proofs.encode.write_ids.Given as goal

abbrev pub invariant-loop-id : goal.invariant-loop-id
invariant-loop-id l = record {
  written : l.body ++ flat_map id_text (drop l.id-index l.ids) ≡ l.initial.body ++ flat_map id_text l.ids;
  fit : EachFits FitsId (take l.id-index l.ids);
}
