use Rattle.std.proofs.Common.{◌≡◌, ◌++◌, take, drop}
use Rattle.std.specs.List.{flat_map}
use Rattle.edit_codec.specs.Codecs.{EachFits}
use Rattle.edit_codec.specs.Records.{home_text}
use Rattle.edit_codec.specs.Records.{FitsHome}
use Rattle.edit_codec.proofs.encode.write_homes.Given as goal

abbrev pub invariant-loop-home : goal.invariant-loop-home
invariant-loop-home l = record {
  written : l.body ++ flat_map home_text (drop l.home-index l.homes) ≡ l.initial.body ++ flat_map home_text l.homes;
  fit : EachFits FitsHome (take l.home-index l.homes);
}
