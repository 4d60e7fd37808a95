use Rattle.sst_writer.specs.BuildingLaws.{none_built}
use Rattle.sst_writer.proofs.building.TableBuilder.new.Goals as goal

pub returns : goal.returns
returns c = none_built c.in_ok-new.field-0 c.new-2.result.items c.new-3.result.rows c.new-3.result.keys.items c.new-3.result.least c.new-3.result.last c.in_ok-new.ensures c.new-2.ensures.items c.new-3.ensures
