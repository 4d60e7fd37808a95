-- What is answered of rows.
use Rattle.std.proofs.Common.{List}
use Rattle.std.specs.Prelude.{map}
use Rattle.std.specs.List.{flat_map}
use Rattle.kv_base.specs.Map.{Bytes}
use Rattle.redis_model.specs.declared.reply.Reply.{Reply}
use Rattle.redis_model.specs.declared.reply.Reply.TheVariants as reply
use Rattle.lives_model.specs.declared.view.LiveRow.{LiveRow}
use Rattle.lives_model.specs.LiveRowLists.{pairs}
use Rattle.life_pages.specs.declared.whole.Whole.{Whole}
use Rattle.life_pages.specs.LifeElements.{element_in}
use Rattle.life_pages.specs.Whole.{parts_in}

-- the bulks that are answered of rows of a key, in order
abbrev pub bulks_in : Whole → Bytes → List LiveRow → List Reply
bulks_in form k rows = map reply.Bulk (flat_map (parts_in form) (map (element_in k) (pairs rows)))
