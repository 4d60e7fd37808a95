use Rattle.std.proofs.Common.{rules}
use Rattle.batch_codec.proofs.Building.{deduped}
use Rattle.batch_codec.proofs.builder.keep_last.Goals as goal

pub returns : goal.returns
returns c = deduped _ _ (λ e kept t g e' kept' called. search rules) _ _ c.dedup_by.ensures.filtered
