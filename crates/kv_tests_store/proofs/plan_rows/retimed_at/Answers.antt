use Rattle.std.proofs.Common.{sym, ◌∙◌, ap, option_map}
use Rattle.kv_base.specs.MetaValueLaws.{only_meta_is_read}
use Rattle.kv_base.specs.RowRefs.{meta_seen}
use Rattle.kv_tests_store.proofs.plan_rows.retimed_at.Goals as goal

pub put_deadline-requires-clause-metadata : goal.put_deadline-requires-clause-metadata
put_deadline-requires-clause-metadata c = (only_meta_is_read _ _ (sym c.decode_meta.ensures ∙ ap (λ o. option_map meta_seen o) c.in-Some.is)).1
