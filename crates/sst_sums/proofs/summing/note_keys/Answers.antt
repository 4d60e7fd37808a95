use Rattle.std.proofs.Common.{None, [], option_map, map, get_or, ◌+◌, ◌++◌, refl, sym, ◌∙◌, arith}
use Rattle.kv_base.specs.declared.row.RowRef.{RowRef}
use Rattle.kv_base.specs.RowRefs.{row_seen}
use Rattle.sst_parts.specs.Filter.{hash_of}
use Rattle.sst_sums.specs.Summing.{new_keys}
use Rattle.sst_sums.specs.SummingLaws.{still_new, noted_new, noted_old, all_noted}
use Rattle.sst_sums.proofs.summing.note_keys.Goals as goal
use Rattle.sst_sums.proofs.summing.note_keys.Goals.{then-is_new+in_ok-push, else-is_new}

abbrev nobody : RowRef
nobody = record { raw = record { ref_ptr = (0, 0); now = [] }; seq = 0; value = None }

pub loop-row-preserved : goal.loop-row-preserved
loop-row-preserved c =
    let l = c.loop-row in
    let rows = c.args.rows.now in
    let i = l.row-index in
    let x : RowRef = get_or rows i nobody in
    let last = option_map (λ bytes. bytes.now) l.last in
    elim c.if-is_new.branch [
      | then-is_new+in_ok-push w ↦
          (λ j. (w.keys-is j).items ++ still_new (option_map (λ bytes. bytes.now) (w.last-is j)) (i + 1) rows)
          ∙ noted_new l.keys.items w.push.new.self.items w.of.result last rows i (i + 1) nobody x refl (omega arith) (omega arith) (sym w.if-is_new.ensures) w.of.ensures w.in_ok-push.ensures.items
          ∙ l.invariant
      | else-is_new w ↦
          (λ j. (w.keys-is j).items ++ still_new (option_map (λ bytes. bytes.now) (w.last-is j)) (i + 1) rows)
          ∙ noted_old l.keys.items last rows i (i + 1) nobody x refl (omega arith) (omega arith) (sym w.if-is_new.ensures)
          ∙ l.invariant
    ]

pub returns : goal.returns
returns c =
    all_noted c.loop-row.keys.items (c.args.keys.now.items ++ map hash_of (new_keys (option_map (λ bytes. bytes.now) c.args.before) (map row_seen c.args.rows.now)))
    (option_map (λ bytes. bytes.now) c.loop-row.last) c.args.rows.now c.loop-row.row-index (omega arith) c.loop-row.invariant
