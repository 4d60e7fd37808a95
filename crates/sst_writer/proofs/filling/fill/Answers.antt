use Rattle.std.proofs.Common.{◌++◌, [], ◌∷◌, List, Option, Some, sym, ap, subst, ◌∙◌, arith}
use Rattle.kv_base.specs.RowRefs.{row_seen}
use Rattle.kv_base.specs.declared.row.Row.{Row}
use Rattle.merge_rows.specs.Cursors.{with_held}
use Rattle.sst_writer.specs.Cutting.{AreLeftOver, TakesNext}
use Rattle.sst_writer.specs.TakingLaws.{one_taken, some_left}
use Rattle.sst_writer.specs.WritingLaws.{agrees_on, on_err, touched_on}
use Rattle.sst_writer.proofs.filling.fill.Goals as goal

pub returns-in_err-row-clause-rest : goal.returns-in_err-row-clause-rest
returns-in_err-row-clause-rest g c =
    let f = c.loop-draft.invariant.filling in
    let old = with_held c.args.rows.now.held (g.C.Upcoming.rows c.args.rows.now.cursor) in
    let mid = with_held c.loop-draft.rows.held (g.C.Upcoming.rows c.loop-draft.rows.cursor) in
    on_err c.from_residual-in_err-row.result _ (subst (λ (o : Option (List Row)). AreLeftOver old o) (sym c.in_err-row.ensures.unchanged) (some_left c.args.limit f.done old mid f.taken))

pub returns-in_err-draft-2-clause-rest : goal.returns-in_err-draft-2-clause-rest
returns-in_err-draft-2-clause-rest g c =
    let f = c.loop-draft.invariant.filling in
    let old = with_held c.args.rows.now.held (g.C.Upcoming.rows c.args.rows.now.cursor) in
    let mid = with_held c.loop-draft.rows.held (g.C.Upcoming.rows c.loop-draft.rows.cursor) in
    let now = with_held c.take_next.new.rows.held (g.C.Upcoming.rows c.take_next.new.rows.cursor) in
    let row = c.in-Some.row in
    let took : TakesNext c.args.limit f.done mid (Some row) now =
    subst (λ (o : Option Row). TakesNext c.args.limit f.done mid o now) c.in-Some.is (c.in_ok-row.ensures.next f.done f.built) in
    on_err c.from_residual-in_err-draft-2.result _ (some_left c.args.limit (f.done ++ row ∷ []) old now (one_taken c.args.limit f.done old mid now row f.taken took))

pub loop-draft-preserved : goal.loop-draft-preserved
loop-draft-preserved g c =
    let F = g.F.Files in
    let i = c.loop-draft.invariant in
    let f = i.filling in
    let more = c.in_ok-draft-2.ensures in
    let old = with_held c.args.rows.now.held (g.C.Upcoming.rows c.args.rows.now.cursor) in
    let mid = with_held c.loop-draft.rows.held (g.C.Upcoming.rows c.loop-draft.rows.cursor) in
    let now = with_held c.take_next.new.rows.held (g.C.Upcoming.rows c.take_next.new.rows.cursor) in
    let row = row_seen c.by_ref.result in
    let took : TakesNext c.args.limit f.done mid (Some row) now =
    subst (λ (o : Option Row). TakesNext c.args.limit f.done mid o now) (c.in-Some.is ∙ ap (λ (r : Row). Some r) (sym c.by_ref.ensures)) (c.in_ok-row.ensures.next f.done f.built) in
    let name = F.name_of c.args.log.now in
    let first = F.disk c.args.files.now in
    let before = F.disk c.loop-draft.files in
    let step = F.disk c.take_next.new.files in
    let last = F.disk c.add.new.files in
    record {
      filling = record {
        done = f.done ++ row ∷ [];
        built = more.built f.done f.built;
        file = more.file f.done f.built f.file;
        taken = one_taken c.args.limit f.done old mid now row f.taken took;
      };
      off = c.take_next.ensures.off ∙ i.off;
      left = omega (arith, c.take_next.ensures.left, i.left);
      told = more.told ∙ i.told;
      name = c.add.ensures.name ∙ i.name;
      agrees = agrees_on name (F.name_of c.loop-draft.log) first before step last (F.bytes_of c.args.log.now) (F.bytes_of c.loop-draft.log) (F.bytes_of c.add.new.log) i.name i.agrees c.take_next.ensures.disk c.add.ensures.agrees;
      touched = touched_on name (F.name_of c.loop-draft.log) first before step last i.name i.touched c.take_next.ensures.disk c.add.ensures.touched;
      later = omega (arith, i.later, c.take_next.ensures.later, c.add.ensures.later);
    }

pub loop-draft-preserved-in_ok-draft-2 : goal.loop-draft-preserved-in_ok-draft-2
loop-draft-preserved-in_ok-draft-2 g c =
    let F = g.F.Files in
    let i = c.loop-draft.invariant in
    let f = i.filling in
    let more = c.in_ok-draft-2.ensures in
    let old = with_held c.args.rows.now.held (g.C.Upcoming.rows c.args.rows.now.cursor) in
    let mid = with_held c.loop-draft.rows.held (g.C.Upcoming.rows c.loop-draft.rows.cursor) in
    let now = with_held c.take_next.new.rows.held (g.C.Upcoming.rows c.take_next.new.rows.cursor) in
    let row = row_seen c.by_ref.result in
    let took : TakesNext c.args.limit f.done mid (Some row) now =
    subst (λ (o : Option Row). TakesNext c.args.limit f.done mid o now) (c.in-Some.is ∙ ap (λ (r : Row). Some r) (sym c.by_ref.ensures)) (c.in_ok-row.ensures.next f.done f.built) in
    let name = F.name_of c.args.log.now in
    let first = F.disk c.args.files.now in
    let before = F.disk c.loop-draft.files in
    let step = F.disk c.take_next.new.files in
    let last = F.disk c.add.new.files in
    record {
      filling = record {
        done = f.done ++ row ∷ [];
        built = more.built f.done f.built;
        file = more.file f.done f.built f.file;
        taken = one_taken c.args.limit f.done old mid now row f.taken took;
      };
      off = c.take_next.ensures.off ∙ i.off;
      left = omega (arith, c.take_next.ensures.left, i.left);
      told = more.told ∙ i.told;
      name = c.add.ensures.name ∙ i.name;
      agrees = agrees_on name (F.name_of c.loop-draft.log) first before step last (F.bytes_of c.args.log.now) (F.bytes_of c.loop-draft.log) (F.bytes_of c.add.new.log) i.name i.agrees c.take_next.ensures.disk c.add.ensures.agrees;
      touched = touched_on name (F.name_of c.loop-draft.log) first before step last i.name i.touched c.take_next.ensures.disk c.add.ensures.touched;
      later = omega (arith, i.later, c.take_next.ensures.later, c.add.ensures.later);
    }
