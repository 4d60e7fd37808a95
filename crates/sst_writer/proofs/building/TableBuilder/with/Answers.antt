use Rattle.std.proofs.Common.{◌++◌, [], ◌∷◌, ◌∙◌, sym, arith, rules}
use Rattle.kv_base.specs.RowRefs.{row_seen}
use Rattle.sst_writer.specs.Building.{chunk}
use Rattle.sst_writer.specs.BuildingLaws.{open_built, open_more, closed_built, closed_more, those_sums}
use Rattle.sst_sums.specs.OkLaws.{ok_then}
use Rattle.sst_writer.proofs.building.TableBuilder.with.Goals as goal

pub returns-then-len-lt-BLOCK_SIZE-clause-built : goal.returns-then-len-lt-BLOCK_SIZE-clause-built
returns-then-len-lt-BLOCK_SIZE-clause-built c = λ rows built.
    open_built c.args.self.end c.args.self.block c.push.new.self c.args.self.spots.items c.args.self.sums.rows c.args.self.sums.keys.items c.args.self.sums.least c.args.self.sums.last rows (row_seen c.args.row) built c.in_ok-push.ensures (sym c.may_follow.ensures ∙ c.if-not-may_follow.false) (search rules)
    c.in_ok-sums.sums.rows c.in_ok-sums.sums.keys.items c.in_ok-sums.sums.least c.in_ok-sums.sums.last (omega (arith, c.len.ensures, c.if-len-lt-BLOCK_SIZE.true)) (c.in_ok-sums.ensures rows built.sums)

pub returns-then-len-lt-BLOCK_SIZE-clause-more : goal.returns-then-len-lt-BLOCK_SIZE-clause-more
returns-then-len-lt-BLOCK_SIZE-clause-more c = λ rows built.
    open_more c.args.self.end c.args.self.block c.push.new.self c.args.self.spots.items c.args.self.sums.rows c.args.self.sums.keys.items c.args.self.sums.least c.args.self.sums.last rows (row_seen c.args.row) built c.in_ok-push.ensures (sym c.may_follow.ensures ∙ c.if-not-may_follow.false) (search rules)
    (omega (arith, c.len.ensures, c.if-len-lt-BLOCK_SIZE.true))

pub returns-clause-built : goal.returns-clause-built
returns-clause-built c =
    let old = c.args.self in
    let sums = c.in_ok-sums.sums in
    let row = row_seen c.args.row in
    ok_then c.close.result _ _ _ c.close.ensures.closed c.close.ensures.sums (λ added closed those rows built.
    closed_built old.end old.block c.push.new.self old.spots.items old.sums.rows old.sums.keys.items old.sums.least old.sums.last rows row built c.in_ok-push.ensures (sym c.may_follow.ensures ∙ c.if-not-may_follow.false) (search rules)
    (omega (arith, c.len.ensures, c.if-len-lt-BLOCK_SIZE.false)) c.in_ok-last.last c.in_ok-last.ensures added.builder.end added.builder.block added.builder.spots.items (chunk added.full) closed
    added.builder.sums.rows added.builder.sums.keys.items added.builder.sums.least added.builder.sums.last
    (those_sums added.builder.sums.rows sums.rows added.builder.sums.keys.items sums.keys.items added.builder.sums.least sums.least added.builder.sums.last sums.last (rows ++ row ∷ []) those (c.in_ok-sums.ensures rows built.sums)))

pub returns-clause-more : goal.returns-clause-more
returns-clause-more c =
    let old = c.args.self in
    let row = row_seen c.args.row in
    ok_then c.close.result _ _ _ c.close.ensures.closed c.close.ensures.sums (λ added closed those rows built.
    closed_more old.end old.block c.push.new.self old.spots.items old.sums.rows old.sums.keys.items old.sums.least old.sums.last rows row built c.in_ok-push.ensures (sym c.may_follow.ensures ∙ c.if-not-may_follow.false) (search rules)
    (omega (arith, c.len.ensures, c.if-len-lt-BLOCK_SIZE.false)) c.in_ok-last.last c.in_ok-last.ensures added.builder.end added.builder.block added.builder.spots.items (chunk added.full) closed)
