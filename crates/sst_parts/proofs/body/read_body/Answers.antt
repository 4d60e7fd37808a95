use Rattle.std.proofs.Common.{ap, sym, ◌∙◌, [], ◌∷◌, Some, option_map, length, map}
use Rattle.std.proofs.lemmas.List.{map-append}
use Rattle.kv_base.specs.RowRefs.{row_seen}
use Rattle.sst_parts.specs.BlockLaws.{rows_onto, rows_left, body_begins, one_row_more, no_row_more, body_ends, next_shortens}
use Rattle.sst_parts.proofs.body.read_body.Goals as goal

pub loop-before-init : goal.loop-before-init
loop-before-init c =
    ap (λ items. rows_onto (map row_seen items) (rows_left (length c.args.body.now) (option_map row_seen c.args.last) c.args.body.now)) c.new-rows.ensures.items
    ∙ body_begins (option_map row_seen c.args.last) c.args.body.now

pub returns-in_default : goal.returns-in_default
returns-in_default c =
    let l = c.loop-before in
    sym (no_row_more (length c.args.body.now) (map row_seen l.rows.items) (option_map row_seen l.before) l.rest.now (sym c.in_default.ensures) (sym c.loop-before-test.ensures)) ∙ l.invariant

pub loop-before-smaller : goal.loop-before-smaller
loop-before-smaller c =
    let l = c.loop-before in
    let f = c.in-Some.front in
    next_shortens (length c.args.body.now) (option_map row_seen l.before) l.rest.now (row_seen f.row, f.behind.now) (sym c.in-Some.ensures)

pub loop-before-preserved : goal.loop-before-preserved
loop-before-preserved c =
    let l = c.loop-before in
    let f = c.in-Some.front in
    ap (λ items. rows_onto (map row_seen items) (rows_left (length c.args.body.now) (Some (row_seen f.row)) f.behind.now)) c.in_ok-push.ensures.items
    ∙ ap (λ rows. rows_onto rows (rows_left (length c.args.body.now) (Some (row_seen f.row)) f.behind.now)) (map-append row_seen l.rows.items (f.row ∷ []))
    ∙ sym (one_row_more (length c.args.body.now) (map row_seen l.rows.items) (option_map row_seen l.before) l.rest.now (row_seen f.row, f.behind.now) (sym c.in-Some.ensures) (sym c.loop-before-test.ensures))
    ∙ l.invariant

pub returns : goal.returns
returns c =
    let l = c.loop-before in
    sym (body_ends (length c.args.body.now) (map row_seen l.rows.items) (option_map row_seen l.before) l.rest.now (sym c.loop-before-test.ensures)) ∙ l.invariant
