use Rattle.sst_file.proofs.Bodies.{body_within, body_is_left}
use Rattle.sst_file.proofs.block_rest.BlockRest.of_block.Goals as goal

pub overflow_sub-at : goal.overflow_sub-at
overflow_sub-at c =
    body_within c.args.block.items c.as_slice-bytes.result.now c.in_ok-body.body.now c.in_ok-body.behind.now c.as_slice-bytes.ensures.value c.in_ok-body.ensures

pub returns : goal.returns
returns c =
    body_is_left c.args.block.items c.as_slice-bytes.result.now c.in_ok-body.body.now c.in_ok-body.behind.now c.as_slice-bytes.ensures.value c.in_ok-body.ensures c.if-not-is_empty.ensures
