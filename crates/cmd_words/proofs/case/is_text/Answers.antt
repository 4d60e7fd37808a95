use Rattle.cmd_words.proofs.Walk.{test_is}
use Rattle.cmd_words.proofs.case.is_text.Goals as goal

pub returns : goal.returns
returns c = test_is _ _ _ c.eq_ignore_ascii_case.ensures.test
