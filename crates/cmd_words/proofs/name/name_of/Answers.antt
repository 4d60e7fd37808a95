use Rattle.std.proofs.Common.{◌∙◌, arith}
use Rattle.std.proofs.lemmas.Bool.Decides.{nat_tests}
use Rattle.cmd_words.proofs.Finding.{found, no_name, no_word}
use Rattle.cmd_words.proofs.name.name_of.Goals as goal

pub returns-in_err-initial : goal.returns-in_err-initial
returns-in_err-initial c = c.from_residual.ensures ∙ no_word _ c.in_err-initial.ensures

pub returns-then-initial-eq115 : goal.returns-then-initial-eq115
returns-then-initial-eq115 c = found _ _ _ _ c.in_ok-initial.ensures c.if-initial-eq115.true c.with_s.ensures

pub returns-then-initial-eq103 : goal.returns-then-initial-eq103
returns-then-initial-eq103 c = found _ _ _ _ c.in_ok-initial.ensures c.if-initial-eq103.true c.with_g.ensures

pub returns-then-initial-eq104 : goal.returns-then-initial-eq104
returns-then-initial-eq104 c = found _ _ _ _ c.in_ok-initial.ensures c.if-initial-eq104.true c.with_h.ensures

pub returns-then-initial-eq108 : goal.returns-then-initial-eq108
returns-then-initial-eq108 c = found _ _ _ _ c.in_ok-initial.ensures c.if-initial-eq108.true c.with_l.ensures

pub returns-then-initial-eq122 : goal.returns-then-initial-eq122
returns-then-initial-eq122 c = found _ _ _ _ c.in_ok-initial.ensures c.if-initial-eq122.true c.with_z.ensures

pub returns-then-initial-eq109 : goal.returns-then-initial-eq109
returns-then-initial-eq109 c = found _ _ _ _ c.in_ok-initial.ensures c.if-initial-eq109.true c.with_m.ensures

pub returns-then-initial-eq100 : goal.returns-then-initial-eq100
returns-then-initial-eq100 c = found _ _ _ _ c.in_ok-initial.ensures c.if-initial-eq100.true c.with_d.ensures

pub returns-then-initial-eq105 : goal.returns-then-initial-eq105
returns-then-initial-eq105 c = found _ _ _ _ c.in_ok-initial.ensures c.if-initial-eq105.true c.with_i.ensures

pub returns-then-initial-eq101 : goal.returns-then-initial-eq101
returns-then-initial-eq101 c = found _ _ _ _ c.in_ok-initial.ensures c.if-initial-eq101.true c.with_e.ensures

pub returns-then-initial-eq114 : goal.returns-then-initial-eq114
returns-then-initial-eq114 c = found _ _ _ _ c.in_ok-initial.ensures c.if-initial-eq114.true c.with_r.ensures

pub returns-then-initial-eq116 : goal.returns-then-initial-eq116
returns-then-initial-eq116 c = found _ _ _ _ c.in_ok-initial.ensures c.if-initial-eq116.true c.with_t.ensures

pub returns-then-initial-eq112 : goal.returns-then-initial-eq112
returns-then-initial-eq112 c = found _ _ _ _ c.in_ok-initial.ensures c.if-initial-eq112.true c.with_p.ensures

pub returns-then-initial-eq97 : goal.returns-then-initial-eq97
returns-then-initial-eq97 c = found _ _ _ _ c.in_ok-initial.ensures c.if-initial-eq97.true c.with_a.ensures

pub returns-then-initial-eq113 : goal.returns-then-initial-eq113
returns-then-initial-eq113 c = found _ _ _ _ c.in_ok-initial.ensures c.if-initial-eq113.true c.with_q.ensures

pub returns-then-initial-eq107 : goal.returns-then-initial-eq107
returns-then-initial-eq107 c = found _ _ _ _ c.in_ok-initial.ensures c.if-initial-eq107.true c.with_k.ensures

pub returns-else-initial-eq107 : goal.returns-else-initial-eq107
returns-else-initial-eq107 c = no_name _ _ c.in_ok-initial.ensures (grind (arith, nat_tests))
