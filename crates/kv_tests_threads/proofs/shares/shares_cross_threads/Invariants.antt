use Rattle.kv_tests_threads.proofs.shares.shares_cross_threads.Given as goal

abbrev pub ghosts-sent : goal.ghosts-sent
ghosts-sent g a = record { tally = a.tally.table }
