use Rattle.kv_tests_threads.proofs.shares.holders_take_turns.Given as goal

abbrev pub ghosts-go : goal.ghosts-go
ghosts-go g a = record { tally = a.tally.table }
