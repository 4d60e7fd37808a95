use Rattle.kv_tests_threads.proofs.turns.many_callers_add_to_one_list.Given as goal

abbrev pub ghosts-go-N-NamesHall : goal.ghosts-go-N-NamesHall
ghosts-go-N-NamesHall g a = record { hall = a.opened.table }

abbrev pub ghosts-go-N-NamesFirstGuests : goal.ghosts-go-N-NamesFirstGuests
ghosts-go-N-NamesFirstGuests g a = record { first = a.opened.state.list.items }
