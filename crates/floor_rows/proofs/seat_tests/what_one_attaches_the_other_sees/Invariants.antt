use Rattle.floor_rows.proofs.seat_tests.what_one_attaches_the_other_sees.Given as goal

-- the forest that was made
abbrev pub ghosts-on_a_forest : goal.ghosts-on_a_forest
ghosts-on_a_forest g a = record { table = a.forest.now.table.value.shared.table_id; table_key = a.forest.now.table.value.shared.key }
