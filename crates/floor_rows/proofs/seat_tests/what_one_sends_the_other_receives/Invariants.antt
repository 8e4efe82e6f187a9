use Rattle.floor_rows.proofs.seat_tests.what_one_sends_the_other_receives.Given as goal

-- the hub that was made
abbrev pub ghosts-on_a_hub : goal.ghosts-on_a_hub
ghosts-on_a_hub g a = record { table = a.hub.now.table.value.shared.table_id; table_key = a.hub.now.table.value.shared.key }
