use Rattle.floor_rows.proofs.words.latest_at_once.send.Goals as goal

pub spurn_one-requires-clause-put : goal.spurn_one-requires-clause-put
spurn_one-requires-clause-put c = c.offer_one.ensures.put c.in-Put.place c.in-Put.is
