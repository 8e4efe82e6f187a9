-- How many acts there are of each kind, and what became of how many elements by that.
use Rattle.std.specs.Prelude.{ℕ, ◌+◌, ◌-◌, List}
use Rattle.channel_model.specs.declared.acts.Act.{Act}
use Rattle.channel_model.specs.Laws.{how_many}
use Rattle.tally_laws.specs.Kinds.{is_hand, is_put, is_offer, is_take, is_drop, is_spurn, is_drain, is_wake, is_withdraw, is_settle}
use Rattle.tally_laws.specs.Kinds.{gives_value, gives_up, takes_back, offers_settled}

pub record Counts : Type 0 where
  pub hands : ℕ
  pub puts : ℕ
  pub offers : ℕ
  pub takes : ℕ
  pub drops : ℕ
  pub spurns : ℕ
  pub drains : ℕ
  -- how many receivers were told that their channel is closed
  pub wakes : ℕ
  pub withdraws : ℕ
  -- how many of these took a plain offer back
  pub taken_back : ℕ
  pub settles : ℕ
  -- how many of these as a value, and how many as undelivered
  pub values : ℕ
  pub given_up : ℕ
  -- how many of the offers were made with a wait that is settled
  pub ended : ℕ

abbrev pub nothing : Counts
nothing = record {
  hands = 0;
  puts = 0;
  offers = 0;
  takes = 0;
  drops = 0;
  spurns = 0;
  drains = 0;
  wakes = 0;
  withdraws = 0;
  taken_back = 0;
  settles = 0;
  values = 0;
  given_up = 0;
  ended = 0;
}

-- both together
abbrev pub added : Counts → Counts → Counts
added x y = record {
  hands = x.hands + y.hands;
  puts = x.puts + y.puts;
  offers = x.offers + y.offers;
  takes = x.takes + y.takes;
  drops = x.drops + y.drops;
  spurns = x.spurns + y.spurns;
  drains = x.drains + y.drains;
  wakes = x.wakes + y.wakes;
  withdraws = x.withdraws + y.withdraws;
  taken_back = x.taken_back + y.taken_back;
  settles = x.settles + y.settles;
  values = x.values + y.values;
  given_up = x.given_up + y.given_up;
  ended = x.ended + y.ended;
}

-- the counts of all these acts
abbrev pub counts_of : List Act → Counts
counts_of acts = record {
  hands = how_many is_hand acts;
  puts = how_many is_put acts;
  offers = how_many is_offer acts;
  takes = how_many is_take acts;
  drops = how_many is_drop acts;
  spurns = how_many is_spurn acts;
  drains = how_many is_drain acts;
  wakes = how_many is_wake acts;
  withdraws = how_many is_withdraw acts;
  taken_back = how_many (takes_back acts) acts;
  settles = how_many is_settle acts;
  values = how_many gives_value acts;
  given_up = how_many gives_up acts;
  ended = how_many (offers_settled acts) acts;
}

-- ---- what became of how many elements

abbrev pub elements : Counts → ℕ
elements n = n.puts + n.hands + n.offers

-- taken from a queue, or handed to a receiver that ended with a value
abbrev pub received : Counts → ℕ
received n = n.takes + n.values

-- drained, given up by the receiver, or taken back by a plain send
abbrev pub undelivered : Counts → ℕ
undelivered n = n.drains + n.given_up + n.taken_back

abbrev pub dropped : Counts → ℕ
dropped n = n.drops

abbrev pub spurned : Counts → ℕ
spurned n = n.spurns

-- how many waits were resolved at one of their offers: each that was settled was that, or was handed an element, told of a
-- close or withdrawn
abbrev pub resolved_at_offers : Counts → ℕ
resolved_at_offers n = n.settles - (n.hands + n.wakes + n.withdraws)

-- the offers of waits that are settled, without those at which such a wait was resolved and those that plain sends took back
abbrev pub withdrawn : Counts → ℕ
withdrawn n = n.ended - (resolved_at_offers n + n.taken_back)

-- the rest
abbrev pub held : Counts → ℕ
held n = elements n - (received n + undelivered n + dropped n + spurned n + withdrawn n)
