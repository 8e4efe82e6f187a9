-- The kinds of acts that a tally numbers.
use Rattle.std.specs.Prelude.{◌==◌, Bool, true, false, List}
use Rattle.std.specs.List.{list_any}
use Rattle.channel_model.specs.declared.acts.Act.{Act}
use Rattle.channel_model.specs.declared.acts.Act.TheVariants.{Hand, Put, Offer, Take, Drop, Spurn, Drain, WakeClosed, Withdraw, Settle}
use Rattle.co_base.specs.declared.names.WaitId.{WaitId}
use Rattle.channel_model.specs.Channels.{same_wait}
use Rattle.channel_model.specs.Fates.{is_value, is_undelivered, of_offer, first_some, offers_at}

-- ---- one act alone

abbrev pub is_hand : Act → Bool
is_hand (Hand c p v) = true
is_hand other = false

abbrev pub is_put : Act → Bool
is_put (Put c p v) = true
is_put other = false

abbrev pub is_offer : Act → Bool
is_offer (Offer c p v w k) = true
is_offer other = false

abbrev pub is_take : Act → Bool
is_take (Take c p v) = true
is_take other = false

abbrev pub is_drop : Act → Bool
is_drop (Drop c p v) = true
is_drop other = false

abbrev pub is_spurn : Act → Bool
is_spurn (Spurn c p v) = true
is_spurn other = false

abbrev pub is_drain : Act → Bool
is_drain (Drain c p v) = true
is_drain other = false

abbrev pub is_wake : Act → Bool
is_wake (WakeClosed c p) = true
is_wake other = false

abbrev pub is_withdraw : Act → Bool
is_withdraw (Withdraw w why) = true
is_withdraw other = false

abbrev pub is_settle : Act → Bool
is_settle (Settle w outcome) = true
is_settle other = false

-- the act settles a wait as a value
abbrev pub gives_value : Act → Bool
gives_value (Settle w outcome) = is_value outcome
gives_value other = false

-- the act settles a wait as undelivered
abbrev pub gives_up : Act → Bool
gives_up (Settle w outcome) = is_undelivered outcome
gives_up other = false

-- ---- one act among all

abbrev pub settles_wait : WaitId → Act → Bool
settles_wait w (Settle v outcome) = same_wait w v
settles_wait w other = false

-- the place that has the name of this wait got its element by a plain offer
abbrev pub is_plain_offer : List Act → WaitId → Bool
is_plain_offer acts w = of_offer (λ k. k == 0) (first_some (offers_at w.channel w.place) acts)

-- the act withdraws the wait of a plain offer
abbrev pub takes_back : List Act → Act → Bool
takes_back acts (Withdraw w why) = is_plain_offer acts w
takes_back acts other = false

-- the act offers with a wait that is settled
abbrev pub offers_settled : List Act → Act → Bool
offers_settled acts (Offer c p v w k) = list_any (settles_wait w) acts
offers_settled acts other = false
