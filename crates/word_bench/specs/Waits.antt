-- Waits of one who sends or receives.
use Rattle.std.specs.Prelude.{ℕ}
use Rattle.channel_model.specs.declared.floor.Got.{Got}
use Rattle.channel_model.specs.declared.floor.Got.TheVariants as got
use Rattle.channel_model.specs.declared.floor.Offered.{Offered}
use Rattle.channel_model.specs.declared.floor.Offered.TheVariants as offered
use Rattle.channel_model.specs.Histories.{replay}
use Rattle.channel_model.specs.Answers.{IsUnsettledOf, IsReadyWait}
use Rattle.channel_model.specs.PlainOffers.{OffersPlainly}
use Rattle.cell_words.specs.declared.pass.Pass.{Pass}
use Rattle.word_rules.specs.Cells.{spot}
use Rattle.cell_words.specs.Hubs.{seen_by}

-- the wait that began at this place of a channel is who's, who has not settled it
abbrev pub HoldsWait : ℕ → ℕ → ℕ → Pass → Type 0
HoldsWait who c p pass = IsUnsettledOf who ((replay (seen_by pass).seen).waits (spot c p))

-- and was seen resolved
abbrev pub IsReadyAt : ℕ → ℕ → ℕ → Pass → Type 0
IsReadyAt who c p pass = IsReadyWait who ((replay (seen_by pass).seen).waits (spot c p))

-- it is that of an offer
abbrev pub HoldsOffer : ℕ → ℕ → ℕ → Pass → Type 0
HoldsOffer who c p pass = OffersPlainly who (spot c p) (replay (seen_by pass).seen)

-- it waits as before
abbrev pub KeepsOffers : ℕ → Pass → Pass → Type 0
KeepsOffers who old new = (p : ℕ) → HoldsOffer who 0 p old → HoldsOffer who 0 p new

-- who has to wait for a receiver or for room has begun a wait
abbrev pub BeginsOffer : ℕ → ℕ → Pass → Offered → Type 0
BeginsOffer who c pass (offered.Handed p t) = Unit {0}
BeginsOffer who c pass (offered.Put p) = Unit {0}
BeginsOffer who c pass (offered.Held p) = HoldsOffer who c p pass
BeginsOffer who c pass (offered.Closed v) = Unit {0}
BeginsOffer who c pass offered.Spent = Unit {0}

-- and so has who has to wait for an element
abbrev pub BeginsWait : ℕ → ℕ → Pass → Got → Type 0
BeginsWait who c pass (got.Taken p v t) = Unit {0}
BeginsWait who c pass (got.Waiting p) = HoldsWait who c p pass
BeginsWait who c pass (got.Closed v) = Unit {0}
BeginsWait who c pass got.Spent = Unit {0}
