-- The order of the entries of both histories.
use Rattle.std.specs.Prelude.{List, [], ◌∷◌}
use Rattle.co_base.specs.Orders.{Side, OfChannels, OfJobs}
use Rattle.either.specs.declared.Either.{Either}
use Rattle.either.specs.declared.Either.TheVariants.{Left, Right}
use Rattle.channel_model.specs.declared.acts.Entry.{Entry}
use Rattle.word_rules.specs.declared.deed.Deed.{Deed}
use Rattle.word_rules.specs.declared.deed.Deed.TheVariants.{Act, Claim, StoreLink, StoreJob}

-- the place of a deed: one that is an entry has one, another has none
abbrev pub sides_of_deed : Deed → List Side
sides_of_deed (Act e) = OfJobs ∷ []
sides_of_deed (Claim who r) = []
sides_of_deed (StoreLink who r w) = []
sides_of_deed (StoreJob who r w) = []

-- the place of an entry of the table
abbrev pub sides_of : Either Entry Deed → List Side
sides_of (Left e) = OfChannels ∷ []
sides_of (Right d) = sides_of_deed d
