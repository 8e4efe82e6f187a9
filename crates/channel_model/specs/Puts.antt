-- What follows a Put.
use Rattle.std.specs.Prelude.{ℕ, ◌==◌, nat_le, Bool, true, false, ◌&&◌, List, [], ◌∷◌}
use Rattle.std.specs.List.{list_all}
use Rattle.channel_model.specs.declared.acts.Kind.{Kind}
use Rattle.channel_model.specs.declared.acts.Kind.TheVariants.{Rendezvous, Buffered, Unlimited, Conflated, DropOldest, DropLatest, Signal}
use Rattle.channel_model.specs.declared.acts.Act.{Act}
use Rattle.channel_model.specs.declared.acts.Act.TheVariants.{Drop}
use Rattle.channel_model.specs.Fates.{spurns_at}

-- the act drops an element of this channel, at this place or before it
abbrev pub drops_up_to : ℕ → ℕ → Act → Bool
drops_up_to c place (Drop d p v) = (d == c) && nat_le p place
drops_up_to c place other = false

-- the caller of a Put at this place of a channel of this kind, which keeps its latest, makes such acts next
abbrev pub follows_put : Kind → ℕ → ℕ → Act → Bool
follows_put Rendezvous c place act = false
follows_put (Buffered k) c place act = false
follows_put Unlimited c place act = false
follows_put Conflated c place act = drops_up_to c place act
follows_put (DropOldest k) c place act = drops_up_to c place act
follows_put (DropLatest k) c place act = false
follows_put Signal c place act = false

-- nothing, or one act that removes the element of this place
abbrev pub spurns_alone : ℕ → ℕ → List Act → Bool
spurns_alone c place [] = true
spurns_alone c place (act ∷ []) = spurns_at c place act
spurns_alone c place (first ∷ second ∷ acts) = false

-- the acts that follow a Put at this place of channel c: drops, if the kind drops its oldest, the removal of the element itself or
-- nothing, if the kind does not keep its latest, and else none
abbrev pub after_put : Kind → ℕ → ℕ → List Act → Bool
after_put (DropLatest k) c place acts = spurns_alone c place acts
after_put kind c place acts = list_all (follows_put kind c place) acts
