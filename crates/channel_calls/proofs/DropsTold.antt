-- What the drops tell that follow a Put.
use Rattle.std.specs.Prelude.{◌≡◌, ℕ, ◌≤◌, Bool, true, false, ◌&&◌, List, [], ◌∷◌, ◌++◌, Ok, Err, refl}
use Rattle.std.specs.List.{list_all, list_any}
use Rattle.std.proofs.Common.{sym, ap, ◌∙◌, subst}
use Rattle.co_base.specs.declared.names.Memory.{Memory}
use Rattle.channel_model.specs.declared.acts.Act.{Act}
use Rattle.channel_model.specs.declared.acts.Act.TheVariants.{Drop}
use Rattle.channel_model.specs.declared.acts.Kind.{Kind}
use Rattle.channel_model.specs.declared.acts.Kind.TheVariants.{Rendezvous, Buffered, Unlimited, Conflated, DropOldest, DropLatest, Signal}
use Rattle.channel_model.specs.Channels.{Shape, kind_at}
use Rattle.channel_model.specs.Histories.{acts_of, Legal}
use Rattle.channel_model.specs.Floors.{Looked, Made, AtStep, Floor}
use Rattle.channel_model.specs.Answers.{IsTrimmed, HasPut, is_put_at}
use Rattle.channel_model.specs.Puts.{follows_put, after_put}
use Rattle.channel_model.proofs.Puts.{drop_follows, put_lasts}
use Rattle.note_book.specs.Items.{channel_acts_in}
use Rattle.call_meaning.specs.Telling.{on_channels, FitsUpTo, items_in}
use Rattle.channel_calls.specs.Parts.{DropsAfterPut, DroppedAnswer}
use Rattle.channel_calls.proofs.Repeated.{Repeats, all_made, repeated_until, still_repeated}
use Rattle.call_meaning.specs.Seen.{SeenOnChannels}
use Rattle.channel_calls.proofs.Roomed.{IsRoomed}
use Rattle.channel_calls.specs.Calls.{IsUntouched}

-- an act that drops an element
abbrev pub drop_of : ℕ → ℕ × ℕ → Act
drop_of c d = Drop c d.0 d.1

-- each of these follows a Put at the place
abbrev pub AllFollow : Kind → ℕ → ℕ → List (ℕ × ℕ) → Type 0
AllFollow kind c place ds = list_all (λ (d : ℕ × ℕ). follows_put kind c place (drop_of c d)) ds ≡ true

both : (x a b : Bool) → (x && a) ≡ true → (a ≡ true → b ≡ true) → (x && b) ≡ true
both true a b h f = f h
both false a b h f = cc

pub one_follows : (kind : Kind) (c place : ℕ) (ds : List (ℕ × ℕ)) (d : ℕ × ℕ) → AllFollow kind c place ds
    → follows_put kind c place (drop_of c d) ≡ true → AllFollow kind c place (ds ++ d ∷ [])
one_follows kind c place [] d h e = ap (λ b. b && true) e
one_follows kind c place (x ∷ xs) d h e = both (follows_put kind c place (drop_of c x)) _ _ h (λ t. one_follows kind c place xs d t e)

all_follow : (kind : Kind) (c place : ℕ) (ds : List (ℕ × ℕ)) → AllFollow kind c place ds
    → list_all (follows_put kind c place) (channel_acts_in (items_in (all_made (drop_of c) ds ++ on_channels (FitsUpTo c place) ∷ []))) ≡
    true
unfolding items_in
all_follow kind c place [] h = refl
all_follow kind c place (x ∷ xs) h = both (follows_put kind c place (drop_of c x)) _ _ h (λ t. all_follow kind c place xs t)

none_follow : (k c place : ℕ) (ds : List (ℕ × ℕ)) → AllFollow (DropLatest k) c place ds
    → after_put (DropLatest k) c place (channel_acts_in (items_in (all_made (drop_of c) ds ++ on_channels (FitsUpTo c place) ∷ []))) ≡ true
unfolding items_in
none_follow k c place [] h = refl
none_follow k c place (x ∷ xs) h = cc

acts_follow : (kind : Kind) (c place : ℕ) (ds : List (ℕ × ℕ)) → AllFollow kind c place ds
    → after_put kind c place (channel_acts_in (items_in (all_made (drop_of c) ds ++ on_channels (FitsUpTo c place) ∷ []))) ≡ true
acts_follow (DropLatest k) c place ds h = none_follow k c place ds h
acts_follow Rendezvous c place ds h = all_follow Rendezvous c place ds h
acts_follow (Buffered k) c place ds h = all_follow (Buffered k) c place ds h
acts_follow Unlimited c place ds h = all_follow Unlimited c place ds h
acts_follow Conflated c place ds h = all_follow Conflated c place ds h
acts_follow (DropOldest k) c place ds h = all_follow (DropOldest k) c place ds h
acts_follow Signal c place ds h = all_follow Signal c place ds h

-- the drop that was just made follows too
pub still_follow : (c place : ℕ) (x : ℕ × ℕ) {n : ℕ} {a b d : SeenOnChannels} {e : Floor} → (h : Repeats (drop_of c) a b)
    → Legal e.shape e.seen
    → IsRoomed n b d → Made b.who (drop_of c x) d.floor e → x.0 ≤ place → AllFollow (kind_at a.floor.shape c) c place h.of
    → AllFollow (kind_at a.floor.shape c) c place (h.of ++ x ∷ [])
still_follow c place x {a = a} {b = b} {d = d} {e = e} h l r m le follow =
    let drops = drop_follows b.who c x.0 x.1 place d.floor e l m le in
    let same = m.same.shape ∙ r.room.same.shape ∙ h.left.added.same.shape in
    one_follows (kind_at a.floor.shape c) c place h.of x follow
    (subst (λ (s : Shape). follows_put (kind_at s c) c place (drop_of c x) ≡ true) same drops)

-- the own Put still stands among the acts
pub put_still : (c place : ℕ) {n : ℕ} {a b d : SeenOnChannels} → (h : Repeats (drop_of c) a b) → IsRoomed n b d
    → HasPut a.who c place a.floor
    → HasPut b.who c place d.floor
put_still c place {a = a} {b = b} {d = d} h r put =
    let lasts = put_lasts a.who c place _ a.floor b.floor h.left.added put in
    let now : HasPut a.who c place d.floor = subst (λ es. list_any (is_put_at c place) (acts_of a.who es) ≡ true) (sym r.room.seen) lasts in
    subst (λ x. HasPut x c place d.floor) (sym h.left.who) now

pub dropped_all : {c place n : ℕ} {a b d e : SeenOnChannels} → (h : Repeats (drop_of c) a b) → IsRoomed n b d → Looked b.who d.floor e.floor
    → AtStep d.floor e.floor (IsTrimmed d.floor.shape c place) → e.who ≡ b.who → e.items ≡ d.items
    → AllFollow (kind_at a.floor.shape c) c place h.of → DroppedAnswer c place a e (Ok tt)
dropped_all {c} {place} {a = a} h r look at w g follow = record {
  told = all_made (drop_of c) h.of ++ on_channels (FitsUpTo c place) ∷ [];
  goes = record {
    drops = record { dropped = h.of; all = refl };
    acts = acts_follow (kind_at a.floor.shape c) c place h.of follow;
  };
  left = repeated_until (drop_of c) (FitsUpTo c place) h r look at w g;
}

-- no memory was found
pub drops_stopped : {c place : ℕ} {a b d : SeenOnChannels} (m : Memory) → (h : Repeats (drop_of c) a b)
    → AllFollow (kind_at a.floor.shape c) c place h.of
    → IsUntouched b d → DroppedAnswer c place a d (Err m)
drops_stopped {c} {place} {a} m h follow u =
    still_repeated (drop_of c) (DropsAfterPut (kind_at a.floor.shape c) c place) (on_channels (FitsUpTo c place) ∷ []) h
    (record { drops = record { dropped = h.of; all = refl }; acts = acts_follow (kind_at a.floor.shape c) c place h.of follow }) u
