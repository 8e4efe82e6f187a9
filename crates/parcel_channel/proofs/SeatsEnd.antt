-- What a seat has seen after it met another, or took it in.
use Rattle.std.specs.Prelude.{◌≡◌, ℕ, ◌++◌}
use Rattle.std.proofs.Common.{sym, ap, ◌∙◌, append-nil}
use mathlib.Core.List.{IsPrefix}
use Rattle.std.proofs.Common.{subst}
use Rattle.worded.specs.Views.{told_by, untagged}
use Rattle.worded.specs.Histories.{entries_of}
use Rattle.worded.specs.Exchanges.{Loaded, TookIn}
use Rattle.worded.proofs.StepsOfSeats as steps
use Rattle.parcel_channel.specs.Parcels.{Legal, maker}
use Rattle.parcel_channel.specs.Tables.{Fits}
use Rattle.parcel_channel.specs.Seen.{Seen}
use Rattle.parcel_channel.specs.Answers.{SameOf, MeetAnswer, EndAnswer}

module _ {T : Type 0} where
  pub meet_answer : (n m key : ℕ) (v u w : Seen T) → Loaded (Legal n) Fits maker 0 m (told_by v (untagged key u.seen)) w → MeetAnswer v u w
  meet_answer n m key v u w l = record {
    goes_on = (l.others, sym now);
    told = subst (IsPrefix u.seen) (sym now) l.added.told;
    own = λ t h. ap (entries_of maker t) now ∙ steps.still_own maker t v.seen l.others (l.added.apart t h);
    tags = ap (λ (x : Seen T). x.tags) l.now ∙ append-nil v.tags;
    giving = ap (λ (x : Seen T). (x.chief, x.given)) l.now;
  }
    where
      now : w.seen ≡ v.seen ++ l.others
      now = ap (λ (x : Seen T). x.seen) l.now

  pub end_answer : (n m : ℕ) (v u w : Seen T) → Loaded (Legal n) Fits maker 0 m (told_by v u) w → EndAnswer v u w
  end_answer n m v u w l =
      let met : TookIn (Legal n) Fits maker v u w =
      record {
        others = l.others;
        now = l.now;
        is_legal = l.added.is_legal;
        apart = l.added.apart;
        told = l.added.told;
        given_to = l.added.given_to;
        ungiven = l.added.ungiven;
      } in
      steps.end_answer SameOf (λ t xs ys e. e) met
