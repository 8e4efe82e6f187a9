-- What became of how many elements follows from how many acts there are of each kind.
use Rattle.std.specs.Prelude.{◌≡◌, ℕ, ◌+◌, ◌≤◌, ◌==◌, Bool, true, false, ◌&&◌, cond, List, [], ◌∷◌, length, refl, is_some, if◌then◌else◌}
use Rattle.std.proofs.Common.{ap, ◌∙◌, arith}
use Rattle.channel_model.specs.declared.acts.Act.{Act}
use Rattle.channel_model.specs.declared.acts.Entry.{Entry}
use Rattle.channel_model.specs.declared.acts.Fate.{Fate}
use Rattle.channel_model.specs.declared.acts.Fate.TheVariants as fate
use Rattle.channel_model.specs.Channels.{Shape, State, places_at}
use Rattle.channel_model.specs.Fates.{hands, takes, drops_at, spurns_at, drains, settles_value, settles_undelivered, element_at, is_received, is_undelivered_at, is_dropped, is_spurned, is_withdrawn}
use Rattle.channel_model.specs.Histories.{replay, acts_in, Legal}
use Rattle.channel_model.specs.Laws.{how_many}
use Rattle.channel_fates.specs.OneFate.{IsAtMostOneFate}
use Rattle.channel_fates.proofs.OncePlaced.{answers}
use Rattle.channel_fates.proofs.StandsByActs.{puts, offers}
use Rattle.channel_fates.proofs.AtMostOne.{replay_one_fate}
use Rattle.tally_laws.specs.Counts.{counts_of}
use Rattle.tally_laws.specs.Elements.{number_of, has_element, has_fate, places_where, AreFatesOf}
use Rattle.tally_laws.specs.Settlings.{ResolvedAreSettled}
use Rattle.tally_laws.proofs.Summed.{places_add, places_same}
use Rattle.tally_laws.proofs.Kept.{Kept, replay_kept}
use Rattle.tally_laws.proofs.Shares.{is_handed_as, is_taken_offer, is_chosen_at, is_sent_at, is_open_at, element_share, received_there, undelivered_there, dropped_there, spurned_there, withdrawn_there, received_share, undelivered_share, dropped_share, spurned_share, offered_share}
use Rattle.tally_laws.proofs.ByKind.{over, hands_sum, answers_sum, puts_sum, offers_sum, takes_sum, drops_sum, spurns_sum, drains_sum, open_sum, values_sum, given_up_sum, taken_sum, chosen_sum, settles_sum, chosen_share, all_offers}

-- ---- the six fates of an element

-- the fate, by which of the five applies
abbrev fate_by : Bool → Bool → Bool → Bool → Bool → Fate
fate_by r u d x w = if r then fate.Received else if u then fate.Undelivered else if d then fate.Dropped else if x then fate.Spurned else if
    w then fate.Withdrawn else fate.Held

record Six (e r u d x w : Bool) : Type 0 where
  received : cond (e && (number_of (fate_by r u d x w) == 0)) 1 0 ≡ cond r 1 0 + 0
  undelivered : cond (e && (number_of (fate_by r u d x w) == 1)) 1 0 ≡ cond u 1 0 + 0
  dropped : cond (e && (number_of (fate_by r u d x w) == 2)) 1 0 ≡ cond d 1 0 + 0
  spurned : cond (e && (number_of (fate_by r u d x w) == 3)) 1 0 ≡ cond x 1 0 + 0
  withdrawn : cond (e && (number_of (fate_by r u d x w) == 4)) 1 0 ≡ cond w 1 0 + 0
  all : cond e 1 0 ≡
      cond r 1 0 + (cond u 1 0 + (cond d 1 0 + (cond x 1 0 + (cond w 1 0 + cond (e && (number_of (fate_by r u d x w) == 5)) 1 0))))

six : (e r u d x w : Bool) → how_many (λ (applies : Bool). applies) (r ∷ u ∷ d ∷ x ∷ w ∷ []) ≤ 1
    → (r ≡ true → e ≡ true) → (u ≡ true → e ≡ true) → (d ≡ true → e ≡ true) → (x ≡ true → e ≡ true) → (w ≡ true → e ≡ true)
    → Six e r u d x w
six e true true d x w h a b i y j = absurd (omega arith)
six e true false true x w h a b i y j = absurd (omega arith)
six e true false false true w h a b i y j = absurd (omega arith)
six e true false false false true h a b i y j = absurd (omega arith)
six e false true true x w h a b i y j = absurd (omega arith)
six e false true false true w h a b i y j = absurd (omega arith)
six e false true false false true h a b i y j = absurd (omega arith)
six e false false true true w h a b i y j = absurd (omega arith)
six e false false true false true h a b i y j = absurd (omega arith)
six e false false false true true h a b i y j = absurd (omega arith)
six false true false false false false h a b i y j = let e = a refl in cc
six false false true false false false h a b i y j = let e = b refl in cc
six false false false true false false h a b i y j = let e = i refl in cc
six false false false false true false h a b i y j = let e = y refl in cc
six false false false false false true h a b i y j = let e = j refl in cc
six true false false false false true h a b i y j = record {
  received = omega arith;
  undelivered = omega arith;
  dropped = omega arith;
  spurned = omega arith;
  withdrawn = omega arith;
  all = omega arith;
}
six e r u d x w h a b i y j = record {
  received = omega arith;
  undelivered = omega arith;
  dropped = omega arith;
  spurned = omega arith;
  withdrawn = omega arith;
  all = omega arith;
}

-- one for each place that passes
abbrev one : (ℕ → ℕ → Bool) → ℕ → ℕ → ℕ
one test c p = cond (test c p) 1 0

module _ (shape : Shape) (acts : List Act) (s : State) (k : Kept shape acts s) (one_fate : (c p : ℕ)
    → IsAtMostOneFate c p acts) (rest : ResolvedAreSettled s) where
  fates : (c p : ℕ) → Six (is_some (element_at c p acts)) (is_received c p acts) (is_undelivered_at c p acts) (is_dropped c p acts)
      (is_spurned c p acts) (is_withdrawn c p acts)
  fates c p =
      six (is_some (element_at c p acts)) (is_received c p acts) (is_undelivered_at c p acts) (is_dropped c p acts) (is_spurned c p acts)
      (is_withdrawn c p acts)
      (one_fate c p)
      (received_there shape acts s k.traced c p) (undelivered_there shape acts s k.traced c p) (dropped_there shape acts s k.traced c p)
      (spurned_there shape acts s k.traced c p) (withdrawn_there shape acts s k.traced c p)

  same : (f g : ℕ → ℕ → ℕ) → ((c p : ℕ) → f c p ≡ g c p) → over shape f ≡ over shape g
  same f g h = places_same (length shape) (places_at shape) f g (λ c p a b. h c p)

  plus : (f g : ℕ → ℕ → ℕ) → over shape (λ c p. f c p + g c p) ≡ over shape f + over shape g
  plus f g = places_add (length shape) (places_at shape) f g

  -- ---- sums

  elements_sum : places_where shape (has_element acts) ≡
      over shape (λ c p. how_many (hands c p) acts) + (over shape (λ c p. how_many (puts c p) acts) + over shape
      (λ c p. how_many (offers c p) acts))
  elements_sum =
      same (one (has_element acts)) (λ c p. how_many (hands c p) acts + (how_many (puts c p) acts + how_many (offers c p) acts))
      (λ c p. element_share shape acts s k.traced c p)
      ∙ (plus (λ c p. how_many (hands c p) acts) (λ c p. how_many (puts c p) acts + how_many (offers c p) acts)
      ∙ ap (λ n. over shape (λ c p. how_many (hands c p) acts) + n)
      (plus (λ c p. how_many (puts c p) acts) (λ c p. how_many (offers c p) acts)))

  received_sum : places_where shape (has_fate fate.Received acts) ≡
      over shape (λ c p. how_many (takes c p) acts) + over shape (one (is_handed_as settles_value acts))
  received_sum =
      same (one (has_fate fate.Received acts)) (λ c p. how_many (takes c p) acts + one (is_handed_as settles_value acts) c p)
      (λ c p. let f = (fates c p).received in let m = received_share shape acts s k.traced c p in omega arith)
      ∙ plus (λ c p. how_many (takes c p) acts) (one (is_handed_as settles_value acts))

  undelivered_sum : places_where shape (has_fate fate.Undelivered acts) ≡
      over shape (λ c p. how_many (drains c p) acts) + (over shape (one (is_handed_as settles_undelivered acts)) + over shape
      (one (is_taken_offer acts)))
  undelivered_sum =
      same (one (has_fate fate.Undelivered acts)) (λ c p. how_many (drains c p) acts +
      (one (is_handed_as settles_undelivered acts) c p + one (is_taken_offer acts) c p))
      (λ c p. let f = (fates c p).undelivered in let m = undelivered_share shape acts s k.traced c p in omega arith)
      ∙ (plus (λ c p. how_many (drains c p) acts) (λ c p. one (is_handed_as settles_undelivered acts) c p + one (is_taken_offer acts) c p)
      ∙ ap (λ n. over shape (λ c p. how_many (drains c p) acts) + n)
      (plus (one (is_handed_as settles_undelivered acts)) (one (is_taken_offer acts))))

  dropped_sum : places_where shape (has_fate fate.Dropped acts) ≡ over shape (λ c p. how_many (drops_at c p) acts)
  dropped_sum =
      same (one (has_fate fate.Dropped acts)) (λ c p. how_many (drops_at c p) acts)
      (λ c p. let f = (fates c p).dropped in let m = dropped_share shape acts s k.traced c p in omega arith)

  spurned_sum : places_where shape (has_fate fate.Spurned acts) ≡ over shape (λ c p. how_many (spurns_at c p) acts)
  spurned_sum =
      same (one (has_fate fate.Spurned acts)) (λ c p. how_many (spurns_at c p) acts)
      (λ c p. let f = (fates c p).spurned in let m = spurned_share shape acts s k.traced c p in omega arith)

  -- the offers: withdrawn, taken back, those at which their wait was resolved, and open ones
  offers_split : over shape (λ c p. how_many (offers c p) acts) ≡
      places_where shape (has_fate fate.Withdrawn acts) + (over shape (one (is_taken_offer acts)) +
      (over shape (one (is_sent_at acts)) + over shape (one (is_open_at acts))))
  offers_split =
      same (λ c p. how_many (offers c p) acts) (λ c p. one (has_fate fate.Withdrawn acts) c p +
      (one (is_taken_offer acts) c p + (one (is_sent_at acts) c p + one (is_open_at acts) c p)))
      (λ c p. let f = (fates c p).withdrawn in let m = offered_share shape acts s k.traced c p k.settled k.settles rest in omega arith)
      ∙ (plus (one (has_fate fate.Withdrawn acts)) (λ c p. one (is_taken_offer acts) c p +
      (one (is_sent_at acts) c p + one (is_open_at acts) c p))
      ∙ ap (λ n. places_where shape (has_fate fate.Withdrawn acts) + n)
      (plus (one (is_taken_offer acts)) (λ c p. one (is_sent_at acts) c p + one (is_open_at acts) c p)
      ∙ ap (λ n. over shape (one (is_taken_offer acts)) + n) (plus (one (is_sent_at acts)) (one (is_open_at acts)))))

  chosen_split : over shape (one (is_chosen_at acts)) ≡ over shape (λ c p. how_many (answers c p) acts) + over shape (one (is_sent_at acts))
  chosen_split =
      same (one (is_chosen_at acts)) (λ c p. how_many (answers c p) acts + one (is_sent_at acts) c p)
      (λ c p. chosen_share shape acts s k rest c p)
      ∙ plus (λ c p. how_many (answers c p) acts) (one (is_sent_at acts))

  all_fates : places_where shape (has_element acts) ≡ places_where shape (has_fate fate.Received acts) +
      (places_where shape (has_fate fate.Undelivered acts) +
      (places_where shape (has_fate fate.Dropped acts) + (places_where shape (has_fate fate.Spurned acts) +
      (places_where shape (has_fate fate.Withdrawn acts) + (places_where shape (has_fate fate.Held acts))))))
  all_fates =
      same (one (has_element acts)) (λ c p. one (has_fate fate.Received acts) c p +
      (one (has_fate fate.Undelivered acts) c p + (one (has_fate fate.Dropped acts) c p +
      (one (has_fate fate.Spurned acts) c p + (one (has_fate fate.Withdrawn acts) c p + (one (has_fate fate.Held acts) c p))))))
      (λ c p. let f = fates c p in let a = f.received in let b = f.undelivered in let d = f.dropped in let x = f.spurned
      in let w = f.withdrawn in let e = f.all in omega arith)
      ∙ (plus (one (has_fate fate.Received acts)) (λ c p. one (has_fate fate.Undelivered acts) c p +
      (one (has_fate fate.Dropped acts) c p + (one (has_fate fate.Spurned acts) c p +
      (one (has_fate fate.Withdrawn acts) c p + (one (has_fate fate.Held acts) c p)))))
      ∙ ap (λ n. places_where shape (has_fate fate.Received acts) + n)
      (plus (one (has_fate fate.Undelivered acts)) (λ c p. one (has_fate fate.Dropped acts) c p +
      (one (has_fate fate.Spurned acts) c p + (one (has_fate fate.Withdrawn acts) c p + (one (has_fate fate.Held acts) c p))))
      ∙ ap (λ n. places_where shape (has_fate fate.Undelivered acts) + n)
      (plus (one (has_fate fate.Dropped acts)) (λ c p. one (has_fate fate.Spurned acts) c p +
      (one (has_fate fate.Withdrawn acts) c p + (one (has_fate fate.Held acts) c p)))
      ∙ ap (λ n. places_where shape (has_fate fate.Dropped acts) + n)
      (plus (one (has_fate fate.Spurned acts)) (λ c p. one (has_fate fate.Withdrawn acts) c p + (one (has_fate fate.Held acts) c p))
      ∙ ap (λ n. places_where shape (has_fate fate.Spurned acts) + n)
      (plus (one (has_fate fate.Withdrawn acts)) (one (has_fate fate.Held acts)))))))

  fates_are : AreFatesOf shape acts (counts_of acts)
  fates_are =
      let hands_are = hands_sum shape acts s k in
      let puts_are = puts_sum shape acts s k in
      let offers_are = offers_sum shape acts s k in
      let takes_are = takes_sum shape acts s k in
      let drops_are = drops_sum shape acts s k in
      let spurns_are = spurns_sum shape acts s k in
      let drains_are = drains_sum shape acts s k in
      let values_are = values_sum shape acts s k in
      let given_up_are = given_up_sum shape acts s k in
      let taken_are = taken_sum shape acts s k in
      let open_are = open_sum shape acts s k in
      let answers_are = answers_sum shape acts s k in
      let chosen_are = chosen_sum shape acts s k rest in
      let settles_are = settles_sum shape acts s k rest in
      let all_are = all_offers acts in
      let a = elements_sum in
      let b = received_sum in
      let d = undelivered_sum in
      let e = dropped_sum in
      let i = spurned_sum in
      let f = offers_split in
      let g = chosen_split in
      let h = all_fates in
      record {
        elements = omega arith;
        received = omega arith;
        undelivered = omega arith;
        dropped = omega arith;
        spurned = omega arith;
        withdrawn = omega arith;
        held = omega arith;
      }

pub fates_counted : (shape : Shape) (history : List Entry) → Legal shape history → ResolvedAreSettled (replay history)
    → AreFatesOf shape (acts_in history) (counts_of (acts_in history))
fates_counted shape history l rest = fates_are shape (acts_in history) (replay history) (replay_kept shape history l)
    (λ c p. replay_one_fate shape history c p l) rest
