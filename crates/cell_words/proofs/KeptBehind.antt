-- While an offer stands, an element that is kept behind it stands, unless the channel does not keep its latest. So a queue of kept elements
-- gets no shorter while its first stands.
use Rattle.std.proofs.Common.{◌≡◌, ◌⊎◌, ℕ, ◌+◌, ◌-◌, ◌<◌, ◌≤◌, ◌==◌, Bool, true, false, true≢false, List, [], ◌∷◌, ◌++◌, length, if◌then◌else◌, Option, Some, None, is_some, is_none, sym, refl, ap, ◌∙◌, subst, ⊎_elim, inl, inr, arith}
use Rattle.std.specs.List.{list_all}
use Rattle.std.proofs.lemmas.Bool.Decides.{nat_tests}
use Rattle.std.proofs.lemmas.Bool.{eqb-true, eq-eqb}
use mathlib.Core.Logic.{dite}
use native.Mathlib.Decide.{ℕ_discrete, dec_le}
use Rattle.co_base.specs.declared.names.WaitId.{WaitId}
use Rattle.channel_model.specs.declared.acts.Act.{Act}
use Rattle.channel_model.specs.declared.acts.Act.TheVariants.{Hand, Put, Offer, Await, Take, Admit, Drop, Spurn, Close, Void, Drain, WakeClosed, Withdraw, Settle}
use Rattle.channel_model.specs.declared.acts.Entry.{Entry}
use Rattle.channel_model.specs.declared.acts.Kind.{Kind}
use Rattle.channel_model.specs.declared.acts.Kind.TheVariants.{Conflated, DropOldest, DropLatest}
use Rattle.channel_model.specs.declared.standing.Standing.{Standing}
use Rattle.channel_model.specs.declared.standing.Resolution.{Resolution}
use Rattle.channel_model.specs.declared.standing.Resolution.TheVariants as resolved
use Rattle.channel_model.specs.Channels.{Shape, State, Wait, places_at, kind_at, suspends, drops, spurns}
use Rattle.channel_model.specs.Effects.{after, is_elsewhere}
use Rattle.channel_model.specs.Needs.{Needs, HasPlace, IsFirstOffer}
use Rattle.channel_model.specs.Histories.{replay, Legal}
use Rattle.channel_model.specs.Laws.{NoneBelow, NoOffer, IsResolvedAs}
use Rattle.channel_model.proofs.EveryAct.{after_keeps}
use Rattle.channel_model.proofs.GoneForGood.{elsewhere, none_keeps}
use Rattle.channel_model.proofs.Later.{given_later}
use Rattle.channel_model.proofs.ResolvedAs.{resolved_step}
use Rattle.channel_model.proofs.Sound.{Sound, sound}
use Rattle.word_rules.specs.Cells.{Cell, free, receiver, offer, buffered, emptied, closed_by, voided_by, set_cell, standing, offer_of, offer_by, emptied_if, Board, step_board, blank, cell_of, gather, is_used}
use Rattle.cell_words.specs.Seen.{at_channel}
use Rattle.cell_words.specs.Answers.{stands, IsOver, waits_with}
use Rattle.cell_words.proofs.GatheredLists.{all_gather, gather_all}
use Rattle.cell_words.proofs.ListsOfCells.{Tied, by_spot, cell_else, standing_is}
use Rattle.cell_words.proofs.OffersRemoved.{offer_place, first_in_queue}
use Rattle.cell_words.proofs.CellsGiveLists.{BoardLasts, board_lasts, board_state}
use Rattle.cell_words.proofs.CellsTellFacts.{now, tied_now, used_given, none_offers}
use Rattle.cell_words.proofs.CountsOfOffers.{cell_by_none, gone_more, count_less, count_up}
use Rattle.channel_model.proofs.PlacedFull.{drops_not}

-- the cell has an element without a waiting sender
abbrev pub Keeps : (WaitId → Option Wait) → Cell → Type 0
Keeps waits free = ⊥
Keeps waits (receiver who w k) = ⊥
Keeps waits (offer v who w k) = IsResolvedAs (resolved.Admitted k) (waits w)
Keeps waits (buffered v) = Unit {0}
Keeps waits (emptied v) = ⊥
Keeps waits (closed_by v) = ⊥
Keeps waits (voided_by v) = ⊥

keeps_used : (waits : WaitId → Option Wait) (y : Cell) → Keeps waits y → is_used y ≡ true
keeps_used waits free h = absurd h
keeps_used waits (receiver who w k) h = absurd h
keeps_used waits (offer v who w k) h = refl
keeps_used waits (buffered v) h = refl
keeps_used waits (emptied v) h = absurd h
keeps_used waits (closed_by v) h = absurd h
keeps_used waits (voided_by v) h = absurd h

keeps_waits : (waits waits' : WaitId → Option Wait) → ((how : Resolution) (w : WaitId) → IsResolvedAs how (waits w)
    → IsResolvedAs how (waits' w)) → (y : Cell) → Keeps waits y → Keeps waits' y
keeps_waits waits waits' f free h = h
keeps_waits waits waits' f (receiver who w k) h = h
keeps_waits waits waits' f (offer v who w k) h = f (resolved.Admitted k) w h
keeps_waits waits waits' f (buffered v) h = h
keeps_waits waits waits' f other h = h

pub board_none : (b : Board) → Tied b → (c p : ℕ) → p < (b.state.channels c).next → standing b.state.waits p (b.cells c p) ≡ None
    → NoOffer p (b.state.channels c)
board_none b t c p lt e = record {
  given = lt;
  none = subst (λ (q : List Standing). list_all (is_elsewhere p) q ≡ true) (sym (t.queues c))
      (all_gather (is_elsewhere p) (λ q. standing b.state.waits q (b.cells c q)) (b.state.channels c).next
      (λ q o lt' f. elsewhere o p (λ is. let m : q ≡ p = sym
      (offer_place b.state.waits q (b.cells c q) o (standing_is b.state.waits q (b.cells c q) o f)) ∙ is
      in let g : Some o ≡ None = sym f ∙ ap (λ (z : ℕ). standing b.state.waits z (b.cells c z)) m ∙ e in cc)));
}

-- where an offer behind p is the first, none stands at p
first_none : (b : Board) → Tied b → (c p q v : ℕ) → p < q → q < (b.state.channels c).next → IsFirstOffer q v (b.state.channels c).queue
    → NoOffer p (b.state.channels c)
first_none b t c p q v lt given first = go (b.state.channels c).queue refl first
  where
    go : (os : List Standing) → (b.state.channels c).queue ≡ os → IsFirstOffer q v os → NoOffer p (b.state.channels c)
    go [] e h = absurd h
    go (o ∷ os) e h = let f = first_in_queue b c o os t e
        in let at : o.place ≡ f.place = offer_place b.state.waits f.place (b.cells c f.place) o f.is in
        board_none b t c p (omega arith) (f.before p (omega (arith, h.0)))

abbrev KeepsOr : ℕ → ℕ → ℕ → Board → Type 0
KeepsOr c p q b = Keeps b.state.waits (b.cells c q) ⊎ NoOffer p (b.state.channels c)

module _ (shape : Shape) (c p q : ℕ) (lt : p < q) (b : Board) (e : Entry) (s : Sound shape b.state) (t : Tied b)
    (n : Needs shape b.state e.who e.act) (h : Keeps b.state.waits (b.cells c q)) where
  keeps_then : Keeps (after b.state e.who e.act).waits (b.cells c q)
  keeps_then = keeps_waits b.state.waits (after b.state e.who e.act).waits
      (λ how w. resolved_step shape how w b.state e.who e.act s.stand n) (b.cells c q) h

  given : q < (b.state.channels c).next
  given = used_given b c q t (keeps_used b.state.waits (b.cells c q) h)

  gone_then : NoOffer p (b.state.channels c) → NoOffer p ((after b.state e.who e.act).channels c)
  gone_then g = after_keeps shape (λ d ch. NoOffer p ch) (none_keeps shape p) b.state e.who e.act c n g

  abbrev Then : Cell → Type 0
  Then y = Keeps (after b.state e.who e.act).waits y ⊎ NoOffer p ((after b.state e.who e.act).channels c)

  removed : (d r v : ℕ) → IsFirstOffer r v (b.state.channels d).queue
      → Then (set_cell b.cells d r (emptied_if (standing b.state.waits r (b.cells d r)) (b.cells d r)) c q)
  removed d r v first = by_spot (λ x z y. x ≡ c → z ≡ q → Then y) b.cells d r _
      (λ x z. inr (gone_then (first_none b t c p q v lt given
      (subst (λ (k : ℕ × ℕ). IsFirstOffer k.1 v (b.state.channels k.0).queue) (λ i. (x i, z i)) first))))
      c q (λ ne x z. inl keeps_then) refl refl

  placed : (d r places : ℕ) (y : Cell) → HasPlace places r (b.state.channels d) → Then (set_cell b.cells d r y c q)
  placed d r places y h' =
      subst Then (sym (cell_else b.cells d r y c q (λ m k. let f : r ≡ (b.state.channels c).next = h'.first
      ∙ ap (λ (z : ℕ). (b.state.channels z).next) m in omega (arith, f, k, given)))) (inl keeps_then)

  -- of another channel
  other : (d r : ℕ) (y : Cell) → (d ≡ c → ⊥) → Then (set_cell b.cells d r y c q)
  other d r y ne = subst Then (sym (cell_else b.cells d r y c q (λ m k. ne m))) (inl keeps_then)

  ended : (d : ℕ) (y : Cell) → Then (set_cell b.cells d (b.state.channels d).next y c q)
  ended d y =
      subst Then (sym (cell_else b.cells d (b.state.channels d).next y c q
      (λ m k. let f : (b.state.channels d).next ≡ (b.state.channels c).next = ap (λ (z : ℕ). (b.state.channels z).next) m
      in omega (arith, f, k, given)))) (inl keeps_then)

module _ (shape : Shape) (c p q : ℕ) (lt : p < q) (never : (n : ℕ) → spurns (kind_at shape c) n ≡ false) where
  keeps_step : (b : Board) (e : Entry) → Sound shape b.state → Tied b → Needs shape b.state e.who e.act → Keeps b.state.waits (b.cells c q)
      → KeepsOr c p q (step_board b e)
  keeps_step b e s t n h = go e.who e.act n
    where
      go : (who : ℕ) (act : Act) → Needs shape b.state who act → KeepsOr c p q (step_board b (record { who = who; act = act }))
      go who (Hand d r v) n = inl (keeps_then shape c p q lt b (record { who = who; act = Hand d r v }) s t n h)
      go who (Put d r v) n = placed shape c p q lt b (record { who = who; act = Put d r v }) s t n h d r (places_at shape d) _ n.1
      go who (Offer d r v w k) n = placed shape c p q lt b (record { who = who; act = Offer d r v w k }) s t n h d r (places_at shape d) _
          n.1
      go who (Await d r w k) n = placed shape c p q lt b (record { who = who; act = Await d r w k }) s t n h d r (places_at shape d) _ n.1
      go who (Take d r v) n = removed shape c p q lt b (record { who = who; act = Take d r v }) s t n h d r v n.1
      go who (Admit d r) n = inl (keeps_then shape c p q lt b (record { who = who; act = Admit d r }) s t n h)
      go who (Drop d r v) n = removed shape c p q lt b (record { who = who; act = Drop d r v }) s t n h d r v n.2
      go who (Spurn d r v) n = other shape c p q lt b (record { who = who; act = Spurn d r v }) s t n h d r _
          (λ m. true≢false (sym n.1 ∙ ap (λ (z : ℕ). spurns (kind_at shape z) (b.state.stood d r)) m ∙ never (b.state.stood d r)))
      go who (Close d v) n = ended shape c p q lt b (record { who = who; act = Close d v }) s t n h d _
      go who (Void d) n = ended shape c p q lt b (record { who = who; act = Void d }) s t n h d _
      go who (Drain d r v) n = removed shape c p q lt b (record { who = who; act = Drain d r v }) s t n h d r v n.2
      go who (WakeClosed d r) n = inl (keeps_then shape c p q lt b (record { who = who; act = WakeClosed d r }) s t n h)
      go who (Withdraw w why) n = inl (keeps_then shape c p q lt b (record { who = who; act = Withdraw w why }) s t n h)
      go who (Settle w outcome) n = inl (keeps_then shape c p q lt b (record { who = who; act = Settle w outcome }) s t n h)

  keeps_lasts : BoardLasts shape (λ b. Keeps b.state.waits (b.cells c q) ⊎ NoOffer p (b.state.channels c))
  keeps_lasts = record {
    step = λ b e s t n h. ⊎_elim (λ k. keeps_step b e s t n k)
        (λ g. inr (after_keeps shape (λ d ch. NoOffer p ch) (none_keeps shape p) b.state e.who e.act c n g)) h;
  }

  -- what is kept stays while an offer stands before it
  pub kept_behind : (xs ys : List Entry) → Legal shape (xs ++ ys) → Keeps (replay xs).waits (cell_of xs c q)
      → is_some (stands (xs ++ ys) c p) ≡ true → Keeps (replay (xs ++ ys)).waits (cell_of (xs ++ ys) c q)
  kept_behind xs ys l h st = ⊎_elim (λ k. subst (λ (s : State). Keeps s.waits (cell_of (xs ++ ys) c q)) (board_state blank (xs ++ ys)) k)
      (λ g. absurd
      (true≢false (sym st ∙ ap is_some (cell_by_none shape (xs
      ++ ys) l c p (subst (λ (s : State). NoOffer p (s.channels c)) (board_state blank (xs ++ ys)) g)))))
      (board_lasts shape (λ b. Keeps b.state.waits (b.cells c q)
      ⊎ NoOffer p (b.state.channels c)) keeps_lasts xs ys l
      (inl (subst (λ (s : State). Keeps s.waits (cell_of xs c q)) (sym (board_state blank xs)) h)))

-- ---- who stands without a holder is kept

module _ (p v k : ℕ) (w : WaitId) (o : Standing) (none : o.holder ≡ None) where
  kept_by_how : (how : Option Resolution) → offer_by p v w k how ≡ Some o → how ≡ Some (resolved.Admitted k)
  kept_by_how None e = absurd (true≢false (ap waits_with e ∙ ap is_some none))
  kept_by_how (Some (resolved.Handed j x)) e = cc
  kept_by_how (Some (resolved.Taken j)) e = cc
  kept_by_how (Some (resolved.Admitted j)) e = go (j == k) refl e
    where
      go : (b : Bool) → (j == k) ≡ b → (if b then Some (record { place = p; value = v; holder = None }) else None) ≡ Some o
          → Some (resolved.Admitted j) ≡ Some (resolved.Admitted k)
      go true is e = ap (λ (z : ℕ). Some (resolved.Admitted z)) (eqb-true j k is)
      go false is e = cc
  kept_by_how (Some (resolved.Closed j x)) e = cc
  kept_by_how (Some (resolved.Withdrawn why)) e = cc
  kept_by_how (Some resolved.Voided) e = cc

  kept_by_wait : (y : Option Wait) → offer_of p v w k y ≡ Some o → IsResolvedAs (resolved.Admitted k) y
  kept_by_wait None e = cc
  kept_by_wait (Some x) e = kept_by_how x.resolved e

pub kept_cell : (waits : WaitId → Option Wait) (p : ℕ) (y : Cell) (o : Standing) → standing waits p y ≡ Some o → o.holder ≡ None
    → Keeps waits y
kept_cell waits p free o e n = cc
kept_cell waits p (receiver who w k) o e n = cc
kept_cell waits p (offer v who w k) o e n = kept_by_wait p v k w o n (waits w) e
kept_cell waits p (buffered v) o e n = tt
kept_cell waits p (emptied v) o e n = cc
kept_cell waits p (closed_by v) o e n = cc
kept_cell waits p (voided_by v) o e n = cc

kept_stays : (p v k : ℕ) (w : WaitId) (y : Option Wait) → IsResolvedAs (resolved.Admitted k) y → is_some (offer_of p v w k y) ≡ true
kept_stays p v k w None h = absurd h
kept_stays p v k w (Some x) h = ap (λ (z : Option Resolution). is_some (offer_by p v w k z)) h
    ∙ ap (λ (b : Bool). is_some {T = Standing} (if b then Some (record { place = p; value = v; holder = None }) else None))
    (eq-eqb k k refl)

pub stands_kept : (waits : WaitId → Option Wait) (p : ℕ) (y : Cell) → Keeps waits y → is_some (standing waits p y) ≡ true
stands_kept waits p free h = absurd h
stands_kept waits p (receiver who w k) h = absurd h
stands_kept waits p (offer v who w k) h = kept_stays p v k w (waits w) h
stands_kept waits p (buffered v) h = refl
stands_kept waits p (emptied v) h = absurd h
stands_kept waits p (closed_by v) h = absurd h
stands_kept waits p (voided_by v) h = absurd h

-- ---- a queue without held offers

none_is : {A : Type 0} (x : Option A) → is_none x ≡ true → x ≡ None
none_is None e = refl
none_is (Some x) e = cc

module _ (shape : Shape) (c p : ℕ) (xs ys : List Entry) (lx : Legal shape xs) (l : Legal shape (xs ++ ys))
    (kind : suspends (kind_at shape c) ≡ false) (never : (n : ℕ) → spurns (kind_at shape c) n ≡ false)
    (low : NoneBelow 0 p (at_channel xs c)) (stays : is_some (stands (xs ++ ys) c p) ≡ true) where
  -- who stood behind it stands
  stood_none : (q : ℕ) → q < (at_channel xs c).next → stands (xs ++ ys) c q ≡ None → stands xs c q ≡ None
  stood_none q lt e = go (stands xs c q) refl
    where
      all : list_all (λ (o : Standing). is_none o.holder) (gather (stands xs c) (at_channel xs c).next) ≡ true
      all = subst (λ (os : List Standing). list_all (λ (o : Standing). is_none o.holder) os ≡ true) ((tied_now shape xs lx).queues c)
          (((sound shape xs lx).channels c).kept kind)

      beyond : (o : Standing) → stands xs c q ≡ Some o → p < q → stands xs c q ≡ None
      beyond o is after_p = let h = kept_cell (replay xs).waits q (cell_of xs c q) o is
          (none_is o.holder (gather_all (λ (o : Standing). is_none o.holder) (stands xs c) (at_channel xs c).next all q o lt is)) in
          let k = kept_behind shape c p q after_p never xs ys l h stays in
          absurd (true≢false (sym (stands_kept (replay (xs ++ ys)).waits q (cell_of (xs ++ ys) c q) k) ∙ ap is_some e))

      go : (x : Option Standing) → stands xs c q ≡ x → stands xs c q ≡ None
      go None is = is
      go (Some o) is = dite (dec_le (q + 1) p)
          (λ before. none_offers (now xs) c (tied_now shape xs lx) 0 p low q (omega arith))
          (λ other. dite (ℕ_discrete q p)
          (λ (same : q ≡ p). absurd (true≢false (sym stays ∙ ap is_some (ap (stands (xs ++ ys) c) (sym same) ∙ e))))
          (λ ne. beyond o is (omega arith)))

  no_shorter : length (at_channel xs c).queue ≤ length (at_channel (xs ++ ys) c).queue
  no_shorter =
      let n = (at_channel xs c).next in
      let m = (at_channel (xs ++ ys) c).next in
      let le : n ≤ m = given_later shape xs ys c l in
      let fewer : length (gather (stands xs c) n) ≤ length (gather (stands (xs ++ ys) c) n) =
      count_less (stands (xs ++ ys) c) (stands xs c) n stood_none in
      let more : length (gather (stands (xs ++ ys) c) n) ≤ length (gather (stands (xs ++ ys) c) m) =
      count_up (stands (xs ++ ys) c) n (m - n) m (omega arith) in
      let before : length (at_channel xs c).queue ≡ length (gather (stands xs c) n) = ap length ((tied_now shape xs lx).queues c) in
      let later : length (at_channel (xs ++ ys) c).queue ≡ length (gather (stands (xs ++ ys) c) m) =
      ap length ((tied_now shape (xs ++ ys) l).queues c) in
      omega arith

drops_more : (k : Kind) (n m : ℕ) → n ≤ m → drops k n ≡ true → drops k m ≡ true
drops_more Conflated n m le e = grind (arith, nat_tests)
drops_more (DropOldest k) n m le e = grind (arith, nat_tests)
drops_more other n m le e = e

pub drops_keeps : (k : Kind) (n : ℕ) → drops k n ≡ true → (m : ℕ) → spurns k m ≡ false
drops_keeps (DropLatest k) n e m = cc
drops_keeps other n e m = refl

-- a kind on which a send may wait keeps its latest
pub waits_keeps : (k : Kind) → suspends k ≡ true → (n : ℕ) → spurns k n ≡ false
waits_keeps (DropLatest k) e n = cc
waits_keeps other e n = refl

-- a queue that is too long stays so while its first element stands
pub over_later : (shape : Shape) (c p : ℕ) (xs ys : List Entry) → Legal shape xs → Legal shape (xs ++ ys) → p < (at_channel xs c).next
    → NoneBelow 0 p (at_channel xs c) → IsOver shape c p xs → is_some (stands (xs ++ ys) c p) ≡ true
    → drops (kind_at shape c) (length (at_channel (xs ++ ys) c).queue) ≡ true
over_later shape c p xs ys lx l lt low over stays = ⊎_elim
    (λ (gone : stands xs c p ≡ None). absurd (true≢false (sym stays ∙ ap is_some (gone_more shape c p xs ys lx l lt gone))))
    (λ (long : drops (kind_at shape c) (length (at_channel xs c).queue) ≡ true). drops_more (kind_at shape c)
    (length (at_channel xs c).queue) (length (at_channel (xs ++ ys) c).queue)
    (no_shorter shape c p xs ys lx l (drops_not (kind_at shape c) (length (at_channel xs c).queue) long)
    (drops_keeps (kind_at shape c) (length (at_channel xs c).queue) long) low stays) long)
    over
