-- Which calls ask for a place of a done channel: none but joins and awaits, and the ends of scopes.
use Rattle.script_grammar.proofs.Truths.{both_true}
use Rattle.std.proofs.lemmas.Bool.{or_from}
use Rattle.std.proofs.Common.{◌≡◌, ℕ, zero, suc, Bool, true, false, List, [], ◌∷◌, ◌++◌, drop, Option, refl, ap, ◌∙◌, subst, arith}
use Rattle.std.specs.Prelude.{◌||◌, map, nat_le, nat_lt}
use Rattle.std.specs.List.{list_any, list_all}
use Rattle.std.proofs.lemmas.Bool.Decides.{nat_tests}
use Rattle.std.proofs.lemmas.List.Folds.{list_any-append}
use Rattle.co_base.specs.declared.names.WaitId.{WaitId}
use Rattle.channel_model.specs.declared.acts.Act.{Act}
use Rattle.channel_model.specs.declared.acts.Act.TheVariants.{Hand, Put, Offer, Await, Admit, Drop, Drain, WakeClosed, Void}
use Rattle.channel_model.specs.declared.acts.ChannelNote.{ChannelNote}
use Rattle.channel_model.specs.declared.acts.ChannelNote.TheVariants as of_channel
use Rattle.job_model.specs.declared.acts.JobAct.{JobAct}
use Rattle.note_book.specs.declared.book.Item.{Item}
use Rattle.note_book.specs.declared.book.Item.TheVariants as item
use Rattle.call_meaning.specs.Telling.{Told, on_channels, on_jobs, PassedBelow, FailedUp, IsCancelling, NoneToAdmit, FitsUpTo, NoReceiver, NothingQueued, IsVoided, made, did, items_in}
use Rattle.call_meaning.specs.ChannelCalls.{Call, sends, receives, channel_of, Answer, spent, blocked, placed, revoked, wait_at, Admits, Drops, Spurns, Overflows, Drains, Wakes, Closes, CancelsChannel, AtOnce, Refused, TryRefused, EndsAtOnce, PlainCall, TryCall, SelectCall, Places, AdmitsIn, Stops, GivesUp, offer_told}
use Rattle.call_meaning.specs.JobCalls.{NotAttached, Starts, Passes, Breaks, Chain, EndsBody, BreaksOff}
use Rattle.job_model.specs.Cancels.{own_cancel}
use Rattle.script_grammar.specs.declared.instructions.Instruction.{Instruction}
use Rattle.script_grammar.specs.declared.instructions.Instruction.TheVariants as line
use Rattle.script_grammar.specs.Declarations.{names_channel}
use Rattle.script_meaning.specs.Configs.{Config}
use Rattle.script_meaning.specs.Lines.{clauses_in}
use Rattle.script_meaning.proofs.BooksGoOn.{items_in-append}

-- the act gives a place of this channel, or of a later one
abbrev pub gives_place : ℕ → Act → Bool
gives_place base (Hand c q v) = nat_le base c
gives_place base (Put c q v) = nat_le base c
gives_place base (Offer c q v w n) = nat_le base c
gives_place base (Await c q w n) = nat_le base c
gives_place base other = false

-- such a place was given, or none was left
abbrev pub note_asks : ℕ → ChannelNote → Bool
note_asks base (of_channel.Made act) = gives_place base act
note_asks base (of_channel.Spent c) = nat_le base c
note_asks base other = false

abbrev pub item_asks : ℕ → Item → Bool
item_asks base (item.Channel n) = note_asks base n
item_asks base (item.Job n) = false

abbrev pub asks_in : ℕ → List Told → Bool
asks_in base group = list_any (item_asks base) (items_in group)

abbrev pub IsLow : ℕ → Call → Type 0
IsLow base call = nat_le base (channel_of call) ≡ false

unfoldable pub AreLow : ℕ → List Call → Type 0
AreLow base [] = Unit {0}
AreLow base (call ∷ calls) = IsLow base call × AreLow base calls

none_of : (a : Bool) → a ≡ false → (a || false) ≡ false
none_of a e = or_from a false e refl

low_left : (base : ℕ) (xs ys : List Call) → AreLow base (xs ++ ys) → AreLow base xs
unfolding AreLow
low_left base [] ys h = tt
low_left base (x ∷ xs) ys h = (h.0, low_left base xs ys h.1)

low_right : (base : ℕ) (xs ys : List Call) → AreLow base (xs ++ ys) → AreLow base ys
unfolding AreLow
low_right base [] ys h = h
low_right base (x ∷ xs) ys h = low_right base xs ys h.1

low_first : (base : ℕ) (call : Call) (calls : List Call) → AreLow base (call ∷ calls) → IsLow base call
unfolding AreLow
low_first base call calls h = h.0

-- the clause that is chosen of these
low_of : (base : ℕ) (clauses before : List Call) (call : Call) (later : List Call) → clauses ≡ before ++ call ∷ later → AreLow base clauses
    → IsLow base call
low_of base clauses before call later e h = low_first base call later (low_right base before (call ∷ later) (subst (AreLow base) e h))

module _ (base : ℕ) where
  pub asks_then : (xs ys : List Told) → asks_in base (xs ++ ys) ≡ (asks_in base xs || asks_in base ys)
  asks_then xs ys = ap (list_any (item_asks base)) (items_in-append xs ys) ∙ list_any-append (item_asks base) (items_in xs) (items_in ys)

  pub neither : (xs ys : List Told) → asks_in base xs ≡ false → asks_in base ys ≡ false → asks_in base (xs ++ ys) ≡ false
  neither xs ys e f = asks_then xs ys ∙ or_from (asks_in base xs) (asks_in base ys) e f

  -- ---- channels

  none_made : {X : Type 0} (f : X → Act) (xs : List X) → ((x : X) → gives_place base (f x) ≡ false)
      → asks_in base (map (λ x. made (f x)) xs) ≡ false
  unfolding items_in
  none_made f [] h = refl
  none_made f (x ∷ xs) h = or_from (gives_place base (f x)) (asks_in base (map (λ x. made (f x)) xs)) (h x) (none_made f xs h)

  pub admits_none : (c : ℕ) (group : List Told) → Admits c group → asks_in base group ≡ false
  unfolding items_in
  admits_none c group h = ap (asks_in base) h.all ∙ neither (map (λ q. made (Admit c q)) h.places) (on_channels (NoneToAdmit c h.mark) ∷ [])
      (none_made (λ q. Admit c q) h.places (λ q. refl)) refl

  drops_none : (c q : ℕ) (group : List Told) → Drops c q group → asks_in base group ≡ false
  unfolding items_in
  drops_none c q group h = ap (asks_in base) h.all ∙ neither (map (λ d. made (Drop c d.0 d.1)) h.dropped) (on_channels (FitsUpTo c q) ∷ [])
      (none_made (λ d. Drop c d.0 d.1) h.dropped (λ d. refl)) refl

  spurns_none : (c q : ℕ) (group : List Told) → Spurns c q group → asks_in base group ≡ false
  unfolding items_in
  spurns_none c q _ (Spurns.gone v) = refl
  spurns_none c q _ Spurns.stays = refl

  overflows_none : (c q : ℕ) (group : List Told) → Overflows c q group → asks_in base group ≡ false
  overflows_none c q group h = ap (asks_in base) h.all ∙ neither h.drops h.spurns (drops_none c q h.drops h.dropped)
      (spurns_none c q h.spurns h.spurned)

  drains_none : (c : ℕ) (group : List Told) → Drains c group → asks_in base group ≡ false
  unfolding items_in
  drains_none c group h = ap (asks_in base) h.all ∙ neither (map (λ d. made (Drain c d.0 d.1)) h.drained)
      (on_channels (NothingQueued c) ∷ on_channels (IsVoided c) ∷ []) (none_made (λ d. Drain c d.0 d.1) h.drained (λ d. refl)) refl

  wakes_none : (c : ℕ) (group : List Told) → Wakes c group → asks_in base group ≡ false
  unfolding items_in
  wakes_none c group h = ap (asks_in base) h.all ∙ neither (map (λ q. made (WakeClosed c q)) h.places) (on_channels (NoReceiver c) ∷ [])
      (none_made (λ q. WakeClosed c q) h.places (λ q. refl)) refl

  pub closes_none : (c v : ℕ) (group : List Told) → Closes c v group → asks_in base group ≡ false
  unfolding items_in
  closes_none c v _ (Closes.now wakes w) = wakes_none c wakes w
  closes_none c v _ (Closes.before u wakes w) = wakes_none c wakes w

  pub cancels_channel_none : (c : ℕ) (group : List Told) → CancelsChannel c group → asks_in base group ≡ false
  unfolding items_in
  cancels_channel_none c group (CancelsChannel.now closes drains _ h d e) = ap (asks_in base) e
      ∙ neither closes (made (Void c) ∷ drains) (closes_none c 0 closes h) (drains_none c drains d)
  cancels_channel_none c group (CancelsChannel.before closes drains _ h d e) = ap (asks_in base) e
      ∙ neither closes drains (closes_none c 0 closes h) (drains_none c drains d)

  at_once_none : (call : Call) (group : List Told) (a : Answer) → IsLow base call → AtOnce call group a → asks_in base group ≡ false
  unfolding items_in
  at_once_none _ _ _ low (AtOnce.hands c v q) = none_of (nat_le base c) low
  at_once_none _ _ _ low (AtOnce.puts c v q more h) = or_from (nat_le base c) (asks_in base more) low (overflows_none c q more h)
  at_once_none _ _ _ low (AtOnce.takes c v q admits h) = admits_none c admits h

  pub refused_none : (call : Call) (told : Told) (a : Answer) → Refused call told a → asks_in base (told ∷ []) ≡ false
  unfolding items_in
  refused_none _ _ _ (Refused.send c v u) = refl
  refused_none _ _ _ (Refused.receive c u) = refl

  try_refused_none : (call : Call) (told : Told) → TryRefused call told → asks_in base (told ∷ []) ≡ false
  unfolding items_in
  try_refused_none _ _ (TryRefused.send c v u) = refl
  try_refused_none _ _ (TryRefused.receive c u) = refl

  spent_none : (call : Call) → IsLow base call → asks_in base (spent call) ≡ false
  unfolding items_in
  spent_none (sends c v) low = none_of (nat_le base c) low
  spent_none (receives c) low = none_of (nat_le base c) low

  blocked_none : (call : Call) → asks_in base (blocked call ∷ []) ≡ false
  unfolding items_in
  blocked_none (sends c v) = refl
  blocked_none (receives c) = refl

  ended_none : (w : WaitId) (group : List Told) → EndsAtOnce w group → asks_in base group ≡ false
  unfolding items_in
  ended_none w _ EndsAtOnce.sent = refl
  ended_none w _ EndsAtOnce.voided = refl

  offer_none : (c v q : ℕ) (admits : List Told) → nat_le base c ≡ false → Admits c admits → asks_in base (offer_told c v q admits) ≡ false
  unfolding items_in
  offer_none c v q admits low h = or_from (nat_le base c) (asks_in base admits) low (admits_none c admits h)

  pub plain_none : (call : Call) (group : List Told) (a : Answer) → IsLow base call → PlainCall call group a → asks_in base group ≡ false
  unfolding items_in
  plain_none _ _ _ low (PlainCall.at_once call group a h) = at_once_none call group a low h
  plain_none _ _ _ low (PlainCall.refused call told a h) = refused_none call told a h
  plain_none _ _ _ low (PlainCall.no_place call all e) = ap (asks_in base) e ∙ spent_none call low
  plain_none _ _ _ low (PlainCall.offers c v q admits h) = offer_none c v q admits low h
  plain_none _ _ _ low (PlainCall.offer_ends c v q admits settles all h s e) = ap (asks_in base) e
      ∙ neither (offer_told c v q admits) settles (offer_none c v q admits low h) (ended_none (wait_at c q) settles s)
  plain_none _ _ _ low (PlainCall.awaits c q) = none_of (nat_le base c) low

  pub try_none : (call : Call) (group : List Told) (a : Answer) → IsLow base call → TryCall call group a → asks_in base group ≡ false
  try_none _ _ _ low (TryCall.at_once call group a h) = at_once_none call group a low h
  try_none _ _ _ low (TryCall.refused call told h) = try_refused_none call told h
  try_none _ _ _ low (TryCall.blocks call) = blocked_none call
  try_none _ _ _ low (TryCall.no_place c v) = spent_none (sends c v) low

  passed_none : (calls : List Call) → asks_in base (map blocked calls) ≡ false
  unfolding items_in
  passed_none [] = refl
  passed_none (call ∷ calls) = neither (blocked call ∷ []) (map blocked calls) (blocked_none call) (passed_none calls)

  placed_none : (w : WaitId) (n q : ℕ) (call : Call) → IsLow base call → asks_in base (placed w n q call ∷ []) ≡ false
  unfolding items_in
  placed_none w n q (sends c v) low = none_of (nat_le base c) low
  placed_none w n q (receives c) low = none_of (nat_le base c) low

  places_none : (w : WaitId) (n : ℕ) (calls : List Call) (group : List Told) → AreLow base calls → Places w n calls group
      → asks_in base group ≡ false
  unfolding items_in AreLow
  places_none w _ _ _ low (Places.none n) = refl
  places_none w _ _ _ low (Places.one n q call calls more h) =
      neither (placed w n q call ∷ []) more (placed_none w n q call low.0) (places_none w _ calls more low.1 h)

  admits_in_none : (calls : List Call) (group : List Told) → AdmitsIn calls group → asks_in base group ≡ false
  unfolding items_in
  admits_in_none _ _ AdmitsIn.none = refl
  admits_in_none _ _ (AdmitsIn.offered c v calls admits more all a h e) = ap (asks_in base) e
      ∙ neither admits more (admits_none c admits a) (admits_in_none calls more h)
  admits_in_none _ _ (AdmitsIn.awaited c calls all h) = admits_in_none calls all h

  stops_none : (call : Call) (group : List Told) (a : Answer) → IsLow base call → Stops call group a → asks_in base group ≡ false
  unfolding items_in
  stops_none _ _ _ low (Stops.closed call told a h) = refused_none call told a h
  stops_none _ _ _ low (Stops.no_place call all e) = ap (asks_in base) e ∙ spent_none call low
  stops_none _ _ _ low other = refl

  pub select_none : (calls : List Call) (group : List Told) (a : Answer) → AreLow base calls → SelectCall calls group a
      → asks_in base group ≡ false
  unfolding items_in
  select_none calls _ _ low (SelectCall.chooses before later call group all a f h e) = ap (asks_in base) e
      ∙ neither (map blocked before) group (passed_none before) (at_once_none call group a (low_of base calls before call later f low) h)
  select_none calls _ _ low (SelectCall.meets_close before later call t all a f h e) = ap (asks_in base) e
      ∙ neither (map blocked before) (t ∷ []) (passed_none before) (refused_none call t a h)
  select_none calls _ _ low (SelectCall.no_place before later c v all f e) = ap (asks_in base) e
      ∙ neither (map blocked before) (spent (sends c v)) (passed_none before)
      (spent_none (sends c v) (low_of base calls before (sends c v) later f low))
  select_none calls _ _ low (SelectCall.waits w group admits all h d e) = ap (asks_in base) e
      ∙ neither (map blocked calls) (group ++ admits) (passed_none calls)
      (neither group admits (places_none w 1 calls group low h.places) (admits_in_none calls admits d))
  select_none calls _ _ low (SelectCall.resolved w before later call group admits all f h d e) = ap (asks_in base) e
      ∙ neither (map blocked calls) _ (passed_none calls) (neither group _
      (places_none w 1 before group (low_left base before (call ∷ later) (subst (AreLow base) f low)) h.places)
      (admits_in_none before admits d))
  select_none calls _ _ low (SelectCall.stops_at_first later call stop all a f h e) = ap (asks_in base) e
      ∙ neither (map blocked calls) stop (passed_none calls)
      (stops_none call stop a (low_first base call later (subst (AreLow base) f low)) h)
  select_none calls _ _ low (SelectCall.stops w before later call group stop admits all a f h s d e) = ap (asks_in base) e
      ∙ neither (map blocked calls) _ (passed_none calls) (neither ((group ++ stop)
      ++ revoked w) admits (neither (group ++ stop) (revoked w)
      (neither group stop (places_none w 1 before group (low_left base before (call ∷ later) (subst (AreLow base) f low)) h.places)
      (stops_none call stop a (low_of base calls before call later f low) s)) refl) (admits_in_none before admits d))
  select_none calls _ _ low (SelectCall.stops_late w before later call group stop admits all a f h s d e) = ap (asks_in base) e
      ∙ neither (map blocked calls) _ (passed_none calls) (neither (group
      ++ stop) _ (neither group stop (places_none w 1 before group (low_left base before (call ∷ later) (subst (AreLow base) f low))
      h.places) (stops_none call stop a (low_of base calls before call later f low) s)) (admits_in_none before admits d))

  pub gives_up_none : (w : WaitId) (group : List Told) → GivesUp w group → asks_in base group ≡ false
  unfolding items_in
  gives_up_none w _ (GivesUp.withdrawn admits h) = admits_none w.channel admits h
  gives_up_none w _ (GivesUp.late admits h) = admits_none w.channel admits h
  gives_up_none w _ (GivesUp.late_undelivered v admits h) = admits_none w.channel admits h
  gives_up_none w _ other = refl

  -- ---- Jobs

  pub starts_none : (row : ℕ) (group : List Told) → Starts row group → asks_in base group ≡ false
  unfolding items_in
  starts_none row _ Starts.now = refl
  starts_none row _ Starts.before = refl

  pub refusal_none : (parent : ℕ) (scoped : Bool) (group : List Told) → NotAttached parent scoped group → asks_in base group ≡ false
  unfolding items_in
  refusal_none parent _ _ NotAttached.no_row = refl
  refusal_none parent _ _ NotAttached.used = refl
  refusal_none parent _ _ (NotAttached.parent_ended scoped) = refl

  did_none : (acts : List JobAct) → asks_in base (map did acts) ≡ false
  unfolding items_in
  did_none [] = refl
  did_none (act ∷ acts) = did_none acts

  pub passes_none : (row : ℕ) (reason : _) (newly : Bool) (group : List Told) → Passes row reason newly group → asks_in base group ≡ false
  unfolding items_in
  passes_none row reason newly group g = ap (asks_in base) g.all
      ∙ neither (map did (own_cancel newly row reason ++ g.below)) (on_jobs (PassedBelow row g.below) ∷ [])
      (did_none (own_cancel newly row reason ++ g.below)) refl

  breaks_none : (k row : ℕ) (failure : Option ℕ) (group : List Told) → Breaks k row failure group → asks_in base group ≡ false
  unfolding items_in
  breaks_none k row _ _ (Breaks.seen failure) = refl
  breaks_none k row _ _ (Breaks.had_been failure group g) = passes_none row _ false group g
  breaks_none k row _ _ (Breaks.asked group g) = passes_none row _ true group g
  breaks_none k row _ _ (Breaks.scope_fails f group n g) = passes_none row _ true group g
  breaks_none k row _ _ (Breaks.fails f up pass all is g e) =
      ap (asks_in base) e ∙ neither pass (map did up ++ on_jobs (FailedUp row up) ∷ []) (passes_none row _ true pass g)
      (neither (map did up) (on_jobs (FailedUp row up) ∷ []) (did_none up) refl)

  chain_none : (done row : ℕ) (group : List Told) → Chain done row group → asks_in base group ≡ false
  unfolding items_in
  chain_none done _ _ (Chain.stops row) = refl
  chain_none done _ _ (Chain.root end closes c) = closes_none _ _ closes c
  chain_none done _ _ (Chain.goes_up row parent end closes more all n c m e) =
      ap (asks_in base) e ∙ neither closes _ (closes_none _ _ closes c) (chain_none done parent more m)

  pub ends_none : (done row v : ℕ) (group : List Told) → EndsBody done row v group → asks_in base group ≡ false
  unfolding items_in
  ends_none done row v _ (EndsBody.ends_body chain c) = chain_none done row chain c

  pub breaks_off_none : (done k row : ℕ) (failure : Option ℕ) (group : List Told) → BreaksOff done k row failure group
      → asks_in base group ≡ false
  unfolding items_in
  breaks_off_none done k row failure group b =
      ap (asks_in base) b.all ∙ neither b.cancels (on_jobs (IsCancelling row) ∷ b.end) (breaks_none k row failure b.cancels b.breaks)
      (ends_none done row 0 b.end b.ends)

-- ---- lines name declared channels

pub below_low : (n c : ℕ) → nat_lt c n ≡ true → nat_le n c ≡ false
below_low n c e = grind (arith, nat_tests)

-- the clauses of a select are on declared channels
pub clauses_low : (x : Config) (n : ℕ) (code : List Instruction) → list_all (names_channel n) code ≡ true → AreLow n (clauses_in x code)
unfolding AreLow
clauses_low x n [] e = tt
clauses_low x n (line.OnSend c v ∷ code) e = let two = both_true (nat_lt c n) _ e in (below_low n c two.0, clauses_low x n code two.1)
clauses_low x n (line.OnReceive c ∷ code) e = let two = both_true (nat_lt c n) _ e in (below_low n c two.0, clauses_low x n code two.1)
clauses_low x n (other ∷ code) e = tt

pub all_drop : (n i : ℕ) (code : List Instruction) → list_all (names_channel n) code ≡ true
    → list_all (names_channel n) (drop i code) ≡ true
all_drop n zero code h = h
all_drop n (suc i) [] h = h
all_drop n (suc i) (x ∷ code) h = all_drop n i code (both_true (names_channel n x) _ h).1
