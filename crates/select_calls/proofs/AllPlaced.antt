-- The clauses are placed one after the other, with one wait.
use Rattle.std.specs.Prelude.{◌≡◌, ℕ, ◌+◌, ◌<◌, ◌≤◌, zero, suc, true, List, [], ◌∷◌, ◌++◌, length, take, Option, Some, None, Ok, Err, slice_get, refl}
use mathlib.Core.List.{IsPrefix}
use Rattle.std.proofs.Common.{sym, ap, subst, ◌∙◌, arith}
use Rattle.co_base.specs.declared.names.Memory.{Memory}
use Rattle.co_base.specs.declared.names.WaitId.{WaitId}
use Rattle.channel_model.specs.declared.floor.WaitState.TheVariants.{Standing}
use Rattle.channel_model.specs.Channels.{Shape, State, Channel, kind_at, is_full}
use Rattle.channel_model.specs.Floors.{Floor}
use Rattle.channel_model.specs.Answers.{state_of_wait}
use Rattle.channel_model.specs.Registers.{main_at}
use Rattle.channel_model.proofs.Spans.{prefix_self, prefix_then, moment_within}
use Rattle.note_book.specs.declared.book.Item.{Item}
use Rattle.call_meaning.specs.Seen.{SeenOnChannels, state_in}
use Rattle.call_meaning.specs.Telling.{Told}
use Rattle.call_meaning.specs.ChannelCalls.{Call, sends, receives, Answer, LooksAgain, NoPlace, wait_at, placed, Begins, Places, channel_of}
use Rattle.call_meaning.proofs.ChannelsHeard.{told_then}
use Rattle.channel_calls.proofs.Untold.{told_none}
use Rattle.select_calls.specs.declared.placing.Placed.TheVariants as placing
use Rattle.select_calls.specs.declared.placing.Placings.TheVariants as placings
use Rattle.channel_calls.specs.Calls.{IsUntouched}
use Rattle.select_calls.specs.Clauses.{MaySelect}
use Rattle.select_calls.specs.Selects.{HasStood}
use Rattle.select_calls.specs.Parts.{BlockedAt, MayWait, AllMayWait, HasClauses, HasPlaced, numbered, Stopped, PlacesAt, MayPlaceAt, IsPlacing, ArePlaced, PlacedSoFar, PlacedAndThen, StopsAt, PlacingsAnswer}
use Rattle.select_calls.proofs.ClausesAt.{take_next, length_take}
use Rattle.select_calls.proofs.AllTried.{may_later}

-- ---- lists of clauses

numbered_next : (m : ℕ) (xs : List Call) (x : Call) → numbered m (xs ++ x ∷ []) ≡ numbered m xs ++ (m + length xs, channel_of x) ∷ []
numbered_next m [] x = ap (λ n. (n, channel_of x) ∷ []) (let e : m ≡ m + 0 = omega arith in e)
numbered_next m (y ∷ xs) x =
    ap (λ l. (m, channel_of y) ∷ l) (numbered_next (m + 1) xs x
    ∙ ap (λ n. numbered (m + 1) xs ++ (n, channel_of x) ∷ []) (let e : m + 1 + length xs ≡ m + length (y ∷ xs) = omega arith in e))

places_next : (w : WaitId) (m q : ℕ) (xs : List Call) (x : Call) (group : List Told) → Places w m xs group
    → Places w m (xs ++ x ∷ []) (group ++ placed w (m + length xs) q x ∷ [])
places_next w m q _ x _ (Places.none n) = subst (λ k. Places w m (x ∷ []) (placed w k q x ∷ [])) (let e : m ≡ m + 0 = omega arith
    in e) (Places.one m q x [] [] (Places.none (m + 1)))
places_next w m q _ x _ (Places.one n p call calls more rest) =
    let later = places_next w (m + 1) q calls x more rest in
    Places.one m p call (calls ++ x ∷ []) (more ++ placed w (m + length (call ∷ calls)) q x ∷ [])
    (subst (λ k. Places w (m + 1) (calls ++ x ∷ []) (more ++ placed w k q x ∷ []))
    (let e : m + 1 + length calls ≡ m + length (call ∷ calls) = omega arith in e) later)

begins_next : (w : WaitId) (group more : List Told) → Begins w group → Begins w (group ++ more)
begins_next _ _ more (Begins.send c v q rest) = Begins.send c v q (rest ++ more)
begins_next _ _ more (Begins.receive c q rest) = Begins.receive c q (rest ++ more)

begins_first : (call : Call) (q : ℕ) → Begins (wait_at (channel_of call) q) (placed (wait_at (channel_of call) q) 1 q call ∷ [])
begins_first (sends c v) q = Begins.send c v q []
begins_first (receives c) q = Begins.receive c q []

no_begin : {A : Type 0} (w : WaitId) (group : List Told) → Begins w group → group ≡ [] → A
no_begin _ _ (Begins.send c v q more) e = cc
no_begin _ _ (Begins.receive c q more) e = cc

some_placed : (w : WaitId) (m : ℕ) (xs : List Call) (group : List Told) → Begins w group → Places w m xs group → 0 < length xs
some_placed w m _ _ b (Places.none n) = no_begin w [] b refl
some_placed w m _ _ b (Places.one n q call calls more rest) = omega arith

take_most : {A : Type 0} (n : ℕ) (xs : List A) → length (take n xs) ≤ n
take_most zero xs = omega arith
take_most (suc n) [] = omega arith
take_most (suc n) (x ∷ xs) = let h = take_most n xs in omega (arith, h)

-- a select that has a wait has placed a clause
pub has_begun : (calls : List Call) (n : ℕ) (main : Option WaitId) (group : List Told) (a b : SeenOnChannels) (w : WaitId)
    → ArePlaced calls n main group a b → main ≡ Some w → 0 < n
has_begun calls n None group a b w h e = cc
has_begun calls n (Some u) group a b w h e =
    let some = some_placed u 1 (take n calls) group h.first.begins h.first.places in
    let most = take_most n calls in
    omega (arith, some, most)

pub has_clauses : (calls : List Call) (n : ℕ) (main : Option WaitId) (group : List Told) (a b : SeenOnChannels)
    → ArePlaced calls n main group a b
    → HasPlaced main (numbered 1 (take n calls)) b
has_clauses calls n None group a b h = ap (λ m. numbered 1 (take m calls)) h.0
has_clauses calls n (Some w) group a b h = h.clauses

-- ---- the turns

pub none_placed : (calls : List Call) {main : Option WaitId} (a : SeenOnChannels) → main ≡ None → PlacedSoFar calls 0 main a a
none_placed calls {main} a e =
    subst (λ u. PlacedSoFar calls 0 u a a) (sym e) (record { group = []; placed = (refl, refl); told = told_none a })

-- where nobody else makes entries the clauses that are left are blocked as they were
abbrev pub StillLeft : List Call → ℕ → SeenOnChannels → SeenOnChannels → Type 0
StillLeft calls n old new =
    old.floor.alone ≡ true
    → ((m : ℕ) (call : Call) → slice_get calls m ≡ Some call → BlockedAt old.floor.shape call (state_in old))
    → (m : ℕ) (call : Call) → n ≤ m → slice_get calls m ≡ Some call → BlockedAt old.floor.shape call (state_in new)

channel_blocked : (shape : Shape) (call : Call) (s t : State) → t.channels (channel_of call) ≡ s.channels (channel_of call)
    → BlockedAt shape call s → BlockedAt shape call t
channel_blocked shape (sends c v) s t e h = record {
  may_wait = h.may_wait;
  not_closed = ap (λ (ch : Channel). ch.closed) e
      ∙ h.not_closed;
  nobody = ap (λ (ch : Channel). ch.receivers) e
      ∙ h.nobody;
  full = ap (λ (ch : Channel). is_full (kind_at shape c) (length ch.queue)) e ∙ h.full;
}
channel_blocked shape (receives c) s t e h = record {
  not_closed = ap (λ (ch : Channel). ch.closed) e
      ∙ h.not_closed;
  nothing = ap (λ (ch : Channel). ch.queue) e ∙ h.nothing;
}

pub all_left : (calls : List Call) (a : SeenOnChannels) → StillLeft calls 0 a a
all_left calls a alone h m call le e = h m call e

-- ---- one clause more

abbrev with_parts : ℕ → Floor → List Item → SeenOnChannels
with_parts who floor items = record { who = who; floor = floor; items = items }

untouched_same : {a b : SeenOnChannels} → IsUntouched a b → b ≡ a
untouched_same {a} {b} h =
    let who : b ≡ with_parts a.who b.floor b.items = ap (λ x. with_parts x b.floor b.items) h.who in
    let floor : with_parts a.who b.floor b.items ≡ with_parts a.who a.floor b.items = ap (λ x. with_parts a.who x b.items) h.floor in
    let items : with_parts a.who a.floor b.items ≡ a = ap (λ x. with_parts a.who a.floor x) h.book in
    who ∙ floor ∙ items

pub may_place : {calls : List Call} {n : ℕ} {main : Option WaitId} {a b : SeenOnChannels} → MaySelect calls a
    → AllMayWait a.floor.shape calls
    → n < length calls → PlacedSoFar calls n main a b → MayPlaceAt calls n main b
may_place {calls} {n} {main} {a} {b} may waits lt h = record {
  may = may_later may h.told.who h.told.added.same;
  there = lt;
  waits = λ call e. subst (λ (s : Shape). MayWait s call) (sym h.told.added.same.shape) (waits n call e);
  placed = has_clauses calls n main h.group a b h.placed;
  begun = λ w e. has_begun calls n main h.group a b w h.placed e;
}

kept_placed : (calls : List Call) (n : ℕ) (u : Option WaitId) (group : List Told) (a b d : SeenOnChannels)
    → ((cs : List (ℕ × ℕ)) → HasPlaced u cs b → HasPlaced u cs d) → IsPrefix b.floor.seen d.floor.seen → ArePlaced calls n u group a b
    → ArePlaced calls n u group a d
kept_placed calls n None group a b d keep p q = q
kept_placed calls n (Some w) group a b d keep p q = record {
  first = q.first;
  clauses = keep _ q.clauses;
  stood = moment_within a.floor a.floor b.floor d.floor (λ s. state_of_wait (s.waits w) ≡ Some Standing) (prefix_self a.floor.seen) q.stood
      p;
}

module _ {calls : List Call} {n : ℕ} {main : Option WaitId} {a b d : SeenOnChannels} (h : PlacedSoFar calls n main a b) where
  pub one_placed : {w : WaitId} → PlacesAt calls n main b d (Ok (placing.Stands w)) → PlacedSoFar calls (n + 1) (Some w) a d
  one_placed {w} t = record {
    group = h.group ++ placed w (n + 1) t.answer.place t.call ∷ [];
    placed = by_main main refl h.placed t.answer.wait t.answer.clauses t.answer.begins;
    told = told_then h.told t.answer.told;
  }
    where
      long : length (take n calls) ≡ n
      long = length_take calls n t.call t.at

      clauses_next : numbered 1 (take (n + 1) calls) ≡ numbered 1 (take n calls) ++ (n + 1, channel_of t.call) ∷ []
      clauses_next =
          ap (numbered 1) (take_next calls n t.call t.at) ∙ numbered_next 1 (take n calls) t.call
          ∙ ap (λ m. numbered 1 (take n calls) ++ (m, channel_of t.call) ∷ [])
          (let e : 1 + length (take n calls) ≡ n + 1 = omega (arith, long) in e)

      by_main : (u : Option WaitId) → main ≡ u → ArePlaced calls n u h.group a b → w ≡ main_at (channel_of t.call) t.answer.place u
          → ((cs : List (ℕ × ℕ)) → HasPlaced u cs b → HasClauses d.who (cs ++ (n + 1, channel_of t.call) ∷ []) ((state_in d).waits w))
          → (u ≡ None → state_of_wait ((state_in d).waits w) ≡ Some Standing)
          → IsPlacing calls (n + 1) w (h.group ++ placed w (n + 1) t.answer.place t.call ∷ []) a d
      by_main None e p is cs begins =
          let first_n : n + 1 ≡ 1 = let z = p.0 in omega (arith, z) in
          let only : take (n + 1) calls ≡ t.call ∷ [] = take_next calls n t.call t.at ∙ ap (λ m. take m calls ++ t.call ∷ []) p.0 in
          let group_is : h.group ++ placed w (n + 1) t.answer.place t.call ∷ [] ≡ placed w 1 t.answer.place t.call ∷ [] =
          ap (λ l. l ++ placed w (n + 1) t.answer.place t.call ∷ []) p.1 ∙ ap (λ m. placed w m t.answer.place t.call ∷ []) first_n in
          record {
            first = record {
              begins = subst (Begins w) (sym group_is) (subst (λ u. Begins u (placed u 1 t.answer.place t.call ∷ [])) (sym is)
                  (begins_first t.call t.answer.place));
              places = subst (λ l. Places w 1 l (h.group ++ placed w (n + 1) t.answer.place t.call ∷ [])) (sym only)
                  (subst (Places w 1 (t.call ∷ [])) (sym group_is) (Places.one 1 t.answer.place t.call [] [] (Places.none 2)));
            };
            clauses = subst (λ l. HasClauses d.who l ((state_in d).waits w)) (sym clauses_next)
                (cs (numbered 1 (take n calls)) (ap (λ m. numbered 1 (take m calls)) p.0));
            stood = record {
              moment = d.floor.seen;
              after = prefix_then a.floor.seen b.floor.seen d.floor.seen h.told.added.longer
                  t.answer.told.added.longer;
              before = prefix_self d.floor.seen;
              holds = begins refl;
            };
          }
      by_main (Some u) e p is cs begins = record {
        first = record {
          begins = begins_next w h.group _ (subst (λ x. Begins x h.group) (sym is) p.first.begins);
          places = subst (λ l. Places w 1 l (h.group ++ placed w (n + 1) t.answer.place t.call ∷ [])) (sym (take_next calls n t.call t.at))
              (subst (λ m. Places w 1 (take n calls ++ t.call ∷ []) (h.group ++ placed w m t.answer.place t.call ∷ []))
              (let e : 1 + length (take n calls) ≡ n + 1 = omega (arith, long) in e)
              (places_next w 1 t.answer.place (take n calls) t.call h.group
              (subst (λ x. Places x 1 (take n calls) h.group) (sym is) p.first.places)));
        };
        clauses = subst (λ l. HasClauses d.who l ((state_in d).waits w)) (sym clauses_next) (cs (numbered 1 (take n calls)) p.clauses);
        stood = subst (λ x. HasStood x a d) (sym is) (moment_within a.floor a.floor b.floor d.floor
            (λ s. state_of_wait (s.waits u) ≡ Some Standing) (prefix_self a.floor.seen) p.stood t.answer.told.added.longer);
      }

  -- what is left stays blocked
  pub one_left : {w : WaitId} → MaySelect calls a → PlacesAt calls n main b d (Ok (placing.Stands w)) → StillLeft calls n a b
      → StillLeft calls (n + 1) a d
  one_left {w} may t left alone all m call le e =
      let apart : channel_of call ≡ channel_of t.call → ⊥ = λ f. let same : m ≡ n = may.apart m n call t.call e t.at f
      in absurd (omega (arith, le, same)) in
      channel_blocked a.floor.shape call (state_in b) (state_in d)
      (t.answer.others (h.told.added.same.alone ∙ alone) (channel_of call) apart) (left alone all m call (omega (arith, le)) e)

  pub one_resolved : n < length calls → PlacesAt calls n main b d (Ok placing.Resolved)
      → PlacingsAnswer calls a d main (Ok (placings.Resolved n))
  one_resolved lt t = (
    lt,
    record {
      group = h.group;
      then_told = t.answer.0.told;
      placed = kept_placed calls n main h.group a b d t.answer.1 t.answer.0.left.added.longer h.placed;
      goes = t.answer.0.goes;
      told = told_then h.told t.answer.0.left;
    },
  )

  stops_so : (a' : Answer) (call : Call) → slice_get calls n ≡ Some call → Stopped call a' main b d
      → PlacedAndThen calls n main (StopsAt calls n a') a d
  stops_so a' call e t = record {
    group = h.group;
    then_told = t.0.told;
    placed = kept_placed calls n main h.group a b d t.1 t.0.left.added.longer h.placed;
    goes = (call, e, t.0.goes);
    told = told_then h.told t.0.left;
  }

  pub one_spent : PlacesAt calls n main b d (Ok placing.Spent) → PlacingsAnswer calls a d main (Ok (placings.Spent n))
  one_spent t = stops_so NoPlace t.call t.at t.answer

  pub one_changed : StillLeft calls n a b → PlacesAt calls n main b d (Ok placing.Changed)
      → PlacingsAnswer calls a d main (Ok (placings.Changed n))
  one_changed left t = (
    stops_so LooksAgain t.call t.at t.answer.0,
    λ alone all. t.answer.1 (h.told.added.same.alone ∙ alone)
        (subst (λ (s : Shape). BlockedAt s t.call (state_in b)) (sym h.told.added.same.shape) (left alone all n t.call (omega arith) t.at)),
  )

  pub one_unplaced : (m : Memory) → PlacesAt calls n main b d (Err m) → PlacingsAnswer calls a d main (Err m)
  one_unplaced m t = (n, subst (PlacedSoFar calls n main a) (sym (untouched_same t.answer)) h)
