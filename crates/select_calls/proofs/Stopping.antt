-- What a select comes to whose clauses were all blocked.
use Rattle.std.specs.Prelude.{◌≡◌, ℕ, ◌+◌, ◌<◌, ◌⊎◌, zero, suc, Bool, true, false, List, [], ◌∷◌, ◌++◌, length, map, take, drop, Option, Some, None, Result, Ok, Err, slice_get, refl}
use Rattle.std.specs.List.{list_any}
use Rattle.std.proofs.Common.{sym, ap, subst, ◌∙◌, arith, append_assoc, get_or, inl, inr, ⊎_elim}
use Rattle.std.proofs.lemmas.Option.{slice_get_within, slice_get-get_or}
use Rattle.co_base.specs.declared.names.Memory.{Memory}
use Rattle.co_base.specs.declared.names.WaitId.{WaitId}
use Rattle.channel_model.specs.declared.acts.ChannelNote.TheVariants.{Late, MainResolved}
use Rattle.channel_model.specs.declared.floor.WaitState.TheVariants.{Standing}
use Rattle.channel_model.specs.Channels.{Shape, Wait}
use Rattle.channel_model.specs.Answers.{IsUnsettledOf, state_of_wait}
use Rattle.channel_model.proofs.Spans.{prefix_self, moment_within}
use Rattle.call_meaning.specs.Seen.{SeenOnChannels, MayCallChannel, state_in}
use Rattle.call_meaning.specs.Telling.{Told, heard}
use Rattle.call_meaning.specs.Calls.{ToldOnChannels}
use Rattle.call_meaning.specs.ChannelCalls.{Call, sends, receives, Answer, Waits, LooksAgain, NoPlace, blocked, revoked, wait_at, placed, Begins, Places, PlacesFirst, AdmitsIn, SelectCall, channel_of}
use Rattle.call_meaning.proofs.Prefixes.{prefix_first}
use Rattle.channel_calls.proofs.Untold.{part_none, part_then}
use Rattle.call_meaning.proofs.ChannelsHeard.{told_then}
use Rattle.channel_calls.specs.Calls.{Tells, ToldPart, IsUntouched, HoldsWait}
use Rattle.select_calls.specs.declared.clause.SelectAnswer.{SelectAnswer}
use Rattle.select_calls.specs.declared.clause.SelectAnswer.TheVariants as answer
use Rattle.select_calls.specs.declared.placing.Placings.TheVariants as placings
use Rattle.select_calls.specs.Clauses.{MaySelect}
use Rattle.select_calls.specs.Selects.{HasStood, settles, SelectsSomehow, SelectedAnswer}
use Rattle.select_calls.specs.Parts.{BlockedAt, MayWait, AllMayWait, AreBlocked, HasClauses, ArePlaced, PlacedSoFar, PlacedAndThen, StopsAt, ResolvedAfter, PlacingsAnswer, RevokedAnswer, MayStop, Revokes, ComesLate, StopsSo, RevokesPart, StopsPart, StoppedAnswer, WasStopped, StopsBehind, SelectsBehind, WaitedAnswer, Waited}
use Rattle.select_calls.proofs.ClausesAt.{split_at, take_all}
use Rattle.select_calls.proofs.AllTried.{may_later}
use Rattle.select_calls.proofs.LeftBehind.{left_named, none_left, some_left, behind_more}
use Rattle.select_calls.proofs.AdmittedIn.{nothing_more, none_in}
use Rattle.select_calls.proofs.PlacedOrSettled.{HasNo, none_in_both, none_in_first, admits_settle_none, stop_settles_none, revoked_settles}

-- ---- what was placed is withdrawn

told_revoked : {w : WaitId} {a b : SeenOnChannels} {y : Bool} → RevokedAnswer w a b (Ok y) → y ≡ true → ToldOnChannels a b (revoked w)
told_revoked {w} {a} {b} r e = subst (λ z. RevokedAnswer w a b (Ok z)) e r

told_late : {w : WaitId} {a b : SeenOnChannels} {y : Bool} → RevokedAnswer w a b (Ok y) → y ≡ false
    → ToldOnChannels a b (heard (Late w) ∷ [])
told_late {w} {a} {b} r e = subst (λ z. RevokedAnswer w a b (Ok z)) e r

module _ (calls : List Call) (n : ℕ) (asked : SelectAnswer) (a : SeenOnChannels) {held : Option WaitId} {w : WaitId} {b d : SeenOnChannels}
    (is : held ≡ Some w) {y : Bool} (r : RevokedAnswer w a b (Ok y)) where
  pub withdrawn_then : y ≡ true → Tells (AdmitsIn (take n calls)) b d → StopsSo calls n asked a d held None asked
  withdrawn_then e t = subst (λ h. StopsSo calls n asked a d h None asked) (sym is) (inl (
    refl,
    refl,
    record {
      told = revoked w ++ t.told;
      goes = record { admits = t.told; admits_are = t.goes; all = refl };
      left = told_then (told_revoked r e) t.left;
    },
  ))

  pub late_then : y ≡ false → Tells (AdmitsIn (take n calls)) b d → StopsSo calls n asked a d held held answer.Waiting
  late_then e t = subst (λ h. StopsSo calls n asked a d h h answer.Waiting) (sym is) (inr (
    refl,
    refl,
    record {
      told = heard (Late w) ∷ t.told;
      goes = record { admits = t.told; admits_are = t.goes; all = refl };
      left = told_then (told_late r e) t.left;
    },
  ))

  pub stopped_withdrawn : y ≡ true → ToldPart (AdmitsIn (take n calls)) b d → StopsPart calls n a d held None
  stopped_withdrawn e t = subst (λ h. StopsPart calls n a d h None) (sym is) (inl (
    refl,
    record {
      told = revoked w ++ t.told;
      goes = record { admits = t.told; part = t.goes; all = refl };
      left = told_then (told_revoked r e) t.left;
    },
  ))

  pub stopped_late : y ≡ false → ToldPart (AdmitsIn (take n calls)) b d → StopsPart calls n a d held held
  stopped_late e t = subst (λ h. StopsPart calls n a d h h) (sym is) (inr (
    refl,
    part_then (AdmitsIn (take n calls)) (ComesLate calls n w) (heard (Late w) ∷ [])
        (λ all r. record { admits = all; admits_are = r; all = refl }) (told_late r e) t,
  ))

-- it was not tried
pub stopped_untold : (calls : List Call) (n : ℕ) {held : Option WaitId} {w : WaitId} {a b : SeenOnChannels} → held ≡ Some w
    → IsUntouched a b
    → StopsPart calls n a b held held
stopped_untold calls n {held} {w} {a} {b} is h =
    let none = none_in (take n calls) in
    subst (λ u. StopsPart calls n a b u u) (sym is) (inr (
      refl,
      part_none (ComesLate calls n w) (heard (Late w) ∷ none.0) (record { admits = none.0; admits_are = none.1; all = refl }) h,
    ))

-- ---- where the clauses are placed

first_of : (calls : List Call) (n : ℕ) (x : Call) (xs : List Call) → take n calls ≡ x ∷ xs → slice_get calls 0 ≡ Some x
first_of [] zero x xs e = cc
first_of [] (suc n) x xs e = cc
first_of (y ∷ ys) zero x xs e = cc
first_of (y ∷ ys) (suc n) x xs e = let k : y ≡ x = cc in ap Some k

channel_at : (w : WaitId) (xs : List Call) (group : List Told) → Begins w group → Places w 1 xs group → (x : Call) × (ys : List Call)
    × (xs ≡ x ∷ ys) × (w.channel ≡ channel_of x)
channel_at _ _ _ (Begins.send c v q more) p = sent p refl
  where
    sent : {xs : List Call} {group : List Told} → Places (wait_at c q) 1 xs group → group ≡ placed (wait_at c q) 1 q (sends c v) ∷ more
        → (x : Call) × (ys : List Call) × (xs ≡ x ∷ ys) × (c ≡ channel_of x)
    sent (Places.none n) e = cc
    sent (Places.one n p (sends d u) calls rest h) e = let k : d ≡ c = cc in (sends d u, calls, refl, sym k)
    sent (Places.one n p (receives d) calls rest h) e = cc
channel_at _ _ _ (Begins.receive c q more) p = awaited p refl
  where
    awaited : {xs : List Call} {group : List Told} → Places (wait_at c q) 1 xs group → group ≡ placed (wait_at c q) 1 q (receives c) ∷ more
        → (x : Call) × (ys : List Call) × (xs ≡ x ∷ ys) × (c ≡ channel_of x)
    awaited (Places.none n) e = cc
    awaited (Places.one n p (sends d u) calls rest h) e = cc
    awaited (Places.one n p (receives d) calls rest h) e = let k : d ≡ c = cc in (receives d, calls, refl, sym k)

holds_clauses : (who : ℕ) (cs : List (ℕ × ℕ)) (x : Option Wait) → HasClauses who cs x → IsUnsettledOf who x
holds_clauses who cs None h = h
holds_clauses who cs (Some x) h = (h.0, h.2)

pub may_stop : (x : Answer) {calls : List Call} {n : ℕ} {held : Option WaitId} {a b : SeenOnChannels} → MaySelect calls a
    → PlacedAndThen calls n held (StopsAt calls n x) a b → MayStop calls n held b
may_stop x {calls} {n} {held} {a} {b} may h = record {
  may = later;
  within = let lt = slice_get_within calls n h.goes.0 h.goes.1 in omega (arith, lt);
  wait = λ w e. of_wait held h.placed w e;
}
  where
    later : MaySelect calls b
    later = may_later may h.told.who h.told.added.same

    of_wait : (u : Option WaitId) → ArePlaced calls n u h.group a b → (w : WaitId) → u ≡ Some w → MayCallChannel w.channel b × HoldsWait w b
    of_wait None p w e = cc
    of_wait (Some u) p w e =
        let same : u ≡ w = cc in
        let at = channel_at u (take n calls) h.group p.first.begins p.first.places in
        let call = later.may_call 0 at.0 (first_of calls n at.0 at.1 at.2) in (
          subst (λ (y : WaitId). MayCallChannel y.channel b) same (subst (λ c. MayCallChannel c b) (sym at.3) call),
          subst (λ y. HoldsWait y b) same (holds_clauses b.who _ ((state_in b).waits u) p.clauses),
        )

stood_on : (w : WaitId) (a b d : SeenOnChannels) (told : List Told) → HasStood w a b → ToldOnChannels b d told → HasStood w a d
stood_on w a b d told h m =
    moment_within a.floor a.floor b.floor d.floor (λ s. state_of_wait (s.waits w) ≡ Some Standing) (prefix_self a.floor.seen) h
    m.added.longer

module _ {calls : List Call} {held : Option WaitId} {a b d : SeenOnChannels} where
  -- all were placed
  pub waits_on_all : (m : ℕ) → m ≡ length calls → MaySelect calls a → PlacedSoFar calls (length calls) held a b
      → Tells (AdmitsIn (take m calls)) b d → WaitedAnswer calls a d held (Ok answer.Waiting)
  waits_on_all m is may h t = by_held held refl h.placed
    where
      by_held : (u : Option WaitId) → held ≡ u → ArePlaced calls (length calls) u h.group a b → WaitedAnswer calls a d u (Ok answer.Waiting)
      by_held None e p = let some = may.some in let none = p.0 in absurd (omega (arith, some, none))
      by_held (Some w) e p = (
        w,
        refl,
        stood_on w a b d _ p.stood t.left,
        record {
          told = h.group ++ t.told;
          goes = SelectCall.waits w h.group t.told (map blocked calls
              ++ (h.group ++ t.told)) (subst (λ l. PlacesFirst w l h.group) (take_all calls) p.first)
              (subst (λ l. AdmitsIn l t.told) (ap (λ z. take z calls) is ∙ take_all calls) t.goes) refl;
          left = told_then h.told t.left;
        },
      )

  pub stops_on_all : (m : ℕ) (e : Memory) → m ≡ length calls → MaySelect calls a → PlacedSoFar calls (length calls) held a b
      → ToldPart (AdmitsIn (take m calls)) b d → WaitedAnswer calls a d held (Err e)
  stops_on_all m e is may h t = by_held held refl h.placed
    where
      same : take m calls ≡ calls
      same = ap (λ z. take z calls) is ∙ take_all calls

      by_held : (u : Option WaitId) → held ≡ u → ArePlaced calls (length calls) u h.group a b → WaitedAnswer calls a d u (Err e)
      by_held None f p = let some = may.some in let none = p.0 in absurd (omega (arith, some, none))
      by_held (Some w) f p = record {
        told = h.group ++ t.told;
        goes = record {
          part = prefix_first (SelectsSomehow calls) (map blocked calls ++ (h.group ++ t.told)) t.goes.rest (
            Waits w,
            SelectCall.waits w h.group (t.told ++ t.goes.rest) _ (subst (λ l. PlacesFirst w l h.group) (take_all calls) p.first)
                (subst (λ l. AdmitsIn l (t.told ++ t.goes.rest)) same t.goes.all)
                (behind_more (map blocked calls) h.group t.told t.goes.rest),
          );
          left = left_named calls (length calls) w h.group t.told p.first
              (none_in_first settles t.told t.goes.rest (admits_settle_none (take m calls) (t.told ++ t.goes.rest) t.goes.all));
        };
        left = told_then h.told t.left;
      }

  -- the wait was resolved
  pub waits_resolved : (n : ℕ) → n < length calls → PlacedAndThen calls n held (ResolvedAfter held) a b
      → Tells (AdmitsIn (take n calls)) b d → WaitedAnswer calls a d held (Ok answer.Waiting)
  waits_resolved n lt h t = by_held held refl h.placed h.goes
    where
      by_held : (u : Option WaitId) → held ≡ u → ArePlaced calls n u h.group a b → ResolvedAfter u h.then_told
          → WaitedAnswer calls a d u (Ok answer.Waiting)
      by_held None e p r = absurd r
      by_held (Some w) e p r = (
        w,
        refl,
        stood_on w a b d _ p.stood t.left,
        record {
          told = (h.group ++ h.then_told) ++ t.told;
          goes = SelectCall.resolved w (take n calls) (drop (n + 1) calls) (get_or calls n (receives 0)) h.group t.told (map blocked calls
              ++ ((h.group ++ h.then_told) ++ t.told)) (split_at calls n (get_or calls n (receives 0))
              (slice_get-get_or calls n (receives 0) lt)) p.first t.goes
              (ap (λ l. map blocked calls ++ l) (append_assoc h.group h.then_told t.told ∙ ap (λ l. h.group ++ (l ++ t.told)) r));
          left = told_then h.told t.left;
        },
      )

  pub stops_resolved : (n : ℕ) (e : Memory) → n < length calls → PlacedAndThen calls n held (ResolvedAfter held) a b
      → ToldPart (AdmitsIn (take n calls)) b d → WaitedAnswer calls a d held (Err e)
  stops_resolved n e lt h t = by_held held refl h.placed h.goes
    where
      call : Call
      call = get_or calls n (receives 0)

      by_held : (u : Option WaitId) → held ≡ u → ArePlaced calls n u h.group a b → ResolvedAfter u h.then_told
          → WaitedAnswer calls a d u (Err e)
      by_held None f p r = absurd r
      by_held (Some w) f p r =
          let told : (h.group ++ h.then_told) ++ t.told ≡ h.group
          ++ (heard (MainResolved w) ∷ t.told) = append_assoc h.group h.then_told t.told ∙ ap (λ l. h.group ++ (l ++ t.told)) r in
          record {
            told = (h.group ++ h.then_told) ++ t.told;
            goes = subst (StopsBehind calls (Some w)) (sym told) (record {
              part = prefix_first (SelectsSomehow calls) (map blocked calls ++ (h.group ++ (heard (MainResolved w) ∷ t.told))) t.goes.rest (
                Waits w,
                SelectCall.resolved w (take n calls) (drop (n + 1) calls) call h.group (t.told
                    ++ t.goes.rest) _ (split_at calls n call (slice_get-get_or calls n (receives 0) lt)) p.first t.goes.all
                    (behind_more (map blocked calls) h.group (heard (MainResolved w) ∷ t.told) t.goes.rest),
              );
              left = left_named calls n w h.group (heard (MainResolved w) ∷ t.told) p.first
                  (none_in_first settles t.told t.goes.rest (admits_settle_none (take n calls) (t.told ++ t.goes.rest) t.goes.all));
            });
            left = told_then h.told t.left;
          }

pub stops_placing : {calls : List Call} {held : Option WaitId} {a b : SeenOnChannels} (m : Memory) → MaySelect calls a
    → (n : ℕ) × PlacedSoFar calls n held a b → WaitedAnswer calls a b held (Err m)
stops_placing {calls} {held} {a} {b} m may h = record { told = h.1.group; goes = by_held held h.1.placed; left = h.1.told }
  where
    by_held : (u : Option WaitId) → ArePlaced calls h.0 u h.1.group a b → StopsBehind calls u h.1.group
    by_held None p = subst (StopsBehind calls None) (sym p.1) (none_left calls may.some)
    by_held (Some w) p = subst (StopsBehind calls (Some w)) (sym (nothing_more h.1.group)) (some_left calls h.0 w h.1.group p.first)

-- ---- a clause had changed

-- the select answers so, with nothing left of it; or it waits
abbrev pub StopsOrWaits : List Call → Answer → SelectAnswer → SeenOnChannels → SeenOnChannels → Option WaitId → SelectAnswer → Type 0
StopsOrWaits calls x asked old new held' y =
    ((y ≡ asked) × (held' ≡ None) × Tells (SelectsBehind calls x) old new)
    ⊎ ((y ≡ answer.Waiting) × ((w : WaitId) × (held' ≡ Some w) × HasStood w old new × Tells (SelectsBehind calls (Waits w)) old new))

module _ {calls : List Call} {n : ℕ} (x : Answer) (asked : SelectAnswer) {held : Option WaitId} (held' : Option WaitId)
    {a b : SeenOnChannels} (d : SeenOnChannels)
    (h : PlacedAndThen calls n held (StopsAt calls n x) a b) where
  abbrev call : Call
  call = h.goes.0

  parts : calls ≡ take n calls ++ call ∷ drop (n + 1) calls
  parts = split_at calls n call h.goes.1

  stopped_none : (u : Option WaitId) → u ≡ None → ArePlaced calls n u h.group a b → Tells (SelectsBehind calls x) a b
  stopped_none None e p = record {
    told = h.group ++ h.then_told;
    goes = SelectCall.stops_at_first (drop 1 calls) call h.then_told (map blocked calls
        ++ (h.group ++ h.then_told)) x (subst (λ m. calls ≡ take m calls ++ call ∷ drop (m + 1) calls) p.0 parts) h.goes.2
        (ap (λ l. map blocked calls ++ (l ++ h.then_told)) p.1);
    left = h.told;
  }
  stopped_none (Some w) e p = cc

  then_revoked : (w : WaitId) → ArePlaced calls n (Some w) h.group a b → Tells (Revokes calls n w) b d → Tells (SelectsBehind calls x) a d
  then_revoked w p t = record {
    told = (h.group ++ h.then_told) ++ t.told;
    goes = SelectCall.stops w (take n calls) (drop (n + 1) calls) call h.group h.then_told t.goes.admits (map blocked calls
        ++ ((h.group ++ h.then_told) ++ t.told)) x parts p.first h.goes.2 t.goes.admits_are
        (ap (λ l. map blocked calls ++ l) (ap (λ l. (h.group ++ h.then_told) ++ l) t.goes.all
        ∙ sym (append_assoc (h.group ++ h.then_told) (revoked w) t.goes.admits)));
    left = told_then h.told t.left;
  }

  then_late : (w : WaitId) → ArePlaced calls n (Some w) h.group a b → Tells (ComesLate calls n w) b d
      → Tells (SelectsBehind calls (Waits w)) a d
  then_late w p t = record {
    told = (h.group ++ h.then_told) ++ t.told;
    goes = SelectCall.stops_late w (take n calls) (drop (n + 1) calls) call h.group h.then_told t.goes.admits (map blocked calls
        ++ ((h.group ++ h.then_told) ++ t.told)) x parts p.first h.goes.2 t.goes.admits_are
        (ap (λ l. map blocked calls ++ ((h.group ++ h.then_told) ++ l)) t.goes.all);
    left = told_then h.told t.left;
  }

  pub stops_or_waits : (y : SelectAnswer) → StopsSo calls n asked b d held held' y → StopsOrWaits calls x asked a d held' y
  stops_or_waits y s = by_held held refl h.placed s
    where
      by_held : (u : Option WaitId) → held ≡ u → ArePlaced calls n u h.group a b → StopsSo calls n asked b d u held' y
          → StopsOrWaits calls x asked a d held' y
      by_held None e p q = inl (q.0, q.1, subst (Tells (SelectsBehind calls x) a) (sym q.2) (stopped_none None refl p))
      by_held (Some w) e p q =
          ⊎_elim (λ r. inl (r.0, r.1, then_revoked w p r.2))
          (λ r. inr (r.0, (w, r.1, stood_on w a b d _ p.stood r.2.left, then_late w p r.2))) q

  -- without memory, what was placed was withdrawn
  part_revoked : (w : WaitId) → ArePlaced calls n (Some w) h.group a b → Tells (RevokesPart calls n w) b d
      → Tells (StopsBehind calls None) a d
  part_revoked w p t =
      let told : (h.group ++ h.then_told) ++ t.told ≡ (h.group ++ h.then_told)
      ++ (revoked w ++ t.goes.admits) = ap (λ l. (h.group ++ h.then_told) ++ l) t.goes.all in
      record {
        told = (h.group ++ h.then_told) ++ t.told;
        goes = subst (StopsBehind calls None) (sym told) (record {
          part = prefix_first (SelectsSomehow calls) (map blocked calls
              ++ ((h.group ++ h.then_told) ++ (revoked w ++ t.goes.admits))) t.goes.part.rest (
                x,
                SelectCall.stops w (take n calls) (drop (n + 1) calls) call h.group h.then_told (t.goes.admits
                    ++ t.goes.part.rest) _ x parts p.first h.goes.2 t.goes.part.all
                    (behind_more (map blocked calls) (h.group ++ h.then_told) (revoked w ++ t.goes.admits) t.goes.part.rest
                    ∙ ap (λ l. map blocked calls ++ l) (sym (append_assoc (h.group ++ h.then_told) (revoked w) (t.goes.admits
                    ++ t.goes.part.rest)))),
              );
          left = inr (subst (λ l. list_any settles l ≡ true) (append_assoc (map blocked calls) (h.group ++ h.then_told) (revoked w
              ++ t.goes.admits)) (revoked_settles w (map blocked calls ++ (h.group ++ h.then_told)) t.goes.admits));
        });
        left = told_then h.told t.left;
      }

  -- or that came too late
  part_late : (w : WaitId) → ArePlaced calls n (Some w) h.group a b → ToldPart (ComesLate calls n w) b d
      → Tells (StopsBehind calls (Some w)) a d
  part_late w p t =
      let late : ComesLate calls n w (t.told ++ t.goes.rest) = t.goes.all in
      let quiet : HasNo settles (t.told ++ t.goes.rest) = ap (list_any settles) late.all
      ∙ admits_settle_none (take n calls) late.admits late.admits_are in
      record {
        told = (h.group ++ h.then_told) ++ t.told;
        goes = subst (StopsBehind calls (Some w)) (sym (append_assoc h.group h.then_told t.told)) (record {
          part = prefix_first (SelectsSomehow calls) (map blocked calls ++ (h.group ++ (h.then_told ++ t.told))) t.goes.rest (
            Waits w,
            SelectCall.stops_late w (take n calls) (drop (n + 1) calls) call h.group h.then_told late.admits _ x parts p.first h.goes.2
                late.admits_are
                (behind_more (map blocked calls) h.group (h.then_told ++ t.told) t.goes.rest
                ∙ ap (λ l. map blocked calls ++ l) (ap (λ l. h.group ++ l) (append_assoc h.then_told t.told t.goes.rest
                ∙ ap (λ l. h.then_told ++ l) late.all) ∙ sym (append_assoc h.group h.then_told (heard (Late w) ∷ late.admits)))),
          );
          left = left_named calls n w h.group (h.then_told ++ t.told) p.first
              (none_in_both settles h.then_told t.told (stop_settles_none call h.then_told x h.goes.2)
              (none_in_first settles t.told t.goes.rest quiet));
        });
        left = told_then h.told t.left;
      }

  pub stops_stopping : (m : Memory) → StoppedAnswer calls n asked b d held held' (Err m) → WaitedAnswer calls a d held' (Err m)
  stops_stopping m s = by_held held h.placed s
    where
      by_held : (u : Option WaitId) → ArePlaced calls n u h.group a b → StopsPart calls n b d u held' → WaitedAnswer calls a d held' (Err m)
      by_held None p q = absurd q
      by_held (Some w) p q =
          ⊎_elim (λ r. subst (λ u. WaitedAnswer calls a d u (Err m)) (sym r.0) (part_revoked w p r.1))
          (λ r. subst (λ u. WaitedAnswer calls a d u (Err m)) (sym r.0) (part_late w p r.1)) q

-- ---- by cases on the answer

again_or_waits : (calls : List Call) (a d : SeenOnChannels) (held' : Option WaitId) (y : SelectAnswer)
    → (a.floor.alone ≡ true
    → ((n : ℕ) (call : Call) → slice_get calls n ≡ Some call → BlockedAt a.floor.shape call (state_in a)) → ⊥)
    → StopsOrWaits calls LooksAgain answer.Again a d held' y → WaitedAnswer calls a d held' (Ok y)
again_or_waits calls a d held' y not_alone s =
    ⊎_elim (λ r. subst (λ z. WaitedAnswer calls a d held' (Ok z)) (sym r.0) (r.1, r.2, not_alone))
    (λ r. subst (λ z. WaitedAnswer calls a d held' (Ok z)) (sym r.0) r.1) s

spent_or_waits : (calls : List Call) (a d : SeenOnChannels) (held' : Option WaitId) (y : SelectAnswer)
    → StopsOrWaits calls NoPlace answer.Spent a d held' y → WaitedAnswer calls a d held' (Ok y)
spent_or_waits calls a d held' y s =
    ⊎_elim (λ r. subst (λ z. WaitedAnswer calls a d held' (Ok z)) (sym r.0) (r.1, r.2))
    (λ r. subst (λ z. WaitedAnswer calls a d held' (Ok z)) (sym r.0) r.1) s

pub changed_then : {n : ℕ} {calls : List Call} {held held' : Option WaitId} {a b d : SeenOnChannels} {r : Result SelectAnswer Memory}
    → PlacingsAnswer calls a b held (Ok (placings.Changed n)) → WasStopped calls n answer.Again b d held held' r → Waited calls a d held' r
changed_then {n} {calls} {held} {held'} {a} {b} {d} {r = Ok y} h s =
    record { answer = again_or_waits calls a d held' y h.1 (stops_or_waits LooksAgain answer.Again held' d h.0 y s.answer) }
changed_then {n} {calls} {held} {held'} {a} {b} {d} {r = Err m} h s =
    record { answer = stops_stopping LooksAgain answer.Again held' d h.0 m s.answer }

pub spent_then : {n : ℕ} {calls : List Call} {held held' : Option WaitId} {a b d : SeenOnChannels} {r : Result SelectAnswer Memory}
    → PlacingsAnswer calls a b held (Ok (placings.Spent n)) → WasStopped calls n answer.Spent b d held held' r → Waited calls a d held' r
spent_then {n} {calls} {held} {held'} {a} {b} {d} {r = Ok y} h s =
    record { answer = spent_or_waits calls a d held' y (stops_or_waits NoPlace answer.Spent held' d h y s.answer) }
spent_then {n} {calls} {held} {held'} {a} {b} {d} {r = Err m} h s =
    record { answer = stops_stopping NoPlace answer.Spent held' d h m s.answer }

-- ---- behind the tries

pub all_wait : {calls : List Call} {a b : SeenOnChannels} → AreBlocked calls (length calls) a b → AllMayWait b.floor.shape calls
all_wait {calls} {a} {b} h n call e =
    let lt = slice_get_within calls n call e in
    subst (λ (s : Shape). MayWait s call) (sym h.told.added.same.shape) (h.wait n call lt e)

module _ {calls : List Call} (held : Option WaitId) {a b : SeenOnChannels} (d : SeenOnChannels) (h : AreBlocked calls (length calls) a b)
  where
    before : ToldOnChannels a b (map blocked calls)
    before = subst (λ l. ToldOnChannels a b (map blocked l)) (take_all calls) h.told

    behind : (x : Answer) → Tells (SelectsBehind calls x) b d → Tells (λ told. SelectCall calls told x) a d
    behind x t = record { told = map blocked calls ++ t.told; goes = t.goes; left = told_then before t.left }

    all_blocked : a.floor.alone ≡ true → (n : ℕ) (call : Call) → slice_get calls n ≡ Some call → BlockedAt b.floor.shape call (state_in b)
    all_blocked alone n call e = let lt = slice_get_within calls n call e
        in subst (λ (s : Shape). BlockedAt s call (state_in b)) (sym h.told.added.same.shape) (h.still alone n call lt e)

    waited_then : (r : Result SelectAnswer Memory) → WaitedAnswer calls b d held r → SelectedAnswer calls a d held r
    waited_then (Ok (answer.Chosen n o)) w = absurd w
    waited_then (Ok answer.Waiting) w = (
      w.0,
      w.1,
      moment_within a.floor b.floor d.floor d.floor
          (λ s. state_of_wait (s.waits w.0) ≡ Some Standing) before.added.longer w.2 (prefix_self d.floor.seen),
      behind (Waits w.0) w.3,
    )
    waited_then (Ok answer.Again) w = (w.0, λ alone. w.2 (before.added.same.alone ∙ alone) (all_blocked alone), behind LooksAgain w.1)
    waited_then (Ok answer.Spent) w = (w.0, behind NoPlace w.1)
    waited_then (Err m) w = record { told = map blocked calls ++ w.told; goes = w.goes; left = told_then before w.left }

    pub selected_then : (r : Result SelectAnswer Memory) → Waited calls b d held r → SelectedAnswer calls a d held r
    selected_then r w = waited_then r w.answer
