-- The clauses are tried one after the other.
use Rattle.std.specs.Prelude.{◌≡◌, ℕ, ◌+◌, ◌<◌, ◌⊎◌, Bool, List, ◌∷◌, ◌++◌, length, map, take, drop, Some, Ok, Err, slice_get, refl}
use Rattle.std.proofs.Common.{sym, ap, subst, ◌∙◌, arith, inl, ⊎_elim}
use Rattle.co_base.specs.declared.names.Memory.{Memory}
use Rattle.channel_model.specs.Channels.{Shape, kind_at, is_signal}
use Rattle.channel_model.specs.Histories.{replay}
use Rattle.channel_model.specs.Floors.{SameSetting}
use Rattle.call_meaning.specs.Seen.{SeenOnChannels, state_in}
use Rattle.call_meaning.specs.Calls.{ToldOnChannels}
use Rattle.call_meaning.specs.ChannelCalls.{Call, sends, receives, blocked, SelectCall}
use Rattle.call_meaning.specs.Prefixes.{PrefixOf}
use Rattle.call_meaning.proofs.Prefixes.{prefix_behind}
use Rattle.call_meaning.proofs.ChannelsHeard.{told_then}
use Rattle.channel_calls.proofs.Untold.{told_none}
use Rattle.select_calls.specs.declared.clause.Outcome.{Outcome}
use Rattle.select_calls.specs.declared.tries.Tried.TheVariants as tried
use Rattle.select_calls.specs.declared.tries.Tries.TheVariants as tries
use Rattle.channel_calls.specs.Calls.{GoesAtOnceSomehow}
use Rattle.select_calls.specs.Clauses.{MaySelect}
use Rattle.select_calls.specs.Selects.{places, SelectsSomehow}
use Rattle.select_calls.specs.Parts.{MayWait, BlockedAt, IsSpentSend, TriedAt, AreBlocked, TriesAnswer}
use Rattle.select_calls.proofs.PlacedOrSettled.{HasNo, none_in_first, none_in_both, at_once_places_none, blocked_place_none}
use Rattle.select_calls.proofs.ClausesAt.{take_next, split_at, length_take, map_next}

pub none_tried : (calls : List Call) (a : SeenOnChannels) → AreBlocked calls 0 a a
none_tried calls a = record {
  told = told_none a;
  wait = λ n call lt. absurd (omega (arith, lt));
  same = λ alone. refl;
  still = λ alone n call lt. absurd (omega (arith, lt));
}

-- below one more: below, or that one
below_next : (m n : ℕ) → m < n + 1 → (m < n) ⊎ (m ≡ n)
below_next m n lt = grind arith

same_call : (calls : List Call) (m n : ℕ) (x y : Call) → m ≡ n → slice_get calls m ≡ Some x → slice_get calls n ≡ Some y → x ≡ y
same_call calls m n x y is e f = let k : Some x ≡ Some y = sym e ∙ ap (slice_get calls) is ∙ f in cc

module _ {calls : List Call} {n : ℕ} {a b d : SeenOnChannels} (h : AreBlocked calls n a b) where
  -- one more is blocked
  pub one_blocked : TriedAt calls n b d (Ok tried.Blocked) → AreBlocked calls (n + 1) a d
  one_blocked t = record {
    told = subst (ToldOnChannels a d) (sym (ap (map blocked) (take_next calls n t.call t.at) ∙ map_next blocked (take n calls) t.call))
        (told_then h.told t.answer.0);
    wait = λ m call lt e. ⊎_elim (λ low. h.wait m call low e)
        (λ is. subst (MayWait a.floor.shape) (sym (same_call calls m n call t.call is e t.at))
        (subst (λ (s : Shape). MayWait s t.call) h.told.added.same.shape t.answer.1)) (below_next m n lt);
    same = λ alone. (t.answer.2 (h.told.added.same.alone ∙ alone)).0 ∙ h.same alone;
    still = λ alone m call lt e.
        let now = t.answer.2 (h.told.added.same.alone ∙ alone) in
        ⊎_elim (λ low. subst (λ es. BlockedAt a.floor.shape call (replay es)) (sym now.0) (h.still alone m call low e))
        (λ is. subst (λ x. BlockedAt a.floor.shape x (state_in d)) (sym (same_call calls m n call t.call is e t.at))
        (subst (λ (s : Shape). BlockedAt s t.call (state_in d)) h.told.added.same.shape now.1)) (below_next m n lt);
  }

  pub one_chosen : (o : Outcome) → TriedAt calls n b d (Ok (tried.Ready o)) → TriesAnswer calls a d (Ok (tries.Chosen (n + 1) o))
  one_chosen o t = record {
    told = map blocked (take n calls) ++ t.answer.told;
    goes = record {
      passed = take n calls;
      later = drop (n + 1) calls;
      call = t.call;
      group = t.answer.told;
      clauses = split_at calls n t.call t.at;
      number = ap (λ m. m + 1) (sym (length_take calls n t.call t.at));
      meets = t.answer.goes;
      all = refl;
    };
    left = told_then h.told t.answer.left;
  }

  pub one_spent : TriedAt calls n b d (Ok tried.Spent) → TriesAnswer calls a d (Ok tries.Spent)
  one_spent t = by_call t.call refl t.answer.goes
    where
      by_call : (call : Call) → t.call ≡ call → IsSpentSend call t.answer.told → TriesAnswer calls a d (Ok tries.Spent)
      by_call (sends c v) e is = record {
        told = map blocked (take n calls) ++ t.answer.told;
        goes = SelectCall.no_place (take n calls) (drop (n + 1) calls) c v _
            (subst (λ x. calls ≡ take n calls ++ x ∷ drop (n + 1) calls) e (split_at calls n t.call t.at))
            (ap (λ l. map blocked (take n calls) ++ l) is);
        left = told_then h.told t.answer.left;
      }
      by_call (receives c) e is = absurd is

  pub one_stopped : (m : Memory) → TriedAt calls n b d (Err m) → TriesAnswer calls a d (Err m)
  one_stopped m t =
      let part : PrefixOf (GoesAtOnceSomehow t.call) t.answer.told = t.answer.goes in
      let none : HasNo places t.answer.told = none_in_first places t.answer.told part.rest
      (at_once_places_none t.call (t.answer.told ++ part.rest) part.all.0 part.all.1) in
      record {
        told = map blocked (take n calls) ++ t.answer.told;
        goes = record {
          part = prefix_behind (GoesAtOnceSomehow t.call) (SelectsSomehow calls) (map blocked (take n calls))
              (λ all r. (
                r.0,
                SelectCall.chooses (take n calls) (drop (n + 1) calls) t.call all (map blocked (take n calls)
                    ++ all) r.0 (split_at calls n t.call t.at) r.1 refl,
              )) t.answer.told part;
          left = inl (none_in_both places (map blocked (take n calls)) t.answer.told (blocked_place_none (take n calls)) none);
        };
        left = told_then h.told t.answer.left;
      }

-- what may be selected from stays so
pub may_later : {calls : List Call} {a b : SeenOnChannels} → MaySelect calls a → b.who ≡ a.who → SameSetting a.floor b.floor
    → MaySelect calls b
may_later {calls} {a} {b} m w s = record {
  some = m.some;
  few = m.few;
  may_call = λ n call e. let c = m.may_call n call e in record {
    caller = ap b.floor.callers w ∙ ap (λ (f : ℕ → Bool). f a.who) s.callers
        ∙ c.caller;
    channel = rw (ap length s.shape) c.channel;
  };
  no_signal = λ n c v e. ap (λ (x : Shape). is_signal (kind_at x c)) s.shape ∙ m.no_signal n c v e;
  apart = m.apart;
}
