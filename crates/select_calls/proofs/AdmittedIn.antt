-- Those are admitted who can be, in the channels of the clauses that offer.
use Rattle.std.specs.Prelude.{◌≡◌, ℕ, ◌+◌, ◌<◌, List, [], ◌∷◌, ◌++◌, take, Some, Result, Ok, Err, slice_get, refl}
use Rattle.std.proofs.Common.{sym, ap, ◌∙◌, subst, append_assoc}
use Rattle.co_base.specs.declared.names.Memory.{Memory}
use Rattle.call_meaning.specs.Seen.{SeenOnChannels}
use Rattle.call_meaning.specs.Telling.{Told}
use Rattle.call_meaning.specs.ChannelCalls.{Call, sends, receives, Admits, AdmitsIn}
use Rattle.call_meaning.proofs.ChannelsHeard.{told_then}
use Rattle.channel_calls.specs.Calls.{Tells, ToldPart, AdmittedAnswer}
use Rattle.call_meaning.proofs.Prefixes.{prefix_on}
use Rattle.channel_calls.proofs.AdmitsTold.{none_admitted}
use Rattle.channel_calls.proofs.Untold.{told_none, part_of, part_then}
use Rattle.select_calls.specs.Parts.{AdmitsAt}
use Rattle.select_calls.proofs.ClausesAt.{take_next, take_before}

pub nothing_more : {A : Type 0} (xs : List A) → xs ≡ xs ++ []
nothing_more [] = refl
nothing_more (x ∷ xs) = ap (λ l. x ∷ l) (nothing_more xs)

-- where one clause offers
pub one_admits : (c v : ℕ) (admits : List Told) → Admits c admits → AdmitsIn (sends c v ∷ []) admits
one_admits c v admits h = AdmitsIn.offered c v [] admits [] admits h AdmitsIn.none (nothing_more admits)

pub none_admits : (c : ℕ) → AdmitsIn (receives c ∷ []) []
none_admits c = AdmitsIn.awaited c [] [] AdmitsIn.none

-- nobody was to be admitted
pub none_in : (calls : List Call) → (told : List Told) × AdmitsIn calls told
none_in [] = ([], AdmitsIn.none)
none_in (sends c v ∷ calls) = let r = none_in calls in (_, AdmitsIn.offered c v calls _ r.0 _ (none_admitted c) r.1 refl)
none_in (receives c ∷ calls) = let r = none_in calls in (r.0, AdmitsIn.awaited c calls r.0 r.1)

admits_then : (xs ys : List Call) (told more : List Told) → AdmitsIn xs told → AdmitsIn ys more → AdmitsIn (xs ++ ys) (told ++ more)
admits_then _ ys _ more AdmitsIn.none k = k
admits_then _ ys _ more (AdmitsIn.offered c v calls admits rest all h r e) k =
    AdmitsIn.offered c v (calls ++ ys) admits (rest ++ more) (all ++ more) h (admits_then calls ys rest more r k) (ap (λ l. l ++ more) e
    ∙ append_assoc admits rest more)
admits_then _ ys _ more (AdmitsIn.awaited c calls all r) k =
    AdmitsIn.awaited c (calls ++ ys) (all ++ more) (admits_then calls ys all more r k)

pub admitted_send : (calls : List Call) (n c v : ℕ) {b d : SeenOnChannels} (r : Result (Unit {0}) Memory)
    → slice_get calls n ≡ Some (sends c v)
    → AdmittedAnswer c b d r → AdmitsAt calls n b d r
admitted_send calls n c v (Ok u) e t =
    record { call = sends c v; at = e; answer = record { told = t.told; goes = one_admits c v t.told t.goes; left = t.left } }
admitted_send calls n c v (Err m) e t =
    record { call = sends c v; at = e; answer = part_of (Admits c) (AdmitsIn (sends c v ∷ [])) (one_admits c v) t }

pub admitted_receive : {calls : List Call} {n c : ℕ} (b : SeenOnChannels) → slice_get calls n ≡ Some (receives c)
    → AdmitsAt calls n b b (Ok tt)
admitted_receive {calls} {n} {c} b e =
    record { call = receives c; at = e; answer = record { told = []; goes = none_admits c; left = told_none b } }

pub none_yet : (calls : List Call) (a : SeenOnChannels) → Tells (AdmitsIn (take 0 calls)) a a
none_yet calls a = record { told = []; goes = AdmitsIn.none; left = told_none a }

module _ (calls : List Call) (n : ℕ) {a b d : SeenOnChannels} (h : Tells (AdmitsIn (take n calls)) a b) where
  pub one_more_admits : (u : Unit {0}) → AdmitsAt calls n b d (Ok u) → Tells (AdmitsIn (take (n + 1) calls)) a d
  one_more_admits u t = record {
    told = h.told ++ t.answer.told;
    goes = subst (λ l. AdmitsIn l (h.told ++ t.answer.told)) (sym (take_next calls n t.call t.at))
        (admits_then (take n calls) (t.call ∷ []) h.told t.answer.told h.goes t.answer.goes);
    left = told_then h.left t.answer.left;
  }

  pub one_stops : (count : ℕ) (m : Memory) → n < count → AdmitsAt calls n b d (Err m) → ToldPart (AdmitsIn (take count calls)) a d
  one_stops count m lt t =
      let left = take_before calls count n t.call lt t.at in
      let none = none_in left.0 in
      let p : ToldPart (AdmitsIn (take n calls ++ t.call ∷ [])) a d =
      part_then (AdmitsIn (t.call ∷ [])) (AdmitsIn (take n calls ++ t.call ∷ [])) h.told
      (λ all r. admits_then (take n calls) (t.call ∷ []) h.told all h.goes r) h.left t.answer in
      record {
        told = p.told;
        goes = prefix_on (AdmitsIn (take n calls ++ t.call ∷ [])) (AdmitsIn (take count calls)) none.0
            (λ all r. subst (λ l. AdmitsIn l (all ++ none.0)) (append_assoc (take n calls) (t.call ∷ []) left.0
            ∙ sym left.1) (admits_then (take n calls ++ t.call ∷ []) left.0 all none.0 r none.1)) p.told p.goes;
        left = p.left;
      }
