-- The owner of a wait stays, and a wait that was resolved is settled by its owner, which cannot fail.
use Rattle.std.proofs.Common.{◌≡◌, ℕ, ◌<◌, ◌≤◌, Bool, true, List, [], ◌∷◌, ◌++◌, length, Option, Some, None, is_some, sym, refl, ap, ◌∙◌, subst}
use Rattle.worded.specs.Exchanges.{OthersAdded}
use Rattle.joined_words.specs.Seen.{view_of}
use Rattle.worded.specs.Views.{has_tag}
use Rattle.worded.specs.Histories.{entries_of}
use Rattle.co_base.specs.declared.names.WaitId.{WaitId}
use Rattle.channel_model.specs.declared.acts.Act.TheVariants.{Settle}
use Rattle.channel_model.specs.declared.acts.Entry.{Entry}
use Rattle.channel_model.specs.declared.acts.Settled.{Settled}
use Rattle.channel_model.specs.declared.acts.Why.TheVariants.{Cancelled, Revoked}
use Rattle.channel_model.specs.declared.standing.Resolution.{Resolution}
use Rattle.channel_model.specs.declared.standing.Resolution.TheVariants as resolved
use Rattle.channel_model.specs.Channels.{Shape, State, Wait, places_at}
use Rattle.channel_model.specs.Effects.{put_wait, settled_wait, resolved_wait, name_clause}
use Rattle.channel_model.specs.Outcomes.{outcome_of}
use Rattle.channel_model.specs.Histories.{replay, Legal}
use Rattle.channel_model.specs.Laws.{IsResolvedAs}
use Rattle.channel_model.specs.Answers.{IsOwnWait, IsReadyWait, outcome_at, outcome_of_some}
use Rattle.channel_model.proofs.Histories.{replay_push, Legal_push}
use Rattle.channel_model.proofs.Waits.{at_wait}
use Rattle.channel_model.proofs.Others.{Stays, others_keep, ready_stays}
use Rattle.channel_model.proofs.Resolutions.{always_keeps}
use Rattle.channel_model.proofs.Firsts.{may_settle}
use Rattle.channel_model.proofs.Sound.{lasts}
use Rattle.channel_model.proofs.Later.{resolved_later}
use Rattle.word_rules.specs.declared.wait_word.WaitWord.{WaitWord}
use Rattle.word_rules.specs.Cells.{spot}
use Rattle.word_rules.specs.Codes.{packed_wait}
use Rattle.word_rules.specs.Words.{number, wait_number, how_word, parts_word, word_of_wait, settled_word, how_code, HowFits, PartsFit, WaitFits, HasWaitCode, Fits, maker}
use Rattle.cell_words.specs.Seen.{Seen, Sees, Makes}
use Rattle.cell_words.specs.declared.hub.Hub.{Hub}
use Rattle.cell_words.specs.declared.pass.Pass.{Pass}
use Rattle.cell_words.specs.Hubs.{shape_of, IsOf, seen_by}
use Rattle.cell_words.proofs.LooksAtCells.{hub_legal}
use Rattle.cell_words.specs.Looks.{resolution_found}
use Rattle.cell_words.specs.Answers.{IsWaitWord, WaitAnswer, MayTurn}
use Rattle.cell_words.proofs.MayExchange.{same_acts}
use Rattle.cell_words.proofs.EntriesOnOneWord.{fits_more, turned_wait, cells_push, resolved_code}

-- ---- the owner

owner_stays : (t who : ℕ) → Stays who (IsOwnWait t)
owner_stays t who = record {
  resolved = λ how x h. elim x as (λ y. IsOwnWait t y → IsOwnWait t (resolved_wait how y)) [ None ↦ λ k. k | Some y ↦ λ k. k ] h;
  named = λ n k c x h. elim x as (λ y. IsOwnWait t y → IsOwnWait t (name_clause n k c y)) [ None ↦ λ f. absurd f | Some y ↦ λ f. f ] h;
  settled = λ n outcome x apart m h. elim x as (λ y. IsOwnWait t y
      → IsOwnWait t (settled_wait outcome y)) [ None ↦ λ k. k | Some y ↦ λ k. k ] h;
}

pub owner_seen : (shape : Shape) (t : ℕ) (u : WaitId) (v w : Seen) → Sees v w → Legal shape w.seen → IsOwnWait t ((replay v.seen).waits u)
    → IsOwnWait t ((replay w.seen).waits u)
owner_seen shape t u v w s l h = lasts shape (λ z. IsOwnWait t (z.waits u))
    (record { step = λ z who act sound n k. always_keeps shape (IsOwnWait t) (owner_stays t) who u z act n k }) v.seen w.seen
    (s.others, sym s.now) l h

-- ---- a wait that is ready

pub ready_more : (shape : Shape) (who : ℕ) (w : WaitId) (xs others : List Entry) → Legal shape (xs ++ others)
    → entries_of maker who others ≡ [] → IsReadyWait who ((replay xs).waits w) → IsReadyWait who ((replay (xs ++ others)).waits w)
ready_more shape who w xs others l e h = others_keep shape who (IsReadyWait who) (ready_stays who) w xs (xs
    ++ others) l (others, refl) (same_acts who xs others e) h

pub ready_seen : (shape : Shape) (who : ℕ) (u : WaitId) (v w : Seen) → has_tag who v.tags ≡ true → Sees v w → Legal shape w.seen
    → IsReadyWait who ((replay v.seen).waits u) → IsReadyWait who ((replay w.seen).waits u)
ready_seen shape who u v w tag s l h = subst (λ (es : List Entry). IsReadyWait who ((replay es).waits u)) (sym s.now)
    (ready_more shape who u v.seen s.others (subst (Legal shape) s.now l) (s.apart who tag) h)

how_back : (how : Resolution) → resolution_found (how_word how) ≡ how
how_back (resolved.Withdrawn Cancelled) = refl
how_back (resolved.Withdrawn Revoked) = refl
how_back other = refl

-- its word is that of how it was resolved
pub record ReadyWord (cancelled : Bool) (word : WaitWord) (y : Option Wait) : Type 0 where
  pub how : IsResolvedAs (resolution_found word) y
  pub code : word ≡ how_word (resolution_found word)
  pub fits : HowFits (resolution_found word)
  pub outcome : outcome_at cancelled y ≡ Some (outcome_of (resolution_found word) cancelled)

pub ready_word : (who : ℕ) (cancelled : Bool) (word : WaitWord) (y : Option Wait) → IsReadyWait who y → word ≡ word_of_wait y → WaitFits y
    → ReadyWord cancelled word y
ready_word who cancelled word None h e f = absurd h
ready_word who cancelled word (Some x) h e f = by_how x.resolved refl h.1
  where
    by_how : (how : Option Resolution) → x.resolved ≡ how → is_some how ≡ true → ReadyWord cancelled word (Some x)
    by_how None r k = cc
    by_how (Some how) r k =
        let is : word ≡ how_word how = e ∙ (λ i. parts_word (r i) (h.2 i)) in
        let back : resolution_found word ≡ how = ap resolution_found is ∙ how_back how in record {
          how = r ∙ ap (λ (z : Resolution). Some z) (sym back);
          code = is ∙ ap how_word (sym back);
          fits = subst HowFits (sym back) (subst PartsFit r f);
          outcome = ap (outcome_of_some cancelled) r ∙ ap (λ (z : Resolution). Some (outcome_of z cancelled)) (sym back);
        }

-- and at a look
pub ready_found : (hub : Hub) (pass : Pass) → IsOf hub pass → (who : ℕ) (w : WaitId) (cancelled : Bool) (u : Seen)
    → has_tag who u.tags ≡ true → Sees u (seen_by pass) → IsReadyWait who ((replay u.seen).waits w) → (word : WaitWord)
    → IsWaitWord w (seen_by pass).seen word
    → IsReadyWait who ((replay (seen_by pass).seen).waits w) × ReadyWord cancelled word ((replay (seen_by pass).seen).waits w)
ready_found hub pass of who w cancelled u tag s ready word is =
    let later = ready_seen (shape_of hub) who w u (seen_by pass) tag s (hub_legal hub pass of) ready in
    (later, ready_word who cancelled word ((replay (seen_by pass).seen).waits w) later is.0 is.1)

outcome_as : (how : Resolution) (cancelled : Bool) (y : Option Wait) → IsResolvedAs how y
    → outcome_at cancelled y ≡ Some (outcome_of how cancelled)
outcome_as how cancelled None k = absurd k
outcome_as how cancelled (Some x) k = ap (outcome_of_some cancelled) k

settled_fits : (how : Resolution) (outcome : Settled) (y : Option Wait) → IsResolvedAs how y → HowFits how
    → HasWaitCode (packed_wait (settled_word outcome (how_word how))) (settled_wait outcome y)
settled_fits how outcome None k r = absurd k
settled_fits how outcome (Some x) k r = (
  sym (ap (λ (z : Option Resolution). packed_wait (parts_word z (Some outcome))) k),
  subst PartsFit (sym k) r,
)

-- the word of a ready wait
ready_code : (who : ℕ) (how : Resolution) (y : Option Wait) → IsReadyWait who y → IsResolvedAs how y → word_of_wait y ≡ how_word how
ready_code who how None h k = absurd h
ready_code who how (Some x) h k = λ i. parts_word (k i) (h.2 i)

module _ (shape : Shape) (v : Seen) (who c p : ℕ) (how : Resolution) (cancelled : Bool) (own : has_tag who v.tags ≡ true)
    (lc : c < length shape) (lp : p ≤ places_at shape c) (range : HowFits how)
    (ready : IsReadyWait who ((replay v.seen).waits (spot c p))) (is : IsResolvedAs how ((replay v.seen).waits (spot c p))) where
  settle_legal : (others : List Entry) → OthersAdded (Legal shape) (Fits shape) maker (view_of v) others
      → Legal shape ((v.seen ++ others) ++ record { who = who; act = Settle (spot c p) (outcome_of how cancelled) } ∷ [])
  settle_legal others added = Legal_push shape (v.seen ++ others) (record { who = who; act = Settle (spot c p) (outcome_of how cancelled) })
      added.is_legal
      (may_settle who ((replay (v.seen ++ others)).waits (spot c p)) cancelled (outcome_of how cancelled)
      (ready_more shape who (spot c p) v.seen others added.is_legal (added.apart who own) ready)
      (outcome_as how cancelled ((replay (v.seen ++ others)).waits (spot c p))
      (resolved_later shape v.seen others (spot c p) how added.is_legal is)))

  pub settles : MayTurn shape (wait_number shape c p) (how_code how) (packed_wait (settled_word (outcome_of how cancelled) (how_word how)))
      (record { who = who; act = Settle (spot c p) (outcome_of how cancelled) }) v
  settles = record {
    own = own;
    steps = λ others added f.
        let log = v.seen ++ others in
        let e : Entry = record { who = who; act = Settle (spot c p) (outcome_of how cancelled) } in
        let l = settle_legal others added in
        let code = packed_wait (settled_word (outcome_of how cancelled) (how_word how)) in
        let waits_now : (u : WaitId) → (replay (log ++ e ∷ [])).waits u ≡
        put_wait (spot c p) (settled_wait (outcome_of how cancelled) ((replay log).waits (spot c p))) (replay log).waits u =
        λ u. ap (λ (s : State). s.waits u) (replay_push log e) in (
          l,
          turned_wait shape log e l c p code lc lp (subst (HasWaitCode code)
              (sym (waits_now (spot c p) ∙ at_wait (spot c p) (settled_wait (outcome_of how cancelled) ((replay log).waits (spot c p)))
              (replay log).waits))
              (settled_fits how (outcome_of how cancelled) ((replay log).waits (spot c p))
              (resolved_later shape v.seen others (spot c p) how added.is_legal is) range)),
          fits_more shape log e l (wait_number shape c p) (λ d q ld lq ne. cells_push log e d q)
              (λ d q ld lq ne n. subst (HasWaitCode n) (sym (waits_now (spot d q)
              ∙ resolved_code (replay log).waits (spot c p) (spot d q) _
              (λ is. ne (ap (λ (w : WaitId). wait_number shape w.channel w.place) (sym is)))))),
        );
  }

  -- no other word can be found
  pub not_changed : (w : Seen) (found : WaitWord) → Sees v w → Legal shape w.seen → IsWaitWord (spot c p) w.seen found
      → packed_wait found ≡ how_code how
  not_changed w found s l word =
      let l' = subst (Legal shape) s.now l in
      let ready' = subst (λ (es : List Entry). IsReadyWait who ((replay es).waits (spot c p))) (sym s.now)
      (ready_more shape who (spot c p) v.seen s.others l' (s.apart who own) ready) in
      let how' = subst (λ (es : List Entry). IsResolvedAs how ((replay es).waits (spot c p))) (sym s.now)
      (resolved_later shape v.seen s.others (spot c p) how l' is) in
      ap packed_wait (word.0 ∙ ready_code who how ((replay w.seen).waits (spot c p)) ready' how')

  pub settles_as : (word : ℕ) (old new : WaitWord) (outcome : Settled) → word ≡ wait_number shape c p → old ≡ how_word how
      → outcome ≡ outcome_of how cancelled → new ≡ settled_word outcome old
      → MayTurn shape word (packed_wait old) (packed_wait new) (record { who = who; act = Settle (spot c p) outcome }) v
  settles_as word old new outcome at is_old is_outcome is_new =
      subst (λ (z : ℕ × (WaitWord × (WaitWord × Settled))). MayTurn shape z.0 (packed_wait z.1.0) (packed_wait z.1.1.0)
      (record { who = who; act = Settle (spot c p) z.1.1.1 }) v)
      (λ i. (sym at i, (sym is_old i, (sym (is_new ∙ (λ j. settled_word (is_outcome j) (is_old j))) i, sym is_outcome i)))) settles

  -- the exchange goes through
  pub settle_done : (n : ℕ) (old : WaitWord) (e : Entry) (w : Seen) (r : Option WaitWord) → Legal shape w.seen → number shape c p ≡ n
      → old ≡ how_word how → WaitAnswer shape n old e v w r → Makes v e w
  settle_done n old e w None l is is_old a = a.made
  settle_done n old e w (Some found) l is is_old a = absurd
      (a.2 (not_changed w found a.0 l (a.1 (spot c p) (lc, lp) is) ∙ sym (ap packed_wait is_old)))

-- how a wait was resolved is one
same_how : (a b : Resolution) (y : Option Wait) → IsResolvedAs a y → IsResolvedAs b y → a ≡ b
same_how a b None h k = absurd h
same_how a b (Some x) h k = let e : Some a ≡ Some b = sym h ∙ k in cc

-- the outcome by what was seen before the look
pub outcome_before : (shape : Shape) (who : ℕ) (cancelled : Bool) (w : WaitId) (how : Resolution) (u v : Seen) → Sees u v
    → Legal shape v.seen → IsReadyWait who ((replay u.seen).waits w) → IsResolvedAs how ((replay v.seen).waits w)
    → outcome_at cancelled ((replay u.seen).waits w) ≡ Some (outcome_of how cancelled)
outcome_before shape who cancelled w how u v s l ready is = by_wait ((replay u.seen).waits w) refl ready
  where
    by_how : (x : Wait) (by : Option Resolution) → (replay u.seen).waits w ≡ Some x → x.resolved ≡ by → is_some by ≡ true
        → outcome_at cancelled (Some x) ≡ Some (outcome_of how cancelled)
    by_how x None was r k = cc
    by_how x (Some by) was r k =
        let before : IsResolvedAs by ((replay u.seen).waits w) = subst (IsResolvedAs by) (sym was) r in
        let later = subst (λ (es : List Entry). IsResolvedAs by ((replay es).waits w)) (sym s.now)
        (resolved_later shape u.seen s.others w by (subst (Legal shape) s.now l) before) in
        ap (outcome_of_some cancelled) r ∙ ap (λ (z : Resolution). Some (outcome_of z cancelled))
        (same_how by how ((replay v.seen).waits w) later is)

    by_wait : (y : Option Wait) → (replay u.seen).waits w ≡ y → IsReadyWait who y → outcome_at cancelled y ≡ Some (outcome_of how cancelled)
    by_wait None was h = absurd h
    by_wait (Some x) was h = by_how x x.resolved was refl h.1
