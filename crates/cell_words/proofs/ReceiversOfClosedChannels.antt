-- The first receiver of a closed channel is told so.
use Rattle.std.proofs.Common.{◌≡◌, ◌≢◌, ℕ, ◌+◌, ◌*◌, ◌<◌, true, List, [], ◌∷◌, ◌++◌, length, Some, is_some, sym, refl, ap, ◌∙◌, subst}
use Rattle.worded.specs.Views.{has_tag}
use Rattle.co_base.specs.declared.names.WaitId.{WaitId}
use Rattle.channel_model.specs.declared.acts.Act.TheVariants.{WakeClosed}
use Rattle.channel_model.specs.declared.acts.Entry.{Entry}
use Rattle.channel_model.specs.declared.standing.Receiver.{Receiver}
use Rattle.channel_model.specs.declared.standing.Resolution.TheVariants as resolved
use Rattle.channel_model.specs.Channels.{Shape}
use Rattle.channel_model.specs.Effects.{resolve_first, close_value}
use Rattle.channel_model.specs.Needs.{IsFirstReceiver}
use Rattle.channel_model.specs.Histories.{replay, Legal}
use Rattle.channel_model.specs.Answers.{first_receiver, owner_of}
use Rattle.channel_model.specs.Laws.{NoneBelow}
use Rattle.channel_model.proofs.GoneForGood.{below_lasts}
use Rattle.channel_model.proofs.Later.{closed_later}
use Rattle.word_rules.specs.Cells.{receiver, cell_of, awaiting, receiver_of, receiver_by, is_used}
use Rattle.word_rules.specs.Words.{number, wait_number, PartyFits, wait_code, how_code, Fits}
use Rattle.cell_words.specs.Seen.{Seen, at_channel, Sees, Turns}
use Rattle.cell_words.specs.Answers.{MayTurn, Wakes}
use Rattle.cell_words.proofs.ListsOfCells.{CellNamed}
use Rattle.cell_words.proofs.CellsTellFacts.{now, tied_now, used_given, first_line}
use Rattle.cell_words.proofs.CellsLast.{receiver_more}
use Rattle.cell_words.proofs.EntriesOnOneWord.{IsOpenWait, open_wait, resolve_steps}
use Rattle.cell_words.proofs.ExchangesTell.{before_legal}

-- ---- a receiver whose wait nobody resolved, where none stands below, is the first

module _ (shape : Shape) (log : List Entry) (l : Legal shape log) (c p owner k : ℕ) (w : WaitId)
    (low : NoneBelow p 0 ((replay log).channels c)) (cell : cell_of log c p ≡ receiver owner w k)
    (found : 0 ≡ wait_code ((replay log).waits w)) where
  pub open_receiver : IsOpenWait owner k ((replay log).waits w)
  open_receiver = open_wait owner k ((replay log).waits w) (subst (CellNamed (replay log).waits) cell ((tied_now shape log l).named c p))
      found

  awaits : awaiting (replay log).waits p (cell_of log c p) ≡ Some (record { place = p; party = record { wait = w; clause = k } })
  awaits = ap (awaiting (replay log).waits p) cell ∙ ap (receiver_of p w k) open_receiver.was
      ∙ ap (receiver_by p w k) open_receiver.still_open

  pub in_front : (rest : List Receiver) × (((replay log).channels c).receivers ≡
      record { place = p; party = record { wait = w; clause = k } } ∷ rest)
  in_front = (
    _,
    first_line (now log) c (tied_now shape log l) p 0 _ low awaits
        (used_given (now log) c p (tied_now shape log l) (ap is_used cell)),
  )

  pub front_owner : first_receiver (replay log) ((replay log).channels c).receivers ≡ Some owner
  front_owner = ap (first_receiver (replay log)) in_front.1 ∙ ap owner_of open_receiver.was ∙ ap (λ (n : ℕ). Some n) open_receiver.owner

-- ---- the entry

pub wake_steps : (shape : Shape) (log : List Entry) (who c p value owner k : ℕ) (w : WaitId) → Legal shape log → value < 4294967296
    → PartyFits shape owner w k → c < length shape → ((replay log).channels c).closed ≡ Some value
    → NoneBelow p 0 ((replay log).channels c) → cell_of log c p ≡ receiver owner w k → 0 ≡ wait_code ((replay log).waits w)
    → Legal shape (log ++ record { who = who; act = WakeClosed c p } ∷ [])
    × Fits shape (log ++ record { who = who; act = WakeClosed c p } ∷ []) (wait_number shape w.channel w.place)
    (how_code (resolved.Closed k value))
    × ((j n : ℕ) → j ≢ wait_number shape w.channel w.place → Fits shape log j n
    → Fits shape (log ++ record { who = who; act = WakeClosed c p } ∷ []) j n)
wake_steps shape log who c p value owner k w l lv fits lc closed low cell found =
    let front = in_front shape log l c p owner k w low cell found in
    let wait = open_receiver shape log l c p owner k w low cell found in
    resolve_steps shape log who w.channel w.place (WakeClosed c p) (resolved.Closed k value) wait.wait l fits.channel fits.place
    (lc, ap is_some closed, subst (IsFirstReceiver p) (sym front.1) refl)
    (ap (λ (z : List Receiver × ℕ). (resolve_first z.0 (λ k. resolved.Closed k z.1) (replay log)).waits)
    (λ i. (front.1 i, close_value (closed i)))) (λ d q. refl) wait.was wait.still_open (fits.clause, lv)

-- ---- whatever others do meanwhile

pub closed_seen : (shape : Shape) (c value : ℕ) (u v : Seen) → Sees u v → Legal shape v.seen → (at_channel u.seen c).closed ≡ Some value
    → (at_channel v.seen c).closed ≡ Some value
closed_seen shape c value u v s l e = subst (λ (es : List Entry). (at_channel es c).closed ≡ Some value) (sym s.now)
    (closed_later shape u.seen s.others c value (subst (Legal shape) s.now l) e)

pub wakes : (shape : Shape) (v : Seen) (who c p value owner k : ℕ) (w : WaitId) → has_tag who v.tags ≡ true → c < length shape
    → value < 4294967296 → PartyFits shape owner w k → (at_channel v.seen c).closed ≡ Some value
    → NoneBelow p 0 (at_channel v.seen c) → cell_of v.seen c p ≡ receiver owner w k
    → MayTurn shape (wait_number shape w.channel w.place) 0 (how_code (resolved.Closed k value))
    (record { who = who; act = WakeClosed c p }) v
wakes shape v who c p value owner k w own lc lv fits closed low at = record {
  own = own;
  steps = λ others added f.
      let l = added.is_legal in
      wake_steps shape (v.seen ++ others) who c p value owner k w l lv fits lc (closed_later shape v.seen others c value l closed)
      (below_lasts shape v.seen others c p 0 l low) (receiver_more shape c p owner k w v.seen others l at)
      (f.wait w.channel w.place fits.channel fits.place refl).0;
}

pub wake_told : (shape : Shape) (v w : Seen) (who c p n old owner k : ℕ) (u : WaitId) → Legal shape w.seen → old ≡ 0
    → PartyFits shape owner u k → number shape u.channel u.place ≡ n → NoneBelow p 0 (at_channel v.seen c)
    → cell_of v.seen c p ≡ receiver owner u k
    → Turns shape (2 * n + 1) old (record { who = who; act = WakeClosed c p }) v w → Wakes who c p owner v w
wake_told shape v w who c p n old owner k u l zero fits is low at t = record {
  made = t.made;
  to = let b = before_legal shape v w (record { who = who; act = WakeClosed c p }) l t.made in
      front_owner shape (v.seen ++ t.made.others) b c p owner k u (below_lasts shape v.seen t.made.others c p 0 b low)
      (receiver_more shape c p owner k u v.seen t.made.others b at)
      (sym zero ∙ (t.found.wait u.channel u.place fits.channel fits.place (ap (λ (z : ℕ). 2 * z + 1) (sym is))).0);
}
