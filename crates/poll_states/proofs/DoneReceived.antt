-- A receive on a done channel behind the end of a body: what both tell.
use Rattle.std.specs.Prelude.{◌≡◌, ℕ, ◌<◌, Bool, true, List, [], ◌++◌, Option, Some, None, is_some, slice_get, Result, Ok, Err, refl}
use Rattle.std.proofs.Common.{sym, ap, ◌∙◌, subst, append_assoc}
use Rattle.std.proofs.lemmas.List.{append-nil}
use Rattle.co_base.specs.declared.names.Memory.{Memory}
use Rattle.co_base.specs.declared.names.WaitId.{WaitId}
use Rattle.channel_model.specs.declared.acts.Act.{Act}
use Rattle.channel_model.specs.Channels.{Shape as ChannelShape}
use Rattle.channel_model.specs.Histories.{acts_of}
use Rattle.channel_model.proofs.Spans as spans
use Rattle.job_model.specs.Trees.{Shape, Job, Tree}
use Rattle.job_model.specs.Done.{done_channel}
use Rattle.job_model.specs.declared.floor.Ended.{Ended as BodyEnd}
use Rattle.job_model.specs.Needs.{MayEndBody, OwnsBody}
use Rattle.job_model.specs.Histories.{replay, Legal}
use Rattle.note_book.specs.Items.{channel_acts_in}
use Rattle.note_book.proofs.Appended.{channel_acts_in-append}
use Rattle.call_meaning.specs.Telling.{Told, items_in}
use Rattle.call_meaning.specs.ChannelCalls.{Answer, Closed, Waits, NoPlace}
use Rattle.call_meaning.specs.JobCalls.{EndsBody, BreaksOff}
use Rattle.call_meaning.specs.Seen.{SeenOnBoth, channels_of}
use Rattle.call_meaning.specs.Calls.{ToldOnBoth}
use Rattle.call_meaning.proofs.JobTellings.{items_in-append, both_then}
use Rattle.call_meaning.proofs.Prefixes.{prefix_whole, prefix_behind}
use Rattle.channel_calls.specs.Calls.{IsLeftWaiting}
use Rattle.scope_builders.specs.declared.builder.Joined.{Joined}
use Rattle.scope_builders.specs.declared.builder.Joined.TheVariants as joined
use Rattle.scope_builders.specs.Dones.{KeepsDones}
use Rattle.scope_builders.specs.Calls.{MayBuild, TellsBoth, ReceivesDone, IsNothing, DoneAnswer, EndedJob, BeginsToBreakOff, BrokeJob, BrokenAnswer}
use Rattle.scope_builders.proofs.DonesKept.{kept_then}
use Rattle.scope_builders.proofs.Rooms.{may_call_after}
use Rattle.poll_states.specs.SeenEnds.{EndsAndReceives, BreaksAndReceives}

-- ---- what is so behind the first call

-- the caller may call still
pub build_later : {base base' : ℕ} {a b : SeenOnBoth} {told : List Told} → base' ≡ base → MayBuild base a → ToldOnBoth [] a b told
    → MayBuild base' b
build_later {base} {base'} {a} {b} f h t =
    subst (λ n. MayBuild n b) (sym f) (record {
      of_channels = ap b.channels.callers t.who ∙ ap (λ (k : ℕ → Bool). k a.who) t.channels.same.callers ∙ h.of_channels;
      of_jobs = ap b.jobs.callers t.who ∙ ap (λ (k : ℕ → Bool). k a.who) t.jobs.same.callers ∙ h.of_jobs;
      done = rw t.channels.same.shape (rw t.jobs.same.shape h.done);
      signals = λ r lt. ap (λ (s : ChannelShape). slice_get s (done_channel base r)) t.channels.same.shape
          ∙ h.signals r (subst (λ (s : Shape). r < s.rows) t.jobs.same.shape lt);
      few = rw t.channels.same.shape h.few;
    })

pub ends_attached : (who : ℕ) (x : Option Job) → MayEndBody who x → is_some x ≡ true
ends_attached who None h = absurd h
ends_attached who (Some j) h = refl

pub owns_attached : (who : ℕ) (x : Option Job) → OwnsBody who x → is_some x ≡ true
owns_attached who None h = absurd h
owns_attached who (Some j) h = refl

pub row_later : {base : ℕ} (row : ℕ) {a b : SeenOnBoth} {told : List Told} → MayBuild base a → is_some (replay a.jobs.seen row) ≡ true
    → Legal b.jobs.shape b.jobs.seen → ToldOnBoth [] a b told → is_some (replay b.jobs.seen row) ≡ true
row_later row h e l t = (may_call_after h e t.jobs l).attached

-- ---- both calls

module _ {base : ℕ} {a b : SeenOnBoth} (c : SeenOnBoth) (first : List Told) (h : ToldOnBoth [] a b first)
    (kept : KeepsDones base a b (items_in first)) where
  both_noted : (told : List Told) → ToldOnBoth [] b c told → ToldOnBoth [] a c (first ++ told)
  both_noted told n = both_then h n

  both_kept : (told : List Told) → KeepsDones base b c (items_in told) → KeepsDones base a c (items_in (first ++ told))
  both_kept told d = subst (KeepsDones base a c) (sym (items_in-append first told))
      (kept_then h.channels.same.alone h.jobs.same.alone kept d)

  tells_then : (P Q : List Told → Type 0) → ((told : List Told) → P told → Q (first ++ told)) → TellsBoth base P b c → TellsBoth base Q a c
  tells_then P Q f t = record {
    told = first ++ t.told;
    goes = f t.told t.goes;
    noted = both_noted t.told t.noted;
    dones =
        both_kept t.told t.dones;
  }

  left_then : (told : List Told) (w : WaitId) → IsLeftWaiting w (channel_acts_in (items_in told)) (channels_of b) (channels_of c)
      → IsLeftWaiting w (channel_acts_in (items_in (first ++ told))) (channels_of a) (channels_of c)
  left_then told w left =
      let acts : channel_acts_in (items_in (first ++ told)) ≡ channel_acts_in (items_in first)
      ++ channel_acts_in (items_in told) = ap channel_acts_in (items_in-append first told)
      ∙ channel_acts_in-append (items_in first) (items_in told) in
      record {
        stood = record {
          moment = left.stood.moment;
          after = spans.prefix_then a.channels.seen b.channels.seen left.stood.moment h.channels.longer left.stood.after;
          before = left.stood.before;
          mine =
              ap (λ n. acts_of n left.stood.moment) (sym h.who) ∙ left.stood.mine
              ∙ ap (λ (l : List Act). l ++ channel_acts_in (items_in told)) (ap (λ n. acts_of n b.channels.seen) h.who
              ∙ h.channels.mine)
              ∙ append_assoc (acts_of a.who a.channels.seen) (channel_acts_in (items_in first)) (channel_acts_in (items_in told))
              ∙ ap (λ (l : List Act). acts_of a.who a.channels.seen ++ l) (sym acts);
          holds = left.stood.holds;
        };
        holds = left.holds;
      }

  pub done_behind : (P Q : Answer → List Told → Type 0) (S T : List Told → Type 0)
      → ((o : Answer) (told : List Told) → P o told → Q o (first ++ told)) → ((told : List Told) → S told → T (first ++ told))
      → (r : Result Joined Memory) → DoneAnswer base P S b c r → DoneAnswer base Q T a c r
  done_behind P Q S T f g (Ok (joined.Closed v)) t = tells_then (P (Closed v)) (Q (Closed v)) (f (Closed v)) t
  done_behind P Q S T f g (Ok (joined.Waits w)) t = (
    record {
      told = first ++ t.0.told;
      goes = f (Waits w) t.0.told t.0.goes;
      noted = both_noted t.0.told t.0.noted;
      dones =
          both_kept t.0.told t.0.dones;
    },
    left_then t.0.told w t.1,
  )
  done_behind P Q S T f g (Ok joined.Cancelled) t = t
  done_behind P Q S T f g (Ok joined.Spent) t = tells_then (P NoPlace) (Q NoPlace) (f NoPlace) t
  done_behind P Q S T f g (Err m) t = record {
    told = first
        ++ t.told;
    goes = prefix_behind S T first g t.told t.goes;
    noted = both_noted t.told t.noted;
    dones = both_kept t.told t.dones;
  }

-- the receive, at the first caller's base
received_at : (base base' row : ℕ) (b c : SeenOnBoth) (r : Result Joined Memory) → base' ≡ base
    → DoneAnswer base' (ReceivesDone base' row) IsNothing b c r → DoneAnswer base (ReceivesDone base row) IsNothing b c r
received_at base base' row b c r e h = subst (λ n. DoneAnswer n (ReceivesDone n row) IsNothing b c r) e h

pub end_received : {base base' row : ℕ} {a b : SeenOnBoth} {answer : BodyEnd} (c : SeenOnBoth) (r : Result Joined Memory) → base' ≡ base
    → EndedJob base row 0 a b answer
    → DoneAnswer base' (ReceivesDone base' row) IsNothing b c r → DoneAnswer base (EndsAndReceives base row) (EndsBody base row 0) a c r
end_received {base} {base'} {row} {a} {b} {answer} c r e ended got =
    done_behind c ended.told ended.noted ended.dones (ReceivesDone base row) (EndsAndReceives base row) IsNothing (EndsBody base row 0)
    (λ o told goes. record { end = ended.told; group = told; ends = ended.group; received = goes; all = refl })
    (λ told none. subst (EndsBody base row 0) (sym (ap (λ (l : List Told). ended.told ++ l) none ∙ append-nil ended.told)) ended.group) r
    (received_at base base' row b c r e got)

-- a body that broke off began to
broken_off : (base who row : ℕ) (failure : Option ℕ) (tree : Tree) (told : List Told) → BreaksOff base who row failure told
    → BeginsToBreakOff base who row failure tree told
broken_off base who row failure tree told h = subst (BeginsToBreakOff base who row failure tree) (sym h.all)
    (BeginsToBreakOff.ends h.cancels h.end h.breaks (prefix_whole (EndsBody base row 0) h.end h.ends))

-- without memory
pub break_begun : (base row : ℕ) (failure : Option ℕ) (a b : SeenOnBoth) (m : Memory) → BrokenAnswer base row failure a b (Err m)
    → DoneAnswer base (BreaksAndReceives base a.who row failure) (BeginsToBreakOff base a.who row failure (replay b.jobs.seen)) a b (Err m)
break_begun base row failure a b m h = record {
  told = h.told;
  goes =
      prefix_whole (BeginsToBreakOff base a.who row failure (replay b.jobs.seen)) h.told h.goes;
  noted = h.noted;
  dones = h.dones;
}

pub break_received : {base base' row : ℕ} {failure : Option ℕ} {a b : SeenOnBoth} {answer : BodyEnd} (c : SeenOnBoth)
    (r : Result Joined Memory)
    → base' ≡ base → BrokeJob base row failure a b answer
    → DoneAnswer base' (ReceivesDone base' row) IsNothing b c r
    → DoneAnswer base (BreaksAndReceives base a.who row failure) (BeginsToBreakOff base a.who row failure (replay c.jobs.seen)) a c r
break_received {base} {base'} {row} {failure} {a} {b} {answer} c r e broke got =
    done_behind c broke.told broke.noted broke.dones (ReceivesDone base row) (BreaksAndReceives base a.who row failure) IsNothing
    (BeginsToBreakOff base a.who row failure (replay c.jobs.seen))
    (λ o told goes. record { cancels = broke.told; group = told; breaks = broke.group; received = goes; all = refl })
    (λ told none. subst (BeginsToBreakOff base a.who row failure (replay c.jobs.seen))
    (sym (ap (λ (l : List Told). broke.told ++ l) none ∙ append-nil broke.told))
    (broken_off base a.who row failure (replay c.jobs.seen) broke.told broke.group)) r
    (received_at base base' row b c r e got)
