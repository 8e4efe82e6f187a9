-- What is so of a coroutine that stands.
use Rattle.std.specs.Prelude.{◌≡◌, ℕ, zero, suc, ◌<◌, ◌≤◌, nat_le, Bool, true, false, ◌&&◌, List, [], ◌∷◌, length, map, Option, Some, None, is_some, slice_get, refl}
use Rattle.std.specs.List.{list_any, list_all}
use Rattle.std.proofs.Common.{sym, ap, ◌∙◌, subst, arith}
use Rattle.std.proofs.lemmas.Bool.Decides.{nat_tests}
use Rattle.std.proofs.lemmas.Option.{slice_get_within}
use Rattle.co_base.specs.declared.names.WaitId.{WaitId}
use Rattle.channel_model.specs.Channels.{Shape as ChannelShape}
use Rattle.channel_model.specs.Answers.{IsUnsettledOf}
use Rattle.channel_model.specs.Histories.{replay as replay_channels, Legal as LegalChannels}
use Rattle.channel_model.specs.Floors.{Floor as ChannelFloor, MayCall}
use Rattle.job_model.specs.Trees.{Shape}
use Rattle.job_model.specs.Acts.{ends_body}
use Rattle.job_model.specs.Answers.{IsNotNew}
use Rattle.job_model.specs.Needs.{OwnsBody, MayEndBody, Holds}
use Rattle.job_model.specs.Histories.{replay, acts_of, Legal}
use Rattle.job_model.specs.Floors.{Floor}
use Rattle.job_model.proofs.Histories.{Legal-prefix}
use Rattle.job_model.proofs.Lasting.{not_new_lasts}
use Rattle.job_model.proofs.Own.{prefix_keeps}
use Rattle.call_meaning.specs.JobCalls.{reason_for}
use Rattle.call_meaning.specs.Calls.{seen_by}
use Rattle.script_grammar.specs.declared.instructions.Instruction.{Instruction}
use Rattle.script_grammar.specs.declared.instructions.Instruction.TheVariants as line
use Rattle.script_grammar.specs.Programs.{Program}
use Rattle.script_grammar.specs.Tags.{code_of, code_at, code_of_block, block_of_tag, coroutine_count}
use Rattle.script_grammar.specs.WellFormed.{IsProgram}
use Rattle.script_grammar.proofs.JobsCounted.{whole_load-job_count}
use Rattle.script_meaning.specs.declared.stage.Stage.TheVariants.{Waiting, Unwinding}
use Rattle.script_meaning.specs.Shapes.{job_shape}
use Rattle.script_meaning.specs.Configs.{Entered, in_repeat, in_each, in_scope, scope_in, row_or, innermost, IsAt}
use Rattle.script_meaning.specs.Laws.{wait_of, HasJustTheWait}
use Rattle.script_meaning.specs.Inside.{Fits, head_of, EntersAt, AllEnter, may_wait, CallsAt}
use Rattle.script_meaning.specs.Bodies.{is_over, is_fresh, is_leaving, IsOwnRow}
use Rattle.script_meaning.proofs.InsideCode.{reach_fits, end_closes}
use Rattle.script_meaning.proofs.OneWait.{just_the_wait, wait_in_floor}
use Rattle.script_meaning.proofs.OwnActs.{attached_within}
use Rattle.script_meaning.proofs.OwnRows.{own_tag, owns_body, may_end_body, not_new_attached, not_new_started}
use Rattle.script_meaning.proofs.BodiesOpen.{Knows, runs_ends, runs_live, innermost_live, innermost_attached, innermost_body, innermost_reason, shape_fits}
use Rattle.script_meaning.proofs.BodiesOpen as known
use Rattle.script_reader.specs.declared.script.Coroutine.{Coroutine}
use Rattle.script_reader.specs.declared.script.Script.{Script}
use Rattle.script_reader.specs.Programs.{block_of}
use Rattle.script_reader.specs.Lines.{does_open}
use Rattle.script_reader.specs.Scripts.{program_of}
use Rattle.poll_states.specs.Frames.{Frame, config_of, items_of, Stands}
use Rattle.poll_states.specs.Steps.{HasBody, OwnStateSeen}
use Rattle.poll_states.specs.declared.jobs.OwnState.TheVariants as own

-- ---- the lines of a script

both_true : (a b : Bool) → (a && b) ≡ true → (a ≡ true) × (b ≡ true)
both_true true b e = (refl, e)
both_true false b e = cc

in_coroutines : (cs : List Coroutine) (i : ℕ) → list_all (λ c. nat_le (length c.code.items) 1048577) cs ≡ true
    → length (code_of_block (slice_get (map block_of cs) i)) ≤ 1048577
in_coroutines [] zero h = omega arith
in_coroutines [] (suc i) h = omega arith
in_coroutines (c ∷ cs) zero h = let few : nat_le (length c.code.items) 1048577 ≡ true = (both_true _ _ h).0 in grind (arith, nat_tests)
in_coroutines (c ∷ cs) (suc i) h = in_coroutines cs i (both_true (nat_le (length c.code.items) 1048577) _ h).1

pub code_short : (s : Script) (tag : ℕ) → length (code_of (program_of s) tag) ≤ 1048577
code_short s tag = by_block (block_of_tag (program_of s) tag)
  where
    by_block : (o : Option ℕ) → length (code_at (program_of s) o) ≤ 1048577
    by_block None = omega arith
    by_block (Some i) = in_coroutines s.coroutines.items i s.short

pub line_short : (s : Script) (tag i : ℕ) (l : Instruction) → slice_get (code_of (program_of s) tag) i ≡ Some l → i < 1048577
line_short s tag i l e = let lt = slice_get_within (code_of (program_of s) tag) i l e in let short = code_short s tag
    in omega (arith, lt, short)

-- a line that opens others is one of the lines
pub open_short : (s : Script) (tag i : ℕ) → does_open (slice_get (code_of (program_of s) tag) i) ≡ true → i < 1048577
open_short s tag i h = by_line (slice_get (code_of (program_of s) tag) i) refl h
  where
    by_line : (o : Option Instruction) → slice_get (code_of (program_of s) tag) i ≡ o → does_open o ≡ true → i < 1048577
    by_line None e k = cc
    by_line (Some l) e k = line_short s tag i l e

pub few_coroutines : (p : Program) → IsProgram p → coroutine_count p ≤ 16000
few_coroutines p ok = omega (arith, ok.load, whole_load-job_count p ok)

-- ---- where it is

pub stands_fits : (p : Program) (c : ChannelFloor) (j : Floor) (f : Frame) → Stands p c j f → Fits p f.tag (config_of f)
stands_fits p c j f h = reach_fits p f.tag h.on.runs.told (config_of f) h.on.runs.reaches

pub stands_knows : (p : Program) (c : ChannelFloor) (j : Floor) (f : Frame) → Legal j.shape j.seen → Stands p c j f
    → Knows p f.tag (seen_by c j) (items_of f) (config_of f)
stands_knows p c j f l h = record {
  legal = subst (λ s. Legal s j.seen) h.on.jobs l;
  acts = h.on.job_acts;
  runs = h.on.runs;
  low =
      h.on.in_run;
}

-- the lines at which it entered what it did not leave are lines of the code
pub head_short : (s : Script) (c : ChannelFloor) (j : Floor) (f : Frame) (e : Entered) (es : List Entered) → Stands (program_of s) c j f
    → (config_of f).entered ≡ e ∷ es → head_of e < 1048577
head_short s c j f e es h is = by_entered e (subst (AllEnter (code_of (program_of s) f.tag)) is
    (stands_fits (program_of s) c j f h).enters).0
  where
    by_entered : (e : Entered) → EntersAt (code_of (program_of s) f.tag) e → head_of e < 1048577
    by_entered (in_repeat head left) k = line_short s f.tag head _ k.1
    by_entered (in_each head) k = line_short s f.tag head _ k.1
    by_entered (in_scope head row) k = line_short s f.tag head _ k.1

-- at an end something was entered
pub end_entered : (p : Program) (c : ChannelFloor) (j : Floor) (f : Frame) → IsProgram p → Stands p c j f
    → IsAt p f.tag (config_of f) line.End → (config_of f).entered ≡ [] → ⊥
end_entered p c j f ok h at none =
    let top = end_closes p f.tag (config_of f) ok (stands_fits p c j f h) at in
    let both_ways : [] ≡ top.0 ∷ top.1 = sym none ∙ top.2 in
    cc

-- ---- its Jobs

pub in_coroutine_rows : (p : Program) (j : Floor) (k : ℕ) → j.shape ≡ job_shape p → k < coroutine_count p → k < j.shape.coroutines
in_coroutine_rows p j k e lt = omega (arith, lt, ap (λ (s : Shape). s.coroutines) e)

pub in_rows : (p : Program) (j : Floor) (k : ℕ) → j.shape ≡ job_shape p → k < coroutine_count p → k < j.shape.rows
in_rows p j k e lt = omega (arith, lt, ap (λ (s : Shape). s.rows) e)

-- the body of its innermost Job has not ended
pub stands_body : (p : Program) (c : ChannelFloor) (j : Floor) (f : Frame) → Legal j.shape j.seen → Stands p c j f
    → is_fresh f.stage ≡ false → is_leaving f.stage ≡ false → is_over f.stage ≡ false → HasBody f.tag (innermost f.tag (config_of f)) j
stands_body p c j f l h fresh leaving over =
    let knows = stands_knows p c j f l h in
    let row : ℕ = innermost f.tag (config_of f) in
    let within : row < (job_shape p).rows = attached_within (job_shape p) j.seen row (shape_fits p f.tag h.on.in_run) knows.legal
    (innermost_attached p f.tag (seen_by c j) (items_of f) (config_of f) knows fresh) in
    record {
      row_in = omega (arith, within, ap (λ (s : Shape). s.rows) h.on.jobs);
      at = innermost_body p f.tag (seen_by c j) (items_of f) (config_of f) j knows refl h.on.jobs h.on.of_jobs leaving over;
    }

-- its own body has not ended
pub own_body_open : (p : Program) (c : ChannelFloor) (j : Floor) (f : Frame) → Legal j.shape j.seen → Stands p c j f
    → is_over f.stage ≡ false → list_any (ends_body f.tag) (acts_of f.tag j.seen) ≡ false
own_body_open p c j f l h over = runs_ends p f.tag (seen_by c j) (items_of f) (config_of f) (stands_knows p c j f l h) ∙ over

pub fresh_body : (p : Program) (c : ChannelFloor) (j : Floor) (f : Frame) → Legal j.shape j.seen → Stands p c j f → is_over f.stage ≡ false
    → HasBody f.tag f.tag j
fresh_body p c j f l h over = record {
  row_in = in_rows p j f.tag h.on.jobs h.on.in_run;
  at = record {
    caller = h.on.of_jobs;
    whose = IsOwnRow.own refl (in_coroutine_rows p j f.tag h.on.jobs h.on.in_run);
    not_ended =
        own_body_open p c j f l h over;
  };
}

-- where it has begun, its innermost Job is attached and not New
pub stands_live : (p : Program) (c : ChannelFloor) (j : Floor) (f : Frame) → Legal j.shape j.seen → Stands p c j f
    → is_fresh f.stage ≡ false → IsNotNew (replay j.seen (innermost f.tag (config_of f)))
stands_live p c j f l h e = innermost_live p f.tag (seen_by c j) (items_of f) (config_of f) (stands_knows p c j f l h) e

pub stands_attached : (p : Program) (c : ChannelFloor) (j : Floor) (f : Frame) → Legal j.shape j.seen → Stands p c j f
    → is_fresh f.stage ≡ false → is_some (replay j.seen (innermost f.tag (config_of f))) ≡ true
stands_attached p c j f l h e = innermost_attached p f.tag (seen_by c j) (items_of f) (config_of f) (stands_knows p c j f l h) e

-- a coroutine that has begun does not see its innermost Job New
pub never_new : (p : Program) (c : ChannelFloor) (a b : Floor) (f : Frame) → Legal a.shape a.seen → Legal b.shape b.seen → Stands p c a f
    → is_fresh f.stage ≡ false → OwnStateSeen f.tag (innermost f.tag (config_of f)) a b own.NotStarted → ⊥
never_new p c a b f l l' h e s =
    let m = s.was in
    let row : ℕ = innermost f.tag (config_of f) in
    not_new_started (replay m.moment row)
    (prefix_keeps IsNotNew not_new_lasts b.shape a.seen m.moment row (Legal-prefix b.shape m.moment m.before.0 (rw m.before.1 l')) m.after
    (stands_live p c a f l h e)) m.holds

-- its own Job, where it has begun
own_attached : (p : Program) (c : ChannelFloor) (j : Floor) (f : Frame) → Legal j.shape j.seen → Stands p c j f → is_fresh f.stage ≡ false
    → IsNotNew (replay j.seen f.tag)
own_attached p c j f l h e = runs_live p f.tag (seen_by c j) (items_of f) (config_of f) (stands_knows p c j f l h) e

pub own_end : (p : Program) (c : ChannelFloor) (j : Floor) (f : Frame) → Legal j.shape j.seen → Stands p c j f → is_fresh f.stage ≡ false
    → is_over f.stage ≡ false → MayEndBody f.tag (replay j.seen f.tag)
own_end p c j f l h e o =
    let live = own_attached p c j f l h e in
    may_end_body j.shape j.seen f.tag f.tag l (own_tag j.shape j.seen f.tag (in_coroutine_rows p j f.tag h.on.jobs h.on.in_run) l
    (not_new_attached _ live)) live (own_body_open p c j f l h o)

pub own_body : (p : Program) (c : ChannelFloor) (j : Floor) (f : Frame) → Legal j.shape j.seen → Stands p c j f → is_fresh f.stage ≡ false
    → is_over f.stage ≡ false → OwnsBody f.tag (replay j.seen f.tag)
own_body p c j f l h e o =
    owns_body j.shape j.seen f.tag f.tag l (own_tag j.shape j.seen f.tag (in_coroutine_rows p j f.tag h.on.jobs h.on.in_run) l
    (not_new_attached _ (own_attached p c j f l h e))) (own_body_open p c j f l h o)

-- in no scope it may cancel its own Job for the reason for which it unwinds
pub own_reason : (p : Program) (c : ChannelFloor) (j : Floor) (f : Frame) (failure : Option ℕ) → Legal j.shape j.seen → Stands p c j f
    → scope_in (config_of f).entered ≡ None → f.stage ≡ Unwinding failure → Holds j.shape (replay j.seen) f.tag f.tag (reason_for failure)
own_reason p c j f failure l h none e =
    subst (λ s. Holds s (replay j.seen) f.tag f.tag (reason_for failure)) (sym h.on.jobs)
    (subst (λ r. Holds (job_shape p) (replay j.seen) f.tag r (reason_for failure)) (ap (row_or f.tag) none)
    (innermost_reason p f.tag (seen_by c j) (items_of f) (config_of f) failure (stands_knows p c j f l h) e))

-- the Job of a name was attached
pub named_attached : (p : Program) (c : ChannelFloor) (j : Floor) (f : Frame) (i row : ℕ) → Legal j.shape j.seen → Stands p c j f
    → slice_get f.rows.items i ≡ Some row → is_some (replay j.seen row) ≡ true
named_attached p c j f i row l h at = (known.named_attached p f.tag (seen_by c j) (items_of f) (config_of f) i row
    (stands_knows p c j f l h) at).0

-- ---- its wait

pub stands_wait : (p : Program) (c : ChannelFloor) (j : Floor) (f : Frame) → LegalChannels c.shape c.seen → Stands p c j f
    → HasJustTheWait f.tag f.stage (replay_channels c.seen)
stands_wait p c j f l h = just_the_wait p f.tag (seen_by c j) (items_of f) (config_of f)
    (subst (λ s. LegalChannels s c.seen) h.on.channels l) h.on.channel_acts h.on.runs

-- the wait for which it waits is its own, and not settled
pub waits_unsettled : (p : Program) (c : ChannelFloor) (j : Floor) (f : Frame) (w : WaitId) → LegalChannels c.shape c.seen → Stands p c j f
    → wait_of f.stage ≡ Some w → IsUnsettledOf f.tag ((replay_channels c.seen).waits w)
waits_unsettled p c j f w l h e = (stands_wait p c j f l h w).1 e

pub wait_call : (p : Program) (c : ChannelFloor) (j : Floor) (f : Frame) (w : WaitId) → LegalChannels c.shape c.seen → Stands p c j f
    → wait_of f.stage ≡ Some w → MayCall f.tag w.channel c
wait_call p c j f w l h e = record {
  caller = h.on.of_channels;
  channel = subst (λ (s : ChannelShape). w.channel < length s) (sym h.on.channels)
      (wait_in_floor p f.tag (seen_by c j) (items_of f) (config_of f) w (subst (λ s. LegalChannels s c.seen) h.on.channels l)
      h.on.channel_acts h.on.runs e);
}

-- the line of its wait is one of its lines
pub wait_line : (p : Program) (c : ChannelFloor) (j : Floor) (f : Frame) (w : WaitId) → Stands p c j f → f.stage ≡ Waiting w
    → f.line < length (code_of p f.tag)
wait_line p c j f w h e = by_line (slice_get (code_of p f.tag) f.line) refl
    (subst (λ t. CallsAt t (slice_get (code_of p f.tag) f.line)) e (stands_fits p c j f h).calls)
  where
    by_line : (o : Option Instruction) → slice_get (code_of p f.tag) f.line ≡ o → may_wait o ≡ true → f.line < length (code_of p f.tag)
    by_line None at m = cc
    by_line (Some i) at m = slice_get_within (code_of p f.tag) f.line i at
