-- Of which Job the end is still to be seen.
use Rattle.std.specs.Prelude.{◌≡◌, ℕ, ◌<◌, Bool, true, List, [], ◌∷◌, ◌++◌, length, Option, Some, None, is_some, slice_get, refl}
use Rattle.std.proofs.Common.{sym, ap, ◌∙◌, subst, get_or}
use Rattle.std.proofs.lemmas.Option.{slice_get-get_or, slice_get_within, slice_get_read}
use Rattle.job_model.specs.Histories.{replay, Legal}
use Rattle.job_model.specs.Floors.{Floor}
use Rattle.channel_model.specs.Floors.{Floor as ChannelFloor}
use Rattle.call_meaning.specs.Calls.{seen_by}
use Rattle.script_grammar.specs.declared.instructions.Instruction.{Instruction}
use Rattle.script_grammar.specs.declared.instructions.Instruction.TheVariants as line
use Rattle.script_grammar.specs.Programs.{Program}
use Rattle.script_grammar.specs.Tags.{code_of}
use Rattle.script_grammar.specs.WellFormed.{IsProgram}
use Rattle.script_reader.specs.Lines.{does_open}
use Rattle.script_meaning.specs.declared.stage.Stage.TheVariants.{SeesJob, SeesScope}
use Rattle.script_meaning.specs.Configs.{Entered, in_scope, InScope, scope_in}
use Rattle.script_meaning.specs.Inside.{AllEnter, is_await, is_in_lines, CallsAt}
use Rattle.script_meaning.specs.Bodies.{is_leaving}
use Rattle.script_meaning.specs.Polls.{HasToSee}
use Rattle.script_meaning.specs.Shapes.{job_shape}
use Rattle.script_meaning.proofs.InsideCode.{scope_splits}
use Rattle.script_meaning.proofs.NamesKnown.{job_known}
use Rattle.script_meaning.proofs.ScopesEntered.{leaves_scope}
use Rattle.script_meaning.proofs.BodiesOpen.{runs_scopes, scope_here}
use Rattle.script_meaning.proofs.OwnRows.{not_new_attached}
use Rattle.poll_states.specs.declared.entered.OpenScope.{OpenScope}
use Rattle.poll_states.specs.Frames.{Frame, config_of, items_of, Stands}
use Rattle.poll_states.specs.SeenEnds.{AwaitsNamed, IsInScope}
use Rattle.poll_states.proofs.Standing.{stands_fits, stands_knows, named_attached}

-- ---- an await

await_line : (o : Option Instruction) → is_await o ≡ true → (job : ℕ) × (o ≡ Some (line.Await job))
await_line None a = cc
await_line (Some (line.Await job)) a = (job, refl)
await_line (Some (line.Send x y)) a = cc
await_line (Some (line.TrySend x y)) a = cc
await_line (Some (line.Receive x)) a = cc
await_line (Some (line.TryReceive x)) a = cc
await_line (Some (line.Close x)) a = cc
await_line (Some (line.CancelChannel x)) a = cc
await_line (Some line.Yield) a = cc
await_line (Some (line.Launch x y z)) a = cc
await_line (Some (line.Start x)) a = cc
await_line (Some (line.Join x)) a = cc
await_line (Some (line.Cancel x)) a = cc
await_line (Some (line.Fail x)) a = cc
await_line (Some (line.SetResult x)) a = cc
await_line (Some (line.Repeat x)) a = cc
await_line (Some (line.Each x)) a = cc
await_line (Some (line.Scope x)) a = cc
await_line (Some line.Select) a = cc
await_line (Some (line.OnSend x y)) a = cc
await_line (Some (line.OnReceive x)) a = cc
await_line (Some line.End) a = cc

-- where it has to see how a Job ended, its line is an await, whose name means a row
pub awaits_named : (p : Program) (c : ChannelFloor) (j : Floor) (f : Frame) → IsProgram p → Legal j.shape j.seen → Stands p c j f
    → f.stage ≡ SeesJob → AwaitsNamed p f
awaits_named p c j f ok l h e =
    let at = await_line (slice_get (code_of p f.tag) f.line)
    (subst (λ t. CallsAt t (slice_get (code_of p f.tag) f.line)) e (stands_fits p c j f h).calls) in
    record {
      in_run = h.on.in_run;
      sees = e;
      job = at.0;
      line_is = at.1;
      named = job_known p f.tag (seen_by c j) (items_of f) (config_of f) (line.Await at.0) at.0 ok (subst (λ s. Legal s j.seen) h.on.jobs l)
          h.on.runs (ap is_in_lines e) at.1 refl;
    }

-- the line at which it waits is read so
pub awaited_is : (p : Program) (f : Frame) (h : AwaitsNamed p f) (code : List Instruction) (d : Instruction) → code ≡ code_of p f.tag
    → get_or code f.line d ≡ line.Await h.job
awaited_is p f h code d is =
    let lt : f.line < length code = subst (λ (l : List Instruction). f.line < length l) (sym is)
    (slice_get_within (code_of p f.tag) f.line (line.Await h.job) h.line_is) in
    let both_ways : Some (get_or code f.line d) ≡ Some (line.Await h.job) = sym (slice_get-get_or code f.line d lt)
    ∙ ap (λ (l : List Instruction). slice_get l f.line) is ∙ h.line_is in
    cc

-- and that name has a row
pub awaited_named : (p : Program) (f : Frame) → AwaitsNamed p f → (code : List Instruction) (d : Instruction) (job : ℕ)
    → code ≡ code_of p f.tag → get_or code f.line d ≡ line.Await job → job < length f.rows.items
awaited_named p f h code d job is at =
    let both_ways : line.Await job ≡ line.Await h.job = sym at ∙ awaited_is p f h code d is in
    let same : job ≡ h.job = cc in
    subst (λ n. n < length f.rows.items) (sym same) h.named

-- which is the one to be seen
pub awaited_row : (p : Program) (f : Frame) → AwaitsNamed p f → (code : List Instruction) (d : Instruction) (job row : ℕ)
    → code ≡ code_of p f.tag → get_or code f.line d ≡ line.Await job → row ≡ get_or f.rows.items job row
    → HasToSee p f.tag (config_of f) row
awaited_row p f h code d job row is at e =
    let both_ways : line.Await job ≡ line.Await h.job = sym at ∙ awaited_is p f h code d is in
    let same : h.job ≡ job = cc in
    HasToSee.job job row h.sees (h.line_is ∙ ap (λ n. Some (line.Await n)) same)
    (slice_get_read f.rows.items (length f.rows.items) job row refl (awaited_named p f h code d job is at) e)

-- ---- the Job

scope_attached : (p : Program) (c : ChannelFloor) (j : Floor) (f : Frame) (s : InScope) → Legal j.shape j.seen → Stands p c j f
    → scope_in (config_of f).entered ≡ Some s → is_some (replay j.seen s.row) ≡ true
scope_attached p c j f s l h e = not_new_attached (replay j.seen s.row)
    (scope_here p f.tag (seen_by c j) (items_of f) (config_of f) s (stands_knows p c j f l h) e).live

-- it is attached
pub seen_attached : (p : Program) (c : ChannelFloor) (j : Floor) (f : Frame) (row : ℕ) → Legal j.shape j.seen → Stands p c j f
    → HasToSee p f.tag (config_of f) row → is_some (replay j.seen row) ≡ true
seen_attached p c j f _ l h (HasToSee.job job row e at names) = named_attached p c j f job row l h names
seen_attached p c j f _ l h (HasToSee.scope s e at) = scope_attached p c j f s l h at

-- ---- a scope

-- where it has to see how a scope ended, it has entered one
pub sees_in_scope : {A : Type 0} (p : Program) (c : ChannelFloor) (j : Floor) (f : Frame) → Legal j.shape j.seen → Stands p c j f
    → f.stage ≡ SeesScope → scope_in (config_of f).entered ≡ None → A
sees_in_scope p c j f l h e none =
    let knows = stands_knows p c j f l h in
    let s = leaves_scope (job_shape p) f.tag knows.runs.told (config_of f)
    (runs_scopes p f.tag (seen_by c j) (items_of f) (config_of f) knows) (ap is_leaving e) in
    absurd (let both_ways : None ≡ Some s.0 = sym none ∙ s.1 in let no_way : ⊥ = cc in no_way)

pub scope_to_see : (p : Program) (f : Frame) (s : OpenScope) → f.stage ≡ SeesScope → IsInScope (config_of f) s
    → HasToSee p f.tag (config_of f) s.row
scope_to_see p f s e inside = HasToSee.scope (record { head = s.head; row = s.row; around = inside.0 }) e inside.1

-- the scope's first line opens it
pub scope_opens : (p : Program) (c : ChannelFloor) (j : Floor) (f : Frame) (s : OpenScope) → Stands p c j f → IsInScope (config_of f) s
    → does_open (slice_get (code_of p f.tag) s.head) ≡ true
scope_opens p c j f s h inside =
    let meant : InScope = record { head = s.head; row = s.row; around = inside.0 } in
    let parts = scope_splits (config_of f).entered meant inside.1 in
    let at = enters parts.inside s.head s.row inside.0 (subst (AllEnter (code_of p f.tag)) parts.all (stands_fits p c j f h).enters) in
    ap does_open at.1
  where
    enters : (inside : List Entered) (head row : ℕ) (around : List Entered)
        → AllEnter (code_of p f.tag) (inside ++ in_scope head row ∷ around) → (supervisor : Bool)
        × (slice_get (code_of p f.tag) head ≡ Some (line.Scope supervisor))
    enters [] head row around a = a.0
    enters (e ∷ inside) head row around a = enters inside head row around a.1
