-- The root between two spawns.
use Rattle.std.specs.Prelude.{◌≡◌, ℕ, zero, suc, ◌+◌, ◌-◌, ◌<◌, ◌≤◌, nat_lt, nat_le, Bool, true, false, ◌&&◌, ◌||◌, ◌⊎◌, List, [], ◌∷◌, ◌++◌, length, Err, Some, None, is_some, option_map, map, drop, replicate, slice_get, refl}
use Rattle.std.specs.List.{list_any}
use Rattle.std.proofs.Common.{sym, ap, ◌∙◌, subst, arith, append_assoc, get_or, drop-cons, ⊎_elim}
use Rattle.std.proofs.lemmas.List.{length-map, get_or-map}
use Rattle.std.proofs.lemmas.List.Folds.{list_any-append}
use Rattle.std.proofs.lemmas.Option.{slice_get-get_or, slice_get-map}
use Rattle.std.proofs.lemmas.Bool.Decides.{nat_tests}
use Rattle.channel_model.specs.Histories.{acts_of}
use Rattle.channel_model.specs.Floors.{Floor as ChannelFloor, Added as AddedToChannels}
use Rattle.job_model.specs.declared.acts.JobAct.TheVariants.{Attach}
use Rattle.job_model.specs.declared.acts.JobNote.TheVariants as known
use Rattle.job_model.specs.Trees.{Shape, is_among}
use Rattle.job_model.specs.Acts.{ends_body}
use Rattle.job_model.specs.Histories.{acts_of as job_acts_of, replay, Legal}
use Rattle.job_model.specs.Floors.{Floor, Added, is_claimed_by}
use Rattle.job_model.proofs.Ends.{by_entries}
use Rattle.job_model.proofs.Spans.{among-append, added_then, nothing_more}
use Rattle.note_book.specs.declared.book.Item.{Item}
use Rattle.note_book.specs.Items.{channel_acts_in, job_acts_in}
use Rattle.note_book.proofs.Appended.{channel_acts_in-append, job_acts_in-append}
use Rattle.call_meaning.specs.Telling.{Told, on_jobs, HasEnded, items_in, did, knew}
use Rattle.call_meaning.specs.Stories.{IsTrue, beginning}
use Rattle.call_meaning.specs.JobCalls.{child_kind, NotAttached}
use Rattle.call_meaning.specs.Seen.{SeenOnJobs, SeenOnBoth}
use Rattle.call_meaning.specs.Calls.{ToldOnJobs, rows_in, seen_by}
use Rattle.call_meaning.proofs.Tellings.{true_sooner}
use Rattle.call_meaning.proofs.JobTellings.{items_in-append, told_then, told_nothing, nobody_called}
use Rattle.scope_builders.specs.declared.builder.LaunchError.{LaunchError}
use Rattle.scope_builders.specs.declared.builder.LaunchError.TheVariants as launch
use Rattle.call_meaning.specs.Endings.{ClosesAtOnce}
use Rattle.scope_builders.specs.Dones.{KeepsDones}
use Rattle.scope_builders.specs.Calls.{LaunchAnswer}
use Rattle.scope_builders.proofs.DonesKept.{at_once_then}
use Rattle.script_grammar.specs.Programs.{Program, Block, block_names}
use Rattle.script_grammar.specs.Grammar.{is_spawn}
use Rattle.script_grammar.specs.Tags.{coroutine_count, size_of, sizes_of, spawned, spawned_by}
use Rattle.script_grammar.specs.WellFormed.{IsProgram}
use Rattle.script_grammar.proofs.Layouts.{main_fits, size_some, test_at}
use Rattle.script_meaning.specs.declared.stage.Stage.TheVariants.{Unwinding}
use Rattle.script_meaning.specs.Shapes.{floor_shape, base_of}
use Rattle.script_meaning.specs.Configs.{Config, at_stage, fresh, past_launch}
use Rattle.script_meaning.specs.Books.{Spawns, Begins, Reaches, story}
use Rattle.script_meaning.specs.Polls.{RefusedByClaims, own_rows, jobs_by}
use Rattle.script_reader.specs.declared.script.Spawn.{Spawn}
use Rattle.script_reader.specs.Programs.{spawn_of}
use Rattle.poll_states.specs.Frames.{Frame, config_of, items_of, seen_at, jobs_at}
use Rattle.poll_states.specs.Steps.{CutShort, IsNewRoot, IsOnItsChannels, IsOnItsJobs, BegunTo, IsForSpawn, HasSpawned, IsRefusedSpawn}
use Rattle.poll_states.proofs.Moving.{rows_in-append, own_rows-append}
use Rattle.poll_states.proofs.DonesLeft.{unclosed_kept}
use Rattle.script_meaning.proofs.GentleNotes.{attach_mild, mild_unrefused}
use Rattle.poll_states.proofs.Mild.{AllMild, mild_then, nothing_mild, mild_closes, unrefused_claims, claims_behind}
use Rattle.poll_states.proofs.Standing.{few_coroutines}
use Rattle.poll_states.proofs.Stepping.{self_channels, cut_jobs, told_at}
use Rattle.poll_states.proofs.JobLines.{never_told_over}
use Rattle.script_meaning.specs.Bodies.{IsOwnRow}

rows_told-append : (xs ys : List Told) → rows_in (job_acts_in (items_in (xs ++ ys))) ≡ rows_in (job_acts_in (items_in xs))
    ++ rows_in (job_acts_in (items_in ys))
rows_told-append xs ys =
    ap (λ l. rows_in (job_acts_in l)) (items_in-append xs ys) ∙ ap rows_in (job_acts_in-append (items_in xs) (items_in ys))
    ∙ rows_in-append (job_acts_in (items_in xs)) (job_acts_in (items_in ys))

attached_row : (n : ℕ) (now : Bool) → rows_in (job_acts_in (items_in (did (Attach 0 n (child_kind false) n now) ∷ []))) ≡ n ∷ []
unfolding items_in rows_in
attached_row n now = refl

attached_open : (n : ℕ) (now : Bool) → list_any (ends_body 0) (job_acts_in (items_in (did (Attach 0 n (child_kind false) n now) ∷ []))) ≡
    false
unfolding items_in
attached_open n now = refl

-- main's frame f, after some of the spawns were told: these are left
pub record Spawning (p : Program) (left : List ℕ) (j j' : Floor) (f : Frame) : Type 0 where
  pub tag : f.tag ≡ 0
  told : List Told
  so_far : (more : List Told) (y : Config) → Spawns p left (config_of f) more y → Spawns p (spawned p) (fresh 0) (told ++ more) y
  here : config_of f ≡ record (fresh 0) { free = f.free }
  room : f.free + sizes_of p left ≤ coroutine_count p
  noted : ToldOnJobs (rows_in (job_acts_in (items_in told))) (record { who = 0; floor = j; items = [] }) (jobs_at j' f) told
  mild : AllMild (base_of p) told
  not_ended : list_any (ends_body 0) (job_acts_in (items_in told)) ≡ false

-- before the first
pub spawning_first : (p : Program) (j : Floor) (f : Frame) → IsProgram p → IsNewRoot f → Spawning p (spawned p) j j f
unfolding items_in rows_in
spawning_first p j f ok new = record {
  tag = new.tag;
  told = [];
  so_far = λ more y s. subst (λ x. Spawns p (spawned p) x more y) new.config s;
  here = new.config ∙ ap (λ n. record (fresh 0) { free = n }) (sym (ap (λ (x : Config). x.free) new.config));
  room = omega (arith, ap (λ (x : Config). x.free) new.config, main_fits p ok);
  noted = told_nothing new.tag new.book (nobody_called 0 j);
  mild = nothing_mild (base_of p);
  not_ended = refl;
}

-- after one more
pub spawning_next : {p : Program} {block : ℕ} {left : List ℕ} {j k l : Floor} {f g : Frame} → Spawning p (block ∷ left) j k f
    → HasSpawned p block (jobs_at k f) (jobs_at l g) f g → Spawning p left j l g
spawning_next {p} {block} {left} {j} {k} {l} {f} {g} h s =
    let x : Config = config_of f in
    let one : List Told = did (Attach 0 f.free (child_kind false) f.free s.now) ∷ [] in
    record {
      tag = s.noted.who ∙ h.tag;
      told = h.told ++ one;
      so_far = λ more y rest. subst (λ n. Spawns p (spawned p) (fresh 0) n y) (sym (append_assoc h.told one more))
          (h.so_far (one ++ more) y (Spawns.attaches block left x y s.now more (subst (λ z. Spawns p left z more y) s.config rest)));
      here = s.config ∙ ap (past_launch p block None) h.here
          ∙ ap (λ n. record (fresh 0) { free = n }) (sym (ap (λ (z : Config). z.free) s.config));
      room = omega (arith, h.room, ap (λ (z : Config). z.free) s.config);
      noted = subst (λ r. ToldOnJobs r (record { who = 0; floor = j; items = [] }) (jobs_at l g) (h.told ++ one))
          (sym (rows_told-append h.told one ∙ ap (λ r. rows_in (job_acts_in (items_in h.told)) ++ r) (attached_row f.free s.now)))
          (told_then h.noted s.noted);
      mild = mild_then (base_of p) h.told one h.mild (attach_mild (base_of p) 0 f.free (child_kind false) f.free s.now);
      not_ended = ap (λ i. list_any (ends_body 0) (job_acts_in i)) (items_in-append h.told one)
          ∙ ap (list_any (ends_body 0)) (job_acts_in-append (items_in h.told) (items_in one))
          ∙ list_any-append (ends_body 0) (job_acts_in (items_in h.told)) (job_acts_in (items_in one))
          ∙ ap (λ b. b || list_any (ends_body 0) (job_acts_in (items_in one))) h.not_ended ∙ attached_open f.free s.now;
    }

-- ---- the root has begun

root_row : (p : Program) → IsProgram p → 0 < coroutine_count p
root_row p ok = omega (arith, main_fits p ok)

-- main's frame g after its spawns, at its first line or to break off
root_begun : (p : Program) (c : ChannelFloor) (j j' : Floor) (f g : Frame) (told : List Told) → IsProgram p → Legal j'.shape j'.seen
    → IsNewRoot f → IsOnItsChannels p c → IsOnItsJobs p j → g.tag ≡ 0 → Spawns p (spawned p) (fresh 0) told (config_of g)
    → ToldOnJobs (rows_in (job_acts_in (items_in told))) (record { who = 0; floor = j; items = [] }) (jobs_at j' g) told
    → RefusedByClaims (config_of g) (items_in told) j' → ClosesAtOnce (base_of p) (items_in told) → BegunTo p c c j j' f g
unfolding acts_of
root_begun p c j j' f g told ok l new its on t spawned_so noted refused closes = record {
  begun = record {
    tag = t ∙ sym new.tag;
    told = told;
    begins = subst (λ k. Begins p k told (config_of g)) (sym new.tag) (Begins.root told (config_of g) spawned_so);
    written = noted.appended;
    is_true = subst (λ k. IsTrue (story p k (jobs_by j')) [] (jobs_by j) told) (sym new.tag)
        (noted.was_so [] (floor_shape p) [] refl on.no_job_acts);
    jobs = subst (λ k. Added k (job_acts_in (items_in told)) (rows_in (job_acts_in (items_in told))) j j') (sym new.tag) noted.added;
    refused = refused;
  };
  stands = record {
    on = record {
      channels = its.channels;
      jobs = noted.added.same.shape ∙ on.jobs;
      of_channels = ap c.callers t ∙ its.of_channels;
      of_jobs = ap j'.callers t ∙ ap (λ (k : ℕ → Bool). k 0) noted.added.same.callers ∙ on.of_jobs;
      in_run = subst (λ k. k < coroutine_count p) (sym t) (root_row p ok);
      channel_acts = ap (λ k. acts_of k c.seen) t ∙ its.no_channel_acts ∙ sym noted.no_channels ∙ ap channel_acts_in (sym noted.appended);
      job_acts = ap (λ k. job_acts_of k j'.seen) t ∙ noted.added.mine ∙ ap (λ a. a ++ job_acts_in (items_in told)) on.no_job_acts
          ∙ ap job_acts_in (sym noted.appended);
      runs = record {
        told = told;
        written = sym noted.appended;
        reaches = subst (λ k. Reaches p k told (config_of g)) (sym t)
            (Reaches.begins told (config_of g) (Begins.root told (config_of g) spawned_so));
        is_true = subst (λ k. IsTrue (story p k (seen_by c j')) [] beginning told) (sym t)
            (true_sooner (story p 0 (seen_by c j')) [] beginning (seen_by c j) told
            (record { channels = (c.seen, refl); jobs = (j.seen, refl) })
            (noted.was_so [] (floor_shape p) c.seen its.no_channel_acts on.no_job_acts));
      };
      claims = λ r.
          let rows : List ℕ = rows_in (job_acts_in (items_in told)) in
          ap (λ k. is_claimed_by k (j'.claims r)) t ∙ noted.added.claims.mine r ∙ ap (λ b. b || is_among r rows) (on.claims r)
          ∙ sym (among-append r (own_rows 0 []) rows)
          ∙ ap (is_among r) (sym (own_rows-append 0 [] (items_in told))) ∙ ap (λ i. is_among r (own_rows 0 i)) (sym noted.appended)
          ∙ ap (λ k. is_among r (own_rows k (items_of g))) (sym t);
    };
  };
  dones = subst (λ i. KeepsDones (base_of p) (seen_at c j f) (seen_at c j' g) i) (sym noted.appended)
      (unclosed_kept 0 (base_of p) [] (job_acts_in (items_in told)) (rows_in (job_acts_in (items_in told))) (seen_at c j f) (seen_at c j' g)
      (items_in told) l (self_channels 0 c) refl noted.added closes);
}

-- all were attached
pub begun_all : (p : Program) (c : ChannelFloor) (j j' : Floor) (f g : Frame) → IsProgram p → Legal j'.shape j'.seen → IsNewRoot f
    → IsOnItsChannels p c → IsOnItsJobs p j → Spawning p [] j j' g → BegunTo p c c j j' f g
begun_all p c j j' f g ok l new its on h =
    root_begun p c j j' f g h.told ok l new its on h.tag (subst (λ t. Spawns p (spawned p) (fresh 0) t (config_of g)) (nothing_more h.told)
    (h.so_far [] (config_of g) (Spawns.done (config_of g)))) h.noted
    (unrefused_claims (base_of p) (config_of g) h.told j' (mild_unrefused (base_of p) h.told h.mild))
    (mild_closes (base_of p) (items_in h.told) h.mild)

refusal_closes : (base : ℕ) (scoped : Bool) (told : List Told) → NotAttached 0 scoped told → ClosesAtOnce base (items_in told)
unfolding items_in
refusal_closes base _ _ NotAttached.no_row = (tt, tt)
refusal_closes base _ _ NotAttached.used = (tt, tt)
refusal_closes base _ _ (NotAttached.parent_ended scoped) = (tt, tt)

refusal_rows : (scoped : Bool) (told : List Told) → NotAttached 0 scoped told → rows_in (job_acts_in (items_in told)) ≡ []
unfolding items_in rows_in
refusal_rows _ _ NotAttached.no_row = refl
refusal_rows _ _ NotAttached.used = refl
refusal_rows _ _ (NotAttached.parent_ended scoped) = refl

-- one was refused
pub begun_refused : (p : Program) (block : ℕ) (left : List ℕ) (c : ChannelFloor) (j k l : Floor) (f m g : Frame) → IsProgram p
    → Legal l.shape l.seen → IsNewRoot f → IsOnItsChannels p c → IsOnItsJobs p j → Spawning p (block ∷ left) j k m
    → IsRefusedSpawn (jobs_at k m) (jobs_at l g) m g → BegunTo p c c j l f g
begun_refused p block left c j k l f m g ok legal new its on h s =
    let told : List Told = h.told ++ s.told in
    let to : Spawns p (spawned p) (fresh 0) told (at_stage (Unwinding (Some 0)) (config_of m)) =
    h.so_far s.told _ (Spawns.refused block left (config_of m) s.told s.goes) in
    let rows : rows_in (job_acts_in (items_in h.told)) ++ [] ≡ rows_in (job_acts_in (items_in told)) =
    sym (rows_told-append h.told s.told ∙ ap (λ r. rows_in (job_acts_in (items_in h.told)) ++ r) (refusal_rows false s.told s.goes)) in
    root_begun p c j l f g told ok legal new its on (s.noted.who ∙ h.tag) (subst (Spawns p (spawned p) (fresh 0) told) (sym s.config) to)
    (subst (λ r. ToldOnJobs r (record { who = 0; floor = j; items = [] }) (jobs_at l g) told) rows (told_then h.noted s.noted))
    (subst (λ i. RefusedByClaims (config_of g) i l) (sym (items_in-append h.told s.told))
    (claims_behind (base_of p) (config_of g) h.told (items_in s.told) l (mild_unrefused (base_of p) h.told h.mild) s.refused))
    (subst (ClosesAtOnce (base_of p)) (sym (items_in-append h.told s.told))
    (at_once_then (base_of p) (items_in h.told) (items_in s.told) (mild_closes (base_of p) (items_in h.told) h.mild)
    (refusal_closes (base_of p) false s.told s.goes)))

-- the jobs attached so far stand and are noted
pub begun_cut : {p : Program} {left : List ℕ} {c : ChannelFloor} {j k : Floor} {f m : Frame} {b : SeenOnBoth} → IsNewRoot f
    → Spawning p left j k m → CutShort (seen_at c k m) b → CutShort (seen_at c j f) b
begun_cut {p} {left} {c} {j} {k} {f} {m} {b} new h n =
    let same : m.tag ≡ f.tag = h.tag ∙ sym new.tag in
    record {
      who = n.who ∙ same;
      group = items_in h.told ++ n.group;
      rows = rows_in (job_acts_in (items_in h.told)) ++ n.rows;
      appended = n.appended ∙ ap (λ i. i ++ n.group) (h.noted.appended) ∙ sym (ap (λ i. i ++ (items_in h.told ++ n.group)) new.book);
      channels = subst (λ a. AddedToChannels f.tag a c b.channels)
          (sym (channel_acts_in-append (items_in h.told) n.group ∙ ap (λ a. a ++ channel_acts_in n.group) h.noted.no_channels))
          (subst (λ t. AddedToChannels t (channel_acts_in n.group) c b.channels) same n.channels);
      jobs = subst (λ a. Added f.tag a (rows_in (job_acts_in (items_in h.told)) ++ n.rows) j b.jobs)
          (sym (job_acts_in-append (items_in h.told) n.group))
          (added_then f.tag (job_acts_in (items_in h.told)) (job_acts_in n.group) (rows_in (job_acts_in (items_in h.told))) n.rows j k
          b.jobs (subst (λ t. Added t (job_acts_in (items_in h.told)) (rows_in (job_acts_in (items_in h.told))) j k) (sym new.tag)
          h.noted.added)
          (subst (λ t. Added t (job_acts_in n.group) n.rows k b.jobs) same n.jobs));
    }

-- ---- one spawn

pub for_spawn : (p : Program) (block : ℕ) (left : List ℕ) (j k : Floor) (f : Frame) → IsProgram p → IsOnItsJobs p j
    → Spawning p (block ∷ left) j k f → IsForSpawn p block k f
for_spawn p block left j k f ok on h = record {
  tag = h.tag;
  jobs = h.noted.added.same.shape ∙ on.jobs;
  body = record {
    row_in = omega (arith, root_row p ok, ap (λ (s : Shape). s.rows) (h.noted.added.same.shape ∙ on.jobs));
    at = record {
      caller = ap (λ (t : ℕ → Bool). t 0) h.noted.added.same.callers ∙ on.of_jobs;
      whose = IsOwnRow.own refl (omega (arith, root_row p ok, ap (λ (s : Shape). s.coroutines) (h.noted.added.same.shape ∙ on.jobs)));
      not_ended = ap (list_any (ends_body 0)) (h.noted.added.mine ∙ ap (λ a. a ++ job_acts_in (items_in h.told)) on.no_job_acts)
          ∙ h.not_ended;
    };
  };
  no_channel_acts = ap channel_acts_in h.noted.appended ∙ h.noted.no_channels;
  job_acts = h.noted.added.mine ∙ ap (λ a. a ++ job_acts_in (items_in h.told)) on.no_job_acts ∙ ap job_acts_in (sym h.noted.appended);
  room = omega (arith, h.room);
}

pub root_attached : (j : Floor) → Legal j.shape j.seen → is_some (replay j.seen 0) ≡ true
root_attached j l = (by_entries j.shape j.seen 0 l).attached

pub spawn_row : (p : Program) (block : ℕ) (j : Floor) (f : Frame) → block < length p.blocks → IsForSpawn p block j f
    → f.free < j.shape.coroutines
spawn_row p block j f lt h = let some = size_some p block lt in omega (arith, some, h.room, ap (λ (s : Shape). s.coroutines) h.jobs)

pub spawn_short : (p : Program) (block : ℕ) (j : Floor) (f : Frame) → IsProgram p → IsForSpawn p block j f
    → f.free + size_of p block < 65536
spawn_short p block j f ok h = omega (arith, h.room, few_coroutines p ok)

pub has_spawned : (p : Program) (block size : ℕ) (j j' : Floor) (f g : Frame) (now : Bool) → g.tag ≡ f.tag
    → config_of g ≡ record (config_of f) { free = f.free + size } → size ≡ size_of p block
    → ToldOnJobs (f.free ∷ []) (jobs_at j f) (jobs_at j' g) (did (Attach 0 f.free (child_kind false) f.free now) ∷ [])
    → HasSpawned p block (jobs_at j f) (jobs_at j' g) f g
has_spawned p block size j j' f g now t config is noted = record {
  config = config ∙ ap (λ n. record (config_of f) { free = f.free + n }) is;
  now = now;
  noted = noted;
}

refused_used : (j j' : Floor) (f g : Frame) → f.tag ≡ 0 → is_some (j'.claims f.free) ≡ true
    → ToldOnJobs [] (jobs_at j f) (jobs_at j' g) (knew known.Used ∷ []) → config_of g ≡ at_stage (Unwinding (Some f.tag)) (config_of f)
    → IsRefusedSpawn (jobs_at j f) (jobs_at j' g) f g
unfolding items_in
refused_used j j' f g at claimed noted config =
    let goes : config_of g ≡ at_stage (Unwinding (Some 0)) (config_of f) = config
    ∙ ap (λ n. at_stage (Unwinding (Some n)) (config_of f)) at in
    record {
      config = goes;
      told = knew known.Used ∷ [];
      goes = NotAttached.used;
      noted = noted;
      refused = record {
        no_row = λ e. absurd (let u : ⊥ = cc in u);
        used = λ e. ap (λ (x : Config). is_some (j'.claims x.free)) goes
            ∙ claimed;
        none_ended = refl;
      };
    }

-- channels on which nothing was done
uncalled_channels : ChannelFloor
uncalled_channels = record { shape = []; seen = []; spare = 0; alone = true; callers = λ t. true; order = [] }

nothing_done : acts_of 0 uncalled_channels.seen ≡ []
unfolding acts_of uncalled_channels
nothing_done = refl

-- no memory
pub spawn_cut : (c : ChannelFloor) (free : ℕ) (a b : SeenOnJobs) (error : LaunchError) → error ≡ launch.Memory → b.who ≡ a.who
    → LaunchAnswer 0 free false a b (Err error)
    → CutShort (record { who = a.who; channels = c; jobs = a.floor; items = a.items })
    (record { who = b.who; channels = c; jobs = b.floor; items = b.items })
spawn_cut c free a b error is t answer = cut_jobs b.who refl t (subst (λ x. LaunchAnswer 0 free false a b (Err x)) is answer)

pub spawn_refused : (p : Program) (block : ℕ) (j j' : Floor) (f g : Frame) (error : LaunchError) (w : ℕ) (mid : List Item)
    → (error ≡ launch.Used) ⊎ (error ≡ launch.ParentEnded) → Legal j'.shape j'.seen → IsForSpawn p block j f
    → LaunchAnswer 0 f.free false (jobs_at j f) (record { who = w; floor = j'; items = mid }) (Err error) → g.tag ≡ f.tag
    → config_of g ≡ at_stage (Unwinding (Some f.tag)) (config_of f) → items_of g ≡ mid → IsRefusedSpawn (jobs_at j f) (jobs_at j' g) f g
spawn_refused p block j j' f g error w mid which l h answer t config items =
    ⊎_elim
    (λ k. let q = subst (λ x. LaunchAnswer 0 f.free false (jobs_at j f) (record { who = w; floor = j'; items = mid }) (Err x)) k answer
    in refused_used j j' f g h.tag q.0 (told_at g q.1 t items) config)
    (λ k. let q = subst (λ x. LaunchAnswer 0 f.free false (jobs_at j f) (record { who = w; floor = j'; items = mid }) (Err x)) k answer in
    absurd (never_told_over w 0 0 (f.free ∷ []) uncalled_channels j j' (items_of f) mid (knew known.ParentEnded ∷ []) l h.body.at
    (nothing_done ∙ sym h.no_channel_acts) h.job_acts
    (subst (λ n. ToldOnJobs (f.free ∷ []) (record { who = n; floor = j; items = items_of f }) (record { who = w; floor = j'; items = mid })
    (on_jobs (HasEnded 0) ∷ knew known.ParentEnded ∷ [])) h.tag q)))
    which

-- ---- the spawns of a script

-- the next spawn
pub next_spawn : (p : Program) (xs : List Spawn) (i : ℕ) (z : Spawn) → map spawn_of xs ≡ p.spawns → i < length xs
    → spawned_by (drop i p.spawns) ≡ replicate ((get_or xs i z).count - 0) (get_or xs i z).coroutine ++ spawned_by (drop (i + 1) p.spawns)
next_spawn p xs i z e lt =
    let long : i < length (map spawn_of xs) = omega (arith, lt, length-map xs spawn_of) in
    let one : suc i ≡ i + 1 = omega arith in
    let all : (get_or xs i z).count ≡ (get_or xs i z).count - 0 = omega arith in
    let at : drop i p.spawns ≡ spawn_of (get_or xs i z) ∷ drop (i + 1) p.spawns =
    ap (drop i) (sym e) ∙ drop-cons (map spawn_of xs) i (0, 0) long
    ∙ ap (λ n. n ∷ drop (suc i) (map spawn_of xs)) (get_or-map spawn_of xs i z (0, 0) lt)
    ∙ ap (λ l. spawn_of (get_or xs i z) ∷ drop (suc i) l) e ∙ ap (λ n. spawn_of (get_or xs i z) ∷ drop n p.spawns) one in
    ap spawned_by at ∙ ap (λ n. replicate n (get_or xs i z).coroutine ++ spawned_by (drop (i + 1) p.spawns)) all

-- the next instance
pub next_instance : (n made block : ℕ) (left : List ℕ) → made < n → replicate (n - made) block
    ++ left ≡ block ∷ (replicate (n - (made + 1)) block ++ left)
next_instance n made block left lt = let e : n - made ≡ suc (n - (made + 1)) = omega (arith, lt) in ap (λ m. replicate m block ++ left) e

pub no_instance : (n made block : ℕ) (left : List ℕ) → n ≤ made → replicate (n - made) block ++ left ≡ left
no_instance n made block left le = let e : n - made ≡ 0 = omega (arith, le) in ap (λ m. replicate m block ++ left) e

pub none_left : (p : Program) (xs : List Spawn) (i : ℕ) → map spawn_of xs ≡ p.spawns → length xs ≤ i → spawned_by (drop i p.spawns) ≡ []
none_left p xs i e h = ap spawned_by (all_dropped p.spawns i (omega (arith, h, ap length e, length-map xs spawn_of)))
  where
    all_dropped : (l : List (ℕ × ℕ)) (i : ℕ) → length l ≤ i → drop i l ≡ []
    all_dropped [] zero h = refl
    all_dropped [] (suc i) h = refl
    all_dropped (x ∷ l) zero h = absurd (omega (arith, h))
    all_dropped (x ∷ l) (suc i) h = all_dropped l i (omega (arith, h))

abbrev pub spawning_at : (p : Program) (left more : List ℕ) (j k : Floor) (f : Frame) → left ≡ more → Spawning p left j k f
    → Spawning p more j k f
spawning_at p left more j k f e h = subst (λ l. Spawning p l j k f) e h

both_true : (a b : Bool) → (a && b) ≡ true → (a ≡ true) × (b ≡ true)
both_true true b e = (refl, e)
both_true false b e = cc

-- what the script says of a spawn
spawn_ok : (p : Program) (xs : List Spawn) (i : ℕ) (z : Spawn) → IsProgram p → map spawn_of xs ≡ p.spawns → i < length xs
    → is_spawn (block_names p.blocks) (spawn_of (get_or xs i z)) ≡ true
spawn_ok p xs i z ok e lt =
    let at : slice_get p.spawns i ≡ Some (spawn_of (get_or xs i z)) = ap (λ l. slice_get l i) (sym e) ∙ slice_get-map spawn_of xs i
    ∙ ap (λ o. option_map spawn_of o) (slice_get-get_or xs i z lt) in
    test_at (is_spawn (block_names p.blocks)) p.spawns i _ ok.spawns at

pub spawn_block : (p : Program) (xs : List Spawn) (i : ℕ) (z : Spawn) → IsProgram p → map spawn_of xs ≡ p.spawns → i < length xs
    → (get_or xs i z).coroutine < length p.blocks
spawn_block p xs i z ok e lt =
    let s = get_or xs i z in
    let first : nat_lt s.coroutine (length (block_names p.blocks)) ≡ true =
    (both_true _ _ (both_true _ _ (spawn_ok p xs i z ok e lt)).0).0 in
    let low : s.coroutine < length (block_names p.blocks) = grind (arith, nat_tests) in
    omega (arith, low, length-map p.blocks (λ (b : Block). b.name))

-- a count fits
pub spawn_count : (p : Program) (xs : List Spawn) (i : ℕ) (z : Spawn) → IsProgram p → map spawn_of xs ≡ p.spawns → i < length xs
    → (get_or xs i z).count ≤ 16000
spawn_count p xs i z ok e lt =
    let s = get_or xs i z in
    few s.count (both_true (nat_le 1 s.count) (nat_le s.count 16000) (both_true _ _ (spawn_ok p xs i z ok e lt)).1).1
  where
    few : (n : ℕ) → nat_le n 16000 ≡ true → n ≤ 16000
    few n h = grind (arith, nat_tests)
