-- What the lines of a coroutine may rely on.
use Rattle.std.specs.Prelude.{◌≡◌, ℕ, zero, suc, ◌+◌, ◌<◌, ◌≤◌, nat_lt, true, List, [], ◌∷◌, ◌++◌, length, Option, Some, None, slice_get, refl}
use Rattle.std.proofs.Common.{sym, ap, ◌∙◌, subst, arith, get_or}
use Rattle.std.proofs.Math.ListN.{set}
use Rattle.std.proofs.lemmas.Bool.Decides.{nat_tests}
use Rattle.std.proofs.lemmas.Option.{slice_get_within, slice_get-get_or}
use Rattle.channel_model.specs.Floors.{Floor as ChannelFloor, MayCall}
use Rattle.job_model.specs.Trees.{Shape}
use Rattle.job_model.specs.Histories.{Legal}
use Rattle.job_model.specs.Floors.{Floor}
use Rattle.note_book.specs.declared.book.Item.{Item}
use Rattle.call_meaning.specs.Telling.{Told}
use Rattle.call_meaning.specs.Calls.{ToldOnJobs, seen_by}
use Rattle.scope_builders.specs.Calls.{MayBuild, CancelledAll}
use Rattle.script_grammar.specs.declared.instructions.Launching.{Launching}
use Rattle.script_grammar.specs.declared.instructions.Instruction.{Instruction}
use Rattle.script_grammar.specs.declared.instructions.Instruction.TheVariants as line
use Rattle.script_grammar.specs.Blocks.{job_used}
use Rattle.script_grammar.specs.Programs.{Program, Block, shape_of}
use Rattle.script_grammar.specs.Tags.{code_of, code_at, code_of_block, block_of_tag, coroutine_count, size_of}
use Rattle.script_grammar.specs.WellFormed.{IsProgram}
use Rattle.script_grammar.proofs.Declarations.{target-before}
use Rattle.script_grammar.proofs.Layouts.{size_some}
use Rattle.script_meaning.specs.declared.stage.Stage.{Stage}
use Rattle.script_meaning.specs.declared.stage.Stage.TheVariants.{Running}
use Rattle.script_meaning.specs.Shapes.{base_of}
use Rattle.script_meaning.specs.Configs.{Config, IsAt, at_stage, next, set_row, named}
use Rattle.script_meaning.proofs.InsideCode.{at_in_lines}
use Rattle.script_meaning.proofs.NamesKnown.{job_known}
use Rattle.script_meaning.proofs.TagsReached.{launch_room}
use Rattle.poll_states.specs.Frames.{Frame, config_of, items_of, Stands, seen_at, jobs_at}
use Rattle.poll_states.specs.Steps.{IsAtEnd}
use Rattle.poll_states.proofs.Standing.{stands_fits}
use Rattle.poll_states.proofs.FloorsOfScripts.{may_build, may_call}
use Rattle.poll_states.proofs.Standing.{few_coroutines}

-- ---- floors

pub stands_build : (p : Program) (base : ℕ) (c : ChannelFloor) (j : Floor) (f : Frame) → IsProgram p → Stands p c j f → base ≡ base_of p
    → MayBuild base (seen_at c j f)
stands_build p base c j f ok h e = may_build p base (seen_at c j f) ok h.on.channels h.on.jobs h.on.of_channels h.on.of_jobs e

pub stands_call : (p : Program) (c : ChannelFloor) (j : Floor) (f : Frame) (n : ℕ) → Stands p c j f → n < length (shape_of p)
    → MayCall f.tag n c
stands_call p c j f n h lt = may_call p f.tag n c h.on.channels h.on.of_channels lt

-- ---- launches

no_line : {A : Type 0} (i : ℕ) (l : Instruction) → slice_get [] i ≡ Some l → A
no_line zero l h = absurd (let u : ⊥ = cc in u)
no_line (suc i) l h = absurd (let u : ⊥ = cc in u)

-- what is launched is a block of the script
pub launched_block : (p : Program) (tag i block : ℕ) (how : Launching) (job : Option ℕ) → IsProgram p
    → slice_get (code_of p tag) i ≡ Some (line.Launch block how job) → block < length p.blocks
launched_block p tag i block how job ok at = by_tag (block_of_tag p tag) at
  where
    by_block : (n : ℕ) (o : Option Block) → slice_get p.blocks n ≡ o → slice_get (code_of_block o) i ≡ Some (line.Launch block how job)
        → block < length p.blocks
    by_block n None e h = no_line i _ h
    by_block n (Some b) e h =
        let low : nat_lt block n ≡ true = target-before p ok n i b (line.Launch block how job) e h in
        let lt : block < n = grind (arith, nat_tests) in
        let in_list : n < length p.blocks = slice_get_within p.blocks n b e in
        omega (arith, lt, in_list)

    by_tag : (o : Option ℕ) → slice_get (code_at p o) i ≡ Some (line.Launch block how job) → block < length p.blocks
    by_tag None h = no_line i _ h
    by_tag (Some n) h = by_block n (slice_get p.blocks n) refl h

pub free_room : (p : Program) (c : ChannelFloor) (j : Floor) (f : Frame) (block : ℕ) (how : Launching) (job : Option ℕ) → IsProgram p
    → Legal j.shape j.seen → Stands p c j f → IsAt p f.tag (config_of f) (line.Launch block how job)
    → f.free + size_of p block ≤ coroutine_count p
free_room p c j f block how job ok l h at = launch_room p f.tag (seen_by c j) (items_of f) (config_of f) block how job ok h.on.in_run
    (subst (λ s. Legal s j.seen) h.on.jobs l) h.on.runs at

pub free_short : (p : Program) (c : ChannelFloor) (j : Floor) (f : Frame) (block : ℕ) (how : Launching) (job : Option ℕ) → IsProgram p
    → Legal j.shape j.seen → Stands p c j f → IsAt p f.tag (config_of f) (line.Launch block how job) → f.free + size_of p block < 65536
free_short p c j f block how job ok l h at = let room = free_room p c j f block how job ok l h at in let few = few_coroutines p ok
    in omega (arith, room, few)

pub free_row : (p : Program) (c : ChannelFloor) (j : Floor) (f : Frame) (block : ℕ) (how : Launching) (job : Option ℕ) → IsProgram p
    → Legal j.shape j.seen → Stands p c j f → IsAt p f.tag (config_of f) (line.Launch block how job) → f.free < j.shape.coroutines
free_row p c j f block how job ok l h at =
    let room = free_room p c j f block how job ok l h at in
    let some = size_some p block (launched_block p f.tag f.line block how job ok at.line_is) in
    omega (arith, room, some, ap (λ (s : Shape). s.coroutines) h.on.jobs)

-- ---- names

-- the name that its line uses was given
pub knows_name : (p : Program) (c : ChannelFloor) (j : Floor) (f : Frame) (i : Instruction) (job : ℕ) → IsProgram p → Legal j.shape j.seen
    → Stands p c j f → IsAt p f.tag (config_of f) i → job_used i ≡ Some job → job < length f.rows.items
knows_name p c j f i job ok l h at used = job_known p f.tag (seen_by c j) (items_of f) (config_of f) i job ok
    (subst (λ s. Legal s j.seen) h.on.jobs l) h.on.runs (at_in_lines p f.tag (config_of f) i at) at.line_is used

-- a row in the list is written over
pub set_row-inside : (n row : ℕ) (rows : List ℕ) → n < length rows → set_row n row rows ≡ set rows n row
unfolding set_row
set_row-inside zero row [] h = absurd (omega (arith, h))
set_row-inside zero row (r ∷ rows) h = refl
set_row-inside (suc n) row [] h = absurd (omega (arith, h))
set_row-inside (suc n) row (r ∷ rows) h = let shorter : n < length rows = omega (arith, h)
    in ap (λ l. r ∷ l) (set_row-inside n row rows shorter)

-- or appended
pub set_row-outside : (n row : ℕ) (rows : List ℕ) → length rows ≤ n → set_row n row rows ≡ rows ++ row ∷ []
unfolding set_row
set_row-outside zero row [] h = refl
set_row-outside zero row (r ∷ rows) h = absurd (omega (arith, h))
set_row-outside (suc n) row [] h = refl
set_row-outside (suc n) row (r ∷ rows) h = let shorter : length rows ≤ n = omega (arith, h)
    in ap (λ l. r ∷ l) (set_row-outside n row rows shorter)

-- ---- what was told, in a frame that went on

pub note_after : (a b c : List Item) (n : Item) → c ≡ b ++ n ∷ [] → b ≡ a → c ≡ a ++ n ∷ []
note_after a b c n e k = e ∙ ap (λ l. l ++ n ∷ []) k

pub jobs_same : (rows : List ℕ) (j j' : Floor) (w : ℕ) (f g : Frame) (mid : List Item) (told : List Told)
    → ToldOnJobs rows (jobs_at j f) (record { who = w; floor = j'; items = mid }) told → g.tag ≡ f.tag → items_of g ≡ mid
    → ToldOnJobs rows (jobs_at j f) (jobs_at j' g) told
jobs_same rows j j' w f g mid told h t e = record {
  who = t;
  appended = e
      ∙ h.appended;
  added = h.added;
  no_channels = h.no_channels;
  of_jobs = h.of_jobs;
  was_so = h.was_so;
}

pub all_same : (row count : ℕ) (j j' : Floor) (w : ℕ) (f g : Frame) (mid : List Item)
    → CancelledAll row (jobs_at j f) (record { who = w; floor = j'; items = mid }) count → g.tag ≡ f.tag → items_of g ≡ mid
    → CancelledAll row (jobs_at j f) (jobs_at j' g) count
all_same row count j j' w f g mid h t e = record {
  newly = h.newly;
  told = h.told;
  group = h.group;
  noted =
      jobs_same [] j j' w f g mid h.told h.noted t e;
  counted = h.counted;
  all = h.all;
}

-- room for a name changes no name
pub launch_config : (x : Config) (rows : List ℕ) (job : Option ℕ) (size : ℕ) → rows ≡ x.rows
    → next (record x { rows = named job x.free rows; free = x.free + size }) ≡
    next (record x { rows = named job x.free x.rows; free = x.free + size })
launch_config x rows job size e = ap (λ l. next (record x { rows = named job x.free l; free = x.free + size })) e

pub rows_config : (x : Config) (rows : List ℕ) (stage : Stage) → rows ≡ x.rows
    → at_stage stage (record x { rows = rows }) ≡ at_stage stage x
rows_config x rows stage e = ap (λ l. at_stage stage (record x { rows = l })) e

-- ---- lines

-- no line is left where it is past the last
pub at_end : (p : Program) (c : ChannelFloor) (j : Floor) (f : Frame) (code : List Instruction) → Stands p c j f → f.stage ≡ Running
    → code ≡ code_of p f.tag → length code ≤ f.line → IsAtEnd p f
at_end p c j f code h e is le =
    let inside = (stands_fits p c j f h).inside in
    record { running = e; none_left = omega (arith, inside, le, ap (λ (l : List Instruction). length l) is) }

pub at_line : (p : Program) (c : ChannelFloor) (j : Floor) (f : Frame) (code : List Instruction) (l : Instruction) → f.stage ≡ Running
    → code ≡ code_of p f.tag → f.line < length code → IsAt p f.tag (config_of f) (get_or code f.line l)
at_line p c j f code l e is lt = record { stage = e; line_is = ap (λ k. slice_get k f.line) (sym is) ∙ slice_get-get_or code f.line l lt }
