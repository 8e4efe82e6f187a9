-- What the run of a script by one worker comes to.
use Rattle.std.specs.Prelude.{◌≡◌, ℕ, ◌+◌, ◌≤◌, ◌<◌, List, [], ◌∷◌, ◌++◌, length, take, Option, Some, None, refl}
use lib.Chars.{codes}
use Rattle.std.proofs.Common.{arith, sym, ap, ◌∙◌, subst, ⊎_elim}
use Rattle.std.proofs.Math.Nat.{min-le_left}
use Rattle.std.proofs.lemmas.Bool.Decides.{leb_tells}
use Rattle.std.proofs.lemmas.List.{length-append, length-take}
use Rattle.clap.proofs.OnLiterals.{clap_on_literals}
use Rattle.command_line.specs.Commands.{alone, command_of}
use Rattle.command_line.specs.declared.words.Command.{Command}
use Rattle.command_line.specs.declared.words.Command.TheVariants.{Run}
use Rattle.command_line.specs.declared.status.Ending.{Ending}
use Rattle.command_line.specs.declared.status.Ending.TheVariants as ending
use Rattle.command_line.specs.declared.status.Status.{Status}
use Rattle.command_line.specs.declared.status.Status.TheVariants as status
use Rattle.command_line.specs.Statuses.{Means, Ran, ServesInput, number_of, status_of, stream, Stream}
use Rattle.jisthrom_c.specs.Calls.{Answers, Says, Leaves, IsWritten}

-- ---- the words

-- the words ask for a run by one worker
asks_for_one : alone (command_of (codes "run" ∷ codes "--workers" ∷ codes "1" ∷ [])) ≡ Some (Run 1)
unfolding clap_on_literals
asks_for_one = refl

-- ---- what is read

-- what a source gave that had the first bytes of a script: all of them
read_whole : (script input left : List ℕ) → take 1048577 script ≡ input ++ left → (length input ≤ 1048576 → left ≡ [])
    → input ≡ take 1048577 script
read_whole script input left given all = by_left left refl
  where
    -- how many bytes there are at most
    bound : length input + length left ≤ 1048577
    bound =
        let e : length (take 1048577 script) ≡ length (input ++ left) = ap (λ (l : List ℕ). length l) given in
        omega (arith, length-take 1048577 script, length-append input left, min-le_left 1048577 (length script), e)

    nothing : (xs : List ℕ) → xs ++ [] ≡ xs
    nothing [] = refl
    nothing (x ∷ xs) = ap (λ l. x ∷ l) (nothing xs)

    ends : left ≡ [] → input ≡ take 1048577 script
    ends e = sym (given ∙ ap (λ l. input ++ l) e ∙ nothing input)

    by_left : (l : List ℕ) → left ≡ l → input ≡ take 1048577 script
    by_left [] e = ends e
    by_left (x ∷ xs) e = ends (all (let more : length left ≡ length (x ∷ xs) = ap (λ (l : List ℕ). length l) e
        in omega (arith, more, bound)))

-- ---- the status of the call

-- the streams of the call, by what the source has left and what the sink holds
abbrev source_with : List ℕ → Stream
source_with left = stream (Some left) 0

abbrev sink_with : List ℕ → ℕ → Stream
sink_with held faults = stream (Some held) faults

answers : (how : Ending) (script left held : List ℕ)
    → (h : ServesInput (Ran how) (source_with (take 1048577 script)) (source_with left) (λ text. held ≡ [] ++ text))
    → Answers how script held
answers how script left held h =
    subst (λ (l : List ℕ). Ran how l held) (read_whole script h.input left h.given h.all)
    (subst (λ (l : List ℕ). Ran how h.input l) (sym h.taken) h.answers)

-- a number that is at most 4 is that of an ending, and the sink then holds the text that answers the script
by_status : (s : Status) (n : ℕ) (script left held : List ℕ) (f g : ℕ) → n ≡ number_of s → n ≤ 4
    → Means s (Some (Run 1)) (source_with (take 1048577 script)) (source_with left) (sink_with [] f) (sink_with held g)
    → (how : Ending) × (n ≡ number_of (status_of how)) × Answers how script held
by_status status.Completed n script left held f g e low m = (ending.Completed, e, answers ending.Completed script left held m)
by_status status.Cancelled n script left held f g e low m = (ending.Cancelled, e, answers ending.Cancelled script left held m)
by_status status.Refused n script left held f g e low m = (let x : Some (Run 1) ≡ None = m in cc)
by_status status.NoScript n script left held f g e low m = (ending.NoScript, e, answers ending.NoScript script left held m)
by_status status.Unfinished n script left held f g e low m = (ending.Unfinished, e, answers ending.Unfinished script left held m)
by_status status.ReadFault n script left held f g e low m = (let x : n ≡ 5 = e in let no : ⊥ = omega (arith, x, low) in absurd no)
by_status status.WriteFault n script left held f g e low m = (let x : n ≡ 6 = e in let no : ⊥ = omega (arith, x, low) in absurd no)
by_status status.NoMemory n script left held f g e low m = (let x : n ≡ 7 = e in let no : ⊥ = omega (arith, x, low) in absurd no)

-- the same, of words that are those of a run by one worker, of a source over the front of the script and of an empty sink
pub runs_to : (s : Status) (n : ℕ) (words : List (List ℕ)) (script left left' held held' : List ℕ) (f g : ℕ)
    → words ≡ codes "run" ∷ codes "--workers" ∷ codes "1" ∷ [] → left ≡ take 1048577 script → held ≡ []
    → n ≡ number_of s → n ≤ 4
    → Means s (alone (command_of words)) (source_with left) (source_with left') (sink_with held f) (sink_with held' g)
    → (how : Ending) × (n ≡ number_of (status_of how)) × Answers how script held'
runs_to s n words script left left' held held' f g w l h e low m =
    by_status s n script left' held' f g e low
    (subst (λ (x : List ℕ). Means s (Some (Run 1)) (source_with (take 1048577 script)) (source_with left') (sink_with x f)
    (sink_with held' g)) h
    (subst (λ (x : List ℕ). Means s (Some (Run 1)) (source_with x) (source_with left') (sink_with held f) (sink_with held' g)) l
    (subst (λ (x : Option Command). Means s x (source_with left) (source_with left') (sink_with held f) (sink_with held' g))
    (ap (λ (x : List (List ℕ)). alone (command_of x)) w ∙ asks_for_one) m)))

-- ---- what is handed over

-- what the call says, by the number and the text of the run
pub says : (how : Ending) (n : ℕ) (script text before after : List ℕ) (size result : ℕ) → n ≡ number_of (status_of how)
    → Answers how script text → Leaves n text before after size result
    → (s : Status) × (result ≡ number_of s) × Says s script before after size
says how n script text before after size result e a h =
    ⊎_elim (λ r. by_how how e a r.1) (λ r. by_room r.1) (leb_tells (length text) (length before))
  where
    written : (fits : length text ≤ length before) → IsWritten text before after
    written fits = record { fits = fits; written = (h.fits fits).1 }

    by_how : (how : Ending) → n ≡ number_of (status_of how) → Answers how script text → length text ≤ length before
        → (s : Status) × (result ≡ number_of s) × Says s script before after size
    by_how ending.Completed e a fits = (
      status.Completed,
      (h.fits fits).0
          ∙ e,
      record { text = text; size = h.size; answers = a; written = written fits },
    )
    by_how ending.Cancelled e a fits = (
      status.Cancelled,
      (h.fits fits).0
          ∙ e,
      record { text = text; size = h.size; answers = a; written = written fits },
    )
    by_how ending.Unfinished e a fits = (
      status.Unfinished,
      (h.fits fits).0
          ∙ e,
      record { text = text; size = h.size; answers = a; written = written fits },
    )
    by_how ending.NoScript e a fits = (
      status.NoScript,
      (h.fits fits).0
          ∙ e,
      record { text = text; size = h.size; answers = a; written = written fits },
    )

    by_room : length before < length text → (s : Status) × (result ≡ number_of s) × Says s script before after size
    by_room longer = (
      status.WriteFault,
      (h.longer longer).0,
      record { how = how; text = text; size = h.size; answers = a; longer = longer; same = (h.longer longer).1 },
    )

-- where there was no memory
pub says_nothing : (script old : List ℕ) → (s : Status) × (7 ≡ number_of s) × Says s script old old 0
says_nothing script old = (status.NoMemory, refl, record { same = refl; size = refl })
