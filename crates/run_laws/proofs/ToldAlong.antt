-- What is told by one who alone makes entries is told along one order, in which its own acts come as it noted them.
use Rattle.std.specs.Prelude.{◌≡◌, ℕ, ◌+◌, List, [], ◌∷◌, ◌++◌, length, take}
use Rattle.std.proofs.Common.{ap, sym, ◌∙◌, subst, append_assoc, arith, length-append}
use Rattle.std.proofs.lemmas.List.{append-nil}
use mathlib.Core.List.{IsPrefix}
use Rattle.channel_model.specs.declared.acts.Act.{Act}
use Rattle.channel_model.specs.Channels.{Shape}
use Rattle.channel_model.specs.Histories.{replay, acts_of}
use Rattle.channel_model.specs.Floors.{entries_by}
use Rattle.channel_model.proofs.Histories.{acts_of-append}
use Rattle.job_model.specs.declared.acts.JobAct.{JobAct}
use Rattle.job_model.specs.Histories.{replay as replay_jobs, acts_of as job_acts_of}
use Rattle.job_model.specs.Floors.{entries_by as job_entries_by}
use Rattle.job_model.proofs.Histories.{acts_of-append as job_acts_of-append}
use Rattle.note_book.specs.declared.book.Item.{Item}
use Rattle.note_book.specs.Items.{channel_acts_in, job_acts_in}
use Rattle.note_book.proofs.Appended.{channel_acts_in-append, job_acts_in-append}
use Rattle.call_meaning.specs.Telling.{Told, note, items_in}
use Rattle.call_meaning.specs.Facts.{ToldHolds}
use Rattle.call_meaning.specs.Stories.{Moment, IsBy, IsTrue, story_of}
use Rattle.co_base.specs.Orders.{Side, channel_entries_in, job_entries_in}
use Rattle.call_meaning.specs.Orders.{IsOrderOf, IsSoAlong, IsTrueAlong}
use Rattle.call_meaning.proofs.OrderCounts.{channel_entries_in-append, job_entries_in-append, sides_of, sides_of-append, channel_entries_in-sides_of, job_entries_in-sides_of}
use Rattle.run_laws.proofs.OwnMoments.{known_by, calls_are_all, jobs_are_all}
use Rattle.call_meaning.proofs.Tellings.{by_then}

-- k, whose book this was, added these acts to both histories, and nobody else added any
module _ (shape : Shape) (k : ℕ) (old now : Moment) (order : List Side) (book : List Item) (acts : List Act) (job_acts : List JobAct)
    (whole : IsOrderOf old order) (calls : now.channels ≡ old.channels ++ entries_by k acts)
    (jobs : now.jobs ≡ old.jobs ++ job_entries_by k job_acts) (mine : acts_of k old.channels ≡ channel_acts_in book)
    (my_jobs : job_acts_of k old.jobs ≡ job_acts_in book) where
  -- the moment at which it had noted so much
  calls_there : (done : List Item) (at : Moment) → IsBy old at → IsBy at now → acts_of k at.channels ≡ channel_acts_in (book ++ done)
      → take (channel_entries_in (order ++ sides_of done)) now.channels ≡ at.channels
  calls_there done at b c e =
      let split : length (channel_acts_in (book ++ done)) ≡ length (channel_acts_in book ++ channel_acts_in done)
      = ap length (channel_acts_in-append book done) in
      let sum = length-append (channel_acts_in book) (channel_acts_in done) in
      let there : length (acts_of k at.channels) ≡ length (channel_acts_in (book ++ done)) = ap length e in
      let before : length (acts_of k old.channels) ≡ length (channel_acts_in book) = ap length mine in
      let sides = channel_entries_in-append order (sides_of done) in
      let done_sides = channel_entries_in-sides_of done in
      let first = whole.channels in
      let number : channel_entries_in (order ++ sides_of done) ≡ length old.channels + length (channel_acts_in done)
      = omega (arith, sides, done_sides, first) in
      let counted : length (acts_of k at.channels) ≡ length (acts_of k old.channels) + length (channel_acts_in done)
      = omega (arith, split, sum, there, before) in
      ap (λ m. take m now.channels) number
      ∙ known_by acts_of acts_of-append k (length (channel_acts_in done)) old.channels at.channels now.channels (entries_by k acts)
      (calls_are_all k acts) calls b.channels c.channels counted

  jobs_there : (done : List Item) (at : Moment) → IsBy old at → IsBy at now → job_acts_of k at.jobs ≡ job_acts_in (book ++ done)
      → take (job_entries_in (order ++ sides_of done)) now.jobs ≡ at.jobs
  jobs_there done at b c e =
      let split : length (job_acts_in (book ++ done)) ≡ length (job_acts_in book ++ job_acts_in done)
      = ap length (job_acts_in-append book done) in
      let sum = length-append (job_acts_in book) (job_acts_in done) in
      let there : length (job_acts_of k at.jobs) ≡ length (job_acts_in (book ++ done)) = ap length e in
      let before : length (job_acts_of k old.jobs) ≡ length (job_acts_in book) = ap length my_jobs in
      let sides = job_entries_in-append order (sides_of done) in
      let done_sides = job_entries_in-sides_of done in
      let first = whole.jobs in
      let number : job_entries_in (order ++ sides_of done) ≡ length old.jobs + length (job_acts_in done)
      = omega (arith, sides, done_sides, first) in
      let counted : length (job_acts_of k at.jobs) ≡ length (job_acts_of k old.jobs) + length (job_acts_in done)
      = omega (arith, split, sum, there, before) in
      ap (λ m. take m now.jobs) number
      ∙ known_by job_acts_of job_acts_of-append k (length (job_acts_in done)) old.jobs at.jobs now.jobs (job_entries_by k job_acts)
      (jobs_are_all k job_acts) jobs b.jobs c.jobs counted

  so_along : (done more : List Item) (x : Told) (earlier at : Moment) (before : List Side) → IsBy old at → IsBy at now
      → acts_of k at.channels ≡ channel_acts_in (book ++ done) → job_acts_of k at.jobs ≡ job_acts_in (book ++ done)
      → ToldHolds shape x (replay at.channels) (replay_jobs at.jobs) → IsPrefix before (order ++ sides_of done)
      → IsSoAlong (story_of shape k now) (order ++ sides_of (done ++ more)) (book ++ done) before x (order ++ sides_of done)
  so_along done more x earlier at before b c acts_so jobs_so holds pre =
      let c_there = calls_there done at b c acts_so in
      let j_there = jobs_there done at b c jobs_so in
      record {
        not_before = pre;
        not_after = (
          sides_of more,
          append_assoc order (sides_of done) (sides_of more)
              ∙ ap (λ l. order ++ l) (sym (sides_of-append done more)),
        );
        channel_acts = ap (acts_of k) c_there ∙ acts_so;
        job_acts = ap (job_acts_of k) j_there ∙ jobs_so;
        holds = subst (λ l. ToldHolds shape x (replay l) (replay_jobs (take (job_entries_in (order ++ sides_of done)) now.jobs)))
            (sym c_there)
            (subst (λ l. ToldHolds shape x (replay at.channels) (replay_jobs l)) (sym j_there) holds);
      }

  -- what was true at moments is true along the order of what was noted
  pub told_along : (done : List Item) (told : List Told) (earlier : Moment) (before : List Side) → IsBy old earlier
      → IsPrefix before (order ++ sides_of done) → IsTrue (story_of shape k now) (book ++ done) earlier told
      → IsTrueAlong (story_of shape k now) (order ++ sides_of (done ++ items_in told)) (book ++ done) before told
  unfolding IsTrue IsTrueAlong items_in
  told_along done [] earlier before b pre t = tt
  told_along done (note i ∷ more) earlier before b pre (at, so, rest) =
      let after = by_then old earlier at b so.not_before in
      let here = so_along done (i ∷ items_in more) (note i) earlier at before after so.not_after so.channel_acts so.job_acts so.holds pre in
      let book_then : (book ++ done) ++ i ∷ [] ≡ book ++ (done ++ i ∷ []) = append_assoc book done (i ∷ []) in
      let on : IsPrefix (order ++ sides_of done) (order ++ sides_of (done ++ i ∷ [])) = (
        sides_of (i ∷ []),
        append_assoc order (sides_of done) (sides_of (i ∷ [])) ∙ ap (λ l. order ++ l) (sym (sides_of-append done (i ∷ []))),
      ) in
      let tail = told_along (done ++ i ∷ []) more at (order ++ sides_of done) after on
      (subst (λ l. IsTrue (story_of shape k now) l at more) book_then rest) in (
        order ++ sides_of done,
        here,
        subst (λ l. IsTrueAlong (story_of shape k now) (order ++ sides_of (done ++ i ∷ items_in more)) l (order ++ sides_of done) more)
            (sym book_then)
            (subst (λ l. IsTrueAlong (story_of shape k now) (order ++ sides_of l) (book ++ (done ++ i ∷ [])) (order ++ sides_of done) more)
            (append_assoc done (i ∷ []) (items_in more)) tail),
      )
  told_along done (other ∷ more) earlier before b pre (at, so, rest) =
      let after = by_then old earlier at b so.not_before in (
        order ++ sides_of done,
        so_along done (items_in more) other earlier at before after so.not_after so.channel_acts so.job_acts so.holds pre,
        told_along done more at (order ++ sides_of done) after ([], append-nil (order ++ sides_of done)) rest,
      )
