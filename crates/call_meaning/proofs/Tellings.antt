-- How what was told grows: later histories, earlier bounds, and one call after another.
use Rattle.std.specs.Prelude.{◌≡◌, ℕ, List, [], ◌∷◌, ◌++◌, refl}
use Rattle.std.proofs.Common.{sym, subst, append_assoc}
use Rattle.channel_model.specs.Channels.{Shape}
use Rattle.channel_model.proofs.Spans.{nothing_more, prefix_then}
use Rattle.job_model.proofs.Spans as jobs
use Rattle.note_book.specs.declared.book.Item.{Item}
use Rattle.call_meaning.specs.Telling.{Told, note, items_in}
use Rattle.call_meaning.specs.Stories.{Moment, IsBy, Story, IsTrue, with_told}

pub by_then : (a b c : Moment) → IsBy a b → IsBy b c → IsBy a c
by_then a b c p q = record {
  channels = prefix_then a.channels b.channels c.channels p.channels q.channels;
  jobs =
      jobs.prefix_then a.jobs b.jobs c.jobs p.jobs q.jobs;
}

abbrev pub story_of : Shape → ℕ → Moment → Story
story_of shape k now = record { shape = shape; tag = k; now = now }

-- what was true is true of longer histories
pub true_later : (shape : Shape) (k : ℕ) (now later : Moment) (items : List Item) (earlier : Moment) (told : List Told) → IsBy now later
    → IsTrue (story_of shape k now) items earlier told → IsTrue (story_of shape k later) items earlier told
unfolding IsTrue
true_later shape k now later items earlier [] b t = tt
true_later shape k now later items earlier (x ∷ told) b (at, so, rest) = (
  at,
  record {
    not_before = so.not_before;
    not_after = by_then at now later so.not_after b;
    channel_acts = so.channel_acts;
    job_acts =
        so.job_acts;
    holds = so.holds;
  },
  true_later shape k now later (with_told x items) at told b rest,
)

-- and with an earlier bound
pub true_sooner : (s : Story) (items : List Item) (earliest earlier : Moment) (told : List Told) → IsBy earliest earlier
    → IsTrue s items earlier told → IsTrue s items earliest told
unfolding IsTrue
true_sooner s items earliest earlier [] b t = tt
true_sooner s items earliest earlier (x ∷ told) b (at, so, rest) = (
  at,
  record {
    not_before = by_then earliest earlier at b so.not_before;
    not_after = so.not_after;
    channel_acts = so.channel_acts;
    job_acts =
        so.job_acts;
    holds = so.holds;
  },
  rest,
)

items_then : (x : Told) (items : List Item) (told : List Told) → with_told x items ++ items_in told ≡ items ++ items_in (x ∷ told)
unfolding items_in
items_then (note i) items told = append_assoc items (i ∷ []) (items_in told)
items_then other items told = refl

-- one call after another: the second is told of moments not before the histories at which the first returned
pub true_then : (shape : Shape) (k : ℕ) (between now : Moment) (items : List Item) (earlier : Moment) (xs ys : List Told)
    → IsBy earlier between → IsBy between now → IsTrue (story_of shape k between) items earlier xs
    → IsTrue (story_of shape k now) (items ++ items_in xs) between ys → IsTrue (story_of shape k now) items earlier (xs ++ ys)
unfolding IsTrue items_in
true_then shape k between now items earlier [] ys b c t u =
    true_sooner (story_of shape k now) items earlier between ys b
    (subst (λ l. IsTrue (story_of shape k now) l between ys) (nothing_more items) u)
true_then shape k between now items earlier (x ∷ xs) ys b c (at, so, rest) u = (
  at,
  record {
    not_before = so.not_before;
    not_after = by_then at between now so.not_after c;
    channel_acts = so.channel_acts;
    job_acts =
        so.job_acts;
    holds = so.holds;
  },
  true_then shape k between now (with_told x items) at xs ys so.not_after c rest
      (subst (λ l. IsTrue (story_of shape k now) l between ys) (sym (items_then x items xs)) u),
)
