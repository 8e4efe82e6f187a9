-- What a step of the table says of the pass.
use Rattle.std.specs.Prelude.{◌≡◌, ℕ, ◌==◌, ◌<◌, ◌^◌, Bool, true, false, List, [], ◌∷◌, ◌++◌, MatchBool}
use mathlib.Core.Option.{some}
use mathlib.Core.List.{IsPrefix}
use Rattle.std.proofs.Common.{sym, ap, ◌∙◌, subst}
use Rattle.job_model.specs.Trees.{IsShape}
use Rattle.job_model.specs.Histories.{Legal}
use Rattle.job_model.specs.Floors.{HasClaims}
use Rattle.either.specs.declared.Either.{Either}
use Rattle.channel_model.specs.declared.acts.Entry.{Entry}
use Rattle.atomic_table.specs.Seated.{TableId}
use Rattle.atomic_table.specs.declared.shared.Seat.{Seat}
use Rattle.worded.specs.declared.view.View.{View}
use Rattle.worded.specs.Views.{IsIdleSeatOf, SameSeat, has_tag, is_bare, having_seen}
use Rattle.worded.specs.Exchanges.{Loaded, Entered, Exchanged}
use Rattle.worded.proofs.StepsOfSeats as steps
use Rattle.worded.proofs.TagsNotGiven.{by_exchange}
use Rattle.joined_words.specs.Parts.{tags_in}
use Rattle.joined_words.specs.Seen.{view_of}
use Rattle.word_rules.specs.declared.layout.Layout.{Layout}
use Rattle.word_rules.specs.declared.size.ForestSize.{ForestSize}
use Rattle.word_rules.specs.declared.deed.Deed.{Deed}
use Rattle.job_words.specs.declared.forest.Forest.{Forest}
use Rattle.word_rules.specs.Deeds.{shape_of, doer, history_of, IsDone, Fits}
use Rattle.job_words.specs.Passes.{Seen, floor_of, Sees, Does}
use Rattle.job_words.specs.JobParts.{job_part, jobs_in, table_words}
use Rattle.job_words.specs.Meetings.{NothingSeenOf, NothingUngiven}
use Rattle.job_words.proofs.DeedsAddUp.{is_legal}
use Rattle.job_words.proofs.StepsAsCalls.{has_claims}
use Rattle.job_words.proofs.StoreStaysSound.{size_shape}

-- what a seat of the table knows
abbrev pub TableSeen : Type 0
TableSeen = View (Either Entry Deed) (Layout × ForestSize)

abbrev pub TableSeat : Type 0
TableSeat = Seat (Either Entry Deed) TableSeen

done_seen : (size : ForestSize) (v w : Seen) (log : List Deed) → v.key ≡ size → w.seen ≡ log → IsDone (shape_of size) log
    → IsDone (shape_of v.key) w.seen
done_seen size v w log key is h = subst (λ (x : ForestSize × List Deed). IsDone (shape_of x.0) x.1) (λ i. (sym key i, sym is i)) h

pub sees_of : (size : ForestSize) (who word n : ℕ) (v w : Seen) → v.key ≡ size → v.heard_tags ≡ [] → has_tag who v.tags ≡ true
    → IsPrefix v.order w.order → Loaded (IsDone (shape_of size)) (Fits size) doer word n (view_of v) (view_of w)
    → Sees who v w × Fits v.key w.seen word n
sees_of size who word n v w key idle own order l = let s = steps.sees_of idle l in (
  record {
    others = s.others;
    seen = s.now;
    apart = s.apart who own;
    tags = s.tags;
    key = ap (λ (x : View Deed ForestSize). x.key) l.now;
    giving = s.giving;
    order = order;
    idle = ap (λ (x : View Deed ForestSize). x.heard_tags) l.now;
    done = done_seen size v w (v.seen ++ l.others) key (ap (λ (x : View Deed ForestSize). x.seen) l.now) l.added.is_legal;
  },
  subst (λ (k : ForestSize). Fits k w.seen word n) (sym key) (steps.fits_of l),
)

pub does_of : (size : ForestSize) (who word old : ℕ) (d : Deed) (v w : Seen) → v.key ≡ size → v.heard_tags ≡ [] → has_tag who v.tags ≡ true
    → IsPrefix v.order w.order → Entered (IsDone (shape_of size)) (Fits size) doer word old d (view_of v) (view_of w)
    → Does who d word old v w
does_of size who word old d v w key idle own order l = let t = steps.turns_of idle l in record {
  others = t.made.others;
  seen = t.made.now;
  apart = t.made.apart who own;
  tags = t.made.tags;
  key = ap (λ (x : View Deed ForestSize). x.key) l.now;
  giving = t.made.giving;
  order = order;
  idle = ap (λ (x : View Deed ForestSize). x.heard_tags) l.now;
  done = done_seen size v w ((v.seen ++ l.others) ++ d ∷ []) key (ap (λ (x : View Deed ForestSize). x.seen) l.now) l.is_legal;
  found = subst (λ (k : ForestSize). Fits k (v.seen ++ t.made.others) word old) (sym key) t.found;
}

pub told_of : (size : ForestSize) (who word old n : ℕ) (d : Deed) (v w : Seen) → v.key ≡ size → v.heard_tags ≡ []
    → has_tag who v.tags ≡ true → IsPrefix v.order w.order
    → Exchanged (IsDone (shape_of size)) (Fits size) doer word old n (some d) (view_of v) (view_of w)
    → MatchBool (n == old) (Does who d word old v w) (Sees who v w × Fits v.key w.seen word n)
told_of size who word old n d v w key idle own order e = by_test (n == old) e
  where
    by_test : (b : Bool) → MatchBool b (Entered (IsDone (shape_of size)) (Fits size) doer word old d (view_of v) (view_of w))
        (Loaded (IsDone (shape_of size)) (Fits size) doer word n (view_of v) (view_of w))
        → MatchBool b (Does who d word old v w) (Sees who v w × Fits v.key w.seen word n)
    by_test true m = does_of size who word old d v w key idle own order m
    by_test false l = sees_of size who word n v w key idle own order l

-- the pass has the same tags after an exchange
pub tags_told : (size : ForestSize) (word old n : ℕ) (d : Deed) (v w : Seen) → v.heard_tags ≡ []
    → Exchanged (IsDone (shape_of size)) (Fits size) doer word old n (some d) (view_of v) (view_of w) → w.tags ≡ v.tags
tags_told size word old n d v w idle told = by_exchange (IsDone (shape_of size)) (Fits size) doer word old n d (view_of v) (view_of w)
    (w.tags ≡ v.tags)
    (λ m. (steps.turns_of idle m).made.tags) (λ l. (steps.sees_of idle l).tags) told

-- ---- the laws of a pass

-- the law of its history
abbrev pub done_at : ForestSize → List Deed → Type 0
done_at k = IsDone (shape_of k)

pub record PassLaws (w : Seen) : Type 0 where
  pub shaped : IsShape (shape_of w.key)
  pub done : IsDone (shape_of w.key) w.seen
  pub legal : Legal (shape_of w.key) (history_of w.seen)
  pub claimed : HasClaims (floor_of w.key w.tags w.seen w.order)
  pub ungiven : NothingUngiven w

pub pass_laws : (size : ForestSize) (w : Seen) → IsShape (shape_of size) → w.key ≡ size → IsDone (shape_of w.key) w.seen → NothingUngiven w
    → PassLaws w
pass_laws size w s key done ungiven = record {
  shaped = shaped;
  done = done;
  legal = is_legal (shape_of w.key) w.seen done;
  claimed = has_claims w.key w.tags w.seen w.order shaped done;
  ungiven = ungiven;
}
  where
    shaped : IsShape (shape_of w.key)
    shaped = subst (λ (k : ForestSize). IsShape (shape_of k)) (sym key) s

-- by those of its seat
pub laws_of : (f : Forest) (w : Seen) {k : ForestSize} → k ≡ f.size → steps.HasLaws done_at NothingSeenOf k (view_of w) → PassLaws w
laws_of f w is l = pass_laws f.size w (size_shape f.size f.small) (l.key ∙ is) l.legal_seen l.ungiven

-- ---- the table of a forest, as it was lent

-- how many words it has
pub wide_at : (f : Forest) {lent : TableId} {key : Layout × ForestSize} → lent ≡ f.table.value.shared.table_id
    → key ≡ f.table.value.shared.key → (lent.words ≡ table_words key) × (table_words key < 2 ^ 64)
wide_at f i k = (
  ap (λ (x : TableId). x.words) i ∙ f.placed.wide
      ∙ sym (ap table_words k),
  subst (λ (x : Layout × ForestSize). table_words x < 2 ^ 64)
      (sym k) f.placed.few,
)

-- where its rows begin
pub first_at : (f : Forest) {key : Layout × ForestSize} → key ≡ f.table.value.shared.key → f.first ≡ job_part.first key
first_at f k = f.placed.begins ∙ sym (ap job_part.first k)

-- how large it is
pub size_at : (f : Forest) {key : Layout × ForestSize} → key ≡ f.table.value.shared.key → key.1 ≡ f.size
size_at f k = ap (λ (x : Layout × ForestSize). x.1) k ∙ f.placed.same

-- ---- a pass stays one of its forest

-- a seat of the forest's table, which was told nothing that it has not seen
abbrev pub IsSeatAt : Forest → TableSeat → Type 0
IsSeatAt f s = IsIdleSeatOf f.table.value.shared.table_id f.table.value.shared.key s × ((jobs_in s.me.0).key ≡ f.size)
    × ((jobs_in s.me.0).heard_tags ≡ [])

-- a step that goes on with the whole table
pub stays_at : (f : Forest) (s t : TableSeat) → IsSeatAt f s → SameSeat s t → t.me.0.key ≡ s.me.0.key → t.me.0.heard_tags ≡ []
    → IsSeatAt f t
stays_at f s t is same key idle = (
  (same.0 ∙ is.0.0, key ∙ is.0.1, idle, ap is_bare same.2 ∙ is.0.3),
  ap (λ (k : Layout × ForestSize). k.1) key ∙ is.1,
  ap (tags_in 1) idle,
)

-- as a load leaves it
pub seen_at : (f : Forest) (s t : TableSeat) (log : List (Either Entry Deed)) → IsSeatAt f s → SameSeat s t
    → t.me.0 ≡ having_seen s.me.0 log → IsSeatAt f t
seen_at f s t log is same now = stays_at f s t is same (ap (λ (x : TableSeen). x.key) now) (ap (λ (x : TableSeen). x.heard_tags) now)

-- and an exchange
pub exchanged_at : (f : Forest) (s t : TableSeat) (legal : List (Either Entry Deed) → Type 0)
    (fits : List (Either Entry Deed) → ℕ → ℕ → Type 0) (who : Either Entry Deed → ℕ) (word old n : ℕ) (e : Either Entry Deed)
    → IsSeatAt f s → SameSeat s t → Exchanged legal fits who word old n (some e) s.me.0 t.me.0 → IsSeatAt f t
exchanged_at f s t legal fits who word old n e is same told = by_exchange legal fits who word old n e s.me.0 t.me.0 (IsSeatAt f t)
    (λ m. seen_at f s t _ is same m.now) (λ l. seen_at f s t _ is same l.now) told
