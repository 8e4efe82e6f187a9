use Rattle.std.proofs.Common.{◌≡◌, ℕ, ◌*◌, ◌<◌, ◌++◌, List, sym, ap, ◌∙◌, subst, arith, append-nil}
use Rattle.worded.specs.declared.view.View.{View}
use Rattle.worded.specs.Histories.{entries_of}
use Rattle.worded.proofs.StepsOfSeats.{laws_loaded, still_own}
use Rattle.joined_words.specs.Parts.{tags_in}
use Rattle.word_rules.specs.declared.layout.Layout.{Layout}
use Rattle.word_rules.specs.declared.size.ForestSize.{ForestSize}
use Rattle.word_rules.specs.declared.deed.Deed.{Deed}
use Rattle.word_rules.specs.Deeds.{word_count, doer}
use Rattle.job_words.specs.JobParts.{jobs_in}
use Rattle.job_words.specs.Meetings.{NothingSeenOf}
use Rattle.job_words.proofs.PassesMeet.{nothing_of, nothing_seen_of}
use Rattle.job_words.proofs.StepsOfATable.{wide_at, first_at, size_at, done_at, laws_of, seen_at}
use Rattle.job_words.proofs.forest.Forest.pass.Goals as goal

pub load_in-requires-clause-table : goal.load_in-requires-clause-table
load_in-requires-clause-table c = wide_at c.args.self.now (ap (λ x. x.shared.table_id) c.deref.ensures)
    (ap (λ x. x.shared.key) c.deref.ensures)

pub load_in-requires-clause-word : goal.load_in-requires-clause-word
load_in-requires-clause-word c =
    let f = c.args.self.now in
    let k = ap (λ x. x.shared.key) c.deref.ensures in (
      first_at f k,
      subst (λ (s : ForestSize). 0 < word_count s) (sym (size_at f k))
          (let s = f.small.some in let t = f.small.fit in omega (arith, s, t)),
    )

pub invariant_of-result : goal.invariant_of-result
invariant_of-result c =
    let f = c.args.self.now in
    let k = ap (λ x. x.shared.key) c.deref.ensures in
    let l = laws_of f (jobs_in c.load_in.new.seat.me.0) (size_at f k)
    (laws_loaded done_at doer NothingSeenOf nothing_seen_of (ap (λ (s : Layout × ForestSize). s.1) (c.requires.seat.1 ∙ sym k))
    c.load_in.ensures.loaded) in
    record { shaped = l.shaped; done = l.done; legal = l.legal; claimed = l.claimed; ungiven = l.ungiven }

pub returns-clause-of : goal.returns-clause-of
returns-clause-of c =
    let f = c.args.self.now in
    seen_at f c.args.seat c.load_in.new.seat _
    (c.requires.seat, ap (λ (k : Layout × ForestSize). k.1) c.requires.seat.1 ∙ f.placed.same, ap (tags_in 1) c.requires.seat.2)
    c.load_in.ensures.same c.load_in.ensures.whole.now

pub returns-clause-tags : goal.returns-clause-tags
returns-clause-tags c =
    let v = jobs_in c.args.seat.me.0 in
    ap (λ (x : View Deed ForestSize). x.tags) c.load_in.ensures.loaded.now
    ∙ ap (λ (l : List ℕ). v.tags ++ l) (ap (tags_in 1) c.requires.seat.2) ∙ append-nil v.tags

pub returns-clause-none : goal.returns-clause-none
returns-clause-none c t own none =
    let v = jobs_in c.args.seat.me.0 in
    let w = jobs_in c.load_in.new.seat.me.0 in
    let l = c.load_in.ensures.loaded in
    nothing_of w.key w.tags t w.seen w.order
    (laws_loaded done_at doer NothingSeenOf nothing_seen_of
    (ap (λ (k : Layout × ForestSize). k.1) (c.requires.seat.1 ∙ sym (ap (λ x. x.shared.key) c.deref.ensures))) l).legal_seen
    (ap (λ (x : View Deed ForestSize). entries_of doer t x.seen) l.now ∙ still_own doer t v.seen l.others (l.added.apart t own) ∙ none)
