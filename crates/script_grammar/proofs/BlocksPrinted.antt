-- The canonical lines of a coroutine say it.
use Rattle.std.proofs.Common.{◌≡◌, ℕ, ◌+◌, ◌<◌, ◌≤◌, List, [], ◌∷◌, ◌++◌, refl, ap, sym, ◌∙◌, arith, Bool, true, false, Option, Some, None, length, if◌then◌else◌, map, subst, length-append, append_assoc, zero, suc, ◌⊎◌, inl, inr}
use Rattle.std.specs.Prelude.{not, is_some, option_map}
use Rattle.std.specs.List.{list_all}
use Rattle.std.proofs.lemmas.List.{map-append, append-nil}
use lib.Chars.{codes}
use Rattle.script_grammar.specs.declared.instructions.Instruction.{Instruction}
use Rattle.script_grammar.specs.declared.instructions.Instruction.TheVariants.{Send, TrySend, Receive, TryReceive, Close, CancelChannel, Yield, Launch, Start, Join, Await, Cancel, Fail}
use Rattle.script_grammar.specs.Words.{has_items}
use Rattle.script_grammar.specs.Programs.{Declared, Block, channel_names, block_names, name_of, places_in}
use Rattle.script_grammar.specs.Lines.{spawn_words, line_words, launch_word}
use Rattle.script_grammar.specs.Blocks.{Open, opened, with_line, fits, is_main, job_given, listed}
use Rattle.script_grammar.specs.Reads.{Read, coroutine_is, spawn_is, line_is, end_is, main_weight, closed_main, spawned_weight}
use Rattle.script_grammar.specs.Grammar.{is_name, is_fresh, names_job, is_spawn, IsClosed, SayAll, IsWithin, FewClauses}
use Rattle.script_grammar.specs.Canonical.{block_lines, blocks_lines}
use Rattle.script_grammar.specs.WellFormed.{name_given, few_clauses, is_within, is_done, lines_fit, with_lines, weight_in, weights_from, blocks_fit}
use Rattle.script_grammar.proofs.Truths.{both_true, lt-from_true, le-from_true, same-from_true}
use Rattle.script_grammar.proofs.DistinctNames.{name_of-front, name_of-last}
use Rattle.script_grammar.proofs.ChannelsPrinted.{SayAll-append, between}
use Rattle.script_grammar.proofs.ProgramsBalanced.{weight_grows}

-- ---- names

-- the first names are those of the other list
abbrev pub Agree : List (List ℕ) → List (List ℕ) → Type 0
Agree names all = (i : ℕ) → i < length names → name_of names i ≡ name_of all i

Agree-front : (names more : List (List ℕ)) → Agree names (names ++ more)
Agree-front names more i h = sym (name_of-front names more i h)

same_lists : (xs ys : List (List ℕ)) → length xs ≡ length ys → Agree xs ys → xs ≡ ys
same_lists [] [] n is = refl
same_lists [] (y ∷ ys) n is = cc
same_lists (x ∷ xs) [] n is = cc
same_lists (x ∷ xs) (y ∷ ys) n is = ap (λ z. z ∷ xs) (is 0 (omega arith))
    ∙ ap (λ zs. y ∷ zs) (same_lists xs ys (omega (arith, n)) (λ i h. is (suc i) (omega (arith, h))))

pub after_all : (names : List (List ℕ)) (j : ℕ) → is_name (name_of names j) ≡ true → j < length names
after_all [] j e = cc
after_all (x ∷ names) zero e = omega arith
after_all (x ∷ names) (suc j) e = omega (arith, after_all names j e)

at_end : (i n : ℕ) → i < n + 1 → (i < n) ⊎ (i ≡ n)
at_end i n h = grind arith

-- the Job names so far, and those of the whole block
pub record AreGiven (given jobs : List (List ℕ)) : Type 0 where
  pub agree : Agree given jobs
  pub few : length given ≤ length jobs

AreGiven-push : (given jobs : List (List ℕ)) → AreGiven given jobs → is_fresh given (name_of jobs (length given)) ≡ true
    → AreGiven (given ++ name_of jobs (length given) ∷ []) jobs
AreGiven-push given jobs is fresh = record {
  agree = λ i h. by_place i (at_end i (length given) (omega (arith, h, length-append given (name_of jobs (length given) ∷ []))));
  few = let n = after_all jobs (length given) (both_true _ _ fresh).0
      in omega (arith, n, length-append given (name_of jobs (length given) ∷ []));
}
  where
    by_place : (i : ℕ) → ((i < length given) ⊎ (i ≡ length given)) → name_of (given ++ name_of jobs (length given) ∷ []) i ≡ name_of jobs i
    by_place i (inl before) = name_of-front given _ i before ∙ is.agree i before
    by_place i (inr last) = ap (name_of (given ++ name_of jobs (length given) ∷ [])) last ∙ name_of-last given (name_of jobs (length given))
        ∙ ap (name_of jobs) (sym last)

AreGiven-line : (given jobs : List (List ℕ)) (o : Option ℕ) → AreGiven given jobs → names_job given o (option_map (name_of jobs) o) ≡ true
    → AreGiven (given ++ listed (option_map (name_of jobs) o)) jobs
AreGiven-line given jobs None is e = subst (λ g. AreGiven g jobs) (sym (append-nil given)) is
AreGiven-line given jobs (Some j) is e =
    let two = both_true _ _ e in
    let same : j ≡ length given = same-from_true j (length given) two.0 in
    subst (λ k. is_fresh given (name_of jobs k) ≡ true → AreGiven (given ++ name_of jobs k ∷ []) jobs) (sym same)
    (λ f. AreGiven-push given jobs is f) two.1

used : (b : Open) (jobs : List (List ℕ)) (j : ℕ) → AreGiven b.jobs jobs → j < length b.jobs → name_of jobs j ≡ name_of (b.jobs ++ []) j
used b jobs j given h = sym (name_of-front b.jobs [] j h ∙ given.agree j h)

-- a line's words are the same with the names so far and with all names
same_words : (cs before all jobs : List (List ℕ)) (n : ℕ) (b : Open) (x : Instruction) → fits n before b x ≡ true
    → names_job b.jobs (job_given x) (name_given jobs x) ≡ true → Agree before all → AreGiven b.jobs jobs
    → line_words (record { channels = cs; blocks = all; jobs = jobs }) x ≡
    line_words (record { channels = cs; blocks = before; jobs = b.jobs ++ listed (name_given jobs x) }) x
same_words cs before all jobs n b (Send c v) h gives blocks given = refl
same_words cs before all jobs n b (TrySend c v) h gives blocks given = refl
same_words cs before all jobs n b (Receive c) h gives blocks given = refl
same_words cs before all jobs n b (TryReceive c) h gives blocks given = refl
same_words cs before all jobs n b (Close c) h gives blocks given = refl
same_words cs before all jobs n b (CancelChannel c) h gives blocks given = refl
same_words cs before all jobs n b Yield h gives blocks given = refl
same_words cs before all jobs n b (Launch p how None) h gives blocks given =
    ap (λ w. launch_word how ∷ w ∷ []) (sym (blocks p (lt-from_true p (length before) (both_true _ _ h).0)))
same_words cs before all jobs n b (Launch p how (Some j)) h gives blocks given =
    let same : j ≡ length b.jobs = same-from_true j (length b.jobs) (both_true _ _ gives).0 in
    let last : name_of jobs j ≡ name_of (b.jobs ++ name_of jobs j ∷ []) j =
    sym (ap (name_of (b.jobs ++ name_of jobs j ∷ [])) same ∙ name_of-last b.jobs (name_of jobs j)) in
    ap (λ w. launch_word how ∷ w ∷ codes "as" ∷ name_of jobs j ∷ []) (sym (blocks p (lt-from_true p (length before) (both_true _ _ h).0)))
    ∙ ap (λ w. launch_word how ∷ name_of before p ∷ codes "as" ∷ w ∷ []) last
same_words cs before all jobs n b (Start j) h gives blocks given =
    ap (λ w. codes "start" ∷ w ∷ []) (used b jobs j given (lt-from_true j (length b.jobs) h))
same_words cs before all jobs n b (Join j) h gives blocks given =
    ap (λ w. codes "join" ∷ w ∷ []) (used b jobs j given (lt-from_true j (length b.jobs) h))
same_words cs before all jobs n b (Await j) h gives blocks given =
    ap (λ w. codes "await" ∷ w ∷ []) (used b jobs j given (lt-from_true j (length b.jobs) (both_true _ _ h).0))
same_words cs before all jobs n b (Cancel j) h gives blocks given =
    ap (λ w. codes "cancel" ∷ w ∷ []) (used b jobs j given (lt-from_true j (length b.jobs) h))
same_words cs before all jobs n b (Fail k) h gives blocks given = refl
same_words cs before all jobs n b other h gives blocks given = refl

-- ---- what the lines of a block come to

with_lines-name : (weights : List ℕ) (jobs : List (List ℕ)) (b : Open) (code : List Instruction)
    → (with_lines weights jobs b code).name ≡ b.name
with_lines-name weights jobs b [] = refl
with_lines-name weights jobs b (x ∷ code) = with_lines-name weights jobs (with_line weights x (name_given jobs x) b) code

with_lines-code : (weights : List ℕ) (jobs : List (List ℕ)) (b : Open) (code : List Instruction)
    → (with_lines weights jobs b code).code ≡ b.code ++ code
with_lines-code weights jobs b [] = sym (append-nil b.code)
with_lines-code weights jobs b (x ∷ code) = with_lines-code weights jobs (with_line weights x (name_given jobs x) b) code
    ∙ append_assoc b.code (x ∷ []) code

main_weight-mono : (name : List ℕ) (v w : ℕ) → v ≤ w → main_weight name v ≤ main_weight name w
main_weight-mono name v w h = by_test (is_main name)
  where
    by_test : (t : Bool) → (if t then v else 0) ≤ (if t then w else 0)
    by_test true = h
    by_test false = omega arith

-- ---- the lines of a block

abbrev pub during : ℕ → List Declared → List Block → List ℕ → Open → Read
during version channels blocks weights b = record {
  version = version;
  channels = channels;
  blocks = blocks;
  spawns = [];
  weights = weights;
  current = Some b;
}

IsWithin-from : (b : Open) → is_within b ≡ true → IsWithin (Some b)
IsWithin-from b e =
    let two = both_true _ _ e in
    let more = both_true _ _ two.1 in
    (le-from_true (length b.nest) 8 two.0, few b.clauses more.0, le-from_true b.weight 16000 more.1)
  where
    few : (o : Option (List ℕ)) → few_clauses o ≡ true → FewClauses o
    few None h = tt
    few (Some cs) h = le-from_true (length cs) 7 h

pub lines_said : (version : ℕ) (channels : List Declared) (done : List Block) (weights : List ℕ) (all jobs : List (List ℕ)) (b : Open)
    (code : List Instruction) →
    length channels ≤ 256 → places_in channels ≤ 4194304 → Agree (block_names done) all → AreGiven b.jobs jobs →
    closed_main done weights + main_weight b.name (with_lines weights jobs b code).weight ≤ 16000 →
    lines_fit (length channels) (block_names done) weights jobs b code ≡ true →
    SayAll (during version channels done weights b) (map (line_words
    (record { channels = channel_names channels; blocks = all; jobs = jobs })) code)
    (during version channels done weights (with_lines weights jobs b code))
    × (is_done jobs (with_lines weights jobs b code) ≡ true)
    × AreGiven (with_lines weights jobs b code).jobs jobs
lines_said version channels done weights all jobs b [] few places blocks given light h = (refl, h, given)
lines_said version channels done weights all jobs b (x ∷ code) few places blocks given light h =
    let next = with_line weights x (name_given jobs x) b in
    let two = both_true _ _ h in
    let more = both_true _ _ two.1 in
    let line = both_true _ _ two.0 in
    let fit = both_true _ _ line.1 in
    let grown = main_weight-mono b.name next.weight (with_lines weights jobs next code).weight (weight_grows weights jobs next code) in
    let rest = lines_said version channels done weights all jobs next code few places blocks
    (AreGiven-line b.jobs jobs (job_given x) given fit.1) light more.1 in (
      (
        line_is x (name_given jobs x),
        (
          b,
          refl,
          same_words (channel_names channels) (block_names done) all jobs (length channels) b x fit.0 fit.1 blocks given,
          line.0,
          fit.0,
          fit.1,
        ),
        record { channels = few; places = places; current = IsWithin-from next more.0; load = omega (arith, light, grown) },
        rest.0,
      ),
      rest.1,
      rest.2,
    )

-- ---- blocks

no_clauses : (o : Option (List ℕ)) → not (is_some o) ≡ true → o ≡ None
no_clauses None e = refl
no_clauses (Some cs) e = cc

no_nest : (nest : List ℕ) → not (has_items nest) ≡ true → nest ≡ []
no_nest [] e = refl
no_nest (n ∷ nest) e = cc

-- a block that is done is closed, and has all names
closed_all : (jobs : List (List ℕ)) (b : Open) → is_done jobs b ≡ true → AreGiven b.jobs jobs → IsClosed b × (b.jobs ≡ jobs)
closed_all jobs b e given =
    let two = both_true _ _ e in
    let more = both_true _ _ two.1 in
    let most : length jobs ≤ length b.jobs = le-from_true (length jobs) (length b.jobs) more.1 in
    ((no_nest b.nest two.0, no_clauses b.clauses more.0), same_lists b.jobs jobs (omega (arith, most, given.few)) given.agree)

pub closed_main-push : (done : List Block) (weights : List ℕ) (b : Block) (w : ℕ) → length weights ≡ length done
    → closed_main (done ++ b ∷ []) (weights ++ w ∷ []) ≡ closed_main done weights + main_weight b.name w
closed_main-push [] [] b w e = omega arith
closed_main-push [] (v ∷ weights) b w e = cc
closed_main-push (c ∷ done) [] b w e = cc
closed_main-push (c ∷ done) (v ∷ weights) b w e = omega (arith, closed_main-push done weights b w (omega (arith, e)))

closed_main-grows : (done rest : List Block) (weights : List ℕ) → length weights ≡ length done
    → closed_main done weights ≤ closed_main (done ++ rest) (weights_from weights rest)
closed_main-grows done [] weights e = omega (arith, ap (λ bs. closed_main bs weights) (append-nil done))
closed_main-grows done (b ∷ rest) weights e =
    let w = weight_in weights b in
    let more = closed_main-grows (done ++ b ∷ []) rest (weights
    ++ w ∷ []) (omega (arith, e, length-append weights (w ∷ []), length-append done (b ∷ []))) in
    omega (
      arith,
      more,
      closed_main-push done weights b w e,
      ap (λ bs. closed_main bs (weights_from (weights ++ w ∷ []) rest)) (append_assoc done (b ∷ []) rest),
    )

block_said : (version : ℕ) (channels : List Declared) (done : List Block) (weights : List ℕ) (all : List (List ℕ)) (b : Block) →
    length channels ≤ 256 → places_in channels ≤ 4194304 → Agree (block_names done) all → length weights ≡ length done →
    closed_main done weights + main_weight b.name (weight_in weights b) ≤ 16000 →
    is_fresh (block_names done) b.name ≡ true →
    lines_fit (length channels) (block_names done) weights b.jobs (opened b.name) b.code ≡ true →
    SayAll (between version channels done weights []) (block_lines (channel_names channels) all b)
    (between version channels (done ++ b ∷ []) (weights ++ weight_in weights b ∷ []) [])
block_said version channels done weights all b few places blocks same light fresh h =
    let open_ = opened b.name in
    let last = with_lines weights b.jobs open_ b.code in
    let grown = main_weight-mono b.name 1 last.weight (weight_grows weights b.jobs open_ b.code) in
    let lines = lines_said version channels done weights all b.jobs open_ b.code few places blocks
    (record { agree = λ i h. absurd (omega (arith, h)); few = omega arith }) light h in
    let end = closed_all b.jobs last lines.1 lines.2 in
    let whole : record { name = last.name; jobs = last.jobs; code = last.code } ≡ b =
    ap (λ n. record { name = n; jobs = last.jobs; code = last.code }) (with_lines-name weights b.jobs open_ b.code)
    ∙ ap (λ js. record { name = b.name; jobs = js; code = last.code }) end.1
    ∙ ap (λ c. record { name = b.name; jobs = b.jobs; code = c }) (with_lines-code weights b.jobs open_ b.code) in (
      coroutine_is b.name,
      (refl, refl, fresh),
      record { channels = few; places = places; current = (omega arith, tt, omega arith); load = omega (arith, light, grown) },
      SayAll-append (during version channels done weights open_) (during version channels done weights last)
          (between version channels (done ++ b ∷ []) (weights ++ weight_in weights b ∷ []) [])
          (map (line_words (record { channels = channel_names channels; blocks = all; jobs = b.jobs })) b.code) ((codes "end" ∷ []) ∷ [])
          lines.0
          (subst (λ c. SayAll (during version channels done weights last) ((codes "end" ∷ []) ∷ [])
          (between version channels (done ++ c ∷ []) (weights ++ weight_in weights b ∷ []) [])) whole (
            end_is,
            (last, refl, refl, end.0),
            record {
              channels = few;
              places = places;
              current = tt;
              load =
                  omega (
                    arith,
                    light,
                    closed_main-push done weights (record { name = last.name; jobs = last.jobs; code = last.code })
                        last.weight same,
                    ap (λ n. main_weight n last.weight) (with_lines-name weights b.jobs open_ b.code),
                  );
            },
            refl,
          )),
    )

Agree-done : (done rest : List Block) (all : List (List ℕ)) → block_names (done ++ rest) ≡ all → Agree (block_names done) all
Agree-done done rest all e = subst (Agree (block_names done)) (sym (map-append (λ (b : Block). b.name) done rest)
    ∙ e) (Agree-front (block_names done) (block_names rest))

pub blocks_said : (version : ℕ) (channels : List Declared) (done rest : List Block) (weights : List ℕ) (all : List (List ℕ)) →
    length channels ≤ 256 → places_in channels ≤ 4194304 → block_names (done ++ rest) ≡ all → length weights ≡ length done →
    closed_main (done ++ rest) (weights_from weights rest) ≤ 16000 →
    blocks_fit (length channels) (block_names done) weights rest ≡ true →
    SayAll (between version channels done weights []) (blocks_lines (channel_names channels) all rest)
    (between version channels (done ++ rest) (weights_from weights rest) [])
blocks_said version channels done [] weights all few places names same light h =
    ap (λ bs. between version channels bs weights []) (sym (append-nil done))
blocks_said version channels done (b ∷ rest) weights all few places names same light h =
    let w = weight_in weights b in
    let two = both_true _ _ h in
    let more = both_true _ _ two.1 in
    let whole : (done ++ b ∷ []) ++ rest ≡ done ++ b ∷ rest = append_assoc done (b ∷ []) rest in
    let long : length (weights ++ w ∷ []) ≡ length (done ++ b ∷ []) =
    omega (arith, same, length-append weights (w ∷ []), length-append done (b ∷ [])) in
    let after_ = closed_main-grows (done ++ b ∷ []) rest (weights ++ w ∷ []) long in
    let total : closed_main ((done ++ b ∷ []) ++ rest) (weights_from (weights ++ w ∷ []) rest) ≤ 16000 =
    omega (arith, light, ap (λ bs. closed_main bs (weights_from (weights ++ w ∷ []) rest)) whole) in
    SayAll-append (between version channels done weights []) (between version channels (done ++ b ∷ []) (weights ++ w ∷ []) [])
    (between version channels (done ++ b ∷ rest) (weights_from (weights ++ w ∷ []) rest) [])
    (block_lines (channel_names channels) all b) (blocks_lines (channel_names channels) all rest)
    (block_said version channels done weights all b few places (Agree-done done (b ∷ rest) all names) same
    (omega (arith, total, after_, closed_main-push done weights b w same)) two.0 more.0)
    (subst (λ bs. SayAll (between version channels (done ++ b ∷ []) (weights ++ w ∷ []) []) (blocks_lines (channel_names channels) all rest)
    (between version channels bs (weights_from (weights ++ w ∷ []) rest) [])) whole
    (blocks_said version channels (done ++ b ∷ []) rest (weights ++ w ∷ []) all few places (ap block_names whole ∙ names) long total
    (subst (λ ns. blocks_fit (length channels) ns (weights ++ w ∷ []) rest ≡ true) (sym (map-append (λ (b : Block). b.name) done (b ∷ [])))
    more.1)))

-- ---- spawns

pub spawned_weight-append : (weights : List ℕ) (xs ys : List (ℕ × ℕ))
    → spawned_weight weights (xs ++ ys) ≡ spawned_weight weights xs + spawned_weight weights ys
spawned_weight-append weights [] ys = omega arith
spawned_weight-append weights (x ∷ xs) ys = omega (arith, spawned_weight-append weights xs ys)

pub spawns_said : (version : ℕ) (channels : List Declared) (blocks : List Block) (weights : List ℕ) (done rest : List (ℕ × ℕ)) →
    length channels ≤ 256 → places_in channels ≤ 4194304 →
    closed_main blocks weights + spawned_weight weights (done ++ rest) ≤ 16000 →
    list_all (is_spawn (block_names blocks)) rest ≡ true →
    SayAll (between version channels blocks weights done) (map (λ s. spawn_words (name_of (block_names blocks) s.0) s.1 true) rest)
    (between version channels blocks weights (done ++ rest))
spawns_said version channels blocks weights done [] few places light h =
    ap (between version channels blocks weights) (sym (append-nil done))
spawns_said version channels blocks weights done (s ∷ rest) few places light h =
    let two = both_true _ _ h in
    let whole : (done ++ s ∷ []) ++ rest ≡ done ++ s ∷ rest = append_assoc done (s ∷ []) rest in
    let total : closed_main blocks weights + spawned_weight weights ((done ++ s ∷ []) ++ rest) ≤ 16000 =
    omega (arith, light, ap (spawned_weight weights) whole) in (
      spawn_is s.0 s.1,
      (true, refl, refl, two.0, refl),
      record {
        channels = few;
        places = places;
        current = tt;
        load =
            omega (arith, total, spawned_weight-append weights (done ++ s ∷ []) rest);
      },
      subst (λ x. SayAll (between version channels blocks weights (done ++ s ∷ []))
          (map (λ s. spawn_words (name_of (block_names blocks) s.0) s.1 true) rest) (between version channels blocks weights x)) whole
          (spawns_said version channels blocks weights (done ++ s ∷ []) rest few places total two.1),
    )
