-- What a text spells is a program.
use Rattle.std.proofs.Common.{◌≡◌, ℕ, ◌+◌, ◌≤◌, List, [], ◌∷◌, ◌++◌, refl, ap, sym, ◌∙◌, arith, Bool, true, Option, Some, None, length, ◌&&◌, nat_lt, nat_le, subst, length-append, append_assoc, Ok}
use Rattle.std.specs.Prelude.{not, is_some, option_map}
use Rattle.std.specs.List.{list_all}
use Rattle.std.proofs.lemmas.List.{map-append, append-nil}
use Rattle.script_grammar.specs.declared.instructions.Instruction.{Instruction}
use Rattle.script_grammar.specs.declared.instructions.Instruction.TheVariants.{Send, TrySend, Receive, TryReceive, Close, CancelChannel, Each, OnSend, OnReceive}
use Rattle.script_grammar.specs.Words.{has_items}
use Rattle.script_grammar.specs.Programs.{Declared, Block, Program, channel_names, block_names, name_of, places_in}
use Rattle.script_grammar.specs.Blocks.{Open, opened, with_line, stands, fits, is_main, job_given, listed}
use Rattle.script_grammar.specs.Reads.{Read, Form, version_is, channel_is, coroutine_is, spawn_is, line_is, end_is, start, after, closed_main, open_main, spawned_weight, load, program_so_far, closed_block, closed_weight}
use Rattle.script_grammar.specs.Grammar.{is_fresh, names_job, is_declared, is_spawn, IsClosed, Says, SayAll, Spells, IsWithin, FewClauses, Within, has_main}
use Rattle.script_grammar.specs.WellFormed.{name_given, few_clauses, is_within, is_done, line_fits, lines_fit, with_lines, weight_in, weights_from, blocks_fit, all_fresh, IsProgram}
use Rattle.script_grammar.specs.Words.{with_words, lines_of}
use Rattle.script_grammar.specs.Texts.{reading_of}
use Rattle.script_grammar.specs.Canonical.{canonical_text}
use Rattle.script_grammar.proofs.Truths.{both, both_true, lt-true, lt-from_true, le-true, same-from_true}
use Rattle.script_grammar.proofs.DistinctNames.{name_of-front, name_of-last}
use Rattle.script_grammar.proofs.BlocksPrinted.{after_all}
use Rattle.script_grammar.proofs.TextPrinted.{Spells-canonical_text}
use Rattle.script_grammar.proofs.TextsRead.{read-from_Spells}
use Rattle.channel_model.proofs.Elements.{all_push}

-- ---- lists

all_still : {A : Type 0} (test other : A → Bool) (xs : List A) → ((x : A) → test x ≡ true → other x ≡ true) → list_all test xs ≡ true
    → list_all other xs ≡ true
all_still test other [] f e = refl
all_still test other (x ∷ xs) f e = let two = both_true _ _ e in both (other x) _ (f x two.0) (all_still test other xs f two.1)

all_fresh-push : (before names : List (List ℕ)) (name : List ℕ) → all_fresh before names ≡ true → is_fresh (before ++ names) name ≡ true
    → all_fresh before (names ++ name ∷ []) ≡ true
all_fresh-push before [] name e f = both (is_fresh before name) true (ap (λ ns. is_fresh ns name) (sym (append-nil before)) ∙ f) refl
all_fresh-push before (x ∷ names) name e f =
    let two = both_true _ _ e in
    both (is_fresh before x) _ two.0 (all_fresh-push (before
    ++ x ∷ []) names name two.1 (ap (λ ns. is_fresh ns name) (append_assoc before (x ∷ []) names) ∙ f))

pub places_in-push : (cs : List Declared) (c : Declared) → places_in (cs ++ c ∷ []) ≡ places_in cs + c.places
places_in-push [] c = omega arith
places_in-push (d ∷ cs) c = omega (arith, places_in-push cs c)

-- ---- more channels

lt-more : (c n m : ℕ) → n ≤ m → nat_lt c n ≡ true → nat_lt c m ≡ true
lt-more c n m h e = let low = lt-from_true c n e in lt-true c m (omega (arith, h, low))

fits-more : (n m : ℕ) (blocks : List (List ℕ)) (b : Open) (x : Instruction) → n ≤ m → fits n blocks b x ≡ true → fits m blocks b x ≡ true
fits-more n m blocks b (Send c v) h e = let two = both_true _ _ e in both (nat_lt c m) _ (lt-more c n m h two.0) two.1
fits-more n m blocks b (TrySend c v) h e = let two = both_true _ _ e in both (nat_lt c m) _ (lt-more c n m h two.0) two.1
fits-more n m blocks b (Receive c) h e = lt-more c n m h e
fits-more n m blocks b (TryReceive c) h e = lt-more c n m h e
fits-more n m blocks b (Close c) h e = lt-more c n m h e
fits-more n m blocks b (CancelChannel c) h e = lt-more c n m h e
fits-more n m blocks b (Each c) h e = lt-more c n m h e
fits-more n m blocks b (OnSend c v) h e = let two = both_true _ _ e in both (nat_lt c m) _ (lt-more c n m h two.0) two.1
fits-more n m blocks b (OnReceive c) h e = let two = both_true _ _ e in both (nat_lt c m) _ (lt-more c n m h two.0) two.1
fits-more n m blocks b other h e = e

line_fits-more : (n m : ℕ) (blocks : List (List ℕ)) (b : Open) (x : Instruction) (job : Option (List ℕ)) → n ≤ m
    → line_fits n blocks b x job ≡ true → line_fits m blocks b x job ≡ true
line_fits-more n m blocks b x job h e =
    let two = both_true _ _ e in
    let more = both_true _ _ two.1 in
    both (stands b.clauses b.nest x) _ two.0 (both (fits m blocks b x) _ (fits-more n m blocks b x h more.0) more.1)

lines_fit-more : (n m : ℕ) (blocks : List (List ℕ)) (weights : List ℕ) (jobs : List (List ℕ)) (b : Open) (code : List Instruction) → n ≤ m
    → lines_fit n blocks weights jobs b code ≡ true → lines_fit m blocks weights jobs b code ≡ true
lines_fit-more n m blocks weights jobs b [] h e = e
lines_fit-more n m blocks weights jobs b (x ∷ code) h e =
    let two = both_true _ _ e in
    let more = both_true _ _ two.1 in
    both (line_fits m blocks b x (name_given jobs x)) _ (line_fits-more n m blocks b x (name_given jobs x) h two.0)
    (both (is_within (with_line weights x (name_given jobs x) b)) _ more.0
    (lines_fit-more n m blocks weights jobs (with_line weights x (name_given jobs x) b) code h more.1))

blocks_fit-more : (n m : ℕ) (before : List (List ℕ)) (weights : List ℕ) (bs : List Block) → n ≤ m → blocks_fit n before weights bs ≡ true
    → blocks_fit m before weights bs ≡ true
blocks_fit-more n m before weights [] h e = e
blocks_fit-more n m before weights (b ∷ bs) h e =
    let two = both_true _ _ e in
    let more = both_true _ _ two.1 in
    both (is_fresh before b.name) _ two.0
    (both (lines_fit m before weights b.jobs (opened b.name) b.code) _
    (lines_fit-more n m before weights b.jobs (opened b.name) b.code h more.0)
    (blocks_fit-more n m (before ++ b.name ∷ []) (weights ++ weight_in weights b ∷ []) bs h more.1))

-- ---- one block more

blocks_fit-push : (n : ℕ) (before : List (List ℕ)) (weights : List ℕ) (bs : List Block) (b : Block) → blocks_fit n before weights bs ≡ true
    → is_fresh (before ++ block_names bs) b.name ≡ true → lines_fit n (before
    ++ block_names bs) (weights_from weights bs) b.jobs (opened b.name) b.code ≡ true → blocks_fit n before weights (bs ++ b ∷ []) ≡ true
blocks_fit-push n before weights [] b e fresh fit =
    let same : before ++ [] ≡ before = append-nil before in
    both (is_fresh before b.name) _ (ap (λ ns. is_fresh ns b.name) (sym same) ∙ fresh)
    (both (lines_fit n before weights b.jobs (opened b.name) b.code) true
    (ap (λ ns. lines_fit n ns weights b.jobs (opened b.name) b.code) (sym same) ∙ fit) refl)
blocks_fit-push n before weights (c ∷ bs) b e fresh fit =
    let two = both_true _ _ e in
    let more = both_true _ _ two.1 in
    let same : (before ++ c.name ∷ []) ++ block_names bs ≡ before
    ++ block_names (c ∷ bs) = append_assoc before (c.name ∷ []) (block_names bs) in
    let w = weights ++ weight_in weights c ∷ [] in
    both (is_fresh before c.name) _ two.0
    (both (lines_fit n before weights c.jobs (opened c.name) c.code) _ more.0
    (blocks_fit-push n (before ++ c.name ∷ []) w bs b more.1 (ap (λ ns. is_fresh ns b.name) same
    ∙ fresh) (ap (λ ns. lines_fit n ns (weights_from w bs) b.jobs (opened b.name) b.code) same ∙ fit)))

weights_from-push : (weights : List ℕ) (bs : List Block) (b : Block) → weights_from weights (bs ++ b ∷ []) ≡ weights_from weights bs
    ++ weight_in (weights_from weights bs) b ∷ []
weights_from-push weights [] b = refl
weights_from-push weights (c ∷ bs) b = weights_from-push (weights ++ weight_in weights c ∷ []) bs b

is_spawn-more : (names : List (List ℕ)) (name : List ℕ) (s : ℕ × ℕ) → is_spawn names s ≡ true → is_spawn (names ++ name ∷ []) s ≡ true
is_spawn-more names name s e =
    let two = both_true _ _ e in
    let target = both_true _ _ two.0 in
    let low = lt-from_true s.0 (length names) target.0 in
    both _ _ (both (nat_lt s.0 (length (names ++ name ∷ []))) _
    (lt-true s.0 (length (names ++ name ∷ [])) (omega (arith, low, length-append names (name ∷ []))))
    (ap (λ n. not (is_main n)) (name_of-front names (name ∷ []) s.0 low) ∙ target.1)) two.1

-- ---- one line more

abbrev pub lines_stand : ℕ → List (List ℕ) → List ℕ → List (List ℕ) → Open → List Instruction → Bool
lines_stand n blocks weights jobs b [] = true
lines_stand n blocks weights jobs b (x ∷ code) =
    line_fits n blocks b x (name_given jobs x)
    && (is_within (with_line weights x (name_given jobs x) b)
    && lines_stand n blocks weights jobs (with_line weights x (name_given jobs x) b) code)

given_same : (given jobs more : List (List ℕ)) (o : Option ℕ) → names_job given o (option_map (name_of jobs) o) ≡ true
    → option_map (name_of (jobs ++ more)) o ≡ option_map (name_of jobs) o
given_same given jobs more None e = refl
given_same given jobs more (Some j) e = ap (λ n. Some n)
    (name_of-front jobs more j (after_all jobs j (both_true _ _ (both_true _ _ e).1).0))

lines_stand-jobs : (n : ℕ) (blocks : List (List ℕ)) (weights : List ℕ) (jobs more : List (List ℕ)) (b : Open) (code : List Instruction)
    → lines_stand n blocks weights jobs b code ≡ true → (lines_stand n blocks weights (jobs ++ more) b code ≡ true)
    × (with_lines weights (jobs ++ more) b code ≡ with_lines weights jobs b code)
lines_stand-jobs n blocks weights jobs more b [] e = (refl, refl)
lines_stand-jobs n blocks weights jobs more b (x ∷ code) e =
    let two = both_true _ _ e in
    let rest = both_true _ _ two.1 in
    let same : name_given (jobs ++ more) x ≡ name_given jobs x =
    given_same b.jobs jobs more (job_given x) (both_true _ _ (both_true _ _ two.0).1).1 in
    let next = lines_stand-jobs n blocks weights jobs more (with_line weights x (name_given jobs x) b) code rest.1 in (
      ap (λ g. line_fits n blocks b x g && (is_within (with_line weights x g b)
          && lines_stand n blocks weights (jobs ++ more) (with_line weights x g b) code)) same
          ∙ both (line_fits n blocks b x (name_given jobs x)) _ two.0
          (both (is_within (with_line weights x (name_given jobs x) b)) _ rest.0 next.0),
      ap (λ g. with_lines weights (jobs ++ more) (with_line weights x g b) code) same ∙ next.1,
    )

lines_stand-push : (n : ℕ) (blocks : List (List ℕ)) (weights : List ℕ) (jobs : List (List ℕ)) (b : Open) (code : List Instruction)
    (x : Instruction) → lines_stand n blocks weights jobs b code ≡ true
    → line_fits n blocks (with_lines weights jobs b code) x (name_given jobs x) ≡ true
    → is_within (with_line weights x (name_given jobs x) (with_lines weights jobs b code)) ≡ true
    → (lines_stand n blocks weights jobs b (code ++ x ∷ []) ≡ true)
    × (with_lines weights jobs b (code ++ x ∷ []) ≡ with_line weights x (name_given jobs x) (with_lines weights jobs b code))
lines_stand-push n blocks weights jobs b [] x e fit within = (
  both (line_fits n blocks b x (name_given jobs x)) _ fit
      (both (is_within (with_line weights x (name_given jobs x) b)) true within refl),
  refl,
)
lines_stand-push n blocks weights jobs b (y ∷ code) x e fit within =
    let two = both_true _ _ e in
    let rest = both_true _ _ two.1 in
    let next = lines_stand-push n blocks weights jobs (with_line weights y (name_given jobs y) b) code x rest.1 fit within in (
      both (line_fits n blocks b y (name_given jobs y)) _ two.0
          (both (is_within (with_line weights y (name_given jobs y) b)) _ rest.0 next.0),
      next.1,
    )

lines_fit-from : (n : ℕ) (blocks : List (List ℕ)) (weights : List ℕ) (jobs : List (List ℕ)) (b : Open) (code : List Instruction)
    → lines_stand n blocks weights jobs b code ≡ true → is_done jobs (with_lines weights jobs b code) ≡ true
    → lines_fit n blocks weights jobs b code ≡ true
lines_fit-from n blocks weights jobs b [] e done = done
lines_fit-from n blocks weights jobs b (x ∷ code) e done =
    let two = both_true _ _ e in
    let rest = both_true _ _ two.1 in
    both (line_fits n blocks b x (name_given jobs x)) _ two.0
    (both (is_within (with_line weights x (name_given jobs x) b)) _ rest.0
    (lines_fit-from n blocks weights jobs (with_line weights x (name_given jobs x) b) code rest.1 done))

-- ---- what the lines so far keep

pub record IsOpen (n : ℕ) (blocks : List (List ℕ)) (weights : List ℕ) (b : Open) : Type 0 where
  pub fresh : is_fresh blocks b.name ≡ true
  pub lines : lines_stand n blocks weights b.jobs (opened b.name) b.code ≡ true
  pub same : with_lines weights b.jobs (opened b.name) b.code ≡ b

abbrev pub IsCurrent : ℕ → List (List ℕ) → List ℕ → Option Open → Type 0
IsCurrent n blocks weights None = Unit {0}
IsCurrent n blocks weights (Some b) = IsOpen n blocks weights b

pub record IsSound (s : Read) : Type 0 where
  pub version : (nat_le 1 s.version && nat_le s.version 2) ≡ true
  pub few_channels : length s.channels ≤ 256
  pub names : all_fresh [] (channel_names s.channels) ≡ true
  pub channels : list_all (is_declared s.version) s.channels ≡ true
  pub few_places : places_in s.channels ≤ 4194304
  pub blocks : blocks_fit (length s.channels) [] [] s.blocks ≡ true
  pub weights : s.weights ≡ weights_from [] s.blocks
  pub spawns : list_all (is_spawn (block_names s.blocks)) s.spawns ≡ true
  pub current : IsCurrent (length s.channels) (block_names s.blocks) s.weights s.current
  pub load : load s ≤ 16000

pub IsSound-start : IsSound start
IsSound-start = record {
  version = refl;
  few_channels = omega arith;
  names = refl;
  channels = refl;
  few_places = omega arith;
  blocks = refl;
  weights = refl;
  spawns = refl;
  current = tt;
  load = omega arith;
}

IsSound-second : IsSound (after version_is start)
IsSound-second = record {
  version = refl;
  few_channels = omega arith;
  names = refl;
  channels = refl;
  few_places = omega arith;
  blocks =
      refl;
  weights = refl;
  spawns = refl;
  current = tt;
  load = omega arith;
}

within-true : (b : Open) → IsWithin (Some b) → is_within b ≡ true
within-true b h = both (nat_le (length b.nest) 8) _ (le-true (length b.nest) 8 h.0)
    (both (few_clauses b.clauses) _ (few b.clauses h.1) (le-true b.weight 16000 h.2))
  where
    few : (o : Option (List ℕ)) → FewClauses o → few_clauses o ≡ true
    few None h = refl
    few (Some cs) h = le-true (length cs) 7 h

-- the name that a line is told to give is that of its number
name_given-last : (jobs : List (List ℕ)) (o : Option ℕ) (job : Option (List ℕ)) → names_job jobs o job ≡ true
    → option_map (name_of (jobs ++ listed job)) o ≡ job
name_given-last jobs None None e = refl
name_given-last jobs None (Some name) e = cc
name_given-last jobs (Some j) None e = cc
name_given-last jobs (Some j) (Some name) e = ap (λ n. Some n)
    (ap (name_of (jobs ++ name ∷ [])) (same-from_true j (length jobs) (both_true _ _ e).0) ∙ name_of-last jobs name)

IsOpen-line : (n : ℕ) (blocks : List (List ℕ)) (weights : List ℕ) (b : Open) (x : Instruction) (job : Option (List ℕ))
    → IsOpen n blocks weights b → stands b.clauses b.nest x ≡ true → fits n blocks b x ≡ true → names_job b.jobs (job_given x) job ≡ true
    → IsWithin (Some (with_line weights x job b)) → IsOpen n blocks weights (with_line weights x job b)
IsOpen-line n blocks weights b x job is may fit gives within =
    let jobs = b.jobs ++ listed job in
    let old = lines_stand-jobs n blocks weights b.jobs (listed job) (opened b.name) b.code is.lines in
    let named : name_given jobs x ≡ job = name_given-last b.jobs (job_given x) job gives in
    let here : with_lines weights jobs (opened b.name) b.code ≡ b = old.1 ∙ is.same in
    let fitting : line_fits n blocks b x job ≡ true = both (stands b.clauses b.nest x) _ may (both (fits n blocks b x) _ fit gives) in
    let new = lines_stand-push n blocks weights jobs (opened b.name) b.code x old.0
    (ap (λ c. line_fits n blocks c x (name_given jobs x)) here ∙ ap (λ g. line_fits n blocks b x g) named ∙ fitting)
    (ap (λ c. is_within (with_line weights x (name_given jobs x) c)) here ∙ ap (λ g. is_within (with_line weights x g b)) named
    ∙ within-true (with_line weights x job b) within) in
    record {
      fresh = is.fresh;
      lines = new.0;
      same = new.1 ∙ ap (λ c. with_line weights x (name_given jobs x) c) here
          ∙ ap (λ g. with_line weights x g b) named;
    }

current_line : (n : ℕ) (blocks : List (List ℕ)) (weights : List ℕ) (o : Option Open) (b : Open) (x : Instruction) (job : Option (List ℕ))
    → o ≡ Some b → IsCurrent n blocks weights o → stands b.clauses b.nest x ≡ true → fits n blocks b x ≡ true
    → names_job b.jobs (job_given x) job ≡ true → IsWithin (option_map (with_line weights x job) o)
    → IsCurrent n blocks weights (option_map (with_line weights x job) o)
current_line n blocks weights None b x job e is may fit gives within = tt
current_line n blocks weights (Some c) b x job e is may fit gives within =
    let same : b ≡ c = cc in
    IsOpen-line n blocks weights c x job is (ap (λ (d : Open). stands d.clauses d.nest x) (sym same)
    ∙ may) (ap (λ d. fits n blocks d x) (sym same) ∙ fit) (ap (λ (d : Open). names_job d.jobs (job_given x) job) (sym same)
    ∙ gives) within

is_done-from : (b : Open) → IsClosed b → is_done b.jobs b ≡ true
is_done-from b is = both (not (has_items b.nest)) _ (ap (λ l. not (has_items l)) is.0)
    (both (not (is_some b.clauses)) _ (ap (λ o. not (is_some o)) is.1) (le-true (length b.jobs) (length b.jobs) (omega arith)))

-- the block that an open one becomes
abbrev closing : Open → Block
closing b = record { name = b.name; jobs = b.jobs; code = b.code }

IsSound-end : (s : Read) (b : Open) → IsSound s → s.current ≡ Some b → IsClosed b → Within (after end_is s) → IsSound (after end_is s)
IsSound-end s b is e closed within =
    let opened_ : IsOpen (length s.channels) (block_names s.blocks) s.weights b =
    subst (IsCurrent (length s.channels) (block_names s.blocks) s.weights) e is.current in
    let ws = weights_from [] s.blocks in
    let fit : lines_fit (length s.channels) (block_names s.blocks) s.weights b.jobs (opened b.name) b.code ≡ true =
    lines_fit-from (length s.channels) (block_names s.blocks) s.weights b.jobs (opened b.name) b.code opened_.lines
    (ap (is_done b.jobs) opened_.same ∙ is_done-from b closed) in
    let weight : b.weight ≡ weight_in ws (closing b) = sym (ap (λ v. (with_lines v b.jobs (opened b.name) b.code).weight) (sym is.weights)
    ∙ ap (λ (c : Open). c.weight) opened_.same) in
    record {
      version = is.version;
      few_channels = is.few_channels;
      names = is.names;
      channels = is.channels;
      few_places = is.few_places;
      blocks = ap (λ o. blocks_fit (length s.channels) [] [] (s.blocks ++ closed_block o)) e
          ∙ blocks_fit-push (length s.channels) [] [] s.blocks (closing b) is.blocks opened_.fresh
          (ap (λ v. lines_fit (length s.channels) (block_names s.blocks) v b.jobs (opened b.name) b.code) (sym is.weights) ∙ fit);
      weights = ap (λ o. s.weights ++ closed_weight o) e
          ∙ ap (λ v. v ++ b.weight ∷ []) is.weights
          ∙ ap (λ w. ws ++ w ∷ []) weight
          ∙ sym (weights_from-push [] s.blocks (closing b))
          ∙ ap (λ o. weights_from [] (s.blocks ++ closed_block o)) (sym e);
      spawns = ap (λ o. list_all (is_spawn (block_names (s.blocks ++ closed_block o))) s.spawns) e
          ∙ ap (λ ns. list_all (is_spawn ns) s.spawns) (map-append (λ (c : Block). c.name) s.blocks (closing b ∷ []))
          ∙ all_still (is_spawn (block_names s.blocks)) (is_spawn (block_names s.blocks ++ b.name ∷ [])) s.spawns
          (is_spawn-more (block_names s.blocks) b.name) is.spawns;
      current = tt;
      load = within.load;
    }

IsSound-after : (s : Read) (words : List (List ℕ)) (f : Form) → IsSound s → Says s words f → Within (after f s) → IsSound (after f s)
IsSound-after s words version_is is says within = subst (λ t. IsSound (after version_is t)) (sym says.0) IsSound-second
IsSound-after s words (channel_is c) is says within = record {
  version = is.version;
  few_channels = within.channels;
  names = ap (all_fresh []) (map-append (λ (d : Declared). d.name) s.channels (c ∷ []))
      ∙ all_fresh-push [] (channel_names s.channels) c.name is.names says.4;
  channels = all_push (is_declared s.version) s.channels c is.channels says.5;
  few_places = within.places;
  blocks = blocks_fit-more (length s.channels) (length (s.channels ++ c ∷ [])) [] [] s.blocks
      (omega (arith, length-append s.channels (c ∷ []))) is.blocks;
  weights = is.weights;
  spawns = is.spawns;
  current = subst (IsCurrent (length (s.channels ++ c ∷ [])) (block_names s.blocks) s.weights) (sym says.2) tt;
  load = within.load;
}
IsSound-after s words (coroutine_is p) is says within = record {
  version = is.version;
  few_channels = is.few_channels;
  names = is.names;
  channels = is.channels;
  few_places = is.few_places;
  blocks = is.blocks;
  weights = is.weights;
  spawns = is.spawns;
  current = record { fresh = says.2; lines = refl; same = refl };
  load = within.load;
}
IsSound-after s words (spawn_is i n) is says within = record {
  version = is.version;
  few_channels = is.few_channels;
  names = is.names;
  channels = is.channels;
  few_places = is.few_places;
  blocks = is.blocks;
  weights = is.weights;
  spawns = all_push (is_spawn (block_names s.blocks)) s.spawns (i, n) is.spawns says.3;
  current = subst (IsCurrent (length s.channels) (block_names s.blocks) s.weights) (sym says.1) tt;
  load = within.load;
}
IsSound-after s words (line_is x job) is says within = record {
  version = is.version;
  few_channels = is.few_channels;
  names = is.names;
  channels = is.channels;
  few_places = is.few_places;
  blocks = is.blocks;
  weights = is.weights;
  spawns = is.spawns;
  current = current_line (length s.channels) (block_names s.blocks) s.weights s.current says.0 x job says.1 is.current says.3 says.4 says.5
      within.current;
  load = within.load;
}
IsSound-after s words end_is is says within = IsSound-end s says.0 is says.1 says.3 within

pub IsSound-all : (s : Read) (lines : List (List (List ℕ))) (t : Read) → IsSound s → SayAll s lines t → IsSound t
IsSound-all s [] t is said = subst IsSound said is
IsSound-all s (words ∷ more) t is said = IsSound-all (after said.0 s) more t (IsSound-after s words said.0 is said.1 said.2) said.3

pub IsProgram-from_sound : (s : Read) → IsSound s → s.current ≡ None → has_main s.blocks ≡ true → IsProgram (program_so_far s)
IsProgram-from_sound s is out main = record {
  version = is.version;
  few_channels = is.few_channels;
  channel_names = is.names;
  channels = is.channels;
  few_places = is.few_places;
  blocks = is.blocks;
  main = main;
  spawns = is.spawns;
  load = omega (arith, is.load, ap open_main out, ap (closed_main s.blocks) is.weights, ap (λ w. spawned_weight w s.spawns) is.weights);
}

-- what a text spells is a program
pub IsProgram-from_Spells : (bytes : List ℕ) (p : Program) → Spells bytes p → IsProgram p
IsProgram-from_Spells bytes p is = subst IsProgram is.program
    (IsProgram-from_sound is.last (IsSound-all start (with_words (lines_of bytes)) is.last IsSound-start is.said) is.closed is.main)

-- what is printed of a program is read as that program
pub read-canonical_text : (p : Program) → IsProgram p → length (canonical_text p) ≤ 1048576 → reading_of (canonical_text p) ≡ Ok p
read-canonical_text p is short = read-from_Spells (canonical_text p) p (Spells-canonical_text p is short)
