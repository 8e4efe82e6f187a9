-- A text spells one program at most.
use Rattle.std.proofs.Common.{◌≡◌, ℕ, List, [], ◌∷◌, ◌++◌, refl, ap, sym, ◌∙◌, arith, Result, Ok, Err, Bool, true, Option, Some, None, length, subst}
use Rattle.std.specs.Prelude.{option_map}
use Rattle.std.proofs.lemmas.List.{map-append}
use Rattle.std.specs.Fmt.{decimal}
use lib.Chars.{codes}
use Rattle.script_grammar.specs.declared.fault.FaultKind.{FaultKind}
use Rattle.script_grammar.specs.declared.fault.FaultKind.TheVariants as kinds
use Rattle.channel_model.specs.declared.acts.Kind.{Kind}
use Rattle.script_grammar.specs.declared.instructions.Instruction.{Instruction}
use Rattle.script_grammar.specs.Words.{lines_of, with_words}
use Rattle.script_grammar.specs.Verbs.{verb_of}
use Rattle.script_grammar.specs.Faults.{◌>>=◌}
use Rattle.script_grammar.specs.Programs.{Declared, Block, Program, channel_names, block_names, name_of}
use Rattle.script_grammar.specs.Lines.{part, kind_words, version_words, channel_words, coroutine_words, spawn_words, line_words}
use Rattle.script_grammar.specs.Blocks.{Open, with_line, job_given, listed}
use Rattle.script_grammar.specs.Reads.{Read, Form, version_is, channel_is, coroutine_is, spawn_is, line_is, end_is, start, after, names_for, closed_block, program_so_far}
use Rattle.script_grammar.specs.Grammar.{is_fresh, names_job, is_declared, has_capacity, has_number, is_spawn, IsClosed, Says, SayAll, Spells}
use Rattle.script_grammar.specs.Places.{end_at, places_at, count_at, kind_at, other_than_main}
use Rattle.script_grammar.specs.Forms.{outside, ending, form_at}
use Rattle.script_grammar.proofs.Truths.{both_true, not_true, lt-from_true}
use Rattle.script_grammar.proofs.DistinctNames.{Distinct, Distinct-push}
use Rattle.script_grammar.proofs.PlacesRead.{new_again, known_again, other_again, places_again, count_again, kind_again}
use Rattle.script_grammar.proofs.LinesRead.{Named, words_form, line_again, some_given}

-- ---- names are distinct, line by line

abbrev pub IsNamed : List Block → Option Open → Type 0
IsNamed blocks None = Unit {0}
IsNamed blocks (Some b) = Distinct b.jobs × (is_fresh (block_names blocks) b.name ≡ true)

pub record AreNamed (s : Read) : Type 0 where
  pub channels : Distinct (channel_names s.channels)
  pub blocks : Distinct (block_names s.blocks)
  pub current : IsNamed s.blocks s.current

none_yet : Distinct []
none_yet i h = absurd (omega (arith, h))

pub AreNamed-start : AreNamed start
AreNamed-start = record { channels = none_yet; blocks = none_yet; current = tt }

more_channels : (cs : List Declared) (c : Declared) → Distinct (channel_names cs) → is_fresh (channel_names cs) c.name ≡ true
    → Distinct (channel_names (cs ++ c ∷ []))
more_channels cs c is fresh = subst Distinct (sym (map-append (λ (d : Declared). d.name) cs (c ∷ [])))
    (Distinct-push (channel_names cs) c.name is fresh)

more_blocks : (bs : List Block) (b : Block) → Distinct (block_names bs) → is_fresh (block_names bs) b.name ≡ true
    → Distinct (block_names (bs ++ b ∷ []))
more_blocks bs b is fresh = subst Distinct (sym (map-append (λ (d : Block). d.name) bs (b ∷ [])))
    (Distinct-push (block_names bs) b.name is fresh)

more_jobs : (jobs : List (List ℕ)) (o : Option ℕ) (job : Option (List ℕ)) → Distinct jobs → names_job jobs o job ≡ true
    → Distinct (jobs ++ listed job)
more_jobs jobs o None is gives = subst Distinct (sym (no_more jobs)) is
  where
    no_more : (xs : List (List ℕ)) → xs ++ [] ≡ xs
    no_more [] = refl
    no_more (x ∷ xs) = ap (λ l. x ∷ l) (no_more xs)
more_jobs jobs o (Some name) is gives = Distinct-push jobs name is (some_given jobs o name gives).1

line_named : (blocks : List Block) (weights : List ℕ) (o : Option Open) (b : Open) (x : Instruction) (job : Option (List ℕ)) → o ≡ Some b
    → IsNamed blocks o → names_job b.jobs (job_given x) job ≡ true → IsNamed blocks (option_map (with_line weights x job) o)
line_named blocks weights None b x job e is gives = tt
line_named blocks weights (Some c) b x job e is gives =
    let same : c ≡ b = cc in
    (more_jobs c.jobs (job_given x) job is.0 (ap (λ (d : Open). names_job d.jobs (job_given x) job) same ∙ gives), is.1)

end_named : (blocks : List Block) (o : Option Open) → Distinct (block_names blocks) → IsNamed blocks o
    → Distinct (block_names (blocks ++ closed_block o))
end_named blocks None is named = subst Distinct (ap block_names (sym (no_more blocks))) is
  where
    no_more : (xs : List Block) → xs ++ [] ≡ xs
    no_more [] = refl
    no_more (x ∷ xs) = ap (λ l. x ∷ l) (no_more xs)
end_named blocks (Some b) is named = more_blocks blocks (record { name = b.name; jobs = b.jobs; code = b.code }) is named.1

pub AreNamed-after : (s : Read) (words : List (List ℕ)) (f : Form) → AreNamed s → Says s words f → AreNamed (after f s)
AreNamed-after s words version_is is says = record { channels = is.channels; blocks = is.blocks; current = is.current }
AreNamed-after s words (channel_is c) is says = record {
  channels = more_channels s.channels c is.channels says.4;
  blocks = is.blocks;
  current = is.current;
}
AreNamed-after s words (coroutine_is p) is says = record { channels = is.channels; blocks = is.blocks; current = (none_yet, says.2) }
AreNamed-after s words (spawn_is i n) is says = record { channels = is.channels; blocks = is.blocks; current = is.current }
AreNamed-after s words (line_is x job) is says = record
    { channels = is.channels; blocks = is.blocks; current = line_named s.blocks s.weights s.current says.0 x job says.1 is.current says.5 }
AreNamed-after s words end_is is says = record {
  channels = is.channels;
  blocks = end_named s.blocks s.current is.blocks is.current;
  current = tt;
}

-- ---- what the words of a line are read as

abbrev pub read_words : Read → Option Open → List (List ℕ) → Result Form FaultKind
read_words s o [] = Err kinds.UnknownWord
read_words s o (word ∷ rest) = form_at s o word rest

opens : (s : Read) (b : Open) (words : List (List ℕ)) → read_words s (Some b) words ≡ words_form s b b.clauses words
opens s b [] = refl
opens s b (word ∷ rest) = refl

version_again : (s : Read) → s ≡ start → read_words s s.current version_words ≡ Ok version_is
unfolding outside
version_again s is = subst (λ (t : Read). read_words t t.current version_words ≡ Ok version_is) (sym is) refl

channel_again : (s : Read) (c : Declared) (capacity places : Bool) → AreNamed s → is_fresh (channel_names s.channels) c.name ≡ true
    → is_declared s.version c ≡ true → has_capacity c.kind capacity ≡ true → has_number 16384 c.places places ≡ true
    → read_words s None (channel_words c capacity places) ≡ Ok (channel_is c)
unfolding outside
channel_again s c capacity places is fresh declared has number =
    let more = part places (codes "places" ∷ decimal c.places ∷ []) in
    let two = both_true _ _ declared in
    ap (λ (r : Result (List ℕ × List (List ℕ)) FaultKind). r >>= λ n. kind_at s.version n.1 >>= λ k. places_at k.1 >>= λ p. end_at p.1 >>=
    λ u. Ok (channel_is (record { name = n.0; kind = k.0; places = p.0 })))
    (new_again (channel_names s.channels) c.name (kind_words c.kind capacity ++ more) fresh)
    ∙ ap (λ (r : Result (Kind × List (List ℕ)) FaultKind). r >>= λ k. places_at k.1 >>= λ p. end_at p.1 >>=
    λ u. Ok (channel_is (record { name = c.name; kind = k.0; places = p.0 })))
    (kind_again s.version c.kind capacity places (decimal c.places) two.0 has)
    ∙ ap (λ (r : Result (ℕ × List (List ℕ)) FaultKind). r >>= λ p. end_at p.1 >>=
    λ u. Ok (channel_is (record { name = c.name; kind = c.kind; places = p.0 }))) (places_again places c.places two.1 number)

coroutine_again : (s : Read) (p : List ℕ) → is_fresh (block_names s.blocks) p ≡ true
    → read_words s None (coroutine_words p) ≡ Ok (coroutine_is p)
unfolding outside
coroutine_again s p fresh = ap (λ (r : Result (List ℕ × List (List ℕ)) FaultKind). r >>= λ n. end_at n.1 >>= λ u. Ok (coroutine_is n.0))
    (new_again (block_names s.blocks) p [] fresh)

spawn_again : (s : Read) (i n : ℕ) (count : Bool) → AreNamed s → is_spawn (block_names s.blocks) (i, n) ≡ true → has_number 1 n count ≡ true
    → read_words s None (spawn_words (name_of (block_names s.blocks) i) n count) ≡ Ok (spawn_is i n)
unfolding outside
spawn_again s i n count is spawn number =
    let name = name_of (block_names s.blocks) i in
    let more = part count (decimal n ∷ []) in
    let two = both_true _ _ spawn in
    let target = both_true _ _ two.0 in
    ap (λ (r : Result (ℕ × List (List ℕ)) FaultKind). r >>= λ b. other_than_main (name ∷ more) >>= λ o. count_at b.1 >>= λ k. end_at k.1 >>=
    λ u. Ok (spawn_is b.0 k.0)) (known_again (block_names s.blocks) i more is.blocks
    (lt-from_true i (length (block_names s.blocks)) target.0))
    ∙ ap (λ (r : Result (Unit {0}) FaultKind). r >>= λ o. count_at more >>= λ k. end_at k.1 >>= λ u. Ok (spawn_is i k.0))
    (other_again name more (not_true _ target.1))
    ∙ ap (λ (r : Result (ℕ × List (List ℕ)) FaultKind). r >>= λ k. end_at k.1 >>= λ u. Ok (spawn_is i k.0))
    (count_again count n two.1 number)

end_again : (s : Read) (b : Open) → IsClosed b → words_form s b b.clauses (codes "end" ∷ []) ≡ Ok end_is
unfolding verb_of
end_again s b is = ap (λ o. words_form s b o (codes "end" ∷ [])) is.1 ∙ ap (λ n. ending n []) is.0

pub of_current : (s : Read) (b : Open) → AreNamed s → s.current ≡ Some b → Named s b
of_current s b is e = record { channels = is.channels; blocks = is.blocks; jobs = (subst (IsNamed s.blocks) e is.current).0 }

pub form_again : (s : Read) (words : List (List ℕ)) (f : Form) → AreNamed s → Says s words f → read_words s s.current words ≡ Ok f
form_again s words version_is is says = ap (read_words s s.current) says.1 ∙ version_again s says.0
form_again s words (channel_is c) is says = ap (read_words s s.current) says.3
    ∙ ap (λ o. read_words s o (channel_words c says.0 says.1)) says.2 ∙ channel_again s c says.0 says.1 is says.4 says.5 says.6 says.7
form_again s words (coroutine_is p) is says = ap (read_words s s.current) says.1 ∙ ap (λ o. read_words s o (coroutine_words p)) says.0
    ∙ coroutine_again s p says.2
form_again s words (spawn_is i n) is says = ap (read_words s s.current) says.2
    ∙ ap (λ o. read_words s o (spawn_words (name_of (block_names s.blocks) i) n says.0)) says.1 ∙ spawn_again s i n says.0 is says.3 says.4
form_again s words (line_is x job) is says =
    let b = says.0 in
    let ws = line_words (names_for s b job) x in
    ap (read_words s s.current) says.2 ∙ ap (λ o. read_words s o ws) says.1 ∙ opens s b ws
    ∙ line_again s b x job (of_current s b is says.1) says.3 says.4 says.5
form_again s words end_is is says = ap (read_words s s.current) says.2 ∙ ap (λ o. read_words s o (codes "end" ∷ [])) says.1
    ∙ opens s says.0 (codes "end" ∷ []) ∙ end_again s says.0 says.3

-- ---- uniqueness

form_is : (f g : Form) (r : Result Form FaultKind) → r ≡ Ok f → r ≡ Ok g → f ≡ g
form_is f g r d e = cc

-- the words of a line say one thing at most
pub said_once : (s : Read) (words : List (List ℕ)) (f g : Form) → AreNamed s → Says s words f → Says s words g → f ≡ g
said_once s words f g is d e = form_is f g (read_words s s.current words) (form_again s words f is d) (form_again s words g is e)

-- and so do those of all lines
pub all_said_once : (s : Read) (lines : List (List (List ℕ))) (t u : Read) → AreNamed s → SayAll s lines t → SayAll s lines u → t ≡ u
all_said_once s [] t u is d e = sym d ∙ e
all_said_once s (words ∷ more) t u is d e =
    let same = said_once s words d.0 e.0 is d.1 e.1 in
    all_said_once (after d.0 s) more t u (AreNamed-after s words d.0 is d.1) d.3 (subst (λ f. SayAll (after f s) more u) (sym same) e.3)

pub spelled_once : (bytes : List ℕ) (p q : Program) → Spells bytes p → Spells bytes q → p ≡ q
spelled_once bytes p q d e =
    sym d.program ∙ ap program_so_far (all_said_once start (with_words (lines_of bytes)) d.last e.last AreNamed-start d.said e.said)
    ∙ e.program
