-- The canonical text of a program spells it.
use Rattle.std.proofs.Common.{◌≡◌, ℕ, ◌<◌, ◌≤◌, ◌^◌, List, [], ◌∷◌, ◌++◌, refl, ap, sym, ◌∙◌, arith, Bool, true, false, Option, Some, None, length, if◌then◌else◌, ◌&&◌, nat_lt, nat_le, map, subst}
use Rattle.std.specs.Prelude.{not, ◌==◌}
use Rattle.std.proofs.lemmas.List.{length-map, map-append}
use Rattle.std.specs.Fmt.{decimal}
use Rattle.std.specs.Str.{all_ascii_digits}
use Rattle.std.specs.List.{list_all}
use Rattle.std.proofs.lemmas.Bool.Decides.{nat_tests}
use Rattle.std.proofs.lemmas.Fmt.{digits_decimal, decimal_nonempty}
use lib.Chars.{codes}
use Rattle.channel_model.specs.declared.acts.Kind.{Kind}
use Rattle.channel_model.specs.declared.acts.Kind.TheVariants.{Buffered, DropOldest, DropLatest, Signal}
use Rattle.script_grammar.specs.declared.instructions.Operand.{Operand}
use Rattle.script_grammar.specs.declared.instructions.Operand.TheVariants.{Number}
use Rattle.script_grammar.specs.declared.instructions.Launching.TheVariants.{Plain, Async, Lazy}
use Rattle.script_grammar.specs.declared.instructions.Instruction.{Instruction}
use Rattle.script_grammar.specs.declared.instructions.Instruction.TheVariants.{Send, TrySend, Receive, TryReceive, Close, CancelChannel, Launch, Start, Join, Await, Cancel, Fail, SetResult, Repeat, Each, Scope, OnSend, OnReceive}
use Rattle.script_grammar.specs.Words.{lines_of, with_words, all_plain, has_items, indented, unlines}
use Rattle.script_grammar.specs.Programs.{Declared, Block, Program, channel_names, block_names, name_of}
use Rattle.script_grammar.specs.Lines.{part, kind_words, channel_words, coroutine_words, spawn_words, line_words, operand_word, Names}
use Rattle.script_grammar.specs.Blocks.{Open, job_given, listed, is_operand, fits}
use Rattle.script_grammar.specs.Reads.{Read, Form, version_is, channel_is, coroutine_is, spawn_is, line_is, end_is, start, after, names_for}
use Rattle.script_grammar.specs.Grammar.{is_capacity, is_fresh, names_job, is_kind, Says, SayAll, Spells}
use Rattle.script_grammar.specs.Canonical.{version_lines, block_lines, blocks_lines, canonical, flat, code_lines, deep_block, deep_blocks, deep_lines, canonical_text}
use Rattle.script_grammar.specs.Nesting.{depth_after}
use Rattle.script_grammar.specs.WellFormed.{IsProgram}
use Rattle.script_grammar.proofs.Truths.{both, both_true, lt-from_true, le-from_true, same-from_true, le-true}
use Rattle.script_grammar.proofs.DistinctNames.{Distinct, name_of-front, name_of-last}
use Rattle.script_grammar.proofs.PlacesRead.{own}
use Rattle.script_grammar.proofs.LinesRead.{Named}
use Rattle.script_grammar.proofs.SpelledOnce.{AreNamed, AreNamed-start, AreNamed-after, of_current}
use Rattle.script_grammar.proofs.LinesWritten.{is_printed, is_written, words_of-indented, all_plain-indented, lines_of-unlines, name_written}
use Rattle.script_grammar.proofs.ProgramPrinted.{last_of, canonical_said}

digit_printed : (b : ℕ) → (nat_le 48 b && nat_le b 57) ≡ true → (is_printed b ≡ true) × (not (b == 35) ≡ true)
digit_printed b e =
    let two = both_true _ _ e in
    let low : 48 ≤ b = le-from_true 48 b two.0 in
    let high : b ≤ 57 = le-from_true b 57 two.1 in
    (both (nat_le 33 b) (nat_le b 126) (le-true 33 b (omega (arith, low))) (le-true b 126 (omega (arith, high))), ap not (other b low))
  where
    other : (b : ℕ) → 48 ≤ b → (b == 35) ≡ false
    other b h = grind (arith, nat_tests)

digits_printed : (w : List ℕ) → all_ascii_digits w ≡ true → list_all is_printed w ≡ true
digits_printed [] e = refl
digits_printed (b ∷ w) e = let two = both_true _ _ e in both (is_printed b) _ (digit_printed b two.0).0 (digits_printed w two.1)

digits_written : (w : List ℕ) → all_ascii_digits w ≡ true → 0 < length w → is_written w ≡ true
digits_written [] e some = absurd (omega (arith, some))
digits_written (b ∷ w) e some = let two = both_true _ _ e in both (not (b == 35)) _ (digit_printed b two.0).1 (digits_printed (b ∷ w) e)

decimal_written : (n : ℕ) → n < 2 ^ 32 → is_written (decimal n) ≡ true
decimal_written n h = digits_written (decimal n) (digits_decimal own n (omega (arith, h))) (decimal_nonempty n (omega (arith, h)))

operand_written : (v : Operand) → is_operand v ≡ true → is_written (operand_word v) ≡ true
operand_written (Number n) h = decimal_written n (lt-from_true n (2 ^ 32) h)
operand_written other h = refl

-- a line that has words, all of them written
abbrev pub Written : List (List ℕ) → Type 0
Written words = (has_items words ≡ true) × (list_all is_written words ≡ true)

one : (w : List ℕ) → is_written w ≡ true → (is_written w && true) ≡ true
one w h = both (is_written w) true h refl

pair_ : (v w : List ℕ) → is_written v ≡ true → is_written w ≡ true → (is_written v && (is_written w && true)) ≡ true
pair_ v w g h = both (is_written v) _ g (one w h)

channel_written : (s : Read) (c : ℕ) → AreNamed s → nat_lt c (length s.channels) ≡ true
    → is_written (name_of (channel_names s.channels) c) ≡ true
channel_written s c is h = let low = lt-from_true c (length s.channels) h
    in name_written (name_of (channel_names s.channels) c)
    (is.channels c (omega (arith, low, length-map s.channels (λ (c : Declared). c.name)))).0

block_written : (s : Read) (p : ℕ) → AreNamed s → p < length (block_names s.blocks) → is_written (name_of (block_names s.blocks) p) ≡ true
block_written s p is h = name_written (name_of (block_names s.blocks) p) (is.blocks p h).0

job_written : (b : Open) (job : Option (List ℕ)) (j : ℕ) → Distinct b.jobs → nat_lt j (length b.jobs) ≡ true
    → is_written (name_of (b.jobs ++ listed job) j) ≡ true
job_written b job j is h = let low = lt-from_true j (length b.jobs) h in ap is_written (name_of-front b.jobs (listed job) j low)
    ∙ name_written (name_of b.jobs j) (is j low).0

new_job_written : (b : Open) (job : Option (List ℕ)) (j : ℕ) → names_job b.jobs (Some j) job ≡ true
    → is_written (name_of (b.jobs ++ listed job) j) ≡ true
new_job_written b None j e = cc
new_job_written b (Some name) j e =
    let two = both_true _ _ e in
    ap is_written (ap (name_of (b.jobs ++ name ∷ [])) (same-from_true j (length b.jobs) two.0) ∙ name_of-last b.jobs name)
    ∙ name_written name (both_true _ _ two.1).0

line_written : (s : Read) (b : Open) (x : Instruction) (job : Option (List ℕ)) → AreNamed s → Named s b
    → fits (length s.channels) (block_names s.blocks) b x ≡ true → names_job b.jobs (job_given x) job ≡ true
    → Written (line_words (names_for s b job) x)
line_written s b (Send c v) job is named h gives = let two = both_true _ _ h
    in (refl, pair_ (name_of (channel_names s.channels) c) (operand_word v) (channel_written s c is two.0) (operand_written v two.1))
line_written s b (TrySend c v) job is named h gives = let two = both_true _ _ h
    in (refl, pair_ (name_of (channel_names s.channels) c) (operand_word v) (channel_written s c is two.0) (operand_written v two.1))
line_written s b (Receive c) job is named h gives = (refl, one (name_of (channel_names s.channels) c) (channel_written s c is h))
line_written s b (TryReceive c) job is named h gives = (refl, one (name_of (channel_names s.channels) c) (channel_written s c is h))
line_written s b (Close c) job is named h gives = (refl, one (name_of (channel_names s.channels) c) (channel_written s c is h))
line_written s b (CancelChannel c) job is named h gives = (refl, one (name_of (channel_names s.channels) c) (channel_written s c is h))
line_written s b (Launch p Plain None) job is named h gives = (
  refl,
  one (name_of (block_names s.blocks) p) (block_written s p is
      (lt-from_true p (length (block_names s.blocks)) (both_true _ _ h).0)),
)
line_written s b (Launch p Plain (Some j)) job is named h gives = (
  refl,
  both (is_written (name_of (block_names s.blocks) p)) _
      (block_written s p is (lt-from_true p (length (block_names s.blocks)) (both_true _ _ h).0))
      (one (name_of (b.jobs ++ listed job) j) (new_job_written b job j gives)),
)
line_written s b (Launch p Async None) job is named h gives = (
  refl,
  one (name_of (block_names s.blocks) p) (block_written s p is
      (lt-from_true p (length (block_names s.blocks)) (both_true _ _ h).0)),
)
line_written s b (Launch p Async (Some j)) job is named h gives = (
  refl,
  both (is_written (name_of (block_names s.blocks) p)) _
      (block_written s p is (lt-from_true p (length (block_names s.blocks)) (both_true _ _ h).0))
      (one (name_of (b.jobs ++ listed job) j) (new_job_written b job j gives)),
)
line_written s b (Launch p Lazy None) job is named h gives = (
  refl,
  one (name_of (block_names s.blocks) p) (block_written s p is
      (lt-from_true p (length (block_names s.blocks)) (both_true _ _ h).0)),
)
line_written s b (Launch p Lazy (Some j)) job is named h gives = (
  refl,
  both (is_written (name_of (block_names s.blocks) p)) _
      (block_written s p is (lt-from_true p (length (block_names s.blocks)) (both_true _ _ h).0))
      (one (name_of (b.jobs ++ listed job) j) (new_job_written b job j gives)),
)
line_written s b (Start j) job is named h gives = (refl, one (name_of (b.jobs ++ listed job) j) (job_written b job j named.jobs h))
line_written s b (Join j) job is named h gives = (refl, one (name_of (b.jobs ++ listed job) j) (job_written b job j named.jobs h))
line_written s b (Await j) job is named h gives = (
  refl,
  one (name_of (b.jobs ++ listed job) j) (job_written b job j named.jobs (both_true _ _ h).0),
)
line_written s b (Cancel j) job is named h gives = (refl, one (name_of (b.jobs ++ listed job) j) (job_written b job j named.jobs h))
line_written s b (Fail n) job is named h gives = (refl, one (decimal n) (decimal_written n (lt-from_true n (2 ^ 32) h)))
line_written s b (SetResult v) job is named h gives = (refl, one (operand_word v) (operand_written v h))
line_written s b (Repeat n) job is named h gives = let high : n ≤ 1000000 = le-from_true n 1000000 (both_true _ _ h).1
    in (refl, one (decimal n) (decimal_written n (omega (arith, high))))
line_written s b (Each c) job is named h gives = (refl, one (name_of (channel_names s.channels) c) (channel_written s c is h))
line_written s b (Scope false) job is named h gives = (refl, refl)
line_written s b (Scope true) job is named h gives = (refl, refl)
line_written s b (OnSend c v) job is named h gives = let two = both_true _ _ h in let more = both_true _ _ two.1
    in (refl, pair_ (name_of (channel_names s.channels) c) (operand_word v) (channel_written s c is two.0) (operand_written v more.1))
line_written s b (OnReceive c) job is named h gives = (
  refl,
  one (name_of (channel_names s.channels) c) (channel_written s c is (both_true _ _ h).0),
)
line_written s b other job is named h gives = (refl, refl)

fresh_written : (names : List (List ℕ)) (name : List ℕ) → is_fresh names name ≡ true → is_written name ≡ true
fresh_written names name e = name_written name (both_true _ _ e).0

part_written : (full : Bool) (n : ℕ) → n < 2 ^ 32 → list_all is_written (part full (decimal n ∷ [])) ≡ true
part_written false n h = refl
part_written true n h = one (decimal n) (decimal_written n h)

places_written : (full : Bool) (n : ℕ) → n < 2 ^ 32 → list_all is_written (part full (codes "places" ∷ decimal n ∷ [])) ≡ true
places_written false n h = refl
places_written true n h = one (decimal n) (decimal_written n h)

all_append : (xs ys : List (List ℕ)) → list_all is_written xs ≡ true → list_all is_written ys ≡ true → list_all is_written (xs ++ ys) ≡ true
all_append [] ys e f = f
all_append (x ∷ xs) ys e f = let two = both_true _ _ e in both (is_written x) _ two.0 (all_append xs ys two.1 f)

small_capacity : (k : ℕ) → is_capacity k ≡ true → k < 2 ^ 32
small_capacity k h = let high : k ≤ 65535 = le-from_true k 65535 (both_true _ _ h).1 in omega (arith, high)

kind_written : (version : ℕ) (kind : Kind) (full : Bool) → is_kind version kind ≡ true → list_all is_written (kind_words kind full) ≡ true
kind_written version (Buffered k) full h = part_written full k (small_capacity k h)
kind_written version (DropOldest k) full h = one (decimal k) (decimal_written k (small_capacity k h))
kind_written version (DropLatest k) full h = one (decimal k) (decimal_written k (small_capacity k (both_true _ _ h).1))
kind_written version Signal full h = cc
kind_written version other full h = refl

form_written : (s : Read) (words : List (List ℕ)) (f : Form) → AreNamed s → Says s words f → Written words
form_written s words version_is is says = subst Written (sym says.1) (refl, refl)
form_written s words (channel_is c) is says =
    let two = both_true _ _ says.5 in
    let high : c.places ≤ 1048576 = le-from_true c.places 1048576 (both_true _ _ two.1).1 in
    subst Written (sym says.3) (
      refl,
      both (is_written c.name) _ (fresh_written _ c.name says.4)
          (all_append (kind_words c.kind says.0) (part says.1 (codes "places" ∷ decimal c.places ∷ []))
          (kind_written s.version c.kind says.0 two.0) (places_written says.1 c.places (omega (arith, high)))),
    )
form_written s words (coroutine_is p) is says = subst Written (sym says.1) (refl, one p (fresh_written _ p says.2))
form_written s words (spawn_is i n) is says =
    let two = both_true _ _ says.3 in
    let high : n ≤ 16000 = le-from_true n 16000 (both_true _ _ two.1).1 in
    subst Written (sym says.2) (
      refl,
      both (is_written (name_of (block_names s.blocks) i)) _
          (block_written s i is (lt-from_true i (length (block_names s.blocks)) (both_true _ _ two.0).0))
          (part_written says.0 n (omega (arith, high))),
    )
form_written s words (line_is x job) is says = subst Written (sym says.2)
    (line_written s says.0 x job is (of_current s says.0 is says.1) says.4 says.5)
form_written s words end_is is says = subst Written (sym says.2) (refl, refl)

-- ---- the text

abbrev pub texts_of : List (ℕ × List (List ℕ)) → List (List ℕ)
texts_of lines = map (λ l. indented l.0 l.1) lines

abbrev pub words_in : List (ℕ × List (List ℕ)) → List (List (List ℕ))
words_in lines = map (λ l. l.1) lines

-- lines whose words say something are read as those words
lines_written : (s : Read) (lines : List (ℕ × List (List ℕ))) (t : Read) → AreNamed s → SayAll s (words_in lines) t
    → (list_all all_plain (texts_of lines) ≡ true) × (with_words (texts_of lines) ≡ words_in lines)
lines_written s [] t is said = (refl, refl)
lines_written s (l ∷ lines) t is said =
    let w = form_written s l.1 said.0 is said.1 in
    let rest = lines_written (after said.0 s) lines t (AreNamed-after s l.1 said.0 is said.1) said.3 in (
      both (all_plain (indented l.0 l.1)) _ (all_plain-indented l.0 l.1 w.1) rest.0,
      ap (λ ws. if has_items ws then ws ∷ with_words (texts_of lines) else with_words (texts_of lines)) (words_of-indented l.0 l.1 w.0 w.1)
          ∙ ap (λ b. if b then l.1 ∷ with_words (texts_of lines) else with_words (texts_of lines)) w.0
          ∙ ap (λ ls. l.1 ∷ ls) rest.1,
    )

text_lines : (ls : List (List ℕ)) → list_all all_plain ls ≡ true → (list_all all_plain (lines_of (unlines ls)) ≡ true)
    × (with_words (lines_of (unlines ls)) ≡ with_words ls)
text_lines [] h = (refl, refl)
text_lines (l ∷ ls) h = let same = lines_of-unlines l ls h in (ap (list_all all_plain) same ∙ h, ap with_words same)

-- ---- depths change no words

flat_words : (lines : List (List (List ℕ))) → words_in (flat lines) ≡ lines
flat_words [] = refl
flat_words (l ∷ lines) = ap (λ ls. l ∷ ls) (flat_words lines)

code_words : (names : Names) (depth : ℕ) (code : List Instruction) → words_in (code_lines names depth code) ≡ map (line_words names) code
code_words names depth [] = refl
code_words names depth (x ∷ code) = ap (λ ls. line_words names x ∷ ls) (code_words names (depth_after x depth) code)

words_in-append : (xs ys : List (ℕ × List (List ℕ))) → words_in (xs ++ ys) ≡ words_in xs ++ words_in ys
words_in-append xs ys = map-append (λ (l : ℕ × List (List ℕ)). l.1) xs ys

block_words : (channels blocks : List (List ℕ)) (b : Block) → words_in (deep_block channels blocks b) ≡ block_lines channels blocks b
block_words channels blocks b =
    let names : Names = record { channels = channels; blocks = blocks; jobs = b.jobs } in
    ap (λ ls. coroutine_words b.name ∷ ls) (words_in-append (code_lines names 1 b.code) ((0, codes "end" ∷ []) ∷ [])
    ∙ ap (λ ls. ls ++ (codes "end" ∷ []) ∷ []) (code_words names 1 b.code))

blocks_words : (channels blocks : List (List ℕ)) (bs : List Block)
    → words_in (deep_blocks channels blocks bs) ≡ blocks_lines channels blocks bs
blocks_words channels blocks [] = refl
blocks_words channels blocks (b ∷ bs) =
    words_in-append (deep_block channels blocks b) (deep_blocks channels blocks bs)
    ∙ ap (λ ls. ls ++ words_in (deep_blocks channels blocks bs)) (block_words channels blocks b)
    ∙ ap (λ ls. block_lines channels blocks b ++ ls) (blocks_words channels blocks bs)

deep_words : (p : Program) → words_in (deep_lines p) ≡ canonical p
deep_words p =
    let names = block_names p.blocks in
    let channels = map (λ c. channel_words c true true) p.channels in
    let blocks = deep_blocks (channel_names p.channels) names p.blocks in
    let spawns = map (λ s. spawn_words (name_of names s.0) s.1 true) p.spawns in
    let version = version_lines p.version in
    words_in-append (flat version) (flat channels ++ (blocks ++ flat spawns))
    ∙ ap (λ ls. ls ++ words_in (flat channels ++ (blocks ++ flat spawns))) (flat_words version)
    ∙ ap (λ ls. version ++ ls) (words_in-append (flat channels) (blocks ++ flat spawns)
    ∙ ap (λ ls. ls ++ words_in (blocks ++ flat spawns)) (flat_words channels)
    ∙ ap (λ ls. channels ++ ls) (words_in-append blocks (flat spawns)
    ∙ ap (λ ls. ls ++ words_in (flat spawns)) (blocks_words (channel_names p.channels) names p.blocks)
    ∙ ap (λ ls. blocks_lines (channel_names p.channels) names p.blocks ++ ls) (flat_words spawns)))

-- the law of print
pub Spells-canonical_text : (p : Program) → IsProgram p → length (canonical_text p) ≤ 1048576 → Spells (canonical_text p) p
Spells-canonical_text p is short =
    let said : SayAll start (words_in (deep_lines p)) (last_of p) =
    subst (λ ls. SayAll start ls (last_of p)) (sym (deep_words p)) (canonical_said p is) in
    let lines = lines_written start (deep_lines p) (last_of p) AreNamed-start said in
    let text = text_lines (texts_of (deep_lines p)) lines.0 in
    record {
      short = short;
      plain = text.0;
      last = last_of p;
      said = subst (λ ls. SayAll start ls (last_of p)) (sym (text.1 ∙ lines.1)) said;
      closed = refl;
      main = is.main;
      program = refl;
    }
