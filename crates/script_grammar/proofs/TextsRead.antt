-- What is read of a text is what it spells, or its first fault.
use Rattle.std.proofs.Common.{◌≡◌, ℕ, ◌+◌, ◌≤◌, List, [], ◌∷◌, ◌++◌, refl, ap, sym, ◌∙◌, arith, Result, Ok, Err, Bool, true, false, Option, Some, None, length, if◌then◌else◌, nat_lt, subst}
use Rattle.std.specs.List.{list_all}
use Rattle.script_grammar.specs.declared.fault.FaultKind.{FaultKind}
use Rattle.script_grammar.specs.declared.fault.FaultKind.TheVariants as kinds
use Rattle.script_grammar.specs.declared.fault.ScriptFault.{ScriptFault}
use Rattle.script_grammar.specs.Words.{lines_of, with_words, words_of, all_plain, has_items}
use Rattle.script_grammar.specs.Faults.{◌>>=◌, ◌>>>◌, in_line}
use Rattle.script_grammar.specs.Programs.{Program, places_in}
use Rattle.script_grammar.specs.Blocks.{Open}
use Rattle.script_grammar.specs.Reads.{Read, Form, start, after, load, program_so_far}
use Rattle.script_grammar.specs.Grammar.{Says, SayAll, Spells, has_main, IsWithin, FewClauses, Within}
use Rattle.script_grammar.specs.Places.{at_most}
use Rattle.script_grammar.specs.Forms.{form_at, clause_count, deep, light, limited, step}
use Rattle.script_grammar.specs.Texts.{line_at, lines_from, when_closed, finish, reading_of}
use Rattle.script_grammar.specs.declared.fault.FaultKind.TheVariants.{TooMany, TooDeep}
use Rattle.script_grammar.specs.Texts.{line_at, lines_from, when_closed, finish, reading_of}
use Rattle.script_grammar.specs.Faulty.{Leads, FirstFault}
use Rattle.script_grammar.specs.Faulty as faulty
use Rattle.script_grammar.proofs.Truths.{both, both_true, lt-true, lt-from_true, lt-false, le-from_lt_false}
use Rattle.script_grammar.proofs.PlacesSpelled.{bind_ok, ok_is, at_most_found}
use Rattle.script_grammar.proofs.PlacesRead.{at_most_again}
use Rattle.script_grammar.proofs.FormsSpelled.{form_found}
use Rattle.script_grammar.proofs.SpelledOnce.{AreNamed, AreNamed-start, AreNamed-after, form_again}

-- ---- limits

current_found : (o : Option Open) (u v : Unit {0}) → deep o ≡ Ok u → light o ≡ Ok v → IsWithin o
current_found None u v d l = tt
current_found (Some b) u v d l =
    let x = bind_ok (at_most TooMany 7 (clause_count b.clauses)) (λ w. at_most TooMany 16000 b.weight) v l in (
      at_most_found TooDeep 8 (length b.nest) u d,
      few b.clauses (at_most_found TooMany 7 (clause_count b.clauses) x.0 x.1),
      at_most_found TooMany 16000 b.weight v x.2,
    )
  where
    few : (o : Option (List ℕ)) → clause_count o ≤ 7 → FewClauses o
    few None h = tt
    few (Some cs) h = h

pub limited_found : (s t : Read) → limited s ≡ Ok t → Within s × (s ≡ t)
limited_found s t ok =
    let a = bind_ok (deep s.current) (λ u. light s.current >>= λ u. at_most TooMany 256 (length s.channels) >>=
    λ u. at_most TooMany 4194304 (places_in s.channels) >>= λ u. at_most TooMany 16000 (load s) >>= λ u. Ok s) t ok in
    let b = bind_ok (light s.current) (λ u. at_most TooMany 256 (length s.channels) >>=
    λ u. at_most TooMany 4194304 (places_in s.channels) >>= λ u. at_most TooMany 16000 (load s) >>= λ u. Ok s) t a.2 in
    let c = bind_ok (at_most TooMany 256 (length s.channels))
    (λ u. at_most TooMany 4194304 (places_in s.channels) >>= λ u. at_most TooMany 16000 (load s) >>= λ u. Ok s) t b.2 in
    let d = bind_ok (at_most TooMany 4194304 (places_in s.channels)) (λ u. at_most TooMany 16000 (load s) >>= λ u. Ok s) t c.2 in
    let e = bind_ok (at_most TooMany 16000 (load s)) (λ u. Ok s) t d.2 in (
      record {
        channels = at_most_found TooMany 256 (length s.channels) c.0 c.1;
        places = at_most_found TooMany 4194304 (places_in s.channels) d.0 d.1;
        current = current_found s.current a.0 b.0 a.1 b.1;
        load = at_most_found TooMany 16000 (load s) e.0 e.1;
      },
      ok_is s t (Ok s) refl e.2,
    )

pub deep_again : (o : Option Open) → IsWithin o → deep o ≡ Ok tt
deep_again None h = refl
deep_again (Some b) h = at_most_again TooDeep 8 (length b.nest) h.0

pub light_again : (o : Option Open) → IsWithin o → light o ≡ Ok tt
light_again None h = refl
light_again (Some b) h =
    ap (λ (r : Result (Unit {0}) FaultKind). r >>= λ u. at_most TooMany 16000 b.weight)
    (at_most_again TooMany 7 (clause_count b.clauses) (few b.clauses h.1))
    ∙ at_most_again TooMany 16000 b.weight h.2
  where
    few : (o : Option (List ℕ)) → FewClauses o → clause_count o ≤ 7
    few None h = omega arith
    few (Some cs) h = h

pub limited_again : (s : Read) → Within s → limited s ≡ Ok s
limited_again s h =
    ap (λ (r : Result (Unit {0}) FaultKind). r >>= λ u. light s.current >>= λ u. at_most TooMany 256 (length s.channels) >>=
    λ u. at_most TooMany 4194304 (places_in s.channels) >>= λ u. at_most TooMany 16000 (load s) >>= λ u. Ok s)
    (deep_again s.current h.current)
    ∙ ap (λ (r : Result (Unit {0}) FaultKind). r >>= λ u. at_most TooMany 256 (length s.channels) >>=
    λ u. at_most TooMany 4194304 (places_in s.channels) >>= λ u. at_most TooMany 16000 (load s) >>= λ u. Ok s)
    (light_again s.current h.current)
    ∙ ap (λ (r : Result (Unit {0}) FaultKind). r >>= λ u. at_most TooMany 4194304 (places_in s.channels) >>=
    λ u. at_most TooMany 16000 (load s) >>= λ u. Ok s) (at_most_again TooMany 256 (length s.channels) h.channels)
    ∙ ap (λ (r : Result (Unit {0}) FaultKind). r >>= λ u. at_most TooMany 16000 (load s) >>= λ u. Ok s)
    (at_most_again TooMany 4194304 (places_in s.channels) h.places)
    ∙ ap (λ (r : Result (Unit {0}) FaultKind). r >>= λ u. Ok s) (at_most_again TooMany 16000 (load s) h.load)

-- ---- lines

pub step_found : (s t : Read) (w : List ℕ) (ws : List (List ℕ)) → step s (w ∷ ws) ≡ Ok t → (f : Form) × Says s (w ∷ ws) f
    × Within (after f s) × (after f s ≡ t)
unfolding step
step_found s t w ws ok =
    let x = bind_ok (form_at s s.current w ws) (λ f. limited (after f s)) t ok in
    let l = limited_found (after x.0 s) t x.2 in
    (x.0, form_found s s.current w ws x.0 refl x.1, l.0, l.1)

step_again : (s : Read) (w : List ℕ) (ws : List (List ℕ)) (f : Form) → AreNamed s → Says s (w ∷ ws) f → Within (after f s)
    → step s (w ∷ ws) ≡ Ok (after f s)
unfolding step
step_again s w ws f is says within =
    ap (λ (r : Result Form FaultKind). r >>= λ f. limited (after f s)) (form_again s (w ∷ ws) f is says) ∙ limited_again (after f s) within

-- the words of one line, and those of the lines after it
unfoldable pub spoken : List (List ℕ) → List (List (List ℕ)) → List (List (List ℕ))
spoken words more = if has_items words then words ∷ more else more

pub words_found : (s t u : Read) (words : List (List ℕ)) (more : List (List (List ℕ))) → step s words ≡ Ok t → SayAll t more u
    → SayAll s (spoken words more) u
unfolding step spoken
words_found s t u [] more ok all = subst (λ r. SayAll r more u) (sym (ok_is s t (Ok s) refl ok)) all
words_found s t u (w ∷ ws) more ok all =
    let f = step_found s t w ws ok in
    (f.0, f.1, f.2, subst (λ r. SayAll r more u) (sym f.3) all)

pub line_found : (s t : Read) (line : List ℕ) → line_at s line ≡ Ok t → (all_plain line ≡ true) × (step s (words_of line) ≡ Ok t)
unfolding line_at
line_found s t line ok = by_test (all_plain line) ok
  where
    by_test : (b : Bool) → (if b then step s (words_of line) else Err kinds.NotAscii) ≡ Ok t → (b ≡ true) × (step s (words_of line) ≡ Ok t)
    by_test true e = (refl, e)
    by_test false e = cc

next_found : {A B : Type 0} (n : ℕ) (r : Result A FaultKind) (f : A → Result B ScriptFault) (y : B) → (in_line n r >>> f) ≡ Ok y → (x : A)
    × (r ≡ Ok x) × (f x ≡ Ok y)
next_found n (Ok x) f y e = (x, refl, e)
next_found n (Err k) f y e = cc

read_is : {A E : Type 0} (s t : A) (r : Result A E) → r ≡ Ok s → r ≡ Ok t → s ≡ t
read_is s t r e f = cc

pub lines_found : (n : ℕ) (s t : Read) (lines : List (List ℕ)) → lines_from n s lines ≡ Ok t → (list_all all_plain lines ≡ true)
    × SayAll s (with_words lines) t
unfolding lines_from spoken
lines_found n s t [] ok = (refl, read_is {A = Read} {E = ScriptFault} s t (Ok s) refl ok)
lines_found n s t (line ∷ more) ok =
    let x = next_found n (line_at s line) (λ u. lines_from (n + 1) u more) t ok in
    let l = line_found s x.0 line x.1 in
    let rest = lines_found (n + 1) x.0 t more x.2 in
    (both (all_plain line) (list_all all_plain more) l.0 rest.0, words_found s x.0 t (words_of line) (with_words more) l.1 rest.1)

words_again : (s u : Read) (words : List (List ℕ)) (more : List (List (List ℕ))) → AreNamed s → SayAll s (spoken words more) u → (t : Read)
    × (step s words ≡ Ok t) × AreNamed t × SayAll t more u
unfolding step spoken
words_again s u [] more is all = (s, refl, is, all)
words_again s u (w ∷ ws) more is all = (
  after all.0 s,
  step_again s w ws all.0 is all.1 all.2,
  AreNamed-after s (w ∷ ws) all.0 is all.1,
  all.3,
)

line_again : (s t : Read) (line : List ℕ) → all_plain line ≡ true → step s (words_of line) ≡ Ok t → line_at s line ≡ Ok t
unfolding line_at
line_again s t line plain ok = ap (λ b. if b then step s (words_of line) else Err kinds.NotAscii) plain ∙ ok

lines_again : (n : ℕ) (s t : Read) (lines : List (List ℕ)) → AreNamed s → list_all all_plain lines ≡ true → SayAll s (with_words lines) t
    → lines_from n s lines ≡ Ok t
unfolding lines_from spoken
lines_again n s t [] is plain all = ap (λ r. Ok r) all
lines_again n s t (line ∷ more) is plain all =
    let x = words_again s t (words_of line) (with_words more) is all in
    let two = both_true (all_plain line) (list_all all_plain more) plain in
    ap (λ (r : Result Read FaultKind). in_line n r >>> λ u. lines_from (n + 1) u more) (line_again s x.0 line two.0 x.1)
    ∙ lines_again (n + 1) x.0 t more x.2 two.1 x.3

-- ---- the end of the text

pub closed_found : (s : Read) (p : Program) (o : Option Open) → when_closed s o ≡ Ok p → (o ≡ None) × (has_main s.blocks ≡ true)
    × (program_so_far s ≡ p)
closed_found s p None e = let r = by_test (has_main s.blocks) refl e in (refl, r.0, r.1)
  where
    by_test : (b : Bool) → has_main s.blocks ≡ b → (if b then Ok (program_so_far s) else Err kinds.NoMain) ≡ Ok p
        → (has_main s.blocks ≡ true) × (program_so_far s ≡ p)
    by_test true t f = (t, ok_is (program_so_far s) p (Ok (program_so_far s)) refl f)
    by_test false t f = cc
closed_found s p (Some b) e = cc

pub finish_again : (s : Read) → s.current ≡ None → has_main s.blocks ≡ true → finish s ≡ Ok (program_so_far s)
finish_again s out main = ap (when_closed s) out
    ∙ ap (λ b. if◌then◌else◌ {A = Result Program FaultKind} b (Ok (program_so_far s)) (Err kinds.NoMain)) main

pub text_found : (r : Result Read ScriptFault) (n : ℕ) (p : Program) → (r >>> λ s. in_line n (finish s)) ≡ Ok p → (s : Read) × (r ≡ Ok s)
    × (finish s ≡ Ok p)
text_found (Ok s) n p e = (s, refl, ended (finish s) e)
  where
    ended : (f : Result Program FaultKind) → in_line n f ≡ Ok p → f ≡ Ok p
    ended (Ok q) g = cc
    ended (Err k) g = cc
text_found (Err f) n p e = cc

pub short_found : {A : Type 0} (b : Bool) (r : Result A ScriptFault) (f : ScriptFault) (p : A) → (if b then Err f else r) ≡ Ok p
    → (b ≡ false) × (r ≡ Ok p)
short_found true r f p e = cc
short_found false r f p e = (refl, e)

pub Spells-from_read : (bytes : List ℕ) (p : Program) → reading_of bytes ≡ Ok p → Spells bytes p
unfolding reading_of
Spells-from_read bytes p ok =
    let short = short_found {A = Program} (nat_lt 1048576 (length bytes)) _ _ p ok in
    let text = text_found (lines_from 1 start (lines_of bytes)) (length (lines_of bytes)) p short.1 in
    let lines = lines_found 1 start text.0 (lines_of bytes) text.1 in
    let end = closed_found text.0 p text.0.current text.2 in
    record {
      short = le-from_lt_false 1048576 (length bytes) short.0;
      plain = lines.0;
      last = text.0;
      said = lines.1;
      closed = end.0;
      main =
          end.1;
      program = end.2;
    }

pub read-from_Spells : (bytes : List ℕ) (p : Program) → Spells bytes p → reading_of bytes ≡ Ok p
unfolding reading_of
read-from_Spells bytes p is =
    ap (λ b. if b then Err (record { line = 1; kind = kinds.TooMany }) else
    (lines_from 1 start (lines_of bytes) >>> λ s. in_line (length (lines_of bytes)) (finish s)))
    (lt-false 1048576 (length bytes) is.short)
    ∙ ap (λ (r : Result Read ScriptFault). r >>> λ s. in_line (length (lines_of bytes)) (finish s))
    (lines_again 1 start is.last (lines_of bytes) AreNamed-start is.plain is.said)
    ∙ ap (λ (r : Result Program FaultKind). in_line (length (lines_of bytes)) r) (finish_again is.last is.closed is.main)
    ∙ ap (λ (q : Program). Ok q) is.program

-- ---- the first fault

err_is : {A : Type 0} (f g : ScriptFault) (r : Result A ScriptFault) → r ≡ Err f → r ≡ Err g → f ≡ g
err_is f g r d e = cc

-- the lines before the first faulty one, and that line
pub record FaultAt (n : ℕ) (s : Read) (lines : List (List ℕ)) (fault : ScriptFault) : Type 0 where
  pub before : List (List ℕ)
  pub line : List ℕ
  pub rest : List (List ℕ)
  pub kind : FaultKind
  pub state : Read
  pub all : lines ≡ before ++ line ∷ rest
  pub plain : list_all all_plain before ≡ true
  pub said : SayAll s (with_words before) state
  pub bad : line_at state line ≡ Err kind
  pub is : fault ≡ record { line = n + length before; kind = kind }

fault_next : (n : ℕ) (s : Read) (line : List ℕ) (more : List (List ℕ)) (fault : ScriptFault) (r : Result Read FaultKind)
    → line_at s line ≡ r → ((t : Read) → lines_from (n + 1) t more ≡ Err fault → FaultAt (n + 1) t more fault)
    → (in_line n r >>> λ t. lines_from (n + 1) t more) ≡ Err fault → FaultAt n s (line ∷ more) fault
unfolding spoken
fault_next n s line more fault (Err k) e rest bad =
    record {
      before = [];
      line = line;
      rest = more;
      kind = k;
      state = s;
      all = refl;
      plain = refl;
      said = refl;
      bad = e;
      is =
          sym (err_is {A = Read} (record { line = n; kind = k }) fault (Err (record { line = n; kind = k })) refl bad)
          ∙ ap (λ m. record { line = m; kind = k }) (omega arith);
    }
fault_next n s line more fault (Ok t) e rest bad =
    let f = rest t bad in
    let l = line_found s t line e in
    record {
      before = line ∷ f.before;
      line = f.line;
      rest = f.rest;
      kind = f.kind;
      state = f.state;
      all = ap (λ ls. line ∷ ls) f.all;
      plain = both (all_plain line) _ l.0 f.plain;
      said = words_found s t f.state (words_of line) (with_words f.before) l.1 f.said;
      bad =
          f.bad;
      is = f.is ∙ ap (λ m. record { line = m; kind = f.kind }) (omega arith);
    }

fault_at : (n : ℕ) (s : Read) (lines : List (List ℕ)) (fault : ScriptFault) → lines_from n s lines ≡ Err fault → FaultAt n s lines fault
unfolding lines_from
fault_at n s [] fault bad = cc
fault_at n s (line ∷ more) fault bad = fault_next n s line more fault (line_at s line) refl (λ t b. fault_at (n + 1) t more fault b) bad

by_end : (bytes : List ℕ) (s : Read) (r : Result Program FaultKind) (fault : ScriptFault) → length bytes ≤ 1048576
    → Leads (lines_of bytes) s → finish s ≡ r → in_line (length (lines_of bytes)) r ≡ Err fault → FirstFault bytes fault
by_end bytes s (Ok p) fault short leads e bad = cc
by_end bytes s (Err k) fault short leads e bad = subst (FirstFault bytes)
    (err_is {A = Program} (record { line = length (lines_of bytes); kind = k }) fault
    (Err (record { line = length (lines_of bytes); kind = k })) refl bad) (faulty.at_end s k short leads e)

by_lines : (bytes : List ℕ) (r : Result Read ScriptFault) (fault : ScriptFault) → length bytes ≤ 1048576
    → lines_from 1 start (lines_of bytes) ≡ r → (r >>> λ s. in_line (length (lines_of bytes)) (finish s)) ≡ Err fault
    → FirstFault bytes fault
by_lines bytes (Ok s) fault short e bad =
    let l = lines_found 1 start s (lines_of bytes) e in
    by_end bytes s (finish s) fault short (record { plain = l.0; said = l.1 }) refl bad
by_lines bytes (Err f) fault short e bad =
    let g = fault_at 1 start (lines_of bytes) f e in
    subst (FirstFault bytes) (sym g.is ∙ err_is {A = Program} f fault (Err f) refl bad)
    (faulty.in_line g.before g.rest g.line g.state g.kind short g.all (record { plain = g.plain; said = g.said }) g.bad)

by_length : (bytes : List ℕ) (b : Bool) (fault : ScriptFault) → nat_lt 1048576 (length bytes) ≡ b
    → (if b then Err (record { line = 1; kind = kinds.TooMany }) else
    (lines_from 1 start (lines_of bytes) >>> λ s. in_line (length (lines_of bytes)) (finish s))) ≡ Err fault → FirstFault bytes fault
by_length bytes true fault long bad = subst (FirstFault bytes)
    (err_is {A = Program} (record { line = 1; kind = kinds.TooMany }) fault (Err (record { line = 1; kind = kinds.TooMany })) refl bad)
    (faulty.too_long (lt-from_true 1048576 (length bytes) long))
by_length bytes false fault long bad = by_lines bytes (lines_from 1 start (lines_of bytes)) fault
    (le-from_lt_false 1048576 (length bytes) long) refl bad

-- what is told is the first fault
pub first_fault : (bytes : List ℕ) (fault : ScriptFault) → reading_of bytes ≡ Err fault → FirstFault bytes fault
unfolding reading_of
first_fault bytes fault bad = by_length bytes (nat_lt 1048576 (length bytes)) fault refl bad

-- lines that are read, and those behind them
lines_joined : (n m : ℕ) (s t : Read) (before more : List (List ℕ)) → lines_from n s before ≡ Ok t → m ≡ n + length before
    → lines_from n s (before ++ more) ≡ lines_from m t more
unfolding lines_from
lines_joined n m s t [] more ok e =
    subst (λ u. lines_from n s more ≡ lines_from m u more) (read_is {A = Read} {E = ScriptFault} s t (Ok s) refl ok)
    (ap (λ k. lines_from k s more) (omega (arith, e)))
lines_joined n m s t (line ∷ before) more ok e =
    let x = next_found n (line_at s line) (λ u. lines_from (n + 1) u before) t ok in
    ap (λ (r : Result Read FaultKind). in_line n r >>> λ u. lines_from (n + 1) u (before ++ more)) x.1
    ∙ lines_joined (n + 1) m x.0 t before more x.2 (omega (arith, e))

-- a line that is faulty behind lines that are read
line_bad : (n : ℕ) (s : Read) (line : List ℕ) (rest : List (List ℕ)) (kind : FaultKind) → line_at s line ≡ Err kind
    → lines_from n s (line ∷ rest) ≡ Err (record { line = n; kind = kind })
unfolding lines_from
line_bad n s line rest kind bad = ap (λ (r : Result Read FaultKind). in_line n r >>> λ u. lines_from (n + 1) u rest) bad

-- a text is read as its first fault
pub fault_again : (bytes : List ℕ) (fault : ScriptFault) → FirstFault bytes fault → reading_of bytes ≡ Err fault
unfolding reading_of
fault_again bytes _ (faulty.too_long long) =
    ap (λ b. if b then Err (record { line = 1; kind = kinds.TooMany }) else
    (lines_from 1 start (lines_of bytes) >>> λ s. in_line (length (lines_of bytes)) (finish s))) (lt-true 1048576 (length bytes) long)
fault_again bytes _ (faulty.in_line before rest line s kind short all leads bad) =
    ap (λ b. if b then Err (record { line = 1; kind = kinds.TooMany }) else
    (lines_from 1 start (lines_of bytes) >>> λ s. in_line (length (lines_of bytes)) (finish s))) (lt-false 1048576 (length bytes) short)
    ∙ ap (λ (r : Result Read ScriptFault). r >>> λ s. in_line (length (lines_of bytes)) (finish s))
    (ap (λ ls. lines_from 1 start ls) all
    ∙ lines_joined 1 (1 + length before) start s before (line ∷ rest) (lines_again 1 start s before AreNamed-start leads.plain leads.said)
    refl
    ∙ line_bad (1 + length before) s line rest kind bad)
fault_again bytes _ (faulty.at_end s kind short leads bad) =
    ap (λ b. if b then Err (record { line = 1; kind = kinds.TooMany }) else
    (lines_from 1 start (lines_of bytes) >>> λ s. in_line (length (lines_of bytes)) (finish s))) (lt-false 1048576 (length bytes) short)
    ∙ ap (λ (r : Result Read ScriptFault). r >>> λ s. in_line (length (lines_of bytes)) (finish s))
    (lines_again 1 start s (lines_of bytes) AreNamed-start leads.plain leads.said)
    ∙ ap (λ (r : Result Program FaultKind). in_line (length (lines_of bytes)) r) bad

-- a text has at most one first fault
pub one_first_fault : (bytes : List ℕ) (f g : ScriptFault) → FirstFault bytes f → FirstFault bytes g → f ≡ g
one_first_fault bytes f g first second = err_is {A = Program} f g (reading_of bytes) (fault_again bytes f first)
    (fault_again bytes g second)
