-- What is read is spelled so, and what is spelled is read.
use Rattle.std.proofs.Common.{◌≡◌, ℕ, ◌≤◌, List, [], ◌∷◌, ◌++◌, refl, ap, sym, ◌∙◌, Result, Ok, Bool, true, false, Option, Some, None, length, if◌then◌else◌, ◌&&◌, arith, nat_lt, nat_le, subst}
use Rattle.std.specs.Prelude.{◌==◌, not, is_some}
use Rattle.std.specs.Str.{bytes_eq}
use Rattle.std.proofs.lemmas.Slice.Eq.{bytes_eq-Decides}
use Rattle.std.specs.Fmt.{decimal}
use Rattle.std.proofs.lemmas.Fmt.{decimal_digit}
use lib.Chars.{codes}
use Rattle.script_grammar.specs.declared.fault.FaultKind.{FaultKind}
use Rattle.channel_model.specs.declared.acts.Kind.{Kind}
use Rattle.channel_model.specs.declared.acts.Kind.TheVariants.{Rendezvous, Buffered, Unlimited, Conflated, DropOldest, DropLatest}
use Rattle.script_grammar.specs.Verbs.{verb_of}
use Rattle.script_grammar.specs.Words.{has_items}
use Rattle.script_grammar.specs.Faults.{◌>>=◌}
use Rattle.script_grammar.specs.Programs.{channel_names, block_names, name_of}
use Rattle.script_grammar.specs.Lines.{kind_words}
use Rattle.script_grammar.specs.Blocks.{Open}
use Rattle.script_grammar.specs.Reads.{Read, Form, version_is, channel_is, coroutine_is, spawn_is, start}
use Rattle.script_grammar.specs.Grammar.{is_kind, is_places, has_capacity, Says, is_capacity}
use Rattle.script_grammar.specs.Places.{end_at, number_at, places_at, count_at, kind_at, buffered_at, made, new_at, known_at, other_than_main}
use Rattle.script_grammar.specs.Forms.{version_line, channel_line, coroutine_line, spawn_line, is_start, outside, form_at}
use Rattle.script_grammar.proofs.Truths.{both, both_true, le-true, lt-true, same-from_true}
use Rattle.script_grammar.proofs.PlacesSpelled.{bind_ok, ok_is, ok_pair, end_found, number_found, new_found, known_found, count_found, places_found, made_found, other_than_main_found}
use Rattle.script_grammar.proofs.LinesSpelled.{verb_line_found}

by_test : {A : Type 0} (b : Bool) (x y : Result A FaultKind) (f : A) (P : Type 0) → (b ≡ true → x ≡ Ok f → P) → (y ≡ Ok f → P)
    → (if b then x else y) ≡ Ok f → P
by_test true x y f P one two e = one refl e
by_test false x y f P one two e = two e

-- ---- kinds

in_range : (k : ℕ) → 1 ≤ k → k ≤ 65535 → is_capacity k ≡ true
in_range k low high = both (nat_le 1 k) (nat_le k 65535) (le-true 1 k low) (le-true k 65535 high)

-- the words of a kind of this version stand before the rest
abbrev pub IsKindAt : ℕ → List (List ℕ) → Kind → List (List ℕ) → Type 0
IsKindAt version ws kind rest = (full : Bool) × (ws ≡ kind_words kind full ++ rest) × (is_kind version kind ≡ true)
    × (has_capacity kind full ≡ true)

is_word : (w : List ℕ) (e : List ℕ) (ws : List (List ℕ)) → bytes_eq w e ≡ true → (w ∷ ws) ≡ e ∷ ws
is_word w e ws t = ap (λ v. v ∷ ws) ((bytes_eq-Decides w e).0 t)

abbrev pub read_kind : Kind → List (List ℕ) → Result (Kind × List (List ℕ)) FaultKind
read_kind k ws = Ok (k, ws)

plain_kind : (version : ℕ) (w e : List ℕ) (ws rest : List (List ℕ)) (k kind : Kind) → bytes_eq w e ≡ true → kind_words k true ≡ e ∷ []
    → is_kind version k ≡ true → has_capacity k true ≡ true → read_kind k ws ≡ Ok (kind, rest) → IsKindAt version (w ∷ ws) kind rest
plain_kind version w e ws rest k kind t words is has ok =
    let p = ok_pair k kind ws rest (Ok (k, ws)) refl ok in
    subst (λ x. IsKindAt version (w ∷ ws) x rest) p.0 (
      true,
      is_word w e ws t ∙ ap (λ l. e ∷ l) p.1
          ∙ ap (λ l. l ++ rest) (sym words),
      is,
      has,
    )

sized_kind : (version : ℕ) (w e : List ℕ) (ws rest : List (List ℕ)) (make : ℕ → Kind) (kind : Kind) → bytes_eq w e ≡ true
    → ((k : ℕ) → kind_words (make k) true ≡ e ∷ decimal k ∷ []) → ((k : ℕ) → is_capacity k ≡ true → is_kind version (make k) ≡ true)
    → ((k : ℕ) → has_capacity (make k) true ≡ true) → made make (number_at 1 65535 ws) ≡ Ok (kind, rest)
    → IsKindAt version (w ∷ ws) kind rest
sized_kind version w e ws rest make kind t words is has ok =
    let r = made_found make 1 65535 ws rest kind ok in
    subst (λ x. IsKindAt version (w ∷ ws) x rest) r.4 (
      true,
      is_word w e ws t ∙ ap (λ l. e ∷ l) r.1
          ∙ ap (λ l. l ++ rest) (sym (words r.0)),
      is r.0 (in_range r.0 r.2 r.3),
      has r.0,
    )

buffered_found : (version : ℕ) (w : List ℕ) (ws rest : List (List ℕ)) (kind : Kind) → bytes_eq w (codes "buffered") ≡ true
    → buffered_at ws ≡ Ok (kind, rest) → IsKindAt version (w ∷ ws) kind rest
buffered_found version w [] rest kind t ok =
    let p = ok_pair (Buffered 64) kind [] rest (Ok (Buffered 64, [])) refl ok in
    subst (λ x. IsKindAt version (w ∷ []) x rest) p.0 (
      false,
      is_word w (codes "buffered") [] t
          ∙ ap (λ l. codes "buffered" ∷ l) p.1,
      refl,
      refl,
    )
buffered_found version w (v ∷ ws) rest kind t ok =
    by_test (bytes_eq v (codes "places")) (Ok (Buffered 64, v ∷ ws)) (made {X = Kind} (λ k. Buffered k) (number_at 1 65535 (v ∷ ws)))
    (kind, rest) (IsKindAt version (w ∷ v ∷ ws) kind rest)
    (λ u e. let p = ok_pair (Buffered 64) kind (v ∷ ws) rest (Ok (Buffered 64, v ∷ ws)) refl e in
    subst (λ x. IsKindAt version (w ∷ v ∷ ws) x rest) p.0 (
      false,
      is_word w (codes "buffered") (v ∷ ws) t
          ∙ ap (λ l. codes "buffered" ∷ l) p.1,
      refl,
      refl,
    ))
    (λ e. sized_kind version w (codes "buffered") (v ∷ ws) rest (λ k. Buffered k) kind t (λ k. refl) (λ k c. c) (λ k. refl) e)
    ok

pub kind_found : (version : ℕ) (ws rest : List (List ℕ)) (kind : Kind) → kind_at version ws ≡ Ok (kind, rest)
    → IsKindAt version ws kind rest
unfolding kind_at
kind_found version [] rest kind ok = cc
kind_found version (w ∷ ws) rest kind ok =
    let P = IsKindAt version (w ∷ ws) kind rest in
    by_test (bytes_eq w (codes "rendezvous")) _ _ (kind, rest) P
    (λ t e. plain_kind version w (codes "rendezvous") ws rest Rendezvous kind t refl refl refl e)
    (λ a. by_test (bytes_eq w (codes "buffered")) _ _ (kind, rest) P (λ t e. buffered_found version w ws rest kind t e)
    (λ b. by_test (bytes_eq w (codes "unlimited")) _ _ (kind, rest) P
    (λ t e. plain_kind version w (codes "unlimited") ws rest Unlimited kind t refl refl refl e)
    (λ c. by_test (bytes_eq w (codes "conflated")) _ _ (kind, rest) P
    (λ t e. plain_kind version w (codes "conflated") ws rest Conflated kind t refl refl refl e)
    (λ d. by_test (bytes_eq w (codes "dropoldest")) _ _ (kind, rest) P
    (λ t e. sized_kind version w (codes "dropoldest") ws rest (λ k. DropOldest k) kind t (λ k. refl) (λ k h. h) (λ k. refl) e)
    (λ g. by_test (bytes_eq w (codes "droplatest") && version == 2) _ _ (kind, rest) P (λ t e. let two = both_true _ _ t
    in sized_kind version w (codes "droplatest") ws rest (λ k. DropLatest k) kind two.0 (λ k. refl)
    (λ k h. both (version == 2) (is_capacity k) two.1 h) (λ k. refl) e)
    (λ l. cc) g) d) c) b) a) ok

-- ---- lines outside blocks

channel_line_found : (s : Read) (w : List ℕ) (ws : List (List ℕ)) (f : Form) → s.current ≡ None → bytes_eq w (codes "channel") ≡ true
    → channel_line s ws ≡ Ok f → Says s (w ∷ ws) f
channel_line_found s w ws f out t ok =
    let x = bind_ok (new_at (channel_names s.channels) ws)
    (λ n. kind_at s.version n.1 >>= λ k. places_at k.1 >>= λ p. end_at p.1 >>=
    λ u. Ok (channel_is (record { name = n.0; kind = k.0; places = p.0 }))) f ok in
    let y = bind_ok (kind_at s.version x.0.1) (λ k. places_at k.1 >>= λ p. end_at p.1 >>=
    λ u. Ok (channel_is (record { name = x.0.0; kind = k.0; places = p.0 }))) f x.2 in
    let z = bind_ok (places_at y.0.1) (λ p. end_at p.1 >>= λ u. Ok (channel_is (record { name = x.0.0; kind = y.0.0; places = p.0 }))) f y.2
    in
    let v = bind_ok (end_at z.0.1) (λ u. Ok (channel_is (record { name = x.0.0; kind = y.0.0; places = z.0.0 }))) f z.2 in
    let name = new_found (channel_names s.channels) ws x.0.0 x.0.1 x.1 in
    let kind = kind_found s.version x.0.1 y.0.1 y.0.0 y.1 in
    let places = places_found y.0.1 z.0.1 z.0.0 z.1 (end_found z.0.1 v.0 v.1) in
    let c = channel_is (record { name = x.0.0; kind = y.0.0; places = z.0.0 }) in
    subst (Says s (w ∷ ws)) (ok_is c f (Ok c) refl v.2) (
      kind.0,
      places.0,
      out,
      is_word w (codes "channel") ws t
          ∙ ap (λ l. codes "channel" ∷ l) (name.0 ∙ ap (λ l. x.0.0 ∷ l) (kind.1 ∙ ap (λ l. kind_words y.0.0 kind.0 ++ l) places.1)),
      name.1,
      both (is_kind s.version y.0.0) (is_places z.0.0) kind.2 places.2,
      kind.3,
      places.3,
    )

coroutine_line_found : (s : Read) (w : List ℕ) (ws : List (List ℕ)) (f : Form) → s.current ≡ None → bytes_eq w (codes "coroutine") ≡ true
    → coroutine_line s ws ≡ Ok f → Says s (w ∷ ws) f
coroutine_line_found s w ws f out t ok =
    let x = bind_ok (new_at (block_names s.blocks) ws) (λ n. end_at n.1 >>= λ u. Ok (coroutine_is n.0)) f ok in
    let v = bind_ok (end_at x.0.1) (λ u. Ok (coroutine_is x.0.0)) f x.2 in
    let name = new_found (block_names s.blocks) ws x.0.0 x.0.1 x.1 in
    subst (Says s (w ∷ ws)) (ok_is (coroutine_is x.0.0) f (Ok (coroutine_is x.0.0)) refl v.2) (
      out,
      is_word w (codes "coroutine") ws t ∙ ap (λ l. codes "coroutine" ∷ l) (name.0 ∙ ap (λ l. x.0.0 ∷ l) (end_found x.0.1 v.0 v.1)),
      name.1,
    )

spawn_line_found : (s : Read) (w : List ℕ) (ws : List (List ℕ)) (f : Form) → s.current ≡ None → bytes_eq w (codes "spawn") ≡ true
    → spawn_line s ws ≡ Ok f → Says s (w ∷ ws) f
spawn_line_found s w ws f out t ok =
    let names = block_names s.blocks in
    let x = bind_ok (known_at names ws) (λ b. other_than_main ws >>= λ o. count_at b.1 >>= λ k. end_at k.1 >>= λ u. Ok (spawn_is b.0 k.0)) f
    ok in
    let y = bind_ok (other_than_main ws) (λ o. count_at x.0.1 >>= λ k. end_at k.1 >>= λ u. Ok (spawn_is x.0.0 k.0)) f x.2 in
    let z = bind_ok (count_at x.0.1) (λ k. end_at k.1 >>= λ u. Ok (spawn_is x.0.0 k.0)) f y.2 in
    let v = bind_ok (end_at z.0.1) (λ u. Ok (spawn_is x.0.0 z.0.0)) f z.2 in
    let name = known_found names ws x.0.0 x.0.1 x.1 in
    let other = other_than_main_found ws (name_of names x.0.0) x.0.1 y.0 name.0 y.1 in
    let count = count_found x.0.1 z.0.1 z.0.0 z.1 (end_found z.0.1 v.0 v.1) in
    subst (Says s (w ∷ ws)) (ok_is (spawn_is x.0.0 z.0.0) f (Ok (spawn_is x.0.0 z.0.0)) refl v.2) (
      count.0,
      out,
      is_word w (codes "spawn") ws t ∙ ap (λ l. codes "spawn" ∷ l) (name.0 ∙ ap (λ l. name_of names x.0.0 ∷ l) count.1),
      both _ _ (both (nat_lt x.0.0 (length names)) _ (lt-true x.0.0 (length names) name.1) (ap not other)) count.2,
      count.3,
    )

none_left : {X : Type 0} (xs : List X) → not (has_items xs) ≡ true → xs ≡ []
none_left [] e = refl
none_left (x ∷ xs) e = cc

none_open : (o : Option Open) → not (is_some o) ≡ true → o ≡ None
none_open None e = refl
none_open (Some b) e = cc

at_start : (s : Read) → is_start s ≡ true → s ≡ start
at_start s e =
    let a = both_true _ _ e in
    let b = both_true _ _ a.1 in
    let c = both_true _ _ b.1 in
    let d = both_true _ _ c.1 in
    let f = both_true _ _ d.1 in
    let version = same-from_true s.version 1 a.0 in
    let channels = none_left s.channels b.0 in
    let blocks = none_left s.blocks c.0 in
    let spawns = none_left s.spawns d.0 in
    let weights = none_left s.weights f.0 in
    let current = none_open s.current f.1 in
    ap (λ v. record { version = v; channels = s.channels; blocks = s.blocks; spawns = s.spawns; weights = s.weights; current = s.current })
    version
    ∙ ap (λ v. record { version = 1; channels = v; blocks = s.blocks; spawns = s.spawns; weights = s.weights; current = s.current })
    channels
    ∙ ap (λ v. record { version = 1; channels = []; blocks = v; spawns = s.spawns; weights = s.weights; current = s.current }) blocks
    ∙ ap (λ v. record { version = 1; channels = []; blocks = []; spawns = v; weights = s.weights; current = s.current }) spawns
    ∙ ap (λ v. record { version = 1; channels = []; blocks = []; spawns = []; weights = v; current = s.current }) weights
    ∙ ap (λ v. record { version = 1; channels = []; blocks = []; spawns = []; weights = []; current = v }) current

version_line_found : (s : Read) (w : List ℕ) (ws : List (List ℕ)) (f : Form) → (bytes_eq w (codes "script") && is_start s) ≡ true
    → version_line ws ≡ Ok f → Says s (w ∷ ws) f
version_line_found s w ws f t ok =
    let two = both_true _ _ t in
    let x = bind_ok (number_at 2 2 ws) (λ n. end_at n.1 >>= λ u. Ok version_is) f ok in
    let v = bind_ok (end_at x.0.1) (λ u. Ok version_is) f x.2 in
    let n = number_found 2 2 x.0.0 ws x.0.1 x.1 in
    let is : x.0.0 ≡ 2 = omega (arith, n.1, n.2) in
    subst (Says s (w ∷ ws)) (ok_is version_is f (Ok version_is) refl v.2) (
      at_start s two.1,
      is_word w (codes "script") ws two.0
          ∙ ap (λ l. codes "script" ∷ l) (n.0 ∙ ap (λ l. decimal x.0.0 ∷ l) (end_found x.0.1 v.0 v.1) ∙ ap (λ k. decimal k ∷ []) is
          ∙ ap (λ d. d ∷ []) (decimal_digit 2 (omega arith))),
    )

outside_found : (s : Read) (w : List ℕ) (ws : List (List ℕ)) (f : Form) → s.current ≡ None → outside s w ws ≡ Ok f → Says s (w ∷ ws) f
unfolding outside
outside_found s w ws f out ok =
    let P = Says s (w ∷ ws) f in
    by_test (bytes_eq w (codes "script") && is_start s) _ _ f P (λ t e. version_line_found s w ws f t e)
    (λ a. by_test (bytes_eq w (codes "channel")) _ _ f P (λ t e. channel_line_found s w ws f out t e)
    (λ b. by_test (bytes_eq w (codes "coroutine")) _ _ f P (λ t e. coroutine_line_found s w ws f out t e)
    (λ c. by_test (bytes_eq w (codes "spawn")) _ _ f P (λ t e. spawn_line_found s w ws f out t e)
    (λ d. cc) c) b) a) ok

-- what words are read as is what they say
pub form_found : (s : Read) (o : Option Open) (w : List ℕ) (ws : List (List ℕ)) (f : Form) → s.current ≡ o → form_at s o w ws ≡ Ok f
    → Says s (w ∷ ws) f
form_found s None w ws f e ok = outside_found s w ws f e ok
form_found s (Some b) w ws f e ok = verb_line_found s b b.clauses (verb_of w) w ws f e refl refl ok
