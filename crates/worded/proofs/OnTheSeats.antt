-- Each step on the seats keeps the rule.
use Rattle.std.proofs.Common.{◌≡◌, ◌≢◌, ℕ, suc, ◌⊎◌, eqb, Bool, true, false, true≢false, if◌then◌else◌, List, [], ◌∷◌, ◌++◌, length, get_or, set, sym, refl, ap, ◌∙◌, subst, ⊎_elim, eq-eqb, ne_eqb, ◌||◌, append-nil}
use mathlib.Core.Logic.{dite}
use mathlib.Core.Option.{Option, some, some-injective}
use native.Mathlib.Decide.{ℕ_discrete}
use lib.ListN.{get_elem?}
use lib.Seq.{set-get_or}
use prog.Atomic.{either}
use Rattle.atomic_table.specs.Table.{State, Me, keeps, Allows, Splits, Joins}
use Rattle.atomic_table.proofs.Lists.{at_set, set_else, set_again, at_snoc, exchanged}
use Rattle.worded.specs.declared.view.View.{View}
use mathlib.Core.List.{IsPrefix}
use Rattle.worded.specs.Views.{has_tag, holds_tag, untagged, with_next, next_given, new_view, told_by}
use Rattle.worded.specs.Histories.{entries_of, Knows, HasTag, HasOneHistory}
use Rattle.worded.proofs.TagsAndPrefixes.{zero_not, same_id, at_more, no_tag, no_entries, not_first, only_one}
use Rattle.worded.proofs.TagsHeld.{has_tag-or, held_set, held_else, held_here, held_longer, held_last, or_true}
use Rattle.worded.proofs.OnTheWords.{knows_set, Follows}

module _ {E : Type 0} (K : Type 0) (legal : List E → Type 0) (fits : List E → ℕ → ℕ → Type 0) (who : E → ℕ) (size : ℕ) where
  abbrev V : Type 0
  V = View E K

  abbrev Rule : (S : Type 0) → State S V → Type 0
  Rule S = HasOneHistory legal fits who size

  abbrev Follow : (S : Type 0) → List E → State S V → Type 0
  Follow S = Follows K legal fits who size

  abbrev Known : List E → (ℕ → ℕ) → ℕ → V → Type 0
  Known = Knows legal fits who

  exchanged_same : (n t : ℕ) → either (eqb n t) t n ≡ n
  exchanged_same n t = exchanged n t t (λ x. x ≡ n) sym (λ _. refl)

  -- a step that changes no word, no history and no tag's owner
  rests : {S : Type 0} (homes : List (Option S)) (s : State S V) (r : Rule S s) (views : List V) (words : List ℕ) → words ≡ s.words
      → ((j : ℕ) (u : V) → get_elem? views j ≡ some u → Known r.log r.owner j u) → ((t j : ℕ) → r.owner t ≡ suc j → HasTag views j t)
      → Follow S r.log record { words = words; homes = homes; views = views }
  rests homes s r views words same f held = record {
    rule =
        record {
          log = r.log;
          owner = r.owner;
          is_legal = r.is_legal;
          unowned = r.unowned;
          held = held;
          wide = ap length same
              ∙ r.wide;
          words_fit = λ i h. subst (λ (ws : List ℕ). fits r.log i (get_or ws i 0)) (sym same) (r.words_fit i h);
          views_fit = f;
        };
    log_is = refl;
  }

  pub named_follows : {S : Type 0} (homes : List (Option S)) (s : State S V) (r : Rule S s) (id word t : ℕ) (v : V)
      → get_elem? s.views id ≡ some v
      → Follow S r.log record {
        words = set s.words word (either (eqb (get_or s.words word 0) t) t (get_or s.words word 0));
        homes = homes;
        views = set s.views id (with_next v t);
      }
  named_follows homes s r id word t v at = let k = r.views_fit id v at in
      rests homes s r (set s.views id (with_next v t)) _ (ap (λ x. set s.words word x) (exchanged_same (get_or s.words word 0) t)
      ∙ set-get_or s.words word 0)
      (knows_set K legal fits who size r.log r.owner s.views id (with_next v t)
      (record { begins = k.begins; told = k.told; owned = k.owned; given_to = k.given_to; chief = k.chief })
      (λ j u _ e. r.views_fit j u e))
      (λ u j o. held_set s.views id j u v (with_next v t) at (λ h. h) (r.held u j o))

  pub unmade : {S : Type 0} (s : State S V) (r : Rule S s) (id t : ℕ) (v : V) → get_elem? s.views id ≡ some v → v.chief ≡ true
      → has_tag t v.given ≡ false → entries_of who t v.seen ≡ []
  unmade s r id t v at c h = let k = r.views_fit id v at in no_entries who t v.seen r.log k.begins (r.unowned t ((k.chief c).1 t h))

  -- the tag is noted as the one to give out next
  pub names : (slots id word t : ℕ) (me : Me E V) → Allows (Rule E) slots id me word (λ n. either (eqb n t) t n)
      (λ n r. (r.0 ≡ with_next me.0 t) × (r.1 ≡ me.1) × (me.0.chief ≡ true → has_tag t me.0.given ≡ false
      → entries_of who t me.0.seen ≡ []))
  names slots id word t me s r homes at small = (
    with_next me.0 t,
    keeps,
    tt,
    (named_follows s.homes s r id word t me.0 at).rule,
    (refl, refl, λ c h. unmade s r id t me.0 at c h),
  )

  untagged_knows : (log : List E) (owner : ℕ → ℕ) (id : ℕ) (key : K) (seen : List E) → IsPrefix seen log
      → Known log owner id (untagged key seen)
  untagged_knows log owner id key seen b = record {
    begins = b;
    told = (log, refl);
    owned = λ t h. absurd (no_tag t h);
    given_to =
        λ t h. absurd (no_tag t h);
    chief = λ o. absurd (true≢false (sym o));
  }

  pub told_follows : {S : Type 0} (homes : List (Option S)) (s : State S V) (r : Rule S s) (id : ℕ) (v : V) → get_elem? s.views id ≡ some v
      → Follow S r.log record { words = s.words; homes = homes; views = set s.views id v ++ untagged v.key v.seen ∷ [] }
  told_follows homes s r id v at = let k = r.views_fit id v at
      in rests homes s r (set s.views id v ++ untagged v.key v.seen ∷ []) s.words refl
      (λ j u e. ⊎_elim (λ was. r.views_fit j u (subst (λ l. get_elem? l j ≡ some u) (set_again s.views id v at) was))
      (λ (is : untagged v.key v.seen ≡ u). subst (Known r.log r.owner j) is (untagged_knows r.log r.owner j v.key v.seen k.begins))
      (at_snoc (set s.views id v) (untagged v.key v.seen) u j e))
      (λ t j o. held_longer (set s.views id v) (untagged v.key v.seen) j t (held_set s.views id j t v v at (λ h. h) (r.held t j o)))

  -- a note of what was seen
  pub tells : (id : ℕ) (v : V) → Splits (Rule E) id v v (untagged v.key v.seen)
  tells id v s r at = (told_follows s.homes s r id v at).rule

  -- the owner of a tag after w's tags are given to the seat id
  abbrev given_over : List ℕ → ℕ → (ℕ → ℕ) → ℕ → ℕ
  given_over tags id owner t = if has_tag t tags then suc id else owner t

  over_free : (tags : List ℕ) (id : ℕ) (owner : ℕ → ℕ) (t : ℕ) → given_over tags id owner t ≡ 0 → owner t ≡ 0
  over_free tags id owner t z = go (has_tag t tags) z
    where
      go : (b : Bool) → (if b then suc id else owner t) ≡ 0 → owner t ≡ 0
      go true z = absurd (zero_not (sym z))
      go false z = z

  over_same : (tags : List ℕ) (id : ℕ) (owner : ℕ → ℕ) (t m : ℕ) → (has_tag t tags ≡ true → owner t ≡ m → m ≡ suc id) → owner t ≡ m
      → given_over tags id owner t ≡ m
  over_same tags id owner t m f o = go (has_tag t tags) refl
    where
      go : (b : Bool) → has_tag t tags ≡ b → (if b then suc id else owner t) ≡ m
      go true h = sym (f h o)
      go false h = o

  -- v is told what w has_tag seen, and is given w's tags
  pub heard_follows : (blank : K) {S : Type 0} (homes : List (Option S)) (s : State S V) (r : Rule S s) (id : ℕ) (v : V) (other : ℕ) (w : V)
      → v.heard_tags ≡ [] → w.heard_tags ≡ [] → get_elem? s.views id ≡ some v → ¬ (other ≡ id)
      → get_elem? (set s.views id (told_by v w)) other ≡ some w
      → Follow S r.log record { words = s.words; homes = homes; views = set (set s.views id (told_by v w)) other (untagged blank []) }
  heard_follows blank homes s r id v other w idle bare at apart at' = let both : V = told_by v w in
      let kw : Known r.log r.owner other w = ⊎_elim (λ t. absurd (apart t.0)) (λ t. r.views_fit other w t.1)
      (at_set s.views id other both w at') in
      let k : Known r.log r.owner id v = r.views_fit id v at in
      let owner' : ℕ → ℕ = given_over w.tags id r.owner in
      -- a tag of a seat that is not w keeps its owner
      let keeps_owner : (t m : ℕ) → r.owner t ≡ m → m ≢ suc other
      → owner' t ≡ m = λ t m o ne. over_same w.tags id r.owner t m (λ h o'. absurd (ne (sym o' ∙ (kw.owned t h).0))) o in record {
        log_is = refl;
        rule = record {
          log = r.log;
          owner = owner';
          is_legal = r.is_legal;
          unowned = λ t z. r.unowned t (over_free w.tags id r.owner t z);
          held = λ t j o. by_tag t j o (has_tag t w.tags) refl;
          wide = r.wide;
          words_fit = r.words_fit;
          views_fit = knows_set K legal fits who size r.log owner' (set s.views id both) other (untagged blank [])
              (untagged_knows r.log owner' other blank [] (r.log, refl))
              (λ j u ne e. knows_set_at j u ne (at_set s.views id j both u e) kw k keeps_owner);
        };
      }
    where
      vs : List V
      vs = set s.views id (told_by v w)

      was_w : (u : V) → get_elem? s.views other ≡ some u → u ≡ w
      was_w u e = some-injective u w (sym e ∙ sym (set_else s.views id other (told_by v w) apart) ∙ at')

      by_tag : (t j : ℕ) → given_over w.tags id r.owner t ≡ suc j → (b : Bool) → has_tag t w.tags ≡ b
          → HasTag (set vs other (untagged blank [])) j t
      by_tag t j o true e =
          let is : id ≡ j = same_id id j (sym (ap (λ (b : Bool). if b then suc id else r.owner t) e) ∙ o) in
          let told : holds_tag t (told_by v w) ≡ true = has_tag-or t v.tags w.tags ∙ ap (λ b. has_tag t v.tags || b) e
          ∙ or_true (has_tag t v.tags) in
          held_else vs other j t (untagged blank []) (λ x. apart (sym x ∙ sym is))
          (subst (λ i. HasTag vs i t) is (held_here s.views id t v (told_by v w) at told))
      by_tag t j o false e =
          let was : HasTag s.views j t = r.held t j (sym (ap (λ (b : Bool). if b then suc id else r.owner t) e) ∙ o) in
          held_else vs other j t (untagged blank [])
          (λ x. true≢false (sym was.2 ∙ ap (holds_tag t) (was_w was.0 (ap (get_elem? s.views) (sym x) ∙ was.1))
          ∙ ap (has_tag t) (ap (λ l. w.tags ++ l) bare ∙ append-nil w.tags) ∙ e))
          (held_set s.views id j t v (told_by v w) at (λ h. has_tag-or t v.tags w.tags
          ∙ ap (λ b. b || has_tag t w.tags) (sym (ap (has_tag t) (ap (λ l. v.tags ++ l) idle ∙ append-nil v.tags)) ∙ h)) was)

      knows_set_at : (j : ℕ) (u : V) → j ≢ other → ((j ≡ id) × (told_by v w ≡ u)) ⊎ ((j ≢ id) × (get_elem? s.views j ≡ some u))
          → Known r.log r.owner other w → Known r.log r.owner id v
          → ((t m : ℕ) → r.owner t ≡ m → m ≢ suc other → given_over w.tags id r.owner t ≡ m)
          → Known r.log (given_over w.tags id r.owner) j u
      knows_set_at j u ne e kw k keep = ⊎_elim
          (λ (q : (j ≡ id) × (told_by v w ≡ u)). subst (λ (x : ℕ × V). Known r.log (given_over w.tags id r.owner) x.0 x.1)
          (λ i. (sym q.0 i, q.1 i)) (record {
            begins = k.begins;
            told = kw.begins;
            owned = λ t h. (keep t (suc id) (k.owned t h).0 (λ x. apart (sym (same_id id other x))), (k.owned t h).1);
            given_to = λ t h. (ap (λ (b : Bool). if b then suc id else r.owner t) h, (kw.owned t h).1);
            chief = λ o. ((k.chief o).0, λ t h. keep t 0 ((k.chief o).1 t h) zero_not);
          }))
          (λ (q : (j ≢ id) × (get_elem? s.views j ≡ some u)). let ku = r.views_fit j u q.1 in record {
            begins = ku.begins;
            told = ku.told;
            owned = λ t h. (keep t (suc j) (ku.owned t h).0 (λ x. ne (same_id j other x)), (ku.owned t h).1);
            given_to = λ t h. (keep t (suc j) (ku.given_to t h).0 (λ x. ne (same_id j other x)), (ku.given_to t h).1);
            chief = λ o. ((ku.chief o).0, λ t h. keep t 0 ((ku.chief o).1 t h) zero_not);
          }) e

  pub hears : (blank : K) (id : ℕ) (v : V) (other : ℕ) (w : V) → v.heard_tags ≡ [] → w.heard_tags ≡ []
      → Joins (Rule E) id v other w (told_by v w) (untagged blank [])
  hears blank id v other w idle bare s r at apart at' = (heard_follows blank s.homes s r id v other w idle bare at apart at').rule

  abbrev put_tag : (ℕ → ℕ) → ℕ → ℕ → ℕ → ℕ
  put_tag f t x u = if eqb u t then x else f u

  put_here : (f : ℕ → ℕ) (t x : ℕ) → put_tag f t x t ≡ x
  put_here f t x = ap (λ (b : Bool). if b then x else f t) (eq-eqb t t refl)

  put_else : (f : ℕ → ℕ) (t x u : ℕ) → u ≢ t → put_tag f t x u ≡ f u
  put_else f t x u ne = ap (λ (b : Bool). if b then x else f u) (ne_eqb u t ne)

  pub given_follows : {S : Type 0} (homes : List (Option S)) (s : State S V) (r : Rule S s) (id : ℕ) (v : V) → v.chief ≡ true
      → has_tag v.next v.given ≡ false → get_elem? s.views id ≡ some v
      → Follow S r.log record { words = s.words; homes = homes; views = set s.views id (next_given v) ++ new_view v ∷ [] }
  given_follows homes s r id v boss new at = let k = r.views_fit id v at in let vs = set s.views id (next_given v) in
      let owner' : ℕ → ℕ = put_tag r.owner v.next (suc (length vs)) in
      let free : r.owner v.next ≡ 0 = (k.chief boss).1 v.next new in
      let stays : (t m : ℕ) → r.owner t ≡ suc m → owner' t ≡ suc m =
      λ t m h. put_else r.owner v.next (suc (length vs)) t (λ is. zero_not (sym free ∙ ap r.owner (sym is) ∙ h)) ∙ h in
      record {
        log_is = refl;
        rule = record {
          log = r.log;
          owner = owner';
          is_legal = r.is_legal;
          unowned = λ t z. r.unowned t (dite (ℕ_discrete t v.next) (λ is. ap r.owner is
              ∙ free) (λ ne. sym (put_else r.owner v.next (suc (length vs)) t ne) ∙ z));
          held = λ t j o. dite (ℕ_discrete t v.next)
              (λ is. subst (λ i. HasTag (vs ++ new_view v ∷ []) i t)
              (same_id (length vs) j (sym (put_here r.owner v.next (suc (length vs))) ∙ ap owner' (sym is) ∙ o))
              (held_last vs (new_view v) t (ap (λ u. has_tag u (v.next ∷ [])) is
              ∙ ap (λ (b : Bool). if b then true else false) (eq-eqb v.next v.next refl))))
              (λ ne. held_longer vs (new_view v) j t (held_set s.views id j t v (next_given v) at (λ h. h)
              (r.held t j (sym (put_else r.owner v.next (suc (length vs)) t ne) ∙ o))));
          wide = r.wide;
          words_fit = r.words_fit;
          views_fit = λ j u e. ⊎_elim
              (λ was. knows_set K legal fits who size r.log owner' s.views id (next_given v)
              (record {
                begins = k.begins;
                told = k.told;
                owned = λ t h. (stays t id (k.owned t h).0, (k.owned t h).1);
                given_to = λ t h. (stays t id (k.given_to t h).0, (k.given_to t h).1);
                chief = λ o. (
                  (k.chief o).0,
                  λ t h. let n = not_first t v.next v.given h in put_else r.owner v.next (suc (length vs)) t n.0
                      ∙ (k.chief o).1 t n.1,
                );
              })
              (λ i x ne e'. let kx = r.views_fit i x e' in record {
                begins = kx.begins;
                told = kx.told;
                owned = λ t h. (stays t i (kx.owned t h).0, (kx.owned t h).1);
                given_to = λ t h. (stays t i (kx.given_to t h).0, (kx.given_to t h).1);
                chief = λ o. absurd (ne ((kx.chief o).0 ∙ sym (k.chief boss).0));
              }) j u was)
              (λ (q : (j ≡ length vs) × (new_view v ≡ u)). subst (λ (x : ℕ × V). Known r.log owner' x.0 x.1) (λ i. (sym q.0 i, q.1 i))
              (record {
                begins = k.begins;
                told = (r.log, refl);
                owned = λ t h. let is = only_one t v.next h in (
                  ap owner' is ∙ put_here r.owner v.next (suc (length vs)),
                  ap (λ x. entries_of who x r.log) is ∙ r.unowned v.next free
                      ∙ sym (no_entries who v.next v.seen r.log k.begins (r.unowned v.next free))
                      ∙ ap (λ x. entries_of who x v.seen) (sym is),
                );
                given_to = λ t h. absurd (no_tag t h);
                chief = λ o. absurd (true≢false (sym o));
              }))
              (at_more vs (new_view v) u j e);
        };
      }

  -- the tag is given out
  pub gives_out : (id : ℕ) (v : V) → v.chief ≡ true → has_tag v.next v.given ≡ false → Splits (Rule E) id v (next_given v) (new_view v)
  gives_out id v boss new s r at = (given_follows s.homes s r id v boss new at).rule
