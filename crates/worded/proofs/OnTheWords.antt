-- Each step on a word keeps the rule.
use Rattle.std.proofs.Common.{◌≡◌, ◌≢◌, ℕ, ◌+◌, ◌%◌, ◌^◌, ◌<◌, arith, suc, max, eqb, Bool, true, false, List, [], ◌∷◌, ◌++◌, get_or, set, sym, refl, ap, ◌∙◌, subst, ⊎_elim, length-set, get_or-set_other, get_or-set_same, eq-eqb, ne_eqb, MatchBool}
use mathlib.Core.Logic.{dite}
use mathlib.Core.Option.{Option, some}
use native.Mathlib.Decide.{ℕ_discrete}
use lib.ListN.{get_elem?}
use lib.Seq.{set-get_or}
use prog.Atomic.{either}
use Rattle.atomic_table.specs.Table.{State, Me, Act, keeps, carried_after, Valid, stepped, Allows}
use Rattle.atomic_table.proofs.Lists.{at_set}
use Rattle.worded.specs.declared.view.View.{View}
use mathlib.Core.List.{IsPrefix}
use Rattle.worded.specs.Views.{has_tag, having_seen}
use Rattle.worded.specs.Histories.{entries_of, Knows, HasOneHistory}
use Rattle.worded.specs.Exchanges.{OthersAdded, Loaded, Entered, Exchanged, MayEnter, MayDraw, MayLift}
use Rattle.worded.proofs.TagsAndPrefixes.{zero_not, same_id, prefix_longer, prefix_self, no_tag, has_tag-append, entries_of_else, entries_of_rest}
use Rattle.worded.proofs.TagsHeld.{still_holds, held_set}

module _ {E : Type 0} (K : Type 0) (legal : List E → Type 0) (fits : List E → ℕ → ℕ → Type 0) (who : E → ℕ) (size : ℕ) where
  abbrev V : Type 0
  V = View E K

  abbrev Rule : State E V → Type 0
  Rule = HasOneHistory legal fits who size

  abbrev Known : List E → (ℕ → ℕ) → ℕ → V → Type 0
  Known = Knows legal fits who

  pub knows_set : (log : List E) (owner : ℕ → ℕ) (vs : List V) (id : ℕ) (w : V) → Known log owner id w
      → ((j : ℕ) (u : V) → j ≢ id → get_elem? vs j ≡ some u → Known log owner j u)
      → (j : ℕ) (u : V) → get_elem? (set vs id w) j ≡ some u → Known log owner j u
  knows_set log owner vs id w mine others j u e = ⊎_elim
      (λ (t : (j ≡ id) × (w ≡ u)). subst (λ (x : ℕ × V). Known log owner x.0 x.1) (λ i. (sym t.0 i, t.1 i)) mine)
      (λ (t : (j ≢ id) × (get_elem? vs j ≡ some u)). others j u t.0 t.1) (at_set vs id j w u e)

  -- what a seat that knows the history learns by a look
  pub others_added : (log : List E) (owner : ℕ → ℕ) (id : ℕ) (v : V) (k : Known log owner id v) → legal log
      → ((t : ℕ) → owner t ≡ 0 → entries_of who t log ≡ []) → OthersAdded legal fits who v k.begins.0
  others_added log owner id v k l none = record {
    is_legal = subst legal (sym k.begins.1) l;
    apart = λ t h. entries_of_rest who t v.seen k.begins.0 log (sym k.begins.1) (k.owned t h).1;
    told = subst (IsPrefix v.heard) (sym k.begins.1) k.told;
    given_to = λ t h. ap (entries_of who t) k.begins.1 ∙ (k.given_to t h).1;
    ungiven = λ c t h. ap (entries_of who t) k.begins.1 ∙ none t ((k.chief c).1 t h);
    given_out = λ c t h. own_given c t h (has_tag t v.given) refl;
  }
    where
      own_given : v.chief ≡ true → (t : ℕ) → has_tag t v.tags ≡ true → (b : Bool) → has_tag t v.given ≡ b → b ≡ true
      own_given c t h true e = refl
      own_given c t h false e = absurd (zero_not (sym ((k.chief c).1 t e) ∙ (k.owned t h).0))

  pub tags_of : (log : List E) (owner : ℕ → ℕ) (id : ℕ) (v : V) → Known log owner id v → (t : ℕ) → has_tag t (v.tags ++ v.heard_tags) ≡ true
      → owner t ≡ suc id
  tags_of log owner id v k t h = ⊎_elim (λ a. (k.owned t a).0) (λ b. (k.given_to t b).0) (has_tag-append t v.tags v.heard_tags h)

  pub looked_knows : (log : List E) (owner : ℕ → ℕ) (id : ℕ) (v : V) → Known log owner id v → Known log owner id (having_seen v log)
  looked_knows log owner id v k = record {
    begins = prefix_self log;
    told = (log, refl);
    owned = λ t h. (tags_of log owner id v k t h, refl);
    given_to = λ t h. absurd (no_tag t h);
    chief = k.chief;
  }

  -- the rule holds of these words and views, whatever the slots hold, and its history is `log`
  pub record Follows {S : Type 0} (log : List E) (s : State S V) : Type 0 where
    pub rule : HasOneHistory legal fits who size s
    pub log_is : rule.log ≡ log

  -- after a step that changes no word and adds no entry, the whole history was seen
  pub record Sights {S : Type 0} (homes : List (Option S)) (s : State S V) (r : HasOneHistory legal fits who size s) (id word : ℕ) (v : V) :
      Type 0 where
    pub view : V
    pub follows : Follows r.log (record { words = set s.words word (get_or s.words word 0); homes = homes; views = set s.views id view })
    pub loaded : Loaded legal fits who word (get_or s.words word 0) v view
    pub all : v.seen ++ loaded.others ≡ r.log

  pub sights : {S : Type 0} (homes : List (Option S)) (s : State S V) (r : HasOneHistory legal fits who size s) (id word : ℕ) (v : V)
      → get_elem? s.views id ≡ some v → word < size → Sights homes s r id word v
  sights homes s r id word v at lt = let k = r.views_fit id v at in let log = v.seen ++ k.begins.0 in let w : V = having_seen v log
      in record {
        view = w;
        follows = record {
          rule = record {
            log = r.log;
            owner = r.owner;
            is_legal = r.is_legal;
            unowned = r.unowned;
            held = λ t j o. held_set s.views id j t v w at (still_holds t v log) (r.held t j o);
            wide = length-set s.words word _ ∙ r.wide;
            words_fit = λ i h. subst (λ (ws : List ℕ). fits r.log i (get_or ws i 0)) (sym (set-get_or s.words word 0)) (r.words_fit i h);
            views_fit = knows_set r.log r.owner s.views id w (subst (λ l. Known r.log r.owner id (having_seen v l)) (sym k.begins.1)
                (looked_knows r.log r.owner id v k)) (λ j u _ e. r.views_fit j u e);
          };
          log_is = refl;
        };
        loaded = record {
          others = k.begins.0;
          added = others_added r.log r.owner id v k r.is_legal r.unowned;
          now = refl;
          found =
              subst (λ l. fits l word (get_or s.words word 0)) (sym k.begins.1) (r.words_fit word lt);
        };
        all = k.begins.1;
      }

  -- a step that changes no word and adds no entry, after which the whole history was seen
  pub looks : (slots id word : ℕ) (me : Me E V) → word < size
      → Allows Rule slots id me word (λ n. n) (λ n r. Loaded legal fits who word n me.0 r.0 × (r.1 ≡ me.1))
  looks slots id word me lt s r homes at small = let q = sights s.homes s r id word me.0 at lt
      in (q.view, keeps, tt, q.follows.rule, (q.loaded, refl))

  -- after the word was `old` and became `new`, the entry was added
  pub record Entries {S : Type 0} (homes : List (Option S)) (s : State S V) (r : HasOneHistory legal fits who size s) (id word old new : ℕ)
      (e : E) (v : V) : Type 0 where
    pub view : V
    pub follows : Follows (r.log ++ e ∷ []) (record { words = set s.words word new; homes = homes; views = set s.views id view })
    pub entered : Entered legal fits who word old e v view
    pub all : v.seen ++ entered.others ≡ r.log

  pub entries : {S : Type 0} (homes : List (Option S)) (s : State S V) (r : HasOneHistory legal fits who size s) (id word old new : ℕ)
      (e : E) (v : V) → get_elem? s.views id ≡ some v → word < size → get_or s.words word 0 ≡ old
      → MayEnter legal fits who v word old new e → Entries homes s r id word old new e v
  entries homes s r id word old new e v at lt is b = record {
    view = w;
    follows = record {
      rule = record {
        log = log';
        owner = r.owner;
        is_legal = q.0;
        unowned = λ t none. entries_of_else who t log e (λ same. absurd (zero_not (sym none ∙ ap r.owner (sym same) ∙ mine)))
            ∙ ap (entries_of who t) k.begins.1 ∙ r.unowned t none;
        held = λ t j o. held_set s.views id j t v w at (still_holds t v log') (r.held t j o);
        wide = length-set s.words word new ∙ r.wide;
        words_fit = λ i h. dite (ℕ_discrete i word)
            (λ here. subst (λ (j : ℕ). fits log' j (get_or (set s.words word new) j 0)) (sym here)
            (subst (λ x. fits log' word x) (sym (get_or-set_same s.words word new 0 (subst (λ x. word < x) (sym r.wide) lt))) q.1))
            (λ apart. subst (λ x. fits log' i x) (sym (get_or-set_other s.words word i new 0 apart))
            (q.2 i (get_or s.words i 0) apart (all i h)));
        views_fit = knows_set log' r.owner s.views id w
            (record {
              begins = prefix_self log';
              told = (log', refl);
              owned = λ t h. (tags_of r.log r.owner id v k t h, refl);
              given_to =
                  λ t h. absurd (no_tag t h);
              chief = k.chief;
            })
            (λ j u ne at'. let ku = r.views_fit j u at' in record {
              begins = prefix_longer u.seen log e (subst (IsPrefix u.seen) (sym k.begins.1) ku.begins);
              told = prefix_longer u.heard log e (subst (IsPrefix u.heard) (sym k.begins.1) ku.told);
              owned = λ t h. ((ku.owned t h).0, stays t j (ku.owned t h).0 ne ∙ ap (entries_of who t) k.begins.1 ∙ (ku.owned t h).1);
              given_to = λ t h. (
                (ku.given_to t h).0,
                stays t j (ku.given_to t h).0 ne ∙ ap (entries_of who t) k.begins.1
                    ∙ (ku.given_to t h).1,
              );
              chief = ku.chief;
            });
      };
      log_is = ap (λ l. l ++ e ∷ []) k.begins.1;
    };
    entered = record { others = k.begins.0; added = sc; now = refl; is_legal = q.0; found = found };
    all = k.begins.1;
  }
    where
      k : Known r.log r.owner id v
      k = r.views_fit id v at

      log : List E
      log = v.seen ++ k.begins.0

      log' : List E
      log' = log ++ e ∷ []

      w : V
      w = having_seen v log'

      all : (i : ℕ) → i < size → fits log i (get_or s.words i 0)
      all i h = subst (λ l. fits l i (get_or s.words i 0)) (sym k.begins.1) (r.words_fit i h)

      mine : r.owner (who e) ≡ suc id
      mine = (k.owned (who e) b.own).0

      -- an entry is none of another seat's
      stays : (t : ℕ) (j : ℕ) → r.owner t ≡ suc j → j ≢ id → entries_of who t log' ≡ entries_of who t log
      stays t j o ne = entries_of_else who t log e (λ same. ne (same_id j id (sym o ∙ ap r.owner (sym same) ∙ mine)))

      sc : OthersAdded legal fits who v k.begins.0
      sc = others_added r.log r.owner id v k r.is_legal r.unowned

      found : fits log word old
      found = subst (λ x. fits log word x) is (all word lt)

      q : legal log' × fits log' word new × ((j n : ℕ) → j ≢ word → fits log j n → fits log' j n)
      q = b.steps k.begins.0 sc found

  -- an exchange of the word `old` for `new`, which adds the entry, or only looks
  pub makes : (slots id word old new : ℕ) (e : E) (me : Me E V) → word < size → MayEnter legal fits who me.0 word old new e
      → Allows Rule slots id me word (λ n. either (eqb n old) new n) (λ n r. Exchanged legal fits who word old n (some e) me.0 r.0
      × (r.1 ≡ me.1))
  makes slots id word old new e me lt b s r homes at small =
      dite (ℕ_discrete n old) (λ is. subst Goal (sym (eq-eqb n old is)) (let q = entries s.homes s r id word old new e me.0 at lt is b
      in (q.view, keeps, tt, q.follows.rule, (q.entered, refl))))
      (λ ne. subst Goal (sym (ne_eqb n old ne)) (looks slots id word me lt s r homes at small))
    where
      n : ℕ
      n = get_or s.words word 0

      Goal : Bool → Type 0
      Goal t = (x : V) × (a : Act E) × Valid s.homes me.1 a × Rule (stepped s word (either t new n) id me.1 x a)
          × (MatchBool t (Entered legal fits who word old e me.0 x) (Loaded legal fits who word n me.0 x) × (carried_after me.1 a ≡ me.1))

  -- one is added to a word, whatever it is, which adds the entry that it gives
  pub draws : (slots id word : ℕ) (entry : ℕ → E) (me : Me E V) → word < size → MayDraw legal fits who me.0 word entry
      → Allows Rule slots id me word (λ n. (n + 1) % 2 ^ 64) (λ n r. Entered legal fits who word n (entry n) me.0 r.0 × (r.1 ≡ me.1))
  draws slots id word entry me lt b s r homes at small =
      subst Goal (sym whole) (let q = entries s.homes s r id word n (n + 1) (entry n) me.0 at lt refl (b.enters n)
      in (q.view, keeps, tt, q.follows.rule, (q.entered, refl)))
    where
      n : ℕ
      n = get_or s.words word 0

      k : Known r.log r.owner id me.0
      k = r.views_fit id me.0 at

      room : n + 1 < 2 ^ 64
      room = b.room k.begins.0 n (others_added r.log r.owner id me.0 k r.is_legal r.unowned)
          (subst (λ l. fits l word n) (sym k.begins.1) (r.words_fit word lt))

      whole : (n + 1) % 2 ^ 64 ≡ n + 1
      whole = omega (arith, room)

      Goal : ℕ → Type 0
      Goal m = (x : V) × (a : Act E) × Valid s.homes me.1 a × Rule (stepped s word m id me.1 x a)
          × (Entered legal fits who word n (entry n) me.0 x × (carried_after me.1 a ≡ me.1))

  -- a hint is raised, and nothing is seen
  pub lifts : (slots id word k : ℕ) (me : Me E V) → word < size → MayLift legal fits who me.0 word k
      → Allows Rule slots id me word (λ n. max n k) (λ n r. (r.0 ≡ me.0) × (r.1 ≡ me.1))
  lifts slots id word k me lt up s r homes at small = let v = me.0 in let kv = r.views_fit id v at in let n = get_or s.words word 0 in
      let sc : OthersAdded legal fits who v kv.begins.0 = others_added r.log r.owner id v kv r.is_legal r.unowned in
      let found : fits (v.seen ++ kv.begins.0) word n = subst (λ l. fits l word n) (sym kv.begins.1) (r.words_fit word lt) in
      let more : fits r.log word (max n k) = subst (λ l. fits l word (max n k)) kv.begins.1 (up kv.begins.0 n sc found) in (
        v,
        keeps,
        tt,
        record {
          log = r.log;
          owner = r.owner;
          is_legal = r.is_legal;
          unowned = r.unowned;
          held = λ t j o. held_set s.views id j t v v at (λ h. h) (r.held t j o);
          wide = length-set s.words word (max n k) ∙ r.wide;
          words_fit = λ i h. dite (ℕ_discrete i word)
              (λ here. subst (λ (j : ℕ). fits r.log j (get_or (set s.words word (max n k)) j 0)) (sym here)
              (subst (λ x. fits r.log word x) (sym (get_or-set_same s.words word (max n k) 0 (subst (λ x. word < x) (sym r.wide) lt)))
              more))
              (λ apart. subst (λ x. fits r.log i x) (sym (get_or-set_other s.words word i (max n k) 0 apart)) (r.words_fit i h));
          views_fit = knows_set r.log r.owner s.views id v kv (λ j u _ e. r.views_fit j u e);
        },
        (refl, refl),
      )

-- the same, where the play reads the key in the view
module _ {E K : Type 0} (legal : K → List E → Type 0) (fits : K → List E → ℕ → ℕ → Type 0) (who : E → ℕ) (size : K → ℕ) (key : K) where
  abbrev KeyRule : State E (View E K) → Type 0
  KeyRule = HasOneHistory (legal key) (fits key) who (size key)

  pub looks_at : (slots id word : ℕ) (me : Me E (View E K)) → me.0.key ≡ key → word < size key
      → Allows KeyRule slots id me word (λ n. n) (λ n r. Loaded (legal me.0.key) (fits me.0.key) who word n me.0 r.0 × (r.1 ≡ me.1))
  looks_at slots id word me is lt = subst (λ k. Allows KeyRule slots id me word (λ n. n)
      (λ n r. Loaded (legal k) (fits k) who word n me.0 r.0 × (r.1 ≡ me.1))) (sym is)
      (looks K (legal key) (fits key) who (size key) slots id word me lt)

  pub makes_at : (slots id word old new : ℕ) (e : E) (me : Me E (View E K)) → me.0.key ≡ key → word < size key
      → MayEnter (legal key) (fits key) who me.0 word old new e
      → Allows KeyRule slots id me word (λ n. either (eqb n old) new n)
      (λ n r. Exchanged (legal me.0.key) (fits me.0.key) who word old n (some e) me.0 r.0 × (r.1 ≡ me.1))
  makes_at slots id word old new e me is lt b = subst (λ k. Allows KeyRule slots id me word (λ n. either (eqb n old) new n)
      (λ n r. Exchanged (legal k) (fits k) who word old n (some e) me.0 r.0 × (r.1 ≡ me.1))) (sym is)
      (makes K (legal key) (fits key) who (size key) slots id word old new e me lt b)

  pub draws_at : (slots id word : ℕ) (entry : K → ℕ → E) (me : Me E (View E K)) → me.0.key ≡ key → word < size key
      → MayDraw (legal key) (fits key) who me.0 word (entry key)
      → Allows KeyRule slots id me word (λ n. (n + 1) % 2 ^ 64)
      (λ n r. Entered (legal me.0.key) (fits me.0.key) who word n (entry me.0.key n) me.0 r.0 × (r.1 ≡ me.1))
  draws_at slots id word entry me is lt b = subst (λ k. Allows KeyRule slots id me word (λ n. (n + 1) % 2 ^ 64)
      (λ n r. Entered (legal k) (fits k) who word n (entry k n) me.0 r.0 × (r.1 ≡ me.1))) (sym is)
      (draws K (legal key) (fits key) who (size key) slots id word (entry key) me lt b)
