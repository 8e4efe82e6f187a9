-- The words that a history of entries gives.
use Rattle.std.specs.Prelude.{◌≡◌, ◌≢◌, ◌↔◌, ◌⊎◌, ℕ, ◌+◌, ◌*◌, ◌<◌, List, Option, Some, None}
use Rattle.job_model.specs.declared.acts.JobEntry.{JobEntry}
use Rattle.job_model.specs.Trees.{Job}
use Rattle.job_model.specs.Families.{older_sibling}
use Rattle.job_model.specs.Histories.{replay}
use Rattle.word_rules.specs.Rows.{job_code, link_code, word_of, link_word_of}

-- a row that is not attached has the Job word 0 exactly if nobody claimed it; one that is has that of its Job
abbrev pub IsJobWord : Option ℕ → Option Job → ℕ → Type 0
IsJobWord claimer None n = (n ≡ 0) ↔ (claimer ≡ None)
IsJobWord claimer (Some j) n = n ≡ job_code (word_of j)

-- the link word of an attached row says where it stands, with the hint in bit 47 or without it; that of another row has no hint
abbrev pub IsLinkWord : Option ℕ → Option Job → ℕ → Type 0
IsLinkWord older None n = n < 140737488355328
IsLinkWord older (Some j) n =
    (n ≡ link_code (link_word_of older j)) ⊎ (n ≡ link_code (link_word_of older j) + 140737488355328)

-- the word i is n where these are the entries, and those the claims
pub record AreJobWordsOf (entries : List JobEntry) (claims : ℕ → Option ℕ) (i n : ℕ) : Type 0 where
  pub job : (r : ℕ) → i ≡ 2 * r → IsJobWord (claims r) (replay entries r) n
  pub link : (r : ℕ) → r ≢ 0 → i ≡ 2 * r + 1 → IsLinkWord (older_sibling (replay entries) r) (replay entries r) n
