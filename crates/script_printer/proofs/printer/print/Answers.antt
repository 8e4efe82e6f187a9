use Rattle.std.proofs.Common.{◌≡◌, ◌++◌, append_assoc, [], ap, ap₂, sym, ◌∙◌, List, ℕ, map, length, ◌≤◌, subst, true, rules}
use Rattle.script_grammar.specs.Programs.{Declared, Block, channel_names, block_names, name_of}
use Rattle.script_grammar.specs.Lines.{channel_words, spawn_words}
use Rattle.script_grammar.specs.Canonical.{version_lines, flat, deep_blocks}
use Rattle.script_grammar.specs.Texts.{reading_of}
use Rattle.script_grammar.proofs.SpelledIsProgram.{read-canonical_text}
use Rattle.script_reader.specs.Scripts.{program_of}
use Rattle.script_printer.specs.Printing.{text_of}
use Rattle.script_printer.proofs.Spacing.{text_of-append}
use Rattle.script_printer.proofs.printer.print.Goals as goal

pub push_blocks-requires : goal.push_blocks-requires
push_blocks-requires c = c.blocks-2.ensures.short

abbrev version_text : ℕ → List ℕ
version_text v = text_of (flat (version_lines v))

abbrev channels_text : List Declared → List ℕ
channels_text cs = text_of (flat (map (λ c. channel_words c true true) cs))

abbrev blocks_text : List Declared → List Block → List ℕ
blocks_text cs bs = text_of (deep_blocks (channel_names cs) (block_names bs) bs)

abbrev spawns_text : List Block → List (ℕ × ℕ) → List ℕ
spawns_text bs ss = text_of (flat (map (λ s. spawn_words (name_of (block_names bs) s.0) s.1 true) ss))

pub returns-clause-canonical : goal.returns-clause-canonical
returns-clause-canonical c =
    let p = program_of c.args.script.now in
    let none : c.new-out.result.items ≡ [] = search rules in
    let zero : c.push_version.new.out.items ≡ version_text p.version =
    c.in_ok-push_version.ensures ∙ ap₂ (λ (l m : List ℕ). l ++ m) none (ap version_text c.version.ensures) in
    let one : c.push_channels.new.out.items ≡ version_text p.version ++ channels_text p.channels =
    c.in_ok-push_channels.ensures ∙ ap₂ (λ (l m : List ℕ). l ++ m) zero (ap channels_text c.channels.ensures) in
    let two : c.push_blocks.new.out.items ≡ (version_text p.version ++ channels_text p.channels) ++ blocks_text p.channels p.blocks =
    c.in_ok-push_blocks.ensures ∙ ap₂ (λ (l m : List ℕ). l ++ m) one (ap₂ blocks_text c.channels-2.ensures c.blocks-2.ensures.blocks) in
    let three : c.push_spawns.new.out.items ≡ ((version_text p.version ++ channels_text p.channels) ++ blocks_text p.channels p.blocks)
    ++ spawns_text p.blocks p.spawns =
    c.in_ok-push_spawns.ensures ∙ ap₂ (λ (l m : List ℕ). l ++ m) two (ap₂ spawns_text c.blocks-3.ensures.blocks c.spawns.ensures) in
    let vs = flat (version_lines p.version) in
    let xs = flat (map (λ d. channel_words d true true) p.channels) in
    let ys = deep_blocks (channel_names p.channels) (block_names p.blocks) p.blocks in
    let zs = flat (map (λ s. spawn_words (name_of (block_names p.blocks) s.0) s.1 true) p.spawns) in
    three
    ∙ append_assoc (text_of vs ++ text_of xs) (text_of ys) (text_of zs)
    ∙ append_assoc (text_of vs) (text_of xs) (text_of ys ++ text_of zs)
    ∙ ap (λ l. text_of vs ++ (text_of xs ++ l)) (sym (text_of-append ys zs))
    ∙ ap (λ l. text_of vs ++ l) (sym (text_of-append xs (ys ++ zs)))
    ∙ sym (text_of-append vs (xs ++ (ys ++ zs)))

pub returns-clause-read_again : goal.returns-clause-read_again
returns-clause-read_again c = λ short.
    let script = c.args.script.now in
    let is = returns-clause-canonical c in
    ap reading_of is ∙ read-canonical_text (program_of script) script.well_formed (subst (λ l. length l ≤ 1048576) is short)
